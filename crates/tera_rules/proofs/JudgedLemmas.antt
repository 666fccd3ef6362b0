-- What is found of calls, one by one.
use Rattle.std.proofs.Common.{◌≡◌, ◌∙◌, ℕ, List, [], ◌∷◌, ◌++◌, Bool, true, false, cond, Option, None, Some, String, string_bytes, Global, Bor, map, refl, sym, ap, append_assoc, nat_cmp}
use Rattle.std.specs.BTreeMap.{is_at}
use Rattle.std.specs.BTreeSet.{contains_text}
use Rattle.std.specs.Cmp.Lexicographic.{slice_cmp}
use Rattle.std.specs.Map.{lookup}
use Rattle.std.specs.Option.{option_map, option_copied}
use Rattle.std.specs.Ordering.{is_eq}
use Rattle.std.proofs.Common.{if◌then◌else◌}
use Rattle.std.proofs.lemmas.Map.Text.{is_eq-slice_cmp}
use Rattle.tera_base.specs.Contexts.{found}
use Rattle.tera_base.specs.Spanned.{node_of, span_of}
use Rattle.tera_base.specs.declared.utils.Span.{Span}
use Rattle.tera_base.specs.declared.utils.Spanned.{Spanned}
use Rattle.tera_ast.specs.View.{call_view, entries_view, nodes_view}
use Rattle.tera_ast.specs.declared.ast.ComponentCall.{ComponentCall, out-ComponentCall}
use Rattle.tera_ast.proofs.Views.{call_out}
use Rattle.tera_tree.specs.View.{argument_view}
use Rattle.tera_tree.specs.declared.ast.ComponentArgument.{ComponentArgument}
use Rattle.tera_findings.specs.Findings.{FindingVal, finding_view}
use Rattle.tera_rules.specs.Judged.{KnownVal, known_view, judged, call_findings, refused_one, refused_findings, is_again, missing_findings, missing_in, unused_bodies}
use Rattle.tera_rules.specs.Passed.{PassedVal, OneNamed, Whatever, passed_view, passed_by, is_under, is_whatever, has_whatever, is_in, AreNamesOf}
use Rattle.tera_rules.specs.Repeated.{repeated_findings}
use Rattle.tera_rules.specs.declared.known.Known.{Known}
use Rattle.tera_findings.specs.declared.finding.Finding.{Finding}
use Rattle.tera_rules.specs.declared.passed.Names.{Names}
use Rattle.tera_rules.specs.declared.passed.Passed.{Passed}
use Rattle.tera_rules.specs.declared.repeated.Holder.TheVariants as holders
use Rattle.tera_rules.proofs.PassedLemmas.{passed_more}

-- ---- what is under a name

abbrev pub Entry : Type 0
Entry = String Global × ComponentArgument

found_by : (b : Bool) (e : Entry) (o : Option ComponentArgument) → option_map argument_view (cond b (Some e.1) o) ≡ cond b (Some (argument_view e.1)) (option_map argument_view o)
found_by true e o = refl
found_by false e o = refl

pub found_argument : (n : List ℕ) (es : List Entry) → option_map argument_view (lookup (is_at (λ k. slice_cmp nat_cmp n (string_bytes k))) es) ≡ found n (map (λ a. (string_bytes a.0, argument_view a.1)) es)
found_argument n [] = refl
found_argument n (e ∷ es) = found_by (is_eq (slice_cmp nat_cmp n (string_bytes e.0))) e _ ∙ rw (is_eq-slice_cmp n (string_bytes e.0), found_argument n es)

pub argument_after : (o : Option (Bor ComponentArgument)) → option_map (λ a. argument_view a.now) o ≡ option_map argument_view (option_copied o)
argument_after None = refl
argument_after (Some a) = refl

pub known_after : (o : Option (Bor Known)) → option_map (λ k. known_view k.now) o ≡ option_map known_view (option_copied o)
known_after None = refl
known_after (Some k) = refl

-- ---- what is passed and refused, from the last to the first

in_names : (later : Names) (done : List PassedVal) (p : PassedVal) → AreNamesOf later done → is_in later p ≡ is_again p done
in_names later done (OneNamed p) h = h.under p.name
in_names later done Whatever h = refl

names_more : (later after : Names) (done : List PassedVal) (p : PassedVal) → AreNamesOf later done
    → ((n : List ℕ) → contains_text after.under n ≡ (if is_under n p then true else contains_text later.under n))
    → after.more ≡ (if is_whatever p then true else later.more) → AreNamesOf after (p ∷ done)
names_more later after done p h under more = record {
  under = λ n. under n ∙ ap (λ b. if is_under n p then true else b) (h.under n);
  more = more ∙ ap (λ b. if is_whatever p then true else b) h.more;
}

one_refused : (k : KnownVal) (later : Names) (done : List PassedVal) (p : PassedVal) → AreNamesOf later done
    → refused_one k (is_in later p) later.more p ≡ refused_one k (is_again p done) (has_whatever done) p
one_refused k later done p h = ap (λ b. refused_one k b later.more p) (in_names later done p h) ∙ ap (λ b. refused_one k (is_again p done) b p) h.more

pub refused_next : (k : KnownVal) (ps rest : List Passed) (p : Passed) (done all : List PassedVal) (later after : Names) (start before now : List FindingVal)
    → map passed_view ps ++ done ≡ all → ps ≡ rest ++ p ∷ []
    → before ≡ start ++ refused_findings k done → AreNamesOf later done
    → now ≡ before ++ refused_one k (is_in later (passed_view p)) later.more (passed_view p)
    → ((n : List ℕ) → contains_text after.under n ≡ (if is_under n (passed_view p) then true else contains_text later.under n))
    → after.more ≡ (if is_whatever (passed_view p) then true else later.more)
    → (map passed_view rest ++ (passed_view p ∷ done) ≡ all) × (now ≡ start ++ refused_findings k (passed_view p ∷ done)) × AreNamesOf after (passed_view p ∷ done)
refused_next k ps rest p done all later after start before now held split is names step under more =
    let v = passed_view p in
    let one = refused_one k (is_in later v) later.more v in (
      sym (append_assoc (map passed_view rest) (v ∷ []) done) ∙ ap (λ qs. qs ++ done) (sym (passed_more rest p)) ∙ ap (λ qs. map passed_view qs ++ done) (sym split) ∙ held,
      step ∙ ap (λ fs. fs ++ one) is ∙ append_assoc start (refused_findings k done) one ∙ ap (λ fs. start ++ (refused_findings k done ++ fs)) (one_refused k later done v names),
      names_more later after done v names under more,
    )

-- ---- a call

missing_same : (k : KnownVal) (names : Names) (ps : List PassedVal) (span : Span) → AreNamesOf names ps
    → (if names.more then [] else missing_findings k (contains_text names.under) span) ≡ missing_in k span ps
missing_same k names ps span h = λ i. if h.more i then [] else missing_findings k (λ n. h.under n i) span

pub judged_known : (k : KnownVal) (span : Span) (ps qs : List PassedVal) (names : Names) (old mid new : List FindingVal)
    → qs ≡ ps → mid ≡ old ++ refused_findings k qs → AreNamesOf names qs → new ≡ mid ++ (if names.more then [] else missing_findings k (contains_text names.under) span)
    → new ≡ old ++ (refused_findings k ps ++ missing_in k span ps)
judged_known k span ps qs names old mid new same refused are missing =
    let rest = missing_in k span qs in
    missing ∙ ap (λ fs. mid ++ fs) (missing_same k names qs span are) ∙ ap (λ fs. fs ++ rest) refused ∙ append_assoc old (refused_findings k qs) rest
    ∙ ap (λ rs. old ++ (refused_findings k rs ++ missing_in k span rs)) same

pub judged_call : (file : List ℕ) (known : List ℕ → Option KnownVal) (s : Spanned ComponentCall)
    → call_findings file known (call_view (node_of s) (span_of s))
    ≡ repeated_findings holders.Call file (entries_view (out-ComponentCall (node_of s)).kwargs.items)
    ++ (judged (known (string_bytes (out-ComponentCall (node_of s)).name)) (string_bytes (out-ComponentCall (node_of s)).name) (span_of s) (passed_by (entries_view (out-ComponentCall (node_of s)).kwargs.items))
    ++ unused_bodies (known (string_bytes (out-ComponentCall (node_of s)).name)) (span_of s) (nodes_view (out-ComponentCall (node_of s)).body.items))
judged_call file known s = rw (call_out (node_of s) (span_of s)) refl

-- ---- a template

in_turn : (start one two three four a b c d : List FindingVal) → start ≡ [] → one ≡ start ++ a → two ≡ one ++ b → three ≡ two ++ c → four ≡ three ++ d
    → four ≡ a ++ (b ++ (c ++ d))
in_turn start one two three four a b c d none first second third fourth =
    fourth ∙ ap (λ fs. fs ++ d) (third ∙ ap (λ fs. fs ++ c) (second ∙ ap (λ fs. fs ++ b) (first ∙ ap (λ fs. fs ++ a) none)))
    ∙ append_assoc (a ++ b) c d ∙ append_assoc a b (c ++ d)

pub all_found_in : (start mid more most end : List Finding) (before between calls parts : List FindingVal)
    → start ≡ [] → map finding_view mid ≡ map finding_view start ++ before → map finding_view more ≡ map finding_view mid ++ between
    → map finding_view most ≡ map finding_view more ++ calls → map finding_view end ≡ map finding_view most ++ parts
    → map finding_view end ≡ before ++ (between ++ (calls ++ parts))
all_found_in start mid more most end before between calls parts none =
    in_turn (map finding_view start) (map finding_view mid) (map finding_view more) (map finding_view most) (map finding_view end) before between calls parts (ap (map finding_view) none)
