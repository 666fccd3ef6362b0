-- Laws of what is due.
use Rattle.std.proofs.Common.{◌≡◌, ◌∙◌, ◌+◌, ◌-◌, ◌<◌, ◌≤◌, ℕ, zero, suc, Bool, true, false, cond, List, [], ◌∷◌, ◌++◌, Option, None, Some, Result, Ok, length, take, drop, get_or, string_bytes, refl, sym, subst, ap, arith, ⊎_elim}
use Rattle.std.specs.Prelude.{◌&&◌, ◌||◌, ◌⊎◌, if◌then◌else◌, is_some, not, map, nat_le}
use Rattle.std.specs.List.{Contains, filter, list_any}
use Rattle.std.specs.Option.{option_map_or}
use Rattle.std.specs.Str.{bytes_eq}
use Rattle.std.proofs.lemmas.Bool.Decides.{nat_tests}
use Rattle.std.proofs.lemmas.List.{length-drop, length-take-le, take-append-drop, take-append-le}
use Rattle.std.proofs.lemmas.List.Elements.{Contains-append_cases, filter_passes}
use Rattle.std.proofs.lemmas.Slice.Eq.{bytes_eq-Decides}
use Rattle.tera_base.specs.declared.utils.Span.{Span}
use Rattle.tera_grammar.specs.Limits.{usual}
use Rattle.tera_lexer.specs.declared.lexer.place.Place.{Place}
use Rattle.tera_lexer.specs.grammar.Marks.{default_marks}
use Rattle.tera_lexer.specs.grammar.Place.{joined, place_after}
use Rattle.tera_mend.specs.Mending.{EditVal, Edits, Ends}
use Rattle.tera_mend.specs.Places.{AreInPlace, Keeps}
use Rattle.tera_mend.specs.Spans.{HasPart}
use Rattle.tera_mend.specs.Views.{edit_view, step_of}
use Rattle.tera_mend.proofs.InPlace.{itself, joined as in_place_joined, same_length}
use Rattle.tera_mend.proofs.Kept.{edits_keep, mends_keep, then}
use Rattle.tera_mend.proofs.PlacesLemmas.{place_sound}
use Rattle.tera_tree.specs.Outputs.{output_view}
use Rattle.tera_tree.specs.declared.outputs.ParserOutput.{ParserOutput}
use Rattle.tera_templates.specs.Boundaries.{bytes_between, is_same_part}
use Rattle.tera_check.specs.Due.{due_among, due_findings, is_due, is_due_in, is_lost_in, is_undefined, is_written, mark_of, may_name, may_name_by, name_at}
use Rattle.tera_findings.specs.Findings.{FindingOf, FindingVal, NoteVal}
use Rattle.tera_templates.specs.Ignores.{IgnoreVal, ignores_view}
use Rattle.tera_rules.specs.Judged.{KnownVal}
use Rattle.tera_templates.specs.Mended.{IsMended}
use Rattle.tera_templates.specs.Templates.{tree_by, tree_of}
use Rattle.tera_check.specs.Named.{tree_findings}
use Rattle.tera_check.specs.Silenced.{is_silenced, is_unused, silences, unused_among, unused_ignore, unused_ignores}
use Rattle.tera_findings.specs.declared.finding.Kind.TheVariants.{UnusedParameter}
use Rattle.tera_templates.specs.declared.mended.Mended.{Mended}
use Rattle.tera_templates.specs.declared.templates.Template.{Template}

-- ---- tests

and_left : (a b : Bool) → (a && b) ≡ true → a ≡ true
and_left true b is = refl
and_left false b is = cc

and_right : (a b : Bool) → (a && b) ≡ true → b ≡ true
and_right true b is = is
and_right false b is = cc

is_not : (b : Bool) → not b ≡ true → b ≡ false
is_not true is = cc
is_not false is = refl

at_most : (a b : ℕ) → nat_le a b ≡ true → a ≤ b
at_most a b is = grind (arith, nat_tests)

-- ---- what is due of a tree

all_kept : {X : Type 0} (p : X → Bool) (xs : List X) → ((x : X) → p x ≡ true) → filter p xs ≡ xs
all_kept p [] all = refl
all_kept p (x ∷ xs) all = ap (λ b. cond b (x ∷ filter p xs) (filter p xs)) (all x) ∙ ap (λ ys. x ∷ ys) (all_kept p xs all)

pub whole : (known : List ℕ → Option KnownVal) (number : ℕ) (t : Template) (o : ParserOutput) → t.parsed ≡ Ok o → t.mended ≡ None
    → (let found = tree_findings known number t (output_view o) in
    due_findings known false number t ≡ unused_ignores false t found ++ filter (λ f. not (is_silenced t f)) found)
whole known number t o parsed mended =
    let found = tree_findings known number t (output_view o) in
    ap (λ r. option_map_or (λ o. due_among false t (tree_findings known number t (output_view o))) (tree_by r t.mended) []) parsed
    ∙ (λ i. unused_ignores false t found ++ filter (λ f. is_due_in (mended i) f && not (is_silenced t f)) found)

-- .. that has no ignores
pub without_ignores : (known : List ℕ → Option KnownVal) (number : ℕ) (t : Template) (o : ParserOutput) → t.parsed ≡ Ok o → t.mended ≡ None → t.ignores.items ≡ []
    → due_findings known false number t ≡ tree_findings known number t (output_view o)
without_ignores known number t o parsed mended none =
    let found = tree_findings known number t (output_view o) in
    whole known number t o parsed mended
    ∙ (λ i. (if is_some (mended i) then [] else unused_among false found (ignores_view (none i))) ++ filter (λ f. not (list_any (λ g. silences g f) (ignores_view (none i)))) found)
    ∙ all_kept (λ f. true) found (λ f. refl)

passes : {X : Type 0} (p : X → Bool) (xs : List X) (x : X) → Contains (filter p xs) x → p x ≡ true
passes p xs x (k, below, here) = subst (λ y. p y ≡ true) here (filter_passes p xs k x below)

-- what is due is defined, if texts may define more: also an ignore that silences nothing is
each_defined : (is : List IgnoreVal) (k : ℕ) (d : FindingVal) → k < length (map unused_ignore is) → is_undefined (get_or (map unused_ignore is) k d) ≡ false
each_defined [] k d below = absurd (omega arith)
each_defined (i ∷ is) zero d below = refl
each_defined (i ∷ is) (suc k) d below = each_defined is k d (omega arith)

unused_defined : (whole : Bool) (is : List IgnoreVal) (f : FindingVal) → Contains (if whole then [] else map unused_ignore is) f → is_undefined f ≡ false
unused_defined true is f (k, below, here) = absurd (omega arith)
unused_defined false is f (k, below, here) = subst (λ g. is_undefined g ≡ false) here (each_defined is k f below)

defined_by : (known : List ℕ → Option KnownVal) (number : ℕ) (t : Template) (r : Option ParserOutput) (f : FindingVal)
    → Contains (option_map_or (λ o. due_among true t (tree_findings known number t (output_view o))) r []) f → is_undefined f ≡ false
defined_by known number t None f (k, below, here) = absurd (omega arith)
defined_by known number t (Some o) f is =
    let found = tree_findings known number t (output_view o) in
    ⊎_elim (λ unused. unused_defined (is_some t.mended) (filter (is_unused true found) (ignores_view t.ignores.items)) f unused)
    (λ due. is_not (is_undefined f) (and_left (not (is_undefined f)) _ (passes (is_due true t) found f due)))
    (Contains-append_cases (unused_ignores true t found) (filter (is_due true t) found) f is)

pub defined : (known : List ℕ → Option KnownVal) (number : ℕ) (t : Template) (f : FindingVal) → Contains (due_findings known true number t) f → is_undefined f ≡ false
defined known number t f is = defined_by known number t (tree_of t) f is

-- in a text with faults no ignore is reported
none_unused : (open_text : Bool) (t : Template) (m : Mended) (found : List FindingVal) → t.mended ≡ Some m → unused_ignores open_text t found ≡ []
none_unused open_text t m found mended = ap (λ o. if is_some o then [] else unused_among open_text found (ignores_view t.ignores.items)) mended

due_by : (known : List ℕ → Option KnownVal) (open_text : Bool) (number : ℕ) (t : Template) (m : Mended) (r : Option ParserOutput) (f : FindingVal) → t.mended ≡ Some m
    → Contains (option_map_or (λ o. due_among open_text t (tree_findings known number t (output_view o))) r []) f → is_due open_text t f ≡ true
due_by known open_text number t m None f mended (k, below, here) = absurd (omega arith)
due_by known open_text number t m (Some o) f mended is =
    let found = tree_findings known number t (output_view o) in
    passes (is_due open_text t) found f (subst (λ us. Contains (us ++ filter (is_due open_text t) found) f) (none_unused open_text t m found mended) is)

due_in : (known : List ℕ → Option KnownVal) (open_text : Bool) (number : ℕ) (t : Template) (m : Mended) (f : FindingVal) → t.mended ≡ Some m → Contains (due_findings known open_text number t) f
    → is_due_in (Some m) f ≡ true
due_in known open_text number t m f mended is =
    sym (ap (λ m. is_due_in m f) mended)
    ∙ and_left (is_due_in t.mended f) _ (and_right (not (open_text && is_undefined f)) _ (due_by known open_text number t m (tree_of t) f mended is))

-- ---- a parameter that is reported as unused

neither : (a b : Bool) → (a || b) ≡ false → a ≡ false
neither true b is = cc
neither false b is = refl

lost_by : (m : Mended) (start : ℕ) (found : Option (List ℕ)) → may_name_by m start found ≡ false → (name : List ℕ) × (found ≡ Some name) × (is_lost_in m start name ≡ false)
lost_by m start None is = cc
lost_by m start (Some name) is = (name, refl, neither (is_lost_in m start name) _ is)

pub unused : (known : List ℕ → Option KnownVal) (open_text : Bool) (number : ℕ) (t : Template) (m : Mended) (span : Span) (text : List ℕ) (notes : List NoteVal) → t.mended ≡ Some m
    → Contains (due_findings known open_text number t) (FindingOf UnusedParameter span text notes)
    → (name : List ℕ) × (name_at m span ≡ Some name) × (is_lost_in m span.range.start name ≡ false)
unused known open_text number t m span text notes mended is =
    let f = FindingOf UnusedParameter span text notes in
    lost_by m span.range.start (name_at m span) (is_not (may_name m span) (and_right (is_written m f) (not (may_name m span)) (due_in known open_text number t m f mended is)))

-- ---- what is in the place of the source's bytes

taken : (n : ℕ) (old new : List ℕ) → AreInPlace old new → AreInPlace (take n old) (take n new)
taken zero old new are = tt
taken (suc n) [] [] are = tt
taken (suc n) [] (c ∷ cs) are = absurd are
taken (suc n) (b ∷ bs) [] are = absurd are
taken (suc n) (b ∷ bs) (c ∷ cs) are = (are.0, taken n bs cs are.1)

kept_before : (old new : List ℕ) (n : ℕ) → Keeps old new → n ≤ length old → AreInPlace (take n old) (take n new)
kept_before old new n (front, after, is, are) le =
    let many : length old ≡ length front = same_length old front are in
    let first : take n new ≡ take n front = ap (take n) is ∙ take-append-le n front after (omega (arith, many)) in
    subst (AreInPlace (take n old)) (sym first) (taken n old front are)

ends_keep : (cut : Bool) (rest : List EditVal) (source reached text : List ℕ) (n : ℕ) → Ends usual default_marks cut rest reached text → Keeps source reached → n ≤ length source → n ≤ length text
    → AreInPlace (take n source) (take n text)
ends_keep false rest source reached text n ends keeps within there = kept_before source text n (subst (Keeps source) (sym ends.1) keeps) within
ends_keep true rest source reached text n ends keeps within there =
    ⊎_elim (λ edits. kept_before source text n ((then) source reached text keeps (edits_keep rest reached text edits)) within)
    (λ none.
    let zero_long : n ≡ 0 = omega (arith, ap length none) in
    subst (λ k. AreInPlace (take k source) (take k text)) (sym zero_long) tt)
    ends.1

before_sound : (file source : List ℕ) (most : ℕ) (m : Mended) (n : ℕ) → IsMended file source most m → n ≤ length source → n ≤ length (string_bytes m.text)
    → AreInPlace (take n source) (take n (string_bytes m.text))
before_sound file source most m n is within there =
    ends_keep m.cut (map edit_view m.rest.items) source is.reached (string_bytes m.text) n is.ends (mends_keep usual default_marks (map step_of m.faults.items) source is.reached is.mends) within there

-- ---- what a finding is about

-- two texts have the same between these bytes
record IsSame (one other : List ℕ) (start end : ℕ) : Type 0 where
  forward : start ≤ end
  within : end ≤ length one
  there : end ≤ length other
  same : bytes_between (start, end) one ≡ bytes_between (start, end) other

same_part : (one other : List ℕ) (start end : ℕ) → is_same_part one other (start, end) ≡ true → IsSame one other start end
same_part one other start end is =
    let first : (nat_le start end && nat_le end (length one)) ≡ true = and_left (nat_le start end && nat_le end (length one)) _ is in
    let rest : ((nat_le start end && nat_le end (length other)) && bytes_eq (bytes_between (start, end) one) (bytes_between (start, end) other)) ≡ true =
    and_right (nat_le start end && nat_le end (length one)) _ is in
    let second : (nat_le start end && nat_le end (length other)) ≡ true = and_left (nat_le start end && nat_le end (length other)) _ rest in
    record {
      forward = at_most start end (and_left (nat_le start end) _ first);
      within = at_most end (length one) (and_right (nat_le start end) _ first);
      there = at_most end (length other) (and_right (nat_le start end) _ second);
      same = (bytes_eq-Decides (bytes_between (start, end) one) (bytes_between (start, end) other)).0 (and_right (nat_le start end && nat_le end (length other)) _ rest);
    }

-- the part of a text between two of its bytes, and the same part of the source
abbrev pub IsThere : List ℕ → List ℕ → ℕ × ℕ → Type 0
IsThere source text mark =
    (front part after : List ℕ) × (text ≡ front ++ (part ++ after)) × ((length front, length front + length part) ≡ mark) × HasPart source front part

pair_of : (a b c d : ℕ) → a ≡ c → b ≡ d → (let one : ℕ × ℕ = (a, b) in let other : ℕ × ℕ = (c, d) in one ≡ other)
pair_of a b c d one other = λ i. (one i, other i)

spans : (a b c d : Place) → a ≡ c → b ≡ d → joined a b ≡ joined c d
spans a b c d one other = λ i. joined (one i) (other i)

cut_at : (text : List ℕ) (start len : ℕ) → text ≡ take start text ++ (take len (drop start text) ++ drop len (drop start text))
cut_at text start len = sym (take-append-drop start text) ∙ ap (λ t. take start text ++ t) (sym (take-append-drop len (drop start text)))

part_there : (source text : List ℕ) (mark : ℕ × ℕ) → is_same_part source text mark ≡ true
    → ((n : ℕ) → n ≤ length source → n ≤ length text → AreInPlace (take n source) (take n text)) → IsThere source text mark
part_there source text (start, end) is sound =
    let both : IsSame source text start end = same_part source text start end is in
    let part = take (end - start) (drop start text) in
    let are : AreInPlace (take start source) (take start text) = sound start (omega (arith, both.forward, both.within)) (omega (arith, both.forward, both.there)) in
    let long : length (take start text) ≡ start = length-take-le start text (omega (arith, both.forward, both.there)) in
    let left_over : end - start ≤ length (drop start text) = omega (arith, length-drop start text, both.there) in
    let wide : length part ≡ end - start = length-take-le (end - start) (drop start text) left_over in
    let with_part : AreInPlace (take start source ++ part) (take start text ++ part) = in_place_joined (take start source) (take start text) part part are (itself part) in (
      take start text,
      part,
      drop (end - start) (drop start text),
      cut_at text start (end - start),
      pair_of _ _ _ _ long (omega (arith, long, wide, both.forward)),
      (
        take start source,
        drop (end - start) (drop start source),
        cut_at source start (end - start) ∙ ap (λ t. take start source ++ (t ++ drop (end - start) (drop start source))) both.same,
        spans _ _ _ _ (place_sound (take start source) (take start text) are) (place_sound (take start source ++ part) (take start text ++ part) with_part),
      ),
    )

pub written : (known : List ℕ → Option KnownVal) (open_text : Bool) (number : ℕ) (t : Template) (file source : List ℕ) (most : ℕ) (m : Mended) (f : FindingVal) → t.mended ≡ Some m
    → IsMended file source most m → Contains (due_findings known open_text number t) f → IsThere source (string_bytes m.text) (mark_of f)
written known open_text number t file source most m f mended is found =
    let same : is_same_part (string_bytes m.source) (string_bytes m.text) (mark_of f) ≡ true = and_left (is_written m f) _ (due_in known open_text number t m f mended found) in
    part_there source (string_bytes m.text) (mark_of f) (subst (λ s. is_same_part s (string_bytes m.text) (mark_of f) ≡ true) is.is_source same)
    (λ n within there. before_sound file source most m n is within there)
