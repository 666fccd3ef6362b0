-- Lines that ignores cover, and lines on which findings begin.
use Rattle.std.proofs.Common.{◌≡◌, ◌∙◌, ◌+◌, ◌<◌, ℕ, suc, length, arith, List, [], ◌∷◌, ◌++◌, Bool, true, false, true≢false, cond, None, Some, map, get_or, drop, drop-cons, refl, sym, ap, subst, inl, inr}
use Rattle.std.specs.BTreeMap.{get_by_text}
use Rattle.std.specs.BTreeSet.{BTreeSet, keys}
use Rattle.std.specs.Option.{option_map_or}
use Rattle.std.specs.Prelude.{◌↔◌, ◌⊎◌, ◌&&◌, ◌||◌, ◌==◌}
use Rattle.std.specs.Bool.{Decides}
use Rattle.std.specs.List.{Contains, filter, list_any}
use Rattle.std.specs.Str.{bytes_eq}
use Rattle.std.proofs.lemmas.Bool.Decides.{Decides-eqb}
use Rattle.std.proofs.lemmas.List.{map-append}
use Rattle.std.proofs.lemmas.Slice.Eq.{bytes_eq-Decides}
use Rattle.tera_findings.specs.Findings.{FindingVal, FoundAs, finding_view, kind_name}
use Rattle.tera_templates.specs.Ignores.{IgnoreVal}
use Rattle.tera_templates.specs.Lost.{places_under}
use Rattle.tera_check.specs.Silenced.{Lines, next_line, covers, silences, silences_at, is_unused, begins_at, has_finding_at, unused_among, unused_ignore}
use Rattle.tera_findings.specs.declared.finding.Finding.{Finding}

false_true : false ≡ true → ⊥
false_true e = true≢false (sym e)

-- ---- tests

both : (a b : Bool) → (a && b) ≡ true → (a ≡ true) × (b ≡ true)
both true b e = (refl, e)
both false b e = absurd (false_true e)

joined : (a b : Bool) → a ≡ true → b ≡ true → (a && b) ≡ true
joined a b x y = ap (λ c. c && b) x ∙ y

either : (a b : Bool) → (a || b) ≡ true → (a ≡ true) ⊎ (b ≡ true)
either true b e = inl refl
either false b e = inr e

first : (a b : Bool) → a ≡ true → (a || b) ≡ true
first a b x = ap (λ c. c || b) x

second : (a b : Bool) → b ≡ true → (a || b) ≡ true
second true b y = refl
second false b y = y

same_bool : (b c : Bool) (P : Type 0) → Decides b P → (P → c ≡ true) → (c ≡ true → P) → b ≡ c
same_bool true c P d to from = sym (to (d.0 refl))
same_bool false true P d to from = absurd (false_true (d.1 (from refl)))
same_bool false false P d to from = refl

pub decided : (b c : Bool) (P : Type 0) → Decides b P → (P ↔ (c ≡ true)) → b ≡ c
decided b c P d is = same_bool b c P d is.0 is.1

-- ---- one more line under a rule

abbrev pub IsPut : (P Q : Type 0) (rule word : List ℕ) (line place : ℕ) → Type 0
IsPut P Q rule word line place = Q ↔ (P ⊎ ((rule ≡ word) × (line ≡ place)))

met : (word rule : List ℕ) (place line : ℕ) → rule ≡ word → line ≡ place → (bytes_eq word rule && (place == line)) ≡ true
met word rule place line r l = joined (bytes_eq word rule) (place == line) ((bytes_eq-Decides word rule).1 (sym r)) ((Decides-eqb place line).1 (sym l))

met_by : (word rule : List ℕ) (place line : ℕ) → (bytes_eq word rule && (place == line)) ≡ true → (rule ≡ word) × (line ≡ place)
met_by word rule place line e =
    let (r, l) = both (bytes_eq word rule) (place == line) e in
    (sym ((bytes_eq-Decides word rule).0 r), sym ((Decides-eqb place line).0 l))

-- an ignore that is not alone, and one that is
pub one_put : (P Q : Type 0) (i : IgnoreVal) (rule : List ℕ) (line : ℕ) → i.alone ≡ false → IsPut P Q rule i.rule line i.span.start_line → Q ↔ (P ⊎ (silences_at i rule line ≡ true))
one_put P Q i rule line alone put = (
  λ q. elim (put.0 q) [
    | inl p ↦ inl p
    | inr is ↦ inr (
        let (r, l) = both (bytes_eq i.rule rule) (i.span.start_line == line) (met i.rule rule i.span.start_line line is.0 is.1) in
        joined (bytes_eq i.rule rule) (covers i line) r (first (i.span.start_line == line) (i.alone && (next_line i == line)) l))
  ],
  λ h. elim h [
    | inl p ↦ put.1 (inl p)
    | inr is ↦ put.1 (inr (
        let (r, c) = both (bytes_eq i.rule rule) (covers i line) is in
        met_by i.rule rule i.span.start_line line (joined (bytes_eq i.rule rule) (i.span.start_line == line) r (elim (either (i.span.start_line == line) (i.alone && (next_line i == line)) c) [
          | inl l ↦ l
          | inr n ↦ absurd (false_true (sym alone ∙ (both i.alone (next_line i == line) n).0))
        ]))))
  ],
)

pub both_put : (P Q R : Type 0) (i : IgnoreVal) (rule : List ℕ) (line : ℕ) → i.alone ≡ true → IsPut P Q rule i.rule line i.span.start_line → IsPut Q R rule i.rule line (next_line i)
    → R ↔ (P ⊎ (silences_at i rule line ≡ true))
both_put P Q R i rule line alone put more = (
  λ r. elim (more.0 r) [
    | inl q ↦ elim (put.0 q) [
      | inl p ↦ inl p
      | inr is ↦ inr (
          let (w, l) = both (bytes_eq i.rule rule) (i.span.start_line == line) (met i.rule rule i.span.start_line line is.0 is.1) in
          joined (bytes_eq i.rule rule) (covers i line) w (first (i.span.start_line == line) (i.alone && (next_line i == line)) l))
    ]
    | inr is ↦ inr (
        let (w, l) = both (bytes_eq i.rule rule) (next_line i == line) (met i.rule rule (next_line i) line is.0 is.1) in
        joined (bytes_eq i.rule rule) (covers i line) w (second (i.span.start_line == line) (i.alone && (next_line i == line)) (joined i.alone (next_line i == line) alone l)))
  ],
  λ h. elim h [
    | inl p ↦ more.1 (inl (put.1 (inl p)))
    | inr is ↦
        let (w, c) = both (bytes_eq i.rule rule) (covers i line) is in
        elim (either (i.span.start_line == line) (i.alone && (next_line i == line)) c) [
          | inl l ↦ more.1 (inl (put.1 (inr (met_by i.rule rule i.span.start_line line (joined (bytes_eq i.rule rule) (i.span.start_line == line) w l)))))
          | inr n ↦ more.1 (inr (met_by i.rule rule (next_line i) line (joined (bytes_eq i.rule rule) (next_line i == line) w (both i.alone (next_line i == line) n).1)))
        ]
  ],
)

-- ---- all of them, of which some are left

-- what is there, with what is left, is all
abbrev pub IsWith : (List ℕ → ℕ → Type 0) → (List ℕ → ℕ → Bool) → (List ℕ → ℕ → Bool) → Type 0
IsWith there left all = (rule : List ℕ) (line : ℕ) → (there rule line ⊎ (left rule line ≡ true)) ↔ (all rule line ≡ true)

pub one_taken : (before after : Type 0) (here left all : Bool) → (after ↔ (before ⊎ (here ≡ true))) → ((before ⊎ ((here || left) ≡ true)) ↔ (all ≡ true)) → (after ⊎ (left ≡ true)) ↔ (all ≡ true)
one_taken before after here left all step held = (
  λ h. elim h [
    | inl a ↦ elim (step.0 a) [ inl b ↦ held.0 (inl b) | inr is ↦ held.0 (inr (first here left is)) ]
    | inr is ↦ held.0 (inr (second here left is))
  ],
  λ is. elim (held.1 is) [
    | inl b ↦ inl (step.1 (inl b))
    | inr h ↦ elim (either here left h) [ inl here_is ↦ inl (step.1 (inr here_is)) | inr left_is ↦ inr left_is ]
  ],
)

pub none_left : (there : Type 0) (all : Bool) → ((there ⊎ (false ≡ true)) ↔ (all ≡ true)) → there ↔ (all ≡ true)
none_left there all held = (
  λ t. held.0 (inl t),
  λ is. elim (held.1 is) [ inl t ↦ t | inr never ↦ absurd (false_true never) ],
)

pub none_there : (there : Type 0) (all : Bool) → (there → ⊥) → (there ⊎ (all ≡ true)) ↔ (all ≡ true)
none_there there all none = (λ h. elim h [ inl t ↦ absurd (none t) | inr is ↦ is ], λ is. inr is)

-- a finding more
pub finding_put : (P Q : Type 0) (f : Finding) (rule : List ℕ) (line : ℕ) → IsPut P Q rule (kind_name f.kind) line f.span.start_line → Q ↔ (P ⊎ (begins_at rule line (finding_view f) ≡ true))
finding_put P Q f rule line put = (
  λ q. elim (put.0 q) [
    | inl p ↦ inl p
    | inr is ↦ inr (joined (bytes_eq rule (kind_name f.kind)) (line == f.span.start_line) ((bytes_eq-Decides rule (kind_name f.kind)).1 is.0) ((Decides-eqb line f.span.start_line).1 is.1))
  ],
  λ h. elim h [
    | inl p ↦ put.1 (inl p)
    | inr is ↦
        let (r, l) = both (bytes_eq rule (kind_name f.kind)) (line == f.span.start_line) is in
        put.1 (inr ((bytes_eq-Decides rule (kind_name f.kind)).0 r, (Decides-eqb line f.span.start_line).0 l))
  ],
)

-- ---- whether an ignore silences something

rearranged : (a b c d x y : Bool) → ((a && (b || (c && d))) || (x || (c && y))) ≡ (((a && b) || x) || (c && ((a && d) || y)))
rearranged true true c d x y = refl
rearranged true false true true true y = refl
rearranged true false true true false y = refl
rearranged true false true false x y = refl
rearranged true false false d x y = refl
rearranged false b c d x y = refl

pub met_lines : (i : IgnoreVal) (found : List FindingVal) → list_any (silences i) found ≡ (has_finding_at found i.rule i.span.start_line || (i.alone && has_finding_at found i.rule (next_line i)))
met_lines i [] = none i.alone
  where
    none : (b : Bool) → false ≡ (false || (b && false))
    none true = refl
    none false = refl
met_lines i (FoundAs kind severity span text notes ∷ found) =
    ap (λ b. silences i (FoundAs kind severity span text notes) || b) (met_lines i found)
    ∙ rearranged (bytes_eq i.rule (kind_name kind)) (i.span.start_line == span.start_line) i.alone (next_line i == span.start_line)
    (has_finding_at found i.rule i.span.start_line) (has_finding_at found i.rule (next_line i))

-- ---- one ignore more

filter_one : {X : Type 0} (p : X → Bool) (x : X) (xs : List X) → filter p (x ∷ xs) ≡ filter p (x ∷ []) ++ filter p xs
filter_one p x xs = by (p x)
  where
    by : (b : Bool) → cond b (x ∷ filter p xs) (filter p xs) ≡ cond b (x ∷ []) [] ++ filter p xs
    by true = refl
    by false = refl

pub unused_next : (open_text : Bool) (found : List FindingVal) (i : IgnoreVal) (is : List IgnoreVal) → unused_among open_text found (i ∷ is) ≡ unused_among open_text found (i ∷ []) ++ unused_among open_text found is
unused_next open_text found i is =
    ap (map unused_ignore) (filter_one (is_unused open_text found) i is) ∙ map-append unused_ignore (filter (is_unused open_text found) (i ∷ [])) (filter (is_unused open_text found) is)

pub no_unused : (open_text : Bool) (found : List FindingVal) (i : IgnoreVal) → is_unused open_text found i ≡ false → unused_among open_text found (i ∷ []) ≡ []
no_unused open_text found i is = ap (λ b. map unused_ignore (cond b (i ∷ []) [])) is

pub one_unused : (open_text : Bool) (found : List FindingVal) (i : IgnoreVal) → is_unused open_text found i ≡ true → unused_among open_text found (i ∷ []) ≡ unused_ignore i ∷ []
one_unused open_text found i is = ap (λ b. map unused_ignore (cond b (i ∷ []) [])) is

-- ---- lines under a rule

pub some_has : (lines : Lines) (rule : List ℕ) (line : ℕ) (found : BTreeSet ℕ) (b : Bool) → Some found ≡ get_by_text lines rule → Decides b (Contains (keys found) line) → Decides b (Contains (places_under lines rule) line)
some_has lines rule line found b there is = subst (λ ks. Decides b (Contains ks line)) (ap (λ o. option_map_or (λ (s : BTreeSet ℕ). keys s) o []) there) is

none_in : (line : ℕ) → Contains [] line → false ≡ true
none_in line (k, below, here) = absurd (omega arith)

pub none_has : (lines : Lines) (rule : List ℕ) (line : ℕ) → None ≡ get_by_text lines rule → Decides false (Contains (places_under lines rule) line)
none_has lines rule line there = (
  λ never. absurd (false_true never),
  λ has. none_in line (subst (λ ks. Contains ks line) (sym (ap (λ o. option_map_or (λ (s : BTreeSet ℕ). keys s) o []) there)) has),
)

-- what is left of a list after an index
pub next_left : {X Y : Type 0} (f : X → Y) (xs : List X) (i : ℕ) (x : X) → i < length xs → x ≡ get_or xs i x → map f (drop i xs) ≡ f x ∷ map f (drop (i + 1) xs)
next_left f xs i x below is =
    let next : i + 1 ≡ suc i = omega arith in
    rw next (ap (map f) (drop-cons xs i x below ∙ ap (λ y. y ∷ drop (suc i) xs) (sym is)))
