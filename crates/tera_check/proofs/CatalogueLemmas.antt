-- The first component of each name, one by one.
use Rattle.std.proofs.Common.{◌≡◌, ◌∙◌, ◌<◌, ◌+◌, ℕ, suc, List, [], ◌∷◌, ◌++◌, length, drop, get_or, Bool, true, false, cond, Option, None, Some, is_some, refl, sym, ap, arith}
use Rattle.std.proofs.Common.{Bor, Global, String}
use Rattle.std.specs.BTreeMap.{BTreeMap}
use Rattle.std.specs.Option.{option_map, option_copied}
use Rattle.tera_base.specs.declared.utils.Span.{Span}
use Rattle.tera_tags.specs.Known.{located_of}
use Rattle.tera_rules.specs.declared.known.Known.{Known}
use Rattle.std.specs.Str.{bytes_eq}
use Rattle.std.proofs.lemmas.Slice.Eq.{bytes_eq-Decides}
use Rattle.tera_rules.specs.Judged.{KnownVal, known_view}
use Rattle.tera_rules.proofs.BodiesLemmas.{drop_next}
use Rattle.tera_check.specs.Named.{defined_in, defined_by, first_named, or_else}
use Rattle.tera_templates.specs.declared.templates.Template.{Template}

pub parameters_after : (o : Option (Bor (BTreeMap (String Global) Span))) → option_map (λ names. located_of names.now) o ≡ option_map located_of (option_copied o)
parameters_after None = refl
parameters_after (Some names) = refl

pub or_none : (o : Option KnownVal) → or_else o None ≡ o
or_none None = refl
or_none (Some k) = refl

or_assoc : (a b c : Option KnownVal) → or_else (or_else a b) c ≡ or_else a (or_else b c)
or_assoc None b c = refl
or_assoc (Some k) b c = refl

or_cond : (b : Bool) (k : KnownVal) (rest more : Option KnownVal) → or_else (cond b (Some k) rest) more ≡ cond b (Some k) (or_else rest more)
or_cond true k rest more = refl
or_cond false k rest more = refl

named_append : (n : List ℕ) (ks js : List KnownVal) → first_named n (ks ++ js) ≡ or_else (first_named n ks) (first_named n js)
named_append n [] js = refl
named_append n (k ∷ ks) js =
    ap (cond (bytes_eq k.definition.name n) (Some k)) (named_append n ks js) ∙ sym (or_cond (bytes_eq k.definition.name n) k (first_named n ks) (first_named n js))

-- some more components, after those that are known
pub more_known : (n : List ℕ) (before now all : Option KnownVal) (ks js : List KnownVal)
    → all ≡ or_else before (first_named n (ks ++ js)) → now ≡ or_else before (first_named n ks) → all ≡ or_else now (first_named n js)
more_known n before now all ks js held step =
    held ∙ ap (or_else before) (named_append n ks js) ∙ sym (or_assoc before (first_named n ks) (first_named n js)) ∙ ap (λ o. or_else o (first_named n js)) (sym step)

-- one more component: where one of its name is known, and where none is
kept_by : (b : Bool) (k : KnownVal) (o : Option KnownVal) → (b ≡ true → is_some o ≡ true) → o ≡ or_else o (cond b (Some k) None)
kept_by true k None h = let e : false ≡ true = h refl in cc
kept_by false k None h = refl
kept_by b k (Some j) h = refl

added_by : (b : Bool) (k : KnownVal) (o : Option KnownVal) → (b ≡ true → o ≡ None) → cond b (Some k) o ≡ or_else o (cond b (Some k) None)
added_by true k o h = rw (h refl) refl
added_by false k o h = sym (or_none o)

same_name : (a n : List ℕ) → bytes_eq a n ≡ true → a ≡ n
same_name a n e = (bytes_eq-Decides a n).0 e

pub some_known : (o : Option Known) → is_some (option_map known_view o) ≡ is_some o
some_known None = refl
some_known (Some k) = refl

pub none_known : (o : Option Known) → false ≡ is_some o → option_map known_view o ≡ None
none_known None e = refl
none_known (Some k) e = cc

pub known_by : (b : Bool) (k : Known) (o : Option Known) → option_map known_view (cond b (Some k) o) ≡ cond b (Some (known_view k)) (option_map known_view o)
known_by true k o = refl
known_by false k o = refl

pub kept : (known : List ℕ → Option KnownVal) (k : KnownVal) (n name : List ℕ) → name ≡ k.definition.name → is_some (known name) ≡ true
    → known n ≡ or_else (known n) (first_named n (k ∷ []))
kept known k n name named has =
    kept_by (bytes_eq k.definition.name n) k (known n) (λ e. ap (λ m. is_some (known m)) (sym (named ∙ same_name k.definition.name n e)) ∙ has)

pub added : (known : List ℕ → Option KnownVal) (k : KnownVal) (n name : List ℕ) (now : Option KnownVal) → name ≡ k.definition.name → known name ≡ None
    → now ≡ cond (bytes_eq name n) (Some k) (known n) → now ≡ or_else (known n) (first_named n (k ∷ []))
added known k n name now named none is =
    is ∙ ap (λ m. cond (bytes_eq m n) (Some k) (known n)) named
    ∙ added_by (bytes_eq k.definition.name n) k (known n) (λ e. ap known (sym (named ∙ same_name k.definition.name n e)) ∙ none)

-- templates
pub template_next : (n : List ℕ) (ts : List Template) (i : ℕ) (t : Template) (before now all : Option KnownVal) → i < length ts → t ≡ get_or ts i t
    → all ≡ or_else before (first_named n (defined_by i (drop i ts))) → now ≡ or_else before (first_named n (defined_in i t))
    → all ≡ or_else now (first_named n (defined_by (i + 1) (drop (i + 1) ts)))
template_next n ts i t before now all h is held step =
    let next : i + 1 ≡ suc i = omega arith in
    let here : all ≡ or_else before (first_named n (defined_by i (t ∷ drop (suc i) ts))) = held ∙ ap (λ us. or_else before (first_named n (defined_by i us))) (drop_next ts i t h is) in
    rw next (more_known n before now all (defined_in i t) (defined_by (suc i) (drop (suc i) ts)) here step)
