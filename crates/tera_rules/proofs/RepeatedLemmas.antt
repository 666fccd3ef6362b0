-- Values that do not count, from the last to the first.
use Rattle.std.proofs.Common.{◌≡◌, ◌∙◌, List, [], ◌∷◌, ◌++◌, ℕ, Bool, true, false, cond, Option, Some, Bor, refl, sym, ap, append_assoc, append-nil}
use Rattle.std.specs.Option.{option_map}
use Rattle.tera_base.specs.Values.{KeyVal}
use Rattle.tera_base.specs.declared.utils.Span.{Span}
use Rattle.tera_ast.specs.Tree.{Expr}
use Rattle.tera_ast.specs.View.{entries_of}
use Rattle.tera_ast.specs.declared.ast.MapEntryOf.{MapEntryOf}
use Rattle.tera_ast.specs.declared.ast.MapEntryOf.TheVariants as entries
use Rattle.tera_findings.specs.Findings.{FindingVal}
use Rattle.tera_rules.specs.Repeated.{next_in, next_by_one, repeated_findings, repeated_by_one}
use Rattle.tera_rules.specs.declared.repeated.Holder.{Holder}

repeated_more : (holder : Holder) (file : List ℕ) (a : MapEntryOf Expr) (es : List (MapEntryOf Expr))
    → repeated_findings holder file (entries_of (a ∷ es)) ≡ repeated_findings holder file (entries_of es) ++ repeated_by_one holder file a (λ k. next_in k (entries_of es))
repeated_more holder file (entries.KeyValue k e) es = refl
repeated_more holder file (entries.Spread e) es = sym (append-nil (repeated_findings holder file (entries_of es)))

next_more : (key : KeyVal) (a : MapEntryOf Expr) (es : List (MapEntryOf Expr)) → next_in key (entries_of (a ∷ es)) ≡ next_by_one key a (next_in key (entries_of es))
next_more key (entries.KeyValue k e) es = refl
next_more key (entries.Spread e) es = refl

-- one more span under a key
pub span_by : (b : Bool) (span : Bor Span) (o : Option (Bor Span)) → option_map (λ s. s.now) (cond b (Some span) o) ≡ cond b (Some span.now) (option_map (λ s. s.now) o)
span_by true span o = refl
span_by false span o = refl

pub repeated_next : (holder : Holder) (file : List ℕ) (left rest done all : List (MapEntryOf Expr)) (a : MapEntryOf Expr) (before after : KeyVal → Option Span) (start old now : List FindingVal)
    → left ++ done ≡ all → left ≡ rest ++ a ∷ []
    → old ≡ start ++ repeated_findings holder file (entries_of done) → ((k : KeyVal) → before k ≡ next_in k (entries_of done))
    → now ≡ old ++ repeated_by_one holder file a before → ((k : KeyVal) → after k ≡ next_by_one k a (before k))
    → (rest ++ (a ∷ done) ≡ all) × (now ≡ start ++ repeated_findings holder file (entries_of (a ∷ done))) × ((k : KeyVal) → after k ≡ next_in k (entries_of (a ∷ done)))
repeated_next holder file left rest done all a before after start old now held split is following step more = (
  sym (append_assoc rest (a ∷ []) done) ∙ ap (λ es. es ++ done) (sym split) ∙ held,
  step
      ∙ (λ i. is i ++ repeated_by_one holder file a (λ k. following k i))
      ∙ append_assoc start (repeated_findings holder file (entries_of done)) (repeated_by_one holder file a (λ k. next_in k (entries_of done)))
      ∙ ap (λ fs. start ++ fs) (sym (repeated_more holder file a done)),
  λ k. more k ∙ ap (next_by_one k a) (following k) ∙ sym (next_more k a done),
)
