-- Sources whose tokens are the same apart from places have derivations that are the same apart from places.
use Rattle.std.proofs.Common.{◌≡◌, ℕ, List, sym, ap, ◌∙◌, ◌↔◌}
use Rattle.tera_lexer.specs.grammar.Marks.{Marks, IsValid}
use Rattle.tera_tree.specs.Tree.{Output}
use Rattle.tera_grammar.specs.Limits.{Limits}
use Rattle.tera_grammar.specs.statements.Output.{output_of}
use Rattle.tera_grammar.specs.statements.Top.{Derives}
use Rattle.tera_grammar.proofs.statements.Wholes.{derives_read, read_derives, derives_unique}
use Rattle.tera_layout.specs.Alike.{AreAlikeSources}
use Rattle.tera_alike.specs.Outputs.{placeless_output}
use Rattle.tera_alike.proofs.Templates.{alike_read_some}

alike_turned : (m n : Marks) (one other : List ℕ) → AreAlikeSources m one n other → AreAlikeSources n other m one
alike_turned m n one other (a, b, first, second, alike) = (b, a, second, first, sym alike)

module _ (l : Limits) (m n : Marks) (one other : List ℕ) (valid : IsValid m) (right : IsValid n) (alike : AreAlikeSources m one n other) where
  derived_too : (x : Output) → Derives l m one x → (y : Output) × Derives l n other y × (placeless_output x ≡ placeless_output y)
  derived_too x d =
      let (a, b, first, second, same) = alike in
      let (body, read, is) = derives_read l m valid one a first x d in
      let (moved, found, agrees) = alike_read_some l a b same body read in
      (output_of moved, read_derives l n right other b second moved found, ap placeless_output is ∙ agrees)

  pub derived_same : (x y : Output) → Derives l m one x → Derives l n other y → placeless_output x ≡ placeless_output y
  derived_same x y d e =
      let (z, f, same) = derived_too x d in same ∙ ap placeless_output (derives_unique l n right other z y f e)

pub derived_both : (l : Limits) (m n : Marks) (one other : List ℕ) → IsValid m → IsValid n → AreAlikeSources m one n other →
    ((x : Output) × Derives l m one x) ↔ ((y : Output) × Derives l n other y)
derived_both l m n one other valid right alike = (
  λ (x, d). let (y, e, same) = derived_too l m n one other valid right alike x d in (y, e),
  λ (y, e). let (x, d, same) = derived_too l n m other one right valid (alike_turned m n one other alike) y e in (x, d),
)
