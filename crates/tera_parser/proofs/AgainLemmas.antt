-- What the source text of an expression is read as.
use Rattle.std.proofs.Common.{◌≡◌, ◌∙◌, ℕ, List, ap, sym, subst}
use Rattle.std.specs.Prelude.{Result, Ok, Err, MatchResult}
use Rattle.tera_base.specs.Errors.{IsMemory}
use Rattle.tera_base.specs.declared.errors.Error.{Error}
use Rattle.tera_lexer.specs.grammar.Marks.{Marks, default_marks}
use Rattle.tera_ast.specs.Tree.{Expr}
use Rattle.tera_ast.specs.View.{expression_view}
use Rattle.tera_ast.specs.declared.ast.Expression.{Expression}
use Rattle.tera_tree.specs.Tree.{Output}
use Rattle.tera_grammar.specs.Limits.{Limits}
use Rattle.tera_grammar.specs.statements.Top.{Derives}
use Rattle.tera_spelling.specs.Sources.{in_tag}
use Rattle.tera_source.specs.Placeless.{placeless}
use Rattle.tera_source.specs.Printing.{PrintsBack, shown_alone}
use Rattle.tera_source.specs.Source.{source_text}

same_again : (x e : Expr) (result : Result Expression Error) → placeless x ≡ placeless e
    → MatchResult result (λ shown. expression_view shown ≡ x) IsMemory → MatchResult result (λ again. placeless (expression_view again) ≡ placeless e) IsMemory
same_again x e (Ok shown) same h = ap placeless h ∙ same
same_again x e (Err error) same h = h

module _ (l : Limits) (m : Marks) (source : List ℕ) (e : Expr) (usual : m ≡ default_marks) (is : source ≡ in_tag (source_text e)) where
  in_tag_derived : (o : Output) → Derives l m source o → Derives l default_marks (in_tag (source_text e)) o
  in_tag_derived o d = subst (λ n. Derives l n (in_tag (source_text e)) o) usual (subst (λ s. Derives l m s o) is d)

  -- where the text is parsed, what its output shows is the expression, apart from places
  pub shown_again : (o : Output) (result : Result Expression Error) → Derives l m source o
      → ((x : Expr) → o ≡ shown_alone x → MatchResult result (λ shown. expression_view shown ≡ x) IsMemory)
      → PrintsBack l e → MatchResult result (λ again. placeless (expression_view again) ≡ placeless e) IsMemory
  shown_again o result d alone printed =
      let (x, shown, same) = printed.each o (in_tag_derived o d) in same_again x e result same (alone x shown)

  -- where it is not, an allocation failed
  pub memory_again : (error : Error) → ((o : Output) → Derives l m source o → IsMemory error) → PrintsBack l e → IsMemory error
  memory_again error complete printed =
      let (o, d) = printed.exists in
      complete o (subst (λ s. Derives l m s o) (sym is) (subst (λ n. Derives l n (in_tag (source_text e)) o) (sym usual) d))
