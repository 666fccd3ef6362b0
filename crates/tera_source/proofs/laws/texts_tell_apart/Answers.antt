use Rattle.std.proofs.Common.{◌≡◌, ◌∙◌, ◌∷◌, List, sym, ap, subst}
use Rattle.tera_ast.specs.Tree.{Expr, Stmt, Shown}
use Rattle.tera_lexer.specs.grammar.Marks.{default_marks}
use Rattle.tera_tree.specs.Tree.{Output}
use Rattle.tera_grammar.specs.Limits.{Limits}
use Rattle.tera_grammar.specs.statements.Top.{Derives}
use Rattle.tera_spelling.specs.Sources.{in_tag}
use Rattle.tera_source.specs.Placeless.{placeless}
use Rattle.tera_source.specs.Printing.{PrintsBack, shown_alone}
use Rattle.tera_source.specs.Source.{source_text}
use Rattle.tera_source.proofs.laws.texts_tell_apart.Goals as goal

-- the expression that is shown first
abbrev shown_in : Expr → List Stmt → Expr
shown_in e (Shown shown ∷ more) = shown
shown_in e _ = e

same_shown : (x y : Expr) → shown_alone x ≡ shown_alone y → x ≡ y
same_shown x y same = ap (λ (o : Output). shown_in x o.nodes) same

told_apart : (limits : Limits) (one other : Expr) → PrintsBack limits one → PrintsBack limits other → source_text one ≡ source_text other → placeless one ≡ placeless other
told_apart limits one other first second same =
    let (read, derived) = first.exists in
    let (x, is, alike) = first.each read derived in
    let there : Derives limits default_marks (in_tag (source_text other)) read = subst (λ text. Derives limits default_marks (in_tag text) read) same derived in
    let (y, also, equal) = second.each read there in
    sym alike ∙ ap placeless (same_shown x y (sym is ∙ also)) ∙ equal

pub returns : goal.returns
returns c = λ limits one other first second same. told_apart limits one other first second same
