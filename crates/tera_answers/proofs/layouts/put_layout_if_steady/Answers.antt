use Rattle.std.proofs.Common.{◌≡◌, ◌∙◌, true, false, refl, sym, ap, subst}
use Rattle.json.specs.Json.{null}
use Rattle.tera_layout.specs.Steady.{is_steady}
use Rattle.tera_lexer.specs.grammar.Marks.{Marks}
use Rattle.tera_answers.specs.Layouts.{IsLayout, IsLayoutIf}
use Rattle.tera_answers.proofs.Tails.{and_so}
use Rattle.tera_answers.proofs.layouts.put_layout_if_steady.Goals as goal

pub returns-then-are_steady-clause-tokens : goal.returns-then-are_steady-clause-tokens
returns-then-are_steady-clause-tokens c =
    let m = c.args.markers.now in
    let e = c.args.encoding in
    let text = c.args.text.now in
    let same = c.delimiters-delimiters.ensures.same in
    let steady : is_steady m ≡ true = ap is_steady (sym same) ∙ sym c.are_steady.ensures ∙ c.if-are_steady.true in
    and_so c.put_layout.result c.put_layout.ensures.tokens
    (λ h.
    let (j, is, written) = h in
    (j, subst (λ b. IsLayoutIf b m e text j) (sym steady) (subst (λ (x : Marks). IsLayout x e text j) same is), written))

pub returns-else-are_steady-clause-tokens : goal.returns-else-are_steady-clause-tokens
returns-else-are_steady-clause-tokens c =
    let m = c.args.markers.now in
    let unsteady : is_steady m ≡ false = ap is_steady (sym c.delimiters-delimiters.ensures.same) ∙ sym c.are_steady.ensures ∙ c.if-are_steady.false in
    and_so c.null.result c.null.ensures.ok
    (λ h. (null, subst (λ b. IsLayoutIf b m c.args.encoding c.args.text.now null) (sym unsteady) refl, h))
