use Rattle.std.proofs.Common.{◌≡◌, [], Ok, Err, MatchOption, MatchResult, rules, subst, sym}
use Rattle.tera_grammar.specs.Limits.{usual}
use Rattle.tera_grammar.specs.statements.Top.{Derives}
use Rattle.tera_lexer.specs.grammar.Marks.{default_marks}
use Rattle.tera_tree.specs.Outputs.{output_view}
use Rattle.std.specs.BTreeSet.{contains_text}
use Rattle.tera_rules.specs.Bodies.{is_hidden_by}
use Rattle.tera_templates.specs.Ignores.{AreIgnoresBy, AreIgnoresIn, AreIgnoresOfMended, ignores_view}
use Rattle.tera_templates.specs.declared.templates.Template.{Template}
use Rattle.tera_templates.proofs.ReadLemmas.{both_ok, fault_ignores}
use Rattle.tera_templates.proofs.templates.read_template.Goals as goal

pub returns-in_ok-parent_at-in-Ok-clause-complete : goal.returns-in_ok-parent_at-in-Ok-clause-complete
returns-in_ok-parent_at-in-Ok-clause-complete c = λ output d.
    let here : MatchResult c.in_ok-name.field-0.parsed (λ o. output_view o ≡ output) (λ _. ⊥) =
    c.in_ok-name.ensures.complete output (subst (λ m. Derives usual m c.args.source.now output) (sym c.default.ensures.0) d) in
    let same : c.in_ok-name.field-0.parsed ≡ Ok c.in-Ok.output = search rules in
    subst (λ r. MatchResult r (λ o. output_view o ≡ output) (λ _. ⊥)) same here

pub returns-in_ok-parent_at-in-Ok-clause-ignores : goal.returns-in_ok-parent_at-in-Ok-clause-ignores
returns-in_ok-parent_at-in-Ok-clause-ignores c =
    let read = c.in_ok-name.field-0 in
    let here : AreIgnoresBy default_marks c.args.source.now read.parsed read.mended (ignores_view read.ignores.items) =
    subst (λ m. AreIgnoresIn m c.args.source.now read) c.default.ensures.0 c.in_ok-name.ensures.ignores in
    let same : read.parsed ≡ Ok c.in-Ok.output = search rules in
    subst (λ r. AreIgnoresBy default_marks c.args.source.now r read.mended (ignores_view read.ignores.items)) same here

pub returns-in_ok-parent_at-in-Ok-clause-hidden : goal.returns-in_ok-parent_at-in-Ok-clause-hidden
returns-in_ok-parent_at-in-Ok-clause-hidden c = λ n.
    let read = c.in_ok-name.field-0 in
    let same : read.parsed ≡ Ok c.in-Ok.output = search rules in
    subst (λ r. contains_text read.bodies_hidden n ≡ is_hidden_by r n) same (c.in_ok-name.ensures.hidden n)

pub returns-in-Err-clause-ignores : goal.returns-in-Err-clause-ignores
returns-in-Err-clause-ignores c =
    both_ok (λ (t : Template). t.parsed ≡ Err c.in-Err.error) (λ (t : Template). MatchOption t.mended (t.ignores.items ≡ []) (λ m. AreIgnoresOfMended c.args.source.now m (ignores_view t.ignores.items)))
    (AreIgnoresIn default_marks c.args.source.now) c.with_fault.result (λ t is held. fault_ignores default_marks c.args.source.now t c.in-Err.error is held)
    c.with_fault.ensures.parsed c.with_fault.ensures.ignores
