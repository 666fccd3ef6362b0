use Rattle.std.proofs.Common.{◌∙◌, ap, sym, Some, None, if◌then◌else◌}
use Rattle.tera_ast.specs.View.{expression_view}
use Rattle.tera_source.specs.Bodies.{has_body}
use Rattle.tera_source.specs.Contexts.{free}
use Rattle.tera_source.specs.Writing.{written}
use Rattle.tera_rules.proofs.ConditionsLemmas.{no_memory}
use Rattle.tera_rules.proofs.repeated_conditions.condition_text.Goals as goal

pub returns-in-Ok : goal.returns-in-Ok
returns-in-Ok c =
    let e = expression_view c.args.condition.now in
    ap Some c.in-Ok.ensures.written ∙ sym (ap (λ b. if b then None else Some (written e free)) c.in-Ok.ensures.bodiless)

pub returns-else-is_memory : goal.returns-else-is_memory
returns-else-is_memory c =
    let e = expression_view c.args.condition.now in
    let other = no_memory c.in-Err.error (has_body e) (sym c.if-is_memory.ensures) c.in-Err.ensures.memory in
    sym (ap (λ b. if b then None else Some (written e free)) other)
