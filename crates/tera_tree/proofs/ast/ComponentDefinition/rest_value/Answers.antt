use Rattle.tera_tree.proofs.Coming.{came, gave, refused}
use Rattle.tera_tree.proofs.CallSteps.{rest_given, rest_none, rest_refused}
use Rattle.tera_tree.proofs.ast.ComponentDefinition.rest_value.Goals as goal

pub returns-in_ok-map-in-Some : goal.returns-in_ok-map-in-Some
returns-in_ok-map-in-Some g c =
    gave _ _ _ (rest_given _ _ c.args.self.now.rest_param_name c.in-Some.name _ c.in_ok-map-in-Some.map c.as_str.result c.in-Some.is c.as_str.ensures.value (came _ _ _ c.in_ok-map-in-Some.ensures))

pub returns-then-is_empty : goal.returns-then-is_empty
returns-then-is_empty g c = gave _ _ _ (rest_none _ _ _ c.args.unknown.now c.in-None.is c.if-is_empty.ensures)

pub returns-else-is_empty : goal.returns-else-is_empty
returns-else-is_empty g c = refused _ _ _ _ (rest_refused _ _ _ c.args.unknown.now c.in-None.is c.if-is_empty.ensures) (c.message_error.ensures _ c.unknown_arguments-message.ensures)
