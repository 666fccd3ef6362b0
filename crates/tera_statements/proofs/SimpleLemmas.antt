-- What `break` and `continue` add, and what keeps an `extends` out.
use Rattle.std.proofs.Common.{◌≡◌, Bool, refl}
use Rattle.tera_grammar.specs.statements.Output.{AddsNode, plain_adds}
use Rattle.tera_grammar.specs.statements.TagParts.{Tag}
use Rattle.tera_statements.specs.Simple.{jump_item, jump_output}
use Rattle.tera_statements.specs.declared.simple.Jump.{Jump}
use Rattle.tera_statements.specs.declared.simple.Jump.TheVariants.{Break, Continue}

pub jump_adds : (in_loop : Bool) (j : Jump) (t : Tag) → AddsNode (jump_output j) ≡ plain_adds in_loop (jump_item j t)
jump_adds in_loop Break t = refl
jump_adds in_loop Continue t = refl
