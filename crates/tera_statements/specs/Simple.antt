-- The statements that hold no body.
use Rattle.std.specs.Prelude.{Bool, true, false}
use Rattle.tera_ast.specs.Tree as tree
use Rattle.tera_ast.specs.Tree.{Stmt}
use Rattle.tera_grammar.specs.statements.Grammar as grammar
use Rattle.tera_grammar.specs.statements.Grammar.{Plain}
use Rattle.tera_grammar.specs.statements.TagParts.{Tag}
use Rattle.tera_statements.specs.declared.simple.Extension.{Extension}
use Rattle.tera_statements.specs.declared.simple.Extension.TheVariants as extensions
use Rattle.tera_statements.specs.declared.simple.Jump.{Jump}
use Rattle.tera_statements.specs.declared.simple.Jump.TheVariants.{Break, Continue}

abbrev pub jump_item : Jump → Tag → Plain
jump_item Break t = grammar.Break t
jump_item Continue t = grammar.Continue t

abbrev pub jump_output : Jump → Stmt
jump_output Break = tree.Break
jump_output Continue = tree.Continue

-- nothing that comes before keeps a template from extending another
abbrev pub is_free : Extension → Bool
is_free extensions.Free = true
is_free extensions.Late = false
is_free (extensions.Again parent) = false
