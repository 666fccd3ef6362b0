-- The names of variables.
use Rattle.std.specs.Prelude.{◌≡◌, Option, String, string_bytes}
use Rattle.std.specs.declared.alloc.Global.{Global}
use Rattle.tera_ast.specs.View.{name_view}
use Rattle.tera_grammar.specs.expressions.Concrete.{Name, Second}
use Rattle.tera_grammar.specs.expressions.Output.{key_variable, value_variable}

-- the variables of a loop or a comprehension: of two the first is that of the keys
abbrev pub AreVariables : Option (String Global) × String Global → Name × Second → Type 0
AreVariables v x = (name_view v.0 ≡ key_variable x.0 x.1) × (string_bytes v.1 ≡ value_variable x.0 x.1)
