-- What an expression of the grammar is read as.
use Rattle.std.proofs.Common.{◌≡◌, Bool, false, sym, subst}
use Rattle.tera_ast.specs.Tree.{Expr}
use Rattle.tera_grammar.specs.expressions.Concrete.{Tree}
use Rattle.tera_grammar.specs.expressions.Output.{output}
use Rattle.tera_source.specs.Bodies.{has_body}
use Rattle.tera_source.specs.Contexts.{free}
use Rattle.tera_source.specs.Source.{source_text}
use Rattle.tera_source.specs.Writable.{IsWritable}
use Rattle.tera_source.specs.Writing.{written}
use Rattle.tera_source.proofs.Bodiless.{bodiless}
use Rattle.tera_source.proofs.Printed.{written_source}
use Rattle.tera_source.proofs.Writables.{output_writable}

read_writable : (e : Expr) (in_loop : Bool) (t : Tree) → e ≡ output in_loop t → IsWritable e
read_writable e in_loop t is = subst IsWritable (sym is) (output_writable in_loop t)

pub read_written : (e : Expr) (in_loop : Bool) (t : Tree) → e ≡ output in_loop t → written e free ≡ source_text e
read_written e in_loop t is = written_source e (read_writable e in_loop t is)

pub read_bodiless : (e : Expr) (in_loop : Bool) (t : Tree) → e ≡ output in_loop t → has_body e ≡ false
read_bodiless e in_loop t is = bodiless e (read_writable e in_loop t is)
