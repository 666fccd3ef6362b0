-- What is in the tags of a loop, filters, and the tags around a body that is taken as a value.
use Rattle.std.specs.Prelude.{◌≡◌, Bool, true, false, List, [], ◌∷◌, codes}
use Rattle.std.specs.Str.{bytes_eq}
use Rattle.tera_base.specs.declared.utils.Span.{Span}
use Rattle.tera_lexer.specs.grammar.Tokens.{Items, Symbol}
use Rattle.tera_ast.specs.Tree as tree
use Rattle.tera_ast.specs.Tree.{Expr, Stmt, Nodes}
use Rattle.tera_ast.specs.View.{filters_of}
use Rattle.tera_grammar.specs.expressions.Operators.{GreaterThan, In}
use Rattle.tera_grammar.specs.expressions.Marks.{mark, Bar, Operation}
use Rattle.tera_grammar.specs.Words.{is_reserved}
use Rattle.tera_grammar.specs.expressions.Spans.{spanning}
use Rattle.tera_grammar.specs.expressions.Concrete.{Second, second_yield}
use Rattle.tera_grammar.specs.expressions.Conditions.{AreVariables}
use Rattle.tera_grammar.specs.expressions.Output.{key_variable, value_variable}
use Rattle.tera_grammar.specs.statements.Tags.{Name, name_yield, Tag, keyword, set_word, start_with, finish}
use Rattle.tera_grammar.specs.statements.Expressions.{Limits, Expression, IsExpression, expression_yield, expression_output, Filtering, IsFilter, filter_yield, filter_output, Attributes, AreAttributes, attributes_yield, attributes_output, ComponentName, component_yield, component_text}

-- the head of a loop: its variables, which are those of a comprehension; the word `in`; and its target
pub record Loop : Type 0 where
  pub first : Name
  pub second : Second
  pub word : Span
  pub target : Expression

abbrev pub loop_yield : Loop → Items → Items
loop_yield lp items = name_yield lp.first (second_yield lp.second (mark (Operation In) lp.word (expression_yield lp.target items)))

-- no variable is reserved, and the target is in the loop
abbrev pub FitsLoop : Limits → Loop → Type 0
FitsLoop l lp = AreVariables lp.first lp.second × IsExpression l true lp.target

abbrev pub loop_output : Loop → Nodes → Nodes → Stmt
loop_output lp body other =
    tree.ForLoop (key_variable lp.first lp.second) (value_variable lp.first lp.second) (expression_output true lp.target) body other

-- filters, each after its bar
pub data Filters : Type 0 where
  NoFilters : Filters
  Piped : Span → Filtering → Filters → Filters

abbrev pub filters_yield : Filters → Items → Items
filters_yield NoFilters items = items
filters_yield (Piped bar f fs) items = mark Bar bar (filter_yield f (filters_yield fs items))

abbrev pub AreFilters : Limits → Bool → Filters → Type 0
AreFilters l in_loop NoFilters = Unit {0}
AreFilters l in_loop (Piped bar f fs) = IsFilter l in_loop f × AreFilters l in_loop fs

abbrev pub filters_output : Bool → Filters → List Expr
filters_output in_loop NoFilters = []
filters_output in_loop (Piped bar f fs) = filter_output in_loop bar f ∷ filters_output in_loop fs

-- The tags around a body that is taken as a value: it is set, with filters; it has filters, the first after the word
-- `filter`; or it is the body of a component's call.
pub data Capture : Type 0 where
  SetBody : Bool → Tag → Name → Filters → Tag → Capture
  Section : Tag → Filtering → Filters → Tag → Capture
  CallBody : Tag → ComponentName → Attributes → Span → Tag → ComponentName → Span → Capture

abbrev pub capture_yield : Capture → Items → Items
capture_yield (SetBody global t n fs e) items = keyword (set_word global) t (name_yield n (filters_yield fs (finish t items)))
capture_yield (Section t f fs e) items = keyword (codes "filter") t (filter_yield f (filters_yield fs (finish t items)))
capture_yield (CallBody t n a last e m end) items =
    start_with (Symbol (codes "<")) t (component_yield n (attributes_yield a (mark (Operation GreaterThan) last (finish t items))))

abbrev pub capture_end : Capture → Items → Items
capture_end (SetBody global t n fs e) items = keyword (codes "endset") e (finish e items)
capture_end (Section t f fs e) items = keyword (codes "endfilter") e (finish e items)
capture_end (CallBody t n a last e m end) items = start_with (Symbol (codes "</")) e (component_yield m (mark (Operation GreaterThan) end (finish e items)))

abbrev pub FitsCapture : Limits → Bool → Capture → Type 0
FitsCapture l in_loop (SetBody global t n fs e) = (is_reserved n.text ≡ false) × AreFilters l in_loop fs
FitsCapture l in_loop (Section t f fs e) = IsFilter l in_loop f × AreFilters l in_loop fs
FitsCapture l in_loop (CallBody t n a last e m end) = AreAttributes l in_loop a × (bytes_eq (component_text m) (component_text n) ≡ true)

abbrev pub capture_output : Bool → Capture → Nodes → Stmt
capture_output in_loop (SetBody global t n fs e) body = tree.BlockSet n.text (filters_of (filters_output in_loop fs)) body global
capture_output in_loop (Section t f fs e) body =
    tree.FilterSection (filters_of (filter_output in_loop t.first f ∷ filters_output in_loop fs)) body
capture_output in_loop (CallBody t n a last e m end) body =
    tree.Shown (tree.ComponentCall (component_text n) (attributes_output in_loop a) body false (spanning t.first end))
