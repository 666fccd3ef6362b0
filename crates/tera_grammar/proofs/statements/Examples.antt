-- Templates that are read, and such as are not: the definitions are run on their tokens.
use Rattle.std.proofs.Common.{◌≡◌, ℕ, Bool, true, false, List, [], ◌∷◌, codes, Option, Some, None, refl}
use Rattle.std.specs.Prelude.{pos, negsuc}
use Rattle.tera_base.specs.declared.utils.Span.{Span}
use Rattle.tera_lexer.specs.grammar.Tokens as toks
use Rattle.tera_lexer.specs.grammar.Tokens.{Tok, Items, Ended, Token, Ident, Symbol}
use Rattle.tera_lexer.specs.declared.lexer.delimiters.Kind.TheVariants as kind
use Rattle.tera_base.specs.Values as values
use Rattle.tera_ast.specs.View as view
use Rattle.tera_tree.specs.declared.ast.ArgType.{ArgType}
use Rattle.tera_tree.specs.declared.ast.ArgType.TheVariants as types
use Rattle.tera_ast.specs.Tree as tree
use Rattle.tera_ast.specs.Tree.{Stmt}
use Rattle.tera_tree.specs.Tree.{Output, Argument}
use Rattle.tera_ast.specs.View.{nodes_of}
use Rattle.tera_grammar.specs.Words.{is_none, is_reserved, is_loop_field}
use Rattle.tera_grammar.specs.expressions.Reading.Front.{link_of, head_mark, begins_sign}
use Rattle.tera_grammar.proofs.plain.expressions.Reading.Front.{skip, bump, name_of, literal_at, quote_at, front_of_token}
use Rattle.tera_grammar.specs.expressions.Reading.Rooms.{inside_subscript, inside_array}
use Rattle.tera_grammar.proofs.plain.expressions.Reading.Bracketed.{extra_of, part_of, slice_of, sub_of, element_of, after_element, row_by, row_of, arguments_by, arguments_of, args_of, links_by, links_of, dotted_by, dotted_of, attributes_by, attributes_of}
use Rattle.tera_grammar.proofs.plain.expressions.Reading.Atoms.{prefix_of, paren_of, variables_of, comprehension_of, items_from, array_of, map_of, component_of, chain_of, word_head}
use Rattle.tera_grammar.proofs.plain.expressions.Reading.Loop.{operator_of, suffix_in, join_of, close_of, step as inner_step, loop_by, expr, fresh}
use Rattle.tera_grammar.proofs.plain.expressions.Reading.Whole.{expression_of, filter_of, all_attributes, path_of, literal_array_of, literal_map_of}
use Rattle.tera_grammar.specs.Options.{◌>>=◌}
use Rattle.tera_grammar.specs.statements.Expressions.{array_output, map_output}
use Rattle.tera_grammar.specs.statements.Output.{output_of}
use Rattle.tera_grammar.specs.statements.Types.{Sorted}
use Rattle.tera_grammar.specs.statements.Top.{is_blank}
use Rattle.tera_grammar.proofs.plain.statements.Reading.{else_in, branch_in, branches_by, branches, set_after, set_of, include_of, extends_of, break_of, block_end, block_of, component_def_of, section_of, call_end, call_of, for_of, if_of, shown_of, step, items_by, items, body, top_step, top_by, top, template}
use Rattle.tera_grammar.proofs.plain.statements.Reading.Heads.{loop_of, filters_in, filters_by, filters_of}
use Rattle.tera_grammar.proofs.plain.statements.Reading.Components.{default_by, default_at, default_of, annotation_in, assigned_in, parameter_after, parameters_after, parameters_at, parameters_in, parameters_by, parameters_of, metadata_in, opened_of, end_name_in, ending_of}

-- what the tokens are read as, with room for three bodies
read : Items → Option Output
unfolding array_output map_output else_in branch_in branches_by branches set_after set_of include_of extends_of break_of block_end block_of component_def_of section_of call_end call_of for_of if_of shown_of step items_by items body top_step top_by top template loop_of filters_in filters_by filters_of default_by default_at default_of annotation_in assigned_in parameter_after parameters_after parameters_at parameters_in parameters_by parameters_of metadata_in opened_of end_name_in ending_of is_none is_reserved is_loop_field skip bump name_of literal_at quote_at link_of front_of_token head_mark begins_sign inside_subscript inside_array extra_of part_of slice_of sub_of element_of after_element row_by row_of arguments_by arguments_of args_of links_by links_of dotted_by dotted_of attributes_by attributes_of prefix_of paren_of variables_of comprehension_of items_from array_of map_of component_of chain_of word_head operator_of suffix_in join_of close_of inner_step loop_by expr fresh expression_of filter_of all_attributes path_of literal_array_of literal_map_of
read ts = template (record { depth = 3; links = 3; subscripts = 1; arrays = 1; bodies = 3 }) ts >>= λ b. Some (output_of b)

module _ (s : Span) where
  abbrev text : List ℕ → Items → Items
  text t r = Token (toks.Content t) s r

  -- the tokens of a tag
  abbrev all : List Tok → Items → Items
  all [] r = Token (toks.Finish kind.Block false) s r
  all (t ∷ ts) r = Token t s (all ts r)

  abbrev tag : List Tok → Items → Items
  tag ts r = Token (toks.Start kind.Block true) s (all ts r)

  abbrev word : List ℕ → Tok
  word w = Ident w

  abbrev op : List ℕ → Tok
  op o = Symbol o

  abbrev var : List ℕ → tree.Expr
  var n = tree.Var n s

  abbrev nodes : List Stmt → Option Output
  nodes ns = Some (record { parent = None; nodes = ns; definitions = [] })

  for_else : read (tag (word (codes "for") ∷ word (codes "a") ∷ word (codes "in") ∷ word (codes "b") ∷ []) (text (codes "x")
      (tag (word (codes "else") ∷ []) (tag (word (codes "block") ∷ word (codes "c") ∷ []) (tag (word (codes "endblock") ∷ []) (tag (word (codes "endfor") ∷ []) Ended))))))
      ≡ nodes (tree.ForLoop None (codes "a") (var (codes "b")) (nodes_of (tree.Content (codes "x") ∷ [])) (nodes_of (tree.Block (codes "c") s (nodes_of []) ∷ [])) ∷ [])
  unfolding read
  for_else = refl

  pairs : read (tag (word (codes "for") ∷ word (codes "k") ∷ op (codes ",") ∷ word (codes "v") ∷ word (codes "in") ∷ word (codes "b") ∷ []) (tag (word (codes "break") ∷ []) (tag (word (codes "endfor") ∷ []) Ended)))
      ≡ nodes (tree.ForLoop (Some (codes "k")) (codes "v") (var (codes "b")) (nodes_of (tree.Break ∷ [])) (nodes_of []) ∷ [])
  unfolding read
  pairs = refl

  no_reserved_loop : read (tag (word (codes "for") ∷ word (codes "loop") ∷ word (codes "in") ∷ word (codes "b") ∷ []) (tag (word (codes "endfor") ∷ []) Ended)) ≡ None
  unfolding read
  no_reserved_loop = refl

  no_extends_inside : read (tag (word (codes "for") ∷ word (codes "a") ∷ word (codes "in") ∷ word (codes "b") ∷ []) (text (codes "x")
      (tag (word (codes "else") ∷ []) (tag (word (codes "extends") ∷ toks.Str (codes "p") ∷ []) (tag (word (codes "endfor") ∷ []) Ended))))) ≡ None
  unfolding read
  no_extends_inside = refl

  no_two_blocks : read (tag (word (codes "block") ∷ word (codes "a") ∷ []) (tag (word (codes "block") ∷ word (codes "a") ∷ []) (tag (word (codes "endblock") ∷ []) (tag (word (codes "endblock") ∷ []) Ended)))) ≡ None
  unfolding read
  no_two_blocks = refl

  child : read (tag (word (codes "extends") ∷ toks.Str (codes "p") ∷ []) (tag (word (codes "block") ∷ word (codes "a") ∷ []) (text (codes "x") (tag (word (codes "endblock") ∷ word (codes "a") ∷ []) Ended))))
      ≡ Some (record { parent = Some (codes "p"); nodes = tree.Block (codes "a") s (nodes_of (tree.Content (codes "x") ∷ [])) ∷ []; definitions = [] })
  unfolding read
  child = refl

  no_include_in_child : read (tag (word (codes "extends") ∷ toks.Str (codes "p") ∷ []) (tag (word (codes "include") ∷ toks.Str (codes "q") ∷ []) Ended)) ≡ None
  unfolding read
  no_include_in_child = refl

  no_late_extends : read (tag (word (codes "include") ∷ toks.Str (codes "q") ∷ []) (tag (word (codes "extends") ∷ toks.Str (codes "p") ∷ []) Ended)) ≡ None
  unfolding read
  no_late_extends = refl

  no_second_extends : read (tag (word (codes "extends") ∷ toks.Str (codes "p") ∷ []) (tag (word (codes "extends") ∷ toks.Str (codes "p") ∷ []) Ended)) ≡ None
  unfolding read
  no_second_extends = refl

  elif : read (tag (word (codes "if") ∷ word (codes "a") ∷ []) (text (codes "x") (tag (word (codes "elif") ∷ word (codes "b") ∷ []) (text (codes "y") (tag (word (codes "else") ∷ []) (text (codes "z") (tag (word (codes "endif") ∷ []) Ended)))))))
      ≡ nodes (tree.If (var (codes "a")) (nodes_of (tree.Content (codes "x") ∷ [])) (nodes_of (tree.If (var (codes "b")) (nodes_of (tree.Content (codes "y") ∷ [])) (nodes_of (tree.Content (codes "z") ∷ [])) ∷ [])) ∷ [])
  unfolding read
  elif = refl

  no_stray_end : read (text (codes "x") (tag (word (codes "endif") ∷ []) Ended)) ≡ None
  unfolding read
  no_stray_end = refl

  no_open_body : read (tag (word (codes "if") ∷ word (codes "a") ∷ []) (text (codes "x") Ended)) ≡ None
  unfolding read
  no_open_body = refl

  set_value : read (tag (word (codes "set_global") ∷ word (codes "x") ∷ op (codes "=") ∷ word (codes "y") ∷ []) Ended) ≡ nodes (tree.Set (codes "x") (var (codes "y")) true ∷ [])
  unfolding read
  set_value = refl

  set_body : read (tag (word (codes "set") ∷ word (codes "x") ∷ op (codes "|") ∷ word (codes "f") ∷ op (codes "|") ∷ word (codes "g") ∷ []) (text (codes "t") (tag (word (codes "endset") ∷ []) Ended)))
      ≡ nodes (tree.BlockSet (codes "x") (view.filters_of (tree.Filter (tree.Const values.Nothing s) (codes "f") tree.NoArgs s ∷ tree.Filter (tree.Const values.Nothing s) (codes "g") tree.NoArgs s ∷ [])) (nodes_of (tree.Content (codes "t") ∷ [])) false ∷ [])
  unfolding read
  set_body = refl

  no_set_end : read (tag (word (codes "set_global") ∷ word (codes "x") ∷ []) (tag (word (codes "endset_global") ∷ []) Ended)) ≡ None
  unfolding read
  no_set_end = refl

  section : read (tag (word (codes "filter") ∷ word (codes "f") ∷ []) (tag (word (codes "include") ∷ toks.Escaped (codes "t") ∷ []) (tag (word (codes "endfilter") ∷ []) Ended)))
      ≡ nodes (tree.FilterSection (view.filters_of (tree.Filter (tree.Const values.Nothing s) (codes "f") tree.NoArgs s ∷ [])) (nodes_of (tree.Include (codes "t") s ∷ [])) ∷ [])
  unfolding read
  section = refl

  no_break_in_capture : read (tag (word (codes "for") ∷ word (codes "a") ∷ word (codes "in") ∷ word (codes "b") ∷ []) (tag (word (codes "filter") ∷ word (codes "f") ∷ [])
      (tag (word (codes "break") ∷ []) (tag (word (codes "endfilter") ∷ []) (tag (word (codes "endfor") ∷ []) Ended))))) ≡ None
  unfolding read
  no_break_in_capture = refl

  continue_in_if : read (tag (word (codes "for") ∷ word (codes "a") ∷ word (codes "in") ∷ word (codes "b") ∷ []) (tag (word (codes "if") ∷ word (codes "c") ∷ [])
      (tag (word (codes "continue") ∷ []) (tag (word (codes "endif") ∷ []) (tag (word (codes "endfor") ∷ []) Ended)))))
      ≡ nodes (tree.ForLoop None (codes "a") (var (codes "b")) (nodes_of (tree.If (var (codes "c")) (nodes_of (tree.Continue ∷ [])) (nodes_of []) ∷ [])) (nodes_of []) ∷ [])
  unfolding read
  continue_in_if = refl

  -- a fourth body is too deep
  no_fourth_body : read (tag (word (codes "if") ∷ word (codes "a") ∷ []) (tag (word (codes "if") ∷ word (codes "a") ∷ []) (tag (word (codes "if") ∷ word (codes "a") ∷ [])
      (tag (word (codes "endif") ∷ []) (tag (word (codes "endif") ∷ []) (tag (word (codes "endif") ∷ []) Ended)))))) ≡ None
  unfolding read
  no_fourth_body = refl

  call : read (tag (op (codes "<") ∷ word (codes "c") ∷ op (codes ">") ∷ []) (text (codes "t") (tag (op (codes "</") ∷ word (codes "c") ∷ op (codes ">") ∷ []) Ended)))
      ≡ nodes (tree.Shown (tree.ComponentCall (codes "c") tree.NoEntries (nodes_of (tree.Content (codes "t") ∷ [])) false s) ∷ [])
  unfolding read
  call = refl

  dotted_call : read (tag (op (codes "<") ∷ word (codes "c") ∷ op (codes ".") ∷ word (codes "d") ∷ op (codes ">") ∷ []) (tag (op (codes "</") ∷ word (codes "c") ∷ op (codes ".") ∷ word (codes "d") ∷ op (codes ">") ∷ []) Ended))
      ≡ nodes (tree.Shown (tree.ComponentCall (codes "c.d") tree.NoEntries (nodes_of []) false s) ∷ [])
  unfolding read
  dotted_call = refl

  no_other_end : read (tag (op (codes "<") ∷ word (codes "c") ∷ op (codes ">") ∷ []) (tag (op (codes "</") ∷ word (codes "d") ∷ op (codes ">") ∷ []) Ended)) ≡ None
  unfolding read
  no_other_end = refl

  -- the definition of a component with these tokens between its parentheses
  abbrev component : List Tok → Items
  component parameters =
      Token (toks.Start kind.Block false) s (Token (word (codes "component")) s (Token (word (codes "b")) s (Token (op (codes "(")) s (all parameters
      (text (codes "t") (tag (word (codes "endcomponent") ∷ word (codes "b") ∷ []) Ended))))))

  abbrev argument : Option values.Val → Option ArgType → Bool → Argument
  argument default type implicit = record { default = default; typ = type; implicit = implicit }

  definition : read (component (word (codes "label") ∷ op (codes ":") ∷ word (codes "String") ∷ op (codes ",") ∷ word (codes "size") ∷ op (codes ":") ∷ word (codes "number") ∷ op (codes "=") ∷ op (codes "-") ∷ toks.Integer (pos 1)
      ∷ op (codes ",") ∷ word (codes "kind") ∷ op (codes "=") ∷ toks.Str (codes "p") ∷ op (codes ",") ∷ op (codes "@") ∷ word (codes "all") ∷ op (codes "=") ∷ word (codes "null") ∷ op (codes ",") ∷ op (codes "...") ∷ word (codes "rest") ∷ op (codes ")")
      ∷ op (codes "{") ∷ op (codes "}") ∷ []))
      ≡ Some (record {
        parent = None;
        nodes = [];
        definitions = record {
          name = codes "b";
          arguments = (codes "all", argument (Some values.Nothing) None true) ∷ (codes "kind", argument (Some (values.Text (codes "p"))) (Some types.String) false)
              ∷ (codes "label", argument None (Some types.String) false) ∷ (codes "size", argument (Some (values.I64 (negsuc 0))) (Some types.Number) false) ∷ [];
          rest = Some (codes "rest");
          metadata = [];
          body = tree.Content (codes "t") ∷ [];
        } ∷ [];
      })
  unfolding read
  definition = refl

  no_wrong_default : read (component (word (codes "a") ∷ op (codes ":") ∷ word (codes "string") ∷ op (codes "=") ∷ toks.Integer (pos 1) ∷ op (codes ")") ∷ [])) ≡ None
  unfolding read
  no_wrong_default = refl

  no_two_parameters : read (component (word (codes "a") ∷ op (codes ",") ∷ op (codes "...") ∷ word (codes "a") ∷ op (codes ")") ∷ [])) ≡ None
  unfolding read
  no_two_parameters = refl

  no_more_after_rest : read (component (op (codes "...") ∷ word (codes "a") ∷ op (codes ",") ∷ op (codes ")") ∷ [])) ≡ None
  unfolding read
  no_more_after_rest = refl

  no_body_parameter : read (component (word (codes "body") ∷ op (codes ")") ∷ [])) ≡ None
  unfolding read
  no_body_parameter = refl

  no_nested_definition : read (tag (word (codes "block") ∷ word (codes "a") ∷ []) (component (op (codes ")") ∷ []))) ≡ None
  unfolding read
  no_nested_definition = refl

  -- with what expressions, filters, attributes and constants hold
  loop_field : read (tag (word (codes "for") ∷ word (codes "a") ∷ word (codes "in") ∷ word (codes "b") ∷ []) (Token (toks.Start kind.Variable false) s
      (Token (word (codes "loop")) s (Token (op (codes ".")) s (Token (word (codes "index")) s (Token (toks.Finish kind.Variable false) s (tag (word (codes "endfor") ∷ []) Ended)))))))
      ≡ nodes (tree.ForLoop None (codes "a") (var (codes "b")) (nodes_of (tree.Shown (var (codes "__tera_loop_index")) ∷ [])) (nodes_of []) ∷ [])
  unfolding read
  loop_field = refl

  filter_arguments : read (tag (word (codes "set") ∷ word (codes "x") ∷ op (codes "|") ∷ word (codes "f") ∷ op (codes "(") ∷ word (codes "n") ∷ op (codes "=") ∷ toks.Integer (pos 1) ∷ op (codes ")") ∷ []) (tag (word (codes "endset") ∷ []) Ended))
      ≡ nodes (tree.BlockSet (codes "x") (view.filters_of (tree.Filter (tree.Const values.Nothing s) (codes "f") (tree.Arg (codes "n") (tree.Const (values.I64 (pos 1)) s) tree.NoArgs) s ∷ [])) (nodes_of []) false ∷ [])
  unfolding read
  filter_arguments = refl

  call_attributes : read (tag (op (codes "<") ∷ word (codes "c") ∷ word (codes "on") ∷ word (codes "t") ∷ op (codes "=") ∷ toks.Str (codes "x") ∷ op (codes ">") ∷ []) (tag (op (codes "</") ∷ word (codes "c") ∷ op (codes ">") ∷ []) Ended))
      ≡ nodes (tree.Shown (tree.ComponentCall (codes "c") (tree.Entry (values.TextKey (codes "on")) (var (codes "on")) (tree.Entry (values.TextKey (codes "t")) (tree.Const (values.Text (codes "x")) s) tree.NoEntries)) (nodes_of []) false s) ∷ [])
  unfolding read
  call_attributes = refl

  constants : read (component (word (codes "a") ∷ op (codes "=") ∷ op (codes "[") ∷ toks.Integer (pos 1) ∷ op (codes "]") ∷ op (codes ")") ∷ op (codes "{") ∷ toks.Str (codes "doc") ∷ op (codes ":") ∷ toks.Truth true ∷ op (codes "}") ∷ []))
      ≡ Some (record {
        parent = None;
        nodes = [];
        definitions = record {
          name = codes "b";
          arguments = (codes "a", argument (Some (values.Array (values.OneVal (values.I64 (pos 1)) values.NoVals))) (Some types.Array) false) ∷ [];
          rest = None;
          metadata = (codes "doc", values.Truth true) ∷ [];
          body = tree.Content (codes "t") ∷ [];
        } ∷ [];
      })
  unfolding read
  constants = refl

  no_variable_in_a_default : read (component (word (codes "a") ∷ op (codes "=") ∷ op (codes "[") ∷ word (codes "x") ∷ op (codes "]") ∷ op (codes ")") ∷ [])) ≡ None
  unfolding read
  no_variable_in_a_default = refl

  -- What may be where.

  no_block_in_a_loop : read (tag (word (codes "for") ∷ word (codes "a") ∷ word (codes "in") ∷ word (codes "b") ∷ []) (tag (word (codes "block") ∷ word (codes "c") ∷ []) (tag (word (codes "endblock") ∷ []) (tag (word (codes "endfor") ∷ []) Ended)))) ≡ None
  unfolding read
  no_block_in_a_loop = refl

  no_break_alone : read (tag (word (codes "break") ∷ []) Ended) ≡ None
  unfolding read
  no_break_alone = refl

  no_break_in_an_else : read (tag (word (codes "for") ∷ word (codes "a") ∷ word (codes "in") ∷ word (codes "b") ∷ []) (tag (word (codes "else") ∷ []) (tag (word (codes "break") ∷ []) (tag (word (codes "endfor") ∷ []) Ended)))) ≡ None
  unfolding read
  no_break_in_an_else = refl

  break_of_the_outer_loop : read (tag (word (codes "for") ∷ word (codes "a") ∷ word (codes "in") ∷ word (codes "b") ∷ []) (tag (word (codes "for") ∷ word (codes "a") ∷ word (codes "in") ∷ word (codes "b") ∷ []) (tag (word (codes "else") ∷ []) (tag (word (codes "break") ∷ []) (tag (word (codes "endfor") ∷ []) (tag (word (codes "endfor") ∷ []) Ended))))))
      ≡ nodes (tree.ForLoop None (codes "a") (var (codes "b")) (nodes_of (tree.ForLoop None (codes "a") (var (codes "b")) (nodes_of []) (nodes_of (tree.Break ∷ [])) ∷ [])) (nodes_of []) ∷ [])
  unfolding read
  break_of_the_outer_loop = refl

  no_definition_in_an_if : read (tag (word (codes "if") ∷ word (codes "a") ∷ []) (tag (word (codes "component") ∷ word (codes "c") ∷ op (codes "(") ∷ op (codes ")") ∷ []) (tag (word (codes "endcomponent") ∷ []) (tag (word (codes "endif") ∷ []) Ended)))) ≡ None
  unfolding read
  no_definition_in_an_if = refl

  no_extends_in_an_if : read (tag (word (codes "if") ∷ word (codes "a") ∷ []) (tag (word (codes "extends") ∷ toks.Str (codes "p") ∷ []) (tag (word (codes "endif") ∷ []) Ended))) ≡ None
  unfolding read
  no_extends_in_an_if = refl

  no_block_in_a_definition : read (tag (word (codes "component") ∷ word (codes "c") ∷ op (codes "(") ∷ op (codes ")") ∷ []) (tag (word (codes "block") ∷ word (codes "a") ∷ []) (tag (word (codes "endblock") ∷ []) (tag (word (codes "endcomponent") ∷ []) Ended)))) ≡ None
  unfolding read
  no_block_in_a_definition = refl

  no_other_end_of_a_block : read (tag (word (codes "block") ∷ word (codes "a") ∷ []) (tag (word (codes "endblock") ∷ word (codes "b") ∷ []) Ended)) ≡ None
  unfolding read
  no_other_end_of_a_block = refl

  no_other_end_of_a_definition : read (tag (word (codes "component") ∷ word (codes "c") ∷ op (codes "(") ∷ op (codes ")") ∷ []) (tag (word (codes "endcomponent") ∷ word (codes "d") ∷ []) Ended)) ≡ None
  unfolding read
  no_other_end_of_a_definition = refl

  no_reserved_set : read (tag (word (codes "set") ∷ word (codes "loop") ∷ op (codes "=") ∷ toks.Integer (pos 1) ∷ []) Ended) ≡ None
  unfolding read
  no_reserved_set = refl

  no_two_components : read (tag (word (codes "component") ∷ word (codes "c") ∷ op (codes "(") ∷ op (codes ")") ∷ []) (tag (word (codes "endcomponent") ∷ []) (tag (word (codes "component") ∷ word (codes "c") ∷ op (codes "(") ∷ op (codes ")") ∷ []) (tag (word (codes "endcomponent") ∷ []) Ended)))) ≡ None
  unfolding read
  no_two_components = refl

  no_such_tag : read (tag (word (codes "foo") ∷ []) Ended) ≡ None
  unfolding read
  no_such_tag = refl

  -- A template that extends another; what white space is, is not computed here.

  definition_before_extends : is_blank (codes " ") ≡ true → read (tag (word (codes "component") ∷ word (codes "c") ∷ op (codes "(") ∷ op (codes ")") ∷ []) (tag (word (codes "endcomponent") ∷ []) (text (codes " ") (tag (word (codes "extends") ∷ toks.Str (codes "p") ∷ []) Ended))))
      ≡ Some (record {
        parent = Some (codes "p");
        nodes = tree.Content (codes " ") ∷ [];
        definitions = record { name = codes "c"; arguments = []; rest = None; metadata = []; body = [] } ∷ [];
      })
  unfolding read
  definition_before_extends blank = rw blank refl

  white_space_in_a_child : is_blank (codes " ") ≡ true → read (tag (word (codes "extends") ∷ toks.Str (codes "p") ∷ []) (text (codes " ") (tag (word (codes "block") ∷ word (codes "a") ∷ []) (text (codes "x") (tag (word (codes "endblock") ∷ word (codes "a") ∷ []) Ended)))))
      ≡ Some (record {
        parent = Some (codes "p");
        nodes = tree.Content (codes " ") ∷ tree.Block (codes "a") s (nodes_of (tree.Content (codes "x") ∷ [])) ∷ [];
        definitions = [];
      })
  unfolding read
  white_space_in_a_child blank = rw blank refl

  no_text_in_a_child : is_blank (codes "hi") ≡ false → read (tag (word (codes "extends") ∷ toks.Str (codes "p") ∷ []) (text (codes "hi") Ended)) ≡ None
  unfolding read
  no_text_in_a_child blank = rw blank refl

  no_loop_in_a_child : read (tag (word (codes "extends") ∷ toks.Str (codes "p") ∷ []) (tag (word (codes "for") ∷ word (codes "a") ∷ word (codes "in") ∷ word (codes "b") ∷ []) (tag (word (codes "endfor") ∷ []) Ended))) ≡ None
  unfolding read
  no_loop_in_a_child = refl

  no_text_before_extends : is_blank (codes "hi") ≡ false → read (text (codes "hi") (tag (word (codes "extends") ∷ toks.Str (codes "p") ∷ []) Ended)) ≡ None
  unfolding read
  no_text_before_extends blank = rw blank refl

  -- The branches of an `if` lie on one level: with three bodies, two of them around.

  many_branches : read (tag (word (codes "if") ∷ word (codes "a") ∷ []) (tag (word (codes "if") ∷ word (codes "a") ∷ []) (tag (word (codes "elif") ∷ word (codes "b") ∷ []) (tag (word (codes "elif") ∷ word (codes "c") ∷ []) (tag (word (codes "else") ∷ []) (tag (word (codes "endif") ∷ []) (tag (word (codes "endif") ∷ []) Ended)))))))
      ≡ nodes (tree.If (var (codes "a")) (nodes_of (tree.If (var (codes "a")) (nodes_of []) (nodes_of (tree.If (var (codes "b")) (nodes_of []) (nodes_of (tree.If (var (codes "c")) (nodes_of []) (nodes_of []) ∷ [])) ∷ [])) ∷ [])) (nodes_of []) ∷ [])
  unfolding read
  many_branches = refl

  -- Parameters, defaults and metadata.
  abbrev defined : Sorted Argument → Option (List ℕ) → Sorted values.Val → Option Output
  defined arguments rest metadata = Some (record {
    parent = None;
    nodes = [];
    definitions = record { name = codes "b"; arguments = arguments; rest = rest; metadata = metadata; body = tree.Content (codes "t") ∷ [] } ∷ [];
  })

  comma_after_the_last : read (component (word (codes "a") ∷ op (codes ",") ∷ op (codes ")") ∷ []))
      ≡ defined ((codes "a", argument None None false) ∷ []) None []
  unfolding read
  comma_after_the_last = refl

  rest_alone : read (component (op (codes "...") ∷ word (codes "r") ∷ op (codes ")") ∷ []))
      ≡ defined [] (Some (codes "r")) []
  unfolding read
  rest_alone = refl

  implicit_first : read (component (op (codes "@") ∷ word (codes "user") ∷ op (codes ",") ∷ word (codes "n") ∷ op (codes ":") ∷ word (codes "number") ∷ op (codes "=") ∷ toks.Integer (pos 2) ∷ op (codes ")") ∷ []))
      ≡ defined ((codes "n", argument (Some (values.I64 (pos 2))) (Some types.Number) false) ∷ (codes "user", argument None None true) ∷ []) None []
  unfolding read
  implicit_first = refl

  no_value_of_any_type : read (component (word (codes "a") ∷ op (codes ":") ∷ word (codes "string") ∷ op (codes "=") ∷ word (codes "none") ∷ op (codes ")") ∷ []))
      ≡ defined ((codes "a", argument (Some values.Nothing) (Some types.String) false) ∷ []) None []
  unfolding read
  no_value_of_any_type = refl

  no_value_gives_no_type : read (component (word (codes "a") ∷ op (codes "=") ∷ word (codes "null") ∷ op (codes ")") ∷ []))
      ≡ defined ((codes "a", argument (Some values.Nothing) None false) ∷ []) None []
  unfolding read
  no_value_gives_no_type = refl

  negative_map : read (component (word (codes "m") ∷ op (codes "=") ∷ op (codes "{") ∷ toks.Str (codes "foo") ∷ op (codes ":") ∷ op (codes "-") ∷ toks.Integer (pos 1) ∷ op (codes "}") ∷ op (codes ")") ∷ []))
      ≡ defined ((codes "m", argument (Some (values.Map (values.OnePair (values.TextKey (codes "foo")) (values.I64 (negsuc 0)) values.NoPairs))) (Some types.Map) false) ∷ []) None []
  unfolding read
  negative_map = refl

  later_key_of_one_text : read (component (op (codes ")") ∷ op (codes "{") ∷ toks.Truth true ∷ op (codes ":") ∷ toks.Str (codes "x") ∷ op (codes ",") ∷ toks.Str (codes "a") ∷ op (codes ":") ∷ toks.Integer (pos 5) ∷ op (codes ",") ∷ toks.Str (codes "true") ∷ op (codes ":") ∷ toks.Str (codes "y") ∷ op (codes "}") ∷ []))
      ≡ defined [] None ((codes "a", values.I64 (pos 5)) ∷ (codes "true", values.Text (codes "y")) ∷ [])
  unfolding read
  later_key_of_one_text = refl

  no_unknown_type : read (component (word (codes "a") ∷ op (codes ":") ∷ word (codes "float") ∷ op (codes ")") ∷ [])) ≡ None
  unfolding read
  no_unknown_type = refl

  no_sum_as_a_default : read (component (word (codes "a") ∷ op (codes "=") ∷ toks.Integer (pos 1) ∷ op (codes "+") ∷ toks.Integer (pos 1) ∷ op (codes ")") ∷ [])) ≡ None
  unfolding read
  no_sum_as_a_default = refl

  no_variable_in_metadata : read (component (op (codes ")") ∷ op (codes "{") ∷ toks.Str (codes "k") ∷ op (codes ":") ∷ word (codes "x") ∷ op (codes "}") ∷ [])) ≡ None
  unfolding read
  no_variable_in_metadata = refl
