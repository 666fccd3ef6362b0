-- What is read of expressions is what the plain reading reads, which gives an option and does not say where it stops.
-- `plain_` names the functions of the plain reading, `full_` those of the reading itself.
use Rattle.std.proofs.Common.{◌≡◌, ℕ, zero, suc, Bool, true, false, cond, ltb, List, [], ◌∷◌, ◌++◌, Option, Some, None, refl, ap, ◌∙◌}
use Rattle.tera_base.specs.declared.utils.Span.{Span}
use Rattle.tera_lexer.specs.code.Cursors.{size}
use Rattle.tera_lexer.specs.grammar.Tokens.{Tok, Items, Ended, Failed, Token, Ident, Symbol}
use Rattle.tera_grammar.specs.Options.{◌>>=◌}
use Rattle.tera_lexer.specs.grammar.Words.{is_one_of}
use Rattle.tera_grammar.specs.Words.{is_none, is_not, is_reserved}
use Rattle.tera_grammar.specs.expressions.Operators.{Minus, LessThan, Div, GreaterThan, In}
use Rattle.tera_grammar.specs.expressions.Marks.{Mark, mark_token, LeftParen, RightParen, LeftBracket, RightBracket, LeftBrace, RightBrace, Comma, Colon, Dot, Spread, Assign, For, If, Not, Is, Bar, Else, Operation}
use Rattle.tera_grammar.specs.expressions.Concrete.{Name, Quote, Lit, Kind, of_arguments, of_items, of_entries, closing, Sign, Tree, Links, Part, Row, Element, plain, spread, pair, argument, Dotted, Attributes, Negation, plainly, negated}
use Rattle.tera_grammar.specs.expressions.Conditions.{is_field_of, is_refused}
use Rattle.tera_grammar.specs.expressions.Powers.{sign_power, right_power}
use Rattle.tera_grammar.specs.expressions.Output.{of_loop}
use Rattle.tera_grammar.specs.expressions.Reading.Front.{Place, at, same_token, lowered, literal_of, quote_of, among, front_marks, Link, no_link, jointed, bracketed, called, link_of, Lead, leads_binary, leads_condition, Ending, ends_test, ends_filter, ends_subscript, lead_power, keeps_out, begins_sign, head_mark, moved as full_moved, takes as full_takes, taken_name as full_taken_name, taken_quote as full_taken_quote, literal_kind as full_literal_kind, placed as full_placed, skip as full_skip, name_of as full_name_of, literal_at as full_literal_at, quote_at as full_quote_at, Front as full_Front, nothing as full_nothing, joins as full_joins, closes as full_closes, misplaced as full_misplaced, front_not as full_front_not, marked_front as full_marked_front, front_of_token as full_front_of_token, front as full_front, Reads as full_Reads}
use Rattle.tera_grammar.specs.expressions.Reading.Bracketed.{linked, Reader as full_Reader, extra_at as full_extra_at, extra_of as full_extra_of, part_at as full_part_at, part_of as full_part_of, slice_of as full_slice_of, index_at as full_index_at, sub_at as full_sub_at, sub_of as full_sub_of, item_at as full_item_at, entry_at as full_entry_at, argument_at as full_argument_at, element_of as full_element_of, comma_at as full_comma_at, after_element as full_after_element, row_at as full_row_at, row_by as full_row_by, row_of as full_row_of, arguments_at as full_arguments_at, arguments_by as full_arguments_by, arguments_of as full_arguments_of, args_at as full_args_at, args_of as full_args_of, links_at as full_links_at, links_by as full_links_by, links_of as full_links_of, dotted_at as full_dotted_at, dotted_by as full_dotted_by, dotted_of as full_dotted_of, value_at as full_value_at, named_at as full_named_at, attribute_at as full_attribute_at, attributes_by as full_attributes_by, attributes_of as full_attributes_of}
use Rattle.tera_grammar.specs.expressions.Reading.Rooms.{Room, inside_subscript, inside_array}
use Rattle.tera_grammar.specs.expressions.Reading.Loop.{Growth, grow, before, grown as full_grown, operator_of as full_operator_of, test_named as full_test_named, test_at as full_test_at, suffix_in as full_suffix_in, join_of as full_join_of, close_of as full_close_of, step as full_step, go_on as full_go_on, loop_by as full_loop_by, expr as full_expr, fresh as full_fresh}
use Rattle.tera_grammar.proofs.plain.expressions.Reading.Loop.{grown as plain_grown, operator_of as plain_operator_of, test_named as plain_test_named, test_at as plain_test_at, suffix_in as plain_suffix_in, join_of as plain_join_of, close_of as plain_close_of, step as plain_step, go_on as plain_go_on, loop_by as plain_loop_by, expr as plain_expr, fresh as plain_fresh}
use Rattle.tera_grammar.specs.Reads.{Read, found, stopped, bind, given, Takes, first_as, forget}
use Rattle.tera_grammar.proofs.plain.expressions.Reading.Front.{moved as plain_moved, takes as plain_takes, taken_name as plain_taken_name, taken_quote as plain_taken_quote, taken_as as plain_taken_as, skip as plain_skip, name_of as plain_name_of, literal_at as plain_literal_at, quote_at as plain_quote_at, bump as plain_bump, Front as plain_Front, nothing as plain_nothing, joins as plain_joins, closes as plain_closes, misplaced as plain_misplaced, front_not as plain_front_not, marked_front as plain_marked_front, front_of_token as plain_front_of_token, front as plain_front, Reads as plain_Reads}
use Rattle.tera_grammar.proofs.plain.expressions.Reading.Bracketed.{Reader as plain_Reader, extra_at as plain_extra_at, extra_of as plain_extra_of, part_at as plain_part_at, part_of as plain_part_of, slice_of as plain_slice_of, index_at as plain_index_at, sub_at as plain_sub_at, sub_of as plain_sub_of, item_at as plain_item_at, entry_at as plain_entry_at, argument_at as plain_argument_at, element_of as plain_element_of, comma_at as plain_comma_at, after_element as plain_after_element, row_at as plain_row_at, row_by as plain_row_by, row_of as plain_row_of, arguments_at as plain_arguments_at, arguments_by as plain_arguments_by, arguments_of as plain_arguments_of, args_at as plain_args_at, args_of as plain_args_of, links_at as plain_links_at, links_by as plain_links_by, links_of as plain_links_of, dotted_at as plain_dotted_at, dotted_by as plain_dotted_by, dotted_of as plain_dotted_of, value_at as plain_value_at, named_at as plain_named_at, attribute_at as plain_attribute_at, attributes_by as plain_attributes_by, attributes_of as plain_attributes_of}
use Rattle.tera_grammar.specs.expressions.Reading.Atoms.{prefix_of as full_prefix_of, paren_of as full_paren_of, second_at as full_second_at, variables_of as full_variables_of, comprehension_of as full_comprehension_of, items_from as full_items_from, for_at as full_for_at, array_from as full_array_from, array_at as full_array_at, array_of as full_array_of, map_of as full_map_of, component_of as full_component_of, called_at as full_called_at, chain_of as full_chain_of, word_head as full_word_head, mark_head as full_mark_head, literal_head as full_literal_head, head_token as full_head_token, head_in as full_head_in}
use Rattle.tera_grammar.proofs.plain.expressions.Reading.Atoms.{prefix_of as plain_prefix_of, paren_of as plain_paren_of, second_at as plain_second_at, variables_of as plain_variables_of, comprehension_of as plain_comprehension_of, items_from as plain_items_from, for_at as plain_for_at, array_from as plain_array_from, array_at as plain_array_at, array_of as plain_array_of, map_of as plain_map_of, component_of as plain_component_of, called_at as plain_called_at, chain_of as plain_chain_of, word_head as plain_word_head, mark_head as plain_mark_head, literal_head as plain_literal_head, head_token as plain_head_token, head_in as plain_head_in}

-- steps one after another
pub forget_bind : {A B : Type 0} (o : Read A) (f : A → Read B) (p : Option A) (g : A → Option B) → forget o ≡ p → ((x : A) → forget (f x) ≡ g x) → forget (bind o f) ≡ (p >>= g)
forget_bind (stopped z) f p g is goes = ap (λ q. q >>= g) is
forget_bind (found x) f p g is goes = goes x ∙ ap (λ q. q >>= g) is

pub forget_given : {A : Type 0} (z : Items) (o : Option A) → forget (given z o) ≡ o
forget_given z None = refl
forget_given z (Some x) = refl

pub forget_cond : {A : Type 0} (b : Bool) (x y : Read A) (v w : Option A) → forget x ≡ v → forget y ≡ w → forget (cond b x y) ≡ cond b v w
forget_cond true x y v w h k = h
forget_cond false x y v w h k = k

-- a cond that reads nothing, or something
pub nothing_or : {A : Type 0} (b : Bool) (z : Items) (y : Read A) (w : Option A) → forget y ≡ w → forget (cond b (stopped z) y) ≡ cond b None w
nothing_or b z y w h = forget_cond b (stopped z) y None w refl h

pub or_nothing : {A : Type 0} (b : Bool) (z : Items) (y : Read A) (w : Option A) → forget y ≡ w → forget (cond b y (stopped z)) ≡ cond b w None
or_nothing b z y w h = forget_cond b y (stopped z) w None h refl

-- one token
pub takes_forget : (m : Mark) (ts : Items) → forget (full_takes m ts) ≡ plain_takes m ts
takes_forget m Ended = refl
takes_forget m (Failed text there) = refl
takes_forget m (Token t s us) = by (same_token t (mark_token m))
  where
    by : (b : Bool) → forget {A = Span × Items} (bind (given (Token t s us) (cond b (Some s) None)) (λ x. found (x, us))) ≡ cond b (Some (s, us)) None
    by true = refl
    by false = refl

pub name_forget : (ts : Items) → forget (full_taken_name ts) ≡ plain_taken_name ts
name_forget Ended = refl
name_forget (Failed text there) = refl
name_forget (Token (Ident w) s us) = refl
name_forget (Token t s us) = refl

module _ {A : Type 0} (s : Span) (us : Items) where
  pub placed_forget : (z : Items) (o : Option A) → forget {A = (A × Span) × Items} (bind (given z (full_placed s o)) (λ x. found (x, us))) ≡ (o >>= λ x. Some ((x, s), us))
  placed_forget z None = refl
  placed_forget z (Some x) = refl

pub literal_forget : (ts : Items) → forget (first_as full_literal_kind ts) ≡ plain_taken_as literal_of ts
literal_forget Ended = refl
literal_forget (Failed text there) = refl
literal_forget (Token t s us) = placed_forget s us (Token t s us) (literal_of t)

pub quote_forget : (ts : Items) → forget (full_taken_quote ts) ≡ plain_taken_quote ts
quote_forget Ended = refl
quote_forget (Failed text there) = refl
quote_forget (Token t s us) = placed_forget s us (Token t s us) (quote_of t)

moved_forget : {A : Type 0} (k : ℕ) (o : Takes A) → forget (full_moved k o) ≡ plain_moved k (forget o)
moved_forget k (stopped z) = refl
moved_forget k (found x) = refl

pub skip_forget : (m : Mark) (p : Place) → forget (full_skip m p) ≡ plain_skip m p
unfolding full_skip plain_skip
skip_forget m p = moved_forget p.links (full_takes m p.tokens) ∙ ap (plain_moved p.links) (takes_forget m p.tokens)

pub name_of_forget : (p : Place) → forget (full_name_of p) ≡ plain_name_of p
unfolding full_name_of plain_name_of
name_of_forget p = moved_forget p.links (full_taken_name p.tokens) ∙ ap (plain_moved p.links) (name_forget p.tokens)

pub literal_at_forget : (p : Place) → forget (full_literal_at p) ≡ plain_literal_at p
unfolding full_literal_at plain_literal_at
literal_at_forget p = moved_forget p.links (first_as full_literal_kind p.tokens) ∙ ap (plain_moved p.links) (literal_forget p.tokens)

pub quote_at_forget : (p : Place) → forget (full_quote_at p) ≡ plain_quote_at p
unfolding full_quote_at plain_quote_at
quote_at_forget p = moved_forget p.links (full_taken_quote p.tokens) ∙ ap (plain_moved p.links) (quote_forget p.tokens)

-- the further names of a component
dotted_at_forget : (more : Place → full_Reads Dotted) (other : Place → plain_Reads Dotted) → ((p : Place) → forget (more p) ≡ other p) → (p : Place) (o : full_Reads Span)
    → forget (full_dotted_at more p o) ≡ plain_dotted_at other p (forget o)
dotted_at_forget more other same p (stopped z) = refl
dotted_at_forget more other same p (found x) = forget_bind _ _ _ _ (name_of_forget x.1) (λ n. forget_bind _ _ _ _ (same n.1) (λ ds. refl))

dotted_by_forget : (n : ℕ) (p : Place) → forget (full_dotted_by n p) ≡ plain_dotted_by n p
unfolding full_dotted_by plain_dotted_by
dotted_by_forget zero p = refl
dotted_by_forget (suc n) p =
    dotted_at_forget (full_dotted_by n) (plain_dotted_by n) (dotted_by_forget n) p (full_skip Dot p) ∙ ap (plain_dotted_at (plain_dotted_by n) p) (skip_forget Dot p)

pub dotted_forget : (p : Place) → forget (full_dotted_of p) ≡ plain_dotted_of p
unfolding full_dotted_of plain_dotted_of
dotted_forget p = dotted_by_forget (suc (size p.tokens)) p

-- limits
linked_forget : (start : Items) (k : ℕ) (us : Items) → forget (linked start k us) ≡ plain_bump (at k us)
unfolding plain_bump
linked_forget start k us = by (lowered k)
  where
    by : (o : Option ℕ) → forget (bind (given start o) (λ j. found (at j us))) ≡ (o >>= λ j. Some (at j us))
    by None = refl
    by (Some j) = refl

-- the variables of a loop
second_forget : (n : Name) (p : Place) (o : full_Reads Span) → forget (full_second_at n p o) ≡ plain_second_at n p (forget o)
second_forget n p (stopped z) = refl
second_forget n p (found x) = forget_bind _ _ _ _ (name_of_forget x.1) (λ m. nothing_or (is_reserved m.0.text) m.1.tokens _ _ refl)

pub variables_forget : (p : Place) → forget (full_variables_of p) ≡ plain_variables_of p
unfolding full_variables_of plain_variables_of
variables_forget p =
    forget_bind _ _ _ _ (name_of_forget p) (λ n. nothing_or (is_reserved n.0.text) n.1.tokens _ _
    (second_forget n.0 n.1 (full_skip Comma n.1) ∙ ap (plain_second_at n.0 n.1) (skip_forget Comma n.1)))

module _ (self : full_Reader) (f : plain_Reader) (same : (w : Room) (m : ℕ) (p : Place) → forget (self w m p) ≡ f w m p) where
  extra_at_forget : (w : Room) (m : ℕ) (p : Place) (o : full_Reads Span) → forget (full_extra_at self w m p o) ≡ plain_extra_at f w m p (forget o)
  extra_at_forget w m p (stopped z) = refl
  extra_at_forget w m p (found x) = forget_bind _ _ _ _ (same w m x.1) (λ e. refl)

  extra_forget : (w : Room) (c : Mark) (m : ℕ) (p : Place) → forget (full_extra_of self w c m p) ≡ plain_extra_of f w c m p
  unfolding full_extra_of plain_extra_of
  extra_forget w c m p = extra_at_forget w m p (full_skip c p) ∙ ap (plain_extra_at f w m p) (skip_forget c p)

  part_at_forget : (w : Room) (p : Place) (o q : full_Reads Span) → forget (full_part_at self w p o q) ≡ plain_part_at f w p (forget o) (forget q)
  part_at_forget w p (found x) q = refl
  part_at_forget w p (stopped z) (found y) = refl
  part_at_forget w p (stopped z) (stopped y) = forget_bind _ _ _ _ (same w 0 p) (λ e. refl)

  part_forget : (w : Room) (p : Place) → forget (full_part_of self w p) ≡ plain_part_of f w p
  unfolding full_part_of plain_part_of
  part_forget w p =
      part_at_forget w p (full_skip Colon p) (full_skip RightBracket p)
      ∙ ap (λ o. plain_part_at f w p o (forget (full_skip RightBracket p))) (skip_forget Colon p) ∙ ap (plain_part_at f w p (plain_skip Colon p)) (skip_forget RightBracket p)

  slice_forget : (w : Room) (a : Part) (s : Span) (p : Place) → forget (full_slice_of self w a s p) ≡ plain_slice_of f w a s p
  unfolding full_slice_of plain_slice_of
  slice_forget w a s p =
      forget_bind _ _ _ _ (part_forget w p) (λ b. forget_bind _ _ _ _ (extra_forget w Colon 0 b.1) (λ x. forget_bind _ _ _ _ (skip_forget RightBracket x.1) (λ c. refl)))

  index_at_forget : (w : Room) (e : Tree) (p : Place) (o : full_Reads Span) → forget (full_index_at self w e p o) ≡ plain_index_at f w e p (forget o)
  index_at_forget w e p (found x) = slice_forget w _ x.0 x.1
  index_at_forget w e p (stopped z) = forget_bind _ _ _ _ (skip_forget RightBracket p) (λ c. refl)

  sub_at_forget : (w : Room) (p : Place) (o : full_Reads Span) → forget (full_sub_at self w p o) ≡ plain_sub_at f w p (forget o)
  sub_at_forget w p (found x) = slice_forget w _ x.0 x.1
  sub_at_forget w p (stopped z) =
      forget_bind _ _ _ _ (same w 0 p) (λ e. index_at_forget w e.0 e.1 (full_skip Colon e.1) ∙ ap (plain_index_at f w e.0 e.1) (skip_forget Colon e.1))

  sub_forget : (w : Room) (p : Place) → forget (full_sub_of self w p) ≡ plain_sub_of f w p
  unfolding full_sub_of plain_sub_of
  sub_forget w p =
      forget_bind _ _ _ _ (forget_given p.tokens (inside_subscript w)) (λ v. sub_at_forget v p (full_skip Colon p) ∙ ap (plain_sub_at f v p) (skip_forget Colon p))

  item_at_forget : (w : Room) (p : Place) (o : full_Reads Span) → forget (full_item_at self w p o) ≡ plain_item_at f w p (forget o)
  item_at_forget w p (found x) = forget_bind _ _ _ _ (same w 0 x.1) (λ e. refl)
  item_at_forget w p (stopped z) = forget_bind _ _ _ _ (same w 0 p) (λ e. refl)

  entry_at_forget : (w : Room) (p : Place) (o : full_Reads Span) → forget (full_entry_at self w p o) ≡ plain_entry_at f w p (forget o)
  entry_at_forget w p (found x) = forget_bind _ _ _ _ (same w 0 x.1) (λ e. refl)
  entry_at_forget w p (stopped z) =
      forget_bind _ _ _ _ (literal_at_forget p) (λ l. forget_bind _ _ _ _ (skip_forget Colon l.1) (λ s. forget_bind _ _ _ _ (same w 0 s.1) (λ e. refl)))

  argument_forget : (w : Room) (n : Name) (p : Place) → forget (full_argument_at self w n p) ≡ plain_argument_at f w n p
  argument_forget w n p = forget_bind _ _ _ _ (skip_forget Assign p) (λ s. forget_bind _ _ _ _ (same w 0 s.1) (λ e. refl))

  element_forget : (w : Room) (c : Kind) (p : Place) → forget (full_element_of self w c p) ≡ plain_element_of f w c p
  unfolding full_element_of plain_element_of
  element_forget w of_arguments p = forget_bind _ _ _ _ (name_of_forget p) (λ n. argument_forget w n.0 n.1)
  element_forget w of_items p = item_at_forget w p (full_skip Spread p) ∙ ap (plain_item_at f w p) (skip_forget Spread p)
  element_forget w of_entries p = entry_at_forget w p (full_skip Spread p) ∙ ap (plain_entry_at f w p) (skip_forget Spread p)

  -- rows
  module _ (more : Place → full_Reads Row) (other : Place → plain_Reads Row) (again : (p : Place) → forget (more p) ≡ other p) where
    comma_forget : (c : Kind) (x : Element) (p : Place) (o : full_Reads Span) → forget (full_comma_at more c x p o) ≡ plain_comma_at other c x p (forget o)
    comma_forget c x p (found y) = forget_bind _ _ _ _ (again y.1) (λ r. refl)
    comma_forget c x p (stopped z) = forget_bind _ _ _ _ (skip_forget (closing c) p) (λ s. refl)

    after_forget : (c : Kind) (x : Element) (p : Place) → forget (full_after_element more c x p) ≡ plain_after_element other c x p
    unfolding full_after_element plain_after_element
    after_forget c x p = comma_forget c x p (full_skip Comma p) ∙ ap (plain_comma_at other c x p) (skip_forget Comma p)

    row_at_forget : (w : Room) (c : Kind) (p : Place) (o : full_Reads Span) → forget (full_row_at more self w c p o) ≡ plain_row_at other f w c p (forget o)
    row_at_forget w c p (found x) = refl
    row_at_forget w c p (stopped z) = forget_bind _ _ _ _ (element_forget w c p) (λ x. after_forget c x.0 x.1)

  row_by_forget : (n : ℕ) (w : Room) (c : Kind) (p : Place) → forget (full_row_by n self w c p) ≡ plain_row_by n f w c p
  unfolding full_row_by plain_row_by
  row_by_forget zero w c p = refl
  row_by_forget (suc n) w c p =
      row_at_forget (full_row_by n self w c) (plain_row_by n f w c) (row_by_forget n w c) w c p (full_skip (closing c) p)
      ∙ ap (plain_row_at (plain_row_by n f w c) f w c p) (skip_forget (closing c) p)

  pub row_forget : (w : Room) (c : Kind) (p : Place) → forget (full_row_of self w c p) ≡ plain_row_of f w c p
  unfolding full_row_of plain_row_of
  row_forget w c p = row_by_forget (suc (size p.tokens)) w c p

  arguments_at_forget : (more : List (List ℕ) → Place → full_Reads Row) (other : List (List ℕ) → Place → plain_Reads Row) → ((ns : List (List ℕ)) (p : Place) → forget (more ns p) ≡ other ns p)
      → (w : Room) (names : List (List ℕ)) (p : Place) (o : full_Reads Span) → forget (full_arguments_at more self w names p o) ≡ plain_arguments_at other f w names p (forget o)
  arguments_at_forget more other again w names p (found x) = refl
  arguments_at_forget more other again w names p (stopped z) =
      forget_bind _ _ _ _ (name_of_forget p) (λ n. nothing_or (is_one_of names n.0.text) n.1.tokens _ _
      (forget_bind _ _ _ _ (argument_forget w n.0 n.1) (λ x. after_forget (more (names ++ n.0.text ∷ [])) (other (names ++ n.0.text ∷ [])) (again (names ++ n.0.text ∷ [])) of_arguments x.0 x.1)))

  arguments_by_forget : (n : ℕ) (w : Room) (names : List (List ℕ)) (p : Place) → forget (full_arguments_by n self w names p) ≡ plain_arguments_by n f w names p
  unfolding full_arguments_by plain_arguments_by
  arguments_by_forget zero w names p = refl
  arguments_by_forget (suc n) w names p =
      arguments_at_forget (full_arguments_by n self w) (plain_arguments_by n f w) (arguments_by_forget n w) w names p (full_skip RightParen p)
      ∙ ap (plain_arguments_at (plain_arguments_by n f w) f w names p) (skip_forget RightParen p)

  pub arguments_forget : (w : Room) (p : Place) → forget (full_arguments_of self w p) ≡ plain_arguments_of f w p
  unfolding full_arguments_of plain_arguments_of
  arguments_forget w p = arguments_by_forget (suc (size p.tokens)) w [] p

  args_at_forget : (w : Room) (p : Place) (o : full_Reads Span) → forget (full_args_at self w p o) ≡ plain_args_at f w p (forget o)
  args_at_forget w p (stopped z) = refl
  args_at_forget w p (found x) = forget_bind _ _ _ _ (arguments_forget w x.1) (λ r. refl)

  pub args_forget : (w : Room) (p : Place) → forget (full_args_of self w p) ≡ plain_args_of f w p
  unfolding full_args_of plain_args_of
  args_forget w p = args_at_forget w p (full_skip LeftParen p) ∙ ap (plain_args_at f w p) (skip_forget LeftParen p)

  -- links
  links_at_forget : (w : Room) (c : Bool) (more : Place → full_Reads Links) (other : Place → plain_Reads Links) → ((p : Place) → forget (more p) ≡ other p) → (p : Place) (l : Link)
      → forget (full_links_at more self w c p l) ≡ plain_links_at other f w c p l
  links_at_forget w c more other again p no_link = refl
  links_at_forget w c more other again p called = refl
  links_at_forget w c more other again p (jointed d us) =
      forget_bind _ _ _ _ (linked_forget p.tokens p.links us) (λ q. forget_bind _ _ _ _ (name_of_forget q) (λ n.
      or_nothing (is_field_of c n.0.text) n.1.tokens _ _ (forget_bind _ _ _ _ (again n.1) (λ ls. refl))))
  links_at_forget w c more other again p (bracketed b us) =
      forget_bind _ _ _ _ (linked_forget p.tokens p.links us) (λ q. forget_bind _ _ _ _ (sub_forget w q) (λ s. forget_bind _ _ _ _ (again s.1) (λ ls. refl)))

  links_by_forget : (n : ℕ) (w : Room) (c : Bool) (p : Place) → forget (full_links_by n self w c p) ≡ plain_links_by n f w c p
  unfolding full_links_by plain_links_by
  links_by_forget zero w c p = refl
  links_by_forget (suc n) w c p = links_at_forget w c (full_links_by n self w c) (plain_links_by n f w c) (links_by_forget n w c) p (link_of p.tokens)

  links_forget : (w : Room) (c : Bool) (p : Place) → forget (full_links_of self w c p) ≡ plain_links_of f w c p
  unfolding full_links_of plain_links_of
  links_forget w c p = links_by_forget (suc (size p.tokens)) w c p

  -- attributes
  module _ (w : Room) (more : Place → full_Reads Attributes) (other : Place → plain_Reads Attributes) (again : (p : Place) → forget (more p) ≡ other p) where
    value_at_forget : (n : Name) (s : Span) (p : Place) (o : full_Reads (Quote × Span)) → forget (full_value_at more self w n s p o) ≡ plain_value_at other f w n s p (forget o)
    value_at_forget n s p (found x) = forget_bind _ _ _ _ (again x.1) (λ r. refl)
    value_at_forget n s p (stopped z) =
        forget_bind _ _ _ _ (skip_forget LeftBrace p) (λ b. forget_bind _ _ _ _ (same w 0 b.1) (λ e. forget_bind _ _ _ _ (skip_forget RightBrace e.1) (λ c. forget_bind _ _ _ _ (again c.1) (λ r. refl))))

    named_at_forget : (n : Name) (p : Place) (o : full_Reads Span) → forget (full_named_at more self w n p o) ≡ plain_named_at other f w n p (forget o)
    named_at_forget n p (stopped z) = forget_bind _ _ _ _ (again p) (λ r. refl)
    named_at_forget n p (found x) = value_at_forget n x.0 x.1 (full_quote_at x.1) ∙ ap (plain_value_at other f w n x.0 x.1) (quote_at_forget x.1)

    attribute_at_forget : (p : Place) (o : full_Reads Name) (b : full_Reads Span) → forget (full_attribute_at more self w p o b) ≡ plain_attribute_at other f w p (forget o) (forget b)
    attribute_at_forget p (found n) b = named_at_forget n.0 n.1 (full_skip Assign n.1) ∙ ap (plain_named_at other f w n.0 n.1) (skip_forget Assign n.1)
    attribute_at_forget p (stopped z) (found b) =
        forget_bind _ _ _ _ (skip_forget Spread b.1) (λ s. forget_bind _ _ _ _ (same w 0 s.1) (λ e. forget_bind _ _ _ _ (skip_forget RightBrace e.1) (λ c. forget_bind _ _ _ _ (again c.1) (λ r. refl))))
    attribute_at_forget p (stopped z) (stopped y) = refl

  attributes_by_forget : (n : ℕ) (w : Room) (p : Place) → forget (full_attributes_by n self w p) ≡ plain_attributes_by n f w p
  unfolding full_attributes_by plain_attributes_by
  attributes_by_forget zero w p = refl
  attributes_by_forget (suc n) w p =
      attribute_at_forget w (full_attributes_by n self w) (plain_attributes_by n f w) (attributes_by_forget n w) p (full_name_of p) (full_skip LeftBrace p)
      ∙ ap (λ o. plain_attribute_at (plain_attributes_by n f w) f w p o (forget (full_skip LeftBrace p))) (name_of_forget p)
      ∙ ap (plain_attribute_at (plain_attributes_by n f w) f w p (plain_name_of p)) (skip_forget LeftBrace p)

  pub attributes_forget : (w : Room) (p : Place) → forget (full_attributes_of self w p) ≡ plain_attributes_of f w p
  unfolding full_attributes_of plain_attributes_of
  attributes_forget w p = attributes_by_forget (suc (size p.tokens)) w p

  -- atoms
  prefix_forget : (w : Room) (s : Sign) (p : Place) → forget (full_prefix_of self w s p) ≡ plain_prefix_of f w s p
  unfolding full_prefix_of plain_prefix_of
  prefix_forget w s p = nothing_or (begins_sign p.tokens) p.tokens _ _ (forget_bind _ _ _ _ (same w (sign_power s) p) (λ e. refl))

  paren_forget : (w : Room) (s : Span) (p : Place) → forget (full_paren_of self w s p) ≡ plain_paren_of f w s p
  unfolding full_paren_of plain_paren_of
  paren_forget w s p = forget_bind _ _ _ _ (same w 0 p) (λ e. forget_bind _ _ _ _ (skip_forget RightParen e.1) (λ c. refl))

  comprehension_forget : (w : Room) (s : Span) (e : Tree) (y : Span) (p : Place) → forget (full_comprehension_of self w s e y p) ≡ plain_comprehension_of f w s e y p
  unfolding full_comprehension_of plain_comprehension_of
  comprehension_forget w s e y p =
      forget_bind _ _ _ _ (variables_forget p) (λ v. forget_bind _ _ _ _ (skip_forget (Operation In) v.1) (λ i. forget_bind _ _ _ _ (same w 1 i.1) (λ t.
      forget_bind _ _ _ _ (extra_forget w If 1 t.1) (λ g. forget_bind _ _ _ _ (skip_forget RightBracket g.1) (λ c. refl)))))

  items_forget : (v : Room) (s : Span) (x : Element) (p : Place) → forget (full_items_from self v s x p) ≡ plain_items_from f v s x p
  unfolding full_items_from plain_items_from
  items_forget v s x p =
      forget_bind _ _ _ _ (after_forget (full_row_of self v of_items) (plain_row_of f v of_items) (row_forget v of_items) of_items x p) (λ r. refl)

  for_forget : (w v : Room) (s : Span) (e : Tree) (p : Place) (o : full_Reads Span) → forget (full_for_at self w v s e p o) ≡ plain_for_at f w v s e p (forget o)
  for_forget w v s e p (found x) = comprehension_forget w s e x.0 x.1
  for_forget w v s e p (stopped z) = items_forget v s (plain e) p

  from_forget : (w v : Room) (s : Span) (x : Element) (p : Place) → forget (full_array_from self w v s x p) ≡ plain_array_from f w v s x p
  from_forget w v s (plain e) p = for_forget w v s e p (full_skip For p) ∙ ap (plain_for_at f w v s e p) (skip_forget For p)
  from_forget w v s (spread a e) p = items_forget v s (spread a e) p
  from_forget w v s (pair a b c e) p = items_forget v s (pair a b c e) p
  from_forget w v s (argument a b e) p = items_forget v s (argument a b e) p

  array_at_forget : (w v : Room) (s : Span) (p : Place) (o : full_Reads Span) → forget (full_array_at self w v s p o) ≡ plain_array_at f w v s p (forget o)
  array_at_forget w v s p (found x) = refl
  array_at_forget w v s p (stopped z) = forget_bind _ _ _ _ (element_forget v of_items p) (λ x. from_forget w v s x.0 x.1)

  pub array_forget : (w : Room) (s : Span) (p : Place) → forget (full_array_of self w s p) ≡ plain_array_of f w s p
  unfolding full_array_of plain_array_of
  array_forget w s p =
      forget_bind _ _ _ _ (forget_given p.tokens (inside_array w)) (λ v. array_at_forget w v s p (full_skip RightBracket p) ∙ ap (plain_array_at f w v s p) (skip_forget RightBracket p))

  map_forget : (w : Room) (s : Span) (p : Place) → forget (full_map_of self w s p) ≡ plain_map_of f w s p
  unfolding full_map_of plain_map_of
  map_forget w s p = forget_bind _ _ _ _ (row_forget w of_entries p) (λ r. refl)

  component_forget : (w : Room) (s : Span) (p : Place) → forget (full_component_of self w s p) ≡ plain_component_of f w s p
  unfolding full_component_of plain_component_of
  component_forget w s p =
      forget_bind _ _ _ _ (name_of_forget p) (λ n. forget_bind _ _ _ _ (dotted_forget n.1) (λ ds. forget_bind _ _ _ _ (attributes_forget w ds.1) (λ r.
      forget_bind _ _ _ _ (skip_forget (Operation Div) r.1) (λ t. forget_bind _ _ _ _ (skip_forget (Operation GreaterThan) t.1) (λ u. refl)))))

  called_forget : (w : Room) (n : Name) (p : Place) (o : full_Reads Span) → forget (full_called_at self w n p o) ≡ plain_called_at f w n p (forget o)
  called_forget w n p (stopped z) = forget_bind _ _ _ _ (links_forget w (of_loop w.in_loop n) p) (λ ls. refl)
  called_forget w n p (found x) = forget_bind _ _ _ _ (arguments_forget w x.1) (λ r. refl)

  chain_forget : (w : Room) (n : Name) (p : Place) → forget (full_chain_of self w n p) ≡ plain_chain_of f w n p
  unfolding full_chain_of plain_chain_of
  chain_forget w n p = called_forget w n p (full_skip LeftParen p) ∙ ap (plain_called_at f w n p) (skip_forget LeftParen p)

  word_forget : (w : Room) (n : Name) (p : Place) → forget (full_word_head self w n p) ≡ plain_word_head f w n p
  unfolding full_word_head plain_word_head
  word_forget w n p =
      forget_cond (is_none n.text) _ _ _ _ refl (forget_cond (is_not n.text) _ _ _ _ (prefix_forget w _ p) (chain_forget w n p))

  mark_forget : (w : Room) (m : Mark) (s : Span) (p : Place) → forget (full_mark_head self w m s p) ≡ plain_mark_head f w m s p
  mark_forget w (Operation Minus) s p = prefix_forget w _ p
  mark_forget w (Operation LessThan) s p = component_forget w s p
  mark_forget w LeftParen s p = paren_forget w s p
  mark_forget w LeftBracket s p = array_forget w s p
  mark_forget w LeftBrace s p = map_forget w s p
  mark_forget w _ s p = refl

  literal_head_forget : (o : Option Lit) (s : Span) (p : Place) → forget (full_literal_head o s p) ≡ plain_literal_head o s p
  literal_head_forget None s p = refl
  literal_head_forget (Some l) s p = refl

  token_forget : (w : Room) (t : Tok) (s : Span) (p : Place) → forget (full_head_token self w t s p) ≡ plain_head_token f w t s p
  token_forget w (Ident n) s p = word_forget w _ p
  token_forget w (Symbol op) s p = mark_forget w (head_mark (Symbol op)) s p
  token_forget w t s p = literal_head_forget (literal_of t) s p

  pub head_forget : (w : Room) (k : ℕ) (ts : Items) → forget (full_head_in self w k ts) ≡ plain_head_in f w k ts
  head_forget w k (Token t s us) = token_forget w t s (at k us)
  head_forget w k Ended = refl
  head_forget w k (Failed text there) = refl

  -- suffixes and operators
  named_forget : (w : Room) (s : Span) (n : Negation) (p : Place) → forget (full_test_named self w s n p) ≡ plain_test_named f w s n p
  named_forget w s n p = forget_bind _ _ _ _ (name_of_forget p) (λ m. forget_bind _ _ _ _ (args_forget w m.1) (λ g. refl))

  test_forget : (w : Room) (s : Span) (p : Place) (o : full_Reads Span) → forget (full_test_at self w s p o) ≡ plain_test_at f w s p (forget o)
  test_forget w s p (stopped z) = named_forget w s plainly p
  test_forget w s p (found x) = named_forget w s (negated x.0) x.1

  suffix_forget : (w : Room) (e : Ending) (p : Place) → forget (full_suffix_in self w e p) ≡ plain_suffix_in f w e p
  unfolding full_suffix_in plain_suffix_in
  suffix_forget w (ends_test s) p = test_forget w s p (full_skip Not p) ∙ ap (plain_test_at f w s p) (skip_forget Not p)
  suffix_forget w (ends_filter s) p = forget_bind _ _ _ _ (name_of_forget p) (λ n. forget_bind _ _ _ _ (args_forget w n.1) (λ g. refl))
  suffix_forget w (ends_subscript s) p = forget_bind _ _ _ _ (sub_forget w p) (λ b. refl)

  operator_forget : (w : Room) (start : Items) (e : Lead) (p : Place) → forget (full_operator_of self w start e p) ≡ plain_operator_of f w e p
  unfolding full_operator_of plain_operator_of
  operator_forget w start (leads_binary o) p = forget_bind _ _ _ _ (linked_forget start p.links p.tokens) (λ q. refl)
  operator_forget w start (leads_condition s) p = forget_bind _ _ _ _ (same w 0 p) (λ c. forget_bind _ _ _ _ (skip_forget Else c.1) (λ t. refl))

  join_forget : (w : Room) (start : Items) (e : Lead) (p : Place) → forget (full_join_of self w start e p) ≡ plain_join_of f w e p
  unfolding full_join_of plain_join_of
  join_forget w start e p =
      forget_bind _ _ _ _ (operator_forget w start e p) (λ o. forget_bind _ _ _ _ (same w (right_power o.0) o.1) (λ r. nothing_or (is_refused w.in_loop o.0 r.0) r.1.tokens _ _ refl))

  close_forget : (w : Room) (start : Items) (e : Ending) (p : Place) → forget (full_close_of self w start e p) ≡ plain_close_of f w e p
  unfolding full_close_of plain_close_of
  close_forget w start e p = forget_bind _ _ _ _ (linked_forget start p.links p.tokens) (λ q. forget_bind _ _ _ _ (suffix_forget w e q) (λ s. refl))

-- what the tokens after an operand begin with
abbrev front_forget : full_Front → plain_Front
front_forget full_nothing = plain_nothing
front_forget (full_joins e us) = plain_joins e us
front_forget (full_closes e us) = plain_closes e us
front_forget (full_misplaced us) = plain_misplaced

not_forget : (s : Span) (o : Takes Span) → front_forget (full_front_not s o) ≡ plain_front_not s (forget o)
not_forget s (stopped z) = refl
not_forget s (found x) = refl

marked_forget : (m : Mark) (s : Span) (us : Items) → front_forget (full_marked_front m s us) ≡ plain_marked_front m s us
marked_forget (Operation o) s us = refl
marked_forget Not s us = not_forget s (full_takes (Operation In) us) ∙ ap (plain_front_not s) (takes_forget (Operation In) us)
marked_forget Is s us = refl
marked_forget If s us = refl
marked_forget Bar s us = refl
marked_forget LeftBracket s us = refl
marked_forget _ s us = refl

fronts_forget : (ts : Items) → front_forget (full_front ts) ≡ plain_front ts
unfolding full_front_of_token plain_front_of_token
fronts_forget (Token t s us) = marked_forget (among front_marks t) s us
fronts_forget Ended = refl
fronts_forget (Failed text there) = refl

-- the loop
module _ {X : Type 0} (extend : X → Growth → X) (again : X → Place → full_Reads X) (other : X → Place → plain_Reads X) (goes : (x : X) (p : Place) → forget (again x p) ≡ other x p) (x : X) (p : Place) where
  abbrev went : full_Reads (Option Growth) → full_Reads X
  went o = bind o (λ g. full_go_on extend again x g.0 g.1)

  abbrev gone : Option (Option (Growth × Place)) → plain_Reads X
  gone o = o >>= plain_go_on extend other x p

  grown_forget : (o : full_Reads Growth) → forget (went (full_grown o)) ≡ gone (plain_grown (forget o))
  grown_forget (stopped z) = refl
  grown_forget (found g) = goes (extend x g.0) g.1

  either_forget : (b : Bool) (o : full_Reads Growth) (q : plain_Reads Growth) → forget o ≡ q → forget (went (cond b (found (None, p)) (full_grown o))) ≡ gone (cond b (Some None) (plain_grown q))
  either_forget true o q is = refl
  either_forget false o q is = grown_forget o ∙ ap (λ q. gone (plain_grown q)) is

  misplaced_forget : (b : Bool) (us : Items) → forget (went (cond b (found (None, p)) (stopped us))) ≡ gone (cond b (Some None) None)
  misplaced_forget true us = refl
  misplaced_forget false us = refl

module _ (self : full_Reader) (f : plain_Reader) (same : (w : Room) (m : ℕ) (p : Place) → forget (self w m p) ≡ f w m p) where
  module _ {X : Type 0} (extend : X → Growth → X) (again : X → Place → full_Reads X) (other : X → Place → plain_Reads X) (goes : (x : X) (p : Place) → forget (again x p) ≡ other x p) where
    step_forget : (w : Room) (m k : ℕ) (ts : Items) (x : X) (fr : full_Front)
        → forget (bind (full_step self w m k ts fr) (λ g. full_go_on extend again x g.0 g.1)) ≡ (plain_step f w m k (front_forget fr) >>= plain_go_on extend other x (at k ts))
    unfolding full_step plain_step
    step_forget w m k ts x full_nothing = refl
    step_forget w m k ts x (full_joins e us) = either_forget extend again other goes x (at k ts) (ltb (lead_power e) m) _ _ (join_forget self f same w (before ts e) e (at k us))
    step_forget w m k ts x (full_closes e us) = either_forget extend again other goes x (at k ts) (keeps_out m e) _ _ (close_forget self f same w ts e (at k us))
    step_forget w m k ts x (full_misplaced us) = misplaced_forget extend again other goes x (at k ts) (ltb 5 m) us

  loop_by_forget : {X : Type 0} (extend : X → Growth → X) (n : ℕ) (w : Room) (m : ℕ) (x : X) (p : Place) → forget (full_loop_by extend n self w m x p) ≡ plain_loop_by extend n f w m x p
  unfolding full_loop_by plain_loop_by
  loop_by_forget extend zero w m x p = refl
  loop_by_forget extend (suc n) w m x p =
      step_forget extend (full_loop_by extend n self w m) (plain_loop_by extend n f w m) (loop_by_forget extend n w m) w m p.links p.tokens x (full_front p.tokens)
      ∙ ap (λ fr. plain_step f w m p.links fr >>= plain_go_on extend (plain_loop_by extend n f w m) x p) (fronts_forget p.tokens)

pub expr_forget : (d : ℕ) (w : Room) (m : ℕ) (p : Place) → forget (full_expr d w m p) ≡ plain_expr d w m p
unfolding full_expr plain_expr
expr_forget zero w m p = refl
expr_forget (suc d) w m p =
    forget_bind _ _ _ _ (head_forget (full_expr d) (plain_expr d) (expr_forget d) w p.links p.tokens) (λ h.
    loop_by_forget (full_expr d) (plain_expr d) (expr_forget d) grow (suc (size h.1.tokens)) w m h.0 h.1)

pub fresh_forget : (links : ℕ) (self : full_Reader) (f : plain_Reader) → ((w : Room) (m : ℕ) (p : Place) → forget (self w m p) ≡ f w m p) → (w : Room) (m : ℕ) (p : Place)
    → forget (full_fresh links self w m p) ≡ plain_fresh links f w m p
unfolding full_fresh plain_fresh
fresh_forget links self f same w m p = forget_bind _ _ _ _ (same w m (at links p.tokens)) (λ x. refl)
