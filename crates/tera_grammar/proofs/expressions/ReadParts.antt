-- Brackets, links and heads are read from their tokens, where what is in them is.
use Rattle.std.proofs.Common.{◌≡◌, ℕ, zero, suc, ◌+◌, ◌≤◌, Bool, true, false, List, Some, None, refl, sym, ap, subst, ◌∙◌, ◌⊎◌, inl, inr, ⊎_elim, arith, codes, bytes_eq}
use Rattle.std.proofs.lemmas.Bool.{cases_Bool}
use Rattle.std.proofs.lemmas.Slice.Eq.{bytes_eq-Decides}
use Rattle.tera_base.specs.declared.utils.Span.{Span}
use Rattle.tera_lexer.specs.grammar.Tokens.{Items, Token}
use Rattle.tera_grammar.specs.expressions.Operators.{Div, Minus, LessThan, GreaterThan, In}
use Rattle.tera_grammar.specs.expressions.Marks.{Mark, LeftParen, RightParen, LeftBracket, RightBracket, LeftBrace, Comma, Colon, Spread, Not, If, For, Operation, mark_token, mark}
use Rattle.tera_grammar.specs.expressions.Concrete.{Name, Simple, Escaped, Lit, Number, Quoted, Truth, Sign, Negative, Negates, Joint, plain_dot, optional_dot, Bracket, plain_bracket, optional_bracket, Second, no_second, second, Dotted, of_arguments, of_items, of_entries, Tree, Atomic, Prefix, Suffixed, Infix, Atom, Literal, Null, Chain, Call, Paren, Array, Comprehension, Map, Component, Links, no_links, field, item, Sub, index, slice, Part, absent, present, Extra, no_extra, extra, Row, ended, only, then, Element, plain, spread, pair, argument, Attributes, no_args, args, literal_token, name_yield, sign_yield, joint_yield, bracket_yield, second_yield, dotted_yield, yield, atom_yield, links_yield, part_yield, extra_yield, row_yield, element_yield, attributes_yield}
use Rattle.tera_grammar.specs.expressions.Powers.{sign_power, BeginsPlain}
use Rattle.tera_grammar.specs.Words.{is_none, is_not}
use Rattle.tera_grammar.specs.expressions.Conditions.{IsFirst, is_field_of, AreVariables, IsExpression, IsAtom, IsRow}
use Rattle.tera_grammar.specs.expressions.Measures.{links, linking, part_measure, extra_measure, EachRow}
use Rattle.tera_grammar.specs.expressions.Output.{of_loop}
use Rattle.tera_grammar.specs.expressions.Reading.Front.{Place, at, same_token, no_link, jointed, bracketed, link_of, head_mark, begins_sign}
use Rattle.tera_grammar.proofs.plain.expressions.Reading.Front.{Reads, takes, moved, skip, name_of}
use Rattle.tera_grammar.specs.expressions.Reading.Rooms.{Room, room, inside_subscript, inside_array}
use Rattle.tera_grammar.proofs.plain.expressions.Reading.Bracketed.{Reader, extra_at, extra_of, part_at, part_of, slice_of, sub_at, sub_of, element_of, after_element, row_of, arguments_of, args_at, args_of, links_at, links_by, links_of, dotted_of, attributes_of}
use Rattle.tera_grammar.proofs.plain.expressions.Reading.Atoms.{prefix_of, paren_of, variables_of, comprehension_of, items_from, for_at, array_from, array_at, array_of, map_of, component_of, called_at, chain_of, word_head, head_of}
use Rattle.tera_grammar.specs.expressions.Ends.{IsStopMark}
use Rattle.tera_grammar.proofs.expressions.Fronts.{none_skip, skip_mark, skip_past, bump_read, name_read, unlinked_apart}
use Rattle.tera_grammar.proofs.expressions.FoundRows.{row_toll}
use Rattle.tera_grammar.proofs.expressions.ReadRows.{Whole, Bars, free, after_end, after_comma, element_read, element_free, row_read}

-- something holds of the expression that is there
abbrev pub EachPart : (Tree → Type 0) → Part → Type 0
EachPart P absent = Unit {0}
EachPart P (present e) = P e

-- something to do with an expression that fits into d opens one of them
pub within : (P : ℕ → Type 0) (d h : ℕ) → suc h ≤ d → ((c : ℕ) → h ≤ c → P (suc c)) → P d
within P zero h le each = absurd (omega arith)
within P (suc d) h le each = each d (omega arith)

pub inside_subscript_read : (l : Bool) (s a : ℕ) → inside_subscript (room l (suc s) a) ≡ Some (room l s a)
unfolding inside_subscript
inside_subscript_read l s a = refl

pub inside_array_read : (l : Bool) (s a : ℕ) → inside_array (room l s (suc a)) ≡ Some (room l s a)
unfolding inside_array
inside_array_read l s a = refl

-- the tokens after a bracket, of a slice and of a guard, are not marks of theirs
bracket_past : (m : Mark) → same_token (mark_token RightBracket) (mark_token m) ≡ false → (k : ℕ) (s : Span) (r : Items)
    → skip m (at k (mark RightBracket s r)) ≡ None
bracket_past m other k s r = skip_past m k (mark_token RightBracket) s r other

module _ (f : Reader) (bars : Bars f) where
  pub extra_read : (w : Room) (c : Mark) (m : ℕ) (s : Span) (e : Tree) (j k : ℕ) (r : Items)
      → same_token (mark_token c) (mark_token c) ≡ true → f w m (at j (yield e r)) ≡ Some (e, at k r)
      → extra_of f w c m (at j (mark c s (yield e r))) ≡ Some (extra s e, at k r)
  unfolding extra_of
  extra_read w c m s e j k r own h = ap (extra_at f w m _) (skip_mark c own j s (yield e r)) ∙ rw h

  pub no_extra_read : (w : Room) (c : Mark) (m k : ℕ) (s : Span) (r : Items)
      → same_token (mark_token RightBracket) (mark_token c) ≡ false
      → extra_of f w c m (at k (mark RightBracket s r)) ≡ Some (no_extra, at k (mark RightBracket s r))
  unfolding extra_of
  no_extra_read w c m k s r other = ap (extra_at f w m _) (bracket_past c other k s r)

  -- the end of a slice, before `:` or `]`
  pub part_present : (w : Room) (e : Tree) (p q : Place) → skip Colon p ≡ None → skip RightBracket p ≡ None → f w 0 p ≡ Some (e, q)
      → part_of f w p ≡ Some (present e, q)
  unfolding part_of
  part_present w e p q a b h = rw (a, b, h)

  part_absent : (w : Room) (m : Mark) (s : Span) (k : ℕ) (r : Items) → (m ≡ Colon) ⊎ (m ≡ RightBracket)
      → part_of f w (at k (mark m s r)) ≡ Some (absent, at k (mark m s r))
  unfolding part_of skip
  part_absent w m s k r (inl e) = subst (λ n. part_at f w (at k (mark n s r)) (moved k (takes Colon (mark n s r)))
      (moved k (takes RightBracket (mark n s r))) ≡ Some (absent, at k (mark n s r))) (sym e) refl
  part_absent w m s k r (inr e) = subst (λ n. part_at f w (at k (mark n s r)) (moved k (takes Colon (mark n s r)))
      (moved k (takes RightBracket (mark n s r))) ≡ Some (absent, at k (mark n s r))) (sym e) refl

  pub part_read : (w : Room) (b : Part) (m : Mark) → (m ≡ Colon) ⊎ (m ≡ RightBracket) → IsStopMark m
      → (s : Span) (k : ℕ) (r : Items) → EachPart (Whole f links w) b
      → part_of f w (at (part_measure linking b + k) (part_yield b (mark m s r))) ≡ Some (b, at k (mark m s r))
  part_read w absent m which stop s k r whole = ap (λ i. part_of f w (at i (mark m s r))) (omega arith)
      ∙ part_absent w m s k r which
  part_read w (present e) m which stop s k r whole =
      let read = whole m stop s k r in
      part_present w e _ _ (free f bars Colon tt w 0 _ _ _ read) (free f bars RightBracket tt w 0 _ _ _ read) read

  -- the rest of a slice
  pub slice_read : (w : Room) (a b : Part) (x : Extra) (s c : Span) (j k : ℕ) (r : Items)
      → part_of f w (at j (part_yield b (extra_yield Colon x (mark RightBracket c r)))) ≡ Some
      (b, at (extra_measure linking x + k) (extra_yield Colon x (mark RightBracket c r)))
      → extra_of f w Colon 0 (at (extra_measure linking x + k) (extra_yield Colon x (mark RightBracket c r))) ≡ Some
      (x, at k (mark RightBracket c r))
      → slice_of f w a s (at j (part_yield b (extra_yield Colon x (mark RightBracket c r)))) ≡ Some (slice a s b x c, at k r)
  unfolding slice_of
  slice_read w a b x s c j k r one two = rw (one, two, skip_mark RightBracket refl k c r)

  pub index_read : (w : Room) (e : Tree) (c : Span) (k : ℕ) (r : Items) → Whole f links w e
      → sub_at f w (at (links e + k) (yield e (mark RightBracket c r))) None ≡ Some (index e c, at k r)
  index_read w e c k r whole = rw (
    whole RightBracket tt c k r,
    skip_past Colon k (mark_token RightBracket) c r refl,
    skip_mark
        RightBracket refl k c r,
  )

  pub start_read : (w : Room) (e : Tree) (s : Span) (i j : ℕ) (us : Items) (x : Sub × Place)
      → f w 0 (at i (yield e (mark Colon s us))) ≡ Some (e, at j (mark Colon s us)) → slice_of f w (present e) s (at j us) ≡ Some x
      → sub_at f w (at i (yield e (mark Colon s us))) None ≡ Some x
  start_read w e s i j us x read more = rw (read, skip_mark Colon refl j s us, more)

  -- a subscript opens in a smaller room
  pub sub_read : (l : Bool) (s a : ℕ) (p : Place) (o : Reads Span) (x : Sub × Place) → skip Colon p ≡ o
      → sub_at f (room l s a) p o ≡ Some x → sub_of f (room l (suc s) a) p ≡ Some x
  unfolding sub_of
  sub_read l s a p o x is h = rw (inside_subscript_read l s a) (ap (sub_at f (room l s a) p) is ∙ h)

  pub no_args_read : (w : Room) (k : ℕ) (r : Items) → takes LeftParen r ≡ None → args_of f w (at k r) ≡ Some (no_args, at k r)
  unfolding args_of
  no_args_read w k r h = ap (args_at f w (at k r)) (none_skip LeftParen k r h)

  pub args_read : (w : Room) (s : Span) (row : Row) (j k : ℕ) (us r : Items) → arguments_of f w (at j us) ≡ Some (row, at k r)
      → args_of f w (at j (mark LeftParen s us)) ≡ Some (args s row, at k r)
  unfolding args_of
  args_read w s row j k us r h = ap (args_at f w _) (skip_mark LeftParen refl j s us) ∙ rw h

  pub no_links_read : (n : ℕ) (w : Room) (c : Bool) (k : ℕ) (r : Items) → link_of r ≡ no_link
      → links_by (suc n) f w c (at k r) ≡ Some (no_links, at k r)
  unfolding links_by
  no_links_read n w c k r h = ap (links_at (links_by n f w c) f w c (at k r)) h

  joint_front : (d : Joint) (us : Items) → link_of (joint_yield d us) ≡ jointed d us
  unfolding link_of
  joint_front (plain_dot s) us = refl
  joint_front (optional_dot s) us = refl

  bracket_front : (b : Bracket) (us : Items) → link_of (bracket_yield b us) ≡ bracketed b us
  unfolding link_of
  bracket_front (plain_bracket s) us = refl
  bracket_front (optional_bracket s) us = refl

  pub field_read : (n : ℕ) (w : Room) (c : Bool) (d : Joint) (m : Name) (ls : Links) (j : ℕ) (us : Items) (q : Place)
      → is_field_of c m.text ≡ true → links_by n f w c (at j us) ≡ Some (ls, q)
      → links_by (suc n) f w c (at (suc j) (joint_yield d (name_yield m us))) ≡ Some (field d m ls, q)
  unfolding links_by
  field_read n w c d m ls j us q fits h =
      ap (links_at (links_by n f w c) f w c (at (suc j) (joint_yield d (name_yield m us)))) (joint_front d (name_yield m us))
      ∙ rw (bump_read j (name_yield m us), name_read m j us, fits, h)

  pub item_link_read : (n : ℕ) (w : Room) (c : Bool) (b : Bracket) (s : Sub) (ls : Links) (i j : ℕ) (vs us : Items) (q : Place)
      → sub_of f w (at i vs) ≡ Some (s, at j us) → links_by n f w c (at j us) ≡ Some (ls, q)
      → links_by (suc n) f w c (at (suc i) (bracket_yield b vs)) ≡ Some (item b s ls, q)
  unfolding links_by
  item_link_read n w c b s ls i j vs us q inside h =
      ap (links_at (links_by n f w c) f w c (at (suc i) (bracket_yield b vs))) (bracket_front b vs)
      ∙ rw (bump_read i vs, inside, h)

  -- heads
  pub prefix_read : (w : Room) (s : Sign) (e : Tree) (j k : ℕ) (r : Items) → begins_sign (yield e r) ≡ false
      → f w (sign_power s) (at j (yield e r)) ≡ Some (e, at k r)
      → prefix_of f w s (at j (yield e r)) ≡ Some (Prefix s e, at k r)
  unfolding prefix_of
  prefix_read w s e j k r plainly_on h = rw (plainly_on, h)

  negative_head : (w : Room) (s : Span) (k : ℕ) (us : Items) → head_of f w (at k (mark (Operation Minus) s us)) ≡ prefix_of f w
      (Negative s) (at k us)
  unfolding head_mark
  negative_head w s k us = refl

  negates_head : (w : Room) (s : Span) (k : ℕ) (us : Items) → head_of f w (at k (mark Not s us)) ≡ prefix_of f w (Negates s)
      (at k us)
  unfolding word_head is_none
  negates_head w s k us = refl

  pub sign_head : (w : Room) (s : Sign) (k : ℕ) (us : Items) → head_of f w (at k (sign_yield s us)) ≡ prefix_of f w s (at k us)
  sign_head w (Negative s) k us = negative_head w s k us
  sign_head w (Negates s) k us = negates_head w s k us

  pub paren_read : (w : Room) (s : Span) (e : Tree) (t : Span) (k : ℕ) (r : Items) → Whole f links w e
      → head_of f w (at (links e + k) (mark LeftParen s (yield e (mark RightParen t r)))) ≡ Some (Atomic (Paren s e t), at k r)
  unfolding head_mark paren_of
  paren_read w s e t k r whole = rw (whole RightParen tt t k r, skip_mark RightParen refl k t r)

  pub map_read : (w : Room) (s : Span) (row : Row) (j k : ℕ) (us r : Items) → row_of f w of_entries (at j us) ≡ Some (row, at k r)
      → head_of f w (at j (mark LeftBrace s us)) ≡ Some (Atomic (Map s row), at k r)
  unfolding head_mark map_of
  map_read w s row j k us r h = rw h

  -- an array, from its row
  pub array_head : (l : Bool) (n a : ℕ) (s : Span) (p : Place) (k : ℕ) (us : Items)
      → head_of f (room l n (suc a)) (at k (mark LeftBracket s us)) ≡ array_at f (room l n (suc a)) (room l n a) s (at k us)
      (skip RightBracket (at k us))
  unfolding head_mark array_of
  array_head l n a s p k us = rw (inside_array_read l n a)

  array_ended : (w v : Room) (s t : Span) (k : ℕ) (r : Items)
      → array_at f w v s (at k (mark RightBracket t r)) (skip RightBracket (at k (mark RightBracket t r))) ≡ Some
      (Atomic (Array s (ended t)), at k r)
  array_ended w v s t k r = ap (array_at f w v s _) (skip_mark RightBracket refl k t r)

  from_read : (v : Room) (s : Span) (x : Element) (p : Place) (row : Row) (q : Place)
      → after_element (row_of f v of_items) of_items x p ≡ Some (row, q) → items_from f v s x p ≡ Some (Atomic (Array s row), q)
  unfolding items_from
  from_read v s x p row q h = rw h

  element_from : (w v : Room) (s : Span) (x : Element) (p : Place) (row : Row) (q : Place) → skip For p ≡ None
      → after_element (row_of f v of_items) of_items x p ≡ Some (row, q)
      → array_from f w v s x p ≡ Some (Atomic (Array s row), q)
  element_from w v s (plain e) p row q none h = ap (for_at f w v s e p) none ∙ from_read v s (plain e) p row q h
  element_from w v s (spread t e) p row q none h = from_read v s (spread t e) p row q h
  element_from w v s (pair l t u e) p row q none h = from_read v s (pair l t u e) p row q h
  element_from w v s (argument n t e) p row q none h = from_read v s (argument n t e) p row q h

  array_more : (w v : Room) (s : Span) (x : Element) (p q : Place) (y : Tree × Place) → skip RightBracket p ≡ None
      → element_of f v of_items p ≡ Some (x, q) → array_from f w v s x q ≡ Some y
      → array_at f w v s p (skip RightBracket p) ≡ Some y
  array_more w v s x p q y none one more = ap (array_at f w v s p) none ∙ rw (one, more)

  pub array_row : (w v : Room) (s : Span) (row : Row) (k : ℕ) (r : Items) → IsRow v.in_loop of_items row
      → EachRow (Whole f links v) row
      → array_at f w v s (at (row_toll links row + k) (row_yield of_items row r))
      (skip RightBracket (at (row_toll links row + k) (row_yield of_items row r))) ≡ Some (Atomic (Array s row), at k r)
  array_row w v s (ended t) k r is whole = ap (λ i. array_at f w v s (at i (mark RightBracket t r))
      (skip RightBracket (at i (mark RightBracket t r)))) (omega arith) ∙ array_ended w v s t k r
  array_row w v s (only x t) k r is whole =
      array_more w v s x _ _ _ (element_free f links bars v of_items x is whole RightBracket tt t k r)
      (element_read f links bars v of_items x is whole RightBracket tt t k r)
      (element_from w v s x _ (only x t) (at k r) (skip_past For k (mark_token RightBracket) t r refl)
      (after_end (row_of f v of_items) of_items x t k r))
  array_row w v s (then x t xs) k r is whole =
      ap (λ i. array_at f w v s (at i (element_yield x (mark Comma t (row_yield of_items xs r))))
      (skip RightBracket (at i (element_yield x (mark Comma t (row_yield of_items xs r)))))) (omega arith)
      ∙ array_more w v s x _ _ _ (element_free f links bars v of_items x is.0 whole.0 Comma tt t (row_toll links xs + k)
      (row_yield of_items xs r))
      (element_read f links bars v of_items x is.0 whole.0 Comma tt t (row_toll links xs + k) (row_yield of_items xs r))
      (element_from w v s x _ (then x t xs) (at k r) (skip_past For (row_toll links xs + k) (mark_token Comma) t
      (row_yield of_items xs r) refl)
      (after_comma (row_of f v of_items) of_items x t (row_toll links xs + k) (row_yield of_items xs r) xs (at k r)
      (row_read f links bars v xs of_items k r is.1 whole.1)))

  -- a comprehension
  pub second_read : (n : Name) (m : Second) (k : ℕ) (i : Span) (r : Items) → AreVariables n m
      → variables_of (at k (name_yield n (second_yield m (mark (Operation In) i r)))) ≡ Some ((n, m), at k (mark (Operation In) i r))
  unfolding variables_of name_of skip
  second_read n no_second k i r free_name = rw free_name
  second_read n (second s m) k i r free_names = rw (free_names.0, free_names.1)

  pub comprehension_read : (w v : Room) (s : Span) (e : Tree) (g : Span) (n : Name) (m : Second) (i : Span) (t : Tree) (x : Extra)
      (c : Span) (h j k : ℕ) (r : Items)
      → f v 0 (at h (yield e (mark For g (name_yield n (second_yield m
      (mark (Operation In) i (yield t (extra_yield If x (mark RightBracket c r)))))))))
      ≡ Some (
        e,
        at j (mark For g (name_yield n (second_yield m (mark (Operation In) i
            (yield t (extra_yield If x (mark RightBracket c r))))))),
      )
      → AreVariables n m → f w 1 (at j (yield t (extra_yield If x (mark RightBracket c r)))) ≡ Some
      (t, at (extra_measure linking x + k) (extra_yield If x (mark RightBracket c r)))
      → extra_of f w If 1 (at (extra_measure linking x + k) (extra_yield If x (mark RightBracket c r))) ≡ Some
      (x, at k (mark RightBracket c r))
      → array_at f w v s (at h (yield e (mark For g (name_yield n (second_yield m
      (mark (Operation In) i (yield t (extra_yield If x (mark RightBracket c r)))))))))
      (skip RightBracket (at h (yield e (mark For g (name_yield n (second_yield m
      (mark (Operation In) i (yield t (extra_yield If x (mark RightBracket c r)))))))))) ≡ Some
      (Atomic (Comprehension s e g n m i t x c), at k r)
  unfolding comprehension_of element_of
  comprehension_read w v s e g n m i t x c h j k r element vars target guard =
      let vs = yield t (extra_yield If x (mark RightBracket c r)) in
      let us = name_yield n (second_yield m (mark (Operation In) i vs)) in
      rw (
        free f bars RightBracket tt v 0 h (yield e (mark For g us)) _ element,
        free f bars Spread tt v 0 h (yield e (mark For g us)) _ element,
        element,
        skip_mark For refl j g us,
        second_read n m j i vs vars,
        skip_mark (Operation In) refl j i vs,
        target,
        guard,
        skip_mark RightBracket refl k c r,
      )

  pub component_read : (w : Room) (s : Span) (n : Name) (ds : Dotted) (x : Attributes) (t u : Span) (j k : ℕ) (r : Items)
      → dotted_of (at j (dotted_yield ds (attributes_yield x (mark (Operation Div) t (mark (Operation GreaterThan) u r))))) ≡ Some
      (ds, at j (attributes_yield x (mark (Operation Div) t (mark (Operation GreaterThan) u r))))
      → attributes_of f w (at j (attributes_yield x (mark (Operation Div) t (mark (Operation GreaterThan) u r)))) ≡ Some
      (x, at k (mark (Operation Div) t (mark (Operation GreaterThan) u r)))
      → head_of f w (at j (mark (Operation LessThan) s (name_yield n
      (dotted_yield ds (attributes_yield x (mark (Operation Div) t (mark (Operation GreaterThan) u r))))))) ≡ Some
      (Atomic (Component s n ds x t u), at k r)
  unfolding head_mark component_of
  component_read w s n ds x t u j k r one two =
      rw (
        name_read n j (dotted_yield ds (attributes_yield x (mark (Operation Div) t (mark (Operation GreaterThan) u r)))),
        one,
        two,
        skip_mark (Operation Div) refl k t (mark (Operation GreaterThan) u r),
        skip_mark (Operation GreaterThan) refl k u r,
      )

  pub literal_head_read : (w : Room) (l : Lit) (s : Span) (k : ℕ) (r : Items)
      → head_of f w (at k (Token (literal_token l) s r)) ≡ Some (Atomic (Literal l s), at k r)
  literal_head_read w (Number n) s k r = refl
  literal_head_read w (Quoted (Simple text)) s k r = refl
  literal_head_read w (Quoted (Escaped text)) s k r = refl
  literal_head_read w (Truth b) s k r = refl

  pub nothing_read : (w : Room) (n : Name) (k : ℕ) (r : Items) → is_none n.text ≡ true
      → head_of f w (at k (name_yield n r)) ≡ Some (Atomic (Null n), at k r)
  unfolding word_head
  nothing_read w n k r is = rw is

  chain_head : (w : Room) (n : Name) (k : ℕ) (us : Items) → IsFirst n
      → head_of f w (at k (name_yield n us)) ≡ called_at f w n (at k us) (skip LeftParen (at k us))
  unfolding word_head chain_of
  chain_head w n k us is = rw (is.0, is.1)

  pub chain_read : (w : Room) (n : Name) (ls : Links) (j k : ℕ) (us r : Items) → IsFirst n → skip LeftParen (at j us) ≡ None
      → links_of f w (of_loop w.in_loop n) (at j us) ≡ Some (ls, at k r)
      → head_of f w (at j (name_yield n us)) ≡ Some (Atomic (Chain n ls), at k r)
  chain_read w n ls j k us r is none h = chain_head w n j us is ∙ ap (called_at f w n (at j us)) none ∙ rw h

  pub call_read : (w : Room) (n : Name) (s : Span) (row : Row) (j k : ℕ) (us r : Items) → IsFirst n
      → arguments_of f w (at j us) ≡ Some (row, at k r)
      → head_of f w (at j (name_yield n (mark LeftParen s us))) ≡ Some (Atomic (Call n s row), at k r)
  call_read w n s row j k us r is h = chain_head w n j (mark LeftParen s us) is
      ∙ ap (called_at f w n _) (skip_mark LeftParen refl j s us) ∙ rw h

-- no call begins after the name of a chain
pub chain_open : (ls : Links) (k : ℕ) (r : Items) → link_of r ≡ no_link → skip LeftParen (at k (links_yield ls r)) ≡ None
unfolding skip
chain_open no_links k r h = rw (unlinked_apart r h).call
chain_open (field (plain_dot s) n ls) k r h = refl
chain_open (field (optional_dot s) n ls) k r h = refl
chain_open (item (plain_bracket s) b ls) k r h = refl
chain_open (item (optional_bracket s) b ls) k r h = refl

none_not : (word : List ℕ) → is_none word ≡ true → is_not word ≡ false
unfolding is_none
none_not word h =
    ⊎_elim (λ p. subst (λ v. is_not v ≡ false) (sym ((bytes_eq-Decides word (codes "none")).0 p)) refl)
    (λ (none : bytes_eq word (codes "none") ≡ false). ⊎_elim (λ p. subst (λ v. is_not v ≡ false)
    (sym ((bytes_eq-Decides word (codes "None")).0 p)) refl)
    (λ (none_too : bytes_eq word (codes "None") ≡ false). ⊎_elim
    (λ p. subst (λ v. is_not v ≡ false) (sym ((bytes_eq-Decides word (codes "null")).0 p)) refl)
    (λ (null : bytes_eq word (codes "null") ≡ false). let clash : false ≡ true = rw (none, none_too, null) at h in cc)
    (cases_Bool (bytes_eq word (codes "null"))))
    (cases_Bool (bytes_eq word (codes "None"))))
    (cases_Bool (bytes_eq word (codes "none")))

literal_plain : (l : Lit) (s : Span) (r : Items) → begins_sign (Token (literal_token l) s r) ≡ false
unfolding begins_sign
literal_plain (Number n) s r = refl
literal_plain (Quoted (Simple text)) s r = refl
literal_plain (Quoted (Escaped text)) s r = refl
literal_plain (Truth b) s r = refl

nothing_plain : (n : Name) (r : Items) → is_none n.text ≡ true → begins_sign (name_yield n r) ≡ false
unfolding begins_sign
nothing_plain n r h = rw (none_not n.text h)

name_plain : (n : Name) (r : Items) → IsFirst n → begins_sign (name_yield n r) ≡ false
unfolding begins_sign
name_plain n r h = rw h.1

atom_plain : (l : Bool) (a : Atom) (r : Items) → IsAtom l a → begins_sign (atom_yield a r) ≡ false
unfolding begins_sign
atom_plain l (Literal x s) r is = literal_plain x s r
atom_plain l (Null n) r is = nothing_plain n r is
atom_plain l (Chain n ls) r is = name_plain n (links_yield ls r) is.0
atom_plain l (Call n s row) r is = name_plain n (mark LeftParen s (row_yield of_arguments row r)) is.0
atom_plain l (Paren s e t) r is = refl
atom_plain l (Array s row) r is = refl
atom_plain l (Comprehension s e f n m i t g c) r is = refl
atom_plain l (Map s row) r is = refl
atom_plain l (Component s n ds ats t u) r is = refl

pub plain_to : (l : Bool) (t : Tree) (r : Items) → IsExpression l t → BeginsPlain t → begins_sign (yield t r) ≡ false
plain_to l (Atomic a) r is h = atom_plain l a r is
plain_to l (Prefix s e) r is h = absurd h
plain_to l (Suffixed a s) r is h = plain_to l a _ is.1 h
plain_to l (Infix a o b) r is h = plain_to l a _ is.3 h
