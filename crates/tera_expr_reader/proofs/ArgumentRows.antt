-- Arguments that are read one after another: what of them is read, and where reading stops.
use Rattle.std.proofs.Common.{◌≡◌, inl, inr, ℕ, suc, Bool, true, false, not, cond, List, [], ◌∷◌, ◌++◌, Ok, Err, refl, sym, ap, subst, ◌∙◌}
use Rattle.tera_base.specs.declared.utils.Span.{Span}
use Rattle.tera_base.specs.declared.errors.Error.{Error}
use Rattle.tera_lexer.specs.code.Cursors.{Position, size}
use Rattle.tera_lexer.specs.grammar.Tokens.{Items}
use Rattle.tera_ast.specs.Tree.{Expr, Args, NoArgs}
use Rattle.tera_grammar.specs.Reads.{found, stopped, ◌>>=◌, Takes, Fails}
use Rattle.tera_lexer.specs.grammar.Words.{is_one_of}
use Rattle.tera_grammar.specs.expressions.Marks.{RightParen, Comma, Assign}
use Rattle.tera_grammar.specs.expressions.Concrete.{Name, Tree, Row, of_arguments, ended, Element, only, then, argument}
use Rattle.tera_grammar.specs.expressions.Output.{output, put_arg}
use Rattle.tera_grammar.specs.expressions.Reading.Front.{Place, at, Reads, takes, skip, taken_name}
use Rattle.tera_grammar.specs.expressions.Reading.Rooms.{Room}
use Rattle.tera_grammar.specs.expressions.Reading.Bracketed.{Reader, argument_at, new_argument, comma_at, after_element, arguments_at, arguments_by, arguments_of}
use Rattle.tera_grammar.proofs.Readings.{fails_as}
use Rattle.tera_grammar.proofs.stops.Fronts.{bind_ok, fails_ok, found_same, takes_ok, none_skip, skip_taken, none_named, name_taken}
use Rattle.tera_grammar.proofs.stops.Bracketed.{arguments_steps}
use Rattle.tera_expr_parts.specs.declared.rows.Values.{Values}
use Rattle.tera_expr_parts.specs.CommaLists.{Continues, has_argument, new_name_at, reader_of}
use Rattle.tera_expect.specs.Taking.{Eats}
use Rattle.tera_expr_reader.proofs.RowsLemmas.{reader_local, bind_some, bind_assoc, fails_by}
use Rattle.tera_expr_reader.proofs.ArgumentsLemmas.{Arguing, Argued, none_yet, none_at_all, one_more, last_one, all_of}

-- the arguments from a place on, after those of some names; and the same where an argument is there
abbrev pub from_names : Reader → Room → List (List ℕ) → Place → Reads Row
from_names f w names p = arguments_by (suc (size p.tokens)) f w names p

abbrev pub asking : Reader → Room → List (List ℕ) → Place → Reads Row
asking f w names p = arguments_at (from_names f w) f w names p (stopped p.tokens)

-- what is read so far is put in front of arguments that go on, or they are read
pub record Asking (l : Bool) (done : Args) (f : Reader) (w : Room) (whole : Reads Row) (now : Place) : Type 0 where
  pub put : Row → Row
  pub keeps : Arguing l done put
  pub reads : whole ≡ (asking f w keeps.names now >>= λ r. found (put r.0, r.1))

pub record Asked (l : Bool) (done : Args) (here : Span) (whole : Reads Row) (now : Place) : Type 0 where
  pub row : Row
  pub reads : whole ≡ found (row, now)
  pub is : Argued l done here row

abbrev pub Asks : Bool → Bool → Args → Span → Reader → Room → Reads Row → Place → Type 0
Asks true l done here f w whole now = Asking l done f w whole now
Asks false l done here f w whole now = Asked l done here whole now

-- one turn of the loop
steps : (v : Values) (w : Room) (names : List (List ℕ)) (p : Place)
    → from_names (reader_of v) w names p ≡ arguments_at (from_names (reader_of v) w) (reader_of v) w names p (skip RightParen p)
steps v w names p = arguments_steps (reader_of v) (reader_local v.depth v.own) w names p

abbrev at_paren : Values → Room → List (List ℕ) → Place → Reads Span → Reads Row
at_paren v w names p o = arguments_at (from_names (reader_of v) w) (reader_of v) w names p o

begun_empty : (l : Bool) (v : Values) (w : Room) (i : ℕ) (old new : Position) (b : Bool) → Eats b old new (takes RightParen old.left)
    → Asks (not b) l NoArgs new.span (reader_of v) w (arguments_of (reader_of v) w (at i old.left)) (at i new.left)
unfolding arguments_of
begun_empty l v w i old new true (read, took) = record {
  row = ended new.span;
  reads = steps v w [] (at i old.left) ∙ ap (at_paren v w [] (at i old.left)) (skip_taken RightParen i old.left new.left new.span read);
  is = none_at_all l new.span;
}
begun_empty l v w i old new false (read, same) =
    subst (λ (q : Position). Asking l NoArgs (reader_of v) w (arguments_of (reader_of v) w (at i old.left)) (at i q.left)) (sym same) (record {
      put = λ r. r;
      keeps = none_yet l;
      reads = steps v w [] (at i old.left) ∙ ap (at_paren v w [] (at i old.left)) (none_skip RightParen i old.left old.left read)
          ∙ sym (bind_some (asking (reader_of v) w [] (at i old.left)));
    })

pub arguments_begun : (l : Bool) (v : Values) (w : Room) (i : ℕ) (old new : Position) (b : Bool) (done : Args) → done ≡ NoArgs → Eats b old new (takes RightParen old.left)
    → Asks (not b) l done new.span (reader_of v) w (arguments_of (reader_of v) w (at i old.left)) (at i new.left)
arguments_begun l v w i old new b done none eats =
    subst (λ d. Asks (not b) l d new.span (reader_of v) w (arguments_of (reader_of v) w (at i old.left)) (at i new.left)) (sym none) (begun_empty l v w i old new b eats)

-- a name, and none that may be there
new_name_ok : (args : Args) (r us : Items) (n : Name) → new_name_at args r ≡ found (n, us) → (taken_name r ≡ found (n, us)) × (has_argument n.text args ≡ false)
new_name_ok args r us n h =
    let (x, taken, kept) = bind_ok (taken_name r) (λ n. cond (has_argument n.0.text args) (stopped n.1) (found n)) (n, us) h in
    let (new, made) = fails_ok (has_argument x.0.text args) (found x) x.1 (n, us) kept in
    let same : x ≡ (n, us) = found_same _ _ made in
    (taken ∙ made, ap (λ (y : Name × Items). has_argument y.0.text args) (sym same) ∙ new)

taken_again : (b : Bool) (x : Name × Items) (z : Items) → ◌≡◌ {A = Takes Name} (cond b (stopped x.1) (found x)) (stopped z) → (b ≡ true) × (x.1 ≡ z)
taken_again true x z h = (refl, (let e : x.1 ≡ z = cc in e))
taken_again false x z h = cc

module _ (l : Bool) (done : Args) (v : Values) (w : Room) (whole : Reads Row) (i : ℕ) (old : Items) (o : Asking l done (reader_of v) w whole (at i old)) where
  abbrev f : Reader
  f = reader_of v

  abbrev names : List (List ℕ)
  names = o.keeps.names

  abbrev onto : Reads Row → Reads Row
  onto o' = o' >>= λ r. found (o.put r.0, r.1)

  abbrev named : Reads Name → Reads Row
  named n = n >>= λ n. new_argument (from_names f w) f w names n.0 n.1 (is_one_of names n.0.text)

  name_missed : (t : Takes Name) (z : Items) → taken_name old ≡ t → ◌≡◌ {A = Takes Name} (t >>= λ n. cond (has_argument n.0.text done) (stopped n.1) (found n)) (stopped z)
      → asking f w names (at i old) ≡ stopped z
  name_missed (stopped y) z is h = let e : y ≡ z = cc in ap named (none_named i old y is) ∙ ap stopped e
  name_missed (found x) z is h =
      let (again, same) = taken_again (has_argument x.0.text done) x z h in
      ap named (name_taken i old x.1 x.0 is)
      ∙ ap (new_argument (from_names f w) f w names x.0 (at i x.1)) (sym (o.keeps.known x.0.text) ∙ again) ∙ ap stopped same

  pub no_new_name : (left : Items) (e : Error) → Fails (new_name_at done old) left e → Fails whole left e
  no_new_name left e h = fails_by whole (new_name_at done old) left e (λ z none. o.reads ∙ ap onto (name_missed (taken_name old) z refl none)) h

  module _ (us : Items) (n : Name) (name : new_name_at done old ≡ found (n, us)) where
    abbrev more : Place → Reads Row
    more = from_names f w (names ++ n.text ∷ [])

    abbrev with_argument : Reads Element → Reads Row
    with_argument x = x >>= λ x. after_element more of_arguments x.0 x.1

    whole_is : whole ≡ onto (with_argument (argument_at f w n (at i us)))
    whole_is =
        let (taken, fresh) = new_name_ok done old us n name in
        o.reads ∙ ap (λ t. onto (named t)) (name_taken i old us n taken)
        ∙ ap (λ b. onto (new_argument (from_names f w) f w names n (at i us) b)) (sym (o.keeps.known n.text) ∙ fresh)

    abbrev assigned : Reads Span → Reads Element
    assigned s = s >>= λ s. f w 0 s.1 >>= λ e. found (argument n s.0 e.0, e.1)

    abbrev valued : Span → Reads Tree → Reads Element
    valued s e = e >>= λ e. found (argument n s e.0, e.1)

    pub lacks_assign : (left : Items) (e : Error) → Fails (takes Assign us) left e → Fails whole left e
    lacks_assign left e h =
        fails_by whole (takes Assign us) left e (λ z none. whole_is ∙ ap (λ s. onto (with_argument (assigned s))) (none_skip Assign i us z none)) h

    module _ (vs : Items) (s : Span) (assign : takes Assign us ≡ found (s, vs)) where
      value_is : whole ≡ onto (with_argument (valued s (f w 0 (at i vs))))
      value_is = whole_is ∙ ap (λ s. onto (with_argument (assigned s))) (skip_taken Assign i us vs s assign)

      pub lacks_value : (left : Items) (e : Error) → Fails (f w 0 (at i vs)) left e → Fails whole left e
      lacks_value left e h = fails_by whole (f w 0 (at i vs)) left e (λ z none. value_is ∙ ap (λ e. onto (with_argument (valued s e))) none) h

      module _ (t : Tree) (j : ℕ) (ts : Items) (read : f w 0 (at i vs) ≡ found (t, at j ts)) where
        abbrev it : Element
        it = argument n s t

        abbrev at_comma : Reads Span → Reads Row
        at_comma c = onto (comma_at more of_arguments it (at j ts) c)

        abbrev at_end : Reads Span → Reads Row
        at_end c = onto (c >>= λ c. found (only it c.0, c.1))

        abbrev on : Span → Reads Row → Reads Row
        on c r = onto (r >>= λ r. found (then it c r.0, r.1))

        after_value : whole ≡ at_comma (skip Comma (at j ts))
        unfolding after_element
        after_value = value_is ∙ ap (λ e. onto (with_argument (valued s e))) read

        pub lacks_end : (new : Position) (e : Error) → Continues RightParen ts new (Err e) → Fails whole new.left e
        lacks_end new e (inl memory) = inl memory
        lacks_end new e (inr (comma, ends)) =
            fails_as (takes RightParen ts) whole new.left e
            (λ z none. after_value ∙ ap at_comma (none_skip Comma j ts ts comma) ∙ ap at_end (none_skip RightParen j ts z none)) (inr ends)

        no_comma : (us : Items) (c : Span) → takes RightParen ts ≡ found (c, us) → takes Comma ts ≡ stopped ts
        no_comma us c h = let is = takes_ok RightParen ts (c, us) h in ap (takes Comma) is ∙ ap stopped (sym is)

        one_by : (new : Position) (b : Bool) → Continues RightParen ts new (Ok b) → (x : Expr) → x ≡ output l t → Asks b l (put_arg n.text x done) new.span f w whole (at j new.left)
        one_by new true (c, comma, none) x shown =
            let fresh = (new_name_ok done old us n name).1 in
            record {
              put = λ r. o.put (then it c r);
              keeps = one_more l done o.put o.keeps n s t x shown fresh c;
              reads = after_value ∙ ap at_comma (skip_taken Comma j ts new.left c comma)
                  ∙ ap (on c) (steps v w (names ++ n.text ∷ []) (at j new.left) ∙ ap (at_paren v w (names ++ n.text ∷ []) (at j new.left)) (none_skip RightParen j new.left new.left none))
                  ∙ bind_assoc (asking f w (names ++ n.text ∷ []) (at j new.left)) (λ r. found (then it c r.0, r.1)) (λ r. found (o.put r.0, r.1));
            }
        one_by new false (inl ends) x shown =
            let fresh = (new_name_ok done old us n name).1 in
            record {
              row = o.put (only it new.span);
              reads = after_value ∙ ap at_comma (none_skip Comma j ts ts (no_comma new.left new.span ends)) ∙ ap at_end (skip_taken RightParen j ts new.left new.span ends);
              is = last_one l done o.put o.keeps n s t x shown fresh new.span;
            }
        one_by new false (inr (c, zs, comma, ends)) x shown =
            let fresh = (new_name_ok done old us n name).1 in
            record {
              row = o.put (then it c (ended new.span));
              reads = after_value ∙ ap at_comma (skip_taken Comma j ts zs c comma)
                  ∙ ap (on c) (steps v w (names ++ n.text ∷ []) (at j zs) ∙ ap (at_paren v w (names ++ n.text ∷ []) (at j zs)) (skip_taken RightParen j zs new.left new.span ends));
              is = all_of l (put_arg n.text x done) (λ r. o.put (then it c r)) (one_more l done o.put o.keeps n s t x shown fresh c) new.span;
            }

        pub one_argument : (new : Position) (b : Bool) → Continues RightParen ts new (Ok b) → (x : Expr) → x ≡ output l t → (with : Args) → with ≡ put_arg n.text x done
            → Asks b l with new.span f w whole (at j new.left)
        one_argument new b goes x shown with is = subst (λ d. Asks b l d new.span f w whole (at j new.left)) (sym is) (one_by new b goes x shown)
