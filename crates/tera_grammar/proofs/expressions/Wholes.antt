-- The laws of reading: what is read is in the grammar, what is in it is read, and so it is the only one.
use Rattle.std.proofs.Common.{◌≡◌, ℕ, zero, suc, ◌+◌, ◌≤◌, Bool, false, Option, Some, None, refl, sym, ap, subst, ◌∙◌, arith}
use Rattle.std.proofs.lemmas.Option.{same_Some}
use Rattle.tera_base.specs.Values as values
use Rattle.tera_base.specs.declared.utils.Span.{Span}
use Rattle.tera_lexer.specs.grammar.Tokens.{Items, Ended}
use Rattle.tera_grammar.specs.expressions.Marks.{LeftParen, LeftBracket, LeftBrace, Dot, mark}
use Rattle.tera_grammar.specs.expressions.Concrete.{of_arguments, of_items, of_entries, Tree, Row, ended, only, then, Element, plain, spread, pair, argument, Attributes, Args, no_args, args, name_yield, dotted_yield, yield, row_yield, attributes_yield, args_yield}
use Rattle.tera_grammar.specs.expressions.Conditions.{IsExpression, IsRow, AreAttributes, AreArgs}
use Rattle.tera_grammar.specs.Limits.{Limits}
use Rattle.tera_grammar.specs.expressions.Measures.{measure, row_measure, element_measure, subscripts, arrays, height, links, Within, EachElement, EachRow, EachAttribute}
use Rattle.tera_grammar.specs.expressions.Companions.{Opened, kwargs_yield, AreKwargs, Filtering, filter_yield, EachArgs, Path, path_yield, array_yield, array_value, IsArray, ArrayWithin, map_yield, map_value, IsMap}
use Rattle.tera_grammar.specs.Options.{◌>>=◌}
use Rattle.tera_grammar.specs.expressions.Reading.Front.{Place, at, link_of}
use Rattle.tera_grammar.proofs.plain.expressions.Reading.Front.{Reads, takes, skip}
use Rattle.tera_grammar.specs.expressions.Reading.Rooms.{Room, room, inside_array}
use Rattle.tera_grammar.proofs.plain.expressions.Reading.Bracketed.{row_of, arguments_of, args_at, args_of, attributes_of}
use Rattle.tera_grammar.proofs.plain.expressions.Reading.Loop.{expr, fresh}
use Rattle.tera_grammar.specs.expressions.Reading.Whole.{widest}
use Rattle.tera_grammar.proofs.plain.expressions.Reading.Whole.{outermost, left_over, expression_of, kwargs_of, filter_of, all_attributes, path_of, with_array, with_map, literal_array_of, literal_map_of}
use Rattle.tera_grammar.proofs.Options.{bound}
use Rattle.tera_grammar.proofs.expressions.Fronts.{skip_ok, skip_mark, name_of_ok, name_read, Ends}
use Rattle.tera_grammar.proofs.expressions.FoundRows.{Sound, row_toll, attributes_toll, FoundRow, row_found, arguments_found, attributes_found}
use Rattle.tera_grammar.proofs.expressions.FoundParts.{inside_array_ok, dotted_found}
use Rattle.tera_grammar.proofs.expressions.FoundLoop.{expr_sound}
use Rattle.tera_grammar.proofs.expressions.ReadRows.{Bars, NoAttribute, dotted_read, row_read, arguments_read, attributes_read}
use Rattle.tera_grammar.proofs.expressions.ReadParts.{within, inside_array_read, no_args_read, args_read}
use Rattle.tera_grammar.proofs.expressions.Complete.{expr_bars}
use Rattle.tera_grammar.proofs.expressions.Literals.{row_array, literal_arrays_are}
use Rattle.tera_grammar.proofs.expressions.Outermost.{no_toll, Fitting, fresh_sound, fresh_bars, ends_read, row_map, row_whole, attributes_whole, row_free_toll, attributes_free_toll}

pub left_over_ok : {A : Type 0} (o : Reads A) (x : A × Items) → left_over o ≡ Some x → (y : A × Place) × (o ≡ Some y)
    × ((y.0, y.1.tokens) ≡ x)
left_over_ok None x h = cc
left_over_ok (Some y) x h = (y, refl, same_Some _ _ h)

-- Expressions.
pub expression_found : (limits : Limits) (l : Bool) (items rest : Items) (t : Tree) → expression_of limits l items ≡ Some (t, rest)
    → (items ≡ yield t rest) × IsExpression l t × Within limits t
unfolding expression_of
expression_found limits l items rest t h =
    let (y, read, is) = left_over_ok (expr limits.depth (widest limits l) 0 (at limits.links items)) (t, rest) h in
    let found = expr_sound limits.depth (widest limits l) 0 (at limits.links items) y read in
    subst (λ (x : Tree × Items). (items ≡ yield x.0 x.1) × IsExpression l x.0 × Within limits x.0) is (
      found.spelled,
      found.is,
      record {
        depth = found.high;
        few_links = omega (arith, found.counted);
        few_subscripts = found.nested;
        few_arrays = found.inner;
      },
    )

pub expression_read : (limits : Limits) (l : Bool) (t : Tree) (r : Items) → IsExpression l t → Within limits t → Ends r
    → expression_of limits l (yield t r) ≡ Some (t, r)
unfolding expression_of
expression_read limits l t r is within ends = let (q, same, read) = ends_read t limits l r is within ends in ap left_over read

pub expression_one : (l : Bool) (t u : Tree) (r v : Items) → IsExpression l t → IsExpression l u → Ends r → Ends v
    → yield t r ≡ yield u v → (t ≡ u) × (r ≡ v)
expression_one l t u r v t_is u_is r_ends v_ends e =
    let limits : Limits = record {
      depth = height t + height u;
      links = links t + links u;
      subscripts = measure subscripts t + measure
          subscripts u;
      arrays = measure arrays t + measure arrays u;
      bodies = 0;
    } in
    let first = expression_read limits l t r t_is (record {
      depth = omega arith;
      few_links = omega arith;
      few_subscripts = omega
          arith;
      few_arrays = omega arith;
    }) r_ends in
    let other = expression_read limits l u v u_is (record {
      depth = omega arith;
      few_links = omega arith;
      few_subscripts = omega
          arith;
      few_arrays = omega arith;
    }) v_ends in
    let same : (t, r) ≡ (u, v) = same_Some _ _ (sym first ∙ ap (expression_of limits l) e ∙ other) in
    (ap (λ (x : Tree × Items). x.0) same, ap (λ (x : Tree × Items). x.1) same)

-- the end of the tokens ends an expression too
pub ends_ended : Ends Ended
unfolding link_of
ends_ended = record { front = refl; apart = record { link = refl; call = refl } }

-- Arguments.
outer_sound : (limits : Limits) → Sound no_toll (Fitting limits.bodies limits.depth limits.links) limits.depth (outermost limits)
outer_sound limits = fresh_sound limits.bodies limits.depth limits.links (expr limits.depth) (expr_sound limits.depth)

outer_bars : (limits : Limits) → Bars (outermost limits)
outer_bars limits = fresh_bars limits.links (expr limits.depth) (expr_bars limits.depth)

pub kwargs_found : (limits : Limits) (l : Bool) (items rest : Items) (x : Opened) → kwargs_of limits l items ≡ Some (x, rest)
    → (items ≡ kwargs_yield x rest) × AreKwargs l x × EachRow (Within limits) x.row
unfolding kwargs_of
kwargs_found limits l items rest x h =
    let (y, read, is) = left_over_ok _ (x, rest) h in
    bound _ _ _ read (λ s begun more. bound _ _ _ more (λ r inside made.
    let at_open = skip_ok LeftParen (at 0 items) s begun in
    let (found, distinct) = arguments_found no_toll (Fitting limits.bodies limits.depth limits.links) limits.depth (outermost limits)
    (outer_sound limits) (widest limits l) s.1 r inside in
    let same : (record { mark = s.0; row = r.0 }, r.1.tokens) ≡ (x, rest) = ap (λ (z : Opened × Place). (z.0, z.1.tokens))
    (same_Some _ _ made) ∙ is in
    subst (λ (z : Opened × Items). (items ≡ kwargs_yield z.0 z.1) × AreKwargs l z.0 × EachRow (Within limits) z.0.row) same
    (at_open.0 ∙ ap (mark LeftParen s.0) found.spelled, (found.is, distinct), found.each)))

pub kwargs_read : (limits : Limits) (l : Bool) (x : Opened) (r : Items) → AreKwargs l x → EachRow (Within limits) x.row
    → kwargs_of limits l (kwargs_yield x r) ≡ Some (x, r)
unfolding kwargs_of
kwargs_read limits l x r is fits =
    let each = row_whole limits.bodies limits.depth limits.links (widest limits l) of_arguments x.row is.0 fits in
    let paid : 0 ≡ row_toll no_toll x.row + 0 = sym (ap (λ i. i + 0) (row_free_toll x.row) ∙ omega arith) in
    let read : arguments_of (outermost limits) (widest limits l) (at 0 (row_yield of_arguments x.row r)) ≡ Some (x.row, at 0 r) =
    ap (λ i. arguments_of (outermost limits) (widest limits l) (at i (row_yield of_arguments x.row r))) paid
    ∙ arguments_read (outermost limits) no_toll (outer_bars limits) (widest limits l) x.row 0 r is.0 is.1 each in
    rw (skip_mark LeftParen refl 0 x.mark (row_yield of_arguments x.row r), read)

-- A filter.
args_found_outer : (limits : Limits) (l : Bool) (p : Place) (o : Reads Span) → skip LeftParen p ≡ o → (x : Args × Place)
    → args_at (outermost limits) (widest limits l) p o ≡ Some x
    → (p.tokens ≡ args_yield x.0 x.1.tokens) × AreArgs l x.0 × EachArgs (Within limits) x.0
args_found_outer limits l p None is x h =
    subst (λ (y : Args × Place). (p.tokens ≡ args_yield y.0 y.1.tokens) × AreArgs l y.0 × EachArgs (Within limits) y.0)
    (same_Some (no_args, p) x h) (refl, tt, tt)
args_found_outer limits l p (Some s) is x h =
    bound _ _ _ h (λ r read made.
    let at_open = skip_ok LeftParen p s is in
    let (found, distinct) = arguments_found no_toll (Fitting limits.bodies limits.depth limits.links) limits.depth (outermost limits)
    (outer_sound limits) (widest limits l) s.1 r read in
    subst (λ (y : Args × Place). (p.tokens ≡ args_yield y.0 y.1.tokens) × AreArgs l y.0 × EachArgs (Within limits) y.0)
    (same_Some (args s.0 r.0, r.1) x made)
    (at_open.0 ∙ ap (mark LeftParen s.0) found.spelled, (found.is, distinct), found.each))

pub filter_found : (limits : Limits) (l : Bool) (items rest : Items) (x : Filtering) → filter_of limits l items ≡ Some (x, rest)
    → (items ≡ filter_yield x rest) × AreArgs l x.args × EachArgs (Within limits) x.args
unfolding filter_of args_of
filter_found limits l items rest x h =
    let (y, read, is) = left_over_ok _ (x, rest) h in
    bound _ _ _ read (λ n name more. bound _ _ _ more (λ g inside made.
    let at_name = name_of_ok (at 0 items) n name in
    let found = args_found_outer limits l n.1 (skip LeftParen n.1) refl g inside in
    let same : (record { name = n.0; args = g.0 }, g.1.tokens) ≡ (x, rest) = ap (λ (z : Filtering × Place). (z.0, z.1.tokens))
    (same_Some _ _ made) ∙ is in
    subst (λ (z : Filtering × Items). (items ≡ filter_yield z.0 z.1) × AreArgs l z.0.args × EachArgs (Within limits) z.0.args) same
    (at_name.0 ∙ ap (name_yield n.0) found.0, found.1, found.2)))

args_read_outer : (limits : Limits) (l : Bool) (g : Args) (r : Items) → AreArgs l g → EachArgs (Within limits) g
    → takes LeftParen r ≡ None
    → args_of (outermost limits) (widest limits l) (at 0 (args_yield g r)) ≡ Some (g, at 0 r)
args_read_outer limits l no_args r is fits free_of_call = no_args_read (outermost limits) (outer_bars limits) (widest limits l) 0 r
    free_of_call
args_read_outer limits l (args s row) r is fits free_of_call =
    let each = row_whole limits.bodies limits.depth limits.links (widest limits l) of_arguments row is.0 fits in
    let paid : 0 ≡ row_toll no_toll row + 0 = sym (ap (λ i. i + 0) (row_free_toll row) ∙ omega arith) in
    args_read (outermost limits) (outer_bars limits) (widest limits l) s row 0 0 (row_yield of_arguments row r) r
    (ap (λ i. arguments_of (outermost limits) (widest limits l) (at i (row_yield of_arguments row r))) paid
    ∙ arguments_read (outermost limits) no_toll (outer_bars limits) (widest limits l) row 0 r is.0 is.1 each)

pub filter_read_whole : (limits : Limits) (l : Bool) (x : Filtering) (r : Items) → AreArgs l x.args
    → EachArgs (Within limits) x.args → takes LeftParen r ≡ None
    → filter_of limits l (filter_yield x r) ≡ Some (x, r)
unfolding filter_of
filter_read_whole limits l x r is fits free_of_call = rw (
  name_read x.name 0 (args_yield x.args r),
  args_read_outer limits l x.args
      r is fits free_of_call,
)

-- Attributes.
pub attributes_found_whole : (limits : Limits) (l : Bool) (items rest : Items) (x : Attributes)
    → all_attributes limits l items ≡ Some (x, rest)
    → (items ≡ attributes_yield x rest) × AreAttributes l x × EachAttribute (Within limits) x
unfolding all_attributes
attributes_found_whole limits l items rest x h =
    let (y, read, is) = left_over_ok (attributes_of (outermost limits) (widest limits l) (at 0 items)) (x, rest) h in
    let found = attributes_found no_toll (Fitting limits.bodies limits.depth limits.links) limits.depth (outermost limits) (outer_sound limits)
    (widest limits l) (at 0 items) y read in
    subst (λ (z : Attributes × Items). (items ≡ attributes_yield z.0 z.1) × AreAttributes l z.0
    × EachAttribute (Within limits) z.0) is (found.spelled, found.is, found.each)

pub attributes_read_whole : (limits : Limits) (l : Bool) (x : Attributes) (r : Items) → AreAttributes l x
    → EachAttribute (Within limits) x → NoAttribute r
    → all_attributes limits l (attributes_yield x r) ≡ Some (x, r)
unfolding all_attributes
attributes_read_whole limits l x r is fits none =
    let each = attributes_whole limits.bodies limits.depth limits.links (widest limits l) x is fits in
    let paid : 0 ≡ attributes_toll no_toll x + 0 = sym (ap (λ i. i + 0) (attributes_free_toll x) ∙ omega arith) in
    ap left_over (ap (λ i. attributes_of (outermost limits) (widest limits l) (at i (attributes_yield x r))) paid
    ∙ attributes_read (outermost limits) no_toll (outer_bars limits) (widest limits l) x 0 r is each none)

-- The name of a component.
pub path_found : (items rest : Items) (x : Path) → path_of items ≡ Some (x, rest) → items ≡ path_yield x rest
unfolding path_of
path_found items rest x h =
    let (y, read, is) = left_over_ok _ (x, rest) h in
    bound _ _ _ read (λ n name more. bound _ _ _ more (λ ds dotted made.
    let at_name = name_of_ok (at 0 items) n name in
    let found = dotted_found n.1 ds dotted in
    let same : (record { name = n.0; further = ds.0 }, ds.1.tokens) ≡ (x, rest) = ap (λ (z : Path × Place). (z.0, z.1.tokens))
    (same_Some _ _ made) ∙ is in
    subst (λ (z : Path × Items). items ≡ path_yield z.0 z.1) same (at_name.0 ∙ ap (name_yield n.0) found.spelled)))

pub path_read : (x : Path) (r : Items) → takes Dot r ≡ None → path_of (path_yield x r) ≡ Some (x, r)
unfolding path_of
path_read x r none = rw (name_read x.name 0 (dotted_yield x.further r), dotted_read x.further 0 r none)

-- Arrays and maps of constants.
with_array_ok : (x : Opened) (q : Place) (o : Option values.Vals) (y : (Opened × values.Vals) × Place) → with_array x q o ≡ Some y
    → (vs : values.Vals) × (o ≡ Some vs) × (((x, vs), q) ≡ y)
with_array_ok x q None y h = cc
with_array_ok x q (Some vs) y h = (vs, refl, same_Some _ _ h)

with_map_ok : (x : Opened) (q : Place) (o : Option values.Pairs) (y : (Opened × values.Pairs) × Place) → with_map x q o ≡ Some y
    → (ps : values.Pairs) × (o ≡ Some ps) × (((x, ps), q) ≡ y)
with_map_ok x q None y h = cc
with_map_ok x q (Some ps) y h = (ps, refl, same_Some _ _ h)

array_fits : (limits : Limits) (a : ℕ) → limits.arrays ≡ suc a → (items : Items) (x : Opened) (p q : Place)
    → FoundRow no_toll (Fitting limits.bodies limits.depth limits.links) limits.depth (room false limits.subscripts a) of_items p x.row q
    → ArrayWithin limits x
array_fits limits a low items x p q found = (
  omega (arith, found.inner, low),
  row_map (Fitting limits.bodies limits.depth limits.links (room false limits.subscripts a)) (Within limits) x.row
      (λ e h. record {
        depth = h.depth;
        few_links = h.few_links;
        few_subscripts = h.few_subscripts;
        few_arrays = omega
            (arith, h.few_arrays, low);
      }) found.each,
)

-- of the row that is read
array_taken : (limits : Limits) (items rest : Items) (x : Opened) (vs us : values.Vals) (s : Span × Place) (v : Room) (r : Row × Place)
    → skip LeftBracket (at 0 items) ≡ Some s → inside_array (widest limits false) ≡ Some v → row_of (outermost limits) v of_items s.1 ≡ Some r
    → array_value (record { mark = s.0; row = r.0 }) ≡ Some us → ◌≡◌ {A = (Opened × values.Vals) × Items} ((record { mark = s.0; row = r.0 }, us), r.1.tokens) ((x, vs), rest)
    → (items ≡ array_yield x rest) × IsArray x vs × ArrayWithin limits x
array_taken limits items rest x vs us s v r begun inside row value same =
    let at_open = skip_ok LeftBracket (at 0 items) s begun in
    let (a, low, room_is) = inside_array_ok (widest limits false) v inside in
    let found = row_found no_toll (Fitting limits.bodies limits.depth limits.links) limits.depth (outermost limits) (outer_sound limits)
    (room false limits.subscripts a) of_items s.1 r
    (subst (λ u. row_of (outermost limits) u of_items s.1 ≡ Some r) (sym room_is) row) in
    subst (λ (z : (Opened × values.Vals) × Items). (items ≡ array_yield z.0.0 z.1) × IsArray z.0.0 z.0.1 × ArrayWithin limits z.0.0)
    same (
      at_open.0 ∙ ap (mark LeftBracket s.0) found.spelled,
      (found.is, value),
      array_fits limits a low items
          (record { mark = s.0; row = r.0 }) s.1 r.1 found,
    )

pub literal_array_found : (limits : Limits) (items rest : Items) (x : Opened) (vs : values.Vals)
    → literal_array_of limits items ≡ Some ((x, vs), rest)
    → (items ≡ array_yield x rest) × IsArray x vs × ArrayWithin limits x
literal_array_found limits items rest x vs h =
    let (y, read, is) = left_over_ok (row_array limits items) ((x, vs), rest) (sym (literal_arrays_are limits items) ∙ h) in
    bound _ _ _ read (λ s begun one. bound _ _ _ one (λ v inside two. bound _ _ _ two (λ r row three.
    let (us, value, made) = with_array_ok (record { mark = s.0; row = r.0 }) r.1 (array_value (record { mark = s.0; row = r.0 })) y
    three in
    array_taken limits items rest x vs us s v r begun inside row value (ap (λ (z : (Opened × values.Vals) × Place). (z.0, z.1.tokens)) made ∙ is))))

-- each item fits into the room inside of the array
element_inside : (x : Element) (limits : Limits) (a : ℕ) → element_measure arrays x ≤ a → EachElement (Within limits) x
    → EachElement (Fitting limits.bodies limits.depth limits.links (room false limits.subscripts a)) x
element_inside (plain e) limits a le h = record {
  depth = h.depth;
  few_links = h.few_links;
  few_subscripts = h.few_subscripts;
  few_arrays = omega (arith, le);
}
element_inside (spread s e) limits a le h = record {
  depth = h.depth;
  few_links = h.few_links;
  few_subscripts = h.few_subscripts;
  few_arrays = omega (arith, le);
}
element_inside (pair l s t e) limits a le h = record {
  depth = h.depth;
  few_links = h.few_links;
  few_subscripts = h.few_subscripts;
  few_arrays = omega (arith, le);
}
element_inside (argument n s e) limits a le h = record {
  depth = h.depth;
  few_links = h.few_links;
  few_subscripts = h.few_subscripts;
  few_arrays = omega (arith, le);
}

row_inside : (row : Row) (limits : Limits) (a : ℕ) → row_measure arrays row ≤ a → EachRow (Within limits) row
    → EachRow (Fitting limits.bodies limits.depth limits.links (room false limits.subscripts a)) row
row_inside (ended s) limits a le h = tt
row_inside (only x s) limits a le h = element_inside x limits a le h
row_inside (then x s xs) limits a le h = (
  element_inside x limits a (omega (arith, le)) h.0,
  row_inside xs limits a
      (omega (arith, le)) h.1,
)

array_read_in : (c d n b a : ℕ) (x : Opened) (r : Items) → IsRow false of_items x.row → row_measure arrays x.row + 1 ≤ a
    → EachRow (Within (record { depth = d; links = n; subscripts = b; arrays = a; bodies = c })) x.row
    → (inside_array (room false b a) >>= λ v. row_of (fresh n (expr d)) v of_items (at 0 (row_yield of_items x.row r))) ≡ Some
    (x.row, at 0 r)
array_read_in c d n b zero x r is le fits = absurd (omega (arith, le))
array_read_in c d n b (suc a) x r is le fits =
    let limits : Limits = record { depth = d; links = n; subscripts = b; arrays = suc a; bodies = c } in
    let each = row_whole c d n (room false b a) of_items x.row is (row_inside x.row limits a (omega (arith, le)) fits) in
    let paid : 0 ≡ row_toll no_toll x.row + 0 = sym (ap (λ i. i + 0) (row_free_toll x.row) ∙ omega arith) in
    rw (inside_array_read false b a)
    (ap (λ i. row_of (fresh n (expr d)) (room false b a) of_items (at i (row_yield of_items x.row r))) paid
    ∙ row_read (fresh n (expr d)) no_toll (fresh_bars n (expr d) (expr_bars d)) (room false b a) x.row of_items 0 r is each)

bind_in : {A B C : Type 0} (o : Option A) (f : A → Option B) (g : B → Option C) (y : B) → (o >>= f) ≡ Some y
    → (o >>= λ x. f x >>= g) ≡ g y
bind_in None f g y h = cc
bind_in (Some x) f g y h = ap (λ z. z >>= g) h

pub literal_array_read : (limits : Limits) (x : Opened) (vs : values.Vals) (r : Items) → IsArray x vs → ArrayWithin limits x
    → literal_array_of limits (array_yield x r) ≡ Some ((x, vs), r)
literal_array_read limits x vs r is fits =
    literal_arrays_are limits (array_yield x r)
    ∙ ap left_over (ap (λ o. o >>= λ s. inside_array (widest limits false) >>= λ v. row_of (outermost limits) v of_items s.1 >>= λ r.
    with_array (record { mark = s.0; row = r.0 }) r.1 (array_value (record { mark = s.0; row = r.0 })))
    (skip_mark LeftBracket refl 0 x.mark (row_yield of_items x.row r))
    ∙ bind_in (inside_array (widest limits false)) (λ v. row_of (outermost limits) v of_items (at 0 (row_yield of_items x.row r)))
    (λ r. with_array (record { mark = x.mark; row = r.0 }) r.1 (array_value (record { mark = x.mark; row = r.0 }))) (x.row, at 0 r)
    (array_read_in limits.bodies limits.depth limits.links limits.subscripts limits.arrays x r is.0 fits.0 fits.1)
    ∙ ap (with_array x (at 0 r)) is.1)

-- of the row that is read
map_taken : (limits : Limits) (items rest : Items) (x : Opened) (ps us : values.Pairs) (s : Span × Place) (r : Row × Place)
    → skip LeftBrace (at 0 items) ≡ Some s → row_of (outermost limits) (widest limits false) of_entries s.1 ≡ Some r
    → map_value (record { mark = s.0; row = r.0 }) ≡ Some us → ◌≡◌ {A = (Opened × values.Pairs) × Items} ((record { mark = s.0; row = r.0 }, us), r.1.tokens) ((x, ps), rest)
    → (items ≡ map_yield x rest) × IsMap x ps × EachRow (Within limits) x.row
map_taken limits items rest x ps us s r begun row value same =
    let at_open = skip_ok LeftBrace (at 0 items) s begun in
    let found = row_found no_toll (Fitting limits.bodies limits.depth limits.links) limits.depth (outermost limits) (outer_sound limits)
    (widest limits false) of_entries s.1 r row in
    subst (λ (z : (Opened × values.Pairs) × Items). (items ≡ map_yield z.0.0 z.1) × IsMap z.0.0 z.0.1
    × EachRow (Within limits) z.0.0.row) same
    (at_open.0 ∙ ap (mark LeftBrace s.0) found.spelled, (found.is, value), found.each)

pub literal_map_found : (limits : Limits) (items rest : Items) (x : Opened) (ps : values.Pairs)
    → literal_map_of limits items ≡ Some ((x, ps), rest)
    → (items ≡ map_yield x rest) × IsMap x ps × EachRow (Within limits) x.row
unfolding literal_map_of
literal_map_found limits items rest x ps h =
    let (y, read, is) = left_over_ok _ ((x, ps), rest) h in
    bound _ _ _ read (λ s begun one. bound _ _ _ one (λ r row two.
    let (us, value, made) = with_map_ok (record { mark = s.0; row = r.0 }) r.1 (map_value (record { mark = s.0; row = r.0 })) y
    two in
    map_taken limits items rest x ps us s r begun row value (ap (λ (z : (Opened × values.Pairs) × Place). (z.0, z.1.tokens)) made ∙ is)))

pub literal_map_read : (limits : Limits) (x : Opened) (ps : values.Pairs) (r : Items) → IsMap x ps → EachRow (Within limits) x.row
    → literal_map_of limits (map_yield x r) ≡ Some ((x, ps), r)
unfolding literal_map_of
literal_map_read limits x ps r is fits =
    let each = row_whole limits.bodies limits.depth limits.links (widest limits false) of_entries x.row is.0 fits in
    let paid : 0 ≡ row_toll no_toll x.row + 0 = sym (ap (λ i. i + 0) (row_free_toll x.row) ∙ omega arith) in
    let read : row_of (outermost limits) (widest limits false) of_entries (at 0 (row_yield of_entries x.row r)) ≡ Some
    (x.row, at 0 r) =
    ap (λ i. row_of (outermost limits) (widest limits false) of_entries (at i (row_yield of_entries x.row r))) paid
    ∙ row_read (outermost limits) no_toll (outer_bars limits) (widest limits false) x.row of_entries 0 r is.0 each in
    ap left_over (ap (λ o. o >>= λ s. row_of (outermost limits) (widest limits false) of_entries s.1 >>= λ q.
    with_map (record { mark = s.0; row = q.0 }) q.1 (map_value (record { mark = s.0; row = q.0 })))
    (skip_mark LeftBrace refl 0 x.mark (row_yield of_entries x.row r))
    ∙ ap (λ o. o >>= λ q. with_map (record { mark = x.mark; row = q.0 }) q.1 (map_value (record { mark = x.mark; row = q.0 }))) read
    ∙ ap (with_map x (at 0 r)) is.1)
