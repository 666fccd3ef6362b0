-- Two trees over one list of tokens are the same.
use Rattle.std.proofs.Common.{◌≡◌, ℕ, ◌+◌, Bool, Option, Some, None, refl, sym, ap, subst, ◌∙◌, inl, inr, arith}
use Rattle.std.proofs.lemmas.Option.{same_Some}
use Rattle.tera_base.specs.Values as values
use Rattle.tera_base.specs.declared.utils.Span.{Span}
use Rattle.tera_lexer.specs.grammar.Tokens.{Items}
use Rattle.tera_lexer.specs.code.Cursors.{nowhere}
use Rattle.tera_grammar.specs.expressions.Marks.{LeftParen, Dot}
use Rattle.tera_grammar.specs.expressions.Concrete.{Row, ended, Attributes, Args, no_args, args, attributes_yield}
use Rattle.tera_grammar.specs.expressions.Conditions.{AreAttributes, AreArgs}
use Rattle.tera_grammar.specs.Limits.{Limits}
use Rattle.tera_grammar.specs.expressions.Measures.{row_measure, attributes_measure, openings, subscripts, arrays, Within, EachRow, linking}
use Rattle.tera_grammar.specs.expressions.Companions.{Opened, kwargs_yield, AreKwargs, Filtering, filter_yield, EachArgs, Path, path_yield, array_yield, IsArray, ArrayWithin, map_yield, IsMap}
use Rattle.tera_grammar.proofs.plain.expressions.Reading.Front.{takes}
use Rattle.tera_grammar.proofs.plain.expressions.Reading.Whole.{kwargs_of, filter_of, all_attributes, path_of, literal_array_of, literal_map_of}
use Rattle.tera_grammar.specs.expressions.Ends.{EndsAttributes, EndsFilter, EndsPath}
use Rattle.tera_grammar.proofs.expressions.Fronts.{takes_ok}
use Rattle.tera_grammar.proofs.expressions.ReadRows.{NoAttribute}
use Rattle.tera_grammar.proofs.expressions.Outermost.{row_within, attributes_within}
use Rattle.tera_grammar.proofs.expressions.Wholes.{kwargs_read, filter_read_whole, attributes_read_whole, path_read, literal_array_read, literal_map_read}

-- what ends attributes, a filter and a name, as the reading sees it
pub attributes_end : (r : Items) → EndsAttributes r → NoAttribute r
attributes_end r (inl h) = subst NoAttribute (sym h.2) (record { name = refl; brace = refl; assign = refl })
attributes_end r (inr h) = subst NoAttribute (sym h.2) (record { name = refl; brace = refl; assign = refl })

pub filter_end : (r : Items) → EndsFilter r → takes LeftParen r ≡ None
filter_end r (inl h) = subst (λ v. takes LeftParen v ≡ None) (sym h.2) refl
filter_end r (inr h) = subst (λ v. takes LeftParen v ≡ None) (sym h.4) refl

path_end_of : (r : Items) → EndsPath r → (o : Option (Span × Items)) → takes Dot r ≡ o → o ≡ None
path_end_of r h None e = refl
path_end_of r h (Some x) e = absurd (h (x.0, x.1, takes_ok Dot r x e))

pub path_end : (r : Items) → EndsPath r → takes Dot r ≡ None
path_end r h = path_end_of r h (takes Dot r) refl

-- limits for two
abbrev for_two : (h k n m s t a b : ℕ) → Limits
for_two h k n m s t a b = record { depth = h + k; links = n + m; subscripts = s + t; arrays = a + b; bodies = 0 }

abbrev rows_limits : Row → Row → Limits
rows_limits a b = for_two (row_measure openings a) (row_measure openings b) (row_measure linking a) (row_measure linking b) (row_measure subscripts a)
    (row_measure subscripts b) (row_measure arrays a) (row_measure arrays b)

first_within : (a b : Row) → EachRow (Within (rows_limits a b)) a
first_within a b = row_within a (rows_limits a b) (omega arith) (omega arith) (omega arith) (omega arith)

other_within : (a b : Row) → EachRow (Within (rows_limits a b)) b
other_within a b = row_within b (rows_limits a b) (omega arith) (omega arith) (omega arith) (omega arith)

pub kwargs_one : (l : Bool) (x y : Opened) (r v : Items) → AreKwargs l x → AreKwargs l y → kwargs_yield x r ≡ kwargs_yield y v
    → (x ≡ y) × (r ≡ v)
kwargs_one l x y r v x_is y_is e =
    let limits = rows_limits x.row y.row in
    let same : (x, r) ≡ (y, v) = same_Some _ _ (sym (kwargs_read limits l x r x_is (first_within x.row y.row))
    ∙ ap (kwargs_of limits l) e ∙ kwargs_read limits l y v y_is (other_within x.row y.row)) in
    (ap (λ (z : Opened × Items). z.0) same, ap (λ (z : Opened × Items). z.1) same)

-- the row of arguments, where there are some
abbrev row_in : Args → Row
row_in no_args = ended nowhere
row_in (args s row) = row

args_within : (g : Args) (limits : Limits) → EachRow (Within limits) (row_in g) → EachArgs (Within limits) g
args_within no_args limits h = tt
args_within (args s row) limits h = h

pub filter_one : (l : Bool) (x y : Filtering) (r v : Items) → AreArgs l x.args → AreArgs l y.args → takes LeftParen r ≡ None
    → takes LeftParen v ≡ None → filter_yield x r ≡ filter_yield y v → (x ≡ y) × (r ≡ v)
filter_one l x y r v x_is y_is r_ends v_ends e =
    let limits = rows_limits (row_in x.args) (row_in y.args) in
    let first = filter_read_whole limits l x r x_is (args_within x.args limits (first_within (row_in x.args) (row_in y.args)))
    r_ends in
    let other = filter_read_whole limits l y v y_is (args_within y.args limits (other_within (row_in x.args) (row_in y.args)))
    v_ends in
    let same : (x, r) ≡ (y, v) = same_Some _ _ (sym first ∙ ap (filter_of limits l) e ∙ other) in
    (ap (λ (z : Filtering × Items). z.0) same, ap (λ (z : Filtering × Items). z.1) same)

pub attributes_one : (l : Bool) (x y : Attributes) (r v : Items) → AreAttributes l x → AreAttributes l y → NoAttribute r
    → NoAttribute v → attributes_yield x r ≡ attributes_yield y v → (x ≡ y) × (r ≡ v)
attributes_one l x y r v x_is y_is r_ends v_ends e =
    let limits = for_two (attributes_measure openings x) (attributes_measure openings y) (attributes_measure linking x) (attributes_measure linking y)
    (attributes_measure subscripts x) (attributes_measure subscripts y) (attributes_measure arrays x) (attributes_measure arrays y) in
    let first = attributes_read_whole limits l x r x_is (attributes_within x limits (omega arith) (omega arith) (omega arith)
    (omega arith)) r_ends in
    let other = attributes_read_whole limits l y v y_is (attributes_within y limits (omega arith) (omega arith) (omega arith)
    (omega arith)) v_ends in
    let same : (x, r) ≡ (y, v) = same_Some _ _ (sym first ∙ ap (all_attributes limits l) e ∙ other) in
    (ap (λ (z : Attributes × Items). z.0) same, ap (λ (z : Attributes × Items). z.1) same)

pub path_one : (x y : Path) (r v : Items) → takes Dot r ≡ None → takes Dot v ≡ None → path_yield x r ≡ path_yield y v → (x ≡ y)
    × (r ≡ v)
path_one x y r v r_ends v_ends e =
    let same : (x, r) ≡ (y, v) = same_Some _ _ (sym (path_read x r r_ends) ∙ ap path_of e ∙ path_read y v v_ends) in
    (ap (λ (z : Path × Items). z.0) same, ap (λ (z : Path × Items). z.1) same)

pub literal_map_one : (x y : Opened) (ps qs : values.Pairs) (r v : Items) → IsMap x ps → IsMap y qs → map_yield x r ≡ map_yield y v
    → (x ≡ y) × (ps ≡ qs) × (r ≡ v)
literal_map_one x y ps qs r v x_is y_is e =
    let limits = rows_limits x.row y.row in
    let same : ((x, ps), r) ≡ ((y, qs), v) =
    same_Some _ _ (sym (literal_map_read limits x ps r x_is (first_within x.row y.row)) ∙ ap (literal_map_of limits) e
    ∙ literal_map_read limits y qs v y_is (other_within x.row y.row)) in (
      ap (λ (z : (Opened × values.Pairs) × Items). z.0.0) same,
      ap (λ (z : (Opened × values.Pairs) × Items). z.0.1) same,
      ap
          (λ (z : (Opened × values.Pairs) × Items). z.1) same,
    )

abbrev arrays_limits : Row → Row → Limits
arrays_limits a b =
    for_two (row_measure openings a) (row_measure openings b) (row_measure linking a) (row_measure linking b) (row_measure subscripts a) (row_measure subscripts b)
    (row_measure arrays a + 1) (row_measure arrays b + 1)

pub literal_array_one : (x y : Opened) (vs us : values.Vals) (r v : Items) → IsArray x vs → IsArray y us
    → array_yield x r ≡ array_yield y v → (x ≡ y) × (vs ≡ us) × (r ≡ v)
literal_array_one x y vs us r v x_is y_is e =
    let limits = arrays_limits x.row y.row in
    let first : ArrayWithin limits x = (
      omega arith,
      row_within x.row limits (omega arith) (omega arith) (omega arith)
          (omega arith),
    ) in
    let other : ArrayWithin limits y = (
      omega arith,
      row_within y.row limits (omega arith) (omega arith) (omega arith)
          (omega arith),
    ) in
    let same : ((x, vs), r) ≡ ((y, us), v) =
    same_Some _ _ (sym (literal_array_read limits x vs r x_is first) ∙ ap (literal_array_of limits) e
    ∙ literal_array_read limits y us v y_is other) in (
      ap (λ (z : (Opened × values.Vals) × Items). z.0.0) same,
      ap (λ (z : (Opened × values.Vals) × Items). z.0.1) same,
      ap
          (λ (z : (Opened × values.Vals) × Items). z.1) same,
    )
