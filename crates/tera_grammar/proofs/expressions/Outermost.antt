-- Outermost values have links of their own.
use Rattle.std.proofs.Common.{◌≡◌, ℕ, zero, suc, ◌+◌, ◌≤◌, Bool, Some, refl, ap, subst, ◌∙◌, arith}
use Rattle.std.proofs.lemmas.Option.{same_Some}
use Rattle.tera_lexer.specs.grammar.Tokens.{Items}
use Rattle.tera_grammar.specs.expressions.Marks.{mark}
use Rattle.tera_grammar.specs.expressions.Concrete.{Kind, Tree, Row, ended, only, then, Element, plain, spread, pair, argument, Attributes, no_attributes, bare, quoted, valued, spreading, yield}
use Rattle.tera_grammar.specs.expressions.Conditions.{IsExpression, IsRow, IsElement, AreAttributes}
use Rattle.tera_grammar.specs.Limits.{Limits}
use Rattle.tera_grammar.specs.expressions.Measures.{row_measure, element_measure, attributes_measure, openings, subscripts, arrays, links, linking, Within, EachElement, EachRow, EachAttribute}
use Rattle.tera_grammar.specs.expressions.Reading.Front.{Place, at}
use Rattle.tera_grammar.specs.expressions.Reading.Rooms.{Room}
use Rattle.tera_grammar.proofs.plain.expressions.Reading.Bracketed.{Reader}
use Rattle.tera_grammar.proofs.plain.expressions.Reading.Loop.{expr, fresh}
use Rattle.tera_grammar.specs.expressions.Reading.Whole.{widest}
use Rattle.tera_grammar.proofs.Options.{bound}
use Rattle.tera_grammar.proofs.expressions.Fronts.{Ends, ends_mark}
use Rattle.tera_grammar.proofs.expressions.Quiet.{Quiet-ends, ends_stops}
use Rattle.tera_grammar.proofs.expressions.FoundRows.{Found, Sound, element_toll, row_toll, attributes_toll}
use Rattle.tera_grammar.proofs.expressions.FoundParts.{SoundTree}
use Rattle.tera_grammar.proofs.expressions.ReadRows.{Whole, Bars}
use Rattle.tera_grammar.proofs.expressions.Complete.{at_zero, operand, reached}

-- the number by which one is greater than another
pub apart_by : (a b : ℕ) → a ≤ b → (j : ℕ) × (b ≡ a + j)
apart_by zero b le = (b, omega arith)
apart_by (suc a) zero le = absurd (omega arith)
apart_by (suc a) (suc b) le = let (j, e) = apart_by a b (omega arith) in (j, omega (arith, e))

abbrev pub limits_in : ℕ → ℕ → ℕ → Room → Limits
limits_in c d n w = record { depth = d; links = n; subscripts = w.subscripts; arrays = w.arrays; bodies = c }

-- nothing is paid for a value with links of its own
abbrev pub no_toll : Tree → ℕ
no_toll t = 0

abbrev pub Fitting : ℕ → ℕ → ℕ → Room → Tree → Type 0
Fitting c d n w t = Within (limits_in c d n w) t

pub fresh_sound : (c d n : ℕ) (f : Reader) → SoundTree d f → Sound no_toll (Fitting c d n) d (fresh n f)
unfolding fresh
fresh_sound c d n f sound w m p x h =
    bound _ _ _ h (λ t read made.
    let found = sound w m (at n p.tokens) t read in
    subst (λ (y : Tree × Place). Found no_toll (Fitting c d n) d w m p y.0 y.1) (same_Some (t.0, at p.links t.1.tokens) x made)
    (record {
      spelled = found.spelled;
      counted = omega arith;
      each = record {
        depth = found.high;
        few_links = omega (arith, found.counted);
        few_subscripts = found.nested;
        few_arrays = found.inner;
      };
      is = found.is;
      left = found.left;
      quiet = found.quiet;
      stops = found.stops;
      high = found.high;
      nested = found.nested;
      inner = found.inner;
    }))

pub fresh_bars : (n : ℕ) (f : Reader) → Bars f → Bars (fresh n f)
unfolding fresh
fresh_bars n f bars m h w i k s r = rw (bars m h w i n s r)

-- an expression within the limits is read before everything that ends it
pub ends_read : (t : Tree) (limits : Limits) (l : Bool) (r : Items) → IsExpression l t → Within limits t → Ends r
    → (q : ℕ) × (limits.links ≡ links t + q) × (expr limits.depth (widest limits l) 0 (at limits.links (yield t r)) ≡ Some
    (t, at q r))
ends_read t limits l r is within ends =
    let (q, e) = apart_by (links t) limits.links within.few_links in (
      q,
      e,
      ap (λ i. expr limits.depth (widest limits l) 0 (at i (yield t r))) e
          ∙ operand t (reached t) limits.depth (widest limits l) 0 q r is (at_zero _) (Quiet-ends t r ends) (ends_stops r ends 0)
          (omega (arith, within.depth), within.few_subscripts, within.few_arrays),
    )

pub fresh_whole : (c d n : ℕ) (w : Room) (e : Tree) → IsExpression w.in_loop e → Fitting c d n w e
    → Whole (fresh n (expr d)) no_toll w e
unfolding fresh
fresh_whole c d n w e is fits m stop s k r =
    let (q, same, read) = ends_read e (limits_in c d n w) w.in_loop (mark m s r) is fits (ends_mark m stop s r) in
    let nothing_paid : 0 + k ≡ k = omega arith in
    ap (λ i. fresh n (expr d) w 0 (at i (yield e (mark m s r)))) nothing_paid ∙ rw read

-- of each value of a row
pub element_map : (P Q : Tree → Type 0) → (x : Element) → ((e : Tree) → P e → Q e) → EachElement P x → EachElement Q x
element_map P Q (plain e) f h = f e h
element_map P Q (spread s e) f h = f e h
element_map P Q (pair l s t e) f h = f e h
element_map P Q (argument n s e) f h = f e h

pub row_map : (P Q : Tree → Type 0) → (row : Row) → ((e : Tree) → P e → Q e) → EachRow P row → EachRow Q row
row_map P Q (ended s) f h = tt
row_map P Q (only x s) f h = element_map P Q x f h
row_map P Q (then x s xs) f h = (element_map P Q x f h.0, row_map P Q xs f h.1)

element_whole : (c d n : ℕ) (w : Room) (k : Kind) (x : Element) → IsElement w.in_loop k x → EachElement (Fitting c d n w) x
    → EachElement (Whole (fresh n (expr d)) no_toll w) x
element_whole c d n w k (plain e) is h = fresh_whole c d n w e is.1 h
element_whole c d n w k (spread s e) is h = fresh_whole c d n w e is.1 h
element_whole c d n w k (pair l s t e) is h = fresh_whole c d n w e is.1 h
element_whole c d n w k (argument m s e) is h = fresh_whole c d n w e is.1 h

pub row_whole : (c d n : ℕ) (w : Room) (k : Kind) (row : Row) → IsRow w.in_loop k row → EachRow (Fitting c d n w) row
    → EachRow (Whole (fresh n (expr d)) no_toll w) row
row_whole c d n w k (ended s) is h = tt
row_whole c d n w k (only x s) is h = element_whole c d n w k x is h
row_whole c d n w k (then x s xs) is h = (element_whole c d n w k x is.0 h.0, row_whole c d n w k xs is.1 h.1)

pub attributes_whole : (c d n : ℕ) (w : Room) (x : Attributes) → AreAttributes w.in_loop x → EachAttribute (Fitting c d n w) x
    → EachAttribute (Whole (fresh n (expr d)) no_toll w) x
attributes_whole c d n w no_attributes is h = tt
attributes_whole c d n w (bare m ats) is h = attributes_whole c d n w ats is h
attributes_whole c d n w (quoted m s l t ats) is h = attributes_whole c d n w ats is h
attributes_whole c d n w (valued m s b e t ats) is h = (fresh_whole c d n w e is.0 h.0, attributes_whole c d n w ats is.1 h.1)
attributes_whole c d n w (spreading b s e t ats) is h = (fresh_whole c d n w e is.0 h.0, attributes_whole c d n w ats is.1 h.1)

element_free_toll : (x : Element) → element_toll no_toll x ≡ 0
element_free_toll (plain e) = refl
element_free_toll (spread s e) = refl
element_free_toll (pair l s t e) = refl
element_free_toll (argument n s e) = refl

pub row_free_toll : (row : Row) → row_toll no_toll row ≡ 0
row_free_toll (ended s) = refl
row_free_toll (only x s) = element_free_toll x
row_free_toll (then x s xs) = rw (element_free_toll x, row_free_toll xs)

pub attributes_free_toll : (x : Attributes) → attributes_toll no_toll x ≡ 0
attributes_free_toll no_attributes = refl
attributes_free_toll (bare n ats) = attributes_free_toll ats
attributes_free_toll (quoted n s l t ats) = attributes_free_toll ats
attributes_free_toll (valued n s b e c ats) = rw (attributes_free_toll ats)
attributes_free_toll (spreading b s e c ats) = rw (attributes_free_toll ats)

-- limits that are great enough for each value of a row
element_within : (x : Element) (limits : Limits) → element_measure openings x ≤ limits.depth → element_measure linking x ≤ limits.links
    → element_measure subscripts x ≤ limits.subscripts
    → element_measure arrays x ≤ limits.arrays → EachElement (Within limits) x
element_within (plain e) limits a b c d = record {
  depth = omega (arith, a);
  few_links = b;
  few_subscripts = omega (arith, c);
  few_arrays = omega (arith, d);
}
element_within (spread s e) limits a b c d = record {
  depth = omega (arith, a);
  few_links = b;
  few_subscripts = omega (arith, c);
  few_arrays = omega (arith, d);
}
element_within (pair l s t e) limits a b c d = record {
  depth = omega (arith, a);
  few_links = b;
  few_subscripts = omega (arith, c);
  few_arrays = omega (arith, d);
}
element_within (argument n s e) limits a b c d = record {
  depth = omega (arith, a);
  few_links = b;
  few_subscripts = omega
      (arith, c);
  few_arrays = omega (arith, d);
}

pub row_within : (row : Row) (limits : Limits) → row_measure openings row ≤ limits.depth → row_measure linking row ≤ limits.links
    → row_measure subscripts row ≤ limits.subscripts
    → row_measure arrays row ≤ limits.arrays → EachRow (Within limits) row
row_within (ended s) limits a b c d = tt
row_within (only x s) limits a b c d = element_within x limits a b c d
row_within (then x s xs) limits a b c d = (
  element_within x limits (omega (arith, a)) (omega (arith, b)) (omega (arith, c)) (omega (arith, d)),
  row_within xs limits
      (omega (arith, a)) (omega (arith, b)) (omega (arith, c)) (omega (arith, d)),
)

pub attributes_within : (x : Attributes) (limits : Limits) → attributes_measure openings x ≤ limits.depth
    → attributes_measure linking x ≤ limits.links → attributes_measure subscripts x ≤ limits.subscripts
    → attributes_measure arrays x ≤ limits.arrays → EachAttribute (Within limits) x
attributes_within no_attributes limits a b c d = tt
attributes_within (bare n ats) limits a b c d = attributes_within ats limits a b c d
attributes_within (quoted n s l t ats) limits a b c d = attributes_within ats limits a b c d
attributes_within (valued n s p e q ats) limits a b c d = (
  record {
    depth = omega (arith, a);
    few_links = omega (arith, b);
    few_subscripts = omega (arith, c);
    few_arrays = omega (arith, d);
  },
  attributes_within ats limits (omega (arith, a)) (omega (arith, b)) (omega (arith, c)) (omega (arith, d)),
)
attributes_within (spreading p s e q ats) limits a b c d = (
  record {
    depth = omega (arith, a);
    few_links = omega (arith, b);
    few_subscripts = omega (arith, c);
    few_arrays = omega (arith, d);
  },
  attributes_within ats limits (omega (arith, a)) (omega (arith, b)) (omega (arith, c)) (omega (arith, d)),
)
