-- Steady markers, by their twelve bytes.
use Rattle.std.proofs.Common.{◌≡◌, ℕ, Bool, true, false, not, ◌&&◌, ◌||◌, List, [], ◌∷◌, ◌++◌, length, ap, sym, ◌∙◌, refl, subst, arith}
use Rattle.std.specs.Prelude.{nat_eq}
use Rattle.std.specs.Char.{is_ascii_whitespace}
use Rattle.std.proofs.lemmas.Bool.{eq-eqb, false≢true}
use Rattle.tera_lexer.specs.grammar.Marks.{Marks, IsValid}
use Rattle.tera_lexer.specs.grammar.Lexeme.{goes_on_name}
use Rattle.tera_layout.specs.Apart.{has_pair, in_operator, in_end}
use Rattle.tera_layout.specs.Steady.{is_sign, is_steady_end, is_steady}
use Rattle.tera_layout.proofs.Likeness.{joins, IsSolid, and_ok, not_true}

pub record Two : Type 0 where
  pub one : ℕ
  pub two : ℕ

abbrev pub both : Two → List ℕ
both t = t.one ∷ t.two ∷ []

pub record Twelve : Type 0 where
  pub block_start : Two
  pub block_end : Two
  pub variable_start : Two
  pub variable_end : Two
  pub comment_start : Two
  pub comment_end : Two

abbrev pub marks_by : Twelve → Marks
marks_by t = record {
  block_start = both t.block_start;
  block_end = both t.block_end;
  variable_start = both t.variable_start;
  variable_end = both t.variable_end;
  comment_start = both t.comment_start;
  comment_end = both t.comment_end;
}

two_of : (marker : List ℕ) → length marker ≡ 2 → (t : Two) × (marker ≡ both t)
two_of [] h = absurd (omega (arith, h))
two_of (a ∷ []) h = absurd (omega (arith, h))
two_of (a ∷ b ∷ []) h = (record { one = a; two = b }, refl)
two_of (a ∷ b ∷ c ∷ more) h = absurd (omega (arith, h))

-- valid markers are twelve bytes
pub twelve_of : (m : Marks) → IsValid m → (t : Twelve) × (m ≡ marks_by t)
twelve_of m valid =
    let a = two_of m.block_start valid.block_start in
    let b = two_of m.block_end valid.block_end in
    let c = two_of m.variable_start valid.variable_start in
    let d = two_of m.variable_end valid.variable_end in
    let e = two_of m.comment_start valid.comment_start in
    let f = two_of m.comment_end valid.comment_end in (
      record {
        block_start = a.0;
        block_end = b.0;
        variable_start = c.0;
        variable_end = d.0;
        comment_start = e.0;
        comment_end = f.0;
      },
      (λ i. record {
        block_start = a.1 i;
        block_end = b.1 i;
        variable_start = c.1 i;
        variable_end = d.1 i;
        comment_start = e.1 i;
        comment_end = f.1 i;
      }),
    )

-- a byte that is not white space, not a dash, and not one of a name
pub record Sign (b : ℕ) : Type 0 where
  pub solid : is_ascii_whitespace b ≡ false
  pub no_dash : nat_eq 45 b ≡ false
  pub no_name : goes_on_name b ≡ false

sign_of : (b : ℕ) → is_sign b ≡ true → Sign b
sign_of b h =
    let (white, others) = and_ok (not (is_ascii_whitespace b)) (not (nat_eq 45 b) && not (goes_on_name b)) h in
    let (dash, name) = and_ok (not (nat_eq 45 b)) (not (goes_on_name b)) others in record {
      solid = not_true (is_ascii_whitespace b) white;
      no_dash = not_true (nat_eq 45 b) dash;
      no_name = not_true (goes_on_name b) name;
    }

-- the end of a tag, which begins so, and holds no white space
pub record SteadyEnd (t : Two) : Type 0 where
  pub sign : Sign t.one
  pub solid : IsSolid (both t)

steady_end : (t : Two) → is_steady_end (both t) ≡ true → SteadyEnd t
steady_end t h =
    let (first, second) = and_ok (is_sign t.one) (not (is_ascii_whitespace t.two)) h in
    let sign = sign_of t.one first in
    record { sign = sign; solid = (sign.solid, (not_true (is_ascii_whitespace t.two) second, tt)) }

pub record Steady (t : Twelve) : Type 0 where
  pub start : Sign t.block_start.one
  pub block : SteadyEnd t.block_end
  pub variable : SteadyEnd t.variable_end

pub steady_of : (t : Twelve) → is_steady (marks_by t) ≡ true → Steady t
steady_of t h =
    let block_is : Bool = is_steady_end (both t.block_end) in
    let variable_is : Bool = is_steady_end (both t.variable_end) in
    let (start, ends) = and_ok (is_sign t.block_start.one) (block_is && variable_is) h in
    let (block, variable) = and_ok block_is variable_is ends in record {
      start = sign_of t.block_start.one start;
      block = steady_end t.block_end block;
      variable = steady_end t.variable_end variable;
    }

-- What is side by side in an end joins
or_first : (a b c : Bool) → a ≡ true → (a || (b || c)) ≡ true
or_first a b c h = rw h refl

or_second : (a b c : Bool) → b ≡ true → (a || (b || c)) ≡ true
or_second true b c h = refl
or_second false b c h = rw h refl

or_third : (a b c : Bool) → c ≡ true → (a || (b || c)) ≡ true
or_third true b c h = refl
or_third false true c h = refl
or_third false false c h = h

pub pair_true : (a b : Bool) → a ≡ true → b ≡ true → (a && b) ≡ true
pair_true a b first second = rw (first, second) refl

dash_pair : (t : Two) → has_pair 45 t.one (45 ∷ both t) ≡ true
dash_pair t = or_first (nat_eq t.one t.one) (nat_eq t.one 45 && nat_eq t.two t.one) false (eq-eqb t.one t.one refl)

end_pair : (t : Two) → has_pair t.one t.two (45 ∷ both t) ≡ true
end_pair t =
    or_second (nat_eq 45 t.one && nat_eq t.one t.two) (nat_eq t.one t.one && nat_eq t.two t.two) false
    (pair_true (nat_eq t.one t.one) (nat_eq t.two t.two) (eq-eqb t.one t.one refl) (eq-eqb t.two t.two refl))

-- an end of a tag between the markers
pub record EndOf (m : Marks) (t : Two) : Type 0 where
  pub dashed : joins m 45 t.one ≡ true
  pub linked : joins m t.one t.two ≡ true

pub variable_ends : (t : Twelve) → EndOf (marks_by t) t.variable_end
variable_ends t = record {
  dashed =
      or_second (in_operator 45 t.variable_end.one) (has_pair 45 t.variable_end.one (45 ∷ both t.variable_end))
      (has_pair 45 t.variable_end.one (45 ∷ both t.block_end)) (dash_pair t.variable_end);
  linked =
      or_second (in_operator t.variable_end.one t.variable_end.two)
      (has_pair t.variable_end.one t.variable_end.two (45 ∷ both t.variable_end))
      (has_pair t.variable_end.one t.variable_end.two (45 ∷ both t.block_end)) (end_pair t.variable_end);
}

pub block_ends : (t : Twelve) → EndOf (marks_by t) t.block_end
block_ends t = record {
  dashed =
      or_third (in_operator 45 t.block_end.one) (has_pair 45 t.block_end.one (45 ∷ both t.variable_end))
      (has_pair 45 t.block_end.one (45 ∷ both t.block_end)) (dash_pair t.block_end);
  linked =
      or_third (in_operator t.block_end.one t.block_end.two)
      (has_pair t.block_end.one t.block_end.two (45 ∷ both t.variable_end))
      (has_pair t.block_end.one t.block_end.two (45 ∷ both t.block_end)) (end_pair t.block_end);
}
