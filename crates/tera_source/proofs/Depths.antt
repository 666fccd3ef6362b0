-- The measures of depth, by weights: laws of the three at once.
use Rattle.std.proofs.Common.{◌≡◌, ℕ, ◌+◌, max, ap, arith}
use Rattle.tera_grammar.specs.expressions.Concrete.{Tree, Atom, Links, Sub, Part, Extra, Row, Element, Attributes, Suffix, Args, Operator}
use Rattle.tera_grammar.specs.expressions.Measures.{Measure, measure, atom_measure, links_measure, sub_measure, part_measure, extra_measure, row_measure, element_measure, attributes_measure, suffix_measure, args_measure, operator_measure, openings, subscripts, arrays}

-- what an expression that is opened adds, what a subscript, what an array
pub record Weight : Type 0 where
  pub opening : ℕ
  pub subscript : ℕ
  pub array : ℕ

abbrev pub weighing : Weight → Measure
weighing w = record {
  join = max;
  opening = λ n. n + w.opening;
  subscript = λ n. n + w.subscript;
  array = λ n. n + w.array;
  link = λ n. n;
}

abbrev pub deep : Weight → Tree → ℕ
deep w t = measure (weighing w) t

abbrev pub atom_deep : Weight → Atom → ℕ
atom_deep w a = atom_measure (weighing w) a

abbrev pub links_deep : Weight → Links → ℕ
links_deep w ls = links_measure (weighing w) ls

abbrev pub sub_deep : Weight → Sub → ℕ
sub_deep w s = sub_measure (weighing w) s

abbrev pub part_deep : Weight → Part → ℕ
part_deep w a = part_measure (weighing w) a

abbrev pub extra_deep : Weight → Extra → ℕ
extra_deep w x = extra_measure (weighing w) x

abbrev pub row_deep : Weight → Row → ℕ
row_deep w row = row_measure (weighing w) row

abbrev pub element_deep : Weight → Element → ℕ
element_deep w x = element_measure (weighing w) x

abbrev pub attributes_deep : Weight → Attributes → ℕ
attributes_deep w ats = attributes_measure (weighing w) ats

abbrev pub suffix_deep : Weight → Suffix → ℕ
suffix_deep w s = suffix_measure (weighing w) s

abbrev pub args_deep : Weight → Args → ℕ
args_deep w g = args_measure (weighing w) g

abbrev pub operator_deep : Weight → Operator → ℕ
operator_deep w o = operator_measure (weighing w) o

-- the weights of the three
abbrev pub by_opening : Weight
by_opening = record { opening = 1; subscript = 0; array = 0 }

abbrev pub by_subscript : Weight
by_subscript = record { opening = 0; subscript = 1; array = 0 }

abbrev pub by_array : Weight
by_array = record { opening = 0; subscript = 0; array = 1 }

nothing_added : (n : ℕ) → n + 0 ≡ n
nothing_added n = omega arith

unchanged : ◌≡◌ {A = ℕ → ℕ} (λ n. n + 0) (λ n. n)
unchanged = λ i n. nothing_added n i

pub openings_by : weighing by_opening ≡ openings
openings_by = ap (λ (f : ℕ → ℕ). record { join = max; opening = λ n. n + 1; subscript = f; array = f; link = λ n. n }) unchanged

pub subscripts_by : weighing by_subscript ≡ subscripts
subscripts_by = ap (λ (f : ℕ → ℕ). record { join = max; opening = f; subscript = λ n. n + 1; array = f; link = λ n. n }) unchanged

pub arrays_by : weighing by_array ≡ arrays
arrays_by = ap (λ (f : ℕ → ℕ). record { join = max; opening = f; subscript = f; array = λ n. n + 1; link = λ n. n }) unchanged
