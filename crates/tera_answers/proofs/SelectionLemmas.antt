-- The positions of a name and of its symbol.
use Rattle.std.proofs.Common.{◌≡◌, ◌≤◌, ◌⊎◌, ℕ, zero, suc, List, length, Bool, true, false, inl, inr, refl, arith}
use Rattle.tera_outline.specs.Symbols.{Outlined, IsWithin}
use Rattle.text_edits.specs.Laws.{IsUpTo}
use Rattle.text_edits.specs.Lines.{lines_of}
use Rattle.text_edits.specs.Positions.{is_boundary, boundary_to}
use Rattle.text_edits.specs.declared.positions.Encoding.{Encoding}
use Rattle.text_edits.proofs.Boundaries.{last_within}
use Rattle.text_edits.proofs.Order.{positions_order}
use Rattle.tera_answers.specs.Outlines.{IsSelectable}
use Rattle.tera_answers.specs.Positions.{position_at}

up_or_same : (b c : ℕ) → b ≤ suc c → (b ≤ c) ⊎ (b ≡ suc c)
up_or_same b c h = grind (arith, h)

pub boundaries_order : (text : List ℕ) (b c : ℕ) → b ≤ c → boundary_to text b ≤ boundary_to text c
boundaries_order text b zero h = rw (zero_is b h) (omega arith)
  where
    zero_is : (b : ℕ) → b ≤ 0 → b ≡ 0
    zero_is b h = omega (arith, h)
boundaries_order text b (suc c) h = by (up_or_same b c h) (λ low. boundaries_order text b c low)
  where
    further : (t : Bool) → is_boundary text (suc c) ≡ t → boundary_to text b ≤ c → boundary_to text b ≤ boundary_to text c → boundary_to text b ≤ boundary_to text (suc c)
    further true e below h = rw e (omega (arith, below))
    further false e below h = rw e h

    by : (b ≤ c) ⊎ (b ≡ suc c) → (b ≤ c → boundary_to text b ≤ boundary_to text c) → boundary_to text b ≤ boundary_to text (suc c)
    by (inl low) g = further (is_boundary text (suc c)) refl (omega (arith, low, last_within text b)) (g low)
    by (inr same) g = rw same (omega arith)

pub positions_up : (e : Encoding) (text : List ℕ) (b c : ℕ) → b ≤ c → IsUpTo (position_at e text b) (position_at e text c)
positions_up e text b c h = positions_order e (lines_of text) (boundary_to text b) (boundary_to text c) (boundaries_order text b c h)

pub selectable : (e : Encoding) (text : List ℕ) (s : Outlined) → IsWithin (length text) s → IsSelectable e text s
selectable e text s w = record {
  begins = positions_up e text s.start s.name_start (omega (arith, w.begins));
  named = positions_up e text s.name_start s.name_end (omega (arith, w.named));
  ends = positions_up e text s.name_end s.end w.ends;
}
