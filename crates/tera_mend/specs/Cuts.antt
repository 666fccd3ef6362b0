-- What is answered of a text that was reached.
use Rattle.std.specs.Prelude.{◌≡◌, ◌⊎◌, ℕ, true, false, List, [], map, string_bytes}
use Rattle.tera_tree.specs.declared.outputs.ParserOutput.{ParserOutput}
use Rattle.tera_tags.specs.declared.names.Names.{Names}
use Rattle.tera_mend.specs.Mending.{Edits}
use Rattle.tera_mend.specs.Readings.{AreOf}
use Rattle.tera_mend.specs.Views.{edit_view}
use Rattle.tera_mend.specs.declared.mending.Fault.{Fault}
use Rattle.tera_mend.specs.declared.mending.Mended.{Mended}

-- these faults are all, and this is the tree of the text
pub record IsUncut (reached : List ℕ) (fs : List Fault) (tree : ParserOutput) (ns : Names) (o : Mended) : Type 0 where
  pub faults : o.faults.items ≡ fs
  pub cut : o.cut ≡ false
  pub rest : o.rest.items ≡ []
  pub text : string_bytes o.text ≡ reached
  pub output : o.output ≡ tree
  pub names : o.names ≡ ns

-- these are not all faults, and this is the tree of the text with some more edits, or of nothing
pub record IsCut (reached : List ℕ) (fs : List Fault) (o : Mended) : Type 0 where
  pub faults : o.faults.items ≡ fs
  pub cut : o.cut ≡ true
  pub left : Edits (map edit_view o.rest.items) reached (string_bytes o.text) ⊎ (string_bytes o.text ≡ [])
  pub tree : AreOf (string_bytes o.text) o.output o.names
