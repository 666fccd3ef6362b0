-- What may be typed at a position, by the byte that this is.
use Rattle.std.proofs.Common.{◌≡◌, ◌∙◌, ℕ, List, length, Option, option_map, ap}
use Rattle.tera_outline.specs.Bound.{bound_of}
use Rattle.tera_outline.specs.Completions.{completion_at, slot_of}
use Rattle.tera_outline.specs.Names.{names_of}
use Rattle.tera_outline.specs.Pieces.{Part}
use Rattle.tera_outline.specs.declared.completions.Completion.{Completion}
use Rattle.tera_workspace.specs.declared.workspace.Workspace.{Workspace}
use Rattle.text_edits.specs.declared.positions.Encoding.{Encoding}
use Rattle.tera_answers.specs.Completions.{completion_json, completion_of}
use Rattle.tera_editor.specs.Settings.{RegisteredVal}
use Rattle.tera_editor.specs.Templates.{RootsVal}

pub reported : (e : Encoding) (w : Workspace) (roots : RootsVal) (r : RegisteredVal) (text : List ℕ) (parts : List Part) (byte at last : ℕ) (given : Option Completion)
    → given ≡ option_map (completion_at byte) (slot_of last byte parts) → last ≡ length text → byte ≡ at
    → completion_json e w roots r text (names_of parts) (bound_of parts) byte given ≡ completion_of e w roots r text parts at
reported e w roots r text parts byte at last given is long same =
    ap (λ g. completion_json e w roots r text (names_of parts) (bound_of parts) byte g) is
    ∙ ap (λ n. completion_json e w roots r text (names_of parts) (bound_of parts) byte (option_map (completion_at byte) (slot_of n byte parts))) long
    ∙ ap (λ b. completion_of e w roots r text parts b) same
