use Rattle.std.proofs.Common.{◌≡◌, ◌++◌, take}
use Rattle.std.specs.String.{string_bytes}
use Rattle.std.specs.List.{flat_map}
use Rattle.terminal_text.specs.Edits.{texts_of}
use Rattle.terminal_text.specs.Differences.{signed_line}
use Rattle.terminal_text.proofs.differences.push_lines.Given as goal

abbrev pub invariant-lines : goal.invariant-lines
invariant-lines l =
    string_bytes l.text ≡ string_bytes l.initial.text ++ flat_map (signed_line l.style l.part l.sign) (texts_of (take l.line-index l.lines))
