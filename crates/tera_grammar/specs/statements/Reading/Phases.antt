-- What the top level of a template lets in.
use Rattle.std.specs.Prelude.{Bool, true, false, Option, Some, None}
use Rattle.tera_grammar.specs.Options.{◌>>=◌, guard}
use Rattle.tera_grammar.specs.statements.Grammar.{Text, Extends, Item, Single, Define}
use Rattle.tera_grammar.specs.statements.Top.{is_blank, is_kept}

-- The top level: from the start, in a template that extends no other, or in one that does.
pub data Phase : Type 0 where
  Starting : Phase
  Standalone : Phase
  Extending : Phase

-- the phase after a text at the start
abbrev pub after_text : Bool → Phase
after_text true = Starting
after_text false = Standalone

abbrev pub from_start : Item → Phase
from_start (Single (Extends t q span)) = Extending
from_start (Single (Text text span)) = after_text (is_blank text)
from_start (Define h b) = Starting
from_start i = Standalone

abbrev pub next_phase : Phase → Item → Option Phase
next_phase Starting i = Some (from_start i)
next_phase Standalone (Single (Extends t q span)) = None
next_phase Standalone i = Some Standalone
next_phase Extending i = guard (is_kept i) >>= λ u. Some Extending
