-- Reading a template, as a function on tokens. A law (`each_is_read`) says that it reads the templates and no others.
use Rattle.std.specs.Prelude.{ℕ, zero, suc, Bool, not, [], ◌∷◌, Option, Some, None}
use Rattle.std.specs.Str.{bytes_eq}
use Rattle.tera_base.specs.declared.utils.Span.{Span}
use Rattle.tera_lexer.specs.code.Cursors.{size}
use Rattle.tera_lexer.specs.grammar.Tokens.{Items, Ended}
use Rattle.tera_grammar.specs.expressions.Operators.{GreaterThan}
use Rattle.tera_grammar.specs.expressions.Marks.{Assign, Operation}
use Rattle.tera_grammar.specs.statements.Names.{agrees}
use Rattle.tera_grammar.specs.statements.Places.{block_placed, component_placed}
use Rattle.tera_grammar.specs.statements.TagParts.{Edge, Name, Tag, Opener, OpensSet, OpensInclude, OpensExtends, OpensBlock, OpensFor, OpensIf, OpensFilter, OpensComponent, OpensBreak, OpensContinue, OpensCall, AtElif, AtElse, AtEndSet, AtEndBlock, AtEndFor, AtEndIf, AtEndFilter, AtEndCall}
use Rattle.tera_grammar.specs.statements.Expressions.{Limits, ComponentName, component_text}
use Rattle.tera_grammar.specs.statements.Reading.Expressions.{expression_of, filter_of, attributes_of, component_of}
use Rattle.tera_grammar.specs.statements.Heads.{SetBody, Section, CallBody}
use Rattle.tera_grammar.specs.statements.Grammar.{Plain, Text, Shown, Set, Include, Extends, Break, Continue, Body, Done, Then, Item, Single, Block, Define, Capturing, For, If, Branches, Elif, Last, Else, NoElse, Otherwise, InFor, InForElse, InBlock, InIf, InComponent, InCapture, Path, may_block, may_break, in_loop, is_outermost, text_if_any}
use Rattle.tera_grammar.specs.statements.Reading.Meeting.{Seen, met, nothing_seen, ◌having◌}
use Rattle.tera_grammar.specs.expressions.Reading.Front.{takes, taken_name, taken_quote}
use Rattle.tera_grammar.specs.statements.Reading.TagParts.{Front, Ends, Closes, Holds, Shows, Opens, Wrong, front, tag, name_if_any, finish_of, variable_end_of, closed, closed_tag, wrong_at}
use Rattle.tera_grammar.specs.statements.Reading.Heads.{free_name, loop_of, filters_of}
use Rattle.tera_grammar.specs.statements.Reading.Components.{opened_of, ending_of}
use Rattle.tera_grammar.specs.Reads.{Read, found, stopped, ◌>>=◌, holds, given, Takes}
use Rattle.tera_grammar.specs.expressions.Reading.Whole.{expression_of, filter_of, all_attributes as attributes_of, path_of as component_of}
use Rattle.tera_grammar.specs.statements.Reading.Phases.{Phase, Starting, next_phase}
pub mod Phases
pub mod Expressions
pub mod TagParts
pub mod Meeting
pub mod Heads
pub mod Components
pub mod Loops

-- Where the reading is: the names so far, and the tokens that are not yet taken.
pub record Place : Type 0 where
  pub seen : Seen
  pub tokens : Items

abbrev pub at : Seen → Items → Place
at seen items = record { seen = seen; tokens = items }

-- what is read, and the place after it
abbrev pub Reads : Type 0 → Type 0
Reads A = Read (A × Place)

-- a reader of whole bodies
abbrev pub Reader : Type 0
Reader = Path → Place → Reads Body

unfoldable pub else_in : Reader → Path → Seen → Items → Front → Reads Else
else_in self path seen items (Closes AtElse start first us) =
    finish_of us >>= λ f. self path (at seen f.1) >>= λ b. found (Otherwise (tag start first f.0) b.0, b.1)
else_in self path seen items front = found (NoElse, at seen items)

-- an `else` with its body, where one is there
abbrev pub else_of : Reader → Path → Place → Reads Else
else_of self path p = else_in self path p.seen p.tokens (front p.tokens)

unfoldable pub branch_in : Limits → Reader → Path → (Place → Reads Branches) → Seen → Items → Front → Reads Branches
branch_in l self path again seen items (Closes AtElif start first us) =
    expression_of l (in_loop path) us >>= λ c. finish_of c.1 >>= λ f. self path (at seen f.1) >>= λ b. again b.1 >>= λ bs.
    found (Elif (tag start first f.0) c.0 b.0 bs.0, bs.1)
branch_in l self path again seen items front = else_in self path seen items front >>= λ o. found (Last o.0, o.1)

-- The number bounds the branches. One more than the tokens is enough.
unfoldable pub branches_by : ℕ → Limits → Reader → Path → Place → Reads Branches
branches_by zero l self path p = stopped p.tokens
branches_by (suc n) l self path p = branch_in l self path (branches_by n l self path) p.seen p.tokens (front p.tokens)

unfoldable pub branches : Limits → Reader → Path → Place → Reads Branches
branches l self path p = branches_by (suc (size p.tokens)) l self path p

-- the rest of a `set`, after its name: a value, or filters and a body
unfoldable pub set_after : Limits → Reader → Path → Bool → Edge → Span → Seen → Name → Items → Takes Span → Reads Item
set_after l self path global start first seen name items (found sign) =
    expression_of l (in_loop path) sign.1 >>= λ e. finish_of e.1 >>= λ f.
    found (Single (Set global (tag start first f.0) name sign.0 e.0), at seen f.1)
set_after l self path global start first seen name items (stopped z) =
    filters_of l (in_loop path) items >>= λ fs. finish_of fs.1 >>= λ f.
    self (InCapture ∷ path) (at seen f.1) >>= λ b. closed_tag AtEndSet b.1.tokens >>= λ e.
    found (Capturing (SetBody global (tag start first f.0) name fs.0 e.0) b.0, at b.1.seen e.1)

-- The statements, after the first token of their tag.
unfoldable pub set_of : Limits → Reader → Path → Bool → Edge → Span → Seen → Items → Reads Item
set_of l self path global start first seen items =
    free_name items >>= λ n. set_after l self path global start first seen n.0 n.1 (takes Assign n.1)

unfoldable pub include_of : Edge → Span → Seen → Items → Reads Item
include_of start first seen items =
    taken_quote items >>= λ q. finish_of q.1 >>= λ f. found (Single (Include (tag start first f.0) q.0.0 q.0.1), at seen f.1)

unfoldable pub extends_of : Path → Edge → Span → Seen → Items → Reads Item
extends_of path start first seen items =
    taken_quote items >>= λ q. holds q.1 (is_outermost path) >>= λ u. finish_of q.1 >>= λ f.
    found (Single (Extends (tag start first f.0) q.0.0 q.0.1), at seen f.1)

unfoldable pub break_of : Path → (Tag → Plain) → Edge → Span → Seen → Items → Reads Item
break_of path make start first seen items =
    holds items (may_break path) >>= λ u. finish_of items >>= λ f. found (Single (make (tag start first f.0)), at seen f.1)

-- the closing tag of a block
unfoldable pub block_end : Name → Items → Takes (Tag × Option Name)
block_end n items =
    closed AtEndBlock items >>= λ x. name_if_any x.1 >>= λ m. holds m.1 (agrees n.text (text_if_any m.0)) >>= λ u.
    finish_of m.1 >>= λ f. found ((tag x.0.0 x.0.1 f.0, m.0), f.1)

unfoldable pub block_of : Reader → Path → Edge → Span → Seen → Items → Reads Item
block_of self path start first seen items =
    holds items (may_block path) >>= λ u. taken_name items >>= λ n. holds n.1 (not (met seen.blocks n.0.text)) >>= λ v.
    finish_of n.1 >>= λ f. self (InBlock ∷ path) (at (seen having block_placed n.0) f.1) >>= λ b.
    block_end n.0 b.1.tokens >>= λ e.
    found (Block (tag start first f.0) n.0 b.0 e.0.0 e.0.1, at b.1.seen e.1)

unfoldable pub component_def_of : Limits → Reader → Path → Edge → Span → Seen → Items → Reads Item
component_def_of l self path start first seen items =
    holds items (is_outermost path) >>= λ u. opened_of l (met seen.components) items >>= λ o.
    self (InComponent ∷ path) (at (seen having component_placed o.0.name o.0.parameters) o.1) >>= λ b.
    ending_of start first o.0 b.1.tokens >>= λ h.
    found (Define h.0 b.0, at b.1.seen h.1)

unfoldable pub section_of : Limits → Reader → Path → Edge → Span → Seen → Items → Reads Item
section_of l self path start first seen items =
    filter_of l (in_loop path) items >>= λ g. filters_of l (in_loop path) g.1 >>= λ fs. finish_of fs.1 >>= λ f.
    self (InCapture ∷ path) (at seen f.1) >>= λ b. closed_tag AtEndFilter b.1.tokens >>= λ e.
    found (Capturing (Section (tag start first f.0) g.0 fs.0 e.0) b.0, at b.1.seen e.1)

-- the closing tag of a component's call: its name, which has to be that of the opening tag
unfoldable pub call_end : ComponentName → Items → Takes (Tag × ComponentName × Span)
call_end n items =
    closed AtEndCall items >>= λ x. component_of x.1 >>= λ m. holds m.1 (bytes_eq (component_text m.0) (component_text n)) >>= λ u.
    takes (Operation GreaterThan) m.1 >>= λ end. finish_of end.1 >>= λ f. found ((tag x.0.0 x.0.1 f.0, m.0, end.0), f.1)

unfoldable pub call_of : Limits → Reader → Path → Edge → Span → Seen → Items → Reads Item
call_of l self path start first seen items =
    component_of items >>= λ n. attributes_of l (in_loop path) n.1 >>= λ a. takes (Operation GreaterThan) a.1 >>= λ last. finish_of last.1 >>= λ f.
    self (InCapture ∷ path) (at seen f.1) >>= λ b. call_end n.0 b.1.tokens >>= λ e.
    found (Capturing (CallBody (tag start first f.0) n.0 a.0 last.0 e.0.0 e.0.1 e.0.2) b.0, at b.1.seen e.1)

unfoldable pub for_of : Limits → Reader → Path → Edge → Span → Seen → Items → Reads Item
for_of l self path start first seen items =
    loop_of l items >>= λ lp. finish_of lp.1 >>= λ f. self (InFor ∷ path) (at seen f.1) >>= λ b.
    else_of self (InForElse ∷ path) b.1 >>= λ o. closed_tag AtEndFor o.1.tokens >>= λ e.
    found (For (tag start first f.0) lp.0 b.0 o.0 e.0, at o.1.seen e.1)

unfoldable pub if_of : Limits → Reader → Path → Edge → Span → Seen → Items → Reads Item
if_of l self path start first seen items =
    expression_of l (in_loop path) items >>= λ c. finish_of c.1 >>= λ f. self (InIf ∷ path) (at seen f.1) >>= λ b.
    branches l self (InIf ∷ path) b.1 >>= λ bs. closed_tag AtEndIf bs.1.tokens >>= λ e.
    found (If (tag start first f.0) c.0 b.0 bs.0 e.0, at bs.1.seen e.1)

abbrev pub tag_of : Limits → Reader → Path → Opener → Edge → Span → Seen → Items → Reads Item
tag_of l self path (OpensSet global) start first seen items = set_of l self path global start first seen items
tag_of l self path OpensInclude start first seen items = include_of start first seen items
tag_of l self path OpensExtends start first seen items = extends_of path start first seen items
tag_of l self path OpensBlock start first seen items = block_of self path start first seen items
tag_of l self path OpensFor start first seen items = for_of l self path start first seen items
tag_of l self path OpensIf start first seen items = if_of l self path start first seen items
tag_of l self path OpensFilter start first seen items = section_of l self path start first seen items
tag_of l self path OpensComponent start first seen items = component_def_of l self path start first seen items
tag_of l self path OpensBreak start first seen items = break_of path Break start first seen items
tag_of l self path OpensContinue start first seen items = break_of path Continue start first seen items
tag_of l self path OpensCall start first seen items = call_of l self path start first seen items

unfoldable pub shown_of : Limits → Path → Edge → Seen → Items → Reads Item
shown_of l path start seen items =
    expression_of l (in_loop path) items >>= λ e. variable_end_of e.1 >>= λ f. found (Single (Shown start e.0 f.0), at seen f.1)

-- what comes next in a body: nothing more, or an item
unfoldable pub step : Limits → Reader → Path → Seen → Items → Front → Reads (Option Item)
step l self path seen ts Ends = found (None, at seen ts)
step l self path seen ts (Closes c start first items) = found (None, at seen ts)
step l self path seen ts (Holds text span items) = found (Some (Single (Text text span)), at seen items)
step l self path seen ts (Shows start items) = shown_of l path start seen items >>= λ x. found (Some x.0, x.1)
step l self path seen ts (Opens o start first items) = tag_of l self path o start first seen items >>= λ x. found (Some x.0, x.1)
step l self path seen ts Wrong = stopped (wrong_at ts)

abbrev pub go_on : (Place → Reads Body) → Option Item → Place → Reads Body
go_on again None p = found (Done, p)
go_on again (Some i) p = again p >>= λ b. found (Then i b.0, b.1)

-- The first number bounds the items. One more than the tokens is enough.
unfoldable pub items_by : ℕ → Limits → Reader → Path → Place → Reads Body
items_by zero l self path p = stopped p.tokens
items_by (suc n) l self path p = step l self path p.seen p.tokens (front p.tokens) >>= λ x. go_on (items_by n l self path) x.0 x.1

unfoldable pub items : Limits → Reader → Path → Place → Reads Body
items l self path p = items_by (suc (size p.tokens)) l self path p

-- The first number is how many bodies may still open.
unfoldable pub body : ℕ → Limits → Reader
body zero l path p = stopped p.tokens
body (suc d) l path p = items l (body d l) path p

-- an `extends` of the top level: where a template may no longer extend another, it is refused at its string
abbrev pub extends_at : Phase → Edge → Span → Seen → Items → Reads Item
extends_at Starting start first seen items = extends_of [] start first seen items
extends_at phase start first seen items = taken_quote items >>= λ q. stopped q.1

-- what comes next on the top level
unfoldable pub top_step : Limits → Reader → Phase → Seen → Items → Front → Reads (Option Item)
top_step l self phase seen ts (Opens OpensExtends start first items) = extends_at phase start first seen items >>= λ x. found (Some x.0, x.1)
top_step l self phase seen ts front = step l self [] seen ts front

-- an item that the phase lets in, and what comes after it
abbrev pub top_on : (Phase → Place → Reads Body) → Phase → Option Item → Place → Reads Body
top_on again phase None p = found (Done, p)
top_on again phase (Some i) p = given p.tokens (next_phase phase i) >>= λ q. again q p >>= λ b. found (Then i b.0, b.1)

-- The first number bounds the items. One more than the tokens is enough.
unfoldable pub top_by : ℕ → Limits → Reader → Phase → Place → Reads Body
top_by zero l self phase p = stopped p.tokens
top_by (suc n) l self phase p = top_step l self phase p.seen p.tokens (front p.tokens) >>= λ x. top_on (top_by n l self) phase x.0 x.1

-- The first number is how many bodies may open, of which the top level is one.
unfoldable pub top : ℕ → Limits → Place → Reads Body
top zero l p = stopped p.tokens
top (suc d) l p = top_by (suc (size p.tokens)) l (body d l) Starting p

-- the end of a template: a tag that ends a body is refused at its first token
abbrev pub ended : Items → Takes (Unit {0})
ended Ended = found (tt, Ended)
ended ts = stopped (wrong_at ts)

-- a whole template
unfoldable pub template : Limits → Items → Read Body
template l ts = top l.bodies l (at nothing_seen ts) >>= λ b. ended b.1.tokens >>= λ u. found b.0
