-- Whole templates, as they are read.
use Rattle.std.specs.Prelude.{◌≡◌, ◌⊎◌, ◌-◌, ℕ, List, [], false, Option, Some, None, Result, Ok, Err}
use Rattle.tera_base.specs.Errors.{IsMemory}
use Rattle.tera_base.specs.declared.errors.Error.{Error}
use Rattle.tera_base.specs.declared.utils.Span.{Span}
use Rattle.tera_lexer.specs.code.Cursors.{FirstIsAt, Position}
use Rattle.tera_lexer.specs.grammar.Place.{IsWithin}
use Rattle.tera_lexer.specs.grammar.Tokens.{Items}
use Rattle.tera_tree.specs.Tree.{Output}
use Rattle.tera_grammar.specs.statements.Expressions.{Limits}
use Rattle.tera_grammar.specs.statements.Grammar.{Body, Item}
use Rattle.tera_grammar.specs.statements.Reading.Meeting.{nothing_seen}
use Rattle.tera_grammar.specs.statements.Places.{places}
use Rattle.tera_grammar.specs.statements.Output.{added_by, output_of, text_adds}
use Rattle.tera_grammar.specs.statements.Reading.Phases as reading
use Rattle.tera_grammar.specs.statements.Reading.{Place, Reads, at, body, step, top_step, template}
use Rattle.tera_grammar.specs.statements.Reading.Loops as loops
use Rattle.tera_grammar.specs.statements.Reading.Loops.{Topping, turn, weight, with_added}
use Rattle.tera_grammar.specs.statements.TagParts.{Edge, OpensExtends}
use Rattle.tera_grammar.specs.statements.Reading.TagParts.{Opens, front}
use Rattle.tera_grammar.specs.expressions.Concrete.{Quote}
use Rattle.tera_grammar.specs.expressions.Reading.Front.{taken_quote}
use Rattle.tera_grammar.specs.statements.Top.{IsTemplate}
use Rattle.tera_statements.specs.Adding.{IsAdded}
use Rattle.tera_grammar.specs.Reads.{found, stopped, ◌>>=◌, Takes, StopsAt, Fails}
use Rattle.tera_expect.specs.Taking.{RefusesIn}
use Rattle.tera_tags.specs.Known.{AreNames}
use Rattle.tera_statements.specs.declared.added.Added.{Added}
use Rattle.tera_tags.specs.declared.names.Names.{Names}
use Rattle.tera_tree.specs.Outputs.{output_view}
use Rattle.tera_tree.specs.declared.outputs.ParserOutput.{ParserOutput}
use Rattle.tera_statements.specs.declared.templates.Phase.{Phase}
use Rattle.tera_statements.specs.declared.templates.Phase.TheVariants.{Starting, Standalone, Extending}
use Rattle.tera_statements.specs.declared.templates.Weight.{Weight}
use Rattle.tera_statements.specs.declared.templates.Weight.TheVariants.{Silent, Kept, Parent, Other}

abbrev pub phase_of : Phase → reading.Phase
phase_of Starting = reading.Starting
phase_of Standalone = reading.Standalone
phase_of Extending = reading.Extending

abbrev pub weight_of : Weight → loops.Weight
weight_of Silent = loops.Silent
weight_of Kept = loops.Kept
weight_of Parent = loops.Parent
weight_of Other = loops.Other

-- the phase after, where there is one
abbrev pub phase_if_any : Option Phase → Option reading.Phase
phase_if_any None = None
phase_if_any (Some p) = Some (phase_of p)

-- how many bodies may open inside of the items of a template
abbrev pub top_depth : Limits → ℕ
top_depth l = l.bodies - 1

-- so much of the tokens has been read, and what has been read so far comes to this
abbrev pub TopOf : Limits → Items → Place → Output → reading.Phase → Type 0
TopOf l ts here out ph = Topping l (top_depth l) (at nothing_seen ts) here out ph

-- Wherever so much of a template's tokens has been read, the reading of the template stops with these tokens left.
abbrev pub Excludes : Limits → Place → reading.Phase → Items → Type 0
Excludes l here ph left = (ts : Items) (out : Output) → TopOf l ts here out ph → StopsAt (template l ts) left

-- the next item of the top level is read as that of a body
abbrev pub IsStep : Limits → reading.Phase → Place → Type 0
IsStep l ph p =
    top_step l (body (top_depth l) l) ph p.seen p.tokens (front p.tokens) ≡ step l (body (top_depth l) l) [] p.seen p.tokens (front p.tokens)

-- no reading goes on after the string of an `extends`
abbrev pub late : Takes (Quote × Span) → Reads Item
late o = o >>= λ q. stopped q.1

-- where an `extends` comes next, these are left where reading stops at its string
abbrev pub StopsLate : Items → Items → Type 0
StopsLate old left = (start : Edge) (first : Span) (us : Items) → front old ≡ Opens OpensExtends start first us → StopsAt (late (taken_quote us)) left

-- the next item of the top level, and the phase after it; or none is left
abbrev pub GivesTop : Limits → Phase → Result (Option (Added × Phase)) Error → Place → Place → Type 0
GivesTop l ph (Ok None) new old = (top_step l (body (top_depth l) l) (phase_of ph) old.seen old.tokens (front old.tokens) ≡ found (None, old)) × (new ≡ old)
GivesTop l ph (Ok (Some a)) new old =
    (i : Item) × (top_step l (body (top_depth l) l) (phase_of ph) old.seen old.tokens (front old.tokens) ≡ found (Some i, new)) × IsAdded false a.0 i
    × (turn (phase_of ph) (weight (added_by false i)) ≡ Some (phase_of a.1))
GivesTop l ph (Err e) new old = IsMemory e ⊎ Excludes l old (phase_of ph) new.tokens

-- likewise, where what the item adds was taken
abbrev pub GivesPhase : Limits → Phase → Result (Option Phase) Error → Output → Output → Place → Place → Type 0
GivesPhase l ph (Ok None) out before new old = (top_step l (body (top_depth l) l) (phase_of ph) old.seen old.tokens (front old.tokens) ≡ found (None, old)) × (new ≡ old) × (out ≡ before)
GivesPhase l ph (Ok (Some q)) out before new old =
    (i : Item) × (top_step l (body (top_depth l) l) (phase_of ph) old.seen old.tokens (front old.tokens) ≡ found (Some i, new)) × (out ≡ with_added before (added_by false i))
    × (turn (phase_of ph) (weight (added_by false i)) ≡ Some (phase_of q))
GivesPhase l ph (Err e) out before new old = IsMemory e ⊎ Excludes l old (phase_of ph) new.tokens

-- likewise of a text, which may not be where there is no phase after it
abbrev pub GivesTextPhase : List ℕ → Phase → Result (Option Phase) Error → Output → Output → Type 0
GivesTextPhase text ph (Ok None) out before = ⊥
GivesTextPhase text ph (Ok (Some q)) out before =
    (out ≡ with_added before (text_adds text)) × (turn (phase_of ph) (weight (text_adds text)) ≡ Some (phase_of q))
GivesTextPhase text ph (Err e) out before = IsMemory e ⊎ (turn (phase_of ph) (weight (text_adds text)) ≡ None)

-- the template that the tokens are read as, with its names
abbrev pub ReadsTemplate : Limits → Result (ParserOutput × Names) Error → Items → Items → Type 0
ReadsTemplate l (Ok t) items left = (b : Body) × (template l items ≡ found b) × (output_view t.0 ≡ output_of b) × AreNames t.1 (places b)
ReadsTemplate l (Err e) items left = Fails (template l items) left e

-- the template that the tokens are, within the limits, with its names; or an allocation failed, or they are none
abbrev pub GivesTemplate : Limits → Result (ParserOutput × Names) Error → Items → Type 0
GivesTemplate l (Ok t) items = (b : Body) × IsTemplate l items b × (output_view t.0 ≡ output_of b) × AreNames t.1 (places b)
GivesTemplate l (Err e) items = IsMemory e ⊎ ((b : Body) → IsTemplate l items b → ⊥)

-- A template is refused where its reading stops: the cursor has the same tokens left, and the error is reported in the
-- tokens that the cursor began with.
abbrev pub RefusesTemplate : Limits → Position → Error → Type 0
RefusesTemplate l old e = (new : Position) × Fails (template l old.left) new.left e × RefusesIn old new e

-- where the next token is, if it is shown
abbrev pub ComesNext : Option Span → Position → Type 0
ComesNext None p = Unit {0}
ComesNext (Some s) p = FirstIsAt p.left s × IsWithin p.source s
