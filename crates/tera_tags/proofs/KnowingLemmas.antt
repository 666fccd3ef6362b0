-- What is refused where names are known.
use Rattle.std.proofs.Common.{◌≡◌, IfErr, Result, Ok, Err, ℕ, Bool, true, false, cond, List, [], codes, refl}
use Rattle.tera_base.specs.ErrorView.{NoteOf}
use Rattle.tera_base.specs.Errors.{IsMemory}
use Rattle.tera_base.specs.declared.errors.Error.{Error}
use Rattle.tera_base.specs.declared.utils.Span.{Span}
use Rattle.tera_lexer.specs.code.Cursors.{Position, ReportsAt}
use Rattle.tera_lexer.specs.grammar.Tokens.{Items}
use Rattle.tera_lexer.proofs.FaultsOfTokens as refusals
use Rattle.tera_grammar.specs.statements.Reading.Meeting.{Located, nothing_located}
use Rattle.tera_expect.specs.Notes.{AreFirst, AreLeft}
use Rattle.tera_expect.specs.Taking.{GoesOn, IsNoted, Refuses, RefusesIn, ReportsAs, Took}
use Rattle.tera_expect.proofs.NotesLemmas.{goes_left, left_further, left_same, notes_further, notes_noted, repeated, reported_first, took_left}
use Rattle.tera_expect.proofs.TakingLemmas.{memory_refused, reaches_later, same_from, same_reaches}
use Rattle.tera_tags.specs.Known.{CameBefore}
use Rattle.tera_tags.specs.Knowing.{AreFirstKnowing, MeetsAgain, RefusesInKnowing, RefusesKnowing}
use Rattle.tera_tags.proofs.CameLemmas.{came_left, none_came}
use Rattle.tera_tags.proofs.RefusalLemmas.{goes_faults, memory_inside, took_faults}

first_knowing : (known : Located) (left : Items) (e : Error) → AreFirst left e → AreFirstKnowing known left e
first_knowing known left e first = λ items ahead came. notes_further left items e ahead first

further_knowing : (known : Located) (mid old : Items) (e : Error) → AreLeft mid old → AreFirstKnowing known mid e → AreFirstKnowing known old e
further_knowing known mid old e ahead h = λ items there came. h items (left_further mid old items ahead there) (came_left known mid old items ahead came)

-- what is refused whatever is known
pub knowing : (known : Located) (old new : Position) (e : Error) → Refuses old new e → RefusesKnowing known old new e
unfolding Refuses RefusesKnowing
knowing known old new e h = (h.0, h.1, first_knowing known old.left e h.2)

pub memory_knowing : (known : Located) (old new : Position) (e : Error) → IsMemory e → RefusesKnowing known old new e
memory_knowing known old new e memory = knowing known old new e (memory_refused old new e memory)

pub knowing_err : {A : Type 0} (r : Result A Error) (known : Located) (old new : Position) → IfErr r (Refuses old new) → IfErr r (RefusesKnowing known old new)
knowing_err (Ok x) known old new h = tt
knowing_err (Err e) known old new h = knowing known old new e h

pub inside_knowing : (known : Located) (old new : Position) (e : Error) → RefusesIn old new e → RefusesInKnowing known old new e
unfolding RefusesIn RefusesInKnowing
inside_knowing known old new e h = (h.0, h.1, first_knowing known old.left e h.2)

pub memory_inside_knowing : (known : Located) (old new : Position) (e : Error) → IsMemory e → RefusesInKnowing known old new e
memory_inside_knowing known old new e memory = inside_knowing known old new e (memory_inside old new e memory)

pub inside_knowing_err : {A : Type 0} (r : Result A Error) (known : Located) (old new : Position) → IfErr r (RefusesIn old new) → IfErr r (RefusesInKnowing known old new)
inside_knowing_err (Ok x) known old new h = tt
inside_knowing_err (Err e) known old new h = inside_knowing known old new e h

-- after tokens that were taken, or none
pub knowing_further : (known : Located) (old mid new : Position) (e : Error) → GoesOn old mid → RefusesKnowing known mid new e → RefusesKnowing known old new e
unfolding GoesOn RefusesKnowing
knowing_further known old mid new e goes h =
    (refusals.refuses_later old mid e goes.0 h.0, reaches_later old mid new e goes.0 h.1, further_knowing known mid.left old.left e (goes_left old mid goes) h.2)

pub knowing_inside : (known : Located) (old mid new : Position) (e : Error) → Took old mid → RefusesKnowing known mid new e → RefusesInKnowing known old new e
unfolding Took RefusesKnowing RefusesInKnowing
knowing_inside known old mid new e took h =
    (took_faults old mid e took h.0, reaches_later old mid new e took.0 h.1, further_knowing known mid.left old.left e (took_left old mid took) h.2)

-- where the names that are known came before
pub known_refused : (known : Located) (start old new : Position) (e : Error) → GoesOn start old → CameBefore known old.left start.left → RefusesKnowing known old new e → Refuses start new e
unfolding GoesOn Refuses RefusesKnowing
known_refused known start old new e goes came h =
    (refusals.refuses_later start old e goes.0 h.0, reaches_later start old new e goes.0 h.1, h.2 start.left (goes_left start old goes) came)

pub known_inside : (known : Located) (start old new : Position) (e : Error) → GoesOn start old → CameBefore known old.left start.left → RefusesInKnowing known old new e → RefusesIn start new e
unfolding GoesOn RefusesIn RefusesInKnowing
known_inside known start old new e goes came h =
    (goes_faults start old e goes h.0, reaches_later start old new e goes.0 h.1, h.2 start.left (goes_left start old goes) came)

-- where none is
nothing_inside : (old new : Position) (e : Error) → RefusesInKnowing nothing_located old new e → RefusesIn old new e
unfolding RefusesIn RefusesInKnowing
nothing_inside old new e h = (h.0, h.1, h.2 old.left (left_same old.left) (none_came nothing_located old.left old.left refl))

-- at the top level, and elsewhere
pub knowing_top : (outermost : Bool) (known : Located) (old new : Position) (e : Error) → outermost ≡ true → RefusesKnowing known old new e → RefusesKnowing (cond outermost known nothing_located) old new e
knowing_top true known old new e is h = h
knowing_top false known old new e is h = cc

pub inside_elsewhere : (outermost : Bool) (known : Located) (old new : Position) (e : Error) → outermost ≡ false → RefusesInKnowing (cond outermost known nothing_located) old new e → RefusesIn old new e
inside_elsewhere true known old new e is h = cc
inside_elsewhere false known old new e is h = nothing_inside old new e h

-- a name that is known, which came again
pub meets_refused : (known : Located) (name : List ℕ) (first : Span) (old new : Position) (d e : Error) → MeetsAgain known name first old new → ReportsAt new.span d
    → IsNoted d (NoteOf (codes "first defined here") [] first) e → ReportsAs d e → Refuses new new d → RefusesKnowing known old new e
unfolding GoesOn Refuses RefusesKnowing
meets_refused known name first old new d e (goes, is, comes) reported noted same h =
    let label = codes "first defined here" in (
      refusals.refuses_later old new e goes.0 (same_from new d e same h.0),
      reaches_later old new new e goes.0 (same_reaches new new d e same h.1),
      λ items ahead came. notes_noted items d e (NoteOf label [] first)
          (reported_first items label [] first new.span d reported (repeated name first new.span new.left old.left items (came name first is) comes)) noted
          (notes_further new.left items d (left_further new.left old.left items (goes_left old new goes) ahead) h.2),
    )

-- the items of a body
pub ruleset items_knowing = (inside_knowing, memory_inside_knowing, knowing_inside)
