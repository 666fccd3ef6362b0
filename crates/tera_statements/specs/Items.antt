-- The items of bodies, as they are read.
use Rattle.std.specs.Prelude.{◌≡◌, ◌++◌, ℕ, List, [], Option, Some, None, Result, Ok, Err}
use Rattle.std.specs.Borrow.{Bor}
use Rattle.tera_base.specs.declared.errors.Error.{Error}
use Rattle.tera_lexer.specs.code.Cursors.{Position}
use Rattle.tera_lexer.specs.grammar.Tokens.{Items, Ended, Failed, Token, Content}
use Rattle.tera_ast.specs.Tree.{Stmt}
use Rattle.tera_grammar.specs.statements.Expressions.{Limits}
use Rattle.tera_grammar.specs.statements.Output.{added_by, added_nodes}
use Rattle.tera_grammar.specs.statements.Grammar.{Item, Path, in_loop}
use Rattle.tera_grammar.specs.statements.Reading.Meeting.{Seen}
use Rattle.tera_grammar.specs.statements.TagParts.{Edge, Opener}
use Rattle.tera_grammar.specs.statements.Reading.{Place, Reads, Reader, at, body, step}
use Rattle.tera_grammar.specs.Reads.{found, Fails}
use Rattle.tera_grammar.specs.statements.Reading.TagParts.{Holds, Opens, front}
use Rattle.tera_statements.specs.Adding.{GivesItem}
use Rattle.tera_statements.specs.Around.{Represents}
use Rattle.tera_expect.specs.Taking.{Took}
use Rattle.tera_statements.specs.declared.added.Added.{Added}
use Rattle.tera_statements.specs.declared.around.Around.{Around}
use Rattle.tera_tags.specs.Kinds.{kind_of}
use Rattle.tera_tags.specs.declared.fronts.Front.TheVariants as fronts

-- the next item of a body, or none
abbrev pub GivesStep : Path → Result (Option Added) Error → Place → Place → Reads (Option Item) → Type 0
GivesStep path (Ok None) new old read = (read ≡ found (None, old)) × (new ≡ old)
GivesStep path (Ok (Some a)) new old read = GivesItem (in_loop path) (Ok a) new read
GivesStep path (Err e) new old read = Fails read new.tokens e

abbrev pub GivesNext : Limits → ℕ → Around → Result (Option Added) Error → Place → Place → Type 0
GivesNext l depth around r new old = (path : Path) → Represents path around → GivesStep path r new old (step l (body depth l) path old.seen old.tokens (front old.tokens))

-- likewise, where what the item adds was put after other nodes
abbrev pub GivesNode : {A : Type 0} → Limits → ℕ → Path → Result (Option A) Error → List Stmt → List Stmt → Place → Place → Type 0
GivesNode l depth path (Ok None) nodes before new old = (step l (body depth l) path old.seen old.tokens (front old.tokens) ≡ found (None, old)) × (new ≡ old) × (nodes ≡ before)
GivesNode l depth path (Ok (Some a)) nodes before new old =
    (i : Item) × (step l (body depth l) path old.seen old.tokens (front old.tokens) ≡ found (Some i, new)) × (nodes ≡ before ++ added_nodes (added_by (in_loop path) i))
GivesNode l depth path (Err e) nodes before new old = Fails (step l (body depth l) path old.seen old.tokens (front old.tokens)) new.tokens e

-- tokens were taken where there is an item
abbrev pub GoesByItem : {A : Type 0} → Result (Option A) Error → Position → Position → Type 0
GoesByItem (Ok None) old new = new ≡ old
GoesByItem (Ok (Some a)) old new = Took old new
GoesByItem (Err e) old new = Unit {0}

-- an expression that is shown, which tokens with this front begin with
abbrev pub GivesShown : Limits → Around → Result Added Error → Items → Items → Type 0
GivesShown l around r new old = (self : Reader) (path : Path) → Represents path around → (seen : Seen) → GivesItem (in_loop path) r (at seen new) (step l self path seen old (front old))

-- empty texts alone, as comments are
abbrev pub AreEmptyTexts : Items → Type 0
AreEmptyTexts Ended = Unit {0}
AreEmptyTexts (Failed text span) = ⊥
AreEmptyTexts (Token t span items) = (t ≡ Content []) × AreEmptyTexts items

-- the start of a tag and its first token were taken
abbrev pub Enters : Opener → Items → Position → Type 0
Enters o old new = (start : Edge) × (front old ≡ Opens o start new.span new.left)

-- the tokens do not begin with a text
abbrev pub BeginWithoutText : Items → Type 0
BeginWithoutText items = fronts.Holds ≡ kind_of (front items) → ⊥

-- the text that came next was taken, or none comes next
abbrev pub EatsText : Option (Bor (List ℕ)) → Position → Position → Type 0
EatsText (Some text) old new = (front old.left ≡ Holds text.now new.span new.left) × Took old new
EatsText None old new = (new ≡ old) × BeginWithoutText new.left
