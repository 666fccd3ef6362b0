-- Names that came before.
use Rattle.std.proofs.Common.{◌≡◌, ◌⊎◌, ◌++◌, ◌≤◌, ℕ, Bool, true, false, cond, codes, List, Option, Some, None, option_copied, get_or, not, inl, inr, ⊎_elim, le_refl, refl, sym, subst, ap, ◌∙◌, arith}
use Rattle.std.proofs.lemmas.Option.{same_Some}
use Rattle.std.proofs.lemmas.Slice.Eq.{bytes_eq-Decides}
use Rattle.std.specs.Borrow.{Bor}
use Rattle.std.specs.Str.{bytes_eq}
use Rattle.tera_base.specs.declared.utils.Span.{Span}
use Rattle.tera_lexer.specs.code.Cursors.{Position, size}
use Rattle.tera_lexer.specs.grammar.Tokens.{Ended, Failed, Items, Token}
use Rattle.tera_grammar.specs.Limits.{Limits}
use Rattle.tera_grammar.specs.Reads.{found, stopped, ◌>>=◌, holds, Takes}
use Rattle.tera_grammar.specs.expressions.Concrete.{Dotted, Name, dots, dotted_yield, no_dots}
use Rattle.tera_grammar.specs.expressions.Reading.Front.{taken_name}
use Rattle.tera_grammar.specs.statements.Components.{is_body}
use Rattle.tera_grammar.specs.statements.Expressions.{ComponentName, component_text, component_yield}
use Rattle.tera_grammar.specs.statements.Grammar.{Item}
use Rattle.tera_grammar.specs.statements.Places.{placed_name}
use Rattle.tera_grammar.specs.statements.Reading.{Place, body, top_step}
use Rattle.tera_grammar.specs.statements.Reading.Components.{fresh_name}
use Rattle.tera_grammar.specs.statements.Reading.Expressions.{component_of}
use Rattle.tera_grammar.specs.statements.Reading.Meeting.{Located, Met, locate, nothing_located}
use Rattle.tera_grammar.specs.statements.Reading.Phases.{Phase}
use Rattle.tera_grammar.specs.statements.Reading.TagParts.{front}
use Rattle.tera_grammar.proofs.Readings.{path_found}
use Rattle.tera_grammar.proofs.statements.Defined.{Defines, top_defines}
use Rattle.tera_expect.specs.Notes.{AreLeft, Came, Comes}
use Rattle.tera_expect.specs.Taking.{Took, name_in}
use Rattle.tera_expect.proofs.NotesLemmas.{came_further, left_further, left_same, taken_comes}
use Rattle.tera_tags.specs.Known.{CameBefore}
use Rattle.tera_tags.proofs.ComponentsLemmas.{component_ends}

none_some_absurd : (span : Span) → None ≡ Some span → ⊥
none_some_absurd span h = cc

pub none_came : (located : Located) (left items : Items) → located ≡ nothing_located → CameBefore located left items
none_came located left items none = λ name span h. absurd (none_some_absurd span (sym (ap (λ (f : Located). f name) none) ∙ h))

pub came_left : (located : Located) (left mid items : Items) → AreLeft left mid → CameBefore located mid items → CameBefore located left items
came_left located left mid items ahead came = λ name span h. came_further (name_in name span) left mid items ahead (came name span h)

-- one name more
one_came : (n : Name) (located : Located) (left items : Items) → Came n left items → CameBefore located left items → (name : List ℕ) (span : Span) (b : Bool) → bytes_eq n.text name ≡ b
    → cond b (Some n.span) (located name) ≡ Some span → Came (name_in name span) left items
one_came n located left items one came name span true same h =
    let text : n.text ≡ name = (bytes_eq-Decides n.text name).0 same in
    let place : n.span ≡ span = same_Some n.span span h in
    subst (λ t. Came (name_in t span) left items) text (subst (λ s. Came (name_in n.text s) left items) place one)
one_came n located left items one came name span false same h = came name span h

pub located_came : (n : Name) (located more : Located) (left items : Items) → more ≡ locate n located → Came n left items → CameBefore located left items → CameBefore more left items
located_came n located more left items same one came = λ name span h.
    one_came n located left items one came name span (bytes_eq n.text name) refl (sym (ap (λ (f : Located). f name) same) ∙ h)

-- the name that is at a place, if it is known
pub place_found : (o : Option (Bor Span)) (located : Option Span) (b : Bor Span) → option_copied o ≡ located → o ≡ Some b → located ≡ Some b.now
place_found o located b copied is = sym copied ∙ ap option_copied is

-- a label that begins with another character
apart : (m n : ℕ) → m ≡ 116 → n ≡ 102 → m ≡ n → ⊥
apart m n one two same = omega arith

pub another_label : (n label : List ℕ) → label ≡ codes "the " ++ n → label ≡ codes "first defined here" → ⊥
another_label n label is named = apart 116 102 refl refl (ap (λ (xs : List ℕ). get_or xs 0 0) (sym is ∙ named))

-- a name that is neither `body` nor that of an earlier parameter
fresh_by : (m : Name × Items) (x : Name × Items) (a b : Bool) → (holds m.1 a >>= λ u. holds m.1 b >>= λ v. found m) ≡ found x → found m ≡ found x
fresh_by m x true true h = h
fresh_by m x true false h = cc
fresh_by m x false b h = cc

fresh_taken : (met : Met) (o : Takes Name) (x : Name × Items) → (o >>= λ n. holds n.1 (not (is_body n.0.text)) >>= λ u. holds n.1 (not (met n.0.text)) >>= λ v. found n) ≡ found x → o ≡ found x
fresh_taken met (stopped z) x h = cc
fresh_taken met (found m) x h = fresh_by m x (not (is_body m.0.text)) (not (met m.0.text)) h

pub fresh_comes : (met : Met) (n : Name) (left items : Items) → fresh_name met items ≡ found (n, left) → Comes n left items
fresh_comes met n left items h = taken_comes n left items (fresh_taken met (taken_name items) (n, left) h)

-- the name of a component that was taken
pub component_comes : (old new : Position) (n : ComponentName) (text : List ℕ) → component_of old.left ≡ found (n, new.left) → Took old new → text ≡ component_text n
    → Comes (name_in text new.span) new.left old.left
component_comes old new n text read took same = (
  n,
  (λ i. record { text = sym same i; span = sym (component_ends old new n read took) i }),
  subst (AreLeft (component_yield n new.left)) (sym (path_found old.left new.left n read)) (left_same (component_yield n new.left)),
)

-- of two ends of the same tokens the shorter is left after some of the other
left_size : (left items : Items) → AreLeft left items → size left ≤ size items
left_size left Ended is = subst (λ ts. size left ≤ size ts) is (le_refl (size left))
left_size left (Failed text span) is = subst (λ ts. size left ≤ size ts) is (le_refl (size left))
left_size left (Token t span items) (inl is) = subst (λ ts. size left ≤ size ts) is (le_refl (size left))
left_size left (Token t span items) (inr more) = omega (arith, left_size left items more)

left_between : (left mid items : Items) → AreLeft left items → AreLeft mid items → size left ≤ size mid → AreLeft left mid
left_between left mid Ended is same le = subst (λ ts. AreLeft left ts) (is ∙ sym same) (left_same left)
left_between left mid (Failed text span) is same le = subst (λ ts. AreLeft left ts) (is ∙ sym same) (left_same left)
left_between left mid (Token t span items) ahead (inl same) le = subst (AreLeft left) (sym same) ahead
left_between left mid (Token t span items) (inl is) (inr more) le = absurd (omega (arith, le, ap size is, left_size mid items more))
left_between left mid (Token t span items) (inr ahead) (inr more) le = left_between left mid items ahead more le

dotted_left : (d : Dotted) (left : Items) → AreLeft left (dotted_yield d left)
dotted_left no_dots left = left_same left
dotted_left (dots s n ds) left = inr (inr (dotted_left ds left))

component_left : (n : ComponentName) (left : Items) → AreLeft left (component_yield n left)
component_left n left = inr (dotted_left n.further left)

-- one component more, which an item of the top level defines
defined_came : (old new : Located) (items left start : Items) → Defines old new items left → AreLeft left items → AreLeft items start → CameBefore old items start → CameBefore new left start
defined_came old new items left start x ahead there came =
    let named : AreLeft (component_yield x.name x.after) items
    = subst (AreLeft (component_yield x.name x.after)) (sym x.tokens) (inr (inr (left_same (component_yield x.name x.after)))) in
    let comes : Comes (placed_name x.name) x.after start = (x.name, refl, left_further (component_yield x.name x.after) items start named there) in
    let after : AreLeft x.after items = left_further x.after (component_yield x.name x.after) items (component_left x.name x.after) named in
    located_came (placed_name x.name) old new left start x.kept (x.after, comes, left_between left x.after items ahead after x.later) (came_left old left items start ahead came)

pub came_on : (l : Limits) (d : ℕ) (phase : Phase) (old new : Place) (i : Item) (start : Items) → top_step l (body d l) phase old.seen old.tokens (front old.tokens) ≡ found (Some i, new)
    → AreLeft new.tokens old.tokens → AreLeft old.tokens start → CameBefore old.seen.components old.tokens start → CameBefore new.seen.components new.tokens start
came_on l d phase old new i start read ahead there came =
    ⊎_elim
    (λ same. subst (λ known. CameBefore known new.tokens start) (sym same) (came_left old.seen.components new.tokens old.tokens start ahead came))
    (λ defines. defined_came old.seen.components new.seen.components old.tokens new.tokens start defines ahead there came)
    (top_defines l d phase old new i read)
