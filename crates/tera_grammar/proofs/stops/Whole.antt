-- What is outermost is read locally.
use Rattle.std.proofs.Common.{◌≡◌, ℕ, ◌<◌, ◌≤◌, Bool, true, false, Option, Some, None, refl, ap, ◌∙◌}
use Rattle.tera_base.specs.declared.utils.Span.{Span}
use Rattle.tera_lexer.specs.code.Cursors.{size}
use Rattle.tera_lexer.specs.grammar.Tokens.{Tok, Items, Ended, Failed, Token}
use Rattle.tera_grammar.specs.Limits.{Limits}
use Rattle.tera_grammar.specs.expressions.Marks.{Mark, LeftParen, LeftBracket, LeftBrace}
use Rattle.tera_grammar.specs.expressions.Concrete.{of_entries}
use Rattle.tera_grammar.specs.expressions.Reading.Front.{at, Reads, mark_kind, name_kind, quote_kind, takes, taken_name, taken_quote, skip, name_of}
use Rattle.tera_grammar.specs.expressions.Reading.Bracketed.{Reader, row_of, arguments_of, args_of, attributes_of, dotted_of}
use Rattle.tera_grammar.specs.expressions.Reading.Rooms.{Room}
use Rattle.tera_grammar.specs.expressions.Reading.Whole.{widest, outermost, left_over, expression_of, kwargs_of, filter_of, all_attributes, path_of, row_if_array, array_if_constant, map_if_constant, array_after, map_after, literal_array_of, literal_map_of}
use Rattle.tera_grammar.specs.Reads.{Read, found, stopped, ◌>>=◌, given, holds, Takes, first_as}
use Rattle.tera_grammar.specs.expressions.Reading.Atoms.{array_of}
use Rattle.tera_grammar.specs.expressions.Reading.Loop.{expr, fresh}
use Rattle.tera_grammar.proofs.stops.Local.{SameHead, Look, at_token, After, items_after, Local, local_bind, local_here, local_stop, local_as, local_near, local_past, local_size, first_refused, first_past, first_local, first_less}
use Rattle.tera_grammar.proofs.stops.Lowest.{place, IsLocal, here, after, skip_local, name_local, local_given}
use Rattle.tera_grammar.proofs.stops.Bracketed.{dotted_local, row_local, arguments_local, args_local}
use Rattle.tera_grammar.proofs.stops.Links.{attributes_local}
use Rattle.tera_grammar.proofs.stops.Atoms.{array_local}
use Rattle.tera_grammar.proofs.stops.Loop.{expr_local}

-- a reader of tokens is local at these
abbrev pub IsTaken : {A : Type 0} → (Items → Takes A) → Items → Type 0
IsTaken f ts = Local items_after at_token at_token f ts

pub done : {A : Type 0} (us : Items) (x : A) → IsTaken (λ vs. found (x, vs)) us
done us x = local_here items_after at_token us x

pub follow : {A B : Type 0} (f : Items → Takes A) (g : A → Items → Takes B) (ts : Items) → IsTaken f ts
    → ((x : A) (us : Items) → f ts ≡ found (x, us) → IsTaken (g x) us) → IsTaken (λ us. f us >>= λ x. g x.0 x.1) ts
follow f g ts one two = local_bind items_after items_after at_token at_token at_token f g ts one (λ x is. two x.0 x.1 is)

pub taken_size : {A : Type 0} (f : Items → Takes A) (ts : Items) (x : A × Items) → IsTaken f ts → f ts ≡ found x → size x.1 ≤ size ts
taken_size f ts x one is = local_size items_after at_token at_token f ts one x is

-- a test where reading is
pub local_holds : {A P : Type 0} (b : After P) (to : Look) (c : Bool) (g : Items → Read (A × P)) (ts : Items) → Local b at_token to g ts
    → Local b at_token to (λ us. holds us c >>= λ u. g us) ts
local_holds b to true g ts one = one
local_holds b to false g ts one = local_stop b to ts

-- a question of the first token, and one of two readers
module _ {A B P : Type 0} (b : After P) (to : Look) (kind : Tok → Span → Option A) (all : Items → Takes A → Read (B × P)) (held : A → Items → Read (B × P)) (other : Items → Read (B × P))
    (goes_held : (us : Items) (x : A × Items) → all us (found x) ≡ held x.0 x.1) (goes_other : (us z : Items) → all us (stopped z) ≡ other us) where
  otherwise : (ts : Items) → SameHead ts ts → ((vs : Items) → SameHead ts vs → first_as kind vs ≡ stopped vs) → Local b at_token to other ts
      → Local b at_token to (λ us. all us (first_as kind us)) ts
  otherwise ts self none elsewhere =
      local_near b at_token to (λ us. all us (first_as kind us)) other ts self (λ vs h. ap (all vs) (none vs h) ∙ goes_other vs vs) elsewhere

  pub ask_first : (ts : Items) → ((t : Tok) (s : Span) (us : Items) (x : A) → ts ≡ Token t s us → Local b at_token to (held x) us) → Local b at_token to other ts
      → Local b at_token to (λ us. all us (first_as kind us)) ts
  ask_first (Token t s us) held_local other_local = by (kind t s) refl
    where
      by : (o : Option A) → kind t s ≡ o → Local b at_token to (λ us. all us (first_as kind us)) (Token t s us)
      by None is = otherwise (Token t s us) (refl, refl) (λ vs h. first_refused kind t s us vs is h) other_local
      by (Some x) is =
          local_past b at_token to (λ us. all us (first_as kind us)) (held x) t s us
          (λ vs. ap (all (Token t s vs)) (first_past kind t s x vs is) ∙ goes_held (Token t s vs) (x, vs)) (held_local t s us x refl)
  ask_first Ended held_local other_local = otherwise Ended refl (λ vs h. rw h refl) other_local
  ask_first (Failed text there) held_local other_local = otherwise (Failed text there) refl (λ vs h. rw h refl) other_local

-- what is read with a place of its own
left_is : {A : Type 0} (o : Reads A) → (o >>= λ x. found (x.0, x.1.tokens)) ≡ left_over o
left_is (stopped z) = refl
left_is (found x) = refl

pub left_local : {A : Type 0} (f : Items → Reads A) (ts : Items) → IsLocal f ts → IsTaken (λ us. left_over (f us)) ts
left_local f ts one =
    local_as items_after at_token at_token (λ us. f us >>= λ x. found (x.0, x.1.tokens)) (λ us. left_over (f us)) ts (λ us. left_is (f us))
    (local_bind place items_after at_token at_token at_token f (λ x q. found (x, q.tokens)) ts one (λ x is. done x.1.tokens x.0))

pub fresh_local : (links : ℕ) (f : Reader) → ((w : Room) (m k : ℕ) (ts : Items) → IsLocal (λ us. f w m (at k us)) ts) → (w : Room) (m k : ℕ) (ts : Items)
    → IsLocal (λ us. fresh links f w m (at k us)) ts
unfolding fresh
fresh_local links f local w m k ts =
    local_bind place place at_token at_token at_token (λ us. f w m (at links us)) (λ x q. found (x, at k q.tokens)) ts (local w m links ts)
    (λ x is. here (at k x.1.tokens) x.0)

pub outermost_local : (limits : Limits) (w : Room) (m k : ℕ) (ts : Items) → IsLocal (λ us. outermost limits w m (at k us)) ts
outermost_local limits w m k ts = fresh_local limits.links (expr limits.depth) (expr_local limits.depth) w m k ts

pub expression_local : (limits : Limits) (l : Bool) (ts : Items) → IsTaken (expression_of limits l) ts
unfolding expression_of
expression_local limits l ts = left_local (λ us. expr limits.depth (widest limits l) 0 (at limits.links us)) ts (expr_local limits.depth (widest limits l) 0 limits.links ts)

pub kwargs_local : (limits : Limits) (l : Bool) (ts : Items) → IsTaken (kwargs_of limits l) ts
unfolding kwargs_of
kwargs_local limits l ts =
    left_local (λ us. skip LeftParen (at 0 us) >>= λ s. arguments_of (outermost limits) (widest limits l) s.1 >>= λ r. found (record { mark = s.0; row = r.0 }, r.1)) ts
    (after (λ us. skip LeftParen (at 0 us)) (λ s q. arguments_of (outermost limits) (widest limits l) q >>= λ r. found (record { mark = s; row = r.0 }, r.1)) ts (skip_local LeftParen 0 ts)
    (λ s q begun. after (λ us. arguments_of (outermost limits) (widest limits l) (at q.links us)) (λ r p. found (record { mark = s; row = r }, p)) q.tokens
    (arguments_local (outermost limits) (outermost_local limits) (widest limits l) q.links q.tokens) (λ r p read. here p (record { mark = s; row = r }))))

pub filter_local : (limits : Limits) (l : Bool) (ts : Items) → IsTaken (filter_of limits l) ts
unfolding filter_of
filter_local limits l ts =
    left_local (λ us. name_of (at 0 us) >>= λ n. args_of (outermost limits) (widest limits l) n.1 >>= λ g. found (record { name = n.0; args = g.0 }, g.1)) ts
    (after (λ us. name_of (at 0 us)) (λ n q. args_of (outermost limits) (widest limits l) q >>= λ g. found (record { name = n; args = g.0 }, g.1)) ts (name_local 0 ts)
    (λ n q read. after (λ us. args_of (outermost limits) (widest limits l) (at q.links us)) (λ g p. found (record { name = n; args = g }, p)) q.tokens
    (args_local (outermost limits) (outermost_local limits) (widest limits l) q.links q.tokens) (λ g p all. here p (record { name = n; args = g }))))

pub all_attributes_local : (limits : Limits) (l : Bool) (ts : Items) → IsTaken (all_attributes limits l) ts
unfolding all_attributes
all_attributes_local limits l ts =
    left_local (λ us. attributes_of (outermost limits) (widest limits l) (at 0 us)) ts (attributes_local (outermost limits) (outermost_local limits) (widest limits l) 0 ts)

pub path_local : (ts : Items) → IsTaken path_of ts
unfolding path_of
path_local ts =
    left_local (λ us. name_of (at 0 us) >>= λ n. dotted_of n.1 >>= λ ds. found (record { name = n.0; further = ds.0 }, ds.1)) ts
    (after (λ us. name_of (at 0 us)) (λ n q. dotted_of q >>= λ ds. found (record { name = n; further = ds.0 }, ds.1)) ts (name_local 0 ts)
    (λ n q read. after (λ us. dotted_of (at q.links us)) (λ ds p. found (record { name = n; further = ds }, p)) q.tokens (dotted_local q.links q.tokens) (λ ds p all. here p (record { name = n; further = ds }))))

pub array_after_local : (limits : Limits) (s : Span) (ts : Items) → IsTaken (array_after limits s) ts
unfolding array_after
array_after_local limits s ts =
    left_local (λ us. array_of (outermost limits) (widest limits false) s (at 0 us) >>= λ e. given e.1.tokens (array_if_constant s (row_if_array e.0)) >>= λ a. found (a, e.1)) ts
    (after (λ us. array_of (outermost limits) (widest limits false) s (at 0 us)) (λ e q. given q.tokens (array_if_constant s (row_if_array e)) >>= λ a. found (a, q)) ts
    (array_local (outermost limits) (outermost_local limits) (widest limits false) s 0 ts)
    (λ e q read. local_given (array_if_constant s (row_if_array e)) (λ a us. found (a, at q.links us)) q.tokens (λ a is. here q a)))

pub map_after_local : (limits : Limits) (s : Span) (ts : Items) → IsTaken (map_after limits s) ts
unfolding map_after
map_after_local limits s ts =
    left_local (λ us. row_of (outermost limits) (widest limits false) of_entries (at 0 us) >>= λ r. given r.1.tokens (map_if_constant s r.0) >>= λ m. found (m, r.1)) ts
    (after (λ us. row_of (outermost limits) (widest limits false) of_entries (at 0 us)) (λ r q. given q.tokens (map_if_constant s r) >>= λ m. found (m, q)) ts
    (row_local (outermost limits) (outermost_local limits) (widest limits false) of_entries 0 ts)
    (λ r q read. local_given (map_if_constant s r) (λ m us. found (m, at q.links us)) q.tokens (λ m is. here q m)))

pub takes_local : (m : Mark) (ts : Items) → IsTaken (takes m) ts
takes_local m ts = first_local (mark_kind m) ts

pub takes_less : (m : Mark) (ts : Items) (x : Span × Items) → takes m ts ≡ found x → size x.1 < size ts
takes_less m ts x h = first_less (mark_kind m) ts x h

pub taken_name_local : (ts : Items) → IsTaken taken_name ts
taken_name_local ts = first_local name_kind ts

pub taken_quote_local : (ts : Items) → IsTaken taken_quote ts
taken_quote_local ts = first_local quote_kind ts

pub literal_array_local : (limits : Limits) (ts : Items) → IsTaken (literal_array_of limits) ts
unfolding literal_array_of
literal_array_local limits ts = follow (takes LeftBracket) (λ s us. array_after limits s us) ts (takes_local LeftBracket ts) (λ s us read. array_after_local limits s us)

pub literal_map_local : (limits : Limits) (ts : Items) → IsTaken (literal_map_of limits) ts
unfolding literal_map_of
literal_map_local limits ts = follow (takes LeftBrace) (λ s us. map_after limits s us) ts (takes_local LeftBrace ts) (λ s us read. map_after_local limits s us)
