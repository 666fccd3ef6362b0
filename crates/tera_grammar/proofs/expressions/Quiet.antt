-- What may follow an expression, and where the reading stops.
use Rattle.std.proofs.Common.{◌≡◌, ℕ, ◌<◌, [], None, refl, sym, subst}
use Rattle.tera_base.specs.declared.utils.Span.{Span}
use Rattle.tera_lexer.specs.grammar.Tokens.{Items}
use Rattle.tera_grammar.specs.expressions.Marks.{LeftParen, LeftBracket, mark}
use Rattle.tera_grammar.specs.expressions.Concrete.{plain_bracket, Tree, Atomic, Prefix, Suffixed, Infix, Atom, Chain, Suffix, Test, Filter, Subscript, Args, no_args, args}
use Rattle.tera_grammar.specs.expressions.Powers.{right_power, sign_power, right_spine, Above, NoChain}
use Rattle.tera_grammar.specs.expressions.Reading.Front.{no_link, bracketed, link_of, ends_test, ends_filter, ends_subscript, lead_power}
use Rattle.tera_grammar.proofs.plain.expressions.Reading.Front.{takes, Front, nothing, joins, closes, misplaced, front}
use Rattle.tera_grammar.proofs.expressions.Fronts.{Apart, Ends}

-- The tokens after an operand begin with nothing that the power m lets in.
abbrev pub StopsAt : ℕ → Front → Type 0
StopsAt m nothing = Unit {0}
StopsAt m (joins e us) = lead_power e < m
StopsAt m (closes (ends_test s) us) = 5 < m
StopsAt m (closes (ends_filter s) us) = 17 < m
StopsAt m (closes (ends_subscript s) us) = ⊥
StopsAt m misplaced = 5 < m

abbrev pub Stops : ℕ → Items → Type 0
Stops m r = StopsAt m (front r)

abbrev pub QuietAtom : Atom → Items → Type 0
QuietAtom (Chain n ls) r = link_of r ≡ no_link
QuietAtom _ r = Unit {0}

abbrev pub QuietArgs : Args → Items → Type 0
QuietArgs no_args r = takes LeftParen r ≡ None
QuietArgs (args s row) r = Unit {0}

abbrev pub QuietSuffix : Suffix → Items → Type 0
QuietSuffix (Test s n w g) r = QuietArgs g r
QuietSuffix (Filter s w g) r = QuietArgs g r
QuietSuffix (Subscript s b) r = Unit {0}

-- none of what is open at the end of the expression goes on with these tokens
abbrev pub Quiet : Tree → Items → Type 0
Quiet (Atomic a) r = QuietAtom a r
Quiet (Prefix s e) r = Stops (sign_power s) r × Quiet e r
Quiet (Suffixed a s) r = QuietSuffix s r
Quiet (Infix a o b) r = Stops (right_power o) r × Quiet b r

quiet_args : (g : Args) (r : Items) → takes LeftParen r ≡ None → QuietArgs g r
quiet_args no_args r h = h
quiet_args (args s row) r h = tt

quiet_suffix : (s : Suffix) (r : Items) → takes LeftParen r ≡ None → QuietSuffix s r
quiet_suffix (Test s n w g) r h = quiet_args g r h
quiet_suffix (Filter s w g) r h = quiet_args g r h
quiet_suffix (Subscript s b) r h = tt

quiet_atom : (a : Atom) (r : Items) → link_of r ≡ no_link → QuietAtom a r
quiet_atom (Chain n ls) r h = h
quiet_atom _ r h = tt

-- what follows an operand whose right spine lies above p
pub Quiet-above : (t : Tree) (p : ℕ) (r : Items) → ((m : ℕ) → p < m → Stops m r) → Apart r → Above p t → Quiet t r
Quiet-above (Atomic a) p r stops apart h = quiet_atom a r apart.link
Quiet-above (Prefix s e) p r stops apart h = (stops (sign_power s) h.0, Quiet-above e p r stops apart h.1)
Quiet-above (Suffixed a s) p r stops apart h = quiet_suffix s r apart.call
Quiet-above (Infix a o b) p r stops apart h = (stops (right_power o) h.0, Quiet-above b p r stops apart h.1)

-- where everything stops
pub Quiet-ends : (t : Tree) (r : Items) → Ends r → Quiet t r
Quiet-ends (Atomic a) r h = quiet_atom a r h.apart.link
Quiet-ends (Prefix s e) r h = (subst (StopsAt (sign_power s)) (sym h.front) tt, Quiet-ends e r h)
Quiet-ends (Suffixed a s) r h = quiet_suffix s r h.apart.call
Quiet-ends (Infix a o b) r h = (subst (StopsAt (right_power o)) (sym h.front) tt, Quiet-ends b r h)

pub ends_stops : (r : Items) → Ends r → (m : ℕ) → Stops m r
ends_stops r h m = subst (StopsAt m) (sym h.front) tt

closed_atom : (a : Atom) (r : Items) → NoChain (Atomic a) → QuietAtom a r
closed_atom (Chain n ls) r h = absurd h
closed_atom _ r h = tt

pub Quiet-closed : (t : Tree) (r : Items) → takes LeftParen r ≡ None → NoChain t → right_spine t ≡ [] → Quiet t r
Quiet-closed (Atomic a) r free alone h = closed_atom a r alone
Quiet-closed (Prefix s e) r free alone h = cc
Quiet-closed (Suffixed a s) r free alone h = quiet_suffix s r free
Quiet-closed (Infix a o b) r free alone h = cc

-- and the other way round: an operand that is quiet before a piece of power p lies above p
pub Above-quiet : (t : Tree) (p : ℕ) (r : Items) → ((m : ℕ) → Stops m r → p < m) → Quiet t r → Above p t
Above-quiet (Atomic a) p r strong h = tt
Above-quiet (Prefix s e) p r strong h = (strong (sign_power s) h.0, Above-quiet e p r strong h.1)
Above-quiet (Suffixed a s) p r strong h = tt
Above-quiet (Infix a o b) p r strong h = (strong (right_power o) h.0, Above-quiet b p r strong h.1)

pub closed-quiet : (t : Tree) (r : Items) → ((m : ℕ) → Stops m r → ⊥) → Quiet t r → right_spine t ≡ []
closed-quiet (Atomic a) r never h = refl
closed-quiet (Prefix s e) r never h = absurd (never (sign_power s) h.0)
closed-quiet (Suffixed a s) r never h = refl
closed-quiet (Infix a o b) r never h = absurd (never (right_power o) h.0)

bare_atom : (a : Atom) (s : Span) (us : Items) → QuietAtom a (mark LeftBracket s us) → NoChain (Atomic a)
unfolding link_of
bare_atom (Chain n ls) s us h = let clash : bracketed (plain_bracket s) us ≡ no_link = h in cc
bare_atom _ s us h = tt

pub bare-quiet : (t : Tree) (s : Span) (us : Items) → Quiet t (mark LeftBracket s us) → NoChain t
bare-quiet (Atomic a) s us h = bare_atom a s us h
bare-quiet _ s us h = tt
