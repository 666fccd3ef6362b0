-- The positions of tokens that are on one line.
use Rattle.std.proofs.Common.{◌≡◌, ◌+◌, ◌-◌, ◌<◌, ◌≤◌, ◌==◌, ℕ, zero, suc, true, false, List, [], ◌∷◌, ◌++◌, length, map, get_or, drop, append_assoc, inl, inr, refl, sym, ap, subst, ◌∙◌, arith}
use Rattle.std.specs.Prelude.{IsUtf8, max}
use Rattle.std.proofs.lemmas.Bool.{cases_Bool}
use Rattle.std.proofs.lemmas.Bool.Decides.{leb_tells, eqb_tells}
use Rattle.std.specs.List.{flat_map}
use Rattle.std.proofs.lemmas.Grind.{flat_map-append}
use Rattle.std.proofs.lemmas.List.{get_or-drop, drop_more}
use Rattle.std.proofs.lemmas.Str.{IsCharBoundary-after_ascii}
use Rattle.json.specs.Token.{Token}
use Rattle.tera_outline.specs.declared.semantic_tokens.SemanticKind.TheVariants.{Comment}
use Rattle.tera_outline.specs.declared.semantic_tokens.SemanticToken.{SemanticToken}
use Rattle.tera_outline.specs.SemanticTokens.{ends_line, IsOnLine, AreOnLines}
use Rattle.text_edits.specs.Laws.{IsUpTo}
use Rattle.text_edits.specs.Lines.{lines_of}
use Rattle.text_edits.specs.Positions.{position_of, boundary_to}
use Rattle.text_edits.specs.Walks.{position_after, IsReached}
use Rattle.text_edits.specs.declared.positions.Encoding.{Encoding}
use Rattle.text_edits.specs.declared.positions.Position.{Position}
use Rattle.text_edits.specs.declared.walk.Walk.{Walk}
use Rattle.text_edits.proofs.Boundaries.{last_within, last_nearest}
use Rattle.text_edits.proofs.Steps.{one_more, starts_at}
use Rattle.tera_answers.specs.Positions.{position_at}
use Rattle.tera_answers.specs.SemanticTokens.{first, placed, distance, numbers, data_from, number_tokens, sent_token, moved, read_from, end_of, AreApart}
use Rattle.tera_answers.proofs.SelectionLemmas.{boundaries_order, positions_up}

pub up_to_up : (p q r : Position) → IsUpTo p q → IsUpTo q r → IsUpTo p r
up_to_up p q r (inl one) (inl other) = inl (omega (arith, one, other))
up_to_up p q r (inl one) (inr other) = inl (omega (arith, one, other.0))
up_to_up p q r (inr one) (inl other) = inl (omega (arith, one.0, other))
up_to_up p q r (inr one) (inr other) = inr (one.0 ∙ other.0, omega (arith, one.1, other.1))

line_up : (p q : Position) → IsUpTo p q → p.line ≤ q.line
line_up p q (inl less) = omega (arith, less)
line_up p q (inr up) = omega (arith, up.0)

character_up : (p q : Position) → IsUpTo p q → q.line ≡ p.line → p.character ≤ q.character
character_up p q (inl less) same = absurd (omega (arith, same, less))
character_up p q (inr up) same = up.1

-- after a byte that ends no line
line_goes_on : (e : Encoding) (bytes : List ℕ) (p : Position) → ends_line (get_or bytes 0 0) ≡ false → (position_after e bytes p).line ≡ p.line
line_goes_on e bytes p plain = elim (cases_Bool (get_or bytes 0 0 == 10)) [
  | inl feed ↦ let no : true ≡ false = rw feed at plain in cc
  | inr other ↦ elim (cases_Bool (get_or bytes 0 0 == 13)) [
    | inl return ↦ let no : true ≡ false = rw (other, return) at plain in cc
    | inr inside ↦ rw (other, inside) refl
  ]
]

line_stays : (e : Encoding) (text : List ℕ) (at n : ℕ) → at + n ≤ length text → ((k : ℕ) → at ≤ k → k < at + n → ends_line (get_or text k 0) ≡ false)
    → (position_of e (lines_of text) (at + n)).line ≡ (position_of e (lines_of text) at).line
line_stays e text at zero within plain = ap (λ k. (position_of e (lines_of text) k).line) (omega arith)
line_stays e text at (suc n) within plain =
    let here : ends_line (get_or (drop (at + n) text) 0 0) ≡ false = rw get_or-drop (subst (λ k. ends_line (get_or text k 0) ≡ false) (omega arith) (plain (at + n) (omega arith) (omega arith))) in
    ap (λ k. (position_of e (lines_of text) k).line) (omega arith)
    ∙ ap (λ (p : Position). p.line) (one_more e text (at + n) (omega (arith, within)))
    ∙ line_goes_on e (drop (at + n) text) (position_of e (lines_of text) (at + n)) here
    ∙ line_stays e text at n (omega (arith, within)) (λ k low high. plain k low (omega (arith, high)))

end_is_ascii : (b : ℕ) → ends_line b ≡ true → b < 128
end_is_ascii b ends = elim (eqb_tells b 10) [
  | inl feed ↦ omega (arith, feed.1)
  | inr other ↦ elim (eqb_tells b 13) [
    | inl return ↦ omega (arith, return.1)
    | inr inside ↦ let no : false ≡ true = rw (other.0, inside.0) at ends in cc
  ]
]

-- nor do the bytes before a token end one that are of its first character
plain_before : (text : List ℕ) (t : SemanticToken) → IsUtf8 text → IsOnLine text t → (k : ℕ) → boundary_to text t.start ≤ k → k < t.end → ends_line (get_or text k 0) ≡ false
plain_before text t utf8 is k low high = elim (leb_tells t.start k) [
  | inl within ↦ is.line k within.1 high
  | inr before ↦ elim (cases_Bool (ends_line (get_or text k 0))) [
    | inl ends ↦
        let here : k < length text = omega (arith, high, is.within) in
        absurd (last_nearest text t.start (k + 1) (omega (arith, low)) (omega (arith, before.1)) (IsCharBoundary-after_ascii text k utf8 here (end_is_ascii (get_or text k 0) ends)))
    | inr plain ↦ plain
  ]
]

-- a place that was walked to
walked_to : (e : Encoding) (text : List ℕ) (w : Walk) (from byte : ℕ) → IsReached e text w → w.byte ≡ max from (boundary_to text byte) → from ≤ boundary_to text byte
    → (w.byte ≡ boundary_to text byte) × (w.position ≡ position_at e text byte)
walked_to e text w from byte reached is order =
    let at : w.byte ≡ boundary_to text byte = omega (arith, is, order) in
    (at, reached.1 ∙ ap (position_of e (lines_of text)) at)

-- the start and the end of a token
pub both_walked_to : (e : Encoding) (text : List ℕ) (from : ℕ) (start end : Walk) (t : SemanticToken) → from ≤ boundary_to text t.start → IsOnLine text t
    → IsReached e text start → start.byte ≡ max from (boundary_to text t.start) → IsReached e text end → end.byte ≡ max start.byte (boundary_to text t.end)
    → (start.position ≡ position_at e text t.start) × (end.position ≡ position_at e text t.end) × (end.byte ≡ boundary_to text t.end)
both_walked_to e text from start end t order is reached at further beyond =
    let one = walked_to e text start from t.start reached at order in
    let up = boundaries_order text t.start t.end (omega (arith, is.some)) in
    let other = walked_to e text end start.byte t.end further beyond (omega (arith, one.0, up)) in
    (one.1, other.1, other.0)

pub on_one_line : (e : Encoding) (text : List ℕ) (t : SemanticToken) → IsUtf8 text → IsOnLine text t
    → ((position_at e text t.end).line ≡ (position_at e text t.start).line) × ((position_at e text t.start).character ≤ (position_at e text t.end).character)
on_one_line e text t utf8 is =
    let start = boundary_to text t.start in
    let end = boundary_to text t.end in
    let order : start ≤ end = boundaries_order text t.start t.end (omega (arith, is.some)) in
    let within : end ≤ t.end = last_within text t.end in
    let same : (position_at e text t.end).line ≡ (position_at e text t.start).line =
    ap (λ k. (position_of e (lines_of text) k).line) (omega (arith, order))
    ∙ line_stays e text start (end - start) (omega (arith, order, within, is.within)) (λ k low high. plain_before text t utf8 is k low (omega (arith, high, order, within))) in
    (same, character_up _ _ (positions_up e text t.start t.end (omega (arith, is.some))) same)

-- tokens that are to be reported after a place; the one reported before begins no later than that
pub record AreReady (e : Encoding) (text : List ℕ) (last : Position) (w : Walk) (tokens : List SemanticToken) : Type 0 where
  pub from : ℕ
  pub byte : w.byte ≡ boundary_to text from
  pub state : AreOnLines from text tokens
  pub reached : IsReached e text w
  pub order : IsUpTo last w.position

pub ready_first : (e : Encoding) (text : List ℕ) (w : Walk) (tokens : List SemanticToken) → IsReached e [] w → IsReached e text w → AreOnLines 0 text tokens → AreReady e text w.position w tokens
ready_first e text w tokens none reached state = record { from = 0; byte = omega (arith, none.0); state = state; reached = reached; order = inr (refl, omega arith) }

pub first_at : (e : Encoding) (w : Walk) → IsReached e [] w → w.position ≡ first
first_at e w none = none.1 ∙ ap (position_of e (lines_of [])) (omega (arith, none.0)) ∙ starts_at e []

-- what is read after the end of a list
abbrev pub no_token : SemanticToken
no_token = record { kind = Comment; start = 0; end = 0 }

pub ready_at : (e : Encoding) (text : List ℕ) (last : Position) (w : Walk) (tokens : List SemanticToken) (i : ℕ) → i < length tokens → AreReady e text last w (drop i tokens)
    → AreReady e text last w (get_or tokens i no_token ∷ drop (i + 1) tokens)
ready_at e text last w tokens i within ready = subst (λ ts. AreReady e text last w ts) (drop_more tokens i no_token within) ready

pub ready_order : (e : Encoding) (text : List ℕ) (last : Position) (w : Walk) (t : SemanticToken) (ts : List SemanticToken) → AreReady e text last w (t ∷ ts) → w.byte ≤ boundary_to text t.start
ready_order e text last w t ts ready = rw ready.byte (boundaries_order text ready.from t.start ready.state.0)

pub ready_up : (e : Encoding) (text : List ℕ) (last : Position) (w : Walk) (t : SemanticToken) (ts : List SemanticToken) → AreReady e text last w (t ∷ ts) → IsUpTo last (position_at e text t.start)
ready_up e text last w t ts ready =
    let at : w.position ≡ position_at e text ready.from = ready.reached.1 ∙ ap (position_of e (lines_of text)) ready.byte in
    up_to_up last w.position (position_at e text t.start) ready.order (rw at (positions_up e text ready.from t.start ready.state.0))

pub ready_next : (e : Encoding) (text : List ℕ) (last : Position) (w next : Walk) (t : SemanticToken) (ts : List SemanticToken) → AreReady e text last w (t ∷ ts) → next.byte ≡ boundary_to text t.end
    → IsReached e text next → AreReady e text (position_at e text t.start) next ts
ready_next e text last w next t ts ready byte reached =
    let is = ready.state.1 in
    let at : next.position ≡ position_at e text t.end = reached.1 ∙ ap (position_of e (lines_of text)) byte in
    record { from = t.end; byte = byte; state = ready.state.2; reached = reached; order = rw at (positions_up e text t.start t.end (omega (arith, is.some))) }

pub next_reported : (e : Encoding) (text : List ℕ) (last : Position) (t : SemanticToken) (ts : List SemanticToken) (all old now : List Token) → all ≡ old ++ flat_map number_tokens (data_from last (map (placed e text) (t ∷ ts)))
    → now ≡ old ++ flat_map number_tokens (numbers last (placed e text t)) → all ≡ now ++ flat_map number_tokens (data_from (position_at e text t.start) (map (placed e text) ts))
next_reported e text last t ts all old now before more =
    before ∙ ap (λ xs. old ++ xs) (flat_map-append number_tokens (numbers last (placed e text t)) (data_from (position_at e text t.start) (map (placed e text) ts)))
    ∙ sym (append_assoc old (flat_map number_tokens (numbers last (placed e text t))) (flat_map number_tokens (data_from (position_at e text t.start) (map (placed e text) ts))))
    ∙ ap (λ xs. xs ++ flat_map number_tokens (data_from (position_at e text t.start) (map (placed e text) ts))) (sym more)

moved_back : (p q : Position) → IsUpTo p q → moved p (q.line - p.line) (distance p q) ≡ q
moved_back p q up = elim (eqb_tells q.line p.line) [
  | inl same ↦ elim (eqb_tells (q.line - p.line) 0) [
    | inl none ↦ rw (same.0, none.0) (both p.line (p.character + (q.character - p.character)) q (omega (arith, same.1)) (omega (arith, character_up p q up same.1)))
    | inr some ↦ absurd (omega (arith, some.1, same.1))
  ]
  | inr other ↦ elim (eqb_tells (q.line - p.line) 0) [
    | inl none ↦ absurd (omega (arith, none.1, other.1, line_up p q up))
    | inr some ↦ rw (other.0, some.0) (both (p.line + (q.line - p.line)) q.character q (omega (arith, line_up p q up)) refl)
  ]
]
  where
    both : (line character : ℕ) (q : Position) → line ≡ q.line → character ≡ q.character → record { line = line; character = character } ≡ q
    both line character q one other = rw (one, other) refl

-- what is reported after a token that ended at or before a byte is read back
pub read_back : (e : Encoding) (text : List ℕ) (from : ℕ) (last : Position) (ts : List SemanticToken) → IsUpTo last (position_at e text from) → AreOnLines from text ts
    → read_from last (data_from last (map (placed e text) ts)) ≡ map sent_token (map (placed e text) ts)
read_back e text from last [] up state = refl
read_back e text from last (t ∷ ts) up state =
    let start = position_at e text t.start in
    let is = state.1 in
    let further = up_to_up last (position_at e text from) start up (positions_up e text from t.start state.0) in
    rw (moved_back last start further) (ap (λ us. sent_token (placed e text t) ∷ us) (read_back e text t.end start ts (positions_up e text t.start t.end (omega (arith, is.some))) state.2))

-- a token ends on its line
pub ends_on_line : (e : Encoding) (text : List ℕ) (t : SemanticToken) → IsUtf8 text → IsOnLine text t → position_at e text t.end ≡ end_of (placed e text t)
ends_on_line e text t utf8 is = same _ _ (on_one_line e text t utf8 is)
  where
    same : (p q : Position) → (q.line ≡ p.line) × (p.character ≤ q.character) → q ≡ record { line = p.line; character = p.character + (q.character - p.character) }
    same p q h = rw (← h.0) (ap (λ k. record { line = q.line; character = k }) (omega (arith, h.1)))

pub all_end : (e : Encoding) (text : List ℕ) (from : ℕ) (ts : List SemanticToken) → IsUtf8 text → AreOnLines from text ts → (k : ℕ) (d : SemanticToken) → k < length ts
    → position_at e text (get_or ts k d).end ≡ end_of (placed e text (get_or ts k d))
all_end e text from [] utf8 state k d within = absurd (omega (arith, within))
all_end e text from (t ∷ ts) utf8 state zero d within = ends_on_line e text t utf8 state.1
all_end e text from (t ∷ ts) utf8 state (suc k) d within = all_end e text t.end ts utf8 state.2 k d (omega (arith, within))

pub begins_first : (e : Encoding) (text : List ℕ) → first ≡ position_at e text 0
begins_first e text = sym (starts_at e text)

pub all_apart : (e : Encoding) (text : List ℕ) (from : ℕ) (p : Position) (ts : List SemanticToken) → IsUtf8 text → p ≡ position_at e text from → AreOnLines from text ts → AreApart p (map (placed e text) ts)
all_apart e text from p [] utf8 at state = tt
all_apart e text from p (t ∷ ts) utf8 at state =
    (rw at (positions_up e text from t.start state.0), all_apart e text t.end (end_of (placed e text t)) ts utf8 (sym (ends_on_line e text t utf8 state.1)) state.2)
