-- Symbols that are written one after the other, with those that are in them.
use Rattle.std.proofs.Common.{◌≡◌, ◌∙◌, ◌<◌, ◌+◌, ◌++◌, ◌∷◌, [], ℕ, suc, List, length, map, drop, get_or, Bool, true, false, nat_lt, refl, sym, ap, append_assoc, add-one, drop-cons}
use Rattle.json.specs.Json.{Items}
use Rattle.json.specs.Token.{Token, end_array, end_object}
use Rattle.json.specs.Tree.{json_tokens, items_tokens}
use Rattle.tera_outline.specs.Symbols.{Outlined, outlined}
use Rattle.tera_outline.specs.declared.symbols.Symbol.{Symbol}
use Rattle.text_edits.specs.declared.positions.Encoding.{Encoding}
use Rattle.tera_answers.specs.Outlines.{Forest, nothing, symbol, before, from, nested, symbol_json, symbol_items, symbol_begin, end_tokens, open_at, all_ended}

module _ (e : Encoding) (text : List ℕ) where
  -- a symbol, with its children
  pub symbol_written : (s : Outlined) (js : Items) → json_tokens (symbol_json e text s js) ≡ symbol_begin e text s ++ (items_tokens js ++ end_object ∷ [])
  unfolding symbol_begin
  symbol_written s js = refl

  -- what is still to be written of a forest where these are open, by their ends, the innermost first
  abbrev pub left : List ℕ → Forest → List Token
  left [] f = items_tokens (symbol_items e text f)
  left (end ∷ ends) f = items_tokens (symbol_items e text (before end f)) ++ end_object ∷ left ends (from end f)

  -- those are ended that end before the next begins
  pub left_ended : (ends : List ℕ) (s : Outlined) (inner following : Forest) →
      left ends (symbol s inner following) ≡ end_tokens s.start ends ++ left (open_at s.start ends) (symbol s inner following)
  left_ended [] s inner following = refl
  left_ended (end ∷ ends) s inner following = by (nat_lt s.start end) refl (left_ended ends s inner following)
    where
      by : (b : Bool) → nat_lt s.start end ≡ b → left ends (symbol s inner following) ≡ end_tokens s.start ends ++ left (open_at s.start ends) (symbol s inner following) →
          left (end ∷ ends) (symbol s inner following) ≡ end_tokens s.start (end ∷ ends) ++ left (open_at s.start (end ∷ ends)) (symbol s inner following)
      by true t h = rw t (rw t refl)
      by false t h = rw t (ap (λ ts. end_array ∷ end_object ∷ ts) h)

  one_written : (s : Outlined) (js : Items) (rest : List Token) →
      json_tokens (symbol_json e text s js) ++ rest ≡ symbol_begin e text s ++ (items_tokens js ++ end_object ∷ rest)
  one_written s js rest =
      ap (λ ts. ts ++ rest) (symbol_written s js)
      ∙ append_assoc (symbol_begin e text s) (items_tokens js ++ end_object ∷ []) rest
      ∙ ap (λ ts. symbol_begin e text s ++ ts) (append_assoc (items_tokens js) (end_object ∷ []) rest)

  -- the next begins, and is open
  pub left_begun : (ends : List ℕ) (s : Outlined) (ss : List Outlined) →
      left (open_at s.start ends) (nested (s ∷ ss)) ≡ symbol_begin e text s ++ left (s.end ∷ open_at s.start ends) (nested ss)
  left_begun [] s ss = one_written s (symbol_items e text (before s.end (nested ss))) (items_tokens (symbol_items e text (from s.end (nested ss))))
  left_begun (end ∷ ends) s ss = by (nat_lt s.start end) refl (left_begun ends s ss)
    where
      by : (b : Bool) → nat_lt s.start end ≡ b →
          left (open_at s.start ends) (nested (s ∷ ss)) ≡ symbol_begin e text s ++ left (s.end ∷ open_at s.start ends) (nested ss) →
          left (open_at s.start (end ∷ ends)) (nested (s ∷ ss)) ≡ symbol_begin e text s ++ left (s.end ∷ open_at s.start (end ∷ ends)) (nested ss)
      by true t h =
          let js = symbol_items e text (before s.end (nested ss)) in
          let later = items_tokens (symbol_items e text (before end (from s.end (nested ss)))) in
          let rest = end_object ∷ left ends (from end (from s.end (nested ss))) in
          rw t (rw t (append_assoc (json_tokens (symbol_json e text s js)) later rest ∙ one_written s js (later ++ rest)))
      by false t h = rw t h

  -- a symbol more
  pub symbol_taken : (xs : List Symbol) (i : ℕ) (s : Symbol) (ends stay : List ℕ) (all old ended begun : List Token) → i < length xs → s ≡ get_or xs i s →
      all ≡ old ++ left ends (nested (map outlined (drop i xs))) → ended ≡ old ++ end_tokens s.start ends → begun ≡ ended ++ symbol_begin e text (outlined s) → stay ≡ open_at s.start ends →
      all ≡ begun ++ left (s.end ∷ stay) (nested (map outlined (drop (i + 1) xs)))
  symbol_taken xs i s ends stay all old ended begun within is so_far ended_is begun_is stay_is =
      let rest = map outlined (drop (i + 1) xs) in
      let step : map outlined (drop i xs) ≡ outlined s ∷ rest = ap (map outlined) (drop-cons xs i s within) ∙ rw (add-one i) (ap (λ (x : Symbol). outlined x ∷ map outlined (drop (suc i) xs)) (sym is)) in
      let here = left_ended ends (outlined s) (before s.end (nested rest)) (from s.end (nested rest)) ∙ ap (λ ts. end_tokens s.start ends ++ ts) (left_begun ends (outlined s) rest) in
      so_far ∙ ap (λ ss. old ++ left ends (nested ss)) step ∙ ap (λ ts. old ++ ts) here
      ∙ sym (append_assoc old (end_tokens s.start ends) (symbol_begin e text (outlined s) ++ left (s.end ∷ open_at s.start ends) (nested rest)))
      ∙ ap (λ ts. ts ++ (symbol_begin e text (outlined s) ++ left (s.end ∷ open_at s.start ends) (nested rest))) (sym ended_is)
      ∙ sym (append_assoc ended (symbol_begin e text (outlined s)) (left (s.end ∷ open_at s.start ends) (nested rest)))
      ∙ ap (λ ts. ts ++ left (s.end ∷ open_at s.start ends) (nested rest)) (sym begun_is)
      ∙ ap (λ os. begun ++ left (s.end ∷ os) (nested rest)) (sym stay_is)

  -- none is left
  pub left_none : (ends : List ℕ) → left ends nothing ≡ all_ended ends ++ end_array ∷ []
  left_none [] = refl
  left_none (end ∷ ends) = ap (λ ts. end_array ∷ end_object ∷ ts) (left_none ends)

-- ---- what is written piece by piece

pub five : (t a b c d e : List Token) → ((((t ++ a) ++ b) ++ c) ++ d) ++ e ≡ t ++ (a ++ (b ++ (c ++ (d ++ e))))
five t a b c d e = simp append_assoc refl
