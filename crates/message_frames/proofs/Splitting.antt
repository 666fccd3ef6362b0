-- A stream is split in one way.
use Rattle.std.proofs.Common.{◌≡◌, ℕ, ◌+◌, List, [], ◌∷◌, ◌++◌, length, take, drop, refl, sym, ap, subst, ◌∙◌, append_assoc, arith}
use Rattle.std.specs.List.{flat_map}
use Rattle.std.proofs.lemmas.List.{length-append, take_at, drop_at}
use Rattle.message_frames.specs.Header.{ended, line_end, IsHeader}
use Rattle.message_frames.specs.Stream.{Item, Whole, Headless, IsText, Begins, IsPartial, Splits}
use Rattle.message_frames.proofs.Heads.{heads_alike, header_head, headers_alike}

pub begins_on : (items others : List Item) (stream rest end : List ℕ) → Begins stream items rest
    → Begins rest others end → Begins stream (items ++ others) end
begins_on [] others stream rest end e more = subst (λ (x : List ℕ). Begins x others end) (sym e) more
begins_on (item ∷ items) others stream rest end (text, next, e, is, begins) more =
    (text, next, e, is, begins_on items others next rest end begins more)

pub begins_grow : (items : List Item) (stream rest more : List ℕ) → Begins stream items rest
    → Begins (stream ++ more) items (rest ++ more)
begins_grow [] stream rest more e = ap (λ (x : List ℕ). x ++ more) e
begins_grow (item ∷ items) stream rest more (text, next, e, is, begins) =
    (text, next ++ more, ap (λ (x : List ℕ). x ++ more) e ∙ append_assoc text next more, is, begins_grow items next rest more begins)

pub nothing_partial : IsPartial []
nothing_partial head more is e =
    let len : 0 ≡ length (flat_map ended is.0 ++ line_end) + length more =
    ap length e ∙ length-append head more ∙ ap (λ (x : List ℕ). length x + length more) is.1 in
    absurd (omega (arith, len, length-append (flat_map ended is.0) line_end))

-- two messages of one length in front of the same bytes
fronts_alike : (a b x y : List ℕ) → length a ≡ length b → a ++ x ≡ b ++ y → (a ≡ b) × (x ≡ y)
fronts_alike a b x y len e =
    let front : a ≡ b = sym (take_at a x (length a) refl) ∙ ap (take (length a)) e ∙ take_at b y (length a) (sym len) in
    let back : x ≡ y = sym (drop_at a x (length a) refl) ∙ ap (drop (length a)) e ∙ drop_at b y (length a) (sym len) in
    (front, back)

texts_alike : (i j : Item) (t u x y : List ℕ) → IsText t i → IsText u j → t ++ x ≡ u ++ y → (i ≡ j) × (x ≡ y)
texts_alike (Whole m) (Whole n) t u x y (header, a, is) (other, b, has) e =
    let f : header ++ (m ++ x) ≡ other ++ (n ++ y) =
    sym (append_assoc header m x) ∙ ap (λ (v : List ℕ). v ++ x) (sym a) ∙ e ∙ ap (λ (v : List ℕ). v ++ y) b ∙ append_assoc other n y in
    let r = heads_alike header other (m ++ x) (n ++ y) (header_head header (length m) is) (header_head other (length n) has) f in
    let len : length m ≡ length n =
    headers_alike other (length m) (length n) (subst (λ (v : List ℕ). IsHeader v (length m)) r.0 is) has in
    let s = fronts_alike m n x y len r.1 in
    (ap Whole s.0, s.1)
texts_alike (Whole m) Headless t u x y (header, a, is) (head, none) e =
    let f : header ++ (m ++ x) ≡ u ++ y = sym (append_assoc header m x) ∙ ap (λ (v : List ℕ). v ++ x) (sym a) ∙ e in
    let r = heads_alike header u (m ++ x) y (header_head header (length m) is) head f in
    absurd (none (length m) (subst (λ (v : List ℕ). IsHeader v (length m)) r.0 is))
texts_alike Headless (Whole n) t u x y (head, none) (other, b, has) e =
    let f : t ++ x ≡ other ++ (n ++ y) = e ∙ ap (λ (v : List ℕ). v ++ y) b ∙ append_assoc other n y in
    let r = heads_alike t other x (n ++ y) head (header_head other (length n) has) f in
    absurd (none (length n) (subst (λ (v : List ℕ). IsHeader v (length n)) (sym r.0) has))
texts_alike Headless Headless t u x y (head, none) (other, no_other) e = (refl, (heads_alike t u x y head other e).1)

no_item : (i : Item) (t more rest : List ℕ) → IsPartial rest → IsText t i → rest ≡ t ++ more → ⊥
no_item (Whole m) t more rest partial (header, a, is) e =
    let f : rest ≡ header ++ (m ++ more) = e ∙ ap (λ (v : List ℕ). v ++ more) a ∙ append_assoc header m more in
    let r = partial header (m ++ more) (header_head header (length m) is) f in
    let len : r.0 ≡ length m = headers_alike header r.0 (length m) r.1 is in
    omega (arith, r.2, len, length-append m more)
no_item Headless t more rest partial (head, none) e = let r = partial t more head e in none r.0 r.1

begins_once : (items others : List Item) (stream rest end : List ℕ) → Begins stream items rest → IsPartial rest
    → Begins stream others end → IsPartial end → (items ≡ others) × (rest ≡ end)
begins_once [] [] stream rest end e p f q = (refl, sym e ∙ f)
begins_once [] (j ∷ others) stream rest end e p (text, next, f, is, begins) q =
    absurd (no_item j text next rest p is (sym e ∙ f))
begins_once (i ∷ items) [] stream rest end (text, next, f, is, begins) p e q =
    absurd (no_item i text next end q is (sym e ∙ f))
begins_once (i ∷ items) (j ∷ others) stream rest end (text, next, e, is, begins) p (word, more, f, has, others_begin) q =
    let r = texts_alike i j text word next more is has (sym e ∙ f) in
    let s = begins_once items others more rest end (subst (λ (v : List ℕ). Begins v items rest) r.1 begins) p others_begin q in
    (cc, s.1)

pub splits_once : (stream : List ℕ) (items others : List Item) (rest end : List ℕ) → Splits stream items rest
    → Splits stream others end → (items ≡ others) × (rest ≡ end)
splits_once stream items others rest end s t =
    begins_once items others stream rest end s.whole s.partial t.whole t.partial
