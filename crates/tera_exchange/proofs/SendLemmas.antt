-- Messages that are written one after another.
use Rattle.std.proofs.Common.{◌≡◌, ◌∙◌, ◌≤◌, ◌+◌, ◌++◌, ◌∷◌, [], ℕ, List, length, take, drop, Option, None, Some, Result, Ok, Err, OnOk, OnErr, slice_get, refl, sym, ap, subst, append_assoc}
use Rattle.std.specs.Io.KnownBytes.{Appends}
use Rattle.std.specs.List.{flat_map}
use Rattle.std.specs.Result.{result_and}
use Rattle.std.proofs.lemmas.List.{append-nil, take_more, take_all, drop_more, take-append-drop}
use Rattle.std.proofs.lemmas.List.Concat.{flat_map-append}
use Rattle.std.proofs.lemmas.Option.{slice_get_within, get_or_from_slice_get}
use Rattle.message_frames.specs.Writing.{frame}
use Rattle.tera_exchange.specs.Sent.{AppendsPart}
use Rattle.tera_show.proofs.Known.{appends_more}

pub appends_none : (a : Option (List ℕ)) → Appends a a []
appends_none None = tt
appends_none (Some l) = sym (append-nil l)

pub none_sent : (a : Option (List ℕ)) (text : List ℕ) → AppendsPart a a text
none_sent a text = ([], text, refl, appends_none a)

-- a text of which so many bytes were taken
pub part_taken : (a b : Option (List ℕ)) (text : List ℕ) (n : ℕ) → Appends a b (take n text) → AppendsPart a b text
part_taken a b text n wrote = (take n text, drop n text, sym (take-append-drop n text), wrote)

-- one message more
pub next_sent : (ms : List (List ℕ)) (i : ℕ) (m : List ℕ) (a b c : Option (List ℕ)) → slice_get ms i ≡ Some m →
    Appends a b (flat_map frame (take i ms)) → Appends b c (frame m) → Appends a c (flat_map frame (take (i + 1) ms))
next_sent ms i m a b c e before wrote =
    let more : take (i + 1) ms ≡ take i ms ++ m ∷ [] = take_more ms i m (slice_get_within ms i m e) ∙ ap (λ x. take i ms ++ x ∷ []) (get_or_from_slice_get ms i m m e) in
    appends_more a b c (flat_map frame (take i ms)) (frame m) (flat_map frame (take (i + 1) ms)) before wrote
    (sym (ap (flat_map frame) more ∙ flat_map-append frame (take i ms) (m ∷ []) ∙ ap (λ t. flat_map frame (take i ms) ++ t) (append-nil (frame m))))

pub all_sent : (ms : List (List ℕ)) (i : ℕ) (a b : Option (List ℕ)) → length ms ≤ i → Appends a b (flat_map frame (take i ms)) → Appends a b (flat_map frame ms)
all_sent ms i a b all wrote = subst (λ xs. Appends a b (flat_map frame xs)) (take_all i ms all) wrote

-- .. or a beginning of it
pub part_sent : (ms : List (List ℕ)) (i : ℕ) (m : List ℕ) (a b c : Option (List ℕ)) → slice_get ms i ≡ Some m →
    Appends a b (flat_map frame (take i ms)) → AppendsPart b c (frame m) → AppendsPart a c (flat_map frame ms)
part_sent ms i m a b c e before (written, rest, whole, wrote) =
    let front = flat_map frame (take i ms) in
    let back = flat_map frame (drop (i + 1) ms) in
    let split : flat_map frame ms ≡ front ++ (frame m ++ back)
    = ap (flat_map frame) (sym (take-append-drop i ms))
    ∙ flat_map-append frame (take i ms) (drop i ms)
    ∙ ap (λ xs. front ++ flat_map frame xs) (drop_more ms i m (slice_get_within ms i m e) ∙ ap (λ x. x ∷ drop (i + 1) ms) (get_or_from_slice_get ms i m m e)) in (
      front ++ written,
      rest ++ back,
      split ∙ ap (λ t. front ++ (t ++ back)) whole ∙ ap (λ t. front ++ t) (append_assoc written rest back) ∙ sym (append_assoc front written (rest ++ back)),
      appends_more a b c front written (front ++ written) before wrote refl,
    )

-- what holds anyhow holds of an error
pub on_any_err : {T E P : Type 0} (r : Result T E) → P → OnErr r P
on_any_err (Ok v) h = tt
on_any_err (Err e) h = h

-- both of two results are `Ok`
pub both_ok : {T U E P Q : Type 0} (r : Result T E) (s : Result U E) (v : U) → result_and r s ≡ Ok v → OnOk r P → OnOk s Q → P × Q
both_ok (Ok x) (Ok y) v is p q = (p, q)
both_ok (Ok x) (Err e) v is p q = cc
both_ok (Err e) s v is p q = cc
