-- The escapes of a text between quotes, and the run of bytes before the next.
use Rattle.std.proofs.Common.{◌≡◌, ℕ, suc, ◌+◌, ◌<◌, ◌≤◌, ◌%◌, ◌^◌, Bool, true, false, not, cond, ◌||◌, nat_eq, nat_lt, bit_or, List, [], ◌∷◌, ◌++◌, map, length, take, drop, get_or, chars, ⊎_elim, subst, refl, sym, ap, ◌∙◌, arith, one-add, append-nil, IsUtf8}
use Rattle.std.specs.List.{flat_map, prefix_len}
use Rattle.std.specs.Str.{IsCharBoundary}
use Rattle.std.proofs.Math.Utf8.{encode, encodes}
use Rattle.std.proofs.lemmas.Bool.{cases_Bool}
use Rattle.std.proofs.lemmas.Bool.Decides.{nat_tests}
use Rattle.std.proofs.lemmas.Grind.{flat_map-append}
use Rattle.std.proofs.lemmas.List.{length-map, length-take, take-append-drop}
use Rattle.std.proofs.lemmas.List.Folds.{prefix_len-append}
use Rattle.std.proofs.lemmas.List.Sums.{prefix_len-le-length, prefix_len_stops}
use Rattle.std.proofs.lemmas.Simd.{map-map, mask_l-mod, first_set_mask_l}
use Rattle.std.proofs.lemmas.Str.{encode_ascii, encodes-chars, inside_one}
use lib.Lanes.{mask_l, top}
use Rattle.tera_tree_text.specs.Quoted.{escaped}
use Rattle.tera_tree_text.specs.QuotedBytes.{is_plain, escaped_byte}
use Rattle.tera_base.specs.Lanes.{first_set}

-- a character has the escapes of its bytes: one beyond ASCII has none, and no byte of it has any
high_kept : (c : ℕ) → 128 ≤ c → escaped c ≡ encode c
high_kept c high = grind (arith, nat_tests)

high_plain : (b : ℕ) → 128 ≤ b → is_plain b ≡ true
high_plain b high = grind (arith, nat_tests)

plain_kept : (b : ℕ) → is_plain b ≡ true → escaped_byte b ≡ b ∷ []
plain_kept b plain = grind (arith, nat_tests)

all_kept : (xs : List ℕ) → ((k : ℕ) → k < length xs → 128 ≤ get_or xs k 0) → flat_map escaped_byte xs ≡ xs
all_kept [] high = refl
all_kept (x ∷ xs) high =
    ap (λ l. l ++ flat_map escaped_byte xs) (plain_kept x (high_plain x (high 0 (omega arith))))
    ∙ ap (λ l. x ∷ l) (all_kept xs (λ k below. high (suc k) (omega arith)))

byte_high : (c k : ℕ) → 128 ≤ c → k < length (encode c) → 128 ≤ get_or (encode c) k 0
byte_high c k high below =
    let same : get_or (encode c) k 0 < 128 → c ≡ get_or (encode c) k 0 = inside_one c [] (encode c) k (sym (append-nil _)) below in
    grind arith

low_is : (c : ℕ) → nat_lt c 128 ≡ true → c < 128
low_is c low = grind (arith, nat_tests)

high_is : (c : ℕ) → nat_lt c 128 ≡ false → 128 ≤ c
high_is c high = grind (arith, nat_tests)

char_escaped : (c : ℕ) → escaped c ≡ flat_map escaped_byte (encode c)
char_escaped c =
    ⊎_elim
    (λ low. rw (encode_ascii c (low_is c low)) (sym (append-nil (escaped_byte c))))
    (λ high. high_kept c (high_is c high) ∙ sym (all_kept (encode c) (λ k below. byte_high c k (high_is c high) below)))
    (cases_Bool (nat_lt c 128))

chars_escaped : (cs : List ℕ) → flat_map escaped cs ≡ flat_map escaped_byte (encodes cs)
chars_escaped [] = refl
chars_escaped (c ∷ cs) =
    (λ i. char_escaped c i ++ chars_escaped cs i) ∙ sym (flat_map-append escaped_byte (encode c) (encodes cs))

pub text_escaped : (bytes : List ℕ) → IsUtf8 bytes → flat_map escaped (chars bytes) ≡ flat_map escaped_byte bytes
text_escaped bytes utf8 = chars_escaped (chars bytes) ∙ ap (flat_map escaped_byte) (encodes-chars bytes utf8)

-- the run of bytes at the front that are written as they are
run_grows : (b : ℕ) (bs : List ℕ) → is_plain b ≡ true → prefix_len is_plain (b ∷ bs) ≡ suc (prefix_len is_plain bs)
run_grows b bs here = rw here (one-add (prefix_len is_plain bs))

run_ends : (b : ℕ) (bs : List ℕ) → is_plain b ≡ false → prefix_len is_plain (b ∷ bs) ≡ 0
run_ends b bs other = rw other refl

pub run_escaped : (bytes : List ℕ) → flat_map escaped_byte bytes ≡ take (prefix_len is_plain bytes) bytes ++ flat_map escaped_byte (drop (prefix_len is_plain bytes) bytes)
run_escaped [] = refl
run_escaped (b ∷ bs) =
    let splits : ℕ → Type 0 = λ n. flat_map escaped_byte (b ∷ bs) ≡ take n (b ∷ bs) ++ flat_map escaped_byte (drop n (b ∷ bs)) in
    ⊎_elim
    (λ here. subst splits (sym (run_grows b bs here)) (ap (λ l. l ++ flat_map escaped_byte bs) (plain_kept b here) ∙ ap (λ l. b ∷ l) (run_escaped bs)))
    (λ other. subst splits (sym (run_ends b bs other)) refl)
    (cases_Bool (is_plain b))

pub stop_ascii : (b : ℕ) → is_plain b ≡ false → b < 128
stop_ascii b stops = grind (arith, nat_tests)

-- the text may be cut after it
pub run_cut : (bytes : List ℕ) → IsCharBoundary bytes (prefix_len is_plain bytes)
run_cut bytes =
    (prefix_len-le-length is_plain bytes, λ below high. absurd (omega (arith, high, stop_ascii (get_or bytes (prefix_len is_plain bytes) 0) (prefix_len_stops is_plain bytes 0 below))))

-- and what is after it begins with a byte that is escaped
pub run_stops : (bytes : List ℕ) → 0 < length (drop (prefix_len is_plain bytes) bytes) → is_plain (get_or (drop (prefix_len is_plain bytes) bytes) 0 0) ≡ false
run_stops [] some = absurd (omega arith)
run_stops (b ∷ bs) some =
    let stops : ℕ → Type 0 = λ n. 0 < length (drop n (b ∷ bs)) → is_plain (get_or (drop n (b ∷ bs)) 0 0) ≡ false in
    ⊎_elim
    (λ here. subst stops (sym (run_grows b bs here)) (run_stops bs) some)
    (λ other. subst stops (sym (run_ends b bs other)) (λ _. other) some)
    (cases_Bool (is_plain b))

pub first_escaped : (bytes : List ℕ) → 0 < length bytes → flat_map escaped_byte bytes ≡ escaped_byte (get_or bytes 0 0) ++ flat_map escaped_byte (drop 1 bytes)
first_escaped [] some = absurd (omega arith)
first_escaped (b ∷ bs) some = refl

pub none_escaped : (bytes : List ℕ) → length bytes ≡ 0 → flat_map escaped_byte bytes ≡ []
none_escaped [] none = refl
none_escaped (b ∷ bs) none = absurd (omega (arith, none))

-- a run that ends among the first bytes, and one that does not
front_is : (bytes : List ℕ) (n : ℕ) → prefix_len is_plain bytes
    ≡ cond (nat_eq (prefix_len is_plain (take n bytes)) (length (take n bytes))) (length (take n bytes) + prefix_len is_plain (drop n bytes)) (prefix_len is_plain (take n bytes))
front_is bytes n = ap (prefix_len is_plain) (sym (take-append-drop n bytes)) ∙ prefix_len-append is_plain (take n bytes) (drop n bytes)

pub run_in_front : (bytes : List ℕ) (n len : ℕ) → n ≤ length bytes → len ≡ prefix_len is_plain (take n bytes) → len < n → prefix_len is_plain bytes ≡ len
run_in_front bytes n len fits is few = let front = front_is bytes n in let long = length-take n bytes in grind (arith, nat_tests)

pub run_goes_on : (bytes : List ℕ) (n len : ℕ) → n ≤ length bytes → len ≡ prefix_len is_plain (take n bytes) → n ≤ len → prefix_len is_plain bytes ≡ len + prefix_len is_plain (drop len bytes)
run_goes_on bytes n len fits is all =
    let long : length (take n bytes) ≡ n = omega (arith, length-take n bytes) in
    let whole : len ≡ n = omega (arith, is, long, prefix_len-le-length is_plain (take n bytes)) in
    let test : nat_eq (prefix_len is_plain (take n bytes)) (length (take n bytes)) ≡ true = grind (arith, nat_tests) in
    subst (λ m. prefix_len is_plain bytes ≡ m + prefix_len is_plain (drop m bytes)) (sym whole)
    (front_is bytes n ∙ rw (test, long) refl)

-- as many lanes as come before the first whose highest bit is set
pub lanes_plain : (v z : List ℕ) (n : ℕ) (f : ℕ → ℕ) → length v ≡ n → n ≤ 64 → z ≡ map f v → ((x : ℕ) → not (top 7 (f x)) ≡ is_plain x)
    → first_set n (mask_l (map (top 7) z) % 2 ^ 64) ≡ prefix_len is_plain v
lanes_plain v z n f long few lanes agree =
    let stops : ℕ → Bool = λ x. top 7 (f x) in
    ap (first_set n)
    (ap (λ l. mask_l l % 2 ^ 64) (ap (map (top 7)) lanes ∙ map-map (top 7) f v) ∙ mask_l-mod (map stops v) 64 (omega (arith, length-map v stops, long)))
    ∙ first_set_mask_l stops v n long few ∙ (λ i. prefix_len (λ x. agree x i) v)

either : (p q : Bool) → bit_or (cond p 255 0) (cond q 255 0) ≡ cond (p || q) 255 0
either true true = refl
either true false = refl
either false true = refl
either false false = refl

unset : (p : Bool) → not (top 7 (cond p 255 0)) ≡ not p
unset true = refl
unset false = refl

-- a lane of any of five masks stops
pub any_stops : (a b c d e : Bool)
    → not (top 7 (bit_or (bit_or (bit_or (bit_or (cond a 255 0) (cond b 255 0)) (cond c 255 0)) (cond d 255 0)) (cond e 255 0))) ≡ not (a || b || c || d || e)
any_stops a b c d e =
    rw (either a b, either (a || b) c, either (a || b || c) d, either (a || b || c || d) e) (unset (a || b || c || d || e))
