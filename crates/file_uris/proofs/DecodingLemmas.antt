-- How bytes are decoded from the front, and what is encoded.
use Rattle.std.proofs.Common.{◌≡◌, ◌≢◌, ◌∙◌, ◌==◌, ◌<◌, ◌≤◌, ◌+◌, ◌*◌, ◌/◌, ◌%◌, ◌++◌, inl, inr, if◌then◌else◌, nat_lt, ℕ, Bool, true, false, List, [], ◌∷◌, codes, length, drop, get_or, refl, sym, ap, subst, arith}
use Rattle.std.proofs.lemmas.Bool.{false≢true}
use Rattle.std.proofs.lemmas.Bool.Decides.{nat_tests}
use Rattle.std.proofs.lemmas.List.{append-nil, append_cancel_left}
use Rattle.std.proofs.lemmas.Nat.{div-add-mod'}
use Rattle.std.specs.List.{AllByRecursion}
use Rattle.std.specs.Str.{IsUtf8}
use Rattle.file_uris.specs.Decoding.{decoded, are_slashes, begins_doubled, single_slashed, is_digit, is_encoded, value_of}
use Rattle.file_uris.specs.Encoding.{sound, hex_digit, encoded, encoded_path, reference}
use Rattle.file_uris.specs.Names.{scheme, is_rooted, uri_of, IsHere, IsOfFile, IsNameOf}

pub encoded_first : (a b c : ℕ) (rest : List ℕ) → is_encoded a b c ≡ true → decoded (a ∷ b ∷ c ∷ rest) ≡ (value_of b * 16 + value_of c) ∷ decoded rest
unfolding decoded
encoded_first a b c rest e = rw e refl

pub plain_first : (a b c : ℕ) (rest : List ℕ) → is_encoded a b c ≡ false → decoded (a ∷ b ∷ c ∷ rest) ≡ a ∷ decoded (b ∷ c ∷ rest)
unfolding decoded
plain_first a b c rest e = rw e refl

pub first_encoded : (text : List ℕ) → 3 ≤ length text → is_encoded (get_or text 0 0) (get_or text 1 0) (get_or text 2 0) ≡ true →
    decoded text ≡ (value_of (get_or text 1 0) * 16 + value_of (get_or text 2 0)) ∷ decoded (drop 3 text)
first_encoded [] l e = absurd (omega (arith, l))
first_encoded (a ∷ []) l e = absurd (omega (arith, l))
first_encoded (a ∷ b ∷ []) l e = absurd (omega (arith, l))
first_encoded (a ∷ b ∷ c ∷ rest) l e = encoded_first a b c rest e

pub first_plain : (text : List ℕ) → 0 < length text → (3 ≤ length text → is_encoded (get_or text 0 0) (get_or text 1 0) (get_or text 2 0) ≡ false) →
    decoded text ≡ get_or text 0 0 ∷ decoded (drop 1 text)
unfolding decoded
first_plain [] l e = absurd (omega (arith, l))
first_plain (a ∷ []) l e = refl
first_plain (a ∷ b ∷ []) l e = refl
first_plain (a ∷ b ∷ c ∷ rest) l e = plain_first a b c rest (e (omega arith))

-- nothing is left to decode
pub all_decoded : (bytes rest text : List ℕ) (empty : Bool) → bytes ++ decoded rest ≡ decoded text → empty ≡ (length rest == 0) → empty ≡ true → bytes ≡ decoded text
unfolding decoded
all_decoded bytes [] text empty whole is out = sym (append-nil bytes) ∙ whole
all_decoded bytes (x ∷ xs) text empty whole is out =
    let some : (length (x ∷ xs) == 0) ≡ false = grind (arith, nat_tests) in
    absurd (false≢true (sym some ∙ sym is ∙ out))

-- ---- what is encoded is decoded

digit_low : (n : ℕ) → n < 10 → (is_digit (48 + n) ≡ true) × (value_of (48 + n) ≡ n)
digit_low n low = (grind (arith, nat_tests), grind (arith, nat_tests))

digit_high : (n : ℕ) → 10 ≤ n → n < 16 → (is_digit (55 + n) ≡ true) × (value_of (55 + n) ≡ n)
digit_high n low high = (grind (arith, nat_tests), grind (arith, nat_tests))

digit_by : (n : ℕ) (b : Bool) → nat_lt n 10 ≡ b → n < 16 → (is_digit (if b then 48 + n else 55 + n) ≡ true) × (value_of (if b then 48 + n else 55 + n) ≡ n)
digit_by n true e fits = digit_low n (grind (arith, nat_tests))
digit_by n false e fits = digit_high n (grind (arith, nat_tests)) fits

-- a digit is one, and has its value
pub digit : (n : ℕ) → n < 16 → (is_digit (hex_digit n) ≡ true) × (value_of (hex_digit n) ≡ n)
digit n fits = digit_by n (nat_lt n 10) refl fits

-- what is not a percent sign stands for itself
pub itself : (b : ℕ) (rest : List ℕ) → (b == 37) ≡ false → decoded (b ∷ rest) ≡ b ∷ decoded rest
unfolding decoded
itself b [] e = refl
itself b (c ∷ []) e = refl
itself b (c ∷ d ∷ rest) e = rw e refl

pair_is : (h l : ℕ) → is_digit h ≡ true → is_digit l ≡ true → is_encoded 37 h l ≡ true
pair_is h l e f = rw (e, f) refl

by_digits : (b : ℕ) (rest : List ℕ) → b < 256 → decoded (encoded b ++ rest) ≡ b ∷ decoded rest
by_digits b rest fits =
    let high = digit (b / 16) (omega arith) in
    let low = digit (b % 16) (omega arith) in
    encoded_first 37 (hex_digit (b / 16)) (hex_digit (b % 16)) rest (pair_is (hex_digit (b / 16)) (hex_digit (b % 16)) high.0 low.0)
    ∙ rw (high.1, low.1, div-add-mod' b 16) refl

byte_by : (b : ℕ) (rest : List ℕ) (plain : Bool) → sound b ≡ plain → b < 256 → decoded ((if plain then b ∷ [] else encoded b) ++ rest) ≡ b ∷ decoded rest
byte_by b rest true e fits = itself b rest (grind (arith, nat_tests))
byte_by b rest false e fits = by_digits b rest fits

pub encoded_decoded : (path : List ℕ) → AllByRecursion (λ b. b < 256) path → decoded (encoded_path path) ≡ path
unfolding decoded
encoded_decoded [] fits = refl
encoded_decoded (b ∷ path) fits = byte_by b (encoded_path path) (sound b) refl fits.0 ∙ ap (λ bs. b ∷ bs) (encoded_decoded path fits.1)

-- ---- slashes

pub short_single : (path : List ℕ) → length path < 2 → begins_doubled path ≡ false
short_single [] l = refl
short_single (b ∷ []) l = refl
short_single (b ∷ c ∷ cs) l = absurd (omega (arith, l))

pub first_two : (path : List ℕ) → 2 ≤ length path → begins_doubled path ≡ are_slashes (get_or path 0 0) (get_or path 1 0)
first_two [] l = absurd (omega (arith, l))
first_two (b ∷ []) l = absurd (omega (arith, l))
first_two (b ∷ c ∷ cs) l = refl

pub first_left_out : (path : List ℕ) → 0 < length path → begins_doubled path ≡ true → single_slashed (drop 1 path) ≡ single_slashed path
unfolding single_slashed
first_left_out [] l e = absurd (omega (arith, l))
first_left_out (b ∷ bs) l e = rw e refl

pub first_kept : (path : List ℕ) → 0 < length path → begins_doubled path ≡ false → single_slashed path ≡ get_or path 0 0 ∷ single_slashed (drop 1 path)
unfolding single_slashed
first_kept [] l e = absurd (omega (arith, l))
first_kept (b ∷ bs) l e = rw e refl

-- nothing of the path is left
pub all_single : (bytes rest path : List ℕ) (empty : Bool) → bytes ++ single_slashed rest ≡ single_slashed path → empty ≡ (length rest == 0) → empty ≡ true → bytes ≡ single_slashed path
unfolding single_slashed
all_single bytes [] path empty whole is out = sym (append-nil bytes) ∙ whole
all_single bytes (x ∷ xs) path empty whole is out =
    let some : (length (x ∷ xs) == 0) ≡ false = grind (arith, nat_tests) in
    absurd (false≢true (sym some ∙ sym is ∙ out))

-- ---- names

-- no path from the root begins as the host that stands for none
not_here : (rest : List ℕ) → is_rooted (decoded (codes "localhost" ++ rest)) ≡ true → ⊥
not_here rest rooted = absurd (false≢true (sym (ap is_rooted (itself 108 (codes "ocalhost" ++ rest) refl)) ∙ rooted))

here_joined : (h r k q x y : List ℕ) → h ≡ x → k ≡ y → h ++ r ≡ k ++ q → x ++ r ≡ y ++ q
here_joined h r k q x y a b e = subst (λ z. z ++ r ≡ y ++ q) a (subst (λ z. h ++ r ≡ z ++ q) b e)

same_rest : (h r k q : List ℕ) → IsHere h → IsHere k → h ++ r ≡ k ++ q → is_rooted (decoded r) ≡ true → is_rooted (decoded q) ≡ true → r ≡ q
same_rest h r k q (inl a) (inl b) e f g = here_joined h r k q [] [] a b e
same_rest h r k q (inl a) (inr b) e f g = absurd (not_here q (subst (λ z. is_rooted (decoded z) ≡ true) (here_joined h r k q [] (codes "localhost") a b e) f))
same_rest h r k q (inr a) (inl b) e f g = absurd (not_here r (subst (λ z. is_rooted (decoded z) ≡ true) (sym (here_joined h r k q (codes "localhost") [] a b e)) g))
same_rest h r k q (inr a) (inr b) e f g = append_cancel_left (codes "localhost") r q (here_joined h r k q (codes "localhost") (codes "localhost") a b e)

-- what is after the host that stands for none is the path, if any is
pub after_host : (text rest host other : List ℕ) → text ≡ codes "localhost" ++ rest → IsHere host → text ≡ host ++ other → is_rooted (decoded other) ≡ true → other ≡ rest
after_host text rest host other is (inl a) e rooted =
    absurd (not_here rest (subst (λ z. is_rooted (decoded z) ≡ true) (sym (subst (λ z. text ≡ z ++ other) a e) ∙ is) rooted))
after_host text rest host other is (inr b) e rooted = append_cancel_left (codes "localhost") other rest (sym (subst (λ z. text ≡ z ++ other) b e) ∙ is)

pub no_host : (text host other : List ℕ) → ((rest : List ℕ) → text ≡ codes "localhost" ++ rest → ⊥) → IsHere host → text ≡ host ++ other → other ≡ text
no_host text host other none (inl a) e = sym (subst (λ z. text ≡ z ++ other) a e)
no_host text host other none (inr b) e = absurd (none other (subst (λ z. text ≡ z ++ other) b e))

abbrev path_in : List ℕ → List ℕ
path_in rest = single_slashed (decoded rest)

named_by : (path name : List ℕ) → AllByRecursion (λ b. b < 256) path → IsUtf8 (single_slashed path) → is_rooted path ≡ true →
    IsNameOf (scheme ++ encoded_path path) name → name ≡ single_slashed path
named_by path name fits text rooted (inl w) =
    let back : decoded (encoded_path path) ≡ path = encoded_decoded path fits in
    let rest : encoded_path path ≡ w.rest =
    same_rest [] (encoded_path path) w.host w.rest (inl refl) w.here (append_cancel_left scheme (encoded_path path) (w.host ++ w.rest) w.file) (ap is_rooted back ∙ rooted) w.rooted in
    w.path_is ∙ ap path_in (sym rest) ∙ ap single_slashed back
named_by path name fits text rooted (inr w) =
    let back : decoded (encoded_path path) ≡ path = encoded_decoded path fits in
    absurd (w.1 (single_slashed path) (record {
      host = [];
      rest = encoded_path path;
      file = refl;
      here = inl refl;
      path_is = sym (ap single_slashed back);
      rooted = ap is_rooted back ∙ rooted;
      text = text;
    }))

pub name_read : (path name : List ℕ) → AllByRecursion (λ b. b < 256) path → IsUtf8 (single_slashed path) → is_rooted path ≡ true → IsNameOf (uri_of path) name → name ≡ single_slashed path
name_read path name fits text rooted is =
    named_by path name fits text rooted (subst (λ b. IsNameOf (if b then scheme ++ encoded_path path else path) name) rooted is)

path_once : (uri path other : List ℕ) (w : IsOfFile uri path) (v : IsOfFile uri other) → w.rest ≡ v.rest
path_once uri path other w v =
    same_rest w.host w.rest v.host v.rest w.here v.here (append_cancel_left scheme (w.host ++ w.rest) (v.host ++ v.rest) (sym w.file ∙ v.file)) w.rooted v.rooted

pub name_once : (uri name other : List ℕ) → IsNameOf uri name → IsNameOf uri other → name ≡ other
name_once uri name other (inl w) (inl v) = w.path_is ∙ ap path_in (path_once uri name other w v) ∙ sym v.path_is
name_once uri name other (inl w) (inr v) = absurd (v.1 name w)
name_once uri name other (inr w) (inl v) = absurd (w.1 other v)
name_once uri name other (inr w) (inr v) = w.0 ∙ sym v.0

-- the path of a URI, with the host that stands for none and without it
pub path_here : (rest path : List ℕ) → is_rooted (decoded rest) ≡ true → IsOfFile (scheme ++ (codes "localhost" ++ rest)) path → IsOfFile (scheme ++ rest) path
path_here rest path rooted w =
    let same : w.rest ≡ rest =
    same_rest w.host w.rest (codes "localhost") rest w.here (inr refl) (append_cancel_left scheme (w.host ++ w.rest) (codes "localhost" ++ rest) (sym w.file)) w.rooted rooted in
    record { host = []; rest = rest; file = refl; here = inl refl; path_is = w.path_is ∙ ap path_in same; rooted = rooted; text = w.text }

-- ---- references

head_by : (b : Bool) (c d : ℕ) (ds : List ℕ) → are_slashes c d ≡ b → get_or (single_slashed (d ∷ ds)) 0 0 ≡ d
    → get_or (if b then single_slashed (d ∷ ds) else c ∷ single_slashed (d ∷ ds)) 0 0 ≡ c
head_by true c d ds e head = grind (arith, nat_tests)
head_by false c d ds e head = refl

head_single : (c : ℕ) (cs : List ℕ) → get_or (single_slashed (c ∷ cs)) 0 0 ≡ c
unfolding single_slashed
head_single c [] = refl
head_single c (d ∷ ds) = head_by (are_slashes c d) c d ds refl (head_single d ds)

start_by : (b : Bool) (c d : ℕ) (ds rest : List ℕ) → are_slashes c d ≡ b → single_slashed (d ∷ ds) ≢ 47 ∷ 47 ∷ rest
    → (if b then single_slashed (d ∷ ds) else c ∷ single_slashed (d ∷ ds)) ≢ 47 ∷ 47 ∷ rest
start_by true c d ds rest e none is = none is
start_by false c d ds rest e none is =
    let first : c ≡ 47 = ap (λ l. get_or l 0 0) is in
    let second : d ≡ 47 = sym (head_single d ds) ∙ ap (λ l. get_or l 1 0) is in
    let both : are_slashes c d ≡ true = rw (first, second) refl in
    absurd (false≢true (sym e ∙ both))

-- with one slash in the place of several no path begins with two
single_start : (path rest : List ℕ) → single_slashed path ≢ 47 ∷ 47 ∷ rest
unfolding single_slashed
single_start [] rest is = absurd (omega (arith, ap length is))
single_start (c ∷ []) rest is = absurd (omega (arith, ap length is))
single_start (c ∷ d ∷ ds) rest is = start_by (are_slashes c d) c d ds rest refl (single_start (d ∷ ds) rest) is

slash_first : (b : ℕ) (plain : Bool) (more rest : List ℕ) → (if plain then b ∷ [] else encoded b) ++ more ≡ 47 ∷ rest
    → (b ≡ 47) × (more ≡ rest)
slash_first b true more rest is = (ap (λ l. get_or l 0 0) is, ap (drop 1) is)
slash_first b false more rest is = absurd (omega (arith, ap (λ l. get_or l 0 0) is))

slashes_first : (path rest : List ℕ) → encoded_path path ≡ 47 ∷ 47 ∷ rest → (more : List ℕ) × (path ≡ 47 ∷ 47 ∷ more)
slashes_first [] rest is = absurd (omega (arith, ap length is))
slashes_first (b ∷ []) rest is =
    let one = slash_first b (sound b) [] (47 ∷ rest) is in
    absurd (omega (arith, ap length one.1))
slashes_first (b ∷ c ∷ cs) rest is =
    let one = slash_first b (sound b) (encoded_path (c ∷ cs)) (47 ∷ rest) is in
    let two = slash_first c (sound c) (encoded_path cs) rest one.1 in
    (cs, rw (one.0, two.0) refl)

pub names_no_host : (path rest : List ℕ) → reference path ≢ codes "//" ++ rest
names_no_host path rest is =
    let slashes = slashes_first (single_slashed path) rest is in
    single_start path slashes.0 slashes.1

fits_by : (b : Bool) (c : ℕ) (single : List ℕ) → c < 256 → AllByRecursion (λ b. b < 256) single
    → AllByRecursion (λ b. b < 256) (if b then single else c ∷ single)
fits_by true c single here fits = fits
fits_by false c single here fits = (here, fits)

single_fits : (path : List ℕ) → AllByRecursion (λ b. b < 256) path → AllByRecursion (λ b. b < 256) (single_slashed path)
unfolding single_slashed
single_fits [] fits = tt
single_fits (c ∷ cs) fits = fits_by (begins_doubled (c ∷ cs)) c (single_slashed cs) fits.0 (single_fits cs fits.1)

pub reference_leads_to : (path : List ℕ) → AllByRecursion (λ b. b < 256) path → decoded (reference path) ≡ single_slashed path
reference_leads_to path fits = encoded_decoded (single_slashed path) (single_fits path fits)
