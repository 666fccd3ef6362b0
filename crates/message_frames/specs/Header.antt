-- What a header is: lines of a name, a colon and a value, each ended by a carriage return and a line feed, and an empty
-- line.
use Rattle.std.specs.Prelude.{◌≡◌, ℕ, suc, ◌+◌, ◌-◌, ◌*◌, ◌<◌, ◌^◌, Bool, true, false, ◌||◌, ◌==◌, ◌⊎◌, List, [], ◌∷◌, ◌++◌, length, slice_index, codes}
use Rattle.std.specs.List.{AllByRecursion, flat_map, list_any}
use Rattle.std.specs.Str.{all_ascii_digits, str_eq_ignore_ascii_case}

-- a carriage return and a line feed
abbrev pub line_end : List ℕ
line_end = 13 ∷ 10 ∷ []

-- a line end is at this place
abbrev pub EndsAt : List ℕ → ℕ → Type 0
EndsAt bytes k = (slice_index bytes k ≡ 13) × (slice_index bytes (suc k) ≡ 10)

-- no line end is before this place
abbrev pub NoneEndsBefore : List ℕ → ℕ → Type 0
NoneEndsBefore bytes n = (k : ℕ) → k < n → ¬ (EndsAt bytes k)

-- a line that is not empty, without its end
pub record IsLine (line : List ℕ) : Type 0 where
  pub nonempty : 0 < length line
  pub whole : NoneEndsBefore line (length line)

abbrev pub ended : List ℕ → List ℕ
ended line = line ++ line_end

-- lines, and an empty line
abbrev pub head_text : List (List ℕ) → List ℕ
head_text lines = flat_map ended lines ++ line_end

-- what ends with the first empty line
abbrev pub IsHead : List ℕ → Type 0
IsHead head = (lines : List (List ℕ)) × (head ≡ head_text lines) × AllByRecursion IsLine lines

-- ---- a line of a header

abbrev pub colon : ℕ
colon = 58

abbrev pub is_colon : ℕ → Bool
is_colon b = b == colon

-- the name is before the first colon
pub record IsField (line name value : List ℕ) : Type 0 where
  pub whole : line ≡ name ++ colon ∷ value
  pub named : 0 < length name
  pub first : list_any is_colon name ≡ false

-- the name of the length, in any case
abbrev pub names_length : List ℕ → Bool
names_length name = str_eq_ignore_ascii_case name (codes "Content-Length")

-- a space or a tab
abbrev pub is_blank : ℕ → Bool
is_blank b = b == 32 || b == 9

-- the number that these digits write after those of n
abbrev pub number_after : ℕ → List ℕ → ℕ
number_after n [] = n
number_after n (digit ∷ digits) = number_after (n * 10 + (digit - 48)) digits

-- a number of 64 bits in decimal digits, maybe with blanks on both sides
pub record IsNumber (value : List ℕ) (n : ℕ) : Type 0 where
  pub front : List ℕ
  pub digits : List ℕ
  pub back : List ℕ
  pub whole : value ≡ front ++ (digits ++ back)
  pub blank_front : AllByRecursion (λ b. is_blank b ≡ true) front
  pub blank_back : AllByRecursion (λ b. is_blank b ≡ true) back
  pub some : 0 < length digits
  pub decimal : all_ascii_digits digits ≡ true
  pub is : number_after 0 digits ≡ n
  pub fits : n < 2 ^ 64

-- the line says this length
pub record StatesLength (line : List ℕ) (n : ℕ) : Type 0 where
  pub name : List ℕ
  pub value : List ℕ
  pub field : IsField line name value
  pub names : names_length name ≡ true
  pub number : IsNumber value n

-- the line says something else
pub record StatesOther (line : List ℕ) : Type 0 where
  pub name : List ℕ
  pub value : List ℕ
  pub field : IsField line name value
  pub names : names_length name ≡ false

-- one of the lines says this length, and the others something else
abbrev pub IsStatedOnce : List (List ℕ) → ℕ → Type 0
IsStatedOnce [] n = ⊥
IsStatedOnce (line ∷ lines) n =
    (StatesLength line n × AllByRecursion StatesOther lines) ⊎ (StatesOther line × IsStatedOnce lines n)

-- the header of a message of n bytes
pub record IsHeader (header : List ℕ) (n : ℕ) : Type 0 where
  pub lines : List (List ℕ)
  pub whole : header ≡ head_text lines
  pub each : AllByRecursion IsLine lines
  pub once : IsStatedOnce lines n
