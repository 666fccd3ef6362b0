-- Hints for faults: what to write instead.
use Rattle.std.specs.Prelude.{ℕ, List, [], ◌∷◌, Bool, true, false, not, ◌&&◌, ◌||◌, ◌==◌, if◌then◌else◌, codes, drop, length, nat_eq, take, Option, None, Some}
use Rattle.std.specs.Char.{is_ascii_alphabetic, is_ascii_whitespace}
use Rattle.std.specs.List.{ends_with, list_any, position_or_len, starts_with}
use Rattle.std.specs.Str.{bytes_eq, trim_end}

-- how many letters and `_` a text begins with, and the word of these
abbrev pub is_of_word : ℕ → Bool
is_of_word b = is_ascii_alphabetic b || b == 95

abbrev pub letters_in : List ℕ → ℕ
letters_in text = position_or_len (λ b. not (is_of_word b)) text

abbrev pub word_of : List ℕ → List ℕ
word_of text = take (letters_in text) text

abbrev pub is_one_of : List (List ℕ) → List ℕ → Bool
is_one_of words word = list_any (bytes_eq word) words

abbrev pub begins_with : List ℕ → List ℕ → Bool
begins_with front text = starts_with nat_eq text front

-- .. except the white space at its end
abbrev pub ends_in : List ℕ → List ℕ → Bool
ends_in end text = ends_with nat_eq (trim_end text) end

-- ---- for a tag with an unknown word

-- there is no word, or it is the word of a tag that may not be there
abbrev pub is_known : List ℕ → Bool
is_known =
    is_one_of ([] ∷ codes "else" ∷ codes "elif" ∷ codes "endif" ∷ codes "endfor" ∷ codes "endblock" ∷ codes "endcomponent" ∷ codes "endset" ∷ codes "endfilter" ∷ codes "endraw" ∷ [])

abbrev pub is_of_macros : List ℕ → Bool
is_of_macros = is_one_of (codes "macro" ∷ codes "endmacro" ∷ codes "import" ∷ codes "call" ∷ codes "endcall" ∷ [])

abbrev pub macro_hint : List ℕ
macro_hint =
    codes "Tera 2 has components in place of macros: `{% component name(argument) %}`, called by `{{ <name argument={1} /> }}`"

abbrev pub tags_hint : List ℕ
tags_hint =
    codes "the tags are `block`, `break`, `component`, `continue`, `elif`, `else`, `extends`, `filter`, `for`, `if`, `include`, `raw`, `set` and `set_global`"

abbrev pub hint_for_tag : List ℕ → Option (List ℕ)
hint_for_tag word = if is_known word then None else (if is_of_macros word then Some macro_hint else Some tags_hint)

-- ---- for an argument without its name, an `if` after `else`, a byte order mark before `extends`, two braces

abbrev pub hint_for_string : List ℕ → Option (List ℕ)
hint_for_string before =
    if ends_in (codes "(") before || ends_in (codes ",") before
    then Some (codes "each argument needs its name, as in `default(value=\"x\")`") else None

abbrev pub hint_for_else : List ℕ → List ℕ → Option (List ℕ)
hint_for_else before there =
    if bytes_eq (word_of there) (codes "if") && ends_in (codes "else") before
    then Some (codes "write `elif` in place of `else if`") else None

abbrev pub byte_order_mark : List ℕ
byte_order_mark = 0xEF ∷ 0xBB ∷ 0xBF ∷ []

abbrev pub hint_for_mark : List ℕ → Option (List ℕ)
hint_for_mark before =
    if begins_with byte_order_mark before
    then Some (codes "the file begins with a byte order mark (U+FEFF), which counts as content: save it without one") else None

abbrev pub blanks_in : List ℕ → ℕ
blanks_in text = position_or_len (λ b. not (is_ascii_whitespace b)) text

abbrev pub without_blanks : List ℕ → List ℕ
without_blanks text = drop (blanks_in text) text

abbrev pub without_dash : List ℕ → List ℕ
without_dash [] = []
without_dash (b ∷ bs) = if b == 45 then bs else b ∷ bs

abbrev pub hint_for_braces : List ℕ → Option (List ℕ)
hint_for_braces there =
    if begins_with (codes "}}") there && begins_with (codes "}}") (without_dash (without_blanks (drop 2 there)))
    then Some (codes "`}}` ends the tag here: write `} }` to close two maps") else None

-- the hint for a fault with this message: `before` is the source before it, and `there` the source from its first byte
-- on
abbrev pub hint_in : List ℕ → List ℕ → List ℕ → Option (List ℕ)
hint_in message before there =
    if bytes_eq message (codes "Unknown tag") then hint_for_tag (word_of there)
    else (if bytes_eq message (codes "Found string but expected identifier.") then hint_for_string before
    else (if bytes_eq message (codes "Found identifier but expected %}.") then hint_for_else before there
    else (if bytes_eq message (codes "`extends` needs to be the first tag of the template") then hint_for_mark before
    else (if begins_with (codes "Found `}}` but expected") message then hint_for_braces there else None))))
