-- What is at the front of some bytes, as a function: the reading that the definitions of lexemes and pieces allow. The
-- contract of `Parser::parse` does not name it.
use Rattle.std.specs.Prelude.{ℕ, zero, suc, ◌+◌, ◌^◌, Bool, true, false, not, if◌then◌else◌, nat_lt, ◌==◌, List, [], ◌∷◌, length, take, drop, codes, Option, Some, None}
use Rattle.std.specs.List.{prefix_len, list_any}
use Rattle.std.specs.Char.{is_ascii_digit, is_ascii_whitespace}
use Rattle.tera_lexer.specs.grammar.Bytes.{dash_byte, dot, backslash}
use Rattle.tera_lexer.specs.grammar.Marks.{Marks, end_marker, begins, dash_bytes}
use Rattle.tera_lexer.specs.grammar.Lexeme.{begins_name, goes_on_name, is_quote, Inner, Plain, Escape, is_known, escaped, has_unknown_escape, operator_at, decimal, Lexeme, Name, Number, Quoted, Operator, Fault, Unexpected, Unclosed, UnknownEscape, TooGreat, Float, Item, Close, End, Open, Bad}
use Rattle.tera_lexer.specs.grammar.Raw.{WordTag, raw_word, endraw_word}
use Rattle.tera_lexer.specs.grammar.Division.{is_at_start, Piece, Text, Comment, Raw, Tag, Ending, Complete, OpenTag, BadTag, OpenRaw, OpenComment}
use Rattle.tera_lexer.specs.declared.lexer.delimiters.Kind.{Kind}
use Rattle.tera_lexer.specs.declared.lexer.delimiters.Kind.TheVariants.{Variable, Block}

-- a lexeme and the bytes after it, or a fault
pub data Front : Type 0 where
  Reads : Lexeme → List ℕ → Front
  Breaks : Fault → Front

-- the longest run of bytes that pass the test, and what is after it
abbrev pub run_of : (ℕ → Bool) → List ℕ → List ℕ
run_of p bytes = take (prefix_len p bytes) bytes

abbrev pub after_run : (ℕ → Bool) → List ℕ → List ℕ
after_run p bytes = drop (prefix_len p bytes) bytes

-- the inside of a string and what is after its closing quote
abbrev pub with_inner : Inner → Option (List Inner × List ℕ) → Option (List Inner × List ℕ)
with_inner i None = None
with_inner i (Some p) = Some (i ∷ p.0, p.1)

abbrev pub string_at : ℕ → List ℕ → Option (List Inner × List ℕ)
string_at quote [] = None
string_at quote (b ∷ []) = if b == quote then Some ([], []) else None
string_at quote (b ∷ c ∷ cs) =
    if b == quote then Some ([], c ∷ cs)
    else (if b == backslash then with_inner (Escape c) (string_at quote cs) else with_inner (Plain b) (string_at quote (c ∷ cs)))

-- how many bytes are before the closing quote, after a backslash or not
abbrev pub more : Option ℕ → Option ℕ
more None = None
more (Some n) = Some (suc n)

abbrev pub closing_at : ℕ → Bool → List ℕ → Option ℕ
closing_at quote escaped [] = None
closing_at quote true (b ∷ bs) = more (closing_at quote false bs)
closing_at quote false (b ∷ bs) =
    if b == backslash then more (closing_at quote true bs) else (if b == quote then Some 0 else more (closing_at quote false bs))

abbrev pub is_plain : ℕ → Bool
is_plain b = not (b == backslash)

-- the text that the inside of a string stands for
abbrev pub unescaped : List ℕ → List ℕ
unescaped [] = []
unescaped (b ∷ []) = b ∷ []
unescaped (b ∷ c ∷ cs) = if b == backslash then escaped c ∷ unescaped cs else b ∷ unescaped (c ∷ cs)

-- whether an escape in it is unknown, after a backslash or not
abbrev pub unknown_in : Bool → List ℕ → Bool
unknown_in escape [] = false
unknown_in true (b ∷ bs) = if is_known b then unknown_in false bs else true
unknown_in false (b ∷ bs) = if b == backslash then unknown_in true bs else unknown_in false bs

abbrev pub string_front : ℕ → Option (List Inner × List ℕ) → Front
string_front quote None = Breaks (Unclosed quote)
string_front quote (Some p) = if has_unknown_escape p.0 then Breaks (UnknownEscape quote p.0) else Reads (Quoted quote p.0) p.1

-- digits b and bs, and what is after them
abbrev pub number_front : ℕ → List ℕ → List ℕ → Front
number_front b bs rest =
    if begins (dot ∷ []) rest then Breaks (Float b bs (run_of is_ascii_digit (drop 1 rest)))
    else (if nat_lt (decimal (b ∷ bs)) (2 ^ 63) then Reads (Number b bs) rest else Breaks (TooGreat b bs))

-- an operator of more than one byte begins with the byte
abbrev pub begins_long_operator : ℕ → Bool
begins_long_operator b = list_any (λ c. c == b) (codes "./*=!><?")

abbrev pub operator_front : List ℕ → Option (List ℕ) → Front
operator_front bytes None = Breaks Unexpected
operator_front bytes (Some op) = Reads (Operator op) (drop (length op) bytes)

-- what is at the front of bytes in a tag
unfoldable pub front_of : List ℕ → Front
front_of [] = Breaks Unexpected
front_of (b ∷ bs) =
    if is_ascii_digit b then number_front b (run_of is_ascii_digit bs) (after_run is_ascii_digit bs)
    else (if begins_name b then Reads (Name b (run_of goes_on_name bs)) (after_run goes_on_name bs)
    else (if is_quote b then string_front b (string_at b bs)
    else operator_front (b ∷ bs) (operator_at (b ∷ bs))))

-- what comes next in a tag, after a gap
pub data Next : Type 0 where
  Ends : Next
  Closes : Bool → List ℕ → Next
  GoesOnWith : Front → Next

abbrev pub next_at : List ℕ → List ℕ → Next
next_at end [] = Ends
next_at end (b ∷ bs) =
    if begins (dash_byte ∷ end) (b ∷ bs) then Closes true (drop (suc (length end)) (b ∷ bs))
    else (if begins end (b ∷ bs) then Closes false (drop (length end) (b ∷ bs)) else GoesOnWith (front_of (b ∷ bs)))

abbrev pub item_before : Item → List Item × Close → List Item × Close
item_before i p = (i ∷ p.0, p.1)

-- one step into a tag, which reads the rest by `go`
abbrev pub inside_step : (List ℕ → List Item × Close) → List ℕ → List ℕ → Next → List Item × Close
inside_step go gap at Ends = ([], Open gap)
inside_step go gap at (Closes dash rest) = ([], End gap dash rest)
inside_step go gap at (GoesOnWith (Breaks fault)) = ([], Bad gap fault at)
inside_step go gap at (GoesOnWith (Reads lexeme rest)) = item_before (record { gap = gap; lexeme = lexeme }) (go rest)

-- the inside of a tag, in at most so many steps
unfoldable pub inside_by : ℕ → List ℕ → List ℕ → List Item × Close
inside_by zero end bytes = ([], Open [])
inside_by (suc n) end bytes =
    let at = after_run is_ascii_whitespace bytes in
    inside_step (inside_by n end) (run_of is_ascii_whitespace bytes) at (next_at end at)

abbrev pub inside_of : List ℕ → List ℕ → List Item × Close
inside_of end bytes = inside_by (suc (length bytes)) end bytes

-- how many bytes are before the first start marker
abbrev pub text_len : Marks → List ℕ → ℕ
text_len m [] = 0
text_len m (b ∷ bs) = if is_at_start m (b ∷ bs) then 0 else suc (text_len m bs)

abbrev pub with_piece : Piece → List Piece × Ending → List Piece × Ending
with_piece p d = (p ∷ d.0, d.1)

-- how many bytes are before the first such marker
abbrev pub find_marker : List ℕ → List ℕ → Option ℕ
find_marker marker [] = None
find_marker marker (b ∷ bs) = if begins marker (b ∷ bs) then Some 0 else more (find_marker marker bs)

-- what is after a start marker, and after its dash
abbrev pub after_marker : List ℕ → List ℕ → List ℕ
after_marker marker bytes = drop (length marker) bytes

abbrev pub at_dash : List ℕ → Bool
at_dash bytes = begins (dash_byte ∷ []) bytes

abbrev pub after_dash : List ℕ → List ℕ
after_dash bytes = drop (length (dash_bytes (at_dash bytes))) bytes

-- how many bytes a dash or none and then white space take
abbrev pub gap_len : List ℕ → ℕ
gap_len bytes = length (dash_bytes (at_dash bytes)) + prefix_len is_ascii_whitespace (after_dash bytes)

-- a tag of a raw piece, and what is after it
abbrev pub word_tag_end : List ℕ → WordTag → List ℕ → Option (WordTag × List ℕ)
word_tag_end end t at = if begins end at then Some (t, after_marker end at) else None

abbrev pub word_tag_at : List ℕ → List ℕ → List ℕ → Option (WordTag × List ℕ)
word_tag_at word end bytes =
    let inner = after_dash bytes in
    let at = after_run is_ascii_whitespace inner in
    let after = after_marker word at in
    let last = after_run is_ascii_whitespace after in
    let tag : WordTag = record { dash_in = at_dash bytes; before = run_of is_ascii_whitespace inner; following = run_of is_ascii_whitespace after; dash_out = at_dash last } in
    if begins word at then word_tag_end end tag (after_dash last) else None

-- how long the body of a raw piece is, the tag that closes it, and what is after that
pub record RawEnd : Type 0 where
  pub len : ℕ
  pub close : WordTag
  pub rest : List ℕ

abbrev pub longer : Option RawEnd → Option RawEnd
longer None = None
longer (Some e) = Some (record e { len = suc e.len })

abbrev pub closed_or : Option (WordTag × List ℕ) → Option RawEnd → Option RawEnd
closed_or None other = other
closed_or (Some p) other = Some (record { len = 0; close = p.0; rest = p.1 })

-- the end of a raw piece by the markers of its tags, where its body or the second byte of a block start that
-- closed nothing comes first
abbrev pub raw_end : List ℕ → List ℕ → Bool → List ℕ → Option RawEnd
raw_end start end second [] = None
raw_end start end true (b ∷ bs) = longer (raw_end start end false bs)
raw_end start end false (b ∷ bs) =
    if begins start (b ∷ bs) then closed_or (word_tag_at endraw_word end (after_marker start (b ∷ bs))) (longer (raw_end start end true bs))
    else longer (raw_end start end false bs)

abbrev pub tag_step : (List ℕ → List Piece × Ending) → Kind → Bool → List Item → Close → List Piece × Ending
tag_step go kind dash items (End gap end rest) = with_piece (Tag kind dash items gap end) (go rest)
tag_step go kind dash items (Open gap) = ([], OpenTag kind dash items gap)
tag_step go kind dash items (Bad gap fault at) = ([], BadTag kind dash items gap fault at)

abbrev pub tag_front : (List ℕ → List Piece × Ending) → Marks → Kind → Bool → List ℕ → List Piece × Ending
tag_front go m kind dash inside = tag_step go kind dash (inside_of (end_marker kind m) inside).0 (inside_of (end_marker kind m) inside).1

abbrev pub comment_step : (List ℕ → List Piece × Ending) → Marks → Bool → List ℕ → Option ℕ → List Piece × Ending
comment_step go m dash following None = ([], OpenComment dash)
comment_step go m dash following (Some n) = with_piece (Comment dash (take n following)) (go (after_marker m.comment_end (drop n following)))

abbrev pub raw_step : (List ℕ → List Piece × Ending) → Bool → WordTag → List ℕ → Option RawEnd → List Piece × Ending
raw_step go dash opening inside None = ([], OpenRaw dash)
raw_step go dash opening inside (Some e) = with_piece (Raw dash opening (take e.len inside) e.close) (go e.rest)

abbrev pub block_step : (List ℕ → List Piece × Ending) → Marks → Bool → List ℕ → Option (WordTag × List ℕ) → List Piece × Ending
block_step go m dash following None = tag_front go m Block dash following
block_step go m dash following (Some p) = raw_step go dash p.0 p.1 (raw_end m.block_start m.block_end false p.1)

abbrev pub text_step : (List ℕ → List Piece × Ending) → ℕ → List ℕ → List Piece × Ending
text_step go n bytes = with_piece (Text (take n bytes)) (go (drop n bytes))

-- the division of a source, in at most so many steps
unfoldable pub division_by : ℕ → Marks → List ℕ → List Piece × Ending
division_by zero m bytes = ([], Complete)
division_by (suc n) m [] = ([], Complete)
division_by (suc n) m (b ∷ bs) =
    let variable = after_marker m.variable_start (b ∷ bs) in
    let block = after_marker m.block_start (b ∷ bs) in
    let comment = after_marker m.comment_start (b ∷ bs) in
    if begins m.variable_start (b ∷ bs) then tag_front (division_by n m) m Variable (at_dash variable) (after_dash variable)
    else (if begins m.block_start (b ∷ bs) then block_step (division_by n m) m (at_dash block) (after_dash block) (word_tag_at raw_word m.block_end (after_dash block))
    else (if begins m.comment_start (b ∷ bs) then comment_step (division_by n m) m (at_dash comment) (after_dash comment) (find_marker m.comment_end (after_dash comment))
    else text_step (division_by n m) (suc (text_len m bs)) (b ∷ bs)))

abbrev pub division_of : Marks → List ℕ → List Piece × Ending
division_of m bytes = division_by (suc (length bytes)) m bytes
