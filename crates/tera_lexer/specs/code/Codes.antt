-- What a `Tokens` and a `Cursor` have left as numbers and lists, by which a proof says two of them apart.
use Rattle.std.specs.Prelude.{◌≡◌, ℕ, zero, suc, ℤ, pos, Bool, true, false, List, [], ◌∷◌, Option, Some, None, refl}
use Rattle.std.specs.Coded.{Coded, code_by, coded×, coded_ℕ, coded_ℤ, coded_bool, coded_list, coded_option}
use Rattle.tera_base.specs.declared.utils.Span.{Span}
use Rattle.tera_lexer.specs.grammar.Tokens.{Tok, Content, RawContent, Remark, Start, Finish, Ident, Str, Escaped, Integer, Truth, Symbol, Items, Ended, Failed, Token}
use Rattle.tera_lexer.specs.reading.Stream.{Stream}
use Rattle.tera_lexer.specs.code.Cursors.{Position}
use Rattle.tera_lexer.specs.declared.lexer.delimiters.Kind.{Kind}
use Rattle.tera_lexer.specs.declared.lexer.delimiters.Kind.TheVariants.{Variable, Block}

abbrev is_block : Kind → Bool
is_block Variable = false
is_block Block = true

abbrev kind_by : Bool → Kind
kind_by false = Variable
kind_by true = Block

-- a token as its number among the kinds of tokens, two flags, a text and a number
abbrev Fields : Type 0
Fields = ℕ × (Bool × (Bool × (List ℕ × ℤ)))

abbrev fields_of : Tok → Fields
fields_of (Content text) = (0, (false, (false, (text, pos 0))))
fields_of (RawContent dash text end) = (1, (dash, (end, (text, pos 0))))
fields_of (Remark dash end) = (2, (dash, (end, ([], pos 0))))
fields_of (Start kind dash) = (3, (is_block kind, (dash, ([], pos 0))))
fields_of (Finish kind dash) = (4, (is_block kind, (dash, ([], pos 0))))
fields_of (Ident name) = (5, (false, (false, (name, pos 0))))
fields_of (Str text) = (6, (false, (false, (text, pos 0))))
fields_of (Escaped text) = (7, (false, (false, (text, pos 0))))
fields_of (Integer n) = (8, (false, (false, ([], n))))
fields_of (Truth b) = (9, (b, (false, ([], pos 0))))
fields_of (Symbol op) = (10, (false, (false, (op, pos 0))))

abbrev tok_by : ℕ → Bool → Bool → List ℕ → ℤ → Tok
tok_by zero a b text n = Content text
tok_by (suc zero) a b text n = RawContent a text b
tok_by (suc (suc zero)) a b text n = Remark a b
tok_by (suc (suc (suc zero))) a b text n = Start (kind_by a) b
tok_by (suc (suc (suc (suc zero)))) a b text n = Finish (kind_by a) b
tok_by (suc (suc (suc (suc (suc zero))))) a b text n = Ident text
tok_by (suc (suc (suc (suc (suc (suc zero)))))) a b text n = Str text
tok_by (suc (suc (suc (suc (suc (suc (suc zero))))))) a b text n = Escaped text
tok_by (suc (suc (suc (suc (suc (suc (suc (suc zero)))))))) a b text n = Integer n
tok_by (suc (suc (suc (suc (suc (suc (suc (suc (suc zero))))))))) a b text n = Truth a
tok_by (suc (suc (suc (suc (suc (suc (suc (suc (suc (suc more)))))))))) a b text n = Symbol text

abbrev tok_of : Fields → Tok
tok_of f = tok_by f.0 f.1.0 f.1.1.0 f.1.1.1.0 f.1.1.1.1

abbrev tok_back : (t : Tok) → tok_of (fields_of t) ≡ t
tok_back (Content text) = refl
tok_back (RawContent dash text end) = refl
tok_back (Remark dash end) = refl
tok_back (Start Variable dash) = refl
tok_back (Start Block dash) = refl
tok_back (Finish Variable dash) = refl
tok_back (Finish Block dash) = refl
tok_back (Ident name) = refl
tok_back (Str text) = refl
tok_back (Escaped text) = refl
tok_back (Integer n) = refl
tok_back (Truth b) = refl
tok_back (Symbol op) = refl

abbrev tok_code : Coded Tok
tok_code =
    code_by Fields (coded× coded_ℕ (coded× coded_bool (coded× coded_bool (coded× (coded_list coded_ℕ) coded_ℤ)))) fields_of tok_of tok_back

-- a span as its six numbers
abbrev span_code : Coded Span
span_code =
    code_by (ℕ × (ℕ × (ℕ × (ℕ × (ℕ × ℕ))))) (coded× coded_ℕ (coded× coded_ℕ (coded× coded_ℕ (coded× coded_ℕ (coded× coded_ℕ coded_ℕ)))))
    (λ s. (s.start_line, (s.start_col, (s.end_line, (s.end_col, (s.range.start, s.range.end))))))
    (λ p. record { start_line = p.0; start_col = p.1.0; end_line = p.1.1.0; end_col = p.1.1.1.0; range = record { start = p.1.1.1.1.0; end = p.1.1.1.1.1 } })
    (λ _. refl)

-- tokens as a list, and how it ends
abbrev Listed : Type 0
Listed = List (Tok × Span) × Option (List ℕ × Span)

abbrev listed : Items → Listed
listed Ended = ([], None)
listed (Failed text span) = ([], Some (text, span))
listed (Token t span items) = ((t, span) ∷ (listed items).0, (listed items).1)

abbrev items_by : List (Tok × Span) → Option (List ℕ × Span) → Items
items_by [] None = Ended
items_by [] (Some p) = Failed p.0 p.1
items_by (q ∷ qs) end = Token q.0 q.1 (items_by qs end)

abbrev items_back : (items : Items) → items_by (listed items).0 (listed items).1 ≡ items
items_back Ended = refl
items_back (Failed text span) = refl
items_back (Token t span items) = λ i. Token t span (items_back items i)

abbrev items_code : Coded Items
items_code =
    code_by Listed (coded× (coded_list (coded× tok_code span_code)) (coded_option (coded× (coded_list coded_ℕ) span_code)))
    listed (λ p. items_by p.0 p.1) items_back

abbrev pub stream_code : Coded Stream
stream_code =
    code_by (List ℕ × (Items × Option Items)) (coded× (coded_list coded_ℕ) (coded× items_code (coded_option items_code)))
    (λ s. (s.source, (s.left, s.stopped))) (λ p. record { source = p.0; left = p.1.0; stopped = p.1.1 }) (λ _. refl)

abbrev pub position_code : Coded Position
position_code =
    code_by (List ℕ × (Items × (ℕ × (ℕ × Span)))) (coded× (coded_list coded_ℕ) (coded× items_code (coded× coded_ℕ (coded× coded_ℕ span_code))))
    (λ p. (p.source, (p.left, (p.sight, (p.taken, p.span)))))
    (λ p. record { source = p.0; left = p.1.0; sight = p.1.1.0; taken = p.1.1.1.0; span = p.1.1.1.1 })
    (λ _. refl)
