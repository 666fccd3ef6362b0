-- Comments that silence findings: `tera-ignore:` and rules, which commas separate.
use Rattle.std.specs.Prelude.{◌≡◌, ◌+◌, ◌-◌, ℕ, List, [], ◌∷◌, ◌++◌, Bool, true, ◌&&◌, ◌||◌, ◌==◌, if◌then◌else◌, nat_eq, codes, drop, length, map, reverse, string_bytes, take, unwrap_or, Option, None, Some, Result, Ok, Err}
use Rattle.std.specs.Char.{is_ascii_whitespace}
use Rattle.std.specs.List.{filter, prefix_len, suffix_len, slice_split}
use Rattle.std.specs.Option.{option_and_then, option_map, option_map_or}
use Rattle.tera_base.specs.declared.errors.Error.{Error}
use Rattle.tera_base.specs.declared.utils.Span.{Span}
use Rattle.tera_lexer.specs.grammar.Marks.{Marks, default_marks}
use Rattle.tera_lexer.specs.grammar.Tokens.{AreTokensOf, Items, Ended, Failed, Token}
use Rattle.tera_tree.specs.declared.outputs.ParserOutput.{ParserOutput}
use Rattle.tera_templates.specs.Boundaries.{text_at, is_same_part}
use Rattle.tera_templates.specs.Hints.{begins_with, byte_order_mark}
use Rattle.tera_templates.specs.declared.ignores.Ignore.{Ignore}
use Rattle.tera_templates.specs.declared.mended.Mended.{Mended}
use Rattle.tera_templates.specs.declared.templates.Template.{Template}

-- a rule that a comment names, where the comment is, and whether nothing else is on its lines
pub record IgnoreVal : Type 0 where
  pub rule : List ℕ
  pub span : Span
  pub alone : Bool

abbrev pub ignore_view : Ignore → IgnoreVal
ignore_view i = record { rule = string_bytes i.rule; span = i.span; alone = i.alone }

abbrev pub ignores_view : List Ignore → List IgnoreVal
ignores_view is = map ignore_view is

-- ---- parts of texts

-- what comes after the front of a text, and before its end
abbrev pub following : List ℕ → List ℕ → Option (List ℕ)
following [] text = Some text
following (f ∷ fs) [] = None
following (f ∷ fs) (b ∷ bs) = if nat_eq f b then following fs bs else None

abbrev pub preceding : List ℕ → List ℕ → Option (List ℕ)
preceding back text = option_map reverse (following (reverse back) (reverse text))

-- a text without the white space at its start, and at both ends
abbrev pub skipped : List ℕ → List ℕ
skipped text = drop (prefix_len is_ascii_whitespace text) text

abbrev pub trimmed : List ℕ → List ℕ
trimmed text = take (length (skipped text) - suffix_len is_ascii_whitespace (skipped text)) (skipped text)

-- ---- what a comment says

abbrev pub ignore_word : List ℕ
ignore_word = codes "tera-ignore:"

-- what is between the markers of a comment, without a dash beside them
abbrev pub without_dashes : List ℕ → List ℕ
without_dashes inside =
    let begun = unwrap_or (following (codes "-") inside) inside in
    unwrap_or (preceding (codes "-") begun) begun

abbrev pub inside_of : List ℕ → List ℕ → List ℕ → Option (List ℕ)
inside_of start end comment = option_map without_dashes (option_and_then (preceding end) (following start comment))

-- the rules that it names, if it begins with the word
abbrev pub rules_text : List ℕ → List ℕ → List ℕ → Option (List ℕ)
rules_text start end comment = option_and_then (λ inside. following ignore_word (skipped inside)) (inside_of start end comment)

abbrev pub rules_at : List ℕ → List ℕ → List ℕ → Span → Option (List ℕ)
rules_at start end text span = option_and_then (rules_text start end) (text_at text (span.range.start, span.range.end))

-- ---- whether a comment is alone on its lines: white space is before it on its first line, and after it on its last

abbrev pub is_blank : ℕ → Bool
is_blank b = (b == 32) || ((b == 9) || (b == 13))

abbrev pub is_blank_line : List ℕ → Bool
is_blank_line [] = true
is_blank_line (b ∷ bs) = (b == 10) || (is_blank b && is_blank_line bs)

-- the text before a comment, without the byte order mark with which a file may begin
abbrev pub without_mark : List ℕ → List ℕ
without_mark before = if begins_with byte_order_mark before then drop 3 before else before

abbrev pub is_alone : List ℕ → Span → Bool
is_alone text span =
    is_blank_line (reverse (without_mark (take span.range.start text))) && is_blank_line (drop span.range.end text)

-- ---- the ignores of a text

abbrev pub ignore_of : Span → Bool → List ℕ → IgnoreVal
ignore_of span alone rule = record { rule = trimmed rule; span = span; alone = alone }

-- the rules in a text, which commas separate
abbrev pub ignores_of_rules : List ℕ → Span → List ℕ → List IgnoreVal
ignores_of_rules text span rules = map (ignore_of span (is_alone text span)) (slice_split (λ b. nat_eq b 44) rules)

-- at a span, and at those of all tokens: a comment is a token
abbrev pub ignores_at : List ℕ → List ℕ → List ℕ → Span → List IgnoreVal
ignores_at start end text span = option_map_or (ignores_of_rules text span) (rules_at start end text span) []

abbrev pub ignores_in : List ℕ → List ℕ → List ℕ → Items → List IgnoreVal
ignores_in start end text Ended = []
ignores_in start end text (Failed message span) = []
ignores_in start end text (Token t span items) = ignores_at start end text span ++ ignores_in start end text items

abbrev pub AreIgnoresOf : Marks → List ℕ → List IgnoreVal → Type 0
AreIgnoresOf m text is = (items : Items) × AreTokensOf m text items × (is ≡ ignores_in m.comment_start m.comment_end text items)

-- the ignores of a source with faults: those of the text that it was read as, if the source has the comment at the same
-- place
abbrev pub is_kept : List ℕ → List ℕ → IgnoreVal → Bool
is_kept source text i = is_same_part source text (i.span.range.start, i.span.range.end)

abbrev pub AreIgnoresOfMended : List ℕ → Mended → List IgnoreVal → Type 0
AreIgnoresOfMended source m is =
    (all : List IgnoreVal) × AreIgnoresOf default_marks (string_bytes m.text) all × (is ≡ filter (is_kept source (string_bytes m.text)) all)

-- the ignores of a template: none if only a fault of it is known
abbrev pub AreIgnoresBy : Marks → List ℕ → Result ParserOutput Error → Option Mended → List IgnoreVal → Type 0
AreIgnoresBy m source (Ok o) mended is = AreIgnoresOf m source is
AreIgnoresBy m source (Err e) None is = is ≡ []
AreIgnoresBy m source (Err e) (Some mended) is = AreIgnoresOfMended source mended is

abbrev pub AreIgnoresIn : Marks → List ℕ → Template → Type 0
AreIgnoresIn m source t = AreIgnoresBy m source t.parsed t.mended (ignores_view t.ignores.items)
