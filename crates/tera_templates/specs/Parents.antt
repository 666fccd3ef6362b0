-- Where a text names the template that it extends.
use Rattle.std.specs.Prelude.{◌≡◌, List, ℕ, Bool, true, false, if◌then◌else◌, codes, Option, None, Some}
use Rattle.std.specs.Str.{bytes_eq}
use Rattle.tera_base.specs.declared.utils.Span.{Span}
use Rattle.tera_lexer.specs.grammar.Marks.{default_marks}
use Rattle.tera_lexer.specs.grammar.Tokens as toks
use Rattle.tera_lexer.specs.grammar.Tokens.{AreTokensOf, Items, Ended, Failed, Token, Tok}
use Rattle.tera_lexer.specs.declared.lexer.delimiters.Kind.TheVariants.{Block}
use Rattle.tera_templates.specs.declared.parents.Before.{Before}
use Rattle.tera_templates.specs.declared.parents.Before.TheVariants.{Start, Extends, Other}

-- what the last token is: the start of a tag; `extends`, if that is the first word of a tag; or anything else
abbrev pub first_word : Before → List ℕ → Before
first_word Start word = if bytes_eq word (codes "extends") then Extends else Other
first_word _ word = Other

abbrev pub before_next : Before → Tok → Before
before_next before (toks.Start Block dash) = Start
before_next before (toks.Ident word) = first_word before word
before_next before _ = Other

abbrev pub is_string : Tok → Bool
is_string (toks.Str text) = true
is_string (toks.Escaped text) = true
is_string _ = false

abbrev pub is_name_after : Before → Tok → Bool
is_name_after Extends t = is_string t
is_name_after _ t = false

-- the first string that comes after an `extends` with which a tag begins
abbrev pub name_after : Before → Items → Option Span
name_after before Ended = None
name_after before (Failed text span) = None
name_after before (Token t span items) =
    if is_name_after before t then Some span else name_after (before_next before t) items

-- the place in a text that extends the template of a name, or none
abbrev pub IsParentAt : List ℕ → Option (List ℕ) → Option Span → Type 0
IsParentAt text None at = at ≡ None
IsParentAt text (Some name) at = (items : Items) × AreTokensOf default_marks text items × (at ≡ name_after Other items)
