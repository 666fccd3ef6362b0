-- The tokens of a text that an editor colours, as the numbers of the protocol.
use Rattle.std.specs.Prelude.{◌≡◌, ◌+◌, ◌-◌, ◌==◌, ◌++◌, ◌∷◌, ℕ, if◌then◌else◌, List, [], codes, map}
use Rattle.json.specs.Json.{Json, string, array, object, no_items, no_members, member}
use Rattle.json.specs.Token.{Token}
use Rattle.json.specs.Tree.{json_tokens}
use Rattle.json.specs.Value.{items_of}
use Rattle.tera_outline.specs.Pieces.{Part, ArePartsOf}
use Rattle.tera_outline.specs.SemanticTokens.{semantic_tokens_of}
use Rattle.tera_outline.specs.declared.semantic_tokens.SemanticKind.{SemanticKind}
use Rattle.tera_outline.specs.declared.semantic_tokens.SemanticKind.TheVariants as kinds
use Rattle.tera_outline.specs.declared.semantic_tokens.SemanticToken.{SemanticToken}
use Rattle.text_edits.specs.Laws.{IsUpTo}
use Rattle.text_edits.specs.declared.positions.Encoding.{Encoding}
use Rattle.text_edits.specs.declared.positions.Position.{Position}
use Rattle.protocol_values.specs.Writing.{number_json}
use Rattle.tera_answers.specs.Positions.{position_at}
use Rattle.tera_answers.specs.declared.semantic_tokens.Placed.{Placed}

-- the kinds in the order of the legend, what the protocol calls each, and its number
abbrev pub all_kinds : List SemanticKind
all_kinds =
    kinds.Comment ∷ kinds.Keyword ∷ kinds.String ∷ kinds.Number ∷ kinds.Operator ∷ kinds.Namespace ∷ kinds.Class ∷ kinds.Type
    ∷ kinds.Function ∷ kinds.Parameter ∷ kinds.Property ∷ kinds.Variable ∷ []

abbrev pub kind_name : SemanticKind → List ℕ
kind_name kinds.Comment = codes "comment"
kind_name kinds.Keyword = codes "keyword"
kind_name kinds.String = codes "string"
kind_name kinds.Number = codes "number"
kind_name kinds.Operator = codes "operator"
kind_name kinds.Namespace = codes "namespace"
kind_name kinds.Class = codes "class"
kind_name kinds.Type = codes "type"
kind_name kinds.Function = codes "function"
kind_name kinds.Parameter = codes "parameter"
kind_name kinds.Property = codes "property"
kind_name kinds.Variable = codes "variable"

abbrev pub kind_number : SemanticKind → ℕ
kind_number kinds.Comment = 0
kind_number kinds.Keyword = 1
kind_number kinds.String = 2
kind_number kinds.Number = 3
kind_number kinds.Operator = 4
kind_number kinds.Namespace = 5
kind_number kinds.Class = 6
kind_number kinds.Type = 7
kind_number kinds.Function = 8
kind_number kinds.Parameter = 9
kind_number kinds.Property = 10
kind_number kinds.Variable = 11

abbrev pub kind_json : SemanticKind → Json
kind_json kind = string (kind_name kind)

-- what the numbers of kinds mean; no token has a modifier
abbrev pub legend_json : Json
legend_json =
    object (member (codes "tokenTypes") (array (items_of (map kind_json all_kinds)))
    (member (codes "tokenModifiers") (array no_items) no_members))

-- a token of a text with its position
abbrev pub placed : Encoding → List ℕ → SemanticToken → Placed
placed e text t = record {
  start = position_at e text t.start;
  length = (position_at e text t.end).character - (position_at e text t.start).character;
  kind = t.kind;
}

-- how many units are before a position on its line, or between the two if the last one is on the line too
abbrev pub distance : Position → Position → ℕ
distance last p = if p.line == last.line then p.character - last.character else p.character

-- a token after one that begins at a position
abbrev pub numbers : Position → Placed → List ℕ
numbers last t = (t.start.line - last.line) ∷ distance last t.start ∷ t.length ∷ kind_number t.kind ∷ 0 ∷ []

abbrev pub data_from : Position → List Placed → List ℕ
data_from last [] = []
data_from last (t ∷ ts) = numbers last t ++ data_from t.start ts

abbrev pub first : Position
first = record { line = 0; character = 0 }

abbrev pub data_of : Encoding → List ℕ → List SemanticToken → List ℕ
data_of e text tokens = data_from first (map (placed e text) tokens)

abbrev pub tokens_json : Encoding → List ℕ → List SemanticToken → Json
tokens_json e text tokens = object (member (codes "data") (array (items_of (map number_json (data_of e text tokens)))) no_members)

-- the tokens of a text
abbrev pub AreTokens : Encoding → List ℕ → Json → Type 0
AreTokens e text j = (parts : List Part) × ArePartsOf text parts × (j ≡ tokens_json e text (semantic_tokens_of text parts))

-- ---- what holds of it

-- a token as a client reads it: where it begins, its length, and the number of its kind
pub record SentToken : Type 0 where
  pub start : Position
  pub length : ℕ
  pub kind : ℕ

abbrev pub sent_token : Placed → SentToken
sent_token t = record { start = t.start; length = t.length; kind = kind_number t.kind }

-- the position so many lines and characters after another
abbrev pub moved : Position → ℕ → ℕ → Position
moved p line character =
    if line == 0 then record { line = p.line; character = p.character + character }
    else record { line = p.line + line; character = character }

-- the tokens that numbers stand for, after a position
abbrev pub read_from : Position → List ℕ → List SentToken
read_from p (line ∷ character ∷ length ∷ kind ∷ modifiers ∷ ns) =
    record { start = moved p line character; length = length; kind = kind } ∷ read_from (moved p line character) ns
read_from p ns = []

-- the position where a token ends, on its line
abbrev pub end_of : Placed → Position
end_of t = record { line = t.start.line; character = t.start.character + t.length }

-- each token begins at or after the end of the one before, and the first at or after a position
abbrev pub AreApart : Position → List Placed → Type 0
AreApart p [] = Unit {0}
AreApart p (t ∷ ts) = IsUpTo p t.start × AreApart (end_of t) ts

-- ---- the tokens of JSON

unfoldable pub number_tokens : ℕ → List Token
number_tokens n = json_tokens (number_json n)
