-- Where the reading of templates stops, all is lost: no template has tokens that agree so far.
use Rattle.std.proofs.Common.{◌≡◌, ◌≤◌, ℕ, List, [], false, Some}
use Rattle.tera_base.specs.declared.utils.Span.{Span}
use Rattle.tera_lexer.specs.code.Cursors.{Passes}
use Rattle.tera_lexer.specs.grammar.Tiling.{Tile}
use Rattle.tera_lexer.specs.grammar.Faults.{IsFaultOf}
use Rattle.tera_lexer.specs.grammar.Tokens.{Tok, Items, Token}
use Rattle.tera_grammar.specs.Limits.{Limits}
use Rattle.tera_grammar.specs.statements.Grammar.{Body}
use Rattle.tera_grammar.specs.statements.Top.{IsTemplate}
use Rattle.tera_grammar.proofs.plain.statements.Reading.{template as plain_template}
use Rattle.tera_grammar.specs.Reads.{stopped}
use Rattle.tera_grammar.specs.statements.Lost.{AreLost}
use Rattle.tera_grammar.specs.statements.Reading.{template}
use Rattle.tera_grammar.proofs.stops.Lost.{fault_lost, template_lost, template_refused}
use Rattle.tera_grammar.proofs.stops.ForgetTags.{each_read}

module _ (l : Limits) (complete : (ts : Items) (b : Body) → IsTemplate l ts b → plain_template l ts ≡ Some b) where
  -- after the token that was taken last
  pub lost_after : (source : List ℕ) (items z : Items) → Tile false [] source items → template l items ≡ stopped z
      → (n : ℕ) (last span : Span) → Passes n items last z span → (m : ℕ) → span.range.end ≤ m → AreLost l m items
  lost_after source items z tile h n last span passes m le = template_lost l (each_read l complete) source items z tile h n last span passes m le

  -- at the token that was taken last
  pub lost_at : (source : List ℕ) (items left : Items) (t : Tok) (s : Span) → Tile false [] source items → template l items ≡ stopped (Token t s left)
      → (n : ℕ) (last span : Span) → Passes n items last left span → (m : ℕ) → span.range.end ≤ m → AreLost l m items
  lost_at source items left t s tile h n last span passes m le = template_refused l (each_read l complete) source items left t s tile h n last span passes m le

  -- where the tokens end in a fault
  pub lost_in : (source : List ℕ) (items : Items) (text : List ℕ) (span : Span) → Tile false [] source items → IsFaultOf items text span
      → (m : ℕ) → span.range.start ≤ m → AreLost l m items
  lost_in source items text span tile fault m le = fault_lost l (each_read l complete) source items text span tile fault m le
