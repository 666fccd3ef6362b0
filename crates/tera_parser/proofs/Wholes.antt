-- From the tokens of a whole source to what `parse` promises.
use Rattle.std.proofs.Common.{◌≡◌, ◌∙◌, ℕ, ◌≤◌, false, List, [], ◌∷◌, ◌++◌, ⊎_elim, subst, sym, refl}
use Rattle.std.specs.Prelude.{◌⊎◌}
use Rattle.std.specs.List.{AllByRecursion}
use Rattle.tera_base.specs.ErrorView.{NoteOf, NoteVal, error_view}
use Rattle.tera_base.specs.declared.utils.Span.{Span}
use Rattle.tera_base.specs.Errors.{IsMemory, ReportsBy}
use Rattle.tera_base.specs.declared.errors.Error.{Error}
use Rattle.tera_base.proofs.Tellings.{reports_weaker}
use Rattle.tera_lexer.specs.code.Cursors.{Position}
use Rattle.tera_lexer.specs.grammar.Faults.{Faults}
use Rattle.tera_lexer.specs.grammar.Place.{IsWithin}
use Rattle.tera_parser.specs.Refusal.{LosesSource, Refuses}
use Rattle.tera_parser.proofs.Lost.{reading_lost}
use Rattle.tera_lexer.specs.grammar.Marks.{Marks, IsValid}
use Rattle.tera_lexer.specs.grammar.Division.{Piece, Text, Comment, Raw, Tag, Complete}
use Rattle.tera_lexer.specs.grammar.Tokens.{Items, comment_bytes, tokens_of, AreTokensOf}
use Rattle.tera_lexer.proofs.Lefts.{tokens_one}
use Rattle.tera_lexer.specs.grammar.Tiling.{Tile}
use Rattle.tera_lexer.proofs.Tilings.{tokens_tile}
use Rattle.tera_grammar.specs.statements.Lost.{AreLost}
use Rattle.tera_grammar.specs.Limits.{Limits}
use Rattle.tera_grammar.specs.statements.Grammar.{Body}
use Rattle.tera_grammar.specs.statements.Output.{output_of}
use Rattle.tera_grammar.specs.statements.Places.{places}
use Rattle.tera_grammar.specs.statements.Top.{Derives, DerivesNames, IsTemplate}
use Rattle.tera_grammar.proofs.statements.Tops.{template_complete, template_sound}
use Rattle.tera_grammar.proofs.statements.Wholes.{derives_read, read_names}
use Rattle.tera_statements.specs.Items.{AreEmptyTexts}
use Rattle.tera_expect.proofs.NotesLemmas.{each_weaker}
use Rattle.tera_expect.specs.Notes.{AreFirst, IsFirst}
use Rattle.tera_expect.specs.Taking.{RefusesIn}
use Rattle.tera_statements.specs.Templates.{RefusesTemplate}
use Rattle.tera_tree.specs.Tree.{Output}
use Rattle.tera_parser.specs.Notes.{IsAtFirst, NotesFirst, about, error_about}
use Rattle.tera_parser.proofs.About.{notes_about, reports_about}
use Rattle.tera_parser.proofs.FirstLemmas.{first_of_two}
use Rattle.tera_spelling.proofs.Given.{source_given}
use Rattle.tera_parser.specs.Comments.{IsComment, IsCommentsAlone}

module _ (m : Marks) (valid : IsValid m) (source : List ℕ) (items : Items) (are : AreTokensOf m source items) where
  -- the output of a template of the tokens is derived, with its names
  pub derives : (l : Limits) (b : Body) → IsTemplate l items b → (output : Output) → output ≡ output_of b → DerivesNames l m source output (places b)
  derives l b is output same =
      subst (λ o. DerivesNames l m source o (places b)) (sym same) (read_names l m valid source items are b (template_complete l items b is))

  -- a refusal is an allocation failure, where there is a derivation
  pub refused : (l : Limits) (e : Error) → IsMemory e ⊎ ((b : Body) → IsTemplate l items b → ⊥) → (output : Output) → Derives l m source output → IsMemory e
  refused l e why output d =
      let (b, read, same) = derives_read l m valid source items are output d in
      ⊎_elim (λ memory. memory) (λ none. absurd (none b (template_sound l items b read))) why

  -- the faults of these tokens are those of the source
  pub refuses : (l : Limits) (now : Position) → now.left ≡ items → now.source ≡ source → (e : Error) → RefusesTemplate l now e → Refuses m source e
  unfolding RefusesIn
  refuses l now left whole e (new, fails, refusal) =
      reports_weaker (λ text span. IsWithin now.source span × Faults now.left text span)
      (λ text span. IsWithin source span × ((items : Items) × AreTokensOf m source items × Faults items text span)) e
      (λ text span f. (subst (λ s. IsWithin s span) whole f.0, (items, are, subst (λ ts. Faults ts text span) left f.1))) refusal.0

  -- where the reading of these tokens stops, and so far as its error reaches, the source is lost
  pub loses : (l : Limits) (now : Position) → now.left ≡ items → (e : Error) → RefusesTemplate l now e → LosesSource l m source e
  unfolding RefusesIn
  loses l now left e (new, fails, refusal) =
      reports_weaker (λ text span. AreLost l span.range.end items) (λ text span. (others : Items) → AreTokensOf m source others → AreLost l span.range.end others) e
      (λ text span lost others these. subst (λ ts. AreLost l span.range.end ts) (tokens_one m valid source items others are these) lost)
      (subst (λ ts. ReportsBy (λ text span. AreLost l span.range.end ts) e) left
      (reading_lost l source now new e (subst (Tile false [] source) (sym left) (tokens_tile m valid source items are)) fails
      (reports_weaker (λ text span. IsWithin now.source span × Faults now.left text span) (λ text span. span.range.start ≤ span.range.end) e (λ text span f. f.0.0) refusal.0) refusal.1))

  -- the notes on where names of these tokens are defined first
  pub notes_first : (l : Limits) (now : Position) → now.left ≡ items → (e : Error) → RefusesTemplate l now e → NotesFirst m source e
  unfolding RefusesIn
  notes_first l now left e (new, fails, refusal) = λ others these.
      each_weaker (IsFirst others) (IsAtFirst others) (error_view e) (first_of_two others (source_given m source others these))
      (subst (λ ts. AreFirst ts e) (left ∙ tokens_one m valid source items others are these) refusal.2)

  -- the tokens of comments alone are empty texts
  pub comments_tokens : IsCommentsAlone m source → AreEmptyTexts items
  comments_tokens (pieces, division, each) =
      subst AreEmptyTexts (tokens_one m valid source (tokens_of m [] [] pieces Complete) items (pieces, Complete, division, refl) are) (empty [] [] pieces each)
    where
      empty : (front : List ℕ) (left pieces : List Piece) → AllByRecursion IsComment pieces → AreEmptyTexts (tokens_of m front left pieces Complete)
      empty front left [] each = tt
      empty front left (Text text ∷ pieces) each = absurd each.0
      empty front left (Comment dash inside ∷ pieces) each = (refl, empty (front ++ comment_bytes m dash inside) (Comment dash inside ∷ left) pieces each.1)
      empty front left (Raw dash opening body closing ∷ pieces) each = absurd each.0
      empty front left (Tag kind dash is gap end ∷ pieces) each = absurd each.0

-- an error whose notes were made to be about a file refuses what it refused
pub refuses_about : (m : Marks) (source file : List ℕ) (error result : Error) → IsMemory result ⊎ (error_view result ≡ error_about file (error_view error))
    → Refuses m source error → Refuses m source result
refuses_about m source file error result named reported =
    reports_about (λ text span. IsWithin source span × ((items : Items) × AreTokensOf m source items × Faults items text span)) file error result named reported

pub loses_about : (l : Limits) (m : Marks) (source file : List ℕ) (error result : Error) → IsMemory result ⊎ (error_view result ≡ error_about file (error_view error))
    → LosesSource l m source error → LosesSource l m source result
loses_about l m source file error result named lost =
    reports_about (λ text span. (items : Items) → AreTokensOf m source items → AreLost l span.range.end items) file error result named lost

pub first_about : (m : Marks) (source file : List ℕ) (error result : Error) → IsMemory result ⊎ (error_view result ≡ error_about file (error_view error))
    → NotesFirst m source error → NotesFirst m source result
first_about m source file error result named first = λ items are. notes_about (IsAtFirst items) file error result named (same_note items file) (first items are)
  where
    same_note : (items : Items) (file : List ℕ) (span : Span) (n : NoteVal) → IsAtFirst items span n → IsAtFirst items span (about file n)
    same_note items file span (NoteOf label before first) h = h
