-- What a template becomes.
use Rattle.std.proofs.Common.{◌≡◌, ℕ, List, Some, true}
use Rattle.tera_base.specs.ErrorView.{kind_view}
use Rattle.tera_base.specs.Errors.{IsMemory, IsMemoryKind, KindReports}
use Rattle.tera_base.specs.declared.errors.Error.{Error}
use Rattle.tera_base.specs.declared.errors.ErrorKind.{ErrorKind}
use Rattle.tera_base.specs.declared.errors.ErrorKind.TheVariants.{Memory, Message, SyntaxError}
use Rattle.tera_base.specs.declared.utils.Span.{Span}
use Rattle.tera_lexer.specs.grammar.Faults.{Faults}
use Rattle.tera_lexer.specs.grammar.Marks.{Marks, IsValid}
use Rattle.tera_lexer.specs.grammar.Place.{IsWithin}
use Rattle.tera_lexer.specs.grammar.Tokens.{Items, AreTokensOf}
use Rattle.tera_tree.specs.Tree.{Output}
use Rattle.tera_grammar.specs.Limits.{usual}
use Rattle.tera_grammar.specs.statements.Lost.{AreLost}
use Rattle.tera_grammar.specs.statements.Top.{Derives}
use Rattle.tera_layout.specs.Layout.{laid_out}
use Rattle.tera_layout.specs.Steady.{is_steady}
use Rattle.tera_layout.proofs.Layouts.{layout_of, laid_out_is, laid_respaced}
use Rattle.tera_layout.proofs.Respaced.{respaced_alike}
use Rattle.tera_alike.proofs.Derivations.{derived_both, derived_same}
use Rattle.tera_parser.specs.Notes.{EachNote, IsAbout, NotesName}
use Rattle.tera_parser.specs.Refusal.{LosesSource, Refuses}
use Rattle.tera_jobs.specs.Plans.{IsTemplate, AreOneTemplate}

-- a template has a layout
pub has_layout : (m : Marks) → IsValid m → (source : List ℕ) → IsTemplate m source → (other : List ℕ) × (laid_out m source ≡ Some other)
has_layout m valid source (tree, d) =
    let (ps, division, template) = d in
    let (other, laid) = layout_of m ps source division in
    (other, (laid_out_is m valid source other).1 laid)

-- .. which is the same template
pub one_template : (m : Marks) → IsValid m → is_steady m ≡ true → (source other : List ℕ) → laid_out m source ≡ Some other → IsTemplate m source → AreOneTemplate m source other
one_template m valid steady source other is (x, d) =
    let alike = respaced_alike m source other (laid_respaced m valid steady source other ((laid_out_is m valid source other).0 is)) in
    let (y, e) = (derived_both usual m m source other valid valid alike).0 (x, d) in
    (x, y, d, e, derived_same usual m m source other valid valid alike x y d e)

kind_reports : (P : List ℕ → Span → Type 0) (k : ErrorKind) → IsMemoryKind k → KindReports P k
kind_reports P Memory h = tt
kind_reports P (Message s) h = absurd h
kind_reports P (SyntaxError b) h = absurd h

-- an allocation failure is a refusal of any source
pub memory_refuses : (m : Marks) (source : List ℕ) (e : Error) → IsMemory e → Refuses m source e
memory_refuses m source e h =
    kind_reports (λ text span. IsWithin source span × ((items : Items) × AreTokensOf m source items × Faults items text span)) e.kind h

-- .. and loses it
pub memory_loses : (m : Marks) (source : List ℕ) (e : Error) → IsMemory e → LosesSource usual m source e
memory_loses m source e h =
    kind_reports (λ text span. (items : Items) → AreTokensOf m source items → AreLost usual span.range.end items) e.kind h

kind_names : (file : List ℕ) (k : ErrorKind) → IsMemoryKind k → EachNote (λ span n. IsAbout file n) (kind_view k)
kind_names file Memory h = tt
kind_names file (Message s) h = absurd h
kind_names file (SyntaxError b) h = absurd h

-- .. and has no notes
pub memory_names : (file : List ℕ) (e : Error) → IsMemory e → NotesName file e
memory_names file e h = kind_names file e.kind h
