-- Chains of faults and edits.
use Rattle.std.proofs.Common.{◌≡◌, ◌++◌, ◌<◌, ℕ, false, List, [], ◌∷◌, length, arith, refl, sym, subst}
use Rattle.tera_lexer.specs.grammar.Marks.{Marks}
use Rattle.tera_tree.specs.Tree.{Output}
use Rattle.tera_grammar.specs.Limits.{Limits}
use Rattle.tera_grammar.specs.statements.Top.{Derives}
use Rattle.tera_mend.specs.Mending.{Edits, FailsAs, FirstIsOfAll, Goes, Step, Mends}

goes_more : (l : Limits) (m : Marks) (ss : List Step) (s : Step) (source text new : List ℕ) → Goes l m source ss text → FailsAs l m s.alone text s.error → Edits s.edits text new
    → Goes l m source (ss ++ s ∷ []) new
goes_more l m [] s source text new is fails edits =
    (subst (λ t. FailsAs l m s.alone t s.error) (sym is) fails, (new, subst (λ t. Edits s.edits t new) (sym is) edits, refl))
goes_more l m (r ∷ rs) s source text new (failed, (next, first, rest)) fails edits =
    (failed, (next, first, goes_more l m rs s next text new rest fails edits))

first_whole : (ss : List Step) (s : Step) → FirstIsOfAll ss → s.alone ≡ false → FirstIsOfAll (ss ++ s ∷ [])
first_whole [] s first is = is
first_whole (r ∷ rs) s first is = first

first_alone : (ss : List Step) (s : Step) → FirstIsOfAll ss → 0 < length ss → FirstIsOfAll (ss ++ s ∷ [])
first_alone [] s first some = absurd (omega (arith, some))
first_alone (r ∷ rs) s first some = first

-- one more fault of the whole text
pub mends_more : (l : Limits) (m : Marks) (ss : List Step) (s : Step) (source text new : List ℕ) → Mends l m source ss text → s.alone ≡ false → FailsAs l m s.alone text s.error
    → Edits s.edits text new → Mends l m source (ss ++ s ∷ []) new
mends_more l m ss s source text new mends is fails edits = (first_whole ss s mends.0 is, goes_more l m ss s source text new mends.1 fails edits)

-- one more fault, which is not the first
pub mends_after : (l : Limits) (m : Marks) (ss : List Step) (s : Step) (source text new : List ℕ) → Mends l m source ss text → 0 < length ss → FailsAs l m s.alone text s.error
    → Edits s.edits text new → Mends l m source (ss ++ s ∷ []) new
mends_after l m ss s source text new mends some fails edits = (first_alone ss s mends.0 some, goes_more l m ss s source text new mends.1 fails edits)

-- a template is not mended
pub template_stays : (l : Limits) (m : Marks) (ss : List Step) (source text : List ℕ) (output : Output) → Derives l m source output → Mends l m source ss text
    → (ss ≡ []) × (source ≡ text)
template_stays l m [] source text output d mends = (refl, mends.1)
template_stays l m (s ∷ ss) source text output d mends =
    let fails : FailsAs l m false source s.error = subst (λ b. FailsAs l m b source s.error) mends.0 mends.1.0 in
    absurd (fails.0 output d)
