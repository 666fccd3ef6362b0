-- What was read of a text, and one more fault of a chain.
use Rattle.std.proofs.Common.{◌≡◌, ◌++◌, ◌≤◌, ◌<◌, ◌+◌, ℕ, true, false, List, [], ◌∷◌, map, length, length-append, refl, sym, subst, ap, arith, ◌∙◌, string_bytes}
use Rattle.std.specs.Prelude.{◌⊎◌}
use Rattle.std.specs.List.{AllByRecursion}
use Rattle.std.proofs.lemmas.List.{length-map, map-append}
use Rattle.tera_base.specs.declared.errors.Error.{Error}
use Rattle.tera_lexer.specs.grammar.Marks.{default_marks}
use Rattle.tera_tree.specs.Outputs.{output_view}
use Rattle.tera_tree.specs.Tree.{Output}
use Rattle.tera_tree.specs.declared.outputs.ParserOutput.{ParserOutput}
use Rattle.tera_grammar.specs.Limits.{usual}
use Rattle.tera_grammar.specs.statements.Top.{Derives}
use Rattle.tera_tags.specs.declared.names.Names.{Names}
use Rattle.tera_parser.specs.Notes.{NotesName}
use Rattle.tera_grammar.proofs.statements.Wholes.{derived}
use Rattle.tera_mend.specs.Cuts.{IsCut, IsUncut}
use Rattle.tera_mend.specs.Mending.{Edits, Ends, Fails, FailsAlone, FailsAs, Mends}
use Rattle.tera_mend.specs.Readings.{AreOf, IsReadingOf}
use Rattle.tera_mend.specs.Views.{LeadsTo, edit_view, step_of}
use Rattle.tera_mend.specs.declared.mending.Fault as faults
use Rattle.tera_mend.specs.declared.mending.Mended.{Mended}
use Rattle.tera_mend.specs.declared.reading.Reading.{Reading}
use Rattle.tera_mend.specs.declared.reading.Reading.TheVariants.{Tree, Fault}
use Rattle.tera_mend.proofs.Chains.{mends_after, mends_more, template_stays}

-- what was read is a fault of the text
pub failed : (file text shown : List ℕ) (r : Reading) (e : Error) → IsReadingOf file shown r → r ≡ Fault e → shown ≡ text → Fails usual default_marks text e × NotesName file e
failed file text shown r e reading is same =
    let at : Fails usual default_marks shown e × NotesName file e = subst (IsReadingOf file shown) is reading in
    subst (λ t. Fails usual default_marks t e × NotesName file e) same at

-- what was read is the one tree of the text
pub whole : (file text shown : List ℕ) (r : Reading) (o : ParserOutput) (ns : Names) → IsReadingOf file shown r → r ≡ Tree o ns → shown ≡ text
    → (other : Output) → Derives usual default_marks text other → output_view o ≡ other
whole file text shown r o ns reading is same other d =
    let at : IsReadingOf file shown (Tree o ns) = subst (IsReadingOf file shown) is reading in
    at.1 other (subst (λ t. Derives usual default_marks t other) (sym same) d)

no_faults : (fs : List faults.Fault) → map step_of fs ≡ [] → fs ≡ []
no_faults [] none = refl
no_faults (f ∷ fs) none = cc

-- of a template there are no faults, and what is reached is the template
pub stays : (file source text : List ℕ) (fs : List faults.Fault) (output : Output) → Derives usual default_marks source output → LeadsTo file source fs text
    → (fs ≡ []) × Derives usual default_marks text output
stays file source text fs output d leads =
    let (none, same) = template_stays usual default_marks (map step_of fs) source text output d leads.mends in
    (no_faults fs none, subst (λ t. Derives usual default_marks t output) same d)

all_more : (file : List ℕ) (fs : List faults.Fault) (f : faults.Fault) → AllByRecursion (λ (g : faults.Fault). NotesName file g.error) fs → NotesName file f.error
    → AllByRecursion (λ (g : faults.Fault). NotesName file g.error) (fs ++ f ∷ [])
all_more file [] f all named = (named, tt)
all_more file (g ∷ gs) f all named = (all.0, all_more file gs f all.1 named)

mapped : (fs gs : List faults.Fault) (f : faults.Fault) → gs ≡ fs ++ f ∷ [] → map step_of gs ≡ map step_of fs ++ step_of f ∷ []
mapped fs gs f is = ap (map step_of) is ∙ map-append step_of fs (f ∷ [])

pub one_at_least : (fs gs : List faults.Fault) (f : faults.Fault) → gs ≡ fs ++ f ∷ [] → 0 < length gs
one_at_least fs gs f is = omega (arith, simp length-append at (ap length is))

-- one more fault of the text
pub more : (file source text next : List ℕ) (fs gs : List faults.Fault) (f : faults.Fault) → LeadsTo file source fs text → gs ≡ fs ++ f ∷ [] → f.alone ≡ false
    → Fails usual default_marks text f.error → NotesName file f.error → Edits (map edit_view f.edits.items) text next → LeadsTo file source gs next
more file source text next fs gs f leads is kind fails named edits = record {
  mends = subst (λ ss. Mends usual default_marks source ss next) (sym (mapped fs gs f is))
      (mends_more usual default_marks (map step_of fs) (step_of f) source text next leads.mends kind (subst (λ b. FailsAs usual default_marks b text f.error) (sym kind) fails) edits);
  notes = subst (AllByRecursion (λ (g : faults.Fault). NotesName file g.error)) (sym is) (all_more file fs f leads.notes named);
}

-- one more fault, of a tag that is read alone
pub more_alone : (file source text next : List ℕ) (fs gs : List faults.Fault) (f : faults.Fault) → LeadsTo file source fs text → gs ≡ fs ++ f ∷ [] → 0 < length fs → f.alone ≡ true
    → FailsAlone usual default_marks text f.error → NotesName file f.error → Edits (map edit_view f.edits.items) text next → LeadsTo file source gs next
more_alone file source text next fs gs f leads is some kind fails named edits = record {
  mends = subst (λ ss. Mends usual default_marks source ss next) (sym (mapped fs gs f is))
      (mends_after usual default_marks (map step_of fs) (step_of f) source text next leads.mends (rw length-map some)
      (subst (λ b. FailsAs usual default_marks b text f.error) (sym kind) fails) edits);
  notes = subst (AllByRecursion (λ (g : faults.Fault). NotesName file g.error)) (sym is) (all_more file fs f leads.notes named);
}

-- What is promised of an answer.
pub record Holds (file source : List ℕ) (most : ℕ) (o : Mended) : Type 0 where
  pub mends : (reached : List ℕ) × Mends usual default_marks source (map step_of o.faults.items) reached × Ends usual default_marks o.cut (map edit_view o.rest.items) reached (string_bytes o.text)
  pub tree : AreOf (string_bytes o.text) o.output o.names
  pub clean : (output : Output) → Derives usual default_marks source output → (o.cut ≡ false) × (o.faults.items ≡ []) × (output_view o.output ≡ output)
  pub notes : AllByRecursion (λ (g : faults.Fault). NotesName file g.error) o.faults.items
  pub bound : length o.faults.items ≤ most

-- where nothing is cut and there is no fault, the source is a template with this tree
pub faultless : (file source : List ℕ) (most : ℕ) (o : Mended) → Holds file source most o → o.cut ≡ false → o.faults.items ≡ [] → Derives usual default_marks source (output_view o.output)
faultless file source most o holds whole none =
    let (reached, chain, ends) = holds.mends in
    let same : source ≡ reached = (subst (λ fs. Mends usual default_marks source (map step_of fs) reached) none chain).1 in
    let last : string_bytes o.text ≡ reached = (subst (λ b. Ends usual default_marks b (map edit_view o.rest.items) reached (string_bytes o.text)) whole ends).1 in
    let (names, derives, are) = holds.tree in
    subst (λ t. Derives usual default_marks t (output_view o.output)) (last ∙ sym same) (derived usual default_marks (string_bytes o.text) (output_view o.output) names derives)

tree_read : (file text shown : List ℕ) (r : Reading) (tree : ParserOutput) (ns : Names) → IsReadingOf file shown r → r ≡ Tree tree ns → shown ≡ text → AreOf text tree ns
tree_read file text shown r tree ns reading is same =
    let at : IsReadingOf file shown (Tree tree ns) = subst (IsReadingOf file shown) is reading in
    subst (λ t. AreOf t tree ns) same at.0

-- these faults are all
pub uncut_holds : (file source text shown : List ℕ) (most : ℕ) (fs : List faults.Fault) (r : Reading) (tree : ParserOutput) (ns : Names) (o : Mended) → LeadsTo file source fs text → length fs ≤ most
    → IsReadingOf file shown r → r ≡ Tree tree ns → shown ≡ text → IsUncut text fs tree ns o → Holds file source most o
uncut_holds file source text shown most fs r tree ns o leads few reading is same uncut = record {
  mends = (
    text,
    subst (λ gs. Mends usual default_marks source (map step_of gs) text) (sym uncut.faults) leads.mends,
    subst (λ b. Ends usual default_marks b (map edit_view o.rest.items) text (string_bytes o.text)) (sym uncut.cut) (ap (map edit_view) uncut.rest, uncut.text),
  );
  tree = subst (λ t. AreOf t o.output o.names) (sym uncut.text) (subst (λ n. AreOf text o.output n) (sym uncut.names)
      (subst (λ x. AreOf text x ns) (sym uncut.output) (tree_read file text shown r tree ns reading is same)));
  clean = λ output d.
      let (none, there) = stays file source text fs output d leads in
      (uncut.cut, uncut.faults ∙ none, ap output_view uncut.output ∙ whole file text shown r tree ns reading is same output there);
  notes = subst (AllByRecursion (λ (g : faults.Fault). NotesName file g.error)) (sym uncut.faults) leads.notes;
  bound = subst (λ (gs : List faults.Fault). length gs ≤ most) (sym uncut.faults) few;
}

-- these are not all faults
pub cut_holds : (file source text shown : List ℕ) (most : ℕ) (fs gs : List faults.Fault) (e : Error) (o : Mended) → LeadsTo file source fs text → length fs ≤ most → gs ≡ fs
    → Fails usual default_marks text e → shown ≡ text → IsCut shown gs o → Holds file source most o
cut_holds file source text shown most fs gs e o leads few stay fails same cut =
    let here : o.faults.items ≡ fs = cut.faults ∙ stay in record {
      mends = (
        text,
        subst (λ hs. Mends usual default_marks source (map step_of hs) text) (sym here) leads.mends,
        subst (λ b. Ends usual default_marks b (map edit_view o.rest.items) text (string_bytes o.text)) (sym cut.cut)
            (fails.0, subst (λ t. Edits (map edit_view o.rest.items) t (string_bytes o.text) ⊎ (string_bytes o.text ≡ [])) same cut.left),
      );
      tree = cut.tree;
      clean = λ output d. let (none, there) = stays file source text fs output d leads in absurd (fails.0 output there);
      notes = subst (AllByRecursion (λ (g : faults.Fault). NotesName file g.error)) (sym here) leads.notes;
      bound = subst (λ (hs : List faults.Fault). length hs ≤ most) (sym here) few;
    }
