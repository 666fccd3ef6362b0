-- The spans of names that a template defines, and those of the names of its components.
use Rattle.std.proofs.Common.{◌≡◌, ◌≢◌, ℕ, List, [], ◌∷◌, map, Some, refl, sym, ap, subst, ◌∙◌}
use Rattle.std.specs.List.{AllByRecursion}
use Rattle.std.proofs.lemmas.Simd.{map-map}
use Rattle.std.proofs.lemmas.Slice.Eq.{bytes_eq-Decides}
use Rattle.tera_base.specs.declared.utils.Span.{Span}
use Rattle.tera_lexer.specs.grammar.Marks.{Marks}
use Rattle.tera_grammar.proofs.Options.{bytes_apart}
use Rattle.tera_grammar.proofs.statements.Trees.{template_right}
use Rattle.tera_grammar.proofs.statements.Wholes.{names_reported}
use Rattle.tera_grammar.specs.Limits.{Limits}
use Rattle.tera_grammar.specs.Words.{AreDistinct}
use Rattle.tera_grammar.specs.expressions.Concrete.{Name}
use Rattle.tera_grammar.specs.statements.Places.{Places, texts}
use Rattle.tera_grammar.specs.statements.Reading.Meeting.{Located, Seen, locate, locate_all, nothing_located}
use Rattle.tera_grammar.specs.statements.Top.{DerivesNames}
use Rattle.tera_grammar.specs.statements.Trees.{IsRight}
use Rattle.tera_tags.specs.Known.{AreNames, located_of}
use Rattle.tera_tags.specs.declared.names.Names.{Names}
use Rattle.tera_tree.specs.Tree.{Output}
use Rattle.tera_findings.specs.Findings.{span_if_any}

-- a name that is none of these is where it was
untouched : (text : List ℕ) (ns : List Name) (f : Located) → AllByRecursion (λ t. text ≢ t) (texts ns) → locate_all ns f text ≡ f text
untouched text [] f apart = refl
untouched text (n ∷ ns) f apart =
    untouched text ns (locate n f) apart.1 ∙ rw (bytes_apart n.text text (λ same. apart.0 (sym same))) refl

-- each of distinct names is met where it is
spans_met : (ns : List Name) (f : Located) → AreDistinct (texts ns) → map (λ t. span_if_any (locate_all ns f t)) (texts ns) ≡ map (λ n. n.span) ns
spans_met [] f distinct = refl
spans_met (n ∷ ns) f distinct =
    let there : locate_all ns (locate n f) n.text ≡ Some n.span =
    untouched n.text ns (locate n f) distinct.0 ∙ rw ((bytes_eq-Decides n.text n.text).1 refl) refl in
    λ i. span_if_any (there i) ∷ spans_met ns (locate n f) distinct.1 i

-- so the spans of the definitions, by their names, are those of the names
pub spans_are : (l : Limits) (m : Marks) (source : List ℕ) (output : Output) (ns : Places) (names : Names) → DerivesNames l m source output ns → AreNames names ns
    → map (λ d. span_if_any (located_of names.components d.name)) output.definitions ≡ map (λ n. n.span) ns.components
spans_are l m source output ns names d are =
    let remarked = (names_reported l m source output ns d).1 in
    let right : IsRight output = subst IsRight (sym d.2.2) (template_right l _ d.2.0 d.2.1) in
    let distinct : AreDistinct (texts ns.components) = subst AreDistinct (sym remarked) right.component_names in
    let by : Located → List ℕ → Span = λ f t. span_if_any (f t) in
    sym (map-map (by (located_of names.components)) (λ d. d.name) output.definitions)
    ∙ ap (map (by (located_of names.components))) (sym remarked)
    ∙ ap (λ (s : Seen). map (by s.components) (texts ns.components)) are
    ∙ spans_met ns.components nothing_located distinct
