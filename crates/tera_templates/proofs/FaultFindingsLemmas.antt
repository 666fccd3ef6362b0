-- The findings of faults, in whatever order.
use Rattle.std.proofs.Common.{◌≡◌, ◌∙◌, ◌+◌, ◌-◌, ◌<◌, ◌≤◌, ℕ, zero, suc, List, [], ◌∷◌, ◌++◌, Option, length, take, drop, set, get_or, map, string_bytes, refl, sym, ap, subst, arith}
use Rattle.std.specs.List.{All, swap}
use Rattle.std.specs.List.Sorted.{IsPermutation}
use Rattle.std.proofs.lemmas.List.{map-append, map_more, take-append-drop, take_all, take_more}
use Rattle.std.proofs.lemmas.List.Elements.{All-push}
use Rattle.std.proofs.lemmas.List.Sorted.{IsPermutation-keeps, IsPermutation-refl, IsPermutation-swap, IsPermutation-sym, IsPermutation-trans}
use Rattle.tera_base.specs.ErrorView.{error_view}
use Rattle.tera_base.specs.declared.utils.Span.{Span}
use Rattle.tera_lexer.specs.grammar.Place.{joined, place_after, span_of}
use Rattle.tera_mend.specs.declared.mending.Fault.{Fault}
use Rattle.tera_findings.specs.Findings.{FoundAs, FindingVal, NoteVal, finding_view, hint_notes}
use Rattle.tera_templates.specs.FaultFindings.{AreOfEach, IsAt, IsOfFaultBy, IsPartOf, IsWordOf, walk_view}
use Rattle.tera_templates.specs.declared.causes.Cause.{Cause}
use Rattle.tera_templates.specs.declared.fault_findings.Met.{Met}
use Rattle.tera_findings.specs.declared.finding.Finding.{Finding}
use Rattle.tera_findings.specs.declared.finding.Kind.{Kind}
use Rattle.tera_findings.specs.declared.finding.Severity.{Severity}
use Rattle.tera_templates.specs.declared.walk.Walk.{Walk}
use Rattle.tera_templates.proofs.WalkLemmas.{parts}

-- ---- the word of a cause

pub span_of_word : (source : List ℕ) (c : Cause) (w e : Walk) (end : ℕ) → IsAt source w → w.byte ≡ c.start → IsWordOf source c → end ≡ c.start + length c.word.now
    → IsAt source e × (e.byte ≡ end) → joined (walk_view w) (walk_view e) ≡ span_of (take c.start source) c.word.now
span_of_word source c w e end here same word far (there, last) =
    let len : length c.word.now ≡ end - c.start = omega (arith, far) in
    let text : take c.start source ++ c.word.now ≡ take end source =
    ap (λ t. take c.start source ++ t) (sym word.is ∙ ap (λ n. take n (drop c.start source)) len) ∙ parts source c.start end (omega (arith, far)) in
    let one : walk_view w ≡ place_after (take c.start source) = here ∙ ap (λ n. place_after (take n source)) same in
    let other : walk_view e ≡ place_after (take c.start source ++ c.word.now) = there ∙ ap (λ n. place_after (take n source)) last ∙ ap place_after (sym text) in
    λ i. joined (one i) (other i)

pub part_of_word : (source : List ℕ) (c : Cause) (place : Span) → IsWordOf source c → place ≡ span_of (take c.start source) c.word.now → IsPartOf source place c.word.now
part_of_word source c place word is = record {
  before = take c.start source;
  after = drop (length c.word.now) (drop c.start source);
  is = sym (take-append-drop c.start source)
      ∙ ap (λ t. take c.start source ++ t) (sym (take-append-drop (length c.word.now) (drop c.start source)) ∙ ap (λ t. t ++ drop (length c.word.now) (drop c.start source)) word.is);
  at = is;
}

-- ---- a finding with its cause

pub noted : (file : List ℕ) (kind : Kind) (severity : Severity) (text : List ℕ) (span other : Span) (old one two new causes : List NoteVal) (hint more all : Option (List ℕ)) → span ≡ other
    → one ≡ old ++ hint_notes file span hint → two ≡ one ++ causes → new ≡ two ++ hint_notes file span more → more ≡ all
    → FoundAs kind severity span text new ≡ FoundAs kind severity other text (((old ++ hint_notes file other hint) ++ causes) ++ hint_notes file other all)
noted file kind severity text span other old one two new causes hint more all same first second third last =
    let notes : new ≡ ((old ++ hint_notes file span hint) ++ causes) ++ hint_notes file span more =
    third ∙ ap (λ ns. ns ++ hint_notes file span more) (second ∙ ap (λ ns. ns ++ causes) first) in
    ap (λ ns. FoundAs kind severity span text ns) notes ∙ (λ i. FoundAs kind severity (same i) text (((old ++ hint_notes file (same i) hint) ++ causes) ++ hint_notes file (same i) (last i)))

-- ---- one more fault that was met

pub met_more : (P : Met → Type 0) (all new : List Met) (m : Met) (faults : List Fault) (i : ℕ) (d : Fault) → All P all → map (λ m. m.fault.now) all ≡ take i faults → new ≡ all ++ m ∷ [] → P m
    → i < length faults → m.fault.now ≡ get_or faults i d → All P new × (map (λ m. m.fault.now) new ≡ take (i + 1) faults)
met_more P all new m faults i d words same pushed word below here =
    let faults_of : map (λ m. m.fault.now) (all ++ m ∷ []) ≡ map (λ m. m.fault.now) all ++ (m.fault.now ∷ []) = map-append (λ m. m.fault.now) all (m ∷ []) in
    let next : take (i + 1) faults ≡ take i faults ++ (get_or faults i d ∷ []) = take_more faults i d below in (
      subst (All P) (sym pushed) (All-push P all m words word),
      ap (map (λ m. m.fault.now)) pushed ∙ faults_of ∙ ap (λ fs. fs ++ (m.fault.now ∷ [])) same ∙ ap (λ f. take i faults ++ (f ∷ [])) here ∙ sym next,
    )

-- ---- a finding of each fault

module _ (file source : List ℕ) where
  abbrev pub Is : Fault → FindingVal → Type 0
  Is e f = IsOfFaultBy file source (error_view e.error) f

  abbrev pub Are : List Fault → List FindingVal → Type 0
  Are es fs = AreOfEach file source es fs

  pub as_many : (es : List Fault) (fs : List FindingVal) → Are es fs → length es ≡ length fs
  as_many [] [] are = refl
  as_many [] (f ∷ fs) are = absurd are
  as_many (e ∷ es) [] are = absurd are
  as_many (e ∷ es) (f ∷ fs) are = ap suc (as_many es fs are.1)

  pub one_more : (es : List Fault) (fs : List FindingVal) (e : Fault) (f : FindingVal) → Are es fs → Is e f → Are (es ++ e ∷ []) (fs ++ f ∷ [])
  one_more [] [] e f are is = (is, tt)
  one_more [] (g ∷ fs) e f are is = absurd are
  one_more (d ∷ es) [] e f are is = absurd are
  one_more (d ∷ es) (g ∷ fs) e f are is = (are.0, one_more es fs e f are.1 is)

  one_at : (es : List Fault) (fs : List FindingVal) (i : ℕ) (d : Fault) (g : FindingVal) → i < length es → Are es fs → Is (get_or es i d) (get_or fs i g)
  one_at [] [] i d g below are = absurd (omega arith)
  one_at [] (f ∷ fs) i d g below are = absurd are
  one_at (e ∷ es) [] i d g below are = absurd are
  one_at (e ∷ es) (f ∷ fs) zero d g below are = are.0
  one_at (e ∷ es) (f ∷ fs) (suc i) d g below are = one_at es fs i d g (omega arith) are.1

  one_set : (es : List Fault) (fs : List FindingVal) (i : ℕ) (e : Fault) (f : FindingVal) → Are es fs → Is e f → Are (set es i e) (set fs i f)
  one_set [] [] i e f are is = tt
  one_set [] (g ∷ fs) i e f are is = absurd are
  one_set (d ∷ es) [] i e f are is = absurd are
  one_set (d ∷ es) (g ∷ fs) zero e f are is = (is, are.1)
  one_set (d ∷ es) (g ∷ fs) (suc i) e f are is = (are.0, one_set es fs i e f are.1 is)

  swapped : (es : List Fault) (fs : List FindingVal) (i j : ℕ) → i < length es → j < length es → Are es fs → Are (swap es i j) (swap fs i j)
  swapped [] [] i j one other are = tt
  swapped [] (g ∷ fs) i j one other are = absurd are
  swapped (d ∷ es) [] i j one other are = absurd are
  swapped (d ∷ es) (g ∷ fs) i j one other are =
      one_set _ _ j _ _ (one_set (d ∷ es) (g ∷ fs) i _ _ are (one_at (d ∷ es) (g ∷ fs) j d g other are)) (one_at (d ∷ es) (g ∷ fs) i d g one are)

  -- a finding of each of these faults, and all these findings are of those
  abbrev pub Have : List FindingVal → List Fault → Type 0
  Have all es = (fs : List FindingVal) × Are es fs × IsPermutation fs all

  exchanged : (all : List FindingVal) (es : List Fault) (i j : ℕ) → i < length es → j < length es → Have all es → Have all (swap es i j)
  exchanged all es i j one other (fs, are, same) =
      let many : length es ≡ length fs = as_many es fs are in
      let back : IsPermutation (swap fs i j) fs = IsPermutation-sym fs (swap fs i j) (IsPermutation-swap fs (swap fs i j) i j (omega arith) (omega arith) refl) in
      (swap fs i j, swapped es fs i j one other are, IsPermutation-trans (swap fs i j) fs all back same)

  -- the findings of faults in one order are those of the faults in another
  pub any_order : (faults es : List Fault) (fs : List FindingVal) → IsPermutation faults es → Are es fs → (each : List FindingVal) × Are faults each × IsPermutation each fs
  any_order faults es fs moved are =
      IsPermutation-keeps es (Have fs) (fs, are, IsPermutation-refl fs) (λ l i j one other have. exchanged fs l i j one other have) faults (IsPermutation-sym faults es moved)

  -- one more fault has its finding
  pub each_more : (all : List Met) (i : ℕ) (m : Met) (old new : List Finding) (f : Finding) → i < length all → get_or all i m ≡ m
      → Are (map (λ m. m.fault.now) (take i all)) (map finding_view old) → Is m.fault.now (finding_view f) → new ≡ old ++ f ∷ []
      → Are (map (λ m. m.fault.now) (take (i + 1) all)) (map finding_view new)
  each_more all i m old new f below here are is pushed =
      let faults : map (λ m. m.fault.now) (take (i + 1) all) ≡ map (λ m. m.fault.now) (take i all) ++ (m.fault.now ∷ []) =
      map_more (λ m. m.fault.now) all i m below ∙ ap (λ (n : Met). map (λ m. m.fault.now) (take i all) ++ (n.fault.now ∷ [])) here in
      let found : map finding_view new ≡ map finding_view old ++ (finding_view f ∷ []) = ap (map finding_view) pushed ∙ map-append finding_view old (f ∷ []) in
      subst (λ es. Are es (map finding_view new)) (sym faults)
      (subst (λ fs. Are (map (λ m. m.fault.now) (take i all) ++ (m.fault.now ∷ [])) fs) (sym found) (one_more _ _ _ _ are is))

  pub all_met : (all : List Met) (i : ℕ) (fs : List FindingVal) → length all ≤ i → Are (map (λ m. m.fault.now) (take i all)) fs → Are (map (λ m. m.fault.now) all) fs
  all_met all i fs most are = subst (λ ms. Are (map (λ m. m.fault.now) ms) fs) (take_all i all most) are

-- the findings of all faults, which were met in the order of their causes
pub faults_in_order : (file source text : List ℕ) (faults slice : List Fault) (all items : List Met) (fs : List FindingVal) → text ≡ source → slice ≡ faults → items ≡ all
    → All (λ m. IsWordOf text m.cause) all → IsPermutation slice (map (λ m. m.fault.now) all)
    → (All (λ m. IsWordOf text m.cause) items → AreOfEach file text (map (λ m. m.fault.now) items) fs)
    → (each : List FindingVal) × AreOfEach file source faults each × IsPermutation each fs
faults_in_order file source text faults slice all items fs same whole one words moved each =
    let are : AreOfEach file text (map (λ m. m.fault.now) all) fs =
    subst (λ ms. AreOfEach file text (map (λ m. m.fault.now) ms) fs) one (each (subst (All (λ m. IsWordOf text m.cause)) (sym one) words)) in
    any_order file source faults (map (λ m. m.fault.now) all) fs (subst (λ es. IsPermutation es (map (λ m. m.fault.now) all)) whole moved)
    (subst (λ t. AreOfEach file t (map (λ m. m.fault.now) all) fs) same are)
