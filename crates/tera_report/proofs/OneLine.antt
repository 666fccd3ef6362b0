-- An annotation is one line.
use Rattle.std.proofs.Common.{◌≡◌, ◌≢◌, ℕ, ◌<◌, ◌^◌, suc, inl, inr, Bool, true, false, not, eqb, cond, List, [], ◌∷◌, ◌++◌, length, get_or, codes, chars, decimal, encode_utf8, refl, sym, ◌∙◌, arith}
use Rattle.std.proofs.lemmas.Bool.{eqb-false, and_parts}
use Rattle.std.proofs.lemmas.Bool.Decides.{eqb_tells, nat_tests}
use Rattle.std.proofs.lemmas.Fmt.{decimal_is_IsNumeral}
use Rattle.std.proofs.lemmas.List.{append_assoc, append-nil}
use Rattle.std.proofs.lemmas.Str.{inside_one}
use Rattle.std.specs.Char.{digit_value}
use Rattle.std.specs.List.{flat_map, list_all, AllByRecursion}
use Rattle.std.specs.Str.Parse.{AllDigits}
use Rattle.line_text.specs.Line.{on_one_line}
use Rattle.tera_base.specs.declared.utils.Span.{Span}
use Rattle.tera_findings.specs.declared.finding.Kind.{Kind}
use Rattle.tera_findings.specs.declared.finding.Kind.TheVariants as kinds
use Rattle.tera_findings.specs.declared.finding.Severity.{Severity}
use Rattle.tera_findings.specs.declared.finding.Severity.TheVariants.{Error, Warning}
use Rattle.tera_findings.specs.Findings.{NoteVal, FoundAs, kind_name}
use Rattle.tera_report.specs.Annotations.{command_of, escaped_character, property_character, escaped, property, column_of, span_text, annotation, IsOneLine}

abbrev Lacks : List ℕ → Type 0
Lacks bs = AllByRecursion (λ b. b ≢ 10) bs

joined : (a b : List ℕ) → Lacks a → Lacks b → Lacks (a ++ b)
joined [] b h k = k
joined (x ∷ a) b h k = (h.0, joined a b h.1 k)

literal : (bs : List ℕ) → list_all (λ b. not (eqb b 10)) bs ≡ true → Lacks bs
literal [] e = tt
literal (b ∷ bs) e =
    let parts = and_parts (not (eqb b 10)) (list_all (λ x. not (eqb x 10)) bs) e in
    (other b parts.0, literal bs parts.1)
  where
    other : (x : ℕ) → not (eqb x 10) ≡ true → x ≢ 10
    other x h is = elim (eqb_tells x 10) [ inl w ↦ cc | inr w ↦ w.1 is ]

by_place : (bs : List ℕ) → ((k : ℕ) → k < length bs → get_or bs k 0 ≢ 10) → Lacks bs
by_place [] h = tt
by_place (b ∷ bs) h = (h 0 (omega arith), by_place bs (λ k p. h (suc k) (omega arith)))

encoded : (c : ℕ) → c ≢ 10 → Lacks (encode_utf8 c)
encoded c other =
    by_place (encode_utf8 c) (λ k p is. other (inside_one c [] (encode_utf8 c) k (sym (append-nil _)) p (omega arith) ∙ is))

chosen : (t : Bool) (a b : List ℕ) → Lacks a → (t ≡ false → Lacks b) → Lacks (cond t a b)
chosen true a b h k = h
chosen false a b h k = k refl

escaped_lacks : (c : ℕ) → Lacks (escaped_character c)
escaped_lacks c =
    chosen (eqb c 37) (codes "%25") _ (literal (codes "%25") refl) (λ a.
    chosen (eqb c 13) (codes "%0D") _ (literal (codes "%0D") refl) (λ b.
    chosen (eqb c 10) (codes "%0A") (encode_utf8 c) (literal (codes "%0A") refl) (λ d. encoded c (eqb-false c 10 d))))

property_lacks : (c : ℕ) → Lacks (property_character c)
property_lacks c =
    chosen (eqb c 58) (codes "%3A") _ (literal (codes "%3A") refl) (λ a.
    chosen (eqb c 44) (codes "%2C") (escaped_character c) (literal (codes "%2C") refl) (λ b. escaped_lacks c))

each : (f : ℕ → List ℕ) → ((c : ℕ) → Lacks (f c)) → (cs : List ℕ) → Lacks (flat_map f cs)
each f h [] = tt
each f h (c ∷ cs) = joined (f c) (flat_map f cs) (h c) (each f h cs)

digit : (c : ℕ) → digit_value c < 10 → c ≢ 10
digit c is e = grind (arith, nat_tests)

digits : (ds : List ℕ) → AllDigits 10 ds → Lacks ds
digits [] is = tt
digits (c ∷ cs) is = (digit c is.0, digits cs is.1)

number : (n : ℕ) → n < 2 ^ 64 → Lacks (decimal n)
number n fits = digits (decimal n) (decimal_is_IsNumeral n fits).0.1

named : (kind : Kind) → Lacks (kind_name kind)
named kinds.Fault = literal (kind_name kinds.Fault) refl
named kinds.UndefinedComponent = literal (kind_name kinds.UndefinedComponent) refl
named kinds.MissingArgument = literal (kind_name kinds.MissingArgument) refl
named kinds.UnknownArgument = literal (kind_name kinds.UnknownArgument) refl
named kinds.WrongType = literal (kind_name kinds.WrongType) refl
named kinds.RepeatedArgument = literal (kind_name kinds.RepeatedArgument) refl
named kinds.UnusedBody = literal (kind_name kinds.UnusedBody) refl
named kinds.UnusedParameter = literal (kind_name kinds.UnusedParameter) refl
named kinds.UnusedComponent = literal (kind_name kinds.UnusedComponent) refl
named kinds.DefinedAgain = literal (kind_name kinds.DefinedAgain) refl
named kinds.RepeatedKey = literal (kind_name kinds.RepeatedKey) refl
named kinds.RepeatedCondition = literal (kind_name kinds.RepeatedCondition) refl
named kinds.UnusedIgnore = literal (kind_name kinds.UnusedIgnore) refl
named kinds.MissingTemplate = literal (kind_name kinds.MissingTemplate) refl
named kinds.CircularExtends = literal (kind_name kinds.CircularExtends) refl
named kinds.CircularInclude = literal (kind_name kinds.CircularInclude) refl
named kinds.UndefinedBlock = literal (kind_name kinds.UndefinedBlock) refl
named kinds.SuperWithoutParent = literal (kind_name kinds.SuperWithoutParent) refl
named kinds.UnknownFilter = literal (kind_name kinds.UnknownFilter) refl
named kinds.UnknownTest = literal (kind_name kinds.UnknownTest) refl
named kinds.UnknownFunction = literal (kind_name kinds.UnknownFunction) refl

commanded : (severity : Severity) → Lacks (command_of severity)
commanded Error = literal (command_of Error) refl
commanded Warning = literal (command_of Warning) refl

placed : (s : Span) → s.start_line < 2 ^ 64 → s.end_line < 2 ^ 64 → Lacks (span_text s)
placed s start end =
    joined (codes ",line=") _ (literal (codes ",line=") refl)
    (joined (decimal s.start_line) _ (number s.start_line start)
    (joined (codes ",col=") _ (literal (codes ",col=") refl)
    (joined (decimal (column_of s.start_col)) _ (number (column_of s.start_col) (omega arith))
    (joined (codes ",endLine=") _ (literal (codes ",endLine=") refl)
    (joined (decimal s.end_line) _ (number s.end_line end)
    (joined (codes ",endColumn=") _ (literal (codes ",endColumn=") refl) (number (column_of s.end_col) (omega arith))))))))

-- texts in a row, of which the last is the end
ends : (a b c d e f g h : List ℕ) → a ++ (b ++ (c ++ (d ++ (e ++ (f ++ (g ++ h)))))) ≡ (a ++ (b ++ (c ++ (d ++ (e ++ (f ++ g)))))) ++ h
ends a b c d e f g h = simp append_assoc

pub one_line : (file : List ℕ) (kind : Kind) (severity : Severity) (s : Span) (text : List ℕ) (notes : List NoteVal) → s.start_line < 2 ^ 64 → s.end_line < 2 ^ 64 → IsOneLine (annotation file (FoundAs kind severity s text notes))
unfolding annotation
one_line file kind severity s text notes start end =
    let line = command_of severity ++ (property file ++ (span_text s ++ (codes ",title=" ++ (kind_name kind ++ (codes "::" ++ escaped (on_one_line text)))))) in (
      line,
      ends (command_of severity) (property file) (span_text s) (codes ",title=") (kind_name kind) (codes "::") (escaped (on_one_line text)) (codes "\n"),
      joined (command_of severity) _ (commanded severity)
          (joined (property file) _ (each property_character property_lacks (chars file))
          (joined (span_text s) _ (placed s start end)
          (joined (codes ",title=") _ (literal (codes ",title=") refl)
          (joined (kind_name kind) _ (named kind)
          (joined (codes "::") _ (literal (codes "::") refl) (each escaped_character escaped_lacks (chars (on_one_line text)))))))),
    )
