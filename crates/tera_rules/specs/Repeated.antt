-- Values that do not count, as their key comes again: in the arguments of a call, and in a map.
use Rattle.std.specs.Prelude.{ℕ, ℤ, List, [], ◌∷◌, ◌++◌, true, false, cond, Option, None, Some, codes}
use Rattle.std.specs.BTreeMap.{BTreeMap, get_by}
use Rattle.std.specs.Borrow.{Bor}
use Rattle.std.specs.Cmp.Lexicographic.{slice_cmp}
use Rattle.std.specs.Option.{option_map}
use Rattle.std.specs.Ordering.{int_cmp, nat_cmp}
use Rattle.tera_base.specs.Same.{key_eq}
use Rattle.tera_base.specs.Text.{key_text}
use Rattle.tera_base.specs.Values.{KeyVal, TextKey, I64Key, TruthKey}
use Rattle.tera_base.specs.ValueView.{key_view}
use Rattle.tera_base.specs.declared.utils.Span.{Span}
use Rattle.tera_ast.specs.Spans.{expr_span}
use Rattle.tera_ast.specs.Tree.{Expr, Entries, NoEntries, Entry, SpreadEntry}
use Rattle.tera_ast.specs.declared.ast.MapEntryOf.{MapEntryOf}
use Rattle.tera_ast.specs.declared.ast.MapEntryOf.TheVariants as entries
use Rattle.tera_findings.specs.Findings.{NoteOf, FindingVal, FindingOf}
use Rattle.tera_findings.specs.declared.finding.Kind.{Kind}
use Rattle.tera_findings.specs.declared.finding.Kind.TheVariants as kinds
use Rattle.tera_rules.specs.declared.repeated.Following.{Following}
use Rattle.tera_rules.specs.declared.repeated.Holder.{Holder}
use Rattle.tera_rules.specs.declared.repeated.Holder.TheVariants as holders

-- the finding, with a note at the next value of the key; the component, and spreads in between, do not matter
abbrev pub repeated_kind : Holder → Kind
repeated_kind holders.Call = kinds.RepeatedArgument
repeated_kind holders.Map = kinds.RepeatedKey

abbrev pub repeated_text : Holder → List ℕ → List ℕ
repeated_text holders.Call name =
    codes "Argument `" ++ (name ++ codes "` is given more than once in component call. This value is ignored.")
repeated_text holders.Map name = codes "Key `" ++ (name ++ codes "` is given more than once in the map. This value is ignored.")

abbrev pub next_text : List ℕ
next_text = codes "given again here"

abbrev pub repeated : Holder → List ℕ → KeyVal → Span → Span → FindingVal
repeated holder file key span next =
    FindingOf (repeated_kind holder) span (repeated_text holder (key_text key)) (NoteOf file next next_text ∷ [])

abbrev pub repeated_if : Holder → List ℕ → KeyVal → Span → Option Span → List FindingVal
repeated_if holder file key span None = []
repeated_if holder file key span (Some next) = repeated holder file key span next ∷ []

-- where the first value under a key is
abbrev pub next_in : KeyVal → Entries → Option Span
next_in key NoEntries = None
next_in key (Entry k e es) = cond (key_eq k key) (Some (expr_span e)) (next_in key es)
next_in key (SpreadEntry e es) = next_in key es

abbrev pub repeated_findings : Holder → List ℕ → Entries → List FindingVal
repeated_findings holder file NoEntries = []
repeated_findings holder file (Entry k e es) =
    repeated_findings holder file es ++ repeated_if holder file k (expr_span e) (next_in k es)
repeated_findings holder file (SpreadEntry e es) = repeated_findings holder file es

-- the same for one entry that is before others
abbrev pub next_by_one : KeyVal → MapEntryOf Expr → Option Span → Option Span
next_by_one key (entries.KeyValue k e) following = cond (key_eq (key_view k) key) (Some (expr_span e)) following
next_by_one key (entries.Spread e) following = following

abbrev pub repeated_by_one : Holder → List ℕ → MapEntryOf Expr → (KeyVal → Option Span) → List FindingVal
repeated_by_one holder file (entries.KeyValue k e) next =
    repeated_if holder file (key_view k) (expr_span e) (next (key_view k))
repeated_by_one holder file (entries.Spread e) next = []

-- what is in a map of spans, under a name and under a number
abbrev pub span_under : BTreeMap (Bor (List ℕ)) (Bor Span) → List ℕ → Option Span
span_under spans n = option_map (λ s. s.now) (get_by (λ k. slice_cmp nat_cmp n k.now) spans)

abbrev pub span_numbered : BTreeMap ℤ (Bor Span) → ℤ → Option Span
span_numbered spans n = option_map (λ s. s.now) (get_by (int_cmp n) spans)

-- .. and under a key
abbrev pub span_at_key : Following → KeyVal → Option Span
span_at_key following (TextKey n) = span_under following.texts n
span_at_key following (I64Key n) = span_numbered following.numbers n
span_at_key following (TruthKey true) = option_map (λ s. s.now) following.on_true
span_at_key following (TruthKey false) = option_map (λ s. s.now) following.on_false
