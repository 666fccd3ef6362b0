-- Arguments that are put one after another, and entries by what their keys stand for.
use Rattle.std.proofs.Common.{◌≡◌, List, [], ◌∷◌, ◌++◌, map, Some, None, String, Global, string_bytes, refl, sym, ap, ◌∙◌}
use Rattle.std.proofs.Common.{Ordering, Less, Equal, Greater, string_cmp, nat_cmp, ℕ}
use Rattle.std.specs.List.Sorted.{IsStrictlySortedBy}
use Rattle.std.specs.List.{AllByRecursion}
use Rattle.std.specs.Map.{keys_of}
use Rattle.std.specs.Cmp.Lexicographic.{slice_cmp}
use Rattle.std.specs.Ordering.{match_ordering, ordering_reverse}
use Rattle.std.specs.BTreeMap.{insert_entry}
use Rattle.std.proofs.lemmas.Cmp.{nat_list_cmp_total}
use Rattle.tera_ast.specs.Tree.{Expr, Args, NoArgs, Arg, Entries, NoEntries, Entry, SpreadEntry}
use Rattle.tera_ast.specs.View.{expression_view, args_view, entries_view, keyed_view}
use Rattle.tera_ast.specs.declared.ast.Expression.{Expression}
use Rattle.tera_ast.specs.declared.ast.MapEntryOf.{MapEntryOf}
use Rattle.tera_ast.specs.declared.ast.MapEntryOf.TheVariants as entries
use Rattle.tera_base.specs.Values.{KeyVal}
use Rattle.tera_base.specs.ValueView.{key_view}
use Rattle.std.specs.Prelude.{Option}
use Rattle.tera_ast.proofs.Texts.{Argument}

-- the arguments, with e at k
abbrev pub put : List ℕ → Expr → Args → Args
put k d NoArgs = Arg k d NoArgs
put k d (Arg l e ms) = match_ordering (slice_cmp nat_cmp k l) (Arg k d (Arg l e ms)) (Arg l d ms) (Arg l e (put k d ms))

args_view-match_ordering : (o : Ordering) (a b c : List Argument) → args_view (match_ordering o a b c) ≡ match_ordering o (args_view a) (args_view b) (args_view c)
args_view-match_ordering Less a b c = refl
args_view-match_ordering Equal a b c = refl
args_view-match_ordering Greater a b c = refl

pub args_view_insert_entry : (es : List Argument) (k : String Global) (v : Expression) → args_view (insert_entry string_cmp es k v) ≡ put (string_bytes k) (expression_view v) (args_view es)
args_view_insert_entry [] k v = refl
args_view_insert_entry (e ∷ es) k v = args_view-match_ordering (string_cmp k e.0) _ _ _ ∙ rw (args_view_insert_entry es k v)

below_middle : (first : Argument) (es : List Argument) (e : Argument) (more : List Argument) → AllByRecursion (λ y. string_cmp first.0 y ≡ Less) (keys_of (es ++ e ∷ more)) → string_cmp first.0 e.0 ≡ Less
below_middle first [] e more h = h.0
below_middle first (x ∷ es) e more h = below_middle first es e more h.1

-- a key that is above those before it goes last
pub put_last : (done : List Argument) (e : Argument) (more : List Argument) → IsStrictlySortedBy string_cmp (keys_of (done ++ e ∷ more))
    → put (string_bytes e.0) (expression_view e.1) (args_view done) ≡ args_view (done ++ e ∷ [])
unfolding IsStrictlySortedBy
put_last [] e more h = refl
put_last (first ∷ done) e more h =
    let above : slice_cmp nat_cmp (string_bytes e.0) (string_bytes first.0) ≡ Greater =
    nat_list_cmp_total.antisymm (string_bytes e.0) (string_bytes first.0) ∙ ap ordering_reverse (below_middle first done e more h.0) in
    rw above (ap (Arg (string_bytes first.0) (expression_view first.1)) (put_last done e more h.1))

-- entries from what their keys stand for
abbrev keyed_of : List (Option KeyVal × Expr) → Entries
keyed_of [] = NoEntries
keyed_of ((None, e) ∷ es) = SpreadEntry e (keyed_of es)
keyed_of ((Some k, e) ∷ es) = Entry k e (keyed_of es)

keyed_entries : (es : List (MapEntryOf Expression)) → keyed_of (map keyed_view es) ≡ entries_view es
keyed_entries [] = refl
keyed_entries (entries.KeyValue k e ∷ es) = ap (Entry (key_view k) (expression_view e)) (keyed_entries es)
keyed_entries (entries.Spread e ∷ es) = ap (SpreadEntry (expression_view e)) (keyed_entries es)

pub entries_same : (xs ys : List (MapEntryOf Expression)) → map keyed_view xs ≡ map keyed_view ys → entries_view xs ≡ entries_view ys
entries_same xs ys e = sym (keyed_entries xs) ∙ ap keyed_of e ∙ keyed_entries ys
