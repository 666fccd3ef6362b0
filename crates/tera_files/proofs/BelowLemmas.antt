-- Templates in order, and which of them are added.
use Rattle.std.proofs.Common.{◌≡◌, ◌<◌, ◌+◌, ◌++◌, ◌∷◌, ℕ, Bool, List, [], Bor, Option, Some, None, String, Global, map, length, take, get_or, string_bytes, ⊎_elim, sym, ap, ◌∙◌, subst, arith, append_assoc, append-nil}
use denote.Param.Members.{Mut}
use Rattle.std.specs.Prelude.{All, AllPairs, Contains, IfSome}
use Rattle.std.specs.Cmp.{IsStrictWeakOrder}
use Rattle.std.specs.Cmp.Lexicographic.{slice_cmp}
use Rattle.std.specs.Fn.{Called, ComparesAs}
use Rattle.std.specs.List.Sorted.{IsPermutation, IsSortedBy}
use Rattle.std.specs.Ordering.{is_lt, nat_cmp}
use Rattle.std.specs.Path.{path_join}
use Rattle.std.specs.declared.cmp.Ordering.{Ordering}
use Rattle.std.proofs.lemmas.Cmp.{nat_list_cmp_total}
use Rattle.std.proofs.lemmas.Fn.{always_returns_same}
use Rattle.std.proofs.lemmas.List.{get_or_default, get_or-map, get_or-take, length-map, length-take, take_more}
use Rattle.std.proofs.lemmas.List.Elements.{All-contains, All-map, All-nil, All-push, All-weaker, Contains-append_left, Contains-push}
use Rattle.std.proofs.lemmas.List.MinMax.{ranks_by}
use Rattle.std.proofs.lemmas.List.Quantifiers.{all_pairs_push}
use Rattle.std.proofs.lemmas.List.Sorted.{All-permutation, sorted_far}
use Rattle.tera_files.specs.Below.{AddsEach, AddsEntry, AddsSome, AreTemplates, IsBefore, IsUnlisted, Reports, an_entry, path_of}
use Rattle.tera_files.specs.declared.below.Below.{Below}
use Rattle.tera_files.specs.declared.below.Template.{Template}
use Rattle.tera_files.specs.declared.seen.Entry.{Entry}
use Rattle.tera_files.specs.declared.finding.Unlisted.{Unlisted}
use Rattle.tera_files.specs.Listing.{IsAdded}
use Rattle.tera_files.specs.Names.{IsLeftOut}
use Rattle.tera_files.specs.Paths.{IsKnown, IsPathIn, IsTemplate, IsWithin, at_top, inside, known_inside, top_is_known}

-- what is known by the names below the top is within the folder at the top
pub within_of : (top itself path known : List ℕ) → IsKnown top itself path known → IsWithin top path
within_of top itself _ _ top_is_known = at_top
within_of top itself _ _ (known_inside {folder} {known} name path is kept reported) =
    inside name path (within_of top itself folder known is) kept reported

-- an entry of a folder that is known by its name there
pub known_entry : (top itself folder known name path : List ℕ) (entry : Option (String Global)) → IsKnown top itself folder known
    → ¬ (IsLeftOut name) → IsPathIn folder name path → IfSome entry (λ text. string_bytes text ≡ path_join known name)
    → IfSome entry (λ text. IsKnown top itself path (string_bytes text))
known_entry top itself folder known name path None is kept reported same = tt
known_entry top itself folder known name path (Some text) is kept reported same =
    subst (IsKnown top itself path) (sym same) (known_inside name path is kept reported)

abbrev pub goes_before : Template → Template → Bool
goes_before one other = is_lt (slice_cmp nat_cmp (path_of one) (path_of other))

-- what a sort by paths ensures
pub by_path : {F : Type 0} {g : Mut F (Bor Template × (Bor Template × Unit {0})) Ordering} {f : F} (templates : List Template)
    → ((lt : Template → Template → Bool) → IsStrictWeakOrder lt → ComparesAs g lt f → IsSortedBy lt templates)
    → ((a : Bor Template × (Bor Template × Unit {0})) (r : Ordering) (f' : F) → Called g f a r f'
    → (r ≡ slice_cmp nat_cmp (path_of a.0.now) (path_of a.1.0.now)) × (f' ≡ f)) → IsSortedBy goes_before templates
by_path {g = g} {f = f} templates sorted compares = sorted goes_before (ranks_by nat_list_cmp_total path_of)
    (always_returns_same g (λ a r. is_lt r ≡ goes_before a.0.now a.1.0.now) f
    (λ a r f' k. (ap is_lt (compares a r f' k).0, (compares a r f' k).1)))

pub in_order : (templates : List Template) → IsSortedBy goes_before templates → AllPairs IsBefore (map path_of templates)
in_order [] sorted i j d before below = absurd (omega arith)
in_order (x ∷ templates) sorted i j d before below =
    let here : j < length (x ∷ templates) = rw length-map at below in
    let far = sorted_far goes_before (ranks_by nat_list_cmp_total path_of) (x ∷ templates) sorted i j x (omega arith) here in
    let first = get_or-map path_of (x ∷ templates) i x d (omega arith) in
    let second = get_or-map path_of (x ∷ templates) j x d here in
    subst (λ one. IsBefore one (get_or (map path_of (x ∷ templates)) j d)) (sym first)
    (subst (IsBefore (path_of (get_or (x ∷ templates) i x))) (sym second) far)

-- templates that were put in order
pub templates_in_order : (extensions : List (List ℕ)) (top : List ℕ) (templates sorted : List Template)
    → All (λ template. IsTemplate extensions top (path_of template)) templates → IsPermutation templates sorted
    → AllPairs IsBefore (map path_of sorted) → AreTemplates extensions top (map path_of sorted)
templates_in_order extensions top templates sorted all moved ordered =
    let Is : Template → Type 0 = λ template. IsTemplate extensions top (path_of template) in
    record {
      templates = All-map (IsTemplate extensions top) path_of sorted (All-permutation Is templates sorted moved all);
      sorted = ordered;
    }

pub adds_none : (old : List (List ℕ)) → AddsSome [] old old
adds_none old = record {
  more = [];
  following = sym (append-nil old);
  among = All-nil (Contains []);
  sorted = λ i j d before below. absurd (omega arith);
}

-- one that is among the first of them is before the next
stands_before : (paths : List (List ℕ)) (i : ℕ) (path one : List ℕ) → AllPairs IsBefore paths → i < length paths
    → path ≡ get_or paths i path → Contains (take i paths) one → IsBefore one path
stands_before paths i path one sorted below is at =
    let k = at.0 in
    let less : k < i = omega (arith, at.1, length-take i paths) in
    let here : get_or paths k one ≡ one = sym (get_or-take i paths k one less) ∙ at.2 in
    let there : get_or paths i one ≡ path = get_or_default paths i one path below ∙ sym is in
    subst (λ text. IsBefore text path) here (subst (IsBefore (get_or paths k one)) there (sorted k i one less below))

pub adds_more : (paths old middle new : List (List ℕ)) (i : ℕ) (path : List ℕ) → AllPairs IsBefore paths → i < length paths
    → path ≡ get_or paths i path → AddsSome (take i paths) old middle → IsAdded path middle new → AddsSome (take (i + 1) paths) old new
adds_more paths old middle new i path sorted below is part added =
    let grown : take (i + 1) paths ≡ take i paths ++ path ∷ [] = take_more paths i path below ∙ ap (λ p. take i paths ++ p ∷ []) (sym is) in
    let wider : (one : List ℕ) → Contains (take i paths) one → Contains (take (i + 1) paths) one = λ one at.
    subst (λ l. Contains l one) (sym grown) (Contains-append_left (take i paths) (path ∷ []) one at) in
    let among = All-weaker (Contains (take i paths)) (Contains (take (i + 1) paths)) wider part.more part.among in
    let here : Contains (take (i + 1) paths) path = subst (λ l. Contains l path) (sym grown) (Contains-push (take i paths) path) in
    ⊎_elim
    (λ same. record { more = part.more; following = same ∙ part.following; among = among; sorted = part.sorted })
    (λ one. record {
      more = part.more ++ path ∷ [];
      following = one ∙ ap (λ l. l ++ path ∷ []) part.following ∙ append_assoc old part.more (path ∷ []);
      among = All-push (Contains (take (i + 1) paths)) part.more path among here;
      sorted = all_pairs_push IsBefore part.more path part.sorted
          (λ k d inside. stands_before paths i path (get_or part.more k d) sorted below is (part.among k d inside));
    })
    added

-- some of templates in order are templates in order
pub some_templates : (extensions : List (List ℕ)) (top : List ℕ) (from old new : List (List ℕ)) → AreTemplates extensions top from
    → (part : AddsSome from old new) → AreTemplates extensions top part.more
some_templates extensions top from old new all part = record {
  templates = All-weaker (Contains from) (IsTemplate extensions top) (λ one at. All-contains (IsTemplate extensions top) from one all.templates at) part.more part.among;
  sorted = part.sorted;
}

-- nothing is reported
pub reports_none : (top : List ℕ) (old : List Unlisted) → Reports top old old
reports_none top old = record { more = []; following = sym (append-nil old); unlisted = All-nil (IsUnlisted top) }

-- more folders are unlisted
pub reports_more : (top : List ℕ) (old more new : List Unlisted) → new ≡ old ++ more → All (IsUnlisted top) more → Reports top old new
reports_more top old more new following unlisted = record { more = more; following = following; unlisted = unlisted }

-- one entry after the others
pub adds_next : (extensions : List (List ℕ)) (folder : List ℕ) (old middle new : Below) (entries : List Entry) (i : ℕ) (entry : Entry)
    → i < length entries → entry ≡ get_or entries i entry → AddsEach extensions folder old (take i entries) middle
    → AddsEntry extensions folder entry middle new → AddsEach extensions folder old (take (i + 1) entries) new
adds_next extensions folder old middle new entries i entry below is before here =
    let grown : take (i + 1) entries ≡ take i entries ++ entry ∷ [] = take_more entries i entry below ∙ ap (λ e. take i entries ++ e ∷ []) (sym is) in
    subst (λ l. AddsEach extensions folder old l new) (sym grown) (an_entry entry new before here)
