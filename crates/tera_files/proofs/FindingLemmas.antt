-- The files of one path after another.
use Rattle.std.proofs.Common.{◌≡◌, ◌<◌, ◌+◌, ◌++◌, ◌∷◌, ℕ, List, [], length, take, get_or, inl, inr, Result, Ok, Err, ⊎_elim, refl, sym, ap, ◌∙◌, subst, arith, append-nil}
use Rattle.std.specs.Prelude.{All, Any, Contains, OnOk}
use Rattle.std.specs.List.{AllZip, flat_map}
use Rattle.std.proofs.lemmas.Grind.{flat_map-append}
use Rattle.std.proofs.lemmas.List.{get_or_append_left, length-append, take_more}
use Rattle.std.proofs.lemmas.List.Elements.{All-append, All-nil, All-same, All-weaker, Contains-append_left, Contains-push_cases}
use Rattle.std.specs.Str.{bytes_eq}
use Rattle.indexmap.specs.IndexSet.{insert_key}
use Rattle.std.proofs.lemmas.List.Quantifiers.{Any-push}
use Rattle.tera_files.specs.declared.below.Template.{Template}
use Rattle.tera_files.specs.declared.finding.Unlisted.{Unlisted}
use Rattle.tera_files.specs.declared.listing.Listing.{Listing}
use Rattle.tera_files.specs.Below.{AreTemplates, IsUnlisted, Reports}
use Rattle.tera_files.specs.Finding.{AddsAll, AddsTemplate, AddsTemplates, AreOf, AreOfAll, a_template, input}
use Rattle.tera_files.specs.Listing.{IsAdded}
use Rattle.tera_files.specs.Paths.{IsTemplate}
use Rattle.tera_files.proofs.ListingLemmas.{insert_key-is}

no_templates : (extensions : List (List ℕ)) (top : List ℕ) → AreTemplates extensions top []
no_templates extensions top = record {
  templates = All-nil (IsTemplate extensions top);
  sorted = λ i j d before below. absurd (omega arith);
}

-- a path that is added, or was met, is that of a file
pub adds_itself : (extensions : List (List ℕ)) (path : List ℕ) (old new : List (List ℕ)) → IsAdded path old new → AddsAll extensions path old new
adds_itself extensions path old new added =
    ⊎_elim
    (λ same. record { more = []; following = same ∙ sym (append-nil old); of_path = inr (no_templates extensions path) })
    (λ one. record { more = path ∷ []; following = one; of_path = inl refl })
    added

pub adds_key : (extensions : List (List ℕ)) (path text : List ℕ) (old new : List (List ℕ)) → text ≡ path
    → new ≡ insert_key bytes_eq old text → AddsAll extensions path old new
adds_key extensions path text old new same is =
    adds_itself extensions path old new (subst (λ one. IsAdded one old new) same (subst (IsAdded text old) (sym is) (insert_key-is old text)))

-- what follows from a fact for a success follows for that success
pub on_ok : {T E P Q : Type 0} (result : Result T E) → (P → Q) → OnOk result P → OnOk result Q
on_ok (Ok value) follows is = follows is
on_ok (Err error) follows is = tt

AllZip-push : {A B : Type 0} (R : A → B → Type 0) (xs : List A) (ys : List B) (x : A) (y : B) → AllZip R xs ys → R x y
    → AllZip R (xs ++ x ∷ []) (ys ++ y ∷ [])
AllZip-push R [] [] x y all here = (here, tt)
AllZip-push R [] (_ ∷ _) x y all here = absurd all
AllZip-push R (_ ∷ _) [] x y all here = absurd all
AllZip-push R (_ ∷ xs) (_ ∷ ys) x y all here = (all.0, AllZip-push R xs ys x y all.1 here)

taken : (paths : List (List ℕ)) (i : ℕ) (path : List ℕ) → i < length paths → path ≡ get_or paths i path
    → take (i + 1) paths ≡ take i paths ++ path ∷ []
taken paths i path below is = take_more paths i path below ∙ ap (λ p. take i paths ++ p ∷ []) (sym is)

pub found_more : (extensions paths old new : List (List ℕ)) (i : ℕ) (path : List ℕ) → i < length paths → path ≡ get_or paths i path
    → AreOfAll extensions (take i paths) old → AddsAll extensions path old new → AreOfAll extensions (take (i + 1) paths) new
found_more extensions paths old new i path below is before adds = record {
  pieces = before.pieces ++ adds.more ∷ [];
  joined = adds.following ∙ ap (λ l. l ++ adds.more) before.joined ∙ ap (λ l. flat_map (λ piece. piece) before.pieces ++ l) (sym (append-nil adds.more)) ∙ sym (flat_map-append (λ piece. piece) before.pieces (adds.more ∷ []));
  each = subst (λ l. AllZip (AreOf extensions) l (before.pieces ++ adds.more ∷ [])) (sym (taken paths i path below is))
      (AllZip-push (AreOf extensions) (take i paths) before.pieces path adds.more before.each adds.of_path);
}

-- once standard input is among the paths, it is among the files
pub input_more : (extensions paths old new : List (List ℕ)) (i : ℕ) (path : List ℕ) → i < length paths → path ≡ get_or paths i path
    → (Contains (take i paths) input → Contains old input) → AddsAll extensions path old new → (path ≡ input → Contains new input)
    → Contains (take (i + 1) paths) input → Contains new input
input_more extensions paths old new i path below is before adds here at =
    ⊎_elim
    (λ earlier. subst (λ l. Contains l input) (sym adds.following) (Contains-append_left old adds.more input (before earlier)))
    here
    (Contains-push_cases (take i paths) path input (subst (λ l. Contains l input) (taken paths i path below is) at))

Any-append_left : {X : Type 0} (P : X → Type 0) (xs ys : List X) → Any P xs → Any P (xs ++ ys)
Any-append_left P xs ys any =
    let k = any.0 in
    let x = any.1 in
    (k, x, omega (arith, any.2, length-append xs ys), get_or_append_left xs ys x k any.2 ∙ any.3, any.4)

-- what holds holds for a success
pub ok_anyway : {T E P : Type 0} (result : Result T E) → P → OnOk result P
ok_anyway (Ok value) is = is
ok_anyway (Err error) is = tt

-- what is reported for one path after another
pub reported_more : (paths : List (List ℕ)) (i : ℕ) (path : List ℕ) (old new : List Unlisted) → i < length paths → path ≡ get_or paths i path
    → All (λ one. Any (λ top. IsUnlisted top one) (take i paths)) old → Reports path old new
    → All (λ one. Any (λ top. IsUnlisted top one) (take (i + 1) paths)) new
reported_more paths i path old new below is before reports =
    let grown = taken paths i path below is in
    let Is : Unlisted → Type 0 = λ one. Any (λ top. IsUnlisted top one) (take i paths ++ path ∷ []) in
    let earlier : All Is old = All-weaker (λ one. Any (λ top. IsUnlisted top one) (take i paths)) Is
    (λ one any. Any-append_left (λ top. IsUnlisted top one) (take i paths) (path ∷ []) any) old before in
    let here : All Is reports.more = All-weaker (IsUnlisted path) Is
    (λ one reported. Any-push (λ top. IsUnlisted top one) (take i paths) path reported) reports.more reports.unlisted in
    subst (λ l. All (λ one. Any (λ top. IsUnlisted top one) l) new) (sym grown)
    (All-same Is new (old ++ reports.more) reports.following (All-append Is old reports.more earlier here))

-- one template after the others
pub next_template : (old middle new : Listing) (templates : List Template) (i : ℕ) (template : Template) → i < length templates
    → template ≡ get_or templates i template → AddsTemplates old (take i templates) middle → AddsTemplate template middle new
    → AddsTemplates old (take (i + 1) templates) new
next_template old middle new templates i template below is before here =
    let grown : take (i + 1) templates ≡ take i templates ++ template ∷ [] = take_more templates i template below ∙ ap (λ t. take i templates ++ t ∷ []) (sym is) in
    subst (λ l. AddsTemplates old l new) (sym grown) (a_template template new before here)
