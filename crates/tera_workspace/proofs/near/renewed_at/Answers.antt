use Rattle.std.proofs.Common.{◌≡◌, ◌<◌, ℕ, Bool, Bor, Global, List, Vec, length, map, string_bytes, MatchOption, Option, Some, refl, subst, arith}
use Rattle.std.specs.BTreeSet.{BTreeSet}
use Rattle.std.specs.Prelude.{slice_get}
use Rattle.std.proofs.lemmas.List.{get_or_read}
use Rattle.std.proofs.lemmas.Option.{slice_get_within}
use Rattle.tera_site.specs.Kept.{kept_page, names_in}
use Rattle.tera_site.specs.Sites.{used_names}
use Rattle.tera_workspace.specs.KeptSites.{said_in, said_of}
use Rattle.tera_workspace.specs.Names.{contains_name}
use Rattle.tera_workspace.specs.Near.{AreNear, ConcernsThese}
use Rattle.tera_workspace.specs.declared.judged.Judged.{Judged}
use Rattle.tera_workspace.specs.declared.sites.KeptDocument.{KeptDocument}
use Rattle.tera_workspace.proofs.NearSteps.{at_index}
use Rattle.tera_workspace.proofs.RenewedLemmas.{as_many_near, at_kept, files_same, lacking_kept, renewed_is}
use Rattle.tera_workspace.proofs.near.renewed_at.Goals as goal

abbrev now_of : List (Bor Judged) → List Judged
now_of below = map (λ (j : Bor Judged). j.now) below

concerned_there : (root : List ℕ) (at : ℕ) (kept : List KeptDocument) (js : List Judged) (o : Option (BTreeSet (Bor (List ℕ)))) (s : BTreeSet (Bor (List ℕ))) → o ≡ Some s
    → MatchOption o (Unit {0}) (λ v. ConcernsThese root at (map said_of kept) js (contains_name v)) → ConcernsThese root at (map said_of kept) js (contains_name s)
concerned_there root at kept js o s is h = subst (λ x. MatchOption x (Unit {0}) (λ v. ConcernsThese root at (map said_of kept) js (contains_name v))) is h

near_there : (root : List ℕ) (js : List Judged) (at : ℕ) (names : List (List ℕ)) (has : List ℕ → Bool) (o : Option (Vec ℕ Global)) (v : Vec ℕ Global) → o ≡ Some v
    → MatchOption o (Unit {0}) (λ v. AreNear root (map said_in js) at names has v.items) → AreNear root (map said_in js) at names has v.items
near_there root js at names has o v is h = subst (λ x. MatchOption x (Unit {0}) (λ v. AreNear root (map said_in js) at names has v.items)) is h

pub lacking_with-requires-clause-before : goal.lacking_with-requires-clause-before
lacking_with-requires-clause-before c = lacking_kept c.args.root.now c.requires.kept.was (map string_bytes c.args.lacking.now.items) c.args.kept.now.items c.requires.kept.kept_by

pub names_of-requires-clause-files : goal.names_of-requires-clause-files
names_of-requires-clause-files c =
    let root = c.args.root.now in
    let others = names_in c.args.others.now in
    let lacking = map string_bytes c.args.lacking.now.items in
    let kept = c.args.kept.now.items in
    let js = now_of c.args.below.now.items in
    let at = c.args.at in
    let near = c.in-Some-2.near.items in
    let those = now_of c.in_ok-those.those.items in
    let documents = c.in_ok-documents.documents.items in
    let d = c.index.result.now in
    let e = c.index-2.result.now in
    let within : at < length kept = at_kept at kept js c.requires.other in
    let was : slice_get kept at ≡ Some d = at_index kept at d within (get_or_read kept at d within c.index.ensures d) in
    let concerns = concerned_there root at kept js c.in_ok-concerned.field-0 c.in-Some.concerned c.in-Some.is c.in_ok-concerned.ensures in
    let are_near = near_there root js at (used_names (kept_page d.page)) (contains_name c.in-Some.concerned) c.in_ok-near.field-0 c.in-Some-2.near c.in-Some-2.is c.in_ok-near.ensures in
    let many = as_many_near documents near js those c.in_ok-those.ensures c.in_ok-documents.ensures.said in
    let some = slice_get_within near 0 at are_near.first in
    let first : 0 < length documents = omega (arith, many, some) in
    let made : slice_get documents 0 ≡ Some e = at_index documents 0 e first (get_or_read documents 0 e first c.index-2.ensures e) in
    files_same root others kept js those at near documents d e lacking (map string_bytes c.in_ok-documents._lacking.items) (contains_name c.in-Some.concerned) c.requires.site c.requires.other c.requires.kept
    concerns was are_near c.in_ok-those.ensures c.in_ok-documents.ensures.kept c.in_ok-documents.ensures.said made

pub returns : goal.returns
returns c =
    let root = c.args.root.now in
    let others = names_in c.args.others.now in
    let lacking = map string_bytes c.args.lacking.now.items in
    let kept = c.args.kept.now.items in
    let js = now_of c.args.below.now.items in
    let at = c.args.at in
    let near = c.in-Some-2.near.items in
    let those = now_of c.in_ok-those.those.items in
    let documents = c.in_ok-documents.documents.items in
    let d = c.index.result.now in
    let e = c.index-2.result.now in
    let within : at < length kept = at_kept at kept js c.requires.other in
    let was : slice_get kept at ≡ Some d = at_index kept at d within (get_or_read kept at d within c.index.ensures d) in
    let concerns = concerned_there root at kept js c.in_ok-concerned.field-0 c.in-Some.concerned c.in-Some.is c.in_ok-concerned.ensures in
    let are_near = near_there root js at (used_names (kept_page d.page)) (contains_name c.in-Some.concerned) c.in_ok-near.field-0 c.in-Some-2.near c.in-Some-2.is c.in_ok-near.ensures in
    let many = as_many_near documents near js those c.in_ok-those.ensures c.in_ok-documents.ensures.said in
    let some = slice_get_within near 0 at are_near.first in
    let first : 0 < length documents = omega (arith, many, some) in
    let made : slice_get documents 0 ≡ Some e = at_index documents 0 e first (get_or_read documents 0 e first c.index-2.ensures e) in
    renewed_is root others kept js those at near documents d e lacking (map string_bytes c.in_ok-documents._lacking.items) (contains_name c.in-Some.concerned) c.requires.site c.requires.other c.requires.kept
    concerns was are_near c.in_ok-those.ensures c.in_ok-documents.ensures.kept c.in_ok-documents.ensures.said made
    _ refl refl c.in_ok-lacking.ensures c.in_ok-names.ensures
