use Rattle.std.proofs.Common.{◌≡◌, ◌∙◌, ℕ, List, map, string_bytes, MatchOption, Option, Some, sym, ap, subst}
use Rattle.tera_site.specs.Kept.{names_in}
use Rattle.tera_workspace.specs.KeptSites.{around_file, documents_below, names_before, said_in, said_of, site_view}
use Rattle.tera_workspace.specs.Near.{AreInSite, IsDifference, IsKeptBut, IsRenewed, kept_now, kept_with}
use Rattle.tera_workspace.specs.Sites.{AreRenewed, IsKeptOf}
use Rattle.tera_workspace.specs.declared.judged.Judged.{Judged}
use Rattle.tera_workspace.specs.declared.near.Difference.{Difference}
use Rattle.tera_workspace.specs.declared.near.Difference.TheVariants as differences
use Rattle.tera_workspace.specs.declared.near.Renewed.{Renewed}
use Rattle.tera_workspace.specs.declared.sites.KeptDocument.{KeptDocument}
use Rattle.tera_workspace.specs.declared.sites.KeptSite.TheInside.{Inside}
use Rattle.tera_workspace.proofs.BelowLemmas.{kept_ordered}
use Rattle.tera_workspace.proofs.KeptSiteLemmas.{at_root, now_fits, now_of, same_kept, still_fits}
use Rattle.tera_workspace.proofs.NearNames.{in_site}
use Rattle.tera_workspace.proofs.RenewsLemmas.{none_renewed}
use Rattle.tera_workspace.proofs.sites.KeptSite.renew.Goals as goal

is_renewed : (root : List ℕ) (others : List (List ℕ)) (kept : List KeptDocument) (js : List Judged) (o : Option Renewed) (r : Renewed) → o ≡ Some r
    → MatchOption o (Unit {0}) (IsRenewed root others kept js) → IsRenewed root others kept js r
is_renewed root others kept js o r is h = subst (λ x. MatchOption x (Unit {0}) (IsRenewed root others kept js)) is h

-- how they differ, where that is known
known_there : (s : Inside) (js : List Judged) (found known : Difference) → found ≡ known
    → IsDifference (names_before s.before s.others) (names_in s.others) (map said_of s.documents.items) (map said_in js) found
    → IsDifference (names_before s.before s.others) (names_in s.others) (map said_of s.documents.items) (map said_in js) known
known_there s js found known is h = subst (IsDifference (names_before s.before s.others) (names_in s.others) (map said_of s.documents.items) (map said_in js)) is h

pub invariant_of-self : goal.invariant_of-self
invariant_of-self c =
    let s = c.self.inside in
    let same = known_there s (now_of c.in_ok-below.below.items) c.in_ok-difference.difference differences.Same c.in-Same.is c.in_ok-difference.ensures in
    record { ordered = c.self.invariant.ordered; kept = λ fresh. same_kept s same.1 (c.self.invariant.kept c.if-not-self.true) }

pub returns-in-Same-clause-fits : goal.returns-in-Same-clause-fits
returns-in-Same-clause-fits c = λ kept read.
    let s = c.self.inside in
    let w = c.args.workspace.now in
    let below = now_of c.in_ok-below.below.items in
    let is : below ≡ documents_below (string_bytes s.root) w.documents w.judged.items =
    c.in_ok-below.ensures ∙ ap (λ root. documents_below root w.documents w.judged.items) c.as_str.ensures.value in
    let same = known_there s below c.in_ok-difference.difference differences.Same c.in-Same.is c.in_ok-difference.ensures in
    still_fits (site_view s) w s.documents.items below is same.0 (same_kept s same.1 (c.self.invariant.kept c.if-not-self.true)) kept read

pub returns-in-Same-clause-names : goal.returns-in-Same-clause-names
returns-in-Same-clause-names c = rw (← c.self.view_is) (none_renewed (map string_bytes c.new.result.items) (map around_file c.self.inside.documents.items) (ap (map string_bytes) c.new.ensures.items))

pub renewed_at-requires : goal.renewed_at-requires
renewed_at-requires c =
    let s = c.self.inside in
    let w = c.args.workspace.now in
    let below = now_of c.in_ok-below.below.items in
    let is : below ≡ documents_below (string_bytes s.root) w.documents w.judged.items =
    c.in_ok-below.ensures ∙ ap (λ root. documents_below root w.documents w.judged.items) c.as_str.ensures.value in
    let root = sym c.as_str-in-One.ensures.value in
    let one = known_there s below c.in_ok-difference.difference (differences.One c.in-One.at) c.in-One.is c.in_ok-difference.ensures in
    record {
      site = subst (λ r. AreInSite r below) root (in_site (string_bytes s.root) w.documents w.judged.items below w.ordered is);
      other = one.0;
      kept = subst (λ r. IsKeptBut c.in-One.at r (names_in s.others) (map string_bytes s.lacking.items) s.documents.items) root (record {
        was = names_before s.before s.others;
        kept_by = record { ordered = c.self.invariant.ordered; fits = c.self.invariant.kept c.if-not-self.true };
        rest = one.1;
      });
    }

pub put_each-requires : goal.put_each-requires
put_each-requires c =
    let s = c.self.inside in
    let renewed = is_renewed c.as_str-in-One.result.now (names_in s.others) s.documents.items (now_of c.in_ok-below.below.items) c.in_ok-renewed-in-One.renewed c.in-Some.renewed
    c.in-Some.is c.in_ok-renewed-in-One.ensures in
    record { near = renewed.near; each = renewed.each }

pub invariant_of-self-in-Some : goal.invariant_of-self-in-Some
invariant_of-self-in-Some c =
    let s = c.self.inside in
    let w = c.args.workspace.now in
    let below = now_of c.in_ok-below.below.items in
    let r = c.in-Some.renewed in
    let documents = c.put_each.new.documents.items in
    let is : documents ≡ kept_now s.documents.items r = c.put_each.ensures in
    let renewed = is_renewed c.as_str-in-One.result.now (names_in s.others) s.documents.items below c.in_ok-renewed-in-One.renewed r c.in-Some.is c.in_ok-renewed-in-One.ensures in
    let said : map said_of documents ≡ map said_in below = ap (map said_of) is ∙ renewed.said in
    let fits : IsKeptOf (kept_with c.as_str-in-One.result.now (names_in s.others) (map string_bytes r.lacking.items) documents) (map said_in below) =
    subst (λ ds. IsKeptOf (kept_with c.as_str-in-One.result.now (names_in s.others) (map string_bytes r.lacking.items) ds) (map said_in below)) (sym is) renewed.fits in
    record {
      ordered = kept_ordered _ w.documents w.judged.items below documents w.ordered c.in_ok-below.ensures said;
      kept = λ fresh.
          subst (IsKeptOf (kept_with (string_bytes s.root) (names_in s.others) (map string_bytes r.lacking.items) documents)) (sym said)
          (at_root _ (string_bytes s.root) (names_in s.others) (map string_bytes r.lacking.items) (map around_file documents) (map said_in below) c.as_str-in-One.ensures.value fits);
    }

pub returns-in-Some-clause-fits : goal.returns-in-Some-clause-fits
returns-in-Some-clause-fits c = λ kept read.
    let s = c.self.inside in
    let w = c.args.workspace.now in
    let below = now_of c.in_ok-below.below.items in
    let is : below ≡ documents_below (string_bytes s.root) w.documents w.judged.items =
    c.in_ok-below.ensures ∙ ap (λ root. documents_below root w.documents w.judged.items) c.as_str.ensures.value in
    let r = c.in-Some.renewed in
    let documents = c.put_each.new.documents.items in
    let put : documents ≡ kept_now s.documents.items r = c.put_each.ensures in
    let renewed = is_renewed c.as_str-in-One.result.now (names_in s.others) s.documents.items below c.in_ok-renewed-in-One.renewed r c.in-Some.is c.in_ok-renewed-in-One.ensures in
    let fits : IsKeptOf (kept_with c.as_str-in-One.result.now (names_in s.others) (map string_bytes r.lacking.items) documents) (map said_in below) =
    subst (λ ds. IsKeptOf (kept_with c.as_str-in-One.result.now (names_in s.others) (map string_bytes r.lacking.items) ds) (map said_in below)) (sym put) renewed.fits in
    now_fits (kept_with (string_bytes s.root) (names_in s.others) (map string_bytes r.lacking.items) documents) w below is
    (at_root _ (string_bytes s.root) (names_in s.others) (map string_bytes r.lacking.items) (map around_file documents) (map said_in below) c.as_str-in-One.ensures.value fits) kept read

pub returns-in-Some-clause-names : goal.returns-in-Some-clause-names
returns-in-Some-clause-names c =
    let s = c.self.inside in
    let r = c.in-Some.renewed in
    let put : c.put_each.new.documents.items ≡ kept_now s.documents.items r = c.put_each.ensures in
    let renewed = is_renewed c.as_str-in-One.result.now (names_in s.others) s.documents.items (now_of c.in_ok-below.below.items) c.in_ok-renewed-in-One.renewed r
    c.in-Some.is c.in_ok-renewed-in-One.ensures in
    rw (← c.self.view_is) (subst (λ ds. AreRenewed (map string_bytes r.names.items) (map around_file s.documents.items) (map around_file ds)) (sym put) renewed.names)

pub renewed-requires : goal.renewed-requires
renewed-requires c = record {
  before = c.self.invariant.ordered;
  after = kept_ordered _ c.args.workspace.now.documents c.args.workspace.now.judged.items (now_of c.in_ok-below.below.items) c.in_ok-documents.documents.items
      c.args.workspace.now.ordered c.in_ok-below.ensures c.in_ok-documents.ensures.said;
}

pub invariant_of-self-2 : goal.invariant_of-self-2
invariant_of-self-2 c =
    let s = c.self.inside in
    let documents = c.in_ok-documents.documents.items in
    let lacking = c.in_ok-documents.lacking.items in
    let made = c.in_ok-documents.ensures in record {
      ordered = kept_ordered _ c.args.workspace.now.documents c.args.workspace.now.judged.items (now_of c.in_ok-below.below.items) documents
          c.args.workspace.now.ordered c.in_ok-below.ensures made.said;
      kept = λ fresh.
          subst (IsKeptOf (record { root = string_bytes s.root; others = names_in s.others; lacking = map string_bytes lacking; documents = map around_file documents })) (sym made.said)
          (at_root _ (string_bytes s.root) (names_in s.others) (map string_bytes lacking) (map around_file documents) _ c.as_str-2.ensures.value made.kept);
    }

pub returns-clause-fits : goal.returns-clause-fits
returns-clause-fits c = λ kept read.
    let s = c.self.inside in
    let w = c.args.workspace.now in
    let below = now_of c.in_ok-below.below.items in
    let is : below ≡ documents_below (string_bytes s.root) w.documents w.judged.items =
    c.in_ok-below.ensures ∙ ap (λ root. documents_below root w.documents w.judged.items) c.as_str.ensures.value in
    let documents = c.in_ok-documents.documents.items in
    let lacking = c.in_ok-documents.lacking.items in
    now_fits (record { root = string_bytes s.root; others = names_in s.others; lacking = map string_bytes lacking; documents = map around_file documents }) w below is
    (at_root _ (string_bytes s.root) (names_in s.others) (map string_bytes lacking) (map around_file documents) (map said_in below) c.as_str-2.ensures.value c.in_ok-documents.ensures.kept)
    kept read

pub returns-clause-names : goal.returns-clause-names
returns-clause-names c = rw (← c.self.view_is) c.in_ok-names.ensures
