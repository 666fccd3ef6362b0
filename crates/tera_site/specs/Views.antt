-- What the code has of pages and of a site.
use Rattle.std.specs.Prelude.{◌≡◌, ℕ, List, Bool, false, ◌||◌, map, Option, None, slice_index_or}
use Rattle.std.specs.BTreeMap.{BTreeMap, get_by}
use Rattle.std.specs.BTreeSet.{BTreeSet, contains_by, contains_text}
use Rattle.std.specs.Borrow.{Bor}
use Rattle.std.specs.Cmp.Lexicographic.{slice_cmp}
use Rattle.std.specs.Option.{is_some, option_map, option_map_or}
use Rattle.std.specs.Ordering.{nat_cmp}
use Rattle.link_groups.specs.Groups.{is_one_group}
use Rattle.tera_site.specs.Pages.{PageVal}
use Rattle.tera_site.specs.Sites.{AroundVal}
use Rattle.tera_site.specs.declared.pages.Page.{Page}
use Rattle.tera_site.specs.Kept.{kept_around}
use Rattle.tera_site.specs.declared.site.Around.{Around}
use Rattle.tera_site.specs.declared.site.Around.TheVariants as arounds
use Rattle.tera_site.specs.declared.site.Site.{Site}

-- what a map has under a name, and whether a set has it
abbrev pub under_name : {X : Type 0} → BTreeMap (Bor (List ℕ)) X → List ℕ → Option X
under_name names n = get_by (λ k. slice_cmp nat_cmp n k.now) names

abbrev pub has_name : BTreeSet (Bor (List ℕ)) → List ℕ → Bool
has_name names n = contains_by (λ k. slice_cmp nat_cmp n k.now) names

abbrev pub names_of : List (Bor (List ℕ)) → List (List ℕ)
names_of ns = map (λ n. n.now) ns

abbrev pub page_view : Page → PageVal
page_view q = record {
  parent = option_map (λ n. n.now) q.parent;
  includes = names_of q.includes.items;
  blocks = names_of q.blocks.items;
  is_whole = q.is_whole;
}

-- what a site says of the template of a number
abbrev pub around_in : Site → ℕ → AroundVal
around_in s number = record {
  has = λ n. is_some (under_name s.numbers n) || contains_text s.others.now n;
  extends_itself = slice_index_or s.circular.items number false;
  comes_back = λ n. option_map_or (λ other. is_one_group s.groups.items other number) (under_name s.numbers n) false;
  inherited = option_map has_name (slice_index_or s.inherited.items number None);
}

abbrev pub around_view : Around → AroundVal
around_view (arounds.In site number) = around_in site.now number
around_view (arounds.Kept kept) = kept_around kept.now
