-- What is kept of a template apart from its tree and its site.
use Rattle.std.specs.Prelude.{◌≡◌, ◌&&◌, ℕ, List, Bool, not, filter, map, string_bytes, String, Some}
use Rattle.std.specs.BTreeSet.{BTreeSet, keys}
use Rattle.std.specs.List.{list_any}
use Rattle.std.specs.Str.{bytes_eq}
use Rattle.std.specs.declared.alloc.Global.{Global}
use Rattle.tera_ast.specs.View.{name_view}
use Rattle.tera_site.specs.Named.{lacks}
use Rattle.tera_site.specs.Pages.{PageVal}
use Rattle.tera_site.specs.Sites.{AroundVal, used_names}
use Rattle.tera_site.specs.declared.kept.KeptPage.{KeptPage}
use Rattle.tera_site.specs.declared.kept.Surroundings.{Surroundings}

-- what a template says
abbrev pub kept_page : KeptPage → PageVal
kept_page p = record {
  parent = name_view p.parent;
  includes = map string_bytes p.includes.items;
  blocks = map string_bytes p.blocks.items;
  is_whole = p.is_whole;
}

-- a name is one of some
abbrev pub is_one_of : List (List ℕ) → List ℕ → Bool
is_one_of ns n = list_any (bytes_eq n) ns

-- two pages say the same to all that extend them
pub record AreAboveAlike (p q : PageVal) : Type 0 where
  pub parent : p.parent ≡ q.parent
  pub blocks : p.blocks ≡ q.blocks
  pub is_whole : p.is_whole ≡ q.is_whole

-- those of the names that no template has, by what is around one that uses them
abbrev pub names_missing : AroundVal → List (List ℕ) → List (List ℕ)
names_missing a ns = filter (λ n. not (a.has n)) ns

-- What is around a page, only under its own names: those that it uses, and those of its blocks. Under other names there
-- is nothing, and no block is lacking.
abbrev pub on_page : PageVal → AroundVal → AroundVal
on_page p a = record {
  has = λ n. is_one_of (used_names p) n && a.has n;
  extends_itself = a.extends_itself;
  comes_back = λ n. is_one_of p.includes n && a.comes_back n;
  inherited = Some (λ n. not (is_one_of p.blocks n && lacks a n));
}

-- that, as lists of names: templates that are there, those that lead back, and blocks that are lacking
pub record KeptVal : Type 0 where
  pub there : List (List ℕ)
  pub back : List (List ℕ)
  pub extends_itself : Bool
  pub lacking : List (List ℕ)

abbrev pub names_in : BTreeSet (String Global) → List (List ℕ)
names_in s = map string_bytes (keys s)

abbrev pub kept_view : Surroundings → KeptVal
kept_view s = record {
  there = names_in s.there;
  back = names_in s.back;
  extends_itself = s.extends_itself;
  lacking = names_in s.lacking;
}

abbrev pub around_by : KeptVal → AroundVal
around_by k = record {
  has = is_one_of k.there;
  extends_itself = k.extends_itself;
  comes_back = is_one_of k.back;
  inherited = Some (λ n. not (is_one_of k.lacking n));
}

abbrev pub kept_around : Surroundings → AroundVal
kept_around s = around_by (kept_view s)
