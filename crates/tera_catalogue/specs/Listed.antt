-- The components that are listed, and their order.
use Rattle.std.specs.Prelude.{ℕ, List, [], ◌∷◌, Bool, true, false}
use Rattle.std.specs.BTreeMap.{get_by_text}
use Rattle.std.specs.Cmp.Lexicographic.{slice_cmp}
use Rattle.std.specs.List.Sorted.{IsSortedByKey}
use Rattle.std.specs.Option.{option_map}
use Rattle.std.specs.Ordering.{nat_cmp, ordering_then}
use Rattle.std.specs.declared.cmp.Ordering.{Ordering}
use Rattle.tera_findings.specs.Findings.{place_of}
use Rattle.tera_rules.specs.Judged.{KnownVal}
use Rattle.tera_rules.specs.Judged.{located_if_any}
use Rattle.tera_findings.specs.declared.finding.Place.{Place}
use Rattle.tera_grammar.specs.statements.Reading.Meeting.{Located}
use Rattle.tera_tree.specs.Infos.{Info, info_of, info_view}
use Rattle.tera_catalogue.specs.declared.components.Component.{Component}

-- a component: its name, parameters and metadata, whether its body has anything in it, where it is defined, and where
-- its parameters are
pub record ListedVal : Type 0 where
  pub info : Info
  pub has_body : Bool
  pub file : List ℕ
  pub place : Place
  pub parameters : Located

abbrev pub has_some : {X : Type 0} → List X → Bool
has_some [] = false
has_some (x ∷ xs) = true

abbrev pub listed : KnownVal → ListedVal
listed k = record {
  info = info_of k.definition;
  has_body = has_some k.definition.body;
  file = k.file;
  place = place_of k.span;
  parameters = k.parameters;
}

abbrev pub listed_view : Component → ListedVal
listed_view c = record {
  info = info_view c.info;
  has_body = c.has_body;
  file = c.file.now;
  place = c.place;
  parameters = located_if_any (option_map (λ spans name. get_by_text spans.now name) c.parameters);
}

-- sorted by name, then by file, each in the order of bytes, then by line and column
abbrev pub Rank : Type 0
Rank = List ℕ × List ℕ × ℕ × ℕ

abbrev pub rank_of : ListedVal → Rank
rank_of l = (l.info.name, l.file, l.place.line, l.place.column)

abbrev pub rank_cmp : Rank → Rank → Ordering
rank_cmp a b =
    ordering_then (ordering_then (ordering_then (slice_cmp nat_cmp a.0 b.0) (slice_cmp nat_cmp a.1 b.1)) (nat_cmp a.2 b.2)) (nat_cmp a.3 b.3)

abbrev pub IsInOrder : List ListedVal → Type 0
IsInOrder ls = IsSortedByKey rank_of rank_cmp ls
