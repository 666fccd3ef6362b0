-- What a call passes by its attributes: values under names, in their order.
use Rattle.std.specs.Prelude.{◌≡◌, ℕ, List, [], ◌∷◌, ◌++◌, Bool, true, false, if◌then◌else◌, Option, None, Some, string_bytes}
use Rattle.std.specs.BTreeSet.{contains_text}
use Rattle.std.specs.Option.{option_map}
use Rattle.std.specs.Str.{bytes_eq}
use Rattle.tera_base.specs.Values.{KeyVal, TextKey, Val, Map, Pairs, NoPairs, OnePair}
use Rattle.tera_base.specs.ValueView.{key_view, value_view}
use Rattle.tera_base.specs.declared.utils.Span.{Span}
use Rattle.tera_ast.specs.Spans.{expr_span}
use Rattle.tera_ast.specs.Tree.{Expr, Const, Entries, NoEntries, Entry, SpreadEntry}
use Rattle.tera_ast.specs.declared.ast.MapEntryOf.{MapEntryOf}
use Rattle.tera_ast.specs.declared.ast.MapEntryOf.TheVariants as entries
use Rattle.tera_rules.specs.declared.passed.Named.{Named}
use Rattle.tera_rules.specs.declared.passed.Names.{Names}
use Rattle.tera_rules.specs.declared.passed.Passed.{Passed}
use Rattle.tera_rules.specs.declared.passed.Passed.TheVariants as code

-- a value under a name: where it is, and which it is, if it is a constant
pub record NamedVal : Type 0 where
  pub name : List ℕ
  pub span : Span
  pub constant : Option Val

-- a value under a name, or whatever a spread has that is not a constant map
pub data PassedVal : Type 0 where
  OneNamed : NamedVal → PassedVal
  Whatever : PassedVal

abbrev pub named_view : Named → NamedVal
named_view n = record {
  name = string_bytes n.name.now;
  span = n.span.now;
  constant = option_map (λ v. value_view v.now) n.constant;
}

abbrev pub passed_view : Passed → PassedVal
passed_view (code.Named n) = OneNamed (named_view n)
passed_view code.Any = Whatever

-- the value of a constant
abbrev pub constant_of : Expr → Option Val
constant_of (Const v span) = Some v
constant_of _ = None

-- what a value under a key passes: nothing, if the key is not text
abbrev pub under_key : KeyVal → Span → Option Val → List PassedVal
under_key (TextKey n) span v = OneNamed (record { name = n; span = span; constant = v }) ∷ []
under_key _ span v = []

abbrev pub by_pairs : Span → Pairs → List PassedVal
by_pairs span NoPairs = []
by_pairs span (OnePair k v ps) = under_key k span (Some v) ++ by_pairs span ps

abbrev pub by_constant : Val → Span → List PassedVal
by_constant (Map ps) span = by_pairs span ps
by_constant _ span = Whatever ∷ []

abbrev pub by_spread : Option Val → Span → List PassedVal
by_spread (Some v) span = by_constant v span
by_spread None span = Whatever ∷ []

abbrev pub passed_by : Entries → List PassedVal
passed_by NoEntries = []
passed_by (Entry k e es) = under_key k (expr_span e) (constant_of e) ++ passed_by es
passed_by (SpreadEntry e es) = by_spread (constant_of e) (expr_span e) ++ passed_by es

-- what one attribute passes
abbrev pub passed_by_one : MapEntryOf Expr → List PassedVal
passed_by_one (entries.KeyValue k e) = under_key (key_view k) (expr_span e) (constant_of e)
passed_by_one (entries.Spread e) = by_spread (constant_of e) (expr_span e)

-- whether something is passed under a name, and whether something is passed whose names are not known
abbrev pub is_under : List ℕ → PassedVal → Bool
is_under n (OneNamed p) = bytes_eq p.name n
is_under n Whatever = false

abbrev pub is_whatever : PassedVal → Bool
is_whatever (OneNamed p) = false
is_whatever Whatever = true

abbrev pub is_passed : List ℕ → List PassedVal → Bool
is_passed n [] = false
is_passed n (p ∷ ps) = if is_under n p then true else is_passed n ps

abbrev pub has_whatever : List PassedVal → Bool
has_whatever [] = false
has_whatever (p ∷ ps) = if is_whatever p then true else has_whatever ps

-- the names under which these are passed, and whether there are more
pub record AreNamesOf (names : Names) (ps : List PassedVal) : Type 0 where
  pub under : (n : List ℕ) → contains_text names.under n ≡ is_passed n ps
  pub more : names.more ≡ has_whatever ps

abbrev pub is_in : Names → PassedVal → Bool
is_in names (OneNamed p) = contains_text names.under p.name
is_in names Whatever = false
