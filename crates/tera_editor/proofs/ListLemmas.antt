-- What the program registers, by the lists of settings.
use Rattle.std.proofs.Common.{◌≡◌, Option, None, Some, String, Vec, refl}
use Rattle.std.specs.Option.{is_some}
use Rattle.std.specs.declared.alloc.Global.{Global}
use Rattle.tera_rules.specs.Registered.{AreListed, RegisteredVal}
use Rattle.tera_editor.specs.Settings.{SettingsVal, list_in, registered_in}

pub same_registered : (settings : SettingsVal) (r : RegisteredVal) → AreListed settings.filters settings.tests settings.functions r → r ≡ registered_in settings
same_registered settings r are = λ i. record {
  filters = λ n. are.by_filters n i;
  tests = λ n. are.by_tests n i;
  functions = λ n. are.by_functions n i;
}

pub listed_alike : (list : Option (Vec (String Global) Global)) → is_some list ≡ is_some (list_in list)
listed_alike None = refl
listed_alike (Some names) = refl
