-- What stands for a value that is not there.
use Rattle.std.proofs.Common.{◌≡◌, refl, Option, Some, None, option_map, unwrap_or}
use Rattle.std.specs.Option.{option_or}

pub unwrap_or-map : {X Y : Type 0} (f : X → Y) (o : Option X) (default : X) → f (unwrap_or o default) ≡ unwrap_or (option_map f o) (f default)
unwrap_or-map f None default = refl
unwrap_or-map f (Some x) default = refl

pub or_map : {X Y : Type 0} (f : X → Y) (o p : Option X) → option_map f (option_or o p) ≡ option_or (option_map f o) (option_map f p)
or_map f None p = refl
or_map f (Some x) p = refl
