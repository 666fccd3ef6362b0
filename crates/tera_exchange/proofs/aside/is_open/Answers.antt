use Rattle.std.proofs.Common.{◌∙◌, string_bytes, rules}
use Rattle.std.proofs.lemmas.Iterator.{YieldsList-from_slice}
use Rattle.std.proofs.lemmas.Iterator.Search.{any_from_yields_List}
use Rattle.std.specs.Str.{bytes_eq}
use Rattle.tera_server.proofs.WithName.{any_name}
use Rattle.tera_exchange.proofs.aside.is_open.Goals as goal

pub returns : goal.returns
returns c =
    any_from_yields_List (λ m. bytes_eq (string_bytes m) c.args.path.now) _ _ _ c.any.ensures.ran (YieldsList-from_slice c.args.folders.now cc) (λ x b q k. search rules)
    ∙ any_name c.args.path.now c.args.folders.now
