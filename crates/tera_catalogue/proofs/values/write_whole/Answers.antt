use Rattle.std.proofs.Common.{rules, ◌≡◌}
use Rattle.std.specs.Fmt.{signed_decimal}
use Rattle.json.proofs.Printed.Decimals.{IsNumber-signed_decimal}
use Rattle.tera_catalogue.proofs.values.write_whole.Goals as goal

pub token-requires : goal.token-requires
token-requires c =
    let is : c.as_str.result.now ≡ signed_decimal c.args.whole = search rules in
    rw is (IsNumber-signed_decimal c.args.whole (search rules))
