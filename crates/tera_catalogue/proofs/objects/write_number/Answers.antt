use Rattle.std.proofs.Common.{rules, ◌≡◌, decimal}
use Rattle.json.proofs.Printed.Decimals.{IsNumber-decimal}
use Rattle.tera_catalogue.proofs.objects.write_number.Goals as goal

pub token-requires-2 : goal.token-requires-2
token-requires-2 c =
    let is : c.as_str.result.now ≡ decimal c.args.number = search rules in
    rw is (IsNumber-decimal c.args.number (search rules))
