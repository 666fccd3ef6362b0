use Rattle.std.proofs.Common.{rules, ◌≡◌, ◌≤◌, false, nat_lt}
use Rattle.std.specs.Prelude.{unsigned_abs}
use Rattle.std.specs.Fmt.{signed_decimal}
use Rattle.std.proofs.lemmas.Bool.{le-ltb}
use Rattle.tera_tree_json.proofs.constants.put_i64.Goals as goal

pub returns : goal.returns
returns c =
    let most : 9007199254740992 ≤ unsigned_abs c.args.n = search rules in
    let large : nat_lt (unsigned_abs c.args.n) 9007199254740992 ≡ false = le-ltb _ _ most in
    let digits : c.format.result.now ≡ signed_decimal c.args.n = search rules in
    rw (large, ← digits) c.put_digits.ensures
