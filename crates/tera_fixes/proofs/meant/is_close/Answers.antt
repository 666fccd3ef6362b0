use Rattle.std.proofs.Common.{rules, ◌≡◌, ap, length, nat_le}
use Rattle.std.specs.Prelude.{◌/◌}
use Rattle.std.proofs.lemmas.Str.{chars_from_encodes}
use Rattle.std.specs.Str.{chars}
use Rattle.tera_fixes.proofs.meant.is_close.Goals as goal

pub returns : goal.returns
returns c =
    let long : c.count.result ≡ length (chars c.args.name.now) = search (rules, chars_from_encodes) in
    ap (λ n. nat_le c.args.far (n / 3)) long
