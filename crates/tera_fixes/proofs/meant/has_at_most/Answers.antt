use Rattle.std.proofs.Common.{rules, ◌≡◌, ap, length, nat_le}
use Rattle.std.proofs.lemmas.Str.{chars_from_encodes}
use Rattle.std.specs.Str.{chars}
use Rattle.tera_fixes.proofs.meant.has_at_most.Goals as goal

pub returns : goal.returns
returns c =
    let long : c.count.result ≡ length (chars c.args.text.now) = search (rules, chars_from_encodes) in
    ap (λ n. nat_le n c.args.most) long
