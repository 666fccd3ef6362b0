use Rattle.std.proofs.Common.{refl, arith}
use Rattle.tera_editor.proofs.SiteLemmas.{around_same}
use Rattle.tera_editor.proofs.sites.Sites.set_presence.Goals as goal

pub loop-number-init : goal.loop-number-init
loop-number-init c =
    let s = c.args.self.now in
    record { around = around_same s; given = λ g. g; renewed = refl; done = λ k d below. absurd (omega (arith, below)); rest = λ k d above. refl }
