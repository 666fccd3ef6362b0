use Rattle.std.proofs.Common.{◌∙◌, ℕ, List, Bor, ap, unwrap_or}
use Rattle.tera_options.proofs.Defaults.{unwrap_or-map}
use Rattle.tera_options.proofs.job.text_or.Goals as goal

pub returns : goal.returns
returns c =
    ap (λ (t : Bor (List ℕ)). t.now) c.unwrap_or.ensures ∙ unwrap_or-map (λ (t : Bor (List ℕ)). t.now) c.text.result c.args.default
    ∙ ap (λ o. unwrap_or o c.args.default.now) c.text.ensures
