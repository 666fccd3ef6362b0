use Rattle.std.proofs.Common.{◌≡◌, ◌∙◌, string_bytes, sym}
use Rattle.std.proofs.lemmas.Slice.Eq.{bytes_eq-Decides}
use Rattle.tera_workspace.proofs.sites.is_kept.Goals as goal

pub returns-then-eq : goal.returns-then-eq
returns-then-eq c = λ e.
    let kept = c.args.kept.now in
    let judged = c.args.judged.now in
    let file : string_bytes kept.file ≡ string_bytes judged.template.file =
    (bytes_eq-Decides (string_bytes kept.file) (string_bytes judged.template.file)).0 (sym c.eq.ensures ∙ c.if-eq.true) in
    let page = c.same_page.ensures.0 e in
    λ i. record { file = file i; page = page i }
