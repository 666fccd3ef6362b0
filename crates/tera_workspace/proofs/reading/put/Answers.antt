use Rattle.std.proofs.Common.{◌≡◌, ◌∙◌, true, ap, sym}
use Rattle.std.specs.Str.{bytes_eq}
use Rattle.std.proofs.lemmas.Slice.Eq.{bytes_eq-Decides}
use Rattle.tera_workspace.specs.declared.judged.Judged.{Judged}
use Rattle.tera_workspace.proofs.ReadingLemmas.{text_stays}
use Rattle.tera_workspace.proofs.reading.put.Goals as goal

pub returns-in-Ok-clause-read : goal.returns-in-Ok-clause-read
returns-in-Ok-clause-read c =
    let j = c.index.result.now in
    let equal : bytes_eq c.as_str.result.now c.args.text.now ≡ true = sym c.eq.ensures ∙ c.if-eq.true in
    text_stays c.args.name.now c.args.text.now c.args.all.now.items c.in-Ok.number j c.in-Ok.ensures
    (sym (ap (λ (x : Judged). x.text) c.index.ensures) ∙ sym c.as_str.ensures ∙ (bytes_eq-Decides c.as_str.result.now c.args.text.now).0 equal)
