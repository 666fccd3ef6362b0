use Rattle.std.proofs.Common.{◌≡◌, ◌∙◌, ℕ, get_or, sym, ap}
use Rattle.std.proofs.lemmas.List.{get_or_read}
use Rattle.text_edits.specs.declared.positions.Position.{Position}
use Rattle.tera_workspace.specs.Diagnostics.{position_in}
use Rattle.tera_workspace.specs.Kept.{sources_of}
use Rattle.tera_workspace.specs.Sources.{text_named}
use Rattle.tera_workspace.specs.declared.judged.Judged.{Judged}
use Rattle.tera_workspace.proofs.NumberLemmas.{text_numbered, text_nowhere, nowhere}
use Rattle.tera_workspace.proofs.diagnostics.ends_in.Goals as goal

pub returns-in-Ok : goal.returns-in-Ok
returns-in-Ok c =
    let items = c.args.all.now.items in
    let e = c.args.encoding in
    let range = c.args.span.now.range in
    let j = c.index.result.now in
    let is : j ≡ get_or items c.in-Ok.number j = get_or_read items c.in-Ok.number j c.in-Ok.ensures.within c.index.ensures j in
    let same : j.text ≡ text_named c.args.name.now (sources_of items) = ap (λ (x : Judged). x.text) is ∙ sym (text_numbered c.args.name.now items c.in-Ok.number j c.in-Ok.ensures) in
    c.ends_of.ensures ∙ ap (λ text. (position_in e text range.start, position_in e text range.end)) same

pub returns-in-Err : goal.returns-in-Err
returns-in-Err c =
    let e = c.args.encoding in
    let range = c.args.span.now.range in
    let first : Position = record { line = 0; character = 0 } in
    let none = text_nowhere c.args.name.now c.args.all.now.items c.in-Err.ensures.none in
    let at_first : (byte : ℕ) → first ≡ position_in e (text_named c.args.name.now (sources_of c.args.all.now.items)) byte = λ byte. sym (ap (λ text. position_in e text byte) none ∙ nowhere e byte) in
    λ i. (at_first range.start i, at_first range.end i)
