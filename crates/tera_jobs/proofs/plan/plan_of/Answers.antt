use Rattle.std.proofs.Common.{◌≡◌, ◌≢◌, ◌∙◌, ap, Some, Err, string_bytes, rules}
use Rattle.tera_lexer.specs.grammar.Marks.{marks_of}
use Rattle.tera_jobs.proofs.PlanLemmas.{has_layout, one_template, memory_refuses, memory_loses, memory_names}
use Rattle.tera_jobs.proofs.plan.plan_of.Goals as goal

pub returns-in_err-read-clause-complete : goal.returns-in_err-read-clause-complete
returns-in_err-read-clause-complete c = λ tree d.
    let same : c.from_residual.result ≡ Err c.in_err-read.field-0.0 = search rules in
    rw same (c.in_err-read.ensures.complete tree d)

pub returns-in_err-layout-clause-complete : goal.returns-in_err-layout-clause-complete
returns-in_err-layout-clause-complete c = λ tree d.
    let (other, is) = has_layout (marks_of c.args.markers.now) c.requires.valid c.args.source.now (tree, d) in
    let same : c.from_residual-in_err-layout.result ≡ Err c.in_err-layout.field-0.0 = search rules in
    rw same (c.in_err-layout.ensures.complete other is)

pub returns-in_err-layout-clause-notes : goal.returns-in_err-layout-clause-notes
returns-in_err-layout-clause-notes c =
    let (other, is) = has_layout (marks_of c.args.markers.now) c.requires.valid c.args.source.now c.in_ok-read.ensures.sound in
    let same : c.from_residual-in_err-layout.result ≡ Err c.in_err-layout.field-0.0 = search rules in
    rw same (memory_names c.args.file.now c.in_err-layout.field-0.0 (c.in_err-layout.ensures.complete other is))

pub returns-in_err-layout-clause-refusal : goal.returns-in_err-layout-clause-refusal
returns-in_err-layout-clause-refusal c =
    let (other, is) = has_layout (marks_of c.args.markers.now) c.requires.valid c.args.source.now c.in_ok-read.ensures.sound in
    let same : c.from_residual-in_err-layout.result ≡ Err c.in_err-layout.field-0.0 = search rules in
    rw same (memory_refuses (marks_of c.args.markers.now) c.args.source.now c.in_err-layout.field-0.0 (c.in_err-layout.ensures.complete other is))

pub returns-in_err-layout-clause-lost : goal.returns-in_err-layout-clause-lost
returns-in_err-layout-clause-lost c =
    let (other, is) = has_layout (marks_of c.args.markers.now) c.requires.valid c.args.source.now c.in_ok-read.ensures.sound in
    let same : c.from_residual-in_err-layout.result ≡ Err c.in_err-layout.field-0.0 = search rules in
    rw same (memory_loses (marks_of c.args.markers.now) c.args.source.now c.in_err-layout.field-0.0 (c.in_err-layout.ensures.complete other is))

pub returns-then-eq-clause-sound : goal.returns-then-eq-clause-sound
returns-then-eq-clause-sound c =
    let same : string_bytes c.in_ok-layout.layout ≡ c.args.source.now = search rules in
    (c.in_ok-read.ensures.sound, c.in_ok-layout.ensures.sound ∙ ap Some same)

pub returns-then-eq-clause-complete : goal.returns-then-eq-clause-complete
returns-then-eq-clause-complete c = λ tree d.
    let same : string_bytes c.in_ok-layout.layout ≡ c.args.source.now = search rules in
    (c.in_ok-read.ensures.sound, c.in_ok-layout.ensures.sound ∙ ap Some same)

pub returns-else-eq-clause-sound : goal.returns-else-eq-clause-sound
returns-else-eq-clause-sound c =
    let other : string_bytes c.in_ok-layout.layout ≢ c.args.source.now = search rules in
    (c.in_ok-layout.ensures.sound, other, one_template _ c.requires.valid c.requires.steady c.args.source.now _ c.in_ok-layout.ensures.sound c.in_ok-read.ensures.sound)

pub returns-else-eq-clause-complete : goal.returns-else-eq-clause-complete
returns-else-eq-clause-complete c = λ tree d.
    let other : string_bytes c.in_ok-layout.layout ≢ c.args.source.now = search rules in
    (c.in_ok-layout.ensures.sound, other, one_template _ c.requires.valid c.requires.steady c.args.source.now _ c.in_ok-layout.ensures.sound c.in_ok-read.ensures.sound)
