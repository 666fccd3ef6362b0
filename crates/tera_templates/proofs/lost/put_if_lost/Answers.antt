use Rattle.std.proofs.Common.{◌≡◌, ◌≤◌, ◌∙◌, ap, sym, false, true, arith}
use Rattle.std.proofs.lemmas.Result.{IfOk-weaker}
use Rattle.tera_templates.specs.Lost.{HasBetween}
use Rattle.tera_templates.proofs.PlaceLemmas.{between, kept, left_out, some_of}
use Rattle.tera_templates.proofs.lost.put_if_lost.Goals as goal

pub returns-in-None : goal.returns-in-None
returns-in-None c = λ is.
    let ends = between c.args.source.now c.args.start c.args.end c.utf8.source is in
    let some = some_of c.args.source.now c.args.start c.args.end is in
    absurd (c.in-None.ensures.cases (omega (arith, some.0)) ends.0 ends.1)

pub returns-then-is_between : goal.returns-then-is_between
returns-then-is_between c = λ is. left_out c.args.source.now c.args.text.now c.in-Some.word.now c.args.lost.now c.args.start c.args.end c.in-Some.ensures.cases.0 (c.is_between.ensures.0 c.if-is_between.true)

pub returns-else-is_between : goal.returns-else-is_between
returns-else-is_between c = λ is.
    let other : HasBetween c.args.text.now c.in-Some.word.now c.args.start c.args.end → ⊥ = λ has. let e : true ≡ false = sym (c.is_between.ensures.1 has) ∙ c.if-is_between.false in cc in
    IfOk-weaker c.put_place.result _ _ (λ _ put. kept c.args.source.now c.args.text.now c.in-Some.word.now c.args.lost.now c.put_place.new.places c.args.start c.args.end is
    c.in-Some.ensures.cases.0 c.in-Some.ensures.cases.1 other put) c.put_place.ensures
