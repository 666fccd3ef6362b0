use Rattle.std.proofs.Common.{◌≡◌, ◌∙◌, ◌+◌, ◌-◌, ◌<◌, ◌≤◌, ◌^◌, ◌++◌, length, take, drop, append-nil, ap, sym, arith}
use Rattle.std.proofs.lemmas.List.{length-take-le, take_all}
use Rattle.tera_lexer.specs.grammar.Place.{place_after}
use Rattle.tera_templates.proofs.WalkLemmas.{arrives, further, parts}
use Rattle.tera_templates.proofs.walk.Walk.onward.Goals as goal

pub loop-one-init : goal.loop-one-init
loop-one-init c = λ is. is ∙ ap place_after (sym (append-nil (take c.args.self.byte c.args.text.now)))

pub loop-one-preserved : goal.loop-one-preserved
loop-one-preserved c = λ is.
    let (forward, within, same, long) = c.in-Some.ensures.lookup.0 in
    let front : length (take c.args.self.byte c.args.text.now) ≡ c.args.self.byte =
    length-take-le c.args.self.byte c.args.text.now (omega (arith, forward, within, c.as_bytes.ensures.len)) in
    let small : length (take c.args.self.byte c.args.text.now) + length c.in-Some.between.now + 2 < 2 ^ 64 =
    omega (arith, front, long, within, c.as_bytes.type_inv) in
    further (take c.args.self.byte c.args.text.now) c.in-Some.between.now c.loop-one.one-index c.loop-one.walk c.after-walk.result c.loop-one-test.true small c.after-walk.ensures (c.loop-one.invariant is)

pub returns : goal.returns
returns c = λ is forward within.
    let (onward, inside, same, long) = c.in-Some.ensures.lookup.0 in
    let part : c.in-Some.between.now ≡ take (c.args.byte - c.args.self.byte) (drop c.args.self.byte c.args.text.now) =
    same ∙ ap (λ t. take (c.args.byte - c.args.self.byte) (drop c.args.self.byte t)) c.as_bytes.ensures.value in
    let all : take c.args.self.byte c.args.text.now ++ take c.loop-one.one-index c.in-Some.between.now ≡ take c.args.byte c.args.text.now =
    ap (λ t. take c.args.self.byte c.args.text.now ++ t) (take_all c.loop-one.one-index c.in-Some.between.now c.loop-one-test.false ∙ part)
    ∙ parts c.args.text.now c.args.self.byte c.args.byte forward
    in
    arrives c.args.text.now c.loop-one.walk c.args.byte within (c.loop-one.invariant is ∙ ap place_after all)
