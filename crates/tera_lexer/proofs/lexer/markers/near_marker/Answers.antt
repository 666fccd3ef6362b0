use Rattle.std.proofs.Common.{◌≡◌, ◌∙◌, sym, subst, arith}
use Rattle.std.proofs.lemmas.List.{take_rest}
use Rattle.memchr.specs.Find.{Nowhere, OccursAt}
use Rattle.tera_lexer.proofs.Finding.{nowhere_near}
use Rattle.tera_lexer.proofs.lexer.markers.near_marker.Goals as goal

pub loop-i-preserved : goal.loop-i-preserved
loop-i-preserved c =
    let test = rw take_rest at c.begins.ensures in
    nowhere_near c.args.marker.now c.args.bytes.now c.loop-i.i c.loop-i.invariant (sym test ∙ c.if-begins.false)

pub returns : goal.returns
returns c =
    let end : c.loop-i.i ≡ c.args.near = omega arith in
    subst (λ n. Nowhere (OccursAt c.args.bytes.now c.args.marker.now) 0 n) end c.loop-i.invariant
