use Rattle.std.proofs.Common.{◌≡◌, ◌+◌, ◌*◌, ◌∷◌, [], ◌++◌, take, length, Ok, sym, ap, subst, ◌∙◌, arith}
use Rattle.std.proofs.lemmas.List.{take_all}
use Rattle.std.specs.declared.alloc.AllocError.{AllocError}
use Rattle.json.specs.Print.{escape}
use Rattle.json_rpc.specs.Room.{Adds}
use Rattle.json_rpc.proofs.Adding.{adds_more, adds_within}
use Rattle.json_rpc.proofs.Escapes.{escape-more}
use Rattle.json_rpc.proofs.refusing.push_quoted.Goals as goal

pub loop-byte-init : goal.loop-byte-init
loop-byte-init c = c.in_ok-push.ensures

pub loop-byte-preserved : goal.loop-byte-preserved
loop-byte-preserved c =
    let i = c.loop-byte.byte-index in
    subst (λ l. Adds {E = AllocError} (Ok tt) c.args.out.now c.push_escaped.new.out (34 ∷ l) (1 + 6 * (i + 1)))
    (sym (escape-more c.as_bytes-bytes.result.now i c.loop-byte-test.true))
    (adds_within (1 + 6 * (i + 1)) (adds_more c.loop-byte.invariant c.in_ok-push_escaped.ensures) (omega arith))

pub returns : goal.returns
returns c =
    let i = c.loop-byte.byte-index in
    let all : take i c.as_bytes-bytes.result.now ≡ c.args.text.now =
    take_all i c.as_bytes-bytes.result.now c.loop-byte-test.false ∙ c.as_bytes-bytes.ensures.value in
    adds_within (6 * length c.args.text.now + 2)
    (subst (λ l. Adds c.push-2.result c.args.out.now c.push-2.new.out (34 ∷ (escape l ++ 34 ∷ [])) (1 + 6 * i + 1)) all
    (adds_more c.loop-byte.invariant c.push-2.ensures))
    (omega (arith, ap length c.as_bytes-bytes.ensures.value))
