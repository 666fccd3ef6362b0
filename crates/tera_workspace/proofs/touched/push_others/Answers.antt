use Rattle.std.proofs.Common.{◌≡◌, ◌∙◌, ◌<◌, length, rules, arith, ap, sym, map, string_bytes, inl, inr}
use Rattle.tera_workspace.specs.Names.{is_among}
use Rattle.tera_workspace.proofs.TouchedLemmas.{pair_next, two_pushed}
use Rattle.tera_workspace.proofs.touched.push_others.Goals as goal
use Rattle.tera_workspace.proofs.touched.push_others.Goals.{then-not-have_one_head+in_ok-clone+in_ok-push+in_ok-clone-2+in_ok-push-2, else-not-have_one_head}

pub loop-at-preserved : goal.loop-at-preserved
loop-at-preserved c = λ n free rest.
    let before = c.args.before.now in
    let after = c.args.after.now in
    let at = c.loop-at.at in
    let one = c.index-before-at.result in
    let other = c.index-after-at.result in
    let in_before : at < length before = omega arith in
    let in_after : at < length after = omega (arith, c.requires) in
    elim c.if-not-have_one_head.branch [
      | then-not-have_one_head+in_ok-clone+in_ok-push+in_ok-clone-2+in_ok-push-2 w ↦
          let first : string_bytes w.in_ok-clone.field-0 ≡ string_bytes one.name = search rules in
          let last : string_bytes w.in_ok-clone-2.field-0 ≡ string_bytes other.name = search rules in
          let (had, apart) = two_pushed c.loop-at.touched.items w.push.new.self.items w.push-then-not-have_one_head.new.self.items w.in_ok-clone.field-0 w.in_ok-clone-2.field-0
          (string_bytes one.name) (string_bytes other.name) n w.in_ok-push.ensures.items first w.in_ok-push-2.ensures.items last
          (sym (ap (λ t. is_among n (map string_bytes t.items)) w.touched-is) ∙ free) in
          c.loop-at.invariant n had
          (pair_next n before after at one other in_before c.index-before-at.is in_after c.index-after-at.is (inr apart) rest)
      | else-not-have_one_head w ↦
          c.loop-at.invariant n (sym (ap (λ t. is_among n (map string_bytes t.items)) w.touched-is) ∙ free)
          (pair_next n before after at one other in_before c.index-before-at.is in_after c.index-after-at.is
          (inl (c.have_one_head.ensures w.if-not-have_one_head.false)) rest)
    ]
