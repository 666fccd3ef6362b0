use Rattle.std.proofs.Common.{◌∙◌, ◌+◌, ◌||◌, ap, sym, subst, take}
use Rattle.tera_workspace.specs.Kept.{NeedsAll}
use Rattle.tera_workspace.specs.Names.{is_among, contains_name}
use Rattle.tera_workspace.proofs.NameSets.{name_added, all_added}
use Rattle.tera_workspace.proofs.NeedsLemmas.{needs_added, needs_passed}
use Rattle.tera_workspace.proofs.news.needed_of.Goals as goal
use Rattle.tera_workspace.proofs.news.needed_of.Goals.{then-judged+else-loop-name-test, else-judged}

pub loop-name-preserved : goal.loop-name-preserved
loop-name-preserved c = λ n.
    c.loop-name.invariant n
    ∙ name_added c.as_slice-name-items.result.now c.loop-name.name-index c.name-item.result c.as_str.result c.loop-name.needed c.insert.new.self
    c.loop-name-test.true c.name-item.is c.as_str.ensures.value c.in_ok-insert.ensures.updates n

pub loop-judged-preserved : goal.loop-judged-preserved
loop-judged-preserved c =
    let js = c.deref-judged-items.result.now in
    let i = c.loop-judged.judged-index in
    let j = c.judged-item.result in
    elim c.if-judged.branch [
      | then-judged+else-loop-name-test w ↦
          let names = w.as_slice-name-items.result.now in
          subst (λ needed. NeedsAll needed (take (i + 1) js)) (sym w.needed-is)
          (needs_added c.loop-judged.needed w.loop-name.needed js i j c.loop-judged-test.true c.judged-item.is
          (λ n. all_added names w.loop-name.name-index c.loop-judged.needed w.loop-name.needed w.loop-name-test.false w.loop-name.invariant n
          ∙ ap (λ ns. contains_name c.loop-judged.needed n || is_among n ns) w.as_slice-name-items.ensures)
          c.loop-judged.invariant)
      | else-judged w ↦
          subst (λ needed. NeedsAll needed (take (i + 1) js)) (sym w.needed-is)
          (needs_passed c.loop-judged.needed js i j c.loop-judged-test.true c.judged-item.is w.if-judged.false c.loop-judged.invariant)
    ]
