use Rattle.std.proofs.Common.{◌≡◌, ◌∙◌, ◌<◌, None, length, set, sym, ap, arith}
use Rattle.tera_workspace.specs.Reported.{reported_one}
use Rattle.tera_workspace.proofs.NewsLemmas.{one_reported_more, none_reported_more}
use Rattle.tera_workspace.proofs.SettleLemmas.{News}
use Rattle.tera_workspace.proofs.news.report.Goals as goal
use Rattle.tera_workspace.proofs.news.report.Goals.{in-Some, in_default}

pub loop-number-preserved : goal.loop-number-preserved
loop-number-preserved c =
    let at = c.loop-number.number in
    let old = c.args.all.now.items in
    let now = c.loop-number.all.items in
    let left = c.loop-number.news.items in
    let v = c.index_mut.result.now in
    let within : at < length old = omega arith in
    elim c.match-take.branch [
      | in-Some w ↦
          let j = w.index_mut-judged.result.now in
          one_reported_more at old now c.match-take.all.items c.args.news.items left (set left at c.take.new.self) j v within c.requires
          w.index_mut-judged.ensures.value c.index_mut.ensures.value
          (ap (λ xs. xs.items) w.all-is ∙ ap (λ (x : News). set now at (reported_one j x)) (sym w.in-Some.is ∙ c.take.ensures.value))
          (ap (set left at) c.take.ensures.after) c.loop-number.invariant
      | in_default w ↦
          let none : v ≡ None = sym c.take.ensures.value ∙ w.in_default.is in
          none_reported_more at old now c.match-take.all.items c.args.news.items left (set left at c.take.new.self) v within c.requires
          c.index_mut.ensures.value none (ap (λ xs. xs.items) w.all-is) (ap (set left at) c.take.ensures.after) c.loop-number.invariant
    ]
