use Rattle.std.proofs.Common.{◌≡◌, ◌∙◌, ◌<◌, ◌∷◌, ◌++◌, length, get_or, map, string_bytes, rules, sym, ap, subst, arith}
use Rattle.tera_workspace.specs.Reported.{AreOfOthers}
use Rattle.tera_workspace.proofs.NewsLemmas.{is_other, is_same, name_pushed, others_done, refused}
use Rattle.tera_workspace.proofs.news.names_of.Goals as goal
use Rattle.tera_workspace.proofs.news.names_of.Goals.{then-not-is_reported_already+in_ok-clone+in_ok-push, else-not-is_reported_already}

pub loop-number-preserved : goal.loop-number-preserved
loop-number-preserved c =
    let js = c.args.all.now.items in
    let news = c.args.news.now.items in
    let at = c.loop-number.number in
    let j = c.judged-item.result in
    let v = c.index.result.now in
    let in_js : at < length js = omega (arith, ap length c.deref-judged-items.ensures.value) in
    let in_news : at < length news = omega (arith, c.requires) in
    let is : j ≡ get_or js at j = c.judged-item.is ∙ ap (λ xs. get_or xs at j) c.deref-judged-items.ensures.value in
    elim c.if-not-is_reported_already.branch [
      | then-not-is_reported_already+in_ok-clone+in_ok-push w ↦ λ rest h.
          let name = string_bytes j.template.file in
          let s = w.in_ok-clone.field-0 in
          let named : string_bytes s ≡ name = search rules in
          subst (AreOfOthers js news)
          (name_pushed c.loop-number.names.items c.if-not-is_reported_already.names.items s name rest (ap (λ names. names.items) w.names-is ∙ w.in_ok-push.ensures.items) named)
          (c.loop-number.invariant (name ∷ rest)
          (is_other js news at j v in_js in_news is c.index.ensures (refused c.is_reported_already.result c.is_reported_already.ensures w.if-not-is_reported_already.true) rest h))
      | else-not-is_reported_already w ↦ λ rest h.
          subst (λ names. AreOfOthers js news (map string_bytes names.items ++ rest)) (sym w.names-is)
          (c.loop-number.invariant rest (is_same js news at j v in_js in_news is c.index.ensures (c.is_reported_already.ensures.0 w.if-not-is_reported_already.false) rest h))
    ]

pub returns : goal.returns
returns c =
    others_done c.args.all.now.items c.args.news.now.items (map string_bytes c.loop-number.names.items) c.loop-number.number
    (omega (arith, ap length c.deref-judged-items.ensures.value)) c.loop-number.invariant
