use Rattle.std.proofs.Common.{◌≡◌, ◌∙◌, ◌<◌, length, get_or, sym, ap, subst, arith}
use Rattle.std.proofs.lemmas.List.{length_push}
use Rattle.tera_workspace.specs.Kept.{IsWhole}
use Rattle.tera_workspace.specs.declared.judged.Judged.{Judged}
use Rattle.tera_workspace.proofs.CurrentLemmas.{all_at}
use Rattle.tera_workspace.proofs.NewsLemmas.{AreNewsSoFar, news_next, all_news}
use Rattle.tera_workspace.proofs.NeedsLemmas.{needs_at}
use Rattle.tera_workspace.proofs.news.news_of.Goals as goal

pub loop-number-preserved : goal.loop-number-preserved
loop-number-preserved c =
    let js = c.args.all.now.items in
    let at = c.loop-number.number in
    let j = c.judged-item.result in
    let v = c.in_ok-news_of_one.field-0 in
    let within : at < length js = omega (arith, ap length c.deref-judged-items.ensures.value) in
    let is : j ≡ get_or js at j = c.judged-item.is ∙ ap (λ xs. get_or xs at j) c.deref-judged-items.ensures.value in (
      omega (arith, ap length c.in_ok-push.ensures.items, length_push c.loop-number.news.items v, c.loop-number.invariant.0),
      λ whole.
          let one : IsWhole j = subst (λ (x : Judged). IsWhole x) (sym is) (all_at IsWhole js at j whole within) in
          subst (AreNewsSoFar c.args.encoding js) (sym c.in_ok-push.ensures.items)
          (news_next c.args.encoding js c.loop-number.news.items v at j c.loop-number.invariant.0 within is (c.in_ok-news_of_one.ensures one) (c.loop-number.invariant.1 whole)),
    )

pub returns-clause-news : goal.returns-clause-news
returns-clause-news c = λ whole.
    let as_many : length c.loop-number.news.items ≡ length c.args.all.now.items = omega (arith, ap length c.deref-judged-items.ensures.value, c.loop-number.invariant.0) in
    all_news c.args.encoding c.args.all.now.items c.loop-number.news.items as_many (c.loop-number.invariant.1 whole)

pub news_of_one-requires : goal.news_of_one-requires
news_of_one-requires c = record {
  ordered = c.requires;
  known = λ stale n among.
      let js = c.args.all.now.items in
      let at = c.loop-number.number in
      let j = c.judged-item.result in
      let within : at < length js = omega (arith, ap length c.deref-judged-items.ensures.value) in
      let is : j ≡ get_or js at j = c.judged-item.is ∙ ap (λ xs. get_or xs at j) c.deref-judged-items.ensures.value in
      c.in_ok-catalogue.ensures n (needs_at c.in_ok-needed.needed js at j within is c.in_ok-needed.ensures stale n among);
  is_open = c.are_open-is_open.ensures;
}

pub returns-clause-as_many : goal.returns-clause-as_many
returns-clause-as_many c = omega (arith, ap length c.deref-judged-items.ensures.value, c.loop-number.invariant.0)
