use Rattle.std.proofs.Common.{◌≡◌, ◌∙◌, ◌++◌, ◌∷◌, ◌+◌, [], inl, true, map, string_bytes, take, refl, sym, ap, subst}
use Rattle.std.proofs.lemmas.List.{take_all}
use Rattle.tera_workspace.specs.Names.{is_among}
use Rattle.tera_editor.specs.Sites.{AreStillKnown, is_absent_in}
use Rattle.tera_editor.proofs.SiteLemmas.{IsAssumedSoFar, assumed_news, assumed_none, assumed_said, assumed_same, assumed_some, known_on, names_next}
use Rattle.tera_editor.proofs.sites.assume_each.Goals as goal
use Rattle.tera_editor.proofs.sites.assume_each.Goals.{then-not-is_absent+in_ok-add_new, else-not-is_absent}

pub loop-name-init : goal.loop-name-init
loop-name-init c = assumed_none c.args.presences.now c.args.has_news.now

pub loop-name-preserved : goal.loop-name-preserved
loop-name-preserved c =
    let names = c.args.names.now in
    let k = c.loop-name.name-index in
    let m = c.args.presences.now in
    let was = c.args.has_news.now in
    let n = c.loop-name.presences in
    let news = c.loop-name.has_news in
    let some = c.loop-name.some in
    let name = c.name-item.result in
    let now = c.if-not-is_absent in
    let so_far = map string_bytes (take k names) in
    elim c.if-not-is_absent.branch [
      | then-not-is_absent+in_ok-add_new w ↦
          assumed_some so_far (map string_bytes (take (k + 1) names)) some now.some was news now.has_news m n now.presences w.some-is w.has_news-is
          (subst (AreStillKnown n) (sym w.presences-is) w.add_new.ensures.known) c.loop-name.invariant
      | else-not-is_absent w ↦
          let absent : is_absent_in n (string_bytes name) ≡ true = ap (is_absent_in n) (sym c.as_str.ensures.value) ∙ sym c.is_absent.ensures ∙ w.if-not-is_absent.false in
          subst (λ ns. IsAssumedSoFar ns now.some m now.presences was now.has_news) (sym (names_next names k name c.loop-name-test.true c.name-item.is))
          (assumed_same (so_far ++ string_bytes name ∷ []) some now.some was news now.has_news m n now.presences w.some-is w.has_news-is w.presences-is
          (assumed_said so_far (string_bytes name) some was news m n absent c.loop-name.invariant))
    ]

pub returns-in_err-add_new-clause-news : goal.returns-in_err-add_new-clause-news
returns-in_err-add_new-clause-news c = inl refl

pub returns-clause-said : goal.returns-clause-said
returns-clause-said c = λ e n among.
    c.loop-name.invariant.said e n (subst (λ xs. is_among n (map string_bytes xs) ≡ true) (sym (take_all c.loop-name.name-index c.args.names.now c.loop-name-test.false)) among)

pub returns-clause-known : goal.returns-clause-known
returns-clause-known c = c.loop-name.invariant.known

pub returns-in_err-add_new-clause-known : goal.returns-in_err-add_new-clause-known
returns-in_err-add_new-clause-known c = known_on c.args.presences.now c.loop-name.presences c.add_new.new.presences c.loop-name.invariant.known c.add_new.ensures.known

pub returns-clause-none : goal.returns-clause-none
returns-clause-none c = c.loop-name.invariant.none

pub returns-clause-news : goal.returns-clause-news
returns-clause-news c =
    assumed_news (map string_bytes (take c.loop-name.name-index c.args.names.now)) c.loop-name.some c.args.has_news.now c.loop-name.has_news c.args.presences.now c.loop-name.presences c.loop-name.invariant
