use Rattle.std.proofs.Common.{length, map, string_bytes, refl, sym, ap, subst}
use Rattle.tera_editor.specs.Sites.{HasOthers}
use Rattle.tera_editor.proofs.SiteLemmas.{EachBelow, adds_none, adds_on, around_same, keeps_same}
use Rattle.tera_editor.proofs.sites.Sites.renew.Goals as goal

pub rounds-init : goal.rounds-init
rounds-init c = (adds_none (map string_bytes c.args.names.now.items) c.args.self.now c.args.self.now refl (around_same c.args.self.now) (keeps_same c.args.self.now), λ g. g)

pub rounds-preserved : goal.rounds-preserved
rounds-preserved c =
    let first = map string_bytes c.args.names.now.items in
    let before = map string_bytes c.rounds.names.items in
    let now = map string_bytes c.renew_each.new.names.items in
    let t = c.renew_each.new.self in
    let u = c.assume.new.self in (
      adds_on first now now c.args.self.now t u (adds_on first before now c.args.self.now c.rounds.self t c.rounds.invariant.0 c.renew_each.ensures.names)
          (adds_none now t u (ap (λ v. map string_bytes v.items) c.assume.ensures.renewed) c.assume.ensures.sites c.assume.ensures.known),
      λ g. c.assume.ensures.given (c.renew_each.ensures.given (c.rounds.invariant.1 g)),
    )

pub returns-in_err-renew_each-clause-names : goal.returns-in_err-renew_each-clause-names
returns-in_err-renew_each-clause-names c =
    adds_on (map string_bytes c.args.names.now.items) (map string_bytes c.rounds.names.items) (map string_bytes c.renew_each.new.names.items) c.args.self.now c.rounds.self c.renew_each.new.self
    c.rounds.invariant.0 c.renew_each.ensures.names

pub returns-in_err-assume-clause-given : goal.returns-in_err-assume-clause-given
returns-in_err-assume-clause-given c = λ g. c.assume.ensures.given (c.renew_each.ensures.given (c.rounds.invariant.1 g))

pub returns-in_err-assume-clause-names : goal.returns-in_err-assume-clause-names
returns-in_err-assume-clause-names c =
    let first = map string_bytes c.args.names.now.items in
    let before = map string_bytes c.rounds.names.items in
    let now = map string_bytes c.renew_each.new.names.items in
    let t = c.renew_each.new.self in
    let u = c.assume.new.self in
    adds_on first now now c.args.self.now t u (adds_on first before now c.args.self.now c.rounds.self t c.rounds.invariant.0 c.renew_each.ensures.names)
    (adds_none now t u (ap (λ v. map string_bytes v.items) c.assume.ensures.renewed) c.assume.ensures.sites c.assume.ensures.known)

pub returns-then-not-branch-clause-others : goal.returns-then-not-branch-clause-others
returns-then-not-branch-clause-others c = λ g.
    subst (λ xs. EachBelow HasOthers (length xs) xs) (sym (c.in_ok-assume.ensures.same c.if-not-branch.true)) (c.in_ok-renew_each.ensures.others (c.rounds.invariant.1 g))

pub returns-then-not-branch-clause-given : goal.returns-then-not-branch-clause-given
returns-then-not-branch-clause-given c = λ g. c.assume.ensures.given (c.renew_each.ensures.given (c.rounds.invariant.1 g))

pub returns-then-not-branch-clause-names : goal.returns-then-not-branch-clause-names
returns-then-not-branch-clause-names c =
    let first = map string_bytes c.args.names.now.items in
    let before = map string_bytes c.rounds.names.items in
    let now = map string_bytes c.renew_each.new.names.items in
    let t = c.renew_each.new.self in
    let u = c.assume.new.self in
    adds_on first now now c.args.self.now t u (adds_on first before now c.args.self.now c.rounds.self t c.rounds.invariant.0 c.renew_each.ensures.names)
    (adds_none now t u (ap (λ v. map string_bytes v.items) c.assume.ensures.renewed) c.assume.ensures.sites c.assume.ensures.known)
