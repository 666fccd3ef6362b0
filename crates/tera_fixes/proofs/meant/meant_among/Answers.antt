use Rattle.std.proofs.Common.{◌∙◌, Bor, List, ℕ, subst, sym}
use Rattle.std.specs.Option.{option_map}
use Rattle.tera_settings.specs.Near.{IsNearest}
use Rattle.tera_settings.specs.Values.{texts}
use Rattle.tera_fixes.proofs.MeantLemmas.{nearest_has_rival, nearest_is_meant, nearest_too_far, none_near}
use Rattle.tera_fixes.proofs.meant.meant_among.Goals as goal

pub returns-in_default : goal.returns-in_default
returns-in_default c =
    sym (none_near c.args.word.now (texts c.args.names.now)
    (subst (λ o. IsNearest c.args.word.now (texts c.args.names.now) (option_map (λ (n : Bor (List ℕ)). n.now) o)) c.in_default.is c.in_ok-name.ensures))

pub returns-then-not-is_close : goal.returns-then-not-is_close
returns-then-not-is_close c =
    sym (nearest_too_far c.args.word.now c.in-Some.name.now (texts c.args.names.now) c.in_ok-far.far
    (subst (λ o. IsNearest c.args.word.now (texts c.args.names.now) (option_map (λ (n : Bor (List ℕ)). n.now) o)) c.in-Some.is c.in_ok-name.ensures)
    c.in_ok-far.ensures.value (sym c.if-not-is_close.ensures))

pub returns-then-branch : goal.returns-then-branch
returns-then-branch c =
    sym (nearest_has_rival c.args.word.now c.in-Some.name.now (texts c.args.names.now) c.in_ok-far.far
    (subst (λ o. IsNearest c.args.word.now (texts c.args.names.now) (option_map (λ (n : Bor (List ℕ)). n.now) o)) c.in-Some.is c.in_ok-name.ensures)
    c.in_ok-far.ensures.value (sym c.in_ok-has_rival.ensures ∙ c.if-branch.true))

pub returns : goal.returns
returns c =
    sym (nearest_is_meant c.args.word.now c.in-Some.name.now (texts c.args.names.now) c.in_ok-far.far
    (subst (λ o. IsNearest c.args.word.now (texts c.args.names.now) (option_map (λ (n : Bor (List ℕ)). n.now) o)) c.in-Some.is c.in_ok-name.ensures)
    c.in_ok-far.ensures.value (sym c.if-not-is_close.ensures) (sym c.in_ok-has_rival.ensures ∙ c.if-branch.false))
