use Rattle.std.proofs.Common.{OnOk, OnErr, subst, sym}
use Rattle.tera_server.specs.States.{NeedsFolder, NeedsChanged, needed_view}
use Rattle.tera_exchange.specs.Serving.{AreGiven, AreGivenInPart}
use Rattle.tera_exchange.proofs.server.give_needed.Goals as goal

pub returns-in-Folder-clause-given : goal.returns-in-Folder-clause-given
returns-in-Folder-clause-given g c =
    let s = c.args.server.now in
    let t = c.give_with_settings.new.server in
    let r = c.give_with_settings.result in
    subst (λ n. OnOk r (AreGiven (needed_view n) s t)) (sym c.in-Folder.is)
    (subst (λ p. OnOk r (AreGiven (NeedsFolder p) s t)) c.as_str.ensures.value c.give_with_settings.ensures.given)

pub returns-in-Folder-clause-in_part : goal.returns-in-Folder-clause-in_part
returns-in-Folder-clause-in_part g c =
    let s = c.args.server.now in
    let t = c.give_with_settings.new.server in
    let r = c.give_with_settings.result in
    subst (λ n. OnErr r (AreGivenInPart (needed_view n) s t)) (sym c.in-Folder.is)
    (subst (λ p. OnErr r (AreGivenInPart (NeedsFolder p) s t)) c.as_str.ensures.value c.give_with_settings.ensures.in_part)

pub returns-in-Changed-clause-given : goal.returns-in-Changed-clause-given
returns-in-Changed-clause-given g c =
    let s = c.args.server.now in
    let t = c.give_changed.new.server in
    let r = c.give_changed.result in
    subst (λ n. OnOk r (AreGiven (needed_view n) s t)) (sym c.in-Changed.is)
    (subst (λ p. OnOk r (AreGiven (NeedsChanged p) s t)) c.as_str-in-Changed.ensures.value c.give_changed.ensures.given)

pub returns-in-Changed-clause-in_part : goal.returns-in-Changed-clause-in_part
returns-in-Changed-clause-in_part g c =
    let s = c.args.server.now in
    let t = c.give_changed.new.server in
    let r = c.give_changed.result in
    subst (λ n. OnErr r (AreGivenInPart (needed_view n) s t)) (sym c.in-Changed.is)
    (subst (λ p. OnErr r (AreGivenInPart (NeedsChanged p) s t)) c.as_str-in-Changed.ensures.value c.give_changed.ensures.in_part)
