use Rattle.std.proofs.Common.{◌≡◌, true, map, string_bytes, inl, inr, refl, subst}
use Rattle.std.specs.List.{list_any}
use Rattle.std.specs.Str.{bytes_eq}
use Rattle.tera_exchange.specs.Serving.{is_open}
use Rattle.tera_exchange.proofs.SendLemmas.{on_any_err}
use Rattle.tera_exchange.proofs.ServingLemmas.{on_ok, on_err, unopened}
use Rattle.tera_exchange.proofs.server.give_folder.Goals as goal

pub returns-in_err-give_known-clause-in_part : goal.returns-in_err-give_known-clause-in_part
returns-in_err-give_known-clause-in_part g c = on_any_err c.from_residual.result (inl c.in_err-give_known.ensures.in_part)

pub returns-in_err-is_read-clause-in_part : goal.returns-in_err-is_read-clause-in_part
returns-in_err-is_read-clause-in_part g c =
    on_any_err c.from_residual-in_err-is_read.result (inr (c.give_known.new.server, c.in_ok-give_known.ensures.given, inl refl))

pub returns-then-branch-clause-given : goal.returns-then-branch-clause-given
returns-then-branch-clause-given g c =
    on_ok c.give_listed.result (λ listed. (c.give_known.new.server, c.in_ok-give_known.ensures.given, inr listed)) c.give_listed.ensures.given

pub returns-then-branch-clause-in_part : goal.returns-then-branch-clause-in_part
returns-then-branch-clause-in_part g c =
    on_err c.give_listed.result (λ listed. inr (c.give_known.new.server, c.in_ok-give_known.ensures.given, listed)) c.give_listed.ensures.in_part

pub returns-else-branch-clause-given : goal.returns-else-branch-clause-given
returns-else-branch-clause-given g c =
    let u = c.give_known.new.server in
    let folder = c.args.folder.now in
    let read = c.in_ok-is_read.field-0 in
    let listed : is_open folder u ≡ true → read ≡ true =
    subst (λ fs. list_any (λ f. bytes_eq f folder) (map string_bytes fs) ≡ true → read ≡ true) c.folders.ensures c.in_ok-is_read.ensures in
    (u, c.in_ok-give_known.ensures.given, inl (unopened (is_open folder u) read listed c.if-branch.false, refl))
