use Rattle.std.proofs.Common.{inl, inr}
use Rattle.tera_exchange.proofs.SendLemmas.{on_any_err}
use Rattle.tera_exchange.proofs.ServingLemmas.{on_ok, on_err}
use Rattle.tera_exchange.proofs.server.give_changed.Goals as goal

pub returns-in-Folder-clause-given : goal.returns-in-Folder-clause-given
returns-in-Folder-clause-given g c = on_ok c.give_folder.result (λ h. inr (inr (inr (inl h)))) c.give_folder.ensures.given

pub returns-in-Folder-clause-in_part : goal.returns-in-Folder-clause-in_part
returns-in-Folder-clause-in_part g c = on_err c.give_folder.result (λ h. inr (inl h)) c.give_folder.ensures.in_part

pub returns-then-may_change_settings-clause-given : goal.returns-then-may_change_settings-clause-given
returns-then-may_change_settings-clause-given g c =
    on_ok c.ask_for_folders.result (λ asked. inr (inr (inr (inr (record { same = c.ask_for_folders.ensures.same; asked = asked }))))) c.ask_for_folders.ensures.asked

pub returns-then-may_change_settings-clause-in_part : goal.returns-then-may_change_settings-clause-in_part
returns-then-may_change_settings-clause-in_part g c =
    on_any_err c.ask_for_folders.result (inr (inr (record { same = c.ask_for_folders.ensures.same; grows = c.ask_for_folders.ensures.grows })))
