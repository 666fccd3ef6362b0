use Rattle.std.proofs.Common.{◌≡◌, ◌++◌, drop, map}
use Rattle.std.specs.List.{flat_map}
use Rattle.tera_jobs.specs.Forms.{unread_text}
use Rattle.tera_jobs.specs.Sources.{unreadable_view}
use Rattle.tera_jobs.proofs.forms.unread_texts.Given as goal

abbrev pub invariant-loop-one : goal.invariant-loop-one
invariant-loop-one l =
    flat_map (unread_text l.form) (map unreadable_view l.unread)
    ≡ l.text.items ++ flat_map (unread_text l.form) (map unreadable_view (drop l.one-index l.unread))
