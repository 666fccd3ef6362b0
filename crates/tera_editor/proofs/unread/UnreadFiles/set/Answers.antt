use Rattle.std.proofs.Common.{◌≡◌, ◌∙◌, None, Some, cond, string_bytes, rules, sym, ap}
use Rattle.std.specs.Option.{option_map}
use Rattle.std.specs.Str.{bytes_eq}
use Rattle.tera_editor.specs.UnreadFiles.{reason_view}
use Rattle.tera_editor.proofs.UnreadLemmas.{reason_at, reason_after}
use Rattle.tera_editor.proofs.unread.UnreadFiles.set.Goals as goal

pub returns-in_default-clause-set : goal.returns-in_default-clause-set
returns-in_default-clause-set c = λ q.
    let name = c.args.name.now in
    let old = c.args.self.now.why in
    let none : c.args.why ≡ None = search rules in
    reason_after name old c.remove.new.self None c.remove.ensures.updates q
    ∙ ap (λ w. cond (bytes_eq name q) (option_map reason_view w) (reason_at old q)) (sym none)

pub returns-clause-set : goal.returns-clause-set
returns-clause-set c = λ q.
    let name : string_bytes c.in_ok-from_str.field-0 ≡ c.args.name.now = c.in_ok-from_str.ensures.ok in
    let old = c.args.self.now.why in
    let h = reason_after (string_bytes c.in_ok-from_str.field-0) old c.insert.new.self (Some c.in-Some.why) c.in_ok-insert.ensures.updates q in
    (rw name at h) ∙ ap (λ w. cond (bytes_eq c.args.name.now q) (option_map reason_view w) (reason_at old q)) (sym c.in-Some.is)
