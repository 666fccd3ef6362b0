use Rattle.std.proofs.Common.{◌≡◌, ◌∙◌, ap, sym, map, string_bytes, true, false}
use Rattle.std.specs.List.{list_any}
use Rattle.std.specs.Str.{bytes_eq}
use Rattle.tera_server.proofs.WithName.{name_there, name_added}
use Rattle.tera_server.proofs.notes.add_name.Goals as goal

pub returns-then-has_name-clause-added : goal.returns-then-has_name-clause-added
returns-then-has_name-clause-added c =
    let h : list_any (λ m. bytes_eq m c.args.name.now) (map string_bytes c.args.names.now.items) ≡ true =
    ap (λ ns. list_any (λ m. bytes_eq m c.args.name.now) (map string_bytes ns)) (sym c.as_slice.ensures.value) ∙ (sym c.has_name.ensures ∙ c.if-has_name.true) in
    name_there c.args.name.now (map string_bytes c.args.names.now.items) h

pub returns-clause-added : goal.returns-clause-added
returns-clause-added c =
    let h : list_any (λ m. bytes_eq m c.args.name.now) (map string_bytes c.args.names.now.items) ≡ false =
    ap (λ ns. list_any (λ m. bytes_eq m c.args.name.now) (map string_bytes ns)) (sym c.as_slice.ensures.value) ∙ (sym c.has_name.ensures ∙ c.if-has_name.false) in
    name_added c.args.name.now c.args.names.now.items c.push.new.self.items c.in_ok-from_str.field-0 h c.in_ok-push.ensures.items c.in_ok-from_str.ensures.ok
