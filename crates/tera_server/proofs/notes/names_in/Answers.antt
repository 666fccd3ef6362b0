use Rattle.std.proofs.Common.{◌≡◌, ◌∙◌, map, string_bytes, option_map, subst, ap, arith}
use Rattle.std.proofs.lemmas.List.{drop_all}
use Rattle.json.specs.Value.{value_view}
use Rattle.protocol_values.specs.Members.{text_in}
use Rattle.tera_server.specs.Notes.{AddsName, item_uri}
use Rattle.tera_server.proofs.NameLemmas.{Follow, follow_next, follow_done}
use Rattle.tera_answers.proofs.DropLemmas.{drop_next}
use Rattle.tera_server.proofs.notes.names_in.Goals as goal

pub loop-item-preserved : goal.loop-item-preserved
loop-item-preserved c =
    let items = c.args.items.now in
    let item = c.item-item.result in
    let all = map item_uri (map value_view items) in
    let old = map string_bytes c.loop-item.names.items in
    let now = map string_bytes c.push_name.new.names.items in
    let same : option_map (λ t. t.now) c.text_of.result ≡ item_uri (value_view item) = c.text_of.ensures ∙ ap text_in c.member.ensures in
    let h = subst (λ xs. Follow all (map item_uri (map value_view xs)) old) (drop_next items c.loop-item.item-index item (omega arith) c.item-item.is) c.loop-item.invariant in
    follow_next all _ (item_uri (value_view item)) old now h (subst (λ u. AddsName u old now) same c.in_ok-push_name.ensures)

pub returns : goal.returns
returns c =
    let items = c.args.items.now in
    let all = map item_uri (map value_view items) in
    let names = map string_bytes c.loop-item.names.items in
    follow_done all names
    (subst (λ xs. Follow all (map item_uri (map value_view xs)) names) (drop_all c.loop-item.item-index items (omega arith)) c.loop-item.invariant)
