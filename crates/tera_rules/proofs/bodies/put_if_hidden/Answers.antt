use Rattle.std.proofs.Common.{◌≡◌, ◌∙◌, ap, false, if◌then◌else◌, string_bytes, sym, true}
use Rattle.std.specs.BTreeSet.{contains_text}
use Rattle.std.specs.Str.{bytes_eq}
use Rattle.std.proofs.lemmas.Map.Text.{btree_set_updates_text}
use Rattle.tera_tree.specs.View.{definition_view}
use Rattle.tera_rules.specs.Bodies.{shows_body}
use Rattle.tera_rules.proofs.BodiesLemmas.{hidden_kept, hidden_put}
use Rattle.tera_rules.proofs.bodies.put_if_hidden.Goals as goal

pub returns-then-branch : goal.returns-then-branch
returns-then-branch c = λ n.
    let d = definition_view c.args.definition.now in
    let shows : shows_body d ≡ true = sym c.in_ok-shows_body.ensures ∙ c.if-branch.true in
    hidden_kept n d (contains_text c.args.hidden.now n) shows

pub returns : goal.returns
returns c = λ n.
    let d = definition_view c.args.definition.now in
    let key = string_bytes c.in_ok-clone.field-0 in
    let before = contains_text c.args.hidden.now n in
    let shows : shows_body d ≡ false = sym c.in_ok-shows_body.ensures ∙ c.if-branch.false in
    let same : key ≡ d.name = c.in_ok-clone.ensures.cases in
    btree_set_updates_text key c.args.hidden.now c.insert.new.self true c.in_ok-insert.ensures.updates n
    ∙ ap (λ bs. if bytes_eq bs n then true else before) same
    ∙ hidden_put n d before shows
