use Rattle.std.proofs.Common.{◌≡◌, ◌∷◌, [], ◌++◌, map, ap, ◌∙◌}
use Rattle.std.proofs.lemmas.List.{map-append}
use Rattle.tera_ast.specs.View.{entry_view}
use Rattle.tera_rules.specs.Repeated.{span_at_key}
use Rattle.tera_rules.proofs.RepeatedLemmas.{repeated_next}
use Rattle.tera_rules.proofs.repeated.push_repeated.Goals as goal

pub entries-preserved : goal.entries-preserved
entries-preserved c =
    let held = c.entries.invariant in
    let rest = c.in-Some.before.now in
    let one = c.in-Some.entry.now in
    let split : map entry_view c.entries.left.now ≡ map entry_view rest ++ entry_view one ∷ [] = ap (map entry_view) c.in-Some.ensures.cases.0 ∙ map-append entry_view rest (one ∷ []) in
    let next = repeated_next c.args.holder c.args.file.now _ (map entry_view rest) held.0 _ (entry_view one) (span_at_key c.entries.following) (span_at_key c.push_if_repeated.new.following) _ _ _ held.1 split held.2 held.3 c.in_ok-push_if_repeated.ensures.findings c.in_ok-push_if_repeated.ensures.following in
    (entry_view one ∷ held.0, next.0, next.1, next.2)
