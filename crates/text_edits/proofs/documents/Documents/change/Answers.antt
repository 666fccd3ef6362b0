use Rattle.std.proofs.Common.{◌≡◌, ◌∙◌, Some, map, string_bytes, ap, sym, rules}
use Rattle.std.specs.BTreeMap.{is_at}
use Rattle.std.specs.Cmp.Lexicographic.{slice_cmp}
use Rattle.std.specs.Map.{lookup}
use Rattle.std.specs.Option.{option_map}
use Rattle.std.specs.Ordering.{nat_cmp}
use Rattle.std.proofs.lemmas.Map.Steps.{set_value_same}
use Rattle.text_edits.specs.Documents.{DocumentVal}
use Rattle.text_edits.specs.Edits.{change_view, edited}
use Rattle.text_edits.specs.Stored.{AreSame}
use Rattle.text_edits.proofs.Texts.{text_at, with_opened, opened_after, at_equal}
use Rattle.text_edits.proofs.documents.Documents.change.Goals as goal

pub returns-in_err-text-clause-err : goal.returns-in_err-text-clause-err
returns-in_err-text-clause-err c =
    let ds = c.args.self.now in
    let text = c.in-Some.text.now in
    let test = is_at (λ k. slice_cmp nat_cmp c.args.name.now (string_bytes k)) in
    let kept : (c.get_mut.follows.lender text).entries ≡ ds.opened.entries =
    (c.get_mut.follows.holds text).0 ∙ set_value_same test ds.opened.entries text (sym c.in-Some.ensures.value) in
    let same : AreSame ds (record { opened = c.get_mut.follows.lender text; stored = ds.stored }) = λ n.
    ap (λ es. with_opened (text_at ds.stored n) (option_map string_bytes (lookup (is_at (λ k. slice_cmp nat_cmp n (string_bytes k))) es))) kept in
    search (rules, same)

pub returns-clause-changed : goal.returns-clause-changed
returns-clause-changed c = λ q.
    let ds = c.args.self.now in
    let name = c.args.name.now in
    let new = c.in_ok-text.field-0 in
    let changes = map change_view c.args.changes.now in
    let h = opened_after name ds.opened (c.get_mut.follows.lender new) ds.stored (Some new) ((c.get_mut.follows.holds new).3 (search rules)) q in
    let made : Some (string_bytes new) ≡ option_map (λ text. edited c.args.encoding text changes) (text_at ds.opened name) =
    ap Some (c.in_ok-text.ensures ∙ ap (λ text. edited c.args.encoding text changes) c.as_str.ensures.value)
    ∙ ap (λ o. option_map (λ text. edited c.args.encoding text changes) (option_map string_bytes o)) c.in-Some.ensures.value in
    h ∙ at_equal DocumentVal name q (λ n. with_opened (text_at ds.stored n) (Some (string_bytes new)))
    (λ n. with_opened (text_at ds.stored n) (option_map (λ text. edited c.args.encoding text changes) (text_at ds.opened n)))
    (with_opened (text_at ds.stored q) (text_at ds.opened q)) (ap (with_opened (text_at ds.stored name)) made)
