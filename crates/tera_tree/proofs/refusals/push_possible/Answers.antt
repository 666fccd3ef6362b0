use Rattle.std.proofs.Common.{◌++◌, codes, string_bytes, sym, ap, ◌∙◌, append_assoc}
use Rattle.tera_tree.specs.Calls.{texts, names_text}
use Rattle.tera_tree.proofs.CallNames.{possible_some}
use Rattle.tera_tree.proofs.refusals.push_possible.Goals as goal

pub returns : goal.returns
returns c =
    let names = texts c.args.names.now in
    let before = string_bytes c.args.text.now in
    c.in_ok-push_names.ensures
    ∙ ap (λ bs. bs ++ names_text names) c.in_ok-push_str.ensures.bytes
    ∙ append_assoc before (codes " Possible argument(s) are: ") (names_text names)
    ∙ ap (λ bs. before ++ bs) (sym (possible_some c.args.names.now c.if-is_empty.ensures))
