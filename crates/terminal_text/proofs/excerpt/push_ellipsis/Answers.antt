use Rattle.std.proofs.Common.{◌≡◌, ◌<◌, ◌++◌, length, encode_utf8_all, string_bytes, sym, ap, ◌∙◌, arith, append-nil}
use Rattle.std.proofs.lemmas.Bool.Decides.{nat_tests}
use Rattle.terminal_text.specs.Shown.{columns}
use Rattle.terminal_text.proofs.Pieces.{none_left_out, some_left_out}
use Rattle.terminal_text.proofs.excerpt.push_ellipsis.Goals as goal

pub returns-then-is_empty-clause-text : goal.returns-then-is_empty-clause-text
returns-then-is_empty-clause-text c =
    let none : length c.args.left_out.now ≡ 0 = grind (arith, nat_tests) in
    sym (append-nil _) ∙ ap (λ l. string_bytes c.args.to.now ++ encode_utf8_all l) (sym (none_left_out c.args.left_out.now none))

pub returns-then-is_empty-clause-columns : goal.returns-then-is_empty-clause-columns
returns-then-is_empty-clause-columns c =
    let none : length c.args.left_out.now ≡ 0 = grind (arith, nat_tests) in
    ap columns (sym (none_left_out c.args.left_out.now none))

pub returns-clause-text : goal.returns-clause-text
returns-clause-text c =
    let some : 0 < length c.args.left_out.now = grind (arith, nat_tests) in
    rw (some_left_out c.args.left_out.now c.utf8.left_out some) c.push_character.ensures.text

pub returns-clause-columns : goal.returns-clause-columns
returns-clause-columns c =
    let some : 0 < length c.args.left_out.now = grind (arith, nat_tests) in
    rw (some_left_out c.args.left_out.now c.utf8.left_out some) c.push_character.ensures.columns
