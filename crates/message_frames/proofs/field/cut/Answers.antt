use Rattle.std.proofs.Common.{◌≡◌, suc, ◌+◌, drop, sym, ap, ◌∙◌, arith}
use Rattle.std.proofs.lemmas.List.{drop-drop}
use Rattle.message_frames.proofs.Cuts.{found_place, found_none}
use Rattle.message_frames.proofs.field.cut.Goals as goal

pub returns-in_err-colon : goal.returns-in_err-colon
returns-in_err-colon c = rw c.from_residual.ensures (sym (found_none c.args.line.now c.in_err-colon.ensures))

pub returns : goal.returns
returns c =
    let line = c.args.line.now in
    let k = c.in_ok-colon.colon in
    let e : suc k ≡ k + 1 = omega arith in
    let value : c.split_at-2.result.1.now ≡ drop (suc k) line =
    c.split_at-2.ensures.back ∙ ap (drop 1) c.split_at.ensures.back ∙ drop-drop 1 k line
    ∙ ap (λ n. drop n line) (sym e) in
    rw (c.split_at.ensures.front, value) (sym (found_place line k c.in_ok-colon.ensures).0)
