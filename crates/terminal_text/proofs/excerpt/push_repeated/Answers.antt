use Rattle.std.proofs.Common.{◌++◌, ◌∷◌, [], replicate, string_bytes, sym, ap, ◌∙◌, append_assoc, add-one}
use Rattle.terminal_text.proofs.Steps.{repeated_more}
use Rattle.terminal_text.proofs.excerpt.push_repeated.Goals as goal

pub loop-time-preserved : goal.loop-time-preserved
loop-time-preserved c =
    let one = c.args.character ∷ [] in
    let done = c.loop-time._time in
    c.in_ok-push.ensures.bytes ∙ ap (λ l. string_bytes c.loop-time.to ++ l) (c.in_ok-push.ensures.ascii c.requires)
    ∙ ap (λ l. l ++ one) c.loop-time.invariant ∙ append_assoc (string_bytes c.args.to.now) (replicate done c.args.character) one
    ∙ ap (λ l. string_bytes c.args.to.now ++ l)
    (repeated_more done c.args.character ∙ ap (λ n. replicate n c.args.character) (sym (add-one done)))
