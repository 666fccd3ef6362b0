use Rattle.std.proofs.Common.{◌++◌, string_bytes, sym, ◌∙◌, ap, append_assoc}
use Rattle.tera_spelling.specs.Spelling.{with_escapes}
use Rattle.std.proofs.Math.Utf8.{encode}
use Rattle.tera_source.proofs.Characters.{with_escapes-append}
use Rattle.tera_source.proofs.texts.push_quoted.Goals as goal

pub loop-c-preserved : goal.loop-c-preserved
loop-c-preserved c =
    let parts = c.in-Some.ensures.steps.0 in
    rw c.in_ok-push_escaped.ensures (append_assoc (string_bytes c.loop-c.out) (with_escapes (encode c.in-Some.c)) _
    ∙ ap (λ t. string_bytes c.loop-c.out ++ t) (sym (ap with_escapes parts ∙ with_escapes-append (encode c.in-Some.c) _)) ∙ c.loop-c.invariant)
