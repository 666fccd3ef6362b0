use Rattle.std.proofs.Common.{◌++◌, string_bytes, sym, ◌∙◌, ap, append_assoc}
use Rattle.std.proofs.Math.Utf8.{encode}
use Rattle.tera_source.specs.Writing.{dotted}
use Rattle.tera_source.proofs.Characters.{dotted-append}
use Rattle.tera_source.proofs.texts.push_dotted.Goals as goal

pub loop-c-preserved : goal.loop-c-preserved
loop-c-preserved c =
    let parts = c.in-Some.ensures.steps.0 in
    rw c.in_ok-push_dotted_char.ensures (append_assoc (string_bytes c.loop-c.out) (dotted (encode c.in-Some.c)) _
    ∙ ap (λ t. string_bytes c.loop-c.out ++ t) (sym (ap dotted parts ∙ dotted-append (encode c.in-Some.c) _)) ∙ c.loop-c.invariant)
