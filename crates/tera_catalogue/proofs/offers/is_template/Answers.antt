use Rattle.std.proofs.Common.{◌≡◌, Bool, Result, Ok, Err, IfOk, is_ok}
use Rattle.std.specs.Bool.{OnTrue}
use Rattle.tera_grammar.specs.Limits.{usual}
use Rattle.tera_grammar.specs.statements.Top.{Derives}
use Rattle.tera_lexer.specs.grammar.Marks.{default_marks}
use Rattle.tera_tree.specs.Outputs.{output_view}
use Rattle.tera_tree.specs.declared.outputs.ParserOutput.{ParserOutput}
use Rattle.tera_catalogue.specs.Offered.{IsTemplateText}
use Rattle.tera_catalogue.proofs.offers.is_template.Goals as goal

-- a flag that says whether something was accepted says what holds of all that is accepted
accepted : {T E F : Type 0} (flag : Result Bool F) (parsed : Result T E) (P : T → Type 0) (Q : Type 0) → ((x : T) → P x → Q)
    → IfOk flag (λ b. b ≡ is_ok parsed) → IfOk parsed P → IfOk flag (λ b. OnTrue b Q)
accepted (Ok b) (Ok x) P Q so is h = rw is (so x h)
accepted (Ok b) (Err e) P Q so is h = rw is tt
accepted (Err a) parsed P Q so is h = tt

pub returns : goal.returns
returns c =
    let text = c.args.text.now in
    accepted c.is_accepted.result c.in_ok-template.template.parsed (λ (o : ParserOutput). Derives usual default_marks text (output_view o)) (IsTemplateText text)
    (λ o h. (output_view o, h)) c.is_accepted.ensures c.in_ok-template.ensures.sound
