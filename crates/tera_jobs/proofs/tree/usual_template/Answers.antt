use Rattle.std.proofs.Common.{◌∙◌, IfErr, IfOk, IfSome, string_bytes, subst}
use Rattle.tera_templates.specs.Ignores.{AreIgnoresIn}
use Rattle.tera_templates.specs.Mended.{IsMended, text_of}
use Rattle.tera_templates.specs.Templates.{tree_of}
use Rattle.tera_grammar.specs.Limits.{usual}
use Rattle.tera_grammar.specs.statements.Places.{Places}
use Rattle.tera_grammar.specs.statements.Top.{Derives, DerivesNames}
use Rattle.tera_lexer.specs.grammar.Marks.{default_marks}
use Rattle.tera_parser.specs.Refusal.{LosesSource, Refuses}
use Rattle.tera_tree.specs.Outputs.{output_view}
use Rattle.tera_jobs.proofs.TreeLemmas.{if_any}
use Rattle.tera_jobs.proofs.tree.usual_template.Goals as goal

pub returns : goal.returns
returns c =
    let template = c.in_ok-template.template in
    let file = c.as_str-file.ensures.value in
    let text = c.as_str-text.ensures.value in
    record {
      read = record {
        named = c.in_ok-template.ensures.file ∙ file;
        read = subst (λ source. IfOk template.parsed (λ output. Derives usual default_marks source (output_view output))) text c.in_ok-template.ensures.sound;
        refused = subst (λ source. IfErr template.parsed (Refuses default_marks source)) text c.in_ok-template.ensures.refusal;
        lost = subst (λ source. IfErr template.parsed (LosesSource usual default_marks source)) text c.in_ok-template.ensures.lost;
        mended = subst (λ name. IfSome template.mended (IsMended name (string_bytes c.args.source.now.text) 100)) file
            (subst (λ source. IfSome template.mended (IsMended c.as_str-file.result.now source 100)) text c.in_ok-template.ensures.mended);
        ignores = subst (λ source. AreIgnoresIn default_marks source template) text c.in_ok-template.ensures.ignores;
        hidden = c.in_ok-template.ensures.hidden;
      };
      clean = λ output d. c.in_ok-template.ensures.complete output (rw text d);
      tree = if_any _ _ _ (tree_of template)
          (λ o h. (h.0, subst (λ source. DerivesNames usual default_marks (text_of source template) (output_view o) h.0) text h.1))
          c.in_ok-template.ensures.places;
    }
