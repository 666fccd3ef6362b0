use Rattle.std.proofs.Common.{◌∙◌, ◌≡◌, List, ℕ, Option, None, IfErr, IfOk, IfSome, MatchOption, string_bytes, subst, sym}
use Rattle.tera_templates.specs.Ignores.{AreIgnoresIn}
use Rattle.tera_templates.specs.Mended.{IsMended, text_by}
use Rattle.tera_templates.specs.Templates.{tree_of}
use Rattle.tera_templates.specs.declared.mended.Mended.{Mended}
use Rattle.tera_grammar.specs.Limits.{usual}
use Rattle.tera_grammar.specs.statements.Places.{Places}
use Rattle.tera_grammar.specs.statements.Top.{Derives, DerivesNames}
use Rattle.tera_lexer.specs.grammar.Marks.{marks_of}
use Rattle.tera_parser.specs.Refusal.{LosesSource, Refuses}
use Rattle.tera_tree.specs.Outputs.{output_view}
use Rattle.tera_jobs.proofs.TreeLemmas.{if_any}
use Rattle.tera_jobs.proofs.tree.template_between.Goals as goal

pub returns : goal.returns
returns c =
    let template = c.in_ok-template.template in
    let m = marks_of c.args.markers in
    let file = c.as_str-file.ensures.value in
    let text = c.as_str-text.ensures.value in
    let alone : template.mended ≡ None = c.in_ok-template.ensures.alone in
    record {
      read = record {
        named = c.in_ok-template.ensures.file ∙ file;
        read = subst (λ source. IfOk template.parsed (λ output. Derives usual m source (output_view output))) text c.in_ok-template.ensures.sound;
        refused = subst (λ source. IfErr template.parsed (Refuses m source)) text c.in_ok-template.ensures.refusal;
        lost = subst (λ source. IfErr template.parsed (LosesSource usual m source)) text c.in_ok-template.ensures.lost;
        mended = subst (λ (o : Option Mended). IfSome o (IsMended (string_bytes c.args.source.now.file) (string_bytes c.args.source.now.text) 100)) (sym alone) tt;
        ignores = subst (λ source. AreIgnoresIn m source template) text c.in_ok-template.ensures.ignores;
        hidden = c.in_ok-template.ensures.hidden;
      };
      clean = λ output d. c.in_ok-template.ensures.complete output (rw text d);
      tree = if_any _ _ _ (tree_of template)
          (λ o h. (
            h.0,
            subst (λ (mended : Option Mended). DerivesNames usual m (text_by (string_bytes c.args.source.now.text) mended) (output_view o) h.0) (sym alone)
                (subst (λ source. DerivesNames usual m source (output_view o) h.0) text h.1),
          ))
          c.in_ok-template.ensures.places;
    }
