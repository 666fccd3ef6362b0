use Rattle.std.proofs.Common.{rules, ◌≡◌, [], List, ℕ, MatchOption, map, subst}
use Rattle.tera_c.proofs.files.template_of.Goals as goal
use Rattle.tera_templates.specs.Mended.{text_of}
use Rattle.tera_templates.specs.Templates.{tree_of}
use Rattle.tera_grammar.specs.Limits.{usual}
use Rattle.tera_grammar.specs.statements.Places.{Places}
use Rattle.tera_grammar.specs.statements.Reading.Meeting.{group_all, nothing_grouped}
use Rattle.tera_grammar.specs.statements.Top.{DerivesNames}
use Rattle.tera_lexer.specs.grammar.Marks.{default_marks}
use Rattle.tera_tags.specs.Known.{grouped_of}
use Rattle.tera_tree.specs.Outputs.{output_view}

pub returns-clause-ok : goal.returns-clause-ok
returns-clause-ok c =
    let template = c.in_ok-read_template.field-0 in
    let source : c.in-Ok-from_utf8.source.now ≡ c.args.file.now.source.now = search rules in
    let AreAt : List ℕ → Type 0 = λ s. MatchOption (tree_of template)
    ((template.defined_at.items ≡ []) × (grouped_of template.parameters_at ≡ nothing_grouped))
    (λ o. (names : Places)
    × DerivesNames usual default_marks (text_of s template) (output_view o) names
    × (template.defined_at.items ≡ map (λ n. n.span) names.components)
    × (grouped_of template.parameters_at ≡ group_all names.parameters nothing_grouped)) in
    record {
      text = search rules;
      named = search rules;
      sound = search rules;
      complete = search rules;
      refusal = search rules;
      lost = search rules;
      notes = search rules;
      whole = c.in_ok-read_template.ensures.whole;
      mended = search rules;
      places = subst AreAt source c.in_ok-read_template.ensures.places;
    }
