use Rattle.std.proofs.Common.{◌≡◌, ◌∙◌, rules, true, option_map, sym, subst}
use Rattle.tera_lexer.specs.grammar.Marks.{default_marks, marks_of}
use Rattle.tera_program_parts.specs.Markers.{AreGivenBy}
use Rattle.tera_program_parts.proofs.MarkerLemmas.{same_marks}
use Rattle.tera_program_parts.proofs.markers.other_markers_of.Goals as goal

pub returns-then-eq-clause-given : goal.returns-then-eq-clause-given
returns-then-eq-clause-given c =
    let equal : c.eq.result ≡ true = search rules in
    let same : marks_of c.in_ok-markers.markers ≡ default_marks = same_marks (marks_of c.in_ok-markers.markers) (marks_of c.default.result) (sym c.eq.ensures ∙ equal) ∙ c.default.ensures.0 in
    subst (AreGivenBy (option_map (λ t. t.now) c.args.words)) same c.in_ok-markers.ensures.given
