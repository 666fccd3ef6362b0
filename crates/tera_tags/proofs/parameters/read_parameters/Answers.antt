use Rattle.std.proofs.Common.{Some, refl, sym, ap, ◌∙◌}
use Rattle.std.proofs.lemmas.Result.{err_from_is_err_and}
use Rattle.tera_grammar.specs.Reads.{stopped}
use Rattle.tera_grammar.specs.expressions.Marks.{Comma, RightParen, Spread}
use Rattle.tera_grammar.specs.expressions.Reading.Front.{takes}
use Rattle.tera_grammar.specs.statements.Components.{Closed, Final, Rest}
use Rattle.tera_grammar.specs.statements.Reading.Components.{parameter_of}
use Rattle.tera_grammar.specs.statements.Types.{put_name}
use Rattle.tera_grammar.proofs.statements.Loops.{listing_ends, listing_refused, listing_starts}
use Rattle.tera_grammar.specs.statements.Reading.Meeting.{met}
use Rattle.tera_tags.specs.Known.{located_of}
use Rattle.tera_tags.proofs.KnownLemmas.{none_located}
use Rattle.tera_tags.proofs.CameLemmas.{came_left, none_came}
use Rattle.tera_tags.proofs.KnowingLemmas.{known_refused}
use Rattle.tera_expect.proofs.NotesLemmas.{goes_left, left_further, took_left}
use Rattle.tera_tags.specs.Parameters.{arguments_view}
use Rattle.tera_expr_parts.specs.Allowed.{limits_of}
use Rattle.tera_expect.proofs.TakingLemmas.{goes_further, goes_took, refused_after, refused_further, stays, took_all, took_further, took_goes, took_size}
use Rattle.tera_tags.proofs.ParametersLemmas.{closed_there, eaten_goes, last_given, listing_more, no_comma, no_parameter, no_rest, rest_given, same_place}
use Rattle.tera_expect.proofs.Steps.{failed_as}
use Rattle.tera_tags.proofs.parameters.read_parameters.Goals as goal

pub parameters-init : goal.parameters-init
parameters-init c = record {
  listing = listing_starts (limits_of c.args.setting.now.limits) c.args.cursor.now.left c.args.cursor.now.left (located_of c.new-seen.result) (arguments_view c.new-arguments.result.entries)
      (ap arguments_view c.new-arguments.ensures.empty) (none_located c.new-seen.result c.new-seen.ensures.empty) refl;
  later = stays c.args.cursor.now;
  kept = none_came (located_of c.new-seen.result) c.args.cursor.now.left c.args.cursor.now.left (none_located c.new-seen.result c.new-seen.ensures.empty);
}

pub returns-then-eat-clause-gives : goal.returns-then-eat-clause-gives
returns-then-eat-clause-gives c =
    let l = limits_of c.args.setting.now.limits in
    let here = c.parameters.cursor.left in
    let seen = located_of c.parameters.seen in
    let end = rw c.if-eat.true at c.eat.ensures in
    let (ps, read, puts, rest, stand) = listing_ends l c.args.cursor.now.left here seen _ (Closed c.eat.new.cursor.span, c.eat.new.cursor.left) c.parameters.invariant.listing
    (closed_there l (met seen) here c.eat.new.cursor.span c.eat.new.cursor.left end.0) in
    (ps, read, ((puts, sym rest), stand))

pub returns-in_err-rest_parameter-clause-gives : goal.returns-in_err-rest_parameter-clause-gives
returns-in_err-rest_parameter-clause-gives c =
    let l = limits_of c.args.setting.now.limits in
    let here = c.parameters.cursor.left in
    let seen = located_of c.parameters.seen in
    let no_end = rw c.if-eat.false at c.eat.ensures in
    let dots = rw c.if-eat-2.true at c.eat-in-parameters.ensures in
    let there = same_place (takes Spread) c.parameters.cursor c.eat.new.cursor _ no_end.1 dots.0 in
    let p = err_from_is_err_and c.from_residual.result c.from_residual.ensures.1 in
    rw (p.1, p.2) (failed_as _ _ _ _ (λ z h. listing_refused l c.args.cursor.now.left here seen _ c.parameters.invariant.listing z (no_rest l (met seen) here _ no_end.0 _ _ there z h)) c.in_err-rest_parameter.ensures.gives)

pub returns-then-eat-2-clause-gives : goal.returns-then-eat-2-clause-gives
returns-then-eat-2-clause-gives c =
    let l = limits_of c.args.setting.now.limits in
    let here = c.parameters.cursor.left in
    let seen = located_of c.parameters.seen in
    let no_end = rw c.if-eat.false at c.eat.ensures in
    let dots = rw c.if-eat-2.true at c.eat-in-parameters.ensures in
    let there = same_place (takes Spread) c.parameters.cursor c.eat.new.cursor _ no_end.1 dots.0 in
    let (n, named, is) = c.in_ok-rest_parameter.ensures.gives in
    let (end, whole) = rest_given l (met seen) here _ no_end.0 _ _ there n _ named in
    let (ps, read, puts, rest, stand) = listing_ends l c.args.cursor.now.left here seen _ (Rest c.eat-in-parameters.new.cursor.span n end, c.rest_parameter.new.cursor.left) c.parameters.invariant.listing whole in
    (ps, read, ((puts, ap Some is.0 ∙ sym rest), is.1 ∙ stand))

pub returns-in_err-name-clause-gives : goal.returns-in_err-name-clause-gives
returns-in_err-name-clause-gives c =
    let l = limits_of c.args.setting.now.limits in
    let here = c.parameters.cursor.left in
    let seen = located_of c.parameters.seen in
    let no_end = rw c.if-eat.false at c.eat.ensures in
    let no_dots = rw c.if-eat-2.false at c.eat-in-parameters.ensures in
    let other = same_place (takes Spread) c.parameters.cursor c.eat.new.cursor (stopped _) no_end.1 no_dots.0 in
    let p = err_from_is_err_and c.from_residual-in_err-name.result c.from_residual-in_err-name.ensures.1 in
    rw (p.1, p.2) (failed_as _ _ _ _ (λ z h. listing_refused l c.args.cursor.now.left here seen _ c.parameters.invariant.listing z
    (no_parameter l (met seen) here _ no_end.0 _ other z (same_place (parameter_of l (met seen)) c.parameters.cursor c.eat-in-parameters.new.cursor (stopped z) (no_dots.1 ∙ no_end.1) h))) c.in_err-name.ensures.gives)

pub returns-then-eat-3-clause-gives : goal.returns-then-eat-3-clause-gives
returns-then-eat-3-clause-gives c =
    let l = limits_of c.args.setting.now.limits in
    let here = c.parameters.cursor.left in
    let seen = located_of c.parameters.seen in
    let no_end = rw c.if-eat.false at c.eat.ensures in
    let no_dots = rw c.if-eat-2.false at c.eat-in-parameters.ensures in
    let other = same_place (takes Spread) c.parameters.cursor c.eat.new.cursor (stopped _) no_end.1 no_dots.0 in
    let (q, one, is) = c.in_ok-name.ensures.gives in
    let there = same_place (parameter_of l (met seen)) c.parameters.cursor c.eat-in-parameters.new.cursor _ (no_dots.1 ∙ no_end.1) one in
    let end = rw c.if-eat-3.true at c.eat-in-parameters-2.ensures in
    let (ps, read, puts, rest, stand) = listing_ends l c.args.cursor.now.left here seen _ (Final q c.eat-in-parameters-2.new.cursor.span, c.eat-in-parameters-2.new.cursor.left) c.parameters.invariant.listing
    (last_given l (met seen) here _ no_end.0 _ other q _ there _ _ end.0) in
    (ps, read, ((c.in_ok-put_argument.ensures.puts ∙ (λ i. put_name (is.0.0 i) (is.0.1 i) (arguments_view c.parameters.arguments.entries)) ∙ puts, sym rest), is.1 ∙ stand))

pub returns-in_err-expect-clause-gives : goal.returns-in_err-expect-clause-gives
returns-in_err-expect-clause-gives c =
    let l = limits_of c.args.setting.now.limits in
    let here = c.parameters.cursor.left in
    let seen = located_of c.parameters.seen in
    let no_end = rw c.if-eat.false at c.eat.ensures in
    let no_dots = rw c.if-eat-2.false at c.eat-in-parameters.ensures in
    let other = same_place (takes Spread) c.parameters.cursor c.eat.new.cursor (stopped _) no_end.1 no_dots.0 in
    let (q, one, is) = c.in_ok-name.ensures.gives in
    let there = same_place (parameter_of l (met seen)) c.parameters.cursor c.eat-in-parameters.new.cursor _ (no_dots.1 ∙ no_end.1) one in
    let no_last = rw c.if-eat-3.false at c.eat-in-parameters-2.ensures in
    let p = err_from_is_err_and c.from_residual-in_err-expect.result c.from_residual-in_err-expect.ensures.1 in
    rw (p.1, p.2) (failed_as _ _ _ _ (λ z h. listing_refused l c.args.cursor.now.left here seen _ c.parameters.invariant.listing z
    (no_comma l (met seen) here _ no_end.0 _ other q _ there _ no_last.0 z (same_place (takes Comma) c.parameter.new.cursor c.eat-in-parameters-2.new.cursor (stopped z) no_last.1 h))) c.in_err-expect.ensures.gives)

pub parameters-preserved : goal.parameters-preserved
parameters-preserved c =
    let l = limits_of c.args.setting.now.limits in
    let here = c.parameters.cursor.left in
    let seen = located_of c.parameters.seen in
    let no_end = rw c.if-eat.false at c.eat.ensures in
    let no_dots = rw c.if-eat-2.false at c.eat-in-parameters.ensures in
    let other = same_place (takes Spread) c.parameters.cursor c.eat.new.cursor (stopped _) no_end.1 no_dots.0 in
    let (q, one, is) = c.in_ok-name.ensures.gives in
    let there = same_place (parameter_of l (met seen)) c.parameters.cursor c.eat-in-parameters.new.cursor _ (no_dots.1 ∙ no_end.1) one in
    let no_last = rw c.if-eat-3.false at c.eat-in-parameters-2.ensures in
    let comma = same_place (takes Comma) c.parameter.new.cursor c.eat-in-parameters-2.new.cursor _ no_last.1 c.in_ok-expect.ensures.gives in
    let first = eaten_goes c.eat.result c.parameters.cursor c.eat.new.cursor (takes RightParen c.parameters.cursor.left) c.eat.ensures in
    let second = eaten_goes c.eat-in-parameters.result c.eat.new.cursor c.eat-in-parameters.new.cursor (takes Spread c.eat.new.cursor.left) c.eat-in-parameters.ensures in
    let third = eaten_goes c.eat-in-parameters-2.result c.parameter.new.cursor c.eat-in-parameters-2.new.cursor (takes RightParen c.parameter.new.cursor.left) c.eat-in-parameters-2.ensures in
    let ahead = goes_further _ _ _ first second in
    let following = took_all _ _ _ (took_further _ _ _ c.in_ok-name.ensures.later third) c.in_ok-expect.ensures.later in
    record {
      listing = listing_more l c.args.cursor.now.left here seen _ _ _ c.parameters.invariant.listing _ no_end.0 _ other q _ there _ no_last.0 _ _ comma
          is.1
          (c.in_ok-put_argument.ensures.puts ∙ (λ i. put_name (is.0.0 i) (is.0.1 i) (arguments_view c.parameters.arguments.entries)));
      later = goes_further _ _ _ c.parameters.invariant.later (took_goes _ _ (goes_took _ _ _ ahead following));
      kept = came_left (located_of c.parameter.new.seen) _ _ _ (left_further _ _ _ (took_left _ _ c.in_ok-expect.ensures.later) (goes_left _ _ third))
          (c.in_ok-name.ensures.kept c.args.cursor.now (goes_further _ _ _ c.parameters.invariant.later ahead) (came_left (located_of c.parameters.seen) _ _ _ (goes_left _ _ ahead) c.parameters.invariant.kept));
    }

pub parameters-smaller : goal.parameters-smaller
parameters-smaller c =
    let first = eaten_goes c.eat.result c.parameters.cursor c.eat.new.cursor (takes RightParen c.parameters.cursor.left) c.eat.ensures in
    let second = eaten_goes c.eat-in-parameters.result c.eat.new.cursor c.eat-in-parameters.new.cursor (takes Spread c.eat.new.cursor.left) c.eat-in-parameters.ensures in
    let third = eaten_goes c.eat-in-parameters-2.result c.parameter.new.cursor c.eat-in-parameters-2.new.cursor (takes RightParen c.parameter.new.cursor.left) c.eat-in-parameters-2.ensures in
    let ahead = goes_further _ _ _ first second in
    let following = took_all _ _ _ (took_further _ _ _ c.in_ok-name.ensures.later third) c.in_ok-expect.ensures.later in
    took_size c.parameters.cursor c.expect.new.cursor (goes_took _ _ _ ahead following)

pub returns-then-eat-clause-later : goal.returns-then-eat-clause-later
returns-then-eat-clause-later c =
    let end = rw c.if-eat.true at c.eat.ensures in
    goes_took _ _ _ c.parameters.invariant.later end.1

pub returns-in_err-rest_parameter-clause-refusal : goal.returns-in_err-rest_parameter-clause-refusal
returns-in_err-rest_parameter-clause-refusal c =
    let dots = rw c.if-eat-2.true at c.eat-in-parameters.ensures in
    let ahead = eaten_goes c.eat.result c.parameters.cursor c.eat.new.cursor (takes RightParen c.parameters.cursor.left) c.eat.ensures in
    let here = goes_further _ _ _ ahead (took_goes _ _ dots.1) in
    let p = err_from_is_err_and c.from_residual.result c.from_residual.ensures.1 in
    rw (p.1, p.2) (known_refused (located_of c.parameters.seen) c.args.cursor.now _ _ _ (goes_further _ _ _ c.parameters.invariant.later here)
    (came_left (located_of c.parameters.seen) _ _ _ (goes_left _ _ here) c.parameters.invariant.kept) c.in_err-rest_parameter.ensures.refusal)

pub returns-then-eat-2-clause-later : goal.returns-then-eat-2-clause-later
returns-then-eat-2-clause-later c =
    let dots = rw c.if-eat-2.true at c.eat-in-parameters.ensures in
    let ahead = eaten_goes c.eat.result c.parameters.cursor c.eat.new.cursor (takes RightParen c.parameters.cursor.left) c.eat.ensures in
    goes_took _ _ _ (goes_further _ _ _ c.parameters.invariant.later ahead) (took_all _ _ _ dots.1 c.in_ok-rest_parameter.ensures.later)

pub returns-in_err-name-clause-refusal : goal.returns-in_err-name-clause-refusal
returns-in_err-name-clause-refusal c =
    let first = eaten_goes c.eat.result c.parameters.cursor c.eat.new.cursor (takes RightParen c.parameters.cursor.left) c.eat.ensures in
    let second = eaten_goes c.eat-in-parameters.result c.eat.new.cursor c.eat-in-parameters.new.cursor (takes Spread c.eat.new.cursor.left) c.eat-in-parameters.ensures in
    let here = goes_further _ _ _ first second in
    let p = err_from_is_err_and c.from_residual-in_err-name.result c.from_residual-in_err-name.ensures.1 in
    rw (p.1, p.2) (known_refused (located_of c.parameters.seen) c.args.cursor.now _ _ _ (goes_further _ _ _ c.parameters.invariant.later here)
    (came_left (located_of c.parameters.seen) _ _ _ (goes_left _ _ here) c.parameters.invariant.kept) c.in_err-name.ensures.refusal)

pub returns-then-eat-3-clause-later : goal.returns-then-eat-3-clause-later
returns-then-eat-3-clause-later c =
    let first = eaten_goes c.eat.result c.parameters.cursor c.eat.new.cursor (takes RightParen c.parameters.cursor.left) c.eat.ensures in
    let second = eaten_goes c.eat-in-parameters.result c.eat.new.cursor c.eat-in-parameters.new.cursor (takes Spread c.eat.new.cursor.left) c.eat-in-parameters.ensures in
    let end = rw c.if-eat-3.true at c.eat-in-parameters-2.ensures in
    goes_took _ _ _ (goes_further _ _ _ c.parameters.invariant.later (goes_further _ _ _ first second)) (took_all _ _ _ c.in_ok-name.ensures.later end.1)

pub returns-in_err-expect-clause-refusal : goal.returns-in_err-expect-clause-refusal
returns-in_err-expect-clause-refusal c =
    let first = eaten_goes c.eat.result c.parameters.cursor c.eat.new.cursor (takes RightParen c.parameters.cursor.left) c.eat.ensures in
    let second = eaten_goes c.eat-in-parameters.result c.eat.new.cursor c.eat-in-parameters.new.cursor (takes Spread c.eat.new.cursor.left) c.eat-in-parameters.ensures in
    let third = eaten_goes c.eat-in-parameters-2.result c.parameter.new.cursor c.eat-in-parameters-2.new.cursor (takes RightParen c.parameter.new.cursor.left) c.eat-in-parameters-2.ensures in
    let p = err_from_is_err_and c.from_residual-in_err-expect.result c.from_residual-in_err-expect.ensures.1 in
    rw (p.1, p.2) (refused_further _ _ _ _ (goes_further _ _ _ c.parameters.invariant.later (goes_further _ _ _ first second))
    (refused_after _ _ _ _ (took_further _ _ _ c.in_ok-name.ensures.later third) c.in_err-expect.ensures.refusal))
