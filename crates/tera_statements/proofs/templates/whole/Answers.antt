use Rattle.std.proofs.Common.{◌∙◌, [], false, ap, refl, subst, sym}
use Rattle.std.proofs.lemmas.Result.{err_from_is_err_and}
use Rattle.tera_lexer.specs.code.Cursors.{Position, is_end}
use Rattle.tera_grammar.specs.statements.Reading.{Place, at, body}
use Rattle.tera_grammar.specs.statements.Reading.Meeting.{Seen}
use Rattle.tera_grammar.specs.statements.Reading.Phases.{Starting}
use Rattle.tera_grammar.proofs.statements.Loops.{topping_ends, topping_left, topping_on, topping_starts}
use Rattle.tera_statements.specs.Adding.{here, seen_of}
use Rattle.tera_expr_parts.specs.Allowed.{limits_of}
use Rattle.tera_expect.specs.Taking.{GoesOn}
use Rattle.tera_statements.specs.Templates.{top_depth, phase_of}
use Rattle.tera_tree.specs.Outputs.{output_view}
use Rattle.tera_tags.specs.Known.{located_of}
use Rattle.tera_expect.proofs.NotesLemmas.{goes_left, took_left}
use Rattle.tera_expect.proofs.TakingLemmas.{took_size, goes_further, stays, took_goes}
use Rattle.tera_tags.proofs.CameLemmas.{came_on, none_came}
use Rattle.tera_tags.proofs.KnowingLemmas.{known_inside}
use Rattle.tera_statements.proofs.EmptyLemmas.{empty_ends, goes_empty}
use Rattle.tera_tags.proofs.RefusalLemmas.{goes_inside, not_both}
use Rattle.tera_statements.proofs.TemplatesLemmas.{empty_steps, excluded_fails, opens}
use Rattle.tera_tags.proofs.Tags.{stops_there}
use Rattle.tera_statements.proofs.templates.whole.Goals as goal

pub items-init : goal.items-init
items-init c =
    let l = limits_of c.args.setting.now.limits in
    let ts = c.args.cursor.now.left in
    record {
      top = topping_starts l (top_depth l) (opens l c.args.setting.now.valid) ts (here c.new-names.result c.args.cursor.now) (output_view c.empty-output.result) Starting
          c.empty-output.ensures (ap (λ n. at n ts) c.new-names.ensures) refl;
      later = stays c.args.cursor.now;
      came = none_came (located_of c.new-names.result.components) ts ts (ap (λ (s : Seen). s.components) c.new-names.ensures);
    }

pub returns-in_err-next-clause-gives : goal.returns-in_err-next-clause-gives
returns-in_err-next-clause-gives c =
    let p = err_from_is_err_and c.from_residual.result c.from_residual.ensures.1 in
    rw (p.1, p.2) (excluded_fails (limits_of c.args.setting.now.limits) c.args.cursor.now.left _ (here c.items.names c.items.cursor) (output_view c.items.output) (phase_of c.items.phase) _
    c.items.invariant.top c.in_err-next.ensures.gives)

pub items-preserved : goal.items-preserved
items-preserved c =
    let l = limits_of c.args.setting.now.limits in
    let (i, read, shows, turned) = rw c.in-Some.is at c.in_ok-next.ensures.gives in
    let took = rw c.in-Some.is at c.in_ok-next.ensures.later in
    record {
      top = topping_on l (top_depth l) (opens l c.args.setting.now.valid) c.args.cursor.now.left (here c.items.names c.items.cursor) (output_view c.items.output) (phase_of c.items.phase)
          i (here c.next_phase.new.names c.next_phase.new.cursor) (output_view c.next_phase.new.output) c.items.invariant.top read
          shows (phase_of c.in-Some.next) turned;
      later = goes_further _ _ _ c.items.invariant.later (took_goes _ _ took);
      came = came_on l (top_depth l) (phase_of c.items.phase) (here c.items.names c.items.cursor) (here c.next_phase.new.names c.next_phase.new.cursor) i c.args.cursor.now.left read
          (took_left _ _ took) (goes_left _ _ c.items.invariant.later) c.items.invariant.came;
    }

pub items-smaller : goal.items-smaller
items-smaller c = took_size c.items.cursor c.next_phase.new.cursor (rw c.in-Some.is at c.in_ok-next.ensures.later)

pub returns-clause-gives : goal.returns-clause-gives
returns-clause-gives c =
    let l = limits_of c.args.setting.now.limits in
    let none = rw c.in_default.is at c.in_ok-next.ensures.gives in
    let left = ap (λ (p : Place). is_end p.tokens) (sym none.1) ∙ sym c.at_end.ensures ∙ c.if-not-at_end.false in
    let (b, read, shows, named) = topping_ends l (top_depth l) (opens l c.args.setting.now.valid) c.args.cursor.now.left (here c.items.names c.items.cursor) (output_view c.items.output)
    (phase_of c.items.phase) c.items.invariant.top none.0 left in
    let stays = ap (λ (p : Place). p.seen) none.1 in
    (b, read, none.2 ∙ shows, stays ∙ named)

pub returns-then-not-at_end-clause-gives : goal.returns-then-not-at_end-clause-gives
returns-then-not-at_end-clause-gives c =
    let l = limits_of c.args.setting.now.limits in
    let none = rw c.in_default.is at c.in_ok-next.ensures.gives in
    let left = ap (λ (p : Place). is_end p.tokens) (sym none.1) ∙ sym c.at_end.ensures ∙ c.if-not-at_end.true in
    stops_there _ _ _ _ (topping_left l (top_depth l) (opens l c.args.setting.now.valid) c.args.cursor.now.left (here c.items.names c.items.cursor) (output_view c.items.output) (phase_of c.items.phase)
    c.items.invariant.top none.0 left) (rw (ap (λ (p : Place). p.tokens) none.1) at c.unknown_tag.ensures.stops)

pub returns-then-not-at_end-clause-refusal : goal.returns-then-not-at_end-clause-refusal
returns-then-not-at_end-clause-refusal c =
    let stayed = rw c.in_default.is at c.in_ok-next.ensures.later in
    let left = sym c.at_end.ensures ∙ c.if-not-at_end.true in
    goes_inside _ _ _ _ (subst (λ (q : Position). GoesOn c.args.cursor.now q) (sym stayed) c.items.invariant.later) (c.unknown_tag.ensures.inside left)

pub returns-in_err-next-clause-empty : goal.returns-in_err-next-clause-empty
returns-in_err-next-clause-empty c =
    let p = err_from_is_err_and c.from_residual.result c.from_residual.ensures.1 in
    rw p.1 (λ empty. c.in_err-next.ensures.empty (goes_empty _ _ c.items.invariant.later empty))

pub returns-then-not-at_end-clause-empty : goal.returns-then-not-at_end-clause-empty
returns-then-not-at_end-clause-empty c = λ empty.
    let l = limits_of c.args.setting.now.limits in
    let none = rw c.in_default.is at c.in_ok-next.ensures.gives in
    let quiet = goes_empty _ _ c.items.invariant.later empty in
    let ended = empty_ends l (body (top_depth l) l) [] (seen_of c.items.names) c.items.cursor.left _ quiet
    (sym (empty_steps l (phase_of c.items.phase) (here c.items.names c.items.cursor) quiet) ∙ none.0) in
    let left = ap (λ (p : Place). is_end p.tokens) (sym none.1) ∙ sym c.at_end.ensures ∙ c.if-not-at_end.true in
    not_both (sym ended ∙ left)

pub returns-in_err-next-clause-refusal : goal.returns-in_err-next-clause-refusal
returns-in_err-next-clause-refusal c =
    let p = err_from_is_err_and c.from_residual.result c.from_residual.ensures.1 in
    rw (p.1, p.2) (known_inside (located_of c.items.names.components) c.args.cursor.now _ _ _ c.items.invariant.later c.items.invariant.came c.in_err-next.ensures.refusal)
