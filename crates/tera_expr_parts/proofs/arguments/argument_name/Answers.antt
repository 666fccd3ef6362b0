use Rattle.std.proofs.Common.{◌≡◌, inl, inr, cond, ap, subst, sym, ◌∙◌}
use Rattle.std.proofs.lemmas.Result.{err_from_is_err_and}
use Rattle.tera_grammar.specs.expressions.Reading.Front.{taken_name}
use Rattle.tera_expect.proofs.Steps.{failed}
use Rattle.tera_ast.specs.View.{args_view}
use Rattle.tera_grammar.specs.Reads.{found, stopped, ◌>>=◌}
use Rattle.tera_expect.specs.Taking.{name_at, name_in}
use Rattle.tera_expr_parts.specs.CommaLists.{has_argument}
use Rattle.tera_expr_parts.proofs.ArgumentsLemmas.{has_found}
use Rattle.tera_expect.specs.Notes.{Came}
use Rattle.tera_expr_parts.specs.Kept.{AreKept}
use Rattle.tera_expect.proofs.NotesLemmas.{comes_further, goes_left, left_same, taken_comes, took_left}
use Rattle.tera_expect.proofs.TakingLemmas.{goes_further, refused_further, took_goes}
use Rattle.tera_expr_parts.proofs.KeptLemmas.{kept_further, one_kept}
use Rattle.tera_expr_parts.proofs.arguments.argument_name.Goals as goal

pub returns-then-contains_key-clause-gives : goal.returns-then-contains_key-clause-gives
returns-then-contains_key-clause-gives c =
    inr (inl (ap (λ o. o >>= λ n. cond (has_argument n.0.text (args_view c.args.arguments.now.entries)) (stopped n.1) (found n)) c.in_ok-name.ensures.gives
    ∙ ap (λ b. cond b (stopped c.name.new.cursor.left) (found (name_at c.name.new.cursor.span c.in_ok-name.name, c.name.new.cursor.left)))
    (sym (has_found c.in_ok-name.name.now c.args.arguments.now.entries) ∙ sym c.contains_key.ensures ∙ c.if-contains_key.true)))

pub returns-clause-gives : goal.returns-clause-gives
returns-clause-gives c =
    ap (λ o. o >>= λ n. cond (has_argument n.0.text (args_view c.args.arguments.now.entries)) (stopped n.1) (found n)) c.in_ok-name.ensures.gives
    ∙ ap (λ b. cond b (stopped c.name.new.cursor.left) (found (name_at c.name.new.cursor.span c.in_ok-name.name, c.name.new.cursor.left)))
    (sym (has_found c.in_ok-name.name.now c.args.arguments.now.entries) ∙ sym c.contains_key.ensures ∙ c.if-contains_key.false)

pub returns-in_err-name-clause-gives : goal.returns-in_err-name-clause-gives
returns-in_err-name-clause-gives c =
    let p = err_from_is_err_and c.from_residual.result c.from_residual.ensures.1 in
    rw (p.1, p.2) (failed (taken_name c.args.cursor.now.left) _ _ _ c.in_err-name.ensures.gives)

pub returns-in_err-name-clause-refusal : goal.returns-in_err-name-clause-refusal
returns-in_err-name-clause-refusal c = λ start goes kept.
    let p = err_from_is_err_and c.from_residual.result c.from_residual.ensures.1 in
    rw (p.1, p.2) (refused_further start _ _ _ goes c.in_err-name.ensures.refusal)

pub returns-then-contains_key-clause-refusal : goal.returns-then-contains_key-clause-refusal
returns-then-contains_key-clause-refusal c = λ start goes kept.
    c.repeated_argument.ensures start c.args.cursor.now.left (goes_further start _ _ goes (took_goes _ _ c.in_ok-name.ensures.later))
    (subst (λ ns. AreKept ns c.args.cursor.now.left start.left) (sym c.deref.ensures.value) kept)
    (taken_comes (name_at c.name.new.cursor.span c.in_ok-name.name) _ _ c.in_ok-name.ensures.gives)

pub returns-clause-kept : goal.returns-clause-kept
returns-clause-kept c = λ start goes kept.
    let took = took_left _ _ c.in_ok-name.ensures.later in
    let comes = taken_comes (name_at c.name.new.cursor.span c.in_ok-name.name) _ _ c.in_ok-name.ensures.gives in
    let place : c.copied.result ≡ c.name.new.cursor.span = c.copied.ensures ∙ c.current_span.ensures.span in
    one_kept c.args.names.now.items c.push.new.self.items (c.in_ok-name.name, c.copied.result) c.name.new.cursor.left start.left c.in_ok-push.ensures.items
    (kept_further c.args.names.now.items c.name.new.cursor.left c.args.cursor.now.left start.left took kept)
    (subst (λ s. Came (name_in c.in_ok-name.name.now s) c.name.new.cursor.left start.left) (sym place)
    (c.name.new.cursor.left, comes_further _ _ _ _ (goes_left _ _ goes) comes, left_same c.name.new.cursor.left))
