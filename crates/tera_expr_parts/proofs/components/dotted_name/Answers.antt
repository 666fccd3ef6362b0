use Rattle.std.proofs.Common.{rules, ◌≡◌, sym, subst, ◌++◌, codes, string_bytes}
use Rattle.std.proofs.lemmas.Result.{err_from_is_err_and}
use Rattle.tera_expect.specs.Taking.{name_at}
use Rattle.tera_expr_parts.proofs.PathsLemmas.{Joining, begun, start_failed, more, failed, ended}
use Rattle.tera_expect.proofs.TakingLemmas.{took_all}
use Rattle.tera_expr_parts.proofs.components.dotted_name.Goals as goal

pub returns-in_err-first-clause-gives : goal.returns-in_err-first-clause-gives
returns-in_err-first-clause-gives c =
    let p = err_from_is_err_and c.from_residual.result c.from_residual.ensures.1 in
    rw (p.1, p.2) (start_failed c.args.cursor.now.left _ _ c.in_err-first.ensures.gives)

pub names-init : goal.names-init
names-init c = record {
  joining = subst (λ v. Joining c.args.cursor.now.left v c.name.new.cursor.left) (sym c.in_ok-text.ensures.ok)
      (begun c.args.cursor.now.left c.name.new.cursor.left (name_at c.name.new.cursor.span c.in_ok-first.first) c.in_ok-first.ensures.gives);
  later = c.in_ok-first.ensures.later;
}

pub returns-in_err-part-clause-gives : goal.returns-in_err-part-clause-gives
returns-in_err-part-clause-gives c =
    let dot = rw c.names-test.true at c.eat.ensures in
    let p = err_from_is_err_and c.from_residual-in_err-part.result c.from_residual-in_err-part.ensures.1 in
    rw (p.1, p.2) (failed c.args.cursor.now.left c.names.cursor.left c.eat.new.cursor.left _ _ c.names.invariant.joining dot.0 _ _ c.in_err-part.ensures.gives)

pub names-preserved : goal.names-preserved
names-preserved c =
    let dot = rw c.names-test.true at c.eat.ensures in
    let dotted : string_bytes c.push.new.self ≡ string_bytes c.names.text ++ codes "." = search rules in
    let whole : string_bytes c.push_str.new.self ≡ (string_bytes c.names.text ++ codes ".") ++ c.in_ok-part.part.now = search rules in
    record {
      joining = subst (λ v. Joining c.args.cursor.now.left v c.name-in-names.new.cursor.left) (sym whole)
          (more c.args.cursor.now.left c.names.cursor.left c.eat.new.cursor.left c.name-in-names.new.cursor.left (string_bytes c.names.text) c.eat.new.cursor.span
          (name_at c.name-in-names.new.cursor.span c.in_ok-part.part) c.names.invariant.joining dot.0 c.in_ok-part.ensures.gives);
      later = took_all _ _ _ c.names.invariant.later (took_all _ _ _ dot.1 c.in_ok-part.ensures.later);
    }

pub returns-clause-gives : goal.returns-clause-gives
returns-clause-gives c =
    let dot = rw c.names-test.false at c.eat.ensures in
    rw dot.1 (ended c.args.cursor.now.left c.names.cursor.left (string_bytes c.names.text) c.names.invariant.joining dot.0)
