use Rattle.std.proofs.Common.{◌≡◌, ◌∙◌, Option, Some, None, refl, ap, inl}
use Rattle.std.specs.Str.{bytes_eq}
use Rattle.std.proofs.lemmas.Result.{err_from_is_err_and}
use Rattle.tera_grammar.specs.Reads.{found}
use Rattle.tera_grammar.specs.statements.Reading.TagParts.{finish_of, name_if_any, name_if_found, tag}
use Rattle.tera_grammar.specs.statements.TagParts.{Name, Tag}
use Rattle.tera_expect.specs.Taking.{name_at}
use Rattle.tera_statements.proofs.BlocksLemmas.{unclosed_block, renamed, ends_as}
use Rattle.tera_expect.proofs.Steps.{failed_as, fails_by, passed}
use Rattle.tera_statements.proofs.blocks.block_end.Goals as goal

pub returns-in_err-closed-clause-gives : goal.returns-in_err-closed-clause-gives
returns-in_err-closed-clause-gives c = λ n named.
    let p = err_from_is_err_and c.from_residual.result c.from_residual.ensures.1 in
    rw (p.1, p.2) (failed_as _ _ _ _ (λ z h. unclosed_block n _ z h) c.in_err-closed.ensures.gives)

pub returns-in_err-check_name-in-Some-clause-gives : goal.returns-in_err-check_name-in-Some-clause-gives
returns-in_err-check_name-in-Some-clause-gives c = λ n named.
    let p = err_from_is_err_and c.from_residual-in_err-check_name-in-Some.result c.from_residual-in_err-check_name-in-Some.ensures.1 in
    let (x, there) = c.in_ok-closed.ensures.gives in
    let us = c.closed.new.cursor.left in
    let eaten = c.in-Some.ensures in
    let m = name_at c.eat_name.new.cursor.span c.in-Some.end in
    let any : name_if_any us ≡ found (Some m, c.eat_name.new.cursor.left) = ap (name_if_found us) eaten.0 in
    rw (p.1, p.2) (fails_by _ _ _ (λ h. inl (renamed n _ us x there (Some m) _ any (ap (bytes_eq c.in-Some.end.now) named ∙ h))) c.in_err-check_name-in-Some.ensures.fails)

pub returns-in_ok-check_name-in-Some-clause-gives : goal.returns-in_ok-check_name-in-Some-clause-gives
returns-in_ok-check_name-in-Some-clause-gives c = λ n named.
    let (x, there) = c.in_ok-closed.ensures.gives in
    let us = c.closed.new.cursor.left in
    let eaten = c.in-Some.ensures in
    let m = name_at c.eat_name.new.cursor.span c.in-Some.end in
    let any : name_if_any us ≡ found (Some m, c.eat_name.new.cursor.left) = ap (name_if_found us) eaten.0 in
    rw (ends_as n _ us x there (Some m) _ any (ap (bytes_eq c.in-Some.end.now) named ∙ c.in_ok-check_name-in-Some.ensures.same))
    (passed {S = Tag × Option Name} (λ f. (tag x.0 x.1 f, Some m)) c.finish.result _ _ c.finish.ensures.gives)

pub returns-in-None-clause-gives : goal.returns-in-None-clause-gives
returns-in-None-clause-gives c = λ n named.
    let (x, there) = c.in_ok-closed.ensures.gives in
    let us = c.closed.new.cursor.left in
    let stays = c.in-None.ensures in
    let any : name_if_any us ≡ found (None, us) = ap (name_if_found us) stays.0 in
    rw (ends_as n _ us x there None us any refl) (rw stays.1 at (passed {S = Tag × Option Name} (λ f. (tag x.0 x.1 f, None)) c.finish-in-None.result c.finish-in-None.new.cursor.left (finish_of c.eat_name.new.cursor.left) c.finish-in-None.ensures.gives))
