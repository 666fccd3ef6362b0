-- Of blocks and definitions.
use Rattle.std.proofs.Common.{◌∙◌, ap, sym, string_bytes, inl}
use Rattle.std.proofs.lemmas.Result.{err_from_is_err_and}
use Rattle.tera_ast.specs.Tree as tree
use Rattle.tera_ast.specs.View.{nodes_of}
use Rattle.tera_grammar.specs.statements.Grammar.{Block, Define}
use Rattle.tera_grammar.specs.statements.Output.{AddsNode, AddsDefinition}
use Rattle.tera_grammar.specs.statements.Reading.TagParts.{tag}
use Rattle.tera_statements.specs.Adding.{here, seen_of}
use Rattle.tera_tags.specs.Known.{located_of}
use Rattle.tera_statements.specs.Around.{known_at}
use Rattle.tera_statements.proofs.BlocksLemmas.{barred, block_unnamed, block_unfinished, block_empty, block_unclosed, block_given, block_kept, definition_empty, definition_given, definition_unclosed, nested, unopened}
use Rattle.tera_expect.proofs.Steps.{failed_as, fails_by}
use Rattle.tera_expect.proofs.TakingLemmas.{refused_after, took_further}
use Rattle.tera_tags.proofs.ComponentsLemmas.{ending_keeps, same_definition}
use Rattle.tera_tags.proofs.KnowingLemmas.{knowing, knowing_top}
use Rattle.tera_tags.proofs.KnownLemmas.{same_place}
use Rattle.tera_statements.proofs.+bodies.Goals as goal

pub blocks::block-returns-in_err-check_block-clause-gives : goal.blocks::block-returns-in_err-check_block-clause-gives
blocks::block-returns-in_err-check_block-clause-gives t c = λ path represents start.
    let p = err_from_is_err_and c.from_residual.result c.from_residual.ensures.1 in
    rw (p.1, p.2) (fails_by _ _ _ (λ h. inl (barred _ path start _ _ _ (sym represents.block ∙ h))) c.in_err-check_block.ensures.fails)

pub blocks::block-returns-in_err-name-clause-gives : goal.blocks::block-returns-in_err-name-clause-gives
blocks::block-returns-in_err-name-clause-gives t c = λ path represents start.
    let p = err_from_is_err_and c.from_residual-in_err-name.result c.from_residual-in_err-name.ensures.1 in
    let may = sym represents.block ∙ c.in_ok-check_block.ensures.represents in
    rw (p.1, p.2) (failed_as _ _ _ _ (λ z h. block_unnamed _ path start _ (seen_of c.args.names.now) _ may z h) c.in_err-name.ensures.gives)

pub blocks::block-returns-in_err-finish-clause-gives : goal.blocks::block-returns-in_err-finish-clause-gives
blocks::block-returns-in_err-finish-clause-gives t c = λ path represents start.
    let p = err_from_is_err_and c.from_residual-in_err-finish.result c.from_residual-in_err-finish.ensures.1 in
    let may = sym represents.block ∙ c.in_ok-check_block.ensures.represents in
    let (n, named, is) = c.in_ok-name.ensures.gives in
    rw (p.1, p.2) (failed_as _ _ _ _ (λ z h. block_unfinished _ path start _ (seen_of c.args.names.now) _ may n _ named z h) c.in_err-finish.ensures.gives)

pub blocks::block-returns-in_err-inside-clause-gives : goal.blocks::block-returns-in_err-inside-clause-gives
blocks::block-returns-in_err-inside-clause-gives t c = λ path represents start.
    let p = err_from_is_err_and c.from_residual-in_err-inside.result c.from_residual-in_err-inside.ensures.1 in
    let may = sym represents.block ∙ c.in_ok-check_block.ensures.represents in
    let (n, named, is) = c.in_ok-name.ensures.gives in
    let (f, ended) = c.in_ok-finish.ensures.gives in
    let seen = seen_of c.args.names.now in
    let kept = block_kept seen (located_of c.new_block.new.blocks) n (c.in_ok-name.ensures.kept ∙ same_place seen.blocks is.0 is.1) in
    rw (p.1, p.2) (failed_as _ _ _ _ (λ z h. block_empty _ path start _ seen _ may n _ named f _ ended z (rw (sym kept) h)) (c.in_err-inside.ensures.gives path represents))

pub blocks::block-returns-in_err-block_end-clause-gives : goal.blocks::block-returns-in_err-block_end-clause-gives
blocks::block-returns-in_err-block_end-clause-gives t c = λ path represents start.
    let p = err_from_is_err_and c.from_residual-in_err-block_end.result c.from_residual-in_err-block_end.ensures.1 in
    let may = sym represents.block ∙ c.in_ok-check_block.ensures.represents in
    let (n, named, is) = c.in_ok-name.ensures.gives in
    let (f, ended) = c.in_ok-finish.ensures.gives in
    let seen = seen_of c.args.names.now in
    let kept = block_kept seen (located_of c.new_block.new.blocks) n (c.in_ok-name.ensures.kept ∙ same_place seen.blocks is.0 is.1) in
    let (b, inside, shows) = c.in_ok-inside.ensures.gives path represents in
    rw (p.1, p.2) (failed_as _ _ _ _ (λ z h. block_unclosed _ path start _ seen _ may n _ named f _ ended b (here c.body.new.names c.body.new.cursor) (rw (sym kept) inside) z h) (c.in_err-block_end.ensures.gives n (sym is.0)))

pub blocks::block-returns-clause-gives : goal.blocks::block-returns-clause-gives
blocks::block-returns-clause-gives t c = λ path represents start.
    let may = sym represents.block ∙ c.in_ok-check_block.ensures.represents in
    let (n, named, is) = c.in_ok-name.ensures.gives in
    let (f, ended) = c.in_ok-finish.ensures.gives in
    let seen = seen_of c.args.names.now in
    let kept = block_kept seen (located_of c.new_block.new.blocks) n (c.in_ok-name.ensures.kept ∙ same_place seen.blocks is.0 is.1) in
    let (b, inside, shows) = c.in_ok-inside.ensures.gives path represents in
    let (e, closed) = c.in_ok-block_end.ensures.gives n (sym is.0) in
    let text = ap string_bytes c.in_ok-name-3.ensures.node ∙ c.in_ok-name-2.ensures.ok ∙ is.0 in
    let span = c.in_ok-name-3.ensures.span ∙ is.1 in (
      Block (tag start c.args.cursor.now.span f) n b e.0 e.1,
      block_given _ path start c.args.cursor.now.span seen _ may n _ named f _ ended b (here c.body.new.names c.body.new.cursor) (rw (sym kept) inside) e _ closed,
      ap AddsNode (c.block.ensures ∙ (λ i. tree.Block (text i) (span i) (nodes_of (shows i)))),
    )

pub blocks::definition-returns-in_err-check_definition-clause-gives : goal.blocks::definition-returns-in_err-check_definition-clause-gives
blocks::definition-returns-in_err-check_definition-clause-gives t c = λ path represents start.
    let p = err_from_is_err_and c.from_residual.result c.from_residual.ensures.1 in
    rw (p.1, p.2) (fails_by _ _ _ (λ h. inl (nested _ _ path start _ _ _ (sym represents.outermost ∙ h))) c.in_err-check_definition.ensures.fails)

pub blocks::definition-returns-in_err-opened-clause-gives : goal.blocks::definition-returns-in_err-opened-clause-gives
blocks::definition-returns-in_err-opened-clause-gives t c = λ path represents start.
    let p = err_from_is_err_and c.from_residual-in_err-opened.result c.from_residual-in_err-opened.ensures.1 in
    let may = sym represents.outermost ∙ c.in_ok-check_definition.ensures.represents in
    rw (p.1, p.2) (failed_as _ _ _ _ (λ z h. unopened _ _ path start _ (seen_of c.args.names.now) _ may z h) c.in_err-opened.ensures.gives)

pub blocks::definition-returns-in_err-inside-clause-gives : goal.blocks::definition-returns-in_err-inside-clause-gives
blocks::definition-returns-in_err-inside-clause-gives t c = λ path represents start.
    let p = err_from_is_err_and c.from_residual-in_err-inside.result c.from_residual-in_err-inside.ensures.1 in
    let may = sym represents.outermost ∙ c.in_ok-check_definition.ensures.represents in
    let (o, named, (is, keeps)) = c.in_ok-opened.ensures.gives in
    let seen = seen_of c.args.names.now in
    rw (p.1, p.2) (failed_as _ _ _ _ (λ z h. definition_empty _ _ path start _ seen _ may o _ named z (rw (sym keeps) h)) (c.in_err-inside.ensures.gives path represents))

pub blocks::definition-returns-in_err-closing_tag-clause-gives : goal.blocks::definition-returns-in_err-closing_tag-clause-gives
blocks::definition-returns-in_err-closing_tag-clause-gives t c = λ path represents start.
    let p = err_from_is_err_and c.from_residual-in_err-closing_tag.result c.from_residual-in_err-closing_tag.ensures.1 in
    let may = sym represents.outermost ∙ c.in_ok-check_definition.ensures.represents in
    let (o, named, (is, keeps)) = c.in_ok-opened.ensures.gives in
    let seen = seen_of c.args.names.now in
    let (b, inside, shows) = c.in_ok-inside.ensures.gives path represents in
    rw (p.1, p.2) (failed_as _ _ _ _ (λ z h. definition_unclosed _ _ path start _ seen _ may o _ named b (here c.body.new.names c.body.new.cursor) (rw (sym keeps) inside) z h)
    (c.in_err-closing_tag.ensures.gives start c.args.cursor.now.span o (sym is.0 ∙ sym c.as_str.ensures.value)))

pub blocks::definition-returns-clause-gives : goal.blocks::definition-returns-clause-gives
blocks::definition-returns-clause-gives t c = λ path represents start.
    let may = sym represents.outermost ∙ c.in_ok-check_definition.ensures.represents in
    let (o, named, (is, keeps)) = c.in_ok-opened.ensures.gives in
    let seen = seen_of c.args.names.now in
    let (b, inside, shows) = c.in_ok-inside.ensures.gives path represents in
    let (h, ended) = c.in_ok-closing_tag.ensures.gives start c.args.cursor.now.span o (sym is.0 ∙ sym c.as_str.ensures.value) in
    let whole = same_definition o _ _ _ _ _ _ is.0 is.1.0 is.1.1 is.2 shows ∙ ending_keeps start _ o _ _ h _ ended in (
      Define h b,
      definition_given _ _ path start c.args.cursor.now.span seen _ may o _ named b (here c.body.new.names c.body.new.cursor) (rw (sym keeps) inside) h _ ended,
      ap AddsDefinition whole,
    )

pub blocks::definition-returns-in_err-check_definition-clause-refusal : goal.blocks::definition-returns-in_err-check_definition-clause-refusal
blocks::definition-returns-in_err-check_definition-clause-refusal t c =
    let p = err_from_is_err_and c.from_residual.result c.from_residual.ensures.1 in
    rw (p.1, p.2) (knowing (known_at c.args.around.now c.args.names.now) _ _ _ c.in_err-check_definition.ensures.refusal)

pub blocks::definition-returns-in_err-opened-clause-refusal : goal.blocks::definition-returns-in_err-opened-clause-refusal
blocks::definition-returns-in_err-opened-clause-refusal t c =
    let p = err_from_is_err_and c.from_residual-in_err-opened.result c.from_residual-in_err-opened.ensures.1 in
    rw (p.1, p.2) (knowing_top _ (located_of c.args.names.now.components) _ _ _ c.in_ok-check_definition.ensures.represents c.in_err-opened.ensures.refusal)

pub blocks::definition-returns-in_err-inside-clause-refusal : goal.blocks::definition-returns-in_err-inside-clause-refusal
blocks::definition-returns-in_err-inside-clause-refusal t c =
    let p = err_from_is_err_and c.from_residual-in_err-inside.result c.from_residual-in_err-inside.ensures.1 in
    rw (p.1, p.2) (knowing (known_at c.args.around.now c.args.names.now) _ _ _ (refused_after _ _ _ _ c.in_ok-opened.ensures.later c.in_err-inside.ensures.refusal))

pub blocks::definition-returns-in_err-closing_tag-clause-refusal : goal.blocks::definition-returns-in_err-closing_tag-clause-refusal
blocks::definition-returns-in_err-closing_tag-clause-refusal t c =
    let p = err_from_is_err_and c.from_residual-in_err-closing_tag.result c.from_residual-in_err-closing_tag.ensures.1 in
    rw (p.1, p.2) (knowing (known_at c.args.around.now c.args.names.now) _ _ _ (refused_after _ _ _ _ (took_further _ _ _ c.in_ok-opened.ensures.later c.in_ok-inside.ensures.later) c.in_err-closing_tag.ensures.refusal))
