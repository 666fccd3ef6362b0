-- Of first tokens of operands.
use Rattle.std.proofs.Common.{rules, ◌≡◌, ap, sym, ◌∙◌, refl}
use Rattle.std.proofs.lemmas.Result.{err_from_is_err_and}
use Rattle.tera_base.specs.Values as values
use Rattle.tera_lexer.specs.code.Seen.{seen}
use Rattle.tera_lexer.specs.grammar.Tokens.{Token}
use Rattle.tera_ast.specs.Tree as tree
use Rattle.tera_ast.specs.View.{expression_view}
use Rattle.tera_grammar.proofs.expressions.Stack.{pushed, keeps_as, refuses_all, opens, heads_paren, heads_array, heads_map, heads_component, heads_untaken}
use Rattle.tera_grammar.specs.expressions.Reading.Front.{at}
use Rattle.tera_grammar.specs.expressions.Stack.{unwind}
use Rattle.tera_expr_reader.specs.Frames.{frame_view, state_view, level_view}
use Rattle.tera_expr_parts.specs.Rooms.{room_of}
use Rattle.tera_expect.proofs.TakingLemmas.{refused_after}
use Rattle.tera_expr_reader.proofs.StackLemmas.{minus_opens, given_as, missed_as, literal_missed, begins_none, word_none, word_negates, word_given, word_missed}
use Rattle.tera_expr_reader.proofs.+reader.Goals as goal

pub stack::operand-returns-clause-keeps : goal.stack::operand-returns-clause-keeps
stack::operand-returns-clause-keeps t c =
    keeps_as frame_view _ state_view _ _ _ _ _ (sym (ap (unwind frame_view _ _) (opens _ _ _ _ c.if-depth-eq0.false)))
    c.head.ensures.keeps

pub stack::head-returns-in_err-token-clause-keeps : goal.stack::head-returns-in_err-token-clause-keeps
stack::head-returns-in_err-token-clause-keeps t c =
    let p = err_from_is_err_and c.from_residual.result c.from_residual.ensures.1 in
    rw (p.1, p.2) (refuses_all frame_view _ _ _ _ _
    (heads_untaken (room_of c.args.room) (level_view c.args.level) (at c.args.links.now c.args.cursor.now.left) c.args.cursor.now _ _ refl c.in_err-token.ensures.takes))

pub stack::head-returns-in-Minus-clause-keeps : goal.stack::head-returns-in-Minus-clause-keeps
stack::head-returns-in-Minus-clause-keeps t c =
    let took = c.in_ok-token.ensures.takes.1 ∙ ap (λ x. Token (seen x) c.in_ok-token.span c.take.new.cursor.left) c.in-Minus.is in
    keeps_as frame_view _ state_view _ _ _ _ _
    (sym (ap (unwind frame_view _ _) (minus_opens (room_of c.args.room) (level_view c.args.level) (at c.args.links.now c.args.cursor.now.left) _ _ took)))
    (c.prefix.ensures.keeps c.args.room c.args.links.now)

pub stack::head-returns-in-LeftParen-clause-keeps : goal.stack::head-returns-in-LeftParen-clause-keeps
stack::head-returns-in-LeftParen-clause-keeps t c =
    let took = c.in_ok-token.ensures.takes.1 ∙ ap (λ x. Token (seen x) c.in_ok-token.span c.take.new.cursor.left) c.in-LeftParen.is in
    pushed frame_view _ _ _ _ _ c.in_ok-push-in-LeftParen.ensures.items
    ∙ ap (unwind frame_view _ _) (sym (heads_paren (room_of c.args.room) (level_view c.args.level) (at c.args.links.now c.args.cursor.now.left) _ _ took))

pub stack::head-returns-in_err-expr-in-LeftBracket-clause-keeps : goal.stack::head-returns-in_err-expr-in-LeftBracket-clause-keeps
stack::head-returns-in_err-expr-in-LeftBracket-clause-keeps t c =
    let took = c.in_ok-token.ensures.takes.1 ∙ ap (λ x. Token (seen x) c.in_ok-token.span c.take.new.cursor.left) c.in-LeftBracket.is in
    let p = err_from_is_err_and c.from_residual-in_err-expr-in-LeftBracket.result c.from_residual-in_err-expr-in-LeftBracket.ensures.1 in
    rw (p.1, p.2) (refuses_all frame_view _ _ _ _ _
    (missed_as (room_of c.args.room) (level_view c.args.level) (at c.args.links.now c.args.cursor.now.left) _ _ _ took expression_view c.array.new.cursor.span (at c.array.new.links c.array.new.cursor.left) _
    (heads_array (room_of c.args.room) (level_view c.args.level) (at c.args.links.now c.args.cursor.now.left) _ _ took) _ c.in_err-expr-in-LeftBracket.ensures.gives))

pub stack::head-returns-in-LeftBracket-clause-keeps : goal.stack::head-returns-in-LeftBracket-clause-keeps
stack::head-returns-in-LeftBracket-clause-keeps t c =
    let took = c.in_ok-token.ensures.takes.1 ∙ ap (λ x. Token (seen x) c.in_ok-token.span c.take.new.cursor.left) c.in-LeftBracket.is in
    rw c.holds.ensures (ap (unwind frame_view _ _)
    (given_as (room_of c.args.room) (level_view c.args.level) (at c.args.links.now c.args.cursor.now.left) _ _ _ took expression_view c.array.new.cursor.span (at c.array.new.links c.array.new.cursor.left) _
    (heads_array (room_of c.args.room) (level_view c.args.level) (at c.args.links.now c.args.cursor.now.left) _ _ took) _ c.in_ok-expr-in-LeftBracket.ensures.gives))

pub stack::head-returns-in_err-expr-in-LeftBrace-clause-keeps : goal.stack::head-returns-in_err-expr-in-LeftBrace-clause-keeps
stack::head-returns-in_err-expr-in-LeftBrace-clause-keeps t c =
    let took = c.in_ok-token.ensures.takes.1 ∙ ap (λ x. Token (seen x) c.in_ok-token.span c.take.new.cursor.left) c.in-LeftBrace.is in
    let p = err_from_is_err_and c.from_residual-in_err-expr-in-LeftBrace.result c.from_residual-in_err-expr-in-LeftBrace.ensures.1 in
    rw (p.1, p.2) (refuses_all frame_view _ _ _ _ _
    (missed_as (room_of c.args.room) (level_view c.args.level) (at c.args.links.now c.args.cursor.now.left) _ _ _ took expression_view c.map.new.cursor.span (at c.map.new.links c.map.new.cursor.left) _
    (heads_map (room_of c.args.room) (level_view c.args.level) (at c.args.links.now c.args.cursor.now.left) _ _ took) _ c.in_err-expr-in-LeftBrace.ensures.gives))

pub stack::head-returns-in-LeftBrace-clause-keeps : goal.stack::head-returns-in-LeftBrace-clause-keeps
stack::head-returns-in-LeftBrace-clause-keeps t c =
    let took = c.in_ok-token.ensures.takes.1 ∙ ap (λ x. Token (seen x) c.in_ok-token.span c.take.new.cursor.left) c.in-LeftBrace.is in
    rw c.holds-in-LeftBrace.ensures (ap (unwind frame_view _ _)
    (given_as (room_of c.args.room) (level_view c.args.level) (at c.args.links.now c.args.cursor.now.left) _ _ _ took expression_view c.map.new.cursor.span (at c.map.new.links c.map.new.cursor.left) _
    (heads_map (room_of c.args.room) (level_view c.args.level) (at c.args.links.now c.args.cursor.now.left) _ _ took) _ c.in_ok-expr-in-LeftBrace.ensures.gives))

pub stack::head-returns-in_err-expr-in-LessThan-clause-keeps : goal.stack::head-returns-in_err-expr-in-LessThan-clause-keeps
stack::head-returns-in_err-expr-in-LessThan-clause-keeps t c =
    let took = c.in_ok-token.ensures.takes.1 ∙ ap (λ x. Token (seen x) c.in_ok-token.span c.take.new.cursor.left) c.in-LessThan.is in
    let p = err_from_is_err_and c.from_residual-in_err-expr-in-LessThan.result c.from_residual-in_err-expr-in-LessThan.ensures.1 in
    rw (p.1, p.2) (refuses_all frame_view _ _ _ _ _
    (missed_as (room_of c.args.room) (level_view c.args.level) (at c.args.links.now c.args.cursor.now.left) _ _ _ took expression_view c.component.new.cursor.span (at c.component.new.links c.component.new.cursor.left) _
    (heads_component (room_of c.args.room) (level_view c.args.level) (at c.args.links.now c.args.cursor.now.left) _ _ took) _ c.in_err-expr-in-LessThan.ensures.gives))

pub stack::head-returns-in-LessThan-clause-keeps : goal.stack::head-returns-in-LessThan-clause-keeps
stack::head-returns-in-LessThan-clause-keeps t c =
    let took = c.in_ok-token.ensures.takes.1 ∙ ap (λ x. Token (seen x) c.in_ok-token.span c.take.new.cursor.left) c.in-LessThan.is in
    rw c.holds-in-LessThan.ensures (ap (unwind frame_view _ _)
    (given_as (room_of c.args.room) (level_view c.args.level) (at c.args.links.now c.args.cursor.now.left) _ _ _ took expression_view c.component.new.cursor.span (at c.component.new.links c.component.new.cursor.left) _
    (heads_component (room_of c.args.room) (level_view c.args.level) (at c.args.links.now c.args.cursor.now.left) _ _ took) _ c.in_ok-expr-in-LessThan.ensures.gives))

pub stack::head-returns-in_err-expr-in_default : goal.stack::head-returns-in_err-expr-in_default
stack::head-returns-in_err-expr-in_default t c =
    let p = err_from_is_err_and c.from_residual-in_err-expr-in_default.result c.from_residual-in_err-expr-in_default.ensures.1 in
    rw (p.1, p.2) (record {
      keeps = refuses_all frame_view _ _ _ _ _
          (literal_missed (room_of c.args.room) (level_view c.args.level) (at c.args.links.now c.args.cursor.now.left) _ _ _ c.in_ok-token.ensures.takes.1 _
          (begins_none _ c.in_default.not-Ident c.in_default.not-Minus c.in_default.not-LessThan c.in_default.not-LeftBracket c.in_default.not-LeftParen c.in_default.not-LeftBrace)
          c.in_err-expr-in_default.ensures.gives);
      falls = tt;
      negatable = tt;
      refusal = refused_after _ _ _ _ c.in_ok-token.ensures.later c.in_err-expr-in_default.ensures.refusal;
      later = tt;
    })

pub stack::word-returns-then-is_none-clause-keeps : goal.stack::word-returns-then-is_none-clause-keeps
stack::word-returns-then-is_none-clause-keeps t c =
    let here : c.args.cursor.now.span ≡ c.args.span = search rules in
    rw c.holds.ensures (ap (unwind frame_view _ _)
    (word_none (room_of c.args.room) (level_view c.args.level) c.args.links.now c.args.name.now c.args.span c.args.cursor.now.left
    (sym c.is_none.ensures ∙ c.if-is_none.true) _ (c.in_ok-expr.ensures ∙ ap (tree.Const values.Nothing) c.copied.ensures) _ here))

pub stack::word-returns-then-is_not-clause-keeps : goal.stack::word-returns-then-is_not-clause-keeps
stack::word-returns-then-is_not-clause-keeps t c =
    keeps_as frame_view _ state_view _ _ _ _ _
    (sym (ap (unwind frame_view _ _) (word_negates (room_of c.args.room) (level_view c.args.level) c.args.links.now c.args.name.now c.args.span c.args.cursor.now.left
    (sym c.is_none.ensures ∙ c.if-is_none.false) (sym c.is_not.ensures ∙ c.if-is_not.true))))
    (c.prefix.ensures.keeps c.args.room c.args.links.now)

pub stack::word-returns-in_err-expr-2-clause-keeps : goal.stack::word-returns-in_err-expr-2-clause-keeps
stack::word-returns-in_err-expr-2-clause-keeps t c =
    let p = err_from_is_err_and c.from_residual-in_err-expr-2.result c.from_residual-in_err-expr-2.ensures.1 in
    rw (p.1, p.2) (refuses_all frame_view _ _ _ _ _
    (word_missed (room_of c.args.room) (level_view c.args.level) c.args.links.now c.args.name.now c.args.span c.args.cursor.now.left expression_view c.chain.new.cursor.span (at c.chain.new.links c.chain.new.cursor.left)
    (sym c.is_none.ensures ∙ c.if-is_none.false) (sym c.is_not.ensures ∙ c.if-is_not.false) _ c.in_err-expr-2.ensures.gives))

pub stack::word-returns-clause-keeps : goal.stack::word-returns-clause-keeps
stack::word-returns-clause-keeps t c =
    rw c.holds-2.ensures (ap (unwind frame_view _ _)
    (word_given (room_of c.args.room) (level_view c.args.level) c.args.links.now c.args.name.now c.args.span c.args.cursor.now.left expression_view _ _
    (sym c.is_none.ensures ∙ c.if-is_none.false) (sym c.is_not.ensures ∙ c.if-is_not.false) _ c.in_ok-expr-2.ensures.gives))
