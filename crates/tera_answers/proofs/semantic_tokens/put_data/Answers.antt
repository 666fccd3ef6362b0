use Rattle.std.proofs.Common.{◌∙◌, ◌+◌, ◌++◌, [], drop, get_or, map, refl, ap, sym, arith}
use Rattle.std.specs.List.{flat_map}
use Rattle.std.proofs.lemmas.List.{drop_more}
use Rattle.tera_answers.specs.SemanticTokens.{placed, numbers, data_from, number_tokens}
use Rattle.tera_answers.proofs.TokenLemmas.{no_token, first_at, ready_first, ready_at, ready_order, ready_up, ready_next, next_reported}
use Rattle.tera_answers.proofs.semantic_tokens.put_data.Goals as goal

pub loop-token-init : goal.loop-token-init
loop-token-init c = record {
  ready = ready_first c.args.encoding c.args.text.now c.first-walk.result c.args.tokens.now (c.first-walk.ensures c.args.encoding []) (c.first-walk.ensures c.args.encoding c.args.text.now) c.requires;
  tokens = ap (λ p. c.args.out.now.tokens ++ flat_map number_tokens (data_from p (map (placed c.args.encoding c.args.text.now) c.args.tokens.now))) (sym (first_at c.args.encoding c.first-walk.result (c.first-walk.ensures c.args.encoding [])));
  before = refl;
}

pub place-requires-clause-reached : goal.place-requires-clause-reached
place-requires-clause-reached c = c.loop-token.invariant.ready.reached

pub place-requires-clause-order : goal.place-requires-clause-order
place-requires-clause-order c =
    ready_order c.args.encoding c.args.text.now c.loop-token.last c.loop-token.walk (get_or c.args.tokens.now c.loop-token.token-index no_token) (drop (c.loop-token.token-index + 1) c.args.tokens.now)
    (ready_at c.args.encoding c.args.text.now c.loop-token.last c.loop-token.walk c.args.tokens.now c.loop-token.token-index (omega arith) c.loop-token.invariant.ready)

pub place-requires-clause-line : goal.place-requires-clause-line
place-requires-clause-line c =
    (ready_at c.args.encoding c.args.text.now c.loop-token.last c.loop-token.walk c.args.tokens.now c.loop-token.token-index (omega arith) c.loop-token.invariant.ready).state.1

pub put_placed-requires : goal.put_placed-requires
put_placed-requires c =
    rw c.place.ensures.placed
    (ready_up c.args.encoding c.args.text.now c.loop-token.last c.loop-token.walk (get_or c.args.tokens.now c.loop-token.token-index no_token) (drop (c.loop-token.token-index + 1) c.args.tokens.now)
    (ready_at c.args.encoding c.args.text.now c.loop-token.last c.loop-token.walk c.args.tokens.now c.loop-token.token-index (omega arith) c.loop-token.invariant.ready))

pub loop-token-preserved : goal.loop-token-preserved
loop-token-preserved c =
    let e = c.args.encoding in
    let text = c.args.text.now in
    let token = get_or c.args.tokens.now c.loop-token.token-index no_token in
    let following = drop (c.loop-token.token-index + 1) c.args.tokens.now in
    record {
      ready = rw c.place.ensures.placed
          (ready_next c.args.encoding c.args.text.now c.loop-token.last c.loop-token.walk c.place.result.1 token following
          (ready_at c.args.encoding c.args.text.now c.loop-token.last c.loop-token.walk c.args.tokens.now c.loop-token.token-index (omega arith) c.loop-token.invariant.ready) c.place.ensures.byte c.place.ensures.reached);
      tokens = rw c.place.ensures.placed
          (next_reported e text c.loop-token.last token following _ c.loop-token.out.tokens c.put_placed.new.out.tokens
          (c.loop-token.invariant.tokens ∙ ap (λ ts. c.loop-token.out.tokens ++ flat_map number_tokens (data_from c.loop-token.last (map (placed e text) ts))) (drop_more c.args.tokens.now c.loop-token.token-index no_token (omega arith)))
          (c.in_ok-put_placed.ensures.tokens ∙ ap (λ p. c.loop-token.out.tokens ++ flat_map number_tokens (numbers c.loop-token.last p)) c.place.ensures.placed));
      before = c.in_ok-put_placed.ensures.before ∙ c.loop-token.invariant.before;
    }
