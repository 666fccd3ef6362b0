use Rattle.std.proofs.Common.{◌≡◌, ◌∙◌, ◌++◌, ◌∷◌, ◌+◌, [], reverse, drop, map, sym, ap, append_assoc, arith}
use Rattle.std.proofs.lemmas.List.{reverse-append, drop_all}
use Rattle.json.specs.Token.{end_array}
use Rattle.tera_outline.specs.Symbols.{outlined}
use Rattle.tera_answers.specs.Outlines.{nested, all_ended}
use Rattle.tera_answers.proofs.NestingLemmas.{left, left_none, symbol_taken}
use Rattle.tera_answers.proofs.Tails.{and_so}
use Rattle.tera_answers.proofs.symbols.put_nested.Goals as goal

pub loop-symbol-preserved : goal.loop-symbol-preserved
loop-symbol-preserved c =
    let e = c.args.encoding in
    let text = c.args.text.now in
    let s = c.symbol-item.result in
    let stay = reverse c.end_before.new.open.items in
    let opened : reverse c.push.new.self.items ≡ s.end ∷ stay = ap reverse c.in_ok-push.ensures.items ∙ reverse-append c.end_before.new.open.items (s.end ∷ []) in
    record {
      tokens = symbol_taken e text c.args.symbols.now c.loop-symbol.symbol-index s (reverse c.loop-symbol.open.items) stay _ c.loop-symbol.out.tokens c.end_before.new.out.tokens c.begin_symbol.new.out.tokens
          (omega arith) c.symbol-item.is c.loop-symbol.invariant.tokens c.in_ok-end_before.ensures.puts.tokens c.in_ok-begin_symbol.ensures.tokens c.in_ok-end_before.ensures.open
          ∙ ap (λ os. c.begin_symbol.new.out.tokens ++ left e text os (nested (map outlined (drop (c.loop-symbol.symbol-index + 1) c.args.symbols.now)))) (sym opened);
      before = c.in_ok-begin_symbol.ensures.before ∙ c.in_ok-end_before.ensures.puts.before ∙ c.loop-symbol.invariant.before;
    }

pub returns : goal.returns
returns c =
    let e = c.args.encoding in
    let text = c.args.text.now in
    let ends = reverse c.loop-symbol.open.items in
    let none : drop c.loop-symbol.symbol-index c.args.symbols.now ≡ [] = drop_all c.loop-symbol.symbol-index c.args.symbols.now (omega arith) in
    record {
      tokens =
          and_so c.end_array.result c.end_array.ensures.ok
          (λ h. h ∙ ap (λ ts. ts ++ end_array ∷ []) c.in_ok-end_all.ensures.tokens
          ∙ append_assoc c.loop-symbol.out.tokens (all_ended ends) (end_array ∷ [])
          ∙ ap (λ ts. c.loop-symbol.out.tokens ++ ts) (sym (left_none e text ends))
          ∙ ap (λ xs. c.loop-symbol.out.tokens ++ left e text ends (nested (map outlined xs))) (sym none)
          ∙ sym c.loop-symbol.invariant.tokens);
      before = c.end_array.ensures.room.0 ∙ c.in_ok-end_all.ensures.before ∙ c.loop-symbol.invariant.before;
    }
