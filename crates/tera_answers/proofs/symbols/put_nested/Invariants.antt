use Rattle.std.proofs.Common.{◌≡◌, ◌++◌, drop, map, reverse}
use Rattle.json.specs.Tree.{items_tokens}
use Rattle.tera_outline.specs.Symbols.{outlined}
use Rattle.tera_answers.specs.Outlines.{nested, symbol_items}
use Rattle.tera_answers.proofs.NestingLemmas.{left}
use Rattle.tera_answers.proofs.symbols.put_nested.Given as goal

abbrev pub invariant-loop-symbol : goal.invariant-loop-symbol
invariant-loop-symbol l = record {
  tokens : l.initial.out.tokens ++ items_tokens (symbol_items l.encoding l.text (nested (map outlined l.symbols)))
      ≡ l.out.tokens ++ left l.encoding l.text (reverse l.open.items) (nested (map outlined (drop l.symbol-index l.symbols)));
  before : l.out.before ≡ l.initial.out.before;
}
