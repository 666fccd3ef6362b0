use Rattle.std.proofs.Common.{◌∙◌, ◌++◌, ◌∷◌, [], length, map, refl, ap, append_assoc}
use Rattle.json.specs.Token.{begin_array}
use Rattle.json.specs.Tree.{items_tokens}
use Rattle.tera_outline.specs.Symbols.{outlined, outline_of}
use Rattle.tera_answers.specs.Outlines.{nested, symbol_items, outline_json}
use Rattle.tera_answers.proofs.Tails.{and_so}
use Rattle.tera_answers.proofs.symbols.put_outline.Goals as goal

pub returns-clause-tokens : goal.returns-clause-tokens
returns-clause-tokens c =
    let e = c.args.encoding in
    let text = c.args.text.now in
    let (parts, are, same) = c.in_ok-symbols.ensures in
    let items = items_tokens (symbol_items e text (nested (outline_of (length text) parts))) in
    and_so c.put_nested.result c.put_nested.ensures.tokens
    (λ h. (
      outline_json e text (outline_of (length text) parts),
      (parts, are, refl),
      h
          ∙ ap (λ ss. c.begin_array.new.self.tokens ++ items_tokens (symbol_items e text (nested ss))) (ap (map outlined) c.as_slice.ensures.value ∙ same)
          ∙ ap (λ ts. ts ++ items) c.in_ok-begin_array.ensures.ok
          ∙ append_assoc c.args.out.now.tokens (begin_array ∷ []) items,
    ))
