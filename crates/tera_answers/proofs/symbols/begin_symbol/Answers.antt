use Rattle.std.proofs.Common.{◌∙◌, ◌∷◌, ◌++◌, [], codes}
use Rattle.json.specs.Json.{string}
use Rattle.json.specs.Token.{begin_array, begin_object, key}
use Rattle.protocol_values.specs.Writing.{member_tokens, number_json, range_json}
use Rattle.tera_outline.specs.Symbols.{outlined}
use Rattle.tera_answers.specs.Outlines.{kind_name, kind_number, symbol_begin}
use Rattle.tera_answers.specs.Positions.{position_at}
use Rattle.tera_answers.proofs.NestingLemmas.{five}
use Rattle.tera_answers.proofs.Tails.{and_so}
use Rattle.tera_answers.proofs.symbols.begin_symbol.Goals as goal

pub returns : goal.returns
unfolding symbol_begin
returns c =
    let e = c.args.encoding in
    let text = c.args.text.now in
    let s = outlined c.args.symbol.now in
    record {
      tokens =
          and_so c.put_tokens-2.result c.put_tokens-2.ensures.tokens
          (λ h. rw (h, c.in_ok-put_part-2.ensures.tokens, c.in_ok-put_part.ensures.tokens, c.in_ok-put_number.ensures.tokens, c.in_ok-put_tokens.ensures.tokens, c.as_str.ensures.value, c.kind_name.ensures, c.kind_number.ensures)
          (five c.args.out.now.tokens (begin_object ∷ (member_tokens (codes "name") (string s.name) ++ member_tokens (codes "detail") (string (kind_name s.kind)))) (member_tokens (codes "kind") (number_json (kind_number s.kind)))
          (member_tokens (codes "range") (range_json (position_at e text s.start) (position_at e text s.end))) (member_tokens (codes "selectionRange") (range_json (position_at e text s.name_start) (position_at e text s.name_end)))
          (key (codes "children") ∷ begin_array ∷ [])));
      before = c.put_tokens-2.ensures.before ∙ c.in_ok-put_part-2.ensures.before ∙ c.in_ok-put_part.ensures.before ∙ c.in_ok-put_number.ensures.before ∙ c.in_ok-put_tokens.ensures.before;
    }
