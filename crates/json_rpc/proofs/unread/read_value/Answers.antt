use Rattle.std.proofs.Common.{◌≡◌, [], ◌∷◌, None, ap, ◌∙◌, arith, lit<}
use Rattle.json.specs.Json.{array, object, parse_map, value}
use Rattle.json.specs.Reads.{token_of}
use Rattle.json.specs.Token.{Token}
use Rattle.json.proofs.Grammar.{left_none, left_some, value_is, value-begin_array, value-begin_object}
use Rattle.json_rpc.proofs.Outlines.{read_scalar}
use Rattle.json_rpc.proofs.unread.read_value.Goals as goal

pub returns-in_err-first-clause-value : goal.returns-in_err-first-clause-value
returns-in_err-first-clause-value c =
    let empty : c.args.reader.now ≡ [] = grind arith in
    let none : value 127 c.args.reader.now ≡ None = ap (value 127) empty ∙ value_is 127 [] in
    grind (arith, none)

pub returns-in_err-end_items-in-BeginArray-clause-value : goal.returns-in_err-end_items-in-BeginArray-clause-value
returns-in_err-end_items-in-BeginArray-clause-value c =
    let first : c.args.reader.now ≡ token_of c.in_ok-first.first ∷ c.next.new.self = grind arith in
    let opened : c.args.reader.now ≡ Token.begin_array ∷ c.next.new.self = first ∙ ap (λ k. token_of k ∷ c.next.new.self) c.in-BeginArray.is in
    let none : value 127 c.args.reader.now ≡ None =
    ap (value 127) opened ∙ value-begin_array 127 c.next.new.self (lit< tt)
    ∙ ap (parse_map array) (left_none _ c.in_err-end_items-in-BeginArray.ensures) in
    grind (arith, none)

pub returns-in_err-end_members-in-BeginObject-clause-value : goal.returns-in_err-end_members-in-BeginObject-clause-value
returns-in_err-end_members-in-BeginObject-clause-value c =
    let first : c.args.reader.now ≡ token_of c.in_ok-first.first ∷ c.next.new.self = grind arith in
    let opened : c.args.reader.now ≡ Token.begin_object ∷ c.next.new.self = first ∙ ap (λ k. token_of k ∷ c.next.new.self) c.in-BeginObject.is in
    let none : value 127 c.args.reader.now ≡ None =
    ap (value 127) opened ∙ value-begin_object 127 c.next.new.self (lit< tt)
    ∙ ap (parse_map object) (left_none _ c.in_err-end_members-in-BeginObject.ensures) in
    grind (arith, none)

pub returns-in-String-clause-value : goal.returns-in-String-clause-value
returns-in-String-clause-value c =
    let first : c.args.reader.now ≡ token_of c.in_ok-first.first ∷ c.next.new.self = grind arith in
    read_scalar c.in_ok-first.first c.next.new.self c.args.reader.now first c.in-String.is

pub returns-in-EndObject-clause-value : goal.returns-in-EndObject-clause-value
returns-in-EndObject-clause-value c =
    let first : c.args.reader.now ≡ token_of c.in_ok-first.first ∷ c.next.new.self = grind arith in
    rw (value_is 127 c.args.reader.now, first) (grind arith)

pub returns-in_ok-end_items-in-BeginArray-clause-value : goal.returns-in_ok-end_items-in-BeginArray-clause-value
returns-in_ok-end_items-in-BeginArray-clause-value c =
    let first : c.args.reader.now ≡ token_of c.in_ok-first.first ∷ c.next.new.self = grind arith in
    let opened : c.args.reader.now ≡ Token.begin_array ∷ c.next.new.self = first ∙ ap (λ k. token_of k ∷ c.next.new.self) c.in-BeginArray.is in
    let js = left_some _ c.end_items.new.reader c.in_ok-end_items-in-BeginArray.ensures.0 in
    record {
      json = array js.0;
      value = ap (value 127) opened ∙ value-begin_array 127 c.next.new.self (lit< tt) ∙ ap (parse_map array) js.1;
      first = ap token_of c.in-BeginArray.is;
    }

pub returns-in_ok-end_members-in-BeginObject-clause-value : goal.returns-in_ok-end_members-in-BeginObject-clause-value
returns-in_ok-end_members-in-BeginObject-clause-value c =
    let first : c.args.reader.now ≡ token_of c.in_ok-first.first ∷ c.next.new.self = grind arith in
    let opened : c.args.reader.now ≡ Token.begin_object ∷ c.next.new.self = first ∙ ap (λ k. token_of k ∷ c.next.new.self) c.in-BeginObject.is in
    let ms = left_some _ c.end_members.new.reader c.in_ok-end_members-in-BeginObject.ensures.0 in
    record {
      json = object ms.0;
      value = ap (value 127) opened ∙ value-begin_object 127 c.next.new.self (lit< tt) ∙ ap (parse_map object) ms.1;
      first = ap token_of c.in-BeginObject.is;
    }
