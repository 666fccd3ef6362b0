use Rattle.std.proofs.Common.{◌≡◌, true, false, Some, is_some, sym, ap, ◌∙◌, arith}
use Rattle.json_rpc.specs.Messages.{message_in}
use Rattle.json_rpc.specs.Outline.{answered_id, opens_object, document_at}
use Rattle.json_rpc.specs.Outlined.{outline_view}
use Rattle.json_rpc.proofs.Outlines.{null_unless_object, null_unless_members, null_unless_last, answered_last, next_none, next_some}
use Rattle.json_rpc.proofs.unread.id_in.Goals as goal

pub returns-then-not-opens_object : goal.returns-then-not-opens_object
returns-then-not-opens_object c =
    let no : opens_object c.args.reader.now ≡ false = grind arith in
    ap Some c.null.ensures ∙ sym (null_unless_object c.args.reader.now no)

pub returns-in_default : goal.returns-in_default
returns-in_default c =
    let rest = c.opens_object.ensures.rest (grind arith) in
    ap Some c.null-in_default.ensures
    ∙ sym (null_unless_members c.opens_object.new.reader c.in_default.ensures)
    ∙ ap (λ ts. answered_id (message_in (document_at ts))) (sym rest)

pub returns-then-is_some : goal.returns-then-is_some
returns-then-is_some c =
    let rest = c.opens_object.ensures.rest (grind arith) in
    let some : is_some c.next.result ≡ true = grind arith in
    let more = next_some c.next.result c.read_outline.new.reader c.next.new.self c.next.ensures.value some in
    ap Some c.null-then-is_some.ensures
    ∙ sym (null_unless_last c.opens_object.new.reader (outline_view c.in-Ok.outline) more.0 c.next.new.self (rw more.1 at c.in-Ok.ensures))
    ∙ ap (λ ts. answered_id (message_in (document_at ts))) (sym rest)

pub returns : goal.returns
returns c =
    let rest = c.opens_object.ensures.rest (grind arith) in
    let no : is_some c.next.result ≡ false = grind arith in
    let end = next_none c.next.result c.read_outline.new.reader c.next.new.self c.next.ensures.value no in
    c.id_to_answer.ensures
    ∙ answered_last c.opens_object.new.reader (outline_view c.in-Ok.outline) (rw end at c.in-Ok.ensures)
    ∙ ap (λ ts. answered_id (message_in (document_at ts))) (sym rest)
