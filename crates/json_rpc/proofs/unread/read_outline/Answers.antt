use Rattle.std.proofs.Common.{◌≡◌, ◌-◌, Some, None, sym, ap, ◌∙◌, arith}
use Rattle.json.specs.Json.{members, value, read_key}
use Rattle.json.proofs.Grammar.{read_key-shorter, members_end, members_no_key, members_fail, members_more}
use Rattle.json_rpc.specs.Outline.{no_outline, noted}
use Rattle.json_rpc.specs.Outlined.{outline_view}
use Rattle.json_rpc.proofs.Outlines.{outlined, outlined-more, outlined-none, outlined-all}
use Rattle.json_rpc.proofs.unread.read_outline.Goals as goal

pub returns-in_err-key : goal.returns-in_err-key
returns-in_err-key c =
    let l = c.loop-key in
    let none = outlined-none no_outline _ (l.invariant.2 ∙ ap (outlined (outline_view l.outline)) (members_no_key (value 127) l.invariant.0 l.reader c.in_err-key.ensures.value)) in
    grind (arith, none)

pub returns-in_err-first : goal.returns-in_err-first
returns-in_err-first c =
    let l = c.loop-key in
    let k = c.in-Some.key.now in
    let s = c.next_key.new.self in
    let key : read_key l.reader ≡ Some (Some k, s) = grind arith in
    let none = outlined-none no_outline _ (l.invariant.2 ∙ ap (outlined (outline_view l.outline)) (members_fail (value 127) l.invariant.0 k l.reader s key c.in_err-first.ensures.value)) in
    grind (arith, none)

pub loop-key-preserved : goal.loop-key-preserved
loop-key-preserved c =
    let l = c.loop-key in
    let n = l.invariant.0 in
    let k = c.in-Some.key.now in
    let s = c.next_key.new.self in
    let r = c.read_value.new.reader in
    let o = outline_view l.outline in
    let key : read_key l.reader ≡ Some (Some k, s) = grind arith in
    let less = read_key-shorter l.reader (Some k) s key in
    let lesser = c.in_ok-first.ensures.shorter in
    let read = c.in_ok-first.ensures.value in
    let rest = members (value 127) (n - 1) r in (
      n - 1,
      omega (arith, l.invariant.1),
      l.invariant.2
          ∙ ap (outlined o) (members_more (value 127) n k l.reader s r read.json (omega (arith, l.invariant.1)) key read.value)
          ∙ outlined-more o k read.json rest
          ∙ ap (λ t. outlined (noted o k t) rest) (sym read.first)
          ∙ ap (λ p. outlined p rest) (sym c.note.ensures),
    )

pub returns : goal.returns
returns c =
    let l = c.loop-key in
    let r = c.next_key.new.self in
    let end : read_key l.reader ≡ Some (None, r) = grind arith in
    outlined-all c.args.reader.now (outline_view l.outline) r
    (l.invariant.2 ∙ ap (outlined (outline_view l.outline)) (members_end (value 127) l.invariant.0 l.reader r l.invariant.1 end))
