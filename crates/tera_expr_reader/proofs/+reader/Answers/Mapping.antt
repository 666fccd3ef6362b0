-- Of maps.
use Rattle.std.proofs.Common.{rules, ◌≡◌, [], ◌∙◌, ap, sym, subst}
use Rattle.std.proofs.lemmas.Result.{err_from_is_err_and}
use Rattle.tera_grammar.specs.Reads.{found, stopped}
use Rattle.tera_lexer.specs.code.Cursors.{Position}
use Rattle.tera_ast.specs.View.{entries_view}
use Rattle.tera_grammar.specs.expressions.Concrete.{of_entries, ended, pair, spread}
use Rattle.tera_grammar.specs.expressions.Marks.{Colon}
use Rattle.tera_grammar.specs.expressions.Reading.Front.{at, takes}
use Rattle.tera_grammar.specs.expressions.Reading.Bracketed.{row_of, element_of}
use Rattle.tera_grammar.specs.expressions.Spans.{spanning}
use Rattle.tera_expr_parts.specs.Keys.{taken_literal}
use Rattle.tera_expr_parts.specs.Rooms.{room_of}
use Rattle.tera_expr_parts.specs.CommaLists.{reader_of}
use Rattle.tera_expr_parts.proofs.ConstantMaps.{negatable_if_ok}
use Rattle.tera_expect.proofs.TakingLemmas.{took_size, took_all}
use Rattle.tera_expr_reader.proofs.MapsLemmas.{Pairing, Paired, no_entries, none_at_all, lacks_entry, lacks_end, one_entry, map_missed, map_given, spread_read, no_key, no_colon, pair_read}
use Rattle.tera_expr_reader.proofs.RowsLemmas.{begun, gone_begun, gone_on, fails_by}
use Rattle.tera_expr_reader.proofs.+reader.Goals as goal

pub maps::map-elements-init : goal.maps::map-elements-init
maps::map-elements-init t c =
    let l = c.args.values.room.scope.in_loop in
    let none : c.new-entries.result.items ≡ [] = search rules in
    record {
      rows = begun c.args.values (room_of c.args.values.room) of_entries c.args.links.now c.args.cursor.now c.eat-open.new.cursor c.eat-open.result
          (Pairing l c.new-entries.result.items) (Paired l c.new-entries.result.items c.eat-open.new.cursor.span) c.eat-open.ensures
          (subst (λ es. Pairing l es (λ r. r)) (sym none) (no_entries l))
          (subst (λ es. Paired l es c.eat-open.new.cursor.span (ended c.eat-open.new.cursor.span)) (sym none) (none_at_all l c.eat-open.new.cursor.span));
      gone = gone_begun c.eat-open.result c.args.cursor.now c.eat-open.new.cursor _ c.eat-open.ensures;
    }

pub maps::map-returns-in_err-entry-clause-gives : goal.maps::map-returns-in_err-entry-clause-gives
maps::map-returns-in_err-entry-clause-gives t c =
    let f = reader_of c.args.values in
    let w = room_of c.args.values.room in
    let place = at c.args.links.now c.args.cursor.now.left in
    let o = rw c.elements-test.true at c.elements.invariant.rows in
    let p = err_from_is_err_and c.from_residual.result c.from_residual.ensures.1 in
    rw (p.1, p.2) (map_missed f w c.args.first.now place _ _
    (lacks_entry c.args.values.room.scope.in_loop c.elements.entries.items c.args.values w (row_of f w of_entries place)
    c.elements.links c.elements.cursor.left o _ _ c.in_err-entry.ensures.gives))

pub maps::map-returns-in_err-open-clause-gives : goal.maps::map-returns-in_err-open-clause-gives
maps::map-returns-in_err-open-clause-gives t c =
    let f = reader_of c.args.values in
    let w = room_of c.args.values.room in
    let place = at c.args.links.now c.args.cursor.now.left in
    let o = rw c.elements-test.true at c.elements.invariant.rows in
    let (x, read, shown) = c.in_ok-entry.ensures.gives in
    let p = err_from_is_err_and c.from_residual-in_err-open.result c.from_residual-in_err-open.ensures.1 in
    rw (p.1, p.2) (map_missed f w c.args.first.now place _ _
    (lacks_end c.args.values.room.scope.in_loop c.elements.entries.items c.args.values w (row_of f w of_entries place)
    c.elements.links c.elements.cursor.left o x c.entry.new.links c.entry.new.cursor.left read c.more.new.cursor _ c.in_err-open.ensures.gives))

pub maps::map-elements-preserved : goal.maps::map-elements-preserved
maps::map-elements-preserved t c =
    let f = reader_of c.args.values in
    let w = room_of c.args.values.room in
    let place = at c.args.links.now c.args.cursor.now.left in
    let o = rw c.elements-test.true at c.elements.invariant.rows in
    let before = rw c.elements-test.true at c.elements.invariant.gone in
    let (x, read, shown) = c.in_ok-entry.ensures.gives in
    record {
      rows = one_entry c.args.values.room.scope.in_loop c.elements.entries.items c.args.values w (row_of f w of_entries place)
          c.elements.links c.elements.cursor.left o x c.entry.new.links c.entry.new.cursor.left read c.more.new.cursor c.in_ok-open.open c.in_ok-open.ensures.gives
          c.in_ok-entry.entry shown c.push.new.self.items (search rules);
      gone = gone_on c.in_ok-open.open c.args.cursor.now c.elements.cursor c.more.new.cursor before
          (took_all _ _ _ c.in_ok-entry.ensures.later c.in_ok-open.ensures.later);
    }

pub maps::map-elements-smaller : goal.maps::map-elements-smaller
maps::map-elements-smaller t c = took_size c.elements.cursor c.more.new.cursor (took_all _ _ _ c.in_ok-entry.ensures.later c.in_ok-open.ensures.later)

pub maps::map-returns-clause-gives : goal.maps::map-returns-clause-gives
maps::map-returns-clause-gives t c =
    let l = c.args.values.room.scope.in_loop in
    let first = c.args.first.now in
    let z = rw c.elements-test.false at c.elements.invariant.rows in
    let spans : c.spanning-span.result ≡ spanning first c.elements.cursor.span = c.spanning-span.ensures ∙ ap (spanning first) c.current_span.ensures.span in
    map_given l (reader_of c.args.values) (room_of c.args.values.room) first c.elements.cursor.span (at c.args.links.now c.args.cursor.now.left) (at c.elements.links c.elements.cursor.left)
    c.elements.entries.items z.row c.spanning-span.result c.map_or_constant.result z.reads z.is spans c.map_or_constant.ensures.gives c.map_or_constant.ensures.refusal

pub maps::map-returns-clause-negatable : goal.maps::map-returns-clause-negatable
maps::map-returns-clause-negatable t c = negatable_if_ok c.map_or_constant.result (entries_view c.elements.entries.items) c.spanning-span.result c.map_or_constant.ensures.gives

pub maps::entry-returns-in_err-spread-clause-gives : goal.maps::entry-returns-in_err-spread-clause-gives
maps::entry-returns-in_err-spread-clause-gives t c =
    let f = reader_of c.args.values in
    let w = room_of c.args.values.room in
    let mark = rw c.if-eat.true at c.eat.ensures in
    let p = err_from_is_err_and c.from_residual.result c.from_residual.ensures.1 in
    rw (p.1, p.2) (fails_by (element_of f w of_entries (at c.args.links.now c.args.cursor.now.left)) (f w 0 (at c.args.links.now c.eat.new.cursor.left)) _ _
    (λ z none. spread_read f w c.args.links.now c.args.cursor.now.left c.eat.new.cursor.span c.eat.new.cursor.left (stopped z) mark.0 none) c.in_err-spread.ensures.gives)

pub maps::entry-returns-then-eat-clause-gives : goal.maps::entry-returns-then-eat-clause-gives
maps::entry-returns-then-eat-clause-gives t c =
    let mark = rw c.if-eat.true at c.eat.ensures in
    let (t, read, shown) = c.in_ok-spread.ensures.gives in (
      spread c.eat.new.cursor.span t,
      spread_read (reader_of c.args.values) (room_of c.args.values.room) c.args.links.now c.args.cursor.now.left c.eat.new.cursor.span c.eat.new.cursor.left
          (found (t, at c.value.new.links c.value.new.cursor.left)) mark.0 read,
      shown,
    )

pub maps::entry-returns-in_err-key-clause-gives : goal.maps::entry-returns-in_err-key-clause-gives
maps::entry-returns-in_err-key-clause-gives t c =
    let f = reader_of c.args.values in
    let w = room_of c.args.values.room in
    let none = rw c.if-eat.false at c.eat.ensures in
    let back = ap (λ (q : Position). taken_literal q.left) (sym none.1) in
    let p = err_from_is_err_and c.from_residual-in_err-key.result c.from_residual-in_err-key.ensures.1 in
    rw (p.1, p.2) (fails_by (element_of f w of_entries (at c.args.links.now c.args.cursor.now.left)) (taken_literal c.eat.new.cursor.left) _ _
    (λ z h. no_key f w c.args.links.now c.args.cursor.now.left none.0 z (back ∙ h)) c.in_err-key.ensures.gives)

pub maps::entry-returns-in_err-expect-clause-gives : goal.maps::entry-returns-in_err-expect-clause-gives
maps::entry-returns-in_err-expect-clause-gives t c =
    let f = reader_of c.args.values in
    let w = room_of c.args.values.room in
    let none = rw c.if-eat.false at c.eat.ensures in
    let back = ap (λ (q : Position). taken_literal q.left) (sym none.1) in
    let (x, read, same) = c.in_ok-key.ensures.gives in
    let p = err_from_is_err_and c.from_residual-in_err-expect.result c.from_residual-in_err-expect.ensures.1 in
    rw (p.1, p.2) (fails_by (element_of f w of_entries (at c.args.links.now c.args.cursor.now.left)) (takes Colon c.key.new.cursor.left) _ _
    (no_colon f w c.args.links.now c.args.cursor.now.left none.0 (x, c.key.new.cursor.span) c.key.new.cursor.left (back ∙ read)) c.in_err-expect.ensures.gives)

pub maps::entry-returns-in_err-value-clause-gives : goal.maps::entry-returns-in_err-value-clause-gives
maps::entry-returns-in_err-value-clause-gives t c =
    let f = reader_of c.args.values in
    let w = room_of c.args.values.room in
    let none = rw c.if-eat.false at c.eat.ensures in
    let back = ap (λ (q : Position). taken_literal q.left) (sym none.1) in
    let (x, read, same) = c.in_ok-key.ensures.gives in
    let p = err_from_is_err_and c.from_residual-in_err-value.result c.from_residual-in_err-value.ensures.1 in
    rw (p.1, p.2) (fails_by (element_of f w of_entries (at c.args.links.now c.args.cursor.now.left)) (f w 0 (at c.args.links.now c.expect.new.cursor.left)) _ _
    (λ z h. pair_read f w c.args.links.now c.args.cursor.now.left none.0 (x, c.key.new.cursor.span) c.key.new.cursor.left (back ∙ read)
    c.expect.new.cursor.span c.expect.new.cursor.left (stopped z) c.in_ok-expect.ensures.gives h) c.in_err-value.ensures.gives)

pub maps::entry-returns-clause-gives : goal.maps::entry-returns-clause-gives
maps::entry-returns-clause-gives t c =
    let f = reader_of c.args.values in
    let w = room_of c.args.values.room in
    let none = rw c.if-eat.false at c.eat.ensures in
    let back = ap (λ (q : Position). taken_literal q.left) (sym none.1) in
    let (x, read, same) = c.in_ok-key.ensures.gives in
    let (t, valued, shown) = c.in_ok-value.ensures.gives in (
      pair x c.key.new.cursor.span c.expect.new.cursor.span t,
      pair_read f w c.args.links.now c.args.cursor.now.left none.0 (x, c.key.new.cursor.span) c.key.new.cursor.left (back ∙ read)
          c.expect.new.cursor.span c.expect.new.cursor.left (found (t, at c.value-2.new.links c.value-2.new.cursor.left)) c.in_ok-expect.ensures.gives valued,
      (same, shown),
    )
