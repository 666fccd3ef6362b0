use Rattle.std.proofs.Common.{◌≡◌, ◌≤◌, ℕ, ◌+◌, false, length, drop, sym, ◌∙◌, Some, None, arith, refl}
use Rattle.std.proofs.lemmas.List.{take_rest, length-drop}
use Rattle.tera_lexer.specs.grammar.Raw.{endraw_word}
use Rattle.tera_lexer.specs.reading.Front.{at_dash, gap_len, word_tag_at, raw_end}
use Rattle.tera_lexer.specs.code.Markers.{IsWordTagOf}
use Rattle.tera_lexer.proofs.RawEnds.{raw_nowhere, raw_missed, raw_closed, closed_by, missed_by}
use Rattle.tera_lexer.proofs.WordTags.{missed_within}
use Rattle.tera_lexer.proofs.lexer.markers.end_after.Goals as goal
use Rattle.tera_lexer.proofs.lexer.markers.end_after.Goals.{then-missed-at+in_default-word_tag_at, else-missed-at+else-starts_with}

pub loop-len-init : goal.loop-len-init
loop-len-init c = record { within = c.requires.within; reached = omega arith; left = c.requires.left; none = λ k after within. absurd (omega arith) }

pub returns-in-Some-word_tag_at : goal.returns-in-Some-word_tag_at
returns-in-Some-word_tag_at c =
    let found = rw c.new-starts.ensures at (rw take_rest at c.in-Some.ensures) in
    let at : ℕ = c.loop-len.from + c.in-Some.len in
    let tag : IsWordTagOf endraw_word c.args.end.now (Some c.in-Some-word_tag_at.tag) (word_tag_at endraw_word c.args.end.now (drop (at + 2) c.args.bytes.now)) = rw c.in-Some-word_tag_at.is at (rw c.split_at.ensures.back at c.word_tag_at.ensures) in
    closed_by c.args.end.now c.in-Some-word_tag_at.tag at (word_tag_at endraw_word c.args.end.now (drop (at + 2) c.args.bytes.now)) (raw_end c.args.start.now c.args.end.now false c.args.bytes.now) tag
    (λ p is. raw_closed c.args.start.now c.args.end.now c.args.bytes.now c.loop-len.from c.requires.start c.loop-len.invariant.left c.in-Some.len found.0.before found.1 p is)

pub loop-len-preserved : goal.loop-len-preserved
loop-len-preserved c =
    let found = rw c.new-starts.ensures at (rw take_rest at c.in-Some.ensures) in
    let at : ℕ = c.loop-len.from + c.in-Some.len in
    let missed = raw_missed c.args.start.now c.args.end.now c.args.bytes.now c.loop-len.from c.requires.start c.loop-len.invariant.left c.in-Some.len found.0.before found.1 in
    let fits : at + 2 ≤ length c.args.bytes.now = omega (arith, found.1.fits, length-drop c.loop-len.from c.args.bytes.now, c.requires.start, c.loop-len.invariant.within) in
    elim c.if-missed-at.branch [
      | then-missed-at+in_default-word_tag_at w ↦
          let tag : IsWordTagOf endraw_word c.args.end.now None (word_tag_at endraw_word c.args.end.now (drop (at + 2) c.args.bytes.now)) = rw w.in_default-word_tag_at.is at (rw c.split_at.ensures.back at w.word_tag_at.ensures) in
          let none = missed_by c.args.end.now (word_tag_at endraw_word c.args.end.now (drop (at + 2) c.args.bytes.now)) tag in
          let len = rw c.split_at.ensures.back at w.start_gap_len.ensures.len in
          let room = rw c.split_at.ensures.back at w.start_gap_len.ensures.within in
          rw w.missed-is (record {
            within = fits;
            reached = omega (arith, room, length-drop (at + 2) c.args.bytes.now);
            left = missed none;
            none = λ k after within. missed_within endraw_word c.args.end.now c.args.bytes.now (at + 2) (at + 2 + gap_len (drop (at + 2) c.args.bytes.now)) none refl k after (omega (arith, within, len));
          })
      | else-missed-at+else-starts_with w ↦
          let dash : at_dash (drop (at + 2) c.args.bytes.now) ≡ false = sym (rw c.split_at.ensures.back at w.starts_with.ensures.value) ∙ w.if-starts_with.false in
          let none = c.loop-len.invariant.none (at + 2) (omega arith) w.if-missed-at.false dash in
          rw w.missed-is (record { within = fits; reached = c.loop-len.invariant.reached; left = missed none; none = λ k after within. c.loop-len.invariant.none k (omega arith) within })
    ]

pub returns : goal.returns
returns c =
    let nowhere = rw c.new-starts.ensures at (rw take_rest at c.in_default.ensures) in
    rw (raw_nowhere c.args.start.now c.args.end.now c.args.bytes.now c.loop-len.from c.requires.start c.loop-len.invariant.left nowhere) tt
