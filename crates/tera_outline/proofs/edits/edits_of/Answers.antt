use Rattle.std.proofs.Common.{◌+◌, arith}
use Rattle.tera_outline.proofs.EditSteps.{word_passed, word_before, word_sound, all_edited}
use Rattle.tera_outline.proofs.edits.edits_of.Goals as goal

pub push_run-requires-in-words-clause-edits : goal.push_run-requires-in-words-clause-edits
push_run-requires-in-words-clause-edits c =
    let sound = word_sound c.args.old.now c.args.new.now c.words.at c.words.invariant.edits.alike c.words.invariant.following (omega arith) in
    word_passed c.args.old.now c.args.new.now c.words.edits.items c.words.at c.word_len-word.result c.words.invariant.edits
    (omega (arith, sound.0, sound.1, c.word_len-word.ensures.count))
    (omega arith) (omega arith)
    (omega (arith, c.word_len-word.ensures.count)) (omega (arith, c.word_len-word.ensures.count))

pub push_run-requires-in-words-clause-before : goal.push_run-requires-in-words-clause-before
push_run-requires-in-words-clause-before c = λ some.
    let sound = word_sound c.args.old.now c.args.new.now c.words.at c.words.invariant.edits.alike c.words.invariant.following (omega arith) in
    word_before c.args.old.now c.words.at.old c.word_len-word.result
    (omega (arith, sound.0, sound.1, c.word_len-word.ensures.count))
    (omega (arith, c.word_len-word.ensures.count))

pub returns-clause-applied : goal.returns-clause-applied
returns-clause-applied c =
    all_edited c.args.old.now c.args.new.now c.words.edits.items (c.words.at.old + 1) c.words.at c.words.invariant.edits c.words.invariant.following (omega arith)

pub words-init : goal.words-init
words-init c = record { edits = c.in_ok-at.ensures.edits; following = c.in_ok-at.ensures.following }

pub words-preserved : goal.words-preserved
words-preserved c = record { edits = c.in_ok-at-2.ensures.edits; following = c.in_ok-at-2.ensures.following }

pub words-smaller : goal.words-smaller
words-smaller c =
    let sound = word_sound c.args.old.now c.args.new.now c.words.at c.words.invariant.edits.alike c.words.invariant.following (omega arith) in
    omega (arith, sound.0, sound.1, c.word_len-word.ensures.count, c.in_ok-at-2.ensures.onward, c.words-test.true)

pub returns-clause-apart : goal.returns-clause-apart
returns-clause-apart c = c.words.invariant.edits.apart

pub returns-clause-white : goal.returns-clause-white
returns-clause-white c = c.words.invariant.edits.replace
