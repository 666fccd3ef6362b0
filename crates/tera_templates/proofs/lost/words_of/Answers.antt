use Rattle.std.proofs.Common.{◌≡◌, ◌≤◌, ◌<◌, ◌+◌, ◌^◌, ◌∙◌, ◌++◌, ◌∷◌, [], false, true, cond, nat_lt, nat_eq, length, get_or, ap, sym, subst, arith}
use Rattle.tera_lexer.specs.grammar.Lexeme.{goes_on_name}
use Rattle.tera_templates.proofs.WordLemmas.{AreWordsTo, Begun, begun_none, begun_on, mark_pushed, word_pushed, words_are}
use Rattle.tera_templates.proofs.lost.words_of.Goals as goal

pub loop-at-init : goal.loop-at-init
loop-at-init c = begun_none c.args.text.now c.new-words.result.items c.new-words.ensures.items

pub loop-at-preserved-then-goes_on_name : goal.loop-at-preserved-then-goes_on_name
loop-at-preserved-then-goes_on_name c =
    let on : goes_on_name (get_or c.args.text.now c.loop-at.at 0) ≡ true
    = ap (λ bs. goes_on_name (get_or bs c.loop-at.at 0)) (sym c.as_bytes-byte-items.ensures.value) ∙ sym c.goes_on_name.ensures ∙ c.if-goes_on_name.true in
    begun_on c.args.text.now c.loop-at.words.items c.loop-at.start c.loop-at.at c.loop-at.invariant on

pub loop-at-preserved : goal.loop-at-preserved
loop-at-preserved c =
    let text = c.args.text.now in
    let at = c.loop-at.at in
    let same : c.as_bytes-byte-items.result.now ≡ text = c.as_bytes-byte-items.ensures.value in
    let within : at < length text = omega (arith, c.loop-at-test.true, ap length same) in
    let ends : goes_on_name (get_or text at 0) ≡ false
    = ap (λ bs. goes_on_name (get_or bs at 0)) (sym same) ∙ sym c.goes_on_name.ensures ∙ c.if-goes_on_name.false in
    let fits : at + 1 < 2 ^ 64 = omega arith in
    let next : c.saturating_add-start.result ≡ at + 1 = omega (arith, c.saturating_add-start.ensures, fits) in
    let words : AreWordsTo text c.push_word.new.words.items at
    = word_pushed text c.loop-at.words.items c.push_word.new.words.items c.loop-at.start at c.loop-at.invariant (omega (arith, within)) (λ _. ends) c.in_ok-push_word.ensures in
    subst (λ s. Begun text c.push_mark.new.words.items s (at + 1)) (sym next)
    (mark_pushed text c.push_word.new.words.items c.push_mark.new.words.items at (get_or c.as_bytes-byte-items.result.now at 0) words within ends (ap (λ bs. get_or bs at 0) same)
    (c.in_ok-push_mark.ensures fits))

pub returns : goal.returns
returns c =
    let text = c.args.text.now in
    let at = c.loop-at.at in
    let same : c.as_bytes-byte-items.result.now ≡ text = c.as_bytes-byte-items.ensures.value in
    let there : at ≡ length text = omega (arith, c.loop-at-test.false, c.loop-at.auto.at-end, ap length same) in
    let words : AreWordsTo text c.push_word-2.new.words.items (length text)
    = word_pushed text c.loop-at.words.items c.push_word-2.new.words.items c.loop-at.start (length text) (subst (Begun text c.loop-at.words.items c.loop-at.start) there c.loop-at.invariant)
    (omega arith) (λ h. absurd (omega (arith, h))) c.in_ok-push_word-2.ensures in
    words_are text c.push_word-2.new.words.items words
