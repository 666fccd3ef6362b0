use Rattle.std.proofs.Common.{rules}
use Rattle.std.proofs.lemmas.List.Sorted.{answers_always}
use Rattle.tera_fixes.proofs.EditedLemmas.{all_sorted}
use Rattle.tera_fixes.proofs.edits.edits_of.Goals as goal

pub returns-clause-ascending : goal.returns-clause-ascending
returns-clause-ascending c =
    c.in_ok-sort_by_key.ensures.sorted (λ e. e.part.start) (answers_always _ _ _ (λ e a r g h. search rules))

pub returns-clause-all : goal.returns-clause-all
returns-clause-all c =
    all_sorted c.args.suggestions.now c.loop-suggestion.suggestion-index c.loop-suggestion.edits.items c.sort_by_key.new.self.items c.loop-suggestion.invariant
    c.loop-suggestion-test.false c.in_ok-sort_by_key.ensures.permutation
