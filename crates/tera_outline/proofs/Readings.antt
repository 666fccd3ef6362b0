-- The tokens of a text, reading by reading.
use Rattle.std.proofs.Common.{◌≡◌, ◌+◌, ◌<◌, ◌++◌, ℕ, zero, suc, Bool, true, false, Option, Some, None, List, [], ◌∷◌, length, drop, map, refl, sym, ap, subst, ◌∙◌, arith, append_assoc}
use Rattle.std.specs.Prelude.{option_map, unwrap_or}
use Rattle.std.proofs.lemmas.List.{append-nil, drop-drop, map-append}
use Rattle.tera_base.specs.declared.utils.Span.{Span}
use Rattle.tera_lexer.specs.grammar.Faults.{IsFaultOf}
use Rattle.tera_lexer.specs.grammar.Marks.{default_marks}
use Rattle.tera_lexer.specs.grammar.Tokens.{Items, Ended, Failed, Token, AreTokensOf}
use Rattle.tera_lexer.proofs.Lefts.{tokens_one}
use Rattle.tera_layout.proofs.Defaults.{default_valid}
use Rattle.tera_outline.specs.Added.{Adds}
use Rattle.tera_outline.specs.Pieces.{Part, parts_in, opened_after, read_in, stopped_after, start_after, next_of, before, moved, kept, AreWithRest, AreReadBy, ArePartsOf}
use Rattle.tera_outline.proofs.Stopping.{before_all, read_sound}

-- ---- those that are moved

pub moved_by_none : (ps : List Part) → map (moved 0) ps ≡ ps
moved_by_none [] = refl
moved_by_none (p ∷ ps) =
    let start : 0 + p.start ≡ p.start = omega arith in
    let end : 0 + p.end ≡ p.end = omega arith in
    rw (start, end, moved_by_none ps) refl

moved_twice : (n m : ℕ) (ps : List Part) → map (moved n) (map (moved m) ps) ≡ map (moved (n + m)) ps
moved_twice n m [] = refl
moved_twice n m (p ∷ ps) =
    let start : n + (m + p.start) ≡ (n + m) + p.start = omega arith in
    let end : n + (m + p.end) ≡ (n + m) + p.end = omega arith in
    rw (start, end, moved_twice n m ps) refl

-- ---- a reading

-- what begins before where they go on, or before the end
pub all_kept : (again : Bool) (text : List ℕ) (items : Items) (next : Option ℕ) → AreTokensOf default_marks text items
    → before (unwrap_or next (length text)) (read_in again text None items) ≡ kept next (read_in again text None items)
all_kept again text items None tokens = before_all 0 (length text) (read_in again text None items) (read_sound again text items tokens)
all_kept again text items (Some k) tokens = refl

pub goes_on : (all left from next : ℕ) (start again : Bool) (text : List ℕ) (old new : List Part) (items : Items) → AreTokensOf default_marks (drop from text) items
    → next_of again (drop from text) items ≡ Some next → new ≡ old ++ map (moved from) (before next (read_in again (drop from text) None items))
    → ((rest : List Part) → AreReadBy (suc left) again (drop from text) rest → AreReadBy all start text (old ++ map (moved from) rest))
    → (rest : List Part) → AreReadBy left true (drop (from + next) text) rest → AreReadBy all start text (new ++ map (moved (from + next)) rest)
unfolding AreReadBy
goes_on all left from next start again text old new items tokens is adds read rest are =
    let those = read_in again (drop from text) None items in
    let here = before next those in
    let following : AreReadBy left true (drop next (drop from text)) rest = subst (λ t. AreReadBy left true t rest) (sym (drop-drop next from text)) are in
    let whole : AreWithRest (AreReadBy left true) (drop from text) those (next_of again (drop from text) items) (here ++ map (moved next) rest)
    = subst (λ o. AreWithRest (AreReadBy left true) (drop from text) those o (here ++ map (moved next) rest)) (sym is) (rest, following, refl) in
    let same : old ++ map (moved from) (here ++ map (moved next) rest) ≡ new ++ map (moved (from + next)) rest
    = ap (λ ps. old ++ ps) (map-append (moved from) here (map (moved next) rest))
    ∙ (ap (λ ps. old ++ (map (moved from) here ++ ps)) (moved_twice from next rest)
    ∙ (sym (append_assoc old (map (moved from) here) (map (moved (from + next)) rest)) ∙ ap (λ ps. ps ++ map (moved (from + next)) rest) (sym adds))) in
    subst (λ ps. AreReadBy all start text ps) same (read (here ++ map (moved next) rest) (items, tokens, whole))

pub ends_here : (all left from : ℕ) (start again : Bool) (text : List ℕ) (old new : List Part) (items : Items) → AreTokensOf default_marks (drop from text) items
    → next_of again (drop from text) items ≡ None → new ≡ old ++ map (moved from) (read_in again (drop from text) None items)
    → ((rest : List Part) → AreReadBy (suc left) again (drop from text) rest → AreReadBy all start text (old ++ map (moved from) rest)) → AreReadBy all start text new
unfolding AreReadBy
ends_here all left from start again text old new items tokens is adds read =
    let those = read_in again (drop from text) None items in
    let whole : AreWithRest (AreReadBy left true) (drop from text) those (next_of again (drop from text) items) those
    = subst (λ o. AreWithRest (AreReadBy left true) (drop from text) those o those) (sym is) refl in
    subst (λ ps. AreReadBy all start text ps) (sym adds) (read those (items, tokens, whole))

pub none_left : (again : Bool) (text : List ℕ) → AreReadBy 0 again text []
unfolding AreReadBy
none_left again text = refl

-- ---- the search, reading by reading

none_mapped : (from : ℕ) (o : Option ℕ) → None ≡ option_map (λ n. from + n) o → o ≡ None
none_mapped from None e = refl
none_mapped from (Some n) e = cc

some_mapped : (from k : ℕ) (o : Option ℕ) → Some k ≡ option_map (λ n. from + n) o → (j : ℕ) × (o ≡ Some j) × (from + j ≡ k)
some_mapped from k None e = cc
some_mapped from k (Some j) e = (j, refl, cc)

pub reading_adds : (again : Bool) (text rest : List ℕ) (from stop : ℕ) (old read new : List Part) (opened next reached : Option ℕ) → rest ≡ drop from text
    → ((items : Items) × AreTokensOf default_marks rest items × (read ≡ read_in again rest None items) × (opened ≡ stopped_after again rest None items))
    → next ≡ start_after rest opened → stop ≡ unwrap_or next (length rest) → new ≡ old ++ map (moved from) (before stop read) → reached ≡ option_map (λ n. from + n) next
    → Adds again text from old reached new
reading_adds again text rest from stop old read new opened next reached is (items, tokens, same, at) on stops adds reaches =
    let on_there : next ≡ next_of again rest items = on ∙ ap (start_after rest) at in
    let those : before stop read ≡ kept (next_of again rest items) (read_in again rest None items)
    = ap (λ n. before n read) stops ∙ (ap (before (unwrap_or next (length rest))) same ∙ (all_kept again rest items next tokens ∙ ap (λ o. kept o (read_in again rest None items)) on_there)) in (
      items,
      subst (λ t. AreTokensOf default_marks t items) is tokens,
      reaches ∙ ap (option_map (λ n. from + n)) (on_there ∙ ap (λ t. next_of again t items) is),
      adds ∙ ap (λ ps. old ++ map (moved from) ps) (those ∙ ap (λ t. kept (next_of again t items) (read_in again t None items)) is),
    )

-- whatever may be read of the rest belongs after these
abbrev pub Awaits : ℕ → Bool → ℕ → Bool → List ℕ → ℕ → List Part → Type 0
Awaits all start left again text from read = (rest : List Part) → AreReadBy left again (drop from text) rest → AreReadBy all start text (read ++ map (moved from) rest)

pub passed : (all left after from k : ℕ) (start again : Bool) (text : List ℕ) (old new : List Part) (next : Option ℕ) → left ≡ suc after → next ≡ Some k
    → Adds again text from old next new → Awaits all start left again text from old → Awaits all start after true text k new
passed all left after from k start again text old new next fewer is (items, tokens, on, adds) awaits =
    let (j, at, reached) = some_mapped from k (next_of again (drop from text) items) (sym is ∙ on) in
    let added : new ≡ old ++ map (moved from) (before j (read_in again (drop from text) None items)) = adds ∙ ap (λ o. old ++ map (moved from) (kept o (read_in again (drop from text) None items))) at in
    subst (λ n. Awaits all start after true text n new) reached
    (goes_on all after from j start again text old new items tokens at added (subst (λ n. Awaits all start n again text from old) fewer awaits))

pub ended : (all left after from : ℕ) (start again : Bool) (text : List ℕ) (old new : List Part) (next : Option ℕ) → left ≡ suc after → next ≡ None
    → Adds again text from old next new → Awaits all start left again text from old → AreReadBy all start text new
ended all left after from start again text old new next fewer is (items, tokens, on, adds) awaits =
    let at : next_of again (drop from text) items ≡ None = none_mapped from (next_of again (drop from text) items) (sym is ∙ on) in
    let added : new ≡ old ++ map (moved from) (read_in again (drop from text) None items) = adds ∙ ap (λ o. old ++ map (moved from) (kept o (read_in again (drop from text) None items))) at in
    ends_here all after from start again text old new items tokens at added (subst (λ n. Awaits all start n again text from old) fewer awaits)

pub exhausted : (all left from : ℕ) (start again : Bool) (text : List ℕ) (read : List Part) → left ≡ 0 → Awaits all start left again text from read → AreReadBy all start text read
exhausted all left from start again text read none awaits =
    subst (λ ps. AreReadBy all start text ps) (append-nil read) (subst (λ n. Awaits all start n again text from read) none awaits [] (none_left again (drop from text)))

-- ---- the pieces of a reading

-- ---- laws

fails_nowhere : (text : List ℕ) (opened : Option ℕ) (items : Items) → ((message : List ℕ) (span : Span) → IsFaultOf items message span → ⊥) → stopped_after false text opened items ≡ None
fails_nowhere text opened Ended none = refl
fails_nowhere text opened (Failed message span) none = absurd (none message span (refl, refl))
fails_nowhere text opened (Token t span items) none = fails_nowhere text (opened_after opened t span.range.end) items none

all_read : (text : List ℕ) (opened : Option ℕ) (items : Items) → read_in false text opened items ≡ parts_in items
all_read text opened Ended = refl
all_read text opened (Failed message span) = refl
all_read text opened (Token t span items) =
    ap (λ ps. record { token = t; start = span.range.start; end = span.range.end } ∷ ps) (all_read text (opened_after opened t span.range.end) items)

without_fault : (n : ℕ) (text : List ℕ) (parts : List Part) (items : Items) → 0 < n → AreReadBy n false text parts → AreTokensOf default_marks text items
    → ((message : List ℕ) (span : Span) → IsFaultOf items message span → ⊥) → parts ≡ parts_in items
unfolding AreReadBy
without_fault zero text parts items some read tokens none = absurd (omega (arith, some))
without_fault (suc n) text parts items some (read, are, whole) tokens none =
    let same : read ≡ items = tokens_one default_marks default_valid text read items are tokens in
    let on : next_of false text items ≡ None = ap (start_after text) (fails_nowhere text None items none) in
    let all : AreWithRest (AreReadBy n true) text (read_in false text None items) (next_of false text items) parts
    = subst (λ (i : Items). AreWithRest (AreReadBy n true) text (read_in false text None i) (next_of false text i) parts) same whole in
    let those : parts ≡ read_in false text None items = subst (λ o. AreWithRest (AreReadBy n true) text (read_in false text None items) o parts) on all in
    those ∙ all_read text None items

pub all_tokens : (text : List ℕ) (parts : List Part) (items : Items) → ArePartsOf text parts → AreTokensOf default_marks text items
    → ((message : List ℕ) (span : Span) → IsFaultOf items message span → ⊥) → parts ≡ parts_in items
all_tokens text parts items are tokens none = without_fault 100 text parts items (omega arith) are tokens none

one_rest : (P : List ℕ → List Part → Type 0) (text : List ℕ) (read : List Part) (next : Option ℕ) (one other : List Part)
    → ((t : List ℕ) (ps qs : List Part) → P t ps → P t qs → ps ≡ qs) → AreWithRest P text read next one → AreWithRest P text read next other → one ≡ other
one_rest P text read None one other each a b = a ∙ sym b
one_rest P text read (Some k) one other each (rest, are, is) (more, be, same) =
    is ∙ (ap (λ ps. before k read ++ map (moved k) ps) (each (drop k text) rest more are be) ∙ sym same)

one_by : (n : ℕ) (again : Bool) (text : List ℕ) (one other : List Part) → AreReadBy n again text one → AreReadBy n again text other → one ≡ other
unfolding AreReadBy
one_by zero again text one other a b = a ∙ sym b
one_by (suc n) again text one other (items, tokens, whole) (others, are, all) =
    let same : others ≡ items = tokens_one default_marks default_valid text others items are tokens in
    one_rest (AreReadBy n true) text (read_in again text None items) (next_of again text items) one other (λ t ps qs p q. one_by n true t ps qs p q) whole
    (subst (λ (i : Items). AreWithRest (AreReadBy n true) text (read_in again text None i) (next_of again text i) other) same all)

pub one_list : (text : List ℕ) (one other : List Part) → ArePartsOf text one → ArePartsOf text other → one ≡ other
one_list text one other a b = one_by 100 false text one other a b
