-- The tags of raw pieces.
use Rattle.std.proofs.Common.{◌≡◌, ℕ, ◌+◌, ◌-◌, ◌<◌, ◌≤◌, zero, suc, Bool, true, false, List, [], ◌∷◌, ◌++◌, length, drop, Option, Some, None, ⊎_elim, sym, ap, ◌∙◌, refl, subst, arith, append_assoc}
use Rattle.std.specs.Char.{is_ascii_whitespace}
use Rattle.std.specs.List.{prefix_len}
use Rattle.std.proofs.lemmas.Bool.{cases_Bool}
use Rattle.std.proofs.lemmas.List.{length-append, drop-drop}
use Rattle.tera_lexer.specs.grammar.Marks.{begins, dash_bytes, TakesDash}
use Rattle.tera_lexer.specs.grammar.Lexeme.{IsGap}
use Rattle.tera_lexer.specs.grammar.Raw.{WordTag, word_tag_bytes, IsWordTag}
use Rattle.tera_lexer.specs.reading.Front.{run_of, after_run, gap_len, at_dash, after_dash, after_marker, word_tag_at}
use Rattle.tera_lexer.proofs.Runs.{run_grows, run_ends, run_sound, run_splits, run_found, after_found}
use Rattle.tera_lexer.specs.code.Markers.{IsWordTagOf}
use Rattle.tera_lexer.proofs.Markers.{begins_splits, splits_begins, dash_sound, dash_found, after_is}

-- what is found is there
abbrev pub IsTagAt : List ℕ → List ℕ → List ℕ → Option (WordTag × List ℕ) → Type 0
IsTagAt word end bytes None = Unit {0}
IsTagAt word end bytes (Some p) = IsWordTag word end p.0 bytes p.1

module _ (word end bytes : List ℕ) where
  abbrev pub tag_inner : List ℕ
  tag_inner = after_dash bytes

  abbrev pub tag_at : List ℕ
  tag_at = after_run is_ascii_whitespace tag_inner

  abbrev pub tag_after : List ℕ
  tag_after = after_marker word tag_at

  abbrev pub tag_last : List ℕ
  tag_last = after_run is_ascii_whitespace tag_after

  abbrev pub tag_read : WordTag
  tag_read = record { dash_in = at_dash bytes; before = run_of is_ascii_whitespace tag_inner; following = run_of is_ascii_whitespace tag_after; dash_out = at_dash tag_last }

  tag_sound : begins word tag_at ≡ true → begins end (after_dash tag_last) ≡ true → IsWordTag word end tag_read bytes (after_marker end (after_dash tag_last))
  tag_sound here ends =
      let rest : List ℕ = after_marker end (after_dash tag_last) in
      let ends_is : after_dash tag_last ≡ end ++ rest = begins_splits end (after_dash tag_last) ends in
      let last_is : tag_last ≡ dash_bytes (at_dash tag_last) ++ (end ++ rest) = (dash_sound tag_last).0 ∙ ap (λ l. dash_bytes (at_dash tag_last) ++ l) ends_is in
      let after_is : tag_after ≡ run_of is_ascii_whitespace tag_after ++ (dash_bytes (at_dash tag_last) ++ (end ++ rest))
      = run_splits is_ascii_whitespace tag_after ∙ ap (λ l. run_of is_ascii_whitespace tag_after ++ l) last_is in
      let word_is : tag_at ≡ word ++ (run_of is_ascii_whitespace tag_after ++ (dash_bytes (at_dash tag_last) ++ (end ++ rest)))
      = begins_splits word tag_at here ∙ ap (λ l. word ++ l) after_is in
      let inner_is : tag_inner ≡ run_of is_ascii_whitespace tag_inner ++ (word ++ (run_of is_ascii_whitespace tag_after ++ (dash_bytes (at_dash tag_last) ++ (end ++ rest))))
      = run_splits is_ascii_whitespace tag_inner ∙ ap (λ l. run_of is_ascii_whitespace tag_inner ++ l) word_is in
      record {
        splits = (dash_sound bytes).0 ∙ ap (λ l. dash_bytes (at_dash bytes) ++ l) inner_is;
        takes_in = subst (TakesDash (at_dash bytes)) inner_is (dash_sound bytes).1;
        gap_before = subst (IsGap (run_of is_ascii_whitespace tag_inner)) word_is (run_sound is_ascii_whitespace tag_inner);
        gap_after = subst (IsGap (run_of is_ascii_whitespace tag_after)) last_is (run_sound is_ascii_whitespace tag_after);
        takes_out = subst (TakesDash (at_dash tag_last)) ends_is (dash_sound tag_last).1;
      }

  pub word_tag_sound : IsTagAt word end bytes (word_tag_at word end bytes)
  word_tag_sound =
      ⊎_elim
      (λ here. rw here (⊎_elim (λ ends. rw ends (tag_sound here ends)) (λ other. rw other tt) (cases_Bool (begins end (after_dash tag_last)))))
      (λ other. rw other tt)
      (cases_Bool (begins word tag_at))

-- what is there is found
pub word_tag_found : (word end : List ℕ) (t : WordTag) (bytes rest : List ℕ) → IsWordTag word end t bytes rest → word_tag_at word end bytes ≡ Some (t, rest)
word_tag_found word end t bytes rest is =
    let tail : List ℕ = t.following ++ (dash_bytes t.dash_out ++ (end ++ rest)) in
    let dashed = dash_found t.dash_in (t.before ++ (word ++ tail)) is.takes_in in
    let dash : at_dash bytes ≡ t.dash_in = ap at_dash is.splits ∙ dashed.0 in
    let inner : after_dash bytes ≡ t.before ++ (word ++ tail) = ap after_dash is.splits ∙ dashed.1 in
    let before : run_of is_ascii_whitespace (after_dash bytes) ≡ t.before = ap (run_of is_ascii_whitespace) inner ∙ run_found is_ascii_whitespace t.before (word ++ tail) is.gap_before in
    let at : after_run is_ascii_whitespace (after_dash bytes) ≡ word ++ tail = ap (after_run is_ascii_whitespace) inner ∙ after_found is_ascii_whitespace t.before (word ++ tail) is.gap_before in
    let here : begins word (after_run is_ascii_whitespace (after_dash bytes)) ≡ true = splits_begins word _ tail at in
    let after : after_marker word (after_run is_ascii_whitespace (after_dash bytes)) ≡ tail = after_is word _ tail at in
    let closes = dash_bytes t.dash_out ++ (end ++ rest) in
    let following : run_of is_ascii_whitespace (after_marker word (after_run is_ascii_whitespace (after_dash bytes))) ≡ t.following = ap (run_of is_ascii_whitespace) after ∙ run_found is_ascii_whitespace t.following closes is.gap_after in
    let last : after_run is_ascii_whitespace (after_marker word (after_run is_ascii_whitespace (after_dash bytes))) ≡ closes = ap (after_run is_ascii_whitespace) after ∙ after_found is_ascii_whitespace t.following closes is.gap_after in
    let dashed' = dash_found t.dash_out (end ++ rest) is.takes_out in
    let out = ap at_dash last ∙ dashed'.0 in
    let ends = ap after_dash last ∙ dashed'.1 in
    let end_here : begins end (after_dash (after_run is_ascii_whitespace (after_marker word (after_run is_ascii_whitespace (after_dash bytes))))) ≡ true = splits_begins end _ rest ends in
    rw (here, end_here) (λ i. Some (record { dash_in = dash i; before = before i; following = following i; dash_out = out i }, after_is end _ rest ends i))

-- where none is found none is
none_some : {A : Type 0} {a : A} → None ≡ Some a → ⊥
none_some e = cc

pub word_tag_none : (word end : List ℕ) (bytes : List ℕ) → word_tag_at word end bytes ≡ None → (t : WordTag) (rest : List ℕ) → IsWordTag word end t bytes rest → ⊥
word_tag_none word end bytes none t rest is = none_some (sym none ∙ word_tag_found word end t bytes rest is)

-- the bytes of a tag, and rest
pub word_tag_splits : (word end : List ℕ) (t : WordTag) (bytes rest : List ℕ) → IsWordTag word end t bytes rest → bytes ≡ word_tag_bytes word end t ++ rest
word_tag_splits word end t bytes rest is =
    is.splits ∙ sym (
    append_assoc (dash_bytes t.dash_in) (t.before ++ (word ++ (t.following ++ (dash_bytes t.dash_out ++ end)))) rest
    ∙ ap (λ l. dash_bytes t.dash_in ++ l) (append_assoc t.before (word ++ (t.following ++ (dash_bytes t.dash_out ++ end))) rest
    ∙ ap (λ l. t.before ++ l) (append_assoc word (t.following ++ (dash_bytes t.dash_out ++ end)) rest
    ∙ ap (λ l. word ++ l) (append_assoc t.following (dash_bytes t.dash_out ++ end) rest
    ∙ ap (λ l. t.following ++ l) (append_assoc (dash_bytes t.dash_out) end rest)))))

-- a tag that is read is that which is there
module _ (word end bytes : List ℕ) where
  pub tag_is_found : (rest : List ℕ) (dash_in dash_out : Bool) → begins word (tag_at word end bytes) ≡ true → begins end (after_dash (tag_last word end bytes)) ≡ true → dash_in ≡ at_dash bytes → dash_out ≡ at_dash (tag_last word end bytes) → rest ≡ after_marker end (after_dash (tag_last word end bytes))
      → IsWordTagOf word end (Some (record { dash_in = dash_in; dash_out = dash_out; len = length bytes - length rest })) (word_tag_at word end bytes)
  tag_is_found rest dash_in dash_out here ends in_is out_is rest_is =
      let t : WordTag = tag_read word end bytes in
      let after : List ℕ = after_marker end (after_dash (tag_last word end bytes)) in
      let found : word_tag_at word end bytes ≡ Some (t, after) = rw (here, ends) refl in
      let splits = word_tag_splits word end t bytes after (tag_sound word end bytes here ends) in
      let len : length bytes - length rest ≡ length (word_tag_bytes word end t) = omega (arith, ap length splits, length-append (word_tag_bytes word end t) after, ap length rest_is) in
      subst (IsWordTagOf word end (Some (record { dash_in = dash_in; dash_out = dash_out; len = length bytes - length rest }))) (sym found) (in_is, out_is, len)

dash_short : (dash : Bool) → length (dash_bytes dash) ≤ 1
dash_short true = omega arith
dash_short false = omega arith

-- a tag that is missed after white space is missed from each place in it
module _ (word end : List ℕ) where
  gap_ends : (bytes : List ℕ) → tag_at word end bytes ≡ drop (gap_len bytes) bytes
  gap_ends bytes = drop-drop (prefix_len is_ascii_whitespace (after_dash bytes)) (length (dash_bytes (at_dash bytes))) bytes

  none_alike : (bytes other : List ℕ) → tag_at word end bytes ≡ tag_at word end other → word_tag_at word end bytes ≡ None → word_tag_at word end other ≡ None
  none_alike bytes other same none =
      let at : List ℕ = tag_at word end other in
      let last : List ℕ = tag_last word end other in
      let word_same : begins word (tag_at word end bytes) ≡ begins word at = ap (begins word) same in
      let end_same : begins end (after_dash (tag_last word end bytes)) ≡ begins end (after_dash last) = ap (λ l. begins end (after_dash (after_run is_ascii_whitespace (after_marker word l)))) same in
      ⊎_elim
      (λ here. ⊎_elim
      (λ ends.
      let begins_word : begins word (tag_at word end bytes) ≡ true = word_same ∙ here in
      let begins_end : begins end (after_dash (tag_last word end bytes)) ≡ true = end_same ∙ ends in
      let some : word_tag_at word end bytes ≡ Some (tag_read word end bytes, after_marker end (after_dash (tag_last word end bytes))) = rw (begins_word, begins_end) refl in
      absurd (none_some (sym none ∙ some)))
      (λ no_end. rw here (rw no_end refl))
      (cases_Bool (begins end (after_dash last))))
      (λ no_word. rw no_word refl)
      (cases_Bool (begins word at))

  run_left : (p : ℕ → Bool) (bytes : List ℕ) (q : ℕ) → q ≤ prefix_len p bytes → q + prefix_len p (drop q bytes) ≡ prefix_len p bytes
  run_left p bytes zero le = omega arith
  run_left p [] (suc q) le = absurd (omega arith)
  run_left p (b ∷ bs) (suc q) le =
      ⊎_elim
      (λ here.
      let grows = run_grows p b bs here in
      let rec = run_left p bs q (omega arith) in
      omega arith)
      (λ other. absurd (omega (arith, run_ends p b bs other)))
      (cases_Bool (p b))

  pub missed_within : (bytes : List ℕ) (from to : ℕ) → word_tag_at word end (drop from bytes) ≡ None → to ≡ from + gap_len (drop from bytes)
      → (k : ℕ) → from < k → k ≤ to → at_dash (drop k bytes) ≡ false → word_tag_at word end (drop k bytes) ≡ None
  missed_within bytes from to none to_is k after within no_dash =
      let dash : ℕ = length (dash_bytes (at_dash (drop from bytes))) in
      let inner : List ℕ = after_dash (drop from bytes) in
      let one : dash ≤ 1 = dash_short (at_dash (drop from bytes)) in
      let q : ℕ = k - (from + dash) in
      let left = run_left is_ascii_whitespace inner q (omega arith) in
      let inner_is : inner ≡ drop (from + dash) bytes = drop-drop dash from bytes in
      let there : drop q inner ≡ drop k bytes = ap (drop q) inner_is ∙ drop-drop q (from + dash) bytes ∙ ap (λ n. drop n bytes) (omega arith) in
      let run : prefix_len is_ascii_whitespace (drop k bytes) ≡ prefix_len is_ascii_whitespace (drop q inner) = ap (prefix_len is_ascii_whitespace) (sym there) in
      let here : gap_len (drop k bytes) ≡ prefix_len is_ascii_whitespace (drop q inner) = rw no_dash (omega arith) in
      let ends : tag_at word end (drop from bytes) ≡ tag_at word end (drop k bytes)
      = gap_ends (drop from bytes) ∙ drop-drop (gap_len (drop from bytes)) from bytes ∙ ap (λ n. drop n bytes) (omega arith) ∙ sym (gap_ends (drop k bytes) ∙ drop-drop (gap_len (drop k bytes)) k bytes) in
      none_alike (drop from bytes) (drop k bytes) ends none
