-- Texts of ASCII, and those that are shown as they are.
use Rattle.std.proofs.Common.{◌≡◌, ◌≤◌, ℕ, true, List, [], ◌∷◌, length, chars, encode_utf8_all, IsUtf8, ap, ◌∙◌, arith}
use Rattle.std.specs.List.{list_all}
use Rattle.std.proofs.lemmas.Bool.Decides.{nat_tests}
use Rattle.line_text.specs.Line.{is_printable}
use Rattle.line_text.proofs.Printable.{IsPlain, all_plain, each_one, same_chars, written}
use Rattle.terminal_text.specs.Shown.{columns, shown, shown_as}
use Rattle.terminal_text.proofs.Marks.{plain_columns}

shown_one : (c : ℕ) → IsPlain c → shown_as c ≡ c ∷ []
shown_one c is = let low = is.low in let high = is.high in grind (arith, nat_tests)

pub shown_as_it_sound : (text : List ℕ) → IsUtf8 text → list_all is_printable text ≡ true → encode_utf8_all (shown (chars text)) ≡ text
shown_as_it_sound text utf8 all = written shown_as shown_one text utf8 all

pub columns_as_it_sound : (text : List ℕ) → list_all is_printable text ≡ true → columns (shown (chars text)) ≡ length text
columns_as_it_sound text all =
    ap (λ cs. columns (shown cs)) (same_chars text all) ∙ ap columns (each_one shown_as shown_one text all) ∙ plain_columns text (all_plain text all)

pub short_as_it_sound : (text : List ℕ) → list_all is_printable text ≡ true → length (chars text) ≤ 120 → length text ≤ 480
short_as_it_sound text all few = let same = ap length (same_chars text all) in omega (arith, few, same)
