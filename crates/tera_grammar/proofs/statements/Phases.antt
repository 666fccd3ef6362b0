-- The phase turns by what an item adds.
use Rattle.std.proofs.Common.{◌≡◌, Bool, true, false, [], ◌∷◌, Some, refl}
use Rattle.tera_grammar.specs.Options.{◌>>=◌, guard}
use Rattle.tera_grammar.specs.statements.Heads.{SetBody, Section, CallBody}
use Rattle.tera_grammar.specs.statements.Grammar.{Text, Shown, Set, Include, Extends, Break, Continue, Item, Single, Block, Define, Capturing, For, If}
use Rattle.tera_grammar.specs.statements.Output.{added_by}
use Rattle.tera_grammar.specs.statements.Reading.Phases.{Phase, Starting, Standalone, Extending, after_text, next_phase}
use Rattle.tera_grammar.specs.statements.Reading.Loops.{text_weight, weight, turn}
use Rattle.tera_grammar.specs.statements.Top.{is_blank}

blank_starts : (b : Bool) → Some (after_text b) ≡ turn Starting (text_weight b)
blank_starts true = refl
blank_starts false = refl

blank_sound : (b : Bool) → Some Standalone ≡ turn Standalone (text_weight b)
blank_sound true = refl
blank_sound false = refl

blank_extends : (b : Bool) → (guard b >>= λ u. Some Extending) ≡ turn Extending (text_weight b)
blank_extends true = refl
blank_extends false = refl

pub phase_turns : (ph : Phase) (i : Item) → next_phase ph i ≡ turn ph (weight (added_by false i))
phase_turns Starting (Single (Text [] span)) = refl
phase_turns Starting (Single (Text (b ∷ bs) span)) = blank_starts (is_blank (b ∷ bs))
phase_turns Starting (Single (Shown a e b)) = refl
phase_turns Starting (Single (Set g t n s e)) = refl
phase_turns Starting (Single (Include t q span)) = refl
phase_turns Starting (Single (Extends t q span)) = refl
phase_turns Starting (Single (Break t)) = refl
phase_turns Starting (Single (Continue t)) = refl
phase_turns Starting (Block t n b e m) = refl
phase_turns Starting (Define h b) = refl
phase_turns Starting (Capturing (SetBody g t n fs e) b) = refl
phase_turns Starting (Capturing (Section t g fs e) b) = refl
phase_turns Starting (Capturing (CallBody t n a last e m end) b) = refl
phase_turns Starting (For t lp b o e) = refl
phase_turns Starting (If t c b bs e) = refl
phase_turns Standalone (Single (Text [] span)) = refl
phase_turns Standalone (Single (Text (b ∷ bs) span)) = blank_sound (is_blank (b ∷ bs))
phase_turns Standalone (Single (Shown a e b)) = refl
phase_turns Standalone (Single (Set g t n s e)) = refl
phase_turns Standalone (Single (Include t q span)) = refl
phase_turns Standalone (Single (Extends t q span)) = refl
phase_turns Standalone (Single (Break t)) = refl
phase_turns Standalone (Single (Continue t)) = refl
phase_turns Standalone (Block t n b e m) = refl
phase_turns Standalone (Define h b) = refl
phase_turns Standalone (Capturing (SetBody g t n fs e) b) = refl
phase_turns Standalone (Capturing (Section t g fs e) b) = refl
phase_turns Standalone (Capturing (CallBody t n a last e m end) b) = refl
phase_turns Standalone (For t lp b o e) = refl
phase_turns Standalone (If t c b bs e) = refl
phase_turns Extending (Single (Text [] span)) = refl
phase_turns Extending (Single (Text (b ∷ bs) span)) = blank_extends (is_blank (b ∷ bs))
phase_turns Extending (Single (Shown a e b)) = refl
phase_turns Extending (Single (Set g t n s e)) = refl
phase_turns Extending (Single (Include t q span)) = refl
phase_turns Extending (Single (Extends t q span)) = refl
phase_turns Extending (Single (Break t)) = refl
phase_turns Extending (Single (Continue t)) = refl
phase_turns Extending (Block t n b e m) = refl
phase_turns Extending (Define h b) = refl
phase_turns Extending (Capturing (SetBody g t n fs e) b) = refl
phase_turns Extending (Capturing (Section t g fs e) b) = refl
phase_turns Extending (Capturing (CallBody t n a last e m end) b) = refl
phase_turns Extending (For t lp b o e) = refl
phase_turns Extending (If t c b bs e) = refl
