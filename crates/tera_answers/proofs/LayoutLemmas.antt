-- Layouts between steady markers.
use Rattle.std.proofs.Common.{◌≡◌, ℕ, List, Some, true}
use Rattle.tera_lexer.specs.grammar.Marks.{IsValid, Marks}
use Rattle.tera_layout.specs.Layout.{laid_out}
use Rattle.tera_layout.specs.Respaced.{without_white}
use Rattle.tera_layout.specs.Steady.{is_steady}
use Rattle.tera_layout.proofs.Layouts.{laid_respaced, laid_out_is}
use Rattle.tera_layout.proofs.Solids.{respaced_same}

-- a text and its layout are the same except white space
pub same_without_white : (m : Marks) → IsValid m → is_steady m ≡ true → (one other : List ℕ) → laid_out m one ≡ Some other → without_white one ≡ without_white other
same_without_white m valid steady one other e =
    respaced_same m one other
    (laid_respaced m valid steady one other ((laid_out_is m valid one other).0 e))
