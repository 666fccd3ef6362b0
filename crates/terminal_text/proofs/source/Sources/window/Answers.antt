use Rattle.std.proofs.Common.{◌≡◌, List, ℕ, Some, sym, ap, ◌∙◌}
use Rattle.std.specs.BTreeMap.{is_at}
use Rattle.std.specs.Cmp.Lexicographic.{slice_cmp}
use Rattle.std.specs.Map.{lookup}
use Rattle.std.specs.Ordering.{nat_cmp}
use Rattle.std.proofs.lemmas.Map.Steps.{set_value_same}
use denote.Ref.{Bor}
use Rattle.terminal_text.proofs.source.Sources.window.Goals as goal

pub returns-in-Some-clause-same : goal.returns-in-Some-clause-same
returns-in-Some-clause-same c = λ other.
    let old = c.args.self.now.texts.entries in
    let left : List ℕ = c.window.new.self in
    let found : lookup (is_at (λ (k : Bor (List ℕ)). slice_cmp nat_cmp c.args.file.now k.now)) old ≡ Some left
    = sym c.in-Some.ensures.value ∙ ap Some (sym c.window.ensures.same) in
    let kept : (c.get_mut.follows.lender left).entries ≡ old
    = (c.get_mut.follows.holds left).0 ∙ set_value_same (is_at (λ (k : Bor (List ℕ)). slice_cmp nat_cmp c.args.file.now k.now)) old left found in
    ap (λ es. lookup (is_at (λ (k : Bor (List ℕ)). slice_cmp nat_cmp other k.now)) es) kept
