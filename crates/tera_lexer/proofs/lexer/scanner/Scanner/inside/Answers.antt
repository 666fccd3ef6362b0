use Rattle.std.proofs.Common.{◌≡◌, ℕ, ◌≤◌, List, [], length, take, drop, subst, ap, sym, ◌∙◌, arith}
use Rattle.std.specs.Char.{is_ascii_whitespace}
use Rattle.std.specs.List.{prefix_len}
use Rattle.std.proofs.lemmas.List.{take_all, drop_all}
use Rattle.tera_lexer.specs.grammar.Lexeme.{StopsAt, IsGap}
use Rattle.tera_lexer.specs.reading.State.{Progress}
use Rattle.tera_lexer.proofs.Runs.{run_sound}
use Rattle.tera_lexer.proofs.Cuts.{run_cut, space_ascii}
use Rattle.tera_lexer.proofs.Readings.{inside_ends, gap_step}
use Rattle.tera_lexer.proofs.lexer.scanner.Scanner.inside.Goals as goal
use Rattle.tera_lexer.proofs.lexer.scanner.Scanner.inside.Goals.{After-run_len-gap, Else-gap-rest}

gap_len : (c : After-run_len-gap) → c.run_len-gap.result ≡ prefix_len is_ascii_whitespace c.args.self.now.rest
gap_len c = c.run_len-gap.ensures.run ∙ ap (prefix_len is_ascii_whitespace) (c.as_bytes.ensures.value ∙ c.rest-rest.ensures.rest)

-- the gap is the longest
is_gap : (c : After-run_len-gap) → IsGap (take c.run_len-gap.result c.args.self.now.rest) (drop c.run_len-gap.result c.args.self.now.rest)
is_gap c =
    subst (λ n. IsGap (take n c.args.self.now.rest) (drop n c.args.self.now.rest)) (sym (gap_len c)) (run_sound is_ascii_whitespace c.args.self.now.rest)

pub returns-then-gap-rest : goal.returns-then-gap-rest
returns-then-gap-rest c =
    let rest : List ℕ = c.args.self.now.rest in
    let n : ℕ = c.run_len-gap.result in
    let all : length rest ≤ n = omega (arith, ap length c.rest-rest.ensures.rest) in
    let gap = is_gap (goal.at.returns-then-gap-rest c).After-run_len-gap in
    inside_ends c.args.self.now c.requires.going c.args.kind c.requires.inside c.rest-rest.ensures.valid
    (subst (λ (g : List ℕ). IsGap g []) (take_all n rest all) (subst (IsGap (take n rest)) (drop_all n rest all) gap))

pub pass-requires : goal.pass-requires
pass-requires c =
    rw (gap_len (goal.at.pass-requires c).After-run_len-gap) (run_cut is_ascii_whitespace c.args.self.now.rest (rw c.rest-rest.ensures.rest at c.rest-rest.utf8) space_ascii)

pub after_gap-requires-clause-stops : goal.after_gap-requires-clause-stops
after_gap-requires-clause-stops c =
    subst (λ (r : Progress). StopsAt is_ascii_whitespace r.rest) (sym c.pass.ensures) (is_gap (goal.at.after_gap-requires-clause-stops c).After-run_len-gap).1

pub returns : goal.returns
returns c =
    gap_step c.args.self.now c.requires.going c.args.kind c.requires.inside c.rest-rest.ensures.valid c.pass.new.self c.after_gap.new.self c.after_gap.result c.run_len-gap.result (is_gap (goal.at.returns c).After-run_len-gap)
    c.pass.ensures c.after_gap.ensures
