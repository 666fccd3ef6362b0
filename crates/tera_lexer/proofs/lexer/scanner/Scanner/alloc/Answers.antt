use Rattle.std.proofs.Common.{ap, sym, subst, ◌∙◌, length, arith, IsUtf8}
use Rattle.std.proofs.lemmas.List.{take-append-drop}
use Rattle.tera_lexer.specs.grammar.Marks.{IsValid}
use Rattle.tera_lexer.specs.reading.State.{Progress}
use Rattle.tera_lexer.specs.reading.Left.{whole_of}
use Rattle.tera_lexer.proofs.Tilings.{left_count, left_lexed}
use Rattle.tera_lexer.proofs.lexer.scanner.Scanner.alloc.Goals as goal

pub returns-clause-text : goal.returns-clause-text
returns-clause-text c = subst IsUtf8 (sym (take-append-drop c.self.inside.place.byte c.self.inside.source.now) ∙ ap (λ (r : Progress). whole_of r) c.self.view_is) c.self.invariant.text

pub returns-clause-count : goal.returns-clause-count
returns-clause-count c = left_count c.args.self.now (subst IsValid (ap (λ (r : Progress). r.marks) c.self.view_is) c.self.invariant.marks)

pub returns-clause-fits : goal.returns-clause-fits
returns-clause-fits c =
    let whole = ap length (sym (take-append-drop c.self.inside.place.byte c.self.inside.source.now) ∙ ap (λ (r : Progress). whole_of r) c.self.view_is) in
    omega (arith, whole, c.self.told.0)

pub returns-clause-tokens : goal.returns-clause-tokens
returns-clause-tokens c = left_lexed c.args.self.now (subst IsValid (ap (λ (r : Progress). r.marks) c.self.view_is) c.self.invariant.marks)
