use Rattle.std.proofs.Common.{◌≡◌, ◌+◌, length, Some, ap, subst, refl, ◌∙◌}
use Rattle.tera_lexer.specs.grammar.Marks.{IsValid}
use Rattle.tera_lexer.specs.reading.State.{Progress}
use Rattle.tera_lexer.specs.code.Markers.{marker_len}
use Rattle.tera_lexer.specs.declared.lexer.delimiters.Kind.TheVariants.{Variable}
use Rattle.tera_lexer.specs.declared.lexer.tokens.Token.TheVariants.{VariableStart}
use Rattle.tera_lexer.proofs.Readings.{outside_starts}
use Rattle.tera_lexer.proofs.lexer.scanner.Scanner.variable.Goals as goal

pub returns : goal.returns
returns c =
    let valid : IsValid c.args.self.now.marks = subst IsValid (ap (λ (r : Progress). r.marks) c.self.view_is) c.self.invariant.marks in
    let n_is : c.len.result + c.dash_len.result ≡ marker_len c.args.self.now.marks.variable_start c.args.dash
    = λ i. (c.len.ensures ∙ ap (λ (r : Progress). length r.marks.variable_start) c.self.view_is) i + c.dash_len.ensures i in
    outside_starts c.args.self.now c.requires.going c.requires.outside valid _ (VariableStart c.args.dash) c.advance.result.1 Variable c.args.dash (c.len.result + c.dash_len.result) c.requires.starts tt n_is refl
    (ap (λ (r : Progress). record r { tag = Some Variable }) (c.self-2.view_is ∙ c.advance.ensures.state)) c.advance.ensures.span c.advance.ensures.within
