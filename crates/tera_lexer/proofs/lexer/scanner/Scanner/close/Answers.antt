use Rattle.std.proofs.Common.{◌≡◌, ◌+◌, length, None, ap, subst, ◌∙◌}
use Rattle.tera_lexer.specs.grammar.Marks.{IsValid, end_marker}
use Rattle.tera_lexer.specs.reading.State.{Progress}
use Rattle.tera_lexer.specs.code.Markers.{marker_len}
use Rattle.tera_lexer.proofs.Readings.{end_step}
use Rattle.tera_lexer.proofs.lexer.scanner.Scanner.close.Goals as goal

pub returns : goal.returns
returns c =
    let valid : IsValid c.args.self.now.marks = subst IsValid (ap (λ (r : Progress). r.marks) c.self.view_is) c.self.invariant.marks in
    let n_is : length c.end.result.now + c.dash_len.result ≡ marker_len (end_marker c.args.kind c.args.self.now.marks) c.args.dash
    = λ i. (ap length (c.end.ensures ∙ ap (λ (r : Progress). end_marker c.args.kind r.marks) c.self.view_is)) i + c.dash_len.ensures i in
    end_step c.args.self.now c.requires.going c.args.kind c.requires.inside valid c.requires.stops _ c.end_token.result c.advance.result.1 c.args.dash (length c.end.result.now + c.dash_len.result) c.requires.ends n_is c.end_token.ensures
    (ap (λ (r : Progress). record r { tag = None; trim = c.args.dash }) (c.self-2.view_is ∙ c.advance.ensures.state)) c.advance.ensures.span c.advance.ensures.within
