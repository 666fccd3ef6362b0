use Rattle.std.proofs.Common.{◌≡◌, true, ap, subst, refl, string_bytes}
use Rattle.tera_lexer.specs.grammar.Marks.{IsValid}
use Rattle.tera_lexer.specs.reading.State.{Progress}
use Rattle.tera_lexer.specs.reading.Front.{front_of, unescaped}
use Rattle.tera_lexer.specs.declared.lexer.tokens.Token.TheVariants.{String}
use Rattle.tera_lexer.proofs.Finds.{front_here, escaped_known}
use Rattle.tera_lexer.proofs.Readings.{escaped_step, escaped_memory}
use Rattle.tera_lexer.proofs.lexer.scanner.Scanner.escaped.Goals as goal

pub unescape-requires : goal.unescape-requires
unescape-requires c = escaped_known c.args.self.now.rest c.args.inside.now c.args.len (front_of c.args.self.now.rest) (front_here c.args.self.now.rest c.requires.some) c.requires.string

pub returns-in-Ok : goal.returns-in-Ok
returns-in-Ok c =
    let valid : IsValid c.args.self.now.marks = subst IsValid (ap (λ (r : Progress). r.marks) c.self.view_is) c.self.invariant.marks in
    let text : string_bytes c.in-Ok.text ≡ unescaped c.args.inside.now = rw c.in-Ok.is at c.unescape.ensures in
    escaped_step c.args.self.now c.requires.going c.args.kind c.requires.inside valid c.requires.stops c.requires.some c.requires.no_end c.advance.new.self (String c.in-Ok.text) (string_bytes c.in-Ok.text) c.args.inside.now c.advance.result.1 c.args.len
    (front_of c.args.self.now.rest) refl (front_here c.args.self.now.rest c.requires.some) c.requires.string refl text c.advance.ensures.state c.advance.ensures.span c.advance.ensures.within

pub returns-in-Err : goal.returns-in-Err
returns-in-Err c =
    let valid : IsValid c.args.self.now.marks = subst IsValid (ap (λ (r : Progress). r.marks) c.self.view_is) c.self.invariant.marks in
    escaped_memory c.args.self.now c.requires.going c.args.kind c.requires.inside valid c.requires.stops c.requires.some c.requires.no_end _ c.from.result c.args.inside.now c.args.len
    (front_of c.args.self.now.rest) refl c.requires.string (ap (λ (r : Progress). record r { failed = true }) c.self.view_is) c.from.ensures
