use Rattle.std.proofs.Common.{◌≡◌, ℕ, subst, drop}
use Rattle.tera_lexer.specs.grammar.Marks.{marks_of}
use Rattle.tera_lexer.specs.reading.State.{Progress}
use Rattle.tera_lexer.specs.code.StateView.{reading_of, IsAtPlace}
use Rattle.tera_lexer.specs.code.Markers.{IsAhead}
use Rattle.tera_lexer.specs.declared.lexer.scanner.Scanner.TheInside.{Inside}
use Rattle.tera_lexer.specs.declared.lexer.markers.Ahead.{Ahead}
use Rattle.tera_lexer.specs.declared.lexer.markers.Ahead.TheVariants.{Comment, Raw}
use Rattle.tera_lexer.proofs.lexer.scanner.Scanner.outside.Goals as goal

-- what is known of the place that is reached is known of what is left
known_here : (t : Inside) (now : Progress) (a : Ahead) → reading_of t ≡ now → IsAtPlace t → t.ahead_at ≡ t.place.byte → t.ahead ≡ a → IsAhead now.marks now.rest a
known_here t now a view at_place here is =
    subst (λ (r : Progress). IsAhead r.marks r.rest a) view
    (subst (λ (n : ℕ). IsAhead (marks_of t.delimiters) (drop n t.source.now) a) here
    (subst (λ (x : Ahead). IsAhead (marks_of t.delimiters) (drop t.ahead_at t.source.now) x) is at_place.ahead))

pub closed_comment-requires-clause-starts : goal.closed_comment-requires-clause-starts
closed_comment-requires-clause-starts c =
    (known_here c.self.inside c.args.self.now (Comment c.in-Comment.len) c.self.view_is c.self.invariant c.if-known.true c.in-Comment.is).0

pub closed_comment-requires-clause-closes : goal.closed_comment-requires-clause-closes
closed_comment-requires-clause-closes c =
    (known_here c.self.inside c.args.self.now (Comment c.in-Comment.len) c.self.view_is c.self.invariant c.if-known.true c.in-Comment.is).1

pub closed_raw-requires-clause-starts : goal.closed_raw-requires-clause-starts
closed_raw-requires-clause-starts c =
    (known_here c.self.inside c.args.self.now (Raw c.in-Raw.opening c.in-Raw.end) c.self.view_is c.self.invariant c.if-known-2.true c.in-Raw.is).0

pub closed_raw-requires-clause-opens : goal.closed_raw-requires-clause-opens
closed_raw-requires-clause-opens c =
    (known_here c.self.inside c.args.self.now (Raw c.in-Raw.opening c.in-Raw.end) c.self.view_is c.self.invariant c.if-known-2.true c.in-Raw.is).1

pub closed_raw-requires-clause-closes : goal.closed_raw-requires-clause-closes
closed_raw-requires-clause-closes c =
    (known_here c.self.inside c.args.self.now (Raw c.in-Raw.opening c.in-Raw.end) c.self.view_is c.self.invariant c.if-known-2.true c.in-Raw.is).2
