-- The name of a component ends where no dot follows.
use Rattle.std.proofs.Common.{◌≡◌, ℕ, zero, suc, Some, None, Result, Ok, Err, refl, sym, ap, subst, ◌∙◌}
use Rattle.std.specs.Prelude.{IfOk, String}
use Rattle.std.specs.declared.alloc.Global.{Global}
use Rattle.std.proofs.lemmas.Option.{none-some, same_Some}
use Rattle.tera_base.specs.declared.errors.Error.{Error}
use Rattle.tera_base.specs.declared.utils.Span.{Span}
use Rattle.tera_lexer.specs.code.Cursors.{size}
use Rattle.tera_lexer.specs.grammar.Tokens.{Items}
use Rattle.tera_grammar.specs.Options.{◌>>=◌}
use Rattle.tera_grammar.specs.expressions.Companions.{Path}
use Rattle.tera_grammar.specs.expressions.Concrete.{Dotted, Name, dots, no_dots}
use Rattle.tera_grammar.specs.expressions.Ends.{EndsPath}
use Rattle.tera_grammar.specs.expressions.Marks.{Dot}
use Rattle.tera_grammar.specs.Reads.{found}
use Rattle.tera_grammar.specs.expressions.Reading.Whole as reading
use Rattle.tera_grammar.specs.expressions.Reading.Front.{Place, at}
use Rattle.tera_grammar.proofs.plain.expressions.Reading.Front.{Reads, name_of, skip, takes}
use Rattle.tera_grammar.proofs.plain.expressions.Reading.Bracketed.{dotted_at, dotted_by, dotted_of}
use Rattle.tera_grammar.proofs.plain.expressions.Reading.Whole.{path_of}
use Rattle.tera_grammar.proofs.Options.{bound}
use Rattle.tera_grammar.proofs.expressions.Fronts.{skip_none}
use Rattle.tera_grammar.proofs.expressions.Wholes.{left_over_ok}
use Rattle.tera_grammar.proofs.Readings.{some_of}
use Rattle.tera_grammar.proofs.stops.ForgetParts.{path_forget}
use Rattle.tera_expect.specs.Taking.{GivesBy}
use Rattle.tera_expr_reader.specs.Outermost.{IsComponent}

dotted_at_ends : (more : Place → Reads Dotted) → ((p : Place) (x : Dotted × Place) → more p ≡ Some x → skip Dot x.1 ≡ None)
    → (p : Place) (o : Reads Span) → skip Dot p ≡ o → (x : Dotted × Place) → dotted_at more p o ≡ Some x → skip Dot x.1 ≡ None
dotted_at_ends more goes p None is x h = subst (λ (y : Dotted × Place). skip Dot y.1 ≡ None) (same_Some (no_dots, p) x h) is
dotted_at_ends more goes p (Some y) is x h =
    bound _ _ _ h (λ (n : Name × Place) name rest. bound _ _ _ rest (λ (ds : Dotted × Place) read made.
    subst (λ (z : Dotted × Place). skip Dot z.1 ≡ None) (same_Some (dots y.0 n.0 ds.0, ds.1) x made) (goes n.1 ds read)))

dotted_by_ends : (n : ℕ) (p : Place) (x : Dotted × Place) → dotted_by n p ≡ Some x → skip Dot x.1 ≡ None
unfolding dotted_by
dotted_by_ends zero p x h = cc
dotted_by_ends (suc n) p x h = dotted_at_ends (dotted_by n) (dotted_by_ends n) p (skip Dot p) refl x h

dotted_ends : (p : Place) (x : Dotted × Place) → dotted_of p ≡ Some x → skip Dot x.1 ≡ None
unfolding dotted_of
dotted_ends p x h = dotted_by_ends (suc (size p.tokens)) p x h

abbrev path_with : Name × Place → Dotted × Place → Reads Path
path_with n ds = Some (record { name = n.0; further = ds.0 }, ds.1)

abbrev path_after : Name × Place → Reads Path
path_after n = dotted_of n.1 >>= path_with n

no_dot_after : (items : Items) (x : Path × Items) → path_of items ≡ Some x → takes Dot x.1 ≡ None
unfolding path_of
no_dot_after items x h =
    let (y, read, is) = left_over_ok (name_of (at 0 items) >>= path_after) x h in
    bound (name_of (at 0 items)) path_after y read (λ (n : Name × Place) name more. bound (dotted_of n.1) (path_with n) y more (λ (ds : Dotted × Place) dotted made.
    let p : Path × Place = (record { name = n.0; further = ds.0 }, ds.1) in
    let same : (p.0, p.1.tokens) ≡ x = ap (λ (z : Path × Place). (z.0, z.1.tokens)) (same_Some p y made) ∙ is in
    subst (λ (z : Path × Items). takes Dot z.1 ≡ None) same (skip_none Dot ds.1 (dotted_ends n.1 ds dotted))))

not_taken : (items : Items) → takes Dot items ≡ None → EndsPath items
not_taken items none = λ there. let (span, following, is) = there in none-some _ (sym none ∙ ap (takes Dot) is)

-- what is left after a name that is read
pub path_ends : (items : Items) (x : Path × Items) → reading.path_of items ≡ found x → EndsPath x.1
path_ends items x h = not_taken x.1 (no_dot_after items x (some_of _ _ (path_forget items) x h))

pub path_ended : (old new : Items) (r : Result (String Global) Error) → GivesBy IsComponent r new (reading.path_of old) → IfOk r (λ _. EndsPath new)
path_ended old new (Ok s) (x, read, shows) = path_ends old (x, new) read
path_ended old new (Err e) gives = tt
