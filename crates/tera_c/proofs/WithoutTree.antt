-- From a text that is refused to what is asked.
use Rattle.std.proofs.Common.{ℕ, List, Result, Ok, Err, sym, subst}
use Rattle.std.specs.Prelude.{IfErr}
use Rattle.tera_grammar.specs.Limits.{Limits}
use Rattle.tera_c.specs.Asked.{marks_at, IsReadable}
use Rattle.tera_c.specs.Results.{HasNoResult}
use Rattle.tera_c.specs.WithoutTree.{RefusesText, RefusesAsked}
use Rattle.tera_c.specs.declared.parsed.Refusal.{Refusal}
use Rattle.tera_c.specs.declared.parsed.Refusal.TheVariants.{Fault, NoResult}

pub refuses_asked : {T : Type 0} (l : Limits) (markers source : List ℕ) (r : Result T Refusal)
    → IsReadable l markers source → IfErr r (RefusesText l (marks_at markers) source)
    → IfErr r (RefusesAsked l markers source)
refuses_asked l markers source (Ok tree) readable refused = tt
refuses_asked l markers source (Err (Fault report)) readable refused = (readable, refused.0, refused.1)
refuses_asked l markers source (Err (NoResult status)) readable refused =
    subst (HasNoResult l markers source) (sym refused) tt
