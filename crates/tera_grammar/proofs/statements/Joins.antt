-- Bodies joined, and what they make.
use Rattle.std.proofs.Common.{◌≡◌, ℕ, Bool, false, List, ◌++◌, Option, Some, None, refl, sym, ap, ◌∙◌, append_assoc}
use Rattle.tera_grammar.specs.statements.Grammar.{Body, Done, Then, Item}
use Rattle.tera_grammar.specs.statements.Output.{added_nodes, added_by, output, later, parent_by, definitions_by, parent_of, definitions_of}
use Rattle.tera_grammar.specs.statements.Top.{join}

-- joining
pub join-done : (a : Body) → join a Done ≡ a
join-done Done = refl
join-done (Then i a) = ap (Then i) (join-done a)

pub join-item : (a : Body) (i : Item) (b : Body) → join a (Then i b) ≡ join (join a (Then i Done)) b
join-item Done i b = refl
join-item (Then j a) i b = ap (Then j) (join-item a i b)

pub output-join : (f : Bool) (a b : Body) → output f (join a b) ≡ output f a ++ output f b
output-join f Done b = refl
output-join f (Then i a) b = ap (λ v. added_nodes (added_by f i) ++ v) (output-join f a b) ∙ sym (append_assoc (added_nodes (added_by f i)) (output f a) (output f b))

later-none : (y : Option (List ℕ)) → later None y ≡ y
later-none None = refl
later-none (Some s) = refl

pub later-one : (y : Option (List ℕ)) → y ≡ later y None
later-one y = refl

later-assoc : (x y z : Option (List ℕ)) → later x (later y z) ≡ later (later x y) z
later-assoc x y None = refl
later-assoc x y (Some s) = refl

pub parent-join : (a b : Body) → parent_of (join a b) ≡ later (parent_of a) (parent_of b)
parent-join Done b = sym (later-none (parent_of b))
parent-join (Then i a) b = ap (later (parent_by (added_by false i))) (parent-join a b) ∙ later-assoc (parent_by (added_by false i)) (parent_of a) (parent_of b)

pub definitions-join : (a b : Body) → definitions_of (join a b) ≡ definitions_of a ++ definitions_of b
definitions-join Done b = refl
definitions-join (Then i a) b =
    ap (λ v. definitions_by (added_by false i) ++ v) (definitions-join a b) ∙ sym (append_assoc (definitions_by (added_by false i)) (definitions_of a) (definitions_of b))
