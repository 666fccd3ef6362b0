use Rattle.std.proofs.Common.{rules, ◌≡◌, ◌∷◌, [], ◌++◌, map, sym, ap, ◌∙◌}
use Rattle.std.proofs.lemmas.List.{map-append}
use Rattle.tera_ast.specs.View.{node_view}
use Rattle.tera_grammar.specs.statements.Reading.Loops.{nest}
use Rattle.tera_grammar.proofs.statements.Loops.{nest_pop}
use Rattle.tera_statements.specs.Conditions.{branch_view}
use Rattle.tera_statements.proofs.conditions.nested.Goals as goal

pub branches-preserved : goal.branches-preserved
branches-preserved c =
    let before = c.pop.new.self.items in
    let branch = c.in-Some.branch in
    let popped : c.branches.branches.items ≡ before ++ branch ∷ [] = search rules in
    ap (λ ns. nest (map branch_view before) (map node_view ns)) c.in_ok-nodes.ensures.items
    ∙ ap (λ n. nest (map branch_view before) (n ∷ [])) c.when-node.ensures
    ∙ sym (nest_pop (map branch_view before) (branch_view branch) (map node_view c.branches.nodes.items))
    ∙ ap (λ bs. nest bs (map node_view c.branches.nodes.items)) (sym (map-append branch_view before (branch ∷ [])) ∙ ap (map branch_view) (sym popped))
    ∙ c.branches.invariant
