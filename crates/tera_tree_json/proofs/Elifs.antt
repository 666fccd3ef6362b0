-- A chain of `elif`s.
use Rattle.std.proofs.Common.{◌≡◌, List, [], ◌∷◌, ◌++◌, length, codes, refl, sym, ap, ◌∙◌, append_assoc}
use Rattle.json.specs.Json.{Json, Items, array, no_items, item}
use Rattle.json.specs.Token.{Token, begin_object, begin_array, end_array, end_object, key, string}
use Rattle.json.specs.Tree.{json_tokens, items_tokens}
use Rattle.tera_ast.specs.View.{expression_view, node_view, nodes_view}
use Rattle.tera_ast.specs.declared.ast.Node as nodes
use Rattle.tera_ast.specs.declared.ast.Node.{Node}
use Rattle.tera_ast.specs.declared.ast.If.{If, out-If}
use Rattle.tera_ast.proofs.Views.{view_if, if_out}
use Rattle.tera_tree_json.specs.Forms.{branch_json, if_json}
use Rattle.tera_tree_json.specs.TreeJson.{expr_json, node_json, nodes_json, chain_json, alone_json}

pub not_lone : (xs : List Node) → (length xs ≡ 1 → ⊥) → chain_json (nodes_view xs) ≡ (no_items, nodes_json (nodes_view xs))
not_lone [] h = refl
not_lone (x ∷ []) h = absurd (h refl)
not_lone (x ∷ y ∷ xs) h = refl

pub lone : (xs : List Node) (x : Node) → xs ≡ x ∷ []
    → alone_json (node_view x) (node_json (node_view x)) ≡ (no_items, item (node_json (node_view x)) no_items)
    → chain_json (nodes_view xs) ≡ (no_items, nodes_json (nodes_view xs))
lone xs x e is = rw e is

abbrev pub chain_of : If → Items × Items
chain_of p = chain_json (nodes_view (out-If p).false_body.items)

abbrev pub branch_of : If → Json
branch_of p = branch_json (expr_json (expression_view (out-If p).expr)) (nodes_json (nodes_view (out-If p).body.items))

-- what is written after the branch of an `If`, up to the end of the object
abbrev pub else_of : Items → List Token
else_of body = key (codes "false_body") ∷ (json_tokens (array body) ++ end_object ∷ [])

abbrev pub rest_of : If → List Token
rest_of p = items_tokens (chain_of p).0 ++ else_of (chain_of p).1

pub rest_more : (p next : If) → (out-If p).false_body.items ≡ nodes.If next ∷ []
    → rest_of p ≡ json_tokens (branch_of next) ++ rest_of next
rest_more p next is = rw (is, view_if next, if_out next) (simp append_assoc)

pub whole : (p : If) → begin_object ∷ key (codes "kind") ∷ string (codes "If") ∷ key (codes "branches") ∷ begin_array ∷ (json_tokens (branch_of p) ++ rest_of p)
    ≡ json_tokens (if_json (item (branch_of p) (chain_of p).0) (chain_of p).1)
whole p = simp append_assoc

-- how far a chain is written: the branches up to that of its last `If`
abbrev pub IsOpen : List Token → If → List Token → If → Type 0
IsOpen start first now last = start ++ rest_of first ≡ now ++ rest_of last

pub opened_more : (start now : List Token) (first last next : If) → (out-If last).false_body.items ≡ nodes.If next ∷ []
    → IsOpen start first now last → IsOpen start first (now ++ json_tokens (branch_of next)) next
opened_more start now first last next is held =
    held ∙ ap (λ ts. now ++ ts) (rest_more last next is) ∙ sym (append_assoc now (json_tokens (branch_of next)) (rest_of next))

pub closed : (start now : List Token) (first last : If)
    → chain_of last ≡ (no_items, nodes_json (nodes_view (out-If last).false_body.items)) → IsOpen start first now last
    → start ++ rest_of first ≡ now ++ (end_array ∷ else_of (nodes_json (nodes_view (out-If last).false_body.items)))
closed start now first last none held =
    held ∙ ap (λ (c : Items × Items). now ++ (items_tokens c.0 ++ else_of c.1)) none
