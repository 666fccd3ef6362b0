-- Bodies that are one `If` alone, or empty, and the text of a chain of them.
use Rattle.std.proofs.Common.{◌≡◌, ℕ, List, [], ◌∷◌, ◌++◌, length, Bool, true, false, not, codes, refl, sym, ap, ◌∙◌, append_assoc}
use Rattle.std.proofs.lemmas.List.{append-nil}
use Rattle.tera_ast.specs.View.{expression_view, node_view, nodes_view, if_view}
use Rattle.tera_ast.specs.Text.{text}
use Rattle.tera_ast.specs.declared.ast.Node as nodes
use Rattle.tera_ast.specs.declared.ast.Node.{Node}
use Rattle.tera_ast.specs.declared.ast.If.{If, out-If}
use Rattle.tera_ast.proofs.Views.{view_if, if_out}
use Rattle.tera_tree_text.specs.TreeText.{line, deeper, is_if, has_nodes, is_lone_if, else_text, node_text, nodes_text}

pub not_lone : (xs : List Node) → (length xs ≡ 1 → ⊥) → is_lone_if (nodes_view xs) ≡ false
not_lone [] h = refl
not_lone (x ∷ []) h = absurd (h refl)
not_lone (x ∷ y ∷ xs) h = refl

pub one : (xs : List Node) (x : Node) → xs ≡ x ∷ [] → is_lone_if (nodes_view xs) ≡ is_if (node_view x)
one xs x e = rw e

pub not_none : (xs : List Node) → (length xs ≡ 0 → ⊥) → not (has_nodes (nodes_view xs)) ≡ false
not_none [] h = absurd (h refl)
not_none (x ∷ xs) h = refl

-- an `If` with an `elif` after it
pub elif_text : (word indent : List ℕ) (p next : If) → (out-If p).false_body.items ≡ nodes.If next ∷ []
    → node_text word indent (if_view p)
    ≡ line indent (word ++ text (expression_view (out-If p).expr))
    ++ (nodes_text (codes "if ") (deeper indent) (nodes_view (out-If p).body.items) ++ node_text (codes "elif ") indent (if_view next))
elif_text word indent p next is = rw (if_out p, is, view_if next, if_out next, append-nil) refl

-- the last of a chain
pub last_text : (word indent : List ℕ) (p : If) → is_lone_if (nodes_view (out-If p).false_body.items) ≡ false
    → node_text word indent (if_view p)
    ≡ line indent (word ++ text (expression_view (out-If p).expr))
    ++ (nodes_text (codes "if ") (deeper indent) (nodes_view (out-If p).body.items)
    ++ else_text (nodes_view (out-If p).false_body.items) indent (nodes_text (codes "if ") (deeper indent) (nodes_view (out-If p).false_body.items)))
last_text word indent p alone = rw (if_out p, alone) refl

-- one `If` more of a chain
pub chain_more : (all before after_line after_body first body rest whole : List ℕ) → all ≡ before ++ whole → whole ≡ first ++ (body ++ rest)
    → after_line ≡ before ++ first → after_body ≡ after_line ++ body → all ≡ after_body ++ rest
chain_more all before after_line after_body first body rest whole start is one two =
    start ∙ ap (λ t. before ++ t) is
    ∙ sym (ap (λ t. t ++ rest) (two ∙ ap (λ t. t ++ body) one) ∙ append_assoc (before ++ first) body rest ∙ append_assoc before first (body ++ rest))
