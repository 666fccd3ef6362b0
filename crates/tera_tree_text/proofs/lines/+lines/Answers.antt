use Rattle.std.proofs.Common.{rules, ◌≡◌, ◌++◌, ◌≤◌, false, codes, string_bytes, IsUtf8, OnOk, ap, sym, ◌∙◌, refl, arith}
use Rattle.std.proofs.Math.Utf8.{encode}
use Rattle.tera_base.specs.Spanned.{node_of}
use Rattle.tera_ast.specs.declared.ast.ComponentCall.{out-ComponentCall}
use Rattle.tera_ast.specs.declared.ast.Expression.{the_lemmas}
use Rattle.tera_ast.specs.declared.ast.If.{size-If}
use Rattle.tera_tree_text.proofs.Calls.{shown_open}
use Rattle.tera_tree_text.proofs.Elifs.{elif_text, last_text, chain_more}
use Rattle.tera_tree_text.proofs.lines.+lines.Goals as goal

pub push_shown-returns : goal.push_shown-returns
push_shown-returns t c =
    let has : (out-ComponentCall (node_of c.in-ComponentCall.call)).self_closing ≡ false = rw (← c.node.ensures) c.if-not-node.true in
    rw (c.in-ComponentCall.is, shown_open c.in-ComponentCall.call c.args.indent.now has, ← c.node-2.ensures) c.push_call.ensures

pub push_if-loop-out-preserved : goal.push_if-loop-out-preserved
unfolding encode
push_if-loop-out-preserved t c =
    let held = c.loop-out.invariant in
    let step = elif_text c.loop-out.word.now c.args.indent.now c.loop-out.parts.now c.in-Some.next.now c.in-Some.ensures.some in
    let less : size-If c.in-Some.next.now ≤ size-If c.loop-out.parts.now = search (rules, the_lemmas) in
    let words : IsUtf8 (codes "elif ") = (codes "elif ", (refl, refl)) in
    (chain_more _ _ _ _ _ _ _ _ held.0 step c.in_ok-push_worded.ensures c.in_ok-push_body.ensures, omega (arith, less, held.1), search rules)

pub push_if-returns-in-None : goal.push_if-returns-in-None
push_if-returns-in-None t c =
    let held = c.loop-out.invariant in
    let step = last_text c.loop-out.word.now c.args.indent.now c.loop-out.parts.now c.in-None.ensures.none in
    let start = chain_more _ _ _ _ _ _ _ _ held.0 step c.in_ok-push_worded.ensures c.in_ok-push_body.ensures in
    rw start c.push_else.ensures
