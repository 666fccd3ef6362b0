use Rattle.std.proofs.Common.{◌≡◌, ◌≤◌, ℕ, List, [], Bor, get_or, length, sym, ◌∙◌, subst, arith}
use Rattle.std.proofs.lemmas.List.{get_or_default, get_or-map, length-map}
use Rattle.tera_files.specs.Names.{HasExtension, texts}
use Rattle.tera_files.proofs.NameLemmas.{one_more}
use Rattle.tera_files.proofs.names.ends_in.Goals as goal

pub loop-extension-preserved : goal.loop-extension-preserved
loop-extension-preserved c =
    let i = c.loop-extension.extension-index in
    let none : Bor (List ℕ) = record { ref_ptr = (0, 0); now = [] } in
    let at = get_or-map (λ (text : Bor (List ℕ)). text.now) c.args.extensions.now i none [] c.loop-extension-test.true in
    let here : ¬ (HasExtension c.args.name.now (get_or (texts c.args.extensions.now) i [])) = λ has.
    let lacks = c.if-has_extension.false in
    let is = c.has_extension.ensures.1 (rw (c.as_bytes.ensures.value, c.as_bytes-in-loop-extension.ensures.value, sym at) has) in
    cc in
    one_more (λ k. HasExtension c.args.name.now (get_or (texts c.args.extensions.now) k [])) i c.loop-extension.invariant here

pub returns : goal.returns
returns c = (
  (λ is. cc),
  (λ ends.
      let all = texts c.args.extensions.now in
      let past : length all ≤ c.loop-extension.extension-index = rw length-map c.loop-extension-test.false in
      let same : ends.1 ≡ get_or all ends.0 [] = sym ends.3 ∙ get_or_default all ends.0 ends.1 [] ends.2 in
      absurd (c.loop-extension.invariant ends.0 (omega (arith, ends.2, past)) (subst (HasExtension c.args.name.now) same ends.4))),
)
