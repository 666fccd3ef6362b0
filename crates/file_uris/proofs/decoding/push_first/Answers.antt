use Rattle.std.proofs.Common.{◌∙◌, ◌++◌, ◌∷◌, [], drop, get_or, sym, ap, append_assoc}
use Rattle.file_uris.specs.Decoding.{single_slashed}
use Rattle.file_uris.proofs.DecodingLemmas.{first_left_out, first_kept}
use Rattle.file_uris.proofs.decoding.push_first.Goals as goal

pub returns-then-is_doubled : goal.returns-then-is_doubled
returns-then-is_doubled c =
    ap (λ xs. c.args.bytes.now.items ++ xs) (first_left_out c.args.path.now c.requires (sym c.is_doubled.ensures ∙ c.if-is_doubled.true))

pub returns : goal.returns
returns c =
    let path = c.args.path.now in
    let old = c.args.bytes.now.items in
    let rest = single_slashed (drop 1 path) in
    ap (λ xs. xs ++ rest) c.in_ok-push.ensures.items
    ∙ (append_assoc old (get_or path 0 0 ∷ []) rest
    ∙ ap (λ xs. old ++ xs) (sym (first_kept path c.requires (sym c.is_doubled.ensures ∙ c.if-is_doubled.false))))
