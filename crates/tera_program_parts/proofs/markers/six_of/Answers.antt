use Rattle.std.proofs.Common.{◌≡◌, ◌∙◌, [], length, sym, arith}
use Rattle.std.proofs.lemmas.List.{length-map}
use Rattle.tera_program_parts.proofs.MarkerLemmas.{all_words, six_words, texts_of}
use Rattle.tera_program_parts.proofs.markers.six_of.Goals.{in_default-via-then-as_slice-lt6, in_default-via-else-as_slice-lt6+else-this-lt7}
use Rattle.tera_program_parts.proofs.markers.six_of.Goals as goal

-- the words are not six
pub returns-in_default : goal.returns-in_default
returns-in_default c =
    let (xs, drains, are) = c.in_ok-words.ensures.ran in (
      texts_of c.as_slice.result.now,
      all_words c.args.text.now c.as_slice.result.now xs c.split_whitespace.result c.split_whitespace.ensures.rest (c.as_slice.ensures.value ∙ are.0) drains,
      λ is.
          let six : length c.as_slice.result.now ≡ 6 = sym (length-map c.as_slice.result.now (λ w. w.now)) ∙ is in
          elim c.in_default.branch [ in_default-via-then-as_slice-lt6 w ↦ grind (arith, six) | in_default-via-else-as_slice-lt6+else-this-lt7 w ↦ grind (arith, six) ],
    )

pub returns : goal.returns
returns c =
    let (xs, drains, are) = c.in_ok-words.ensures.ran in
    six_words c.args.text.now c.as_slice.result.now (record { ref_ptr = (0, 0); now = [] }) (omega (arith, c.in-len6.len_at_least, c.in-len6.len_below))
    c.in_ok-owned.ensures c.in_ok-owned-2.ensures c.in_ok-owned-3.ensures c.in_ok-owned-4.ensures c.in_ok-owned-5.ensures c.in_ok-owned-6.ensures
    (all_words c.args.text.now c.as_slice.result.now xs c.split_whitespace.result c.split_whitespace.ensures.rest (c.as_slice.ensures.value ∙ are.0) drains)
