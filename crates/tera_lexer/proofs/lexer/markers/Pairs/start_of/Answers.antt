use Rattle.std.proofs.Common.{◌≡◌, List, ℕ, Some, true, drop, ap, sym, ◌∙◌, length, IsUtf8}
use Rattle.tera_lexer.specs.grammar.Marks.{begins}
use Rattle.tera_lexer.specs.code.Markers.{IsStartOf}
use Rattle.tera_lexer.proofs.Dashes.{start_found}
use Rattle.tera_lexer.proofs.lexer.markers.Pairs.start_of.Goals as goal
use Rattle.tera_lexer.proofs.lexer.markers.Pairs.start_of.Goals.{After-starts_with-dash}

-- a marker of two bytes that begins the text is found with its dash
found : (c : After-starts_with-dash) (marker : List ℕ) → IsUtf8 marker → length marker ≡ 2 → begins marker c.as_bytes-bytes.result.now ≡ true → IsStartOf marker c.args.rest.now (Some c.starts_with-dash.result)
found c marker text two here =
    start_found marker c.args.rest.now c.split_at.result.1.now c.starts_with-dash.result c.utf8.rest text two (ap (begins marker) (sym c.as_bytes-bytes.ensures.value) ∙ here)
    (c.split_at.ensures.back ∙ ap (drop 2) c.as_bytes-bytes.ensures.value) c.starts_with-dash.ensures.value

pub returns-then-begins : goal.returns-then-begins
returns-then-begins c =
    let at = (goal.at.returns-then-begins c).After-starts_with-dash in
    λ m pairs. found at m.variable_start pairs.texts.variable_start pairs.valid.variable_start (sym (c.begins.ensures m.variable_start pairs.variable) ∙ c.if-begins.true)

pub returns-then-begins-2 : goal.returns-then-begins-2
returns-then-begins-2 c =
    let at = (goal.at.returns-then-begins-2 c).After-starts_with-dash in
    λ m pairs. found at m.block_start pairs.texts.block_start pairs.valid.block_start (sym (c.begins-2.ensures m.block_start pairs.block) ∙ c.if-begins-2.true)

pub returns-then-begins-3 : goal.returns-then-begins-3
returns-then-begins-3 c =
    let at = (goal.at.returns-then-begins-3 c).After-starts_with-dash in
    λ m pairs. found at m.comment_start pairs.texts.comment_start pairs.valid.comment_start (sym (c.begins-3.ensures m.comment_start pairs.comment) ∙ c.if-begins-3.true)
