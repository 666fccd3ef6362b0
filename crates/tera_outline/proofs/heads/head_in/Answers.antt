use Rattle.std.proofs.Common.{◌∙◌, map, option_map, sym, ap, subst}
use Rattle.std.specs.List.{find}
use Rattle.tera_outline.specs.Heads.{defines}
use Rattle.tera_outline.specs.Pieces.{part_of}
use Rattle.tera_outline.specs.Symbols.{outlined}
use Rattle.tera_outline.proofs.HeadCuts.{IsCut, head_cut}
use Rattle.tera_outline.proofs.heads.head_in.Goals as goal
use Rattle.tera_outline.proofs.heads.head_in.Goals.{After-head_end-end}

cut : (c : After-head_end-end) → IsCut c.args.text.now c.in_ok-symbol.symbol.now.name_start c.head_end-end.result
cut c =
    let symbol = outlined c.in_ok-symbol.symbol.now in
    subst (IsCut c.args.text.now symbol.name_start) (sym c.head_end-end.ensures)
    (head_cut c.args.text.now (map part_of c.args.pieces.now) (defines c.args.name.now) symbol c.utf8.text c.requires.parts
    (sym (ap (λ ss. find (defines c.args.name.now) ss) c.requires.outline) ∙ (sym c.definition_in.ensures ∙ ap (option_map (λ s. outlined s.now)) c.in_ok-symbol.was)))

pub range-requires-clause-start_le_end : goal.range-requires-clause-start_le_end
range-requires-clause-start_le_end c = (cut c).order

pub range-requires-clause-start_boundary : goal.range-requires-clause-start_boundary
range-requires-clause-start_boundary c = λ some. (cut c).begins

pub range-requires-clause-end_boundary : goal.range-requires-clause-end_boundary
range-requires-clause-end_boundary c = (cut c).ends
