use Rattle.std.proofs.Common.{inl, inr, ⊎_elim, arith}
use Rattle.std.proofs.lemmas.List.Sorted.{All-permutation, length_permutation}
use Rattle.tera_files.specs.Below.{IsKnownTemplate}
use Rattle.tera_files.specs.Names.{texts}
use Rattle.tera_files.proofs.BelowLemmas.{reports_more, templates_in_order}
use Rattle.tera_files.proofs.below.templates_below.Goals as goal

pub returns-clause-templates : goal.returns-clause-templates
returns-clause-templates g c =
    let extensions = texts c.args.extensions.now in
    let top = c.args.top.now in
    let walked = c.in_ok-below.ensures.below in
    let all = c.in_ok-add_top_if_empty.ensures.kept extensions walked.0 walked.1 in
    templates_in_order extensions top c.add_top_if_empty.new.below.templates.items c.in_ok-templates.templates.items all.templates
    c.in_ok-templates.ensures.same c.in_ok-templates.ensures.sorted

pub returns-clause-known : goal.returns-clause-known
returns-clause-known g c =
    let top = c.args.top.now in
    let walked = c.in_ok-below.ensures.below in
    let all = c.in_ok-add_top_if_empty.ensures.kept (texts c.args.extensions.now) walked.0 walked.1 in (
      walked.0,
      All-permutation (IsKnownTemplate top walked.0) c.add_top_if_empty.new.below.templates.items c.in_ok-templates.templates.items
          c.in_ok-templates.ensures.same all.known,
    )

pub returns-clause-reported : goal.returns-clause-reported
returns-clause-reported g c =
    let many = length_permutation c.add_top_if_empty.new.below.templates.items c.in_ok-templates.templates.items c.in_ok-templates.ensures.same in
    ⊎_elim
    (λ some. inl (omega (arith, some, many, c.in_ok-templates.templates.ok.0, c.add_top_if_empty.new.below.templates.ok.0)))
    (λ some. inr (omega (arith, some, c.in_ok-append.ensures.len)))
    c.in_ok-add_top_if_empty.ensures.answered

pub returns-clause-unlisted : goal.returns-clause-unlisted
returns-clause-unlisted g c =
    let top = c.args.top.now in
    let walked = c.in_ok-below.ensures.below in
    let all = c.in_ok-add_top_if_empty.ensures.kept (texts c.args.extensions.now) walked.0 walked.1 in
    reports_more top c.args.unlisted.now.items c.add_top_if_empty.new.below.unlisted.items c.append.new.self.items c.in_ok-append.ensures.items all.unlisted
