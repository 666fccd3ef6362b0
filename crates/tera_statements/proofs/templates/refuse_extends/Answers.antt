use Rattle.std.proofs.Common.{◌∙◌, ⊎_elim, inl, inr, sym}
use Rattle.tera_grammar.specs.statements.Reading.{at}
use Rattle.tera_grammar.specs.statements.Reading.TagParts.{front}
use Rattle.tera_expr_parts.specs.Allowed.{limits_of}
use Rattle.tera_tags.specs.Kinds.{kind_of}
use Rattle.tera_statements.specs.Templates.{phase_of}
use Rattle.tera_statements.proofs.EmptyLemmas.{quiet}
use Rattle.tera_statements.proofs.TemplatesLemmas.{extends_front, extends_kind, first_steps, late_excluded, no_phase, other_steps}
use Rattle.tera_statements.proofs.templates.refuse_extends.Goals as goal

pub returns-then-is_some-clause-step : goal.returns-then-is_some-clause-step
returns-then-is_some-clause-step c = λ seen.
    first_steps (limits_of c.args.setting.now.limits) c.following.result (phase_of c.args.phase) (at seen c.args.cursor.now.left) c.following.ensures
    (sym c.is_some.ensures ∙ c.if-is_some.true)

pub late_extends-requires : goal.late_extends-requires
late_extends-requires c = extends_kind (kind_of (front c.args.cursor.now.left)) (sym c.extends_next.ensures ∙ c.if-extends_next.true)

pub returns-then-extends_next-clause-excludes : goal.returns-then-extends_next-clause-excludes
returns-then-extends_next-clause-excludes c =
    let (start, first, us, is) = extends_front (front c.args.cursor.now.left) (sym c.extends_next.ensures ∙ c.if-extends_next.true) in
    ⊎_elim (λ memory. inl memory) (λ late. inr (λ seen.
    late_excluded (limits_of c.args.setting.now.limits) c.args.setting.now.valid (at seen c.args.cursor.now.left) (phase_of c.args.phase)
    (no_phase _ _ c.following.ensures (sym c.is_some.ensures ∙ c.if-is_some.false)) start first us is c.late_extends.new.cursor.left (late start first us is))) c.late_extends.ensures.late

pub returns-then-extends_next-clause-empty : goal.returns-then-extends_next-clause-empty
returns-then-extends_next-clause-empty c = λ empty.
    quiet _ c.args.cursor.now.left (extends_kind (kind_of (front c.args.cursor.now.left)) (sym c.extends_next.ensures ∙ c.if-extends_next.true)) empty

pub returns-clause-step : goal.returns-clause-step
returns-clause-step c = λ seen.
    other_steps (limits_of c.args.setting.now.limits) (phase_of c.args.phase) (at seen c.args.cursor.now.left) (sym c.extends_next.ensures ∙ c.if-extends_next.false)
