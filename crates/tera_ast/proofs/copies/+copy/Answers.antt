use Rattle.std.proofs.Common.{◌≡◌, [], ◌∷◌, ◌++◌, string_bytes, sym, ap, ◌∙◌, subst, append_assoc}
use Rattle.std.specs.List.Sorted.{IsStrictlySortedBy}
use Rattle.std.specs.Map.{keys_of}
use Rattle.std.specs.String.{string_cmp}
use Rattle.tera_ast.specs.View.{args_view}
use Rattle.tera_ast.proofs.Texts.{Argument}
use Rattle.tera_ast.proofs.Copying.{args_view_insert_entry, put_last}
use Rattle.tera_ast.proofs.copies.+copy.Goals as goal

pub copy_args-loop-name-preserved : goal.copy_args-loop-name-preserved
copy_args-loop-name-preserved t c =
    let l = c.loop-name in
    let done = l.invariant.0 in
    let e : Argument = (c.in-Some.name.now, c.in-Some.e.now) in
    let left = c.next.new.self in
    let all : c.args.args.now.entries ≡ done ++ e ∷ left = l.invariant.1 ∙ ap (λ es. done ++ es) c.in-Some.ensures.steps in
    let last = put_last done e left (subst (λ es. IsStrictlySortedBy string_cmp (keys_of es)) all c.iter-name-items.ensures.ordered) in
    let named : string_bytes c.in_ok-name.name ≡ string_bytes e.0 = c.in_ok-name.ensures.cases in (
      done ++ e ∷ [],
      all ∙ sym (append_assoc done (e ∷ []) left),
      ap args_view c.in_ok-insert.ensures.entries ∙ args_view_insert_entry l.copies.entries c.in_ok-name.name c.in_ok-copy.field-0 ∙ rw (named, c.in_ok-copy.ensures, l.invariant.2) last,
    )
