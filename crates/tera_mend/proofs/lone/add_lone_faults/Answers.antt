use Rattle.std.proofs.Common.{rules, ◌≡◌, ◌++◌, ◌∙◌, ◌∷◌, [], true, map, length, length-append, arith, refl, sym, subst, ap, string_bytes}
use Rattle.tera_lexer.specs.grammar.Place.{place_after}
use Rattle.tera_mend.specs.Lone.{IsLone}
use Rattle.tera_mend.specs.Views.{LeadsTo, edit_view}
use Rattle.tera_mend.proofs.Alone.{lone_more, same_edit}
use Rattle.tera_mend.proofs.Steps.{one_at_least}
use Rattle.tera_mend.proofs.lone.add_lone_faults.Goals as goal

pub loop-tag-preserved : goal.loop-tag-preserved
loop-tag-preserved c =
    let found : IsLone c.args.file.now c.in-Some.before.now c.in-Some.inside.now c.loop-tag.place c.in-Some-2.lone = rw c.in-Some-2.is at c.in_ok-lone.ensures in
    let parted : c.loop-tag.rest.now ≡ c.in-Some.before.now ++ (c.in-Some.inside.now ++ c.in-Some.after.now) = search rules in
    let front : string_bytes c.push_str.new.self ≡ string_bytes c.loop-tag.done ++ c.in-Some.before.now = c.in_ok-push_str.ensures.bytes in
    let done : string_bytes c.push_str-in-loop-tag.new.self ≡ (string_bytes c.loop-tag.done ++ c.in-Some.before.now) ++ string_bytes c.in-Some-2.lone.written =
    c.in_ok-push_str-2.ensures.bytes ∙ ap (λ t. t ++ c.as_str-in-loop-tag.result.now) front
    ∙ ap (λ w. (string_bytes c.loop-tag.done ++ c.in-Some.before.now) ++ w) c.as_str-in-loop-tag.ensures.value
    in
    let edited : map edit_view c.in_ok-edits.edits.items
    ≡ record { at = length (string_bytes c.loop-tag.done ++ c.in-Some.before.now); bytes = string_bytes c.in-Some-2.lone.written } ∷ [] =
    c.in_ok-edits.ensures ∙ same_edit _ _ _ _ (c.len-in-loop-tag-2.ensures ∙ c.push_str.new.self.bytes.ok.0 ∙ ap length front) c.as_str.ensures.value
    in record {
      text = search rules;
      leads = λ source some start.
          let (here, leads) = c.loop-tag.invariant.leads source some start in (
            one_at_least _ _ _ c.in_ok-push.ensures.items,
            subst (λ t. LeadsTo c.args.file.now source c.push.new.self.items (t ++ c.in-Some.after.now)) (sym done)
                (lone_more c.args.file.now source c.loop-tag.faults.items c.push.new.self.items
                (record { error = c.in-Some-2.lone.error; alone = true; edits = c.in_ok-edits.edits }) (string_bytes c.loop-tag.done) c.loop-tag.rest.now
                c.in-Some.before.now c.in-Some.inside.now c.in-Some.after.now c.loop-tag.place c.in-Some-2.lone leads here parted c.loop-tag.invariant.place found
                c.in_ok-push.ensures.items refl refl edited),
          );
      place = found.after (string_bytes c.loop-tag.done) c.loop-tag.invariant.place ∙ ap place_after (sym done);
      bound = λ few. omega (arith, c.if-len-most.false, c.len-in-loop-tag.ensures, simp length-append at (ap length c.in_ok-push.ensures.items));
    }
