use Rattle.std.proofs.Common.{◌≡◌, ◌∙◌, ◌++◌, ℕ, List, [], false, None, map, string_bytes, refl, ap, sym, subst}
use Rattle.std.specs.List.{insert}
use Rattle.tera_tree.specs.View.{definition_view}
use Rattle.tera_templates.specs.Templates.{definitions_of}
use Rattle.tera_workspace.specs.Heads.{definition_named, HaveOneHeadIfAny}
use Rattle.tera_workspace.specs.Kept.{StayKept, IsTextAt, marked, marked_since}
use Rattle.tera_workspace.specs.Names.{is_among}
use Rattle.tera_workspace.proofs.OpenedLemmas.{now_marked, since_is, stays_insert}
use Rattle.tera_workspace.proofs.ReadingLemmas.{insert_kept, insert_read, stay_same}
use Rattle.tera_workspace.proofs.TouchedLemmas.{all_pushed}
use Rattle.tera_workspace.proofs.reading.insert.Goals as goal

pub returns-clause-kept : goal.returns-clause-kept
returns-clause-kept c =
    let name = c.args.name.now in
    let js = c.args.all.now.items in
    let j = c.args.judged in
    let place = c.args.place in
    let touched = map string_bytes c.push_defined.new.names.items in
    let pushed : touched ≡ [] ++ map (λ d. d.name) (definitions_of j.template) =
    c.in_ok-push_defined.ensures ∙ ap (λ (ns : List (List ℕ)). ns ++ map (λ d. d.name) (map definition_view c.definitions_of.result.now)) (ap (map string_bytes) c.new-touched.ensures.items)
    ∙ ap (map (λ d. d.name)) c.definitions_of.ensures in
    let heads : (n : List ℕ) → is_among n touched ≡ false → HaveOneHeadIfAny None (definition_named n (definitions_of j.template)) =
    λ n free. all_pushed n [] (definitions_of j.template) [] [] touched refl refl pushed free in
    let put : c.mark.new.all.items ≡ map (marked touched name) (insert js place j) =
    c.mark.ensures ∙ ap (λ ns. map (marked ns name) c.insert.new.self.items) c.of-names.ensures ∙ ap (map (marked touched name)) c.in_ok-insert.ensures.items in
    let is : c.mark_if_opened.new.all.items ≡ now_marked js (map (marked touched name) (insert js place j)) =
    c.mark_if_opened.ensures ∙ (λ i. marked_since (c.open_before-was_open.ensures i) (put i))
    ∙ since_is js (map (marked touched name) (insert js place j)) false c.is_open.result (λ same. stays_insert touched name js place j c.requires.place.within (same ∙ c.is_open.ensures)) in
    subst (StayKept js) (sym is) (insert_kept name touched js place j c.requires.place c.requires.newly_read heads)

pub returns-clause-read : goal.returns-clause-read
returns-clause-read c =
    let name = c.args.name.now in
    let js = c.args.all.now.items in
    let j = c.args.judged in
    let place = c.args.place in
    let touched = map string_bytes c.push_defined.new.names.items in
    let pushed : touched ≡ [] ++ map (λ d. d.name) (definitions_of j.template) =
    c.in_ok-push_defined.ensures ∙ ap (λ (ns : List (List ℕ)). ns ++ map (λ d. d.name) (map definition_view c.definitions_of.result.now)) (ap (map string_bytes) c.new-touched.ensures.items)
    ∙ ap (map (λ d. d.name)) c.definitions_of.ensures in
    let heads : (n : List ℕ) → is_among n touched ≡ false → HaveOneHeadIfAny None (definition_named n (definitions_of j.template)) =
    λ n free. all_pushed n [] (definitions_of j.template) [] [] touched refl refl pushed free in
    let put : c.mark.new.all.items ≡ map (marked touched name) (insert js place j) =
    c.mark.ensures ∙ ap (λ ns. map (marked ns name) c.insert.new.self.items) c.of-names.ensures ∙ ap (map (marked touched name)) c.in_ok-insert.ensures.items in
    let is : c.mark_if_opened.new.all.items ≡ now_marked js (map (marked touched name) (insert js place j)) =
    c.mark_if_opened.ensures ∙ (λ i. marked_since (c.open_before-was_open.ensures i) (put i))
    ∙ since_is js (map (marked touched name) (insert js place j)) false c.is_open.result (λ same. stays_insert touched name js place j c.requires.place.within (same ∙ c.is_open.ensures)) in
    subst (IsTextAt name j.text js) (sym is) (insert_read name touched js place j c.requires.place c.requires.newly_read heads)

pub returns-in_err-insert-clause-kept : goal.returns-in_err-insert-clause-kept
returns-in_err-insert-clause-kept c = subst (StayKept c.args.all.now.items) (sym c.in_err-insert.ensures.items) (stay_same c.args.all.now.items)
