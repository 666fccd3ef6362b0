use Rattle.std.proofs.Common.{◌≡◌, ◌∙◌, ℕ, List, false, map, get_or, string_bytes, sym, ap, subst}
use Rattle.tera_templates.specs.Lost.{is_open}
use Rattle.tera_workspace.specs.Heads.{HaveOneHeadIn}
use Rattle.tera_workspace.specs.Kept.{StayKept, IsTextAt, marked, marked_since}
use Rattle.tera_workspace.specs.Names.{is_among}
use Rattle.tera_workspace.specs.declared.judged.Judged.{Judged}
use Rattle.tera_workspace.proofs.ReadingLemmas.{put_is, put_kept, put_read, put_there}
use Rattle.tera_workspace.proofs.OpenedLemmas.{now_marked, since_is, stays_set}
use Rattle.tera_workspace.proofs.reading.replace.Goals as goal

pub returns-clause-kept : goal.returns-clause-kept
returns-clause-kept c =
    let name = c.args.name.now in
    let js = c.args.all.now.items in
    let j = c.args.judged in
    let d = c.index.result.now in
    let touched = map string_bytes c.in_ok-touched.touched.items in
    let heads : (n : List ℕ) → is_among n touched ≡ false
    → HaveOneHeadIn n (get_or js c.args.number d).template j.template =
    subst (λ (x : Judged). (n : List ℕ) → is_among n touched ≡ false → HaveOneHeadIn n x.template j.template)
    c.index.ensures c.in_ok-touched.ensures in
    let put = put_is name touched js c.args.number j d c.requires.number c.requires.newly_read heads c.mark.new.all.items c.index_mut.result.now
    (record c.index_mut.result.now { reported = c.swap.new.y }) c.swap.new.x (c.mark.ensures ∙ ap (λ ns. map (marked ns name) js) c.of-names.ensures) c.index_mut.ensures.value c.swap.ensures.x_after in
    let is : c.mark_if_opened.new.all.items ≡ now_marked js (put_there name touched js c.args.number j d c.requires.number c.requires.newly_read heads) =
    c.mark_if_opened.ensures ∙ (λ i. marked_since (c.open_before-was_open.ensures i) (put i))
    ∙ since_is js (put_there name touched js c.args.number j d c.requires.number c.requires.newly_read heads) c.is_open-opened.result c.is_open.result (λ same.
    stays_set touched name js c.args.number (record j { reported = (get_or js c.args.number d).reported }) c.index-2.result.now c.requires.number.within
    (ap (λ (x : Judged). is_open x.template) (sym c.index-2.ensures) ∙ sym c.is_open-opened.ensures ∙ same ∙ c.is_open.ensures)) in
    subst (StayKept js) (sym is) (put_kept name touched js c.args.number j d c.requires.number c.requires.newly_read heads)

pub returns-clause-read : goal.returns-clause-read
returns-clause-read c =
    let name = c.args.name.now in
    let js = c.args.all.now.items in
    let j = c.args.judged in
    let d = c.index.result.now in
    let touched = map string_bytes c.in_ok-touched.touched.items in
    let heads : (n : List ℕ) → is_among n touched ≡ false
    → HaveOneHeadIn n (get_or js c.args.number d).template j.template =
    subst (λ (x : Judged). (n : List ℕ) → is_among n touched ≡ false → HaveOneHeadIn n x.template j.template)
    c.index.ensures c.in_ok-touched.ensures in
    let put = put_is name touched js c.args.number j d c.requires.number c.requires.newly_read heads c.mark.new.all.items c.index_mut.result.now
    (record c.index_mut.result.now { reported = c.swap.new.y }) c.swap.new.x (c.mark.ensures ∙ ap (λ ns. map (marked ns name) js) c.of-names.ensures) c.index_mut.ensures.value c.swap.ensures.x_after in
    let is : c.mark_if_opened.new.all.items ≡ now_marked js (put_there name touched js c.args.number j d c.requires.number c.requires.newly_read heads) =
    c.mark_if_opened.ensures ∙ (λ i. marked_since (c.open_before-was_open.ensures i) (put i))
    ∙ since_is js (put_there name touched js c.args.number j d c.requires.number c.requires.newly_read heads) c.is_open-opened.result c.is_open.result (λ same.
    stays_set touched name js c.args.number (record j { reported = (get_or js c.args.number d).reported }) c.index-2.result.now c.requires.number.within
    (ap (λ (x : Judged). is_open x.template) (sym c.index-2.ensures) ∙ sym c.is_open-opened.ensures ∙ same ∙ c.is_open.ensures)) in
    subst (IsTextAt name j.text js) (sym is) (put_read name touched js c.args.number j d c.requires.number c.requires.newly_read heads)
