use Rattle.std.proofs.Common.{◌≡◌, ◌<◌, ◌≤◌, get_or, length, map, inl, sym, ap, ◌∙◌, subst, arith}
use Rattle.std.proofs.lemmas.List.{get_or-map, length-map, take_all}
use Rattle.tera_files.specs.Below.{AddsSome, path_of}
use Rattle.tera_files.specs.Finding.{AddsTemplates, no_template}
use Rattle.tera_files.specs.Listing.{files_in}
use Rattle.tera_files.proofs.BelowLemmas.{adds_none, adds_more}
use Rattle.tera_files.proofs.FindingLemmas.{next_template}
use Rattle.tera_files.proofs.finding.add_templates.Goals as goal

pub loop-template-init : goal.loop-template-init
loop-template-init g c = record {
  each = no_template;
  some = λ sorted. adds_none (files_in c.args.listing.now);
  started = λ begun. begun;
  answered = λ begun some. absurd (omega arith);
}

pub loop-template-preserved : goal.loop-template-preserved
loop-template-preserved g c =
    let held = c.loop-template.invariant in
    let i = c.loop-template.template-index in
    let items = c.args.templates.now.items in
    let same = c.deref-template-items.ensures.value in
    let item = c.template-item.result in
    let below : i < length items = subst (λ l. i < length l) same c.loop-template-test.true in
    let is : item ≡ get_or items i item = subst (λ l. item ≡ get_or l i item) same c.template-item.is in
    let within : i < length (map path_of items) = rw length-map below in
    let named : path_of item ≡ get_or (map path_of items) i (path_of item) = ap path_of is ∙ sym (get_or-map path_of items i item (path_of item) below) in
    let added = c.in_ok-add_template.ensures in
    record {
      each = next_template c.args.listing.now c.loop-template.listing c.add_template.new.listing items i item below is held.each added.file;
      some = λ sorted. adds_more (map path_of items) (files_in c.args.listing.now) (files_in c.loop-template.listing)
          (files_in c.add_template.new.listing) i (path_of item) sorted within named (held.some sorted) added.added;
      started = λ begun. inl (added.started (held.started begun));
      answered = λ begun some. added.started (held.started begun);
    }

pub returns : goal.returns
returns g c =
    let held = c.loop-template.invariant in
    let i = c.loop-template.template-index in
    let items = c.args.templates.now.items in
    let past : length items ≤ i = subst (λ l. length l ≤ i) c.deref-template-items.ensures.value c.loop-template-test.false in
    let named : length (map path_of items) ≤ i = rw length-map past in
    record {
      each = subst (λ l. AddsTemplates c.args.listing.now l c.loop-template.listing) (take_all i items past) held.each;
      some = λ sorted. subst (λ l. AddsSome l (files_in c.args.listing.now) (files_in c.loop-template.listing))
          (take_all i (map path_of items) named) (held.some sorted);
      started = held.started;
      answered = λ begun some. held.answered begun (omega (arith, some, past));
    }
