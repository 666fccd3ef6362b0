use Rattle.std.proofs.Common.{◌≡◌, ◌<◌, ◌≤◌, length, get_or, subst, string_bytes}
use Rattle.std.proofs.lemmas.List.{take_all}
use Rattle.tera_files.specs.Below.{AddsEach, no_entry}
use Rattle.tera_files.specs.Names.{texts}
use Rattle.tera_files.proofs.BelowLemmas.{adds_next}
use Rattle.tera_files.proofs.below.add_all.Goals as goal

pub loop-entry-init : goal.loop-entry-init
loop-entry-init c = record { each = no_entry; kept = λ top itself is are. are }

pub loop-entry-preserved : goal.loop-entry-preserved
loop-entry-preserved c =
    let held = c.loop-entry.invariant in
    let items = c.args.entries.now.items in
    let entry = c.entry-item.result in
    let same = c.deref-entry-items.ensures.value in
    let below = subst (λ l. c.loop-entry.entry-index < length l) same c.loop-entry-test.true in
    let is = subst (λ l. entry ≡ get_or l c.loop-entry.entry-index entry) same c.entry-item.is in
    let adds = c.in_ok-add_entry.ensures.adds in
    record {
      each = adds_next (texts c.args.extensions.now) (string_bytes c.args.folder.now.path) c.args.below.now c.loop-entry.below
          c.add_entry.new.below items c.loop-entry.entry-index entry below is held.each adds;
      kept = λ top itself is are. c.in_ok-add_entry.ensures.kept top itself is (held.kept top itself is are);
    }

pub returns : goal.returns
returns c =
    let items = c.args.entries.now.items in
    let past : length items ≤ c.loop-entry.entry-index = subst (λ l. length l ≤ c.loop-entry.entry-index) c.deref-entry-items.ensures.value c.loop-entry-test.false in
    let all = take_all c.loop-entry.entry-index items past in
    record {
      each = subst (λ l. AddsEach (texts c.args.extensions.now) (string_bytes c.args.folder.now.path) c.args.below.now l c.loop-entry.below) all c.loop-entry.invariant.each;
      kept = c.loop-entry.invariant.kept;
    }
