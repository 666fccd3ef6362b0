use Rattle.std.proofs.Common.{rules, ◌≡◌, ◌∙◌, ℕ, List, Some, Bor, length, option_map, slice_get, sym, ap, subst, arith}
use Rattle.std.proofs.lemmas.List.{length_push}
use Rattle.std.proofs.lemmas.Option.{get_or_from_slice_get}
use Rattle.tera_check.specs.declared.found.Found.{Found}
use Rattle.tera_templates.specs.declared.templates.Template.{Template}
use Rattle.tera_files.specs.declared.reading.Source.{Source}
use Rattle.tera_fixes.specs.Names.{component_names}
use Rattle.tera_fixes.proofs.ComponentsLemmas.{no_meanings}
use Rattle.tera_jobs.specs.Helps.{Help, IsHelpOf}
use Rattle.tera_jobs.proofs.Lists.{each_pushed, item_got, none_held}
use Rattle.tera_jobs.proofs.helps.helps_of.Goals as goal

pub loop-number-init : goal.loop-number-init
loop-number-init c = record {
  each = ap length c.new-helps.ensures.items;
  are = none_held (λ i help. (found : Found) → slice_get c.args.all.now i ≡ Some found
      → IsHelpOf c.in_ok-catalogue.catalogue (slice_get c.args.templates.now.items i) (slice_get c.args.sources.now i) found help)
      c.new-helps.result.items c.new-helps.ensures.items;
  meant = no_meanings (component_names c.in_ok-catalogue.catalogue) c.new-meanings.result c.new-meanings.ensures.empty;
}

pub loop-number-preserved : goal.loop-number-preserved
loop-number-preserved c =
    let held = c.loop-number.invariant in
    let all = c.args.all.now in
    let helps = c.loop-number.helps.items in
    let help = c.in_ok-help.help in
    let number = c.loop-number.number in
    let catalogue = c.in_ok-catalogue.catalogue in
    let templates = c.args.templates.now.items in
    let sources = c.args.sources.now in
    let one = c.index-all-number.result in
    let template : option_map (λ (t : Bor Template). t.now) c.get.result ≡ slice_get templates number =
    item_got c.deref.result.now number c.get.result c.get.ensures.lookup ∙ ap (λ ts. slice_get ts number) c.deref.ensures.value in
    let source : option_map (λ (s : Bor Source). s.now) c.get-in-loop-number.result ≡ slice_get sources number =
    item_got sources number c.get-in-loop-number.result c.get-in-loop-number.ensures.lookup in
    let here : IsHelpOf catalogue (slice_get templates number) (slice_get sources number) one help =
    subst (λ t. IsHelpOf catalogue t (slice_get sources number) one help) template
    (subst (λ s. IsHelpOf catalogue (option_map (λ (t : Bor Template). t.now) c.get.result) s one help) source c.in_ok-help.ensures.help) in
    record {
      each = omega (arith, ap length c.in_ok-push.ensures.items, length_push helps help, held.each);
      are =
          subst (λ (hs : List Help). (i : ℕ) (h : Help) → slice_get hs i ≡ Some h → (found : Found) → slice_get all i ≡ Some found → IsHelpOf catalogue (slice_get templates i) (slice_get sources i) found h)
          (sym c.in_ok-push.ensures.items)
          (each_pushed (λ i h. (found : Found) → slice_get all i ≡ Some found → IsHelpOf catalogue (slice_get templates i) (slice_get sources i) found h) helps help held.are
          (subst (λ (k : ℕ). (found : Found) → slice_get all k ≡ Some found → IsHelpOf catalogue (slice_get templates k) (slice_get sources k) found help) (sym held.each)
          (λ found is. subst (λ (f : Found). IsHelpOf catalogue (slice_get templates number) (slice_get sources number) f help)
          (c.index-all-number.is ∙ get_or_from_slice_get all number found one is) here)));
      meant = search rules;
    }

pub returns : goal.returns
returns c =
    let past = c.loop-number-test.false in
    let end = c.loop-number.auto.number-end in
    record {
      catalogue = c.in_ok-catalogue.catalogue;
      known = c.in_ok-catalogue.ensures;
      each = omega (arith, c.loop-number.invariant.each, past, end);
      are = λ i found help is of_help. c.loop-number.invariant.are i help of_help found is;
    }
