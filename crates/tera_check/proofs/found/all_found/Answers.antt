use Rattle.std.proofs.Common.{◌≡◌, ◌∙◌, ◌<◌, ◌+◌, [], ◌∷◌, ◌++◌, length, take, get_or, sym, ap, subst, arith}
use Rattle.std.proofs.lemmas.List.{take_more, length-take-le}
use Rattle.tera_check.specs.Named.{known_in}
use Rattle.tera_templates.specs.Lost.{are_open}
use Rattle.tera_check.specs.Found.{AreFound, none, IsFoundOf, IsFoundUnder, known_by}
use Rattle.tera_check.specs.declared.found.Found.{Found}
use Rattle.tera_check.proofs.FoundLemmas.{found_more, same_answers}
use Rattle.tera_check.proofs.found.all_found.Goals as goal

pub loop-number-init : goal.loop-number-init
loop-number-init c = subst (AreFound (known_by c.args.templates.now.items) (are_open c.args.templates.now.items) c.args.checked 0 []) (sym c.new-all.ensures.items) none

pub loop-number-preserved : goal.loop-number-preserved
loop-number-preserved c =
    let all = c.args.templates.now.items in
    let checked = c.args.checked in
    let open_text = are_open all in
    let number = c.loop-number.number in
    let one = c.template-item.result in
    let found : Found = record { file = c.as_str.result; findings = c.in_ok-found_in.field-0 } in
    let within : number < length all = omega (arith, ap length c.deref-template-items.ensures.value) in
    let is : one ≡ get_or all number one = cc in
    let more : take (number + 1) all ≡ take number all ++ one ∷ [] = take_more all number one within ∙ ap (λ t. take number all ++ t ∷ []) (sym is) in
    let long : 0 + length (take number all) ≡ number = omega (arith, length-take-le number all (omega (arith, within))) in
    let known : known_in c.in_ok-catalogue.catalogue ≡ known_by all = same_answers (known_in c.in_ok-catalogue.catalogue) (known_by all) c.in_ok-catalogue.ensures in
    let here : IsFoundUnder (known_by all) open_text checked number one found = record {
      file = c.as_str.ensures.value;
      findings = subst (λ k. IsFoundOf k open_text checked number one found.findings.items) known
          (subst (λ o. IsFoundOf (known_in c.in_ok-catalogue.catalogue) o checked number one found.findings.items) c.are_open-is_open.ensures c.in_ok-found_in.ensures);
    } in
    let next = found_more (known_by all) open_text checked 0 (take number all) c.loop-number.all.items one found c.loop-number.invariant
    (subst (λ n. IsFoundUnder (known_by all) open_text checked n one found) (sym long) here) in
    subst (λ ts. AreFound (known_by all) open_text checked 0 ts c.push.new.self.items) (sym more)
    (subst (AreFound (known_by all) open_text checked 0 (take number all ++ one ∷ [])) (sym c.in_ok-push.ensures.items) next)
