use Rattle.std.proofs.Common.{◌∙◌, map, refl, subst, arith}
use Rattle.std.proofs.lemmas.List.{drop_all}
use Rattle.json.specs.Json.{array}
use Rattle.json.specs.Value.{items_of}
use Rattle.tera_workspace.specs.Definitions.{text_view}
use Rattle.tera_answers.specs.References.{looked_for_by}
use Rattle.tera_answers.proofs.ArrayLemmas.{array_closed}
use Rattle.tera_answers.proofs.DropLemmas.{drop_at}
use Rattle.tera_answers.proofs.ReferenceLemmas.{AreListed, one_listed, all_listed}
use Rattle.tera_answers.proofs.Tails.{and_so}
use Rattle.tera_answers.proofs.references.put_references.Goals as goal

pub loop-text-preserved : goal.loop-text-preserved
loop-text-preserved c =
    let k = looked_for_by c.args.search in
    let texts = c.args.texts.now in
    let old = c.begin_array.new.self.tokens in
    let then = c.loop-text.out.tokens in
    let more = c.in_ok-put_in.ensures.tokens in
    record {
      listed = one_listed k (map text_view texts) _ _ old then c.put_in.new.out.tokens more.0
          (subst (λ xs. AreListed k (map text_view texts) (map text_view xs) old then) (drop_at texts c.loop-text.text-index _ (omega arith)) c.loop-text.invariant.listed) more.1 more.2;
      before = c.put_in.ensures.before ∙ c.loop-text.invariant.before;
    }

pub returns-clause-tokens : goal.returns-clause-tokens
returns-clause-tokens c =
    let k = looked_for_by c.args.search in
    let texts = c.args.texts.now in
    let old = c.begin_array.new.self.tokens in
    let (js, are, written) = all_listed k (map text_view texts) old c.loop-text.out.tokens
    (subst (λ xs. AreListed k (map text_view texts) (map text_view xs) old c.loop-text.out.tokens) (drop_all c.loop-text.text-index texts (omega arith)) c.loop-text.invariant.listed) in
    and_so c.end_array.result c.end_array.ensures.ok
    (λ h. (
      array (items_of js),
      (js, are, refl),
      array_closed js c.args.out.now.tokens old c.loop-text.out.tokens c.end_array.new.self.tokens c.in_ok-begin_array.ensures.ok written h,
    ))
