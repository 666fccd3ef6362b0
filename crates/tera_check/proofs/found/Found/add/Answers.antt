use Rattle.std.proofs.Common.{refl, subst}
use Rattle.std.specs.List.Sorted.{IsPermutation}
use Rattle.tera_check.proofs.AddedLemmas.{together}
use Rattle.tera_check.proofs.found.Found.add.Goals as goal

pub returns : goal.returns
returns c =
    let new = c.put_in_order.new.findings.items in
    record {
      file = refl;
      in_order = c.in_ok-put_in_order.ensures.ordered;
      found = together c.args.self.now.findings.items c.args.more.items new
          (subst (λ fs. IsPermutation fs new) c.in_ok-append.ensures.items c.in_ok-put_in_order.ensures.same);
    }
