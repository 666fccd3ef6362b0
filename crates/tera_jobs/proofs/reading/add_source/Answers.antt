use Rattle.std.proofs.Common.{string_bytes, refl, subst}
use Rattle.tera_jobs.specs.Sources.{IsReadFrom, marks_in}
use Rattle.tera_jobs.proofs.reading.add_source.Goals as goal

pub returns-in_ok-push-2 : goal.returns-in_ok-push-2
returns-in_ok-push-2 c =
    let template = c.in_ok-template.template in
    let reading = c.args.reading.now in
    record {
      template = template;
      read = subst (λ file. IsReadFrom (marks_in reading.markers) file (string_bytes c.args.source.text) reading.faults template) c.as_str.ensures.value
          (subst (λ source. IsReadFrom (marks_in reading.markers) c.as_str.result.now source reading.faults template) c.as_str-2.ensures.value c.in_ok-template.ensures);
      following = c.in_ok-push.ensures.items;
      kept = rw c.if-reading.true (c.args.source, refl, refl, c.in_ok-push-2.ensures.items);
    }

pub returns-else-reading : goal.returns-else-reading
returns-else-reading c =
    let template = c.in_ok-template.template in
    let reading = c.args.reading.now in
    record {
      template = template;
      read = subst (λ file. IsReadFrom (marks_in reading.markers) file (string_bytes c.args.source.text) reading.faults template) c.as_str.ensures.value
          (subst (λ source. IsReadFrom (marks_in reading.markers) c.as_str.result.now source reading.faults template) c.as_str-2.ensures.value c.in_ok-template.ensures);
      following = c.in_ok-push.ensures.items;
      kept = rw c.if-reading.false refl;
    }
