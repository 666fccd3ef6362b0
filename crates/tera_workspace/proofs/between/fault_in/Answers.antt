use Rattle.std.proofs.Common.{◌≡◌, ◌∙◌, map, sym, subst}
use Rattle.tera_findings.specs.Findings.{finding_view}
use Rattle.tera_lexer.specs.grammar.Marks.{IsValid, marks_of}
use Rattle.tera_workspace.specs.Between.{AreFirstFault}
use Rattle.tera_workspace.specs.Kept.{source_of}
use Rattle.tera_workspace.specs.Sources.{Source}
use Rattle.tera_workspace.proofs.BetweenLemmas.{first_fault}
use Rattle.tera_workspace.proofs.between.fault_in.Goals as goal

pub read_template_between-requires : goal.read_template_between-requires
read_template_between-requires c = subst IsValid (sym c.in_ok-clone.ensures.cases) c.delimiters.ensures.valid

pub returns : goal.returns
returns c =
    let read = c.in_ok-template.ensures in
    let fs = map finding_view c.in_ok-found.found.items in
    let m = marks_of c.in_ok-clone.field-0 in
    let s : Source = record { name = c.as_str-file.result.now; text = c.as_str-text.result.now } in
    let same : s ≡ source_of c.args.judged.now = λ i. record { name = c.as_str-file.ensures.value i; text = c.as_str-text.ensures i } in
    let are : AreFirstFault m s fs =
    first_fault m s c.in_ok-template.template fs
    (record {
      file = read.file;
      alone = read.alone;
      sound = read.sound;
      complete = read.complete;
      syntax = read.fault;
      refusal = read.refusal;
      lost = read.lost;
      notes = read.notes;
    })
    c.in_ok-found.ensures.faults in (
      fs,
      subst (λ x. AreFirstFault x (source_of c.args.judged.now) fs) (c.in_ok-clone.ensures.cases ∙ c.delimiters.ensures.same) (subst (λ (x : Source). AreFirstFault m x fs) same are),
      c.in_ok-diagnostics.ensures,
    )
