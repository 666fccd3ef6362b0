use Rattle.std.proofs.Common.{◌∙◌, ap}
use Rattle.tera_workspace.specs.NameBits.{bit_of}
use Rattle.tera_workspace.proofs.NameListLemmas.{bits_all, bits_more}
use Rattle.tera_workspace.proofs.name_list.NameList.of.Goals as goal

pub loop-name-preserved : goal.loop-name-preserved
loop-name-preserved c =
    bits_more c.loop-name.bits c.deref-name-items.result.now c.loop-name.name-index c.name-item.result c.bit_of.result
    c.loop-name-test.true c.name-item.is (c.bit_of.ensures.bit ∙ ap bit_of c.as_str.ensures.value) c.bit_of.ensures.within c.loop-name.invariant

pub invariant_of-result : goal.invariant_of-result
invariant_of-result c =
    bits_all c.loop-name.bits c.deref-name-items.result.now c.args.names.items c.loop-name.name-index c.loop-name-test.false c.deref-name-items.ensures.value c.loop-name.invariant
