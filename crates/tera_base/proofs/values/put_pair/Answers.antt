use Rattle.tera_base.proofs.Puts.{value_read}
use Rattle.tera_base.proofs.values.put_pair.Goals as goal

pub returns-in-Some-clause-before : goal.returns-in-Some-clause-before
returns-in-Some-clause-before g c =
    rw (c.replace.ensures.value) (value_read c.args.key c.args.keys.now c.args.values.now.items c.in-Some.place _ c.requires c.in-Some.ensures.place c.index_mut.ensures.value)
