use Rattle.std.proofs.Common.{length, ap, arith}
use Rattle.h5w_several_creation.proofs.SetLemmas.{header_is_long, set_put}
use Rattle.h5w_several_creation.proofs.set.put_set.Goals as goal

pub header_at-requires : goal.header_at-requires
header_at-requires c = omega (arith, ap length c.in_ok-header.ensures, header_is_long c.args.form.now c.requires.form)

pub returns-clause-end : goal.returns-clause-end
returns-clause-end c =
    omega (arith, c.len.ensures.value, ap length c.in_ok-header.ensures, header_is_long c.args.form.now c.requires.form, c.index_len.ensures.exact)

pub returns-clause-writes : goal.returns-clause-writes
returns-clause-writes c =
    set_put c.args.form.now c.args.place c.len.result c.in_ok-header.header c.header_at.result c.args.writes.now.items c.put_index.new.writes.items c.push.new.self.items c.requires.form c.in_ok-header.ensures c.len.ensures.value
    c.in_ok-put_index.ensures c.header_at.ensures c.in_ok-push.ensures.items
