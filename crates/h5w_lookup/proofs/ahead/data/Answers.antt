use Rattle.std.proofs.Common.{refl}
use Rattle.h5w_lookup.specs.Stores.{kept}
use Rattle.h5w_lookup.proofs.AheadLemmas.{is_data_used}
use Rattle.h5w_lookup.proofs.ahead.data.Goals as goal

pub returns-clause-some : goal.returns-clause-some
returns-clause-some c =
    let a = c.args in
    is_data_used a.at a.n a.slot c.slots_len-len.result (kept a.store.now) (kept c.touch.new.self) _ refl refl refl c.if-at-eq-UNDEFINED.false c.slots_len-len.ensures c.in-Some.ensures c.touch.ensures
