use Rattle.std.proofs.Common.{◌≡◌, subst}
use Rattle.h5w_model.specs.Programs.{used}
use Rattle.h5w_model.specs.Tables.{data_block}
use Rattle.h5w_lookup.specs.Stores.{kept}
use Rattle.h5w_lookup.proofs.SeekLemmas.{data_nowhere, data_kept, data_waits}
use Rattle.h5w_lookup.proofs.probe.Probe.data.Goals as goal

pub returns-then-at-eq-UNDEFINED-clause-exact : goal.returns-then-at-eq-UNDEFINED-clause-exact
returns-then-at-eq-UNDEFINED-clause-exact c = λ next. data_nowhere (kept c.args.store.now) c.args.at c.args.n c.args.slot next c.if-at-eq-UNDEFINED.true

pub returns-clause-exact : goal.returns-clause-exact
returns-clause-exact c = λ next.
    let k = c.in-Some.ensures in
    rw c.slot-address.ensures (data_kept (kept c.args.store.now) (kept c.touch.new.self) c.args.at c.args.n c.args.slot k.bytes c.in-Some.content.now next c.if-at-eq-UNDEFINED.false (rw c.slots_len-len.ensures at k.is_kept) (rw c.slots_len-len.ensures at k.read)
    (subst (λ m. kept c.touch.new.self ≡ used 16 data_block c.args.at m k.bytes (kept c.args.store.now)) c.slots_len-len.ensures (c.touch.ensures k.bytes k.is_kept)))

pub returns-in-None-clause-exact : goal.returns-in-None-clause-exact
returns-in-None-clause-exact c = λ next.
    let h = rw c.slots_len-len.ensures at c.in-None.ensures in
    data_waits (kept c.args.store.now) (record { at = c.args.at; n = c.args.n; slot = c.args.slot; few = c.requires }) next c.if-at-eq-UNDEFINED.false h
