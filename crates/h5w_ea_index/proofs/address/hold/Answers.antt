use Rattle.std.proofs.Common.{◌≡◌, subst, true}
use Rattle.std.specs.Prelude.{OnOk}
use Rattle.h5w_cache.specs.Stores.{is_changed}
use Rattle.h5w_array_laws.specs.Parts.{number_of}
use Rattle.h5w_ea_index.specs.Fresh.{part_of}
use Rattle.h5w_ea_index.specs.Steps.{OnWay, Touches}
use Rattle.h5w_ea_index.proofs.WayLemmas.{holder_part}
use Rattle.h5w_ea_index.proofs.address.hold.Goals as goal

pub hold_holder-requires-clause-part : goal.hold_holder-requires-clause-part
hold_holder-requires-clause-part c = holder_part c.args.i (part_of c.locate.result.holder) c.locate.ensures.holder c.requires.below

pub returns-clause-changed : goal.returns-clause-changed
returns-clause-changed c = subst (λ k. OnOk c.hold_holder.result (is_changed c.hold_holder.new.cache (number_of k) ≡ true)) c.locate.ensures.holder c.hold_holder.ensures.changed

pub returns-clause-way : goal.returns-clause-way
returns-clause-way c = subst (λ k. Touches (OnWay k) c.args.cache.now c.hold_holder.new.cache) c.locate.ensures.holder c.hold_holder.ensures.way
