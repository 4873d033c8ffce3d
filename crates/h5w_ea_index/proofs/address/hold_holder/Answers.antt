use Rattle.std.proofs.Common.{◌≡◌, ap, ◌∙◌, sym, subst, true}
use Rattle.std.specs.Prelude.{OnOk}
use Rattle.h5w_cache.specs.Stores.{is_changed}
use Rattle.h5w_array_laws.specs.Parts.{number_of}
use Rattle.h5w_ea_index.specs.Fresh.{part_of}
use Rattle.h5w_ea_index.specs.Steps.{OnWay, Touches}
use Rattle.h5w_ea_index.proofs.address.hold_holder.Goals as goal

pub returns-in-Index-clause-changed : goal.returns-in-Index-clause-changed
returns-in-Index-clause-changed c = ap (λ h. is_changed c.hold_in_place.new.cache (number_of (part_of h))) c.in-Index.is ∙ c.hold_in_place.ensures.changed

pub returns-in-Data-clause-changed : goal.returns-in-Data-clause-changed
returns-in-Data-clause-changed c = subst (λ h. OnOk c.hold_way.result (is_changed c.hold_way.new.cache (number_of (part_of h)) ≡ true)) (sym c.in-Data.is) c.hold_way.ensures.changed

pub returns-in-Index-clause-way : goal.returns-in-Index-clause-way
returns-in-Index-clause-way c = subst (λ h. Touches (OnWay (part_of h)) c.args.cache.now c.hold_in_place.new.cache) (sym c.in-Index.is) c.hold_in_place.ensures.way

pub returns-in-Data-clause-way : goal.returns-in-Data-clause-way
returns-in-Data-clause-way c = subst (λ h. Touches (OnWay (part_of h)) c.args.cache.now c.hold_way.new.cache) (sym c.in-Data.is) c.hold_way.ensures.way
