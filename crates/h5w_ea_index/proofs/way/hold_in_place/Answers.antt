use Rattle.std.proofs.Common.{◌≡◌, ◌∙◌, ap, sym, subst, refl}
use Rattle.std.specs.Prelude.{IsSome}
use Rattle.h5w_cache.specs.Stores.{Store, block_of, is_changed, marked}
use Rattle.h5w_array_laws.specs.Parts.{index_block, header}
use Rattle.h5w_array_laws.specs.ArrayStores.{IsArray, IsNumbered}
use Rattle.h5w_ea_index.specs.Reach.{max_index_set}
use Rattle.h5w_ea_index.specs.Steps.{IsHeld, OnWay, Touches}
use Rattle.h5w_ea_index.proofs.ArrayLemmas.{marked_top}
use Rattle.h5w_ea_index.proofs.StepLemmas.{is_marked}
use Rattle.h5w_ea_index.proofs.TouchLemmas.{both_way}
use Rattle.h5w_ea_index.proofs.WayLemmas.{marked_kept, numbered_marked, both_held, top_both}
use Rattle.h5w_ea_index.proofs.way.hold_in_place.Goals as goal

pub mark-requires : goal.mark-requires
mark-requires c = (c.requires.array.in_place header tt refl).0

pub mark-requires-2 : goal.mark-requires-2
mark-requires-2 c = subst (λ (s : Store). IsSome (block_of s 845)) (sym c.mark.ensures) (marked_kept c.args.cache.now 846 845 (c.requires.array.in_place index_block tt refl).0)

pub returns : goal.returns
returns c =
    let e : c.mark-2.new.self ≡ marked 845 (marked 846 c.args.cache.now) = c.mark-2.ensures ∙ ap (marked 845) c.mark.ensures in
    record {
      array = subst IsArray (sym e) (marked_top c.args.cache.now c.requires.array);
      numbered = λ h. subst IsNumbered (sym e) (numbered_marked (marked 846 c.args.cache.now) 845 (numbered_marked c.args.cache.now 846 h));
      held = subst (IsHeld c.args.cache.now) (sym e) (both_held c.args.cache.now);
      reach = ap (λ (s : Store). max_index_set s) e ∙ top_both c.args.cache.now;
      way = subst (Touches (OnWay index_block) c.args.cache.now) (sym e) (both_way c.args.cache.now);
      changed = ap (λ (s : Store). is_changed s 845) e ∙ is_marked (marked 846 c.args.cache.now) 845;
    }
