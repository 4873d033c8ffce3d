-- A chunk of an array gets an address: first the blocks on the way to its slot are there, and then the slot is set.
use Rattle.std.proofs.Common.{◌≡◌, ℕ, ◌+◌, ◌<◌, true, List, ◌∷◌, inl, inr, ap, subst, ◌∙◌}
use Rattle.std.specs.Prelude.{◌==◌, max, if◌then◌else◌}
use Rattle.h5w_model.specs.Findings.{Used}
use Rattle.h5w_cache.specs.Stores.{Store, is_changed}
use Rattle.h5w_step_laws.specs.Ranges.{chunk_at}
use Rattle.h5w_array_laws.specs.Among.{AreAmong}
use Rattle.h5w_array_laws.specs.Parts.{holder, number_of}
use Rattle.h5w_array_laws.specs.ArrayStores.{IsArray, IsNumbered, behind_of}
use Rattle.h5w_ea_index.specs.Steps.{IsHeld, IsSet, IsSlotOrHeader, OnWay, Touches}
use Rattle.h5w_ea_index.specs.Reach.{max_index_set}
use Rattle.h5w_index.specs.Steps.{ArraySet}

off_slot : (i n : ℕ) → (OnWay (holder i) n → ⊥) → IsSlotOrHeader i n → ⊥
off_slot i n off (inl e) = off (inl e)
off_slot i n off (inr e) = off (inr (inr (inr e)))

held_set : (i address : ℕ) (v u w : Store) → IsHeld v u → IsSet i address u w → IsSet i address v w
held_set i address v u w h s = record {
  map = λ j. s.map j ∙ ap (λ (x : ℕ). if j == i then address else x) (h.map j);
  behind = λ bytes. subst (λ (us : List Used). AreAmong (behind_of bytes w) (chunk_at address bytes ∷ us)) (h.behind bytes) (s.behind bytes);
  places = λ n. s.places n ∙ h.places n;
  standing = λ t x. s.standing t (h.standing t x);
  stands = λ img x. s.stands img (h.stands img x);
  marks = λ n x. s.marks n (h.marks n x);
  headed = λ x. s.headed (h.headed x);
}

touched_both : (i : ℕ) (v u w : Store) → Touches (OnWay (holder i)) v u → Touches (IsSlotOrHeader i) u w → Touches (OnWay (holder i)) v w
touched_both i v u w first second n off =
    let a = first n off in
    let b = second n (off_slot i n off) in
    (b.0 ∙ a.0, b.1 ∙ a.1)

pub array_sets : (i address : ℕ) (v u w : Store) → i < 131060 → IsHeld v u → max_index_set u ≡ max_index_set v → Touches (OnWay (holder i)) v u → is_changed u (number_of (holder i)) ≡ true → (IsNumbered v → IsNumbered u)
    → IsSet i address u w → max_index_set w ≡ max (max_index_set u) (i + 1) → Touches (IsSlotOrHeader i) u w → IsArray w → (IsNumbered u → IsNumbered w) → ArraySet i address v w
array_sets i address v u w low held reach way changed numbered set rises slot array also = record {
  set = held_set i address v u w held set;
  slot = (low, set.marks (number_of (holder i)) changed);
  reach = rises ∙ ap (λ (n : ℕ). max n (i + 1)) reach;
  way = touched_both i v u w way slot;
  array = array;
  numbered = λ n. also (numbered n);
}
