-- Which blocks a change leaves as they are.
use Rattle.std.proofs.Common.{◌≡◌, inl, inr, ℕ, refl, sym, ap, subst, ◌∙◌}
use Rattle.h5w_cache.specs.Blocks.{BlockView}
use Rattle.h5w_cache.specs.Stores.{Store, marked, changed_to}
use Rattle.h5w_array_laws.specs.Parts.{Part, secondary_of, index_block, header, number_of, parent}
use Rattle.h5w_ea_index.specs.Steps.{Touches, OnWay}
use Rattle.h5w_ea_index.proofs.StoreLemmas.{marks, marked-is, marks-other, set-other}
use Rattle.h5w_ea_index.proofs.ArrayLemmas.{added, added_as, added-is}

pub touch_onward : (P : ℕ → Type 0) (u v w : Store) → Touches P u v → Touches P v w → Touches P u w
touch_onward P u v w a b n free = ((b n free).0 ∙ (a n free).0, (b n free).1 ∙ (a n free).1)

pub touch_more : (P Q : ℕ → Type 0) (v w : Store) → ((n : ℕ) → P n → Q n) → Touches P v w → Touches Q v w
touch_more P Q v w f h n free = h n (λ p. free (f n p))

touch_remarked : (v : Store) (n : ℕ) → Touches (λ m. m ≡ n) v (record v { changed = marks n v.changed })
touch_remarked v n m free = (refl, marks-other n m v.changed (λ e. free (sym e)))

pub touch_marked : (v : Store) (n : ℕ) → Touches (λ m. m ≡ n) v (marked n v)
touch_marked v n = subst (Touches (λ m. m ≡ n) v) (sym (marked-is n v)) (touch_remarked v n)

pub touch_changed : (v : Store) (n : ℕ) (b : BlockView) → Touches (λ m. m ≡ n) v (changed_to n b v)
touch_changed v n b m free = (set-other v.blocks n m b (λ e. free (sym e)), refl)

touch_added_as : (v : Store) (n : ℕ) (b : BlockView) → Touches (λ m. m ≡ n) v (added_as n b v)
touch_added_as v n b m free = (set-other v.blocks n m b (λ e. free (sym e)), marks-other n m v.changed (λ e. free (sym e)))

pub touch_added : (v u : Store) (n : ℕ) (b : BlockView) → u ≡ added n b v → Touches (λ m. m ≡ n) v u
touch_added v u n b is = subst (Touches (λ m. m ≡ n) v) (sym (is ∙ added-is n b v)) (touch_added_as v n b)

-- ---- On the way to a block

pub own_way : (k : Part) (v w : Store) → Touches (λ m. m ≡ number_of k) v w → Touches (OnWay k) v w
own_way k v w h = touch_more (λ m. m ≡ number_of k) (OnWay k) v w (λ n e. inl e) h

pub header_way : (k : Part) (v w : Store) → Touches (λ m. m ≡ number_of header) v w → Touches (OnWay k) v w
header_way k v w h = touch_more (λ m. m ≡ number_of header) (OnWay k) v w (λ n e. inr (inr (inr e))) h

in_place_on : (k : Part) (n : ℕ) → OnWay index_block n → OnWay k n
in_place_on k n (inl e) = inr (inr (inl e))
in_place_on k n (inr (inl e)) = inr (inr (inr e))
in_place_on k n (inr (inr h)) = inr (inr h)

pub in_place_way : (k : Part) (v w : Store) → Touches (OnWay index_block) v w → Touches (OnWay k) v w
in_place_way k v w h = touch_more (OnWay index_block) (OnWay k) v w (in_place_on k) h

secondary_on : (s : ℕ) (k : Part) (n : ℕ) → parent k ≡ secondary_of s → OnWay (secondary_of s) n → OnWay k n
secondary_on s k n up (inl e) = inr (inl (e ∙ ap number_of (sym up)))
secondary_on s k n up (inr (inl e)) = inr (inr (inl e))
secondary_on s k n up (inr (inr h)) = inr (inr h)

pub secondary_way : (s : ℕ) (k : Part) (v w : Store) → parent k ≡ secondary_of s → Touches (OnWay (secondary_of s)) v w → Touches (OnWay k) v w
secondary_way s k v w up h = touch_more (OnWay (secondary_of s)) (OnWay k) v w (λ n p. secondary_on s k n up p) h

pub both_way : (v : Store) → Touches (OnWay index_block) v (marked 845 (marked 846 v))
both_way v =
    touch_onward (OnWay index_block) v (marked 846 v) (marked 845 (marked 846 v)) (header_way index_block v (marked 846 v) (touch_marked v 846))
    (own_way index_block (marked 846 v) (marked 845 (marked 846 v)) (touch_marked (marked 846 v) 845))
