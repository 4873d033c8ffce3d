-- The six numbers of an array's header stay true through a plan.
use Rattle.std.proofs.Common.{◌≡◌, ◌≢◌, ◌⊎◌, ℕ, ◌+◌, ◌-◌, ◌*◌, cond, List, [], ◌∷◌, refl, sym, ap, ◌∙◌, inl, inr, arith}
use Rattle.std.specs.Prelude.{is_some}
use Rattle.std.specs.List.{sum_by}
use Rattle.std.proofs.lemmas.List.Sums.{sum_by-cons}
use Rattle.h5w_model.specs.Numbers.{num, undefined}
use Rattle.h5w_model.specs.Arrays.{numbers_in}
use Rattle.h5w_model.specs.declared.piece.Write.{Write}
use Rattle.h5w_space.specs.Space.{Space}
use Rattle.h5w_cache.specs.Stores.{Store, place_in}
use Rattle.h5w_cache.specs.Plans.{IsPlan, block_in, bytes_of, moved}
use Rattle.h5w_cache.specs.declared.moves.Move.{Move}
use Rattle.h5w_cache.proofs.PlannedLemmas.{respelled-kept}
use Rattle.h5w_array_laws.specs.Parts.{Part, header, number_of, children, slot_count, visit_order}
use Rattle.h5w_array_laws.specs.ArrayStores.{IsArray, block_at_part, bytes_at_part, map_of, one_data, one_secondary, data_bytes, secondary_bytes, total}
use Rattle.h5w_array_laws.specs.ArrayPlans.{PlansNumbers}
use Rattle.h5w_array_laws.proofs.NumberLemmas.{numbers_in-same}
use Rattle.h5w_array_laws.proofs.KeptLemmas.{is_some_of}
use Rattle.h5w_array_laws.proofs.StoreLemmas.{kept_after}
use Rattle.h5w_array_laws.proofs.SpelledLemmas.{links_behind}
use Rattle.h5w_array_laws.proofs.MapLemmas.{bytes_stay}

pub same_total : {X : Type 0} (f g : X → ℕ) (xs : List X) → ((x : X) → f x ≡ g x) → sum_by f xs ≡ sum_by g xs
same_total f g [] h = refl
same_total f g (x ∷ xs) h = omega (arith, sum_by-cons f x xs, sum_by-cons g x xs, h x, same_total f g xs h)

pub total_stays : (v : Store) (s : Space) (ms : List Move) (cs fs : List Write) (w : Store) (t : Space) → IsPlan v s ms cs fs w t → (weight : Part → ℕ) → total weight w ≡ total weight v
total_stays v s ms cs fs w t p weight =
    same_total (λ k. cond (is_some (block_at_part w k)) (weight k) 0) (λ k. cond (is_some (block_at_part v k)) (weight k) 0) visit_order
    (λ k. ap (λ b. cond b (weight k) 0) (ap (λ (q : Store). is_some (block_in q.blocks (number_of k))) p.store ∙ respelled-kept (place_in (moved ms v.places)) ms v.blocks (number_of k)))

pub six_stay : (v : Store) (s : Space) (ms : List Move) (cs fs : List Write) (w : Store) (t : Space) → IsPlan v s ms cs fs w t → IsArray v → numbers_in (bytes_at_part w header) 6 12 ≡ numbers_in (bytes_at_part v header) 6 12
six_stay v s ms cs fs w t p a =
    let b = is_some_of (block_at_part v header) (a.in_place header tt refl).0 in
    let c = is_some_of (block_at_part w header) (kept_after v s ms cs fs w t p 846 (a.in_place header tt refl).0) in
    ap (λ o. numbers_in (bytes_of o) 6 12) c.1
    ∙ numbers_in-same b.0.bytes c.0.bytes 6 12 12
    (λ i lt. ap num (bytes_stay v s ms cs fs w t p a header tt b.0 c.0 b.1 c.1 (12 + 8 * i) 8 (links_behind 60 (children header) (12 + 8 * i) 8 (omega arith)) (omega arith)))
    ∙ ap (λ o. numbers_in (bytes_of o) 6 12) (sym b.1)

pub plans_numbers : PlansNumbers
plans_numbers v s ms cs fs w t plan a n =
    let p = plan.plan in
    let t1 = sym (total_stays v s ms cs fs w t p one_secondary) in
    let t2 = sym (total_stays v s ms cs fs w t p secondary_bytes) in
    let t3 = sym (total_stays v s ms cs fs w t p one_data) in
    let t4 = sym (total_stays v s ms cs fs w t p data_bytes) in
    let t5 = sym (total_stays v s ms cs fs w t p slot_count) in
    record {
      max = n.max;
      greatest = record {
        above = λ i d. n.greatest.above i (λ e. d (plan.map i ∙ e));
        least = least (n.greatest.least);
      };
      six = six_stay v s ms cs fs w t p a ∙ n.six ∙ (λ i. t1 i ∷ t2 i ∷ t3 i ∷ t4 i ∷ n.max ∷ (4 + t5 i) ∷ []);
    }
  where
    least : (n.max ≡ 0) ⊎ (map_of v (n.max - 1) ≢ undefined) → (n.max ≡ 0) ⊎ (map_of w (n.max - 1) ≢ undefined)
    least (inl e) = inl e
    least (inr d) = inr (λ e. d (sym (plan.map (n.max - 1)) ∙ e))
