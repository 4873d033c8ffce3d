-- Places of which none is free: each that is taken stands at the end.
use Rattle.std.proofs.Common.{◌≡◌, ◌≢◌, ◌⊎◌, ℕ, true, false, List, [], ◌∷◌, length, Option, refl, sym, ◌∙◌, ap, subst, inl, inr, arith}
use Rattle.std.proofs.lemmas.Bool.{cases_Bool}
use Rattle.std.proofs.lemmas.List.Elements.{All-cons, All-nil}
use Rattle.std.proofs.lemmas.List.Sorted.{length_permutation}
use Rattle.h5w_model.specs.Numbers.{undefined}
use Rattle.h5w_model.specs.Findings.{Used}
use Rattle.h5w_step_laws.specs.Ranges.{block_at}
use Rattle.h5w_space.specs.Space.{Space, TakesEnd, TakesFree, extent}
use Rattle.h5w_cache.specs.Blocks.{BlockView}
use Rattle.h5w_cache.specs.Plans.{AreMoves, IsMove, Took, stays}
use Rattle.h5w_cache.specs.declared.moves.Move.{Move}
use Rattle.h5w_array_laws.specs.ArrayPlans.{fresh}
use Rattle.h5w_array_laws.proofs.FreshLemmas.{fresh_copy, fresh_in_place, took}
use Rattle.h5w_array_laws.proofs.PlanLemmas.{stays_and}
use Rattle.h5w_flush_laws.proofs.SpaceLemmas.{move_laws}
use Rattle.h5w_bt_index.specs.Plans.{AreNodeMoves}
use Rattle.h5w_packing_laws.specs.Growing.{IsTight, RangesFrom, TakesTight, TightTakes}

pub took_tight : TightTakes
took_tight s t r tight k = go k.takes.by
  where
    go : TakesFree s t r ⊎ TakesEnd s t r → TakesTight s t r
    go (inl f) = absurd (omega (arith, length_permutation s.free (r ∷ t.free) f.free, ap length tight.free))
    go (inr f) = record { place = f.place; end = f.end; tight = record { free = f.free ∙ tight.free; retired = k.takes.retired ∙ tight.retired } }

-- ranges that were taken one after another stand so
pub record Follows (s : Space) (us : List Used) (t : Space) : Type 0 where
  pub ranges : RangesFrom s.end us t.end
  pub tight : IsTight t

follows_one : (s r t : Space) (u : Used) (us : List Used) → TakesTight s r (extent u.place u.len) → Follows r us t → Follows s (u ∷ us) t
follows_one s r t u us first later = record { ranges = (first.place, subst (λ n. RangesFrom n us t.end) first.end later.ranges); tight = later.tight }

-- of an array, where each block in place has its place
pub moves_follow : (blocks : List (Option BlockView)) (places : List ℕ) → ((s : Space) (m : Move) (t : Space) → IsMove blocks places s m t → m.in_place ≡ true → m.old ≢ undefined)
    → (s : Space) (ms : List Move) (t : Space) → IsTight s → AreMoves blocks places s ms t → Follows s (fresh ms) t
moves_follow blocks places known s [] t tight e = subst (Follows s []) (sym e) (record { ranges = refl; tight = tight })
moves_follow blocks places known s (m ∷ ms) t tight h = go (cases_Bool m.in_place) (λ k. moves_follow blocks places known h.0 ms t k h.2)
  where
    go : (m.in_place ≡ true) ⊎ (m.in_place ≡ false) → (IsTight h.0 → Follows h.0 (fresh ms) t) → Follows s (fresh (m ∷ ms)) t
    go (inl e) later =
        let still : stays m.in_place m.old ≡ true = stays_and m.in_place m.old e (known s m h.0 h.1 e) in
        let same : h.0 ≡ s = move_laws.stayed blocks places s (m ∷ []) h.0 (h.0, h.1, refl) (All-cons (λ (x : Move). stays x.in_place x.old ≡ true) m [] still (All-nil (λ (x : Move). stays x.in_place x.old ≡ true))) in
        subst (λ (us : List Used). Follows s us t) (sym (fresh_in_place m ms e)) (subst (λ (r : Space). Follows r (fresh ms) t) same (later (subst IsTight (sym same) tight)))
    go (inr e) later =
        let first = took_tight s h.0 (extent m.new m.len) tight (took blocks places s m h.0 h.1 e) in
        subst (λ (us : List Used). Follows s us t) (sym (fresh_copy m ms e)) (follows_one s h.0 t (block_at m.new m.len) (fresh ms) first (later first.tight))

-- of a tree
pub nodes_follow : (s : Space) (ms : List Move) (t : Space) → IsTight s → AreNodeMoves s ms t → Follows s (fresh ms) t
nodes_follow s [] t tight e = subst (Follows s []) (sym e) (record { ranges = refl; tight = tight })
nodes_follow s (m ∷ ms) t tight h =
    let taken : Took s h.0 (extent m.new m.len) = subst (λ n. Took s h.0 (extent m.new n)) (sym (h.1).size) (h.1).step in
    let first = took_tight s h.0 (extent m.new m.len) tight taken in
    subst (λ (us : List Used). Follows s us t) (sym (fresh_copy m ms (h.1).moves)) (follows_one s h.0 t (block_at m.new m.len) (fresh ms) first (nodes_follow h.0 ms t first.tight h.2))
