-- What a plan takes ends within the limit.
use Rattle.std.proofs.Common.{◌≡◌, ◌⊎◌, ℕ, ◌≤◌, Bool, true, false, List, [], ◌∷◌, Option, refl, sym, ◌∙◌, ap, subst, inl, inr, arith}
use Rattle.std.proofs.lemmas.Bool.{cases_Bool}
use Rattle.h5w_model.specs.Trees.{node_size}
use Rattle.h5w_model.specs.declared.piece.Write.{Write}
use Rattle.h5w_space.specs.Space.{Space, TakesEnd, TakesFree, extent}
use Rattle.h5w_space.specs.declared.Extent.{Extent}
use Rattle.h5w_cache.specs.Blocks.{BlockView}
use Rattle.h5w_cache.specs.Plans.{AreMoves, IsMove, Placed, Took, stays}
use Rattle.h5w_cache.specs.declared.moves.Move.{Move}
use Rattle.h5w_cache.proofs.FinishLemmas.{retired_end}
use Rattle.h5w_array_laws.specs.ArrayPlans.{IsArrayPlan}
use Rattle.h5w_bt_index.specs.Plans.{AreNodeMoves, IsTreePlan}
use Rattle.h5w_index.specs.Views.{IndexView, an_array, a_tree}
use Rattle.h5w_index.specs.Steps.{IsPlan}

-- the end is within the same limit
record Fits (s t : Space) : Type 0 where
  limit : t.limit ≡ s.limit
  within : t.end ≤ t.limit

took_fits : (s t : Space) (r : Extent) → Took s t r → s.end ≤ s.limit → Fits s t
took_fits s t r k low = go k.takes.by
  where
    go : TakesFree s t r ⊎ TakesEnd s t r → Fits s t
    go (inl f) = record { limit = k.takes.limit; within = omega (arith, f.end, k.takes.limit, low) }
    go (inr f) = record { limit = k.takes.limit; within = omega (arith, f.fits, k.takes.limit) }

onward : (s t u : Space) → Fits s t → Fits t u → Fits s u
onward s t u a b = record { limit = b.limit ∙ a.limit; within = b.within }

move_fits : (blocks : List (Option BlockView)) (places : List ℕ) (s t : Space) (m : Move) → IsMove blocks places s m t → s.end ≤ s.limit → Fits s t
move_fits blocks places s t m x low = go (cases_Bool (stays m.in_place m.old))
  where
    step : (b : Bool) → stays m.in_place m.old ≡ b → Placed b m.old m.len s t m.new
    step b e = subst (λ (y : Bool). Placed y m.old m.len s t m.new) e x.step

    go : (stays m.in_place m.old ≡ true) ⊎ (stays m.in_place m.old ≡ false) → Fits s t
    go (inl e) = subst (Fits s) (sym (step true e).1) (record { limit = refl; within = low })
    go (inr e) = took_fits s t (extent m.new m.len) (step false e) low

moves_fit : (blocks : List (Option BlockView)) (places : List ℕ) (s : Space) (ms : List Move) (t : Space) → AreMoves blocks places s ms t → s.end ≤ s.limit → Fits s t
moves_fit blocks places s [] t e low = subst (Fits s) (sym e) (record { limit = refl; within = low })
moves_fit blocks places s (m ∷ ms) t h low = let first = move_fits blocks places s h.0 m h.1 low in onward s h.0 t first (moves_fit blocks places h.0 ms t h.2 first.within)

nodes_fit : (s : Space) (ms : List Move) (t : Space) → AreNodeMoves s ms t → s.end ≤ s.limit → Fits s t
nodes_fit s [] t e low = subst (Fits s) (sym e) (record { limit = refl; within = low })
nodes_fit s (m ∷ ms) t h low = let first = took_fits s h.0 (extent m.new node_size) (h.1).step low in onward s h.0 t first (nodes_fit h.0 ms t h.2 first.within)

pub plan_fits : (v w : IndexView) (s t : Space) (ms : List Move) (copies fixed : List Write) → IsPlan v s ms copies fixed w t → s.end ≤ s.limit → t.end ≤ s.limit
plan_fits (an_array v) (an_array w) s t ms copies fixed x low =
    let p : IsArrayPlan v s ms copies fixed w t = x in
    let plan = p.plan in
    let f = moves_fit v.blocks v.places s ms plan.taken.taken plan.taken.moves low in
    omega (arith, retired_end plan.roomy ms t plan.retired, ap (λ (y : Space). y.end) plan.taken.roomy, f.within, f.limit)
plan_fits (a_tree p v) (a_tree q w) s t ms copies fixed x low =
    let plan : IsTreePlan p v s ms copies fixed w t = x.1 in
    let f = nodes_fit s ms plan.taken.taken plan.taken.moves low in
    omega (arith, retired_end plan.roomy ms t plan.retired, ap (λ (y : Space). y.end) plan.taken.roomy, f.within, f.limit)
plan_fits (an_array v) (a_tree q w) s t ms copies fixed x low = absurd x
plan_fits (a_tree p v) (an_array w) s t ms copies fixed x low = absurd x
