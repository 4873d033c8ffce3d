-- The ranges that the copies of a plan took.
use Rattle.std.proofs.Common.{◌≡◌, ◌⊎◌, ℕ, zero, suc, ◌<◌, ◌≤◌, Bool, true, false, cond, List, [], ◌∷◌, length, get_or, refl, sym, ap, ◌∙◌, subst, inl, inr, arith}
use Rattle.std.specs.Prelude.{◌==◌, ◌&&◌, not, Option}
use Rattle.std.specs.List.{All}
use Rattle.std.proofs.lemmas.Bool.{cases_Bool}
use Rattle.std.proofs.lemmas.List.Elements.{All-from_get_or}
use Rattle.h5w_model.specs.Numbers.{undefined}
use Rattle.h5w_model.specs.Findings.{Used}
use Rattle.h5w_model.specs.declared.piece.Write.{Write}
use Rattle.h5w_space.specs.Space.{Space, IsLive, Apart, extent, TakesFree, TakesEnd}
use Rattle.h5w_space.specs.declared.Extent.{Extent}
use Rattle.h5w_space.proofs.Sound.{Apart-sym}
use Rattle.h5w_cache.specs.Blocks.{BlockView}
use Rattle.h5w_cache.specs.Stores.{Store, place_in}
use Rattle.h5w_cache.specs.Plans.{IsPlan, IsMove, AreMoves, Placed, Took, stays}
use Rattle.h5w_cache.specs.StoreLaws.{IsLeft, IsPlaced, Standing, range_of}
use Rattle.h5w_cache.specs.declared.moves.Move.{Move}
use Rattle.h5w_cache.proofs.MoveLemmas.{Apart-sides, move_live, moves_live, placed_retired, retired_live, took_of}
use Rattle.h5w_cache.proofs.FinishLemmas.{retired_end}
use Rattle.h5w_cache.proofs.LawLemmas.{no_move}
use Rattle.h5w_step_laws.specs.Ranges.{Among, AllEndBy, AllSome, AreApart, Disjoint, block_at}
use Rattle.h5w_array_laws.specs.ArrayPlans.{fresh, extent_of}
use Rattle.h5w_array_laws.proofs.StoreLemmas.{move_at}

-- ---- One move

pub moves_on : (b : Bool) (old : ℕ) → b ≡ false → stays b old ≡ false
moves_on b old e = ap (λ c. c && not (old == undefined)) e

pub took : (blocks : List (Option BlockView)) (places : List ℕ) (s : Space) (m : Move) (t : Space) → IsMove blocks places s m t → m.in_place ≡ false → Took s t (extent m.new m.len)
took blocks places s m t step e = took_of blocks places s m t step (moves_on m.in_place m.old e)

pub fresh_in_place : (m : Move) (ms : List Move) → m.in_place ≡ true → fresh (m ∷ ms) ≡ fresh ms
fresh_in_place m ms e = ap (λ c. cond c (fresh ms) (block_at m.new m.len ∷ fresh ms)) e

pub fresh_copy : (m : Move) (ms : List Move) → m.in_place ≡ false → fresh (m ∷ ms) ≡ block_at m.new m.len ∷ fresh ms
fresh_copy m ms e = ap (λ c. cond c (fresh ms) (block_at m.new m.len ∷ fresh ms)) e

-- and that of each copy is one
pub fresh_has : (ms : List Move) (i : ℕ) → i < length ms → (get_or ms i no_move).in_place ≡ false → Among (block_at (get_or ms i no_move).new (get_or ms i no_move).len) (fresh ms)
fresh_has [] i lt e = absurd (omega arith)
fresh_has (m ∷ ms) zero lt e = subst (λ (us : List Used). Among (block_at m.new m.len) us) (sym (fresh_copy m ms e)) (inl refl)
fresh_has (m ∷ ms) (suc i) lt e = go (cases_Bool m.in_place) (fresh_has ms i (omega arith) e)
  where
    go : (m.in_place ≡ true) ⊎ (m.in_place ≡ false) → Among (block_at (get_or ms i no_move).new (get_or ms i no_move).len) (fresh ms) → Among (block_at (get_or ms i no_move).new (get_or ms i no_move).len) (fresh (m ∷ ms))
    go (inl h) later = subst (λ (us : List Used). Among (block_at (get_or ms i no_move).new (get_or ms i no_move).len) us) (sym (fresh_in_place m ms h)) later
    go (inr h) later = subst (λ (us : List Used). Among (block_at (get_or ms i no_move).new (get_or ms i no_move).len) us) (sym (fresh_copy m ms h)) (inr later)

-- ---- Off what was there

pub off_live_from : (blocks : List (Option BlockView)) (places : List ℕ) (s : Space) (ms : List Move) (t : Space) → AreMoves blocks places s ms t → (x : Extent) → IsLive s x → (u : Used) → Among u (fresh ms) → Apart (extent_of u) x
off_live_from blocks places s [] t h x live u a = absurd a
off_live_from blocks places s (m ∷ ms) t h x live u a = go (cases_Bool m.in_place) (off_live_from blocks places h.0 ms t h.2 x (move_live blocks places s m h.0 x h.1 live) u)
  where
    own : Took s h.0 (extent m.new m.len) → Among u (block_at m.new m.len ∷ fresh ms) → (Among u (fresh ms) → Apart (extent_of u) x) → Apart (extent_of u) x
    own k (inl e) later = subst (λ (y : Used). Apart (extent_of y) x) e (k.off_live x live)
    own k (inr b) later = later b

    go : (m.in_place ≡ true) ⊎ (m.in_place ≡ false) → (Among u (fresh ms) → Apart (extent_of u) x) → Apart (extent_of u) x
    go (inl e) later = later (subst (λ (us : List Used). Among u us) (fresh_in_place m ms e) a)
    go (inr e) later = own (took blocks places s m h.0 h.1 e) (subst (λ (us : List Used). Among u us) (fresh_copy m ms e) a) later

pub off_retired_from : (blocks : List (Option BlockView)) (places : List ℕ) (s : Space) (ms : List Move) (t : Space) → AreMoves blocks places s ms t → (u : Used) → Among u (fresh ms) → All (Apart (extent_of u)) s.retired
off_retired_from blocks places s [] t h u a = absurd a
off_retired_from blocks places s (m ∷ ms) t h u a = go (cases_Bool m.in_place) (λ b. subst (All (Apart (extent_of u))) (placed_retired (stays m.in_place m.old) m.old m.len s h.0 m.new (h.1).step) (off_retired_from blocks places h.0 ms t h.2 u b))
  where
    own : Took s h.0 (extent m.new m.len) → Among u (block_at m.new m.len ∷ fresh ms) → (Among u (fresh ms) → All (Apart (extent_of u)) s.retired) → All (Apart (extent_of u)) s.retired
    own k (inl e) later = subst (λ (y : Used). All (Apart (extent_of y)) s.retired) e k.off_retired
    own k (inr b) later = later b

    go : (m.in_place ≡ true) ⊎ (m.in_place ≡ false) → (Among u (fresh ms) → All (Apart (extent_of u)) s.retired) → All (Apart (extent_of u)) s.retired
    go (inl e) later = later (subst (λ (us : List Used). Among u us) (fresh_in_place m ms e) a)
    go (inr e) later = own (took blocks places s m h.0 h.1 e) (subst (λ (us : List Used). Among u us) (fresh_copy m ms e) a) later

-- none is empty
pub fresh_some : (blocks : List (Option BlockView)) (places : List ℕ) (s : Space) (ms : List Move) (t : Space) → AreMoves blocks places s ms t → AllSome (fresh ms)
fresh_some blocks places s [] t h u a = absurd a
fresh_some blocks places s (m ∷ ms) t h u a = go (cases_Bool m.in_place) (fresh_some blocks places h.0 ms t h.2 u)
  where
    own : 0 < m.len → Among u (block_at m.new m.len ∷ fresh ms) → (Among u (fresh ms) → 0 < u.len) → 0 < u.len
    own k (inl e) later = subst (λ (y : Used). 0 < y.len) e k
    own k (inr b) later = later b

    go : (m.in_place ≡ true) ⊎ (m.in_place ≡ false) → (Among u (fresh ms) → 0 < u.len) → 0 < u.len
    go (inl e) later = later (subst (λ (us : List Used). Among u us) (fresh_in_place m ms e) a)
    go (inr e) later = own (h.1).some (subst (λ (us : List Used). Among u us) (fresh_copy m ms e) a) later

-- none meets another
pub fresh_disjoint : (blocks : List (Option BlockView)) (places : List ℕ) (s : Space) (ms : List Move) (t : Space) → AreMoves blocks places s ms t → Disjoint (fresh ms)
fresh_disjoint blocks places s [] t h = tt
fresh_disjoint blocks places s (m ∷ ms) t h = go (cases_Bool m.in_place) (fresh_disjoint blocks places h.0 ms t h.2)
  where
    apart : Took s h.0 (extent m.new m.len) → (u : Used) → Among u (fresh ms) → AreApart (block_at m.new m.len) u
    apart k u a =
        Apart-sides (extent m.new m.len) (extent_of u) (h.1).some (fresh_some blocks places h.0 ms t h.2 u a)
        (Apart-sym (extent_of u) (extent m.new m.len) (off_live_from blocks places h.0 ms t h.2 (extent m.new m.len) k.live u a))

    go : (m.in_place ≡ true) ⊎ (m.in_place ≡ false) → Disjoint (fresh ms) → Disjoint (fresh (m ∷ ms))
    go (inl e) later = subst (λ (us : List Used). Disjoint us) (sym (fresh_in_place m ms e)) later
    go (inr e) later = subst (λ (us : List Used). Disjoint us) (sym (fresh_copy m ms e)) ((h.1).some, apart (took blocks places s m h.0 h.1 e), later)

-- ---- Live afterwards

pub fresh_live : (blocks : List (Option BlockView)) (places : List ℕ) (s : Space) (ms : List Move) (t : Space) → AreMoves blocks places s ms t → (u : Used) → Among u (fresh ms) → IsLive t (extent_of u)
fresh_live blocks places s [] t h u a = absurd a
fresh_live blocks places s (m ∷ ms) t h u a = go (cases_Bool m.in_place) (fresh_live blocks places h.0 ms t h.2 u)
  where
    own : Took s h.0 (extent m.new m.len) → Among u (block_at m.new m.len ∷ fresh ms) → (Among u (fresh ms) → IsLive t (extent_of u)) → IsLive t (extent_of u)
    own k (inl e) later = subst (λ (y : Used). IsLive t (extent_of y)) e (moves_live blocks places h.0 ms t (extent m.new m.len) h.2 k.live)
    own k (inr b) later = later b

    go : (m.in_place ≡ true) ⊎ (m.in_place ≡ false) → (Among u (fresh ms) → IsLive t (extent_of u)) → IsLive t (extent_of u)
    go (inl e) later = later (subst (λ (us : List Used). Among u us) (fresh_in_place m ms e) a)
    go (inr e) later = own (took blocks places s m h.0 h.1 e) (subst (λ (us : List Used). Among u us) (fresh_copy m ms e) a) later

-- ---- Where the file ends

pub took_end : (s t : Space) (r : Extent) → Took s t r → s.end ≤ t.end
took_end s t r k = go k.takes.by
  where
    go : TakesFree s t r ⊎ TakesEnd s t r → s.end ≤ t.end
    go (inl f) = omega (arith, f.end)
    go (inr f) = omega (arith, f.end)

pub placed_end : (b : Bool) (old len : ℕ) (s t : Space) (new : ℕ) → Placed b old len s t new → s.end ≤ t.end
placed_end true old len s t new p = omega (arith, ap (λ (q : Space). q.end) (p.1))
placed_end false old len s t new p = took_end s t (extent new len) p

pub moves_end : (blocks : List (Option BlockView)) (places : List ℕ) (s : Space) (ms : List Move) (t : Space) → AreMoves blocks places s ms t → s.end ≤ t.end
moves_end blocks places s [] t h = omega (arith, ap (λ (q : Space). q.end) h)
moves_end blocks places s (m ∷ ms) t h =
    let first = placed_end (stays m.in_place m.old) m.old m.len s h.0 m.new (h.1).step in
    let rest = moves_end blocks places h.0 ms t h.2 in
    omega (arith, first, rest)

-- ---- A plan

module _ (v : Store) (s : Space) (ms : List Move) (cs fs : List Write) (w : Store) (t : Space) (p : IsPlan v s ms cs fs w t) where
  pub end_is : t.end ≡ p.taken.taken.end
  end_is = retired_end p.roomy ms t p.retired ∙ ap (λ (q : Space). q.end) p.taken.roomy

  pub end_rises : s.end ≤ t.end
  end_rises = omega (arith, end_is, moves_end v.blocks v.places s ms p.taken.taken p.taken.moves)

  pub plan_off_live : (u : Used) → Among u (fresh ms) → (x : Extent) → IsLive s x → Apart (extent_of u) x
  plan_off_live u a x live = off_live_from v.blocks v.places s ms p.taken.taken p.taken.moves x live u a

  pub plan_off_retired : (u : Used) → Among u (fresh ms) → All (Apart (extent_of u)) s.retired
  plan_off_retired u a = off_retired_from v.blocks v.places s ms p.taken.taken p.taken.moves u a

  pub plan_disjoint : Disjoint (fresh ms)
  plan_disjoint = fresh_disjoint v.blocks v.places s ms p.taken.taken p.taken.moves

  pub plan_ends : AllEndBy t.end (fresh ms)
  plan_ends u a = omega (arith, (fresh_live v.blocks v.places s ms p.taken.taken p.taken.moves u a).within, end_is)

  -- the range that a block left
  pub left_placed : (i : ℕ) → i < length ms → IsLeft (get_or ms i no_move) → IsPlaced v (get_or ms i no_move).number
  left_placed i lt left = let a = move_at v s ms cs fs w t p i lt in record { kept = a.step.kept; placed = λ u. left.0 (a.step.old ∙ u) }

  pub old_range : (i : ℕ) → i < length ms → extent (get_or ms i no_move).old (get_or ms i no_move).len ≡ range_of v (get_or ms i no_move).number
  old_range i lt =
      let a = move_at v s ms cs fs w t p i lt in
      ap (λ k. extent k (get_or ms i no_move).len) a.step.old ∙ ap (λ k. extent (place_in v.places (get_or ms i no_move).number) k) a.step.len

  pub plan_live : Standing v s → (u : Used) → Among u (fresh ms) → IsLive t (extent_of u)
  plan_live st u a =
      let l = fresh_live v.blocks v.places s ms p.taken.taken p.taken.moves u a in
      let roomy : IsLive p.roomy (extent_of u) = subst (λ (q : Space). IsLive q (extent_of u)) (sym p.taken.roomy) (record { within = l.within; off_free = l.off_free; off_retired = l.off_retired }) in
      retired_live p.roomy ms t (extent_of u) p.retired roomy
      (All-from_get_or (λ (m : Move). IsLeft m → Apart (extent_of u) (extent m.old m.len)) ms no_move
      (λ i lt left. subst (λ (r : Extent). Apart (extent_of u) r) (sym (old_range i lt)) (plan_off_live u a (range_of v (get_or ms i no_move).number) (st.live (get_or ms i no_move).number (left_placed i lt left)))))
