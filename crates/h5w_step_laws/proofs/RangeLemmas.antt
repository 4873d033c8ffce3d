-- Ranges, one of others, within an end, and what is visited in them.
use Rattle.std.proofs.Common.{◌≡◌, ◌⊎◌, ℕ, ◌+◌, ◌<◌, ◌≤◌, List, [], ◌∷◌, ◌++◌, length, refl, ap, subst, inl, inr, arith}
use Rattle.h5w_model.specs.Numbers.{range}
use Rattle.h5w_model.specs.Images.{apply}
use Rattle.h5w_model.specs.Programs.{Visit}
use Rattle.h5w_model.specs.Findings.{Used}
use Rattle.h5w_model.specs.declared.piece.Write.{Write}
use Rattle.h5w_model.proofs.ImageLemmas.{range-apply_missed, Apart-part}
use Rattle.h5w_step_laws.specs.Ranges.{Among, AllAmong, AllEndBy, AllSome, Covers, AllWithin, MissesBlocks, MissedStay, blocks_of, block_at}

-- ---- One of the ranges

pub among_left : (u : Used) (us vs : List Used) → Among u us → Among u (us ++ vs)
among_left u [] vs h = absurd h
among_left u (x ∷ us) vs (inl e) = inl e
among_left u (x ∷ us) vs (inr h) = inr (among_left u us vs h)

pub among_right : (u : Used) (us vs : List Used) → Among u vs → Among u (us ++ vs)
among_right u [] vs h = h
among_right u (x ∷ us) vs h = inr (among_right u us vs h)

pub among_split : (u : Used) (us vs : List Used) → Among u (us ++ vs) → Among u us ⊎ Among u vs
among_split u [] vs h = inr h
among_split u (x ∷ us) vs (inl e) = inl (inl e)
among_split u (x ∷ us) vs (inr h) = go (among_split u us vs h)
  where
    go : Among u us ⊎ Among u vs → Among u (x ∷ us) ⊎ Among u vs
    go (inl a) = inl (inr a)
    go (inr b) = inr b

-- ---- Within an end, and not empty

pub ends_nil : (end : ℕ) → AllEndBy end []
ends_nil end u h = absurd h

pub ends_cons : (end : ℕ) (u : Used) (us : List Used) → u.place + u.len ≤ end → AllEndBy end us → AllEndBy end (u ∷ us)
ends_cons end u us h g v (inl e) = subst (λ (x : Used). x.place + x.len ≤ end) e h
ends_cons end u us h g v (inr a) = g v a

pub ends_joined : (end : ℕ) (us vs : List Used) → AllEndBy end us → AllEndBy end vs → AllEndBy end (us ++ vs)
ends_joined end us vs h g u a = go (among_split u us vs a)
  where
    go : Among u us ⊎ Among u vs → u.place + u.len ≤ end
    go (inl b) = h u b
    go (inr b) = g u b

pub ends_left : (end : ℕ) (us vs : List Used) → AllEndBy end (us ++ vs) → AllEndBy end us
ends_left end us vs h u a = h u (among_left u us vs a)

pub ends_right : (end : ℕ) (us vs : List Used) → AllEndBy end (us ++ vs) → AllEndBy end vs
ends_right end us vs h u a = h u (among_right u us vs a)

pub ends_later : (end more : ℕ) (us : List Used) → end ≤ more → AllEndBy end us → AllEndBy more us
ends_later end more us low h u a = omega (arith, h u a, low)

pub some_nil : AllSome []
some_nil u h = absurd h

pub some_cons : (u : Used) (us : List Used) → 0 < u.len → AllSome us → AllSome (u ∷ us)
some_cons u us h g v (inl e) = subst (λ (x : Used). 0 < x.len) e h
some_cons u us h g v (inr a) = g v a

pub some_joined : (us vs : List Used) → AllSome us → AllSome vs → AllSome (us ++ vs)
some_joined us vs h g u a = go (among_split u us vs a)
  where
    go : Among u us ⊎ Among u vs → 0 < u.len
    go (inl b) = h u b
    go (inr b) = g u b

-- ---- What is visited

pub covers_more : (us ws : List Used) (v : Visit) → AllAmong us ws → Covers us v → Covers ws v
covers_more us ws v more c = record { used = c.used; among = more c.used c.among; block = c.block; from = c.from; to = c.to }

pub within_more : (us ws : List Used) (vs : List Visit) → AllAmong us ws → AllWithin us vs → AllWithin ws vs
within_more us ws [] more h = tt
within_more us ws (v ∷ vs) more h = (covers_more us ws v more h.0, within_more us ws vs more h.1)

pub within_joined : (us : List Used) (vs ws : List Visit) → AllWithin us vs → AllWithin us ws → AllWithin us (vs ++ ws)
within_joined us [] ws h g = g
within_joined us (v ∷ vs) ws h g = (h.0, within_joined us vs ws h.1 g)

-- some visits lie in their own blocks
pub within_own : (vs : List Visit) → AllWithin (blocks_of vs) vs
within_own [] = tt
within_own (v ∷ vs) =
    let own : Used = block_at v.place v.len in (
      record { used = own; among = inl refl; block = refl; from = omega arith; to = omega arith },
      within_more (blocks_of vs) (own ∷ blocks_of vs) vs (λ u a. inr a) (within_own vs),
    )

-- ---- A write that misses

pub covered_missed : (w : Write) (img : List ℕ) (end : ℕ) (us : List Used) (v : Visit) → end ≤ length img → AllEndBy end us → Covers us v → MissesBlocks w us
    → range (apply w img) v.place v.len ≡ range img v.place v.len
covered_missed w img end us v inside ends c misses =
    let u = c.used in
    let from = c.from in
    let to = c.to in
    let last = ends u c.among in
    range-apply_missed w img v.place v.len
    (Apart-part w.at (length w.piece) u.place u.len w.at (length w.piece) v.place v.len (omega arith) (omega arith) from to (misses u c.among c.block))
    (omega arith)

pub missed_stay : MissedStay
missed_stay w img end us [] inside ends within misses = tt
missed_stay w img end us (v ∷ vs) inside ends within misses =
    (ap v.counts (covered_missed w img end us v inside ends within.0 misses), missed_stay w img end us vs inside ends within.1 misses)
