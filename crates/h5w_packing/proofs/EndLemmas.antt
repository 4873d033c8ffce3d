-- Where blocks end that follow one another.
use Rattle.std.proofs.Common.{◌≡◌, ◌⊎◌, ℕ, zero, suc, ◌+◌, ◌-◌, ◌*◌, ◌/◌, ◌<◌, ◌≤◌, List, [], ◌∷◌, ◌++◌, length, length-drop, length-take, refl, ap, subst, inl, inr, arith, append-nil}
use Rattle.std.specs.Prelude.{drop, min, take}
use Rattle.std.specs.List.{All}
use Rattle.std.proofs.lemmas.List.Elements.{All-append, All-cons, All-head, All-nil, All-tail}
use Rattle.h5w_model.specs.Images.{Holds, first_pieces, pieces}
use Rattle.h5w_model.specs.Findings.{Used}
use Rattle.h5w_model.specs.declared.piece.Write.{Write}
use Rattle.h5w_model.proofs.ImageLemmas.{At-fits}
use Rattle.h5w_step_laws.specs.Ranges.{AllEndBy, Among, block_at}
use Rattle.h5w_flush_laws.specs.Parts.{block_ranges, block_writes}
use Rattle.h5w_packing_laws.specs.Growing.{RangesFrom}

-- a write is within some bytes
pub record IsWithin (from end : ℕ) (w : Write) : Type 0 where
  pub low : from ≤ w.at
  pub some : 1 ≤ length w.piece
  pub short : length w.piece ≤ 512
  pub high : w.at + length w.piece ≤ end

-- behind the first piece: none are left, or they stand behind it
first_within_more : (k place : ℕ) (bytes : List ℕ) (from end : ℕ) → 512 * suc k < length bytes + 512 → from ≤ place → place + length bytes ≤ end → length (drop 512 bytes) ≡ length bytes - 512
    → (512 * k < length (drop 512 bytes) + 512 → from ≤ place + 512 → place + 512 + length (drop 512 bytes) ≤ end → All (IsWithin from end) (first_pieces k (place + 512) (drop 512 bytes)))
    → All (IsWithin from end) (first_pieces k (place + 512) (drop 512 bytes))
unfolding first_pieces
first_within_more zero place bytes from end few low high rest later = All-nil (IsWithin from end)
first_within_more (suc k) place bytes from end few low high rest later = later (omega (arith, few, rest)) (omega (arith, low)) (omega (arith, rest, high, few))

first_within : (k place : ℕ) (bytes : List ℕ) (from end : ℕ) → 512 * k < length bytes + 512 → from ≤ place → place + length bytes ≤ end → All (IsWithin from end) (first_pieces k place bytes)
unfolding first_pieces
first_within zero place bytes from end few low high = All-nil (IsWithin from end)
first_within (suc k) place bytes from end few low high =
    let one : length (take 512 bytes) ≡ min 512 (length bytes) = length-take 512 bytes in
    let rest : length (drop 512 bytes) ≡ length bytes - 512 = length-drop 512 bytes in
    All-cons (IsWithin from end) (record { at = place; piece = take 512 bytes }) (first_pieces k (place + 512) (drop 512 bytes))
    (record { low = low; some = omega (arith, one, few); short = omega (arith, one); high = omega (arith, one, high) })
    (first_within_more k place bytes from end few low high rest (λ f l h. first_within k (place + 512) (drop 512 bytes) from end f l h))

pub pieces_within : (place : ℕ) (bytes : List ℕ) (from end : ℕ) → from ≤ place → place + length bytes ≤ end → All (IsWithin from end) (pieces place bytes)
unfolding pieces
pieces_within place bytes from end low high = first_within ((length bytes + 511) / 512) place bytes from end (omega arith) low high

-- blocks that stand from a place on and end by the end are written within these
pub blocks_within : (from end : ℕ) (bs : List (ℕ × List ℕ)) → ((u : Used) → Among u (block_ranges bs) → from ≤ u.place) → AllEndBy end (block_ranges bs) → All (IsWithin from end) (block_writes bs)
blocks_within from end [] low ends = All-nil (IsWithin from end)
blocks_within from end (b ∷ bs) low ends =
    All-append (IsWithin from end) (pieces b.0 b.1) (block_writes bs) (pieces_within b.0 b.1 from end (low (block_at b.0 (length b.1)) (inl refl)) (ends (block_at b.0 (length b.1)) (inl refl)))
    (blocks_within from end bs (λ u a. low u (inr a)) (λ u a. ends u (inr a)))

pub block_pieces_end : (end : ℕ) (bs : List (ℕ × List ℕ)) → AllEndBy end (block_ranges bs) → All (λ (w : Write). w.at + length w.piece ≤ end) (block_writes bs)
block_pieces_end end bs ends = ends_of (block_writes bs) (blocks_within 0 end bs (λ u a. omega arith) ends)
  where
    ends_of : (ws : List Write) → All (IsWithin 0 end) ws → All (λ (w : Write). w.at + length w.piece ≤ end) ws
    ends_of [] h = All-nil (λ (w : Write). w.at + length w.piece ≤ end)
    ends_of (w ∷ ws) h = All-cons (λ (w : Write). w.at + length w.piece ≤ end) w ws (All-head (IsWithin 0 end) w ws h).high (ends_of ws (All-tail (IsWithin 0 end) w ws h))

-- a block that stands ends within the image
pub blocks_end : (img : List ℕ) (bs : List (ℕ × List ℕ)) (u : Used) → Among u (block_ranges bs) → 0 < u.len → Holds img bs → u.place + u.len ≤ length img
blocks_end img [] u a some holds = absurd a
blocks_end img (b ∷ bs) u (inl e) some holds =
    let long : length b.1 ≡ u.len = ap (λ (y : Used). y.len) e in
    subst (λ (y : Used). y.place + y.len ≤ length img) e (At-fits img b.0 b.1 holds.0 (omega (arith, long, some)))
blocks_end img (b ∷ bs) u (inr a) some holds = blocks_end img bs u a some holds.1

-- ---- The last of some ranges

pub record HasLast (end : ℕ) (us : List Used) : Type 0 where
  pub used : Used
  pub among : Among used us
  pub ends : used.place + used.len ≡ end

pub last_one : (from end : ℕ) (u : Used) (us : List Used) → RangesFrom from (u ∷ us) end → HasLast end (u ∷ us)
last_one from end u [] h = record { used = u; among = inl refl; ends = omega (arith, h.0, h.1) }
last_one from end u (v ∷ us) h = let l = last_one (from + u.len) end v us h.1 in record { used = l.used; among = inr l.among; ends = l.ends }

-- it is one of the second ones, or where there is none of them one of the first
pub record LastOf (end : ℕ) (us vs : List Used) : Type 0 where
  pub used : Used
  pub which : Among used vs ⊎ ((vs ≡ []) × Among used us)
  pub ends : used.place + used.len ≡ end

behind_them : (from end : ℕ) (us vs : List Used) → RangesFrom from (us ++ vs) end → (middle : ℕ) × RangesFrom middle vs end
behind_them from end [] vs h = (from, h)
behind_them from end (u ∷ us) vs h = behind_them (from + u.len) end us vs h.1

pub last_of : (from end : ℕ) (us vs : List Used) → RangesFrom from (us ++ vs) end → 0 < length us → LastOf end us vs
last_of from end [] vs h some = absurd (omega (arith, some))
last_of from end (u ∷ us) [] h some =
    let l = last_one from end u us (subst (λ (ws : List Used). RangesFrom from ws end) (append-nil (u ∷ us)) h) in
    record { used = l.used; which = inr (refl, l.among); ends = l.ends }
last_of from end (u ∷ us) (v ∷ vs) h some =
    let b = behind_them from end (u ∷ us) (v ∷ vs) h in
    let l = last_one b.0 end v vs b.1 in
    record { used = l.used; which = inl l.among; ends = l.ends }
