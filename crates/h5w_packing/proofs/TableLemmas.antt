-- The chunks of a table in their new places: their ranges stand one behind the other, and each has its own.
use Rattle.std.proofs.Common.{◌≡◌, ◌≢◌, ◌⊎◌, ℕ, zero, suc, ◌+◌, ◌<◌, ◌≤◌, ◌^◌, List, [], ◌∷◌, get_or, length, refl, sym, ◌∙◌, ap, subst, inl, inr, arith}
use Rattle.std.specs.Prelude.{◌==◌, map}
use Rattle.std.specs.List.{All}
use Rattle.std.proofs.lemmas.Bool.{cond-false, cond-true, eq-eqb, ne_eqb}
use Rattle.std.proofs.lemmas.Bool.Decides.{eqb_tells}
use Rattle.std.proofs.lemmas.List.Elements.{All-cons, All-nil}
use Rattle.h5w_model.specs.Numbers.{range, undefined}
use Rattle.h5w_model.specs.Images.{At, Holds}
use Rattle.h5w_model.specs.Findings.{Used}
use Rattle.h5w_step_laws.specs.Ranges.{chunk_at}
use Rattle.h5w_array_laws.specs.ArrayStores.{chunks_in}
use Rattle.h5w_array_laws.proofs.AmongLemmas.{chunks_some, chunks_undefined}
use Rattle.h5w_packing_laws.specs.Growing.{RangesFrom}
use Rattle.h5w_packing_laws.proofs.MapLemmas.{Tells}
use Rattle.h5w_packing.specs.Jobs.{EndsLow}
use Rattle.h5w_packing.specs.Plans.{chunks_end, copied_from, packed_table}
use Rattle.h5w_packing.specs.declared.job.Copied.{Copied}

-- ---- One chunk and the others

module _ (bytes at a : ℕ) (rest : List ℕ) where
  pub table_absent : a ≡ undefined → packed_table bytes at (a ∷ rest) ≡ undefined ∷ packed_table bytes at rest
  table_absent e = cond-true (a == undefined) _ _ (eq-eqb a undefined e)

  pub table_there : a ≢ undefined → packed_table bytes at (a ∷ rest) ≡ at ∷ packed_table bytes (at + bytes) rest
  table_there n = cond-false (a == undefined) _ _ (ne_eqb a undefined n)

  pub copied_absent : a ≡ undefined → copied_from bytes at (a ∷ rest) ≡ copied_from bytes at rest
  copied_absent e = cond-true (a == undefined) _ _ (eq-eqb a undefined e)

  pub copied_there : a ≢ undefined → copied_from bytes at (a ∷ rest) ≡ record { from = a; to = at; len = bytes } ∷ copied_from bytes (at + bytes) rest
  copied_there n = cond-false (a == undefined) _ _ (ne_eqb a undefined n)

  pub end_absent : a ≡ undefined → chunks_end bytes at (a ∷ rest) ≡ chunks_end bytes at rest
  end_absent e = cond-true (a == undefined) _ _ (eq-eqb a undefined e)

  pub end_there : a ≢ undefined → chunks_end bytes at (a ∷ rest) ≡ chunks_end bytes (at + bytes) rest
  end_there n = cond-false (a == undefined) _ _ (ne_eqb a undefined n)

-- ---- The table

pub table_long : (bytes at : ℕ) (table : List ℕ) → length (packed_table bytes at table) ≡ length table
table_long bytes at [] = refl
table_long bytes at (a ∷ rest) = go (eqb_tells a undefined) (λ place. table_long bytes place rest)
  where
    go : Tells a → ((place : ℕ) → length (packed_table bytes place rest) ≡ length rest) → length (packed_table bytes at (a ∷ rest)) ≡ suc (length rest)
    go (inl e) later = ap length (table_absent bytes at a rest e.1) ∙ ap suc (later at)
    go (inr n) later = ap length (table_there bytes at a rest n.1) ∙ ap suc (later (at + bytes))

pub end_rises : (bytes at : ℕ) (table : List ℕ) → at ≤ chunks_end bytes at table
end_rises bytes at [] = omega arith
end_rises bytes at (a ∷ rest) = go (eqb_tells a undefined) (λ place. end_rises bytes place rest)
  where
    go : Tells a → ((place : ℕ) → place ≤ chunks_end bytes place rest) → at ≤ chunks_end bytes at (a ∷ rest)
    go (inl e) later = omega (arith, end_absent bytes at a rest e.1, later at)
    go (inr n) later = omega (arith, end_there bytes at a rest n.1, later (at + bytes))

-- absent ones stay absent
pub stays_absent : (bytes at : ℕ) (table : List ℕ) (n : ℕ) → get_or table n undefined ≡ undefined → get_or (packed_table bytes at table) n undefined ≡ undefined
stays_absent bytes at [] n h = refl
stays_absent bytes at (a ∷ rest) zero h = ap (λ (l : List ℕ). get_or l zero undefined) (table_absent bytes at a rest h)
stays_absent bytes at (a ∷ rest) (suc n) h = go (eqb_tells a undefined) (λ place. stays_absent bytes place rest n h)
  where
    go : Tells a → ((place : ℕ) → get_or (packed_table bytes place rest) n undefined ≡ undefined) → get_or (packed_table bytes at (a ∷ rest)) (suc n) undefined ≡ undefined
    go (inl e) later = ap (λ (l : List ℕ). get_or l (suc n) undefined) (table_absent bytes at a rest e.1) ∙ later at
    go (inr m) later = ap (λ (l : List ℕ). get_or l (suc n) undefined) (table_there bytes at a rest m.1) ∙ later (at + bytes)

-- each other one ends by the end
pub table_within : (bytes at : ℕ) (table : List ℕ) (n : ℕ) → get_or table n undefined ≢ undefined → get_or (packed_table bytes at table) n undefined + bytes ≤ chunks_end bytes at table
table_within bytes at [] n h = absurd (h refl)
table_within bytes at (a ∷ rest) zero h =
    omega (arith, ap (λ (l : List ℕ). get_or l zero undefined) (table_there bytes at a rest h), end_there bytes at a rest h, end_rises bytes (at + bytes) rest)
table_within bytes at (a ∷ rest) (suc n) h = go (eqb_tells a undefined) (λ place. table_within bytes place rest n h)
  where
    go : Tells a → ((place : ℕ) → get_or (packed_table bytes place rest) n undefined + bytes ≤ chunks_end bytes place rest) → get_or (packed_table bytes at (a ∷ rest)) (suc n) undefined + bytes ≤ chunks_end bytes at (a ∷ rest)
    go (inl e) later = omega (arith, ap (λ (l : List ℕ). get_or l (suc n) undefined) (table_absent bytes at a rest e.1), end_absent bytes at a rest e.1, later at)
    go (inr m) later = omega (arith, ap (λ (l : List ℕ). get_or l (suc n) undefined) (table_there bytes at a rest m.1), end_there bytes at a rest m.1, later (at + bytes))

-- ---- The ranges

pub chunks_from : (bytes at : ℕ) (table : List ℕ) → 0 < bytes → chunks_end bytes at table < undefined → RangesFrom at (chunks_in bytes (packed_table bytes at table)) (chunks_end bytes at table)
chunks_from bytes at [] some low = refl
chunks_from bytes at (a ∷ rest) some low = go (eqb_tells a undefined) (λ place high. chunks_from bytes place rest some high)
  where
    go : Tells a → ((place : ℕ) → chunks_end bytes place rest < undefined → RangesFrom place (chunks_in bytes (packed_table bytes place rest)) (chunks_end bytes place rest)) → RangesFrom at (chunks_in bytes (packed_table bytes at (a ∷ rest))) (chunks_end bytes at (a ∷ rest))
    go (inl e) later =
        let same : chunks_in bytes (packed_table bytes at (a ∷ rest)) ≡ chunks_in bytes (packed_table bytes at rest) =
        ap (chunks_in bytes) (table_absent bytes at a rest e.1) ∙ chunks_undefined bytes undefined (packed_table bytes at rest) refl in
        let others = later at (omega (arith, low, end_absent bytes at a rest e.1)) in
        subst (λ n. RangesFrom at (chunks_in bytes (packed_table bytes at (a ∷ rest))) n) (sym (end_absent bytes at a rest e.1))
        (subst (λ (us : List Used). RangesFrom at us (chunks_end bytes at rest)) (sym same) others)
    go (inr n) later =
        let high : chunks_end bytes (at + bytes) rest < undefined = omega (arith, low, end_there bytes at a rest n.1) in
        let here : at ≢ undefined = λ e. absurd (omega (arith, e, high, end_rises bytes (at + bytes) rest)) in
        let same : chunks_in bytes (packed_table bytes at (a ∷ rest)) ≡ chunk_at at bytes ∷ chunks_in bytes (packed_table bytes (at + bytes) rest) =
        ap (chunks_in bytes) (table_there bytes at a rest n.1) ∙ chunks_some bytes at (packed_table bytes (at + bytes) rest) here in
        let others : RangesFrom at (chunk_at at bytes ∷ chunks_in bytes (packed_table bytes (at + bytes) rest)) (chunks_end bytes (at + bytes) rest) = (refl, later (at + bytes) high) in
        subst (λ n. RangesFrom at (chunks_in bytes (packed_table bytes at (a ∷ rest))) n) (sym (end_there bytes at a rest n.1))
        (subst (λ (us : List Used). RangesFrom at us (chunks_end bytes (at + bytes) rest)) (sym same) others)

-- ---- The copies

-- each ends by the end, from a place on
pub record IsBetween (from end : ℕ) (c : Copied) : Type 0 where
  pub low : from ≤ c.to
  pub high : c.to + c.len ≤ end

pub copied_between : (bytes from at : ℕ) (table : List ℕ) → from ≤ at → All (IsBetween from (chunks_end bytes at table)) (copied_from bytes at table)
copied_between bytes from at [] h = All-nil (IsBetween from at)
copied_between bytes from at (a ∷ rest) h = go (eqb_tells a undefined) (λ place low. copied_between bytes from place rest low)
  where
    go : Tells a → ((place : ℕ) → from ≤ place → All (IsBetween from (chunks_end bytes place rest)) (copied_from bytes place rest)) → All (IsBetween from (chunks_end bytes at (a ∷ rest))) (copied_from bytes at (a ∷ rest))
    go (inl e) later =
        subst (λ n. All (IsBetween from n) (copied_from bytes at (a ∷ rest))) (sym (end_absent bytes at a rest e.1))
        (subst (λ (cs : List Copied). All (IsBetween from (chunks_end bytes at rest)) cs) (sym (copied_absent bytes at a rest e.1)) (later at h))
    go (inr n) later =
        let end : ℕ = chunks_end bytes (at + bytes) rest in
        let one : IsBetween from end (record { from = a; to = at; len = bytes }) = record { low = h; high = end_rises bytes (at + bytes) rest } in
        subst (λ n. All (IsBetween from n) (copied_from bytes at (a ∷ rest))) (sym (end_there bytes at a rest n.1))
        (subst (λ (cs : List Copied). All (IsBetween from end) cs) (sym (copied_there bytes at a rest n.1))
        (All-cons (IsBetween from end) (record { from = a; to = at; len = bytes }) (copied_from bytes (at + bytes) rest) one (later (at + bytes) (omega (arith, h)))))

pub copied_low : (bytes at : ℕ) (table : List ℕ) → 0 < bytes → chunks_end bytes at table ≤ 2 ^ 40 → All EndsLow (copied_from bytes at table)
copied_low bytes at [] some low = All-nil EndsLow
copied_low bytes at (a ∷ rest) some low = go (eqb_tells a undefined) (λ place high. copied_low bytes place rest some high)
  where
    go : Tells a → ((place : ℕ) → chunks_end bytes place rest ≤ 2 ^ 40 → All EndsLow (copied_from bytes place rest)) → All EndsLow (copied_from bytes at (a ∷ rest))
    go (inl e) later = subst (λ (cs : List Copied). All EndsLow cs) (sym (copied_absent bytes at a rest e.1)) (later at (omega (arith, low, end_absent bytes at a rest e.1)))
    go (inr n) later =
        let end : chunks_end bytes (at + bytes) rest ≤ 2 ^ 40 = omega (arith, low, end_there bytes at a rest n.1) in
        subst (λ (cs : List Copied). All EndsLow cs) (sym (copied_there bytes at a rest n.1))
        (All-cons EndsLow (record { from = a; to = at; len = bytes }) (copied_from bytes (at + bytes) rest) (record { some = some; low = omega (arith, end, end_rises bytes (at + bytes) rest) }) (later (at + bytes) end))

-- what stands of a chunk in the source
pub record StandsIn (img : List ℕ) (c : Copied) : Type 0 where
  pub inside : c.from + c.len ≤ length img

pub copied_inside : (bytes : ℕ) (img : List ℕ) (at : ℕ) (table : List ℕ) → ((n : ℕ) → get_or table n undefined ≢ undefined → get_or table n undefined + bytes ≤ length img) → All (StandsIn img) (copied_from bytes at table)
copied_inside bytes img at [] h = All-nil (StandsIn img)
copied_inside bytes img at (a ∷ rest) h = go (eqb_tells a undefined) (λ place. copied_inside bytes img place rest (λ n. h (suc n)))
  where
    go : Tells a → ((place : ℕ) → All (StandsIn img) (copied_from bytes place rest)) → All (StandsIn img) (copied_from bytes at (a ∷ rest))
    go (inl e) later = subst (λ (cs : List Copied). All (StandsIn img) cs) (sym (copied_absent bytes at a rest e.1)) (later at)
    go (inr n) later =
        subst (λ (cs : List Copied). All (StandsIn img) cs) (sym (copied_there bytes at a rest n.1))
        (All-cons (StandsIn img) (record { from = a; to = at; len = bytes }) (copied_from bytes (at + bytes) rest) (record { inside = h 0 n.1 }) (later (at + bytes)))

-- the blocks that they make
abbrev pub chunk_blocks : List ℕ → List Copied → List (ℕ × List ℕ)
chunk_blocks img cs = map (λ (c : Copied). (c.to, range img c.from c.len)) cs

-- where they stand each chunk's bytes do at its new place
pub chunk_stands : (bytes : ℕ) (img to : List ℕ) (at : ℕ) (table : List ℕ) (n : ℕ) → Holds to (chunk_blocks img (copied_from bytes at table)) → get_or table n undefined ≢ undefined
    → At to (get_or (packed_table bytes at table) n undefined) (range img (get_or table n undefined) bytes)
chunk_stands bytes img to at [] n holds h = absurd (h refl)
chunk_stands bytes img to at (a ∷ rest) zero holds h =
    let all : Holds to (chunk_blocks img (record { from = a; to = at; len = bytes } ∷ copied_from bytes (at + bytes) rest)) = subst (λ (cs : List Copied). Holds to (chunk_blocks img cs)) (copied_there bytes at a rest h) holds in
    subst (λ (l : List ℕ). At to (get_or l zero undefined) (range img a bytes)) (sym (table_there bytes at a rest h)) all.0
chunk_stands bytes img to at (a ∷ rest) (suc n) holds h = go (eqb_tells a undefined) (λ place all. chunk_stands bytes img to place rest n all h)
  where
    go : Tells a → ((place : ℕ) → Holds to (chunk_blocks img (copied_from bytes place rest)) → At to (get_or (packed_table bytes place rest) n undefined) (range img (get_or rest n undefined) bytes)) → At to (get_or (packed_table bytes at (a ∷ rest)) (suc n) undefined) (range img (get_or rest n undefined) bytes)
    go (inl e) later =
        let all = subst (λ (cs : List Copied). Holds to (chunk_blocks img cs)) (copied_absent bytes at a rest e.1) holds in
        subst (λ (l : List ℕ). At to (get_or l (suc n) undefined) (range img (get_or rest n undefined) bytes)) (sym (table_absent bytes at a rest e.1)) (later at all)
    go (inr m) later =
        let all : Holds to (chunk_blocks img (record { from = a; to = at; len = bytes } ∷ copied_from bytes (at + bytes) rest)) = subst (λ (cs : List Copied). Holds to (chunk_blocks img cs)) (copied_there bytes at a rest m.1) holds in
        subst (λ (l : List ℕ). At to (get_or l (suc n) undefined) (range img (get_or rest n undefined) bytes)) (sym (table_there bytes at a rest m.1)) (later (at + bytes) all.1)
