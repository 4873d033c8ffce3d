-- Rows that all go into one chunk.
use Rattle.std.proofs.Common.{◌≡◌, ℕ, ◌-◌, ◌*◌, ◌/◌, ◌%◌, ◌<◌, ◌≤◌, nat_lt, Option, Some, None, sym, ap, ◌∙◌, inl, inr, arith}
use Rattle.std.specs.Option.{IfNone}
use Rattle.std.proofs.lemmas.Bool.{cases_lt, cond-false, le-ltb}
use Rattle.h5w_model.specs.Datasets.{Described}
use Rattle.h5w_model.specs.Logs.{div_up}
use Rattle.h5w_model.specs.Tables.{chunks_across}
use Rattle.h5w_chunks.specs.Grids.{IsCut}
use Rattle.h5w_chunks.specs.Shares.{share_of, touched}
use Rattle.h5w_chunks.proofs.Geometry.{lt_up, up_lt}
use Rattle.h5w_pieces.proofs.NextPlaces.{touched_is}

-- what holds anyway holds where there is none
pub on_none : {A P : Type 0} (o : Option A) → P → IfNone o P
on_none None p = p
on_none (Some x) p = tt

-- so many, of which a chunk has no fewer, have one chunk
pub one_part : (n part : ℕ) → 0 < part → 0 < n → n ≤ part → div_up n part ≡ 1
one_part n part some any few =
    let low = lt_up 0 n part some (omega arith) in
    elim (cases_lt 1 (div_up n part)) [
      | inl past ↦ absurd (omega (arith, up_lt 1 n part some past))
      | inr h ↦ omega (arith, low)
    ]

-- and the other way
pub part_of_one : (n part : ℕ) → 0 < part → div_up n part ≡ 1 → n ≤ part
part_of_one n part some is =
    elim (cases_lt part n) [
      | inl past ↦ absurd (omega (arith, lt_up 1 n part some (omega arith), is))
      | inr h ↦ h
    ]

-- a product that is one has no other factor
pub one_factor : (a b : ℕ) → a * b ≡ 1 → b ≡ 1
one_factor a b is = grind arith

pub one_across : (d : Described) (from to : ℕ) → touched d from to ≡ 1 → chunks_across d ≡ 1
one_across d from to all =
    elim (cases_lt from to) [
      | inl some ↦ one_factor (div_up to d.layout.chunk_rows - from / d.layout.chunk_rows) (chunks_across d) (sym (touched_is d from to some) ∙ all)
      | inr none ↦
          let zero : touched d from to ≡ 0 = cond-false (nat_lt from to) ((div_up to d.layout.chunk_rows - from / d.layout.chunk_rows) * chunks_across d) 0 (le-ltb from to none) in
          absurd (omega (arith, zero, all))
    ]

-- rows that go into one chunk have all columns there, and a chunk is no narrower
pub record AreAllIn (d : Described) (from to : ℕ) : Type 0 where
  pub columns : (share_of d from to 0).columns ≡ d.shape.cols
  pub narrow : d.shape.cols ≤ d.layout.chunk_cols

pub all_in : (d : Described) (from to : ℕ) → IsCut d → touched d from to ≡ 1 → AreAllIn d from to
all_in d from to cut all =
    let across = one_across d from to all in
    let narrow = part_of_one d.shape.cols d.layout.chunk_cols cut.cols across in
    let first : 0 % chunks_across d * d.layout.chunk_cols ≡ 0 = ap (λ (n : ℕ). 0 % n * d.layout.chunk_cols) across ∙ omega arith in
    record { columns = omega (arith, first, narrow); narrow = narrow }
