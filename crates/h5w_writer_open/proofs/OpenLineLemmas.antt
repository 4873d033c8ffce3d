-- The line of keys from which on an index is opened.
use Rattle.std.proofs.Common.{◌≡◌, ℕ, ◌+◌, ◌-◌, ◌*◌, ◌/◌, ◌<◌, ◌≤◌, ap, sym, ◌∙◌, subst, inl, inr, arith}
use Rattle.std.proofs.lemmas.Bool.{cases_lt}
use Rattle.std.proofs.lemmas.Nat.{le-div}
use Rattle.std.proofs.Math.Nat.{div-mul-le_self, mul-le-mul_right}
use Rattle.h5w_model.specs.Datasets.{Described}
use Rattle.h5w_model.specs.Tables.{bands, chunks_across, format_limits, limit_of, needed}
use Rattle.h5w_model.specs.declared.cell.IndexKind.TheVariants.{Array}
use Rattle.h5w_chunks.proofs.KeyLemmas.{array_line, first_line_grows}
use Rattle.h5w_chunks.specs.Shares.{first_line}
use Rattle.h5w_step_laws.proofs.MomentLemmas.{one_more}
use Rattle.h5w_writer.proofs.StateLemmas.{up_few}
use Rattle.h5w_writer.proofs.TakingLemmas.{limit_top}
use Rattle.h5w_writer_open.specs.OpenRanges.{HasFewChunks, first_open, first_open_line}

-- ---- The band of the last row

-- it is no later than that of the next row
open_first : (d : Described) → 0 < d.layout.chunk_rows → first_open d ≤ d.shape.rows / d.layout.chunk_rows
open_first d per =
    let r : ℕ = d.shape.rows in
    let q : ℕ = d.layout.chunk_rows in
    le-div ((r - 1) / q) r q per (omega (arith, div-mul-le_self (r - 1) q))

open_within : (d : Described) → 0 < d.layout.chunk_rows → first_open d ≤ bands d
open_within d per =
    let r : ℕ = d.shape.rows in
    let q : ℕ = d.layout.chunk_rows in
    le-div ((r - 1) / q) (r + q - 1) q per (omega (arith, div-mul-le_self (r - 1) q))

-- and is one of the bands where there are rows
open_next : (d : Described) → 0 < d.layout.chunk_rows → 0 < d.shape.rows → first_open d + 1 ≤ bands d
open_next d per some =
    let r : ℕ = d.shape.rows in
    let q : ℕ = d.layout.chunk_rows in
    le-div ((r - 1) / q + 1) (r + q - 1) q per (omega (arith, div-mul-le_self (r - 1) q, one_more ((r - 1) / q) q, some))

-- the chunks before it are fewer than any number that the needed ones are within
open_below : (d : Described) (limit : ℕ) → 0 < d.layout.chunk_rows → needed d ≤ limit → 0 < limit → first_open d * chunks_across d < limit
open_below d limit per few some =
    let across : ℕ = chunks_across d in
    elim (cases_lt 0 across) [
      | inl wide ↦ elim (cases_lt 0 d.shape.rows) [
        | inl any ↦
            let last : (first_open d + 1) * across ≤ needed d = mul-le-mul_right across (open_next d per any) in
            omega (arith, last, one_more (first_open d) across, wide, few)
        | inr none ↦
            let first : first_open d ≡ 0 = omega (arith, open_within d per, up_few d.shape.rows d.layout.chunk_rows per, none) in
            let nothing : first_open d * across ≡ 0 = ap (λ (n : ℕ). n * across) first ∙ (let e : 0 * across ≡ 0 = omega arith in e) in
            omega (arith, nothing, some)
      ]
      | inr none ↦
          let thin : across ≡ 0 = omega (arith, none) in
          let nothing : first_open d * across ≡ 0 = ap (λ (n : ℕ). first_open d * n) thin ∙ (let e : first_open d * 0 ≡ 0 = omega arith in e) in
          omega (arith, nothing, some)
    ]

pub open_chunks_are : (d : Described) (band across : ℕ) → band ≡ first_open d → across ≡ chunks_across d → band * across ≡ first_open d * chunks_across d
open_chunks_are d band across first side = ap (λ (n : ℕ). n * across) first ∙ ap (λ (n : ℕ). first_open d * n) side

pub open_small : (d : Described) → 0 < d.layout.chunk_rows → HasFewChunks d → first_open d * chunks_across d < 1000001
open_small d per few = open_below d 1000001 per (omega (arith, few, limit_top d.layout.index)) (omega arith)

-- ---- Its line

-- the chunk of the last committed row is one of an array
pub open_few : (d : Described) → 0 < d.layout.chunk_rows → HasFewChunks d → d.layout.index ≡ Array → first_open_line d < 131060
open_few d per few kind =
    let limit : limit_of format_limits d.layout.index ≡ 131060 = ap (limit_of format_limits) kind in
    subst (λ (n : ℕ). n < 131060) (sym (array_line d (first_open d) kind)) (open_below d 131060 per (subst (λ (n : ℕ). needed d ≤ n) limit few) (omega arith))

-- and no later than that of the next row
pub open_line_first : (d : Described) → 0 < d.layout.chunk_rows → first_open_line d ≤ first_line d (d.shape.rows / d.layout.chunk_rows)
open_line_first d per = first_line_grows d (first_open d) (d.shape.rows / d.layout.chunk_rows) (open_first d per)
