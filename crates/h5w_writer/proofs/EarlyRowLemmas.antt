-- Up to which row rows are written early.
use Rattle.std.proofs.Common.{◌≡◌, ℕ, zero, suc, ◌+◌, ◌-◌, ◌*◌, ◌/◌, ◌%◌, ◌<◌, ◌≤◌, ◌^◌, List, length, refl, sym, ap, ◌∙◌, subst, inl, inr, arith}
use Rattle.std.proofs.lemmas.Bool.{cases_lt, cond-false, le-ltb}
use Rattle.std.proofs.lemmas.Nat.{div-add-mod', le-div, mul-le}
use Rattle.std.proofs.Math.Nat.{div-mul-le_self, mul-le-mul_right}
use Rattle.std.specs.Int.{div_ceil}
use Rattle.h5w_model.specs.Logs.{div_up}
use Rattle.h5w_model.specs.Datasets.{Described}
use Rattle.h5w_model.specs.Tables.{chunks_across}
use Rattle.h5w_chunks.specs.Grids.{IsCut}
use Rattle.h5w_chunks.proofs.Geometry.{ceil_is_up, lt_up}
use Rattle.h5w_writer.specs.Early.{IsEarlyRow, band_bytes, bytes_of_bands, dirty_of, unwritten}
use Rattle.h5w_writer.specs.Sessions.{IsSession, Session, next_row, rows_of}
use Rattle.h5w_writer.proofs.TakingLemmas.{limit_top}
use Rattle.h5w_writer.proofs.EarlyBytes.{mod_low, none_unwritten, unwritten_bands, unwritten_behind, up_last, whole_row}

-- all rows: nothing waits behind them
pub all_rows : (s : Session) → IsSession s → length s.header ≤ 512 → s.budget < dirty_of s → IsEarlyRow s (rows_of s)
all_rows s is short over =
    let low = is.budget_low in
    record {
      over = over;
      some = waits;
      bound = omega arith;
      whole = inl refl;
      within = omega (arith, none_unwritten s.dataset (rows_of s) (rows_of s) (omega arith), short, low);
      short = short;
    }
  where
    waits : next_row s < rows_of s
    waits =
        elim (cases_lt (next_row s) (rows_of s)) [
          | inl less ↦ less
          | inr none ↦ let low = is.budget_low in absurd (omega (arith, over, none_unwritten s.dataset (next_row s) (rows_of s) none, short, low))
        ]

module _ (s : Session) (is : IsSession s) (cut : IsCut s.dataset) (short : length s.header ≤ 512) (over : s.budget < dirty_of s) (bands : ℕ) (room : bands * band_bytes s.dataset ≤ s.budget - length s.header) (some : 1 ≤ bands) where
  abbrev d : Described
  d = s.dataset

  abbrev per : ℕ
  per = d.layout.chunk_rows

  abbrev up : ℕ
  up = div_up (rows_of s) per

  waits : next_row s < rows_of s
  waits =
      elim (cases_lt (next_row s) (rows_of s)) [
        | inl less ↦ less
        | inr none ↦ let low = is.budget_low in absurd (omega (arith, over, none_unwritten d (next_row s) (rows_of s) none, short, low))
      ]

  -- more bands wait than may stay
  more : bands < up - next_row s / per
  more =
      elim (cases_lt bands (up - next_row s / per)) [
        | inl less ↦ less
        | inr few ↦
            let low = is.budget_low in
            let all = unwritten_bands d (next_row s) (rows_of s) cut waits in
            let fits = mul-le-mul_right (band_bytes d) few in
            absurd (omega (arith, over, all, fits, room, short, low))
      ]

  abbrev row : ℕ
  row = (up - bands) * per

  row_low : row < rows_of s
  row_low =
      let step : up - bands ≤ up - 1 = omega (arith, some) in
      let less = mul-le-mul_right per step in
      let last = up_last (rows_of s) per cut.rows (omega (arith, waits)) in
      omega (arith, less, last)

  pub some_rows : IsEarlyRow s row
  some_rows =
      let low = is.budget_low in
      let high : next_row s / per + 1 ≤ up - bands = omega (arith, more) in
      let rises = mul-le-mul_right per high in
      let split : (next_row s / per + 1) * per ≡ next_row s / per * per + per = omega arith in
      let down = div-add-mod' (next_row s) per in
      let even = whole_row (up - bands) per cut.rows in
      let behind = unwritten_behind d (up - bands) (rows_of s) cut row_low in
      let count : up - (up - bands) ≡ bands = omega (arith, more) in
      record {
        over = over;
        some = omega (arith, rises, split, down, mod_low (next_row s) per cut.rows);
        bound = omega (arith, row_low);
        whole = inr even;
        within = omega (arith, behind, ap (λ k. k * band_bytes d) count, room, short, low);
        short = short;
      }

-- ---- As the code counts them

-- rows wait where what waits is past the budget
rows_wait : (v : Session) → IsSession v → length v.header ≤ 512 → v.budget < dirty_of v → next_row v < rows_of v
rows_wait v is short over =
    elim (cases_lt (next_row v) (rows_of v)) [
      | inl less ↦ less
      | inr none ↦ let low = is.budget_low in absurd (omega (arith, over, none_unwritten v.dataset (next_row v) (rows_of v) none, short, low))
    ]

-- and then few chunks stand side by side
pub across_few : (v : Session) → IsSession v → IsCut v.dataset → length v.header ≤ 512 → v.budget < dirty_of v → chunks_across v.dataset ≤ 1000000
across_few v is cut short over =
    let waits = rows_wait v is short over in
    let some = lt_up 0 (rows_of v) v.dataset.layout.chunk_rows cut.rows (omega (arith, waits)) in
    let least = mul-le 1 (chunks_across v.dataset) (div_up (rows_of v) v.dataset.layout.chunk_rows) (chunks_across v.dataset) some (omega arith) in
    omega (arith, least, is.few, limit_top v.dataset.layout.index)

pub band_some : (v : Session) → IsSession v → IsCut v.dataset → 0 < band_bytes v.dataset
band_some v is cut =
    let d = v.dataset in
    let some = is.fits.some in
    let line = mul-le 1 1 d.layout.chunk_cols d.int_type.size cut.cols cut.some in
    let chunk = mul-le 1 1 d.layout.chunk_rows (d.layout.chunk_cols * d.int_type.size) cut.rows (omega (arith, line)) in
    let all = mul-le 1 1 (chunks_across d) (d.layout.chunk_rows * (d.layout.chunk_cols * d.int_type.size)) some (omega (arith, chunk)) in
    omega (arith, all)

-- the bytes that wait, as the code adds them
pub over_budget : (v s : Session) → v ≡ s → (to header dirt mid : ℕ) → to ≡ rows_of s → header ≡ length v.header → dirt ≡ unwritten v.dataset mid to → mid ≡ next_row s → v.budget < dirt + header → v.budget < dirty_of v
over_budget v s e to header dirt mid to_is header_is dirt_is mid_is over =
    let same : dirt ≡ unwritten v.dataset (next_row v) (rows_of v) =
    dirt_is ∙ ap (λ n. unwritten v.dataset n to) (mid_is ∙ ap next_row (sym e)) ∙ ap (λ n. unwritten v.dataset (next_row v) n) (to_is ∙ ap rows_of (sym e)) in
    omega (arith, over, same, header_is)

pub row_is : (v s : Session) → v ≡ s → IsSession v → IsCut v.dataset → (to header band up : ℕ) → to ≡ rows_of s → header ≡ length v.header → length v.header ≤ 512 → band ≡ band_bytes v.dataset → up ≡ div_ceil to v.dataset.layout.chunk_rows → v.budget < dirty_of v
    → ((v.budget - header) / band ≡ 0 → ⊥) → ((v.budget - header) / band ≤ up) × IsEarlyRow v ((up - (v.budget - header) / band) * v.dataset.layout.chunk_rows)
row_is v s e is cut to header band up to_told header_is short band_is up_is over some =
    let to_is : to ≡ rows_of v = to_told ∙ ap rows_of (sym e) in
    let bands = (v.budget - header) / band in
    let down = div-mul-le_self (v.budget - header) band in
    let room : bands * band_bytes v.dataset ≤ v.budget - length v.header = omega (arith, ap (λ n. bands * n) band_is, header_is, down) in
    let any : 1 ≤ bands = one_at_least bands some in
    let same : up ≡ div_up (rows_of v) v.dataset.layout.chunk_rows = up_is ∙ ceil_is_up to v.dataset.layout.chunk_rows cut.rows ∙ ap (λ n. div_up n v.dataset.layout.chunk_rows) to_is in
    let fits = more v is cut short over bands room any in
    let row = some_rows v is cut short over bands room any in (
      omega (arith, same, fits),
      subst (λ n. IsEarlyRow v ((n - bands) * v.dataset.layout.chunk_rows)) (sym same) row,
    )
  where
    one_at_least : (n : ℕ) → (n ≡ 0 → ⊥) → 1 ≤ n
    one_at_least zero no_bands = absurd (no_bands refl)
    one_at_least (suc n) no_bands = omega arith
