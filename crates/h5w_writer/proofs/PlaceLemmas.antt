-- Chunks of rows that are written early get their places.
use Rattle.std.proofs.Common.{◌≡◌, ◌≢◌, ◌⊎◌, ℕ, ◌+◌, ◌-◌, ◌*◌, ◌/◌, ◌%◌, ◌^◌, ◌<◌, ◌≤◌, max, false, true, List, [], ◌∷◌, ◌++◌, length, take, Some, inl, inr, refl, sym, ap, ◌∙◌, subst, arith}
use Rattle.std.proofs.lemmas.Bool.{cases_lt}
use Rattle.std.proofs.lemmas.List.{length-take, take-take}
use Rattle.std.proofs.lemmas.Nat.{div-add-mod', mul-le}
use Rattle.std.proofs.Math.Nat.{div-mul-le_self, mul-le-mul_right}
use Rattle.std.proofs.Math.Seq.{take-append_seam}
use Rattle.std.specs.List.{slice_get}
use Rattle.h5w_model.specs.Numbers.{undefined}
use Rattle.h5w_model.specs.Logs.{div_up}
use Rattle.h5w_model.specs.Datasets.{Described}
use Rattle.h5w_model.specs.declared.cell.Key.{Key}
use Rattle.h5w_model.specs.Tables.{chunks_across}
use Rattle.h5w_space.specs.Space.{Space, extent}
use Rattle.h5w_space.specs.declared.Full.{Full}
use Rattle.h5w_cache.specs.Plans.{IsRefused, Took}
use Rattle.h5w_chunks.specs.Grids.{IsGrid, chunk_len, dataset_of}
use Rattle.h5w_chunks.specs.declared.grid.Grid.{Grid}
use Rattle.h5w_chunks.specs.Shares.{touched, touched_band}
use Rattle.h5w_chunks.specs.declared.grid.ChunkPlace.{ChunkPlace}
use Rattle.h5w_flush_laws.specs.EarlyRows.{IsEarlyPlace}
use Rattle.h5w_index.specs.Naming.{AreTakenBehind}
use Rattle.h5w_index.specs.Placing.{AreInside, Fits, next_key}
use Rattle.h5w_index.specs.Views.{IndexView, address_in}
use Rattle.h5w_index.proofs.BehindLemmas.{behind_laws}
use Rattle.h5w_index.proofs.PartlyLemmas.{get_pushed}
use Rattle.h5w_writer.specs.Early.{IsBandFull, IsPlaceFull}
use Rattle.h5w_writer.specs.ChunkPlaces.{AllEarly, CanPlace, IsGrown}
use Rattle.h5w_chunks.proofs.Geometry.{is_cut, lt_up, up_lt}
use Rattle.h5w_chunks.proofs.KeyLemmas.{touched_low}
use Rattle.h5w_flush_laws.proofs.NewChunkLemmas.{touched_is}
use Rattle.h5w_writer.proofs.EarlyBytes.{mod_low, none_touched, up_covers, up_last, up_more, whole_band, whole_row, whole_up}

-- the index has the next chunk's place
pub next_there : (d : Described) (v : IndexView) (s : Space) (chunks : List ChunkPlace) (key : Key) (p : ChunkPlace) → Fits d v → AreInside d s.end v → key ≡ next_key d chunks → address_in v key ≡ p.address → p.address ≢ undefined
    → AreTakenBehind d (address_in v) chunks s (chunks ++ p ∷ []) s
next_there d v s chunks key p fits within number there defined =
    let before : address_in v (next_key d chunks) ≡ p.address = ap (address_in v) (sym number) ∙ there in
    let known : address_in v (next_key d chunks) ≢ undefined = λ e. defined (sym before ∙ e) in
    let own = within (next_key d chunks) (touched_low d d.shape.rows (length chunks) fits.some) known in
    behind_laws.behind_stored d (address_in v) chunks s s chunks p known (omega (arith, own, before)) (behind_laws.behind_none d (address_in v) chunks s s (record { end = refl; free = refl; retired = refl; limit = refl }))

pub there_placed : (d : Described) (v : IndexView) (chunks : List ChunkPlace) (key : Key) (p : ChunkPlace) → key ≡ next_key d chunks → address_in v key ≡ p.address → p.address ≢ undefined
    → (p.stored ≡ false → d.shape.rows ≤ touched_band d d.shape.rows (length chunks) * d.layout.chunk_rows) → IsEarlyPlace d (address_in v) d.shape.rows (length chunks) p
there_placed d v chunks key p number there defined whole =
    let before : address_in v (next_key d chunks) ≡ p.address = ap (address_in v) (sym number) ∙ there in record {
      defined = defined;
      kept = λ some. sym before;
      stored = λ stored e. defined (sym before ∙ e);
      whole = λ new some. whole new;
    }

-- a new place is taken for it
pub next_new : (d : Described) (v : IndexView) (s t : Space) (chunks : List ChunkPlace) (key : Key) (p : ChunkPlace) → 0 < chunk_len d → key ≡ next_key d chunks → address_in v key ≡ undefined → Took s t (extent p.address (chunk_len d))
    → AreTakenBehind d (address_in v) chunks s (chunks ++ p ∷ []) t
next_new d v s t chunks key p some number none took =
    behind_laws.behind_new d (address_in v) chunks s s t chunks p some (ap (address_in v) (sym number) ∙ none) took (behind_laws.behind_none d (address_in v) chunks s s (record { end = refl; free = refl; retired = refl; limit = refl }))

pub new_placed : (d : Described) (v : IndexView) (chunks : List ChunkPlace) (key : Key) (p : ChunkPlace) → key ≡ next_key d chunks → address_in v key ≡ undefined → p.address ≢ undefined → p.stored ≡ false
    → IsEarlyPlace d (address_in v) d.shape.rows (length chunks) p
new_placed d v chunks key p number none defined fresh =
    let absent : address_in v (next_key d chunks) ≡ undefined = ap (address_in v) (sym number) ∙ none in record {
      defined = defined;
      kept = λ some. absurd (some absent);
      stored = λ stored. let clash : false ≡ true = sym fresh ∙ stored in cc;
      whole = λ new some. absurd (some absent);
    }

-- or there is none
pub next_full : (d : Described) (v : IndexView) (s : Space) (chunks : List ChunkPlace) (key : Key) (full : Full) → key ≡ next_key d chunks → address_in v key ≡ undefined → IsRefused s (chunk_len d) full → IsPlaceFull d (address_in v) chunks s
next_full d v s chunks key full number none refused = record {
  absent = ap (address_in v) (sym number) ∙ none;
  full = full;
  refused = refused;
}

-- ---- A band

pub early_pushed : (d : Described) (old : Key → ℕ) (chunks : List ChunkPlace) (p : ChunkPlace) → IsEarlyPlace d old d.shape.rows (length chunks) p → AllEarly d old chunks → AllEarly d old (chunks ++ p ∷ [])
early_pushed d old chunks p here before k q at =
    elim (get_pushed chunks p k q at) [
      | inl known ↦ before k q known
      | inr last ↦ subst (λ (n : ℕ). IsEarlyPlace d old d.shape.rows n q) (sym last.0) (subst (λ (c : ChunkPlace). IsEarlyPlace d old d.shape.rows (length chunks) c) last.1 here)
    ]

-- those that have their places already are the first
pub first_kept : (d : Described) (old : Key → ℕ) (early : List ChunkPlace) (s t : Space) (chunks : List ChunkPlace) → AreTakenBehind d old early s chunks t → take (length early) chunks ≡ early
first_kept d old early s t chunks x = ap (take (length early)) x.all ∙ take-append_seam early x.later

pub kept_on : (early before now : List ChunkPlace) → take (length early) before ≡ early → take (length before) now ≡ before → take (length early) now ≡ early
kept_on early before now first next =
    let low : length early ≤ length before = omega (arith, ap length first, length-take (length early) before) in
    sym (take-take (length early) (length before) now low) ∙ ap (take (length early)) next ∙ first

pub inside_on : (d : Described) (s t : Space) (v : IndexView) → s.end ≤ t.end → AreInside d s.end v → AreInside d t.end v
inside_on d s t v rises within key low known = omega (arith, rises, within key low known)

pub nothing_taken : (d : Described) (old : Key → ℕ) (chunks : List ChunkPlace) (s : Space) → AreTakenBehind d old chunks s chunks s
nothing_taken d old chunks s = behind_laws.behind_none d old chunks s s (record { end = refl; free = refl; retired = refl; limit = refl })

pub grown_none : (s : Space) → s.end < 2 ^ 64 → IsGrown s s
grown_none s small = record { rises = omega arith; small = small; limit = refl }

pub grown_on : (s t u : Space) → IsGrown s t → IsGrown t u → IsGrown s u
grown_on s t u first next = record {
  rises = let a = first.rises in let b = next.rises in omega (arith, a, b);
  small = next.small;
  limit = next.limit ∙ first.limit;
}

-- from there on chunks can get places too
pub can_on : (d : Described) (v : IndexView) (to : ℕ) (s t : Space) → IsGrown s t → CanPlace d v to s → CanPlace d v to t
can_on d v to s t grown can = record {
  order = can.order;
  room = can.room;
  few = can.few;
  sound = can.sound;
  fits = can.fits;
  takes = can.takes;
  inside = inside_on d s t v grown.rises can.inside;
  small = grown.small;
  limit = let same = grown.limit in let low = can.limit in omega (arith, same, low);
}

-- ---- Bands

-- The first band whose chunks have no places yet, where those of the rows before `mid` have theirs, behind the rows of the dataset.
pub record IsFirstBand (d : Described) (mid first : ℕ) : Type 0 where
  pub low : d.shape.rows / d.layout.chunk_rows ≤ first
  pub count : touched d d.shape.rows mid ≡ (first - d.shape.rows / d.layout.chunk_rows) * chunks_across d
  pub next : mid < (first + 1) * d.layout.chunk_rows
  pub bound : (to : ℕ) → mid < to → first ≤ div_up to d.layout.chunk_rows

pub first_band : (d : Described) (mid first n : ℕ) → 0 < d.layout.chunk_rows → 0 < chunks_across d → d.shape.rows ≤ mid → n ≡ touched d d.shape.rows mid → first ≡ d.shape.rows / d.layout.chunk_rows + n / chunks_across d → IsFirstBand d mid first
first_band d mid first n some across low known is = go (cases_lt d.shape.rows mid)
  where
    per : ℕ
    per = d.layout.chunk_rows

    base : ℕ
    base = d.shape.rows / d.layout.chunk_rows

    up_next : (n : ℕ) → n < (div_up n d.layout.chunk_rows + 1) * d.layout.chunk_rows
    up_next n = let covers = up_covers n d.layout.chunk_rows some in omega (arith, covers)

    go : (d.shape.rows < mid) ⊎ (mid ≤ d.shape.rows) → IsFirstBand d mid first
    go (inl rises) =
        let down = div-mul-le_self d.shape.rows per in
        let past : base < div_up mid per = lt_up base mid per some (omega (arith, down, rises)) in
        let all : touched d d.shape.rows mid ≡ (div_up mid per - base) * chunks_across d = touched_is d d.shape.rows mid rises in
        let bands : n / chunks_across d ≡ div_up mid per - base = ap (λ k. k / chunks_across d) (known ∙ all) ∙ whole_band (div_up mid per - base) (chunks_across d) across in
        let at : first ≡ div_up mid per = omega (arith, is, bands, past) in
        record {
          low = omega (arith, at, past);
          count = all ∙ ap (λ k. (k - base) * chunks_across d) (sym at);
          next = subst (λ k. mid < (k + 1) * per) (sym at) (up_next mid);
          bound = λ to more. omega (arith, at, up_more mid to per some (omega (arith, more)));
        }
    go (inr least) =
        let all : touched d d.shape.rows mid ≡ 0 = none_touched d d.shape.rows mid least in
        let bands : n / chunks_across d ≡ 0 = ap (λ k. k / chunks_across d) (let e : n ≡ 0 * chunks_across d = omega (arith, known, all) in e) ∙ whole_band 0 (chunks_across d) across in
        let at : first ≡ base = omega (arith, is, bands) in
        let down = div-add-mod' d.shape.rows per in
        let part = mod_low d.shape.rows per some in
        let under = div-mul-le_self d.shape.rows per in
        record {
          low = omega (arith, at);
          count = let z : first - base ≡ 0 = omega (arith, at) in let e : (first - base) * chunks_across d ≡ 0 * chunks_across d = ap (λ k. k * chunks_across d) z in omega (arith, all, e);
          next = subst (λ k. mid < (k + 1) * per) (sym at) (let e : mid < (base + 1) * per = omega (arith, down, part, least) in e);
          bound = λ to more. let past = lt_up base to per some (omega (arith, under, low, more)) in omega (arith, at, past);
        }

pub grid_band : (g : Grid) (mid n across : ℕ) → IsGrid g → 0 < chunks_across (dataset_of g) → g.shape.rows ≤ mid → n ≡ touched (dataset_of g) g.shape.rows mid → across ≡ chunks_across (dataset_of g)
    → IsFirstBand (dataset_of g) mid (g.shape.rows / g.layout.chunk.0 + n / across)
grid_band g mid n across is some low known wide =
    first_band (dataset_of g) mid (g.shape.rows / g.layout.chunk.0 + n / across) n (is_cut g is).rows some low known (ap (λ k. g.shape.rows / g.layout.chunk.0 + n / k) wide)

pub up_small : (n per : ℕ) → 0 < per → 0 < n → div_up n per ≤ n
up_small n per some any =
    let last = up_last n per some any in
    let one = mul-le (div_up n per - 1) 1 (div_up n per - 1) per (omega arith) (omega (arith, some)) in
    omega (arith, last, one)

-- Before band `band` all chunks have their places: so up to this row, which is the first of the band, or `mid`.
pub record IsPlacedRow (d : Described) (mid first band to row : ℕ) : Type 0 where
  pub low : mid ≤ row
  pub high : row ≤ to
  pub whole : (row ≡ mid) ⊎ ((row ≡ to) ⊎ (row % d.layout.chunk_rows ≡ 0))
  pub all : (band - d.shape.rows / d.layout.chunk_rows) * chunks_across d ≡ touched d d.shape.rows row
  pub same : row ≡ mid → band ≡ first

pub placed_row : (d : Described) (mid first band to row : ℕ) → 0 < d.layout.chunk_rows → d.shape.rows ≤ mid → mid < to → IsFirstBand d mid first → first ≤ band → band < div_up to d.layout.chunk_rows → row ≡ max mid (band * d.layout.chunk_rows)
    → IsPlacedRow d mid first band to row
placed_row d mid first band to row some least more b from behind is = go (cases_lt mid (band * d.layout.chunk_rows))
  where
    per : ℕ
    per = d.layout.chunk_rows

    base : ℕ
    base = d.shape.rows / d.layout.chunk_rows

    go : (mid < band * d.layout.chunk_rows) ⊎ (band * d.layout.chunk_rows ≤ mid) → IsPlacedRow d mid first band to row
    go (inl past) =
        let at : row ≡ band * per = omega (arith, is, past) in
        let high : band * per < to = up_lt band to per some behind in
        let up : div_up (band * per) per ≡ band = whole_up band per some in
        record {
          low = omega (arith, at, past);
          high = omega (arith, at, high);
          whole = inr (inr (ap (λ n. n % per) at ∙ whole_row band per some));
          all = ap (λ k. (k - base) * chunks_across d) (sym up) ∙ sym (touched_is d d.shape.rows (band * per) (omega (arith, least, past))) ∙ ap (touched d d.shape.rows) (sym at);
          same = λ e. absurd (omega (arith, e, at, past));
        }
    go (inr under) =
        let at : row ≡ mid = omega (arith, is, under) in
        let here : band ≡ first =
        elim (cases_lt first band) [
          | inl further ↦ absurd (let step = mul-le-mul_right per (let e : first + 1 ≤ band = omega (arith, further) in e) in omega (arith, step, b.next, under))
          | inr near ↦ omega (arith, near, from)
        ] in
        record {
          low = omega (arith, at);
          high = omega (arith, at, more);
          whole = inl at;
          all = ap (λ k. (k - base) * chunks_across d) here ∙ sym b.count ∙ ap (touched d d.shape.rows) (sym at);
          same = λ e. here;
        }

-- one band more is of those that the rows touch
pub band_inside : (d : Described) (n first band to : ℕ) → d.shape.rows < to → d.shape.rows / d.layout.chunk_rows ≤ first → first ≤ band → band < div_up to d.layout.chunk_rows → n ≡ (band - d.shape.rows / d.layout.chunk_rows) * chunks_across d
    → n + chunks_across d ≤ touched d d.shape.rows to
band_inside d n first band to rises low from behind count =
    let base = d.shape.rows / d.layout.chunk_rows in
    let step : (band - base) + 1 ≤ div_up to d.layout.chunk_rows - base = omega (arith, low, from, behind) in
    let all : ((band - base) + 1) * chunks_across d ≤ (div_up to d.layout.chunk_rows - base) * chunks_across d = mul-le-mul_right (chunks_across d) step in
    let split : ((band - base) + 1) * chunks_across d ≡ (band - base) * chunks_across d + chunks_across d = omega arith in
    omega (arith, count, all, split, touched_is d d.shape.rows to rises)

pub next_band : (d : Described) (n m first band : ℕ) → d.shape.rows / d.layout.chunk_rows ≤ first → first ≤ band → n ≡ (band - d.shape.rows / d.layout.chunk_rows) * chunks_across d → m ≡ n + chunks_across d
    → m ≡ (band + 1 - d.shape.rows / d.layout.chunk_rows) * chunks_across d
next_band d n m first band low from count more =
    let base = d.shape.rows / d.layout.chunk_rows in
    let split : ((band - base) + 1) * chunks_across d ≡ (band - base) * chunks_across d + chunks_across d = omega arith in
    let step : (band - base) + 1 ≡ band + 1 - base = omega (arith, low, from) in
    more ∙ ap (λ k. k + chunks_across d) count ∙ sym split ∙ ap (λ k. k * chunks_across d) step

-- A copy of the places is taken from in their stead.
pub full_copied : (d : Described) (old : Key → ℕ) (s t : Space) (before chunks : List ChunkPlace) → t ≡ s → chunks ≡ before → IsBandFull d old before t → IsBandFull d old chunks s
full_copied d old s t before chunks copied same x = subst (λ (u : Space). IsBandFull d old chunks u) copied (subst (λ (cs : List ChunkPlace). IsBandFull d old cs t) (sym same) x)
