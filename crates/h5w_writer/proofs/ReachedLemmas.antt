-- For which chunks readers look once rows are flushed.
use Rattle.std.proofs.Common.{◌≡◌, ℕ, zero, suc, ◌+◌, ◌-◌, ◌*◌, ◌/◌, ◌<◌, ◌≤◌, Result, Ok, Err, ap, ◌∙◌, subst, inl, inr, arith}
use Rattle.std.specs.Prelude.{OnOk}
use Rattle.std.proofs.lemmas.Bool.{cases_lt}
use Rattle.std.proofs.lemmas.Nat.{mul-le}
use Rattle.std.proofs.Math.Nat.{div-mul-le_self, div-zero, le-div_iff_mul-le, mul-le-mul_right}
use Rattle.h5w_model.specs.Datasets.{Described}
use Rattle.h5w_model.specs.Logs.{div_up}
use Rattle.h5w_model.specs.Tables.{chunks_across, keys_across}
use Rattle.h5w_model.specs.declared.cell.Key.{Key}
use Rattle.h5w_space.specs.Space.{Space}
use Rattle.h5w_chunks.specs.Shares.{first_line, touched, touched_key}
use Rattle.h5w_chunks.proofs.Geometry.{lt_up}
use Rattle.h5w_chunks.proofs.KeyLemmas.{bands_between, line_chunks, some_keys}
use Rattle.h5w_step_laws.specs.Files.{with_index}
use Rattle.h5w_flush_laws.proofs.NewChunkLemmas.{touched_is}
use Rattle.h5w_index.specs.Views.{IndexView, IsReached}
use Rattle.h5w_index.proofs.PlacingLemmas.{chunk_there}
use Rattle.h5w_index.proofs.ReachLemmas.{reach_laws}
use Rattle.h5w_writer.specs.Flushes.{ArePlanned}
use Rattle.h5w_writer.specs.Sessions.{AreReached, Session, rows_of, with_rows}
use Rattle.h5w_writer.specs.Starts.{HasFlushed}
use Rattle.h5w_writer.specs.declared.refusal.FlushError.{FlushError}

-- ---- The last chunk

-- the line of the last of some keys, of which so many stand side by side, is the last of their lines
last_line : (lines across n : ℕ) → 0 < across → lines * across ≡ n + 1 → lines ≤ n / across + 1
last_line zero across n some all = omega arith
last_line (suc k) across n some all =
    let split : suc k * across ≡ k * across + across = omega arith in
    let low : k ≤ n / across = (le-div_iff_mul-le {k = across} {x = k} {y = n} some).1 (omega (arith, all, split, some)) in
    omega (arith, low)

-- how many keys there are, by those before some bands and in them
all_keys : (keys before all own : ℕ) → keys ≡ all → own ≡ all - before → before ≤ all → 1 ≤ own → keys ≡ before + (own - 1) + 1
all_keys keys before all own is count less some = omega (arith, is, count, less, some)

last_of : (own all : ℕ) → all ≡ own → 1 ≤ own → own - 1 < all
last_of own all is some = omega (arith, is, some)

below_last : (line lines last : ℕ) → line < lines → lines ≤ last + 1 → line ≤ last
below_last line lines last low high = omega (arith, low, high)

-- the last of the chunks that rows touch
record IsLast (d : Described) (from to k : ℕ) : Type 0 where
  inside : k < touched d from to
  last : first_line d (div_up to d.layout.chunk_rows) ≤ (touched_key d from k).i + 1

last_touched : (d : Described) (from to : ℕ) → from < to → 0 < d.layout.chunk_rows → 0 < chunks_across d → (k : ℕ) × IsLast d from to k
last_touched d from to some per across =
    let a : ℕ = chunks_across d in
    let first : ℕ = from / d.layout.chunk_rows in
    let bands : ℕ = div_up to d.layout.chunk_rows in
    let low : first < bands = lt_up first to d.layout.chunk_rows per (omega (arith, div-mul-le_self from d.layout.chunk_rows, some)) in
    let any : 1 ≤ (bands - first) * a = mul-le 1 1 (bands - first) a (omega (arith, low)) across in
    let less : first * a ≤ bands * a = mul-le-mul_right a (let h : first ≤ bands = omega (arith, low) in h) in
    let keys = all_keys (first_line d bands * keys_across d) (first * a) (bands * a) ((bands - first) * a) (line_chunks d bands) (bands_between first bands a) less any in
    ((bands - first) * a - 1, record { inside = last_of ((bands - first) * a) (touched d from to) (touched_is d from to some) any; last = last_line (first_line d bands) (keys_across d) (first * a + ((bands - first) * a - 1)) (some_keys d across) keys })

-- no band has no line before it
no_line : (d : Described) (band i : ℕ) → 0 < chunks_across d → band ≡ 0 → i < first_line d band → ⊥
no_line d band i some none low =
    let any : 1 * 1 ≤ first_line d band * keys_across d = mul-le 1 1 (first_line d band) (keys_across d) (omega (arith, low)) (some_keys d some) in
    let nothing : first_line d band * keys_across d ≡ 0 = line_chunks d band ∙ ap (λ (n : ℕ). n * chunks_across d) none ∙ (let e : 0 * chunks_across d ≡ 0 = omega arith in e) in
    absurd (omega (arith, any, nothing))

-- ---- What readers look for

-- each chunk that the rows need, once all have their places and the index is planned
planned_reached : (s : Session) (v : IndexView) (before : Space) (w : IndexView) (t : Space) → ArePlanned s v before w t → (key : Key) → key.i < first_line s.dataset (div_up (rows_of s) s.dataset.layout.chunk_rows) → IsReached w key
planned_reached s v before w t x key low =
    let d = s.dataset in
    let from = d.shape.rows in
    let to = rows_of s in
    elim (cases_lt 0 d.layout.chunk_rows) [
      | inl per ↦
          let last = last_touched d from to (omega (arith, x.some)) per x.fits.some in
          let there = chunk_there x.chunks last.0 (omega (arith, last.1.inside, x.all)) in
          let top : Key = touched_key d from last.0 in
          let looked : IsReached x.named top = x.names.reached last.0 there.0 there.1 in
          let kept : IsReached w top = reach_laws.planned x.named x.between x.moves x.copies x.fixed w t x.names.partly.like.sound x.plan top looked in
          reach_laws.lower w top key (below_last key.i (first_line d (div_up to d.layout.chunk_rows)) top.i low last.1.last) kept
      | inr none ↦
          let zero : d.layout.chunk_rows ≡ 0 = omega (arith, none) in
          let nothing : div_up to d.layout.chunk_rows ≡ 0 = ap (div_up to) zero ∙ div-zero (to + 0 - 1) in
          absurd (no_line d (div_up to d.layout.chunk_rows) key.i x.fits.some nothing low)
    ]

pub any_reached : (old new : Session) → HasFlushed old new → AreReached new
any_reached old new (inl x) key low there =
    let same : new.dataset ≡ with_rows (rows_of old) old.dataset = ap (λ (s : Session). s.dataset) x.session in
    planned_reached old old.index old.places new.index new.places x.planned key (subst (λ (d : Described). key.i < first_line d (div_up d.shape.rows d.layout.chunk_rows)) same low)
any_reached old new (inr x) key low there =
    let same : new.dataset ≡ with_index x.at (with_rows (rows_of old) old.dataset) = ap (λ (s : Session). s.dataset) x.session in
    planned_reached old x.made x.first new.index new.places x.planned key (subst (λ (d : Described). key.i < first_line d (div_up d.shape.rows d.layout.chunk_rows)) same low)

pub told_reached : (old new : Session) (r : Result ℕ FlushError) → OnOk r (HasFlushed old new) → OnOk r (AreReached new)
told_reached old new (Ok n) x = any_reached old new x
told_reached old new (Err e) x = tt
