-- Rows that are written before their flush.
use Rattle.std.proofs.Common.{◌≡◌, ◌⊎◌, ℕ, ◌-◌, ◌*◌, ◌/◌, ◌<◌, ◌≤◌, true, false, List, [], ◌++◌, length, Option, Some, None, refl, ◌∙◌, ap, inl, inr, arith, mul-le-mul_right}
use Rattle.std.specs.Prelude.{ℤ, slice_get, nat_lt, if◌then◌else◌}
use Rattle.std.proofs.lemmas.Bool.{cases_Bool, cond-true, cond-false, ltb-true, ltb-false, lt-ltb}
use Rattle.std.proofs.lemmas.Option.{slice_get_within, slice_get_past}
use Rattle.h5w_model.specs.Logs.{div_up}
use Rattle.h5w_model.specs.Datasets.{Described}
use Rattle.h5w_model.specs.Tables.{chunks_across, keys_across}
use Rattle.h5w_model.specs.declared.cell.Key.{Key}
use Rattle.h5w_model.specs.declared.piece.Write.{Write}
use Rattle.h5w_step_laws.specs.Needed.{AreFew}
use Rattle.h5w_chunks.specs.Shares.{first_line, touched, touched_key}
use Rattle.h5w_chunks.specs.declared.grid.ChunkPlace.{ChunkPlace}
use Rattle.h5w_chunks.proofs.KeyLemmas.{asked_is_touched, bands_between, line_chunks, number_of, touched_lines, touched_number, touched_once}
use Rattle.h5w_space.specs.Space.{Space}
use Rattle.h5w_step_laws.specs.Files.{with_rows}
use Rattle.h5w_step_laws.specs.Moments.{Moment}
use Rattle.h5w_flush_laws.specs.Spaces.{Taken}
use Rattle.h5w_flush_laws.specs.Knowledge.{IsAsked, Knows}
use Rattle.h5w_flush_laws.specs.Parts.{Parts}
use Rattle.h5w_flush_laws.specs.Rows.{ArePlaced, IsOutside, new_chunks}
use Rattle.h5w_flush_laws.specs.Flushes.{IsUnseen}
use Rattle.h5w_flush_laws.specs.EarlyRows.{AreEarly, EarlyRows}
use Rattle.h5w_flush_laws.proofs.KnownLaws.{unseen_known}
use Rattle.h5w_flush_laws.proofs.RowsLaws.{rows_flush}

-- the place, or what there was
abbrev or_old : Option ChunkPlace → ℕ → ℕ
or_old None a = a
or_old (Some p) a = p.address

-- the map by which the early chunks would be named
abbrev early_map : Described → (Key → ℕ) → ℕ → List ChunkPlace → Key → ℕ
early_map d old from places key = if nat_lt key.i (first_line d (from / d.layout.chunk_rows)) then old key else or_old (slice_get places (number_of d from key)) (old key)

early_named : (d : Described) (old : Key → ℕ) (from to k : ℕ) (places : List ChunkPlace) (p : ChunkPlace) → from < to → length places ≡ touched d from to → slice_get places k ≡ Some p
    → early_map d old from places (touched_key d from k) ≡ p.address
early_named d old from to k places p rises all found =
    let key : Key = touched_key d from k in
    let low : k < touched d from to = omega (arith, slice_get_within places k p found, all) in
    let first : ℕ = first_line d (from / d.layout.chunk_rows) in
    let lines = touched_lines d from to k low in
    let off : nat_lt key.i first ≡ false = not_low key.i first lines.low in
    let n = asked_is_touched d from to key rises lines.side lines.low lines.high in
    let same : number_of d from key ≡ k = touched_once d from (number_of d from key) k (touched_number d from to k low).some n.is in
    cond-false (nat_lt key.i first) (old key) (or_old (slice_get places (number_of d from key)) (old key)) off
    ∙ ap (λ j. or_old (slice_get places j) (old key)) same
    ∙ ap (λ o. or_old o (old key)) found
  where
    not_low : (a b : ℕ) → b ≤ a → nat_lt a b ≡ false
    not_low a b h = go (cases_Bool (nat_lt a b))
      where
        go : (nat_lt a b ≡ true) ⊎ (nat_lt a b ≡ false) → nat_lt a b ≡ false
        go (inl e) = absurd (omega (arith, h, ltb-true a b e))
        go (inr e) = e

early_others : (d : Described) (old : Key → ℕ) (from to : ℕ) (places : List ChunkPlace) (key : Key) → from < to → length places ≡ touched d from to → IsAsked d key → IsOutside d from to key
    → early_map d old from places key ≡ old key
early_others d old from to places key rises all asked outside = go (cases_Bool (nat_lt key.i first))
  where
    first : ℕ
    first = first_line d (from / d.layout.chunk_rows)

    last : ℕ
    last = first_line d (div_up to d.layout.chunk_rows)

    past : last ≤ key.i → length places ≤ number_of d from key
    past h =
        let bands : ℕ = div_up to d.layout.chunk_rows - from / d.layout.chunk_rows in
        let count : length places ≡ bands * chunks_across d = all ∙ cond-true (nat_lt from to) (bands * chunks_across d) 0 (lt-ltb from to rises) in
        let between = bands_between (from / d.layout.chunk_rows) (div_up to d.layout.chunk_rows) (chunks_across d) in
        let more : last * keys_across d ≤ key.i * keys_across d = mul-le-mul_right (keys_across d) h in
        omega (arith, count, between, more, line_chunks d (div_up to d.layout.chunk_rows))

    go : (nat_lt key.i first ≡ true) ⊎ (nat_lt key.i first ≡ false) → early_map d old from places key ≡ old key
    go (inl e) = cond-true (nat_lt key.i first) (old key) (or_old (slice_get places (number_of d from key)) (old key)) e
    go (inr e) =
        let high : last ≤ key.i = elim outside [ inl low ↦ absurd (omega (arith, low, ltb-false key.i first e)) | inr h ↦ h ] in
        cond-false (nat_lt key.i first) (old key) (or_old (slice_get places (number_of d from key)) (old key)) e
        ∙ ap (λ o. or_old o (old key)) (slice_get_past places (number_of d from key) (past high))

module _ (img name : List ℕ) (m : Moment) (old : Key → ℕ) (s t : Space) (rows : ℕ) (more : List ℤ) (writes : List Write) (places : List ChunkPlace) (k : Knows img name m old s)
    (taken : Taken s (new_chunks m.dataset old m.dataset.shape.rows 0 places) t) (rises : m.dataset.shape.rows < rows) (small : AreFew (with_rows rows m.dataset))
    (count : length (m.values ++ more) ≡ rows * m.dataset.shape.cols) (a : AreEarly img m old rows more writes places) where
  -- a flush that there would be
  abbrev f : Parts
  f = record {
    rows = rows;
    more = more;
    writes = writes;
    chunks = new_chunks m.dataset old m.dataset.shape.rows 0 places;
    copies = [];
    supers = [];
    end = 0;
    in_place = [];
    named = None;
    address = early_map m.dataset old m.dataset.shape.rows places;
    fixed = [];
    behind = [];
  }

  placed : ArePlaced img m old f places
  placed = record {
    written = a.written;
    all = a.all;
    placed = λ n p found.
        let e = a.placed n p found in
        record { named = early_named m.dataset old m.dataset.shape.rows rows n places p rises a.all found; defined = e.defined; kept = e.kept; stored = e.stored; whole = e.whole };
    others = λ key asked outside. early_others m.dataset old m.dataset.shape.rows rows places key rises a.all asked outside;
    chunks = refl;
    typed = a.typed;
    filled = a.filled;
    fit = a.fit;
  }

  unseen : IsUnseen img name m k.held old s writes
  unseen =
      let part = rows_flush img name m old s t f places k taken rises small count placed in
      unseen_known img name m old s writes k part.flushed.unseen part.off_held

pub early_rows : EarlyRows
early_rows img name m old s t rows more writes places k taken rises small count a = unseen img name m old s t rows more writes places k taken rises small count a
