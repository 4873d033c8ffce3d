-- Rows that were written before and those behind them: all of them stand.
use Rattle.std.proofs.Common.{◌≡◌, ◌⊎◌, ℕ, zero, suc, ◌+◌, ◌-◌, ◌*◌, ◌/◌, ◌<◌, ◌≤◌, nat_lt, List, [], ◌∷◌, ◌++◌, length, drop, Some, sym, ap, ◌∙◌, subst, inl, inr, arith, length-append, append-nil}
use Rattle.std.specs.List.{slice_get}
use Rattle.std.proofs.lemmas.Bool.{cases_lt, cond-false, le-ltb}
use Rattle.std.proofs.lemmas.List.{nil_from_length}
use Rattle.std.proofs.lemmas.Option.{slice_get_within}
use Rattle.h5w_model.specs.Datasets.{Described}
use Rattle.h5w_model.specs.Logs.{div_up}
use Rattle.h5w_model.specs.Tables.{chunks_across}
use Rattle.h5w_model.specs.declared.piece.Write.{Write}
use Rattle.h5w_chunks.specs.Grids.{IsCut}
use Rattle.h5w_chunks.specs.Shares.{new_writes, touched, touched_band}
use Rattle.h5w_chunks.specs.Rows.{ChunksApart, RowsWritten}
use Rattle.h5w_chunks.specs.Early.{GoesOn, RowsStand, WritesNext, band_row, shift_of}
use Rattle.h5w_chunks.specs.declared.grid.ChunkPlace.{ChunkPlace}
use Rattle.h5w_chunks.proofs.EarlyLemmas.{early_joins, rows_stand}
use Rattle.h5w_chunks.proofs.Geometry.{lt_up, quotient_of}
use Rattle.h5w_chunks.proofs.KeyLemmas.{touched_number}
use Rattle.h5w_pieces.specs.NextPlaces.{next_from, next_place, next_places, writes_behind}
use Rattle.h5w_pieces.proofs.NextPlaces.{first_places, get_dropped, next_is, next_of, places_are, touched_is, writes_next}

-- an element of a list is one of it with others behind
pub get_first : {A : Type 0} (xs ys : List A) (k : ℕ) (x : A) → slice_get xs k ≡ Some x → slice_get (xs ++ ys) k ≡ Some x
get_first [] ys k x found = cc
get_first (y ∷ xs) ys zero x found = found
get_first (y ∷ xs) ys (suc k) x found = get_first xs ys k x found

-- and back, where it is not behind
pub get_low : {A : Type 0} (xs ys : List A) (k : ℕ) (x : A) → k < length xs → slice_get (xs ++ ys) k ≡ Some x → slice_get xs k ≡ Some x
get_low [] ys k x low found = absurd (omega (arith, low))
get_low (y ∷ xs) ys zero x low found = found
get_low (y ∷ xs) ys (suc k) x low found = get_low xs ys k x (omega (arith, low)) found

-- the chunks of a band that begins before `mid` are among those that rows before `mid` touch
touched_before : (d : Described) (from mid k : ℕ) → IsCut d → 0 < chunks_across d → from < mid → band_row d from k < mid → k < touched d from mid
touched_before d from mid k cut some rises before =
    let bands = div_up mid d.layout.chunk_rows - from / d.layout.chunk_rows in
    let band = lt_up (touched_band d from k) mid d.layout.chunk_rows cut.rows before in
    let low : k < bands * chunks_across d = quotient_of k bands (chunks_across d) some (omega (arith, band)) in
    subst (λ n. k < n) (sym (touched_is d from mid rises)) low

pub goes_on : (d : Described) (from mid to : ℕ) (some more all : List ChunkPlace) → IsCut d → from < mid → length some ≡ touched d from mid → length all ≡ touched d from to → all ≡ some ++ more
    → GoesOn d from mid some (next_places d from mid all) all
goes_on d from mid to some more all cut rises early each is =
    subst (λ ps. GoesOn d from mid some ps all) (sym (places_are d from mid all rises)) own
  where
    shift : ℕ
    shift = shift_of d from mid

    across : (k : ℕ) (p : ChunkPlace) → slice_get all k ≡ Some p → 0 < chunks_across d
    across k p found = (touched_number d from to k (omega (arith, slice_get_within all k p found, each))).some

    none_before : (k : ℕ) → 0 + k ≡ k
    none_before k = omega arith

    own : GoesOn d from mid some (next_from d mid 0 (drop shift all)) all
    own = record {
      first = λ k p found. subst (λ ps. slice_get ps k ≡ Some p) (sym is) (get_first some more k p found);
      known = λ k p found before.
          let low = touched_before d from mid k cut (across k p found) rises before in
          get_low some more k p (omega (arith, low, early)) (subst (λ ps. slice_get ps k ≡ Some p) is found);
      next = λ k p found.
          let here = next_is d mid 0 k (drop shift all) p (get_dropped shift k all ∙ found) in
          (next_place d mid k p, here ∙ ap (λ i. Some (next_place d mid i p)) (none_before k), writes_next d mid k p);
      back = λ k q found.
          let n = next_of d mid 0 k (drop shift all) q found in
          (n.place, sym (get_dropped shift k all) ∙ n.found, subst (WritesNext d mid k n.place) (sym (n.is ∙ ap (λ i. next_place d mid i n.place) (none_before k))) (writes_next d mid k n.place));
    }

-- ---- All rows

-- Rows stand that were written early, and those behind them are written, if there are some: then all of them stand. Each chunk that they go into
-- has its place, first those of the early rows.
pub all_stand : (img : List ℕ) (d : Described) (old new : List ℕ) (from mid to : ℕ) (some more all : List ChunkPlace) (ws : List Write) → IsCut d → from ≤ mid → mid ≤ to → from < to
    → length old ≡ (mid - from) * d.shape.cols * d.int_type.size → length new ≡ (to - mid) * d.shape.cols * d.int_type.size → length some ≡ touched d from mid → length all ≡ touched d from to → all ≡ some ++ more
    → RowsStand img d old from mid some [] → ws ≡ writes_behind d new from mid to all → (mid < to → RowsWritten d new mid to (next_places d from mid all) ws) → ChunksApart d all
    → RowsStand img d (old ++ new) from to all ws
all_stand img d old new from mid to some more all ws cut low high rises old_count new_count early each is stand exact written apart = go (cases_lt from mid) (cases_lt mid to)
  where
    none_times : (n a b : ℕ) → n ≡ 0 → n * a * b ≡ 0
    none_times n a b none = ap (λ x. x * a * b) none ∙ omega arith

    go : (from < mid) ⊎ (mid ≤ from) → (mid < to) ⊎ (to ≤ mid) → RowsStand img d (old ++ new) from to all ws
    -- some were written early, and some were not
    go (inl begun) (inl rest) = early_joins img d old new from mid to some (next_places d from mid all) all ws cut low high old_count stand (written rest) (goes_on d from mid to some more all cut begun early each is) apart
    -- all were
    go (inl begun) (inr past) =
        let same : mid ≡ to = omega (arith, high, past) in
        let no_new : new ≡ [] = nil_from_length new (new_count ∙ none_times (to - mid) d.shape.cols d.int_type.size (omega (arith, past))) in
        let no_more : more ≡ [] = nil_from_length more (let sum = ap length is ∙ length-append some more in let all_early = ap (touched d from) same in omega (arith, sum, each, early, all_early)) in
        let no_writes : ws ≡ [] = exact ∙ cond-false (nat_lt mid to) (new_writes d new mid to (next_places d from mid all)) [] (le-ltb mid to past) in
        let cells : old ++ new ≡ old = ap (λ bs. old ++ bs) no_new ∙ append-nil old in
        let places : all ≡ some = is ∙ ap (λ ps. some ++ ps) no_more ∙ append-nil some in
        subst (λ vs. RowsStand img d (old ++ new) from to all vs) (sym no_writes)
        (subst (λ ps. RowsStand img d (old ++ new) from to ps []) (sym places)
        (subst (λ bs. RowsStand img d bs from to some []) (sym cells)
        (subst (λ n. RowsStand img d old from n some []) same stand)))
    -- none was
    go (inr none) rest =
        let same : mid ≡ from = omega (arith, low, none) in
        let no_old : old ≡ [] = nil_from_length old (old_count ∙ none_times (mid - from) d.shape.cols d.int_type.size (omega (arith, none))) in
        let places : next_places d from mid all ≡ all = ap (λ n. next_places d from n all) same ∙ first_places d from all in
        let own : RowsWritten d new mid to all ws = subst (λ ps. RowsWritten d new mid to ps ws) places (written (omega (arith, none, rises))) in
        subst (λ bs. RowsStand img d (bs ++ new) from to all ws) (sym no_old) (rows_stand img d new from to all ws (subst (λ n. RowsWritten d new n to all ws) same own) apart)
