-- Rows that all go into one chunk that has its place.
use Rattle.std.proofs.Common.{◌≡◌, refl, ℕ, ◌+◌, ◌-◌, ◌*◌, ◌/◌, ◌%◌, ◌<◌, ◌≤◌, nat_lt, [], ◌∷◌, Option, Some, None, sym, ap, ◌∙◌, subst, inl, inr, arith}
use Rattle.std.specs.Option.{IfNone, IfSome}
use Rattle.std.proofs.lemmas.Bool.{cases_lt, cond-false, le-ltb}
use Rattle.h5w_model.specs.Datasets.{Described}
use Rattle.h5w_model.specs.Logs.{div_up}
use Rattle.h5w_model.specs.Tables.{chunks_across}
use Rattle.h5w_model.specs.declared.cell.IndexKind.{IndexKind}
use Rattle.h5w_model.specs.declared.cell.IndexKind.TheVariants.{Array, Tree}
use Rattle.h5w_chunks.specs.declared.grid.ChunkPlace.{ChunkPlace}
use Rattle.h5w_chunks.specs.Shares.{share_of, touched, touched_band, touched_key}
use Rattle.h5w_chunks.specs.Grids.{IsCut}
use Rattle.h5w_chunks.proofs.Geometry.{lt_up, up_lt}
use Rattle.h5w_chunks.proofs.KeyLemmas.{array_key, key_at, tree_key}
use Rattle.h5w_flush_laws.proofs.NewChunkLemmas.{touched_is}
use Rattle.h5w_pieces.proofs.AllIn.{one_across, one_factor, one_part, part_of_one}
use Rattle.h5w_index.specs.Placing.{IsPlacing}
use Rattle.h5w_writer.specs.Sessions.{Session, rows_of}
use Rattle.h5w_writer.specs.Flushes.{touched_by}

pub map_some : {A : Type 0} {P Q : A → Type 0} (o : Option A) → ((x : A) → P x → Q x) → IfSome o P → IfSome o Q
map_some None f p = tt
map_some (Some x) f p = f x p

-- what follows of what holds if there is none
pub map_none : {A P Q : Type 0} (o : Option A) → (P → Q) → IfNone o P → IfNone o Q
map_none None f p = f p
map_none (Some x) f p = tt

-- the chunk in the session's own words
pub placing_in : (v s : Session) (to : ℕ) (p : ChunkPlace) → v ≡ s → to ≡ rows_of s → IsPlacing v.dataset to v.index v.places (p ∷ []) [] v.index v.places
    → IsPlacing s.dataset (rows_of s) s.index s.places (p ∷ []) [] s.index s.places
placing_in v s to p same is x =
    subst (λ (u : Session). IsPlacing u.dataset (rows_of u) u.index u.places (p ∷ []) [] u.index u.places) same
    (subst (λ (n : ℕ). IsPlacing v.dataset n v.index v.places (p ∷ []) [] v.index v.places) (is ∙ ap rows_of (sym same)) x)

-- how many chunks the rows go into, in the session's own words
pub touched_in : (v s : Session) (to n : ℕ) → v ≡ s → to ≡ rows_of s → touched v.dataset v.dataset.shape.rows to ≡ n → touched_by s ≡ n
touched_in v s to n same is all =
    ap touched_by (sym same) ∙ ap (touched v.dataset v.dataset.shape.rows) (ap rows_of same ∙ sym is) ∙ all

-- and from them
pub touched_from : (v s : Session) (to n : ℕ) → v ≡ s → to ≡ rows_of s → touched_by s ≡ n → touched v.dataset v.dataset.shape.rows to ≡ n
touched_from v s to n same is all =
    ap (touched v.dataset v.dataset.shape.rows) (is ∙ ap rows_of (sym same)) ∙ ap touched_by same ∙ all

-- ---- One chunk alone

-- rows of one band go into one chunk where the dataset has one side by side
pub touched_alone : (d : Described) (from to : ℕ) → IsCut d → from < to → to ≤ from / d.layout.chunk_rows * d.layout.chunk_rows + d.layout.chunk_rows → 0 < d.shape.cols → d.shape.cols ≤ d.layout.chunk_cols → touched d from to ≡ 1
touched_alone d from to cut some inside wide narrow =
    let rows = d.layout.chunk_rows in
    let i = from / rows in
    let below = lt_up i to rows cut.rows (omega arith) in
    let bands : div_up to rows - i ≡ 1 = elim (cases_lt (i + 1) (div_up to rows)) [
      | inl past ↦ absurd (omega (arith, up_lt (i + 1) to rows cut.rows past))
      | inr h ↦ omega (arith, below)
    ] in
    let across : chunks_across d ≡ 1 = one_part d.shape.cols d.layout.chunk_cols cut.cols wide narrow in
    touched_is d from to some ∙ ap (λ (n : ℕ). n * chunks_across d) bands ∙ omega (arith, across)

-- the band of that chunk
pub alone_band : (d : Described) (from to : ℕ) → touched d from to ≡ 1 → touched_band d from 0 ≡ from / d.layout.chunk_rows
alone_band d from to all =
    ap (λ (n : ℕ). from / d.layout.chunk_rows + 0 / n) (one_across d from to all) ∙ (let e : from / d.layout.chunk_rows + 0 ≡ from / d.layout.chunk_rows = omega arith in e)

-- and its key, by either kind of index
pub alone_key : (d : Described) (from to : ℕ) → touched d from to ≡ 1 → touched_key d from 0 ≡ key_at (from / d.layout.chunk_rows) 0
alone_key d from to all = by d.layout.index refl
  where
    across : chunks_across d ≡ 1
    across = one_across d from to all

    first : (n : ℕ) → n * 1 + 0 ≡ n
    first n = omega arith

    by : (k : IndexKind) → d.layout.index ≡ k → touched_key d from 0 ≡ key_at (from / d.layout.chunk_rows) 0
    by Array kind =
        array_key d (from / d.layout.chunk_rows * chunks_across d + 0) kind
        ∙ ap (λ (n : ℕ). key_at (from / d.layout.chunk_rows * n + 0) 0) across
        ∙ ap (λ (n : ℕ). key_at n 0) (first (from / d.layout.chunk_rows))
    by Tree kind =
        tree_key d from 0 kind (omega (arith, across))
        ∙ ap (λ (n : ℕ). key_at (from / d.layout.chunk_rows + 0 / n) (0 % n)) across
        ∙ ap (λ (n : ℕ). key_at n 0) (let e : from / d.layout.chunk_rows + 0 ≡ from / d.layout.chunk_rows = omega arith in e)

-- rows that go into one chunk are of one band, and the dataset has one chunk side by side
pub record IsAlone (d : Described) (from to : ℕ) : Type 0 where
  pub inside : to ≤ from / d.layout.chunk_rows * d.layout.chunk_rows + d.layout.chunk_rows
  pub wide : 0 < d.shape.cols
  pub narrow : d.shape.cols ≤ d.layout.chunk_cols

pub alone_is : (d : Described) (from to : ℕ) → IsCut d → from < to → touched d from to ≡ 1 → IsAlone d from to
alone_is d from to cut some all =
    let rows = d.layout.chunk_rows in
    let i = from / rows in
    let across = one_across d from to all in
    let product : chunks_across d * (div_up to rows - i) ≡ 1 = grind (arith, touched_is d from to some, all) in
    let bands : div_up to rows - i ≡ 1 = one_factor (chunks_across d) (div_up to rows - i) product in
    record {
      inside = elim (cases_lt ((i + 1) * rows) to) [
        | inl past ↦ absurd (omega (arith, lt_up (i + 1) to rows cut.rows past, bands))
        | inr h ↦ (let split : (i + 1) * rows ≡ i * rows + rows = grind arith in omega (arith, h, split))
      ];
      wide = let low = up_lt 0 d.shape.cols d.layout.chunk_cols cut.cols (omega (arith, across)) in omega (arith, low);
      narrow = part_of_one d.shape.cols d.layout.chunk_cols cut.cols across;
    }
