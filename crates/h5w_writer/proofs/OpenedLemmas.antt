-- A session over a file that was opened stands for the log without events.
use Rattle.std.proofs.Common.{◌≡◌, ℕ, ◌+◌, ◌-◌, ◌*◌, ◌<◌, ◌≤◌, List, [], ◌∷◌, ◌++◌, length, get_or, ℤ, refl, sym, ap, ◌∙◌, subst, inl, inr, arith, length-append}
use Rattle.std.proofs.lemmas.Nat.{mul-le}
use Rattle.h5w_model.specs.Datasets.{Described}
use Rattle.h5w_model.specs.Findings.{Summary, Valid}
use Rattle.h5w_model.specs.Logs.{Log, div_up, rows_in}
use Rattle.h5w_model.specs.Numbers.{range}
use Rattle.h5w_model.specs.Tables.{Reads, Shows, chunks_across, format_limits, needed}
use Rattle.h5w_step_laws.specs.Logs.{Goes, image_now}
use Rattle.h5w_step_laws.specs.Moments.{Moment, Represents, reading_of}
use Rattle.h5w_step_laws.proofs.GoesLemmas.{image_last}
use Rattle.h5w_step_laws.proofs.MomentLemmas.{few, super_parts}
use Rattle.h5w_step_laws.proofs.SessionLaws.{goes_runs, opened_goes}
use Rattle.h5w_cache.specs.Stores.{times}
use Rattle.h5w_chunks.specs.Shares.{first_line}
use Rattle.h5w_chunks.specs.declared.grid.ChunkPlace.{ChunkPlace}
use Rattle.h5w_step_laws.specs.Needed.{AreFew}
use Rattle.h5w_index.specs.Views.{IndexView, IsClean, IsReached, an_array, a_tree, address_in}
use Rattle.h5w_index.specs.Flushes.{Rests}
use Rattle.h5w_index.proofs.MarkLemmas.{mark_laws}
use Rattle.h5w_creation_laws.specs.CreatedFiles.{CreatedFile, created_blocks, header_block, index_blocks, root_block, super_block}
use Rattle.h5w_writer.specs.Early.{HasEarly}
use Rattle.h5w_writer.specs.Loads.{end_in, first_end_of}
use Rattle.h5w_writer.specs.Openings.{IsOver, OverLaws, opened_log}
use Rattle.h5w_writer.specs.PartLaws.{RunsAs}
use Rattle.h5w_writer.specs.Past.{AllAddressed, IsNew, Past}
use Rattle.h5w_writer.specs.Sessions.{AreReached, Session, rows_of, with_rows}
use Rattle.h5w_writer.specs.Reaches.{FileFinds}
use Rattle.h5w_writer.specs.Stands.{Running, Stands}
use Rattle.h5w_writer.proofs.AddressedLemmas.{shown_addressed}
use Rattle.h5w_writer.proofs.CreatingLemmas.{no_cells}
use Rattle.h5w_writer.proofs.EarlyLemmas.{nothing_early}
use Rattle.h5w_writer.proofs.RestLemmas.{array_six}
use Rattle.h5w_writer.proofs.StandLemmas.{flagged_stands, goes_rows}
use Rattle.h5w_writer.proofs.StartKinds.{blank_none}
use Rattle.h5w_writer.proofs.StateLemmas.{up_few}

-- the end-of-file address of what was opened
first_end_is : (img name : List ℕ) (m : Moment) (columns : ℕ) (values : List ℤ) → Represents img name m → first_end_of (opened_log img columns values) ≡ m.super.end
first_end_is img name m columns values r = ap end_in (super_parts (length img) (range img 0 48) m.super r.super).read

-- a reader finds a new file behind some pieces
some_blocks : (f : CreatedFile) → 3 ≤ length (created_blocks f)
some_blocks f = let count = length-append (index_blocks f.index f) (header_block f ∷ root_block f ∷ super_block f ∷ []) in omega (arith, count)

module _ (s : Session) (img : List ℕ) (rows columns : ℕ) (values : List ℤ) (sm : Summary) (m : Moment) (valid : Valid img s.name sm) (reads : Reads img s.name rows columns values) (some : 0 < columns)
    (same : m.values ≡ values) (goes : Goes s.name (opened_log img columns values) m m.behind) (b : IsOver s img m) where
  abbrev log : Log
  log = opened_log img columns values

  not_new : {A : Type 0} → IsNew log → A
  not_new new = let first : 0 ≡ length (created_blocks new.file) = ap (λ (l : Log). l.first) new.log_is in absurd (omega (arith, first, some_blocks new.file))

  -- all rows were there before
  first_rows : rows_in log values ≡ s.dataset.shape.rows
  first_rows = goes_rows s.name log m m.behind goes ∙ ap (λ (d : Described). d.shape.rows) b.keeps.dataset

  -- where there were no values no chunk was needed
  none_lacks : values ≡ [] → AllAddressed (reading_of m)
  none_lacks bare k below =
      let rows : ℕ = m.dataset.shape.rows in
      let cols : ℕ = m.dataset.shape.cols in
      let none : rows * cols ≡ 0 = sym goes.now.count ∙ ap length (same ∙ bare) in
      let few : rows * 1 ≤ rows * cols = mul-le rows 1 rows cols (omega arith) (omega (arith, goes.columns, some)) in
      let counted : 0 < m.dataset.layout.chunk_rows = subst (λ (d : Described). 0 < d.layout.chunk_rows) (sym b.keeps.dataset) b.counted.rows in
      let bands : div_up rows m.dataset.layout.chunk_rows ≡ 0 = omega (arith, none, few, up_few rows m.dataset.layout.chunk_rows counted) in
      let all : needed m.dataset ≡ 0 = ap (λ (n : ℕ). n * chunks_across m.dataset) bands ∙ omega arith in
      absurd (omega (arith, below, all))

  -- readers look for each chunk that HDF5's library found before
  opened_reached : FileFinds img s.name → AreReached s
  opened_reached finds key low there =
      elim b.index [
        | inr none ↦ absurd (there (blank_none s.index none.blank key))
        | inl rest ↦ by s.index refl rest
      ]
    where
      by : (v : IndexView) → s.index ≡ v → Rests img m (λ k. address_in s.index k) s.places s.index → IsReached s.index key
      by (a_tree place v) e rest = subst (λ (w : IndexView). IsReached w key) (sym e) tt
      by (an_array v) e rest =
          let of_array : Rests img m (λ k. address_in s.index k) s.places (an_array v) = subst (λ (w : IndexView). Rests img m (λ k. address_in s.index k) s.places w) e rest in
          let clean : v.changed ≡ [] = subst IsClean e b.clean in
          let six = array_six img m (λ k. address_in s.index k) s.places v of_array (ap (times 846) clean) in
          let needed : key.i < first_line m.dataset (div_up m.dataset.shape.rows m.dataset.layout.chunk_rows) = subst (λ (d : Described). key.i < first_line d (div_up d.shape.rows d.layout.chunk_rows)) (sym b.keeps.dataset) low in
          let found = finds m (λ k. address_in s.index k) goes.now b.knows.index of_array.kind key needed there in
          subst (λ (w : IndexView). IsReached w key) (sym e) (omega (arith, found, ap (λ l. get_or l 4 0) six))

  past : Past s [] log m
  past =
      let end = first_end_is img s.name m columns values goes.now in
      record {
        begun = inr (record { summary = sm; valid = valid; rows = rows; reads = reads; some_columns = some; first = refl });
        counted = b.counted;
        limit_low = b.limit_low;
        limit_high = b.limit_high;
        addressed = λ bare p r at seen. shown_addressed (image_now log) s.name m r goes.now (none_lacks bare) (subst (λ (i : List ℕ). Shows format_limits i s.name r) (image_last log p (omega arith)) seen);
        next = none_lacks;
        own = λ new. not_new new;
        reach = λ before. elim before [ inl more ↦ absurd (let first : rows_in log values ≡ s.dataset.shape.rows = first_rows in omega (arith, more, first)) | inr finds ↦ opened_reached finds ];
        grew = omega (arith, b.end, end);
        fits = omega (arith, b.end, end);
        ends = tt;
        roomy = λ new. not_new new;
      }

  -- no row was written early
  written : HasEarly s.dataset s.early s.chunks s.places img (λ key. address_in s.index key) s.places []
  written =
      let d = m.dataset in
      let rows : d.shape.rows ≡ d.shape.rows + 0 = omega arith in
      let now : AreFew (with_rows (s.dataset.shape.rows + 0) s.dataset) =
      subst (λ (x : Described). AreFew (with_rows (x.shape.rows + 0) x)) b.keeps.dataset (subst (λ (n : ℕ). AreFew (with_rows n d)) rows (few img s.name m b.knows.file)) in
      let none = nothing_early s.dataset s.places img (λ key. address_in s.index key) now in
      subst (λ (n : ℕ). HasEarly s.dataset n s.chunks s.places img (λ key. address_in s.index key) s.places []) (sym b.early)
      (subst (λ (ps : List ChunkPlace). HasEarly s.dataset 0 ps s.places img (λ key. address_in s.index key) s.places []) (sym b.chunks) none)

  pub over_running : Running s [] log
  over_running = record {
    after = m;
    address = λ key. address_in s.index key;
    held = m.behind;
    runs = goes_runs s.name log m m.behind goes (λ k. sym same);
    rest = s.places;
    knows = b.knows;
    holds = b.held;
    keeps = b.keeps;
    index = b.index;
    marks = mark_laws.clean s.dataset s.dataset.shape.rows (rows_of s) s.index b.clean;
    early = [];
    written = written;
    some = let none = b.early in omega (arith, none);
    flushing = λ e. b.early;
    more = [];
    waiting = b.waiting ∙ no_cells s.dataset;
    fit = refl;
    count = subst (λ (n : ℕ). 0 ≡ n * s.dataset.shape.cols) (let waits = b.waits in let none : 0 ≡ s.waits - s.early = omega (arith, waits) in none) (omega arith);
    appended = ap (λ (vs : List ℤ). vs ++ []) same;
    committed = goes_rows s.name log m m.behind goes ∙ ap (λ (d : Described). d.shape.rows) b.keeps.dataset ∙ sym b.committed;
    planned = λ kept still. b.committed;
    columns = ap (λ (d : Described). d.shape.cols) (sym b.keeps.dataset) ∙ goes.columns;
    past = past;
  }

  pub over_as : RunsAs s [] log m (λ key. address_in s.index key) m.behind s.places
  unfolding over_running
  over_as = record { running = over_running; after = refl; address_is = refl; held_is = refl; rest_is = refl }

  pub over_stands : Stands s log
  over_stands = record { left = []; dropped = inl (sym b.idle); phase = inr over_running; prefixed = goes.prefixed; still = goes.still }

pub over_laws : OverLaws
over_laws = record {
  over = λ img name rows columns values sm valid reads some.
      let g = opened_goes img name rows columns values sm valid reads some in (
        g.0,
        g.2.now,
        λ s named over.
            let own : (n : List ℕ) → s.name ≡ n → Valid img n sm → Reads img n rows columns values → Goes n (opened_log img columns values) g.0 g.0.behind → Stands s (opened_log img columns values) = λ n e v r goes.
            over_stands s img rows columns values sm g.0 (subst (λ (x : List ℕ). Valid img x sm) (sym e) v) (subst (λ (x : List ℕ). Reads img x rows columns values) (sym e) r) some g.1
            (subst (λ (x : List ℕ). Goes x (opened_log img columns values) g.0 g.0.behind) (sym e) goes) over in
            own name named valid reads g.2,
      );
  rewritten = flagged_stands;
}
