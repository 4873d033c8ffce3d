-- The header piece of a flush.
use Rattle.std.proofs.Common.{◌≡◌, ℕ, List, [], ◌∷◌, ◌++◌, Option, Some, None, Result, Ok, refl, sym, ◌∙◌, ap, subst}
use Rattle.std.proofs.lemmas.Bool.{cond-true, eq-eqb}
use Rattle.std.specs.Prelude.{map, ◌==◌}
use Rattle.h5w_model.specs.Numbers.{undefined}
use Rattle.h5w_model.specs.Images.{apply, image}
use Rattle.h5w_model.specs.Programs.{ret, eval}
use Rattle.h5w_model.specs.Datasets.{Described}
use Rattle.h5w_model.specs.Tables.{InPlace, table_of, needed_keys}
use Rattle.h5w_model.specs.Findings.{Used, Finding, chunk_bytes}
use Rattle.h5w_model.specs.declared.cell.Key.{Key}
use Rattle.h5w_model.specs.declared.refusal.ReadError.{ReadError}
use Rattle.h5w_model.specs.declared.piece.Write.{Write}
use Rattle.h5w_model.proofs.ImageLemmas.{image-append}
use Rattle.h5w_step_laws.specs.Ranges.{Among}
use Rattle.h5w_step_laws.specs.Indexes.{IsIndex, behind_visit}
use Rattle.h5w_step_laws.proofs.RangeLemmas.{among_left}
use Rattle.h5w_step_laws.proofs.IndexLaws.{index_as}
use Rattle.h5w_step_laws.proofs.NeededLaws.{by_blocks}
use Rattle.h5w_space.specs.Space.{Space}
use Rattle.h5w_step_laws.specs.Files.{chunk_0, commit_at, LayoutInChunk0}
use Rattle.h5w_step_laws.proofs.FileLaws.{growing_header, starting_header}
use Rattle.h5w_step_laws.proofs.StepLaws.{growing_step, starting_step}
use Rattle.h5w_step_laws.specs.Moments.{Moment, Represents, HasCells}
use Rattle.h5w_step_laws.specs.Steps.{LiesIn, Step}
use Rattle.h5w_step_laws.proofs.MomentLemmas.{few}
use Rattle.h5w_step_laws.proofs.StepRepresents.{chunk_lies}
use Rattle.h5w_step_laws.proofs.PlanLaws.{plan_leads}
use Rattle.h5w_flush_laws.specs.Knowledge.{HeldMissed, Knows}
use Rattle.h5w_flush_laws.specs.Parts.{Parts, block_writes, committed, flushed_to, early_of, copied, ended, SaysInPlace, IsFlush}
use Rattle.h5w_flush_laws.proofs.KeyLemmas.{table_behind, found_table}
use Rattle.h5w_flush_laws.proofs.EarlyLemmas.{Stage, kept_itself, cells_over}
use Rattle.h5w_flush_laws.proofs.IndexLemmas.{BehindBy, turned, turns, says_last}
use Rattle.h5w_flush_laws.proofs.CellLemmas.{all_chunks_missed}
use Rattle.h5w_flush_laws.proofs.FlushLemmas.{with_end, rows_stage, copies_stage, ended_stage, file_ended, after_apart, after_ends, behind_ended, said_ended, sized, has_chunks, cells_ended, turning}

-- the image before the header piece
abbrev pub last_image : List ℕ → Parts → List ℕ
last_image img f = image (ended img f) f.in_place

pub early_image : (img : List ℕ) (f : Parts) → image img (early_of f) ≡ last_image img f
early_image img f =
    image-append img f.writes (block_writes f.copies ++ (f.supers ++ f.in_place))
    ∙ image-append (image img f.writes) (block_writes f.copies) (f.supers ++ f.in_place)
    ∙ image-append (copied img f) f.supers f.in_place

-- What holds before the header piece, and of it, where the blocks in place say this.
pub record Before (img name : List ℕ) (m : Moment) (was : List Used) (f : Parts) (blocks : InPlace) : Type 0 where
  pub held : List Used
  pub last : Moment
  pub stage : Stage (ended img f) (with_end f.end m) was f.in_place last held
  pub place : last.place ≡ m.place
  pub step : Step (last_image img f) last held (commit_at (last_image img f) m.place f.rows f.named) (flushed_to m f) f.behind
  pub lies : LiesIn (commit_at (last_image img f) m.place f.rows f.named) m.header
  pub says : SaysInPlace (last_image img f) (committed m.dataset f.rows f.named) blocks f.fixed
  pub stands : BehindBy (last_image img f) f.end m.dataset blocks f.behind f.address
  pub layout : LayoutInChunk0 (last_image img f) m.place → LayoutInChunk0 (apply (commit_at (last_image img f) m.place f.rows f.named) (last_image img f)) m.place
  pub now : chunk_0 (apply (commit_at (last_image img f) m.place f.rows f.named) (last_image img f)) m.place ≡ (commit_at (last_image img f) m.place f.rows f.named).piece

-- ---- The rows rise, and the index is named already

pub grows : (img name : List ℕ) (m : Moment) (old : Key → ℕ) (s t : Space) (f : Parts) → (k : Knows img name m old s) → (i : IsFlush img m old s (record f { named = None }) t) → HeldMissed k.held f.writes → (held : List Used)
    → Stage (ended img f) (with_end f.end m) k.held f.in_place (turned (with_end f.end m) f.fixed f.behind f.address) held
    → SaysInPlace (last_image img f) (committed m.dataset f.rows None) i.index.blocks f.fixed
    → BehindBy (last_image img f) f.end m.dataset i.index.blocks f.behind f.address
    → HasCells (last_image img f) (flushed_to m (record f { named = None })) → Before img name m k.held (record f { named = None }) i.index.blocks
grows img name m old s t f k i missed held stage says stands cells =
    let g : Parts = record f { named = None } in
    let last : Moment = turned (with_end f.end m) f.fixed f.behind f.address in
    let now : List ℕ = last_image img f in
    let e : Described = committed m.dataset f.rows None in
    let file : Represents now name last = plan_leads (ended img f) name (with_end f.end m) last k.held held f.in_place (file_ended img name m old s t g k i missed) stage.plan in
    let found : eval now (table_of e (needed_keys e)) ≡ Ok (map f.address (needed_keys e)) = by_blocks now e i.index.blocks (needed_keys e) says.says ∙ table_behind now e i.index.blocks f.address i.few stands.answers in
    let header = growing_header now name last f.rows file i.small i.few in
    record {
      held = held;
      last = last;
      stage = stage;
      place = refl;
      step = growing_step now name last held f.rows (map f.address (needed_keys e)) f.more file i.rises i.small i.few found i.count cells;
      lies = chunk_lies last (commit_at now m.place f.rows None) header.inside;
      says = says;
      stands = stands;
      layout = header.layout;
      now = header.now;
    }

-- without a piece in place the index is as it was
pub grows_alone : (img name : List ℕ) (m : Moment) (old : Key → ℕ) (s t : Space) (f : Parts) → (k : Knows img name m old s) → (i : IsFlush img m old s (record f { named = None; in_place = [] }) t) → HeldMissed k.held f.writes
    → Before img name m k.held (record f { named = None; in_place = [] }) i.index.blocks
grows_alone img name m old s t f k i missed =
    let g : Parts = record f { named = None; in_place = [] } in
    let now : List ℕ = ended img f in
    let d : Described = m.dataset in
    let file = file_ended img name m old s t g k i missed in
    let says : SaysInPlace now (committed d f.rows None) i.index.blocks f.fixed = said_ended img name m old s t g k i missed refl in
    let stands = behind_ended img name m old s t g k i missed in
    let same_fixed : f.fixed ≡ m.fixed = says.looks ∙ sym file.index.fixed_are in
    let same_blocks : i.index.blocks ≡ file.index.blocks = one_answer i.index.blocks file.index.blocks (sym says.says ∙ file.index.read) in
    let same_behind : f.behind ≡ m.behind =
    one_list f.behind m.behind (sym stands.stands.stands ∙ ap (λ (p : InPlace). eval now (behind_visit f.end (chunk_bytes d) p)) same_blocks ∙ file.index.stands) in
    let same_table : map f.address (needed_keys d) ≡ m.table = sym (found_table now d f.address m.table (few now name (with_end f.end m) file) (record { blocks = i.index.blocks; read = says.says; answers = stands.answers }) file.table) in
    let same : turned (with_end f.end m) f.fixed f.behind f.address ≡ with_end f.end m =
    ap (λ (us : List Used). record (with_end f.end m) { fixed = us; behind = f.behind; table = map f.address (needed_keys d) }) same_fixed
    ∙ ap (λ (us : List Used). record (with_end f.end m) { behind = us; table = map f.address (needed_keys d) }) same_behind
    ∙ ap (λ (xs : List ℕ). record (with_end f.end m) { table = xs }) same_table in
    grows img name m old s t (record f { in_place = [] }) k i missed k.held (record { plan = (same, refl); header = kept_itself now m.place }) says stands (cells_ended img name m old s t g k i missed)
  where
    one_answer : (p q : InPlace) → ◌≡◌ {A = Result InPlace ReadError} (Ok p) (Ok q) → p ≡ q
    one_answer p q h = cc

    one_list : (us vs : List Used) → ◌≡◌ {A = Result (List Used) Finding} (Ok us) (Ok vs) → us ≡ vs
    one_list us vs h = cc

pub grows_turned : (img name : List ℕ) (m : Moment) (old : Key → ℕ) (s t : Space) (f : Parts) (w : Write) (ws : List Write) → (k : Knows img name m old s) → (i : IsFlush img m old s (record f { named = None; in_place = w ∷ ws }) t) → HeldMissed k.held f.writes
    → Before img name m k.held (record f { named = None; in_place = w ∷ ws }) i.index.blocks
grows_turned img name m old s t f w ws k i missed =
    let g : Parts = record f { named = None; in_place = w ∷ ws } in
    let u = turns (ended img f) name (with_end f.end m) k.held f.fixed f.behind i.index.blocks f.address w ws (turning img name m old s t g k i missed) i.index.each_says in
    let last = says_last m.dataset m.fixed i.index.blocks f.fixed (ended img f) w ws i.index.each_says in
    grows img name m old s t (record f { in_place = w ∷ ws }) k i missed u.after u.stage (record { says = last.says; looks = last.looks }) u.stands
    (cells_over (ended img f) (flushed_to m g) (w ∷ ws) (sized img name m old s t g k i missed).size
    (all_chunks_missed (w ∷ ws) (flushed_to m g) (has_chunks img name m old s t g k i missed) (λ v a chunk. u.misses v a)) (cells_ended img name m old s t g k i missed))

-- ---- The header names the index for the first time

pub starts : (img name : List ℕ) (m : Moment) (old : Key → ℕ) (s t : Space) (f : Parts) (a : ℕ) → (k : Knows img name m old s) → (i : IsFlush img m old s (record f { named = Some a; in_place = [] }) t) → HeldMissed k.held f.writes
    → Before img name m k.held (record f { named = Some a; in_place = [] }) i.index.blocks
starts img name m old s t f a k i missed =
    let g : Parts = record f { named = Some a; in_place = [] } in
    let last : Moment = with_end f.end m in
    let now : List ℕ = ended img f in
    let e : Described = committed m.dataset f.rows (Some a) in
    let file = file_ended img name m old s t g k i missed in
    let says : SaysInPlace now e i.index.blocks f.fixed = said_ended img name m old s t g k i missed refl in
    let stands = behind_ended img name m old s t g k i missed in
    let index : IsIndex now f.end e f.fixed f.behind = index_as now f.end e i.index.blocks f.fixed f.behind says.looks says.says (λ u b. after_ends img name m old s t g k i missed u (among_left u f.fixed f.behind b)) stands.stands.stands in
    let found : eval now (table_of e (needed_keys e)) ≡ Ok (map f.address (needed_keys e)) = by_blocks now e i.index.blocks (needed_keys e) says.says ∙ table_behind now e i.index.blocks f.address i.few stands.answers in
    let stage_rows = rows_stage img name m old s t g k i missed in
    let stage_copies = copies_stage img name m old s t g k i missed in
    let stage_end = ended_stage img name m old s t g k i missed in
    let own : LayoutInChunk0 now m.place = stage_end.header.layout (stage_copies.header.layout (stage_rows.header.layout (k.layout i.named.0))) in
    let header = starting_header now name last f.rows a file i.named.0 own i.small i.named.1 i.few in
    record {
      held = k.held;
      last = last;
      stage = record { plan = (refl, refl); header = kept_itself now m.place };
      place = refl;
      step = starting_step now name last k.held f.rows a e f.fixed f.behind (map f.address (needed_keys e)) f.more file refl i.named.0 own i.rises i.small i.named.1 i.few index.checked says.looks
          (after_apart img name m old s t g k i missed) found i.count (cells_ended img name m old s t g k i missed);
      lies = chunk_lies last (commit_at now m.place f.rows (Some a)) header.inside;
      says = says;
      stands = stands;
      layout = header.layout;
      now = header.now;
    }

-- an index without an address has no blocks in place
pub nothing_fixed : (img : List ℕ) (end : ℕ) (d : Described) (fixed behind : List Used) → d.layout.address ≡ undefined → IsIndex img end d fixed behind → (u : Used) → Among u fixed → ⊥
nothing_fixed img end d fixed behind e i u a =
    let empty : [] ≡ fixed ++ behind = no_ranges (fixed ++ behind) (sym (ap (eval img) (cond-true (d.layout.address == undefined) (ret (Ok [])) _ (eq-eqb d.layout.address undefined e))) ∙ i.checked) in
    subst (λ (us : List Used). Among u us → ⊥) empty (λ x. x) (among_left u fixed behind a)
  where
    no_ranges : (us : List Used) → ◌≡◌ {A = Result (List Used) Finding} (Ok []) (Ok us) → [] ≡ us
    no_ranges us h = cc

-- ---- Each flush

pub before_header : (img name : List ℕ) (m : Moment) (old : Key → ℕ) (s t : Space) (f : Parts) (named : Option ℕ) (ws : List Write) → (k : Knows img name m old s) → (i : IsFlush img m old s (record f { named = named; in_place = ws }) t) → HeldMissed k.held f.writes
    → Before img name m k.held (record f { named = named; in_place = ws }) i.index.blocks
before_header img name m old s t f None [] k i missed = grows_alone img name m old s t f k i missed
before_header img name m old s t f None (w ∷ ws) k i missed = grows_turned img name m old s t f w ws k i missed
before_header img name m old s t f (Some a) [] k i missed = starts img name m old s t f a k i missed
before_header img name m old s t f (Some a) (w ∷ ws) k i missed =
    absurd (nothing_fixed img m.super.end m.dataset m.fixed m.behind i.named.0 k.file.index i.index.each_says.0.used i.index.each_says.0.among)
