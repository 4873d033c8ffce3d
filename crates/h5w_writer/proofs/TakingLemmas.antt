-- Steps of the functions that take chunks.
use Rattle.std.proofs.Common.{◌≡◌, ◌≢◌, ◌⊎◌, refl, ℕ, suc, ◌+◌, ◌*◌, ◌^◌, ◌<◌, ◌≤◌, true, false, [], ◌∷◌, ◌++◌, nat_lt, if◌then◌else◌, length, replicate, Option, Some, None, Result, Ok, Err, sym, ap, subst, ◌∙◌, inl, inr, arith}
use Rattle.std.specs.Result.{IfErr, OnErr}
use Rattle.std.specs.Option.{IfSome, option_map, unwrap_or}
use Rattle.std.proofs.lemmas.List.{length-replicate, length-take-le}
use Rattle.std.proofs.lemmas.Bool.{cases_Bool, cases_eq, cases_lt, eq-eqb, lt-ltb, ne_eqb}
use Rattle.std.specs.Prelude.{List, take, get_or}
use Rattle.std.specs.List.{slice_get}
use Rattle.std.proofs.lemmas.Option.{slice_get-get_or}
use Rattle.std.proofs.Math.Seq.{take-suc}
use Rattle.std.proofs.lemmas.Nat.{div-add-mod', mul-le}
use Rattle.std.proofs.Math.Nat.{div-le_self}
use Rattle.h5w_model.specs.Integers.{cell_bytes}
use Rattle.h5w_model.specs.Logs.{div_up}
use Rattle.h5w_model.specs.Numbers.{undefined}
use Rattle.h5w_model.specs.Datasets.{Described}
use Rattle.h5w_model.specs.Tables.{chunks_across, format_limits, keys_across, limit_of}
use Rattle.h5w_model.specs.declared.cell.Cell.{Cell}
use Rattle.h5w_model.specs.declared.cell.Key.{Key}
use Rattle.h5w_model.specs.declared.cell.IndexKind.{IndexKind}
use Rattle.h5w_model.specs.declared.cell.IndexKind.TheVariants.{Array, Tree}
use Rattle.h5w_model.proofs.IntegerLemmas.{int_size_bounds}
use Rattle.h5w_chunks.specs.Grids.{IsCut, IsGrid, chunk_len, dataset_of, fill_cell}
use Rattle.h5w_chunks.specs.Shares.{first_line, touched, touched_band, touched_key}
use Rattle.h5w_chunks.specs.declared.grid.ChunkPlace.{ChunkPlace}
use Rattle.h5w_chunks.specs.declared.grid.Grid.{Grid}
use Rattle.h5w_chunks.proofs.Geometry.{share_numbers}
use Rattle.h5w_chunks.proofs.KeyLemmas.{touched_lines, touched_low}
use Rattle.h5w_space.specs.declared.Full.{Full}
use Rattle.h5w_cache.specs.Plans.{IfFull, Took}
use Rattle.h5w_cache.specs.declared.plan.PlanError.{PlanError}
use Rattle.h5w_cache.specs.declared.plan.PlanError.TheVariants as plan
use Rattle.h5w_flush_laws.specs.EarlyRows.{IsEarlyPlace}
use Rattle.h5w_ea_index.specs.Steps.{found}
use Rattle.h5w_index.specs.Steps.{IsDeep, IsHeld, IsSet}
use Rattle.h5w_index.specs.Views.{IndexView, IsReached, IsSound, address_in}
use Rattle.h5w_index.specs.Naming.{AreNamed, AreTakenBehind}
use Rattle.h5w_index.specs.Placing.{AreInside, Fits, IsPartly, next_key}
use Rattle.h5w_index.specs.Marks.{IsTouched}
use Rattle.h5w_index.proofs.DepthLemmas.{depth_laws}
use Rattle.h5w_index.proofs.BehindLemmas.{behind_laws}
use Rattle.h5w_index.proofs.NamingLemmas.{named_before, naming_laws}
use Rattle.h5w_index.proofs.PlacingLemmas.{placing_laws}
use Rattle.h5w_index.proofs.RaisedLemmas.{raised_one}
use Rattle.h5w_index.proofs.ToldLemmas.{held_tells}
use Rattle.h5w_bt_index.specs.declared.error.InsertError.{InsertError}
use Rattle.h5w_bt_index.specs.declared.error.InsertError.TheVariants as inserts
use Rattle.h5w_space.specs.Space.{IsLive, Space, TakesPlace, extent}
use Rattle.h5w_writer.specs.Refusals.{IsSpace, insert_fault, plan_fault}
use Rattle.h5w_writer.specs.Sessions.{IsRoomy, most_lines}
use Rattle.h5w_writer.specs.declared.refusal.FlushError.{FlushError}
use Rattle.h5w_writer.specs.declared.refusal.FlushError.TheVariants as flushes

-- what holds anyway holds of an error
pub on_err : {T E P : Type 0} (r : Result T E) → P → OnErr r P
on_err (Ok x) p = tt
on_err (Err e) p = p

pub found_some : (a x : ℕ) → found a ≡ Some x → (a ≡ x) × (a ≢ undefined)
found_some a x is =
    elim (cases_eq a undefined) [
      | inl e ↦
          let none : found a ≡ None = ap (λ b. if b then None else Some a) (eq-eqb a undefined e) in
          let clash : Some x ≡ None = sym is ∙ none in
          absurd cc
      | inr ne ↦
          let some : found a ≡ Some a = ap (λ b. if b then None else Some a) (ne_eqb a undefined ne) in
          let same : Some a ≡ Some x = sym some ∙ is in
          (cc, ne)
    ]

pub found_none : (a : ℕ) → found a ≡ None → a ≡ undefined
found_none a is =
    elim (cases_eq a undefined) [
      | inl e ↦ e
      | inr ne ↦
          let some : found a ≡ Some a = ap (λ b. if b then None else Some a) (ne_eqb a undefined ne) in
          let clash : Some a ≡ None = sym some ∙ is in
          absurd cc
    ]

pub not_less : (a b : ℕ) → nat_lt a b ≡ false → b ≤ a
not_less a b is =
    elim (cases_lt a b) [
      | inl less ↦ let clash : true ≡ false = sym (lt-ltb a b less) ∙ is in absurd cc
      | inr le ↦ le
    ]

-- sizes of a grid's chunks
pub record AreSizes (g : Grid) : Type 0 where
  pub rows : g.layout.chunk.0 < 2 ^ 32
  pub some : 0 < chunk_len (dataset_of g)

part : (a b : ℕ) → 1 ≤ b → a ≤ a * b
part a b some =
    let times : a * 1 ≤ a * b = mul-le a 1 a b (omega arith) some in
    omega arith

pub sizes_of : (g : Grid) → IsGrid g → AreSizes g
sizes_of g is =
    let rows = g.layout.chunk.0 in
    let cols = g.layout.chunk.1 in
    let size = g.int_type.size in
    let layout = is.chunked in
    let some_size : 1 ≤ size = (int_size_bounds size is.typed).0 in
    let one : rows ≤ rows * cols = part rows cols layout.cols in
    let two : rows * cols ≤ rows * cols * size = part (rows * cols) size some_size in
    let low : rows < 2 ^ 32 = omega (arith, layout.small, one, two) in
    let line : cols ≤ cols * size = part cols size some_size in
    let all : rows ≤ rows * (cols * size) = part rows (cols * size) (omega (arith, layout.cols, line)) in
    record { rows = low; some = omega (arith, layout.rows, all) }

-- a place that is taken is no place past all files
pub taken_small : (t next : Space) (at size : ℕ) → TakesPlace t next (extent at size) → t.end < 2 ^ 64 → t.limit ≤ 2 ^ 40 → next.end < 2 ^ 64
taken_small t next at size takes small limit = let raised = raised_one t next at size takes in omega (arith, raised.fits, raised.limit, small, limit)

pub taken_defined : (t next : Space) (at size : ℕ) → TakesPlace t next (extent at size) → IsLive next (extent at size) → 0 < size → t.end < 2 ^ 64 → t.limit ≤ 2 ^ 40 → at ≢ undefined
taken_defined t next at size takes live some small limit e = absurd (omega (arith, live.within, taken_small t next at size takes small limit, some, e))

-- a chunk in the loop over those that rows go into: it is one of them, its key is in the lines of the rows' bands, and no key is too much
pub record IsKeyIn (d : Described) (from to k : ℕ) : Type 0 where
  pub touched_is : IsTouched d from to (touched_key d from k)
  pub row : (touched_key d from k).i < first_line d (div_up to d.layout.chunk_rows)
  pub column : (touched_key d from k).j < keys_across d
  pub start : touched_band d from k * d.layout.chunk_rows < to

pub key_in : (d : Described) (from to k : ℕ) → IsCut d → k < touched d from to → IsKeyIn d from to k
key_in d from to k cut known =
    let lines = touched_lines d from to k known in
    record {
      touched_is = record { number = k; inside = known; is = refl };
      row = lines.high;
      column = lines.side;
      start = (share_numbers d from to k (chunks_across d) cut known refl).band;
    }

-- ---- The lines of a dataset's keys

pub limit_top : (k : IndexKind) → limit_of format_limits k ≤ 1000000
limit_top Array = omega arith
limit_top Tree = omega arith

-- the keys of the most lines are few
most_few : (d : Described) → most_lines d * keys_across d ≤ 1000000
most_few d =
    let parts = div-add-mod' (limit_of format_limits d.layout.index) (keys_across d) in
    omega (arith, parts, limit_top d.layout.index)

-- and so are the lines
pub lines_small : (d : Described) (lines : ℕ) → lines ≤ most_lines d → lines < 2 ^ 64
lines_small d lines few =
    let most : most_lines d ≤ limit_of format_limits d.layout.index = div-le_self (limit_of format_limits d.layout.index) (keys_across d) in
    omega (arith, few, most, limit_top d.layout.index)

-- a line of one of those
pub line_below : (line lines most : ℕ) → line < lines → lines ≤ most → line < most
line_below line lines most low few = omega (arith, low, few)

-- no key is too much for an index that has room
pub not_deep : (d : Described) (key : Key) (v : IndexView) → IsSound v → IsRoomy d v → IsDeep v key → ⊥
not_deep d key v sound roomy deep = depth_laws.shallow (most_lines d) (keys_across d) key v sound roomy (let few = most_few d in omega (arith, few)) deep

-- the next chunk of the loop
pub record IsNext (d : Described) (to : ℕ) (key : Key) (band : ℕ) (chunks : List ChunkPlace) : Type 0 where
  pub touched_is : IsTouched d d.shape.rows to key
  pub row : key.i < first_line d (div_up to d.layout.chunk_rows)
  pub column : key.j < keys_across d
  pub start : band * d.layout.chunk_rows < to
  pub number : key ≡ next_key d chunks
  pub band_is : band ≡ touched_band d d.shape.rows (length chunks)
  pub inside : length chunks < touched d d.shape.rows to

pub next_in : (d : Described) (to k n : ℕ) (key : Key) (band : ℕ) (chunks : List ChunkPlace) → IsCut d → n ≡ touched d d.shape.rows to → k < n → length chunks ≡ k → key ≡ touched_key d d.shape.rows k → band ≡ touched_band d d.shape.rows k
    → IsNext d to key band chunks
next_in d to k n key band chunks cut all low count is band_is =
    let at : key ≡ next_key d chunks = is ∙ ap (touched_key d d.shape.rows) (sym count) in
    let here : band ≡ touched_band d d.shape.rows (length chunks) = band_is ∙ ap (touched_band d d.shape.rows) (sym count) in
    let inside : length chunks < touched d d.shape.rows to = omega (arith, all, low, count) in
    let own = key_in d d.shape.rows to (length chunks) cut inside in
    record {
      touched_is = subst (IsTouched d d.shape.rows to) (sym at) own.touched_is;
      row = subst (λ (x : Key). x.i < first_line d (div_up to d.layout.chunk_rows)) (sym at) own.row;
      column = subst (λ (x : Key). x.j < keys_across d) (sym at) own.column;
      start = subst (λ (n : ℕ). n * d.layout.chunk_rows < to) (sym here) own.start;
      number = at;
      band_is = here;
      inside = inside;
    }

-- the next chunk has no address where it had none before
pub absent_before : (d : Described) (to : ℕ) (v w : IndexView) (chunks : List ChunkPlace) (added : List Key) (key : Key) → Fits d v → AreNamed d to v chunks added w → key ≡ next_key d chunks → address_in w key ≡ undefined
    → address_in v (next_key d chunks) ≡ undefined
absent_before d to v w chunks added key fits x is none = sym (named_before d to v w chunks added fits x) ∙ ap (address_in w) (sym is) ∙ none

-- it has one that it had before
pub there_before : (d : Described) (to : ℕ) (v w : IndexView) (chunks : List ChunkPlace) (added : List Key) (key : Key) (address : ℕ) → Fits d v → AreNamed d to v chunks added w → key ≡ next_key d chunks → address_in w key ≡ address
    → address_in v (next_key d chunks) ≡ address
there_before d to v w chunks added key address fits x is there = sym (named_before d to v w chunks added fits x) ∙ ap (address_in w) (sym is) ∙ there

-- ---- The next chunk gets its place

-- The index names it there already, and readers look for it from now on.
pub named_there : (d : Described) (to : ℕ) (v w u : IndexView) (chunks now : List ChunkPlace) (added : List Key) (key : Key) (p : ChunkPlace) → Fits d v → key ≡ next_key d chunks → length chunks < touched d d.shape.rows to → address_in w key ≡ p.address
    → p.address ≢ undefined → (p.stored ≡ false → d.shape.rows ≤ touched_band d d.shape.rows (length chunks) * d.layout.chunk_rows) → IsHeld key w u → IsReached u key → now ≡ chunks ++ p ∷ [] → AreNamed d to v chunks added w
    → AreNamed d to v now added u
named_there d to v w u chunks now added key p fits number inside there defined whole held looked is x =
    let told = held_tells key w u x.partly.like.sound held in
    let named : address_in u (next_key d chunks) ≡ p.address = ap (address_in u) (sym number) ∙ told.map key ∙ there in
    let touches : IsTouched d d.shape.rows to key = record { number = length chunks; inside = inside; is = number } in
    subst (λ (ps : List ChunkPlace). AreNamed d to v ps added u) (sym is)
    (naming_laws.named_stored d to v u chunks added p fits named defined whole (subst (IsReached u) number looked) (naming_laws.named_held d to key v w u chunks added touches held x))

pub taken_there : (d : Described) (to : ℕ) (v w : IndexView) (early : List ChunkPlace) (s t : Space) (chunks now : List ChunkPlace) (added : List Key) (key : Key) (p : ChunkPlace) → Fits d v → AreInside d s.end v → key ≡ next_key d chunks
    → address_in w key ≡ p.address → p.address ≢ undefined → now ≡ chunks ++ p ∷ [] → AreNamed d to v chunks added w → AreTakenBehind d (address_in v) early s chunks t → AreTakenBehind d (address_in v) early s now t
taken_there d to v w early s t chunks now added key p fits within number there defined is x y =
    let before = there_before d to v w chunks added key p.address fits x number there in
    let known : address_in v (next_key d chunks) ≢ undefined = λ e. defined (sym before ∙ e) in
    let own = within (next_key d chunks) (touched_low d d.shape.rows (length chunks) fits.some) known in
    subst (λ (ps : List ChunkPlace). AreTakenBehind d (address_in v) early s ps t) (sym is)
    (behind_laws.behind_stored d (address_in v) early s t chunks p known (omega (arith, own, before, y.raised.rises)) y)

-- The index names it for the first time.
pub named_first : (d : Described) (to : ℕ) (v w u : IndexView) (chunks now : List ChunkPlace) (added all : List Key) (key : Key) (p : ChunkPlace) → Fits d v → key ≡ next_key d chunks → length chunks < touched d d.shape.rows to
    → address_in w key ≡ undefined → p.stored ≡ false → p.address ≢ undefined → IsSet key p.address w u → now ≡ chunks ++ p ∷ [] → all ≡ added ++ key ∷ [] → AreNamed d to v chunks added w
    → AreNamed d to v now all u
named_first d to v w u chunks now added all key p fits number inside none fresh defined set is keys x =
    let made = naming_laws.named_new d to v w u chunks added p fits inside (subst (λ (k : Key). address_in w k ≡ undefined) number none) fresh defined (subst (λ (k : Key). IsSet k p.address w u) number set) x in
    let own : AreNamed d to v (chunks ++ p ∷ []) (added ++ key ∷ []) u = subst (λ (k : Key). AreNamed d to v (chunks ++ p ∷ []) (added ++ k ∷ []) u) (sym number) made in
    subst (λ (ps : List ChunkPlace). AreNamed d to v ps all u) (sym is) (subst (λ (ks : List Key). AreNamed d to v (chunks ++ p ∷ []) ks u) (sym keys) own)

pub taken_first : (d : Described) (to : ℕ) (v w : IndexView) (early : List ChunkPlace) (s t next : Space) (chunks now : List ChunkPlace) (added : List Key) (key : Key) (p : ChunkPlace) → Fits d v → 0 < chunk_len d → key ≡ next_key d chunks
    → address_in w key ≡ undefined → Took t next (extent p.address (chunk_len d)) → now ≡ chunks ++ p ∷ [] → AreNamed d to v chunks added w → AreTakenBehind d (address_in v) early s chunks t → AreTakenBehind d (address_in v) early s now next
taken_first d to v w early s t next chunks now added key p fits some number none took is x y =
    subst (λ (ps : List ChunkPlace). AreTakenBehind d (address_in v) early s ps next) (sym is)
    (behind_laws.behind_new d (address_in v) early s t next chunks p some (absent_before d to v w chunks added key fits x number none) took y)

-- The call is refused: before the index was asked, or by the index.
pub partly_kept : (d : Described) (to : ℕ) (v w : IndexView) (added now : List Key) → now ≡ added → IsPartly d to v added w → IsPartly d to v now w
partly_kept d to v w added now keys x = subst (λ (ks : List Key). IsPartly d to v ks w) (sym keys) x

pub partly_refused : (d : Described) (to : ℕ) (key : Key) (v w u : IndexView) (added now : List Key) → IsHeld key w u → now ≡ added → IsPartly d to v added w → IsTouched d d.shape.rows to key → IsPartly d to v now u
partly_refused d to key v w u added now held keys x touches = partly_kept d to v u added now keys (placing_laws.held d to key v w u added touches held x)

-- A chunk that was written early is where the index names it, or the index does not know it.
pub early_there : (d : Described) (to : ℕ) (v w : IndexView) (chunks : List ChunkPlace) (added : List Key) (key : Key) (p : ChunkPlace) → Fits d v → AreNamed d to v chunks added w → key ≡ next_key d chunks → address_in w key ≢ undefined
    → IsEarlyPlace d (address_in v) d.shape.rows (length chunks) p → (address_in w key ≡ p.address) × (p.stored ≡ false → d.shape.rows ≤ touched_band d d.shape.rows (length chunks) * d.layout.chunk_rows)
early_there d to v w chunks added key p fits x number known e =
    let before : address_in v (next_key d chunks) ≡ address_in w key = there_before d to v w chunks added key (address_in w key) fits x number refl in
    let there : address_in v (next_key d chunks) ≢ undefined = λ none. known (sym before ∙ none) in
    (sym before ∙ sym (e.kept there), λ fresh. e.whole fresh there)

pub early_first : (d : Described) (to : ℕ) (v w : IndexView) (chunks : List ChunkPlace) (added : List Key) (key : Key) (p : ChunkPlace) → Fits d v → AreNamed d to v chunks added w → key ≡ next_key d chunks → address_in w key ≡ undefined
    → IsEarlyPlace d (address_in v) d.shape.rows (length chunks) p → p.stored ≡ false
early_first d to v w chunks added key p fits x number none e =
    elim (cases_Bool p.stored) [
      | inl stored ↦ absurd (e.stored stored (absent_before d to v w chunks added key fits x number none))
      | inr fresh ↦ fresh
    ]

-- so many of the first
pub taken_long : (early chunks : List ChunkPlace) (k : ℕ) → chunks ≡ take k early → k ≤ length early → length chunks ≡ k
taken_long early chunks k is low = ap length is ∙ length-take-le k early low

-- The next of the chunks that were written early, in the loop that names them.
pub record IsEarlyNext (d : Described) (to k : ℕ) (v : IndexView) (early : List ChunkPlace) (key : Key) (p : ChunkPlace) (chunks : List ChunkPlace) : Type 0 where
  pub next : IsNext d to key (touched_band d d.shape.rows (length chunks)) chunks
  pub place : IsEarlyPlace d (address_in v) d.shape.rows (length chunks) p
  pub pushed : chunks ++ p ∷ [] ≡ take (k + 1) early

pub early_next : (d : Described) (to k n : ℕ) (v : IndexView) (early : List ChunkPlace) (key : Key) (chunks : List ChunkPlace) → IsCut d → length early ≤ touched d d.shape.rows to
    → ((j : ℕ) (p : ChunkPlace) → slice_get early j ≡ Some p → IsEarlyPlace d (address_in v) d.shape.rows j p) → chunks ≡ take k early → k < length early → n ≡ length chunks → key ≡ touched_key d d.shape.rows n
    → IsEarlyNext d to k v early key (get_or early k (record { address = 0; stored = false })) chunks
early_next d to k n v early key chunks cut known places is low count is_key =
    let p : ChunkPlace = get_or early k (record { address = 0; stored = false }) in
    let long = taken_long early chunks k is (omega (arith, low)) in
    let found : slice_get early k ≡ Some p = slice_get-get_or early k (record { address = 0; stored = false }) low in
    record {
      next = next_in d to (length chunks) (touched d d.shape.rows to) key (touched_band d d.shape.rows (length chunks)) chunks cut refl (omega (arith, long, low, known)) refl
          (is_key ∙ ap (touched_key d d.shape.rows) count) refl;
      place = subst (λ (j : ℕ). IsEarlyPlace d (address_in v) d.shape.rows j p) (sym long) (places k p found);
      pushed = ap (λ (cs : List ChunkPlace). cs ++ p ∷ []) is ∙ sym (take-suc early k (record { address = 0; stored = false }) low) ∙ ap (λ (j : ℕ). take j early) (let e : suc k ≡ k + 1 = omega arith in e);
    }

-- what a plan says of a block without a place, where a flush tells it
pub full_of : {T : Type 0} (e : PlanError) (full : Full) (P : Full → Type 0) → ◌≡◌ {A = Result T FlushError} (Err (plan_fault e)) (Err (flushes.Space full)) → IfFull e P → P full
full_of (plan.Full f) full P is told = let same : f ≡ full = cc in subst P same told
full_of plan.OutOfMemory full P is told = absurd cc

-- where the index has room there are no other causes
pub shallow_causes : {T : Type 0} (e : FlushError) (r : Result T FlushError) → r ≡ Err e → IsSpace e ⊎ ((e ≡ flushes.Deep) ⊎ (e ≡ flushes.OutOfMemory)) → (e ≡ flushes.Deep → ⊥) → IfErr r (λ f. IsSpace f ⊎ (f ≡ flushes.OutOfMemory))
shallow_causes e r is (inl space) shallow = rw is (inl space)
shallow_causes e r is (inr (inl deep)) shallow = absurd (shallow deep)
shallow_causes e r is (inr (inr memory)) shallow = rw is (inr memory)

-- what the index refuses is not refused for want of room in the file
pub named_not_full : {T : Type 0} (r : Result T FlushError) (full : Full) → IfErr r (λ e. (e ≡ flushes.Deep) ⊎ (e ≡ flushes.OutOfMemory)) → r ≡ Err (flushes.Space full) → ⊥
named_not_full r full causes is = go (subst (λ q. IfErr q (λ e. (e ≡ flushes.Deep) ⊎ (e ≡ flushes.OutOfMemory))) is causes)
  where
    go : (flushes.Space full ≡ flushes.Deep) ⊎ (flushes.Space full ≡ flushes.OutOfMemory) → ⊥
    go (inl e) = cc
    go (inr e) = cc

pub insert_deep : {T P : Type 0} (e : InsertError) → ◌≡◌ {A = Result T FlushError} (Err (insert_fault e)) (Err flushes.Deep) → (e ≡ inserts.Deep → P) → P
insert_deep inserts.Deep is told = told refl
insert_deep inserts.OutOfMemory is told = absurd cc

-- the fill of a grid has the size of a value
pub filled_cell : (g : Grid) → IsGrid g → length (fill_cell (dataset_of g)) ≡ g.int_type.size
filled_cell g is = go g.fill.value is.filled
  where
    go : (o : Option Cell) → IfSome o (λ (c : Cell). (c.size ≡ g.int_type.size) × (length (cell_bytes c) ≡ g.int_type.size)) → length (unwrap_or (option_map cell_bytes o) (replicate g.int_type.size 0)) ≡ g.int_type.size
    go None tells = length-replicate g.int_type.size 0
    go (Some c) tells = tells.1
