-- The chunks that rows go into get their places, one after another: what each call of the index and of the places does to that.
use Rattle.std.proofs.Common.{◌≡◌, ◌≢◌, ◌⊎◌, ℕ, zero, suc, ◌+◌, ◌*◌, ◌/◌, ◌<◌, ◌≤◌, true, false, List, [], ◌∷◌, ◌++◌, length, Some, refl, sym, ap, ◌∙◌, subst, inl, inr, arith, length-append}
use Rattle.std.specs.List.{slice_get}
use Rattle.std.proofs.lemmas.Bool.{cases_Bool, cases_eq}
use Rattle.std.proofs.lemmas.Nat.{le-div, mul-le}
use Rattle.std.proofs.Math.Nat.{div-mul-le_self, div-zero}
use Rattle.std.proofs.lemmas.List.Elements.{All-nil}
use Rattle.h5w_model.specs.Numbers.{undefined}
use Rattle.h5w_model.specs.Datasets.{Described}
use Rattle.h5w_model.specs.Findings.{chunk_bytes}
use Rattle.h5w_model.specs.declared.cell.Key.{Key}
use Rattle.h5w_model.specs.declared.piece.Write.{Write}
use Rattle.h5w_space.specs.Space.{Space, extent}
use Rattle.h5w_space.specs.declared.Full.{Full}
use Rattle.h5w_cache.specs.Plans.{Took}
use Rattle.h5w_cache.specs.declared.moves.Move.{Move}
use Rattle.h5w_chunks.specs.Grids.{chunk_len}
use Rattle.h5w_chunks.specs.Shares.{first_line, touched, touched_band, touched_key}
use Rattle.h5w_chunks.proofs.KeyLemmas.{first_line_grows, touched_low}
use Rattle.h5w_chunks.specs.declared.grid.ChunkPlace.{ChunkPlace}
use Rattle.h5w_step_laws.specs.Files.{with_rows}
use Rattle.h5w_flush_laws.proofs.NewChunkLemmas.{same_len}
use Rattle.h5w_index.specs.Views.{IndexView, IsReached, IsSound, address_in, is_key}
use Rattle.h5w_index.specs.Steps.{IsBegun, IsHeld, IsPlan, IsSet, ListsOnce}
use Rattle.h5w_index.specs.declared.flush.IndexFlush.{IndexFlush}
use Rattle.h5w_index.specs.Told.{SameMap}
use Rattle.h5w_index.specs.Marks.{IsMarked, IsRaised, IsTouched}
use Rattle.h5w_index.specs.Placing.{AllPlaced, AreInside, Fits, IsPlacing, next_key}
use Rattle.h5w_index.specs.Naming.{AreNamed, AreTakenBehind}
use Rattle.h5w_index.specs.Full.{FullPartBound, IsFullPart, most_of}
use Rattle.h5w_index.specs.PlacingLaws.{PlacingLaws}
use Rattle.h5w_index.proofs.MarkLemmas.{begun_bound, full_bounds, plan_bounds}
use Rattle.h5w_index.proofs.NamingLemmas.{all_named, named_before, named_held, named_new, named_none, named_of, named_stored, placing, taken_of}
use Rattle.h5w_index.proofs.BehindLemmas.{get_joined, taken_new, taken_none, taken_stored}
use Rattle.h5w_index.proofs.PartlyLemmas.{partly_held, partly_unset, same_address}
use Rattle.h5w_index.proofs.RaisedLemmas.{raised_more, raised_on}

div_grows : (a b n : ℕ) → a ≤ b → a / n ≤ b / n
div_grows a b zero less = omega (arith, div-zero a, div-zero b)
div_grows a b (suc n) less = le-div (a / suc n) b (suc n) (omega arith) (omega (arith, div-mul-le_self a (suc n), less))

-- ---- Chunks get their places

placing_none : (d : Described) (to : ℕ) (v : IndexView) (s t : Space) → IsSound v → t.end ≡ s.end → t.free ≡ s.free → t.retired ≡ s.retired → t.limit ≡ s.limit → IsPlacing d to v s [] [] v t
placing_none d to v s t is end free retired limit =
    placing d to v v s t [] [] (named_none d to v is) (taken_none d (address_in v) s t (record { end = end; free = free; retired = retired; limit = limit }))

-- The next chunk has its place already.
placing_stored : (d : Described) (to : ℕ) (v w : IndexView) (s t : Space) (chunks : List ChunkPlace) (added : List Key) (p : ChunkPlace) → Fits d v → address_in w (next_key d chunks) ≡ p.address → p.address ≢ undefined
    → (p.stored ≡ false → d.shape.rows ≤ touched_band d d.shape.rows (length chunks) * d.layout.chunk_rows) → IsReached w (next_key d chunks) → AreInside d s.end v → IsPlacing d to v s chunks added w t → IsPlacing d to v s (chunks ++ p ∷ []) added w t
placing_stored d to v w s t chunks added p fits is defined whole looked within x =
    let n = named_of d to v w s t chunks added x in
    let before : address_in v (next_key d chunks) ≡ p.address = sym (named_before d to v w chunks added fits n) ∙ is in
    let there : address_in v (next_key d chunks) ≢ undefined = λ e. defined (sym before ∙ e) in
    let own = within (next_key d chunks) (touched_low d d.shape.rows (length chunks) fits.some) there in
    placing d to v w s t (chunks ++ p ∷ []) added (named_stored d to v w chunks added p fits is defined whole looked n)
    (taken_stored d (address_in v) s t chunks p there (omega (arith, own, before, x.raised.rises)) (taken_of d to v w s t chunks added x))

-- The next chunk has none: one is taken in the file, and the index names it.
placing_new : (d : Described) (to : ℕ) (v w u : IndexView) (s t next : Space) (chunks : List ChunkPlace) (added : List Key) (p : ChunkPlace) → Fits d v → 0 < chunk_len d → length chunks < touched d d.shape.rows to
    → address_in w (next_key d chunks) ≡ undefined → p.stored ≡ false → p.address ≢ undefined → Took t next (extent p.address (chunk_len d))
    → IsSet (next_key d chunks) p.address w u → IsPlacing d to v s chunks added w t → IsPlacing d to v s (chunks ++ p ∷ []) (added ++ next_key d chunks ∷ []) u next
placing_new d to v w u s t next chunks added p fits some low none fresh defined took set x =
    let n = named_of d to v w s t chunks added x in
    placing d to v u s next (chunks ++ p ∷ []) (added ++ next_key d chunks ∷ []) (named_new d to v w u chunks added p fits low none fresh defined set n)
    (taken_new d (address_in v) s t next chunks p some (sym (named_before d to v w chunks added fits n) ∙ none) took (taken_of d to v w s t chunks added x))

-- The blocks on the way to one that has its place are there.
placing_holds : (d : Described) (to : ℕ) (key : Key) (v w u : IndexView) (s t : Space) (chunks : List ChunkPlace) (added : List Key) → IsTouched d d.shape.rows to key → IsHeld key w u → IsPlacing d to v s chunks added w t → IsPlacing d to v s chunks added u t
placing_holds d to key v w u s t chunks added touches held x =
    placing d to v u s t chunks added (named_held d to key v w u chunks added touches held (named_of d to v w s t chunks added x)) (taken_of d to v w s t chunks added x)

-- ---- All have their places

all_placed : (d : Described) (to : ℕ) (v w : IndexView) (s t : Space) (chunks : List ChunkPlace) (added : List Key) → Fits d v → length chunks ≡ touched d d.shape.rows to → d.shape.rows < to → IsPlacing d to v s chunks added w t → AllPlaced d to v w
all_placed d to v w s t chunks added fits all rises x = all_named d to v w chunks added fits all rises (named_of d to v w s t chunks added x)

-- ---- What stands in the file

-- a key is that of one of some first chunks, or of none
record IsOneOf (d : Described) (v : IndexView) (n : ℕ) (key : Key) : Type 0 where
  number : ℕ
  below : number < n
  same : is_key v (touched_key d d.shape.rows number) key ≡ true

IsNoneOf : Described → IndexView → ℕ → Key → Type 0
IsNoneOf d v n key = (k : ℕ) → k < n → is_key v (touched_key d d.shape.rows k) key ≡ false

one_or_none : (d : Described) (v : IndexView) (n : ℕ) (key : Key) → IsOneOf d v n key ⊎ IsNoneOf d v n key
unfolding IsNoneOf
one_or_none d v zero key = inr (λ k low. absurd (omega (arith, low)))
one_or_none d v (suc n) key =
    elim (one_or_none d v n key) [
      | inl before ↦ inl (record { number = before.number; below = omega (arith, before.below); same = before.same })
      | inr none ↦
          elim (cases_Bool (is_key v (touched_key d d.shape.rows n) key)) [
            | inl e ↦ inl (record { number = n; below = omega arith; same = e })
            | inr e ↦ inr (λ k low. elim (cases_eq k n) [
              | inl last ↦ ap (λ j. is_key v (touched_key d d.shape.rows j) key) last ∙ e
              | inr other ↦ none k (omega (arith, low, other))
            ])
          ]
    ]

pub chunk_there : (chunks : List ChunkPlace) (k : ℕ) → k < length chunks → (p : ChunkPlace) × (slice_get chunks k ≡ Some p)
chunk_there [] k low = absurd (omega (arith, low))
chunk_there (p ∷ ps) zero low = (p, refl)
chunk_there (p ∷ ps) (suc k) low = chunk_there ps k (omega (arith, low))

-- each of some chunks ends by a place
abbrev AllEnd : Described → ℕ → List ChunkPlace → Type 0
AllEnd d end chunks = (k : ℕ) (p : ChunkPlace) → slice_get chunks k ≡ Some p → p.address + chunk_len d ≤ end

module _ (d : Described) (to : ℕ) (v w : IndexView) (end later : ℕ) (chunks : List ChunkPlace) (added : List Key) (rises : d.shape.rows ≤ to) (within : AreInside d end v) (more : end ≤ later) (ends : AllEnd d later chunks)
    (x : AreNamed d to v chunks added w) where
  -- the chunk's place is new or was there
  one_inside : (key : Key) → IsOneOf d v (length chunks) key → address_in w key + chunk_len d ≤ later
  one_inside key o =
      let p = chunk_there chunks o.number o.below in
      let first : Key = touched_key d d.shape.rows o.number in
      let named : address_in w key ≡ (p.0).address = same_address w first key (x.partly.like.one first key ∙ o.same) ∙ (x.placed o.number p.0 p.1).named in
      omega (arith, named, ends o.number p.0 p.1)

  none_inside : (key : Key) → IsNoneOf d v (length chunks) key → first_line d (d.shape.rows / d.layout.chunk_rows) ≤ key.i → address_in w key ≢ undefined → address_in w key + chunk_len d ≤ later
  unfolding IsNoneOf
  none_inside key none from there =
      let same : address_in w key ≡ address_in v key = x.others key none in
      let before = within key from (λ e. there (same ∙ e)) in
      omega (arith, same, before, more)

  named_inside : AreInside (with_rows to d) later w
  named_inside key from there =
      elim (one_or_none d v (length chunks) key) [
        | inl o ↦ one_inside key o
        | inr none ↦
            let grows = first_line_grows d (d.shape.rows / d.layout.chunk_rows) (to / d.layout.chunk_rows) (div_grows d.shape.rows to d.layout.chunk_rows rises) in
            none_inside key none (omega (arith, from, grows)) there
      ]

placed_inside : (d : Described) (to : ℕ) (v w : IndexView) (s t : Space) (chunks : List ChunkPlace) (added : List Key) → d.shape.rows ≤ to → AreInside d s.end v → IsPlacing d to v s chunks added w t → AreInside (with_rows to d) t.end w
placed_inside d to v w s t chunks added rises within x = named_inside d to v w s.end t.end chunks added rises within x.raised.rises x.inside (named_of d to v w s t chunks added x)

-- early ones end by the places of before, others by those of now
behind_ends : (d : Described) (old : Key → ℕ) (early : List ChunkPlace) (s t : Space) (chunks : List ChunkPlace) → AllEnd d s.end early → AreTakenBehind d old early s chunks t → AllEnd d t.end chunks
behind_ends d old early s t chunks ends x k p at =
    elim (get_joined early x.later k p (subst (λ (cs : List ChunkPlace). slice_get cs k ≡ Some p) x.all at)) [
      | inl first ↦ omega (arith, ends k p first, x.raised.rises)
      | inr last ↦ x.inside last.0 p last.1
    ]

inside_behind : (d : Described) (to : ℕ) (v w : IndexView) (s t : Space) (early chunks : List ChunkPlace) (added : List Key) → d.shape.rows ≤ to → AreInside d s.end v → AllEnd d s.end early → AreNamed d to v chunks added w
    → AreTakenBehind d (address_in v) early s chunks t → AreInside (with_rows to d) t.end w
inside_behind d to v w s t early chunks added rises within ends x y = named_inside d to v w s.end t.end chunks added rises within y.raised.rises (behind_ends d (address_in v) early s t chunks ends y) x

carried_inside : (d : Described) (end later : ℕ) (v w : IndexView) → SameMap v w → end ≤ later → AreInside d end v → AreInside d later w
carried_inside d end later v w map less within key from there =
    let before = within key from (λ e. there (map key ∙ e)) in
    omega (arith, map key, before, less)

-- ---- What it takes

most_is : (n bytes : ℕ) → n * (bytes + 20000) ≡ n * bytes + n * 20000
most_is n bytes = grind arith

-- chunks behind others are no more than all of them, and raise the file by no more
behind_raised : (d : Described) (old : Key → ℕ) (early : List ChunkPlace) (s t : Space) (chunks : List ChunkPlace) (n : ℕ) → length chunks ≤ n → AreTakenBehind d old early s chunks t → IsRaised s t (n * chunk_bytes d)
behind_raised d old early s t chunks n few x =
    let bytes : ℕ = chunk_bytes d in
    let long : length chunks ≡ length early + length x.later = ap length x.all ∙ length-append early x.later in
    raised_more s t (length x.later * bytes) (n * bytes) (mul-le (length x.later) bytes n bytes (omega (arith, long, few)) (omega arith)) x.raised

-- all chunks, and the blocks behind them
with_blocks : (d : Described) (to : ℕ) (old : Key → ℕ) (early : List ChunkPlace) (s between t : Space) (chunks : List ChunkPlace) → length chunks ≡ touched d d.shape.rows to → AreTakenBehind d old early s chunks between
    → IsRaised between t (touched d d.shape.rows to * 16428) → IsRaised s t (most_of d to)
with_blocks d to old early s between t chunks all x blocks =
    let n : ℕ = touched d d.shape.rows to in
    let bytes : ℕ = chunk_bytes d in
    raised_more s t (n * bytes + n * 16428) (most_of d to) (omega (arith, most_is n bytes)) (raised_on s between t (n * bytes) (n * 16428) (behind_raised d old early s between chunks n (omega (arith, all)) x) blocks)

all_raised : (d : Described) (to : ℕ) (v held w : IndexView) (s between t : Space) (early chunks : List ChunkPlace) (added : List Key) (ms : List Move) (copies fixed : List Write) → length chunks ≡ touched d d.shape.rows to
    → IsMarked d d.shape.rows to v → AreNamed d to v chunks added held → AreTakenBehind d (address_in v) early s chunks between → IsPlan held between ms copies fixed w t → IsRaised s t (most_of d to)
all_raised d to v held w s between t early chunks added ms copies fixed all marks x y plan =
    with_blocks d to (address_in v) early s between t chunks all y (plan_bounds d d.shape.rows to held between ms copies fixed w t x.partly.like.sound (x.partly.marks marks) plan).raised

begun_raised : (d : Described) (to : ℕ) (v held : IndexView) (s between t : Space) (early chunks : List ChunkPlace) (added : List Key) (b : IndexFlush) → length chunks ≡ touched d d.shape.rows to → IsMarked d d.shape.rows to v
    → AreNamed d to v chunks added held → AreTakenBehind d (address_in v) early s chunks between → ListsOnce held → IsBegun held between b t → IsRaised s t (most_of d to)
begun_raised d to v held s between t early chunks added b all marks x y once begun =
    with_blocks d to (address_in v) early s between t chunks all y (begun_bound d d.shape.rows to held between b t x.partly.like.sound (x.partly.marks marks) once begun)

full_part : (d : Described) (to : ℕ) (v : IndexView) (early : List ChunkPlace) (s : Space) (full : Full) → 0 < chunk_len d → 0 < touched d d.shape.rows to → IsMarked d d.shape.rows to v → IsFullPart d to v early s full → FullPartBound d to s full
full_part d to v early s full some any marks (inl chunk) =
    let n : ℕ = touched d d.shape.rows to in
    let bytes : ℕ = chunk_bytes d in
    let one : 1 * bytes ≤ n * bytes = mul-le 1 bytes n bytes (omega (arith, any)) (omega arith) in
    record {
      before = chunk.t;
      raised = raised_more s chunk.t (n * bytes) (most_of d to) (omega (arith, most_is n bytes)) (behind_raised d (address_in v) early s chunk.t chunk.chunks n (omega (arith, chunk.inside)) chunk.taken);
      size = chunk_len d;
      some = omega (arith, some);
      few = omega (arith, same_len d, most_is n bytes, one);
      refused = chunk.refused;
    }
full_part d to v early s full some any marks (inr block) =
    let n : ℕ = touched d d.shape.rows to in
    let bytes : ℕ = chunk_bytes d in
    let x = block.named in
    let bound = full_bounds d d.shape.rows to block.held block.between full x.partly.like.sound (x.partly.marks marks) block.refused in
    record {
      before = bound.before;
      raised = with_blocks d to (address_in v) early s block.between bound.before block.chunks block.all block.taken bound.raised;
      size = bound.size;
      some = bound.some;
      few = omega (arith, bound.few, most_is n bytes, any);
      refused = bound.refused;
    }

pub placing_laws : PlacingLaws
placing_laws = record {
  none = placing_none;
  stored = placing_stored;
  holds = placing_holds;
  new = placing_new;
  held = partly_held;
  unset = partly_unset;
  kept = λ d to v w p. record { like = p.like; map = λ key. p.rest key (All-nil (λ other. is_key v other key ≡ false)) };
  all = all_placed;
  inside = placed_inside;
  inside_behind = inside_behind;
  carried = carried_inside;
  raised = all_raised;
  begun = begun_raised;
  full = full_part;
}
