-- Chunks are named by the index, whenever their places were taken.
use Rattle.std.proofs.Common.{◌≡◌, ◌≢◌, ◌⊎◌, ℕ, ◌*◌, ◌<◌, ◌≤◌, true, false, List, [], ◌∷◌, ◌++◌, length, Option, Some, None, refl, sym, ◌∙◌, subst, inl, inr, arith}
use Rattle.std.specs.List.{slice_get}
use Rattle.std.proofs.lemmas.Bool.{cond-false, cond-true}
use Rattle.std.proofs.lemmas.Option.{slice_get_within}
use Rattle.h5w_model.specs.Numbers.{undefined}
use Rattle.h5w_model.specs.Datasets.{Described}
use Rattle.h5w_model.specs.Findings.{Used, chunk_bytes}
use Rattle.h5w_model.specs.declared.cell.Key.{Key}
use Rattle.h5w_step_laws.specs.Ranges.{Among, chunk_at}
use Rattle.h5w_step_laws.proofs.RangeLemmas.{among_left, among_right, among_split}
use Rattle.h5w_space.specs.Space.{Space}
use Rattle.h5w_chunks.specs.Shares.{touched, touched_band, touched_key}
use Rattle.h5w_chunks.proofs.KeyLemmas.{touched_lines}
use Rattle.h5w_chunks.specs.declared.grid.ChunkPlace.{ChunkPlace}
use Rattle.h5w_step_laws.proofs.PartLemmas.{count_joined}
use Rattle.h5w_array_laws.specs.Among.{AreAmong}
use Rattle.h5w_array_laws.proofs.AmongLemmas.{part_itself, part_joined, part_onward}
use Rattle.h5w_flush_laws.specs.Rows.{IsPlaced, new_chunks}
use Rattle.h5w_tree_index_laws.specs.TreeImages.{AreSame}
use Rattle.h5w_tree_index_laws.proofs.TreeRangeLemmas.{by_weight}
use Rattle.h5w_index.specs.Views.{IndexView, IsReached, IsSound, address_in, behind_of, is_key}
use Rattle.h5w_index.specs.Steps.{IsHeld, IsSet}
use Rattle.h5w_index.specs.Told.{SetTold}
use Rattle.h5w_index.specs.Marks.{IsTouched}
use Rattle.h5w_index.specs.Placing.{AllPlaced, Fits, IsPlacing, next_key}
use Rattle.h5w_index.specs.Naming.{AreNamed, AreTaken, NamingLaws}
use Rattle.h5w_index.proofs.BehindLemmas.{no_range, one_range, pushed_long, taken_copy, taken_new, taken_none, taken_stored}
use Rattle.h5w_index.proofs.PartlyLemmas.{apart_keys, get_pushed, lines_apart, own_key, partly_held, partly_none, partly_set}
use Rattle.h5w_index.proofs.ReachLemmas.{reach_laws}
use Rattle.h5w_index.proofs.ToldLemmas.{held_tells, same_ranges, set_tells}

-- ---- Ranges

-- one range in front of others, and between them
turn : (c : Used) (us vs : List Used) → AreAmong (c ∷ (us ++ vs)) ((us ++ c ∷ []) ++ vs)
turn c us vs = record { among = there; counts = λ q. omega (arith, count_joined q us vs, count_joined q (us ++ c ∷ []) vs, count_joined q us (c ∷ [])) }
  where
    there : (u : Used) → (c ≡ u) ⊎ Among u (us ++ vs) → Among u ((us ++ c ∷ []) ++ vs)
    there u (inl e) = among_left u (us ++ c ∷ []) vs (among_right u us (c ∷ []) (inl e))
    there u (inr a) = elim (among_split u us vs a) [
      | inl b ↦ among_left u (us ++ c ∷ []) vs (among_left u us (c ∷ []) b)
      | inr b ↦ among_right u (us ++ c ∷ []) vs b
    ]

-- the same ranges are among each other
pub same_among : (us vs : List Used) → AreSame us vs → AreAmong us vs
same_among us vs same = let a = by_weight us vs (λ f. let e = same f in omega (arith, e)) in record { among = a.among; counts = a.counts }

-- ---- The index

pub named_none : (d : Described) (to : ℕ) (v : IndexView) → IsSound v → AreNamed d to v [] [] v
named_none d to v is = record {
  partly = partly_none d to v is;
  placed = λ k p at. absurd (let clash : ◌≡◌ {A = Option ChunkPlace} None (Some p) = at in cc);
  others = λ key outside. refl;
  behind = part_itself (behind_of (chunk_bytes d) v);
  reached = λ k p at. absurd (let clash : ◌≡◌ {A = Option ChunkPlace} None (Some p) = at in cc);
}

-- the next chunk was named as it is
pub named_before : (d : Described) (to : ℕ) (v w : IndexView) (chunks : List ChunkPlace) (added : List Key) → Fits d v → AreNamed d to v chunks added w → address_in w (next_key d chunks) ≡ address_in v (next_key d chunks)
named_before d to v w chunks added fits x = x.others (next_key d chunks) (λ k low. apart_keys d v d.shape.rows k (length chunks) fits (λ e. absurd (omega (arith, e, low))))

-- The next chunk has an address.
module _ (d : Described) (to : ℕ) (v w : IndexView) (chunks : List ChunkPlace) (added : List Key) (p : ChunkPlace) (fits : Fits d v) (named : address_in w (next_key d chunks) ≡ p.address) (defined : p.address ≢ undefined)
    (whole : p.stored ≡ false → d.shape.rows ≤ touched_band d d.shape.rows (length chunks) * d.layout.chunk_rows) (looked : IsReached w (next_key d chunks)) (x : AreNamed d to v chunks added w) where
  before_there : address_in v (next_key d chunks) ≡ p.address
  before_there = sym (named_before d to v w chunks added fits x) ∙ named

  is_there : address_in v (next_key d chunks) ≢ undefined
  is_there e = defined (sym before_there ∙ e)

  last_there : IsPlaced d (address_in v) (address_in w) d.shape.rows (length chunks) p
  last_there = record {
    named = named;
    defined = defined;
    kept = λ was. sym before_there;
    stored = λ stored. is_there;
    whole = λ fresh was. whole fresh;
  }

  pub named_stored : AreNamed d to v (chunks ++ p ∷ []) added w
  named_stored = record {
    partly = x.partly;
    placed = λ k q at.
        elim (get_pushed chunks p k q at) [
          | inl before ↦ x.placed k q before
          | inr last ↦ subst (λ (c : ChunkPlace). IsPlaced d (address_in v) (address_in w) d.shape.rows k c) last.1 (subst (λ n. IsPlaced d (address_in v) (address_in w) d.shape.rows n p) (sym last.0) last_there)
        ];
    others = λ key outside. x.others key (λ k low. outside k (omega (arith, low, pushed_long chunks p)));
    behind = subst (λ (us : List Used). AreAmong (behind_of (chunk_bytes d) w) (us ++ behind_of (chunk_bytes d) v)) (sym (no_range d (address_in v) [] chunks chunks p refl is_there)) x.behind;
    reached = λ k q at.
        elim (get_pushed chunks p k q at) [
          | inl before ↦ x.reached k q before
          | inr last ↦ subst (λ n. IsReached w (touched_key d d.shape.rows n)) (sym last.0) looked
        ];
  }

-- The next chunk has none: the index names it.
module _ (d : Described) (to : ℕ) (v w u : IndexView) (chunks : List ChunkPlace) (added : List Key) (p : ChunkPlace) (fits : Fits d v) (low : length chunks < touched d d.shape.rows to)
    (none : address_in w (next_key d chunks) ≡ undefined) (fresh : p.stored ≡ false) (defined : p.address ≢ undefined)
    (set : IsSet (next_key d chunks) p.address w u) (x : AreNamed d to v chunks added w) where
  abbrev key : Key
  key = next_key d chunks

  abbrev bytes : ℕ
  bytes = chunk_bytes d

  abbrev new_ranges : List Used
  new_ranges = new_chunks d (address_in v) d.shape.rows 0 chunks

  touches : IsTouched d d.shape.rows to key
  touches = record { number = length chunks; inside = low; is = refl }

  set_told : SetTold key p.address w u
  set_told = set_tells key p.address w u x.partly.like.sound defined set

  was_none : address_in v key ≡ undefined
  was_none = sym (named_before d to v w chunks added fits x) ∙ none

  map_there : address_in u key ≡ p.address
  map_there = set_told.map key ∙ cond-true (is_key w key key) p.address (address_in w key) (own_key w key)

  -- whether a key is this one is as it was
  map_others : (other : Key) → is_key v key other ≡ false → address_in u other ≡ address_in w other
  map_others other e = set_told.map other ∙ cond-false (is_key w key other) p.address (address_in w other) (x.partly.like.one key other ∙ e)

  new_there : IsPlaced d (address_in v) (address_in u) d.shape.rows (length chunks) p
  new_there = record {
    named = map_there;
    defined = defined;
    kept = λ was. absurd (was was_none);
    stored = λ stored e. let clash : false ≡ true = sym fresh ∙ stored in cc;
    whole = λ e was. absurd (was was_none);
  }

  old_there : (k : ℕ) (q : ChunkPlace) → slice_get chunks k ≡ Some q → IsPlaced d (address_in v) (address_in u) d.shape.rows k q
  old_there k q at =
      let o = x.placed k q at in
      let below = slice_get_within chunks k q at in
      record {
        named = map_others (touched_key d d.shape.rows k) (apart_keys d v d.shape.rows (length chunks) k fits (λ e. absurd (omega (arith, e, below)))) ∙ o.named;
        defined = o.defined;
        kept = o.kept;
        stored = o.stored;
        whole = o.whole;
      }

  ranges_now : AreAmong (behind_of bytes u) ((new_ranges ++ chunk_at p.address bytes ∷ []) ++ behind_of bytes v)
  ranges_now =
      let c : Used = chunk_at p.address bytes in
      let before : List Used = new_ranges ++ behind_of bytes v in
      let both : AreAmong (c ∷ behind_of bytes w) (c ∷ before) = part_joined (c ∷ []) (behind_of bytes w) (c ∷ []) before (part_itself (c ∷ [])) x.behind in
      part_onward (behind_of bytes u) (c ∷ before) ((new_ranges ++ c ∷ []) ++ behind_of bytes v) (part_onward (behind_of bytes u) (c ∷ behind_of bytes w) (c ∷ before) (set_told.behind bytes) both) (turn c new_ranges (behind_of bytes v))

  pub named_new : AreNamed d to v (chunks ++ p ∷ []) (added ++ key ∷ []) u
  named_new = record {
    partly = partly_set d to key p.address v w u added touches defined was_none set x.partly;
    placed = λ k q at.
        elim (get_pushed chunks p k q at) [
          | inl before ↦ old_there k q before
          | inr last ↦ subst (λ (c : ChunkPlace). IsPlaced d (address_in v) (address_in u) d.shape.rows k c) last.1 (subst (λ n. IsPlaced d (address_in v) (address_in u) d.shape.rows n p) (sym last.0) new_there)
        ];
    others = λ other outside. map_others other (outside (length chunks) (omega (arith, pushed_long chunks p))) ∙ x.others other (λ k below. outside k (omega (arith, below, pushed_long chunks p)));
    behind = subst (λ (us : List Used). AreAmong (behind_of bytes u) (us ++ behind_of bytes v)) (sym (one_range d (address_in v) [] chunks chunks p refl was_none)) ranges_now;
    reached = λ k q at.
        elim (get_pushed chunks p k q at) [
          | inl before ↦ reach_laws.set key (touched_key d d.shape.rows k) p.address w u set (x.reached k q before)
          | inr last ↦ subst (λ n. IsReached u (touched_key d d.shape.rows n)) (sym last.0) (reach_laws.new key p.address w u set)
        ];
  }

-- the blocks on the way to one of the chunks are there, and nothing else
pub named_held : (d : Described) (to : ℕ) (key : Key) (v w u : IndexView) (chunks : List ChunkPlace) (added : List Key) → IsTouched d d.shape.rows to key → IsHeld key w u → AreNamed d to v chunks added w → AreNamed d to v chunks added u
named_held d to key v w u chunks added touches held x =
    let told = held_tells key w u x.partly.like.sound held in
    let bytes : ℕ = chunk_bytes d in
    record {
      partly = partly_held d to key v w u added touches held x.partly;
      placed = λ k q at. let o = x.placed k q at in record { named = told.map (touched_key d d.shape.rows k) ∙ o.named; defined = o.defined; kept = o.kept; stored = o.stored; whole = o.whole };
      others = λ other outside. told.map other ∙ x.others other outside;
      behind = part_onward (behind_of bytes u) (behind_of bytes w) (new_chunks d (address_in v) d.shape.rows 0 chunks ++ behind_of bytes v)
          (same_among (behind_of bytes u) (behind_of bytes w) (same_ranges w u bytes x.partly.like.sound told.like told.map)) x.behind;
      reached = λ k q at. reach_laws.held key (touched_key d d.shape.rows k) w u held (x.reached k q at);
    }

-- ---- All are named

pub all_named : (d : Described) (to : ℕ) (v w : IndexView) (chunks : List ChunkPlace) (added : List Key) → Fits d v → length chunks ≡ touched d d.shape.rows to → d.shape.rows < to → AreNamed d to v chunks added w → AllPlaced d to v w
all_named d to v w chunks added fits all rises x = record {
  like = x.partly.like;
  others = λ key outside. x.others key (λ k low.
      let lines = touched_lines d d.shape.rows to k (omega (arith, low, all)) in
      lines_apart v (touched_key d d.shape.rows k) key (λ e. elim outside [
        | inl before ↦ absurd (omega (arith, before, e, lines.low))
        | inr behind ↦ absurd (omega (arith, behind, e, lines.high))
      ]));
}

-- ---- Both

pub placing : (d : Described) (to : ℕ) (v w : IndexView) (s t : Space) (chunks : List ChunkPlace) (added : List Key) → AreNamed d to v chunks added w → AreTaken d (address_in v) s chunks t → IsPlacing d to v s chunks added w t
placing d to v w s t chunks added n x = record {
  partly = n.partly;
  placed = n.placed;
  others = n.others;
  behind = n.behind;
  taken = x.taken;
  raised = x.raised;
  inside = x.inside;
  reached = n.reached;
  first = x.first;
  copied = x.copied;
  ranges = x.ranges;
  each = x.each;
}

pub named_of : (d : Described) (to : ℕ) (v w : IndexView) (s t : Space) (chunks : List ChunkPlace) (added : List Key) → IsPlacing d to v s chunks added w t → AreNamed d to v chunks added w
named_of d to v w s t chunks added x = record { partly = x.partly; placed = x.placed; others = x.others; behind = x.behind; reached = x.reached }

pub taken_of : (d : Described) (to : ℕ) (v w : IndexView) (s t : Space) (chunks : List ChunkPlace) (added : List Key) → IsPlacing d to v s chunks added w t → AreTaken d (address_in v) s chunks t
taken_of d to v w s t chunks added x = record { taken = x.taken; raised = x.raised; inside = x.inside; first = x.first; copied = x.copied; ranges = x.ranges; each = x.each }

pub naming_laws : NamingLaws
naming_laws = record {
  taken_none = taken_none;
  taken_stored = taken_stored;
  taken_new = taken_new;
  taken_copy = taken_copy;
  named_none = named_none;
  named_stored = named_stored;
  named_new = named_new;
  named_held = named_held;
  all = all_named;
  placing = placing;
  named = named_of;
  taken = taken_of;
}
