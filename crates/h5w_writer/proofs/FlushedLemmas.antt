-- What a flush leaves is a session again.
use Rattle.std.proofs.Common.{◌≡◌, ◌≢◌, ◌⊎◌, ℕ, ◌+◌, ◌*◌, ◌^◌, ◌<◌, ◌≤◌, nat_lt, List, [], ◌∷◌, ◌++◌, length, Some, refl, ap, sym, ◌∙◌, subst, inl, inr, arith, length-append}
use Rattle.std.proofs.lemmas.Bool.{cases_lt, cond-false, le-ltb}
use Rattle.std.specs.List.{All, slice_get}
use Rattle.std.proofs.lemmas.List.Elements.{All-head, All-tail}
use Rattle.std.proofs.lemmas.Nat.{le-div}
use Rattle.h5w_model.specs.Arrays.{eahd_len, eaib_len}
use Rattle.h5w_model.specs.Trees.{bthd_len}
use Rattle.h5w_model.specs.Tables.{chunks_across, format_limits, keys_across, limit_of, needed}
use Rattle.h5w_model.specs.declared.root.Super.{Super}
use Rattle.h5w_model.specs.Datasets.{Described}
use Rattle.h5w_model.specs.Findings.{Used}
use Rattle.h5w_model.specs.declared.cell.Key.{Key}
use Rattle.h5w_model.specs.declared.piece.Write.{Write}
use Rattle.h5w_model.proofs.ImageLemmas.{AllSized-append}
use Rattle.h5w_step_laws.specs.Ranges as ranges
use Rattle.h5w_step_laws.proofs.RangeLemmas.{ends_later}
use Rattle.h5w_space.specs.Space.{Space}
use Rattle.h5w_chunks.specs.Grids.{chunk_len}
use Rattle.h5w_chunks.specs.Shares.{first_line, new_writes}
use Rattle.h5w_chunks.specs.declared.grid.ChunkPlace.{ChunkPlace}
use Rattle.h5w_chunks.proofs.KeyLemmas.{array_line, line_chunks, some_keys}
use Rattle.h5w_flush_laws.specs.Parts.{AreEnded}
use Rattle.h5w_index.specs.Views.{IndexView, IsSound, TakesKey, an_array, a_tree, fixed_of, header_place, kind_of}
use Rattle.h5w_index.specs.Blocks.{has_no_block}
use Rattle.h5w_index.specs.Flushes.{PlanTold}
use Rattle.h5w_index.specs.Flushes as index
use Rattle.h5w_index.specs.Placing.{AreInside, Fits}
use Rattle.h5w_index.proofs.BehindLemmas.{get_joined}
use Rattle.h5w_index.proofs.PlacingLemmas.{placing_laws}
use Rattle.h5w_writer.specs.Sessions.{ArePieces, IsSession, IsUnmade, IsWhole, Session, bands_of, chunk_limit, most_lines, next_row, rows_of, with_rows}
use Rattle.h5w_pieces.specs.NextPlaces.{next_places}
use Rattle.h5w_writer.specs.Flushes.{ArePlanned, IsFlushed, flushed_of, header_piece}
use Rattle.h5w_writer.proofs.EarlyLemmas.{none_touched}
use Rattle.h5w_pieces.proofs.NextPlaces.{places_all}
use Rattle.h5w_writer.proofs.FlushLemmas.{told_of}
use Rattle.h5w_writer.proofs.HeaderAlone.{never, same_block}
use Rattle.h5w_writer.proofs.PastLemmas.{ends_joined}
use Rattle.h5w_writer.proofs.PieceLemmas.{blocks_sized, blocks_within, rows_within}
use Rattle.h5w_writer.proofs.TakingLemmas.{limit_top}
use Rattle.h5w_writer.proofs.WritableLemmas.{writable_again, written_length}

-- ---- Indexes of one kind

-- chunks stand by an index as by another of its kind
pub fits_same : (d : Described) (v w : IndexView) → kind_of w ≡ kind_of v → Fits d v → Fits d w
fits_same d v w same fits = record { kind = fits.kind ∙ sym same; some = fits.some }

-- the chunks of the rows are few
pub chunks_few : (s : Session) → IsSession s → bands_of s * chunks_across s.dataset ≤ 1000000
chunks_few s is = omega (arith, is.few, limit_top s.dataset.layout.index)

-- and so are the lines of their bands
pub lines_few : (s : Session) → IsSession s → first_line s.dataset (bands_of s) ≤ most_lines s.dataset
lines_few s is =
    le-div (first_line s.dataset (bands_of s)) (chunk_limit s) (keys_across s.dataset) (some_keys s.dataset is.fits.some)
    (subst (λ (n : ℕ). n ≤ chunk_limit s) (sym (line_chunks s.dataset (bands_of s))) is.few)

takes_by : (d : Described) (bands : ℕ) (v : IndexView) → Fits d v → bands * chunks_across d ≤ limit_of format_limits d.layout.index → (key : Key) → key.i < first_line d bands → TakesKey v key
takes_by d bands (an_array v) fits few key low =
    let limit : limit_of format_limits d.layout.index ≡ 131060 = ap (limit_of format_limits) fits.kind in
    omega (arith, few, limit, array_line d bands fits.kind, low)
takes_by d bands (a_tree p v) fits few key low = tt

-- the index takes the keys of the bands of the rows
pub takes_keys : (s : Session) → IsSession s → (key : Key) → key.i < first_line s.dataset (bands_of s) → TakesKey s.index key
takes_keys s is = takes_by s.dataset (bands_of s) s.index is.fits is.few

-- ---- Pieces

pub pieces_joined : (end : ℕ) (ws vs : List Write) → ArePieces end ws → ArePieces end vs → ArePieces end (ws ++ vs)
pieces_joined end ws vs a b = record { sized = AllSized-append ws vs a.sized b.sized; within = ends_joined end ws vs a.within b.within }

pub one_piece : (end : ℕ) (w : Write) → 1 ≤ length w.piece → length w.piece ≤ 512 → w.at + length w.piece ≤ end → ArePieces end (w ∷ [])
one_piece end w some few within = record { sized = ((some, few), tt); within = (within, tt) }

supers_are : (end : ℕ) (s : Super) (e : ℕ) (ws : List Write) → 48 ≤ end → AreEnded s e ws → ArePieces end ws
supers_are end s e [] long ended = record { sized = tt; within = tt }
supers_are end s e (w ∷ ws) long ended =
    let own = one_piece end w (omega (arith, ended.0.len)) (omega (arith, ended.0.len)) (omega (arith, ended.0.len, ended.0.place)) in
    subst (λ (xs : List Write). ArePieces end (w ∷ xs)) (sym ended.1) own

-- a block in place is one piece
fixed_short : (v : IndexView) (u : Used) → ranges.Among u (fixed_of v) → (1 ≤ u.len) × (u.len ≤ 512)
fixed_short (an_array v) u (inl head) = let e : eahd_len ≡ u.len = ap (λ (x : Used). x.len) head in (omega (arith, e), omega (arith, e))
fixed_short (an_array v) u (inr (inl block)) = let e : eaib_len ≡ u.len = ap (λ (x : Used). x.len) block in (omega (arith, e), omega (arith, e))
fixed_short (an_array v) u (inr (inr none)) = absurd none
fixed_short (a_tree p v) u (inl head) = let e : bthd_len ≡ u.len = ap (λ (x : Used). x.len) head in (omega (arith, e), omega (arith, e))
fixed_short (a_tree p v) u (inr none) = absurd none

-- writes of whole blocks in place
whole_pieces : (end : ℕ) (v : IndexView) (ws : List Write) → ranges.AllEndBy end (fixed_of v) → All (index.IsWhole (fixed_of v)) ws → ArePieces end ws
whole_pieces end v [] tops all = record { sized = tt; within = tt }
whole_pieces end v (w ∷ ws) tops all =
    let own : index.IsWhole (fixed_of v) w = All-head (index.IsWhole (fixed_of v)) w ws all in
    let rest : ArePieces end ws = whole_pieces end v ws tops (All-tail (index.IsWhole (fixed_of v)) w ws all) in
    let short = fixed_short v own.used own.among in
    record {
      sized = ((omega (arith, own.long, short.0), omega (arith, own.long, short.1)), rest.sized);
      within = (omega (arith, own.at_place, own.long, tops own.used own.among), rest.within);
    }

-- ---- What a flush leaves

-- The index and the places that a flush begins with: the session's, or those of an index just made.
pub record IsBefore (s : Session) (v : IndexView) (before : Space) : Type 0 where
  pub kind : s.dataset.layout.index ≡ kind_of v
  pub rises : s.places.end ≤ before.end
  pub limit : before.limit ≡ s.places.limit
  pub inside : AreInside s.dataset before.end v
  pub tops : ranges.AllEndBy before.end (fixed_of v)

module _ (s : Session) (is : IsSession s) (v : IndexView) (before : Space) (b : IsBefore s v before) (w : IndexView) (t : Space) (x : ArePlanned s v before w t) where
  pub told : PlanTold x.named x.between x.moves x.copies x.fixed w t
  told = told_of s v before w t x

  pub rises : s.places.end ≤ t.end
  rises = omega (arith, b.rises, x.taken.raised.rises, told.rises)

  pub same_limit : t.limit ≡ s.places.limit
  same_limit = told.limit ∙ x.taken.raised.limit ∙ b.limit

  pub limit_then : t.limit ≤ 2 ^ 40
  limit_then = subst (λ (n : ℕ). n ≤ 2 ^ 40) (sym same_limit) is.limit

  -- the index is of the kind that it was
  same_kind : kind_of w ≡ kind_of v
  same_kind = told.kind ∙ x.names.partly.like.kind

  pub kind_then : s.dataset.layout.index ≡ kind_of w
  kind_then = b.kind ∙ sym same_kind

  pub sound_then : IsSound w
  sound_then = told.sound

  pub fits_then : Fits s.dataset w
  fits_then = fits_same s.dataset v w same_kind x.fits

  -- each chunk that rows may still go into ends in the file then, where it has an address
  pub inside_then : AreInside (with_rows (rows_of s) s.dataset) t.end w
  inside_then =
      let d = s.dataset in
      let less : d.shape.rows ≤ rows_of s = omega arith in
      let early : (k : ℕ) (p : ChunkPlace) → slice_get s.chunks k ≡ Some p → p.address + chunk_len d ≤ before.end = λ k p at. omega (arith, is.ends k p at, b.rises) in
      let placed : AreInside (with_rows (rows_of s) d) x.between.end x.named = placing_laws.inside_behind d (rows_of s) v x.named before x.between s.chunks x.chunks x.added less b.inside early x.names x.taken in
      placing_laws.carried (with_rows (rows_of s) d) x.between.end t.end x.named w told.map told.rises placed

  -- the blocks in place stay where they are
  pub tops_then : ranges.AllEndBy t.end (fixed_of w)
  tops_then =
      let less : before.end ≤ t.end = omega (arith, x.taken.raised.rises, told.rises) in
      subst (λ (us : List Used). ranges.AllEndBy t.end us) (sym (told.stay ∙ x.names.partly.like.fixed)) (ends_later before.end t.end (fixed_of v) less b.tops)

  pub told_place : header_place w ≡ header_place v
  told_place = told.place ∙ x.names.partly.like.place

  -- and lack the index block where they did
  pub same_blocks : has_no_block w ≡ has_no_block v
  same_blocks = same_block v w (told.stay ∙ x.names.partly.like.fixed)

  -- each chunk that the rows go into ends in the file then, one that was written early too
  chunk_ends : (k : ℕ) (p : ChunkPlace) → slice_get x.chunks k ≡ Some p → p.address + chunk_len s.dataset ≤ t.end
  chunk_ends k p at = go (get_joined s.chunks x.taken.later k p (subst (λ (ps : List ChunkPlace). slice_get ps k ≡ Some p) x.taken.all at))
    where
      go : (slice_get s.chunks k ≡ Some p) ⊎ ((j : ℕ) × (slice_get x.taken.later j ≡ Some p)) → p.address + chunk_len s.dataset ≤ t.end
      go (inl early) = omega (arith, is.ends k p early, rises)
      go (inr later) = omega (arith, x.taken.inside later.0 p later.1, told.rises)

  -- its pieces but for the header's
  pub rows_pieces : ArePieces t.end x.rows
  rows_pieces = go (cases_lt (next_row s) (rows_of s))
    where
      d : Described
      d = s.dataset

      go : (next_row s < rows_of s) ⊎ (rows_of s ≤ next_row s) → ArePieces t.end x.rows
      go (inl more) =
          let w = x.written more in
          let ends = places_all d d.shape.rows (next_row s) x.chunks (λ n. n + chunk_len d ≤ t.end) chunk_ends in
          record { sized = w.sized; within = rows_within d t.end (next_places d d.shape.rows (next_row s) x.chunks) x.rows ends w.within }
      go (inr none) =
          let no_writes : x.rows ≡ [] = x.exact ∙ cond-false (nat_lt (next_row s) (rows_of s)) (new_writes d s.waiting (next_row s) (rows_of s) (next_places d d.shape.rows (next_row s) x.chunks)) [] (le-ltb (next_row s) (rows_of s) none) in
          subst (ArePieces t.end) (sym no_writes) (record { sized = tt; within = tt })

  pub copies_pieces : ArePieces t.end x.copies
  copies_pieces =
      let placed = told.copied.placed in
      subst (ArePieces t.end) (sym told.copied.writes) (record { sized = blocks_sized placed; within = blocks_within t.end placed told.ends })

  pub fixed_pieces : ArePieces t.end x.fixed
  fixed_pieces = whole_pieces t.end w x.fixed tops_then told.whole

  pub supers_pieces : ArePieces t.end x.supers
  supers_pieces = supers_are t.end s.root t.end x.supers (omega (arith, is.begun, rises)) x.ended

-- ---- Where the layout names the index

pub before_is : (s : Session) → IsSession s → IsWhole s → IsBefore s s.index s.places
before_is s is there = record { kind = is.kind; rises = omega arith; limit = refl; inside = is.inside; tops = is.tops there }

module _ (s : Session) (is : IsSession s) (there : IsWhole s) (t : Space) (w : IndexView) (ws : List Write) (x : ArePlanned s s.index s.places w t) (small : t.end < 2 ^ 64)
    (pending : ws ≡ x.rows ++ (x.copies ++ (x.supers ++ (x.fixed ++ header_piece s ∷ [])))) (header_short : length s.header ≤ 512) where
  abbrev after : Session
  after = flushed_of s t ws w

  abbrev before : IsBefore s s.index s.places
  before = before_is s is there

  -- the index is there then
  whole : IsUnmade after → ⊥
  whole (inl none) = there.named none
  whole (inr lacking) = never (has_no_block w) lacking (same_blocks s is s.index s.places before w t x ∙ there.made)

  some_pieces : ws ≢ []
  some_pieces none =
      let last = x.fixed ++ header_piece s ∷ [] in
      omega (arith, ap length none, ap length pending, length-append x.rows (x.copies ++ (x.supers ++ last)), length-append x.copies (x.supers ++ last), length-append x.supers last, length-append x.fixed (header_piece s ∷ []))

  pub flushed_is : IsSession after
  flushed_is =
      let d = s.dataset in
      let rows = rows_of s in
      let none : rows ≡ rows + 0 = omega arith in
      let far = rises s is s.index s.places before w t x in
      record {
        some_columns = is.some_columns;
        cells = omega arith;
        few = subst (λ (n : ℕ). needed (with_rows n d) ≤ chunk_limit s) none is.few;
        version = is.version;
        begun = omega (arith, is.begun, far);
        kind = kind_then s is s.index s.places before w t x;
        sound = sound_then s is s.index s.places before w t x;
        fits = let f = fits_then s is s.index s.places before w t x in record { kind = f.kind; some = f.some };
        header = writable_again s.header rows is.header;
        addressed = λ none. absurd (there.named none);
        header_ends = omega (arith, written_length s.header rows is.header, is.header_ends, far);
        small = small;
        limit = limit_then s is s.index s.places before w t x;
        inside = inside_then s is s.index s.places before w t x;
        blank = λ lacks key. absurd (whole lacks);
        live = λ lacks. absurd (whole lacks);
        early = omega arith;
        chunks = sym (none_touched (with_rows rows d) rows);
        placed = λ k p at. absurd cc;
        ends = λ k p at. absurd cc;
        flushing = λ e. refl;
        busy = λ e. some_pieces;
        budget_low = is.budget_low;
        budget_high = is.budget_high;
        tops = λ whole. tops_then s is s.index s.places before w t x;
        head = λ named lacking. absurd (whole (inr lacking));
      }

  pub flushed_pieces : ArePieces t.end ws
  flushed_pieces =
      let far = rises s is s.index s.places before w t x in
      let long = written_length s.header (rows_of s) is.header in
      let header = one_piece t.end (header_piece s) (omega (arith, long, is.header.some)) (omega (arith, long, header_short)) (omega (arith, long, is.header_ends, far)) in
      subst (ArePieces t.end) (sym pending)
      (pieces_joined t.end x.rows _ (rows_pieces s is s.index s.places before w t x) (pieces_joined t.end x.copies _ (copies_pieces s is s.index s.places before w t x)
      (pieces_joined t.end x.supers _ (supers_pieces s is s.index s.places before w t x) (pieces_joined t.end x.fixed (header_piece s ∷ []) (fixed_pieces s is s.index s.places before w t x) header))))

  -- what the code shows is a flush
  pub shown_flushed : IsFlushed s after
  shown_flushed = record { there = there; planned = x; pending = pending; session = refl }
