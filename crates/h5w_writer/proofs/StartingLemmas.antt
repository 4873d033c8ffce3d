-- What a first flush leaves is a session again, and what its calls show is such a flush.
use Rattle.std.proofs.Common.{◌≡◌, ℕ, ◌+◌, ◌^◌, ◌<◌, ◌≤◌, ◌≢◌, ◌⊎◌, ◌==◌, true, false, List, [], ◌∷◌, ◌++◌, length, Option, Some, None, refl, sym, ap, ◌∙◌, subst, inl, inr, arith, length-append}
use Rattle.std.proofs.lemmas.Bool.Decides.{eqb_tells}
use Rattle.h5w_model.specs.Numbers.{undefined}
use Rattle.h5w_model.specs.Headers.{with_rows_bytes}
use Rattle.h5w_model.specs.Tables.{needed}
use Rattle.h5w_model.specs.Datasets.{Described}
use Rattle.h5w_model.specs.declared.cell.Key.{Key}
use Rattle.h5w_model.specs.declared.cell.IndexKind.TheVariants.{Array, Tree}
use Rattle.h5w_model.specs.declared.piece.Write.{Write}
use Rattle.h5w_space.specs.Space.{Space}
use Rattle.h5w_chunks.specs.Shares.{first_line}
use Rattle.h5w_step_laws.specs.Files.{with_index}
use Rattle.h5w_index.specs.Views.{IndexView, TakesKey, an_array, a_tree, kind_of}
use Rattle.h5w_index.specs.Blocks.{has_no_block}
use Rattle.h5w_index.specs.Placing.{AreInside, Fits}
use Rattle.h5w_writer.specs.Sessions.{ArePieces, HasAddress, IsSession, IsUnmade, IsWritable, Session, bands_of, chunk_limit, rows_of, with_rows}
use Rattle.h5w_writer.specs.Flushes.{ArePlanned}
use Rattle.h5w_pieces.specs.Joined.{AreJoined, IsNaming}
use Rattle.h5w_writer.specs.Starts.{IsStartFlushed, IsStartedAt, naming_piece, started_of}
use Rattle.h5w_writer.proofs.FlushedLemmas.{IsBefore, copies_pieces, fits_same, fits_then, fixed_pieces, inside_then, kind_then, limit_then, one_piece, pieces_joined, rises, rows_pieces, sound_then, supers_pieces, takes_keys, told, tops_then}
use Rattle.h5w_writer.proofs.EarlyLemmas.{none_touched}
use Rattle.h5w_writer.proofs.HeaderAlone.{made_whole, never, same_block}
use Rattle.h5w_writer.proofs.IndexLemmas.{header_defined}
use Rattle.h5w_writer.proofs.StartKinds.{made_none}
use Rattle.h5w_writer.proofs.WritableLemmas.{named_length, named_writable, writable_again, written_length}

trees_apart : Tree ≡ Array → ⊥
trees_apart same = cc

-- an index takes the keys that another of its kind does
takes_same : (v w : IndexView) → kind_of w ≡ kind_of v → (key : Key) → TakesKey v key → TakesKey w key
takes_same (an_array v) (an_array w) same key takes = takes
takes_same (an_array v) (a_tree q w) same key takes = tt
takes_same (a_tree p v) (a_tree q w) same key takes = tt
takes_same (a_tree p v) (an_array w) same key takes = absurd (trees_apart (sym same))

-- ---- The index that is made

-- it has no chunk that could stand past the end
pub made_inside : (d : Described) (end address : ℕ) (s : Space) (at : ℕ) (made : IndexView) (first : Space) → IsStartedAt address s at made first → AreInside d end made
made_inside d end address s at made first start key from named = absurd (named (made_none address s at made first start.made key))

module _ (s : Session) (is : IsSession s) (made : IndexView) (kind : s.dataset.layout.index ≡ kind_of made) where
  same_kind : kind_of made ≡ kind_of s.index
  same_kind = sym kind ∙ is.kind

  -- it is of the dataset's chunks, and takes the keys of the bands of the rows
  pub made_fits : Fits s.dataset made
  made_fits = fits_same s.dataset s.index made same_kind is.fits

  pub made_takes : (key : Key) → key.i < first_line s.dataset (bands_of s) → TakesKey made key
  made_takes key low = takes_same s.index made same_kind key (takes_keys s is key low)

-- ---- The dataset header

-- it can be written with the rows, and with an address where it is to name the index
naming_cases : (s : Session) (is : IsSession s) (naming : Option ℕ) (at : ℕ) → IsNaming s.dataset.layout.address at naming → ((naming ≡ Some at) × HasAddress s.header) ⊎ (naming ≡ None)
naming_cases s is naming at names = go (eqb_tells s.dataset.layout.address undefined)
  where
    go : ((s.dataset.layout.address == undefined) ≡ true) × (s.dataset.layout.address ≡ undefined) ⊎ ((s.dataset.layout.address == undefined) ≡ false) × (s.dataset.layout.address ≢ undefined) → ((naming ≡ Some at) × HasAddress s.header) ⊎ (naming ≡ None)
    go (inl t) = inl (names.unnamed t.1, is.addressed t.1)
    go (inr t) = inr (names.named t.1)

pub naming_writable : (s : Session) (is : IsSession s) (naming : Option ℕ) (at : ℕ) (names : IsNaming s.dataset.layout.address at naming) (rows : ℕ) → IsWritable (with_rows_bytes s.header rows naming)
naming_writable s is naming at names rows = elim (naming_cases s is naming at names) as (λ _. IsWritable (with_rows_bytes s.header rows naming)) [
  | inl n ↦ subst (λ (o : Option ℕ). IsWritable (with_rows_bytes s.header rows o)) (sym n.0) (named_writable s.header rows at is.header n.1)
  | inr e ↦ subst (λ (o : Option ℕ). IsWritable (with_rows_bytes s.header rows o)) (sym e) (writable_again s.header rows is.header)
]

pub naming_length : (s : Session) (is : IsSession s) (naming : Option ℕ) (at : ℕ) (names : IsNaming s.dataset.layout.address at naming) (rows : ℕ) → length (with_rows_bytes s.header rows naming) ≡ length s.header
naming_length s is naming at names rows = elim (naming_cases s is naming at names) as (λ _. length (with_rows_bytes s.header rows naming) ≡ length s.header) [
  | inl n ↦ subst (λ (o : Option ℕ). length (with_rows_bytes s.header rows o) ≡ length s.header) (sym n.0) (named_length s.header rows at is.header n.1)
  | inr e ↦ subst (λ (o : Option ℕ). length (with_rows_bytes s.header rows o) ≡ length s.header) (sym e) (written_length s.header rows is.header)
]

-- how many pieces a first flush has
pub lengths_first : (naming : Option ℕ) (a b c d : List Write) (h : Write) (ws : List Write) → AreJoined naming a b c d h ws → length ws ≡ length a + length b + length c + length d + 1
lengths_first naming a b c d h ws j =
    omega (
      arith,
      ap length j.all,
      ap length j.cut,
      length-append j.front j.behind,
      length-append a (b ++ (j.front ++ (d ++ (j.behind ++ h ∷ [])))),
      length-append b (j.front ++ (d ++ (j.behind ++ h ∷ []))),
      length-append j.front (d ++ (j.behind ++ h ∷ [])),
      length-append d (j.behind ++ h ∷ []),
      length-append j.behind (h ∷ []),
    )

-- pieces in two parts
pub pieces_cut : (end : ℕ) (ws vs : List Write) → ArePieces end (ws ++ vs) → ArePieces end ws × ArePieces end vs
pieces_cut end [] vs all = (record { sized = tt; within = tt }, all)
pieces_cut end (w ∷ ws) vs all =
    let rest = pieces_cut end ws vs (record { sized = all.sized.1; within = all.within.1 }) in
    (record { sized = (all.sized.0, rest.0.sized); within = (all.within.0, rest.0.within) }, rest.1)

module _ (s : Session) (is : IsSession s) (at : ℕ) (made : IndexView) (first : Space) (kind : s.dataset.layout.index ≡ kind_of made) (start : IsStartedAt s.dataset.layout.address s.places at made first) (unmade : IsUnmade s) (naming : Option ℕ) (names : IsNaming s.dataset.layout.address at naming) where
  abbrev begun : IsBefore s made first
  begun = record { kind = kind; rises = start.raised.rises; limit = start.raised.limit; inside = made_inside s.dataset first.end s.dataset.layout.address s.places at made first start; tops = start.inside }

  module _ (t : Space) (w : IndexView) (ws : List Write) (x : ArePlanned s made first w t) (small : t.end < 2 ^ 64)
      (pending : AreJoined naming x.rows x.copies x.fixed x.supers (naming_piece s naming) ws) (header_short : length s.header ≤ 512) where
    abbrev pub after : Session
    after = started_of s at naming t ws w

    -- the index is there then: its header stands somewhere, and an array has its index block
    there : IsUnmade after → ⊥
    there (inl none) = header_defined made start.sound (start.at_place ∙ none)
    there (inr lacking) =
        let blocks = (told s is made first begun w t x).stay ∙ x.names.partly.like.fixed in
        never (has_no_block w) lacking (same_block made w blocks ∙ made_whole s.dataset.layout.address s.places at made first start.made (is.live unmade))

    some_pieces : ws ≢ []
    some_pieces none = let long = lengths_first naming x.rows x.copies x.fixed x.supers (naming_piece s naming) ws pending in omega (arith, long, ap length none)

    pub started_is : IsSession after
    started_is =
        let d = s.dataset in
        let rows = rows_of s in
        let same : rows ≡ rows + 0 = omega arith in
        let far = rises s is made first begun w t x in
        record {
          some_columns = is.some_columns;
          cells = omega arith;
          few = subst (λ (n : ℕ). needed (with_index at (with_rows n d)) ≤ chunk_limit s) same is.few;
          version = is.version;
          begun = omega (arith, is.begun, far);
          kind = kind_then s is made first begun w t x;
          sound = sound_then s is made first begun w t x;
          fits = let f = fits_then s is made first begun w t x in record { kind = f.kind; some = f.some };
          header = naming_writable s is naming at names rows;
          addressed = λ none. absurd (header_defined made start.sound (start.at_place ∙ none));
          header_ends = omega (arith, naming_length s is naming at names rows, is.header_ends, far);
          small = small;
          limit = limit_then s is made first begun w t x;
          inside = inside_then s is made first begun w t x;
          tops = λ whole. tops_then s is made first begun w t x;
          blank = λ lacks key. absurd (there lacks);
          live = λ lacks. absurd (there lacks);
          early = omega arith;
          chunks = sym (none_touched (with_index at (with_rows rows d)) rows);
          placed = λ k p here. absurd cc;
          ends = λ k p here. absurd cc;
          flushing = λ e. refl;
          busy = λ e. some_pieces;
          budget_low = is.budget_low;
          budget_high = is.budget_high;
          head = λ named lacking. absurd (there (inr lacking));
        }

    pub started_pieces : ArePieces t.end ws
    started_pieces =
        let far = rises s is made first begun w t x in
        let long = naming_length s is naming at names (rows_of s) in
        let header = one_piece t.end (naming_piece s naming) (omega (arith, long, is.header.some)) (omega (arith, long, header_short)) (omega (arith, long, is.header_ends, far)) in
        let fixed = pieces_cut t.end pending.front pending.behind (subst (ArePieces t.end) (sym pending.cut) (fixed_pieces s is made first begun w t x)) in
        subst (ArePieces t.end) (sym pending.all)
        (pieces_joined t.end x.rows _ (rows_pieces s is made first begun w t x) (pieces_joined t.end x.copies _ (copies_pieces s is made first begun w t x)
        (pieces_joined t.end pending.front _ fixed.0 (pieces_joined t.end x.supers _ (supers_pieces s is made first begun w t x) (pieces_joined t.end pending.behind (naming_piece s naming ∷ []) fixed.1 header)))))

    -- what the code shows is a first flush
    pub shown_started : IsStartFlushed s after
    shown_started = record { unmade = unmade; at = at; first = first; made = made; kind = kind; start = start; planned = x; naming = naming; names = names; pending = pending; session = refl }
