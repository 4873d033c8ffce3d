-- A first flush of a tree by what its calls give.
use Rattle.std.proofs.Common.{◌≡◌, ℕ, ◌<◌, false, List, [], ◌∷◌, ◌++◌, length, refl, sym, ap, ◌∙◌, subst, inl, inr, arith, append-nil}
use Rattle.std.specs.Prelude.{Some, ℤ}
use Rattle.std.specs.List.{slice_get}
use Rattle.std.proofs.lemmas.Bool.{cases_Bool, cond-false}
use Rattle.std.proofs.lemmas.Grind.{flat_map-append}
use Rattle.h5w_model.specs.Numbers.{undefined}
use Rattle.h5w_model.specs.Images.{pieces}
use Rattle.h5w_model.specs.Trees.{bthd_bytes}
use Rattle.h5w_model.specs.Findings.{Used, chunk_bytes}
use Rattle.h5w_model.specs.declared.cell.Key.{Key}
use Rattle.h5w_model.specs.declared.piece.Write.{Write}
use Rattle.h5w_space.specs.Space.{Space}
use Rattle.h5w_cache.specs.declared.moves.Move.{Move}
use Rattle.h5w_chunks.specs.Shares.{touched_key}
use Rattle.h5w_chunks.specs.declared.grid.ChunkPlace.{ChunkPlace}
use Rattle.h5w_step_laws.specs.Files.{commit_at}
use Rattle.h5w_step_laws.specs.Moments.{Moment}
use Rattle.h5w_array_laws.specs.Among.{AreAmong}
use Rattle.h5w_array_laws.proofs.FixedLemmas.{one_piece}
use Rattle.h5w_flush_laws.specs.Parts.{block_writes, pieces_of}
use Rattle.h5w_flush_laws.specs.Chunks.{chunks_for}
use Rattle.h5w_first_flush_laws.specs.FirstFlushes.{no_chunk}
use Rattle.h5w_first_flush_laws.proofs.FirstFlushLemmas.{first_pieces}
use Rattle.h5w_bt_index.specs.Marks.{Part, clean_of}
use Rattle.h5w_bt_index.specs.Index.{Index, address_of, no_tree}
use Rattle.h5w_bt_nodes.specs.Blocks.{written}
use Rattle.h5w_bt_index.specs.Plans.{IsTreePlan, header_of, header_writes, news}
use Rattle.h5w_bt_index.proofs.Shares.{filled_kept}
use Rattle.h5w_tree_index_laws.specs.TreeImages.{behind_of, blank}
use Rattle.h5w_tree_index_laws.proofs.TreeHeaderLemmas.{header_long}
use Rattle.h5w_tree_index_laws.proofs.TreeStandLemmas.{own_part, part_of}
use Rattle.h5w_index.specs.Views.{IsSoundTree}
use Rattle.h5w_tree_starting_laws.specs.TreeStarting.{IsUnwritten, parts_for}
use Rattle.h5w_tree_starting_laws.specs.TreeStartCalls.{AreTreeStartCalls, CallsStartTree, TreeStartCalls}

-- a tree that is the blank leaf has no chunk
unfoldable pub index_of_part : Part → Index
index_of_part p = record { depth = p.depth; root = p.tree }

blank_finds : (v : Index) (key : Key) → part_of v.depth v.root ≡ blank → address_of v key ≡ undefined
unfolding index_of_part
blank_finds v key e = ap (λ (p : Part). address_of (index_of_part p) key) e

pub first_of : (places : List ChunkPlace) → 0 < length places → (p : ChunkPlace) × (slice_get places 0 ≡ Some p)
first_of [] some = absurd (omega (arith, some))
first_of (p ∷ ps) some = (p, refl)

-- ---- Pieces

header_written : (p : ℕ) (v w : Index) → clean_of v.depth v.root ≡ false → header_writes p v w ≡ record { at = p; piece = bthd_bytes (header_of w) } ∷ []
header_written p v w e = cond-false (clean_of v.depth v.root) _ _ e

header_block : (p : ℕ) (w : Index) → block_writes ((p, bthd_bytes (header_of w)) ∷ []) ≡ record { at = p; piece = bthd_bytes (header_of w) } ∷ []
header_block p w =
    let long = header_long (header_of w) in
    append-nil (pieces p (bthd_bytes (header_of w))) ∙ one_piece p (bthd_bytes (header_of w)) (omega (arith, long)) (omega (arith, long))

module _ (img : List ℕ) (m : Moment) (base b t : Space) (place : ℕ) (v w : Index) (ms : List Move) (rows : ℕ) (more : List ℤ) (writes : List Write) (places : List ChunkPlace) (added : List Key) (cs fixed supers : List Write)
    (c : AreTreeStartCalls img m base b place v ms w t rows more writes places added cs fixed supers) where
  abbrev chunks : List Used
  chunks = chunks_for m no_chunk places

  abbrev copies : List (ℕ × List ℕ)
  copies = written v.depth (news ms) v.root

  sound : IsSoundTree place v
  sound = c.named.partly.like.sound

  unwritten : IsUnwritten v
  unwritten = record { places = c.named.partly.like.blocks; clean = λ p clean. (c.named.partly.like.marks p clean).1 }

  -- some chunk has an address, so that the tree is not the blank leaf
  changed : clean_of v.depth v.root ≡ false
  changed = elim (cases_Bool (clean_of v.depth v.root)) [
    | inl e ↦
        let first = first_of places c.some in
        let at = c.named.placed 0 first.0 first.1 in
        absurd (at.defined (sym at.named ∙ blank_finds v (touched_key m.dataset m.dataset.shape.rows 0) (unwritten.clean (part_of v.depth v.root) (own_part v.depth v.root e))))
    | inr e ↦ e
  ]

  among : AreAmong (behind_of (chunk_bytes m.dataset) v) chunks
  among = subst (λ (us : List Used). AreAmong (behind_of (chunk_bytes m.dataset) v) us) (append-nil chunks) c.named.behind

  fixed_is : fixed ≡ block_writes ((place, bthd_bytes (header_of w)) ∷ [])
  fixed_is = c.plan.1.in_place ∙ header_written place v w changed ∙ sym (header_block place w)

  all_pieces : pieces_of img m (parts_for m place w rows more writes places copies supers t.end) ≡ writes ++ (cs ++ (fixed ++ (supers ++ commit_at img m.place rows (Some place) ∷ [])))
  all_pieces =
      first_pieces img m (parts_for m place w rows more writes places copies supers t.end) cs fixed refl
      (flat_map-append (λ (x : ℕ × List ℕ). pieces x.0 x.1) copies ((place, bthd_bytes (header_of w)) ∷ [])
      ∙ ap (λ (ws : List Write). block_writes copies ++ ws) (sym fixed_is) ∙ ap (λ (ws : List Write). ws ++ fixed) (sym c.plan.1.copies))

  calls_start : CallsStartTree img m base b place v ms w t rows more writes places cs fixed supers
  calls_start = record {
    copies = copies;
    blocks = c.plan.1.copies;
    start = record {
      rising = c.rising copies;
      taken = c.taken;
      ends = c.ends;
      index = sound.index;
      filled = filled_kept no_tree v c.named.partly.like.shares (omega arith);
      unwritten = unwritten;
      changed = changed;
      behind = record { among = among.among; counts = among.counts };
      plan = subst (λ (ws : List Write). IsTreePlan place v b ms ws fixed w t) c.plan.1.copies c.plan.1;
      copied = refl;
    };
    pieces = all_pieces;
  }

pub tree_start_calls : TreeStartCalls
tree_start_calls img m base b t place v w ms rows more writes places added cs fixed supers c = calls_start img m base b t place v w ms rows more writes places added cs fixed supers c
