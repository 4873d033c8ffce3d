-- The first flush of a file whose array is not there yet is a flush.
use Rattle.std.proofs.Common.{◌≡◌, ℕ, List, [], ◌∷◌, ◌++◌, length, refl, sym, ◌∙◌, ap, subst, inl, inr, arith}
use Rattle.std.specs.Prelude.{Some, ℤ}
use Rattle.h5w_model.specs.Images.{image}
use Rattle.h5w_model.specs.Arrays.{eahd_len, eaib_len}
use Rattle.h5w_model.specs.Findings.{Used}
use Rattle.h5w_model.specs.declared.piece.Write.{Write}
use Rattle.h5w_step_laws.specs.Ranges.{AllAmong, block_at}
use Rattle.h5w_space.specs.Space.{Space}
use Rattle.h5w_cache.specs.Stores.{Store, times}
use Rattle.h5w_cache.specs.declared.moves.Move.{Move}
use Rattle.h5w_chunks.specs.declared.grid.ChunkPlace.{ChunkPlace}
use Rattle.h5w_step_laws.specs.Moments.{Moment}
use Rattle.h5w_array_laws.specs.Among.{AreAmong}
use Rattle.h5w_array_laws.specs.Parts.{index_block, header}
use Rattle.h5w_array_laws.specs.ArrayStores.{place_at_part, bytes_at_part, header_place, fixed_of}
use Rattle.h5w_array_laws.specs.ArrayImages.{StandsArray, SaysArray}
use Rattle.h5w_array_laws.specs.ArrayPlans.{fresh, IsArrayPlan}
use Rattle.h5w_array_laws.proofs.StandLemmas.{header_length, index_length, standing_says}
use Rattle.h5w_flush_laws.specs.Spaces.{Taken}
use Rattle.h5w_flush_laws.specs.Parts.{Parts, block_ranges, block_writes, committed, copied}
use Rattle.h5w_flush_laws.specs.Chunks.{chunks_for}
use Rattle.h5w_first_flush_laws.specs.FirstFlushes.{IsFirstFlush, IsNowhere, SaysFirst, no_chunk}
use Rattle.h5w_first_flush_laws.specs.Starting.{StartKnows}
use Rattle.h5w_first_flush_laws.specs.StartFlushes.{first_blocks, parts_for, IsStart, StartIsFlush}
use Rattle.h5w_first_flush_laws.proofs.ArrayFirstLemmas as first
use Rattle.h5w_first_flush_laws.proofs.ArrayFirstLemmas.{ShowsTops, array_says, array_takes}
use Rattle.h5w_first_flush_laws.proofs.FirstFlushLemmas.{first_is_flush, unnamed_nowhere}
use Rattle.h5w_first_flush_laws.proofs.StartPieceLemmas.{copy_writes}

module _ (img name : List ℕ) (m : Moment) (base b t : Space) (u v w : Store) (ms : List Move) (rows : ℕ) (more : List ℤ) (writes : List Write) (places : List ChunkPlace) (copies : List (ℕ × List ℕ)) (fixed supers : List Write)
    (r : StartKnows img name m base u) (x : IsStart img m base b u v ms w t rows more writes places copies fixed supers) where
  abbrev f : Parts
  f = parts_for m w rows more writes places copies supers t.end

  abbrev chunks : List Used
  chunks = chunks_for m no_chunk places

  pub planned : IsArrayPlan v b ms (block_writes copies) fixed w t
  planned = first.planned m b t u v w ms chunks copies fixed r.blank x.part

  nowhere : IsNowhere img m
  nowhere = unnamed_nowhere img name m r.knows.file r.unnamed.address

  -- ---- The array on the image once its blocks are written

  now_is : copied img f ≡ image (image img writes) (block_writes copies ++ fixed)
  now_is = ap (image (image img writes)) (copy_writes m u v w b t ms chunks copies fixed x.part)

  pub stands : StandsArray w (copied img f)
  stands = subst (λ (y : List ℕ). StandsArray w y) (sym now_is) (first.all_written m b t u v w ms chunks copies fixed r.blank x.part (image img writes))

  -- ---- Its ranges

  same_after : fixed_of w ≡ fixed_of u
  same_after = first.same_after m b t u v w ms chunks copies fixed r.blank x.part

  -- index block and header as blocks at new places
  first_ranges : block_ranges (first_blocks w) ≡ block_at (place_at_part w index_block) eaib_len ∷ block_at (header_place w) eahd_len ∷ []
  first_ranges =
      ap (λ n. block_at (place_at_part w index_block) n ∷ block_at (header_place w) (length (bytes_at_part w header)) ∷ []) (index_length w planned.array)
      ∙ ap (λ n. block_at (place_at_part w index_block) eaib_len ∷ block_at (header_place w) n ∷ []) (header_length w planned.array)

  first_same : AreAmong (block_ranges (first_blocks w)) (fixed_of w)
  first_same = subst (λ (us : List Used). AreAmong us (fixed_of w)) (sym first_ranges) (record { among = among; counts = λ p. omega arith })
    where
      among : AllAmong (block_at (place_at_part w index_block) eaib_len ∷ block_at (header_place w) eahd_len ∷ []) (fixed_of w)
      among l (inl e) = inr (inl e)
      among l (inr (inl e)) = inl e
      among l (inr (inr a)) = absurd a

  same_first : AreAmong (fixed_of w) (block_ranges (first_blocks w))
  same_first = subst (λ (us : List Used). AreAmong (fixed_of w) us) (sym first_ranges) (record { among = among; counts = λ p. omega arith })
    where
      among : AllAmong (fixed_of w) (block_at (place_at_part w index_block) eaib_len ∷ block_at (header_place w) eahd_len ∷ [])
      among l (inl e) = inr (inl e)
      among l (inr (inl e)) = inl e
      among l (inr (inr a)) = absurd a

  -- ---- The flush

  shows : ShowsTops m w (first_blocks w) (fixed_of w)
  shows = record { kind = r.unnamed.kind; whole = ap (λ (us : List Used). us ++ fixed_of w) (sym nowhere.fixed); into = first_same; back = same_first }

  taken : Taken base (fixed_of w ++ chunks) b
  taken = subst (λ (us : List Used). Taken base (us ++ chunks) b) (sym same_after) x.taken

  says : SaysFirst img m f
  says =
      let said : SaysArray w (committed m.dataset rows (Some (header_place w))) (copied img f) = standing_says w (copied img f) (committed m.dataset rows (Some (header_place w))) planned.array planned.clean stands r.unnamed.kind refl in
      array_says m base b t u v w ms rows more writes places copies (first_blocks w) fixed supers [] (Some (header_place w)) (fixed_of w) r.blank x.part shows img (λ n placed low. stands.there n placed (ap (times n) planned.clean)) tt
      (λ none. record { says = said.says; looks = sym said.looks }) (r.unnamed.address, planned.array.below 846)

  pub start_first : IsFirstFlush img m r.knows.held base t (parts_for m w rows more writes places copies supers t.end)
  start_first =
      first_is_flush img name m base t f (fixed_of w) (fresh ms) places r.knows x.rising
      (array_takes m base b t u v w ms rows more writes places copies (first_blocks w) fixed supers [] (Some (header_place w)) (fixed_of w) r.blank x.part shows taken) says

pub start_is_flush : StartIsFlush
start_is_flush img name m base b t u v w ms rows more writes places copies fixed supers r x = (start_first img name m base b t u v w ms rows more writes places copies fixed supers r x).flush
