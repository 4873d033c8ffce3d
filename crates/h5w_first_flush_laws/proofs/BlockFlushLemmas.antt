-- The first flush of a file whose array is a header alone is a flush.
use Rattle.std.proofs.Common.{◌≡◌, ℕ, List, [], ◌∷◌, ◌++◌, length, None, refl, sym, ◌∙◌, ap, subst, inl, arith, append_assoc}
use Rattle.std.specs.Prelude.{ℤ}
use Rattle.std.proofs.lemmas.Grind.{flat_map-append}
use Rattle.h5w_model.specs.Images.{At, AllMiss, apply, image, pieces}
use Rattle.h5w_model.specs.Arrays.{eahd_len, eaib_len}
use Rattle.h5w_model.specs.Findings.{Used, the_superblock}
use Rattle.h5w_model.specs.declared.piece.Write.{Write}
use Rattle.h5w_model.proofs.ImageLemmas.{At-apply, At-apply_missed, At-image_missed, image-push}
use Rattle.h5w_step_laws.specs.Ranges.{Among, AreApart, Disjoint, block_at}
use Rattle.h5w_space.specs.Space.{Space}
use Rattle.h5w_cache.specs.Stores.{Store}
use Rattle.h5w_cache.specs.StoreLaws.{Standing}
use Rattle.h5w_cache.specs.declared.moves.Move.{Move}
use Rattle.h5w_chunks.specs.declared.grid.ChunkPlace.{ChunkPlace}
use Rattle.h5w_step_laws.specs.Files.{commit_at}
use Rattle.h5w_step_laws.specs.Moments.{Moment, all_used}
use Rattle.h5w_step_laws.specs.Steps.{LiesIn}
use Rattle.h5w_step_laws.proofs.PartLemmas.{apart_sym, disjoint_apart}
use Rattle.h5w_array_laws.specs.Parts.{index_block, header}
use Rattle.h5w_array_laws.specs.ArrayStores.{place_at_part, bytes_at_part, header_place, fixed_of}
use Rattle.h5w_array_laws.specs.ArrayImages.{BehindStands, SaysArray}
use Rattle.h5w_array_laws.specs.ArrayPlans.{fresh, IsArrayPlan}
use Rattle.h5w_array_laws.proofs.FixedLemmas.{one_piece}
use Rattle.h5w_array_laws.proofs.PlanLemmas.{two_apart}
use Rattle.h5w_array_laws.proofs.StandLemmas.{header_length, header_placed, header_stands, index_length, index_placed, says_array}
use Rattle.h5w_array_laws.proofs.WriteLemmas.{writes_leave}
use Rattle.h5w_flush_laws.specs.Spaces.{Taken}
use Rattle.h5w_flush_laws.specs.Parts.{Parts, block_ranges, block_writes, copied, ended}
use Rattle.h5w_flush_laws.specs.Chunks.{chunks_for}
use Rattle.h5w_flush_laws.proofs.FlushLemmas.{end_misses}
use Rattle.h5w_flush_laws.proofs.SpaceLemmas.{taken_disjoint}
use Rattle.h5w_first_flush_laws.specs.FirstFlushes.{IsFirstFlush, SaysFirst, no_chunk}
use Rattle.h5w_array_laws.proofs.AmongLemmas.{part_as}
use Rattle.h5w_first_flush_laws.proofs.FirstFlushLemmas.{first_is_flush}
use Rattle.h5w_first_flush_laws.proofs.ArrayFirstLemmas as first
use Rattle.h5w_first_flush_laws.proofs.ArrayFirstLemmas.{ShowsTops, header_of, second_of}
use Rattle.h5w_first_flush_laws.proofs.StartPieceLemmas.{two_writes}
use Rattle.h5w_first_flush_laws.specs.HeaderAlone.{AloneKnows, IsAlone}
use Rattle.h5w_first_flush_laws.specs.BlockFlushes.{new_block, block_piece, top_piece, block_parts_for, IsBlockStart, BlockIsFlush, BlockPieces}
use Rattle.h5w_first_flush_laws.proofs.AloneLemmas.{alone_nowhere}

-- ---- What is written

-- the copies and the index block
copy_writes : (w : Store) (copies : List (ℕ × List ℕ)) → length (bytes_at_part w index_block) ≡ eaib_len → block_writes (copies ++ new_block w) ≡ block_writes copies ++ block_piece w ∷ []
copy_writes w copies long =
    flat_map-append (λ (b : ℕ × List ℕ). pieces b.0 b.1) copies (new_block w)
    ∙ ap (λ (ws : List Write). block_writes copies ++ (ws ++ [])) (one_piece (place_at_part w index_block) (bytes_at_part w index_block) (omega (arith, long)) (omega (arith, long)))

-- all pieces, one behind another
in_line : (a b : List Write) (c : Write) (d : List Write) (e f : Write) → (a ++ ((b ++ c ∷ []) ++ (d ++ e ∷ []))) ++ f ∷ [] ≡ a ++ (b ++ (c ∷ (d ++ (e ∷ f ∷ []))))
in_line a b c d e f =
    append_assoc a ((b ++ c ∷ []) ++ (d ++ e ∷ [])) (f ∷ [])
    ∙ ap (λ (x : List Write). a ++ x) (append_assoc (b ++ c ∷ []) (d ++ e ∷ []) (f ∷ []) ∙ append_assoc b (c ∷ []) ((d ++ e ∷ []) ++ f ∷ []) ∙ ap (λ (x : List Write). b ++ (c ∷ x)) (append_assoc d (e ∷ []) (f ∷ [])))

pub block_pieces : BlockPieces
block_pieces img m s t u v w ms rows more writes chunks copies fixed supers last x =
    let early : List Write → List Write = λ ws. (writes ++ (ws ++ (supers ++ top_piece w ∷ []))) ++ commit_at img m.place rows None ∷ [] in
    record {
      two = two_writes m u v w s t ms chunks copies fixed x;
      pieces = ap early (copy_writes w copies (index_length w x.plan.after)) ∙ in_line writes (block_writes copies) (block_piece w) supers (top_piece w) (commit_at img m.place rows None);
    }

-- ---- The flush

module _ (img name : List ℕ) (m : Moment) (base b t : Space) (u v w : Store) (ms : List Move) (rows : ℕ) (more : List ℤ) (writes : List Write) (places : List ChunkPlace) (copies : List (ℕ × List ℕ)) (fixed supers : List Write)
    (r : AloneKnows img name m base) (x : IsBlockStart img m base b u v ms w t rows more writes places copies fixed supers) where
  abbrev f : Parts
  f = block_parts_for m w rows more writes places copies supers t.end

  abbrev chunks : List Used
  chunks = chunks_for m no_chunk places

  -- the range of the index block
  abbrev top : Used
  top = block_at (place_at_part w index_block) eaib_len

  pub planned : IsArrayPlan v b ms (block_writes copies) fixed w t
  planned = first.planned m b t u v w ms chunks copies fixed x.blank x.part

  is : IsAlone img m
  is = alone_nowhere img name m r.knows.file r.alone

  same_after : fixed_of w ≡ fixed_of u
  same_after = first.same_after m b t u v w ms chunks copies fixed x.blank x.part

  pub at : m.dataset.layout.address ≡ header_place w
  at = sym x.at ∙ sym (ap header_of same_after)

  own : m.fixed ≡ block_at (header_place w) eahd_len ∷ []
  own = is.fixed ∙ ap (λ p. block_at p eahd_len ∷ []) at

  taken : Taken base (top ∷ chunks) b
  taken = subst (λ p. Taken base (block_at p eaib_len ∷ chunks) b) (sym (ap second_of same_after)) x.taken

  pub standing : Standing w t
  standing = x.part.plan.keeps.standing x.part.plan.standing

  -- ---- The array on the image

  abbrev before : List ℕ
  before = image (image img writes) (block_writes copies)

  copied_is : copied img f ≡ apply (block_piece w) before
  copied_is = ap (image (image img writes)) (copy_writes w copies (index_length w planned.array)) ∙ image-push (image img writes) (block_writes copies) (block_piece w)

  index_copied : At (copied img f) (place_at_part w index_block) (bytes_at_part w index_block)
  index_copied = subst (λ (y : List ℕ). At y (place_at_part w index_block) (bytes_at_part w index_block)) (sym copied_is) (At-apply (block_piece w) before)

  -- the index block misses the blocks behind those in place
  pub behind : BehindStands w (copied img f)
  behind =
      subst (λ (y : List ℕ). BehindStands w y) (sym copied_is)
      (writes_leave.behind w before (block_piece w ∷ []) (λ n placed low. (two_apart w t standing 845 n (λ e. absurd (omega (arith, e, low))) (index_placed w planned.array) placed, tt))
      (first.copies_written m b t u v w ms chunks copies fixed x.blank x.part (image img writes)))

  -- what was taken meets nothing of the file
  off_file : Disjoint ((top ∷ chunks) ++ all_used m)
  off_file = taken_disjoint base b (top ∷ chunks) (all_used m) taken r.knows.live r.knows.file.apart

  super_off : AreApart the_superblock top
  super_off = apart_sym top the_superblock (disjoint_apart (top ∷ chunks) (all_used m) top the_superblock off_file (inl refl) (inl refl))

  supers_off : AllMiss supers (place_at_part w index_block) (length (bytes_at_part w index_block))
  supers_off = subst (λ n. AllMiss supers (place_at_part w index_block) n) (sym (index_length w planned.array)) (end_misses m.super t.end supers top x.rising.ended super_off)

  index_ended : At (ended img f) (place_at_part w index_block) (bytes_at_part w index_block)
  index_ended = At-image_missed (copied img f) supers (place_at_part w index_block) (bytes_at_part w index_block) supers_off index_copied

  -- after the header's piece both blocks in place are there
  abbrev last : List ℕ
  last = apply (top_piece w) (ended img f)

  pub header_last : At last (header_place w) (bytes_at_part w header)
  header_last = At-apply (top_piece w) (ended img f)

  pub index_last : At last (place_at_part w index_block) (bytes_at_part w index_block)
  index_last =
      At-apply_missed (top_piece w) (ended img f) (place_at_part w index_block) (bytes_at_part w index_block) (two_apart w t standing 846 845 (λ e. absurd (omega (arith, e))) (header_placed w planned.array) (index_placed w planned.array)) index_ended

  says : SaysArray w m.dataset last
  says = says_array w last m.dataset planned.array planned.clean r.alone.kind at (header_stands w last planned.array planned.clean header_last) index_last

  lies : LiesIn (top_piece w) m.fixed
  lies = record {
    used = block_at (header_place w) eahd_len;
    among = subst (λ (us : List Used). Among (block_at (header_place w) eahd_len) us) (sym own) (inl refl);
    from = omega arith;
    to = omega (arith, header_length w planned.array);
  }

  ranges_are : block_ranges (new_block w) ≡ top ∷ []
  ranges_are = ap (λ n. block_at (place_at_part w index_block) n ∷ []) (index_length w planned.array)

  shows : ShowsTops m w (new_block w) (top ∷ [])
  shows = record {
    kind = r.alone.kind;
    whole = ap (λ (us : List Used). us ++ top ∷ []) (sym own);
    into = part_as (block_ranges (new_block w)) (top ∷ []) ranges_are;
    back = part_as (top ∷ []) (block_ranges (new_block w)) (sym ranges_are);
  }

  first_says : SaysFirst img m f
  first_says =
      first.array_says m base b t u v w ms rows more writes places copies (new_block w) fixed supers (top_piece w ∷ []) None (top ∷ []) x.blank x.part shows img behind
      (lies, record { says = says.says; looks = sym says.looks }, tt) (λ none. absurd cc) tt

  pub block_first : IsFirstFlush img m r.knows.held base t (block_parts_for m w rows more writes places copies supers t.end)
  block_first =
      first_is_flush img name m base t f (top ∷ []) (fresh ms) places r.knows x.rising
      (first.array_takes m base b t u v w ms rows more writes places copies (new_block w) fixed supers (top_piece w ∷ []) None (top ∷ []) x.blank x.part shows taken) first_says

pub block_is_flush : BlockIsFlush
block_is_flush img name m base b t u v w ms rows more writes places copies fixed supers r x = (block_first img name m base b t u v w ms rows more writes places copies fixed supers r x).flush
