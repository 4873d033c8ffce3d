-- The first flush of an array that is made with it: what its plan gives.
use Rattle.std.proofs.Common.{◌≡◌, ◌⊎◌, ℕ, ◌^◌, ◌<◌, ◌≤◌, List, [], ◌∷◌, ◌++◌, length, Option, refl, sym, ◌∙◌, ap, subst, inl, inr, arith, append-nil}
use Rattle.std.specs.Prelude.{IfSome, take, ℤ}
use Rattle.std.proofs.lemmas.Bool.{cases_lt}
use Rattle.std.proofs.lemmas.List.{map-append}
use Rattle.h5w_model.specs.Images.{At, image}
use Rattle.h5w_model.specs.Numbers.{undefined}
use Rattle.h5w_model.specs.Findings.{Used, chunk_bytes}
use Rattle.h5w_model.specs.declared.cell.IndexKind.TheVariants.{Array}
use Rattle.h5w_model.specs.declared.piece.Write.{Write}
use Rattle.h5w_step_laws.specs.Ranges.{block_at}
use Rattle.h5w_step_laws.proofs.RangeLemmas.{among_left}
use Rattle.h5w_space.specs.Space.{Space}
use Rattle.h5w_cache.specs.Stores.{Store, place_of, times}
use Rattle.h5w_cache.specs.Plans.{bytes_in, numbers}
use Rattle.h5w_cache.specs.StoreLaws.{AreThere}
use Rattle.h5w_cache.specs.declared.moves.Move.{Move}
use Rattle.h5w_cache.proofs.LawLemmas.{no_move}
use Rattle.h5w_chunks.specs.declared.grid.ChunkPlace.{ChunkPlace}
use Rattle.h5w_step_laws.specs.Files.{with_index}
use Rattle.h5w_step_laws.specs.Moments.{Moment}
use Rattle.h5w_step_laws.proofs.PartLemmas.{count_joined}
use Rattle.h5w_array_laws.specs.Among.{AreAmong}
use Rattle.h5w_array_laws.specs.Parts.{index_block}
use Rattle.h5w_array_laws.specs.ArrayStores.{fixed_of, behind_of, blocks_in_place, header_place}
use Rattle.h5w_array_laws.specs.ArrayImages.{StandsArray, BehindStands}
use Rattle.h5w_array_laws.specs.ArrayPlans.{fresh, IsArrayPlan}
use Rattle.h5w_array_laws.proofs.AmongLemmas.{part_itself, part_joined, part_onward}
use Rattle.h5w_array_laws.proofs.ArrayPlanLemmas.{plans_array}
use Rattle.h5w_array_laws.proofs.FoundLemmas.{address_found}
use Rattle.h5w_array_laws.proofs.PlanLemmas.{copy_before, header_after}
use Rattle.h5w_array_laws.proofs.PlannedLemmas.{is_marked}
use Rattle.h5w_array_laws.proofs.StandLemmas.{header_placed, header_stands}
use Rattle.h5w_array_laws.proofs.StoreLemmas.{changed_moved, clean_before, listed_before, stands_after}
use Rattle.h5w_array_laws.proofs.VisitedLemmas.{visited}
use Rattle.h5w_array_laws.proofs.WriteLemmas.{which_part}
use Rattle.h5w_flush_laws.specs.Spaces.{Taken}
use Rattle.h5w_flush_laws.specs.Parts.{EachSays, Parts, SaysInPlace, block_ranges, block_writes, committed, copied, ended}
use Rattle.h5w_flush_laws.specs.Chunks.{AreChunks, chunks_for}
use Rattle.h5w_array_flush_laws.specs.ArrayFlushes.{ArePlaces, IsArrayPart}
use Rattle.h5w_array_flush_laws.proofs.ArrayLaws.{new_are}
use Rattle.h5w_array_flush_laws.proofs.ArrayPlaceLemmas.{array_places}
use Rattle.h5w_first_flush_laws.specs.FirstFlushes.{SaysFirst, TakesFirst, no_chunk}
use Rattle.h5w_first_flush_laws.specs.Starting.{IsBlank}
use Rattle.h5w_first_flush_laws.specs.StartFlushes.{IsStartingPart, first_parts}
use Rattle.h5w_first_flush_laws.proofs.StartLemmas.{same_fixed}

abbrev pub header_of : List Used → ℕ
header_of [] = 0
header_of (u ∷ us) = u.place

abbrev pub second_of : List Used → ℕ
second_of [] = 0
second_of (u ∷ us) = header_of us

-- ---- Its plan

module _ (m : Moment) (b t : Space) (u v w : Store) (ms : List Move) (chunks : List Used) (copies : List (ℕ × List ℕ)) (fixed : List Write) (blank : IsBlank u) (x : IsStartingPart m u v b ms w t chunks copies fixed) where
  abbrev bytes : ℕ
  bytes = chunk_bytes m.dataset

  pub planned : IsArrayPlan v b ms (block_writes copies) fixed w t
  planned = plans_array v b ms (block_writes copies) fixed w t x.plan.before x.plan.plan x.plan.keeps

  -- ---- The array on an image

  -- no block of it stood anywhere
  none_there : (other : List ℕ) → AreThere v other
  none_there other n placed clean = absurd (go (which_part v x.plan.before n placed))
    where
      index_changed : 0 < times 845 v.changed
      index_changed = is_marked v 845 x.changed

      header_changed : 0 < times 846 v.changed
      header_changed = is_marked v 846 (x.plan.before.marked index_block tt x.changed)

      go : (n < 845) ⊎ (n ≡ 845) ⊎ (n ≡ 846) → ⊥
      go (inl h) = placed.placed (x.places n ∙ blank.unplaced n h)
      go (inr (inl e)) = let c = ap (λ j. times j v.changed) e in omega (arith, clean, c, index_changed)
      go (inr (inr e)) = let c = ap (λ j. times j v.changed) e in omega (arith, clean, c, header_changed)

  unchanged : (n : ℕ) → times n w.changed ≡ 0
  unchanged n = ap (times n) planned.clean

  -- once all its blocks are written it stands
  pub all_written : (img : List ℕ) → StandsArray w (image img (block_writes copies ++ fixed))
  all_written img =
      let there : AreThere w (image img (block_writes copies ++ fixed)) = x.plan.keeps.there x.plan.standing img (none_there img) in
      record { there = there; headed = header_stands w (image img (block_writes copies ++ fixed)) planned.array planned.clean (there 846 (header_placed w planned.array) (unchanged 846)) }

  -- once the copies are, the blocks behind those in place stand
  pub copies_written : (img : List ℕ) → BehindStands w (image img (block_writes copies))
  copies_written img n placed low =
      subst (λ (ws : List Write). At (image img ws) (place_of w n) (bytes_in w.blocks n)) (sym x.plan.plan.writes.before)
      (stands_after v b ms (block_writes copies) fixed w t x.plan.plan x.plan.standing img (none_there img) x.plan.plan.writes.split n placed (inr (which (cases_lt 0 (times n v.changed)))))
    where
      which : (0 < times n v.changed) ⊎ (times n v.changed ≤ 0) → 0 < times n (numbers (take x.plan.plan.writes.split ms))
      which (inl some) =
          let f = changed_moved v b ms (block_writes copies) fixed w t x.plan.plan n some in
          subst (λ k. 0 < times k (numbers (take x.plan.plan.writes.split ms))) f.2
          (listed_before ms f.0 x.plan.plan.writes.split no_move f.1 (copy_before v b ms (block_writes copies) fixed w t x.plan.plan x.plan.before n f.0 low f.1 f.2))
      which (inr none) = absurd ((clean_before v b ms (block_writes copies) fixed w t x.plan.plan n (omega (arith, none)) placed).placed (x.places n ∙ blank.unplaced n low))

  -- ---- Its ranges

  pub same_after : fixed_of w ≡ fixed_of u
  same_after = planned.stay ∙ same_fixed u v x.places

  -- before it is planned its ranges are those of the new chunks
  pub chunks_alone : AreAmong (behind_of bytes v) chunks
  chunks_alone = subst (λ (us : List Used). AreAmong (behind_of bytes v) us) (ap (λ (us : List Used). chunks ++ us) (blank.behind bytes) ∙ append-nil chunks) x.behind

  -- ---- Its places

  -- the file as if it had the array already: of it the array's plan takes and lets go the same places
  abbrev pub named : Moment
  named = record m { dataset = with_index (header_place v) m.dataset; fixed = fixed_of v }

  part : m.dataset.layout.index ≡ Array → IsArrayPart (image [] (block_writes copies ++ fixed)) named v b ms w t chunks copies fixed
  part kind =
      let img : List ℕ = image [] (block_writes copies ++ fixed) in
      record {
        kind = kind;
        at = refl;
        stay = refl;
        stands = record { there = none_there img; headed = header_after w v img (sym (ap header_of planned.stay)) (sym (ap second_of planned.stay)) (all_written []).headed };
        behind = record { among = λ l a. among_left l chunks m.behind (chunks_alone.among l a); counts = λ p. omega (arith, chunks_alone.counts p, count_joined p chunks m.behind) };
        plan = x.plan;
        copied = x.copied;
      }

  pub places_of : m.dataset.layout.index ≡ Array → AreChunks chunks → ArePlaces named b ms w t
  places_of kind are = array_places (image [] (block_writes copies ++ fixed)) named b t v w ms chunks copies fixed are (part kind)

-- ---- Its parts

-- What a first flush of an array shows besides: its two blocks in place are those that the file has and those that come, `tops`, in this order;
-- and what comes are these blocks.
pub record ShowsTops (m : Moment) (w : Store) (first : List (ℕ × List ℕ)) (tops : List Used) : Type 0 where
  pub kind : m.dataset.layout.index ≡ Array
  pub whole : fixed_of w ≡ m.fixed ++ tops
  pub into : AreAmong (block_ranges first) tops
  pub back : AreAmong tops (block_ranges first)

module _ (m : Moment) (base b t : Space) (u v w : Store) (ms : List Move) (rows : ℕ) (more : List ℤ) (writes : List Write) (places : List ChunkPlace) (copies first : List (ℕ × List ℕ)) (fixed supers in_place : List Write) (naming : Option ℕ)
    (tops : List Used) (blank : IsBlank u) (x : IsStartingPart m u v b ms w t (chunks_for m no_chunk places) copies fixed) (shows : ShowsTops m w first tops) where
  abbrev chunks : List Used
  chunks = chunks_for m no_chunk places

  abbrev f : Parts
  f = first_parts (chunk_bytes m.dataset) w rows more writes chunks copies first supers t.end in_place naming

  abbrev sizes : ℕ
  sizes = chunk_bytes m.dataset

  plan : IsArrayPlan v b ms (block_writes copies) fixed w t
  plan = planned m b t u v w ms chunks copies fixed blank x

  copies_are : block_ranges (copies ++ first) ≡ fresh ms ++ block_ranges first
  copies_are = map-append (λ (c : ℕ × List ℕ). block_at c.0 (length c.1)) copies first ∙ ap (λ (us : List Used). us ++ block_ranges first) (sym x.copied)

  pub array_takes : Taken base (tops ++ chunks) b → TakesFirst m base t f tops (fresh ms)
  array_takes taken =
      let are = places_of m b t u v w ms chunks copies fixed blank x shows.kind (new_are m.dataset no_chunk m.dataset.shape.rows 0 places) in
      record {
        before = b;
        between = are.between;
        taken = taken;
        planned = are.taken;
        into = subst (λ (us : List Used). AreAmong us (fresh ms ++ tops)) (sym copies_are) (part_joined (fresh ms) (block_ranges first) (fresh ms) tops (part_itself (fresh ms)) shows.into);
        back = subst (λ (us : List Used). AreAmong (fresh ms ++ tops) us) (sym copies_are) (part_joined (fresh ms) tops (fresh ms) (block_ranges first) (part_itself (fresh ms)) shows.back);
        end = are.let_go.end;
        left = are.left;
        let_go = are.let_go;
        left_before = are.left_before;
        left_after = are.left_after;
        fixed = shows.whole;
        behind = part_onward (behind_of sizes w) (fresh ms ++ behind_of sizes v) (fresh ms ++ chunks) (plan.behind sizes)
            (part_joined (fresh ms) (behind_of sizes v) (fresh ms) chunks (part_itself (fresh ms)) (chunks_alone m b t u v w ms chunks copies fixed blank x));
      }

  pub array_says : (img : List ℕ) → BehindStands w (copied img f) → EachSays m.dataset m.fixed (blocks_in_place w) f.fixed (ended img f) f.in_place
      → (f.in_place ≡ [] → SaysInPlace (copied img f) (committed m.dataset f.rows f.named) (blocks_in_place w) f.fixed) → IfSome f.named (λ a. (m.dataset.layout.address ≡ undefined) × (a < 2 ^ 64)) → SaysFirst img m f
  array_says img stands each_says said named = record {
    blocks = blocks_in_place w;
    visited = λ ends. visited w (copied img f) plan.array plan.clean stands t.end sizes ends;
    answers = λ key n. address_found w (copied img f) plan.array plan.clean stands key (n shows.kind);
    each_says = each_says;
    said = said;
    named = named;
  }
