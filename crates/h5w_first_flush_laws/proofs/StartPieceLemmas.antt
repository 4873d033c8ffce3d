-- The pieces of a first flush.
use Rattle.std.proofs.Common.{◌≡◌, ◌≢◌, ◌⊎◌, ℕ, ◌<◌, true, false, List, [], ◌∷◌, ◌++◌, refl, sym, ◌∙◌, ap, subst, inl, inr, arith}
use Rattle.std.specs.Prelude.{drop, nat_lt, cond}
use Rattle.std.specs.List.{All}
use Rattle.std.proofs.lemmas.List.Elements.{All-head, All-tail, All-nil, All-cons}
use Rattle.std.proofs.lemmas.Bool.{cases_eq, cases_Bool, ltb-false}
use Rattle.std.proofs.lemmas.Grind.{flat_map-append}
use Rattle.h5w_model.specs.Images.{pieces}
use Rattle.h5w_model.specs.Findings.{Used, chunk_bytes}
use Rattle.h5w_model.specs.declared.piece.Write.{Write}
use Rattle.h5w_space.specs.Space.{Space}
use Rattle.h5w_cache.specs.Stores.{Store, is_changed, times}
use Rattle.h5w_cache.specs.Plans.{numbers}
use Rattle.h5w_cache.specs.declared.moves.Move.{Move}
use Rattle.h5w_step_laws.specs.Moments.{Moment}
use Rattle.h5w_array_laws.specs.Parts.{Part, data_of, secondary_of, index_block, header, IsPart, number_of, holder}
use Rattle.h5w_array_laws.specs.ArrayStores.{IsArray, place_at_part, bytes_at_part, header_place}
use Rattle.h5w_array_laws.specs.ArrayImages.{IsPlanned}
use Rattle.h5w_array_laws.proofs.WriteLemmas.{plan_copies}
use Rattle.h5w_array_laws.proofs.MapLemmas.{slot_known}
use Rattle.h5w_array_laws.proofs.FixedLemmas.{one_piece, times_behind, top_numbers, writes_two}
use Rattle.h5w_array_laws.proofs.PlannedLemmas.{is_marked}
use Rattle.h5w_array_laws.proofs.StandLemmas.{header_length, index_length}
use Rattle.h5w_flush_laws.specs.Parts.{block_writes}
use Rattle.h5w_first_flush_laws.specs.StartFlushes.{first_blocks, starting_parts, IsStartingPart, HolderChanged, NamedChanged, StartPart, StartPieces}
use Rattle.h5w_first_flush_laws.proofs.FirstFlushLemmas.{first_pieces}

-- ---- What is changed

part_changed : (v : Store) → IsArray v → (k : Part) → IsPart k → is_changed v (number_of k) ≡ true → is_changed v (number_of index_block) ≡ true
part_changed v a header is e = a.together e
part_changed v a index_block is e = e
part_changed v a (secondary_of s) is e = a.marked (secondary_of s) is e
part_changed v a (data_of s b) is e = go (cases_Bool (nat_lt s 4)) (a.marked (data_of s b) is e)
  where
    go : (nat_lt s 4 ≡ true) ⊎ (nat_lt s 4 ≡ false) → is_changed v (number_of (cond (nat_lt s 4) index_block (secondary_of s))) ≡ true → is_changed v (number_of index_block) ≡ true
    go (inl t) h = subst (λ c. is_changed v (number_of (cond c index_block (secondary_of s))) ≡ true) t h
    go (inr t) h = a.marked (secondary_of s) (ltb-false s 4 t, is.0) (subst (λ c. is_changed v (number_of (cond c index_block (secondary_of s))) ≡ true) t h)

pub holder_changed : HolderChanged
holder_changed v i a low e = part_changed v a (holder i) (slot_known i low).part e

-- a number is one of these, or each of these is another
one_of : (i : ℕ) (P : ℕ → Type 0) (js : List ℕ) → All P js → P i ⊎ All (λ j. j ≢ i) js
one_of i P [] all = inr (All-nil (λ j. j ≢ i))
one_of i P (j ∷ js) all = go (cases_eq j i) (one_of i P js (All-tail P j js all))
  where
    go : (j ≡ i) ⊎ (j ≡ i → ⊥) → P i ⊎ All (λ j. j ≢ i) js → P i ⊎ All (λ j. j ≢ i) (j ∷ js)
    go (inl e) rest = inl (subst P e (All-head P j js all))
    go (inr ne) (inl h) = inl h
    go (inr ne) (inr h) = inr (All-cons (λ j. j ≢ i) j js ne h)

pub named_changed : NamedChanged
named_changed u v added i a slots rest none some = elim (one_of i (λ j. (j < 131060) × (is_changed v (number_of (holder j)) ≡ true)) added slots) [
  | inl h ↦ holder_changed v i a h.0 h.1
  | inr off ↦ absurd (some (rest i off ∙ none))
]

pub start_part : StartPart
start_part m u v w s t ms chunks cs fixed a standing places changed behind plan =
    let are = (plan_copies v s ms cs fixed w t a plan.plan).are in
    record {
      copies = are.placed;
      writes = are.writes;
      part = record {
        places = places;
        changed = changed;
        behind = behind;
        plan = subst (λ (ws : List Write). IsPlanned v s ms ws fixed w t) are.writes (record { before = a; after = plan.array; standing = standing; plan = plan.plan; fixed = plan.fixed; keeps = plan.keeps });
        copied = are.ranges;
      };
    }

-- ---- What is written

abbrev pub two_pieces : Store → List Write
two_pieces w = record { at = place_at_part w index_block; piece = bytes_at_part w index_block } ∷ record { at = header_place w; piece = bytes_at_part w header } ∷ []

-- the plan writes index block and header, each one piece
pub two_writes : (m : Moment) (u v w : Store) (s t : Space) (ms : List Move) (chunks : List Used) (copies : List (ℕ × List ℕ)) (fixed : List Write) → IsStartingPart m u v s ms w t chunks copies fixed → fixed ≡ two_pieces w
two_writes m u v w s t ms chunks copies fixed x = go (top_numbers v s ms (block_writes copies) fixed w t x.plan.plan x.plan.before)
  where
    go : (numbers (drop x.plan.plan.writes.split ms) ≡ []) ⊎ (numbers (drop x.plan.plan.writes.split ms) ≡ 845 ∷ 846 ∷ []) → fixed ≡ two_pieces w
    go (inl e) =
        let none : times 845 v.changed ≡ 0 = sym (times_behind v s ms (block_writes copies) fixed w t x.plan.plan x.plan.before index_block tt refl) ∙ ap (times 845) e in
        absurd (omega (arith, none, is_marked v 845 x.changed))
    go (inr e) = writes_two v s ms (block_writes copies) fixed w t x.plan.plan x.plan.before e

pub first_writes : (m : Moment) (u v w : Store) (s t : Space) (ms : List Move) (chunks : List Used) (copies : List (ℕ × List ℕ)) (fixed : List Write) → IsStartingPart m u v s ms w t chunks copies fixed → block_writes (first_blocks w) ≡ fixed
first_writes m u v w s t ms chunks copies fixed x = both ∙ sym (two_writes m u v w s t ms chunks copies fixed x)
  where
    one_index : pieces (place_at_part w index_block) (bytes_at_part w index_block) ≡ record { at = place_at_part w index_block; piece = bytes_at_part w index_block } ∷ []
    one_index = let long = index_length w x.plan.after in one_piece (place_at_part w index_block) (bytes_at_part w index_block) (omega (arith, long)) (omega (arith, long))

    one_header : pieces (header_place w) (bytes_at_part w header) ≡ record { at = header_place w; piece = bytes_at_part w header } ∷ []
    one_header = let long = header_length w x.plan.after in one_piece (header_place w) (bytes_at_part w header) (omega (arith, long)) (omega (arith, long))

    both : block_writes (first_blocks w) ≡ two_pieces w
    both =
        ap (λ (ws : List Write). ws ++ (pieces (header_place w) (bytes_at_part w header) ++ [])) one_index
        ∙ ap (λ (ws : List Write). record { at = place_at_part w index_block; piece = bytes_at_part w index_block } ∷ (ws ++ [])) one_header

-- the copies and those two
pub copy_writes : (m : Moment) (u v w : Store) (s t : Space) (ms : List Move) (chunks : List Used) (copies : List (ℕ × List ℕ)) (fixed : List Write) → IsStartingPart m u v s ms w t chunks copies fixed
    → block_writes (copies ++ first_blocks w) ≡ block_writes copies ++ fixed
copy_writes m u v w s t ms chunks copies fixed x =
    flat_map-append (λ (b : ℕ × List ℕ). pieces b.0 b.1) copies (first_blocks w)
    ∙ ap (λ (ws : List Write). block_writes copies ++ ws) (first_writes m u v w s t ms chunks copies fixed x)

pub start_pieces : StartPieces
start_pieces img m s t u v w ms rows more writes chunks copies fixed supers last x =
    first_pieces img m (starting_parts (chunk_bytes m.dataset) w rows more writes chunks copies supers last) (block_writes copies) fixed refl (copy_writes m u v w s t ms chunks copies fixed x)
