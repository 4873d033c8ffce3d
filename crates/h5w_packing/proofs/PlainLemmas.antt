-- Ranges of chunks and blocks, as those of blocks alone.
use Rattle.std.proofs.Common.{◌≡◌, ◌≢◌, ℕ, suc, ◌+◌, ◌<◌, ◌≤◌, List, [], ◌∷◌, get_or, length, refl, sym, ◌∙◌, ap, subst, inl, inr, arith}
use Rattle.std.specs.Prelude.{map}
use Rattle.std.proofs.lemmas.Bool.Decides.{eqb_tells}
use Rattle.h5w_model.specs.Numbers.{range, undefined}
use Rattle.h5w_model.specs.Findings.{Used}
use Rattle.h5w_model.specs.declared.cell.IndexKind.{IndexKind}
use Rattle.h5w_model.specs.declared.cell.IndexKind.TheVariants.{Array, Tree}
use Rattle.h5w_model.proofs.ImageLemmas.{length-range}
use Rattle.h5w_step_laws.specs.Ranges.{AllSome, block_at}
use Rattle.h5w_flush_laws.specs.Parts.{block_ranges}
use Rattle.h5w_array_laws.specs.ArrayStores.{chunks_in}
use Rattle.h5w_array_laws.proofs.AmongLemmas.{chunks_some, chunks_undefined}
use Rattle.h5w_packing_laws.specs.Growing.{RangesFrom}
use Rattle.h5w_packing_laws.specs.Packing.{tops_of}
use Rattle.h5w_packing_laws.proofs.MapLemmas.{Tells}
use Rattle.h5w_packing.specs.Plans.{chunks_end, copied_from, packed_table}
use Rattle.h5w_packing.specs.declared.job.Copied.{Copied}
use Rattle.h5w_packing.proofs.TableLemmas.{chunk_blocks, copied_absent, copied_there, end_absent, end_rises, end_there, table_absent, table_there}

abbrev pub plain : List Used → List Used
plain us = map (λ (u : Used). block_at u.place u.len) us

pub plain_from : (from end : ℕ) (us : List Used) → RangesFrom from us end → RangesFrom from (plain us) end
plain_from from end [] h = h
plain_from from end (u ∷ us) h = (h.0, plain_from (from + u.len) end us h.1)

pub plain_some : (us : List Used) → AllSome us → AllSome (plain us)
plain_some [] some v a = absurd a
plain_some (u ∷ us) some v (inl e) = subst (λ (y : Used). 0 < y.len) e (some u (inl refl))
plain_some (u ∷ us) some v (inr a) = plain_some us (λ y b. some y (inr b)) v a

pub plain_of_blocks : (bs : List (ℕ × List ℕ)) → plain (block_ranges bs) ≡ block_ranges bs
plain_of_blocks [] = refl
plain_of_blocks (b ∷ bs) = ap (λ (us : List Used). block_at b.0 (length b.1) ∷ us) (plain_of_blocks bs)

pub tops_plain : (k : IndexKind) (at block : ℕ) → plain (tops_of k at block) ≡ tops_of k at block
tops_plain Array at block = refl
tops_plain Tree at block = refl

-- those of copied chunks
pub chunks_plain : (bytes : ℕ) (img : List ℕ) (at : ℕ) (table : List ℕ) → ((n : ℕ) → get_or table n undefined ≢ undefined → get_or table n undefined + bytes ≤ length img) → chunks_end bytes at table < undefined
    → block_ranges (chunk_blocks img (copied_from bytes at table)) ≡ plain (chunks_in bytes (packed_table bytes at table))
chunks_plain bytes img at [] h low = refl
chunks_plain bytes img at (a ∷ rest) h low = go (eqb_tells a undefined) (λ place high. chunks_plain bytes img place rest (λ n. h (suc n)) high)
  where
    go : Tells a → ((place : ℕ) → chunks_end bytes place rest < undefined → block_ranges (chunk_blocks img (copied_from bytes place rest)) ≡ plain (chunks_in bytes (packed_table bytes place rest))) → block_ranges (chunk_blocks img (copied_from bytes at (a ∷ rest))) ≡ plain (chunks_in bytes (packed_table bytes at (a ∷ rest)))
    go (inl e) later =
        ap (λ (cs : List Copied). block_ranges (chunk_blocks img cs)) (copied_absent bytes at a rest e.1)
        ∙ later at (omega (arith, low, end_absent bytes at a rest e.1))
        ∙ sym (ap (λ (t : List ℕ). plain (chunks_in bytes t)) (table_absent bytes at a rest e.1) ∙ ap plain (chunks_undefined bytes undefined (packed_table bytes at rest) refl))
    go (inr n) later =
        let high : chunks_end bytes (at + bytes) rest < undefined = omega (arith, low, end_there bytes at a rest n.1) in
        let here : at ≢ undefined = λ e. absurd (omega (arith, e, high, end_rises bytes (at + bytes) rest)) in
        let size : length (range img a bytes) ≡ bytes = length-range img a bytes ∙ omega (arith, h 0 n.1) in
        ap (λ (cs : List Copied). block_ranges (chunk_blocks img cs)) (copied_there bytes at a rest n.1)
        ∙ (λ i. block_at at (size i) ∷ later (at + bytes) high i)
        ∙ sym (ap (λ (t : List ℕ). plain (chunks_in bytes t)) (table_there bytes at a rest n.1) ∙ ap plain (chunks_some bytes at (packed_table bytes (at + bytes) rest) here))
