-- What of an array stands on an image, and what its blocks in place say.
use Rattle.std.proofs.Common.{◌≡◌, ◌≢◌, ℕ, ◌+◌, ◌≤◌, List, [], ◌∷◌, ◌++◌, length, Ok, refl, sym, ap, ◌∙◌, subst, arith}
use Rattle.h5w_model.specs.Numbers.{range, field, undefined}
use Rattle.h5w_model.specs.Images.{At, Misses}
use Rattle.h5w_model.specs.Programs.{eval, visits}
use Rattle.h5w_model.specs.Blocks.{block_tests}
use Rattle.h5w_model.specs.Arrays.{EahdFields, eahd_at, eahd_fields, eaib_fields, eahd_len, eaib_len, numbers_in, parameter_tests}
use Rattle.std.specs.Prelude.{codes}
use Rattle.h5w_model.specs.Datasets.{Described}
use Rattle.h5w_model.specs.Tables.{in_array, array_in_place}
use Rattle.h5w_model.specs.declared.cell.IndexKind.TheVariants.{Array}
use Rattle.h5w_model.proofs.CheckedLemmas.{checked-passed}
use Rattle.h5w_model.proofs.ImageLemmas.{At-apply_missed, range-apply_missed}
use Rattle.h5w_laws.proofs.ResultLemmas.{fits_in}
use Rattle.h5w_cache.specs.Stores.{Store, place_of, times}
use Rattle.h5w_cache.specs.Plans.{bytes_in, bytes_of}
use Rattle.h5w_cache.specs.StoreLaws.{IsPlaced}
use Rattle.h5w_step_laws.specs.Ranges.{block_at, blocks_of, visits_of}
use Rattle.h5w_array_laws.specs.Parts.{index_block, header}
use Rattle.h5w_array_laws.specs.ArrayStores.{IsArray, IsBlock, block_at_part, place_at_part, bytes_at_part, header_place}
use Rattle.h5w_array_laws.specs.ArrayImages.{HeaderStands, SaysArray, ArrayStays, StandingSays}
use Rattle.h5w_array_laws.specs.ArrayTables.{HeaderLooks}
use Rattle.h5w_array_laws.proofs.BlockLemmas.{header_head, index_head, header_decoded}
use Rattle.h5w_array_laws.proofs.VisitLemmas.{IsThere, range_there}
use Rattle.h5w_array_laws.proofs.InPlaceLemmas.{AreReadInPlace, of_dataset, array_found, array_looks}
use Rattle.h5w_array_laws.proofs.KeptLemmas.{kept_in_place, kept_bytes, kept_there, index_sealed, header_sealed, unchanged, of_some, is_some_of}

-- ---- Bytes of the blocks in place

-- a header that is read lies within the image
pub header_fits : (img : List ℕ) (place : ℕ) (a : EahdFields) → eahd_at (range img place eahd_len) place ≡ Ok a → place + eahd_len ≤ length img
header_fits img place a h =
    let b : List ℕ = range img place eahd_len in
    let p = checked-passed (block_tests (codes "EAHD") eahd_len b ++ parameter_tests b place) (eahd_fields b) a h in
    fits_in img place eahd_len (omega arith) p.0.0

-- the blocks in place are placed, and as long as they are to be
pub header_placed : (v : Store) → IsArray v → IsPlaced v 846
header_placed v a = let p = a.in_place header tt refl in record { kept = p.0; placed = p.1 }

pub index_placed : (v : Store) → IsArray v → IsPlaced v 845
index_placed v a = let p = a.in_place index_block tt refl in record { kept = p.0; placed = p.1 }

pub header_length : (v : Store) → IsArray v → length (bytes_at_part v header) ≡ eahd_len
header_length v a =
    let t = is_some_of (block_at_part v header) (a.in_place header tt refl).0 in
    ap (λ o. length (bytes_of o)) t.1 ∙ (of_some (IsBlock header) (block_at_part v header) t.0 t.1 (a.each header tt)).len

pub index_length : (v : Store) → IsArray v → length (bytes_at_part v index_block) ≡ eaib_len
index_length v a =
    let t = is_some_of (block_at_part v index_block) (a.in_place index_block tt refl).0 in
    ap (λ o. length (bytes_of o)) t.1 ∙ (of_some (IsBlock index_block) (block_at_part v index_block) t.0 t.1 (a.each index_block tt)).len

-- a header that is kept unchanged and stands is read, and names the index block
pub header_stands : (v : Store) (img : List ℕ) → IsArray v → v.changed ≡ [] → At img (header_place v) (bytes_at_part v header) → HeaderStands v img
unfolding numbers_in
header_stands v img a clean at =
    let t = kept_in_place v a header tt refl (unchanged v clean 846) in
    let there = kept_there v img header t.0 header_head eahd_len t.1 (header_sealed v t.0 t.1) at in
    let names : field t.0.bytes 60 8 ∷ [] ≡ place_at_part v index_block ∷ [] = t.1.names in
    record {
      fields = eahd_fields t.0.bytes;
      read = ap (λ x. eahd_at x (header_place v)) (range_there img header_head eahd_len (header_place v) t.0.bytes there) ∙ header_decoded (header_place v) t.0.bytes there.spelled;
      names = cc;
    }

-- ---- What they say

pub header_looks : HeaderLooks
header_looks v img d a headed kind address =
    let named : headed.fields.block ≢ undefined = λ u. (index_placed v a).placed (sym headed.names ∙ u) in
    of_dataset d (visits img) kind (λ u. (header_placed v a).placed (sym address ∙ u))
    ∙ ap (λ p. visits img (array_in_place p)) address
    ∙ array_looks img (header_place v) headed.fields headed.read named
    ∙ ap (λ p. visits_of (block_at (header_place v) eahd_len ∷ block_at p eaib_len ∷ [])) headed.names

pub says_array : (v : Store) (img : List ℕ) (d : Described) → IsArray v → v.changed ≡ [] → d.layout.index ≡ Array → d.layout.address ≡ header_place v → HeaderStands v img
    → At img (place_at_part v index_block) (bytes_at_part v index_block) → SaysArray v d img
says_array v img d a clean kind address headed at =
    let t = kept_in_place v a index_block tt refl (unchanged v clean 845) in
    let there : IsThere img index_head eaib_len headed.fields.block t.0.bytes =
    subst (λ p. IsThere img index_head eaib_len p t.0.bytes) (sym headed.names) (kept_there v img index_block t.0 index_head eaib_len t.1 (index_sealed v t.0 t.1) at) in
    let placed : headed.fields.block ≢ undefined = λ u. t.1.whole.placed (sym headed.names ∙ u) in
    let read : AreReadInPlace img (header_place v) headed.fields t.0.bytes = record { header_read = headed.read; named = placed; block_there = there } in
    let looks = header_looks v img d a headed kind address in
    record {
      says =
          of_dataset d (eval img) kind (λ u. (header_placed v a).placed (sym address ∙ u))
          ∙ ap (λ p. eval img (array_in_place p)) address
          ∙ array_found img (header_place v) headed.fields t.0.bytes read
          ∙ ap (λ b. Ok (in_array (eaib_fields b))) (sym (kept_bytes v index_block t.0 t.1));
      looks = ap blocks_of looks;
      visited = looks;
    }

pub standing_says : StandingSays
standing_says v img d a clean stands kind address =
    says_array v img d a clean kind address stands.headed (stands.there 845 (index_placed v a) (ap (times 845) clean))

-- ---- A write that misses its blocks

pub array_stays : ArrayStays
array_stays v img w a stands misses = record {
  there = λ n placed clean. At-apply_missed w img (place_of v n) (bytes_in v.blocks n) (misses n placed) (stands.there n placed clean);
  headed =
      let hp : ℕ = header_place v in
      let missed : Misses w hp eahd_len = subst (λ m. Misses w hp m) (header_length v a) (misses 846 (header_placed v a)) in
      record {
        fields = stands.headed.fields;
        read = ap (λ x. eahd_at x hp) (range-apply_missed w img hp eahd_len missed (header_fits img hp stands.headed.fields stands.headed.read)) ∙ stands.headed.read;
        names = stands.headed.names;
      };
}
