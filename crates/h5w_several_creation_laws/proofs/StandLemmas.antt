-- Each dataset of a created file by itself is at its first moment.
use Rattle.std.proofs.Common.{◌≡◌, ℕ, ◌*◌, ◌^◌, ◌<◌, ◌≤◌, true, false, List, [], ◌∷◌, ◌++◌, length, Ok, refl, ap, ◌∙◌, ◌⊎◌, inl, inr, arith}
use Rattle.std.specs.Prelude.{map, nat_lt}
use Rattle.std.specs.List.{AllByRecursion, range_with_len}
use Rattle.std.proofs.lemmas.Bool.{le-ltb}
use Rattle.h5w_model.specs.Numbers.{range}
use Rattle.h5w_model.specs.Images.{At, Holds}
use Rattle.h5w_model.specs.Programs.{eval}
use Rattle.h5w_model.specs.Superblock.{super_bytes}
use Rattle.h5w_model.specs.Datasets.{is_swmr}
use Rattle.h5w_model.specs.Tables.{table_of, index_key, needed_keys, needed, chunks_across, limit_of, format_limits}
use Rattle.h5w_model.specs.Findings.{checked_super}
use Rattle.h5w_model.specs.Relations.{AllPaired}
use Rattle.h5w_model.specs.declared.cell.Key.{Key}
use Rattle.h5w_model.specs.declared.cell.IndexKind.{IndexKind}
use Rattle.h5w_model.specs.declared.cell.IndexKind.TheVariants.{Array, Tree}
use Rattle.h5w_model.proofs.ImageLemmas.{Holds-front, Holds-rest}
use Rattle.h5w_model.proofs.SuperLemmas.{length-super_bytes, super_at-super_bytes}
use Rattle.h5w_laws.proofs.LinkLemmas.{IsLinked}
use Rattle.h5w_step_laws.specs.Ranges.{AllEndBy, block_at}
use Rattle.h5w_step_laws.proofs.RangeLemmas.{ends_nil, ends_cons}
use Rattle.h5w_step_laws.proofs.HeaderLaws.{root_from}
use Rattle.h5w_step_laws.proofs.SpelledLemmas.{spelled_stands}
use Rattle.h5w_step_laws.specs.Moments.{Represents, all_used}
use Rattle.h5w_creation_laws.specs.CreatedFiles.{CreatedFile, IsCreatable, root_place, header_len}
use Rattle.h5w_creation_laws.proofs.StackLemmas.{Stacked, stacked_apart}
use Rattle.h5w_creation_laws.proofs.RootLemmas.{look_at}
use Rattle.h5w_creation_laws.proofs.CreatedLaws.{no_bands}
use Rattle.h5w_several_creation_laws.specs.SeveralFiles.{AreCreatable, names_of, index_behind, end_behind, end_from, first_place, end_of, super_of, described_at, header_at, index_at, set_at, sets_from, root_bytes, super_block, fixed_at, moment_at, root_ranges}
use Rattle.h5w_several_creation_laws.specs.SeveralLaws.{EachStands}
use Rattle.h5w_several_creation_laws.proofs.PlaceLemmas.{end_above}
use Rattle.h5w_several_creation_laws.proofs.RootLemmas.{root_prefix, root_found, prefix_total, header_found, places_from}
use Rattle.h5w_several_creation_laws.proofs.IndexLemmas.{index_there}
use Rattle.h5w_several_creation_laws.proofs.SetLemmas.{spellable_at, long_at}

-- ---- No chunk is needed

no_chunk : (place : ℕ) (f : CreatedFile) → IsCreatable f → needed (described_at place f) ≡ 0
no_chunk place f h = ap (λ (n : ℕ). n * chunks_across (described_at place f)) (no_bands f.chunk_rows h.some_rows) ∙ omega arith

no_keys : (place : ℕ) (f : CreatedFile) → IsCreatable f → needed_keys (described_at place f) ≡ []
no_keys place f h = ap (λ (n : ℕ). map (index_key (described_at place f)) (range_with_len 0 n)) (no_chunk place f h)

none_needed : (place : ℕ) (f : CreatedFile) → IsCreatable f → nat_lt (limit_of format_limits f.index) (needed (described_at place f)) ≡ false
none_needed place f h =
    let none = no_chunk place f h in
    le-ltb (limit_of format_limits f.index) (needed (described_at place f)) (omega arith)

-- ---- The superblock

swmr : (flags : ℕ) (fs : List CreatedFile) → (flags ≡ 5) ⊎ (flags ≡ 0) → is_swmr (super_of flags fs) ≡ true
swmr flags fs (inl e) = rw e refl
swmr flags fs (inr e) = rw e refl

-- with the flags of a session, or with none
pub super_stands : (flags : ℕ) (fs : List CreatedFile) (img : List ℕ) → (flags ≡ 5) ⊎ (flags ≡ 0) → end_of fs ≤ 8192 → length img ≡ end_of fs → At img 0 (super_block flags fs).1
    → checked_super (length img) (range img 0 48) ≡ Ok (super_of flags fs)
super_stands flags fs img e low size stands =
    ap (λ (b : List ℕ). checked_super (length img) b) (look_at img 0 48 (super_bytes (super_of flags fs)) stands (length-super_bytes (super_of flags fs)))
    ∙ rw (super_at-super_bytes (super_of flags fs) (inr refl) (omega arith) (omega arith), swmr flags fs e, le-ltb (length img) (end_of fs) (omega (arith, size))) refl

-- ---- Each dataset

fixed_stacked : (k : IndexKind) (place : ℕ) (f : CreatedFile) → Stacked (index_behind place f) (fixed_at k place f ++ [])
fixed_stacked Array place f = (omega arith, omega arith, (omega arith, omega arith, tt))
fixed_stacked Tree place f = (omega arith, omega arith, tt)

used_stacked : (first place : ℕ) (f : CreatedFile) → first ≤ place → Stacked first ((block_at place (header_len f) ∷ []) ++ (fixed_at f.index place f ++ []))
used_stacked first place f above = (above, omega arith, fixed_stacked f.index place f)

module _ (flags : ℕ) (fs : List CreatedFile) (img : List ℕ) (h : AreCreatable fs) (low : end_of fs ≤ 8192) (super : checked_super (length img) (range img 0 48) ≡ Ok (super_of flags fs))
    (root : At img root_place (root_bytes fs)) where
  pub root_ends : AllEndBy (end_of fs) (block_at root_place (root_prefix fs).total ∷ [])
  root_ends =
      let total = prefix_total fs in
      let above = end_above (first_place fs) fs in
      ends_cons (end_of fs) (block_at root_place (root_prefix fs).total) [] (omega arith) (ends_nil (end_of fs))

  pub one_stands : (place : ℕ) (f : CreatedFile) → IsCreatable f → first_place fs ≤ place → end_behind place f ≤ end_of fs → IsLinked (root_found fs).messages f.name place → Holds img (set_at place f)
      → Represents img f.name (moment_at (super_of flags fs) (root_ranges fs) place f)
  one_stands place f c above within link holds =
      let s = super_of flags fs in
      let small : end_behind place f < 2 ^ 62 = omega arith in
      let long = long_at place f c small in
      let own = Holds-rest img (index_at f.index place f) (header_at place f ∷ []) holds in
      let header = spelled_stands img format_limits s place (described_at place f) (spellable_at place f c small) own.0 (omega arith) (none_needed place f c) in
      let m = moment_at s (root_ranges fs) place f in
      record {
        super = super;
        root = record {
          own = root_ranges fs;
          others = [];
          is = refl;
          checked =
              root_from img f.name s place (root_found fs) (header_found img fs h (omega arith) root) link root_ends
              ∙ ap (λ (n : ℕ). Ok (place, block_at root_place n ∷ [])) (prefix_total fs);
          ends = λ u a. absurd a;
        };
        header = header.header ∙ ap (λ (n : ℕ). Ok (described_at place f, block_at place n ∷ [])) long;
        index = index_there img place f (end_of fs) within small (Holds-front img (index_at f.index place f) (header_at place f ∷ []) holds);
        apart = stacked_apart 0 (all_used m) (omega arith, omega arith, (omega arith, omega arith, used_stacked (first_place fs) place f above));
        table = ap (λ (ks : List Key). eval img (table_of (described_at place f) ks)) (no_keys place f c);
        count = omega arith;
        cells = λ k lt. absurd (omega (arith, lt));
      }

  pub each_stands : (place : ℕ) (gs : List CreatedFile) → AllByRecursion IsCreatable gs → first_place fs ≤ place → end_from place gs ≤ end_of fs
      → AllPaired (IsLinked (root_found fs).messages) (names_of gs) (places_from place gs) → Holds img (sets_from place gs) → EachStands img (super_of flags fs) (root_ranges fs) place gs
  each_stands place [] c above within links holds = tt
  each_stands place (f ∷ gs) c above within links holds =
      let next = end_behind place f in
      let more = end_above next gs in (
        one_stands place f c.0 above (omega arith) links.0 (Holds-front img (set_at place f) (sets_from next gs) holds),
        each_stands next gs c.1 (omega arith) within links.1 (Holds-rest img (set_at place f) (sets_from next gs) holds),
      )
