-- An index without chunks, for whose blocks in place places were taken.
use Rattle.std.proofs.Common.{◌≡◌, ℕ, ◌+◌, ◌^◌, ◌<◌, ◌≤◌, Bool, true, false, not, nat_lt, [], ◌∷◌, Result, Ok, Err, refl, sym, subst, arith}
use Rattle.std.specs.Prelude.{◌&&◌, IfOk, IfErr}
use Rattle.std.proofs.lemmas.Bool.{ltb-true}
use Rattle.h5w_model.specs.Numbers.{undefined}
use Rattle.h5w_model.specs.Arrays.{eahd_len, eaib_len}
use Rattle.h5w_model.specs.Trees.{bthd_len}
use Rattle.h5w_model.specs.declared.cell.IndexKind.{IndexKind}
use Rattle.h5w_model.specs.declared.cell.IndexKind.TheVariants.{Array, Tree}
use Rattle.h5w_step_laws.specs.Ranges.{block_at}
use Rattle.h5w_step_laws.proofs.RangeLemmas.{ends_cons, ends_nil}
use Rattle.h5w_space.specs.Space.{Space, extent, has_size}
use Rattle.h5w_space.specs.declared.Full.{Full}
use Rattle.h5w_cache.specs.Plans.{IsRefused, Took}
use Rattle.h5w_cache.specs.Stores.{Store}
use Rattle.h5w_array_laws.specs.Parts.{index_block}
use Rattle.h5w_array_laws.specs.ArrayStores.{IsCreated, header_place, place_at_part}
use Rattle.h5w_array_laws.proofs.CreatedLemmas.{created_starts}
use Rattle.h5w_bt_index.specs.Index.{no_tree}
use Rattle.h5w_index.specs.Views.{IndexView, an_array, a_tree, IsSound, kind_of}
use Rattle.h5w_index.specs.Depths.{AreWithin}
use Rattle.h5w_index.specs.Marks.{IsRaised}
use Rattle.h5w_index.proofs.DepthLemmas.{depth_laws}
use Rattle.h5w_index.proofs.RaisedLemmas.{raised_one}
use Rattle.h5w_writer.specs.Refusals.{IsArrayUnplaced}
use Rattle.h5w_writer.specs.Starts.{IsStartedAt, TookTops, TookTwo, both}
use Rattle.h5w_writer.specs.declared.refusal.FlushError.{FlushError}
use Rattle.h5w_writer.specs.declared.refusal.FlushError.TheVariants as flushes

-- ---- A refusal

-- there is no place of this size
pub refused_so : (s : Space) (size : ℕ) (e : Full) → true ≡ (not (has_size size s.free) && nat_lt s.limit (s.end + size)) → e ≡ record { at = s.end; size = size; limit = s.limit } → IsRefused s size e
refused_so s size e why is =
    let both = split (has_size size s.free) (nat_lt s.limit (s.end + size)) why in
    record { none = both.0; no_room = ltb-true s.limit (s.end + size) both.1; is = is }
  where
    split : (a b : Bool) → true ≡ (not a && b) → (a ≡ false) × (b ≡ true)
    split false true h = (refl, refl)
    split false false h = cc
    split true b h = cc

pub same_full : {T : Type 0} (e full : Full) → ◌≡◌ {A = Result T FlushError} (Err (flushes.Space e)) (Err (flushes.Space full)) → e ≡ full
same_full {T} e full is = cc

-- ---- Places of blocks in place

-- both are taken where the layout names none
pub both_taken : (address : ℕ) (s t : Space) (r : Result (ℕ × ℕ) Full) → address ≡ undefined → IfOk r (λ x. TookTwo s x.0 x.1 t) → IfOk r (λ x. TookTops address s x.0 x.1 t)
both_taken address s t (Ok x) none took = both none took
both_taken address s t (Err e) none took = tt

-- so none of them may have a place
pub none_unplaced : (address : ℕ) (s : Space) (r : Result (ℕ × ℕ) Full) → address ≡ undefined → IfErr r (λ full. IsArrayUnplaced undefined s full) → IfErr r (λ full. IsArrayUnplaced address s full)
none_unplaced address s (Ok x) none why = tt
none_unplaced address s (Err e) none why = subst (λ (n : ℕ). IsArrayUnplaced n s e) (sym none) why

-- ---- An index is made

-- what is true of it
pub record IsBegunIndex (kind : IndexKind) (address : ℕ) (s : Space) (at : ℕ) (t : Space) (v : IndexView) : Type 0 where
  pub started : IsStartedAt address s at v t
  pub is_kind : kind_of v ≡ kind
  pub within : (bands across : ℕ) → AreWithin bands across v

-- the end stays small
pub end_small : (s t : Space) (most : ℕ) → IsRaised s t most → s.end < 2 ^ 64 → s.limit ≤ 2 ^ 40 → t.end < 2 ^ 64
end_small s t most raised small limit = omega (arith, raised.fits, raised.limit, small, limit)

-- an array
pub array_begun : (address : ℕ) (s t : Space) (at block : ℕ) (x : Store) (v : IndexView) → v ≡ an_array x → IsCreated at block x → TookTops address s at block t → IsRaised s t (eahd_len + eaib_len)
    → at + eahd_len ≤ t.end → block + eaib_len ≤ t.end → t.end < 2 ^ 64 → IsBegunIndex Array address s at t v
array_begun address s t at block x v is c tops raised head body small =
    let starts = created_starts at block x c (omega (arith, head, small)) (omega (arith, body, small)) in
    subst (IsBegunIndex Array address s at t) (sym is) (record {
      started = record {
        made = record { block = block; tops = tops; is_made = record { created = c; header_ends = omega (arith, head, small); block_ends = omega (arith, body, small) } };
        sound = starts.array;
        own = record { headed = starts.headed; numbered = starts.numbered };
        at_place = c.header_at;
        raised = raised;
        inside =
            ends_cons t.end (block_at (header_place x) eahd_len) (block_at (place_at_part x index_block) eaib_len ∷ []) (omega (arith, c.header_at, head))
            (ends_cons t.end (block_at (place_at_part x index_block) eaib_len) [] (omega (arith, c.index_at, body)) (ends_nil t.end));
      };
      is_kind = refl;
      within = λ bands across. tt;
    })

-- a tree is made where the layout names none
pub begun_unnamed : (address : ℕ) (s : Space) (at : ℕ) (v : IndexView) (t : Space) → address ≡ undefined → IsStartedAt undefined s at v t → IsStartedAt address s at v t
begun_unnamed address s at v t none is = subst (λ (n : ℕ). IsStartedAt n s at v t) (sym none) is

-- a tree
pub tree_begun : (address : ℕ) (s t : Space) (at : ℕ) (v : IndexView) → address ≡ undefined → v ≡ a_tree at no_tree → IsSound v → Took s t (extent at bthd_len) → s.end < 2 ^ 64 → s.limit ≤ 2 ^ 40 → IsBegunIndex Tree address s at t v
tree_begun address s t at v unnamed is sound took low limit =
    let raised = raised_one s t at bthd_len took.takes in
    let small = end_small s t bthd_len raised low limit in
    let head : at + bthd_len ≤ t.end = took.live.within in
    subst (IsBegunIndex Tree address s at t) (sym is) (record {
      started = record {
        made = record { unnamed = unnamed; place_is = refl; empty = refl; header = took; ends = omega (arith, head, small) };
        sound = subst IsSound is sound;
        own = tt;
        at_place = refl;
        raised = raised;
        inside = ends_cons t.end (block_at at bthd_len) [] head (ends_nil t.end);
      };
      is_kind = refl;
      within = λ bands across. depth_laws.none bands across at;
    })
