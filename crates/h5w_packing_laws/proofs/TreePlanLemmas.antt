-- A tree of which no node was written, and its plan: once the nodes that are written stand, the tree does.
use Rattle.std.proofs.Common.{◌≡◌, ℕ, ◌+◌, ◌<◌, ◌^◌, false, List, ◌++◌, length, map, take, Ok, sym, ◌∙◌, ap, subst, arith, sum_by}
use Rattle.std.proofs.lemmas.List.{length-map}
use Rattle.std.proofs.lemmas.List.Sums.{sum_by-append}
use Rattle.h5w_model.specs.Numbers.{range}
use Rattle.h5w_model.specs.Images.{At, Holds}
use Rattle.h5w_model.specs.Trees.{bthd_at, bthd_bytes, bthd_len, node_size}
use Rattle.h5w_model.specs.declared.piece.Write.{Write}
use Rattle.h5w_bt.proofs.Spelling.{bthd_bytes-is, bthd_at-bthd_body}
use Rattle.h5w_space.specs.Space.{Space}
use Rattle.h5w_cache.specs.declared.moves.Move.{Move}
use Rattle.h5w_bt_nodes.specs.Nodes.{total_of}
use Rattle.h5w_bt_nodes.specs.Blocks.{changes, place_of, placed, written}
use Rattle.h5w_bt_index.specs.Marks.{clean_of}
use Rattle.h5w_bt_index.specs.Index.{Index, IsFilled, IsIndex, no_tree}
use Rattle.h5w_bt_index.specs.Plans.{IsTreePlan, header_of, news, planned}
use Rattle.h5w_bt_index.proofs.Placed.{planned_index}
use Rattle.h5w_tree_index_laws.specs.TreeImages.{AllStand, AreAmong, behind_of, node_range}
use Rattle.h5w_tree_index_laws.specs.TreeFlushes.{HeaderNames, TreeStands, fresh}
use Rattle.h5w_tree_index_laws.proofs.TreeFlushLemmas.{moves_end, same_news, take_them}
use Rattle.h5w_tree_index_laws.proofs.TreeHeaderLemmas.{header_gives, header_long, header_reads}
use Rattle.h5w_tree_index_laws.proofs.TreePlanLemmas.{placed_stands}
use Rattle.h5w_tree_index_laws.proofs.TreeRangeLemmas.{by_weight, light}
use Rattle.h5w_tree_index_laws.proofs.TreeRestLemmas.{tree_begins}
use Rattle.h5w_tree_index_laws.proofs.TreeStandLemmas.{node_place}
use Rattle.h5w_tree_starting_laws.specs.TreeStarting.{IsUnwritten}
use Rattle.h5w_tree_starting_laws.proofs.UnwrittenLemmas.{no_blank}
use Rattle.h5w_creation_laws.specs.CreatedFiles.{empty_tree}
use Rattle.h5w_creation_laws.proofs.RootLemmas.{look_at}
use Rattle.h5w_creation_laws.proofs.SizeLemmas.{tree_long}

-- ---- Without chunks

tree_read : (place : ℕ) → bthd_at (bthd_bytes empty_tree) place ≡ Ok empty_tree
tree_read place =
    ap (λ (b : List ℕ). bthd_at b place) (bthd_bytes-is empty_tree)
    ∙ bthd_at-bthd_body empty_tree place (record { shallow = omega arith; few = omega arith }) (omega arith) (omega arith)

-- it stands where its header was written
pub new_tree_stands : (img : List ℕ) (place : ℕ) → At img place (bthd_bytes empty_tree) → TreeStands place no_tree img
new_tree_stands img place stands = tree_begins img place (ap (λ b. bthd_at b place) (look_at img place bthd_len (bthd_bytes empty_tree) stands tree_long) ∙ tree_read place)

-- ---- Its plan

module _ (place : ℕ) (v w : Index) (s t : Space) (ms : List Move) (cs fixed : List Write) (index : IsIndex v) (unwritten : IsUnwritten v) (plan : IsTreePlan place v s ms cs fixed w t) where
  pub plan_count : changes v.depth v.root ≡ length (news ms)
  plan_count = ap length (sym plan.taken.old) ∙ length-map ms (λ (m : Move). m.old) ∙ sym (length-map ms (λ (m : Move). m.new))

  plan_index : IsIndex w
  plan_index = subst IsIndex (sym plan.index) (planned_index (news ms) v index)

  -- its ranges are those of before, and those of the nodes that are written
  pub plan_behind : (bytes : ℕ) → AreAmong (behind_of bytes w) (fresh ms ++ behind_of bytes v)
  plan_behind bytes =
      subst (λ (u : Index). AreAmong (behind_of bytes u) (fresh ms ++ behind_of bytes v)) (sym plan.index)
      (by_weight (behind_of bytes (planned (news ms) v)) (fresh ms ++ behind_of bytes v) (λ g.
      let l = light g bytes v.depth v.root (news ms) index.sound (omega (arith, plan_count)) in
      let e : sum_by g (map node_range (take (changes v.depth v.root) (news ms))) ≡ sum_by g (fresh ms) = ap (sum_by g) (ap (map node_range) (take_them (news ms) (changes v.depth v.root) plan_count) ∙ same_news ms) in
      omega (arith, l, e, sum_by-append g (fresh ms) (behind_of bytes v))))

-- Where its root changed, it stands on each image on which the nodes that are written stand.
module _ (place : ℕ) (v w : Index) (s t : Space) (ms : List Move) (cs fixed : List Write) (index : IsIndex v) (unwritten : IsUnwritten v) (plan : IsTreePlan place v s ms cs fixed w t) (filled : IsFilled v)
    (changed : clean_of v.depth v.root ≡ false) (img : List ℕ) (holds : Holds img (written v.depth (news ms) v.root)) where
  pub plan_stands : AllStand img v.depth (placed v.depth (news ms) v.root)
  plan_stands = placed_stands img v.depth v.root (news ms) (record {
    marked = index.marked;
    sound = index.sound;
    clean = λ p c. absurd (no_blank v.depth v.root p index.shallow filled changed c (unwritten.clean p c));
    reads = plan.reads;
    holds = holds;
    enough = omega (arith, plan_count place v w s t ms cs fixed index unwritten plan);
    ends = moves_end s ms plan.taken.taken plan.taken.moves;
  })

  plan_low : place_of w.depth w.root < 2 ^ 64
  plan_low =
      let low : place_of v.depth (placed v.depth (news ms) v.root) + node_size < 2 ^ 64 = node_place img v.depth (placed v.depth (news ms) v.root) plan_stands in
      subst (λ (u : Index). place_of u.depth u.root < 2 ^ 64) (sym plan.index) (below (place_of v.depth (placed v.depth (news ms) v.root)) low)
    where
      below : (n : ℕ) → n + node_size < 2 ^ 64 → n < 2 ^ 64
      below n h = omega (arith, h)

  -- and its header says it
  pub plan_names : At img place (bthd_bytes (header_of w)) → HeaderNames place w img
  plan_names there =
      let read : range img place bthd_len ≡ bthd_bytes (header_of w) = ap (range img place) (sym (header_long (header_of w))) ∙ there in
      record {
        total = total_of w.depth w.root;
        finds = header_gives w (total_of w.depth w.root) (range img place bthd_len) place (ap (λ (l : List ℕ). bthd_at l place) read ∙ header_reads w place (plan_index place v w s t ms cs fixed index unwritten plan) plan_low);
      }
