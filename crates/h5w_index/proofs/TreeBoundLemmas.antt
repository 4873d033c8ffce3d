-- What a plan of a tree's changed nodes takes: by how much the end of the file rises, and how many pieces it has, by the number of the
-- chunks for which they changed.
use Rattle.std.proofs.Common.{◌≡◌, ℕ, ◌+◌, ◌*◌, ◌≤◌, Bool, true, false, List, [], ◌∷◌, length, drop, refl, sym, ap, ◌∙◌, arith, length-append}
use Rattle.std.specs.Prelude.{if◌then◌else◌}
use Rattle.std.proofs.lemmas.List.{length-map}
use Rattle.h5w_model.specs.Images.{pieces}
use Rattle.h5w_model.specs.Datasets.{Described}
use Rattle.h5w_model.specs.Trees.{bthd_bytes, node_size}
use Rattle.h5w_model.specs.Findings.{Used}
use Rattle.h5w_model.specs.declared.piece.Write.{Write}
use Rattle.h5w_model.proofs.ImageLemmas.{length-pieces}
use Rattle.h5w_chunks.specs.Shares.{touched}
use Rattle.h5w_space.specs.Space.{Space}
use Rattle.h5w_space.specs.declared.Full.{Full}
use Rattle.h5w_cache.specs.Plans.{AreRetired}
use Rattle.h5w_cache.specs.declared.moves.Move.{Move}
use Rattle.h5w_flush_laws.specs.Parts.{block_ranges, block_writes}
use Rattle.h5w_bt_index.specs.Marks.{clean_of}
use Rattle.h5w_bt_index.specs.Index.{Index, IsIndex}
use Rattle.h5w_bt_nodes.specs.Blocks.{changes, written}
use Rattle.h5w_bt_index.specs.Plans.{AreNodeMoves, AreTaken, HasNoPlace, IsBegun, IsTreePlan, Start, header_of, header_writes, news}
use Rattle.h5w_tree_index_laws.specs.TreeFlushes.{fresh}
use Rattle.h5w_tree_index_laws.proofs.TreeLaws.{copies_are}
use Rattle.h5w_index.specs.Marks.{FullBound, IsRaised, PlanBound, TreeMarked}
use Rattle.h5w_index.proofs.CountLemmas.{few_below}
use Rattle.h5w_index.proofs.RaisedLemmas.{raised_more, raised_none, raised_on, raised_one, retired_raised}

-- ---- Places

pub nodes_raised : (s : Space) (ms : List Move) (t : Space) → AreNodeMoves s ms t → IsRaised s t (length ms * 2048)
nodes_raised s [] t h = raised_more s t 0 (0 * 2048) (omega arith) (raised_none s t (ap (λ (x : Space). x.end) h) (ap (λ (x : Space). x.limit) h))
nodes_raised s (m ∷ ms) t h =
    let first = raised_one s h.0 m.new node_size (h.1).step.takes in
    raised_more s t (node_size + length ms * 2048) (length (m ∷ ms) * 2048) (omega arith) (raised_on s h.0 t node_size (length ms * 2048) first (nodes_raised h.0 ms t h.2))

-- ---- Pieces

abbrev first_len : List Used → ℕ
first_len [] = 0
first_len (u ∷ us) = u.len

-- blocks at the places of nodes are of four pieces each
node_pieces : (bs : List (ℕ × List ℕ)) (ms : List Move) → block_ranges bs ≡ fresh ms → length (block_writes bs) ≤ length ms * 4
node_pieces [] ms e = omega arith
node_pieces (b ∷ bs) [] e = absurd (omega (arith, ap length e))
node_pieces (b ∷ bs) (m ∷ ms) e =
    let long : length b.1 ≡ node_size = ap first_len e in
    let rest = node_pieces bs ms (ap (drop 1) e) in
    omega (arith, length-append (pieces b.0 b.1) (block_writes bs), length-pieces b.0 b.1, long, rest)

header_few : (p : ℕ) (v w : Index) → length (header_writes p v w) ≤ 1
header_few p v w = go (clean_of v.depth v.root)
  where
    go : (b : Bool) → length (let ws : List Write = if b then [] else record { at = p; piece = bthd_bytes (header_of w) } ∷ [] in ws) ≤ 1
    go true = omega arith
    go false = omega arith

-- ---- A plan

module _ (d : Described) (from to p : ℕ) (v : Index) (i : IsIndex v) (m : TreeMarked d from to v) where
  few_nodes : changes v.depth v.root ≤ 7 * touched d from to
  few_nodes = omega (arith, m.few, few_below m.numbers (touched d from to) m.once m.inside)

  -- so many nodes have a move
  few_moves : (s : Space) (ms : List Move) (roomy : Space) → AreTaken v s ms roomy → length ms ≤ 7 * touched d from to
  few_moves s ms roomy x =
      let count : length ms ≡ changes v.depth v.root = sym (length-map ms (λ (m : Move). m.old)) ∙ ap length x.old in
      omega (arith, count, few_nodes)

  -- all of them have their places
  tree_raised : (s : Space) (ms : List Move) (roomy t : Space) → AreTaken v s ms roomy → AreRetired roomy ms t → IsRaised s t (touched d from to * 16428)
  tree_raised s ms roomy t x retired =
      let moved = nodes_raised s ms x.taken x.moves in
      let still = raised_none x.taken roomy (ap (λ (u : Space). u.end) x.roomy) (ap (λ (u : Space). u.limit) x.roomy) in
      let both = raised_on s x.taken roomy (length ms * 2048) 0 moved still in
      raised_more s t (length ms * 2048 + 0 + 0) (touched d from to * 16428) (omega (arith, few_moves s ms roomy x)) (raised_on s roomy t (length ms * 2048 + 0) 0 both (retired_raised roomy ms t retired))

  -- so it is of a plan that is begun
  pub tree_begun : (s : Space) (b : Start) (t : Space) → IsBegun p v s b t → IsRaised s t (touched d from to * 16428)
  tree_begun s b t x = tree_raised s b.moves x.roomy t x.taken x.retired

  pub tree_bound : (s : Space) (ms : List Move) (copies fixed : List Write) (w : Index) (t : Space) → IsTreePlan p v s ms copies fixed w t → PlanBound d from to s copies fixed t
  tree_bound s ms copies fixed w t plan =
      let ranges = copies_are v ms (written v.depth (news ms) v.root) i plan.taken.old refl in
      let copied : length copies ≤ length ms * 4 = omega (arith, node_pieces (written v.depth (news ms) v.root) ms ranges, ap length plan.copies) in
      let head : length fixed ≤ 1 = omega (arith, header_few p v w, ap length plan.in_place) in
      record {
        raised = tree_raised s ms plan.roomy t plan.taken plan.retired;
        pieces = omega (arith, copied, head, few_moves s ms plan.roomy plan.taken);
      }

  -- the first node in turn that has no place
  pub tree_full : (s : Space) (e : Full) → HasNoPlace (changes v.depth v.root) s e → FullBound d from to s e
  tree_full s e none = record {
    before = none.t;
    raised = raised_more s none.t (length none.taken * 2048) (touched d from to * 16428) (omega (arith, none.inside, few_nodes)) (nodes_raised s none.taken none.t none.moves);
    size = node_size;
    some = omega arith;
    few = omega arith;
    refused = none.refused;
  }
