-- A plan that was begun becomes one.
use Rattle.std.proofs.Common.{◌≡◌, ℕ, ◌+◌, ◌<◌, ◌^◌, List, [], ◌∷◌, sym, subst}
use Rattle.std.specs.List.{All}
use Rattle.std.proofs.lemmas.List.Elements.{All-cons, All-nil}
use Rattle.h5w_model.specs.Trees.{node_size}
use Rattle.h5w_model.specs.declared.piece.Write.{Write}
use Rattle.h5w_space.specs.Space.{Space}
use Rattle.h5w_cache.specs.declared.moves.Move.{Move}
use Rattle.h5w_bt_index.specs.Index.{Index}
use Rattle.h5w_bt_index.specs.Plans.{AreNodeMoves, IsBegun, IsTreePlan, Start, news, planned}
use Rattle.h5w_bt_index.proofs.Placed.{placed_stood, planned_records}

-- each new place ends below 2^64
pub moves_end : (s : Space) (ms : List Move) (t : Space) → AreNodeMoves s ms t → All (λ (p : ℕ). p + node_size < 2 ^ 64) (news ms)
moves_end s [] t h = All-nil (λ (p : ℕ). p + node_size < 2 ^ 64)
moves_end s (m ∷ ms) t h = All-cons (λ (p : ℕ). p + node_size < 2 ^ 64) m.new (news ms) (h.1).ends (moves_end h.0 ms t h.2)

pub planned_by : (place : ℕ) (v : Index) (s : Space) (b : Start) (ms : List Move) (cs fs : List Write) (w : Index) (t : Space) → IsBegun place v s b t → ms ≡ b.moves → cs ≡ b.copies → fs ≡ b.in_place
    → w ≡ planned (news b.moves) v → IsTreePlan place v s ms cs fs w t
planned_by place v s b ms cs fs w t begun em ec ef is =
    let P : List Move → List Write → List Write → Index → Type 0 = λ a c f u. IsTreePlan place v s a c f u t in
    subst (λ (u : Index). P ms cs fs u) (sym is)
    (subst (λ (a : List Move). P a cs fs (planned (news b.moves) v)) (sym em)
    (subst (λ (c : List Write). P b.moves c fs (planned (news b.moves) v)) (sym ec)
    (subst (λ (f : List Write). P b.moves b.copies f (planned (news b.moves) v)) (sym ef) (record {
      roomy = begun.roomy;
      taken = begun.taken;
      retired = begun.retired;
      index = λ i. planned (news b.moves) v;
      copies = begun.copies;
      in_place = begun.in_place;
      reads = begun.reads;
      clean = placed_stood v.depth (news b.moves) v.root;
      records = planned_records (news b.moves) v;
    }))))
