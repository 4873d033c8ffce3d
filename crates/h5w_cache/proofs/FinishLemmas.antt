-- A plan that was begun becomes one.
use Rattle.std.proofs.Common.{◌≡◌, ℕ, Bool, List, [], ◌∷◌, take, drop, sym, ap, subst, ◌∙◌, inl, inr}
use Rattle.std.specs.Prelude.{Option}
use Rattle.h5w_model.specs.declared.piece.Write.{Write}
use Rattle.h5w_space.specs.Space.{Space}
use Rattle.h5w_cache.specs.declared.moves.Move.{Move}
use Rattle.h5w_cache.specs.Blocks.{BlockView}
use Rattle.h5w_cache.specs.Stores.{IsStore, Store}
use Rattle.h5w_cache.specs.Plans.{AreRetired, IsPlan, Retires, writes_of}
use Rattle.h5w_cache.specs.Starts.{IsBegun, Start, WasBegun}
use Rattle.h5w_cache.proofs.PlannedLemmas.{IsCarried, IsReady, once_each}

-- by its parts
begun_by : (v : Store) (s : Space) (b : Start) (t : Space) (ms : List Move) (k : ℕ) → ms ≡ b.moves → k ≡ b.split → IsBegun v.blocks v.places v.changed s b t
    → IsBegun v.blocks v.places v.changed s (record { moves = ms; split = k }) t
begun_by v s b t ms k em ek h =
    let parts : Start = record { moves = ms; split = k } in
    let e : parts ≡ b = λ i. record { moves = em i; split = ek i } in
    subst (λ (q : Start). IsBegun v.blocks v.places v.changed s q t) (sym e) h

retire_end : (s : Space) (m : Move) (t : Space) → Retires s m t → t.end ≡ s.end
retire_end s m t (inl left) = ap (λ (q : Space). q.end) left.1
retire_end s m t (inr same) = ap (λ (q : Space). q.end) same.1

-- what is retired moves no end
pub retired_end : (s : Space) (ms : List Move) (t : Space) → AreRetired s ms t → t.end ≡ s.end
retired_end s [] t h = ap (λ (q : Space). q.end) h
retired_end s (m ∷ ms) t h = retired_end h.0 ms t h.2 ∙ retire_end s m h.0 h.1

-- its moves are those of the changed blocks
pub was_ready : (v : Store) (marks : List Bool) (capacity : ℕ) (b : Start) (ms : List Move) → IsStore v.blocks v.places marks v.changed capacity → ms ≡ b.moves
    → (h : WasBegun v.blocks v.places v.changed b) → IsReady v.blocks v.places marks v.changed capacity h.from ms h.begun.taken.taken
was_ready v marks capacity b ms store em h =
    subst (λ (l : List Move). IsReady v.blocks v.places marks v.changed capacity h.from l h.begun.taken.taken) (sym em)
    (record { store = store; all = h.begun.order.all; moves = h.begun.taken.moves })

pub finished : (v : Store) (marks new_marks : List Bool) (capacity : ℕ) (b : Start) (ms : List Move) (k : ℕ) (new_blocks : List (Option BlockView)) (new_places new_changed : List ℕ) (cs fs : List Write) (s t : Space)
    → IsStore v.blocks v.places marks v.changed capacity → ms ≡ b.moves → k ≡ b.split → IsCarried v.blocks new_blocks v.places new_places marks new_marks ms → new_changed ≡ []
    → cs ≡ writes_of new_blocks (take k ms) → fs ≡ writes_of new_blocks (drop k ms) → IsBegun v.blocks v.places v.changed s b t
    → IsPlan v s ms cs fs (record { blocks = new_blocks; places = new_places; changed = new_changed }) t
finished v marks new_marks capacity b ms k new_blocks new_places new_changed cs fs s t store em ek carried none before from h =
    let begun = begun_by v s b t ms k em ek h in
    record {
      each_place = store.each_place;
      order = begun.order;
      once = λ n. once_each v.blocks v.places marks v.changed capacity ms n store begun.order.all;
      roomy = begun.roomy;
      taken = begun.taken;
      retired = begun.retired;
      store = λ i. record { blocks = carried.to_blocks i; places = carried.to_places i; changed = none i };
      lengths = carried.lengths;
      writes = record { split = k; splits = begun.split; before = before; from = from };
    }
