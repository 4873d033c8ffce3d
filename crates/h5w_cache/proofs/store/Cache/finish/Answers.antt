use Rattle.std.proofs.Common.{◌<◌, ◌++◌, ◌∙◌, ℕ, List, [], ap, sym, subst, length, take, drop, vec_capacity}
use Rattle.std.specs.Prelude.{Option}
use Rattle.std.specs.List.{All}
use Rattle.h5w_cache.specs.Blocks.{BlockView}
use Rattle.h5w_cache.specs.Stores.{IsStore, Store}
use Rattle.h5w_cache.specs.Plans.{IsPlan, IsWritten, writes_of}
use Rattle.h5w_cache.specs.Starts.{IsBegun, WasBegun}
use Rattle.h5w_model.specs.declared.piece.Write.{Write}
use Rattle.h5w_cache.specs.declared.moves.Move.{Move}
use Rattle.h5w_cache.proofs.PlannedLemmas.{moves_inside, IsCarried, store_carried, written_carried}
use Rattle.h5w_cache.proofs.LawLemmas.{keeps_store}
use Rattle.h5w_cache.proofs.FinishLemmas.{finished, was_ready}
use Rattle.h5w_cache.proofs.store.Cache.finish.Goals as goal

pub carry_out-requires-clause-inside : goal.carry_out-requires-clause-inside
carry_out-requires-clause-inside c =
    let ms : List Move = c.parts-plan.result.0.moves.items in
    let v : Store = record { blocks = c.self.inside.blocks.items; places = c.self.inside.places.items; changed = c.self.inside.changed.items } in
    let asked : WasBegun v.blocks v.places v.changed c.args.begun = subst (λ (q : Store). WasBegun q.blocks q.places q.changed c.args.begun) (sym c.self.view_is) c.requires in
    let ready = was_ready v c.self.inside.marks.items (vec_capacity c.self.inside.changed) c.args.begun ms c.self.invariant c.parts-plan.ensures.moves asked in
    subst (λ (l : List Move). All (λ (m : Move). m.number < length c.self.inside.blocks.items) l) (sym c.deref.ensures.value)
    (moves_inside v.blocks v.places asked.from ms asked.begun.taken.taken ready.moves)

pub write-requires-clause-written : goal.write-requires-clause-written
write-requires-clause-written c =
    let ms : List Move = c.parts-plan.result.0.moves.items in
    let v : Store = record { blocks = c.self.inside.blocks.items; places = c.self.inside.places.items; changed = c.self.inside.changed.items } in
    let asked : WasBegun v.blocks v.places v.changed c.args.begun = subst (λ (q : Store). WasBegun q.blocks q.places q.changed c.args.begun) (sym c.self.view_is) c.requires in
    let ready = was_ready v c.self.inside.marks.items (vec_capacity c.self.inside.changed) c.args.begun ms c.self.invariant c.parts-plan.ensures.moves asked in
    let carried : IsCarried c.self.inside.blocks.items c.carry_out.new.blocks.items c.self.inside.places.items c.carry_out.new.places.items c.self.inside.marks.items c.carry_out.new.marks.items ms =
    subst (λ (l : List Move). IsCarried c.self.inside.blocks.items c.carry_out.new.blocks.items c.self.inside.places.items c.carry_out.new.places.items c.self.inside.marks.items c.carry_out.new.marks.items l) c.deref.ensures.value
    (record { to_places = c.carry_out.ensures.places; to_marks = c.carry_out.ensures.marks; to_blocks = c.carry_out.ensures.blocks; lengths = c.carry_out.ensures.lengths }) in
    subst (λ (b : List (Option BlockView)). All (IsWritten b) ms) (sym c.deref-2.ensures.value) (written_carried _ _ _ _ _ _ _ _ _ _ _ ready carried)

pub invariant_of-self : goal.invariant_of-self
invariant_of-self c =
    let ms : List Move = c.parts-plan.result.0.moves.items in
    let v : Store = record { blocks = c.self.inside.blocks.items; places = c.self.inside.places.items; changed = c.self.inside.changed.items } in
    let asked : WasBegun v.blocks v.places v.changed c.args.begun = subst (λ (q : Store). WasBegun q.blocks q.places q.changed c.args.begun) (sym c.self.view_is) c.requires in
    let ready = was_ready v c.self.inside.marks.items (vec_capacity c.self.inside.changed) c.args.begun ms c.self.invariant c.parts-plan.ensures.moves asked in
    let carried : IsCarried c.self.inside.blocks.items c.carry_out.new.blocks.items c.self.inside.places.items c.carry_out.new.places.items c.self.inside.marks.items c.carry_out.new.marks.items ms =
    subst (λ (l : List Move). IsCarried c.self.inside.blocks.items c.carry_out.new.blocks.items c.self.inside.places.items c.carry_out.new.places.items c.self.inside.marks.items c.carry_out.new.marks.items l) c.deref.ensures.value
    (record { to_places = c.carry_out.ensures.places; to_marks = c.carry_out.ensures.marks; to_blocks = c.carry_out.ensures.blocks; lengths = c.carry_out.ensures.lengths }) in
    subst (λ (l : List ℕ). IsStore c.carry_out.new.blocks.items c.carry_out.new.places.items c.carry_out.new.marks.items l (vec_capacity c.clear.new.self)) (sym c.clear.ensures.items)
    (subst (λ (n : ℕ). IsStore c.carry_out.new.blocks.items c.carry_out.new.places.items c.carry_out.new.marks.items [] n) (sym c.clear.ensures.capacity) (store_carried _ _ _ _ _ _ _ _ _ _ _ ready carried))

pub returns-clause-planned : goal.returns-clause-planned
returns-clause-planned c s t told =
    let ms : List Move = c.parts-plan.result.0.moves.items in
    let v : Store = record { blocks = c.self.inside.blocks.items; places = c.self.inside.places.items; changed = c.self.inside.changed.items } in
    let begun : IsBegun v.blocks v.places v.changed s c.args.begun t = subst (λ (q : Store). IsBegun q.blocks q.places q.changed s c.args.begun t) (sym c.self.view_is) told in
    let carried : IsCarried c.self.inside.blocks.items c.carry_out.new.blocks.items c.self.inside.places.items c.carry_out.new.places.items c.self.inside.marks.items c.carry_out.new.marks.items ms =
    subst (λ (l : List Move). IsCarried c.self.inside.blocks.items c.carry_out.new.blocks.items c.self.inside.places.items c.carry_out.new.places.items c.self.inside.marks.items c.carry_out.new.marks.items l) c.deref.ensures.value
    (record { to_places = c.carry_out.ensures.places; to_marks = c.carry_out.ensures.marks; to_blocks = c.carry_out.ensures.blocks; lengths = c.carry_out.ensures.lengths }) in
    let w : Store = record { blocks = c.carry_out.new.blocks.items; places = c.carry_out.new.places.items; changed = c.clear.new.self.items } in
    let k : ℕ = c.parts-plan.result.1 in
    let planned : IsPlan v s ms c.write.new.self.copies.items c.write.new.self.in_place.items w t =
    finished v c.self.inside.marks.items c.carry_out.new.marks.items (vec_capacity c.self.inside.changed) c.args.begun ms k w.blocks w.places w.changed c.write.new.self.copies.items c.write.new.self.in_place.items s t
    c.self.invariant c.parts-plan.ensures.moves c.parts-plan.ensures.split carried c.clear.ensures.items
    (c.write.ensures.copies ∙ ap (λ (l : List Write). l ++ writes_of c.deref-2.result.now (take k ms)) c.parts-plan.ensures.rooms.no_copies ∙ ap (λ (b : List (Option BlockView)). writes_of b (take k ms)) c.deref-2.ensures.value)
    (c.write.ensures.in_place ∙ ap (λ (l : List Write). l ++ writes_of c.deref-2.result.now (drop k ms)) c.parts-plan.ensures.rooms.none_in_place ∙ ap (λ (b : List (Option BlockView)). writes_of b (drop k ms)) c.deref-2.ensures.value)
    begun in
    subst (λ (v : Store). IsPlan v s c.write.new.self.moves.items c.write.new.self.copies.items c.write.new.self.in_place.items w t) c.self.view_is
    (subst (λ (l : List Move). IsPlan v s l c.write.new.self.copies.items c.write.new.self.in_place.items w t) (sym (ap (λ x. x.items) c.write.ensures.moves)) planned)

pub returns-clause-keeps : goal.returns-clause-keeps
returns-clause-keeps c s t told =
    let ms : List Move = c.parts-plan.result.0.moves.items in
    let v : Store = record { blocks = c.self.inside.blocks.items; places = c.self.inside.places.items; changed = c.self.inside.changed.items } in
    let begun : IsBegun v.blocks v.places v.changed s c.args.begun t = subst (λ (q : Store). IsBegun q.blocks q.places q.changed s c.args.begun t) (sym c.self.view_is) told in
    let carried : IsCarried c.self.inside.blocks.items c.carry_out.new.blocks.items c.self.inside.places.items c.carry_out.new.places.items c.self.inside.marks.items c.carry_out.new.marks.items ms =
    subst (λ (l : List Move). IsCarried c.self.inside.blocks.items c.carry_out.new.blocks.items c.self.inside.places.items c.carry_out.new.places.items c.self.inside.marks.items c.carry_out.new.marks.items l) c.deref.ensures.value
    (record { to_places = c.carry_out.ensures.places; to_marks = c.carry_out.ensures.marks; to_blocks = c.carry_out.ensures.blocks; lengths = c.carry_out.ensures.lengths }) in
    let w : Store = record { blocks = c.carry_out.new.blocks.items; places = c.carry_out.new.places.items; changed = c.clear.new.self.items } in
    let k : ℕ = c.parts-plan.result.1 in
    let planned : IsPlan v s ms c.write.new.self.copies.items c.write.new.self.in_place.items w t =
    finished v c.self.inside.marks.items c.carry_out.new.marks.items (vec_capacity c.self.inside.changed) c.args.begun ms k w.blocks w.places w.changed c.write.new.self.copies.items c.write.new.self.in_place.items s t
    c.self.invariant c.parts-plan.ensures.moves c.parts-plan.ensures.split carried c.clear.ensures.items
    (c.write.ensures.copies ∙ ap (λ (l : List Write). l ++ writes_of c.deref-2.result.now (take k ms)) c.parts-plan.ensures.rooms.no_copies ∙ ap (λ (b : List (Option BlockView)). writes_of b (take k ms)) c.deref-2.ensures.value)
    (c.write.ensures.in_place ∙ ap (λ (l : List Write). l ++ writes_of c.deref-2.result.now (drop k ms)) c.parts-plan.ensures.rooms.none_in_place ∙ ap (λ (b : List (Option BlockView)). writes_of b (drop k ms)) c.deref-2.ensures.value)
    begun in
    let all : IsPlan c.args.self.now s c.write.new.self.moves.items c.write.new.self.copies.items c.write.new.self.in_place.items w t =
    subst (λ (v : Store). IsPlan v s c.write.new.self.moves.items c.write.new.self.copies.items c.write.new.self.in_place.items w t) c.self.view_is
    (subst (λ (l : List Move). IsPlan v s l c.write.new.self.copies.items c.write.new.self.in_place.items w t) (sym (ap (λ x. x.items) c.write.ensures.moves)) planned) in
    keeps_store c.args.self.now s c.write.new.self.moves.items c.write.new.self.copies.items c.write.new.self.in_place.items w t all
