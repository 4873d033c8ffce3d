use Rattle.std.proofs.Common.{◌+◌, ◌≤◌, List, ℕ, length, refl, subst, sym, ap, ◌∙◌}
use Rattle.std.specs.Prelude.{map, slice_get}
use Rattle.h5w_model.specs.Numbers.{range}
use Rattle.h5w_image.specs.Memory.{JournalView}
use Rattle.h5w_image.proofs.JournalLemmas.{among_at, nothing_at, write_at}
use Rattle.h5w_replica.specs.declared.pieces.Spot.{Spot}
use Rattle.h5w_replica.specs.Waiting.{entry_of}
use Rattle.h5w_replica.proofs.PiecesLemmas.{no_spot, spot_at}
use Rattle.h5w_replica.proofs.pieces.Pieces.get.Goals as goal

pub part-requires : goal.part-requires
part-requires c =
    let s = c.in-Some.spot.now in
    let at = spot_at c.deref.result.now c.self.inside.spots.items c.args.k s c.deref.ensures.value c.in-Some.ensures.lookup.3.0 c.in-Some.ensures.lookup.1 in
    subst (λ (bytes : List ℕ). s.from + s.len ≤ length bytes) (sym c.deref-in-Some.ensures.value) (among_at c.self.inside.bytes.items (map entry_of c.self.inside.spots.items) c.args.k (entry_of s) c.self.invariant.0 at)

pub returns-in-Some : goal.returns-in-Some
returns-in-Some c =
    let s = c.in-Some.spot.now in
    let at = spot_at c.deref.result.now c.self.inside.spots.items c.args.k s c.deref.ensures.value c.in-Some.ensures.lookup.3.0 c.in-Some.ensures.lookup.1 in
    write_at c.self.inside.bytes.items c.part.result.now (map entry_of c.self.inside.spots.items) c.args.k s.at (entry_of s) at refl
    (c.part.ensures ∙ ap (λ (bytes : List ℕ). range bytes s.from s.len) c.deref-in-Some.ensures.value)
    ∙ ap (λ (v : JournalView). slice_get v.writes c.args.k) c.self.view_is

pub returns-in-None : goal.returns-in-None
returns-in-None c =
    let past : length c.self.inside.spots.items ≤ c.args.k = subst (λ (ss : List Spot). length ss ≤ c.args.k) c.deref.ensures.value c.in-None.ensures.lookup.3 in
    nothing_at c.self.inside.bytes.items (map entry_of c.self.inside.spots.items) c.args.k (no_spot c.self.inside.spots.items c.args.k past)
    ∙ ap (λ (v : JournalView). slice_get v.writes c.args.k) c.self.view_is
