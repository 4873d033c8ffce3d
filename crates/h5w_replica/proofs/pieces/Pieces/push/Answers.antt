use Rattle.std.proofs.Common.{rules, arith, ◌≡◌, ◌+◌, ◌∷◌, [], ◌++◌, List, ℕ, length, refl, ap, vec_len, ◌∙◌}
use Rattle.std.specs.Prelude.{map}
use Rattle.h5w_image.specs.Memory.{JournalView}
use Rattle.h5w_image.proofs.JournalLemmas.{among_push, writes_push}
use Rattle.h5w_replica.specs.declared.pieces.Spot.{Spot}
use Rattle.h5w_replica.specs.Waiting.{entry_of}
use Rattle.h5w_replica.proofs.PiecesLemmas.{spot_last}
use Rattle.h5w_replica.proofs.pieces.Pieces.push.Goals as goal

pub invariant_of-self : goal.invariant_of-self
invariant_of-self c =
    let s : Spot = record { at = c.args.w.now.at; from = c.len.result; len = length c.as_slice-piece.result.now } in
    let more : c.extend_from_slice.new.self.items ≡ c.self.inside.bytes.items ++ c.as_slice-piece.result.now = search rules in
    let grown : vec_len c.extend_from_slice.new.self ≡ vec_len c.self.inside.bytes + length c.as_slice-piece.result.now = search rules in (
      among_push c.self.inside.bytes.items c.as_slice-piece.result.now c.extend_from_slice.new.self.items (map entry_of c.self.inside.spots.items) (map entry_of c.push_reserved.new.self.items) (entry_of s) c.self.invariant.0
          more (spot_last c.self.inside.spots.items c.push_reserved.new.self.items s c.push_reserved.ensures.items) (c.len.ensures ∙ c.self.inside.bytes.ok.0) refl,
      omega (arith, c.self.invariant.1, c.saturating_sub-self-inside.ensures, c.push_reserved.ensures.len, c.push_reserved.ensures.capacity, grown, c.extend_from_slice.ensures.capacity, c.as_slice-piece.ensures.bound, ap length c.as_slice-piece.ensures.value),
    )

pub returns-clause-last : goal.returns-clause-last
returns-clause-last c =
    let s : Spot = record { at = c.args.w.now.at; from = c.len.result; len = length c.as_slice-piece.result.now } in
    let more : c.extend_from_slice.new.self.items ≡ c.self.inside.bytes.items ++ c.as_slice-piece.result.now = search rules in
    writes_push c.self.inside.bytes.items c.extend_from_slice.new.self.items (map entry_of c.self.inside.spots.items) (map entry_of c.push_reserved.new.self.items) (entry_of s) c.args.w.now c.self.invariant.0
    (more ∙ ap (λ (piece : List ℕ). c.self.inside.bytes.items ++ piece) c.as_slice-piece.ensures.value)
    (spot_last c.self.inside.spots.items c.push_reserved.new.self.items s c.push_reserved.ensures.items) refl (c.len.ensures ∙ c.self.inside.bytes.ok.0) (ap length c.as_slice-piece.ensures.value)
    ∙ ap (λ (v : JournalView). v.writes ++ c.args.w.now ∷ []) c.self.view_is
