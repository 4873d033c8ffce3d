use Rattle.std.proofs.Common.{◌≡◌, ◌∷◌, [], ◌++◌, List, ℕ, length, refl, ap, ◌∙◌}
use Rattle.h5w_image.specs.declared.journal.Entry.{Entry}
use Rattle.h5w_image.specs.Memory.{JournalView}
use Rattle.h5w_image.proofs.JournalLemmas.{among_push, writes_push}
use Rattle.h5w_image.proofs.journal.Journal.push.Goals as goal

pub invariant_of-self-2 : goal.invariant_of-self-2
invariant_of-self-2 c =
    let e : Entry = record { at = c.args.w.now.at; from = c.len.result; len = length c.as_slice-piece.result.now } in
    let last : c.push_reserved.new.self.items ≡ c.self.inside.entries.items ++ e ∷ [] = c.push_reserved.ensures.items ∙ ap (λ (es : List Entry). es ++ e ∷ []) c.in_ok-reserve.ensures.items in
    among_push c.self.inside.bytes.items c.as_slice-piece.result.now c.extend_from_slice.new.self.items c.self.inside.entries.items c.push_reserved.new.self.items e c.self.invariant
    c.in_ok-extend_from_slice.ensures.items last (c.len.ensures ∙ c.self.inside.bytes.ok.0) refl

pub returns-clause-last : goal.returns-clause-last
returns-clause-last c =
    let e : Entry = record { at = c.args.w.now.at; from = c.len.result; len = length c.as_slice-piece.result.now } in
    let last : c.push_reserved.new.self.items ≡ c.self.inside.entries.items ++ e ∷ [] = c.push_reserved.ensures.items ∙ ap (λ (es : List Entry). es ++ e ∷ []) c.in_ok-reserve.ensures.items in
    writes_push c.self.inside.bytes.items c.extend_from_slice.new.self.items c.self.inside.entries.items c.push_reserved.new.self.items e c.args.w.now c.self.invariant
    (c.in_ok-extend_from_slice.ensures.items ∙ ap (λ (piece : List ℕ). c.self.inside.bytes.items ++ piece) c.as_slice-piece.ensures.value)
    last refl (c.len.ensures ∙ c.self.inside.bytes.ok.0) (ap length c.as_slice-piece.ensures.value)
    ∙ ap (λ (v : JournalView). v.writes ++ c.args.w.now ∷ []) c.self.view_is
