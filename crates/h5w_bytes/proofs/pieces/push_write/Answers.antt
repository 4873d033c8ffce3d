use Rattle.std.proofs.Common.{rules, ◌≡◌, ◌-◌, ◌++◌, [], ◌∷◌, ◌∙◌, refl, length, get_or}
use Rattle.std.specs.Prelude.{slice_set}
use Rattle.std.specs.Vec.{vec_len}
use Rattle.std.proofs.lemmas.List.{get_or_at, set_at}
use Rattle.h5w_model.specs.declared.piece.Write.{Write}
use Rattle.h5w_bytes.proofs.pieces.push_write.Goals as goal

pub returns-in-Some-clause-items : goal.returns-in-Some-clause-items
returns-in-Some-clause-items c =
    let before = c.args.out.now.items in
    let last = c.in-Some.last.now in
    let first : Write = record { at = c.args.at; piece = c.new-piece.result } in
    let items : c.push_reserved.new.self.items ≡ before ++ first ∷ [] = search rules in
    let place : vec_len c.push_reserved.new.self - 1 ≡ length before = search rules in
    let value : last ≡ get_or c.push_reserved.new.self.items (vec_len c.push_reserved.new.self - 1) last = search rules in
    let is : last ≡ first = value ∙ (λ i. get_or (items i) (place i) last) ∙ get_or_at before first [] last (length before) refl in
    (λ i. slice_set (items i) (place i) (record { at = (is i).at; piece = c.set.ensures i }))
    ∙ set_at before first [] (record { at = c.args.at; piece = c.args.bytes.now }) (length before) refl
