use Rattle.std.proofs.Common.{arith, ◌≡◌, ◌-◌, ◌*◌, ◌/◌, ◌++◌, List, ℕ, length, take, ◌∙◌, ap}
use Rattle.std.proofs.lemmas.List.{length-drop, length-take, length-append, take-append-drop}
use Rattle.std.proofs.Common.{append_assoc}
use Rattle.h5w_model.specs.Checksum.{added, finished, sum_of}
use Rattle.h5w_sum.proofs.Rounds.{added-padded, front_ends}
use Rattle.h5w_sum.proofs.words.Words.sum_behind.Goals as goal

pub returns : goal.returns
returns c = λ len front goes e.
    let rest = c.args.rest.now in
    let cut : ℕ = (length rest - 1) / 12 * 12 in
    let blocks = c.split_at.result.0.now in
    let end = c.split_at.result.1.now in
    let both : blocks ++ end ≡ rest = ap (λ (xs : List ℕ). xs ++ end) c.split_at.ensures.front ∙ ap (λ (xs : List ℕ). take cut rest ++ xs) c.split_at.ensures.back ∙ take-append-drop cut rest in
    let some = c.requires in
    let few : length end ≡ length rest - cut = ap length c.split_at.ensures.back ∙ length-drop cut rest in
    let many = length-append blocks end in
    let longer = length-append front blocks in
    let all = ap length both in
    let w = c.with.result in
    let last : c.added.result ≡ added w end = c.added.ensures ∙ rw c.copy_from_slice.ensures.after (added-padded w end) in
    c.finished.ensures
    ∙ ap finished last
    ∙ front_ends len (front ++ blocks) end w (c.with.ensures len front goes) (omega (arith, longer, many, all, e)) (omega (arith, few, some)) (omega (arith, few, some))
    ∙ ap sum_of (append_assoc front blocks end ∙ ap (λ (xs : List ℕ). front ++ xs) both)

pub with-requires : goal.with-requires
with-requires c =
    let rest = c.args.rest.now in
    let len = ap length c.split_at.ensures.front ∙ length-take ((length rest - 1) / 12 * 12) rest in
    omega (arith, len)
