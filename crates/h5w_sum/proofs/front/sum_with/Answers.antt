use Rattle.std.proofs.Common.{◌≡◌, ◌+◌, ◌*◌, ◌/◌, ◌++◌, List, ℕ, length, take, sym, ap, ◌∙◌}
use Rattle.std.proofs.lemmas.List.{take-append-drop, length-append}
use Rattle.h5w_model.specs.Checksum.{sum_of}
use Rattle.h5w_sum.specs.Fronts.{IsFront}
use Rattle.h5w_sum.proofs.Rounds.{front_next}
use Rattle.h5w_sum.proofs.front.sum_with.Goals as goal

pub of-requires : goal.of-requires
of-requires c =
    let b = c.args.b.now in
    let at = c.begun_with-at.result.0 in
    front_next b c.split_at.result.0.now at (c.saturating_sub.result / 12 * 12) c.with-words.result c.split_at.ensures.front (c.with-words.ensures (length b) (take at b) c.begun_with-at.ensures.front)

pub returns : goal.returns
returns c =
    let b = c.args.b.now in
    let front = c.split_at.result.0.now in
    let rest = c.split_at.result.1.now in
    let at = c.begun_with-at.result.0 in
    let more : ℕ = c.saturating_sub.result / 12 * 12 in
    let both : front ++ rest ≡ b = ap (λ (xs : List ℕ). xs ++ rest) c.split_at.ensures.front ∙ ap (λ (xs : List ℕ). take (at + more) b ++ xs) c.split_at.ensures.back ∙ take-append-drop (at + more) b in
    let goes : IsFront (length b) front c.with-words.result = front_next b front at more c.with-words.result c.split_at.ensures.front (c.with-words.ensures (length b) (take at b) c.begun_with-at.ensures.front) in
    c.sum_behind.ensures (length b) front goes (sym (length-append front rest) ∙ ap length both) ∙ ap sum_of both
