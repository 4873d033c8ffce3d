use Rattle.std.proofs.Common.{◌≡◌, ◌≤◌, ◌∙◌, ℕ, List, Ok, min, length, take, sym, ap}
use Rattle.std.specs.Prelude.{nat_eq}
use Rattle.std.specs.Cmp.Lexicographic.{pointwise}
use Rattle.std.proofs.lemmas.List.{take_min}
use Rattle.h5w_model.specs.Headers.{prefix_at}
use Rattle.h5w_reader.proofs.HeaderLemmas.{view_short}
use Rattle.h5w_reader.proofs.IdleLemmas.{pointwise_same}
use Rattle.h5w_reader.proofs.idle.shows.Goals as goal

pub returns-in-Ok : goal.returns-in-Ok
returns-in-Ok c = λ same.
    let b = c.args.look.now in
    let p = c.in-Ok.p in
    let is : prefix_at b ≡ Ok p = ap prefix_at (sym c.as_slice-b.ensures.value) ∙ sym c.prefix.ensures.exact ∙ c.in-Ok.is in
    let fits : p.total ≤ 512 = c.if-p.true in
    let counts : c.min-counts.result ≡ min p.total (length b) = c.min-counts.ensures ∙ ap (λ (x : List ℕ). min p.total (length x)) c.as_slice-b.ensures.value in
    view_short b p is fits ∙ sym (take_min p.total b) ∙ ap (λ n. take n b) (sym counts)
    ∙ ap (take c.min-counts.result) (sym c.as_slice-b.ensures.value)
    ∙ pointwise_same (take c.min-counts.result c.as_slice-b.result.now) c.args.seen.now
    (ap (pointwise nat_eq (take c.min-counts.result c.as_slice-b.result.now)) (sym c.as_slice.ensures) ∙ sym c.eq.ensures ∙ same)
