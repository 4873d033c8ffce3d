use Rattle.std.proofs.Common.{◌≡◌, ℕ, ◌+◌, ◌-◌, ◌++◌, length, replicate, ap, ◌∙◌, arith, rules}
use Rattle.std.proofs.lemmas.Grind.{common_steps}
use Rattle.h5w_image.proofs.Overwrite.{over_filled}
use Rattle.h5w_stop.proofs.image.put.Goals as goal

pub returns : goal.returns
returns c =
    let old = c.args.bytes.now.items in
    let end : c.in-Some.end ≡ c.args.at + length c.args.piece.now = search rules in
    let filled = c.in_ok-fill.ensures ∙ ap (λ (n : ℕ). old ++ replicate (n - length old) 0) end in
    let over = over_filled c.args.at c.args.piece.now old c.fill.new.bytes.items filled in
    grind (arith, common_steps)
