use Rattle.std.proofs.Common.{◌≡◌, ◌∙◌, ◌∷◌, ◌-◌, List, ℕ, ap, arith, drop, length, length-drop, rules, sym, take, to_z, of_z}
use Rattle.std.specs.Int.{w128}
use Rattle.std.proofs.lemmas.Grind.{common_steps}
use Rattle.std.proofs.lemmas.List.{take_all}
use Rattle.h5w_input.proofs.NumberLemmas.{begins_negative}
use Rattle.h5w_input.proofs.number.first_value.Goals as goal

pub returns-in_ok-v-in-45 : goal.returns-in_ok-v-in-45
returns-in_ok-v-in-45 c = let line = c.args.bytes.now in
    let is : to_z w128 (of_z w128 c.in_ok-v-in-45.v) ≡ c.in_ok-v-in-45.v = search rules in
    let all : take (length line - 1) (drop 1 line) ≡ drop 1 line = take_all _ _ (omega (arith, length-drop 1 line)) in
    let cut : line ≡ 45 ∷ drop 1 line = first_of (search rules, grind (arith, common_steps)) in
    rw is (begins_negative line (take (length line - 1) (drop 1 line)) c.in_ok-len-in-45.len c.in_ok-len-in-45.n c.in_ok-v-in-45.v (cut ∙ ap (λ (ds : List ℕ). 45 ∷ ds) (sym all)) c.in_ok-len-in-45.ensures (first_of (search rules, grind (arith, common_steps), cc)))
