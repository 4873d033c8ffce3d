use Rattle.std.proofs.Common.{ℕ, List, ◌++◌, ◌+◌, take, drop, length, refl, ◌∙◌, ap, arith}
use Rattle.h5w_model.proofs.NumberLemmas.{length-le}
use Rattle.h5w_model.proofs.Writes.{written_more}
use Rattle.h5w_layout.specs.Numbers.{le}
use Rattle.h5w_layout.proofs.layout.put_index.Goals as goal

pub returns-clause-written : goal.returns-clause-written
returns-clause-written c =
    let out = c.args.out.now in
    let parameters : List ℕ = c.parameters-parameters.result.now in
    let place = c.args.place + length parameters in
    let end = place + 8 in
    let same = ap length c.parameters-parameters.ensures in
    let room = c.requires in
    let eight = length-le 8 c.args.address in
    c.put.ensures.written
    ∙ ap (λ (l : List ℕ). (take place l ++ le 8 c.args.address) ++ drop end l) c.put_bytes.ensures.written
    ∙ written_more out parameters (le 8 c.args.address) c.args.place place end refl (omega arith) (omega arith)
    ∙ ap (λ (l : List ℕ). (take c.args.place out ++ (l ++ le 8 c.args.address)) ++ drop end out) c.parameters-parameters.ensures
