use Rattle.std.proofs.Common.{arith, sym, ◌≡◌, ◌+◌, ◌^◌, ℕ, ◌*◌, ◌/◌}
use Rattle.h5w_model.specs.Numbers.{width_of}
use Rattle.h5w_bytes.proofs.width_of.Goals as goal
use Rattle.h5w_model.proofs.NumberLemmas.{width_of-is, width_of-spans, width_of-within}
use Rattle.std.proofs.lemmas.Nat.{pow-add}

pub returns : goal.returns
returns c =
    let k : ℕ = c.ilog2.result in
    let next : 2 ^ (k + 1) ≡ 2 ^ k * 2 ^ 1 = pow-add 2 k 1 in
    let is : width_of c.args.m ≡ k / 8 + 1 = width_of-is c.args.m k c.ilog2.ensures.power_le (omega arith) (omega arith) in
    let spans = width_of-spans c.args.m c.requires (omega arith) in
    let within = width_of-within c.args.m c.requires (omega arith) in
    record {
      exact = sym is;
      fits = rw is at spans.1;
      least = rw is at spans.0;
      low = omega arith;
      high = omega arith;
    }
