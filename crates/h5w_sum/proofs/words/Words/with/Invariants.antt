use Rattle.std.proofs.Common.{◌≡◌, ℕ, List}
use Rattle.h5w_sum.specs.Fronts.{IsFront, IsMixed}
use Rattle.h5w_sum.proofs.words.Words.with.Given as goal

abbrev pub invariant-loop-block : goal.invariant-loop-block
invariant-loop-block l = record {
  size : l.block-iterator.size ≡ 12;
  goes : (len : ℕ) (front : List ℕ) → IsFront len front l.fn.self → IsMixed len front l.blocks l.block-iterator.rest.now l.words;
}
