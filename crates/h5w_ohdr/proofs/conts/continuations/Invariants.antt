use Rattle.std.proofs.Common.{◌≡◌, take}
use Rattle.h5w_model.specs.Headers.{conts_of}
use Rattle.h5w_ohdr.proofs.conts.continuations.Given as goal

abbrev pub invariant-loop-m : goal.invariant-loop-m
invariant-loop-m l = l.conts ≡ take 33 (conts_of (take l.m-index l.m-items))
