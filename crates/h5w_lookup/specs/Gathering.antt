-- What is left of a block that is looked at in pieces.
use Rattle.std.specs.Prelude.{◌≡◌, ℕ, ◌+◌, ◌/◌, ◌^◌, ◌≤◌, List, length}
use Rattle.std.specs.Global.{Vec}
use Rattle.h5w_model.specs.Programs.{Prog, ret, look_pieces, below_end}
use Rattle.h5w_lookup.specs.declared.gather.Gather.{Gather}
use Rattle.h5w_lookup.specs.declared.outcome.Progress.{Progress}
use Rattle.h5w_lookup.specs.declared.outcome.Progress.TheVariants.{Done, Looks}

-- a range in pieces, put behind some bytes
unfoldable pub gather_from : ℕ → ℕ → List ℕ → Prog (List ℕ)
gather_from place rest got = look_pieces (rest / 512 + 1) place rest got ret

-- of it what stands below 2^64
abbrev pub cut_behind : List ℕ → ℕ → ℕ → Prog (List ℕ)
cut_behind got place len = gather_from place (below_end place len) got

abbrev pub gathering : Gather → Prog (List ℕ)
gathering g = gather_from g.place g.rest g.got.items

abbrev pub gathered : Progress (Vec ℕ) Gather → Prog (List ℕ)
gathered (Done b) = ret b.items
gathered (Looks g) = gathering g

-- its bytes begin at a place, and end by 2^64
abbrev pub StartsAt : ℕ → Progress (Vec ℕ) Gather → Type 0
StartsAt place (Done b) = place + length b.items ≤ 2 ^ 64
StartsAt place (Looks g) = g.start ≡ place
