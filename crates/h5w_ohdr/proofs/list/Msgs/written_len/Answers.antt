use Rattle.std.proofs.Common.{◌≡◌, ℕ, ◌^◌, Bool, true, false, cond, ltb, length, Some, None, refl}
use Rattle.h5w_model.specs.Headers.{msgs_bytes}
use Rattle.h5w_model.proofs.HeaderLemmas.{length-header_bytes}
use Rattle.h5w_ohdr.proofs.list.Msgs.written_len.Goals as goal

known : (small : Bool) (n size : ℕ) → Some size ≡ cond small (Some n) None → (small ≡ true) × (size ≡ n)
known true n size e = (refl, cc)
known false n size e = absurd cc

pub returns : goal.returns
returns c =
    let n = length (msgs_bytes c.args.self.now) in
    let h = known (ltb n (2 ^ 16)) n c.in_ok-size.size (rw (c.as_slice.ensures) at c.in_ok-size.ensures) in
    rw (h.0, length-header_bytes c.args.self.now, c.prefix_len.ensures.exact, h.1) refl
