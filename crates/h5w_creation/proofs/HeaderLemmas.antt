-- How long the messages of a new file are.
use Rattle.std.proofs.Common.{◌≡◌, ℕ, ◌+◌, ◌≤◌, leb, List, length, ap, ◌∙◌, inl, inr, arith}
use Rattle.h5w_model.specs.Numbers.{le}
use Rattle.h5w_model.specs.Headers.{header_bytes, msgs_bytes, prefix_bytes}
use Rattle.h5w_model.specs.declared.message.Msg.{Msg}
use Rattle.h5w_model.proofs.HeaderLemmas.{length-header_bytes, length-msgs_bytes}
use Rattle.h5w_model.proofs.HeaderRoundTrip.{prefix_bytes-large, prefix_bytes-small}
use Rattle.std.proofs.lemmas.Bool.{cases_Bool}
use Rattle.h5w_creation_laws.proofs.SizeLemmas.{length_link, length_infos}
use Rattle.h5w_creation.specs.Headers.{links_to}

-- messages are no longer than the header
pub messages_short : (ms : List Msg) → length (header_bytes ms) ≤ 512 → length (msgs_bytes ms) ≤ 512
messages_short ms h = omega (arith, length-header_bytes ms)

-- ---- The root header

pub links_long : (name : List ℕ) (address : ℕ) → length (msgs_bytes (links_to name address)) ≡ 43 + length name
links_long name address =
    length-msgs_bytes (links_to name address) ∙ omega (arith, length_infos.0, length_infos.1, length_link name address)

-- the size of the messages takes one byte, or two
pub prefix_short : (n : ℕ) → length (prefix_bytes n) ≤ 8
unfolding le
prefix_short n = elim (cases_Bool (leb n 255)) [
  | inl e ↦ let long : length (prefix_bytes n) ≡ 7 = ap length (prefix_bytes-small n e) in omega (arith, long)
  | inr e ↦ let long : length (prefix_bytes n) ≡ 8 = ap length (prefix_bytes-large n e) in omega (arith, long)
]

pub root_short : (name : List ℕ) (address : ℕ) → length (header_bytes (links_to name address)) ≤ 55 + length name
root_short name address = omega (arith, length-header_bytes (links_to name address), links_long name address, prefix_short (length (msgs_bytes (links_to name address))))
