use Rattle.std.proofs.Common.{◌≤◌, sym, subst, length, List, arith}
use Rattle.h5w_model.specs.Headers.{header_bytes}
use Rattle.h5w_model.specs.declared.message.Msg.{Msg}
use Rattle.h5w_creation.proofs.HeaderLemmas.{root_short}
use Rattle.h5w_creation.proofs.headers.root_header.Goals as goal

pub chunk_0-requires : goal.chunk_0-requires
chunk_0-requires c = subst (λ (ms : List Msg). length (header_bytes ms) ≤ 512) (sym c.in_ok-root_messages.ensures) (let few = c.requires in omega (arith, root_short c.args.name.now c.args.address, few))
