-- What is left of a header whose messages are visited one after another.
use Rattle.std.specs.Prelude.{ℕ, Bool, List, [], ◌++◌, Result, Ok, Err}
use Rattle.std.specs.Global.{Vec}
use Rattle.h5w_model.specs.Programs.{Prog, ret, bind, and_then}
use Rattle.h5w_model.specs.Datasets.{HeaderFields, walk, block_messages, from_chunk_0}
use Rattle.h5w_model.specs.Datasets as model
use Rattle.h5w_model.specs.declared.message.Prefix.{Prefix}
use Rattle.h5w_model.specs.declared.refusal.ReadError.{ReadError}
use Rattle.h5w_lookup.specs.Looks.{plain}
use Rattle.h5w_lookup.specs.Gathering.{gathering}
use Rattle.h5w_lookup.specs.Outcomes.{outcome_left}
use Rattle.h5w_dataset.specs.Founds.{founds, stack}
use Rattle.h5w_dataset.specs.declared.found.FoundMessage.{FoundMessage}
use Rattle.h5w_reader.specs.declared.walk.Walk.{Walk}
use Rattle.h5w_reader.specs.declared.walk.Block.{Block}
use Rattle.h5w_lookup.specs.declared.outcome.Outcome.{Outcome}

-- a header's messages alone
abbrev pub messages_of : HeaderFields → Prog (Result (List model.FoundMessage) ReadError)
messages_of h = ret (Ok h.messages)

-- the messages of a header, given all of its chunk 0
unfoldable pub chunk_0_rest : ℕ → Prefix → List ℕ → Prog (Result (List model.FoundMessage) ReadError)
chunk_0_rest place p b = plain (and_then (from_chunk_0 place p b) messages_of)

-- the messages from here on, with those that were found before
unfoldable pub walk_rest : ℕ → ℕ → Bool → List model.FoundMessage → List model.FoundMessage → Prog (Result (List model.FoundMessage) ReadError)
walk_rest more header tracked done ms = plain (and_then (walk more header tracked [] done ms) messages_of)

-- the same from a continuation block on, given its bytes
unfoldable pub block_rest : ℕ → ℕ → Bool → List model.FoundMessage → List model.FoundMessage → ℕ → ℕ → List ℕ → Prog (Result (List model.FoundMessage) ReadError)
block_rest more header tracked done ms place len b =
    elim (block_messages tracked place len b) [
      | Ok inside ↦ walk_rest more header tracked done (inside ++ ms)
      | Err e ↦ ret (Err e)
    ]

abbrev pub walk_left : Walk → Prog (Result (List model.FoundMessage) ReadError)
walk_left w = walk_rest w.more w.header w.tracked (founds w.done.items) (stack w.next.items)

abbrev pub block_left : Walk → ℕ → ℕ → List ℕ → Prog (Result (List model.FoundMessage) ReadError)
block_left w place len b = block_rest w.more w.header w.tracked (founds w.done.items) (stack w.next.items) place len b

abbrev pub walking : Block → Prog (Result (List model.FoundMessage) ReadError)
walking b = bind (gathering b.gather) (block_left b.walk b.gather.start b.len)

abbrev pub walked : Outcome (Vec FoundMessage) Block → Prog (Result (List model.FoundMessage) ReadError)
walked w = outcome_left (λ fs. founds fs.items) walking w
