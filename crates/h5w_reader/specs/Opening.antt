-- What is left of the way from the superblock to the messages of the root header.
use Rattle.std.specs.Prelude.{ℕ, ◌+◌, ◌-◌, List, nat_lt, if◌then◌else◌, Result, Ok, Err}
use Rattle.std.specs.Global.{Vec}
use Rattle.h5w_model.specs.Programs.{Prog, ret, whole, bind, and_then, below_end}
use Rattle.h5w_model.specs.Headers.{prefix_at}
use Rattle.h5w_model.specs.Datasets.{super_of, superblock, root_header, root_view, header_refusal}
use Rattle.h5w_model.specs.Datasets as model
use Rattle.h5w_model.specs.declared.refusal.ReadError.{ReadError}
use Rattle.h5w_lookup.specs.Looks.{plain}
use Rattle.h5w_lookup.specs.Gathering.{gathering, cut_behind}
use Rattle.h5w_lookup.specs.Outcomes.{outcome_left}
use Rattle.h5w_dataset.specs.Founds.{founds}
use Rattle.h5w_reader.specs.Walking.{messages_of, chunk_0_rest, walking}
use Rattle.h5w_reader.specs.declared.open.Opening.{Opening}
use Rattle.h5w_reader.specs.declared.open.Opening.TheVariants.{Super, Root, Rest, Visit}
use Rattle.h5w_dataset.specs.declared.found.FoundMessage.{FoundMessage}
use Rattle.h5w_lookup.specs.declared.outcome.Outcome.{Outcome}

-- the messages of the root header, from the superblock on
unfoldable pub root_messages : Prog (Result (List model.FoundMessage) ReadError)
root_messages = plain (and_then superblock (λ s. and_then (root_header s.root) messages_of))

-- from the root header on
unfoldable pub root_rest : ℕ → Prog (Result (List model.FoundMessage) ReadError)
root_rest place = plain (and_then (root_header place) messages_of)

-- given the superblock's bytes
unfoldable pub super_rest : List ℕ → Prog (Result (List model.FoundMessage) ReadError)
super_rest b = elim (super_of b) [ Ok s ↦ root_rest s.root | Err e ↦ ret (Err e) ]

-- given what counts of the first look
unfoldable pub first_rest : ℕ → List ℕ → Prog (Result (List model.FoundMessage) ReadError)
first_rest place first =
    elim (prefix_at first) [
      | Ok p ↦ if nat_lt 512 p.total then bind (cut_behind first (place + 512) (p.total - 512)) (chunk_0_rest place p) else chunk_0_rest place p first
      | Err e ↦ ret (Err (header_refusal place e))
    ]

abbrev pub look_rest : ℕ → List ℕ → Prog (Result (List model.FoundMessage) ReadError)
look_rest place b = first_rest place (root_view b)

abbrev pub opening : Opening → Prog (Result (List model.FoundMessage) ReadError)
opening (Super g) = bind (gathering g) super_rest
opening (Root place) = whole place (below_end place 512) (look_rest place)
opening (Rest p g) = bind (gathering g) (chunk_0_rest g.start p)
opening (Visit b) = walking b

abbrev pub opened : Outcome (Vec FoundMessage) Opening → Prog (Result (List model.FoundMessage) ReadError)
opened o = outcome_left (λ fs. founds fs.items) opening o
