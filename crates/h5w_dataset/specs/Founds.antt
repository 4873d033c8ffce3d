-- The messages of a header, as they were found.
use Rattle.std.specs.Prelude.{List, map, reverse}
use Rattle.h5w_model.specs.Datasets as model
use Rattle.h5w_model.specs.declared.message.Msg.{Msg}
use Rattle.h5w_dataset.specs.declared.found.FoundMessage.{FoundMessage}

abbrev pub found_of : FoundMessage → model.FoundMessage
found_of f = record { kind = f.kind; flags = f.flags; place = f.place; body = f.body; in_chunk_0 = f.in_chunk_0 }

abbrev pub founds : List FoundMessage → List model.FoundMessage
founds fs = map found_of fs

-- those that come next, the last of the list first
abbrev pub stack : List FoundMessage → List model.FoundMessage
stack fs = reverse (map found_of fs)

-- a message as links are read from it
abbrev pub listed : model.FoundMessage → Msg
listed m = record { kind = m.kind; flags = m.flags; at = m.place; body = m.body }
