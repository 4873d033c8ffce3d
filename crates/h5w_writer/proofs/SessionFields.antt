-- A session by the fields that it is made of.
use Rattle.std.proofs.Common.{drop}
use Rattle.h5w_chunks.specs.Grids.{dataset_of}
use Rattle.h5w_index.specs.Held.{view_of}
use Rattle.h5w_writer.specs.Sessions.{Session}
use Rattle.h5w_writer.specs.declared.state.WriterCore.TheInside.{Inside}

abbrev pub session_of : Inside → Session
session_of i = record {
  name = i.name;
  root = i.root;
  place = i.place;
  header = i.header;
  dataset = dataset_of i.grid;
  places = i.places;
  committed = i.committed;
  waiting = i.backlog.waiting;
  waits = i.backlog.waits;
  pending = drop i.backlog.shown i.backlog.plan.items;
  stopped = i.stopped;
  keeps = i.keeps;
  budget = i.budget;
  early = i.backlog.early;
  chunks = i.backlog.chunks.items;
  flushing = i.backlog.flushing;
  index = view_of i.index;
}
