use Rattle.std.proofs.Common.{◌≡◌, ◌<◌, ◌^◌, ℕ, IfOk, List, [], ◌∷◌, ap, sym, subst, arith, false}
use Rattle.h5w_model.specs.declared.root.Super.{Super}
use Rattle.h5w_model.specs.Superblock.{super_bytes}
use Rattle.h5w_chunks.specs.Grids.{dataset_of}
use Rattle.h5w_chunks.specs.declared.grid.Grid.{Grid}
use Rattle.h5w_index.specs.Held.{view_of}
use Rattle.h5w_index.specs.declared.index.Index.{Index}
use Rattle.h5w_opening.specs.Openings.{Opened}
use Rattle.h5w_opening.specs.Views.{opened_of}
use Rattle.h5w_opening.specs.declared.finding.Opening.{Opening}
use Rattle.h5w_writer_open.specs.OpenAnswers.{opened_session, writing_flags}
use Rattle.h5w_writer_open.specs.OpenSteps.{versioned}
use Rattle.h5w_writer.specs.Openings.{session_over}
use Rattle.h5w_writer.specs.Sessions.{IsSession, Session}
use Rattle.h5w_model.specs.Datasets.{Described}
use Rattle.h5w_writer_open.proofs.SessionOver.{cut, session_is}
use Rattle.h5w_writer_open.proofs.opening.session_over.Goals as goal

pub grid_of-requires : goal.grid_of-requires
grid_of-requires c = cut (opened_of c.args.found.now).header c.requires.ready.found.said

-- the superblock that is written, and the dataset, make the session over what was found
same_here : (o : Opening) (root : Super) (grid : Grid) (header : List ℕ) (index : Index) (name : List ℕ) (limit budget : ℕ) → root ≡ record (o.root) { version = 3; flags = writing_flags o.root.flags } → dataset_of grid ≡ (opened_of o).header.dataset
    → session_over (record { root = root; place = o.place; header = header; grid = grid; index = index }) name limit budget ≡ opened_session (versioned (opened_of o)) header (view_of index) name limit budget
same_here o root grid header index name limit budget is same = λ k. record {
  name = name;
  root = is k;
  place = o.place;
  header = header;
  dataset = same k;
  places = record { end = (is k).end; limit = limit; free = []; retired = []; spare = 0 };
  committed = ap (λ (d : Described). d.shape.rows) same k;
  waiting = [];
  waits = 0;
  pending = record { at = 0; piece = super_bytes (is k) } ∷ [];
  stopped = false;
  keeps = false;
  budget = budget;
  early = 0;
  chunks = [];
  flushing = false;
  index = view_of index;
}

pub over-requires-clause-grid : goal.over-requires-clause-grid
over-requires-clause-grid c = c.grid_of.ensures.grid

pub over-requires-clause-session : goal.over-requires-clause-session
over-requires-clause-session c =
    let a = c.args in
    let o : Opened = opened_of c.args.found.now in
    let small : o.root.end < 2 ^ 64 = omega (arith, c.writing_super.ensures.small, ap (λ (r : Super). r.end) c.writing_super.ensures.root) in
    subst IsSession (sym (same_here a.found.now c.writing_super.result c.grid_of.result a.header a.index a.name.now a.limit a.budget c.writing_super.ensures.root c.grid_of.ensures.same))
    (session_is o a.header (view_of a.index) a.name.now a.limit a.budget c.requires.ready c.requires.high c.requires.budget small)

pub returns-clause-session : goal.returns-clause-session
returns-clause-session c =
    let a = c.args in
    subst (λ (x : Session). IfOk c.over.result (λ s. s ≡ x)) (same_here a.found.now c.writing_super.result c.grid_of.result a.header a.index a.name.now a.limit a.budget c.writing_super.ensures.root c.grid_of.ensures.same) c.over.ensures.session

pub returns-clause-reads : goal.returns-clause-reads
returns-clause-reads c = c.over.ensures.reads

pub returns-clause-long : goal.returns-clause-long
returns-clause-long c =
    let a = c.args in
    let o : Opened = opened_of c.args.found.now in
    let small : o.root.end < 2 ^ 64 = omega (arith, c.writing_super.ensures.small, ap (λ (r : Super). r.end) c.writing_super.ensures.root) in
    (session_is o a.header (view_of a.index) a.name.now a.limit a.budget c.requires.ready c.requires.high c.requires.budget small).begun
