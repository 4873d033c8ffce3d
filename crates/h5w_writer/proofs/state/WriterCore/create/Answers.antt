use Rattle.std.proofs.Common.{arith, false, ◌≡◌, ◌∙◌, ap, sym, subst, List, ℕ}
use Rattle.h5w_model.specs.declared.piece.Write.{Write}
use Rattle.h5w_model.specs.declared.root.Super.{Super}
use Rattle.h5w_chunks.specs.Grids.{dataset_of}
use Rattle.h5w_step_laws.specs.Spelled.{spelled_header}
use Rattle.h5w_index.specs.Held.{view_of}
use Rattle.h5w_creation.specs.Forms.{created_by}
use Rattle.h5w_creation.specs.Made.{IsNewIndex}
use Rattle.h5w_creation_laws.specs.CreatedFiles.{CreatedFile, block_place, created_log, created_writes, described_of, end_of, header_place, index_place, super_of}
use Rattle.h5w_writer.specs.Sessions.{ArePieces, IsSession, Session}
use Rattle.h5w_writer.specs.Creations.{IsIndexOf, IsLimit, created, places_to}
use Rattle.h5w_creation.specs.NewFiles.{new_file}
use Rattle.h5w_writer.specs.Stands.{Stands}
use Rattle.h5w_creation.proofs.OptionLemmas.{creatable}
use Rattle.h5w_writer.proofs.SessionStarts.{created_is, created_pieces}
use Rattle.h5w_writer.proofs.CreatingLemmas.{creation_begins}
use Rattle.h5w_writer.proofs.state.WriterCore.create.Goals as goal
use Rattle.h5w_writer.proofs.state.WriterCore.create.Goals.{After-new-4}

-- the session that is made
abbrev made : After-new-4 → Session
made c = record {
  name = c.of.result;
  root = c.in_ok-file.file.root;
  place = c.in_ok-file.file.place;
  header = c.in_ok-file.file.header;
  dataset = dataset_of c.in_ok-file.file.grid;
  places = c.new.result;
  committed = 0;
  waiting = c.new-2.result;
  waits = 0;
  pending = c.in_ok-file.file.writes.items;
  stopped = false;
  keeps = false;
  budget = c.args.options.now.budget;
  early = 0;
  chunks = c.new-4.result.items;
  flushing = false;
  index = view_of c.in_ok-file.file.index;
}

-- by what the file is created
file_here : (c : After-new-4) → created_by c.as_slice-name.result.now c.form_of.result ≡ new_file c.args.options.now
file_here c = ap (λ (n : List ℕ). created_by n c.form_of.result) c.as_slice-name.ensures ∙ c.form_of.ensures.file

made_here : (c : After-new-4) → made c ≡ created (new_file c.args.options.now) c.args.options.now.limit c.args.options.now.budget (view_of c.in_ok-file.file.index)
made_here c =
    let o = c.args.options.now in
    let f = new_file o in
    let file = file_here c in
    let named : c.of.result ≡ o.name = c.of.ensures ∙ c.as_slice-name.ensures in
    let root : c.in_ok-file.file.root ≡ super_of f = c.in_ok-file.ensures.root ∙ ap super_of file in
    let place : c.in_ok-file.file.place ≡ header_place f = c.in_ok-file.ensures.place ∙ ap header_place file in
    let header : c.in_ok-file.file.header ≡ spelled_header (described_of f) = c.in_ok-file.ensures.header ∙ ap (λ (x : CreatedFile). spelled_header (described_of x)) file in
    let dataset : dataset_of c.in_ok-file.file.grid ≡ described_of f = c.in_ok-file.ensures.dataset ∙ ap described_of file in
    let places : c.new.result ≡ places_to (end_of f) o.limit = c.new.ensures ∙ ap (λ (r : Super). places_to r.end o.limit) root in
    let writes : c.in_ok-file.file.writes.items ≡ created_writes f = c.in_ok-file.ensures.writes ∙ ap created_writes file in
    λ k. record {
      name = named k;
      root = root k;
      place = place k;
      header = header k;
      dataset = dataset k;
      places = places k;
      committed = 0;
      waiting = c.new-2.ensures k;
      waits = 0;
      pending = writes k;
      stopped = false;
      keeps = false;
      budget = o.budget;
      early = 0;
      chunks = c.new-4.ensures.items k;
      flushing = false;
      index = view_of c.in_ok-file.file.index;
    }

index_here : (c : After-new-4) → IsIndexOf (new_file c.args.options.now) (view_of c.in_ok-file.file.index)
index_here c =
    let o = c.args.options.now in
    let v = view_of c.in_ok-file.file.index in
    record {
      sound = c.in_ok-file.ensures.sound;
      new = subst (λ (x : CreatedFile). IsNewIndex x.index (index_place x) (block_place x) v) (file_here c) c.in_ok-file.ensures.index;
    }

limit_here : (c : After-new-4) → IsLimit c.args.options.now.limit
limit_here c = record { low = c.requires.limit_low; high = c.requires.limit_high }

pub invariant_of-result : goal.invariant_of-result
invariant_of-result c =
    let o = c.args.options.now in
    let f = new_file o in
    let v = view_of c.in_ok-file.file.index in
    let is = creatable o c.requires in
    let here = made_here c in
    let end : (made c).places.end ≡ end_of f = ap (λ (s : Session). s.places.end) here in
    let writes : c.in_ok-file.file.writes.items ≡ created_writes f = ap (λ (s : Session). s.pending) here in (
      subst IsSession (sym here) (created_is f o.limit o.budget v is (limit_here c) c.requires.budget_low c.requires.budget_high (index_here c)),
      c.in_ok-file.ensures.grid,
      subst (λ (ws : List Write). ArePieces c.new.result.end ws) (sym writes) (subst (λ (e : ℕ). ArePieces e (created_writes f)) (sym end) (created_pieces f is)),
      omega arith,
      c.in_ok-file.ensures.room,
    )

pub returns-clause-session : goal.returns-clause-session
returns-clause-session c = record { index = index_here c; session = made_here c }

pub returns-clause-stands : goal.returns-clause-stands
returns-clause-stands c =
    let o = c.args.options.now in
    let f = new_file o in
    let v = view_of c.in_ok-file.file.index in
    subst (λ (s : Session). Stands s (created_log f)) (sym (made_here c)) (creation_begins f o.limit o.budget v (creatable o c.requires) (limit_here c) (index_here c))
