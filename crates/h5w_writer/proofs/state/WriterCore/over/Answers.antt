use Rattle.std.proofs.Common.{◌≡◌, ap, sym, ◌∙◌, subst, arith, false, List, [], ◌∷◌, ℕ, ◌^◌, ◌<◌}
use Rattle.h5w_model.specs.declared.piece.Write.{Write}
use Rattle.h5w_model.specs.declared.root.Super.{Super}
use Rattle.h5w_model.specs.Superblock.{super_bytes}
use Rattle.h5w_model.proofs.SuperLemmas.{length-super_bytes}
use Rattle.h5w_space.specs.Space.{Space}
use Rattle.h5w_chunks.specs.Grids.{dataset_of}
use Rattle.h5w_index.specs.Held.{view_of}
use Rattle.h5w_writer.specs.Openings.{session_over}
use Rattle.h5w_writer.specs.Sessions.{ArePieces, IsSession, Session}
use Rattle.h5w_writer.proofs.state.WriterCore.over.Goals as goal

pub super_piece-requires : goal.super_piece-requires
super_piece-requires c = c.requires.session.version

-- the session that is made
abbrev made : goal.After-new-4 → Session
made c = record {
  name = c.of.result;
  root = c.args.file.root;
  place = c.args.file.place;
  header = c.args.file.header;
  dataset = dataset_of c.args.file.grid;
  places = c.new.result;
  committed = c.args.file.grid.shape.rows;
  waiting = c.new-2.result;
  waits = 0;
  pending = c.in_ok-plan.plan.items;
  stopped = false;
  keeps = false;
  budget = c.args.budget;
  early = 0;
  chunks = c.new-4.result.items;
  flushing = false;
  index = view_of c.args.file.index;
}

planned : (c : goal.After-new-4) → c.in_ok-plan.plan.items ≡ record { at = 0; piece = super_bytes c.args.file.root } ∷ []
planned c = c.in_ok-plan.ensures.plan ∙ ap (λ (b : List ℕ). record { at = 0; piece = b } ∷ []) c.super_piece.ensures.piece

made_here : (c : goal.After-new-4) → made c ≡ session_over c.args.file c.args.name.now c.args.limit c.args.budget
made_here c = λ k. record {
  name = c.of.ensures k;
  root = c.args.file.root;
  place = c.args.file.place;
  header = c.args.file.header;
  dataset = dataset_of c.args.file.grid;
  places = c.new.ensures k;
  committed = c.args.file.grid.shape.rows;
  waiting = c.new-2.ensures k;
  waits = 0;
  pending = planned c k;
  stopped = false;
  keeps = false;
  budget = c.args.budget;
  early = 0;
  chunks = c.new-4.ensures.items k;
  flushing = false;
  index = view_of c.args.file.index;
}

pub invariant_of-result : goal.invariant_of-result
invariant_of-result c =
    let is = c.requires.session in
    let r : Super = c.args.file.root in
    let end : c.new.result.end ≡ r.end = ap (λ (s : Space). s.end) c.new.ensures in
    let size = length-super_bytes r in
    let begun = is.begun in
    let w : Write = record { at = 0; piece = super_bytes r } in
    let one : ArePieces c.new.result.end (w ∷ []) = record { sized = ((omega (arith, size), omega (arith, size)), tt); within = (omega (arith, size, begun, end), tt) } in (
      subst IsSession (sym (made_here c)) is,
      c.requires.grid,
      subst (λ (ws : List Write). ArePieces c.new.result.end ws) (sym (planned c)) one,
      omega arith,
      c.in_ok-plan.ensures.room,
    )

pub returns-clause-session : goal.returns-clause-session
returns-clause-session c = made_here c

pub returns-clause-reads : goal.returns-clause-reads
returns-clause-reads c = c.super_piece.ensures.reads
