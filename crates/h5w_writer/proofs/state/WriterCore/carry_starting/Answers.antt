use Rattle.std.proofs.Common.{◌≡◌, ◌<◌, ◌∙◌, ℕ, length, refl, ap, sym, subst, arith}
use Rattle.h5w_chunks.specs.Rows.{RowsWritten}
use Rattle.h5w_chunks.specs.Shares.{touched}
use Rattle.h5w_index.specs.Held.{view_of}
use Rattle.h5w_index.specs.Naming.{AreNamed}
use Rattle.h5w_index.proofs.BegunLemmas.{was_begun}
use Rattle.h5w_pieces.specs.Joined.{option_list}
use Rattle.h5w_pieces.specs.NextPlaces.{next_places, writes_behind}
use Rattle.h5w_writer.specs.Halves.{PlansStart}
use Rattle.h5w_writer.specs.Sessions.{Session, next_row, rows_of}
use Rattle.h5w_writer.proofs.SessionFields.{session_of}
use Rattle.h5w_writer.proofs.BacklogLemmas.{pending_is, pieces_told, shown_few}
use Rattle.h5w_writer.proofs.CarriedLemmas.{has_rows, one_at_most}
use Rattle.h5w_writer.proofs.StartCarriedLemmas.{StartCarried, start_carried_ends, start_carried_flushed, start_carried_is, start_carried_list}
use Rattle.h5w_writer.proofs.StartingLemmas.{lengths_first}
use Rattle.h5w_writer.proofs.TakingLemmas.{filled_cell}
use Rattle.h5w_writer.proofs.WritableLemmas.{has_address}
use Rattle.h5w_writer.proofs.state.WriterCore.carry_starting.Goals as goal

pub raise_rows-header-requires-clause-rows : goal.raise_rows-header-requires-clause-rows
raise_rows-header-requires-clause-rows c = has_rows c.self.inside.header c.self.invariant.0.header

pub raise_rows-header-requires-clause-index : goal.raise_rows-header-requires-clause-index
raise_rows-header-requires-clause-index c some = has_address c.self.inside.header (c.self.invariant.0.addressed (c.naming-naming.ensures.unnamed some))

pub finish-plan-requires-clause-sound : goal.finish-plan-requires-clause-sound
finish-plan-requires-clause-sound c = c.requires.start.ready.prepared.names.partly.like.sound

pub finish-plan-requires-clause-begun : goal.finish-plan-requires-clause-begun
finish-plan-requires-clause-begun c =
    let p = c.requires.start.ready.prepared in
    was_begun (view_of c.args.starting.index) p.between c.args.starting.prepared.begun c.args.starting.places p.begun

pub join_first-pieces-requires : goal.join_first-pieces-requires
join_first-pieces-requires c =
    let r = c.requires.start.ready in
    omega (arith, r.room, r.after, c.finish-plan.ensures.copies, c.finish-plan.ensures.in_place)

-- what the calls made of the session, once all of them are done
made_by : (c : goal.After-commit_plan)
    → StartCarried (session_of c.self.inside) c.rows-to.result c.args.starting.places (view_of c.finish-plan.new.self) c.join_first-pieces.result.items c.raise-superblock.new.root c.raise_rows-header.new.header c.commit_plan.new.self c.args.starting.at
made_by c =
    let i = c.self.inside in
    let v = session_of i in
    let g : PlansStart v c.args.starting = subst (λ (s : Session). PlansStart s c.args.starting) (sym c.self.view_is) c.requires.start in
    let r = g.ready in
    let to_is : c.rows-to.result ≡ rows_of v = c.rows-to.ensures.value ∙ ap rows_of (sym c.self.view_is) in
    record {
      unmade = g.unmade;
      some = g.waits;
      to_is = to_is;
      small = c.rows-to.ensures.bound;
      typed = c.self.invariant.1.typed;
      filled = filled_cell i.grid c.self.invariant.1;
      places = v.places;
      places_are = refl;
      first = g.first;
      made = g.made;
      kind = g.kind;
      start = g.start;
      chunks = r.chunks;
      added = g.added;
      between = r.prepared.between;
      named = view_of c.args.starting.index;
      names_are = subst (λ (n : ℕ). AreNamed v.dataset n g.made r.chunks g.added (view_of c.args.starting.index)) (sym to_is) r.prepared.names;
      early = v.chunks;
      early_are = refl;
      taken = r.prepared.taken;
      all = subst (λ (n : ℕ). length r.chunks ≡ touched v.dataset v.dataset.shape.rows n) (sym to_is) r.all;
      roomy = r.roomy;
      cells = v.waiting;
      cells_are = refl;
      rows = c.args.starting.prepared.writes.items;
      mid = next_row v;
      mid_is = refl;
      exact = r.exact ∙ ap (λ (n : ℕ). writes_behind v.dataset v.waiting v.dataset.shape.rows (next_row v) n r.chunks) (sym to_is);
      written = subst (λ (n : ℕ). next_row v < n → RowsWritten v.dataset v.waiting (next_row v) n (next_places v.dataset v.dataset.shape.rows (next_row v) r.chunks) c.args.starting.prepared.writes.items) (sym to_is) r.written;
      moves = c.finish-plan.result.moves.items;
      copies = c.finish-plan.result.copies.items;
      fixed = c.finish-plan.result.in_place.items;
      plan = c.finish-plan.ensures.planned r.prepared.between c.args.starting.places r.prepared.begun;
      supers = option_list c.raise-superblock.result;
      end = c.args.starting.prepared.end;
      end_is = r.end;
      end_small = omega arith;
      ended = c.raise-superblock.ensures.ended;
      unraised = c.raise-superblock.ensures.unraised;
      root = c.raise-superblock.ensures.root;
      naming = c.naming-naming.result;
      names = c.naming-naming.ensures.names;
      header = c.raise_rows-header.ensures.header;
      last = c.raise_rows-header.result;
      last_is = c.raise_rows-header.ensures.write;
      items = c.join_first-pieces.ensures.joined;
      header_short = c.raise_rows-header.ensures.short;
      planned = c.commit_plan.ensures.planned;
    }

pub invariant_of-self : goal.invariant_of-self
invariant_of-self c =
    let x = made_by c in
    let is = c.self.invariant.0 in
    let grid = c.self.invariant.1 in (
      start_carried_is _ _ _ _ _ _ _ _ _ x is,
      record {
        shaped = grid.shaped;
        typed = grid.typed;
        chunked = record { rows = grid.chunked.rows; cols = grid.chunked.cols; line = grid.chunked.line; small = grid.chunked.small; index = grid.chunked.index };
        filled = grid.filled;
      },
      start_carried_list _ _ _ _ _ _ _ _ _ x is,
      shown_few _ _ x.planned,
      omega (arith, c.commit_plan.ensures.room, c.join_first-pieces.ensures.room),
    )

pub returns-clause-flushed : goal.returns-clause-flushed
returns-clause-flushed c = start_carried_flushed _ _ _ _ _ _ _ _ _ (made_by c) c.self.invariant.0 c.args.self.now c.self.view_is

pub returns-clause-ends : goal.returns-clause-ends
returns-clause-ends c = start_carried_ends _ _ _ _ _ _ _ _ _ (made_by c) c.self.invariant.0

pub returns-clause-pieces : goal.returns-clause-pieces
returns-clause-pieces c = pieces_told _ _ c.commit_plan.ensures.planned _ c.commit_plan.ensures.count

pub returns-clause-few : goal.returns-clause-few
returns-clause-few c =
    let rows = c.args.starting.prepared.writes.items in
    let copies = c.finish-plan.result.copies.items in
    let fixed = c.finish-plan.result.in_place.items in
    let supers = option_list c.raise-superblock.result in
    let long = ap length (pending_is _ _ c.commit_plan.ensures.planned) ∙ lengths_first c.naming-naming.result rows copies fixed supers c.raise_rows-header.result c.join_first-pieces.result.items c.join_first-pieces.ensures.joined in
    omega (arith, long, one_at_most c.raise-superblock.result, c.finish-plan.ensures.copies, c.finish-plan.ensures.in_place, c.requires.start.ready.after)

pub returns-clause-end : goal.returns-clause-end
returns-clause-end c = sym c.requires.start.ready.end
