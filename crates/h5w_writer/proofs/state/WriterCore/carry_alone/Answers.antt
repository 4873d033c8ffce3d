use Rattle.std.proofs.Common.{◌≡◌, ℕ, ◌<◌, ◌∙◌, List, [], ◌∷◌, length, refl, ap, sym, subst, arith}
use Rattle.h5w_model.specs.declared.piece.Write.{Write}
use Rattle.h5w_chunks.specs.Rows.{RowsWritten}
use Rattle.h5w_chunks.specs.Shares.{new_writes, touched}
use Rattle.h5w_chunks.specs.declared.grid.ChunkPlace.{ChunkPlace}
use Rattle.h5w_index.specs.Naming.{AreNamed}
use Rattle.h5w_index.specs.Views.{address_in}
use Rattle.h5w_index.proofs.BehindLemmas.{behind_laws}
use Rattle.h5w_index.proofs.NamingLemmas.{naming_laws}
use Rattle.h5w_pieces.specs.Joined.{option_list}
use Rattle.h5w_writer.specs.Sessions.{IsSession, Session, next_row, rows_of}
use Rattle.h5w_writer.specs.Halves.{PlansAlone}
use Rattle.h5w_writer.proofs.SessionFields.{session_of}
use Rattle.h5w_writer.proofs.BacklogLemmas.{pending_is, pieces_told, shown_few}
use Rattle.h5w_writer.proofs.EarlyLemmas.{no_chunks}
use Rattle.h5w_pieces.proofs.NextPlaces.{first_places, first_writes}
use Rattle.h5w_writer.proofs.CarriedLemmas.{Carried, carried_ends, carried_flushed, carried_is, carried_list, has_rows, lengths_joined, one_at_most}
use Rattle.h5w_writer.proofs.TakingLemmas.{filled_cell}
use Rattle.h5w_index.specs.Held.{view_of}
use Rattle.h5w_writer.proofs.state.WriterCore.carry_alone.Goals as goal

pub change_rows-requires-clause-rows : goal.change_rows-requires-clause-rows
change_rows-requires-clause-rows c = has_rows c.self.inside.header c.self.invariant.0.header

-- the piece that writes the header
abbrev header_piece : goal.After-commit_plan → Write
header_piece c = record { at = c.self.inside.place; piece = c.change_rows.new.header }

-- what the calls made of the session, once all of them are done
made_by : (c : goal.After-commit_plan)
    → Carried (session_of c.self.inside) c.rows-to.result c.self.inside.places (view_of c.self.inside.index) c.end_at-pieces.result.items c.raise-superblock.new.root c.change_rows.new.header c.commit_plan.new.self
made_by c =
    let i = c.self.inside in
    let v = session_of i in
    let is : IsSession v = c.self.invariant.0 in
    let to = c.rows-to.result in
    let back = sym c.self.view_is in
    let to_is : to ≡ rows_of v = c.rows-to.ensures.value ∙ ap rows_of back in
    let a : PlansAlone v c.args.writes = subst (λ (s : Session). PlansAlone s c.args.writes) back c.requires.alone in
    let places : List ChunkPlace = a.place ∷ [] in
    let none : v.chunks ≡ [] = no_chunks v.dataset v.early v.chunks is.chunks a.early in
    let mid : v.dataset.shape.rows ≡ next_row v = omega (arith, a.early) in
    let rises : v.dataset.shape.rows < to = (let waits = a.waits in omega (arith, waits, to_is)) in
    record {
      there = a.there;
      some = a.waits;
      to_is = to_is;
      small = c.rows-to.ensures.bound;
      typed = c.self.invariant.1.typed;
      filled = filled_cell i.grid c.self.invariant.1;
      chunks = places;
      added = [];
      between = v.places;
      named = v.index;
      places = v.places;
      places_are = refl;
      names = subst (λ (row : ℕ). AreNamed v.dataset row v.index places [] v.index) (sym to_is) (naming_laws.named v.dataset (rows_of v) v.index v.index v.places v.places places [] a.placing);
      early = [];
      early_are = sym none;
      taken = behind_laws.behind_first v.dataset (address_in v.index) v.places v.places places (naming_laws.taken v.dataset (rows_of v) v.index v.index v.places v.places places [] a.placing);
      all = sym (subst (λ (n : ℕ). touched v.dataset v.dataset.shape.rows n ≡ 1) (sym to_is) a.all);
      roomy = λ r. r;
      cells = v.waiting;
      cells_are = refl;
      rows = c.args.writes.items;
      mid = v.dataset.shape.rows;
      mid_is = mid;
      exact = a.exact ∙ ap (λ (n : ℕ). new_writes v.dataset v.waiting v.dataset.shape.rows n places) (sym to_is) ∙ sym (first_writes v.dataset v.waiting v.dataset.shape.rows to places rises);
      written = λ more.
          subst (λ (ps : List ChunkPlace). RowsWritten v.dataset v.waiting v.dataset.shape.rows to ps c.args.writes.items) (sym (first_places v.dataset v.dataset.shape.rows places))
          (subst (λ (n : ℕ). RowsWritten v.dataset v.waiting v.dataset.shape.rows n places c.args.writes.items) (sym to_is) a.written);
      moves = [];
      copies = [];
      fixed = [];
      plan = a.plan;
      supers = option_list c.raise-superblock.result;
      end = c.end.result;
      end_is = c.end.ensures;
      end_small = omega arith;
      ended = c.raise-superblock.ensures.ended;
      unraised = c.raise-superblock.ensures.unraised;
      root = c.raise-superblock.ensures.root;
      header = c.change_rows.ensures.header;
      last = header_piece c;
      last_is = refl;
      items = c.end_at-pieces.ensures.exact;
      header_short = c.change_rows.ensures.short;
      planned = c.commit_plan.ensures.planned;
    }

pub invariant_of-self : goal.invariant_of-self
invariant_of-self c =
    let x = made_by c in
    let is = c.self.invariant.0 in
    let grid = c.self.invariant.1 in (
      carried_is _ _ _ _ _ _ _ _ x is,
      record {
        shaped = grid.shaped;
        typed = grid.typed;
        chunked = record { rows = grid.chunked.rows; cols = grid.chunked.cols; line = grid.chunked.line; small = grid.chunked.small; index = grid.chunked.index };
        filled = grid.filled;
      },
      carried_list _ _ _ _ _ _ _ _ x is,
      shown_few _ _ x.planned,
      omega (arith, c.commit_plan.ensures.room, c.end_at-pieces.ensures.room),
    )

pub returns-clause-flushed : goal.returns-clause-flushed
returns-clause-flushed c = carried_flushed _ _ _ _ _ _ _ _ (made_by c) c.self.invariant.0 c.args.self.now c.self.view_is

pub returns-clause-pieces : goal.returns-clause-pieces
returns-clause-pieces c = pieces_told _ _ c.commit_plan.ensures.planned _ c.commit_plan.ensures.count

pub returns-clause-ends : goal.returns-clause-ends
returns-clause-ends c = carried_ends _ _ _ _ _ _ _ _ (made_by c) c.self.invariant.0

pub returns-clause-few : goal.returns-clause-few
returns-clause-few c =
    let supers = option_list c.raise-superblock.result in
    let long = ap length (pending_is _ _ c.commit_plan.ensures.planned ∙ c.end_at-pieces.ensures.exact) ∙ lengths_joined c.args.writes.items [] [] supers (header_piece c) in
    omega (arith, long, one_at_most c.raise-superblock.result)

pub returns-clause-places : goal.returns-clause-places
returns-clause-places c = ap (λ (s : Session). s.places) c.self.view_is
