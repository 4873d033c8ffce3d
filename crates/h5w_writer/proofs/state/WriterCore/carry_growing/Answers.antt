use Rattle.std.proofs.Common.{◌≡◌, ◌∙◌, ℕ, None, length, refl, ap, sym, subst, arith}
use Rattle.h5w_model.specs.Headers.{with_rows_bytes}
use Rattle.h5w_index.specs.Held.{view_of}
use Rattle.h5w_index.proofs.BegunLemmas.{was_begun}
use Rattle.h5w_pieces.specs.Joined.{option_list}
use Rattle.h5w_writer.specs.Halves.{PlansGrowth}
use Rattle.h5w_writer.specs.Sessions.{Session, next_row, rows_of}
use Rattle.h5w_writer.proofs.SessionFields.{session_of}
use Rattle.h5w_writer.proofs.BacklogLemmas.{pending_is, pieces_told, shown_few}
use Rattle.h5w_writer.proofs.CarriedLemmas.{Carried, has_rows, lengths_joined, one_at_most}
use Rattle.h5w_writer.proofs.HalfLemmas.{Raises, grown_carried, grown_ends, grown_flushed, grown_list, raises_grown}
use Rattle.h5w_writer.proofs.TakingLemmas.{filled_cell}
use Rattle.h5w_writer.proofs.state.WriterCore.carry_growing.Goals as goal

pub finish-plan-requires-clause-begun : goal.finish-plan-requires-clause-begun
finish-plan-requires-clause-begun c =
    let i = c.self.inside in
    let h = c.requires.growth in
    let g : PlansGrowth h.old (session_of i) c.args.growing = subst (λ (m : Session). PlansGrowth h.old m c.args.growing) (sym c.self.view_is) h.growth in
    let p = g.ready.prepared in
    was_begun (view_of i.index) p.between c.args.growing.prepared.begun i.places p.begun

pub raise_rows-header-requires-clause-rows : goal.raise_rows-header-requires-clause-rows
raise_rows-header-requires-clause-rows c = has_rows c.self.inside.header c.self.invariant.0.header

pub join-pieces-requires : goal.join-pieces-requires
join-pieces-requires c =
    let r = c.requires.growth.growth.ready in
    omega (arith, r.room, r.after, c.finish-plan.ensures.copies, c.finish-plan.ensures.in_place)

-- what the calls made of the session that was, once all of them are done
made_by : (c : goal.After-drop-growing-4) (old : Session) → PlansGrowth old (session_of c.self.inside) c.args.growing
    → Carried old (rows_of old) c.self.inside.places (view_of c.finish-plan.new.self) c.join-pieces.result.items c.raise-superblock.new.root c.raise_rows-header.new.header c.commit_plan.new.self
made_by c old g =
    let i = c.self.inside in
    let v = session_of i in
    let r = g.ready in
    let to_is : c.rows-to.result ≡ rows_of v = c.rows-to.ensures.value ∙ ap rows_of (sym c.self.view_is) in
    let own : Raises v c.rows-to.result c.args.growing.prepared.end (option_list c.raise-superblock.result) c.raise-superblock.new.root c.raise_rows-header.new.header c.raise_rows-header.result = record {
      to_is = to_is;
      typed = c.self.invariant.1.typed;
      filled = filled_cell i.grid c.self.invariant.1;
      ended = c.raise-superblock.ensures.ended;
      unraised = c.raise-superblock.ensures.unraised;
      root = c.raise-superblock.ensures.root;
      header = c.raise_rows-header.ensures.header;
      last_is = c.raise_rows-header.ensures.write;
      header_short = c.raise_rows-header.ensures.short;
    } in
    let x = raises_grown old v c.args.growing g _ _ _ _ _ _ own in
    let same : c.rows-to.result ≡ rows_of old = omega (arith, x.to_is) in
    record {
      there = g.there;
      some = g.waits;
      to_is = refl;
      small = omega (arith, same, c.rows-to.ensures.bound);
      typed = x.typed;
      filled = x.filled;
      chunks = r.chunks;
      added = c.args.growing.added.items;
      between = r.prepared.between;
      named = v.index;
      places = old.places;
      places_are = refl;
      names = r.prepared.names;
      early = old.chunks;
      early_are = refl;
      taken = r.prepared.taken;
      all = r.all;
      roomy = r.roomy;
      cells = old.waiting;
      cells_are = refl;
      rows = c.args.growing.prepared.writes.items;
      mid = next_row old;
      mid_is = refl;
      exact = r.exact;
      written = r.written;
      moves = c.finish-plan.result.moves.items;
      copies = c.finish-plan.result.copies.items;
      fixed = c.finish-plan.result.in_place.items;
      plan = c.finish-plan.ensures.planned r.prepared.between i.places r.prepared.begun;
      supers = option_list c.raise-superblock.result;
      end = c.args.growing.prepared.end;
      end_is = r.end;
      end_small = omega (arith, r.end, c.self.invariant.0.small);
      ended = x.ended;
      unraised = x.unraised;
      root = x.root;
      header = x.header ∙ ap (λ (n : ℕ). with_rows_bytes old.header n None) same;
      last = c.raise_rows-header.result;
      last_is = x.last_is;
      items = c.join-pieces.ensures.exact;
      header_short = x.header_short;
      planned = c.commit_plan.ensures.planned;
    }

pub invariant_of-self : goal.invariant_of-self
invariant_of-self c =
    let h = c.requires.growth in
    let v = session_of c.self.inside in
    let g : PlansGrowth h.old v c.args.growing = subst (λ (m : Session). PlansGrowth h.old m c.args.growing) (sym c.self.view_is) h.growth in
    let x = made_by c h.old g in (
      grown_carried h.old v c.args.growing g _ _ _ _ _ x,
      c.self.invariant.1,
      grown_list h.old v c.args.growing g _ _ _ _ _ x,
      shown_few _ _ x.planned,
      omega (arith, c.commit_plan.ensures.room, c.join-pieces.ensures.room),
    )

pub returns-clause-flushed : goal.returns-clause-flushed
returns-clause-flushed c old growth =
    let v = session_of c.self.inside in
    let g : PlansGrowth old v c.args.growing = subst (λ (m : Session). PlansGrowth old m c.args.growing) (sym c.self.view_is) growth in
    grown_flushed old v c.args.growing g _ _ _ _ _ (made_by c old g)

pub returns-clause-ends : goal.returns-clause-ends
returns-clause-ends c =
    let h = c.requires.growth in
    let v = session_of c.self.inside in
    let g : PlansGrowth h.old v c.args.growing = subst (λ (m : Session). PlansGrowth h.old m c.args.growing) (sym c.self.view_is) h.growth in
    grown_ends h.old v c.args.growing g _ _ _ _ _ (made_by c h.old g)

pub returns-clause-pieces : goal.returns-clause-pieces
returns-clause-pieces c = pieces_told _ _ c.commit_plan.ensures.planned _ c.commit_plan.ensures.count

pub returns-clause-few : goal.returns-clause-few
returns-clause-few c =
    let rows = c.args.growing.prepared.writes.items in
    let copies = c.finish-plan.result.copies.items in
    let fixed = c.finish-plan.result.in_place.items in
    let supers = option_list c.raise-superblock.result in
    let long = ap length (pending_is _ _ c.commit_plan.ensures.planned ∙ c.join-pieces.ensures.exact) ∙ lengths_joined rows copies supers fixed c.raise_rows-header.result in
    omega (arith, long, one_at_most c.raise-superblock.result, c.finish-plan.ensures.copies, c.finish-plan.ensures.in_place, c.requires.growth.growth.ready.after)

pub returns-clause-places : goal.returns-clause-places
returns-clause-places c = ap (λ (s : Session). s.places) c.self.view_is
