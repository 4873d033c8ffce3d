use Rattle.std.proofs.Common.{◌≡◌, ◌⊎◌, ℕ, ◌+◌, ◌<◌, Err, IfSome, List, Option, Some, length, slice_get, refl, subst, sym, ap, ◌∙◌, inl, inr, arith}
use Rattle.h5w_space.specs.Space.{Space}
use Rattle.h5w_space.specs.declared.Full.{Full}
use Rattle.h5w_chunks.specs.Grids.{dataset_of}
use Rattle.h5w_chunks.specs.Rows.{RowsWritten}
use Rattle.h5w_chunks.specs.declared.grid.ChunkPlace.{ChunkPlace}
use Rattle.h5w_chunks.proofs.Geometry.{is_cut}
use Rattle.h5w_index.specs.Held.{view_of}
use Rattle.h5w_index.specs.Steps.{HasNoPlace, copy_pieces, in_place_pieces}
use Rattle.h5w_index.specs.Views.{address_in}
use Rattle.h5w_writer.specs.declared.refusal.FlushError.TheVariants as flushes
use Rattle.h5w_pieces.specs.NextPlaces.{next_places, writes_behind}
use Rattle.h5w_writer.specs.Refusals.{IsSpace, plan_fault}
use Rattle.h5w_writer.specs.declared.refusal.FlushError.{FlushError}
use Rattle.h5w_pieces.proofs.NextPlaces.{touched_more}
use Rattle.h5w_writer.proofs.ExitLemmas.{is_error, no_value, of_error, told_error}
use Rattle.h5w_writer.proofs.PrepareLemmas.{chunks_end, named_as, taken_as, touched_few}
use Rattle.h5w_writer.proofs.RefusalLemmas.{no_space, plan_causes, plan_shallow}
use Rattle.h5w_writer.proofs.TakingLemmas.{full_of, on_err}
use Rattle.h5w_writer.proofs.planning.prepare.Goals as goal

abbrev causes_of : FlushError → Type 0
causes_of e = IsSpace e ⊎ ((e ≡ flushes.Deep) ⊎ (e ≡ flushes.OutOfMemory))

pub name_chunks-requires : goal.name_chunks-requires
name_chunks-requires c =
    let a = c.args in
    let can = c.requires.can in
    record {
      grid = c.requires.grid;
      order = can.can.order;
      few = can.can.few;
      sound = can.can.sound;
      fits = can.can.fits;
      takes = can.can.takes;
      known = omega (arith, can.known, touched_more (dataset_of a.grid.now) a.grid.now.shape.rows a.mid a.to (is_cut a.grid.now c.requires.grid) can.last);
      early = can.placed;
      no_chunks = c.requires.no_chunks;
      none_added = c.requires.none_added;
    }

pub returns-in_err-name_chunks : goal.returns-in_err-name_chunks
returns-in_err-name_chunks c =
    let r = c.from_residual.result in
    let gone = c.from_residual.ensures.1 in
    let e = c.in_err-name_chunks.field-0.0 in
    record {
      sound = c.name_chunks.ensures.sound;
      roomy = c.name_chunks.ensures.roomy;
      prepared = no_value _ _ r gone;
      partly = on_err r c.in_err-name_chunks.ensures.partly;
      full = λ full told. absurd (no_space e full c.in_err-name_chunks.ensures.causes (told_error r e (flushes.Space full) gone told));
      deep = λ told. c.name_chunks.ensures.deep (c.in_err-name_chunks.was ∙ ap (λ x. Err x) (told_error r e flushes.Deep gone told));
      causes = of_error causes_of r e gone (inr c.in_err-name_chunks.ensures.causes);
    }

pub place_chunks-requires : goal.place_chunks-requires
place_chunks-requires c =
    let a = c.args in
    let can = c.requires.can in
    let n = c.in_ok-name_chunks.ensures in
    let end = ap (λ (s : Space). s.end) c.name_chunks.ensures.places in
    let limit = ap (λ (s : Space). s.limit) c.name_chunks.ensures.places in
    record {
      grid = c.requires.grid;
      order = can.can.order;
      room = can.can.room;
      few = can.can.few;
      sound = c.name_chunks.ensures.sound;
      takes = λ key low. n.named.partly.like.takes key (can.can.takes key low);
      small = omega (arith, end, can.can.small);
      limit = omega (arith, limit, can.can.limit);
      known = omega (arith, ap length n.chunks, can.known, touched_more (dataset_of a.grid.now) a.grid.now.shape.rows a.mid a.to (is_cut a.grid.now c.requires.grid) can.last);
    }

pub returns-in_err-place_chunks : goal.returns-in_err-place_chunks
returns-in_err-place_chunks c =
    let a = c.args in
    let d = dataset_of a.grid.now in
    let v = view_of a.index.now in
    let n = c.name_chunks.new in
    let can = c.requires.can.can in
    let r = c.from_residual-in_err-place_chunks.result in
    let gone = c.from_residual-in_err-place_chunks.ensures.1 in
    let e = c.in_err-place_chunks.field-0.0 in
    let named = named_as d a.to v (view_of n.index) a.early.now n.taking.chunks.items n.taking.added.items c.in_ok-name_chunks.ensures.chunks c.in_ok-name_chunks.ensures.named in
    let taken = taken_as d (address_in v) a.early.now n.taking.chunks.items a.taking.now.places n.taking.places c.in_ok-name_chunks.ensures.chunks c.name_chunks.ensures.places in
    record {
      sound = c.place_chunks.ensures.sound;
      roomy = λ room. c.place_chunks.ensures.roomy (c.name_chunks.ensures.roomy room);
      prepared = no_value _ _ r gone;
      partly = on_err r (c.in_err-place_chunks.ensures.partly v can.fits named);
      full = λ full told. inl (c.place_chunks.ensures.full full (c.in_err-place_chunks.was ∙ ap (λ x. Err x) (told_error r e (flushes.Space full) gone told)) v a.early.now a.taking.now.places can.fits can.inside named taken);
      deep = λ told. c.place_chunks.ensures.deep (c.in_err-place_chunks.was ∙ ap (λ x. Err x) (told_error r e flushes.Deep gone told)) v can.fits c.name_chunks.ensures.roomy named;
      causes = of_error causes_of r e gone c.in_err-place_chunks.ensures.causes;
    }

pub begin-requires : goal.begin-requires
begin-requires c = c.place_chunks.ensures.sound

pub returns-in_err-begun : goal.returns-in_err-begun
returns-in_err-begun c =
    let a = c.args in
    let d = dataset_of a.grid.now in
    let v = view_of a.index.now in
    let n = c.name_chunks.new in
    let can = c.requires.can.can in
    let held = view_of c.place_chunks.new.index in
    let between = c.place_chunks.new.taking.places in
    let r = c.from_residual-in_err-begun.result in
    let gone = c.from_residual-in_err-begun.ensures.1 in
    let e = c.in_err-begun.field-0.0 in
    let named = named_as d a.to v (view_of n.index) a.early.now n.taking.chunks.items n.taking.added.items c.in_ok-name_chunks.ensures.chunks c.in_ok-name_chunks.ensures.named in
    let taken = taken_as d (address_in v) a.early.now n.taking.chunks.items a.taking.now.places n.taking.places c.in_ok-name_chunks.ensures.chunks c.name_chunks.ensures.places in
    let then = c.in_ok-place_chunks.ensures.named v can.fits named in
    record {
      sound = c.place_chunks.ensures.sound;
      roomy = λ room. c.place_chunks.ensures.roomy (c.name_chunks.ensures.roomy room);
      prepared = no_value _ _ r gone;
      partly = on_err r then.partly;
      full = λ full told. inr (record {
        chunks = c.place_chunks.new.taking.chunks.items;
        added = c.place_chunks.new.taking.added.items;
        held = held;
        between = between;
        named = then;
        taken = c.in_ok-place_chunks.ensures.taken v a.early.now a.taking.now.places can.fits can.inside named taken;
        all = c.in_ok-place_chunks.ensures.all;
        refused = full_of e full (λ (f : Full). HasNoPlace held between f) (sym (is_error r (plan_fault e) gone) ∙ told) c.in_err-begun.ensures.full;
      });
      deep = λ told. absurd (plan_shallow e (told_error r (plan_fault e) flushes.Deep gone told));
      causes = of_error causes_of r (plan_fault e) gone (plan_causes e);
    }

pub returns-in_err-after : goal.returns-in_err-after
returns-in_err-after c =
    let a = c.args in
    let d = dataset_of a.grid.now in
    let v = view_of a.index.now in
    let n = c.name_chunks.new in
    let r = c.from_residual-in_err-after.result in
    let gone = c.from_residual-in_err-after.ensures.1 in
    let named = named_as d a.to v (view_of n.index) a.early.now n.taking.chunks.items n.taking.added.items c.in_ok-name_chunks.ensures.chunks c.in_ok-name_chunks.ensures.named in
    let then = c.in_ok-place_chunks.ensures.named v c.requires.can.can.fits named in
    record {
      sound = c.place_chunks.ensures.sound;
      roomy = λ room. c.place_chunks.ensures.roomy (c.name_chunks.ensures.roomy room);
      prepared = no_value _ _ r gone;
      partly = on_err r then.partly;
      full = λ full told. absurd (let clash : flushes.OutOfMemory ≡ flushes.Space full = told_error r flushes.OutOfMemory (flushes.Space full) gone told in cc);
      deep = λ told. absurd (let clash : flushes.OutOfMemory ≡ flushes.Deep = told_error r flushes.OutOfMemory flushes.Deep gone told in cc);
      causes = of_error causes_of r flushes.OutOfMemory gone (inr (inr refl));
    }

pub put_behind-requires : goal.put_behind-requires
put_behind-requires c =
    let a = c.args in
    let d = dataset_of a.grid.now in
    let v = view_of a.index.now in
    let n = c.name_chunks.new in
    let can = c.requires.can in
    let own = c.deref.ensures.value in
    let all = c.in_ok-place_chunks.ensures.all in
    let named = named_as d a.to v (view_of n.index) a.early.now n.taking.chunks.items n.taking.added.items c.in_ok-name_chunks.ensures.chunks c.in_ok-name_chunks.ensures.named in
    let taken = taken_as d (address_in v) a.early.now n.taking.chunks.items a.taking.now.places n.taking.places c.in_ok-name_chunks.ensures.chunks c.name_chunks.ensures.places in
    let ends = chunks_end d (address_in v) a.early.now c.place_chunks.new.taking.chunks.items a.taking.now.places c.place_chunks.new.taking.places can.ends can.can.small can.can.limit
    (c.in_ok-place_chunks.ensures.taken v a.early.now a.taking.now.places can.can.fits can.can.inside named taken) in
    record {
      grid = c.requires.grid;
      first = can.first;
      order = can.last;
      count = can.count;
      all = ap length own ∙ all;
      few = omega (arith, ap length own, all, touched_few d a.grid.now.shape.rows a.to can.can.few);
      ends = λ k p at. ends k p (subst (λ (ps : List ChunkPlace). slice_get ps k ≡ Some p) own at);
    }

pub returns-in_err-writes : goal.returns-in_err-writes
returns-in_err-writes c =
    let a = c.args in
    let d = dataset_of a.grid.now in
    let v = view_of a.index.now in
    let n = c.name_chunks.new in
    let r = c.from_residual-in_err-writes.result in
    let gone = c.from_residual-in_err-writes.ensures.1 in
    let named = named_as d a.to v (view_of n.index) a.early.now n.taking.chunks.items n.taking.added.items c.in_ok-name_chunks.ensures.chunks c.in_ok-name_chunks.ensures.named in
    let then = c.in_ok-place_chunks.ensures.named v c.requires.can.can.fits named in
    record {
      sound = c.place_chunks.ensures.sound;
      roomy = λ room. c.place_chunks.ensures.roomy (c.name_chunks.ensures.roomy room);
      prepared = no_value _ _ r gone;
      partly = on_err r then.partly;
      full = λ full told. absurd (let clash : flushes.OutOfMemory ≡ flushes.Space full = told_error r flushes.OutOfMemory (flushes.Space full) gone told in cc);
      deep = λ told. absurd (let clash : flushes.OutOfMemory ≡ flushes.Deep = told_error r flushes.OutOfMemory flushes.Deep gone told in cc);
      causes = of_error causes_of r flushes.OutOfMemory gone (inr (inr refl));
    }

pub returns : goal.returns
returns c =
    let a = c.args in
    let d = dataset_of a.grid.now in
    let from = a.grid.now.shape.rows in
    let v = view_of a.index.now in
    let n = c.name_chunks.new in
    let can = c.requires.can.can in
    let b = c.in_ok-begun.begun in
    let ws = c.in_ok-writes.writes.items in
    let own = c.deref.ensures.value in
    let named = named_as d a.to v (view_of n.index) a.early.now n.taking.chunks.items n.taking.added.items c.in_ok-name_chunks.ensures.chunks c.in_ok-name_chunks.ensures.named in
    let taken = taken_as d (address_in v) a.early.now n.taking.chunks.items a.taking.now.places n.taking.places c.in_ok-name_chunks.ensures.chunks c.name_chunks.ensures.places in
    record {
      sound = c.place_chunks.ensures.sound;
      roomy = λ room. c.place_chunks.ensures.roomy (c.name_chunks.ensures.roomy room);
      prepared = record {
        prepared = record {
          between = c.place_chunks.new.taking.places;
          names = c.in_ok-place_chunks.ensures.named v can.fits named;
          taken = c.in_ok-place_chunks.ensures.taken v a.early.now a.taking.now.places can.fits can.inside named taken;
          begun = c.in_ok-begun.ensures.begun;
          once = c.begin.ensures.once;
        };
        all = c.in_ok-place_chunks.ensures.all;
        exact = subst (λ (ps : List ChunkPlace). ws ≡ writes_behind d a.cells.now from a.mid a.to ps) own c.in_ok-writes.ensures.exact;
        written = subst (λ (ps : List ChunkPlace). a.mid < a.to → RowsWritten d a.cells.now a.mid a.to (next_places d from a.mid ps) ws) own c.in_ok-writes.ensures.does;
        after = subst (λ (o : Option ℕ). IfSome o (λ k. k ≡ copy_pieces b + in_place_pieces b + 2)) c.in_ok-after.ensures.ok_part c.pieces_after.ensures.sum;
        room = c.in_ok-writes.ensures.room;
        end = c.end.ensures;
      };
      partly = tt;
      full = λ full told. absurd cc;
      deep = λ told. absurd cc;
      causes = tt;
    }
