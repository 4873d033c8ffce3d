use Rattle.std.proofs.Common.{rules, ◌∙◌, ◌≡◌, ◌^◌, ◌<◌, false, sym, subst, arith, refl}
use Rattle.h5w_space.specs.Space.{Space, extent}
use Rattle.h5w_cache.specs.Plans.{Took}
use Rattle.h5w_chunks.specs.Grids.{chunk_len, dataset_of}
use Rattle.h5w_chunks.specs.declared.grid.ChunkPlace.{ChunkPlace}
use Rattle.h5w_index.specs.Held.{view_of}
use Rattle.h5w_index.specs.Naming.{AreTakenBehind}
use Rattle.h5w_index.specs.Views.{address_in}
use Rattle.h5w_writer.proofs.TakingLemmas.{named_not_full, on_err, sizes_of, taken_defined, taken_first, taken_small}
use Rattle.h5w_writer.proofs.taking.place_new.Goals as goal

pub name_new-requires-clause-defined : goal.name_new-requires-clause-defined
name_new-requires-clause-defined c =
    let some = (sizes_of c.args.grid.now c.requires.grid).some in
    taken_defined c.args.taking.now.places c.take.new.self c.in_ok-address.address c.chunk_len.result c.in_ok-address.ensures.taken c.in_ok-address.ensures.live (omega (arith, some, c.chunk_len.ensures.exact)) c.requires.small c.requires.limit

-- ---- The index has no room for it

pub returns-in_err-name_new-clause-partly : goal.returns-in_err-name_new-clause-partly
returns-in_err-name_new-clause-partly c = on_err c.from_residual-in_err-name_new.result (λ to. c.in_err-name_new.ensures.partly (dataset_of c.args.grid.now) to)

pub returns-in_err-name_new-clause-full : goal.returns-in_err-name_new-clause-full
returns-in_err-name_new-clause-full c full is =
    let same : c.name_new.result ≡ c.from_residual-in_err-name_new.result = search rules in
    absurd (named_not_full c.name_new.result full c.name_new.ensures.causes (same ∙ is))

-- ---- The index names it

pub returns-clause-small : goal.returns-clause-small
returns-clause-small c =
    let small = taken_small c.args.taking.now.places c.take.new.self c.in_ok-address.address c.chunk_len.result c.in_ok-address.ensures.taken c.requires.small c.requires.limit in
    subst (λ (t : Space). t.end < 2 ^ 64) (sym c.name_new.ensures.places) small

pub returns-clause-named : goal.returns-clause-named
returns-clause-named c to v fits number inside x = c.in_ok-name_new.ensures.named (dataset_of c.args.grid.now) to v fits number inside refl x

pub returns-clause-taken : goal.returns-clause-taken
returns-clause-taken c to v early s fits number x y =
    let d = dataset_of c.args.grid.now in
    let t = c.args.taking.now.places in
    let next = c.take.new.self in
    let at = c.in_ok-address.address in
    let p : ChunkPlace = record { address = at; stored = false } in
    let took_len : Took t next (extent at c.chunk_len.result) = record {
      takes = c.in_ok-address.ensures.taken;
      off_live = c.in_ok-address.ensures.off_live;
      off_retired = c.in_ok-address.ensures.off_retired;
      live = c.in_ok-address.ensures.live;
      stays_live = c.in_ok-address.ensures.stays_live;
    } in
    let took : Took t next (extent at (chunk_len d)) = subst (λ n. Took t next (extent at n)) c.chunk_len.ensures.exact took_len in
    subst (λ (u : Space). AreTakenBehind d (address_in v) early s c.name_new.new.taking.chunks.items u) (sym c.name_new.ensures.places)
    (taken_first d to v (view_of c.args.index.now) early s t next c.args.taking.now.chunks.items c.name_new.new.taking.chunks.items c.args.taking.now.added.items c.args.key p fits
    (sizes_of c.args.grid.now c.requires.grid).some number c.requires.absent took c.in_ok-name_new.ensures.chunks x y)
