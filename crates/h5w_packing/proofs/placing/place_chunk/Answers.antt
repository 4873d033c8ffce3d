use Rattle.std.proofs.Common.{rules, ◌≢◌, ◌+◌, ◌∙◌, ap, subst}
use Rattle.h5w_model.specs.Numbers.{undefined}
use Rattle.h5w_model.specs.declared.cell.Key.{Key}
use Rattle.h5w_space.specs.Space.{Space, TakesPlace, extent}
use Rattle.h5w_chunks.specs.Grids.{dataset_of}
use Rattle.h5w_flush_laws.proofs.NewChunkLemmas.{same_len}
use Rattle.h5w_index.specs.Held.{view_of}
use Rattle.h5w_index.specs.Steps.{IsDeep, IsSet}
use Rattle.h5w_packing.proofs.PlaceLemmas.{kind_stays, not_deep, tight_place}
use Rattle.h5w_packing.proofs.placing.place_chunk.Goals as goal

pub unreachable-requires : goal.unreachable-requires
unreachable-requires c =
    let deep : IsDeep (view_of c.args.index.now) c.key_of-key.result = search rules in
    not_deep (dataset_of c.args.grid.now) c.args.number (view_of c.args.index.now) c.requires.sound c.requires.kind c.requires.few (subst (λ (k : Key). IsDeep (view_of c.args.index.now) k) c.key_of-key.ensures deep)

pub returns-in-Ok-clause-kind : goal.returns-in-Ok-clause-kind
returns-in-Ok-clause-kind c =
    let d = dataset_of c.args.grid.now in
    let v = view_of c.args.index.now in
    let w = view_of c.insert.new.self in
    let defined : c.in_ok-address.address ≢ undefined = search rules in
    kind_stays d c.args.number c.in_ok-address.address v w c.requires.inside c.requires.sound c.requires.kind defined (subst (λ (k : Key). IsSet k c.in_ok-address.address v w) c.key_of-key.ensures c.in-Ok.ensures.set)

pub returns-in-Ok-clause-place : goal.returns-in-Ok-clause-place
returns-in-Ok-clause-place c =
    let taken : TakesPlace c.args.places.now c.take.new.self (extent c.in_ok-address.address c.chunk_len.result) = search rules in
    (tight_place c.args.places.now c.take.new.self (extent c.in_ok-address.address c.chunk_len.result) c.requires.tight taken).0

pub returns-in-Ok-clause-places : goal.returns-in-Ok-clause-places
returns-in-Ok-clause-places c =
    let taken : TakesPlace c.args.places.now c.take.new.self (extent c.in_ok-address.address c.chunk_len.result) = search rules in
    (tight_place c.args.places.now c.take.new.self (extent c.in_ok-address.address c.chunk_len.result) c.requires.tight taken).1
    ∙ ap (λ n. let s : Space = record c.args.places.now { end = c.args.places.now.end + n } in s) (c.chunk_len.ensures.exact ∙ same_len (dataset_of c.args.grid.now))
