use Rattle.std.proofs.Common.{rules, ◌≡◌, ◌≢◌}
use Rattle.h5w_model.specs.Numbers.{undefined}
use Rattle.h5w_laws.proofs.ResultLemmas.{map_ok}
use Rattle.h5w_index.specs.Held.{view_of}
use Rattle.h5w_index.specs.Views.{address_in}
use Rattle.h5w_index.proofs.PlacingLemmas.{placing_laws}
use Rattle.h5w_writer.proofs.TakingLemmas.{early_first, early_there, named_there, on_err}
use Rattle.h5w_writer.proofs.taking.name_chunk.Goals as goal

pub returns-in_err-keep-clause-partly : goal.returns-in_err-keep-clause-partly
returns-in_err-keep-clause-partly c =
    on_err c.from_residual.result (λ d to v x touches. placing_laws.held d to c.args.key v (view_of c.args.index.now) (view_of c.reach.new.self) c.args.taking.now.added.items touches c.reach.ensures.held x)

pub returns-then-is_some-clause-named : goal.returns-then-is_some-clause-named
returns-then-is_some-clause-named c d to v fits number inside e x =
    let w = view_of c.args.index.now in
    let chunks = c.args.taking.now.chunks.items in
    let added = c.args.taking.now.added.items in
    let known : address_in w c.args.key ≢ undefined = search rules in
    let there = early_there d to v w chunks added c.args.key c.args.place fits x number known e in
    named_there d to v w (view_of c.reach.new.self) chunks c.keep.new.items.items added c.args.key c.args.place fits number inside there.0 c.requires.defined there.1 c.reach.ensures.held c.reach.ensures.reached
    c.in_ok-keep.ensures.added x

pub returns-clause-named : goal.returns-clause-named
returns-clause-named c =
    let w = view_of c.args.index.now in
    let chunks = c.args.taking.now.chunks.items in
    let added = c.args.taking.now.added.items in
    let none : address_in w c.args.key ≡ undefined = search rules in
    map_ok c.name_new.result (λ f d to v fits number inside e x. f d to v fits number inside (early_first d to v w chunks added c.args.key c.args.place fits x number none e) x) c.name_new.ensures.named
