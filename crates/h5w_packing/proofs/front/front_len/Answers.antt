use Rattle.std.proofs.Common.{◌≡◌, ◌+◌, ◌∙◌, ap, length}
use Rattle.h5w_chunks.specs.Grids.{dataset_of}
use Rattle.h5w_creation_laws.specs.CreatedFiles.{index_len}
use Rattle.h5w_packing.specs.Plans.{header_size}
use Rattle.h5w_packing.proofs.FrontLemmas.{header_long}
use Rattle.h5w_packing.proofs.front.front_len.Goals as goal

pub returns-clause-exact : goal.returns-clause-exact
returns-clause-exact c =
    let g = dataset_of c.args.grid.now in
    let e = dataset_of c.with_index.result in
    let long : c.len.result ≡ header_size g = c.len.ensures.value ∙ ap length c.in_ok-header.ensures.bytes ∙ header_long g e c.with_index.ensures.same c.with_index.ensures.spellable in
    let index : c.index_len.result ≡ index_len g.layout.index = c.index_len.ensures.exact in
    λ i. long i + index i
