use Rattle.std.proofs.Common.{◌≡◌, ap, arith, length}
use Rattle.h5w_chunks.specs.Grids.{dataset_of}
use Rattle.h5w_creation_laws.specs.CreatedFiles.{index_len}
use Rattle.h5w_packing.proofs.FrontLemmas.{header_long, needed_same}
use Rattle.h5w_packing.proofs.front.front_at.Goals as goal

pub returns-clause-laid : goal.returns-clause-laid
returns-clause-laid c =
    let g = dataset_of c.args.grid.now in
    let e = dataset_of c.with_index-grid.result in
    let same = c.with_index-grid.ensures.same in
    let end = c.in_ok-end.ensures.exact in
    let long = header_long g e same c.with_index-grid.ensures.spellable in
    let index : c.index_len.result ≡ index_len g.layout.index = c.index_len.ensures.exact in
    let kind : index_len e.layout.index ≡ index_len g.layout.index = ap (λ l. index_len l.index) same.layout in
    let at = c.with_index-grid.ensures.address in
    record {
      spellable = c.with_index-grid.ensures.spellable;
      behind = c.requires.behind;
      index = omega (arith, at, end, long, index);
      block = omega (arith, at);
      end = omega (arith, at, end, long, index, kind);
      small = omega (arith, end, c.requires.small);
      few = needed_same g e same c.requires.few;
    }
