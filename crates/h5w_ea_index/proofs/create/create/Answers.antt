use Rattle.std.proofs.Common.{◌≡◌, ◌∙◌, ap, length, arith, refl}
use Rattle.h5w_cache.specs.Blocks.{BlockView}
use Rattle.h5w_array_laws.specs.ArrayStores.{IsCreated}
use Rattle.h5w_array_laws.specs.ArrayImages.{StartsArray}
use Rattle.h5w_array_laws.proofs.CreatedLemmas.{header_size, index_size}
use Rattle.h5w_ea_index.proofs.CreateLemmas.{created_from, starts_from}
use Rattle.h5w_ea_index.proofs.create.create.Goals as goal

pub keep-requires-clause-fits : goal.keep-requires-clause-fits
keep-requires-clause-fits c =
    let e : length c.in_ok-index.index.bytes ≡ 298 = ap (λ (b : BlockView). length b.bytes) c.in_ok-index.ensures ∙ index_size c.args.header in
    let h = c.requires.block_ends in
    omega arith

pub keep-requires-2-clause-fits : goal.keep-requires-2-clause-fits
keep-requires-2-clause-fits c =
    let e : length c.in_ok-top.top.bytes ≡ 72 = ap (λ (b : BlockView). length b.bytes) c.in_ok-top.ensures ∙ header_size c.args.block in
    let h = c.requires.header_ends in
    omega arith

pub returns : goal.returns
returns c =
    let created : IsCreated c.args.header c.args.block c.keep-2.new.cache =
    created_from c.args.header c.args.block 847 c.in_ok-top.top c.in_ok-index.index c.in_ok-cache.cache c.keep.new.cache c.keep-2.new.cache refl c.in_ok-cache.ensures c.in_ok-index.ensures c.in_ok-top.ensures c.keep.ensures c.keep-2.ensures in
    let starts : StartsArray c.keep-2.new.cache = starts_from c.args.header c.args.block c.keep-2.new.cache created c.requires.header_ends c.requires.block_ends in
    record { created = created; array = starts.array; numbered = starts.numbered; starts = starts }
