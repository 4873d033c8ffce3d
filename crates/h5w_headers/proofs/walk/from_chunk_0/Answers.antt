use Rattle.std.proofs.Common.{◌≡◌, [], ◌∷◌}
use Rattle.h5w_dataset.specs.Founds.{stack}
use Rattle.h5w_headers.specs.Headers.{ranges_of}
use Rattle.h5w_headers.proofs.RanLemmas.{ran_begin}
use Rattle.h5w_headers.proofs.WalkLemmas.{chunk_goes}
use Rattle.h5w_headers.proofs.walk.from_chunk_0.Goals as goal

pub returns-clause-ran : goal.returns-clause-ran
returns-clause-ran g c =
    let a = c.args in
    let h = rw c.new-extents.ensures.items at c.in_ok-add_extent.ensures.told.exact in
    let visited : ranges_of c.add_extent.new.extents.items ≡ record { place = a.place; len = a.p.now.total } ∷ [] = cc in
    ran_begin _ _ _ c.walk.ensures.ran (λ img. chunk_goes img a.writing a.place a.p.now a.bytes.now (stack c.in_ok-next.next.items) (ranges_of c.add_extent.new.extents.items) c.in_ok-next.ensures.told.exact visited)
