use Rattle.std.proofs.Common.{ℕ, List}
use Rattle.h5w_looks.specs.Still.{IsStill}
use Rattle.h5w_looks.proofs.ReadLemmas.{still_on}
use Rattle.h5w_ea_index.specs.Opened.{IsDamaged, IsOpened}
use Rattle.h5w_ea_index.proofs.OpenedLemmas.{loads_within, on_ok_map}
use Rattle.h5w_ea_index.proofs.load.load_super_block.Goals as goal

pub returns-clause-loads : goal.returns-clause-loads
returns-clause-loads g c =
    loads_within (λ img a f. IsOpened img c.args.first c.load_secondary.new.cache → IsDamaged img c.args.header c.args.first a f) (λ img a f. IsOpened img c.args.first c.args.cache.now → IsDamaged img c.args.header c.args.first a f) c.load_data.result
    c.load_secondary.ensures.loads.looked (λ img still a f h o. h (c.in_ok-load_secondary.ensures.opened img still o)) c.load_data.ensures.loads

pub returns-clause-opened : goal.returns-clause-opened
returns-clause-opened g c =
    on_ok_map c.load_data.result _ ((img : List ℕ) → IsStill (g.I.PieceRead.view c.args.image.now) img → IsOpened img c.args.first c.args.cache.now → IsOpened img c.args.first c.load_data.new.cache)
    (λ more img still o. more img (still_on img c.load_secondary.ensures.loads.looked still) (c.in_ok-load_secondary.ensures.opened img still o)) c.load_data.ensures.opened
