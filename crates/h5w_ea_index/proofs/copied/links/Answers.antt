use Rattle.std.proofs.Common.{◌≡◌, sym, subst, map}
use Rattle.std.specs.Prelude.{IfOk}
use Rattle.std.specs.List.{range_with_len}
use Rattle.h5w_array_laws.specs.Parts.{data_of, links_from, links_of}
use Rattle.h5w_ea_index.specs.Loading.{copied_part}
use Rattle.h5w_ea_index.proofs.copied.links.Goals as goal

pub returns-in-Secondary : goal.returns-in-Secondary
returns-in-Secondary c =
    subst (λ p. IfOk c.links_to.result (λ v. v.items ≡ links_of (copied_part p))) (sym c.in-Secondary.is)
    (subst (λ n. IfOk c.links_to.result (λ v. v.items ≡ links_from 18 (map (data_of c.in-Secondary.sblock) (range_with_len 0 n)))) c.super_block.ensures.blocks c.links_to.ensures)
