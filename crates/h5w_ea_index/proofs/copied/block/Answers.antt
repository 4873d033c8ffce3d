use Rattle.std.proofs.Common.{◌≡◌, ◌∙◌, length, sym, ap, subst, arith}
use Rattle.h5w_cache.specs.Blocks.{AreInside, BlockView}
use Rattle.h5w_array_laws.specs.Parts.{Part, children, length_of, links_of, names_from}
use Rattle.h5w_ea_index.specs.Loading.{copied_part}
use Rattle.h5w_ea_index.proofs.DecodedLemmas.{sound_block}
use Rattle.h5w_ea_index.proofs.FreshLemmas.{links_inside}
use Rattle.h5w_ea_index.proofs.LoadingLemmas.{copied_moves}
use Rattle.h5w_ea_index.proofs.PartLemmas.{names_fit}
use Rattle.h5w_ea_index.proofs.copied.block.Goals as goal

pub new-requires-clause-inside : goal.new-requires-clause-inside
new-requires-clause-inside c =
    let k : Part = copied_part c.args.part in
    let fit = names_fit k c.requires.part in
    subst (λ ls. AreInside ls (length c.args.bytes.items)) (sym c.in_ok-links.ensures)
    (subst (AreInside (links_of k)) (sym c.requires.len) (links_inside (names_from k) (children k) (length_of k) (omega arith)))

pub returns : goal.returns
returns c =
    let k : Part = copied_part c.args.part in
    record {
      bytes_are = ap (λ (b : BlockView). b.bytes) c.new.ensures;
      sound = λ place none. sound_block k c.new.result c.args.bytes.items place (ap (λ (b : BlockView). b.bytes) c.new.ensures) c.requires.len none
          (ap (λ (b : BlockView). b.links) c.new.ensures ∙ c.in_ok-links.ensures)
          (ap (λ (b : BlockView). b.turn) c.new.ensures ∙ c.from-turn.ensures ∙ c.number.ensures.value)
          (ap (λ (b : BlockView). b.in_place) c.new.ensures ∙ sym (copied_moves c.args.part))
          (ap (λ (b : BlockView). b.sealed) c.new.ensures ∙ (let e : c.len-sealed.result ≡ length_of k = (let l = c.len-sealed.ensures in let r = c.requires.len in omega arith) in e));
    }
