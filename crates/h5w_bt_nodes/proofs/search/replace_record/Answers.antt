use Rattle.std.proofs.Common.{◌≡◌, ap, arith, ◌∙◌, is_some, true}
use Rattle.h5w_bt_nodes.specs.Nodes.{address_in}
use Rattle.h5w_bt_nodes.proofs.Edits.{search-inside, set-searched}
use Rattle.h5w_bt_nodes.proofs.search.replace_record.Goals as goal

pub index_mut-requires : goal.index_mut-requires
index_mut-requires c =
    let h : is_some c.search-at.result.1 ≡ true = ap is_some (c.search-at.ensures.found ∙ ap (address_in c.args.item.key) c.deref.ensures.value) ∙ c.requires.there in
    let s = search-inside c.args.item.key c.deref.result.now c.search-at.result.1 c.search-at.ensures.found h in
    omega (arith, s, c.search-at.ensures.place, c.deref.ensures.len)

pub returns : goal.returns
returns c =
    let h : is_some c.search-at.result.1 ≡ true = ap is_some (c.search-at.ensures.found ∙ ap (address_in c.args.item.key) c.deref.ensures.value) ∙ c.requires.there in
    set-searched c.args.item c.args.records.now.items c.deref.result.now c.search-at.result.0 c.search-at.result.1 c.deref.ensures.value c.search-at.ensures.place c.search-at.ensures.found h
