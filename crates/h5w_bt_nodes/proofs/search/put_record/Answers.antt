use Rattle.std.proofs.Common.{arith, ◌∙◌, sym}
use Rattle.h5w_bt_nodes.proofs.Edits.{search-inside, set-searched, insert-searched}
use Rattle.h5w_bt_nodes.proofs.search.put_record.Goals as goal

pub index_mut-requires : goal.index_mut-requires
index_mut-requires c =
    let s = search-inside c.args.item.key c.deref.result.now c.search-at.result.1 c.search-at.ensures.found (sym c.if-is_some.ensures) in
    omega (arith, s, c.search-at.ensures.place, c.deref.ensures.len)

pub returns-then-is_some-clause-ok : goal.returns-then-is_some-clause-ok
returns-then-is_some-clause-ok c =
    set-searched c.args.item c.args.records.now.items c.deref.result.now c.search-at.result.0 c.search-at.result.1 c.deref.ensures.value
    c.search-at.ensures.place c.search-at.ensures.found (sym c.if-is_some.ensures)

pub returns-in_ok-insert-clause-ok : goal.returns-in_ok-insert-clause-ok
returns-in_ok-insert-clause-ok c =
    c.in_ok-insert.ensures.items
    ∙ insert-searched c.args.item c.args.records.now.items c.deref.result.now c.search-at.result.0 c.search-at.result.1 c.deref.ensures.value
    c.search-at.ensures.place c.search-at.ensures.found (sym c.if-is_some.ensures)
