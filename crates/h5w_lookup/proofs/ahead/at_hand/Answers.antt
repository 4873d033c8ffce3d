use Rattle.std.proofs.Common.{◌≡◌, ◌-◌, ℕ, get_or, None, Result, sym, subst}
use Rattle.std.specs.Prelude.{IfSome}
use Rattle.h5w_model.specs.Numbers.{undefined}
use Rattle.h5w_model.specs.Arrays.{super_block_of}
use Rattle.h5w_model.specs.Programs.{Prog}
use Rattle.h5w_model.specs.Tables.{Reading, secondary_slot, super_block_of_first}
use Rattle.h5w_model.specs.declared.refusal.ReadError.{ReadError}
use Rattle.h5w_ea.specs.Fields.{eaib_of}
use Rattle.h5w_lookup.specs.Ahead.{IsDataUsed, IsSecondUsed}
use Rattle.h5w_lookup.specs.Seeking.{store_rest}
use Rattle.h5w_lookup.specs.Stores.{kept}
use Rattle.h5w_lookup.proofs.AheadLemmas.{if_some, direct_both, direct_hand, second_both, second_hand}
use Rattle.h5w_lookup.proofs.ahead.at_hand.Goals as goal

pub returns-in-Direct-clause-same : goal.returns-in-Direct-clause-same
returns-in-Direct-clause-same c =
    let a = c.args in
    let e = eaib_of a.index.now in
    let p = c.in-Direct in
    let some : IfSome c.data.result (IsDataUsed (get_or e.first p.block undefined) (super_block_of (super_block_of_first p.block)).slots p.slot (kept a.store.now) (kept c.data.new.store)) =
    rw (c.address_at.ensures, c.sizes-slots.ensures.slots, c.first_super_block.ensures.exact) at c.data.ensures.some in
    direct_both e a.i p.block p.slot (kept a.store.now) (kept c.data.new.store) c.data.result (sym p.ensures.exact) c.data.ensures.none some

pub returns-in-Direct-clause-some : goal.returns-in-Direct-clause-some
returns-in-Direct-clause-some c =
    let a = c.args in
    let e = eaib_of a.index.now in
    let p = c.in-Direct in
    let some : IfSome c.data.result (IsDataUsed (get_or e.first p.block undefined) (super_block_of (super_block_of_first p.block)).slots p.slot (kept a.store.now) (kept c.data.new.store)) =
    rw (c.address_at.ensures, c.sizes-slots.ensures.slots, c.first_super_block.ensures.exact) at c.data.ensures.some in
    if_some c.data.result some (λ w u. direct_hand e a.i p.block p.slot (kept a.store.now) (kept c.data.new.store) w c.requires (sym p.ensures.exact) u)

pub returns-in-Second-clause-same : goal.returns-in-Second-clause-same
returns-in-Second-clause-same c =
    let a = c.args in
    let e = eaib_of a.index.now in
    let p = c.in-Second in
    let none = subst (λ p. c.second.result ≡ None → (next : ℕ → Prog (Result Reading ReadError)) → store_rest (kept c.second.new.store) (secondary_slot p c.in-Second.sblock c.in-Second.block c.in-Second.slot) next
    ≡ store_rest (kept a.store.now) (secondary_slot p c.in-Second.sblock c.in-Second.block c.in-Second.slot) next) c.address_at-at.ensures c.second.ensures.none in
    let some : IfSome c.second.result (IsSecondUsed (get_or e.second (p.sblock - 4) undefined) p.sblock p.block p.slot (kept a.store.now) (kept c.second.new.store)) =
    rw c.address_at-at.ensures at c.second.ensures.some in
    second_both e a.i p.sblock p.block p.slot (kept a.store.now) (kept c.second.new.store) c.second.result (sym p.ensures.exact) none some

pub returns-in-Second-clause-some : goal.returns-in-Second-clause-some
returns-in-Second-clause-some c =
    let a = c.args in
    let e = eaib_of a.index.now in
    let p = c.in-Second in
    let some : IfSome c.second.result (IsSecondUsed (get_or e.second (p.sblock - 4) undefined) p.sblock p.block p.slot (kept a.store.now) (kept c.second.new.store)) =
    rw c.address_at-at.ensures at c.second.ensures.some in
    if_some c.second.result some (λ w u. second_hand e a.i p.sblock p.block p.slot (kept a.store.now) (kept c.second.new.store) w c.requires (sym p.ensures.exact) u)
