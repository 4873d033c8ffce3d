use Rattle.std.proofs.Common.{sym, ap, subst, ◌∙◌}
use Rattle.std.proofs.lemmas.Bool.{both_ways}
use Rattle.h5w_bt.specs.declared.records.Record.{Record}
use Rattle.h5w_bt_index.specs.Held.{view_of}
use Rattle.h5w_bt_index.specs.Index.{Index, IsClean, IsIndex, IsShaped, IsThere, KeepsShares, address_of, records}
use Rattle.h5w_bt_index.proofs.Laws.{inserted-clean, inserted-index, inserted-map, inserted-records, inserted-shaped, inserted-shares, not_blocked, put-there}
use Rattle.h5w_bt_index.proofs.index.TreeIndex.insert.Goals as goal

pub put-requires-clause-shallow : goal.put-requires-clause-shallow
put-requires-clause-shallow c =
    let x : Record = record { address = c.args.address; key = c.args.key } in
    not_blocked x (view_of c.args.self.now) c.requires.shape (λ d. both_ways c.is_deep.result c.if-is_deep.false (c.is_deep.ensures.blocked.1 d))

pub returns-clause-shape : goal.returns-clause-shape
returns-clause-shape c =
    let x : Record = record { address = c.args.address; key = c.args.key } in
    let v = view_of c.args.self.now in
    subst IsShaped (sym c.in_ok-put.ensures.ok) (inserted-shaped x v (not_blocked x v c.requires.shape (λ d. both_ways c.is_deep.result c.if-is_deep.false (c.is_deep.ensures.blocked.1 d))) c.requires.shape)

pub returns-clause-index : goal.returns-clause-index
returns-clause-index c i =
    let x : Record = record { address = c.args.address; key = c.args.key } in
    let v = view_of c.args.self.now in
    subst IsIndex (sym c.in_ok-put.ensures.ok) (inserted-index x v (not_blocked x v c.requires.shape (λ d. both_ways c.is_deep.result c.if-is_deep.false (c.is_deep.ensures.blocked.1 d))) i)

pub returns-clause-map : goal.returns-clause-map
returns-clause-map c i k =
    let x : Record = record { address = c.args.address; key = c.args.key } in
    ap (λ (u : Index). address_of u k) c.in_ok-put.ensures.ok ∙ inserted-map x (view_of c.args.self.now) k i

pub returns-clause-sorted : goal.returns-clause-sorted
returns-clause-sorted c i =
    let x : Record = record { address = c.args.address; key = c.args.key } in
    ap records c.in_ok-put.ensures.ok ∙ inserted-records x (view_of c.args.self.now) i

pub returns-clause-there : goal.returns-clause-there
returns-clause-there c i =
    let x : Record = record { address = c.args.address; key = c.args.key } in
    subst (λ (u : Index). IsThere u c.args.key) (sym c.in_ok-put.ensures.ok) (put-there x (view_of c.args.self.now) i)

pub returns-clause-shares : goal.returns-clause-shares
returns-clause-shares c =
    let x : Record = record { address = c.args.address; key = c.args.key } in
    let v = view_of c.args.self.now in
    subst (KeepsShares v) (sym c.in_ok-put.ensures.ok) (inserted-shares x v c.requires.shape)

pub returns-clause-clean : goal.returns-clause-clean
returns-clause-clean c p q =
    let x : Record = record { address = c.args.address; key = c.args.key } in
    inserted-clean p x (view_of c.args.self.now) c.requires.shape (subst (IsClean p) c.in_ok-put.ensures.ok q)
