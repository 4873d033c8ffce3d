use Rattle.std.proofs.Common.{◌≡◌, ◌∙◌, ℕ, List, [], ◌∷◌, Err, sym, rules}
use Rattle.h5w_model.specs.Programs.{eval}
use Rattle.h5w_model.specs.Tables.{each_of, format_limits}
use Rattle.h5w_model.specs.Findings.{Used, the_superblock, checked_part}
use Rattle.h5w_check.specs.Roots.{parts_after}
use Rattle.h5w_headers.proofs.RanLemmas.{ran_on, ran_then_stop, step_ok, same_value}
use Rattle.h5w_check.proofs.datasets.Goals as goal

pub returns-in_err-rows : goal.returns-in_err-rows
returns-in_err-rows g c =
    let a = c.args in
    let front : c.put_block.new.self ≡ the_superblock ∷ [] = sym (same_value _ _ (rw c.new-ranges.ensures at c.in_ok-put_block.ensures.exact)) in
    let root = rw front at c.in_ok-places.ensures in
    let x : List ℕ × List Used = (c.in_ok-places.places.items, c.root.new.ranges) in
    let gone = rw c.deref.ensures.value at c.in_err-rows.ensures in
    let is : c.from_residual-in_err-rows.result ≡ Err c.in_err-rows.field-0.0 = search rules in
    rw is (ran_then_stop _ x _ c.in_err-rows.field-0.0 _ root gone (λ img f said gone. step_ok _ x (λ y. parts_after [] y.1 (eval img (each_of (checked_part format_limits a.s.now) y.0))) said ∙ gone))

pub returns : goal.returns
returns g c =
    let a = c.args in
    let front : c.put_block.new.self ≡ the_superblock ∷ [] = sym (same_value _ _ (rw c.new-ranges.ensures at c.in_ok-put_block.ensures.exact)) in
    let root = rw front at c.in_ok-places.ensures in
    let x : List ℕ × List Used = (c.in_ok-places.places.items, c.root.new.ranges) in
    let rows = rw c.deref.ensures.value at c.in_ok-rows.ensures in
    ran_on _ x _ _ _ root rows (λ img said. step_ok _ x (λ y. parts_after [] y.1 (eval img (each_of (checked_part format_limits a.s.now) y.0))) said)
