use Rattle.std.proofs.Common.{◌≡◌, ◌∙◌, List, Ok, Err, refl, rules}
use Rattle.h5w_model.specs.Programs.{eval}
use Rattle.h5w_model.specs.Datasets.{Described}
use Rattle.h5w_model.specs.Tables.{format_limits}
use Rattle.h5w_model.specs.Findings.{Used, checked_dataset, index_visit}
use Rattle.h5w_dataset.specs.Described.{described_of}
use Rattle.h5w_check.specs.Ranges.{after}
use Rattle.h5w_check.specs.Roots.{dataset_after}
use Rattle.h5w_headers.proofs.RanLemmas.{ran_on, ran_end, ran_stop, ran_then_stop, told_ok, step_ok, step_err}
use Rattle.h5w_check.proofs.PartLemmas.{part_parts, part_rest}
use Rattle.h5w_check.proofs.part.part.Goals as goal

pub returns-in_err-d : goal.returns-in_err-d
returns-in_err-d g c =
    let a = c.args in
    let old = a.ranges.now in
    let is : c.from_residual.result ≡ Err c.in_err-d.field-0.0 = search rules in
    rw is (ran_stop (λ img. dataset_after old (eval img (checked_dataset format_limits a.s.now a.at))) c.in_err-d.field-0.0 _ c.in_err-d.ensures (λ img f said. part_parts img a.s.now a.at old ∙ step_err _ f (part_rest img a.s.now) said))

pub returns-in_err-index : goal.returns-in_err-index
returns-in_err-index g c =
    let a = c.args in
    let s = a.s.now in
    let old = a.ranges.now in
    let x : Described × List Used = (described_of c.in_ok-d.d, c.dataset.new.ranges) in
    let is : c.from_residual-in_err-index.result ≡ Err c.in_err-index.field-0.0 = search rules in
    rw is (ran_then_stop (λ img. dataset_after old (eval img (checked_dataset format_limits s a.at))) x (λ img. after x.1 (eval img (index_visit s.end x.0))) c.in_err-index.field-0.0 _ c.in_ok-d.ensures c.in_err-index.ensures
    (λ img f said gone. part_parts img s a.at old ∙ step_ok _ x (part_rest img s) said ∙ step_err _ f (λ us. Ok (x.0.shape.rows, us)) gone))

pub returns : goal.returns
returns g c =
    let a = c.args in
    let s = a.s.now in
    let old = a.ranges.now in
    let x : Described × List Used = (described_of c.in_ok-d.d, c.dataset.new.ranges) in
    let us = c.index.new.ranges in
    let two = ran_end (λ img. after x.1 (eval img (index_visit s.end x.0))) us (Ok (x.0.shape.rows, us)) (λ img. part_rest img s x) _ c.in_ok-index.ensures (told_ok _ (x.0.shape.rows, us) refl)
    (λ img said. step_ok _ us (λ vs. Ok (x.0.shape.rows, vs)) said) in
    ran_on (λ img. dataset_after old (eval img (checked_dataset format_limits s a.at))) x (λ img. part_rest img s x) _ _ c.in_ok-d.ensures two (λ img said. part_parts img s a.at old ∙ step_ok _ x (part_rest img s) said)
