use Rattle.std.proofs.Common.{◌≡◌, ◌<◌, ◌≤◌, Err, List, ℕ, ap, arith, length, rules, subst}
use Rattle.std.specs.Global.{Vec}
use Rattle.h5w_image.proofs.ViewLemmas.{looked_twice}
use Rattle.h5w_packing.specs.declared.source.Source.{Source}
use Rattle.h5w_survey.specs.Surveys.{AllReadAs, IsSurvey}
use Rattle.h5w_survey.proofs.StepLemmas.{all_taken, name_at, shown_begun, shown_more, shown_stop, shown_wanting}
use Rattle.h5w_survey.proofs.surveying.all_shown.Goals as goal

pub loop-name-init : goal.loop-name-init
loop-name-init g c = shown_begun c.args.names.now c.args.root (g.I.PieceRead.view c.args.from.now) c.new-sources.result.items c.new-sources.ensures.items

pub returns-in_err-source-clause-step : goal.returns-in_err-source-clause-step
returns-in_err-source-clause-step g c =
    let names = c.args.names.now in
    let k = c.loop-name.name-index in
    let e = c.in_err-source.field-0.0 in
    let name = c.as_slice.result.now in
    let items = c.as_slice-name-items.result.now in
    let is : c.from_residual.result ≡ Err e = search rules in
    let inside : k < length names = omega (arith, c.loop-name-test.true, ap length c.as_slice-name-items.ensures) in
    rw is (shown_stop names c.args.root k (g.I.PieceRead.view c.args.from.now) (g.I.PieceRead.view c.loop-name.from) (g.I.PieceRead.view c.shown.new.from) c.loop-name.sources.items c.loop-name.invariant inside name
    (name_at names items k name c.name-item.result c.as_slice-name-items.ensures c.as_slice.ensures c.name-item.is) (λ img (v : Vec Source). AllReadAs img c.args.root names v.items) e c.in_err-source.ensures.step)

pub returns-in_err-keep-clause-step : goal.returns-in_err-keep-clause-step
returns-in_err-keep-clause-step g c =
    let names = c.args.names.now in
    let e = c.in_err-keep.field-0.0 in
    let is : c.from_residual-in_err-keep.result ≡ Err e = search rules in
    rw is (shown_wanting names c.args.root (g.I.PieceRead.view c.args.from.now) (g.I.PieceRead.view c.shown.new.from) (λ img (v : Vec Source). AllReadAs img c.args.root names v.items) e
    (looked_twice c.loop-name.invariant.looked c.in_ok-source.ensures.step.looked) c.in_err-keep.ensures.memory)

pub loop-name-preserved : goal.loop-name-preserved
loop-name-preserved g c =
    let names = c.args.names.now in
    let k = c.loop-name.name-index in
    let name = c.as_slice.result.now in
    let items = c.as_slice-name-items.result.now in
    let inside : k < length names = omega (arith, c.loop-name-test.true, ap length c.as_slice-name-items.ensures) in
    shown_more names c.args.root k (g.I.PieceRead.view c.args.from.now) (g.I.PieceRead.view c.loop-name.from) (g.I.PieceRead.view c.shown.new.from) c.loop-name.sources.items c.loop-name.invariant inside name
    (name_at names items k name c.name-item.result c.as_slice-name-items.ensures c.as_slice.ensures c.name-item.is) c.in_ok-source.source c.keep.new.sources.items c.in_ok-keep.ensures.ok c.in_ok-source.ensures.step
    c.in_ok-source.ensures.sound c.in_ok-source.ensures.named

pub returns-clause-step : goal.returns-clause-step
returns-clause-step g c =
    let names = c.args.names.now in
    let k = c.loop-name.name-index in
    let past : length names ≤ k = omega (arith, c.loop-name-test.false, ap length c.as_slice-name-items.ensures) in
    record {
      looked = c.loop-name.invariant.looked;
      cause = λ h. absurd cc;
      exact = λ img still. subst (λ (ns : List (List ℕ)). AllReadAs img c.args.root ns c.loop-name.sources.items) (all_taken names k past) (c.loop-name.invariant.exact img still);
    }

pub returns-clause-sound : goal.returns-clause-sound
returns-clause-sound g c =
    let names = c.args.names.now in
    let k = c.loop-name.name-index in
    let past : length names ≤ k = omega (arith, c.loop-name-test.false, ap length c.as_slice-name-items.ensures) in
    subst (λ (ns : List (List ℕ)). IsSurvey ns c.loop-name.sources.items) (all_taken names k past) c.loop-name.invariant.survey
