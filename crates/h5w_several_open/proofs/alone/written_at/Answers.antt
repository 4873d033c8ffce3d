use Rattle.std.proofs.Common.{◌≡◌, length, Ok, Err, ap, sym, ◌∙◌, arith, rules}
use Rattle.h5w_model.specs.Programs.{eval}
use Rattle.h5w_opening.specs.Fronts.{written_front}
use Rattle.h5w_opening.specs.Views.{front_fields_of}
use Rattle.h5w_opening.specs.declared.error.OpenError.TheVariants.{OutOfMemory}
use Rattle.h5w_writer_open.proofs.OpenStepLemmas.{step_none, step_on, step_stop, told_step}
use Rattle.h5w_writer_open.proofs.PartLemmas.{memory_quiet}
use Rattle.h5w_several_open.proofs.AloneLemmas.{front_refused, front_told, with_root}
use Rattle.h5w_several_open.proofs.alone.written_at.Goals as goal

pub returns-in_err-names-clause-step : goal.returns-in_err-names-clause-step
returns-in_err-names-clause-step g c =
    let is : c.from_residual.result ≡ Err OutOfMemory = search rules in
    rw is (step_none _ _ OutOfMemory memory_quiet (λ img. tt))

pub returns-in_err-front-clause-step : goal.returns-in_err-front-clause-step
returns-in_err-front-clause-step g c =
    let a = c.args in
    let names = c.in_ok-names.names in
    let e = c.in_err-front.field-0.0 in
    let is : c.from_residual-in_err-front.result ≡ Err e = search rules in
    let f = c.in_err-front.ensures in
    rw is (step_stop _ _ e (told_step (λ img. eval img (written_front a.size names)) front_fields_of (Err e) f.ran f.kinds) (λ img why h. front_refused img a.name.now names a.size why c.in_ok-names.ensures h))

pub index-requires : goal.index-requires
index-requires g c =
    let one = ap length c.in_ok-names.ensures in
    let len = c.in_ok-front.ensures.len in
    omega (arith, one, len)

pub returns-clause-step : goal.returns-clause-step
returns-clause-step g c =
    let a = c.args in
    let names = c.in_ok-names.names in
    let f = c.in_ok-front in
    step_on _ _ f.front (f.front.root, c.index.result.now) (told_step (λ img. eval img (written_front a.size names)) front_fields_of (Ok f.front) f.ensures.ran tt)
    (λ img h. front_told img a.name.now names a.size (front_fields_of f.front) c.index.result.now c.in_ok-names.ensures h ∙ ap (with_root f.front.root) (sym c.index.ensures))
