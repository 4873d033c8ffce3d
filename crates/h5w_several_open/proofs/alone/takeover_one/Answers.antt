use Rattle.std.proofs.Common.{◌≡◌, Err, ap, ◌∙◌, subst, arith, length, rules}
use Rattle.h5w_model.specs.declared.root.Super.{Super}
use Rattle.h5w_headers.specs.Ran.{seen}
use Rattle.h5w_index.specs.Held.{view_of}
use Rattle.h5w_opening.specs.Openings.{Opened, dataset_found}
use Rattle.h5w_opening.specs.Views.{opened_of}
use Rattle.h5w_writer_open.specs.OpenParts.{IsUnread}
use Rattle.h5w_writer_open.proofs.OpenStepLemmas.{step_both, step_stop, step_then_stop}
use Rattle.h5w_several_open.proofs.AloneLemmas.{absent_one, begun_one, read_step, settled_one, taken_one, taken_stands, unfit_one, unread_one, written_at_tells}
use Rattle.h5w_several_open.proofs.alone.takeover_one.Goals as goal

pub returns-in_err-root-clause-step : goal.returns-in_err-root-clause-step
returns-in_err-root-clause-step g c =
    let a = c.args in
    let e = c.in_err-root.field-0.0 in
    let is : c.from_residual.result ≡ Err e = search rules in
    rw is (step_stop _ _ e c.in_err-root.ensures.step (λ img f h. absent_one img a.name.now a.size f h))

pub returns-in_err-found-clause-step : goal.returns-in_err-found-clause-step
returns-in_err-found-clause-step g c =
    let a = c.args in
    let r = c.in_ok-root in
    let e = c.in_err-found.field-0.0 in
    let is : c.from_residual-in_err-found.result ≡ Err e = search rules in
    rw is (step_then_stop _ _ (r.root, r.place) e r.ensures.step c.in_err-found.ensures.step
    (λ img at f bad. unread_one img a.name.now a.size r.root r.place at f (subst (λ (s : Super). IsUnread img s r.place f) c.closed_front.ensures.closed (bad r.root (written_at_tells img a.name.now a.size r.root r.place at).super))))

pub returns-in_err-session-clause-step : goal.returns-in_err-session-clause-step
returns-in_err-session-clause-step g c =
    let a = c.args in
    let r = c.in_ok-root in
    let f = c.in_ok-found in
    let o = opened_of f.found in
    let e = c.in_err-session.field-0.0 in
    let is : c.from_residual-in_err-session.result ≡ Err e = search rules in
    let both = read_step a.size a.name.now r.root c.closed_front.result r.place (f.found, f.index) c.closed_front.ensures.closed r.ensures.step f.ensures.step in
    rw is (step_then_stop _ _ (f.found, f.index) e both c.in_err-session.ensures.step
    (λ img p why unfit. unfit_one img a.name.now a.size r.root r.place p.at o (seen view_of f.index) p.read why (unfit (ap (λ (y : Opened). dataset_found y.place img) p.read.is ∙ p.read.header))))

pub written-requires : goal.written-requires
written-requires g c = let one = ap length c.in_ok-session.ensures.begun.pending in omega (arith, one)

pub returns-clause-step : goal.returns-clause-step
returns-clause-step g c =
    let a = c.args in
    let r = c.in_ok-root in
    let f = c.in_ok-found in
    let s = c.in_ok-session in
    let after = settled_one a.name.now a.limit a.budget s.session c.written.new.self s.ensures.begun c.written.ensures.piece in
    let both = read_step a.size a.name.now r.root c.closed_front.result r.place (f.found, f.index) c.closed_front.ensures.closed r.ensures.step f.ensures.step in
    step_both _ _ (f.found, f.index) s.session c.written.new.self both s.ensures.step
    (λ img p over. taken_one img a.name.now a.size r.root r.place p.at (opened_of f.found) (seen view_of f.index) p.read a.limit a.budget s.session c.written.new.self over after)

pub returns-clause-begun : goal.returns-clause-begun
returns-clause-begun g c =
    let a = c.args in
    let s = c.in_ok-session in
    begun_one a.name.now a.limit a.budget s.session c.written.new.self s.ensures.begun (settled_one a.name.now a.limit a.budget s.session c.written.new.self s.ensures.begun c.written.ensures.piece)

pub returns-clause-stands : goal.returns-clause-stands
returns-clause-stands g c img rows columns values sm still valid reads =
    let a = c.args in
    taken_stands img a.name.now a.size a.limit a.budget rows columns values sm c.written.new.self ((returns-clause-step g c).exact img still) c.requires.low c.requires.high valid reads
