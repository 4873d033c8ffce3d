use Rattle.std.proofs.Common.{subst}
use Rattle.h5w_several_writer_laws.specs.Sessions.{AreParts, AreSessions, SameButHeld, Sessions}
use Rattle.h5w_writer.proofs.TakingLemmas.{on_err}
use Rattle.h5w_several_writer.proofs.FlowLemmas.{flush_plans}
use Rattle.h5w_several_writer.proofs.FullLemmas.{lacks_place}
use Rattle.h5w_several_writer.proofs.PartLemmas.{same_held}
use Rattle.h5w_several_writer.proofs.StandLemmas.{flush_ready, flush_stands, refused_stands}
use Rattle.h5w_several_writer.proofs.several.SeveralWriter.flush.Goals as goal

pub returns-in_err-ready-clause-kept : goal.returns-in_err-ready-clause-kept
returns-in_err-ready-clause-kept g c = on_err _ (subst (λ (S : Sessions). SameButHeld S S) c.self.view_is (same_held _ c.self.invariant.sessions))

pub returns-in_err-ready-clause-sessions : goal.returns-in_err-ready-clause-sessions
returns-in_err-ready-clause-sessions g c = subst AreSessions c.self.view_is c.self.invariant.sessions

pub returns-clause-rows : goal.returns-clause-rows
returns-clause-rows g c =
    let ready = flush_ready c.args.self.now c.in_ok-ready.ensures in
    let parts = subst (λ (S : Sessions). AreParts S S.parts) c.self.view_is c.self.invariant.sessions.each in
    flush_plans c.flush_counted.result c.args.self.now _ parts ready.1 c.flush_counted.ensures.flushed

pub returns-clause-stands : goal.returns-clause-stands
returns-clause-stands g c = flush_stands c.flush_counted.result c.args.self.now _ (flush_ready c.args.self.now c.in_ok-ready.ensures) c.flush_counted.ensures.flushed c.flush_counted.ensures.counts

pub returns-clause-left : goal.returns-clause-left
returns-clause-left g c = refused_stands c.flush_counted.result c.args.self.now _ (flush_ready c.args.self.now c.in_ok-ready.ensures) c.flush_counted.ensures.kept

pub returns-clause-bound : goal.returns-clause-bound
returns-clause-bound g c full same log stands =
    let ready = flush_ready c.args.self.now c.in_ok-ready.ensures in
    lacks_place c.args.self.now log full stands ready.0 ready.1 (c.flush_counted.ensures.full full same)
