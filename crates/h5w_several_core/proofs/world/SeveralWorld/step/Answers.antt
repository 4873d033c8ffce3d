use Rattle.std.proofs.Common.{◌∙◌, ap, map, sym, subst}
use Rattle.h5w_script_laws.specs.Polling.{Polling}
use Rattle.h5w_several_core.specs.Worlds.{AreRowsIn, IsHeardIn, rules_of}
use Rattle.h5w_several_core.specs.declared.events.FileEvent.TheVariants as events
use Rattle.h5w_several_core.proofs.StepLemmas.{lawful_if_ok, logged_if_ok, never_full, reply_never_full, step_lawful, step_logged}
use Rattle.h5w_several_core.proofs.world.SeveralWorld.step.Goals as goal

pub returns-in-Append-clause-lawful : goal.returns-in-Append-clause-lawful
returns-in-Append-clause-lawful c =
    lawful_if_ok c.args.self.now c.append.new.self c.args.event (events.Append c.in-Append.dataset c.as_slice.result.now) c.append.result (ap (events.Append c.in-Append.dataset) c.as_slice.ensures ∙ sym c.in-Append.is) c.append.ensures.steps

pub returns-in-Append-clause-logged : goal.returns-in-Append-clause-logged
returns-in-Append-clause-logged c =
    logged_if_ok c.args.self.now c.append.new.self c.args.event (events.Append c.in-Append.dataset c.as_slice.result.now) c.append.result (ap (events.Append c.in-Append.dataset) c.as_slice.ensures ∙ sym c.in-Append.is) c.append.ensures.steps

pub returns-in-Append-clause-full : goal.returns-in-Append-clause-full
returns-in-Append-clause-full c = never_full c.args.self.now c.append.result c.append.ensures.no_space

pub returns-in-Flush-clause-lawful : goal.returns-in-Flush-clause-lawful
returns-in-Flush-clause-lawful c =
    lawful_if_ok c.args.self.now c.flush.new.self c.args.event events.Flush c.flush.result (sym c.in-Flush.is) c.flush.ensures.steps

pub returns-in-Flush-clause-logged : goal.returns-in-Flush-clause-logged
returns-in-Flush-clause-logged c =
    logged_if_ok c.args.self.now c.flush.new.self c.args.event events.Flush c.flush.result (sym c.in-Flush.is) c.flush.ensures.steps

pub returns-in-Flush-clause-full : goal.returns-in-Flush-clause-full
returns-in-Flush-clause-full c = c.flush.ensures.full

pub returns-in-Visible-clause-lawful : goal.returns-in-Visible-clause-lawful
returns-in-Visible-clause-lawful c =
    step_lawful c.args.self.now c.show.new.self c.args.event events.Visible c.show.result (sym c.in-Visible.is) c.show.ensures.steps

pub returns-in-Visible-clause-logged : goal.returns-in-Visible-clause-logged
returns-in-Visible-clause-logged c =
    step_logged c.args.self.now c.show.new.self c.args.event events.Visible c.show.result (sym c.in-Visible.is) c.show.ensures.steps

pub returns-in-Visible-clause-full : goal.returns-in-Visible-clause-full
returns-in-Visible-clause-full c = reply_never_full c.args.self.now c.show.result c.show.ensures.no_space

pub returns-in-Stop-clause-lawful : goal.returns-in-Stop-clause-lawful
returns-in-Stop-clause-lawful c =
    step_lawful c.args.self.now c.stop.new.self c.args.event events.Stop c.stop.result (sym c.in-Stop.is) c.stop.ensures.steps

pub returns-in-Stop-clause-logged : goal.returns-in-Stop-clause-logged
returns-in-Stop-clause-logged c =
    step_logged c.args.self.now c.stop.new.self c.args.event events.Stop c.stop.result (sym c.in-Stop.is) c.stop.ensures.steps

pub returns-in-Stop-clause-full : goal.returns-in-Stop-clause-full
returns-in-Stop-clause-full c = reply_never_full c.args.self.now c.stop.result c.stop.ensures.no_space

pub returns-in-Takeover-clause-lawful : goal.returns-in-Takeover-clause-lawful
returns-in-Takeover-clause-lawful c =
    lawful_if_ok c.args.self.now c.takeover.new.self c.args.event events.Takeover c.takeover.result (sym c.in-Takeover.is) c.takeover.ensures.steps

pub returns-in-Takeover-clause-logged : goal.returns-in-Takeover-clause-logged
returns-in-Takeover-clause-logged c =
    logged_if_ok c.args.self.now c.takeover.new.self c.args.event events.Takeover c.takeover.result (sym c.in-Takeover.is) c.takeover.ensures.steps

pub returns-in-Takeover-clause-full : goal.returns-in-Takeover-clause-full
returns-in-Takeover-clause-full c = never_full c.args.self.now c.takeover.result c.takeover.ensures.no_space

pub returns-in-Open-clause-lawful : goal.returns-in-Open-clause-lawful
returns-in-Open-clause-lawful c =
    lawful_if_ok c.args.self.now c.open.new.self c.args.event (events.Open c.in-Open.reader c.in-Open.dataset) c.open.result (sym c.in-Open.is) c.open.ensures.steps

pub returns-in-Open-clause-logged : goal.returns-in-Open-clause-logged
returns-in-Open-clause-logged c =
    logged_if_ok c.args.self.now c.open.new.self c.args.event (events.Open c.in-Open.reader c.in-Open.dataset) c.open.result (sym c.in-Open.is) c.open.ensures.steps

pub returns-in-Open-clause-full : goal.returns-in-Open-clause-full
returns-in-Open-clause-full c = never_full c.args.self.now c.open.result c.open.ensures.no_space

pub returns-in-Refresh-clause-lawful : goal.returns-in-Refresh-clause-lawful
returns-in-Refresh-clause-lawful c =
    step_lawful c.args.self.now c.refresh.new.self c.args.event (events.Refresh c.in-Refresh.reader) c.refresh.result (sym c.in-Refresh.is) c.refresh.ensures.steps

pub returns-in-Refresh-clause-logged : goal.returns-in-Refresh-clause-logged
returns-in-Refresh-clause-logged c =
    step_logged c.args.self.now c.refresh.new.self c.args.event (events.Refresh c.in-Refresh.reader) c.refresh.result (sym c.in-Refresh.is) c.refresh.ensures.steps

pub returns-in-Refresh-clause-full : goal.returns-in-Refresh-clause-full
returns-in-Refresh-clause-full c = reply_never_full c.args.self.now c.refresh.result c.refresh.ensures.no_space

pub returns-in-Read-clause-lawful : goal.returns-in-Read-clause-lawful
returns-in-Read-clause-lawful c =
    lawful_if_ok c.args.self.now c.read.new.self c.args.event (events.Read c.in-Read.reader c.in-Read.from c.in-Read.count) c.read.result (sym c.in-Read.is) c.read.ensures.steps

pub returns-in-Read-clause-logged : goal.returns-in-Read-clause-logged
returns-in-Read-clause-logged c =
    logged_if_ok c.args.self.now c.read.new.self c.args.event (events.Read c.in-Read.reader c.in-Read.from c.in-Read.count) c.read.result (sym c.in-Read.is) c.read.ensures.steps

pub returns-in-Read-clause-full : goal.returns-in-Read-clause-full
returns-in-Read-clause-full c = never_full c.args.self.now c.read.result c.read.ensures.no_space

pub returns-in-Look-clause-lawful : goal.returns-in-Look-clause-lawful
returns-in-Look-clause-lawful c =
    lawful_if_ok c.args.self.now c.look.new.self c.args.event (events.Look c.in-Look.reader) c.look.result (sym c.in-Look.is) c.look.ensures.steps

pub returns-in-Look-clause-logged : goal.returns-in-Look-clause-logged
returns-in-Look-clause-logged c =
    logged_if_ok c.args.self.now c.look.new.self c.args.event (events.Look c.in-Look.reader) c.look.result (sym c.in-Look.is) c.look.ensures.steps

pub returns-in-Look-clause-full : goal.returns-in-Look-clause-full
returns-in-Look-clause-full c = never_full c.args.self.now c.look.result c.look.ensures.no_space

pub append-requires : goal.append-requires
append-requires c =
    let gs = rules_of c.args.self.now in
    let heard : IsHeardIn gs (events.Append c.in-Append.dataset c.in-Append.values) = subst (IsHeardIn gs) c.in-Append.is c.requires in
    subst (AreRowsIn gs c.in-Append.dataset) (sym c.as_slice.ensures) heard

pub returns-in-Append-clause-rules : goal.returns-in-Append-clause-rules
returns-in-Append-clause-rules c = ap (map (λ (g : Polling). g.rules)) c.append.ensures.polls

pub returns-in-Append-clause-named : goal.returns-in-Append-clause-named
returns-in-Append-clause-named c = ap (map (λ (g : Polling). g.name)) c.append.ensures.polls

pub returns-in-Flush-clause-rules : goal.returns-in-Flush-clause-rules
returns-in-Flush-clause-rules c = ap (map (λ (g : Polling). g.rules)) c.flush.ensures.polls

pub returns-in-Flush-clause-named : goal.returns-in-Flush-clause-named
returns-in-Flush-clause-named c = ap (map (λ (g : Polling). g.name)) c.flush.ensures.polls

pub returns-in-Visible-clause-rules : goal.returns-in-Visible-clause-rules
returns-in-Visible-clause-rules c = ap (map (λ (g : Polling). g.rules)) c.show.ensures.polls

pub returns-in-Visible-clause-named : goal.returns-in-Visible-clause-named
returns-in-Visible-clause-named c = ap (map (λ (g : Polling). g.name)) c.show.ensures.polls

pub returns-in-Stop-clause-rules : goal.returns-in-Stop-clause-rules
returns-in-Stop-clause-rules c = ap (map (λ (g : Polling). g.rules)) c.stop.ensures.polls

pub returns-in-Stop-clause-named : goal.returns-in-Stop-clause-named
returns-in-Stop-clause-named c = ap (map (λ (g : Polling). g.name)) c.stop.ensures.polls

pub returns-in-Takeover-clause-rules : goal.returns-in-Takeover-clause-rules
returns-in-Takeover-clause-rules c = ap (map (λ (g : Polling). g.rules)) c.takeover.ensures.polls

pub returns-in-Takeover-clause-named : goal.returns-in-Takeover-clause-named
returns-in-Takeover-clause-named c = ap (map (λ (g : Polling). g.name)) c.takeover.ensures.polls

pub returns-in-Open-clause-rules : goal.returns-in-Open-clause-rules
returns-in-Open-clause-rules c = ap (map (λ (g : Polling). g.rules)) c.open.ensures.polls

pub returns-in-Open-clause-named : goal.returns-in-Open-clause-named
returns-in-Open-clause-named c = ap (map (λ (g : Polling). g.name)) c.open.ensures.polls

pub returns-in-Refresh-clause-rules : goal.returns-in-Refresh-clause-rules
returns-in-Refresh-clause-rules c = ap (map (λ (g : Polling). g.rules)) c.refresh.ensures.polls

pub returns-in-Refresh-clause-named : goal.returns-in-Refresh-clause-named
returns-in-Refresh-clause-named c = ap (map (λ (g : Polling). g.name)) c.refresh.ensures.polls

pub returns-in-Read-clause-rules : goal.returns-in-Read-clause-rules
returns-in-Read-clause-rules c = ap (map (λ (g : Polling). g.rules)) c.read.ensures.polls

pub returns-in-Read-clause-named : goal.returns-in-Read-clause-named
returns-in-Read-clause-named c = ap (map (λ (g : Polling). g.name)) c.read.ensures.polls

pub returns-in-Look-clause-rules : goal.returns-in-Look-clause-rules
returns-in-Look-clause-rules c = ap (map (λ (g : Polling). g.rules)) c.look.ensures.polls

pub returns-in-Look-clause-named : goal.returns-in-Look-clause-named
returns-in-Look-clause-named c = ap (map (λ (g : Polling). g.name)) c.look.ensures.polls
