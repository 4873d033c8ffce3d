use Rattle.std.proofs.Common.{ap, ◌∙◌, sym, subst}
use Rattle.h5w_model.specs.declared.event.Event.TheVariants as events
use Rattle.h5w_core.specs.Worlds.{AreRowsBy, IsHeard, rules_of}
use Rattle.h5w_core.proofs.StepLemmas.{lawful_if_ok, never_full, reply_never_full, step_lawful}
use Rattle.h5w_core.proofs.world.World.step.Goals as goal

pub returns-in-Append-clause-lawful : goal.returns-in-Append-clause-lawful
returns-in-Append-clause-lawful c =
    lawful_if_ok c.args.self.now c.append.new.self c.args.event (events.Append c.as_slice.result.now) c.append.result
    (ap events.Append c.as_slice.ensures ∙ sym c.in-Append.is) c.append.ensures.steps

pub returns-in-Flush-clause-lawful : goal.returns-in-Flush-clause-lawful
returns-in-Flush-clause-lawful c =
    lawful_if_ok c.args.self.now c.flush.new.self c.args.event events.Flush c.flush.result (sym c.in-Flush.is) c.flush.ensures.steps

pub returns-in-Visible-clause-lawful : goal.returns-in-Visible-clause-lawful
returns-in-Visible-clause-lawful c =
    step_lawful c.args.self.now c.show.new.self c.args.event events.Visible c.show.result (sym c.in-Visible.is) c.show.ensures.steps

pub returns-in-Open-clause-lawful : goal.returns-in-Open-clause-lawful
returns-in-Open-clause-lawful c =
    lawful_if_ok c.args.self.now c.open.new.self c.args.event (events.Open c.in-Open.reader) c.open.result (sym c.in-Open.is) c.open.ensures.steps

pub returns-in-Refresh-clause-lawful : goal.returns-in-Refresh-clause-lawful
returns-in-Refresh-clause-lawful c =
    step_lawful c.args.self.now c.refresh.new.self c.args.event (events.Refresh c.in-Refresh.reader) c.refresh.result (sym c.in-Refresh.is) c.refresh.ensures.steps

pub returns-in-Read-clause-lawful : goal.returns-in-Read-clause-lawful
returns-in-Read-clause-lawful c =
    lawful_if_ok c.args.self.now c.read.new.self c.args.event (events.Read c.in-Read.reader c.in-Read.from c.in-Read.count) c.read.result (sym c.in-Read.is) c.read.ensures.steps

pub returns-in-Look-clause-lawful : goal.returns-in-Look-clause-lawful
returns-in-Look-clause-lawful c =
    lawful_if_ok c.args.self.now c.look.new.self c.args.event (events.Look c.in-Look.reader) c.look.result (sym c.in-Look.is) c.look.ensures.steps

pub returns-in-Stop-clause-lawful : goal.returns-in-Stop-clause-lawful
returns-in-Stop-clause-lawful c =
    step_lawful c.args.self.now c.stop.new.self c.args.event events.Stop c.stop.result (sym c.in-Stop.is) c.stop.ensures.steps

pub append-requires : goal.append-requires
append-requires c =
    let g = rules_of c.args.self.now in
    subst (AreRowsBy g) (sym c.as_slice.ensures) (subst (IsHeard g) c.in-Append.is c.requires)

pub returns-in-Append-clause-full : goal.returns-in-Append-clause-full
returns-in-Append-clause-full c = never_full c.args.self.now.session c.append.result c.append.ensures.no_space

pub returns-in-Visible-clause-full : goal.returns-in-Visible-clause-full
returns-in-Visible-clause-full c = reply_never_full c.args.self.now.session c.show.result c.show.ensures.no_space

pub returns-in-Stop-clause-full : goal.returns-in-Stop-clause-full
returns-in-Stop-clause-full c = reply_never_full c.args.self.now.session c.stop.result c.stop.ensures.no_space

pub returns-in-Open-clause-full : goal.returns-in-Open-clause-full
returns-in-Open-clause-full c = never_full c.args.self.now.session c.open.result c.open.ensures.no_space

pub returns-in-Refresh-clause-full : goal.returns-in-Refresh-clause-full
returns-in-Refresh-clause-full c = reply_never_full c.args.self.now.session c.refresh.result c.refresh.ensures.no_space

pub returns-in-Read-clause-full : goal.returns-in-Read-clause-full
returns-in-Read-clause-full c = never_full c.args.self.now.session c.read.result c.read.ensures.no_space

pub returns-in-Look-clause-full : goal.returns-in-Look-clause-full
returns-in-Look-clause-full c = never_full c.args.self.now.session c.look.result c.look.ensures.no_space

pub returns-in-Flush-clause-full : goal.returns-in-Flush-clause-full
returns-in-Flush-clause-full c = c.flush.ensures.full
