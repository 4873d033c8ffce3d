use Rattle.std.proofs.Common.{◌∙◌, ap, subst}
use Rattle.h5w_model.specs.declared.reply.Reply.TheVariants as replies
use Rattle.h5w_several_script_laws.specs.Scripts.{says}
use Rattle.h5w_several_core.specs.Worlds.{FileSteps, SeveralView, pollings_of}
use Rattle.h5w_several_core.specs.declared.events.FileEvent.TheVariants as events
use Rattle.h5w_several_core.proofs.KeptLemmas.{kept_by}
use Rattle.h5w_several_core.proofs.MachineLemmas.{world_of}
use Rattle.h5w_several_core.proofs.ShowLemmas.{ShowsCount, show_hold, show_polls, show_steps}
use Rattle.h5w_several_core.proofs.world.SeveralWorld.show.Goals as goal

pub invariant_of-self : goal.invariant_of-self
invariant_of-self c =
    let i = c.self.inside in
    let p = c.show-pieces in
    let e = p.ensures in
    let shown : ShowsCount i.session p.new.session i.image p.new.image p.result = record { nothing = e.nothing; piece = e.piece; parts = e.parts; stands = e.stands } in
    let polls = show_polls i.session p.new.session i.image p.new.image i.attempts p.result c.pending.result i.places.items shown c.pending.ensures in (
      show_hold i.session p.new.session i.image p.new.image i.attempts p.result c.pending.result i.places.items shown c.pending.ensures c.self.invariant.0 e.room,
      kept_by i.session p.new.session i.image p.new.image i.attempts i.places.items i.places.items c.self.invariant.0 polls c.self.invariant.1,
    )

pub returns-clause-steps : goal.returns-clause-steps
returns-clause-steps c =
    let i = c.self.inside in
    let p = c.show-pieces in
    let e = p.ensures in
    let shown : ShowsCount i.session p.new.session i.image p.new.image p.result = record { nothing = e.nothing; piece = e.piece; parts = e.parts; stands = e.stands } in
    subst (λ (w : SeveralView). FileSteps w events.Visible (says (replies.Written p.result c.pending.result)) (world_of p.new.session p.new.image i.attempts i.places.items)) c.self.view_is
    (show_steps i.session p.new.session i.image p.new.image i.attempts p.result c.pending.result i.places.items shown c.pending.ensures)

pub returns-clause-polls : goal.returns-clause-polls
returns-clause-polls c =
    let i = c.self.inside in
    let p = c.show-pieces in
    let e = p.ensures in
    let shown : ShowsCount i.session p.new.session i.image p.new.image p.result = record { nothing = e.nothing; piece = e.piece; parts = e.parts; stands = e.stands } in
    show_polls i.session p.new.session i.image p.new.image i.attempts p.result c.pending.result i.places.items shown c.pending.ensures ∙ ap pollings_of c.self.view_is
