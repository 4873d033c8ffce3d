use Rattle.std.proofs.Common.{◌∙◌, ap}
use Rattle.h5w_core.specs.Worlds.{WorldView}
use Rattle.h5w_core.proofs.NameLemmas.{shown_named}
use Rattle.h5w_core.proofs.HoldLemmas.{ShowsCount, show_hold, show_logs, show_steps}
use Rattle.h5w_model.specs.declared.reply.Reply.TheVariants as replies
use Rattle.h5w_core.proofs.WritingLemmas.{show_writing}
use Rattle.h5w_core.proofs.world.World.show.Goals as goal

pub invariant_of-self : goal.invariant_of-self
invariant_of-self c =
    let i = c.self.inside in
    let e = c.show-pieces.ensures in
    let shown : ShowsCount i.session c.show-pieces.new.session i.image c.show-pieces.new.image c.show-pieces.result = record { nothing = e.nothing; piece = e.piece; stands = e.stands } in (
      show_hold i.session c.show-pieces.new.session i.image c.show-pieces.new.image i.attempts c.show-pieces.result i.readers.items c.self.invariant.0 shown e.room,
      show_writing i.session c.show-pieces.new.session i.image c.show-pieces.new.image c.show-pieces.result shown c.self.invariant.1,
    )

pub returns-clause-steps : goal.returns-clause-steps
returns-clause-steps c =
    let i = c.self.inside in
    let e = c.show-pieces.ensures in
    show_steps i.session c.show-pieces.new.session i.image c.show-pieces.new.image i.attempts c.show-pieces.result c.pending.result i.readers.items c.args.self.now c.self.view_is
    (record { nothing = e.nothing; piece = e.piece; stands = e.stands }) c.pending.ensures

pub returns-clause-logged : goal.returns-clause-logged
returns-clause-logged c =
    let i = c.self.inside in
    let e = c.show-pieces.ensures in
    show_logs i.session c.show-pieces.new.session i.image c.show-pieces.new.image i.attempts c.show-pieces.result i.readers.items c.args.self.now (replies.Written c.show-pieces.result c.pending.result) c.self.view_is
    (record { nothing = e.nothing; piece = e.piece; stands = e.stands })

pub returns-clause-named : goal.returns-clause-named
returns-clause-named c =
    let e = c.show-pieces.ensures in
    shown_named c.self.inside.session c.show-pieces.new.session (λ none. (e.nothing none).1) (λ w ws is. (e.piece w ws is).1) ∙ ap (λ (x : WorldView). x.session.name) c.self.view_is
