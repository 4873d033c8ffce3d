use Rattle.h5w_core.proofs.world.create.Goals as goal

pub returns-in-Ok : goal.returns-in-Ok
returns-in-Ok c =
    let made = c.in_ok-session.ensures in
    c.in-Ok.ensures c.args.options.now (record { are = c.requires; created = made.session; budget = made.budget; stands = made.stands })
