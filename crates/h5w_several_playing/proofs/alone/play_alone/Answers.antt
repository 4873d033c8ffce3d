use Rattle.std.proofs.Common.{[], ◌∷◌, refl, subst}
use Rattle.h5w_model.specs.Lawful.{Rules, at_first}
use Rattle.h5w_core.specs.Worlds.{rules_of}
use Rattle.h5w_several_script_laws.specs.Alone.{alone}
use Rattle.h5w_playing.specs.Plays.{Plays}
use Rattle.h5w_playing.specs.Starts.{spelling_for, state_for}
use Rattle.h5w_several_playing.proofs.alone.play_alone.Goals as goal

pub returns-in-Err-clause-plays : goal.returns-in-Err-clause-plays
returns-in-Err-clause-plays g c =
    let names = c.args.options.now.name ∷ [] in
    c.cannot_play.ensures.plays (spelling_for names c.args.options.now) (state_for names c.args.options.now c.args.attempts) (g.S.Source.view c.args.source.now)

pub returns-clause-plays : goal.returns-clause-plays
returns-clause-plays g c =
    let world = c.in-Ok.world in
    subst (λ (r : Rules). Plays (record { columns = r.cutting.columns; sets = 1 }) (alone r at_first) c.play-status.result (g.S.Source.view c.args.source.now) (g.S.Source.view c.play-status.new.source) (g.K.Sink.view c.args.sink.now) (g.K.Sink.view c.play-status.new.sink))
    c.in-Ok.ensures.rules (c.play-status.ensures.plays (alone (rules_of world) at_first) (record { script = at_first; is = refl; fits = c.in-Ok.ensures.fits }))
