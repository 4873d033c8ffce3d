use Rattle.std.proofs.Common.{subst}
use Rattle.h5w_playing.specs.Lines.{Spelling}
use Rattle.h5w_playing.specs.Plays.{Plays}
use Rattle.h5w_playing.specs.Starts.{spelling_for, state_for}
use Rattle.h5w_several_playing.proofs.playing.play_several.Goals as goal

pub returns-in-Err-clause-plays : goal.returns-in-Err-clause-plays
returns-in-Err-clause-plays g c =
    c.cannot_play.ensures.plays (spelling_for c.args.names.now c.args.options.now) (state_for c.args.names.now c.args.options.now c.args.attempts) (g.S.Source.view c.args.source.now)

pub returns-clause-plays : goal.returns-clause-plays
returns-clause-plays g c =
    let first = state_for c.args.names.now c.args.options.now c.args.attempts in
    let p = c.play-status in
    subst (λ (s : Spelling). Plays s first p.result (g.S.Source.view c.args.source.now) (g.S.Source.view p.new.source) (g.K.Sink.view c.args.sink.now) (g.K.Sink.view p.new.sink)) c.in-Ok.ensures.spelling
    (p.ensures.plays first c.in-Ok.ensures.fits)
