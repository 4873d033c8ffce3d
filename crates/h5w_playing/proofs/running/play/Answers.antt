use Rattle.h5w_text.specs.Errors.{error_text}
use Rattle.h5w_text.specs.declared.error.ErrorLine.TheVariants as errors
use Rattle.h5w_batches.specs.Inputs.{input_limit}
use Rattle.h5w_playing.specs.declared.ending.Ending.TheVariants as endings
use Rattle.h5w_text.specs.declared.status.Status.TheVariants as statuses
use Rattle.h5w_playing.proofs.EndLemmas.{ends, runs_at}
use Rattle.h5w_playing.proofs.running.play.Goals as goal

pub returns-in-Err-Line-clause-plays : goal.returns-in-Err-Line-clause-plays
returns-in-Err-Line-clause-plays g c = λ F f.
    let s = g.M.Machine.spelling c.args.machine.now in
    ends s F statuses.Input c.tell.result (error_text (errors.Line c.in-Err-Line.number)) (g.S.Source.view c.args.source.now) (g.S.Source.view c.script.new.source) (g.K.Sink.view c.args.sink.now) (g.K.Sink.view c.script.new.sink)
    (g.K.Sink.view c.tell.new.sink) (λ e. cc) (runs_at s F c.in-Err-Line.field-0 (endings.Line c.in-Err-Line.number) _ _ _ _ c.in-Err-Line.field-0-is (c.in-Err-Line.ensures.runs F f)) c.tell.ensures

pub returns-in-Err-Input-clause-plays : goal.returns-in-Err-Input-clause-plays
returns-in-Err-Input-clause-plays g c = λ F f.
    let s = g.M.Machine.spelling c.args.machine.now in
    ends s F statuses.Input c.tell-in-Err-Input.result (error_text (errors.Input input_limit)) (g.S.Source.view c.args.source.now) (g.S.Source.view c.script.new.source) (g.K.Sink.view c.args.sink.now) (g.K.Sink.view c.script.new.sink)
    (g.K.Sink.view c.tell-in-Err-Input.new.sink) (λ e. cc) (runs_at s F c.in-Err-Input.field-0 endings.Input _ _ _ _ c.in-Err-Input.field-0-is (c.in-Err-Input.ensures.runs F f)) c.tell-in-Err-Input.ensures

pub returns-in-Err-Source-clause-plays : goal.returns-in-Err-Source-clause-plays
returns-in-Err-Source-clause-plays g c = λ F f.
    let s = g.M.Machine.spelling c.args.machine.now in
    ends s F statuses.Source c.tell-in-Err-Source.result (error_text errors.Source) (g.S.Source.view c.args.source.now) (g.S.Source.view c.script.new.source) (g.K.Sink.view c.args.sink.now) (g.K.Sink.view c.script.new.sink)
    (g.K.Sink.view c.tell-in-Err-Source.new.sink) (λ e. cc) (runs_at s F c.in-Err-Source.field-0 endings.Source _ _ _ _ c.in-Err-Source.field-0-is (c.in-Err-Source.ensures.runs F f)) c.tell-in-Err-Source.ensures

pub returns-in-Err-Memory-clause-plays : goal.returns-in-Err-Memory-clause-plays
returns-in-Err-Memory-clause-plays g c = λ F f.
    let s = g.M.Machine.spelling c.args.machine.now in
    ends s F statuses.Memory c.tell-in-Err-Memory.result (error_text errors.Memory) (g.S.Source.view c.args.source.now) (g.S.Source.view c.script.new.source) (g.K.Sink.view c.args.sink.now) (g.K.Sink.view c.script.new.sink)
    (g.K.Sink.view c.tell-in-Err-Memory.new.sink) (λ e. cc) (runs_at s F c.in-Err-Memory.field-0 endings.Memory _ _ _ _ c.in-Err-Memory.field-0-is (c.in-Err-Memory.ensures.runs F f)) c.tell-in-Err-Memory.ensures
