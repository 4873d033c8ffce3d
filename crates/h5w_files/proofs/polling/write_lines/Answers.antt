use Rattle.std.proofs.Common.{◌≡◌, ℕ, List, Err, refl, subst, rules}
use Rattle.h5w_text.specs.Streams.{Gave, GaveSome}
use Rattle.h5w_text.specs.declared.error.ErrorLine.TheVariants as errors
use Rattle.h5w_files.specs.Polls.{values_text}
use Rattle.h5w_files.specs.declared.polling.Ending.TheVariants as endings
use Rattle.h5w_files.proofs.SinkLemmas.{from_nothing}
use Rattle.h5w_files.proofs.polling.write_lines.Goals as goal

pub returns-in_err-write_rows : goal.returns-in_err-write_rows
returns-in_err-write_rows g c =
    let is : c.from_residual.result ≡ Err (endings.Error errors.Memory) = search rules in
    rw is (refl, refl)

pub returns-in_err-write : goal.returns-in_err-write
returns-in_err-write g c =
    let is : c.from_residual-in_err-write.result ≡ Err endings.Sink = search rules in
    let text = from_nothing c.deref.result.now c.write_rows.new.out.items c.new-text.result.items (values_text c.args.rows c.args.values.now) c.deref.ensures.value c.in_ok-write_rows.ensures c.new-text.ensures.items in
    rw is (c.in_err-write.ensures.cause, subst (λ (b : List ℕ). GaveSome b (g.K.Sink.view c.args.sink.now) (g.K.Sink.view c.write.new.self)) text c.in_err-write.ensures.failed)

pub returns : goal.returns
returns g c =
    let text = from_nothing c.deref.result.now c.write_rows.new.out.items c.new-text.result.items (values_text c.args.rows c.args.values.now) c.deref.ensures.value c.in_ok-write_rows.ensures c.new-text.ensures.items in
    subst (λ (b : List ℕ). Gave b (g.K.Sink.view c.args.sink.now) (g.K.Sink.view c.write.new.self)) text c.in_ok-write.ensures.gave
