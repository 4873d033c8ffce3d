use Rattle.std.proofs.Common.{◌≡◌, ℕ, List, Err, refl, subst, rules}
use Rattle.h5w_text.specs.Streams.{Gave, GaveSome}
use Rattle.h5w_text.specs.declared.error.ErrorLine.TheVariants as errors
use Rattle.h5w_files.specs.Polls.{count_text}
use Rattle.h5w_files.specs.declared.polling.Ending.TheVariants as endings
use Rattle.h5w_files.proofs.SinkLemmas.{from_nothing}
use Rattle.h5w_files.proofs.polling.write_count.Goals as goal

pub returns-in_err-write_numbers : goal.returns-in_err-write_numbers
returns-in_err-write_numbers g c =
    let is : c.from_residual.result ≡ Err (endings.Error errors.Memory) = search rules in
    rw is (refl, refl)

pub returns-in_err-write : goal.returns-in_err-write
returns-in_err-write g c =
    let is : c.from_residual-in_err-write.result ≡ Err endings.Sink = search rules in
    let text = from_nothing c.deref.result.now c.write_numbers.new.out.items c.new-text.result.items (count_text c.args.rows) c.deref.ensures.value c.in_ok-write_numbers.ensures c.new-text.ensures.items in
    rw is (c.in_err-write.ensures.cause, subst (λ (b : List ℕ). GaveSome b (g.K.Sink.view c.args.sink.now) (g.K.Sink.view c.write.new.self)) text c.in_err-write.ensures.failed)

pub returns : goal.returns
returns g c =
    let text = from_nothing c.deref.result.now c.write_numbers.new.out.items c.new-text.result.items (count_text c.args.rows) c.deref.ensures.value c.in_ok-write_numbers.ensures c.new-text.ensures.items in
    subst (λ (b : List ℕ). Gave b (g.K.Sink.view c.args.sink.now) (g.K.Sink.view c.write.new.self)) text c.in_ok-write.ensures.gave
