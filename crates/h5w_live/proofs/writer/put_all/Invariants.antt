use Rattle.std.proofs.Common.{◌≡◌, ℕ, []}
use Rattle.h5w_creation_laws.specs.CreatedFiles.{CreatedFile}
use Rattle.h5w_live.specs.Writing.{HasFlushed}
use Rattle.h5w_live.proofs.WriterLemmas.{HasPut}
use Rattle.h5w_live.proofs.writer.put_all.Given as goal

abbrev pub invariant-loop-batch : goal.invariant-loop-batch
invariant-loop-batch g l = (l.seat.image ≡ l.image) × ((f : CreatedFile) (most : ℕ) → HasFlushed f most [] l.initial.session l.initial.seat [] → HasPut f most l.batches l.batch l.session l.seat l.lines.items)
