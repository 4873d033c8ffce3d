use Rattle.std.proofs.Common.{◌∙◌, ap, subst, Result, Err, arith, ℕ}
use Rattle.h5w_model.specs.Causes.{Rose}
use Rattle.h5w_writer.specs.declared.refusal.FlushError.{FlushError}
use Rattle.h5w_writer_lines.specs.Lines.{line_text}
use Rattle.h5w_writer_handles.specs.Tellings.{PutsLine}
use Rattle.h5w_writer_handles.proofs.FlushLemmas.{causes_here}
use Rattle.h5w_writer_handles.proofs.writer.flush.Goals as goal

abbrev as_refusal : FlushError → Result ℕ FlushError
as_refusal e = Err e

pub returns-in-Err : goal.returns-in-Err
returns-in-Err c =
    let error = c.in-Err.error in
    let given : Result ℕ FlushError = Err error in
    let so = c.in-Err.ensures in
    record {
      given = given;
      told = c.refuse.ensures.told ∙ c.flush_told.ensures;
      line = subst (λ l. PutsLine (line_text l) c.args.text.now c.refuse.new.text) c.flush_line.ensures c.refuse.ensures.line;
      flushed = so.flushed;
      planned = so.planned;
      pieces = so.pieces;
      some = so.some;
      nothing = so.nothing;
      reached = so.reached;
      stands = so.stands;
      bound = so.bound;
      refused = so.refused;
      causes = causes_here error so.causes (λ e. let rose : Rose 0 0 = so.fault (ap as_refusal e) in absurd (omega (arith, rose)));
      full = so.full;
      deep = so.deep;
      shallow = so.shallow;
      bounds = so.bounds;
      kept = so.kept;
      left = so.left;
    }
