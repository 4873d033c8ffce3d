use Rattle.std.proofs.Common.{◌≡◌, ◌≤◌, ◌+◌, ◌∙◌, sym, subst, ap, arith, Option}
use Rattle.h5w_model.specs.Asked.{Asked, IsRead, beginning}
use Rattle.h5w_model.specs.Calls.{rows_seen}
use Rattle.h5w_model.specs.Unfinished.{Unfinished, Reader, values_left, values_program}
use Rattle.h5w_lookup.specs.Attempts.{known_of, reading_of}
use Rattle.h5w_reader.specs.Readers.{reader_rules}
use Rattle.h5w_reader.specs.Cores.{reader}
use Rattle.h5w_reader.proofs.CoreLemmas.{read_begun, program_read}
use Rattle.h5w_reader.proofs.StageLemmas.{values_want}
use Rattle.h5w_reader.proofs.AskedLemmas.{asked_begin}
use Rattle.h5w_reader.proofs.reader.ReaderCore.read.Goals as goal

pub returns-in-Looks-clause-begun : goal.returns-in-Looks-clause-begun
returns-in-Looks-clause-begun c =
    let s = c.args.self.now in
    let e = rw c.in-Looks.is at c.in_ok-begun-in-Some.ensures in
    let at : Option Unfinished → Reader = λ l. record { rules = reader_rules s.name s.attempts; known = known_of s.known; left = l } in
    ap at (read_begun s.known c.in-Some.known c.in-Looks.reads c.args.from c.args.count c.in-Some.is c.if-count-gt0.true e)

pub returns-in-Looks-clause-wanting : goal.returns-in-Looks-clause-wanting
returns-in-Looks-clause-wanting c = λ _.
    let s = c.args.self.now in
    values_want s.attempts s.name s.known c.in-Looks.reads (λ e. let z = sym e ∙ c.in-Some.is in cc)

pub returns-in-Looks-clause-asked : goal.returns-in-Looks-clause-asked
returns-in-Looks-clause-asked c = λ asks asked.
    let s = c.args.self.now in
    let k = c.in-Some.known in
    let p = values_program (known_of s.known) c.args.from c.args.count in
    let rows : c.seen-rows.result ≡ k.dataset.shape.rows = c.seen-rows.ensures ∙ ap (λ x. rows_seen (known_of x)) c.in-Some.is in
    let inside : c.args.from + c.args.count ≤ k.dataset.shape.rows = omega arith in
    let is_read : IsRead (known_of s.known) p = record {
      reading = reading_of k;
      from = c.args.from;
      count = c.args.count;
      is_known = ap known_of c.in-Some.is;
      some = c.if-count-gt0.true;
      inside = inside;
      is = program_read s.known k c.args.from c.args.count c.in-Some.is c.if-count-gt0.true;
    } in
    subst (λ (r : Reader). Asked r (beginning (values_left p) asks)) (sym (returns-in-Looks-clause-begun c)) (asked_begin (reader s) asks (values_left p) asked is_read)
