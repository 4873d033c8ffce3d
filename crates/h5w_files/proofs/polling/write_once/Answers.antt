use Rattle.std.proofs.Common.{◌≡◌, ◌-◌, List, true, false, Err, subst, rules}
use Rattle.std.specs.Prelude.{◌&&◌, nat_lt, ℤ}
use Rattle.h5w_image.proofs.ViewLemmas.{looked_twice}
use Rattle.h5w_reader.specs.Cores as cores
use Rattle.h5w_text.specs.Streams.{Gave}
use Rattle.h5w_files.specs.Polling.{ToldBy}
use Rattle.h5w_files.specs.Polls.{values_text}
use Rattle.h5w_files.specs.declared.polling.Ending.TheVariants as endings
use Rattle.h5w_files.proofs.OnceLemmas.{once_counted, once_lines, once_refused, once_uncounted, once_unlined, once_unread, still_yet}
use Rattle.h5w_batches.proofs.InputLemmas.{rose_before}
use Rattle.h5w_files.proofs.polling.write_once.Goals as goal

pub returns-in_err-rows-clause-gives : goal.returns-in_err-rows-clause-gives
returns-in_err-rows-clause-gives g c =
    let is : c.from_residual.result ≡ Err (endings.Error c.in_err-rows.field-0.0) = search rules in
    rw is (once_refused (cores.reader c.rows_found.new.reader) c.args.values c.args.printed c.in_err-rows.field-0.0 (g.K.Sink.view c.args.sink.now) c.in_err-rows.ensures.kinds c.in_err-rows.ensures.cause c.in_err-rows.ensures.exact)

pub returns-in_err-write_count-clause-gives : goal.returns-in_err-write_count-clause-gives
returns-in_err-write_count-clause-gives g c =
    let is : c.from_residual-in_err-write_count.result ≡ Err c.in_err-write_count.field-0.0 = search rules in
    rw is (once_uncounted (cores.reader c.rows_found.new.reader) c.args.values c.args.printed c.in_ok-rows.rows c.in_err-write_count.field-0.0 c.in_err-write_count.ensures c.in_ok-rows.ensures.exact)

pub returns-then-not-has_new-clause-gives : goal.returns-then-not-has_new-clause-gives
returns-then-not-has_new-clause-gives g c =
    let none : (c.args.values && nat_lt c.args.printed c.in_ok-rows.rows) ≡ false = first_of (cc, search rules) in
    once_counted c.args.values c.args.printed c.in_ok-rows.rows none c.in_ok-write_count.ensures c.in_ok-rows.ensures.exact

pub returns-in_err-found-clause-looked : goal.returns-in_err-found-clause-looked
returns-in_err-found-clause-looked g c = looked_twice c.rows_found.ensures.looked c.values_found.ensures.looked

pub returns-in_err-found-clause-gives : goal.returns-in_err-found-clause-gives
returns-in_err-found-clause-gives g c =
    let is : c.from_residual-in_err-found.result ≡ Err (endings.Error c.in_err-found.field-0.0) = search rules in
    let some : (c.args.values && nat_lt c.args.printed c.in_ok-rows.rows) ≡ true = first_of (cc, search rules) in
    rw is (once_unread (cores.reader c.rows_found.new.reader) (cores.reader c.values_found.new.reader) c.args.values c.args.printed c.in_ok-rows.rows c.in_err-found.field-0.0 some c.in_ok-write_count.ensures
    (still_yet c.rows_found.ensures.looked) c.in_ok-rows.ensures.exact c.in_err-found.ensures.kinds
    (λ h. rose_before (g.I.PieceRead.view c.args.image.now).faults (g.I.PieceRead.view c.rows_found.new.image).faults (g.I.PieceRead.view c.values_found.new.image).faults c.rows_found.ensures.looked.faults (c.in_err-found.ensures.cause h))
    c.in_err-found.ensures.exact)

pub returns-in_err-write_lines-clause-looked : goal.returns-in_err-write_lines-clause-looked
returns-in_err-write_lines-clause-looked g c = looked_twice c.rows_found.ensures.looked c.values_found.ensures.looked

pub returns-in_err-write_lines-clause-gives : goal.returns-in_err-write_lines-clause-gives
returns-in_err-write_lines-clause-gives g c =
    let is : c.from_residual-in_err-write_lines.result ≡ Err c.in_err-write_lines.field-0.0 = search rules in
    let some : (c.args.values && nat_lt c.args.printed c.in_ok-rows.rows) ≡ true = first_of (cc, search rules) in
    rw is (once_unlined (cores.reader c.rows_found.new.reader) (cores.reader c.values_found.new.reader) c.args.values c.args.printed c.in_ok-rows.rows c.in_ok-found.found c.in_err-write_lines.field-0.0 some c.in_ok-write_count.ensures
    (subst (λ (vs : List ℤ). ToldBy {A = Unit {0}} (Err c.in_err-write_lines.field-0.0) (values_text (c.in_ok-rows.rows - c.args.printed) vs) (g.K.Sink.view c.write_count.new.sink) (g.K.Sink.view c.write_lines.new.sink)) c.as_slice.ensures
    c.in_err-write_lines.ensures) (still_yet c.rows_found.ensures.looked) c.in_ok-rows.ensures.exact c.in_ok-found.ensures.exact)

pub returns-clause-looked : goal.returns-clause-looked
returns-clause-looked g c = looked_twice c.rows_found.ensures.looked c.values_found.ensures.looked

pub returns-clause-gives : goal.returns-clause-gives
returns-clause-gives g c =
    let some : (c.args.values && nat_lt c.args.printed c.in_ok-rows.rows) ≡ true = first_of (cc, search rules) in
    once_lines (cores.reader c.rows_found.new.reader) c.args.values c.args.printed c.in_ok-rows.rows c.in_ok-found.found some c.in_ok-write_count.ensures
    (subst (λ (vs : List ℤ). Gave (values_text (c.in_ok-rows.rows - c.args.printed) vs) (g.K.Sink.view c.write_count.new.sink) (g.K.Sink.view c.write_lines.new.sink)) c.as_slice.ensures c.in_ok-write_lines.ensures)
    (still_yet c.rows_found.ensures.looked) c.in_ok-rows.ensures.exact c.in_ok-found.ensures.exact
