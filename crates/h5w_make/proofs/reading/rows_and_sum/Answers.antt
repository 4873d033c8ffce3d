use Rattle.std.proofs.Common.{◌∙◌, map, pos, sym, refl}
use Rattle.std.proofs.lemmas.List.{length-map}
use Rattle.h5w_reader.specs.Cores.{reader}
use Rattle.h5w_writer.proofs.StateLemmas.{some_is}
use Rattle.h5w_make.proofs.ReadingLemmas.{still_opened}
use Rattle.h5w_make.proofs.reading.rows_and_sum.Goals as goal

pub sum_rows-requires : goal.sum_rows-requires
sum_rows-requires c =
    let found = c.find_rows.new in
    let ns = c.requires.readable.0 in
    let bytes = sym (some_is found.image.bytes c.args.image.now.bytes c.find_rows.ensures.image.bytes) in
    let there = still_opened c.args.image.now.bytes found.image.bytes (map pos ns) (reader found.call) (reader found.call) bytes refl (c.in_ok-rows.ensures.opened (map pos ns) c.requires.readable.1) in
    (ns, there, c.in_ok-rows.ensures.rows (map pos ns) c.requires.readable.1 ∙ length-map ns pos, c.requires.readable.2)

pub returns-clause-rows : goal.returns-clause-rows
returns-clause-rows c = λ ns readable. c.in_ok-rows.ensures.rows (map pos ns) readable ∙ length-map ns pos

pub returns-clause-sum : goal.returns-clause-sum
returns-clause-sum c = λ ns readable.
    let found = c.find_rows.new in
    let bytes = sym (some_is found.image.bytes c.args.image.now.bytes c.find_rows.ensures.image.bytes) in
    let there = still_opened c.args.image.now.bytes found.image.bytes (map pos ns) (reader found.call) (reader found.call) bytes refl (c.in_ok-rows.ensures.opened (map pos ns) readable) in
    c.in_ok-total.ensures.sum ns there
