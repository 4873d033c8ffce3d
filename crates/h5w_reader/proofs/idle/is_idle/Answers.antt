use Rattle.std.proofs.Common.{◌≡◌, ◌≢◌, ◌≤◌, ◌<◌, ℕ, get_or, length, true, refl, ap, arith}
use Rattle.std.proofs.lemmas.Bool.{eqb-true}
use Rattle.h5w_model.specs.Headers.{header_view}
use Rattle.h5w_model.specs.Numbers.{undefined}
use Rattle.h5w_model.specs.Tables.{needed, limit_of}
use Rattle.h5w_lookup.specs.Attempts.{known_of, reading_of, reader_limits, rules_of}
use Rattle.h5w_dataset.specs.Described.{described_of}
use Rattle.h5w_lookup.proofs.UnknownLemmas.{known_first, unknown_behind}
use Rattle.h5w_reader.proofs.IdleLemmas.{idle_is}
use Rattle.h5w_reader.proofs.idle.is_idle.Goals as goal

pub returns : goal.returns
returns c = λ e.
    let g = rules_of c.args.rules.now (known_of c.args.known.now) in
    let k = c.in-Some.known in
    let d = described_of k.dataset in
    let view = header_view c.args.look.now in
    let seen = c.in-Some-view.seen in
    let same : c.shows.result ≡ true = (let z = c.if-not-shows.false in cc) in
    let long = k.table.ok.0 in
    let none : c.len-2.result ≡ 0 = eqb-true c.len-2.result 0 e in
    let empty : length k.absent.items ≡ 0 = omega (arith, none, c.len-2.ensures, k.absent.ok.0) in
    let few : needed d ≤ limit_of reader_limits d.layout.index = omega (arith, c.needed-needed.ensures, c.if-from-needed.false, c.from.ensures, c.limit.ensures.exact) in
    let count : needed d ≡ length k.table.items = omega (arith, c.needed-needed.ensures, c.if-needed-len.false, c.len.ensures, long) in
    let defined : (i : ℕ) → i < length k.table.items → get_or k.table.items i undefined ≢ undefined = λ i h. known_first k.table.items i (omega (arith, h, unknown_behind k.table.items 0 0 (omega (arith, empty, ap length k.listed)), ap length k.listed, empty)) in
    idle_is g (reading_of k) view seen refl (ap known_of c.in-Some.is) (c.shows.ensures same) (k.seen seen c.in-Some-view.is) c.if-known-rules.false few count defined
