use Rattle.std.proofs.Common.{◌≡◌, ◌∙◌, ◌+◌, ◌<◌, ℕ, List, length, get_or, ap, arith}
use Rattle.h5w_lookup.specs.Unknown.{absent_from, unknown_at}
use Rattle.h5w_lookup.proofs.UnknownLemmas.{absent_is, unknown_behind}
use Rattle.h5w_lookup.proofs.known.Known.unknown.Goals as goal

pub returns-in-Some : goal.returns-in-Some
returns-in-Some c =
    let k = c.args.self.now in
    let n = c.args.n in
    let table = k.table.items in
    let found = c.in-Some.ensures.lookup.3 in
    let same = c.deref.ensures.value ∙ k.listed in
    let inside : n < length (absent_from 0 table) = omega (arith, found.0, ap length same) in
    let first : 0 + unknown_at table n ≡ unknown_at table n = omega arith in
    found.1 0 ∙ ap (λ (xs : List ℕ). get_or xs n 0) same ∙ absent_is table 0 n inside ∙ first

pub returns-in-None : goal.returns-in-None
returns-in-None c =
    let k = c.args.self.now in
    let table = k.table.items in
    let past = c.in-None.ensures.lookup.3 in
    let same = ap length k.listed in
    let all = unknown_behind table 0 c.args.n (omega (arith, past, ap length c.deref.ensures.value, same)) in
    omega (arith, all, same, c.len.ensures, c.len-in-None.ensures, k.table.ok.0, k.absent.ok.0)
