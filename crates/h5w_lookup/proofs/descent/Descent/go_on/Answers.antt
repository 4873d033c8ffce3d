use Rattle.std.proofs.Common.{◌≡◌, ◌<◌, ◌≤◌, ◌∙◌, ◌∷◌, [], length, ap, sym, arith}
use Rattle.h5w_model.specs.Calls.{known_table}
use Rattle.h5w_model.specs.Tables.{needed}
use Rattle.h5w_lookup.specs.Attempts.{known_of, rules_of}
use Rattle.h5w_lookup.specs.Indexes.{in_place_of}
use Rattle.h5w_dataset.specs.Described.{described_of}
use Rattle.h5w_lookup.specs.Slots.{after_found}
use Rattle.h5w_lookup.specs.Unknown.{unknown_at}
use Rattle.h5w_lookup.proofs.UnknownLemmas.{unknown_less}
use Rattle.std.proofs.lemmas.List.{length-append}
use Rattle.h5w_lookup.specs.Stores.{kept}
use Rattle.h5w_lookup.proofs.IndexLemmas.{index_below, some_across}
use Rattle.h5w_lookup.proofs.DescentLemmas.{slots_done, slots_at, slots_push}
use Rattle.h5w_lookup.proofs.descent.Descent.go_on.Goals as goal

pub returns-in-Miss : goal.returns-in-Miss
returns-in-Miss c =
    let g = rules_of c.args.rules.now (known_of c.args.known.now) in
    let s = c.args.self in
    let d = described_of s.dataset in
    let e = in_place_of s.index in
    let known = known_table (known_of c.args.known.now) d in
    let xs = c.loop-i.found.items in
    let less : c.loop-i.i < needed d = omega (arith, c.loop-i-test.true, c.needed-needed.ensures) in
    c.in_ok-wait-in-Miss.ensures g
    ∙ c.in-Miss.ensures.exact (after_found g.place known d e xs)
    ∙ slots_at g.place known d e (kept c.loop-i.store) c.keys_across-across.result c.loop-i.i xs c.keys_across-across.ensures c.loop-i.invariant.at less
    ∙ c.loop-i.invariant.same

pub loop-i-preserved : goal.loop-i-preserved
loop-i-preserved c =
    let place = c.args.rules.now.place in
    let s = c.args.self in
    let d = described_of s.dataset in
    let e = in_place_of s.index in
    let known = known_table (known_of c.args.known.now) d in
    let a = c.in-Hit.address in
    let xs = c.loop-i.found.items in
    let less : c.loop-i.i < needed d = omega (arith, c.loop-i-test.true, c.needed-needed.ensures) in
    let count : c.len-in-loop-i.result ≡ length c.follow.new.found.items = omega (arith, c.len-in-loop-i.ensures, c.follow.new.found.ok.0) in
    record {
      at = c.unknown-i-in-loop-i.ensures ∙ ap (unknown_at known) count;
      same = c.in_ok-follow.ensures.same place
          ∙ slots_push place known d e (kept c.chunk.new.store) a xs c.push.new.self.items c.in_ok-push.ensures.items
          ∙ c.in-Hit.ensures.exact (after_found place known d e xs)
          ∙ slots_at place known d e (kept c.loop-i.store) c.keys_across-across.result c.loop-i.i xs c.keys_across-across.ensures c.loop-i.invariant.at less
          ∙ c.loop-i.invariant.same;
    }

pub loop-i-smaller : goal.loop-i-smaller
loop-i-smaller c =
    let s = c.args.self in
    let known = known_table (known_of c.args.known.now) (described_of s.dataset) in
    let xs = c.loop-i.found.items in
    let ys = c.follow.new.found.items in
    let more : length xs < length ys = omega (arith, c.in_ok-follow.ensures.more, ap length c.in_ok-push.ensures.items, length-append xs (c.in-Hit.address ∷ [])) in
    let count : c.len-in-loop-i.result ≡ length ys = omega (arith, c.len-in-loop-i.ensures, c.follow.new.found.ok.0) in
    let next : c.unknown-i-in-loop-i.result ≡ unknown_at known (length ys) = c.unknown-i-in-loop-i.ensures ∙ ap (unknown_at known) count in
    omega (arith, c.loop-i-test.true, c.loop-i.invariant.at, next, unknown_less known (length xs) (length ys) more)

pub returns : goal.returns
returns c =
    let place = c.args.rules.now.place in
    let s = c.args.self in
    let d = described_of s.dataset in
    let known = known_table (known_of c.args.known.now) d in
    let behind : needed d ≤ c.loop-i.i = omega (arith, c.loop-i-test.false, c.needed-needed.ensures) in
    sym (slots_done place known d (in_place_of s.index) (kept c.loop-i.store) c.loop-i.found.items (omega (arith, behind, c.loop-i.invariant.at))) ∙ c.loop-i.invariant.same

pub chunk-requires : goal.chunk-requires
chunk-requires c =
    let d = described_of c.args.self.dataset in
    let less : c.loop-i.i < needed d = omega (arith, c.loop-i-test.true, c.needed-needed.ensures) in
    record {
      indexed = index_below c.args.self.index (needed d) c.loop-i.i less c.args.self.indexed;
      some = some_across d c.loop-i.i c.keys_across-across.result less c.keys_across-across.ensures;
    }

pub follow-requires : goal.follow-requires
follow-requires c = record { few = c.args.self.few; indexed = c.args.self.indexed; ahead = c.in-Hit.ensures.ahead }
