use Rattle.std.proofs.Common.{◌≡◌, ◌<◌, ◌∙◌, ◌∷◌, [], true, Some, length, refl, sym, ap, arith}
use Rattle.std.proofs.lemmas.List.{length-append}
use Rattle.h5w_model.specs.Calls.{known_table}
use Rattle.h5w_model.specs.Programs.{kept_bytes}
use Rattle.h5w_model.specs.Tables.{address_behind, in_leaf, key_below, needed, tree_leaf}
use Rattle.h5w_model.specs.Trees.{btlf_len}
use Rattle.h5w_lookup.specs.Attempts.{known_of}
use Rattle.h5w_lookup.specs.Blocks.{IsRead}
use Rattle.h5w_dataset.specs.Described.{described_of}
use Rattle.h5w_bt.proofs.KeyLemmas.{below-trans, below-not_back}
use Rattle.h5w_lookup.specs.Seeking.{store_rest, next_rest}
use Rattle.h5w_lookup.specs.Slots.{after_found}
use Rattle.h5w_lookup.specs.Stores.{kept}
use Rattle.h5w_lookup.specs.Unknown.{unknown_at}
use Rattle.h5w_lookup.proofs.DescentLemmas.{slots_at, slots_push}
use Rattle.h5w_lookup.proofs.IndexLemmas.{some_across}
use Rattle.h5w_lookup.proofs.SpanLemmas.{span_records}
use Rattle.h5w_lookup.proofs.follow.take.Goals as goal

pub key_of-key-requires : goal.key_of-key-requires
key_of-key-requires c =
    let d = described_of c.args.d.now in
    let less : c.unknown-i.result < needed d = omega (arith, c.if-needed-i.false, c.needed-needed.ensures) in
    some_across d c.unknown-i.result c.keys_across-across.result less c.keys_across-across.ensures

pub loop-turn-init : goal.loop-turn-init
loop-turn-init c = record { more = omega arith; behind = λ k h. h; left = λ k h. refl; same = λ p is place. refl }

pub loop-turn-preserved : goal.loop-turn-preserved
loop-turn-preserved c =
    let d = described_of c.args.d.now in
    let known = known_table (known_of c.args.known.now) d in
    let ks = kept c.args.store.now in
    let s = c.args.span.now in
    let xs = c.loop-turn.found.items in
    let i = c.unknown-i.result in
    let across = c.keys_across-across.result in
    let key = c.key_of-key.result in
    let inv = c.loop-turn.invariant in
    let k = c.in-Some.ensures in
    let x = c.in-Some.content.now in
    let there : kept_bytes tree_leaf s.at (btlf_len s.n) ks ≡ Some k.bytes = rw (c.node_kind.ensures, c.node_len.ensures.exact) at k.is_kept in
    let read : IsRead tree_leaf s.at (btlf_len s.n) k.bytes x = rw (c.node_kind.ensures, c.node_len.ensures.exact) at k.read in
    let behind : c.is_below-behind.result ≡ true = (let z = c.if-not-behind.false in cc) in
    let before : c.is_below-before.result ≡ true = (let z = c.if-not-behind.false in cc) in
    let after : key_below c.loop-turn.last key ≡ true = sym c.is_below-behind.ensures ∙ behind in
    let low : key_below key s.bound ≡ true = sym c.is_below-before.ensures ∙ before in
    let count : c.len.result ≡ length xs = omega (arith, c.len.ensures, c.loop-turn.found.ok.0) in
    let number : i ≡ unknown_at known (length xs) = c.unknown-i.ensures ∙ ap (unknown_at known) count in
    let less : i < needed d = omega (arith, c.if-needed-i.false, c.needed-needed.ensures) in
    let more = inv.more in
    record {
      more = omega (arith, more, ap length c.in_ok-push.ensures.items, length-append xs (c.among_from-next.result.1 ∷ []));
      behind = λ j h. inv.behind j (below-trans c.loop-turn.last key j after h);
      left = λ j h. c.among_from-next.ensures.same j (below-not_back key j h) ∙ inv.left j (below-trans c.loop-turn.last key j after h);
      same = λ p is place.
          let next = after_found place known d p xs in
          slots_push place known d p ks c.among_from-next.result.1 xs c.push.new.self.items c.in_ok-push.ensures.items
          ∙ ap (next_rest ks next) (c.among_from-next.ensures.exact ∙ inv.left key after ∙ ap (in_leaf key) (c.records-records.ensures ∙ sym (span_records ks p s k.bytes x there read is)))
          ∙ sym (is.stand key (inv.behind key after) low next)
          ∙ ap (λ y. store_rest ks (address_behind p y) next) c.key_of-key.ensures
          ∙ slots_at place known d p ks across i xs c.keys_across-across.ensures number less
          ∙ inv.same p is place;
    }
