use Rattle.std.proofs.Common.{◌≡◌, ◌∙◌, Some, get_or, refl, ap, subst}
use Rattle.h5w_model.specs.Numbers.{undefined}
use Rattle.h5w_model.specs.Programs.{kept_bytes, used}
use Rattle.h5w_model.specs.Arrays.{slots_len, super_block_of}
use Rattle.h5w_model.specs.Tables.{secondary_block, secondary_slot}
use Rattle.h5w_lookup.specs.Ahead.{IsDataUsed}
use Rattle.h5w_lookup.specs.Blocks.{IsRead}
use Rattle.h5w_lookup.specs.Contents.{slots_in}
use Rattle.h5w_lookup.specs.Seeking.{store_rest}
use Rattle.h5w_lookup.specs.Stores.{kept}
use Rattle.h5w_lookup.proofs.AheadLemmas.{if_some, second_alone}
use Rattle.h5w_lookup.proofs.ahead.second.Goals as goal

pub returns-clause-none : goal.returns-clause-none
returns-clause-none c = λ none next.
    let a = c.args in
    let k = c.in-Some.ensures in
    let len = slots_len (super_block_of a.sblock).blocks in
    let some : kept_bytes secondary_block a.at len (kept a.store.now) ≡ Some k.bytes = rw (c.slots_len-len.ensures, c.sizes-blocks.ensures.blocks) at k.is_kept in
    let read : IsRead secondary_block a.at len k.bytes c.in-Some.content.now = rw (c.slots_len-len.ensures, c.sizes-blocks.ensures.blocks) at k.read in
    let then_used : kept c.touch.new.self ≡ used 16 secondary_block a.at len k.bytes (kept a.store.now) =
    subst (λ m. kept c.touch.new.self ≡ used 16 secondary_block a.at (slots_len m) k.bytes (kept a.store.now)) c.sizes-blocks.ensures.blocks (subst (λ m. kept c.touch.new.self ≡ used 16 secondary_block a.at m k.bytes (kept a.store.now)) c.slots_len-len.ensures (c.touch.ensures k.bytes k.is_kept)) in
    ap (λ ks. store_rest ks (secondary_slot a.at a.sblock a.block a.slot) next) (c.data.ensures.none none)
    ∙ second_alone a.at a.sblock a.block a.slot (kept a.store.now) (kept c.touch.new.self) k.bytes (slots_in c.in-Some.content.now) next c.if-at-eq-UNDEFINED.false some (read.of_second (super_block_of a.sblock).blocks refl refl) then_used

pub returns-clause-some : goal.returns-clause-some
returns-clause-some c =
    let a = c.args in
    let k = c.in-Some.ensures in
    let len = slots_len (super_block_of a.sblock).blocks in
    let some : kept_bytes secondary_block a.at len (kept a.store.now) ≡ Some k.bytes = rw (c.slots_len-len.ensures, c.sizes-blocks.ensures.blocks) at k.is_kept in
    let read : IsRead secondary_block a.at len k.bytes c.in-Some.content.now = rw (c.slots_len-len.ensures, c.sizes-blocks.ensures.blocks) at k.read in
    let then_used : kept c.touch.new.self ≡ used 16 secondary_block a.at len k.bytes (kept a.store.now) =
    subst (λ m. kept c.touch.new.self ≡ used 16 secondary_block a.at (slots_len m) k.bytes (kept a.store.now)) c.sizes-blocks.ensures.blocks (subst (λ m. kept c.touch.new.self ≡ used 16 secondary_block a.at m k.bytes (kept a.store.now)) c.slots_len-len.ensures (c.touch.ensures k.bytes k.is_kept)) in
    let q = get_or (slots_in c.in-Some.content.now) a.block undefined in
    let n = (super_block_of a.sblock).slots in
    if_some c.data.result c.data.ensures.some (λ w u. record {
      there = c.if-at-eq-UNDEFINED.false;
      bytes = k.bytes;
      slots = slots_in c.in-Some.content.now;
      is_kept = some;
      gives = read.of_second (super_block_of a.sblock).blocks refl refl;
      last = subst (λ ks. IsDataUsed q n a.slot ks (kept c.data.new.store) w) then_used
          (subst (λ m. IsDataUsed q m a.slot (kept c.touch.new.self) (kept c.data.new.store) w) c.sizes-blocks.ensures.slots
          (subst (λ p. IsDataUsed p c.sizes-blocks.result.1 a.slot (kept c.touch.new.self) (kept c.data.new.store) w) c.slot-address.ensures u));
    })
