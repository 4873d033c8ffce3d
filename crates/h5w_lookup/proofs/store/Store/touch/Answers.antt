use Rattle.std.proofs.Common.{ℕ, ◌≤◌, ◌∙◌, length, subst, sym, ap}
use Rattle.lru.specs.LruCache.{LruCache}
use Rattle.h5w_lookup.specs.Keyed.{kept_entries, IsKeyed}
use Rattle.h5w_lookup.specs.declared.block.Block.{Block}
use Rattle.h5w_lookup.proofs.StoreLemmas.{IsSmall, used_bytes, keyed_used}
use Rattle.h5w_lookup.proofs.store.Store.touch.Goals as goal

pub invariant_of-self : goal.invariant_of-self
invariant_of-self c =
    let s = c.args.self.now in
    record {
      keyed = subst (λ (x : LruCache ℕ Block). IsKeyed x.entries) (sym c.promote.ensures.entries) (keyed_used s.cache.entries c.number-key.result s.keyed);
      room = ap (λ (x : LruCache ℕ Block). x.cap) c.promote.ensures.entries ∙ s.room;
    }

pub returns : goal.returns
returns c = λ bytes some.
    let a = c.args in
    let s = a.self.now in
    let es = s.cache.entries in
    let small : IsSmall a.place a.len = record { low = c.ranges.place.fits; small = c.requires } in
    let valid = c.len-count.ensures.valid in
    let few : length es ≤ 16 = subst (λ n. length es ≤ n) s.room valid.1 in
    ap (λ (x : LruCache ℕ Block). kept_entries x.entries) c.promote.ensures.entries ∙ rw c.number-key.ensures (used_bytes a.kind a.place a.len es bytes small s.keyed valid.0 few some)
