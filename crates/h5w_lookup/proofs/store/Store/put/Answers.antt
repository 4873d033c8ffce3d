use Rattle.std.proofs.Common.{◌≡◌, ℕ, nat_eq, ap, ◌∙◌}
use Rattle.lru.specs.LruCache.{LruCache, put_entries}
use Rattle.h5w_lookup.specs.Keyed.{kept_entries, IsKeyed}
use Rattle.h5w_lookup.specs.declared.block.Block.{Block}
use Rattle.h5w_lookup.proofs.StoreLemmas.{used_put, keyed_put, either}
use Rattle.h5w_lookup.proofs.store.Store.put.Goals as goal

pub invariant_of-self : goal.invariant_of-self
invariant_of-self c =
    let s = c.args.self.now in
    let v = c.args.block in
    let number = c.number-key.ensures in
    record {
      keyed = either (λ (x : LruCache ℕ Block). IsKeyed x.entries) c.put.result c.put.new.self _ s.cache c.put.ensures.entries c.put.ensures.err
          (rw number (keyed_put s.cache v s.room s.keyed)) s.keyed;
      room = either (λ (x : LruCache ℕ Block). x.cap ≡ 16) c.put.result c.put.new.self _ s.cache c.put.ensures.entries c.put.ensures.err s.room s.room;
    }

pub returns : goal.returns
returns c =
    let s = c.args.self.now in
    let v = c.args.block in
    let put = c.in_ok-put.ensures.entries in
    ap (λ (x : LruCache ℕ Block). kept_entries x.entries) put
    ∙ ap (λ key. kept_entries (put_entries nat_eq s.cache key v)) c.number-key.ensures
    ∙ used_put s.cache v s.room s.keyed c.len-count.ensures.valid
