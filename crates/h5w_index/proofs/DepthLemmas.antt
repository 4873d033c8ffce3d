-- Where no key is too much for an index.
use Rattle.std.proofs.Common.{◌≡◌, ℕ, ◌*◌, ◌<◌, ◌≤◌, false, List, length, refl, sym, ap, ◌∙◌, subst, inl, inr, arith}
use Rattle.std.proofs.lemmas.Bool.{cases_Bool}
use Rattle.h5w_model.specs.Tables.{key_equal}
use Rattle.h5w_model.specs.declared.cell.Key.{Key}
use Rattle.h5w_model.specs.declared.piece.Write.{Write}
use Rattle.h5w_space.specs.Space.{Space}
use Rattle.h5w_cache.specs.declared.moves.Move.{Move}
use Rattle.h5w_bt.specs.declared.records.Record.{Record}
use Rattle.h5w_bt.proofs.KeyLemmas.{equal-is}
use Rattle.h5w_bt_nodes.specs.Nodes.{address_in}
use Rattle.h5w_bt_index.specs.Index.{Index, IsFilled, IsIndex, IsThere, KeepsShares, inserted, no_tree, records}
use Rattle.h5w_bt_index.specs.Plans.{news, planned as planned_tree}
use Rattle.h5w_bt_index.proofs.Laws.{index_shaped, inserted-records, inserted-shares}
use Rattle.h5w_bt_index.proofs.Placed.{planned_shares}
use Rattle.h5w_bt_index.proofs.Rising.{put-finds_other}
use Rattle.h5w_bt_index.proofs.Shares.{filled_kept}
use Rattle.h5w_tree_index_laws.specs.TreeDepths.{KeysWithin}
use Rattle.h5w_tree_index_laws.proofs.TreeDepthLemmas.{deep_is_many, within_is_few}
use Rattle.h5w_index.specs.Views.{IndexView, an_array, a_tree, HasSlot, IsSound}
use Rattle.h5w_index.specs.Steps.{IsDeep, IsHeld, IsPlan, IsSet, IsUnset, TreeSet, TreeUnset, blank}
use Rattle.h5w_index.specs.Depths.{AreWithin, DepthLaws, IsShallowTree}
use Rattle.h5w_index.proofs.ToldLemmas.{unset_record}

-- a key that has a record once another was put is that one's, or had it before
there_before : (x : Record) (v : Index) (key : Key) → IsIndex v → key_equal x.key key ≡ false → IsThere (inserted x v) key → IsThere v key
there_before x v key i other there none = there (ap (address_in key) (inserted-records x v i) ∙ put-finds_other x key (records v) other ∙ none)

put_within : (bands across : ℕ) (x : Record) (v : Index) → IsIndex v → x.key.i < bands → x.key.j < across → KeysWithin bands across v → KeysWithin bands across (inserted x v)
put_within bands across x v i low left within key there =
    elim (cases_Bool (key_equal x.key key)) [
      | inl e ↦ subst (λ (k : Key). (k.i < bands) × (k.j < across)) (equal-is x.key key e) (low, left)
      | inr e ↦ within key (there_before x v key i e there)
    ]

tree_set : (bands across : ℕ) (x : Record) (v w : Index) → IsIndex v → x.key.i < bands → x.key.j < across → TreeSet x v w → IsShallowTree bands across v → IsShallowTree bands across w
tree_set bands across x v w i low left h within = record {
  keys = subst (KeysWithin bands across) (sym h.is) (put_within bands across x v i low left within.keys);
  filled = filled_kept v w (subst (KeepsShares v) (sym h.is) (inserted-shares x v (index_shaped v i))) within.filled;
}

tree_unset : (bands across : ℕ) (key : Key) (v w : Index) → IsIndex v → IsThere v key → TreeUnset key v w → IsShallowTree bands across v → IsShallowTree bands across w
tree_unset bands across key v w i there h within =
    let own = within.keys key there in
    tree_set bands across (blank key) v w i own.0 own.1 (unset_record key v w h) within

too_many : (n most : ℕ) → 1114349 ≤ n → n ≤ most → most ≤ 1114348 → ⊥
too_many n most a b c = omega (arith, a, b, c)

pub depth_laws : DepthLaws
depth_laws = record { none = none; more = more; held = held; set = set; unset = unset; planned = planned; shallow = shallow }
  where
    none : (bands across place : ℕ) → AreWithin bands across (a_tree place no_tree)
    none bands across place = record { keys = λ key there. absurd (there refl); filled = omega arith }

    more : (bands across later : ℕ) (v : IndexView) → bands ≤ later → AreWithin bands across v → AreWithin later across v
    more bands across later (an_array v) less within = tt
    more bands across later (a_tree p v) less within = record { keys = λ key there. let own = within.keys key there in (omega (arith, own.0, less), own.1); filled = within.filled }

    held : (bands across : ℕ) (key : Key) (v w : IndexView) → IsSound v → key.i < bands → key.j < across → IsHeld key v w → AreWithin bands across v → AreWithin bands across w
    held bands across key (an_array v) (an_array w) is low left h within = tt
    held bands across key (a_tree p v) (a_tree q w) is low left h within = subst (IsShallowTree bands across) (sym h.1) within
    held bands across key (an_array v) (a_tree q w) is low left h within = absurd h
    held bands across key (a_tree p v) (an_array w) is low left h within = absurd h

    set : (bands across : ℕ) (key : Key) (address : ℕ) (v w : IndexView) → IsSound v → key.i < bands → key.j < across → IsSet key address v w → AreWithin bands across v → AreWithin bands across w
    set bands across key address (an_array v) (an_array w) is low left h within = tt
    set bands across key address (a_tree p v) (a_tree q w) is low left h within = tree_set bands across (record { address = address; key = key }) v w is.index low left h.1 within
    set bands across key address (an_array v) (a_tree q w) is low left h within = absurd h
    set bands across key address (a_tree p v) (an_array w) is low left h within = absurd h

    unset : (bands across : ℕ) (key : Key) (v w : IndexView) → IsSound v → HasSlot v key → IsUnset key v w → AreWithin bands across v → AreWithin bands across w
    unset bands across key (an_array v) (an_array w) is slot h within = tt
    unset bands across key (a_tree p v) (a_tree q w) is slot h within = tree_unset bands across key v w is.index slot h.1 within
    unset bands across key (an_array v) (a_tree q w) is slot h within = absurd h
    unset bands across key (a_tree p v) (an_array w) is slot h within = absurd h

    planned : (bands across : ℕ) (v : IndexView) (s : Space) (ms : List Move) (copies fixed : List Write) (w : IndexView) (t : Space) → IsPlan v s ms copies fixed w t → AreWithin bands across v → AreWithin bands across w
    planned bands across (an_array v) s ms copies fixed (an_array w) t plan within = tt
    planned bands across (a_tree p v) s ms copies fixed (a_tree q w) t plan within = record {
      keys = λ key there. within.keys key (λ none. there (ap (address_in key) plan.1.records ∙ none));
      filled = subst IsFilled (sym plan.1.index) (filled_kept v (planned_tree (news ms) v) (planned_shares (news ms) v) within.filled);
    }
    planned bands across (an_array v) s ms copies fixed (a_tree q w) t plan within = absurd plan
    planned bands across (a_tree p v) s ms copies fixed (an_array w) t plan within = absurd plan

    shallow : (bands across : ℕ) (key : Key) (v : IndexView) → IsSound v → AreWithin bands across v → bands * across ≤ 1114348 → IsDeep v key → ⊥
    shallow bands across key (an_array v) is within few deep = deep
    shallow bands across key (a_tree p v) is within few deep =
        let many = deep_is_many v key is.index within.filled deep in
        let most = within_is_few v bands across is.index within.keys in
        absurd (too_many (length (records v)) (bands * across) many most few)
