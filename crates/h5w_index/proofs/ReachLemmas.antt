-- For which chunks readers look, call by call.
use Rattle.std.proofs.Common.{◌≡◌, ◌≢◌, ℕ, ◌≤◌, List, get_or, ap, arith}
use Rattle.h5w_model.specs.Numbers.{undefined}
use Rattle.h5w_model.specs.declared.cell.Key.{Key}
use Rattle.h5w_model.specs.declared.piece.Write.{Write}
use Rattle.h5w_space.specs.Space.{Space}
use Rattle.h5w_cache.specs.declared.moves.Move.{Move}
use Rattle.h5w_array_laws.proofs.NumberedLemmas.{six_stay}
use Rattle.h5w_ea_index.specs.Reach.{max_index_set}
use Rattle.h5w_ea_index.proofs.WayLemmas.{numbered_reach}
use Rattle.h5w_index.specs.Views.{IndexView, an_array, a_tree, IsReached, IsSound, KeepsReach, address_in}
use Rattle.h5w_index.specs.Steps.{IsHeld, IsPlan, IsSet, IsUnset}
use Rattle.h5w_index.specs.Placing.{IsOwn, ReachLaws}

pub reach_laws : ReachLaws
reach_laws = record { held = held; set = set; new = new; unset = unset; planned = planned; own = own; lower = lower }
  where
    held : (key other : Key) (v w : IndexView) → IsHeld key v w → IsReached v other → IsReached w other
    held key other (an_array v) (an_array w) h low = omega (arith, h.reach, low)
    held key other (a_tree p v) (a_tree q w) h low = tt
    held key other (an_array v) (a_tree q w) h low = absurd h
    held key other (a_tree p v) (an_array w) h low = absurd h

    set : (key other : Key) (address : ℕ) (v w : IndexView) → IsSet key address v w → IsReached v other → IsReached w other
    set key other address (an_array v) (an_array w) h low = omega (arith, h.reach, low)
    set key other address (a_tree p v) (a_tree q w) h low = tt
    set key other address (an_array v) (a_tree q w) h low = absurd h
    set key other address (a_tree p v) (an_array w) h low = absurd h

    new : (key : Key) (address : ℕ) (v w : IndexView) → IsSet key address v w → IsReached w key
    new key address (an_array v) (an_array w) h = omega (arith, h.reach)
    new key address (a_tree p v) (a_tree q w) h = tt
    new key address (an_array v) (a_tree q w) h = absurd h
    new key address (a_tree p v) (an_array w) h = absurd h

    unset : (key : Key) (v w : IndexView) → IsUnset key v w → KeepsReach v w
    unset key (an_array v) (an_array w) h other there low = h.reach other.i there low
    unset key (a_tree p v) (a_tree q w) h other there low = tt
    unset key (an_array v) (a_tree q w) h other there low = absurd h
    unset key (a_tree p v) (an_array w) h other there low = absurd h

    planned : (v : IndexView) (s : Space) (ms : List Move) (copies fixed : List Write) (w : IndexView) (t : Space) → IsSound v → IsPlan v s ms copies fixed w t → (key : Key) → IsReached v key → IsReached w key
    planned (an_array v) s ms copies fixed (an_array w) t is plan key low =
        let same : max_index_set w ≡ max_index_set v = ap (λ l. get_or l 4 0) (six_stay v s ms copies fixed w t plan.plan is) in
        omega (arith, same, low)
    planned (a_tree p v) s ms copies fixed (a_tree q w) t is plan key low = tt
    planned (an_array v) s ms copies fixed (a_tree q w) t is plan key low = absurd plan
    planned (a_tree p v) s ms copies fixed (an_array w) t is plan key low = absurd plan

    own : (v : IndexView) (key : Key) → IsOwn v → address_in v key ≢ undefined → IsReached v key
    own (an_array v) key o there = numbered_reach v key.i o.numbered there
    own (a_tree p v) key o there = tt

    lower : (v : IndexView) (key other : Key) → other.i ≤ key.i → IsReached v key → IsReached v other
    lower (an_array v) key other less low = omega (arith, less, low)
    lower (a_tree p v) key other less low = tt
