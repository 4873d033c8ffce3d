-- Chunks that may have got an address: what each call of the index does to that.
use Rattle.std.proofs.Common.{◌≡◌, ◌≢◌, ◌⊎◌, ℕ, zero, suc, ◌+◌, ◌*◌, ◌/◌, Bool, true, false, List, [], ◌∷◌, ◌++◌, length, Option, Some, None, refl, sym, ap, ◌∙◌, inl, inr, arith, eq-eqb}
use Rattle.std.specs.List.{All, slice_get}
use Rattle.std.proofs.lemmas.Bool.{cases_Bool, cond-false, cond-true, eqb-true, ne_eqb}
use Rattle.std.proofs.lemmas.List.Elements.{All-cons, All-head, All-nil, All-push, All-tail, All-weaker}
use Rattle.h5w_model.specs.Numbers.{undefined}
use Rattle.h5w_model.specs.Datasets.{Described}
use Rattle.h5w_model.specs.Tables.{chunks_across, key_equal}
use Rattle.h5w_model.specs.declared.cell.Key.{Key}
use Rattle.h5w_model.specs.declared.piece.Write.{Write}
use Rattle.h5w_space.specs.Space.{Space}
use Rattle.h5w_cache.specs.declared.moves.Move.{Move}
use Rattle.h5w_chunks.specs.Shares.{touched_key}
use Rattle.h5w_chunks.proofs.KeyLemmas.{array_key, touched_once}
use Rattle.h5w_bt.proofs.KeyLemmas.{equal-is, equal-self}
use Rattle.h5w_array_laws.specs.ArrayStores as arrays
use Rattle.h5w_array_laws.proofs.NumberedLemmas.{plans_numbers}
use Rattle.h5w_bt_index.specs.Index.{address_of}
use Rattle.h5w_index.specs.Views.{IndexView, an_array, a_tree, HasSlot, IsReached, IsSound, address_in, is_key}
use Rattle.h5w_index.specs.Steps.{IsHeld, IsPlan, IsSet, IsUnset}
use Rattle.h5w_index.specs.Told.{IsLike}
use Rattle.h5w_index.specs.Marks.{IsTouched}
use Rattle.h5w_index.specs.Placing.{Fits, IsOwn, IsPartly, OwnLaws}
use Rattle.h5w_index.proofs.MarkLemmas.{mark_laws}
use Rattle.h5w_index.proofs.ReachLemmas.{reach_laws}
use Rattle.h5w_index.proofs.ToldLemmas.{held_tells, like_laws, set_tells, unset_tells}

-- ---- Lists

all_front : {A : Type 0} (P : A → Type 0) (xs ys : List A) → All P (xs ++ ys) → All P xs
all_front P [] ys all = All-nil P
all_front P (x ∷ xs) ys all = All-cons P x xs (All-head P x (xs ++ ys) all) (all_front P xs ys (All-tail P x (xs ++ ys) all))

all_last : {A : Type 0} (P : A → Type 0) (xs : List A) (y : A) → All P (xs ++ y ∷ []) → P y
all_last P [] y all = All-head P y [] all
all_last P (x ∷ xs) y all = all_last P xs y (All-tail P x (xs ++ y ∷ []) all)

-- an element of a list with one more behind it
pub get_pushed : {A : Type 0} (xs : List A) (y : A) (k : ℕ) (x : A) → slice_get (xs ++ y ∷ []) k ≡ Some x → (slice_get xs k ≡ Some x) ⊎ ((k ≡ length xs) × (y ≡ x))
get_pushed [] y zero x at = inr (refl, one y x at)
  where
    one : {A : Type 0} (a b : A) → ◌≡◌ {A = Option A} (Some a) (Some b) → a ≡ b
    one a b e = cc
get_pushed {A} [] y (suc k) x at = absurd (let clash : ◌≡◌ {A = Option A} None (Some x) = at in cc)
get_pushed (z ∷ xs) y zero x at = inl at
get_pushed (z ∷ xs) y (suc k) x at =
    elim (get_pushed xs y k x at) [
      | inl before ↦ inl before
      | inr last ↦ inr (ap suc last.0, last.1)
    ]

-- ---- Keys

pub own_key : (v : IndexView) (key : Key) → is_key v key key ≡ true
own_key (an_array v) key = eq-eqb key.i key.i refl
own_key (a_tree p v) key = equal-self key

-- a key that is this one to the index has its address
pub same_address : (v : IndexView) (key other : Key) → is_key v key other ≡ true → address_in v other ≡ address_in v key
same_address (an_array v) key other e = ap (arrays.map_of v) (eqb-true other.i key.i e)
same_address (a_tree p v) key other e = ap (λ (k : Key). address_of v k) (sym (equal-is key other e))

not_true : (b : Bool) → (b ≡ true → ⊥) → b ≡ false
not_true true h = absurd (h refl)
not_true false h = refl

-- two touched chunks are not one to the index
pub apart_keys : (d : Described) (v : IndexView) (from j k : ℕ) → Fits d v → j ≢ k → is_key v (touched_key d from j) (touched_key d from k) ≡ false
apart_keys d (an_array v) from j k fits ne =
    let base : ℕ = from / d.layout.chunk_rows * chunks_across d in
    let first : (touched_key d from j).i ≡ base + j = ap (λ (key : Key). key.i) (array_key d (base + j) fits.kind) in
    let second : (touched_key d from k).i ≡ base + k = ap (λ (key : Key). key.i) (array_key d (base + k) fits.kind) in
    ne_eqb (touched_key d from k).i (touched_key d from j).i (λ e. ne (omega (arith, e, first, second)))
apart_keys d (a_tree p v) from j k fits ne = not_true (key_equal (touched_key d from j) (touched_key d from k)) (λ e. ne (touched_once d from j k fits.some (equal-is (touched_key d from j) (touched_key d from k) e)))

-- keys of two lines are not one
pub lines_apart : (v : IndexView) (key other : Key) → key.i ≢ other.i → is_key v key other ≡ false
lines_apart (an_array v) key other ne = ne_eqb other.i key.i (λ e. ne (sym e))
lines_apart (a_tree p v) key other ne = not_true (key_equal key other) (λ e. ne (ap (λ (k : Key). k.i) (equal-is key other e)))

-- ---- An index that was made here

pub own_laws : OwnLaws
own_laws = record { held = held; set = set; unset = unset; planned = planned }
  where
    held : (key : Key) (v w : IndexView) → IsHeld key v w → IsOwn v → IsOwn w
    held key (an_array v) (an_array w) h o = record { headed = h.held.headed o.headed; numbered = h.numbered o.numbered }
    held key (a_tree p v) (a_tree q w) h o = tt
    held key (an_array v) (a_tree q w) h o = absurd h
    held key (a_tree p v) (an_array w) h o = absurd h

    set : (key : Key) (address : ℕ) (v w : IndexView) → IsSet key address v w → IsOwn v → IsOwn w
    set key address (an_array v) (an_array w) h o = record { headed = h.set.headed o.headed; numbered = h.numbered o.numbered }
    set key address (a_tree p v) (a_tree q w) h o = tt
    set key address (an_array v) (a_tree q w) h o = absurd h
    set key address (a_tree p v) (an_array w) h o = absurd h

    unset : (key : Key) (v w : IndexView) → IsUnset key v w → IsOwn v → IsOwn w
    unset key (an_array v) (an_array w) h o = record { headed = h.unset.headed o.headed; numbered = h.numbered o.numbered }
    unset key (a_tree p v) (a_tree q w) h o = tt
    unset key (an_array v) (a_tree q w) h o = absurd h
    unset key (a_tree p v) (an_array w) h o = absurd h

    planned : (v : IndexView) (s : Space) (ms : List Move) (copies fixed : List Write) (w : IndexView) (t : Space) → IsSound v → IsPlan v s ms copies fixed w t → IsOwn v → IsOwn w
    planned (an_array v) s ms copies fixed (an_array w) t is plan o = record { headed = plan.headed o.headed; numbered = plans_numbers v s ms copies fixed w t plan is o.numbered }
    planned (a_tree p v) s ms copies fixed (a_tree q w) t is plan o = tt
    planned (an_array v) s ms copies fixed (a_tree q w) t is plan o = absurd plan
    planned (a_tree p v) s ms copies fixed (an_array w) t is plan o = absurd plan

-- ---- Chunks that may have got an address

-- where readers look for a key they look for one that is it to the index
reach_as : (v : IndexView) (key other : Key) → is_key v key other ≡ true → IsReached v key → IsReached v other
reach_as (an_array v) key other e low = reach_laws.lower (an_array v) key other (let same = eqb-true other.i key.i e in omega (arith, same)) low
reach_as (a_tree p v) key other e low = tt

pub partly_none : (d : Described) (to : ℕ) (v : IndexView) → IsSound v → IsPartly d to v [] v
partly_none d to v is = record {
  like = like_laws.itself v is;
  slots = All-nil (HasSlot v);
  touches = All-nil (IsTouched d d.shape.rows to);
  absent = All-nil (λ key. address_in v key ≡ undefined);
  rest = λ key none. refl;
  own = λ o. o;
  marks = λ m. m;
  reach = λ key there low. low;
}

slots_stay : (w u : IndexView) (added : List Key) → IsLike w u → All (HasSlot w) added → All (HasSlot u) added
slots_stay w u added like slots = All-weaker (HasSlot w) (HasSlot u) like.slots added slots

pub partly_held : (d : Described) (to : ℕ) (key : Key) (v w u : IndexView) (added : List Key) → IsTouched d d.shape.rows to key → IsHeld key w u → IsPartly d to v added w → IsPartly d to v added u
partly_held d to key v w u added t h p =
    let told = held_tells key w u p.like.sound h in
    record {
      like = like_laws.onward v w u p.like told.like;
      slots = slots_stay w u added told.like p.slots;
      touches = p.touches;
      absent = p.absent;
      rest = λ other none. told.map other ∙ p.rest other none;
      own = λ o. own_laws.held key w u h (p.own o);
      marks = λ m. mark_laws.held d d.shape.rows to key w u p.like.sound t h (p.marks m);
      reach = λ other there low. reach_laws.held key other w u h (p.reach other (λ e. there (told.map other ∙ e)) low);
    }

-- a chunk gets an address
pub partly_set : (d : Described) (to : ℕ) (key : Key) (address : ℕ) (v w u : IndexView) (added : List Key) → IsTouched d d.shape.rows to key → address ≢ undefined → address_in v key ≡ undefined → IsSet key address w u
    → IsPartly d to v added w → IsPartly d to v (added ++ key ∷ []) u
partly_set d to key address v w u added t defined none h p =
    let told = set_tells key address w u p.like.sound defined h in
    record {
      like = like_laws.onward v w u p.like told.like;
      slots = All-push (HasSlot u) added key (slots_stay w u added told.like p.slots) told.slot;
      touches = All-push (IsTouched d d.shape.rows to) added key p.touches t;
      absent = All-push (λ other. address_in v other ≡ undefined) added key p.absent none;
      rest = λ other differ.
          let P : Key → Type 0 = λ a. is_key v a other ≡ false in
          let differs : is_key v key other ≡ false = all_last P added key differ in
          told.map other ∙ cond-false (is_key w key other) address (address_in w other) (p.like.one key other ∙ differs) ∙ p.rest other (all_front P added (key ∷ []) differ);
      own = λ o. own_laws.set key address w u h (p.own o);
      marks = λ m. mark_laws.set d d.shape.rows to key address w u p.like.sound t h (p.marks m);
      reach = λ other there low.
          elim (cases_Bool (is_key w key other)) [
            | inl e ↦ reach_as u key other (told.like.one key other ∙ e) (reach_laws.new key address w u h)
            | inr e ↦ reach_laws.set key other address w u h (p.reach other (λ none. there (told.map other ∙ cond-false (is_key w key other) address (address_in w other) e ∙ none)) low)
          ];
    }

-- it has none again
pub partly_unset : (d : Described) (to : ℕ) (key : Key) (v w u : IndexView) (added : List Key) → IsUnset key w u → IsPartly d to v (key ∷ added) w → IsPartly d to v added u
partly_unset d to key v w u added h p =
    let slot = All-head (HasSlot w) key added p.slots in
    let t = All-head (IsTouched d d.shape.rows to) key added p.touches in
    let told = unset_tells key w u p.like.sound slot h in
    record {
      like = like_laws.onward v w u p.like told.like;
      slots = slots_stay w u added told.like (All-tail (HasSlot w) key added p.slots);
      touches = All-tail (IsTouched d d.shape.rows to) key added p.touches;
      absent = All-tail (λ other. address_in v other ≡ undefined) key added p.absent;
      rest = λ other differ.
          elim (cases_Bool (is_key v key other)) [
            | inl e ↦
                let none : address_in v key ≡ undefined = All-head (λ (a : Key). address_in v a ≡ undefined) key added p.absent in
                told.map other ∙ cond-true (is_key w key other) undefined (address_in w other) (p.like.one key other ∙ e) ∙ sym (same_address v key other e ∙ none)
            | inr e ↦ told.map other ∙ cond-false (is_key w key other) undefined (address_in w other) (p.like.one key other ∙ e) ∙ p.rest other (All-cons (λ a. is_key v a other ≡ false) key added e differ)
          ];
      own = λ o. own_laws.unset key w u h (p.own o);
      marks = λ m. mark_laws.unset d d.shape.rows to key w u p.like.sound t h (p.marks m);
      reach = λ other there low.
          elim (cases_Bool (is_key w key other)) [
            | inl e ↦ absurd (there (told.map other ∙ cond-true (is_key w key other) undefined (address_in w other) e))
            | inr e ↦ reach_laws.unset key w u h other there (p.reach other (λ none. there (told.map other ∙ cond-false (is_key w key other) undefined (address_in w other) e ∙ none)) low)
          ];
    }
