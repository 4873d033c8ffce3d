-- What the calls of an index tell, kind by kind.
use Rattle.std.proofs.Common.{◌≡◌, ◌≢◌, ℕ, Bool, true, false, List, [], ◌∷◌, ◌++◌, refl, sym, ap, ◌∙◌, subst, inl, inr, sum_by}
use Rattle.std.specs.Prelude.{if◌then◌else◌}
use Rattle.std.proofs.lemmas.Bool.{eq-eqb, ne_eqb}
use Rattle.h5w_model.specs.Numbers.{undefined}
use Rattle.h5w_model.specs.Findings.{Used}
use Rattle.h5w_model.specs.Tables.{key_equal}
use Rattle.h5w_model.specs.declared.cell.Key.{Key}
use Rattle.h5w_space.specs.Space.{Space}
use Rattle.h5w_cache.specs.Stores.{Store, is_changed, place_of}
use Rattle.h5w_cache.specs.StoreLaws.{Standing}
use Rattle.h5w_step_laws.specs.Ranges.{block_at, chunk_at}
use Rattle.h5w_array_laws.specs.Among as array_words
use Rattle.h5w_array_laws.specs.Parts.{holder, number_of}
use Rattle.h5w_array_laws.specs.ArrayStores as arrays
use Rattle.h5w_array_laws.specs.ArrayImages.{StandsArray}
use Rattle.h5w_bt.specs.declared.records.Record.{Record}
use Rattle.h5w_bt_index.specs.Marks.{clean_of}
use Rattle.h5w_bt_index.specs.Index.{Index, IsIndex, IsThere, address_of, inserted}
use Rattle.h5w_bt_index.proofs.Laws.{index_shaped, inserted-clean, inserted-map, inserted-shares, put-there}
use Rattle.h5w_bt_index.proofs.Replaced.{inserted_changed, inserted_there}
use Rattle.h5w_tree_index_laws.specs.TreeImages as trees
use Rattle.h5w_tree_index_laws.proofs.TreeInsertLemmas.{inserted_behind}
use Rattle.h5w_tree_index_laws.proofs.TreeMapLemmas as maps
use Rattle.h5w_tree_index_laws.proofs.TreeStandLemmas.{never_first}
use Rattle.h5w_index.specs.Views.{IndexView, an_array, a_tree, IsSoundTree}
use Rattle.h5w_index.specs.Steps.{ArrayHeld, ArraySet, ArrayUnset, TreeSet, TreeUnset, blank}
use Rattle.h5w_index.specs.Told.{HeldTells, HeldTold, IsLike, KeepsMarks, LikeLaws, SameBlocks, SameRanges, SameShares, SetTells, SetTold, UnsetTells, UnsetTold}
use Rattle.h5w_index.proofs.ArrayBehindLemmas as by_map

-- ---- Likeness

array_like : (v w : Store) → arrays.IsArray w → ((n : ℕ) → place_of w n ≡ place_of v n) → ((s : Space) → Standing v s → Standing w s) → ((img : List ℕ) → StandsArray v img → StandsArray w img)
    → ((n : ℕ) → is_changed v n ≡ true → is_changed w n ≡ true) → IsLike (an_array v) (an_array w)
array_like v w is places standing stands marks = record {
  kind = refl;
  place = places 846;
  fixed = λ i. block_at (places 846 i) 72 ∷ block_at (places 845 i) 298 ∷ [];
  blocks = places;
  marks = marks;
  shares = tt;
  sound = is;
  takes = λ key h. h;
  one = λ key other. refl;
  slots = λ key h. (h.0, marks (number_of (holder key.i)) h.1);
  stays = standing;
  stands = stands;
}

tree_itself : (p : ℕ) (v : Index) → IsSoundTree p v → IsLike (a_tree p v) (a_tree p v)
tree_itself p v is = record {
  kind = refl;
  place = refl;
  fixed = refl;
  blocks = λ f. refl;
  marks = λ part c. c;
  shares = λ share half h. h;
  sound = is;
  takes = λ key h. h;
  one = λ key other. refl;
  slots = λ key h. h;
  stays = λ s h. h;
  stands = λ img h. h;
}

never : (b : Bool) → b ≡ false → b ≡ true → ⊥
never b e f = let clash : false ≡ true = sym e ∙ f in cc

-- with another record, or one more
tree_like : (p : ℕ) (v : Index) (x : Record) → IsSoundTree p v → IsIndex (inserted x v) → IsLike (a_tree p v) (a_tree p (inserted x v))
tree_like p v x is j =
    let w : Index = inserted x v in
    record {
      kind = refl;
      place = refl;
      fixed = refl;
      blocks = (maps.inserted_renews x v is.index j).nodes;
      marks = λ part c. inserted-clean part x v (index_shaped v is.index) c;
      shares = inserted-shares x v (index_shaped v is.index);
      sound = record { index = j; defined = is.defined };
      takes = λ key h. h;
      one = λ key other. refl;
      slots = λ key h. inserted_there x v key is.index h;
      stays = λ s h. h;
      stands = λ img h. record {
        nodes = λ part clean. elim (h.nodes part (inserted-clean part x v (index_shaped v is.index) clean)) [ inl e ↦ absurd (never_first x v part e clean) | inr s ↦ inr s ];
        header = λ clean. absurd (never (clean_of w.depth w.root) (inserted_changed x v) clean);
      };
    }

-- the same tree, said otherwise
same_tree : (p q : ℕ) (v u w : Index) → q ≡ p → w ≡ u → IsLike (a_tree p v) (a_tree p u) → IsLike (a_tree p v) (a_tree q w)
same_tree p q v u w e f like = subst (λ r. IsLike (a_tree p v) (a_tree r w)) (sym e) (subst (λ (t : Index). IsLike (a_tree p v) (a_tree p t)) (sym f) like)

blocks_itself : (v : IndexView) → SameBlocks v v
blocks_itself (an_array v) = λ n. refl
blocks_itself (a_tree p v) = λ f. refl

blocks_onward : (u v w : IndexView) → SameBlocks u v → SameBlocks v w → SameBlocks u w
blocks_onward (an_array u) (an_array v) (an_array w) a b = λ n. b n ∙ a n
blocks_onward (a_tree p u) (a_tree q v) (a_tree r w) a b = λ f. b f ∙ a f
blocks_onward (an_array u) (an_array v) (a_tree r w) a b = absurd b
blocks_onward (an_array u) (a_tree q v) w a b = absurd a
blocks_onward (a_tree p u) (an_array v) w a b = absurd a
blocks_onward (a_tree p u) (a_tree q v) (an_array w) a b = absurd b

marks_itself : (v : IndexView) → KeepsMarks v v
marks_itself (an_array v) = λ n c. c
marks_itself (a_tree p v) = λ part c. c

marks_onward : (u v w : IndexView) → KeepsMarks u v → KeepsMarks v w → KeepsMarks u w
marks_onward (an_array u) (an_array v) (an_array w) a b = λ n c. b n (a n c)
marks_onward (a_tree p u) (a_tree q v) (a_tree r w) a b = λ part c. a part (b part c)
marks_onward (an_array u) (an_array v) (a_tree r w) a b = absurd b
marks_onward (an_array u) (a_tree q v) w a b = absurd a
marks_onward (a_tree p u) (an_array v) w a b = absurd a
marks_onward (a_tree p u) (a_tree q v) (an_array w) a b = absurd b

shares_itself : (v : IndexView) → SameShares v v
shares_itself (an_array v) = tt
shares_itself (a_tree p v) = λ share half h. h

shares_onward : (u v w : IndexView) → SameShares u v → SameShares v w → SameShares u w
shares_onward (an_array u) (an_array v) (an_array w) a b = tt
shares_onward (a_tree p u) (a_tree q v) (a_tree r w) a b = λ share half h. b share half (a share half h)
shares_onward (an_array u) (an_array v) (a_tree r w) a b = absurd b
shares_onward (an_array u) (a_tree q v) w a b = absurd a
shares_onward (a_tree p u) (an_array v) w a b = absurd a
shares_onward (a_tree p u) (a_tree q v) (an_array w) a b = absurd b

pub like_laws : LikeLaws
like_laws = record {
  itself = λ v is. record {
    kind = refl;
    place = refl;
    fixed = refl;
    blocks = blocks_itself v;
    marks = marks_itself v;
    shares = shares_itself v;
    sound = is;
    takes = λ key h. h;
    one = λ key other. refl;
    slots = λ key h. h;
    stays = λ s h. h;
    stands = λ img h. h;
  };
  onward = λ u v w a b. record {
    kind = b.kind ∙ a.kind;
    place = b.place ∙ a.place;
    fixed = b.fixed ∙ a.fixed;
    blocks = blocks_onward u v w a.blocks b.blocks;
    marks = marks_onward u v w a.marks b.marks;
    shares = shares_onward u v w a.shares b.shares;
    sound = b.sound;
    takes = λ key h. b.takes key (a.takes key h);
    one = λ key other. b.one key other ∙ a.one key other;
    slots = λ key h. b.slots key (a.slots key h);
    stays = λ s h. b.stays s (a.stays s h);
    stands = λ img h. b.stands img (a.stands img h);
  };
}

-- ---- The blocks on the way to a key are there

array_held : (key : Key) (v w : Store) → ArrayHeld key.i v w → HeldTold (an_array v) (an_array w)
array_held key v w h = record { like = array_like v w h.array h.held.places h.held.standing h.held.stands h.held.marks; map = λ k. h.held.map k.i }

tree_held : (p q : ℕ) (v w : Index) → IsSoundTree p v → q ≡ p → w ≡ v → HeldTold (a_tree p v) (a_tree q w)
tree_held p q v w is e same = record { like = same_tree p q v v w e same (tree_itself p v is); map = λ k. ap (λ (t : Index). address_of t k) same }

pub held_tells : HeldTells
held_tells key (an_array v) (an_array w) is h = array_held key v w h
held_tells key (a_tree p v) (a_tree q w) is h = tree_held p q v w is h.0 h.1
held_tells key (an_array v) (a_tree q w) is h = absurd h
held_tells key (a_tree p v) (an_array w) is h = absurd h

-- ---- A chunk gets an address, or has none again

as_among : (us vs : List Used) → trees.AreAmong us vs → array_words.AreAmong us vs
as_among us vs a = record { among = a.among; counts = a.counts }

chunk_defined : (bytes : ℕ) (x : Record) → x.address ≢ undefined → trees.chunk_of bytes x ≡ chunk_at x.address bytes ∷ []
chunk_defined bytes x ne = ap (λ b. if b then [] else chunk_at x.address bytes ∷ []) (ne_eqb x.address undefined ne)

chunk_undefined : (bytes : ℕ) (key : Key) → trees.chunk_of bytes (blank key) ≡ []
chunk_undefined bytes key = ap (λ b. if b then [] else chunk_at undefined bytes ∷ []) (eq-eqb undefined undefined refl)

tree_set_like : (p q : ℕ) (v w : Index) (x : Record) → IsSoundTree p v → q ≡ p → TreeSet x v w → IsLike (a_tree p v) (a_tree q w)
tree_set_like p q v w x is e h = same_tree p q v (inserted x v) w e h.is (tree_like p v x is (subst IsIndex h.is h.index))

tree_set_behind : (v w : Index) (x : Record) (bytes : ℕ) → IsIndex v → TreeSet x v w → array_words.AreAmong (trees.behind_of bytes w) (trees.chunk_of bytes x ++ trees.behind_of bytes v)
tree_set_behind v w x bytes i h =
    let us : List Used = trees.chunk_of bytes x ++ trees.behind_of bytes v in
    subst (λ (t : Index). array_words.AreAmong (trees.behind_of bytes t) us) (sym h.is) (as_among (trees.behind_of bytes (inserted x v)) us (inserted_behind x v bytes i (subst IsIndex h.is h.index)))

tree_set_map : (v w : Index) (x : Record) (key : Key) → IsIndex v → TreeSet x v w → address_of w key ≡ (if key_equal x.key key then x.address else address_of v key)
tree_set_map v w x key i h = ap (λ (t : Index). address_of t key) h.is ∙ inserted-map x v key i

tree_set_slot : (v w : Index) (x : Record) → IsIndex v → TreeSet x v w → IsThere w x.key
tree_set_slot v w x i h = subst (λ (t : Index). IsThere t x.key) (sym h.is) (put-there x v i)

array_set : (key : Key) (address : ℕ) (v w : Store) → ArraySet key.i address v w → SetTold key address (an_array v) (an_array w)
array_set key address v w h = record { like = array_like v w h.array h.set.places h.set.standing h.set.stands h.set.marks; slot = h.slot; map = λ k. h.set.map k.i; behind = h.set.behind }

tree_set : (key : Key) (address p q : ℕ) (v w : Index) → IsSoundTree p v → address ≢ undefined → q ≡ p → TreeSet (record { address = address; key = key }) v w → SetTold key address (a_tree p v) (a_tree q w)
tree_set key address p q v w is ne e h =
    let x : Record = record { address = address; key = key } in
    record {
      like = tree_set_like p q v w x is e h;
      slot = tree_set_slot v w x is.index h;
      map = λ k. tree_set_map v w x k is.index h;
      behind = λ bytes. subst (λ (us : List Used). array_words.AreAmong (trees.behind_of bytes w) (us ++ trees.behind_of bytes v)) (chunk_defined bytes x ne) (tree_set_behind v w x bytes is.index h);
    }

pub set_tells : SetTells
set_tells key address (an_array v) (an_array w) is ne h = array_set key address v w h
set_tells key address (a_tree p v) (a_tree q w) is ne h = tree_set key address p q v w is ne h.0 h.1
set_tells key address (an_array v) (a_tree q w) is ne h = absurd h
set_tells key address (a_tree p v) (an_array w) is ne h = absurd h

array_unset : (key : Key) (v w : Store) → ArrayUnset key.i v w → UnsetTold key (an_array v) (an_array w)
array_unset key v w h = record { like = array_like v w h.array h.unset.places h.unset.standing h.unset.stands h.unset.marks; map = λ k. h.unset.map k.i; behind = h.unset.behind }

-- a record is put that has no address
pub unset_record : (key : Key) (v w : Index) → TreeUnset key v w → TreeSet (blank key) v w
unset_record key v w h = record { is = h.is; index = h.replaced.index }

tree_unset : (key : Key) (p q : ℕ) (v w : Index) → IsSoundTree p v → q ≡ p → TreeSet (blank key) v w → UnsetTold key (a_tree p v) (a_tree q w)
tree_unset key p q v w is e h = record {
  like = tree_set_like p q v w (blank key) is e h;
  map = λ k. tree_set_map v w (blank key) k is.index h;
  behind = λ bytes. subst (λ (us : List Used). array_words.AreAmong (trees.behind_of bytes w) (us ++ trees.behind_of bytes v)) (chunk_undefined bytes key) (tree_set_behind v w (blank key) bytes is.index h);
}

pub unset_tells : UnsetTells
unset_tells key (an_array v) (an_array w) is slot h = array_unset key v w h
unset_tells key (a_tree p v) (a_tree q w) is slot h = tree_unset key p q v w is h.0 (unset_record key v w h.1)
unset_tells key (an_array v) (a_tree q w) is slot h = absurd h
unset_tells key (a_tree p v) (an_array w) is slot h = absurd h

-- ---- The ranges by the map

pub same_ranges : SameRanges
same_ranges (an_array v) (an_array w) bytes is like map = λ f. ap (sum_by f) (by_map.same_behind bytes v w (λ i. map (record { i = i; j = 0 })) like.blocks)
same_ranges (a_tree p v) (a_tree q w) bytes is like map = let sound : IsSoundTree q w = like.sound in maps.same_behind v w bytes is.index sound.index like.blocks map
same_ranges (an_array v) (a_tree q w) bytes is like map = absurd like.blocks
same_ranges (a_tree p v) (an_array w) bytes is like map = absurd like.blocks
