-- How many looks the addresses of chunks take at most: two at the blocks in place of an array, one at those of a tree, and
-- behind them 19 for a chunk, but 16 for the first.
use Rattle.std.proofs.Common.{◌≡◌, ℕ, zero, suc, ◌+◌, ◌-◌, ◌*◌, ◌/◌, ◌<◌, ◌≤◌, List, [], ◌∷◌, ◌++◌, length, map, take, get_or, Result, Ok, Err, refl, sym, ◌∙◌, ap, subst, arith, length-append}
use Rattle.std.specs.Prelude.{◌==◌, nat_le, nat_lt, if◌then◌else◌, codes}
use Rattle.std.specs.List.{AllByRecursion, range_with_len, flat_map}
use Rattle.std.proofs.lemmas.Bool.{cond_both, leb-true, ltb-true, ltb-false}
use Rattle.std.proofs.lemmas.List.FromFn.{length-map-range_with_len}
use Rattle.h5w_model.specs.Numbers.{undefined, field}
use Rattle.h5w_model.specs.Programs.{Prog, ret, whole, stored, and_then}
use Rattle.h5w_model.specs.Arrays.{EaibFields, eahd_at, eaib_at, easb_at, eadb_at, eaib_len, slots_len, super_block_of, slot_place_of, named_place, blocks_before, SlotPlace}
use Rattle.h5w_model.specs.Blocks.{block_tests}
use Rattle.h5w_model.specs.Trees.{RecordFields, ChildFields, BthdFields, BtinFields, bthd_at, bthd_tests, bthd_fields, btin_at, btin_fields, btlf_len, btin_len, capacity_of, pointer_size, node_tests, child_tests, children_in}
use Rattle.h5w_model.specs.Datasets.{Described, then_also, refused_as}
use Rattle.h5w_model.specs.Tables.{InPlace, nowhere, in_array, in_tree, in_place, array_in_place, tree_in_place, address_behind, array_slot, data_slot, secondary_slot, data_block, secondary_block, super_block_of_first, in_node, key_below, key_equal, tree_lookup, chunks_across, index_key, needed, needed_keys}
use Rattle.h5w_model.specs.Prefixed.{IsKey}
use Rattle.h5w_model.specs.Calls.{some_unknown, address_or, each_unknown, table_from}
use Rattle.h5w_model.specs.declared.cell.Key.{Key}
use Rattle.h5w_model.specs.declared.cell.Place.{Place}
use Rattle.h5w_model.specs.declared.cell.Place.TheVariants.{Index, Direct, Second}
use Rattle.h5w_model.specs.declared.cell.IndexKind.{IndexKind}
use Rattle.h5w_model.specs.declared.cell.IndexKind.TheVariants.{Array, Tree}
use Rattle.h5w_model.specs.declared.refusal.ReadError.{ReadError}
use Rattle.h5w_model.specs.declared.refusal.ReadError.TheVariants.{Damaged}
use Rattle.h5w_model.proofs.ArrayGeometry.{slot_place-super}
use Rattle.h5w_model.proofs.CheckedLemmas.{AllPass, checked-passed}
use Rattle.h5w_laws.proofs.AnswerLemmas.{result_both}
use Rattle.h5w_reader_laws.proofs.CountLemmas.{AtMost, AnyOf, IsAnswered, any_answered, at_most_more, at_most_then}

-- ---- The array

-- the data blocks that the index block names have at most 64 slots
first_slots : (s : ℕ) → s ≤ 3 → slots_len (super_block_of s).slots / 512 + 1 ≤ 2
first_slots zero h = omega arith
first_slots (suc zero) h = omega arith
first_slots (suc (suc zero)) h = omega arith
first_slots (suc (suc (suc zero))) h = omega arith
first_slots (suc (suc (suc (suc s)))) h = absurd (omega arith)

first_block : (block : ℕ) → super_block_of_first block ≤ 3
first_block block =
    cond_both (nat_lt block 2) block (if nat_lt block 4 then 2 else 3) (λ s. s ≤ 3)
    (λ t. let h : block < 2 = ltb-true block 2 t in omega arith)
    (λ t. cond_both (nat_lt block 4) 2 3 (λ s. s ≤ 3) (λ u. omega arith) (λ u. omega arith))

data_looks : (address n slot most : ℕ) → slots_len n / 512 + 1 ≤ most → AtMost AnyOf most (data_slot address n slot)
data_looks address n slot most h =
    cond_both (address == undefined) (ret (Ok undefined)) (stored data_block address (slots_len n) (λ b.
    ret (then_also (refused_as (Damaged address) (eadb_at b address n)) (λ d. Ok (get_or d.slots slot undefined)))))
    (λ (p : Prog (Result ℕ ReadError)). AtMost AnyOf most p) (λ t. tt) (λ t. (0, omega arith, λ b. tt))

-- the blocks of the super blocks that secondary blocks name
secondary_sizes : (s : ℕ) → s ≤ 12 → (slots_len (super_block_of s).blocks / 512 + 1 ≤ 2) × (slots_len (super_block_of s).slots / 512 + 1 ≤ 17)
secondary_sizes zero h = (omega arith, omega arith)
secondary_sizes (suc zero) h = (omega arith, omega arith)
secondary_sizes (suc (suc zero)) h = (omega arith, omega arith)
secondary_sizes (suc (suc (suc zero))) h = (omega arith, omega arith)
secondary_sizes (suc (suc (suc (suc zero)))) h = (omega arith, omega arith)
secondary_sizes (suc (suc (suc (suc (suc zero))))) h = (omega arith, omega arith)
secondary_sizes (suc (suc (suc (suc (suc (suc zero)))))) h = (omega arith, omega arith)
secondary_sizes (suc (suc (suc (suc (suc (suc (suc zero))))))) h = (omega arith, omega arith)
secondary_sizes (suc (suc (suc (suc (suc (suc (suc (suc zero)))))))) h = (omega arith, omega arith)
secondary_sizes (suc (suc (suc (suc (suc (suc (suc (suc (suc zero))))))))) h = (omega arith, omega arith)
secondary_sizes (suc (suc (suc (suc (suc (suc (suc (suc (suc (suc zero)))))))))) h = (omega arith, omega arith)
secondary_sizes (suc (suc (suc (suc (suc (suc (suc (suc (suc (suc (suc zero))))))))))) h = (omega arith, omega arith)
secondary_sizes (suc (suc (suc (suc (suc (suc (suc (suc (suc (suc (suc (suc zero)))))))))))) h = (omega arith, omega arith)
secondary_sizes (suc (suc (suc (suc (suc (suc (suc (suc (suc (suc (suc (suc (suc s))))))))))))) h = absurd (omega arith)

secondary_looks : (address s block slot : ℕ) → s ≤ 12 → AtMost AnyOf 19 (secondary_slot address s block slot)
secondary_looks address s block slot h =
    let sizes = secondary_sizes s h in
    cond_both (address == undefined) (ret (Ok undefined)) (stored secondary_block address (slots_len (super_block_of s).blocks) (λ b.
    elim (easb_at b address (super_block_of s).blocks) as (λ _. Prog (Result ℕ ReadError)) [
      | Ok t ↦ data_slot (get_or t.slots block undefined) (super_block_of s).slots slot
      | Err f ↦ ret (Err (Damaged address f))
    ]))
    (λ (p : Prog (Result ℕ ReadError)). AtMost AnyOf 19 p)
    (λ t. tt)
    (λ t. (
      17,
      omega (arith, sizes.0),
      λ b.
          result_both (easb_at b address (super_block_of s).blocks) _ _ (λ (p : Prog (Result ℕ ReadError)). AtMost AnyOf 17 p)
          (λ t e. data_looks (get_or t.slots block undefined) (super_block_of s).slots slot 17 sizes.1) (λ f e. tt),
    ))

abbrev slot_by : EaibFields → Place → Prog (Result ℕ ReadError)
slot_by e p =
    elim p as (λ _. Prog (Result ℕ ReadError)) [
      | Index slot ↦ ret (Ok (get_or e.slots slot undefined))
      | Direct block slot ↦ data_slot (get_or e.first block undefined) (super_block_of (super_block_of_first block)).slots slot
      | Second sblock block slot ↦ secondary_slot (get_or e.second (sblock - 4) undefined) sblock block slot
    ]

named_looks : (e : EaibFields) (p : SlotPlace) → p.sblock ≤ 12 → AtMost AnyOf 19 (slot_by e (named_place p))
named_looks e p h =
    cond_both (nat_lt p.sblock 4) (Direct (blocks_before p.sblock + p.block) p.slot) (Second p.sblock p.block p.slot) (λ (x : Place). AtMost AnyOf 19 (slot_by e x))
    (λ t.
    let block : ℕ = blocks_before p.sblock + p.block in
    data_looks (get_or e.first block undefined) (super_block_of (super_block_of_first block)).slots p.slot 19
    (let l : slots_len (super_block_of (super_block_of_first block)).slots / 512 + 1 ≤ 2 = first_slots (super_block_of_first block) (first_block block) in omega (arith, l)))
    (λ t. secondary_looks (get_or e.second (p.sblock - 4) undefined) p.sblock p.block p.slot h)

slot_looks : (e : EaibFields) (i : ℕ) → i < 131060 → AtMost AnyOf 19 (array_slot e i)
slot_looks e i h =
    cond_both (nat_lt i 4) (Index i) (named_place (slot_place_of (i - 4))) (λ (x : Place). AtMost AnyOf 19 (slot_by e x))
    (λ t. tt)
    (λ t. named_looks e (slot_place_of (i - 4)) (slot_place-super (i - 4) (let l : 4 ≤ i = ltb-false i 4 t in omega arith)))

-- ---- The tree

leaf_looks : (n : ℕ) → n ≤ capacity_of 0 → btlf_len n / 512 + 1 ≤ 4
leaf_looks n h = let c : capacity_of 0 ≡ 84 = refl in let l : n ≤ 84 = omega (arith, h, c) in omega (arith, l)

node_looks : (depth n : ℕ) → depth ≤ 2 → n ≤ capacity_of (suc depth) → btin_len n (suc depth) / 512 + 1 ≤ 4
node_looks zero n low h = let l : n ≤ 61 = h in omega (arith, l)
node_looks (suc zero) n low h = let l : n ≤ 57 = h in omega (arith, l)
node_looks (suc (suc zero)) n low h = let l : n ≤ 56 = h in omega (arith, l)
node_looks (suc (suc (suc depth))) n low h = absurd (omega arith)

-- the children of a node have no more records than they may
small_children : (b : List ℕ) (place depth n from : ℕ) → AllPass (child_tests b place (suc depth) n from) → AllByRecursion (λ c. c.records ≤ capacity_of depth) (children_in b (suc depth) n from)
small_children b place depth zero from pass = tt
small_children b place depth (suc n) from pass =
    let e : suc depth - 1 ≡ depth = omega arith in
    (leb-true (field b (from + 8) 1) (capacity_of depth) (ap (λ d. nat_le (field b (from + 8) 1) (capacity_of d)) (sym e) ∙ pass.0), small_children b place depth n (from + pointer_size (suc depth)) pass.1)

children_of : (b : List ℕ) (place n depth : ℕ) (t : BtinFields) → btin_at b place n (suc depth) ≡ Ok t → AllByRecursion (λ c. c.records ≤ capacity_of depth) t.children
children_of b place n depth t h =
    let p = checked-passed (block_tests (codes "BTIN") (btin_len n (suc depth)) b ++ node_tests b place ++ child_tests b place (suc depth) (n + 1) (6 + 24 * n)) (btin_fields b n (suc depth)) t h in
    subst (λ (x : BtinFields). AllByRecursion (λ c. c.records ≤ capacity_of depth) x.children) p.1 (small_children b place depth (n + 1) (6 + 24 * n) p.0.1.1.1.1.1)

in_node_looks : (go : ChildFields → Prog (Result ℕ ReadError)) (m : ℕ) (key : Key) (rs : List RecordFields) (cs : List ChildFields) → AllByRecursion (λ c. AtMost AnyOf m (go c)) cs
    → AtMost AnyOf m (in_node go key rs cs)
in_node_looks go m key rs [] h = tt
in_node_looks go m key [] (c ∷ cs) h = h.0
in_node_looks go m key (r ∷ rs) (c ∷ cs) h =
    cond_both (key_below r.key key) (in_node go key rs cs) (if key_equal r.key key then ret (Ok r.address) else go c) (λ (p : Prog (Result ℕ ReadError)). AtMost AnyOf m p)
    (λ t. in_node_looks go m key rs cs h.1)
    (λ t. cond_both (key_equal r.key key) (ret (Ok r.address)) (go c) (λ (p : Prog (Result ℕ ReadError)). AtMost AnyOf m p) (λ u. tt) (λ u. h.0))

each_child : (go : ChildFields → Prog (Result ℕ ReadError)) (m : ℕ) (P : ChildFields → Type 0) (cs : List ChildFields) → AllByRecursion P cs → ((c : ChildFields) → P c → AtMost AnyOf m (go c))
    → AllByRecursion (λ c. AtMost AnyOf m (go c)) cs
each_child go m P [] all h = tt
each_child go m P (c ∷ cs) all h = (h c all.0, each_child go m P cs all.1 h)

lookup_looks : (depth : ℕ) (key : Key) (address n : ℕ) → depth ≤ 3 → n ≤ capacity_of depth → AtMost AnyOf (4 * (depth + 1)) (tree_lookup depth key address n)
lookup_looks zero key address n low h = (0, (let l : btlf_len n / 512 + 1 ≤ 4 = leaf_looks n h in omega (arith, l)), λ b. tt)
lookup_looks (suc depth) key address n low h =
    let l : btin_len n (suc depth) / 512 + 1 ≤ 4 = node_looks depth n (omega arith) h in (
      4 * (depth + 1),
      omega (arith, l),
      λ b.
          result_both (btin_at b address n (suc depth)) _ _ (λ (p : Prog (Result ℕ ReadError)). AtMost AnyOf (4 * (depth + 1)) p)
          (λ t e.
          in_node_looks (λ c. tree_lookup depth key c.address c.records) (4 * (depth + 1)) key t.records t.children
          (each_child (λ c. tree_lookup depth key c.address c.records) (4 * (depth + 1)) (λ c. c.records ≤ capacity_of depth) t.children (children_of b address n depth t e)
          (λ c few. lookup_looks depth key c.address c.records (omega arith) few)))
          (λ f e. tt),
    )

-- ---- The blocks in place

-- blocks in place of an index of a kind, as they are decoded
abbrev IsDecoded : IndexKind → InPlace → Type 0
IsDecoded kind nowhere = Unit {0}
IsDecoded kind (in_array e) = kind ≡ Array
IsDecoded kind (in_tree t) = (t.depth ≤ 3) × (t.records ≤ capacity_of t.depth)

then_refused : {A E B : Type 0} (P : Result B ReadError → Type 0) (r : Result A E) (f : E → ReadError) (g : A → Result B ReadError) → ((a : A) → r ≡ Ok a → P (g a)) → ((e : E) → P (Err (f e)))
    → P (then_also (refused_as f r) g)
then_refused P (Ok a) f g h k = h a refl
then_refused P (Err e) f g h k = k e

array_looks : (address : ℕ) → AtMost (IsAnswered (IsDecoded Array)) 2 (array_in_place address)
array_looks address = (
  1,
  omega arith,
  λ h.
      result_both (eahd_at h address) _ _ (λ (p : Prog (Result InPlace ReadError)). AtMost (IsAnswered (IsDecoded Array)) 1 p)
      (λ a e.
      cond_both (a.block == undefined) (ret (Ok nowhere)) (whole a.block eaib_len (λ b. ret (then_also (refused_as (Damaged a.block) (eaib_at b a.block)) (λ e. Ok (in_array e)))))
      (λ (p : Prog (Result InPlace ReadError)). AtMost (IsAnswered (IsDecoded Array)) 1 p)
      (λ t. tt)
      (λ t. (0, omega arith, λ b. then_refused (IsAnswered (IsDecoded Array)) (eaib_at b a.block) (Damaged a.block) (λ e. Ok (in_array e)) (λ e i. refl) (λ e. tt))))
      (λ f e. tt),
)

header_decoded : (b : List ℕ) (place : ℕ) (t : BthdFields) → bthd_at b place ≡ Ok t → (t.depth ≤ 3) × (t.records ≤ capacity_of t.depth)
header_decoded b place t h =
    let p = checked-passed (bthd_tests b place) (bthd_fields b) t h in
    subst (λ (x : BthdFields). (x.depth ≤ 3) × (x.records ≤ capacity_of x.depth)) p.1
    (leb-true (field b 12 2) 3 p.0.1.1.1.1.1.1.1.0, leb-true (field b 24 2) (capacity_of (field b 12 2)) p.0.1.1.1.1.1.1.1.1.1.1.0)

tree_looks : (address : ℕ) → AtMost (IsAnswered (IsDecoded Tree)) 2 (tree_in_place address)
tree_looks address = (
  0,
  omega arith,
  λ h.
      then_refused (IsAnswered (IsDecoded Tree)) (bthd_at h address) (Damaged address) (λ t. Ok (if t.root == undefined then nowhere else in_tree t))
      (λ t e. cond_both (t.root == undefined) nowhere (in_tree t) (λ (b : InPlace). IsDecoded Tree b) (λ u. tt) (λ u. header_decoded h address t e))
      (λ e. tt),
)

kind_looks : (kind : IndexKind) (address : ℕ)
    → AtMost (IsAnswered (IsDecoded kind)) 2 (elim kind as (λ _. Prog (Result InPlace ReadError)) [ Array ↦ array_in_place address | Tree ↦ tree_in_place address ])
kind_looks Array address = array_looks address
kind_looks Tree address = tree_looks address

place_looks : (d : Described) → AtMost (IsAnswered (IsDecoded d.layout.index)) 2 (in_place d)
place_looks d =
    cond_both (d.layout.address == undefined) (ret (Ok nowhere)) _ (λ (p : Prog (Result InPlace ReadError)). AtMost (IsAnswered (IsDecoded d.layout.index)) 2 p)
    (λ t. tt) (λ t. kind_looks d.layout.index d.layout.address)

behind_looks : (kind : IndexKind) (b : InPlace) (key : Key) → IsDecoded kind b → IsKey kind key → AtMost AnyOf 19 (address_behind b key)
behind_looks kind nowhere key is named = tt
behind_looks kind (in_array e) key is named = slot_looks e key.i (subst (λ k. IsKey k key) is named).0
behind_looks kind (in_tree t) key is named =
    at_most_more AnyOf (4 * (t.depth + 1)) 19 (tree_lookup t.depth key t.root t.records) (omega (arith, is.0)) (lookup_looks t.depth key t.root t.records is.0 is.1)

-- ---- The addresses of the needed chunks

-- an address and others
and_more : (m n : ℕ) (p : Prog (Result ℕ ReadError)) (q : Prog (Result (List ℕ) ReadError)) → AtMost AnyOf m p → AtMost AnyOf n q → AtMost AnyOf (m + n) (and_then p (λ a. and_then q (λ rest. ret (Ok (a ∷ rest)))))
and_more m n p q first rest =
    at_most_more AnyOf (m + (n + 0)) (m + n) (and_then p (λ a. and_then q (λ rest. ret (Ok (a ∷ rest))))) (omega arith)
    (at_most_then AnyOf m (n + 0) p (λ a. and_then q (λ rest. ret (Ok (a ∷ rest)))) (any_answered m p first)
    (λ a any. at_most_then AnyOf n 0 q (λ rest. ret (Ok (a ∷ rest))) (any_answered n q rest) (λ rest any. tt)))

one_more : (ks : List Key) (p : Prog (Result ℕ ReadError)) (q : Prog (Result (List ℕ) ReadError)) → AtMost AnyOf 19 p → AtMost AnyOf (length ks * 19) q
    → AtMost AnyOf (suc (length ks) * 19) (and_then p (λ a. and_then q (λ rest. ret (Ok (a ∷ rest)))))
one_more ks p q first rest =
    let n : ℕ = length ks in
    let more : suc n ≡ n + 1 = omega arith in
    at_most_more AnyOf (19 + n * 19) (suc n * 19) (and_then p (λ a. and_then q (λ rest. ret (Ok (a ∷ rest))))) (subst (λ m. 19 + n * 19 ≤ m * 19) (sym more) (omega arith))
    (and_more 19 (n * 19) p q first rest)

unknown_looks : (d : Described) (b : InPlace) (known : List ℕ) (ks : List Key) → IsDecoded d.layout.index b → AllByRecursion (IsKey d.layout.index) ks
    → AtMost AnyOf (length ks * 19) (each_unknown b known ks)
unknown_looks d b [] [] is all = tt
unknown_looks d b (a ∷ known) [] is all = tt
unknown_looks d b [] (k ∷ ks) is all =
    one_more ks (address_behind b k) (each_unknown b [] ks) (behind_looks d.layout.index b k is all.0) (unknown_looks d b [] ks is all.1)
unknown_looks d b (a ∷ known) (k ∷ ks) is all =
    one_more ks (address_or b a k) (each_unknown b known ks)
    (cond_both (a == undefined) (address_behind b k) (ret (Ok a)) (λ (p : Prog (Result ℕ ReadError)). AtMost AnyOf 19 p) (λ t. behind_looks d.layout.index b k is all.0) (λ t. tt))
    (unknown_looks d b known ks is all.1)

-- the first chunk of an array stands in the index block, and a tree has few blocks on the way to one
first_looks : (kind : IndexKind) (b : InPlace) (key : Key) → IsDecoded kind b → (kind ≡ Array → key.i ≡ 0) → AtMost AnyOf 16 (address_behind b key)
first_looks kind nowhere key is first = tt
first_looks kind (in_array e) key is first = subst (λ i. AtMost AnyOf 16 (array_slot e i)) (sym (first is)) tt
first_looks kind (in_tree t) key is first =
    at_most_more AnyOf (4 * (t.depth + 1)) 16 (tree_lookup t.depth key t.root t.records) (omega (arith, is.0)) (lookup_looks t.depth key t.root t.records is.0 is.1)

from_first : (d : Described) (b : InPlace) (known : List ℕ) (k : Key) (ks : List Key) → IsDecoded d.layout.index b → (d.layout.index ≡ Array → k.i ≡ 0) → AllByRecursion (IsKey d.layout.index) ks
    → AtMost AnyOf (16 + length ks * 19) (each_unknown b known (k ∷ ks))
from_first d b [] k ks is first all =
    and_more 16 (length ks * 19) (address_behind b k) (each_unknown b [] ks) (first_looks d.layout.index b k is first) (unknown_looks d b [] ks is all)
from_first d b (a ∷ known) k ks is first all =
    and_more 16 (length ks * 19) (address_or b a k) (each_unknown b known ks)
    (cond_both (a == undefined) (address_behind b k) (ret (Ok a)) (λ (p : Prog (Result ℕ ReadError)). AtMost AnyOf 16 p) (λ t. first_looks d.layout.index b k is first) (λ t. tt))
    (unknown_looks d b known ks is all)

keys_looks : (d : Described) (known : List ℕ) (k : Key) (ks : List Key) → (d.layout.index ≡ Array → k.i ≡ 0) → AllByRecursion (IsKey d.layout.index) ks → AtMost AnyOf (18 + length ks * 19) (table_from known d (k ∷ ks))
keys_looks d known k ks first all =
    let most : ℕ = 18 + length ks * 19 in
    let rest : InPlace → Prog (Result (List ℕ) ReadError) = λ b. each_unknown b known (k ∷ ks) in
    cond_both (some_unknown known (k ∷ ks)) (and_then (in_place d) rest) (ret (Ok (take (length (k ∷ ks)) known))) (λ (p : Prog (Result (List ℕ) ReadError)). AtMost AnyOf most p)
    (λ t. at_most_more AnyOf (2 + (16 + length ks * 19)) most (and_then (in_place d) rest) (omega arith)
    (at_most_then (IsDecoded d.layout.index) 2 (16 + length ks * 19) (in_place d) rest (place_looks d) (λ b is. from_first d b known k ks is first all)))
    (λ t. tt)

pub grid_length : {X : Type 0} (f : ℕ → ℕ → X) (across from count : ℕ) → length (flat_map (λ i. map (f i) (range_with_len 0 across)) (range_with_len from count)) ≡ count * across
grid_length f across from zero = let e : 0 ≡ 0 * across = omega arith in e
grid_length f across from (suc count) =
    let row = map (f from) (range_with_len 0 across) in
    let l : length row ≡ across = length-map-range_with_len (f from) 0 across in
    let rest = grid_length f across (from + 1) count in
    let more : suc count ≡ count + 1 = omega arith in
    length-append row (flat_map (λ i. map (f i) (range_with_len 0 across)) (range_with_len (from + 1) count))
    ∙ ap (λ n. n + length (flat_map (λ i. map (f i) (range_with_len 0 across)) (range_with_len (from + 1) count))) l ∙ ap (λ n. across + n) rest
    ∙ (let e : across + count * across ≡ (count + 1) * across = omega arith in e) ∙ ap (λ n. n * across) (sym more)

-- how many keys stand side by side, of each kind of index
abbrev keys_beside : ℕ → IndexKind → ℕ
keys_beside across kind = elim kind as (λ _. ℕ) [ Array ↦ 1 | Tree ↦ across ]

-- one look fewer than 21 for each needed chunk
pub table_looks : (d : Described) (known : List ℕ) → AllByRecursion (IsKey d.layout.index) (needed_keys d) → AtMost AnyOf (21 * needed d - 1) (table_from known d (needed_keys d))
table_looks d known all = go (needed d) all
  where
    go : (n : ℕ) → AllByRecursion (IsKey d.layout.index) (map (index_key d) (range_with_len 0 n)) → AtMost AnyOf (21 * n - 1) (table_from known d (map (index_key d) (range_with_len 0 n)))
    go zero each = tt
    go (suc n) each =
        let ks = map (index_key d) (range_with_len 1 n) in
        let count : length ks ≡ n = length-map-range_with_len (index_key d) 1 n in
        let more : suc n ≡ n + 1 = omega arith in
        at_most_more AnyOf (18 + length ks * 19) (21 * suc n - 1) (table_from known d (index_key d 0 ∷ ks)) (subst (λ m. 18 + length ks * 19 ≤ 21 * m - 1) (sym more) (omega (arith, count)))
        (keys_looks d known (index_key d 0) ks (λ is. ap (λ kind. 0 / keys_beside (chunks_across d) kind) is) each.1)
