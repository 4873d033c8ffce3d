-- How many blocks the lookup of one chunk's address visits.
use Rattle.std.proofs.Common.{◌≡◌, ℕ, zero, suc, ◌+◌, ◌-◌, ◌≤◌, Bool, true, false, List, [], ◌∷◌, length, get_or, length-append, Result, Ok, Err, refl, ◌∙◌, ap, subst, arith}
use Rattle.std.specs.Prelude.{◌==◌, if◌then◌else◌}
use Rattle.std.proofs.lemmas.Bool.{leb-true}
use Rattle.h5w_model.specs.Numbers.{field, range, undefined}
use Rattle.h5w_model.specs.Programs.{Prog, ret, whole, stored, bind, and_then, eval, visits}
use Rattle.h5w_model.specs.Arrays.{EahdFields, EaibFields, SlotsFields, place_of, super_block_of, easb_at, eahd_at, eaib_at, eaib_len, eahd_len, slots_len}
use Rattle.h5w_model.specs.Trees.{RecordFields, ChildFields, BthdFields, BtinFields, bthd_at, bthd_tests, bthd_fields, bthd_len, btin_at, btin_len}
use Rattle.h5w_model.specs.Datasets.{then_also, refused_as}
use Rattle.h5w_model.specs.Tables.{InPlace, nowhere, in_array, in_tree, array_in_place, tree_in_place, address_behind, array_slot, data_slot, secondary_slot, super_block_of_first, tree_lookup, in_node, key_below, key_equal, each_of}
use Rattle.h5w_model.specs.declared.cell.Key.{Key}
use Rattle.h5w_model.specs.declared.cell.IndexKind.{IndexKind}
use Rattle.h5w_model.specs.declared.cell.IndexKind.TheVariants.{Array, Tree}
use Rattle.h5w_model.specs.declared.cell.Place.{Place}
use Rattle.h5w_model.specs.declared.cell.Place.TheVariants.{Index, Direct, Second}
use Rattle.h5w_model.specs.declared.refusal.BlockFault.{BlockFault}
use Rattle.h5w_model.specs.declared.refusal.ReadError.{ReadError}
use Rattle.h5w_model.specs.declared.refusal.ReadError.TheVariants.{Damaged}
use Rattle.h5w_model.proofs.CheckedLemmas.{checked-passed}
use Rattle.h5w_laws.proofs.ProgramLemmas.{visits_bind}
use Rattle.h5w_script_laws.specs.Lookups.{LookupVisits, most_visits}

-- how many blocks a program visits
abbrev count : {A : Type 0} → List ℕ → Prog A → ℕ
count img p = length (visits img p)

-- it visits at most so many blocks
record Within {A : Type 0} (img : List ℕ) (p : Prog A) (n : ℕ) : Type 0 where
  few : count img p ≤ n

count_bind : {A B : Type 0} (img : List ℕ) (p : Prog A) (f : A → Prog B) → count img (bind p f) ≡ count img p + count img (f (eval img p))
count_bind img p f = ap length (visits_bind img p f) ∙ length-append (visits img p) (visits img (f (eval img p)))

within_if : {A : Type 0} (img : List ℕ) (c : Bool) (p q : Prog A) (n : ℕ) → Within img p n → Within img q n → Within img (if c then p else q) n
within_if img true p q n h k = h
within_if img false p q n h k = k

within_ret : {A : Type 0} (img : List ℕ) (a : A) (n : ℕ) → Within img (ret a) n
within_ret img a n = record { few = omega arith }

within_whole : {A : Type 0} (img : List ℕ) (place len : ℕ) (next : List ℕ → Prog A) (n : ℕ) → Within img (next (range img place len)) n → Within img (whole place len next) (suc n)
within_whole img place len next n h = record { few = let k = h.few in omega arith }

within_stored : {A : Type 0} (img : List ℕ) (kind place len : ℕ) (next : List ℕ → Prog A) (n : ℕ) → Within img (next (range img place len)) n → Within img (stored kind place len next) (suc n)
within_stored img kind place len next n h = record { few = let k = h.few in omega arith }

-- ---- The array

in_data : (img : List ℕ) (address n slot : ℕ) → Within img (data_slot address n slot) 1
in_data img address n slot =
    within_if img (address == undefined) (ret (Ok undefined)) _ 1 (within_ret img (Ok undefined) 1) (record { few = omega arith })

abbrev by_second : ℕ → ℕ → ℕ → ℕ → Result SlotsFields BlockFault → Prog (Result ℕ ReadError)
by_second address sblock block slot r = elim r [
  | Ok s ↦ data_slot (get_or s.slots block undefined) (super_block_of sblock).slots slot
  | Err f ↦ ret (Err (Damaged address f))
]

by_second_few : (img : List ℕ) (address sblock block slot : ℕ) (r : Result SlotsFields BlockFault) → Within img (by_second address sblock block slot r) 1
by_second_few img address sblock block slot (Ok s) = in_data img (get_or s.slots block undefined) (super_block_of sblock).slots slot
by_second_few img address sblock block slot (Err f) = record { few = omega arith }

in_second : (img : List ℕ) (address sblock block slot : ℕ) → Within img (secondary_slot address sblock block slot) 2
in_second img address sblock block slot =
    let len = slots_len (super_block_of sblock).blocks in
    within_if img (address == undefined) (ret (Ok undefined)) _ 2 (within_ret img (Ok undefined) 2)
    (within_stored img 1 address len (λ b. by_second address sblock block slot (easb_at b address (super_block_of sblock).blocks)) 1
    (by_second_few img address sblock block slot (easb_at (range img address len) address (super_block_of sblock).blocks)))

abbrev by_place : EaibFields → Place → Prog (Result ℕ ReadError)
by_place e p = elim p [
  | Index slot ↦ ret (Ok (get_or e.slots slot undefined))
  | Direct block slot ↦ data_slot (get_or e.first block undefined) (super_block_of (super_block_of_first block)).slots slot
  | Second sblock block slot ↦ secondary_slot (get_or e.second (sblock - 4) undefined) sblock block slot
]

by_place_few : (img : List ℕ) (e : EaibFields) (p : Place) → Within img (by_place e p) 2
by_place_few img e (Index slot) = record { few = omega arith }
by_place_few img e (Direct block slot) =
    let h = (in_data img (get_or e.first block undefined) (super_block_of (super_block_of_first block)).slots slot).few in
    record { few = omega arith }
by_place_few img e (Second sblock block slot) = in_second img (get_or e.second (sblock - 4) undefined) sblock block slot

in_slot : (img : List ℕ) (e : EaibFields) (i : ℕ) → Within img (array_slot e i) 2
in_slot img e i = by_place_few img e (place_of i)

-- ---- The tree

in_children : (img : List ℕ) (go : ChildFields → Prog (Result ℕ ReadError)) (n : ℕ) → ((c : ChildFields) → Within img (go c) n) → (key : Key) (rs : List RecordFields) (cs : List ChildFields)
    → Within img (in_node go key rs cs) n
in_children img go n h key rs [] = record { few = omega arith }
in_children img go n h key [] (c ∷ cs) = h c
in_children img go n h key (r ∷ rs) (c ∷ cs) =
    within_if img (key_below r.key key) (in_node go key rs cs) (if key_equal r.key key then ret (Ok r.address) else go c) n (in_children img go n h key rs cs)
    (within_if img (key_equal r.key key) (ret (Ok r.address)) (go c) n (within_ret img (Ok r.address) n) (h c))

abbrev by_node : ℕ → Key → ℕ → Result BtinFields BlockFault → Prog (Result ℕ ReadError)
by_node depth key address r = elim r [
  | Ok t ↦ in_node (λ c. tree_lookup depth key c.address c.records) key t.records t.children
  | Err f ↦ ret (Err (Damaged address f))
]

by_node_few : (img : List ℕ) (depth : ℕ) (key : Key) (address n : ℕ) → ((c : ChildFields) → Within img (tree_lookup depth key c.address c.records) n) → (r : Result BtinFields BlockFault)
    → Within img (by_node depth key address r) n
by_node_few img depth key address n h (Ok t) = in_children img (λ c. tree_lookup depth key c.address c.records) n h key t.records t.children
by_node_few img depth key address n h (Err f) = record { few = omega arith }

in_tree_below : (img : List ℕ) (depth : ℕ) (key : Key) (address n : ℕ) → Within img (tree_lookup depth key address n) (suc depth)
in_tree_below img zero key address n = record { few = omega arith }
in_tree_below img (suc depth) key address n =
    let len = btin_len n (suc depth) in
    within_stored img (2 + suc depth) address len (λ b. by_node depth key address (btin_at b address n (suc depth))) (suc depth)
    (by_node_few img depth key address (suc depth) (λ c. in_tree_below img depth key c.address c.records) (btin_at (range img address len) address n (suc depth)))

-- ---- Behind the blocks in place

-- what follows an answer
abbrev after : {A B E : Type 0} → (A → Prog (Result B E)) → Result A E → Prog (Result B E)
after f r = elim r [ Ok a ↦ f a | Err e ↦ ret (Err e) ]

after_none : {A B E : Type 0} (img : List ℕ) (g : A → B) (r : Result A E) → count img (after (λ a. let p : Prog (Result B E) = ret (Ok (g a)) in p) r) ≡ 0
after_none img g (Ok a) = refl
after_none img g (Err e) = refl

abbrev one : Key → InPlace → Prog (Result (List ℕ) ReadError)
one key p = each_of (address_behind p) (key ∷ [])

one_few : (img : List ℕ) (key : Key) (p : InPlace) (n : ℕ) → Within img (address_behind p key) n → Within img (one key p) n
one_few img key p n h =
    let few = h.few in
    let next : Result ℕ ReadError → Prog (Result (List ℕ) ReadError) = after (λ a. ret (Ok (a ∷ []))) in
    let both : count img (one key p) ≡ count img (address_behind p key) + count img (next (eval img (address_behind p key))) = count_bind img (address_behind p key) next in
    let none : count img (next (eval img (address_behind p key))) ≡ 0 = after_none img (λ a. a ∷ []) (eval img (address_behind p key)) in
    record { few = omega arith }

after_array : (img : List ℕ) (key : Key) (address : ℕ) (r : Result EaibFields BlockFault)
    → Within img (after (one key) (then_also (refused_as (Damaged address) r) (λ e. Ok (in_array e)))) 2
after_array img key address (Ok e) = one_few img key (in_array e) 2 (in_slot img e key.i)
after_array img key address (Err f) = record { few = omega arith }

-- the index block of an array, and what it leads to
abbrev index_block : Key → ℕ → Prog (Result (List ℕ) ReadError)
index_block key block = whole block eaib_len (λ b. after (one key) (then_also (refused_as (Damaged block) (eaib_at b block)) (λ e. Ok (in_array e))))

index_block_few : (img : List ℕ) (key : Key) (block : ℕ) → Within img (index_block key block) 3
index_block_few img key block =
    within_whole img block eaib_len (λ b. after (one key) (then_also (refused_as (Damaged block) (eaib_at b block)) (λ e. Ok (in_array e)))) 2
    (after_array img key block (eaib_at (range img block eaib_len) block))

nowhere_few : (img : List ℕ) (key : Key) (n : ℕ) → Within img (one key nowhere) n
nowhere_few img key n = record { few = omega arith }

abbrev in_place_by : ℕ → Result EahdFields BlockFault → Prog (Result InPlace ReadError)
in_place_by address r = elim r [
  | Ok a ↦ (if a.block == undefined then ret (Ok nowhere) else
      whole a.block eaib_len (λ b. ret (then_also (refused_as (Damaged a.block) (eaib_at b a.block)) (λ e. Ok (in_array e)))))
  | Err f ↦ ret (Err (Damaged address f))
]

-- where the array's header has an index block
block_few : (img : List ℕ) (key : Key) (block : ℕ) (none : Bool)
    → Within img (and_then (if none then ret (Ok nowhere) else whole block eaib_len (λ b. ret (then_also (refused_as (Damaged block) (eaib_at b block)) (λ e. Ok (in_array e))))) (one key)) 3
block_few img key block true = nowhere_few img key 3
block_few img key block false = index_block_few img key block

header_few : (img : List ℕ) (key : Key) (address : ℕ) (r : Result EahdFields BlockFault) → Within img (and_then (in_place_by address r) (one key)) 3
header_few img key address (Ok a) = block_few img key a.block (a.block == undefined)
header_few img key address (Err f) = record { few = omega arith }

array_few : (img : List ℕ) (key : Key) (address : ℕ) → Within img (and_then (array_in_place address) (one key)) 4
array_few img key address =
    within_whole img address eahd_len (λ h. and_then (in_place_by address (eahd_at h address)) (one key)) 3
    (header_few img key address (eahd_at (range img address eahd_len) address))

-- ---- Behind a tree's header

shallow : (b : List ℕ) (place : ℕ) (t : BthdFields) → bthd_at b place ≡ Ok t → t.depth ≤ 3
shallow b place t h =
    let p = checked-passed (bthd_tests b place) (bthd_fields b) t h in
    subst (λ (x : BthdFields). x.depth ≤ 3) p.1 (leb-true (field b 12 2) 3 p.0.1.1.1.1.1.1.1.0)

root_few : (img : List ℕ) (key : Key) (t : BthdFields) (none : Bool) → t.depth ≤ 3 → Within img (one key (if none then nowhere else in_tree t)) 4
root_few img key t true low = nowhere_few img key 4
root_few img key t false low =
    let h = (in_tree_below img t.depth key t.root t.records).few in
    one_few img key (in_tree t) 4 (record { few = omega arith })

after_tree : (img : List ℕ) (key : Key) (address : ℕ) (r : Result BthdFields BlockFault) → ((t : BthdFields) → r ≡ Ok t → t.depth ≤ 3)
    → Within img (after (one key) (then_also (refused_as (Damaged address) r) (λ t. Ok (if t.root == undefined then nowhere else in_tree t)))) 4
after_tree img key address (Ok t) low = root_few img key t (t.root == undefined) (low t refl)
after_tree img key address (Err f) low = record { few = omega arith }

tree_few : (img : List ℕ) (key : Key) (address : ℕ) → Within img (and_then (tree_in_place address) (one key)) 5
tree_few img key address =
    let b = range img address bthd_len in
    within_whole img address bthd_len (λ h. after (one key) (then_also (refused_as (Damaged address) (bthd_at h address)) (λ t. Ok (if t.root == undefined then nowhere else in_tree t)))) 4
    (after_tree img key address (bthd_at b address) (λ t e. shallow b address t e))

-- ---- A chunk

abbrev by_index : ℕ → IndexKind → Prog (Result InPlace ReadError)
by_index address index = elim index [ Array ↦ array_in_place address | Tree ↦ tree_in_place address ]

index_few : (img : List ℕ) (key : Key) (address : ℕ) (none : Bool) (index : IndexKind) → Within img (and_then (if none then ret (Ok nowhere) else by_index address index) (one key)) (most_visits index)
index_few img key address true index = nowhere_few img key (most_visits index)
index_few img key address false Array = array_few img key address
index_few img key address false Tree = tree_few img key address

pub lookup_visits : LookupVisits
lookup_visits img d key = (index_few img key d.layout.address (d.layout.address == undefined) d.layout.index).few
