-- What the check of a file visits can be looked up: each chunk's address, for every key that the index can name.
use Rattle.std.proofs.Common.{◌≡◌, ℕ, zero, suc, ◌+◌, ◌-◌, ◌*◌, ◌/◌, ◌^◌, ◌<◌, ◌≤◌, true, false, cond, List, [], ◌∷◌, ◌++◌, length, get_or, Result, Ok, Err, refl, sym, ◌∙◌, ap, subst, inl, inr, arith}
use Rattle.h5w_model.specs.Numbers.{range, undefined, halvings}
use Rattle.std.specs.Prelude.{◌==◌, ◌&&◌, map, nat_lt, nat_le, if◌then◌else◌}
use Rattle.std.proofs.lemmas.Bool.{cond_both, cond-true, cond-false, cases_lt, ltb-false, le-ltb, lt-ltb}
use Rattle.std.proofs.lemmas.List.{get_or_past}
use Rattle.std.proofs.Math.Nat.{pow-succ'}
use Rattle.h5w_model.specs.Programs.{Prog, ret, whole, stored, eval, visits, and_then}
use Rattle.h5w_model.specs.Arrays.{EaibFields, easb_at, eadb_at, slots_len, super_block_of, place_of, slot_place_of, named_place, blocks_before}
use Rattle.h5w_model.specs.Trees.{RecordFields, ChildFields, btlf_at, btin_at, btlf_len, btin_len, node_size}
use Rattle.h5w_model.specs.Datasets.{then_also, refused_as}
use Rattle.h5w_model.specs.Tables.{data_slot, secondary_slot, array_slot, super_block_of_first, data_block, secondary_block, tree_leaf, tree_node, in_leaf, in_node, key_below, key_equal, tree_lookup}
use Rattle.h5w_model.specs.Findings.{Finding, found, Used, Visited, Under, block_in, both, visit_each, data_block_visit, secondary_block_visit, first_visits, second_visits, chunk_ranges, children_under, node_visit, node_finding, keys_of, record_under, joined}
use Rattle.h5w_model.specs.declared.cell.Key.{Key}
use Rattle.h5w_model.specs.declared.cell.Place.{Place}
use Rattle.h5w_model.specs.declared.cell.Place.TheVariants.{Index, Direct, Second}
use Rattle.h5w_model.specs.declared.refusal.ReadError.{ReadError}
use Rattle.h5w_model.specs.declared.refusal.ReadError.TheVariants.{Damaged}
use Rattle.h5w_laws.specs.Held.{AreInside}
use Rattle.h5w_laws.proofs.ResultLemmas.{HasAnswer, passes, and_then_ok, choice_ok, fits_in}

-- a program answers, and looks at no byte past the image's end
pub record Reaches {A : Type 0} (img : List ℕ) (p : Prog (Result A ReadError)) : Type 0 where
  pub answer : A
  pub is : eval img p ≡ Ok answer
  pub inside : AreInside img (visits img p)

pub reaches_ret : {A : Type 0} (img : List ℕ) (a : A) → Reaches img (ret (Ok a))
reaches_ret img a = record { answer = a; is = refl; inside = tt }

pub reaches_stored : {A : Type 0} (img : List ℕ) (kind place len : ℕ) (next : List ℕ → Prog (Result A ReadError)) → place + len ≤ length img
    → Reaches img (next (range img place len)) → Reaches img (stored kind place len next)
reaches_stored img kind place len next fits h = record { answer = h.answer; is = h.is; inside = (fits, h.inside) }

-- a program that goes on with what was decoded
pub along_ok : {A B E : Type 0} (img : List ℕ) (r : Result A E) (f : A → Prog (Result B ReadError)) (g : E → ReadError) (a : A) → r ≡ Ok a → Reaches img (f a)
    → Reaches img (elim r as (λ _. Prog (Result B ReadError)) [ Ok a ↦ f a | Err e ↦ ret (Err (g e)) ])
along_ok {A} {B} {E} img r f g a e h =
    subst (λ (x : Result A E). Reaches img (elim x as (λ _. Prog (Result B ReadError)) [ Ok a ↦ f a | Err e ↦ ret (Err (g e)) ])) (sym e) h

-- ---- What a visit tells

-- a block that is visited
pub block_ok : (img : List ℕ) (end place n : ℕ) (visit : List ℕ → Visited) (us : List Used) → eval img (block_in end place n visit) ≡ Ok us → HasAnswer (eval img (visit (range img place n)))
block_ok img end place n visit us h =
    cond_both (nat_lt end (place + n)) (ret (Err (found 18 place)))
    (whole place n (λ b. and_then (visit b) (λ us. ret (Ok (record { place = place; len = n; chunk = false } ∷ us)))))
    (λ (q : Visited). eval img q ≡ Ok us → HasAnswer (eval img (visit (range img place n))))
    (λ t e. cc)
    (λ t e.
    let a = and_then_ok img (visit (range img place n)) (λ us. ret (Ok (record { place = place; len = n; chunk = false } ∷ us))) us e in
    (a.0, a.1))
    h

-- a node that is visited
pub node_ok : (img : List ℕ) (end place len : ℕ) (visit : List ℕ → Prog (Result Under Finding)) (u : Under)
    → eval img (if nat_lt end (place + node_size) then ret (Err (found 18 place)) else whole place len visit) ≡ Ok u → eval img (visit (range img place len)) ≡ Ok u
node_ok img end place len visit u h =
    cond_both (nat_lt end (place + node_size)) (ret (Err (found 18 place))) (whole place len visit)
    (λ (q : Prog (Result Under Finding)). eval img q ≡ Ok u → eval img (visit (range img place len)) ≡ Ok u)
    (λ t e. cc) (λ t e. e) h

pub both_ok : (img : List ℕ) (p q : Visited) (us : List Used) → eval img (both p q) ≡ Ok us → HasAnswer (eval img p) × HasAnswer (eval img q)
both_ok img p q us h =
    let a = and_then_ok img p (λ us. and_then q (λ vs. ret (Ok (us ++ vs)))) us h in
    let b = and_then_ok img q (λ vs. ret (Ok (a.0 ++ vs))) us a.2 in
    ((a.0, a.1), (b.0, b.1))

-- each of several visits
pub each_ok : (img : List ℕ) (visit : ℕ → Visited) (places : List ℕ) (us : List Used) (k : ℕ) → eval img (visit_each visit places) ≡ Ok us → k < length places
    → HasAnswer (eval img (visit (get_or places k undefined)))
each_ok img visit [] us k h lt = absurd (omega arith)
each_ok img visit (a ∷ rest) us zero h lt = (both_ok img (visit a) (visit_each visit rest) us h).0
each_ok img visit (a ∷ rest) us (suc k) h lt =
    let parts = both_ok img (visit a) (visit_each visit rest) us h in
    each_ok img visit rest parts.1.0 k parts.1.1 (omega arith)

-- ---- The extensible array

pub no_slot : (img : List ℕ) (n slot : ℕ) → Reaches img (data_slot undefined n slot)
no_slot img n slot = reaches_ret img undefined

pub slot_reached : (img : List ℕ) (end bytes n place : ℕ) (us : List Used) (slot : ℕ) → eval img (data_block_visit end bytes n place) ≡ Ok us → Reaches img (data_slot place n slot)
slot_reached img end bytes n place us slot h =
    let b : List ℕ = range img place (slots_len n) in
    let visit : List ℕ → Visited = λ b. elim (eadb_at b place n) as (λ _. Visited) [ Ok d ↦ ret (chunk_ranges end bytes d.slots) | Err f ↦ ret (Err (found 13 place)) ] in
    let look : List ℕ → Prog (Result ℕ ReadError) = λ b. ret (then_also (refused_as (Damaged place) (eadb_at b place n)) (λ d. Ok (get_or d.slots slot undefined))) in
    cond_both (place == undefined) (ret (Ok undefined)) (stored data_block place (slots_len n) look) (λ (q : Prog (Result ℕ ReadError)). Reaches img q)
    (λ t. reaches_ret img undefined)
    (λ t.
    let there = block_ok img end place (slots_len n) visit us (ap (eval img) (sym (cond-false (place == undefined) (ret (Ok [])) (block_in end place (slots_len n) visit) t)) ∙ h) in
    let decoded = choice_ok img (eadb_at b place n) (λ d. ret (chunk_ranges end bytes d.slots)) (λ f. found 13 place) there.0 there.1 in
    let full = passes (nat_le (slots_len n) (length b)) _ _ decoded.0 decoded.1 in
    reaches_stored img data_block place (slots_len n) look (fits_in img place (slots_len n) (omega arith) full.0)
    (record {
      answer = get_or decoded.0.slots slot undefined;
      is = ap (λ r. then_also (refused_as (Damaged place) r) (λ d. Ok (get_or d.slots slot undefined))) decoded.1;
      inside = tt;
    }))

-- the slot of an address in a list, where each of the list is visited
pub listed_reached : (img : List ℕ) (n slot : ℕ) (places : List ℕ) (k : ℕ)
    → (k < length places → Reaches img (data_slot (get_or places k undefined) n slot)) → Reaches img (data_slot (get_or places k undefined) n slot)
listed_reached img n slot places k h =
    elim (cases_lt k (length places)) [
      | inl there ↦ h there
      | inr past ↦ subst (λ a. Reaches img (data_slot a n slot)) (sym (get_or_past places k undefined past)) (no_slot img n slot)
    ]

pub secondary_reached : (img : List ℕ) (end bytes sblock place : ℕ) (us : List Used) (block slot : ℕ) → eval img (secondary_block_visit end bytes sblock place) ≡ Ok us
    → Reaches img (secondary_slot place sblock block slot)
secondary_reached img end bytes sblock place us block slot h =
    let n : ℕ = (super_block_of sblock).blocks in
    let m : ℕ = (super_block_of sblock).slots in
    let b : List ℕ = range img place (slots_len n) in
    let visit : List ℕ → Visited = λ b. elim (easb_at b place n) as (λ _. Visited) [ Ok s ↦ visit_each (data_block_visit end bytes m) s.slots | Err f ↦ ret (Err (found 12 place)) ] in
    let look : List ℕ → Prog (Result ℕ ReadError) = λ b. elim (easb_at b place n) as (λ _. Prog (Result ℕ ReadError)) [
      | Ok s ↦ data_slot (get_or s.slots block undefined) m slot
      | Err f ↦ ret (Err (Damaged place f))
    ] in
    cond_both (place == undefined) (ret (Ok undefined)) (stored secondary_block place (slots_len n) look) (λ (q : Prog (Result ℕ ReadError)). Reaches img q)
    (λ t. reaches_ret img undefined)
    (λ t.
    let there = block_ok img end place (slots_len n) visit us (ap (eval img) (sym (cond-false (place == undefined) (ret (Ok [])) (block_in end place (slots_len n) visit) t)) ∙ h) in
    let decoded = choice_ok img (easb_at b place n) (λ s. visit_each (data_block_visit end bytes m) s.slots) (λ f. found 12 place) there.0 there.1 in
    let full = passes (nat_le (slots_len n) (length b)) _ _ decoded.0 decoded.1 in
    reaches_stored img secondary_block place (slots_len n) look (fits_in img place (slots_len n) (omega arith) full.0)
    (along_ok img (easb_at b place n) (λ s. data_slot (get_or s.slots block undefined) m slot) (λ f. Damaged place f) decoded.0 decoded.1
    (listed_reached img m slot decoded.0.slots block (λ lt.
    let v = each_ok img (data_block_visit end bytes m) decoded.0.slots there.0 block decoded.2 lt in
    slot_reached img end bytes m (get_or decoded.0.slots block undefined) v.0 slot v.1))))

-- the data blocks that the index block names
pub first_ok : (img : List ℕ) (end bytes block : ℕ) (places : List ℕ) (us : List Used) (k : ℕ) → eval img (first_visits end bytes block places) ≡ Ok us → k < length places
    → HasAnswer (eval img (data_block_visit end bytes (super_block_of (super_block_of_first (block + k))).slots (get_or places k undefined)))
first_ok img end bytes block [] us k h lt = absurd (omega arith)
first_ok img end bytes block (a ∷ rest) us zero h lt =
    let e : block ≡ block + 0 = omega arith in
    subst (λ n. HasAnswer (eval img (data_block_visit end bytes (super_block_of (super_block_of_first n)).slots a))) e
    (both_ok img (data_block_visit end bytes (super_block_of (super_block_of_first block)).slots a) (first_visits end bytes (block + 1) rest) us h).0
first_ok img end bytes block (a ∷ rest) us (suc k) h lt =
    let e : (block + 1) + k ≡ block + suc k = omega arith in
    let parts = both_ok img (data_block_visit end bytes (super_block_of (super_block_of_first block)).slots a) (first_visits end bytes (block + 1) rest) us h in
    subst (λ n. HasAnswer (eval img (data_block_visit end bytes (super_block_of (super_block_of_first n)).slots (get_or rest k undefined)))) e
    (first_ok img end bytes (block + 1) rest parts.1.0 k parts.1.1 (omega arith))

pub second_parts : (img : List ℕ) (end bytes sblock a : ℕ) (rest : List ℕ) (us : List Used) → eval img (second_visits end bytes sblock (a ∷ rest)) ≡ Ok us → sblock ≤ 12
    → HasAnswer (eval img (secondary_block_visit end bytes sblock a)) × HasAnswer (eval img (second_visits end bytes (sblock + 1) rest))
second_parts img end bytes sblock a rest us h low =
    let more : Visited = both (secondary_block_visit end bytes sblock a) (second_visits end bytes (sblock + 1) rest) in
    both_ok img (secondary_block_visit end bytes sblock a) (second_visits end bytes (sblock + 1) rest) us
    (ap (eval img) (sym (cond-false (nat_lt 12 sblock) (ret (Ok [])) more (le-ltb 12 sblock low))) ∙ h)

-- the secondary blocks of super blocks up to 12
pub second_ok : (img : List ℕ) (end bytes sblock : ℕ) (places : List ℕ) (us : List Used) (k : ℕ) → eval img (second_visits end bytes sblock places) ≡ Ok us → k < length places → sblock + k ≤ 12
    → HasAnswer (eval img (secondary_block_visit end bytes (sblock + k) (get_or places k undefined)))
second_ok img end bytes sblock [] us k h lt low = absurd (omega arith)
second_ok img end bytes sblock (a ∷ rest) us zero h lt low =
    let e : sblock ≡ sblock + 0 = omega arith in
    subst (λ n. HasAnswer (eval img (secondary_block_visit end bytes n a))) e (second_parts img end bytes sblock a rest us h (omega arith)).0
second_ok img end bytes sblock (a ∷ rest) us (suc k) h lt low =
    let e : (sblock + 1) + k ≡ sblock + suc k = omega arith in
    let later = (second_parts img end bytes sblock a rest us h (omega arith)).1 in
    subst (λ n. HasAnswer (eval img (secondary_block_visit end bytes n (get_or rest k undefined)))) e
    (second_ok img end bytes (sblock + 1) rest later.0 k later.1 (omega arith) (omega arith))

-- where the slot of a chunk stands: in a super block up to 12
abbrev pub IsNear : Place → Type 0
IsNear (Index slot) = Unit {0}
IsNear (Direct block slot) = Unit {0}
IsNear (Second sblock block slot) = (4 ≤ sblock) × (sblock ≤ 12)

pub halvings_below : (n m k : ℕ) → m < 2 ^ suc k → halvings n m ≤ k
unfolding halvings
halvings_below zero m k h = omega arith
halvings_below (suc n) m zero h =
    let small : m < 2 = omega arith in
    subst (λ x. x ≤ 0) (sym (cond-true (nat_lt m 2) 0 (suc (halvings n (m / 2))) (lt-ltb m 2 small))) (omega arith)
halvings_below (suc n) m (suc k) h =
    let e : 2 ^ suc (suc k) ≡ 2 * 2 ^ suc k = pow-succ' 2 (suc k) in
    cond_both (nat_lt m 2) 0 (suc (halvings n (m / 2))) (λ x. x ≤ suc k)
    (λ t. omega arith)
    (λ t. omega (arith, halvings_below n (m / 2) k (omega arith)))

pub near_place : (i : ℕ) → i < 131060 → IsNear (place_of i)
near_place i h =
    let p = slot_place_of (i - 4) in
    cond_both (nat_lt i 4) (Index i) (named_place p) IsNear (λ t. tt)
    (λ t. cond_both (nat_lt p.sblock 4) (Direct (blocks_before p.sblock + p.block) p.slot) (Second p.sblock p.block p.slot) IsNear (λ s. tt)
    (λ s. (ltb-false p.sblock 4 s, halvings_below 63 ((i - 4) / 16 + 1) 12 (omega arith))))

-- the visits of an index block's addresses
pub record IndexVisits (img : List ℕ) (end bytes : ℕ) (e : EaibFields) : Type 0 where
  pub first : HasAnswer (eval img (first_visits end bytes 0 e.first))
  pub second : HasAnswer (eval img (second_visits end bytes 4 e.second))

pub slot_from : (img : List ℕ) (end bytes : ℕ) (e : EaibFields) → IndexVisits img end bytes e → (place : Place) → IsNear place
    → Reaches img (elim place as (λ _. Prog (Result ℕ ReadError)) [
      | Index slot ↦ ret (Ok (get_or e.slots slot undefined))
      | Direct block slot ↦ data_slot (get_or e.first block undefined) (super_block_of (super_block_of_first block)).slots slot
      | Second sblock block slot ↦ secondary_slot (get_or e.second (sblock - 4) undefined) sblock block slot
    ])
slot_from img end bytes e v (Index slot) near = reaches_ret img (get_or e.slots slot undefined)
slot_from img end bytes e v (Direct block slot) near =
    let n : ℕ = (super_block_of (super_block_of_first block)).slots in
    listed_reached img n slot e.first block (λ lt.
    let f = first_ok img end bytes 0 e.first v.first.0 block v.first.1 lt in
    let zero_and : 0 + block ≡ block = omega arith in
    slot_reached img end bytes n (get_or e.first block undefined) f.0 slot
    (subst (λ m. eval img (data_block_visit end bytes (super_block_of (super_block_of_first m)).slots (get_or e.first block undefined)) ≡ Ok f.0) zero_and f.1))
slot_from img end bytes e v (Second sblock block slot) near =
    let k : ℕ = sblock - 4 in
    let s : 4 + k ≡ sblock = omega (arith, near.0) in
    elim (cases_lt k (length e.second)) [
      | inl there ↦
          let f = second_ok img end bytes 4 e.second v.second.0 k v.second.1 there (omega (arith, near.0, near.1)) in
          secondary_reached img end bytes sblock (get_or e.second k undefined) f.0 block slot
          (subst (λ n. eval img (secondary_block_visit end bytes n (get_or e.second k undefined)) ≡ Ok f.0) s f.1)
      | inr past ↦
          subst (λ a. Reaches img (secondary_slot a sblock block slot)) (sym (get_or_past e.second k undefined past)) (reaches_ret img undefined)
    ]

pub array_reached : (img : List ℕ) (end bytes : ℕ) (e : EaibFields) (i : ℕ) → IndexVisits img end bytes e → i < 131060 → Reaches img (array_slot e i)
array_reached img end bytes e i v h = slot_from img end bytes e v (place_of i) (near_place i h)

-- ---- The tree

-- an inner node, each of whose children is visited
pub node_reached : (img : List ℕ) (end bytes : ℕ) (visit : ChildFields → Prog (Result Under Finding)) (look : ChildFields → Prog (Result ℕ ReadError)) (key : Key) (rs : List RecordFields) (cs : List ChildFields)
    → ((c : ChildFields) → HasAnswer (eval img (visit c)) → Reaches img (look c)) → HasAnswer (eval img (children_under end bytes visit rs cs)) → Reaches img (in_node look key rs cs)
node_reached img end bytes visit look key [] [] go h = reaches_ret img undefined
node_reached img end bytes visit look key (r ∷ rs) [] go h = reaches_ret img undefined
node_reached img end bytes visit look key [] (c ∷ cs) go h =
    let first = and_then_ok img (visit c) (λ u. ret (Ok ((c.total == length u.keys), u))) h.0 h.1 in
    go c (first.0, first.1)
node_reached img end bytes visit look key (r ∷ rs) (c ∷ cs) go h =
    let first = and_then_ok img (visit c) (λ u.
    and_then (ret (record_under end bytes r)) (λ v.
    and_then (children_under end bytes visit rs cs) (λ rest.
    ret (Ok (((c.total == length u.keys) && rest.0), joined u (joined v rest.1)))))) h.0 h.1 in
    let own = and_then_ok img (ret (record_under end bytes r)) (λ v.
    and_then (children_under end bytes visit rs cs) (λ rest.
    ret (Ok (((c.total == length first.0.keys) && rest.0), joined first.0 (joined v rest.1))))) h.0 first.2 in
    let later = and_then_ok img (children_under end bytes visit rs cs) (λ rest.
    ret (Ok (((c.total == length first.0.keys) && rest.0), joined first.0 (joined own.0 rest.1)))) h.0 own.2 in
    cond_both (key_below r.key key) (in_node look key rs cs) (cond (key_equal r.key key) (ret (Ok r.address)) (look c)) (λ (q : Prog (Result ℕ ReadError)). Reaches img q)
    (λ t. node_reached img end bytes visit look key rs cs go (later.0, later.1))
    (λ t. cond_both (key_equal r.key key) (ret (Ok r.address)) (look c) (λ (q : Prog (Result ℕ ReadError)). Reaches img q)
    (λ s. reaches_ret img r.address)
    (λ s. go c (first.0, first.1)))

pub tree_reached : (img : List ℕ) (end bytes depth place n : ℕ) (key : Key) → HasAnswer (eval img (node_visit end bytes depth place n)) → Reaches img (tree_lookup depth key place n)
tree_reached img end bytes zero place n key h =
    let b : List ℕ = range img place (btlf_len n) in
    let visit : List ℕ → Prog (Result Under Finding) = λ b. elim (btlf_at b place n) as (λ _. Prog (Result Under Finding)) [
      | Ok rs ↦ ret (then_also (chunk_ranges end bytes (map (λ r. r.address) rs)) (λ us. node_finding place true (record { ranges = us; keys = keys_of rs })))
      | Err f ↦ ret (Err (found 14 place))
    ] in
    let look : List ℕ → Prog (Result ℕ ReadError) = λ b. ret (then_also (refused_as (Damaged place) (btlf_at b place n)) (λ rs. Ok (in_leaf key rs))) in
    let there = node_ok img end place (btlf_len n) visit h.0 h.1 in
    let decoded = choice_ok img (btlf_at b place n) (λ rs. ret (then_also (chunk_ranges end bytes (map (λ r. r.address) rs)) (λ us. node_finding place true (record { ranges = us; keys = keys_of rs })))) (λ f. found 14 place) h.0 there in
    let full = passes (nat_le (btlf_len n) (length b)) _ _ decoded.0 decoded.1 in
    reaches_stored img tree_leaf place (btlf_len n) look (fits_in img place (btlf_len n) (omega arith) full.0)
    (record {
      answer = in_leaf key decoded.0;
      is = ap (λ r. then_also (refused_as (Damaged place) r) (λ rs. Ok (in_leaf key rs))) decoded.1;
      inside = tt;
    })
tree_reached img end bytes (suc depth) place n key h =
    let len : ℕ = btin_len n (suc depth) in
    let b : List ℕ = range img place len in
    let visit_child : ChildFields → Prog (Result Under Finding) = λ c. node_visit end bytes depth c.address c.records in
    let look_child : ChildFields → Prog (Result ℕ ReadError) = λ c. tree_lookup depth key c.address c.records in
    let visit : List ℕ → Prog (Result Under Finding) = λ b. elim (btin_at b place n (suc depth)) as (λ _. Prog (Result Under Finding)) [
      | Ok t ↦ and_then (children_under end bytes visit_child t.records t.children) (λ u. ret (node_finding place u.0 u.1))
      | Err f ↦ ret (Err (found 14 place))
    ] in
    let look : List ℕ → Prog (Result ℕ ReadError) = λ b. elim (btin_at b place n (suc depth)) as (λ _. Prog (Result ℕ ReadError)) [
      | Ok t ↦ in_node look_child key t.records t.children
      | Err f ↦ ret (Err (Damaged place f))
    ] in
    let there = node_ok img end place len visit h.0 h.1 in
    let decoded = choice_ok img (btin_at b place n (suc depth)) (λ t. and_then (children_under end bytes visit_child t.records t.children) (λ u. ret (node_finding place u.0 u.1))) (λ f. found 14 place) h.0 there in
    let full = passes (nat_le len (length b)) _ _ decoded.0 decoded.1 in
    let under = and_then_ok img (children_under end bytes visit_child decoded.0.records decoded.0.children) (λ u. ret (node_finding place u.0 u.1)) h.0 decoded.2 in
    reaches_stored img (tree_node (suc depth)) place len look (fits_in img place len (omega arith) full.0)
    (along_ok img (btin_at b place n (suc depth)) (λ t. in_node look_child key t.records t.children) (λ f. Damaged place f) decoded.0 decoded.1
    (node_reached img end bytes visit_child look_child key decoded.0.records decoded.0.children (λ c g. tree_reached img end bytes depth c.address c.records key g) (under.0, under.1)))
