-- The ranges that a check collects end by the end-of-file address.
use Rattle.std.proofs.Common.{◌≡◌, ℕ, zero, suc, ◌+◌, ◌≤◌, Bool, true, false, cond, ◌&&◌, List, [], ◌∷◌, ◌++◌, length, map, Result, Ok, Err, subst}
use Rattle.std.specs.Prelude.{nat_lt, ◌==◌}
use Rattle.std.specs.List.{AllByRecursion}
use Rattle.std.proofs.lemmas.Bool.{cond_both, ltb-false}
use Rattle.h5w_model.specs.Numbers.{range, undefined}
use Rattle.h5w_model.specs.Programs.{Prog, ret, whole, eval, and_then}
use Rattle.h5w_model.specs.Arrays.{EaibFields, EahdFields, SlotsFields, eahd_at, eaib_at, easb_at, eadb_at, eahd_len, eaib_len, slots_len, super_block_of}
use Rattle.h5w_model.specs.Trees.{RecordFields, ChildFields, BthdFields, BtinFields, bthd_at, btlf_at, btin_at, bthd_len, btlf_len, btin_len, node_size}
use Rattle.h5w_model.specs.Datasets.{Described, Range, then_also}
use Rattle.h5w_model.specs.Tables.{super_block_of_first}
use Rattle.h5w_model.specs.Findings.{Finding, found, Used, Visited, Under, header_ranges, chunk_ranges, block_in, both, visit_each, data_block_visit, secondary_block_visit, first_visits, second_visits, index_block_visit, array_visit, record_under, joined, node_at, node_checks, node_finding, keys_of, children_under, node_visit, tree_visit, index_visit, chunk_bytes, block_past_end, chunk_past_end, bad_data_block, bad_secondary_block, bad_index_block, bad_index_header, bad_node}
use Rattle.h5w_model.specs.declared.cell.IndexKind.{IndexKind}
use Rattle.h5w_model.specs.declared.cell.IndexKind.TheVariants.{Array, Tree}
use Rattle.h5w_model.proofs.CheckedLemmas.{checked-passed}
use Rattle.h5w_laws.specs.Ranges.{EndsBy}
use Rattle.h5w_laws.proofs.ResultLemmas.{then_ok, fails, and_then_ok, choice_ok}
use Rattle.h5w_laws.proofs.ApartLemmas.{all_joined}

abbrev pub AllEnd : ℕ → List Used → Type 0
AllEnd end us = AllByRecursion (EndsBy end) us

abbrev pub ranges_are : List Used → Result (List Used) Finding
ranges_are us = Ok us

pub same_ranges : (us vs : List Used) → ranges_are us ≡ ranges_are vs → us ≡ vs
same_ranges us vs h = cc

-- ---- Headers and chunks

pub header_ends : (end : ℕ) (rs : List Range) (us : List Used) → header_ranges end rs ≡ Ok us → AllEnd end us
header_ends end [] us h = subst (AllEnd end) (same_ranges [] us h) tt
header_ends end (r ∷ rs) us h =
    let f = fails (nat_lt end (r.place + r.len)) (then_also (header_ranges end rs) (λ vs. ranges_are (record { place = r.place; len = r.len; chunk = false } ∷ vs))) (found block_past_end r.place) us h in
    let t = then_ok (header_ranges end rs) (λ vs. ranges_are (record { place = r.place; len = r.len; chunk = false } ∷ vs)) us f.1 in
    subst (AllEnd end) (same_ranges (record { place = r.place; len = r.len; chunk = false } ∷ t.0) us t.2) (ltb-false end (r.place + r.len) f.0, header_ends end rs t.0 t.1)

chunks_end : (end bytes : ℕ) (places : List ℕ) (us : List Used) → chunk_ranges end bytes places ≡ Ok us → AllEnd end us
chunks_end end bytes [] us h = subst (AllEnd end) (same_ranges [] us h) tt
chunks_end end bytes (a ∷ rest) us h = go (chunks_end end bytes rest) h
  where
    own : ((vs : List Used) → chunk_ranges end bytes rest ≡ Ok vs → AllEnd end vs)
        → cond (nat_lt end (a + bytes)) (Err (found chunk_past_end a)) (then_also (chunk_ranges end bytes rest) (λ vs. ranges_are (record { place = a; len = bytes; chunk = true } ∷ vs))) ≡ ranges_are us → AllEnd end us
    own more h =
        let f = fails (nat_lt end (a + bytes)) (then_also (chunk_ranges end bytes rest) (λ vs. ranges_are (record { place = a; len = bytes; chunk = true } ∷ vs))) (found chunk_past_end a) us h in
        let t = then_ok (chunk_ranges end bytes rest) (λ vs. ranges_are (record { place = a; len = bytes; chunk = true } ∷ vs)) us f.1 in
        subst (AllEnd end) (same_ranges (record { place = a; len = bytes; chunk = true } ∷ t.0) us t.2) (ltb-false end (a + bytes) f.0, more t.0 t.1)

    go : ((vs : List Used) → chunk_ranges end bytes rest ≡ Ok vs → AllEnd end vs) → chunk_ranges end bytes (a ∷ rest) ≡ ranges_are us → AllEnd end us
    go more h =
        cond_both (a == undefined) (chunk_ranges end bytes rest)
        (cond (nat_lt end (a + bytes)) (Err (found chunk_past_end a)) (then_also (chunk_ranges end bytes rest) (λ vs. ranges_are (record { place = a; len = bytes; chunk = true } ∷ vs))))
        (λ (r : Result (List Used) Finding). r ≡ ranges_are us → AllEnd end us) (λ t. more us) (λ t. own more) h

-- ---- Visits

-- what a visit collects ends by a place
abbrev pub Ends : List ℕ → ℕ → Visited → Type 0
Ends img end p = (us : List Used) → eval img p ≡ Ok us → AllEnd end us

no_visit : (img : List ℕ) (end : ℕ) → Ends img end (ret (Ok []))
no_visit img end us h = subst (AllEnd end) (same_ranges [] us h) tt

refused_visit : (img : List ℕ) (end : ℕ) (f : Finding) → Ends img end (ret (Err f))
refused_visit img end f us h = cc

chosen : (img : List ℕ) (end : ℕ) (t : Bool) (p q : Visited) → Ends img end p → Ends img end q → Ends img end (cond t p q)
chosen img end t p q h g = cond_both t p q (λ (r : Visited). Ends img end r) (λ e. h) (λ e. g)

both_end : (img : List ℕ) (end : ℕ) (p q : Visited) → Ends img end p → Ends img end q → Ends img end (both p q)
both_end img end p q h g us e =
    let a = and_then_ok img p (λ us. and_then q (λ vs. ret (ranges_are (us ++ vs)))) us e in
    let b = and_then_ok img q (λ vs. ret (ranges_are (a.0 ++ vs))) us a.2 in
    subst (AllEnd end) (same_ranges (a.0 ++ b.0) us b.2) (all_joined (EndsBy end) a.0 b.0 (h a.0 a.1) (g b.0 b.1))

each_end : (img : List ℕ) (end : ℕ) (visit : ℕ → Visited) (places : List ℕ) → ((a : ℕ) → Ends img end (visit a)) → Ends img end (visit_each visit places)
each_end img end visit [] h = no_visit img end
each_end img end visit (a ∷ rest) h = both_end img end (visit a) (visit_each visit rest) (h a) (each_end img end visit rest h)

block_end : (img : List ℕ) (end place n : ℕ) (visit : List ℕ → Visited) → ((b : List ℕ) → Ends img end (visit b)) → Ends img end (block_in end place n visit)
block_end img end place n visit h us e =
    cond_both (nat_lt end (place + n)) (ret (Err (found block_past_end place)))
    (whole place n (λ b. and_then (visit b) (λ vs. ret (ranges_are (record { place = place; len = n; chunk = false } ∷ vs)))))
    (λ (q : Visited). eval img q ≡ Ok us → AllEnd end us) (λ t e. cc)
    (λ t e.
    let a = and_then_ok img (visit (range img place n)) (λ vs. ret (ranges_are (record { place = place; len = n; chunk = false } ∷ vs))) us e in
    subst (AllEnd end) (same_ranges (record { place = place; len = n; chunk = false } ∷ a.0) us a.2) (ltb-false end (place + n) t, h (range img place n) a.0 a.1))
    e

-- a visit that goes on with what was decoded
decoded_end : {A E : Type 0} (img : List ℕ) (end : ℕ) (r : Result A E) (f : A → Visited) (g : E → Finding) → ((a : A) → Ends img end (f a))
    → Ends img end (elim r as (λ _. Visited) [ Ok a ↦ f a | Err e ↦ ret (Err (g e)) ])
decoded_end img end (Ok a) f g h = h a
decoded_end img end (Err e) f g h = refused_visit img end (g e)

-- ---- The extensible array

data_end : (img : List ℕ) (end bytes n place : ℕ) → Ends img end (data_block_visit end bytes n place)
data_end img end bytes n place =
    chosen img end (place == undefined) (ret (Ok []))
    (block_in end place (slots_len n) (λ b. elim (eadb_at b place n) as (λ _. Visited) [ Ok d ↦ ret (chunk_ranges end bytes d.slots) | Err f ↦ ret (Err (found bad_data_block place)) ]))
    (no_visit img end)
    (block_end img end place (slots_len n) (λ b. elim (eadb_at b place n) as (λ _. Visited) [ Ok d ↦ ret (chunk_ranges end bytes d.slots) | Err f ↦ ret (Err (found bad_data_block place)) ])
    (λ b. decoded_end img end (eadb_at b place n) (λ (d : SlotsFields). ret (chunk_ranges end bytes d.slots)) (λ f. found bad_data_block place) (λ d. chunks_end end bytes d.slots)))

second_end : (img : List ℕ) (end bytes sblock place : ℕ) → Ends img end (secondary_block_visit end bytes sblock place)
second_end img end bytes sblock place =
    let inner : SlotsFields → Visited = λ s. visit_each (data_block_visit end bytes (super_block_of sblock).slots) s.slots in
    let visit : List ℕ → Visited = λ b. elim (easb_at b place (super_block_of sblock).blocks) as (λ _. Visited) [ Ok s ↦ inner s | Err f ↦ ret (Err (found bad_secondary_block place)) ] in
    chosen img end (place == undefined) (ret (Ok [])) (block_in end place (slots_len (super_block_of sblock).blocks) visit) (no_visit img end)
    (block_end img end place (slots_len (super_block_of sblock).blocks) visit
    (λ b. decoded_end img end (easb_at b place (super_block_of sblock).blocks) inner (λ f. found bad_secondary_block place)
    (λ s. each_end img end (data_block_visit end bytes (super_block_of sblock).slots) s.slots (data_end img end bytes (super_block_of sblock).slots))))

firsts_end : (img : List ℕ) (end bytes block : ℕ) (places : List ℕ) → Ends img end (first_visits end bytes block places)
firsts_end img end bytes block [] = no_visit img end
firsts_end img end bytes block (a ∷ rest) =
    both_end img end (data_block_visit end bytes (super_block_of (super_block_of_first block)).slots a) (first_visits end bytes (block + 1) rest)
    (data_end img end bytes (super_block_of (super_block_of_first block)).slots a) (firsts_end img end bytes (block + 1) rest)

seconds_end : (img : List ℕ) (end bytes sblock : ℕ) (places : List ℕ) → Ends img end (second_visits end bytes sblock places)
seconds_end img end bytes sblock [] = no_visit img end
seconds_end img end bytes sblock (a ∷ rest) =
    chosen img end (nat_lt 12 sblock) (ret (Ok [])) (both (secondary_block_visit end bytes sblock a) (second_visits end bytes (sblock + 1) rest)) (no_visit img end)
    (both_end img end (secondary_block_visit end bytes sblock a) (second_visits end bytes (sblock + 1) rest) (second_end img end bytes sblock a) (seconds_end img end bytes (sblock + 1) rest))

index_block_end : (img : List ℕ) (end bytes place : ℕ) → Ends img end (index_block_visit end bytes place)
index_block_end img end bytes place =
    let inner : EaibFields → Visited = λ e. both (ret (chunk_ranges end bytes e.slots)) (both (first_visits end bytes 0 e.first) (second_visits end bytes 4 e.second)) in
    block_end img end place eaib_len (λ b. elim (eaib_at b place) as (λ _. Visited) [ Ok e ↦ inner e | Err f ↦ ret (Err (found bad_index_block place)) ])
    (λ b. decoded_end img end (eaib_at b place) inner (λ f. found bad_index_block place)
    (λ e. both_end img end (ret (chunk_ranges end bytes e.slots)) (both (first_visits end bytes 0 e.first) (second_visits end bytes 4 e.second)) (chunks_end end bytes e.slots)
    (both_end img end (first_visits end bytes 0 e.first) (second_visits end bytes 4 e.second) (firsts_end img end bytes 0 e.first) (seconds_end img end bytes 4 e.second))))

array_end : (img : List ℕ) (end bytes place : ℕ) → Ends img end (array_visit end bytes place)
array_end img end bytes place =
    let inner : EahdFields → Visited = λ h. cond (h.block == undefined) (ret (Ok [])) (index_block_visit end bytes h.block) in
    block_end img end place eahd_len (λ b. elim (eahd_at b place) as (λ _. Visited) [ Ok h ↦ inner h | Err f ↦ ret (Err (found bad_index_header place)) ])
    (λ b. decoded_end img end (eahd_at b place) inner (λ f. found bad_index_header place)
    (λ h. chosen img end (h.block == undefined) (ret (Ok [])) (index_block_visit end bytes h.block) (no_visit img end) (index_block_end img end bytes h.block)))

-- ---- The tree

abbrev pub EndsUnder : List ℕ → ℕ → Prog (Result Under Finding) → Type 0
EndsUnder img end p = (u : Under) → eval img p ≡ Ok u → AllEnd end u.ranges

abbrev of_node : Under → Result Under Finding
of_node u = Ok u

same_under : (u v : Under) → of_node u ≡ of_node v → u ≡ v
same_under u v h = cc

abbrev of_children : Bool × Under → Result (Bool × Under) Finding
of_children t = Ok t

same_children : (t v : Bool × Under) → of_children t ≡ of_children v → t ≡ v
same_children t v h = cc

under_ends : (end : ℕ) (u v : Under) → u ≡ v → AllEnd end u.ranges → AllEnd end v.ranges
under_ends end u v e h = subst (λ (w : Under). AllEnd end w.ranges) e h

record_ends : (end bytes : ℕ) (r : RecordFields) (v : Under) → record_under end bytes r ≡ Ok v → AllEnd end v.ranges
record_ends end bytes r v h =
    let t = then_ok (chunk_ranges end bytes (r.address ∷ [])) (λ us. of_node (record { ranges = us; keys = r.key ∷ [] })) v h in
    under_ends end (record { ranges = t.0; keys = r.key ∷ [] }) v (same_under (record { ranges = t.0; keys = r.key ∷ [] }) v t.2) (chunks_end end bytes (r.address ∷ []) t.0 t.1)

children_end : (img : List ℕ) (end bytes : ℕ) (visit : ChildFields → Prog (Result Under Finding)) (rs : List RecordFields) (cs : List ChildFields) → ((c : ChildFields) → EndsUnder img end (visit c))
    → (t : Bool × Under) → eval img (children_under end bytes visit rs cs) ≡ Ok t → AllEnd end (t.1).ranges
children_end img end bytes visit rs [] h t e = subst (λ (v : Bool × Under). AllEnd end (v.1).ranges) (same_children (true, record { ranges = []; keys = [] }) t e) tt
children_end img end bytes visit [] (c ∷ cs) h t e =
    let a = and_then_ok img (visit c) (λ u. ret (of_children ((c.total == length u.keys), u))) t e in
    subst (λ (v : Bool × Under). AllEnd end (v.1).ranges) (same_children ((c.total == length a.0.keys), a.0) t a.2) (h c a.0 a.1)
children_end img end bytes visit (r ∷ rs) (c ∷ cs) h t e =
    let first = and_then_ok img (visit c) (λ u.
    and_then (ret (record_under end bytes r)) (λ v.
    and_then (children_under end bytes visit rs cs) (λ rest.
    ret (of_children (((c.total == length u.keys) && rest.0), joined u (joined v rest.1)))))) t e in
    let own = and_then_ok img (ret (record_under end bytes r)) (λ v.
    and_then (children_under end bytes visit rs cs) (λ rest.
    ret (of_children (((c.total == length first.0.keys) && rest.0), joined first.0 (joined v rest.1))))) t first.2 in
    let later = and_then_ok img (children_under end bytes visit rs cs) (λ rest.
    ret (of_children (((c.total == length first.0.keys) && rest.0), joined first.0 (joined own.0 rest.1)))) t own.2 in
    subst (λ (v : Bool × Under). AllEnd end (v.1).ranges)
    (same_children (((c.total == length first.0.keys) && later.0.0), joined first.0 (joined own.0 later.0.1)) t later.2)
    (all_joined (EndsBy end) first.0.ranges (own.0.ranges ++ later.0.1.ranges) (h c first.0 first.1)
    (all_joined (EndsBy end) own.0.ranges later.0.1.ranges (record_ends end bytes r own.0 own.1) (children_end img end bytes visit rs cs h later.0 later.1)))

checked_ends : (end place : ℕ) (totals : Bool) (u v : Under) → place + node_size ≤ end → node_finding place totals u ≡ Ok v → AllEnd end u.ranges → AllEnd end v.ranges
checked_ends end place totals u v low h ends =
    let c = checked-passed (node_checks place totals u) (node_at place u) v h in
    under_ends end (node_at place u) v c.1 (low, ends)

-- a node within the end
node_within : (img : List ℕ) (end place len : ℕ) (visit : List ℕ → Prog (Result Under Finding)) → (place + node_size ≤ end → (b : List ℕ) → EndsUnder img end (visit b))
    → EndsUnder img end (cond (nat_lt end (place + node_size)) (ret (Err (found block_past_end place))) (whole place len visit))
node_within img end place len visit h u e =
    cond_both (nat_lt end (place + node_size)) (ret (Err (found block_past_end place))) (whole place len visit)
    (λ (q : Prog (Result Under Finding)). eval img q ≡ Ok u → AllEnd end u.ranges) (λ t e. cc)
    (λ t e. h (ltb-false end (place + node_size) t) (range img place len) u e) e

node_ends : (img : List ℕ) (end bytes depth place n : ℕ) → EndsUnder img end (node_visit end bytes depth place n)
node_ends img end bytes zero place n =
    let leaf : List RecordFields → Prog (Result Under Finding) = λ rs. ret (then_also (chunk_ranges end bytes (map (λ r. r.address) rs)) (λ us. node_finding place true (record { ranges = us; keys = keys_of rs }))) in
    node_within img end place (btlf_len n) (λ b. elim (btlf_at b place n) as (λ _. Prog (Result Under Finding)) [ Ok rs ↦ leaf rs | Err f ↦ ret (Err (found bad_node place)) ])
    (λ low b u e.
    let d = choice_ok img (btlf_at b place n) leaf (λ f. found bad_node place) u e in
    let t = then_ok (chunk_ranges end bytes (map (λ r. r.address) d.0)) (λ us. node_finding place true (record { ranges = us; keys = keys_of d.0 })) u d.2 in
    checked_ends end place true (record { ranges = t.0; keys = keys_of d.0 }) u low t.2 (chunks_end end bytes (map (λ r. r.address) d.0) t.0 t.1))
node_ends img end bytes (suc depth) place n =
    let visit_child : ChildFields → Prog (Result Under Finding) = λ c. node_visit end bytes depth c.address c.records in
    let inner : BtinFields → Prog (Result Under Finding) = λ t. and_then (children_under end bytes visit_child t.records t.children) (λ u. ret (node_finding place u.0 u.1)) in
    node_within img end place (btin_len n (suc depth)) (λ b. elim (btin_at b place n (suc depth)) as (λ _. Prog (Result Under Finding)) [ Ok t ↦ inner t | Err f ↦ ret (Err (found bad_node place)) ])
    (λ low b u e.
    let d = choice_ok img (btin_at b place n (suc depth)) inner (λ f. found bad_node place) u e in
    let t = and_then_ok img (children_under end bytes visit_child d.0.records d.0.children) (λ v. ret (node_finding place v.0 v.1)) u d.2 in
    checked_ends end place t.0.0 t.0.1 u low t.2
    (children_end img end bytes visit_child d.0.records d.0.children (λ c. node_ends img end bytes depth c.address c.records) t.0 t.1))

tree_end : (img : List ℕ) (end bytes place : ℕ) → Ends img end (tree_visit end bytes place)
tree_end img end bytes place =
    let root : BthdFields → Visited = λ t. and_then (node_visit end bytes t.depth t.root t.records) (λ u. ret (ranges_are u.ranges)) in
    let inner : BthdFields → Visited = λ t. cond (t.root == undefined) (ret (Ok [])) (root t) in
    block_end img end place bthd_len (λ b. elim (bthd_at b place) as (λ _. Visited) [ Ok t ↦ inner t | Err f ↦ ret (Err (found bad_index_header place)) ])
    (λ b. decoded_end img end (bthd_at b place) inner (λ f. found bad_index_header place)
    (λ t. chosen img end (t.root == undefined) (ret (Ok [])) (root t) (no_visit img end)
    (λ us e.
    let a = and_then_ok img (node_visit end bytes t.depth t.root t.records) (λ u. ret (ranges_are u.ranges)) us e in
    subst (AllEnd end) (same_ranges a.0.ranges us a.2) (node_ends img end bytes t.depth t.root t.records a.0 a.1))))

-- ---- The index

kind_end : (img : List ℕ) (end bytes place : ℕ) (kind : IndexKind)
    → Ends img end (elim kind as (λ _. Visited) [ Array ↦ array_visit end bytes place | Tree ↦ tree_visit end bytes place ])
kind_end img end bytes place Array = array_end img end bytes place
kind_end img end bytes place Tree = tree_end img end bytes place

pub index_end : (img : List ℕ) (end : ℕ) (d : Described) → Ends img end (index_visit end d)
index_end img end d =
    chosen img end (d.layout.address == undefined) (ret (Ok []))
    (elim d.layout.index as (λ _. Visited) [ Array ↦ array_visit end (chunk_bytes d) d.layout.address | Tree ↦ tree_visit end (chunk_bytes d) d.layout.address ])
    (no_visit img end) (kind_end img end (chunk_bytes d) d.layout.address d.layout.index)
