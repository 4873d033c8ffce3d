-- The blocks of a tree as they are written, and that they are read back.
use Rattle.std.proofs.Common.{◌≡◌, ℕ, zero, suc, ◌+◌, ◌-◌, ◌*◌, ◌^◌, ◌<◌, ◌≤◌, cond, true, false, nat_le, List, [], ◌∷◌, ◌++◌, length, take, drop, Ok, refl, sym, ap, subst, ◌∙◌, inl, inr, arith, append_assoc, length-append, codes}
use Rattle.std.proofs.lemmas.Bool.{cases_lt, eq-eqb, le-leb}
use Rattle.std.proofs.lemmas.Bool.Decides.{nat_tests}
use Rattle.std.proofs.lemmas.List.Elements.{All-head, All-tail, All-weaker}
use Rattle.std.specs.List.{All, flat_map}
use Rattle.h5w_model.specs.Numbers.{num, le, field}
use Rattle.h5w_model.specs.Checksum.{sealed_block, sum_of}
use Rattle.h5w_model.specs.Blocks.{block_tests}
use Rattle.h5w_model.specs.Trees.{BthdFields, RecordFields, ChildFields, BtinFields, bthd_at, bthd_tests, bthd_fields, bthd_bytes, bthd_len, records_in, children_in, child_tests, node_tests, record_bytes, child_bytes, btlf_at, btlf_bytes, btlf_len, btin_at, btin_bytes, btin_len, btin_fields, pointer_size, capacity_of, node_size}
use Rattle.h5w_model.proofs.NumberLemmas.{length-le, field-at, field-append-right}
use Rattle.h5w_model.proofs.CheckedLemmas.{AllPass, checked-ok}
use Rattle.h5w_model.proofs.ArrayLaws.{AllPass-append, sealed-passes}
use Rattle.h5w_model.proofs.PutLemmas.{put-next, put-sealed}
use Rattle.h5w_bt.specs.Parts.{record_in, child_in, IsRecord, IsHeader, IsPointer, IsNode}
use Rattle.h5w_bt.proofs.Tables.{capacity-few, capacity_row}
use Rattle.h5w_bt.proofs.Writing.{length-record_bytes, length-child_bytes, length-each, child_bytes-leaf, child_bytes-inner}

-- ---- Records

-- a record reads back, between any other bytes
record_in-record_bytes : (front back : List ℕ) (r : RecordFields) (place : ℕ) → length front ≡ place → IsRecord r → record_in ((front ++ record_bytes r) ++ back) place ≡ r
record_in-record_bytes front back r place n f =
    let a : List ℕ = le 8 r.address in
    let i : List ℕ = le 8 r.key.i in
    let j : List ℕ = le 8 r.key.j in
    let b : List ℕ = (front ++ record_bytes r) ++ back in
    let s3 : b ≡ ((front ++ (a ++ i)) ++ j) ++ back = ap (λ l. l ++ back) (sym (append_assoc front (a ++ i) j)) in
    let s2 : b ≡ ((front ++ a) ++ i) ++ (j ++ back) = s3 ∙ append_assoc (front ++ (a ++ i)) j back ∙ ap (λ l. l ++ (j ++ back)) (sym (append_assoc front a i)) in
    let s1 : b ≡ (front ++ a) ++ (i ++ (j ++ back)) = s2 ∙ append_assoc (front ++ a) i (j ++ back) in
    let n2 : length (front ++ a) ≡ place + 8 = omega (arith, length-append front a, length-le 8 r.address) in
    let n3 : length (front ++ (a ++ i)) ≡ place + 16 = omega (arith, length-append front (a ++ i), length-append a i, length-le 8 r.address, length-le 8 r.key.i) in
    let address : field b place 8 ≡ r.address = ap (λ l. field l place 8) s1 ∙ field-at front (i ++ (j ++ back)) place 8 r.address n f.address in
    let row : field b (place + 8) 8 ≡ r.key.i = ap (λ l. field l (place + 8) 8) s2 ∙ field-at (front ++ a) (j ++ back) (place + 8) 8 r.key.i n2 f.row in
    let column : field b (place + 16) 8 ≡ r.key.j = ap (λ l. field l (place + 16) 8) s3 ∙ field-at (front ++ (a ++ i)) back (place + 16) 8 r.key.j n3 f.column in
    λ t. record { address = address t; key = record { i = row t; j = column t } }

pub records_in-flat_map : (front back : List ℕ) (rs : List RecordFields) (n place : ℕ) → length front ≡ place → length rs ≡ n → All IsRecord rs → records_in ((front ++ flat_map record_bytes rs) ++ back) n place ≡ rs
records_in-flat_map front back [] zero place e m f = refl
records_in-flat_map front back [] (suc n) place e m f = absurd (omega arith)
records_in-flat_map front back (r ∷ rs) zero place e m f = absurd (omega arith)
records_in-flat_map front back (r ∷ rs) (suc n) place e m f =
    let more : List ℕ = flat_map record_bytes rs in
    let shape : (front ++ (record_bytes r ++ more)) ++ back ≡ ((front ++ record_bytes r) ++ more) ++ back = ap (λ l. l ++ back) (sym (append_assoc front (record_bytes r) more)) in
    let here : record_in ((front ++ (record_bytes r ++ more)) ++ back) place ≡ r =
    ap (λ l. record_in l place) (shape ∙ append_assoc (front ++ record_bytes r) more back) ∙ record_in-record_bytes front (more ++ back) r place e (All-head IsRecord r rs f) in
    let rest : records_in ((front ++ (record_bytes r ++ more)) ++ back) n (place + 24) ≡ rs =
    ap (λ l. records_in l n (place + 24)) shape
    ∙ records_in-flat_map (front ++ record_bytes r) back rs n (place + 24) (omega (arith, length-append front (record_bytes r), length-record_bytes r)) (omega arith) (All-tail IsRecord r rs f) in
    λ i. here i ∷ rest i

-- ---- Child pointers

-- a pointer that can be written, and whose address fits its bytes
pub record IsChild (depth : ℕ) (c : ChildFields) : Type 0 where
  pub address : c.address < 2 ^ 64
  pub form : IsPointer depth c

few_records : (depth : ℕ) (c : ChildFields) → depth ≤ 3 → IsPointer depth c → c.records < 256
few_records depth c h f =
    let below : depth - 1 ≤ 3 = omega arith in
    omega (arith, f.few, capacity-few (depth - 1) below, capacity_row (depth - 1) below)

child_in-leaf : (b : List ℕ) (depth place : ℕ) (c : ChildFields) → depth ≤ 1 → IsPointer depth c → field b place 8 ≡ c.address → field b (place + 8) 1 ≡ c.records → child_in b depth place ≡ c
child_in-leaf b depth place c h f address records =
    let low : nat_le depth 1 ≡ true = le-leb depth 1 h in
    let total : cond (nat_le depth 1) (field b (place + 8) 1) (field b (place + 9) depth) ≡ c.total =
    ap (λ t. cond t (field b (place + 8) 1) (field b (place + 9) depth)) low ∙ records ∙ sym (f.leaf h) in
    λ i. record { address = address i; records = records i; total = total i }

child_in-inner : (b : List ℕ) (depth place : ℕ) (c : ChildFields) → 1 < depth → field b place 8 ≡ c.address → field b (place + 8) 1 ≡ c.records → field b (place + 9) depth ≡ c.total → child_in b depth place ≡ c
child_in-inner b depth place c h address records inside =
    let high : nat_le depth 1 ≡ false = grind (arith, nat_tests) in
    let total : cond (nat_le depth 1) (field b (place + 8) 1) (field b (place + 9) depth) ≡ c.total =
    ap (λ t. cond t (field b (place + 8) 1) (field b (place + 9) depth)) high ∙ inside in
    λ i. record { address = address i; records = records i; total = total i }

-- an address and a count read back, between any other bytes
address_in : (front back : List ℕ) (c : ChildFields) (place : ℕ) → length front ≡ place → c.address < 2 ^ 64 → field ((front ++ (le 8 c.address ++ le 1 c.records)) ++ back) place 8 ≡ c.address
address_in front back c place n f =
    ap (λ l. field l place 8) (ap (λ l. l ++ back) (sym (append_assoc front (le 8 c.address) (le 1 c.records))) ∙ append_assoc (front ++ le 8 c.address) (le 1 c.records) back)
    ∙ field-at front (le 1 c.records ++ back) place 8 c.address n f

count_in : (front back : List ℕ) (c : ChildFields) (place : ℕ) → length front ≡ place → c.records < 256 → field ((front ++ (le 8 c.address ++ le 1 c.records)) ++ back) (place + 8) 1 ≡ c.records
count_in front back c place n f =
    ap (λ l. field l (place + 8) 1) (ap (λ l. l ++ back) (sym (append_assoc front (le 8 c.address) (le 1 c.records))))
    ∙ field-at (front ++ le 8 c.address) back (place + 8) 1 c.records (omega (arith, length-append front (le 8 c.address), length-le 8 c.address)) f

total_in : (depth : ℕ) (front back : List ℕ) (c : ChildFields) (place : ℕ) → length front ≡ place → c.total < 256 ^ depth →
    field ((front ++ ((le 8 c.address ++ le 1 c.records) ++ le depth c.total)) ++ back) (place + 9) depth ≡ c.total
total_in depth front back c place n f =
    let p : List ℕ = le 8 c.address ++ le 1 c.records in
    ap (λ l. field l (place + 9) depth) (ap (λ l. l ++ back) (sym (append_assoc front p (le depth c.total))))
    ∙ field-at (front ++ p) back (place + 9) depth c.total (omega (arith, length-append front p, length-append (le 8 c.address) (le 1 c.records), length-le 8 c.address, length-le 1 c.records)) f

-- a child pointer reads back, between any other bytes
child_in-child_bytes : (depth : ℕ) (front back : List ℕ) (c : ChildFields) (place : ℕ) → depth ≤ 3 → length front ≡ place → IsChild depth c → child_in ((front ++ child_bytes depth c) ++ back) depth place ≡ c
child_in-child_bytes depth front back c place shallow n f =
    let p : List ℕ = le 8 c.address ++ le 1 c.records in
    let count : c.records < 256 = few_records depth c shallow f.form in
    elim (cases_lt 1 depth) [
      | inl deep ↦
          let shape : (front ++ child_bytes depth c) ++ back ≡ (front ++ (p ++ le depth c.total)) ++ back = ap (λ l. (front ++ l) ++ back) (child_bytes-inner depth c deep) in
          let split : (front ++ (p ++ le depth c.total)) ++ back ≡ (front ++ p) ++ (le depth c.total ++ back) = ap (λ l. l ++ back) (sym (append_assoc front p (le depth c.total))) ∙ append_assoc (front ++ p) (le depth c.total) back in
          ap (λ l. child_in l depth place) shape
          ∙ child_in-inner ((front ++ (p ++ le depth c.total)) ++ back) depth place c deep
          (ap (λ l. field l place 8) split ∙ address_in front (le depth c.total ++ back) c place n f.address)
          (ap (λ l. field l (place + 8) 1) split ∙ count_in front (le depth c.total ++ back) c place n count)
          (total_in depth front back c place n (f.form.inner deep))
      | inr low ↦
          let leaf : depth ≤ 1 = omega arith in
          ap (λ l. child_in ((front ++ l) ++ back) depth place) (child_bytes-leaf depth c leaf)
          ∙ child_in-leaf ((front ++ p) ++ back) depth place c leaf f.form (address_in front back c place n f.address) (count_in front back c place n count)
    ]

pub children_in-flat_map : (depth : ℕ) (front back : List ℕ) (cs : List ChildFields) (n place : ℕ) → 1 ≤ depth → depth ≤ 3 → length front ≡ place → length cs ≡ n → All (IsChild depth) cs →
    children_in ((front ++ flat_map (child_bytes depth) cs) ++ back) depth n place ≡ cs
children_in-flat_map depth front back [] zero place deep shallow e m f = refl
children_in-flat_map depth front back [] (suc n) place deep shallow e m f = absurd (omega arith)
children_in-flat_map depth front back (c ∷ cs) zero place deep shallow e m f = absurd (omega arith)
children_in-flat_map depth front back (c ∷ cs) (suc n) place deep shallow e m f =
    let more : List ℕ = flat_map (child_bytes depth) cs in
    let one : List ℕ = child_bytes depth c in
    let shape : (front ++ (one ++ more)) ++ back ≡ ((front ++ one) ++ more) ++ back = ap (λ l. l ++ back) (sym (append_assoc front one more)) in
    let here : child_in ((front ++ (one ++ more)) ++ back) depth place ≡ c =
    ap (λ l. child_in l depth place) (shape ∙ append_assoc (front ++ one) more back) ∙ child_in-child_bytes depth front (more ++ back) c place shallow e (All-head (IsChild depth) c cs f) in
    let rest : children_in ((front ++ (one ++ more)) ++ back) depth n (place + pointer_size depth) ≡ cs =
    ap (λ l. children_in l depth n (place + pointer_size depth)) shape
    ∙ children_in-flat_map depth (front ++ one) back cs n (place + pointer_size depth) deep shallow (omega (arith, length-append front one, length-child_bytes depth c deep)) (omega arith) (All-tail (IsChild depth) c cs f) in
    λ i. here i ∷ rest i

-- the pointers that were read pass the tests where their counts are within the capacity
pub counts-pass : (b : List ℕ) (at depth n from : ℕ) → All (λ (c : ChildFields). c.records ≤ capacity_of (depth - 1)) (children_in b depth n from) → AllPass (child_tests b at depth n from)
counts-pass b at depth zero from h = tt
counts-pass b at depth (suc n) from h =
    let rest : List ChildFields = children_in b depth n (from + pointer_size depth) in (
      le-leb (field b (from + 8) 1) (capacity_of (depth - 1)) (All-head (λ (c : ChildFields). c.records ≤ capacity_of (depth - 1)) (child_in b depth from) rest h),
      counts-pass b at depth n (from + pointer_size depth) (All-tail (λ (c : ChildFields). c.records ≤ capacity_of (depth - 1)) (child_in b depth from) rest h),
    )

-- ---- A leaf

pub btlf_at-btlf_bytes : (rs : List RecordFields) (place n : ℕ) → length rs ≡ n → All IsRecord rs → btlf_at (btlf_bytes rs) place n ≡ Ok rs
unfolding num
btlf_at-btlf_bytes rs place n count fits =
    let head : List ℕ = codes "BTLF" ++ 0 ∷ 10 ∷ [] in
    let body : List ℕ = head ++ flat_map record_bytes rs in
    let sum : List ℕ = le 4 (sum_of body) in
    let whole : length body + 4 ≡ btlf_len n = omega (arith, length-append head (flat_map record_bytes rs), length-each record_bytes 24 length-record_bytes rs, ap (λ k. k * 24) count) in
    let records : records_in (sealed_block body) n 6 ≡ rs = records_in-flat_map head sum rs n 6 refl count fits in
    let tests : AllPass (block_tests (codes "BTLF") (btlf_len n) (sealed_block body) ++ node_tests (sealed_block body) place) =
    AllPass-append (block_tests (codes "BTLF") (btlf_len n) (sealed_block body)) (node_tests (sealed_block body) place) (sealed-passes (codes "BTLF") body (btlf_len n) whole refl) (refl, (refl, tt)) in
    checked-ok (block_tests (codes "BTLF") (btlf_len n) (sealed_block body) ++ node_tests (sealed_block body) place) (records_in (sealed_block body) n 6) tests ∙ ap Ok records

-- ---- An inner node

pub btin_at-btin_bytes : (t : BtinFields) (depth place n : ℕ) → IsNode depth t → length t.records ≡ n → All IsRecord t.records → All (IsChild depth) t.children → btin_at (btin_bytes t depth) place n depth ≡ Ok t
unfolding num
btin_at-btin_bytes t depth place n node count fits pointers =
    let head : List ℕ = codes "BTIN" ++ 0 ∷ 10 ∷ [] in
    let front : List ℕ = head ++ flat_map record_bytes t.records in
    let more : List ℕ = flat_map (child_bytes depth) t.children in
    let body : List ℕ = front ++ more in
    let b : List ℕ = sealed_block body in
    let sum : List ℕ = le 4 (sum_of body) in
    let from : length front ≡ 6 + 24 * n = omega (arith, length-append head (flat_map record_bytes t.records), length-each record_bytes 24 length-record_bytes t.records, ap (λ k. k * 24) count) in
    let children_count : length t.children ≡ n + 1 = omega (arith, node.count) in
    let whole : length body + 4 ≡ btin_len n depth =
    omega (arith, from, length-append front more, length-each (child_bytes depth) (pointer_size depth) (λ c. length-child_bytes depth c node.deep) t.children, ap (λ k. k * pointer_size depth) children_count) in
    let records : records_in b n 6 ≡ t.records = ap (λ l. records_in l n 6) (append_assoc front more sum) ∙ records_in-flat_map head (more ++ sum) t.records n 6 refl count fits in
    let children : children_in b depth (n + 1) (6 + 24 * n) ≡ t.children = children_in-flat_map depth front sum t.children (n + 1) (6 + 24 * n) node.deep node.shallow from children_count pointers in
    let few : All (λ (c : ChildFields). c.records ≤ capacity_of (depth - 1)) (children_in b depth (n + 1) (6 + 24 * n)) =
    subst (λ cs. All (λ (c : ChildFields). c.records ≤ capacity_of (depth - 1)) cs) (sym children) (All-weaker (IsPointer depth) (λ (c : ChildFields). c.records ≤ capacity_of (depth - 1)) (λ c f. f.few) t.children node.pointers) in
    let first : AllPass (block_tests (codes "BTIN") (btin_len n depth) b ++ node_tests b place) =
    AllPass-append (block_tests (codes "BTIN") (btin_len n depth) b) (node_tests b place) (sealed-passes (codes "BTIN") body (btin_len n depth) whole refl) (refl, (refl, tt)) in
    let tests : AllPass (block_tests (codes "BTIN") (btin_len n depth) b ++ node_tests b place ++ child_tests b place depth (n + 1) (6 + 24 * n)) =
    AllPass-append (block_tests (codes "BTIN") (btin_len n depth) b ++ node_tests b place) (child_tests b place depth (n + 1) (6 + 24 * n)) first (counts-pass b place depth (n + 1) (6 + 24 * n) few) in
    checked-ok (block_tests (codes "BTIN") (btin_len n depth) b ++ node_tests b place ++ child_tests b place depth (n + 1) (6 + 24 * n)) (btin_fields b n depth) tests
    ∙ λ i. Ok (record { records = records i; children = children i })

-- ---- The header

-- signature, version, type, node size and record size
abbrev pub bthd_head : List ℕ
bthd_head = codes "BTHD" ++ 0 ∷ 10 ∷ 0 ∷ 8 ∷ 0 ∷ 0 ∷ 24 ∷ 0 ∷ []

abbrev pub bthd_body : BthdFields → List ℕ
bthd_body t = (((bthd_head ++ le 2 t.depth) ++ 100 ∷ 40 ∷ le 8 t.root) ++ le 2 t.records) ++ le 8 t.total

head_is : (codes "BTHD" ++ 0 ∷ 10 ∷ le 4 node_size) ++ le 2 24 ≡ bthd_head
unfolding le
head_is = refl

pub bthd_bytes-is : (t : BthdFields) → bthd_bytes t ≡ sealed_block (bthd_body t)
bthd_bytes-is t = ap (λ h. sealed_block ((((h ++ le 2 t.depth) ++ 100 ∷ 40 ∷ le 8 t.root) ++ le 2 t.records) ++ le 8 t.total)) head_is

pub bthd_at-bthd_body : (t : BthdFields) (place : ℕ) → IsHeader t → t.root < 2 ^ 64 → t.total < 2 ^ 64 → bthd_at (sealed_block (bthd_body t)) place ≡ Ok t
unfolding num
bthd_at-bthd_body t place form root_fits total_fits =
    let b1 : List ℕ = bthd_head ++ le 2 t.depth in
    let b2 : List ℕ = b1 ++ 100 ∷ 40 ∷ le 8 t.root in
    let b3 : List ℕ = b2 ++ le 2 t.records in
    let body : List ℕ = b3 ++ le 8 t.total in
    let sum : List ℕ = le 4 (sum_of body) in
    let b : List ℕ = sealed_block body in
    let r3 : List ℕ = le 8 t.total ++ sum in
    let r2 : List ℕ = le 2 t.records ++ r3 in
    let capacity : capacity_of t.depth ≤ 84 = omega (arith, capacity-few t.depth form.shallow, capacity_row t.depth form.shallow) in
    let n1 : length b1 ≡ 14 = omega (arith, length-append bthd_head (le 2 t.depth), length-le 2 t.depth) in
    let n2 : length b2 ≡ 24 = omega (arith, n1, length-append b1 (100 ∷ 40 ∷ le 8 t.root), length-le 8 t.root) in
    let n3 : length b3 ≡ 26 = omega (arith, n2, length-append b2 (le 2 t.records), length-le 2 t.records) in
    let whole : length body + 4 ≡ 38 = omega (arith, n3, length-append b3 (le 8 t.total), length-le 8 t.total) in
    let s3 : b ≡ b3 ++ r3 = append_assoc b3 (le 8 t.total) sum in
    let s2 : b ≡ b2 ++ r2 = s3 ∙ append_assoc b2 (le 2 t.records) r3 in
    let s1 : b ≡ b1 ++ (100 ∷ 40 ∷ (le 8 t.root ++ r2)) = s2 ∙ append_assoc b1 (100 ∷ 40 ∷ le 8 t.root) r2 in
    let depth : field b 12 2 ≡ t.depth = ap (λ l. field l 12 2) s1 ∙ field-at bthd_head (100 ∷ 40 ∷ (le 8 t.root ++ r2)) 12 2 t.depth refl (omega (arith, form.shallow)) in
    let split : field b 14 1 ≡ 100 = ap (λ l. field l 14 1) s1 ∙ field-append-right b1 (100 ∷ 40 ∷ (le 8 t.root ++ r2)) 14 14 1 n1 (omega arith) in
    let merge : field b 15 1 ≡ 40 = ap (λ l. field l 15 1) s1 ∙ field-append-right b1 (100 ∷ 40 ∷ (le 8 t.root ++ r2)) 14 15 1 n1 (omega arith) in
    let root : field b 16 8 ≡ t.root =
    ap (λ l. field l 16 8) (s2 ∙ ap (λ l. l ++ r2) (sym (append_assoc b1 (100 ∷ 40 ∷ []) (le 8 t.root))))
    ∙ field-at (b1 ++ 100 ∷ 40 ∷ []) r2 16 8 t.root (omega (arith, n1, length-append b1 (100 ∷ 40 ∷ []))) root_fits in
    let records : field b 24 2 ≡ t.records = ap (λ l. field l 24 2) s3 ∙ field-at b2 r3 24 2 t.records n2 (omega (arith, form.few, capacity)) in
    let total : field b 26 8 ≡ t.total = field-at b3 sum 26 8 t.total n3 total_fits in
    let room : nat_le (field b 24 2) (capacity_of (field b 12 2)) ≡ true =
    ap (λ v. nat_le v (capacity_of (field b 12 2))) records ∙ ap (λ v. nat_le t.records (capacity_of v)) depth ∙ le-leb t.records (capacity_of t.depth) form.few in
    let tests : AllPass (bthd_tests b place) =
    AllPass-append (block_tests (codes "BTHD") bthd_len b) (drop 3 (bthd_tests b place)) (sealed-passes (codes "BTHD") body 38 whole refl)
    (refl, (refl, (refl, (refl, (ap (λ v. nat_le v 3) depth ∙ le-leb t.depth 3 form.shallow, (eq-eqb (field b 14 1) 100 split, (eq-eqb (field b 15 1) 40 merge, (room, tt)))))))) in
    checked-ok (bthd_tests b place) (bthd_fields b) tests
    ∙ λ i. Ok (record { depth = depth i; root = root i; records = records i; total = total i })

-- what stands in the buffer after each field
pub record IsWritten (t : BthdFields) (old b0 b1 b2 b3 b4 b5 : List ℕ) : Type 0 where
  pub head : b0 ≡ bthd_head ++ drop 12 old
  pub depth : b1 ≡ (take 12 b0 ++ le 2 t.depth) ++ drop 14 b0
  pub percents : b2 ≡ (take 14 b1 ++ 100 ∷ 40 ∷ []) ++ drop 16 b1
  pub root : b3 ≡ (take 16 b2 ++ le 8 t.root) ++ drop 24 b2
  pub records : b4 ≡ (take 24 b3 ++ le 2 t.records) ++ drop 26 b3
  pub total : b5 ≡ (take 26 b4 ++ le 8 t.total) ++ drop 34 b4

pub bthd-sealed : (t : BthdFields) (old b0 b1 b2 b3 b4 b5 : List ℕ) → IsWritten t old b0 b1 b2 b3 b4 b5 → sealed_block (take 34 b5) ++ drop 38 b5 ≡ bthd_bytes t ++ drop bthd_len old
bthd-sealed t old b0 b1 b2 b3 b4 b5 w =
    let f1 : List ℕ = bthd_head ++ le 2 t.depth in
    let f2 : List ℕ = f1 ++ 100 ∷ 40 ∷ [] in
    let f3 : List ℕ = f2 ++ le 8 t.root in
    let f4 : List ℕ = f3 ++ le 2 t.records in
    let f5 : List ℕ = f4 ++ le 8 t.total in
    let n1 : length f1 ≡ 14 = omega (arith, length-append bthd_head (le 2 t.depth), length-le 2 t.depth) in
    let n2 : length f2 ≡ 16 = omega (arith, n1, length-append f1 (100 ∷ 40 ∷ [])) in
    let n3 : length f3 ≡ 24 = omega (arith, n2, length-append f2 (le 8 t.root), length-le 8 t.root) in
    let n4 : length f4 ≡ 26 = omega (arith, n3, length-append f3 (le 2 t.records), length-le 2 t.records) in
    let n5 : length f5 ≡ 34 = omega (arith, n4, length-append f4 (le 8 t.total), length-le 8 t.total) in
    let s1 : b1 ≡ f1 ++ drop 14 old = w.depth ∙ put-next old b0 bthd_head (le 2 t.depth) 12 2 w.head refl in
    let s2 : b2 ≡ f2 ++ drop 16 old = w.percents ∙ put-next old b1 f1 (100 ∷ 40 ∷ []) 14 2 s1 n1 in
    let s3 : b3 ≡ f3 ++ drop 24 old = w.root ∙ put-next old b2 f2 (le 8 t.root) 16 8 s2 n2 in
    let s4 : b4 ≡ f4 ++ drop 26 old = w.records ∙ put-next old b3 f3 (le 2 t.records) 24 2 s3 n3 in
    let s5 : b5 ≡ f5 ++ drop 34 old = w.total ∙ put-next old b4 f4 (le 8 t.total) 26 8 s4 n4 in
    put-sealed old b5 f5 34 s5 n5
    ∙ ap (λ l. sealed_block ((l ++ le 2 t.records) ++ le 8 t.total) ++ drop 38 old) (append_assoc f1 (100 ∷ 40 ∷ []) (le 8 t.root))
    ∙ ap (λ l. l ++ drop 38 old) (sym (bthd_bytes-is t))

-- ---- A node, behind its head

-- the records behind the head, and the sum behind them
pub btlf-sealed : (rs : List RecordFields) (old b0 b1 : List ℕ) (n : ℕ) → length rs ≡ n → b0 ≡ (codes "BTLF" ++ 0 ∷ 10 ∷ []) ++ drop 6 old → b1 ≡ (take 6 b0 ++ flat_map record_bytes rs) ++ drop (6 + 24 * n) b0 →
    sealed_block (take (10 + 24 * n - 4) b1) ++ drop (10 + 24 * n) b1 ≡ btlf_bytes rs ++ drop (btlf_len n) old
btlf-sealed rs old b0 b1 n count head records =
    let front : List ℕ = codes "BTLF" ++ 0 ∷ 10 ∷ [] in
    let bytes : List ℕ = flat_map record_bytes rs in
    let len : length bytes ≡ 24 * n = omega (arith, length-each record_bytes 24 length-record_bytes rs, ap (λ k. k * 24) count) in
    let s1 : b1 ≡ (front ++ bytes) ++ drop (6 + 24 * n) old = records ∙ put-next old b0 front bytes 6 (24 * n) head refl in
    let n1 : length (front ++ bytes) ≡ 6 + 24 * n = omega (arith, length-append front bytes, len) in
    let low : 10 + 24 * n - 4 ≡ 6 + 24 * n = omega arith in
    let high : 10 + 24 * n ≡ 6 + 24 * n + 4 = omega arith in
    ap (λ k. sealed_block (take k b1) ++ drop (10 + 24 * n) b1) low
    ∙ ap (λ k. sealed_block (take (6 + 24 * n) b1) ++ drop k b1) high
    ∙ put-sealed old b1 (front ++ bytes) (6 + 24 * n) s1 n1
    ∙ ap (λ k. sealed_block (front ++ bytes) ++ drop k old) (sym high)

-- the records behind the head, the child pointers behind them, and the sum
pub btin-sealed : (t : BtinFields) (old b0 b1 b2 : List ℕ) (depth n : ℕ) → IsNode depth t → length t.records ≡ n → b0 ≡ (codes "BTIN" ++ 0 ∷ 10 ∷ []) ++ drop 6 old →
    b1 ≡ (take 6 b0 ++ flat_map record_bytes t.records) ++ drop (6 + 24 * n) b0 →
    b2 ≡ (take (6 + 24 * n) b1 ++ flat_map (child_bytes depth) t.children) ++ drop (6 + 24 * n + length t.children * pointer_size depth) b1 →
    sealed_block (take (btin_len n depth - 4) b2) ++ drop (btin_len n depth) b2 ≡ btin_bytes t depth ++ drop (btin_len n depth) old
btin-sealed t old b0 b1 b2 depth n node count head records children =
    let front : List ℕ = codes "BTIN" ++ 0 ∷ 10 ∷ [] in
    let bytes : List ℕ = flat_map record_bytes t.records in
    let more : List ℕ = flat_map (child_bytes depth) t.children in
    let w : ℕ = length t.children * pointer_size depth in
    let width : w ≡ (n + 1) * pointer_size depth = ap (λ k. k * pointer_size depth) (let k : length t.children ≡ n + 1 = omega (arith, node.count, count) in k) in
    let len : length bytes ≡ 24 * n = omega (arith, length-each record_bytes 24 length-record_bytes t.records, ap (λ k. k * 24) count) in
    let len2 : length more ≡ w = length-each (child_bytes depth) (pointer_size depth) (λ c. length-child_bytes depth c node.deep) t.children in
    let s1 : b1 ≡ (front ++ bytes) ++ drop (6 + 24 * n) old = records ∙ put-next old b0 front bytes 6 (24 * n) head refl in
    let n1 : length (front ++ bytes) ≡ 6 + 24 * n = omega (arith, length-append front bytes, len) in
    let end : ℕ = 6 + 24 * n + w in
    let s2 : b2 ≡ ((front ++ bytes) ++ more) ++ drop end old = children ∙ put-next old b1 (front ++ bytes) more (6 + 24 * n) w s1 n1 in
    let n2 : length ((front ++ bytes) ++ more) ≡ end = omega (arith, length-append (front ++ bytes) more, n1, len2) in
    let low : btin_len n depth - 4 ≡ end = omega (arith, width) in
    let high : btin_len n depth ≡ end + 4 = omega (arith, width) in
    ap (λ k. sealed_block (take k b2) ++ drop (btin_len n depth) b2) low
    ∙ ap (λ k. sealed_block (take end b2) ++ drop k b2) high
    ∙ put-sealed old b2 ((front ++ bytes) ++ more) end s2 n2
    ∙ ap (λ k. sealed_block ((front ++ bytes) ++ more) ++ drop k old) (sym high)
