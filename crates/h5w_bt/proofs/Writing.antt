-- Records and child pointers that are written one after another.
use Rattle.std.proofs.Common.{◌≡◌, ℕ, zero, suc, ◌+◌, ◌*◌, ◌<◌, ◌≤◌, List, [], ◌∷◌, ◌++◌, length, get_or, take, drop, cond, true, false, nat_le, sym, ap, ◌∙◌, arith, append_assoc, length-append}
use Rattle.std.proofs.Math.Nat.{mul-le-mul_left}
use Rattle.std.proofs.lemmas.List.{append-nil, take_more, take-append-drop, length-take-le}
use Rattle.std.proofs.lemmas.List.Concat.{flat_map-append}
use Rattle.std.proofs.lemmas.Bool.Decides.{nat_tests}
use Rattle.std.specs.List.{flat_map}
use Rattle.h5w_model.specs.Numbers.{le}
use Rattle.h5w_model.specs.Trees.{RecordFields, ChildFields, record_bytes, child_bytes, pointer_size}
use Rattle.h5w_model.proofs.NumberLemmas.{length-le}
use Rattle.h5w_model.proofs.PutLemmas.{put-next}
use Rattle.h5w_bt.proofs.Tables.{pointer_size-leaf, pointer_size-inner}

-- more bytes behind those that stand behind the front
pub put-behind : (old cur front bytes more : List ℕ) (at w : ℕ) → cur ≡ (front ++ bytes) ++ drop at old → length (front ++ bytes) ≡ at →
    (take at cur ++ more) ++ drop (at + w) cur ≡ (front ++ (bytes ++ more)) ++ drop (at + w) old
put-behind old cur front bytes more at w e n =
    put-next old cur (front ++ bytes) more at w e n ∙ ap (λ l. l ++ drop (at + w) old) (append_assoc front bytes more)

-- ---- One record

pub length-record_bytes : (r : RecordFields) → length (record_bytes r) ≡ 24
length-record_bytes r =
    omega (arith, length-append (le 8 r.address ++ le 8 r.key.i) (le 8 r.key.j), length-append (le 8 r.address) (le 8 r.key.i), length-le 8 r.address, length-le 8 r.key.i, length-le 8 r.key.j)

pub record-put : (old b1 b2 b3 : List ℕ) (at : ℕ) (r : RecordFields) → at + 24 ≤ length old → b1 ≡ (take at old ++ le 8 r.address) ++ drop (at + 8) old →
    b2 ≡ (take (at + 8) b1 ++ le 8 r.key.i) ++ drop (at + 8 + 8) b1 → b3 ≡ (take (at + 16) b2 ++ le 8 r.key.j) ++ drop (at + 16 + 8) b2 →
    b3 ≡ (take at old ++ record_bytes r) ++ drop (at + 24) old
record-put old b1 b2 b3 at r h e1 e2 e3 =
    let front : List ℕ = take at old in
    let a : List ℕ = le 8 r.address in
    let i : List ℕ = le 8 r.key.i in
    let j : List ℕ = le 8 r.key.j in
    let m : at + 8 + 8 ≡ at + 16 = omega arith in
    let k : at + 16 + 8 ≡ at + 24 = omega arith in
    let n0 : length front ≡ at = length-take-le at old (omega arith) in
    let n1 : length (front ++ a) ≡ at + 8 = omega (arith, length-append front a, length-le 8 r.address) in
    let n2 : length (front ++ (a ++ i)) ≡ at + 16 = omega (arith, length-append front (a ++ i), length-append a i, length-le 8 r.address, length-le 8 r.key.i) in
    let s2 : b2 ≡ (front ++ (a ++ i)) ++ drop (at + 16) old = e2 ∙ put-behind old b1 front a i (at + 8) 8 e1 n1 ∙ ap (λ p. (front ++ (a ++ i)) ++ drop p old) m in
    e3 ∙ put-behind old b2 front (a ++ i) j (at + 16) 8 s2 n2 ∙ ap (λ p. (front ++ ((a ++ i) ++ j)) ++ drop p old) k

-- ---- One child pointer

low_test : (depth : ℕ) → depth ≤ 1 → nat_le depth 1 ≡ true
low_test depth h = grind (arith, nat_tests)

high_test : (depth : ℕ) → 1 < depth → nat_le depth 1 ≡ false
high_test depth h = grind (arith, nat_tests)

pub child_bytes-leaf : (depth : ℕ) (c : ChildFields) → depth ≤ 1 → child_bytes depth c ≡ le 8 c.address ++ le 1 c.records
child_bytes-leaf depth c h =
    ap (λ t. (le 8 c.address ++ le 1 c.records) ++ cond t [] (le depth c.total)) (low_test depth h) ∙ append-nil (le 8 c.address ++ le 1 c.records)

pub child_bytes-inner : (depth : ℕ) (c : ChildFields) → 1 < depth → child_bytes depth c ≡ (le 8 c.address ++ le 1 c.records) ++ le depth c.total
child_bytes-inner depth c h = ap (λ t. (le 8 c.address ++ le 1 c.records) ++ cond t [] (le depth c.total)) (high_test depth h)

length-pointer : (c : ChildFields) → length (le 8 c.address ++ le 1 c.records) ≡ 9
length-pointer c = omega (arith, length-append (le 8 c.address) (le 1 c.records), length-le 8 c.address, length-le 1 c.records)

pub length-child_bytes : (depth : ℕ) (c : ChildFields) → 1 ≤ depth → length (child_bytes depth c) ≡ pointer_size depth
length-child_bytes zero c h = absurd (omega arith)
length-child_bytes (suc zero) c h = ap length (child_bytes-leaf 1 c (omega arith)) ∙ length-pointer c
length-child_bytes (suc (suc d)) c h =
    ap length (child_bytes-inner (suc (suc d)) c (omega arith))
    ∙ omega (arith, length-append (le 8 c.address ++ le 1 c.records) (le (suc (suc d)) c.total), length-pointer c, length-le (suc (suc d)) c.total)

pub pointer-put : (old b1 b2 : List ℕ) (at : ℕ) (c : ChildFields) → at + 9 ≤ length old → b1 ≡ (take at old ++ le 8 c.address) ++ drop (at + 8) old →
    b2 ≡ (take (at + 8) b1 ++ le 1 c.records) ++ drop (at + 8 + 1) b1 → b2 ≡ (take at old ++ (le 8 c.address ++ le 1 c.records)) ++ drop (at + 9) old
pointer-put old b1 b2 at c h e1 e2 =
    let front : List ℕ = take at old in
    let n0 : length front ≡ at = length-take-le at old (omega arith) in
    let n1 : length (front ++ le 8 c.address) ≡ at + 8 = omega (arith, length-append front (le 8 c.address), length-le 8 c.address) in
    let m : at + 8 + 1 ≡ at + 9 = omega arith in
    e2 ∙ put-behind old b1 front (le 8 c.address) (le 1 c.records) (at + 8) 1 e1 n1 ∙ ap (λ p. (front ++ (le 8 c.address ++ le 1 c.records)) ++ drop p old) m

pub inner-put : (old b1 b2 b3 : List ℕ) (at depth : ℕ) (c : ChildFields) → 1 < depth → at + 9 + depth ≤ length old → b1 ≡ (take at old ++ le 8 c.address) ++ drop (at + 8) old →
    b2 ≡ (take (at + 8) b1 ++ le 1 c.records) ++ drop (at + 8 + 1) b1 → b3 ≡ (take (at + 9) b2 ++ le depth c.total) ++ drop (at + 9 + depth) b2 →
    b3 ≡ (take at old ++ child_bytes depth c) ++ drop (at + pointer_size depth) old
inner-put old b1 b2 b3 at depth c deep h e1 e2 e3 =
    let front : List ℕ = take at old in
    let bytes : List ℕ = le 8 c.address ++ le 1 c.records in
    let n0 : length front ≡ at = length-take-le at old (omega arith) in
    let n : length (front ++ bytes) ≡ at + 9 = omega (arith, length-append front bytes, length-pointer c) in
    let w : at + 9 + depth ≡ at + pointer_size depth = omega (arith, pointer_size-inner depth deep) in
    e3 ∙ put-behind old b2 front bytes (le depth c.total) (at + 9) depth (pointer-put old b1 b2 at c (omega arith) e1 e2) n
    ∙ ap (λ l. (front ++ l) ++ drop (at + 9 + depth) old) (sym (child_bytes-inner depth c deep))
    ∙ ap (λ p. (front ++ child_bytes depth c) ++ drop p old) w

-- ---- Several of one length

-- the i-th of n things of p bytes lies before their end
pub room : (i n p : ℕ) → i < n → i * p + p ≤ n * p
room i n p h = let more : i + 1 ≤ n = omega arith in omega (arith, mul-le-mul_left p more)

pub length-each : {X : Type 0} (f : X → List ℕ) (w : ℕ) → ((x : X) → length (f x) ≡ w) → (xs : List X) → length (flat_map f xs) ≡ length xs * w
length-each f w each [] = omega arith
length-each f w each (x ∷ xs) = omega (arith, length-append (f x) (flat_map f xs), each x, length-each f w each xs)

flat_map-push : {X : Type 0} (f : X → List ℕ) (xs : List X) (x : X) → flat_map f (xs ++ x ∷ []) ≡ flat_map f xs ++ f x
flat_map-push f xs x = flat_map-append f xs (x ∷ []) ∙ ap (λ l. flat_map f xs ++ l) (append-nil (f x))

-- those before the i-th stand there, and the i-th is put behind them
pub each-put : {X : Type 0} (f : X → List ℕ) (w : ℕ) → ((x : X) → length (f x) ≡ w) → (old cur new : List ℕ) (at : ℕ) (xs : List X) (i here : ℕ) (d : X) → i < length xs → at ≤ length old → here ≡ at + i * w →
    cur ≡ (take at old ++ flat_map f (take i xs)) ++ drop here old → new ≡ (take here cur ++ f (get_or xs i d)) ++ drop (here + w) cur →
    new ≡ (take at old ++ flat_map f (take (i + 1) xs)) ++ drop (here + w) old
each-put f w each old cur new at xs i here d inside low e before put =
    let front = take at old in
    let bytes = flat_map f (take i xs) in
    let n0 : length (take at old) ≡ at = length-take-le at old low in
    let n : length (take at old ++ flat_map f (take i xs)) ≡ here =
    omega (arith, length-append (take at old) (flat_map f (take i xs)), ap (λ k. k * w) (length-take-le i xs (omega arith)), length-each f w each (take i xs)) in
    put ∙ put-behind old cur front bytes (f (get_or xs i d)) here w before n
    ∙ ap (λ l. (front ++ l) ++ drop (here + w) old) (sym (ap (flat_map f) (take_more xs i d inside) ∙ flat_map-push f (take i xs) (get_or xs i d)))

pub each-none : {X : Type 0} (f : X → List ℕ) (old : List ℕ) (at here : ℕ) (xs : List X) → here ≡ at → old ≡ (take at old ++ flat_map f (take 0 xs)) ++ drop here old
each-none f old at here xs e =
    sym (ap (λ l. l ++ drop here old) (append-nil (take at old)) ∙ ap (λ p. take at old ++ drop p old) e ∙ take-append-drop at old)
