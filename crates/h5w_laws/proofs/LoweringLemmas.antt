-- Programs in looks of at most 512 bytes, with a store: on a still image, and over looks at images that change.
use Rattle.std.proofs.Common.{◌≡◌, ℕ, zero, suc, ◌+◌, ◌-◌, ◌*◌, ◌/◌, ◌^◌, ◌≤◌, min, Bool, true, false, cond, ◌&&◌, List, [], ◌∷◌, ◌++◌, length, take, drop, Option, Some, None, refl, sym, ◌∙◌, ap, inl, inr, arith, length-take, length-drop}
use Rattle.std.specs.Prelude.{◌==◌}
use Rattle.std.proofs.lemmas.List.{append_assoc, append-nil, drop-drop, take-take, take_all, drop-take}
use Rattle.std.proofs.lemmas.Bool.{cases_lt, cond_both, and_parts, eqb-true, eqb-false}
use Rattle.std.proofs.Math.Seq.{take-add}
use Rattle.h5w_model.specs.Numbers.{range}
use Rattle.h5w_model.specs.Programs.{Prog, ret, whole, counted, stored, eval, bind, visits, Same, Kept, kept_bytes, used, is_of, others, lowered, below_end, cut_up, look_pieces}
use Rattle.h5w_laws.specs.Programs.{AreRight, lowered_leaving, store_after, IsUnstored, StoreLaws}
use Rattle.h5w_laws.proofs.ProgramLemmas.{eval_bind, bind_ret}

-- ---- Ranges

pub length_range : (img : List ℕ) (place n : ℕ) → length (range img place n) ≡ min n (length img - place)
length_range img place n = length-take n (drop place img) ∙ ap (min n) (length-drop place img)

-- no image has more than 2^64 bytes, so what stands past them is not missed
pub range_below : (img : List ℕ) (place len : ℕ) → length img ≤ 2 ^ 64 → range img place (below_end place len) ≡ range img place len
range_below img place len fits =
    let l : length (drop place img) ≡ length img - place = length-drop place img in
    elim (cases_lt (2 ^ 64 - place) len) [
      | inl cut ↦ take_all (below_end place len) (drop place img) (omega arith) ∙ sym (take_all len (drop place img) (omega arith))
      | inr within ↦ let e : below_end place len ≡ len = omega arith in ap (λ n. range img place n) e
    ]

-- a part of a range
pub range_part : (img : List ℕ) (place len i n : ℕ) → i + n ≤ len → range img (place + i) n ≡ take n (drop i (range img place len))
range_part img place len i n h =
    let e : i + (len - i) ≡ len = omega arith in
    sym (
    ap (λ m. take n (drop i (take m (drop place img)))) (sym e)
    ∙ ap (take n) (drop-take i (len - i) (drop place img))
    ∙ take-take n (len - i) (drop i (drop place img)) (omega arith)
    ∙ ap (take n) (drop-drop i place img))

-- where a range is the same, so is each part of it
pub range_within : (old new : List ℕ) (place len p n : ℕ) → range new place len ≡ range old place len → place ≤ p → p + n ≤ place + len → range new p n ≡ range old p n
range_within old new place len p n same low high =
    let e : place + (p - place) ≡ p = omega arith in
    ap (λ q. range new q n) (sym e)
    ∙ range_part new place len (p - place) n (omega arith)
    ∙ ap (λ (b : List ℕ). take n (drop (p - place) b)) same
    ∙ sym (range_part old place len (p - place) n (omega arith))
    ∙ ap (λ q. range old q n) e

-- a first look that gives all of its bytes, and the rest
pub range_cut : (img : List ℕ) (place n : ℕ) → length (range img place (min 512 n)) ≡ min 512 n
    → range img place (min 512 n) ++ range img (place + 512) (n - 512) ≡ range img place n
range_cut img place n full =
    elim (cases_lt 512 n) [
      | inl long ↦
          let a : min 512 n ≡ 512 = omega arith in
          let b : 512 + (n - 512) ≡ n = omega arith in
          ap (λ m. range img place m ++ range img (place + 512) (n - 512)) a
          ∙ ap (λ (r : List ℕ). range img place 512 ++ take (n - 512) r) (sym (drop-drop 512 place img))
          ∙ sym (take-add 512 (n - 512) (drop place img))
          ∙ ap (λ m. range img place m) b
      | inr short ↦
          let a : min 512 n ≡ n = omega arith in
          let b : n - 512 ≡ 0 = omega arith in
          ap (λ m. range img place m ++ range img (place + 512) (n - 512)) a
          ∙ ap (λ m. range img place n ++ range img (place + 512) m) b
          ∙ append-nil (range img place n)
    ]

-- a look that gives fewer bytes than it asks for is at the image's end
pub range_short : (img : List ℕ) (place m n : ℕ) → (length (range img place m) ≡ m → ⊥) → m ≤ n → range img place m ≡ range img place n
range_short img place m n short h =
    let l : length (range img place m) ≡ min m (length img - place) = length_range img place m in
    let d : length (drop place img) ≡ length img - place = length-drop place img in
    elim (cases_lt (length img - place) m) [
      | inl end ↦ take_all m (drop place img) (omega arith) ∙ sym (take_all n (drop place img) (omega arith))
      | inr full ↦ let e : length (range img place m) ≡ m = omega arith in absurd (short e)
    ]

-- ---- A range in looks of 512 bytes, on one image

pub eval_pieces : {A : Type 0} (img : List ℕ) (fuel place len : ℕ) (got : List ℕ) (next : List ℕ → Prog A) → len ≤ 512 * fuel
    → eval img (look_pieces fuel place len got next) ≡ eval img (next (got ++ range img place len))
eval_pieces img zero place len got next enough =
    let e : 0 ≡ len = omega arith in
    ap (λ (b : List ℕ). eval img (next b)) (sym (append-nil got)) ∙ ap (λ n. eval img (next (got ++ range img place n))) e
eval_pieces img (suc fuel) place zero got next enough = ap (λ (b : List ℕ). eval img (next b)) (sym (append-nil got))
eval_pieces {A} img (suc fuel) place (suc rest) got next enough =
    let m : ℕ = min 512 (suc rest) in
    let b : List ℕ = range img place m in
    cond_both (length b == m) (look_pieces fuel (place + 512) (suc rest - 512) (got ++ b) next) (next (got ++ b))
    (λ (q : Prog A). eval img q ≡ eval img (next (got ++ range img place (suc rest))))
    (λ full.
    eval_pieces img fuel (place + 512) (suc rest - 512) (got ++ b) next (omega arith)
    ∙ ap (λ (r : List ℕ). eval img (next r)) (append_assoc got b (range img (place + 512) (suc rest - 512)))
    ∙ ap (λ (r : List ℕ). eval img (next (got ++ r))) (range_cut img place (suc rest) (eqb-true (length b) m full)))
    (λ short. ap (λ (r : List ℕ). eval img (next (got ++ r))) (range_short img place m (suc rest) (eqb-false (length b) m short) (omega arith)))

pub eval_cut_up : {A : Type 0} (img : List ℕ) (place len : ℕ) (next : List ℕ → Prog A) → length img ≤ 2 ^ 64 → eval img (cut_up place len next) ≡ eval img (next (range img place len))
eval_cut_up img place len next fits =
    let n : ℕ = below_end place len in
    eval_pieces img (n / 512 + 1) place n [] next (omega arith) ∙ ap (λ (b : List ℕ). eval img (next b)) (range_below img place len fits)

-- ---- The store

pub option_both : {X Y : Type 0} (o : Option X) (f : X → Y) (y : Y) (P : Y → Type 0)
    → ((x : X) → o ≡ Some x → P (f x)) → (o ≡ None → P y) → P (elim o as (λ _. Y) [ Some x ↦ f x | None ↦ y ])
option_both (Some x) f y P h g = h x refl
option_both None f y P h g = g refl

pub is_of_place : (kind place len : ℕ) (k : Kept) → is_of kind place len k ≡ true → (k.place ≡ place) × (k.len ≡ len)
is_of_place kind place len k h =
    let both = and_parts ((k.kind == kind) && (k.place == place)) (k.len == len) h in
    (eqb-true k.place place (and_parts (k.kind == kind) (k.place == place) both.0).1, eqb-true k.len len both.1)

-- what is found in a right store is right
pub found_right : (img : List ℕ) (kind place len : ℕ) (ks : List Kept) (b : List ℕ) → AreRight img ks → kept_bytes kind place len ks ≡ Some b → b ≡ range img place len
found_right img kind place len [] b right e = cc
found_right img kind place len (k ∷ ks) b right e =
    cond_both (is_of kind place len k) (Some k.bytes) (kept_bytes kind place len ks) (λ (o : Option (List ℕ)). o ≡ Some b → b ≡ range img place len)
    (λ t s.
    let parts = is_of_place kind place len k t in
    let i : b ≡ k.bytes = cc in
    i ∙ right.0 ∙ ap (λ p. range img p k.len) parts.0 ∙ ap (λ n. range img place n) parts.1)
    (λ t s. found_right img kind place len ks b right.1 s)
    e

pub others_right : (img : List ℕ) (kind place len : ℕ) (ks : List Kept) → AreRight img ks → AreRight img (others kind place len ks)
others_right img kind place len [] right = tt
others_right img kind place len (k ∷ ks) right =
    cond_both (is_of kind place len k) (others kind place len ks) (k ∷ others kind place len ks) (AreRight img)
    (λ t. others_right img kind place len ks right.1)
    (λ t. (right.0, others_right img kind place len ks right.1))

pub take_right : (img : List ℕ) (n : ℕ) (ks : List Kept) → AreRight img ks → AreRight img (take n ks)
take_right img zero ks right = tt
take_right img (suc n) [] right = tt
take_right img (suc n) (k ∷ ks) right = (right.0, take_right img n ks right.1)

-- a store is right after a use of a right block
pub used_right : (img : List ℕ) (cap kind place len : ℕ) (b : List ℕ) (ks : List Kept) → b ≡ range img place len → AreRight img ks → AreRight img (used cap kind place len b ks)
used_right img cap sort at n b ks e right =
    take_right img cap (record { kind = sort; place = at; len = n; bytes = b } ∷ others sort at n ks) (e, others_right img sort at n ks right)

pub store_right : {A : Type 0} (old new : List ℕ) (cap : ℕ) (ks : List Kept) (p : Prog A) → Same old new (visits old p) → AreRight new ks → AreRight new (store_after old cap ks p)
store_right old new cap ks (ret a) same right = right
store_right old new cap ks (whole at len next) same right = store_right old new cap ks (next (range old at len)) same.1 right
store_right old new cap ks (counted at counts next) same right = store_right old new cap ks (next (counts (range old at 512))) same.1 right
store_right old new cap ks (stored kind at len next) same right =
    store_right old new cap (used cap kind at len (range old at len) ks) (next (range old at len)) same.1
    (used_right new cap kind at len (range old at len) ks (sym (same.0)) right)

pub store_unchanged : {A : Type 0} (img : List ℕ) (cap : ℕ) (ks : List Kept) (p : Prog A) → IsUnstored p → store_after img cap ks p ≡ ks
store_unchanged img cap ks (ret a) h = refl
store_unchanged img cap ks (whole at len next) h = store_unchanged img cap ks (next (range img at len)) (h (range img at len))
store_unchanged img cap ks (counted at counts next) h = store_unchanged img cap ks (next (counts (range img at 512))) (h (counts (range img at 512)))
store_unchanged img cap ks (stored kind at len next) h = absurd h

pub store_laws : {A : Type 0} → StoreLaws A
store_laws = record { right = store_right; unchanged = store_unchanged }

-- ---- On a still image

-- the answer and the store
pub leaving_still : {A : Type 0} (img : List ℕ) (cap : ℕ) (ks : List Kept) (p : Prog A) → length img ≤ 2 ^ 64 → AreRight img ks
    → eval img (lowered_leaving cap ks p) ≡ (eval img p, store_after img cap ks p)
leaving_still img cap ks (ret a) fits right = refl
leaving_still img cap ks (whole at len next) fits right =
    eval_cut_up img at len (λ b. lowered_leaving cap ks (next b)) fits ∙ leaving_still img cap ks (next (range img at len)) fits right
leaving_still img cap ks (counted at counts next) fits right =
    ap (λ (b : List ℕ). eval img (lowered_leaving cap ks (next (counts b)))) (range_below img at 512 fits)
    ∙ leaving_still img cap ks (next (counts (range img at 512))) fits right
leaving_still {A} img cap ks (stored kind at len next) fits right =
    let r : List ℕ = range img at len in
    let here = leaving_still img cap (used cap kind at len r ks) (next r) fits (used_right img cap kind at len r ks refl right) in
    option_both (kept_bytes kind at len ks)
    (λ b. lowered_leaving cap (used cap kind at len b ks) (next b))
    (cut_up at len (λ b. lowered_leaving cap (used cap kind at len b ks) (next b)))
    (λ (q : Prog (A × List Kept)). eval img q ≡ (eval img (next r), store_after img cap (used cap kind at len r ks) (next r)))
    (λ b e. ap (λ (b : List ℕ). eval img (lowered_leaving cap (used cap kind at len b ks) (next b))) (found_right img kind at len ks b right e) ∙ here)
    (λ e. eval_cut_up img at len (λ b. lowered_leaving cap (used cap kind at len b ks) (next b)) fits ∙ here)

-- ---- One program after another, lowered

pub cond_apply : {X Y : Type 0} (f : X → Y) (b : Bool) (x y : X) → f (cond b x y) ≡ cond b (f x) (f y)
cond_apply f true x y = refl
cond_apply f false x y = refl

pub pieces_bind : {A B : Type 0} (fuel place len : ℕ) (got : List ℕ) (next : List ℕ → Prog A) (g : A → Prog B)
    → bind (look_pieces fuel place len got next) g ≡ look_pieces fuel place len got (λ b. bind (next b) g)
pieces_bind zero place len got next g = refl
pieces_bind (suc fuel) place zero got next g = refl
pieces_bind {A} {B} (suc fuel) place (suc rest) got next g =
    ap (whole place (min 512 (suc rest))) (λ i b. (
    cond_apply (λ (q : Prog A). bind q g) (length b == min 512 (suc rest)) (look_pieces fuel (place + 512) (suc rest - 512) (got ++ b) next) (next (got ++ b))
    ∙ ap (λ (q : Prog B). cond (length b == min 512 (suc rest)) q (bind (next (got ++ b)) g)) (pieces_bind fuel (place + 512) (suc rest - 512) (got ++ b) next g)
    ) i)

pub cut_up_bind : {A B : Type 0} (place len : ℕ) (next : List ℕ → Prog A) (g : A → Prog B) → bind (cut_up place len next) g ≡ cut_up place len (λ b. bind (next b) g)
cut_up_bind place len next g = pieces_bind (below_end place len / 512 + 1) place (below_end place len) [] next g

pub found_bind : {A B : Type 0} (o : Option (List ℕ)) (f : List ℕ → Prog A) (y : Prog A) (g : A → Prog B)
    → bind (elim o as (λ _. Prog A) [ Some b ↦ f b | None ↦ y ]) g ≡ elim o as (λ _. Prog B) [ Some b ↦ bind (f b) g | None ↦ bind y g ]
found_bind (Some b) f y g = refl
found_bind None f y g = refl

pub found_alike : {B : Type 0} (o : Option (List ℕ)) (f g : List ℕ → Prog B) (x y : Prog B) → ((b : List ℕ) → f b ≡ g b) → x ≡ y
    → elim o as (λ _. Prog B) [ Some b ↦ f b | None ↦ x ] ≡ elim o as (λ _. Prog B) [ Some b ↦ g b | None ↦ y ]
found_alike (Some b) f g x y h e = h b
found_alike None f g x y h e = e

-- the second begins with the answer and the store that the first leaves
pub lowered_bind : {A B : Type 0} (cap : ℕ) (ks : List Kept) (p : Prog A) (f : A → Prog B)
    → lowered cap ks (bind p f) ≡ bind (lowered_leaving cap ks p) (λ left. lowered cap left.1 (f left.0))
lowered_bind cap ks (ret a) f = refl
lowered_bind cap ks (whole at len next) f =
    ap (cut_up at len) (λ i b. lowered_bind cap ks (next b) f i)
    ∙ sym (cut_up_bind at len (λ b. lowered_leaving cap ks (next b)) (λ left. lowered cap left.1 (f left.0)))
lowered_bind cap ks (counted at counts next) f = ap (whole at (below_end at 512)) (λ i b. lowered_bind cap ks (next (counts b)) f i)
lowered_bind {A} {B} cap ks (stored kind at len next) f =
    let later : A × List Kept → Prog B = λ left. lowered cap left.1 (f left.0) in
    let first : List ℕ → Prog (A × List Kept) = λ b. lowered_leaving cap (used cap kind at len b ks) (next b) in
    found_alike (kept_bytes kind at len ks)
    (λ b. lowered cap (used cap kind at len b ks) (bind (next b) f)) (λ b. bind (first b) later)
    (cut_up at len (λ b. lowered cap (used cap kind at len b ks) (bind (next b) f))) (bind (cut_up at len first) later)
    (λ b. lowered_bind cap (used cap kind at len b ks) (next b) f)
    (ap (cut_up at len) (λ i b. lowered_bind cap (used cap kind at len b ks) (next b) f i) ∙ sym (cut_up_bind at len first later))
    ∙ sym (found_bind (kept_bytes kind at len ks) first (cut_up at len first) later)

-- a lowered program is one that forgets the store that it leaves
pub lowered_is : {A : Type 0} (cap : ℕ) (ks : List Kept) (p : Prog A) → lowered cap ks p ≡ bind (lowered_leaving cap ks p) (λ left. ret left.0)
lowered_is cap ks p = ap (lowered cap ks) (sym (bind_ret p)) ∙ lowered_bind cap ks p ret

pub lowered_still : {A : Type 0} (img : List ℕ) (cap : ℕ) (ks : List Kept) (p : Prog A) → length img ≤ 2 ^ 64 → AreRight img ks → eval img (lowered cap ks p) ≡ eval img p
lowered_still img cap ks p fits right =
    ap (eval img) (lowered_is cap ks p)
    ∙ eval_bind img (lowered_leaving cap ks p) (λ left. ret left.0)
    ∙ ap (λ left. left.0) (leaving_still img cap ks p fits right)
