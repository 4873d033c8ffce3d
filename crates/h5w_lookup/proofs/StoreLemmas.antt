-- The store of an attempt is the list of kept blocks of its program.
use Rattle.std.proofs.Common.{◌≡◌, ℕ, zero, suc, ◌+◌, ◌-◌, ◌*◌, ◌^◌, ◌<◌, ◌≤◌, Bool, true, false, cond, List, [], ◌∷◌, length, take, Option, Some, None, Result, Ok, Err, inl, inr, refl, sym, ◌∙◌, ap, subst, arith}
use Rattle.std.specs.Prelude.{◌==◌, ◌&&◌, nat_eq, option_map, OnOk, OnErr}
use Rattle.std.specs.List.{AllByRecursion, IsDistinct}
use Rattle.std.specs.Option.{option_map_or}
use Rattle.std.specs.Map.{keys_of, lookup, lookup_entry, remove_entry}
use Rattle.std.proofs.lemmas.Bool.{cases_Bool, eq-eqb, eqb-true, ne_eqb}
use Rattle.std.proofs.lemmas.List.{take-map}
use Rattle.std.proofs.lemmas.Nat.{same_from_place}
use Rattle.lru.specs.LruCache.{LruCache, IsValid, promoted, put_entries}
use Rattle.h5w_model.specs.Programs.{Kept, is_of, kept_bytes, others, used}
use Rattle.h5w_lookup.specs.Blocks.{block_number}
use Rattle.h5w_lookup.specs.Blocks.{IsRead}
use Rattle.h5w_lookup.specs.Contents.{bytes_in}
use Rattle.h5w_lookup.specs.Stores.{Keeps, IsBlockOf}
use Rattle.h5w_lookup.specs.Keyed.{kept_entry, kept_entries, IsKeyed}
use Rattle.h5w_lookup.specs.declared.block.Block.{Block}

-- ---- Numbers

-- a number that a block can have
pub record IsSmall (place len : ℕ) : Type 0 where
  pub low : place < 2 ^ 64
  pub small : len < 2 ^ 32

pub small_block : (b : Block) → IsSmall b.place b.len
small_block b = record { low = b.low; small = b.small }

record IsSame (kind at n : ℕ) (k : Kept) : Type 0 where
  kind_is : k.kind ≡ kind
  place_is : k.place ≡ at
  len_is : k.len ≡ n

same_number : (kind at n : ℕ) (k : Kept) → IsSmall at n → IsSmall k.place k.len → block_number kind at n ≡ block_number k.kind k.place k.len → IsSame kind at n k
same_number kind at n k s t e =
    let outer = same_from_place (kind * 2 ^ 32 + n) at (k.kind * 2 ^ 32 + k.len) k.place (2 ^ 64) s.low t.low e in
    let inner = same_from_place kind n k.kind k.len (2 ^ 32) s.small t.small outer.0 in
    record { kind_is = sym inner.0; place_is = sym outer.1; len_is = sym inner.1 }

is_same : (kind at n : ℕ) (k : Kept) → IsSame kind at n k → is_of kind at n k ≡ true
is_same kind at n k s = rw (eq-eqb k.kind kind s.kind_is, eq-eqb k.place at s.place_is, eq-eqb k.len n s.len_is) refl

and_three : (a b c : Bool) → (a && b) && c ≡ true → (a ≡ true) × (b ≡ true) × (c ≡ true)
and_three true true true e = (refl, refl, refl)
and_three true true false e = absurd cc
and_three true false c e = absurd cc
and_three false b c e = absurd cc

of_same : (kind at n : ℕ) (k : Kept) → is_of kind at n k ≡ true → IsSame kind at n k
of_same kind at n k e =
    let all = and_three (k.kind == kind) (k.place == at) (k.len == n) e in
    record { kind_is = eqb-true k.kind kind all.0; place_is = eqb-true k.place at all.1; len_is = eqb-true k.len n all.2 }

-- a kept block is asked for by its number
by_number : (kind at n : ℕ) (e : ℕ × Block) → IsSmall at n → e.0 ≡ block_number e.1.kind e.1.place e.1.len → is_of kind at n (kept_entry e) ≡ nat_eq (block_number kind at n) e.0
by_number kind at n e s key =
    elim (cases_Bool (is_of kind at n (kept_entry e))) [
      | inl t ↦
          let same = of_same kind at n (kept_entry e) t in
          let equal : block_number kind at n ≡ e.0 = sym (key ∙ ap (λ k. block_number k e.1.place e.1.len) same.kind_is ∙ ap (λ k. block_number kind k e.1.len) same.place_is ∙ ap (block_number kind at) same.len_is) in
          t ∙ sym (eq-eqb (block_number kind at n) e.0 equal)
      | inr f ↦
          f ∙ sym (ne_eqb (block_number kind at n) e.0 (λ equal.
          let t = is_same kind at n (kept_entry e) (same_number kind at n (kept_entry e) s (small_block e.1) (equal ∙ key)) in
          let z : true ≡ false = sym t ∙ f in absurd cc))
    ]

-- ---- Lists

pub find_bytes : (kind at n : ℕ) (es : List (ℕ × Block)) → IsSmall at n → IsKeyed es
    → kept_bytes kind at n (kept_entries es) ≡ option_map (λ (b : Block). bytes_in b.content) (lookup (nat_eq (block_number kind at n)) es)
find_bytes kind at n [] s keyed = refl
find_bytes kind at n (e ∷ es) s keyed =
    let key = block_number kind at n in
    ap (λ c. cond c (Some (bytes_in e.1.content)) (kept_bytes kind at n (kept_entries es))) (by_number kind at n e s keyed.0)
    ∙ elim (nat_eq key e.0) as (λ c. cond c (Some (bytes_in e.1.content)) (kept_bytes kind at n (kept_entries es)) ≡ option_map (λ (b : Block). bytes_in b.content) (cond c (Some e.1) (lookup (nat_eq key) es))) [
      | true ↦ refl
      | false ↦ find_bytes kind at n es s keyed.1
    ]

others_apart : (kind at n : ℕ) (es : List (ℕ × Block)) → IsSmall at n → IsKeyed es → AllByRecursion (λ y. nat_eq (block_number kind at n) y ≡ false) (keys_of es) → others kind at n (kept_entries es) ≡ kept_entries es
others_apart kind at n [] s keyed apart = refl
others_apart kind at n (e ∷ es) s keyed apart =
    ap (λ c. cond c (others kind at n (kept_entries es)) (kept_entry e ∷ others kind at n (kept_entries es))) (by_number kind at n e s keyed.0 ∙ apart.0)
    ∙ ap (λ (ks : List Kept). kept_entry e ∷ ks) (others_apart kind at n es s keyed.1 apart.1)

others_entries : (kind at n : ℕ) (es : List (ℕ × Block)) → IsSmall at n → IsKeyed es → IsDistinct nat_eq (keys_of es)
    → others kind at n (kept_entries es) ≡ kept_entries (remove_entry (nat_eq (block_number kind at n)) es)
unfolding IsDistinct
others_entries kind at n [] s keyed apart = refl
others_entries kind at n (e ∷ es) s keyed apart =
    let key = block_number kind at n in
    ap (λ c. cond c (others kind at n (kept_entries es)) (kept_entry e ∷ others kind at n (kept_entries es))) (by_number kind at n e s keyed.0)
    ∙ elim (cases_Bool (nat_eq key e.0)) [
      | inl t ↦
          let first = subst (λ k. AllByRecursion (λ y. nat_eq k y ≡ false) (keys_of es)) (sym (eqb-true key e.0 t)) apart.0 in
          rw t (others_apart kind at n es s keyed.1 first)
      | inr f ↦ rw f (ap (λ (ks : List Kept). kept_entry e ∷ ks) (others_entries kind at n es s keyed.1 apart.1))
    ]

removed_none : (test : ℕ → Bool) (es : List (ℕ × Block)) → lookup_entry test es ≡ None → remove_entry test es ≡ es
removed_none test [] h = refl
removed_none test (e ∷ es) h =
    elim (cases_Bool (test e.0)) [
      | inl t ↦ let z : Some e ≡ None = rw t at h in absurd cc
      | inr f ↦ let rest : lookup_entry test es ≡ None = rw f at h in rw f (ap (λ (xs : List (ℕ × Block)). e ∷ xs) (removed_none test es rest))
    ]

-- an entry that is found, and the others
record IsEntry (test : ℕ → Bool) (es : List (ℕ × Block)) (f : ℕ × Block) : Type 0 where
  passes : test f.0 ≡ true
  count : suc (length (remove_entry test es)) ≡ length es

found_entry : (test : ℕ → Bool) (es : List (ℕ × Block)) (f : ℕ × Block) → lookup_entry test es ≡ Some f → IsEntry test es f
found_entry test [] f h = absurd cc
found_entry test (e ∷ es) f h =
    elim (cases_Bool (test e.0)) [
      | inl t ↦
          let some : Some e ≡ Some f = rw t at h in
          let same : e ≡ f = cc in
          record { passes = subst (λ x. test x.0 ≡ true) same t; count = rw t refl }
      | inr n ↦
          let on = found_entry test es f (rw n at h) in
          record { passes = on.passes; count = rw n (ap suc on.count) }
    ]

keyed_removed : (test : ℕ → Bool) (es : List (ℕ × Block)) → IsKeyed es → IsKeyed (remove_entry test es)
keyed_removed test [] keyed = tt
keyed_removed test (e ∷ es) keyed =
    elim (test e.0) as (λ c. IsKeyed (cond c es (e ∷ remove_entry test es))) [ true ↦ keyed.1 | false ↦ (keyed.0, keyed_removed test es keyed.1) ]

keyed_taken : (n : ℕ) (es : List (ℕ × Block)) → IsKeyed es → IsKeyed (take n es)
keyed_taken zero es keyed = tt
keyed_taken (suc n) [] keyed = tt
keyed_taken (suc n) (e ∷ es) keyed = (keyed.0, keyed_taken n es keyed.1)

take_all : {X : Type 0} (n : ℕ) (xs : List X) → length xs ≤ n → take n xs ≡ xs
take_all zero [] h = refl
take_all zero (x ∷ xs) h = absurd (omega arith)
take_all (suc n) [] h = refl
take_all {X} (suc n) (x ∷ xs) h = ap (λ (ys : List X). x ∷ ys) (take_all n xs (omega arith))

-- ---- A block that is kept

-- after a block is put under its number: where one stood there, and where none did
abbrev after_put : List (ℕ × Block) → ℕ → ℕ → Block → Option (ℕ × Block) → List (ℕ × Block)
after_put es cap key v o = option_map_or (λ e. (e.0, v) ∷ remove_entry (nat_eq key) es) o ((key, v) ∷ take (cap - 1) es)

put_is : (es : List (ℕ × Block)) (v : Block) (o : Option (ℕ × Block)) → lookup_entry (nat_eq (block_number v.kind v.place v.len)) es ≡ o → IsKeyed es → IsDistinct nat_eq (keys_of es) → length es ≤ 16
    → used 16 v.kind v.place v.len (bytes_in v.content) (kept_entries es) ≡ kept_entries (after_put es 16 (block_number v.kind v.place v.len) v o)
put_is es v None h keyed apart few =
    let key = block_number v.kind v.place v.len in
    ap (λ (ks : List Kept). take 16 (kept_entry (key, v) ∷ ks)) (others_entries v.kind v.place v.len es (small_block v) keyed apart ∙ ap kept_entries (removed_none (nat_eq key) es h))
    ∙ take-map kept_entry 16 ((key, v) ∷ es)
put_is es v (Some f) h keyed apart few =
    let key = block_number v.kind v.place v.len in
    let found = found_entry (nat_eq key) es f h in
    let count = found.count in
    ap (λ (ks : List Kept). take 16 (kept_entry (key, v) ∷ ks)) (others_entries v.kind v.place v.len es (small_block v) keyed apart)
    ∙ take-map kept_entry 16 ((key, v) ∷ remove_entry (nat_eq key) es)
    ∙ ap kept_entries (take_all 16 ((key, v) ∷ remove_entry (nat_eq key) es) (omega arith))

put_keyed : (es : List (ℕ × Block)) (v : Block) (o : Option (ℕ × Block)) → lookup_entry (nat_eq (block_number v.kind v.place v.len)) es ≡ o → IsKeyed es → IsKeyed (after_put es 16 (block_number v.kind v.place v.len) v o)
put_keyed es v None h keyed = (refl, keyed_taken 15 es keyed)
put_keyed es v (Some f) h keyed =
    let key = block_number v.kind v.place v.len in
    let found = found_entry (nat_eq key) es f h in
    (sym (eqb-true key f.0 found.passes), keyed_removed (nat_eq key) es keyed)

pub used_put : (c : LruCache ℕ Block) (v : Block) → c.cap ≡ 16 → IsKeyed c.entries → IsValid nat_eq c
    → kept_entries (put_entries nat_eq c (block_number v.kind v.place v.len) v) ≡ used 16 v.kind v.place v.len (bytes_in v.content) (kept_entries c.entries)
used_put c v room keyed valid =
    let key = block_number v.kind v.place v.len in
    let few : length c.entries ≤ 16 = subst (λ n. length c.entries ≤ n) room valid.1 in
    ap (λ n. kept_entries (after_put c.entries n key v (lookup_entry (nat_eq key) c.entries))) room
    ∙ sym (put_is c.entries v (lookup_entry (nat_eq key) c.entries) refl keyed valid.0 few)

pub keyed_put : (c : LruCache ℕ Block) (v : Block) → c.cap ≡ 16 → IsKeyed c.entries → IsKeyed (put_entries nat_eq c (block_number v.kind v.place v.len) v)
keyed_put c v room keyed =
    let key = block_number v.kind v.place v.len in
    subst (λ n. IsKeyed (after_put c.entries n key v (lookup_entry (nat_eq key) c.entries))) (sym room) (put_keyed c.entries v (lookup_entry (nat_eq key) c.entries) refl keyed)

-- ---- A block that is used again

keyed_found : (es : List (ℕ × Block)) (test : ℕ → Bool) (f : ℕ × Block) → lookup_entry test es ≡ Some f → IsKeyed es → f.0 ≡ block_number f.1.kind f.1.place f.1.len
keyed_found [] test f h keyed = absurd cc
keyed_found (e ∷ es) test f h keyed =
    elim (cases_Bool (test e.0)) [
      | inl t ↦
          let some : Some e ≡ Some f = rw t at h in
          let same : e ≡ f = cc in
          subst (λ x. x.0 ≡ block_number x.1.kind x.1.place x.1.len) same keyed.0
      | inr n ↦ keyed_found es test f (rw n at h) keyed.1
    ]

abbrev after_use : List (ℕ × Block) → ℕ → Option (ℕ × Block) → List (ℕ × Block)
after_use es key o = option_map_or (λ e. e ∷ remove_entry (nat_eq key) es) o es

pub keyed_used : (es : List (ℕ × Block)) (key : ℕ) → IsKeyed es → IsKeyed (promoted (nat_eq key) es)
keyed_used es key keyed =
    elim (lookup_entry (nat_eq key) es) as (λ o. lookup_entry (nat_eq key) es ≡ o → IsKeyed (after_use es key o)) [
      | None ↦ λ h. keyed
      | Some f ↦ λ h. (keyed_found es (nat_eq key) f h keyed, keyed_removed (nat_eq key) es keyed)
    ] refl

value_of_entry : (test : ℕ → Bool) (es : List (ℕ × Block)) (b : Block) → lookup test es ≡ Some b → (f : ℕ × Block) × (lookup_entry test es ≡ Some f) × (f.1 ≡ b)
value_of_entry test [] b h = absurd cc
value_of_entry test (e ∷ es) b h =
    elim (cases_Bool (test e.0)) [
      | inl t ↦
          let some : Some e.1 ≡ Some b = rw t at h in
          let same : e.1 ≡ b = cc in
          (e, rw t refl, same)
      | inr n ↦
          let on = value_of_entry test es b (rw n at h) in
          (on.0, rw n on.1, on.2)
    ]

-- what is known of a block that was found
pub record IsUsed (kind at n : ℕ) (es : List (ℕ × Block)) (b : Block) : Type 0 where
  pub kind_is : b.kind ≡ kind
  pub place_is : b.place ≡ at
  pub len_is : b.len ≡ n
  pub then_used : kept_entries (promoted (nat_eq (block_number kind at n)) es) ≡ used 16 kind at n (bytes_in b.content) (kept_entries es)

kept_is : (kind at n : ℕ) (b : Block) (f : ℕ × Block) → IsSame kind at n (kept_entry f) → f.1 ≡ b → (let k : Kept = record { kind = kind; place = at; len = n; bytes = (bytes_in b.content) } in k) ≡ kept_entry f
kept_is kind at n b f same e =
    ap (λ k. let x : Kept = record { kind = k; place = at; len = n; bytes = (bytes_in b.content) } in x) (sym same.kind_is)
    ∙ ap (λ k. let x : Kept = record { kind = f.1.kind; place = k; len = n; bytes = (bytes_in b.content) } in x) (sym same.place_is)
    ∙ ap (λ k. let x : Kept = record { kind = f.1.kind; place = f.1.place; len = k; bytes = (bytes_in b.content) } in x) (sym same.len_is)
    ∙ ap (λ (v : Block). let x : Kept = record { kind = f.1.kind; place = f.1.place; len = f.1.len; bytes = (bytes_in v.content) } in x) (sym e)

pub used_again : (kind at n : ℕ) (es : List (ℕ × Block)) (b : Block) → IsSmall at n → IsKeyed es → IsDistinct nat_eq (keys_of es) → length es ≤ 16 → lookup (nat_eq (block_number kind at n)) es ≡ Some b → IsUsed kind at n es b
used_again kind at n es b s keyed apart few h =
    let key = block_number kind at n in
    let entry = value_of_entry (nat_eq key) es b h in
    let f = entry.0 in
    let found = found_entry (nat_eq key) es f entry.1 in
    let count = found.count in
    let number : key ≡ f.0 = eqb-true key f.0 found.passes in
    let same = same_number kind at n (kept_entry f) s (small_block f.1) (number ∙ keyed_found es (nat_eq key) f entry.1 keyed) in
    record {
      kind_is = ap (λ (x : Block). x.kind) (sym entry.2) ∙ same.kind_is;
      place_is = ap (λ (x : Block). x.place) (sym entry.2) ∙ same.place_is;
      len_is = ap (λ (x : Block). x.len) (sym entry.2) ∙ same.len_is;
      then_used = ap (λ o. kept_entries (after_use es key o)) entry.1
          ∙ sym (ap (λ (ks : List Kept). take 16 (record { kind = kind; place = at; len = n; bytes = (bytes_in b.content) } ∷ ks)) (others_entries kind at n es s keyed apart)
          ∙ ap (λ (k : Kept). take 16 (k ∷ kept_entries (remove_entry (nat_eq key) es))) (kept_is kind at n b f same entry.2)
          ∙ take-map kept_entry 16 (f ∷ remove_entry (nat_eq key) es)
          ∙ ap kept_entries (take_all 16 (f ∷ remove_entry (nat_eq key) es) (omega arith)));
    }

-- ---- An answer, or want of memory

pub either : {X E V : Type 0} (P : V → Type 0) (r : Result X E) (new good old : V) → OnOk r (new ≡ good) → OnErr r (new ≡ old) → P good → P old → P new
either P (Ok x) new good old h k p q = subst P (sym h) p
either P (Err e) new good old h k p q = subst P (sym k) q

-- ---- What a block says

pub read_of : (kind at len : ℕ) (bytes : List ℕ) (b : Block) → IsBlockOf kind at len bytes b → IsRead kind at len bytes b.content
read_of kind p len bytes b is =
    subst (λ k. IsRead k p len bytes b.content) is.kind_is
    (subst (λ k. IsRead b.kind k len bytes b.content) is.place_is
    (subst (λ k. IsRead b.kind b.place k bytes b.content) is.len_is
    (subst (λ x. IsRead b.kind b.place b.len x b.content) is.bytes_are b.read)))

-- a block that is found by its number
pub keeps_found : (kind at n : ℕ) (es : List (ℕ × Block)) (b : Block) → IsSmall at n → IsKeyed es → lookup (nat_eq (block_number kind at n)) es ≡ Some b → Keeps kind at n (kept_entries es) b.content
keeps_found kind p n es b s keyed h =
    let key = block_number kind p n in
    let entry = value_of_entry (nat_eq key) es b h in
    let f = entry.0 in
    let found = found_entry (nat_eq key) es f entry.1 in
    let number : key ≡ f.0 = eqb-true key f.0 found.passes in
    let same = same_number kind p n (kept_entry f) s (small_block f.1) (number ∙ keyed_found es (nat_eq key) f entry.1 keyed) in
    let is : IsBlockOf kind p n (bytes_in b.content) b = record {
      kind_is = ap (λ (x : Block). x.kind) (sym entry.2) ∙ same.kind_is;
      place_is = ap (λ (x : Block). x.place) (sym entry.2) ∙ same.place_is;
      len_is = ap (λ (x : Block). x.len) (sym entry.2) ∙ same.len_is;
      bytes_are = refl;
    } in
    record {
      bytes = (bytes_in b.content);
      is_kept = find_bytes kind p n es s keyed ∙ ap (λ (o : Option Block). option_map (λ (b : Block). bytes_in b.content) o) h;
      read = read_of kind p n (bytes_in b.content) b is;
    }

some_bytes : (o : Option Block) (bytes : List ℕ) → option_map (λ (b : Block). bytes_in b.content) o ≡ Some bytes → (b : Block) × (o ≡ Some b) × ((bytes_in b.content) ≡ bytes)
some_bytes None bytes h = absurd cc
some_bytes (Some b) bytes h = (b, refl, cc)

-- its use, by its bytes
pub used_bytes : (kind at n : ℕ) (es : List (ℕ × Block)) (bytes : List ℕ) → IsSmall at n → IsKeyed es → IsDistinct nat_eq (keys_of es) → length es ≤ 16 → kept_bytes kind at n (kept_entries es) ≡ Some bytes
    → kept_entries (promoted (nat_eq (block_number kind at n)) es) ≡ used 16 kind at n bytes (kept_entries es)
used_bytes kind p n es bytes s keyed apart few h =
    let some = some_bytes (lookup (nat_eq (block_number kind p n)) es) bytes (sym (find_bytes kind p n es s keyed) ∙ h) in
    let u = used_again kind p n es some.0 s keyed apart few some.1 in
    u.then_used ∙ ap (λ bs. used 16 kind p n bs (kept_entries es)) some.2
