-- Links, put together and taken apart.
use Rattle.std.proofs.Common.{◌≡◌, ℕ, ◌+◌, ◌-◌, ◌*◌, ◌%◌, ◌^◌, append_assoc, ◌<◌, ◌≤◌, true, false, cond, eqb, leb, List, ◌++◌, length, take, drop, Option, Some, None, refl, ap, sym, ◌∙◌, arith, inl, inr}
use Rattle.std.proofs.lemmas.Bool.{cases_eq, cases_Bool, eq-eqb, ne_eqb, le-leb, leb-true}
use Rattle.std.proofs.lemmas.List.{drop-drop, length-drop, length-append, take_at, drop_at}
use Rattle.h5w_model.specs.Numbers.{num, le, field}
use Rattle.h5w_model.proofs.NumberLemmas.{num-le, length-le}
use Rattle.h5w_model.specs.Links.{is_link, link_fields, link_kind, link_length, name_length, name_place, is_link_info, names_heap, link_bytes, link_info_bytes}

pub some_is : (x y : ℕ) → (let o : Option ℕ = Some x in o ≡ Some y) → x ≡ y
some_is x y e = cc

-- bytes that reach past the last field are a link
pub is_link-long : (b : List ℕ) (place len kind : ℕ) → field b 0 1 ≡ 1 → place ≡ name_place b → len ≡ name_length b → kind ≡ link_kind b → place + len + (cond (eqb kind 0) 8 0) ≤ length b → is_link b ≡ true
is_link-long b place len kind v p n k h =
    let end : link_length b ≤ length b = rw (← p, ← n, ← k) h in
    rw (v, le-leb (link_length b) (length b) end) refl

-- what stands behind the name, as a part of all
pub behind_name : (b behind : List ℕ) (end : ℕ) → behind ≡ drop end b → field behind 0 8 ≡ field b end 8
behind_name b behind end e = ap (λ (xs : List ℕ). num (take 8 xs)) e

-- the fields, part by part
pub fields_are : (b name : List ℕ) (place len kind address : ℕ) → place ≡ name_place b → len ≡ name_length b → kind ≡ link_kind b → name ≡ take len (drop place b) → address ≡ cond (eqb kind 0) (field b (place + len) 8) 0
    → record { name = name; kind = kind; address = address } ≡ link_fields b
fields_are b name place len kind address p n k t a = rw (t, a, p, n, k) refl

pub some_is_none : (x : ℕ) → Some x ≡ None → ⊥
some_is_none x e = cc

-- a link whose parts were cut off one after another
pub link_read : (b name behind : List ℕ) (place len kind address : ℕ) → field b 0 1 ≡ 1 → place ≡ name_place b → len ≡ name_length b → kind ≡ link_kind b → place + len ≤ length b
    → name ≡ take len (drop place b) → behind ≡ drop (place + len) b
    → (kind ≡ 0 → Some address ≡ cond (leb 8 (length behind)) (Some (field behind 0 8)) None) → ((kind ≡ 0 → ⊥) → address ≡ 0)
    → (is_link b ≡ true) × (record { name = name; kind = kind; address = address } ≡ link_fields b)
link_read b name behind place len kind address v p n k inside t e hard other =
    elim (cases_eq kind 0) [
      | inl z ↦ elim (cases_Bool (leb 8 (length behind))) [
        | inl y ↦
            let given : address ≡ field b (place + len) 8 = some_is address (field behind 0 8) (hard z ∙ ap (λ s. cond s (Some (field behind 0 8)) None) y) ∙ behind_name b behind (place + len) e in
            let room : 8 ≤ length behind = leb-true 8 (length behind) y in
            let cut : length behind ≡ length b - (place + len) = ap length e ∙ length-drop (place + len) b in
            let all : place + len + (cond (eqb kind 0) 8 0) ≤ length b = rw (eq-eqb kind 0 z) (omega arith) in
            (is_link-long b place len kind v p n k all, fields_are b name place len kind address p n k t (rw (eq-eqb kind 0 z) given))
        | inr y ↦ absurd (some_is_none address (hard z ∙ ap (λ s. cond s (Some (field behind 0 8)) None) y))
      ]
      | inr z ↦
          let all : place + len + (cond (eqb kind 0) 8 0) ≤ length b = rw (ne_eqb kind 0 z) (omega arith) in
          (is_link-long b place len kind v p n k all, fields_are b name place len kind address p n k t (rw (ne_eqb kind 0 z) (other z)))
    ]

-- ---- What is written is read again, whatever follows it

pub link_written : (name c : List ℕ) (address : ℕ) → length name < 256 → address < 2 ^ 64
    → (is_link (link_bytes name address ++ c) ≡ true) × (record { name = name; kind = 0; address = address } ≡ link_fields (link_bytes name address ++ c))
unfolding num le
link_written name c address h a =
    let b = link_bytes name address ++ c in
    let behind = le 8 address ++ c in
    let size : length name ≡ length name % 256 + 256 * 0 = omega arith in
    let rest : drop 3 b ≡ name ++ behind = append_assoc name (le 8 address) c in
    let long : length b ≡ 3 + (length name + length behind) = omega (arith, length-append (name ++ le 8 address) c, length-append name (le 8 address), length-append (le 8 address) c) in
    let eight : 8 ≤ length behind = omega (arith, length-append (le 8 address) c, length-le 8 address) in
    let read : field behind 0 8 ≡ address = ap num (take_at (le 8 address) c 8 refl) ∙ num-le 8 address a in
    link_read b name behind 3 (length name) 0 address refl refl size refl (omega arith)
    (sym (ap (take (length name)) rest ∙ take_at name behind (length name) refl))
    (sym (sym (drop-drop (length name) 3 b) ∙ ap (drop (length name)) rest ∙ drop_at name behind (length name) refl))
    (λ z. sym (rw (le-leb 8 (length behind) eight, read) refl))
    (λ z. absurd (z refl))

pub link_info_written : (c : List ℕ) → (is_link_info (link_info_bytes ++ c) ≡ true) × (names_heap (link_info_bytes ++ c) ≡ false)
unfolding num le
link_info_written c = (le-leb 18 (length (link_info_bytes ++ c)) (omega arith), refl)
