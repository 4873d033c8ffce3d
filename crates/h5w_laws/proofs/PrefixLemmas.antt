-- What stands before a header's messages, in the first bytes of it and in all of them, and in what counts of a look.
use Rattle.std.proofs.Common.{◌≡◌, ◌⊎◌, ℕ, ◌+◌, ◌-◌, ◌^◌, ◌<◌, ◌≤◌, min, Bool, true, false, cond, eqb, List, [], ◌∷◌, ◌++◌, length, length-append, take, Result, Ok, Err, refl, sym, ◌∙◌, ap, subst, inl, inr, arith, length-take, lit≤}
use Rattle.std.specs.Prelude.{nat_lt, nat_eq}
use Rattle.std.specs.List.{starts_with}
use Rattle.std.specs.Cmp.Lexicographic.{pointwise}
use Rattle.std.proofs.lemmas.Bool.{leb-true, le-leb, lt-ltb, le-ltb, cases_lt}
use Rattle.std.proofs.lemmas.List.{take-take, take_at}
use Rattle.h5w_model.specs.Numbers.{field}
use Rattle.h5w_model.specs.Headers.{prefix_at, prefix_tests, prefix_fields, header_flags, header_signature, chunk_0_size, header_length, messages_place, size_place, size_width, has, header_view, zeros}
use Rattle.h5w_model.specs.Datasets.{root_view}
use Rattle.h5w_model.specs.declared.message.Prefix.{Prefix}
use Rattle.h5w_model.specs.declared.refusal.HeaderError.{HeaderError}
use Rattle.h5w_model.specs.declared.refusal.HeaderError.TheVariants.{Signature, Version}
use Rattle.h5w_model.proofs.CheckedLemmas.{checked-ok, checked-passed}
use Rattle.h5w_model.proofs.HeaderLemmas.{size_width-within}
use Rattle.h5w_model.proofs.NumberLemmas.{field-take}

-- ---- Where the messages begin

-- 6 bytes or more stand before the size, and 20 more at most
pub flag_bytes : (f g : Bool) → cond f 16 0 + cond g 4 0 ≤ 20
flag_bytes true true = lit≤ tt
flag_bytes true false = lit≤ tt
flag_bytes false true = lit≤ tt
flag_bytes false false = lit≤ tt

pub place_within : (flags : ℕ) → (7 ≤ messages_place flags) × (messages_place flags ≤ 34)
place_within flags =
    let few = flag_bytes (has flags 0x20) (has flags 0x10) in
    let width = size_width-within flags in
    (omega arith, omega arith)

-- ---- The bytes that say it

-- the same is said in both
pub record Agree (b c : List ℕ) : Type 0 where
  flags : header_flags c ≡ header_flags b
  signature : starts_with nat_eq c header_signature ≡ starts_with nat_eq b header_signature
  version : field c 4 1 ≡ field b 4 1
  size : chunk_0_size c ≡ chunk_0_size b

pub agree_back : (b c : List ℕ) → Agree b c → Agree c b
agree_back b c a = record { flags = sym a.flags; signature = sym a.signature; version = sym a.version; size = sym a.size }

-- the first bytes, up to the messages
pub front_agrees : (b : List ℕ) (n : ℕ) → messages_place (header_flags b) ≤ n → Agree b (take n b)
front_agrees b n enough =
    let within = place_within (header_flags b) in
    let six : 6 ≤ n = omega arith in
    let flags : header_flags (take n b) ≡ header_flags b = field-take b n 5 1 six in
    record {
      flags = flags;
      signature = ap (λ (xs : List ℕ). pointwise nat_eq header_signature xs) (take-take 4 n b (omega arith));
      version = field-take b n 4 1 (omega arith);
      size = ap (λ f. field (take n b) (size_place f) (size_width f)) flags ∙ field-take b n (size_place (header_flags b)) (size_width (header_flags b)) enough;
    }

-- the tests that pass, and what it says
pub record Says (b : List ℕ) (p : Prefix) : Type 0 where
  signature : starts_with nat_eq b header_signature ≡ true
  version : eqb (field b 4 1) 2 ≡ true
  long : messages_place (header_flags b) ≤ length b
  fields : prefix_fields b ≡ p

pub says : (b : List ℕ) (p : Prefix) → prefix_at b ≡ Ok p → Says b p
unfolding prefix_at
says b p e =
    let t = checked-passed (prefix_tests b) (prefix_fields b) p e in
    record { signature = t.0.1.0; version = t.0.1.1.0; long = leb-true (messages_place (header_flags b)) (length b) t.0.1.1.1.0; fields = t.1 }

pub said : (b : List ℕ) (p : Prefix) → Says b p → prefix_at b ≡ Ok p
unfolding prefix_at
said b p s =
    let within = place_within (header_flags b) in
    let long = s.long in
    checked-ok (prefix_tests b) (prefix_fields b) (le-leb 6 (length b) (omega arith), (s.signature, (s.version, (le-leb (messages_place (header_flags b)) (length b) s.long, tt))))
    ∙ ap (λ (q : Prefix). Ok q) s.fields

pub fields_by : ℕ → ℕ → Prefix
fields_by flags size = record { total = min (messages_place flags + size + 4) (2 ^ 64 - 1); at = messages_place flags; len = size; tracked = has flags 4 }

pub says_too : (b c : List ℕ) (p : Prefix) → Agree b c → p.at ≤ length c → Says b p → Says c p
unfolding fields_by
says_too b c p a enough s =
    let place : messages_place (header_flags b) ≡ p.at = ap (λ (q : Prefix). q.at) s.fields in
    let same : messages_place (header_flags c) ≡ messages_place (header_flags b) = ap (λ f. messages_place f) a.flags in
    record {
      signature = a.signature ∙ s.signature;
      version = ap (λ v. eqb v 2) a.version ∙ s.version;
      long = omega arith;
      fields = ap (λ f. fields_by f (chunk_0_size c)) a.flags ∙ ap (λ k. fields_by (header_flags b) k) a.size ∙ s.fields;
    }

-- where the messages begin, by what it says
pub record Begins (b : List ℕ) (p : Prefix) : Type 0 where
  pub low : 6 ≤ p.at
  pub high : p.at ≤ 34
  pub inside : p.at ≤ p.total
  pub total : p.total ≡ min (header_length b) (2 ^ 64 - 1)

pub begins : (b : List ℕ) (p : Prefix) → prefix_at b ≡ Ok p → Begins b p
begins b p e =
    let s = says b p e in
    let within = place_within (header_flags b) in
    let place : messages_place (header_flags b) ≡ p.at = ap (λ (q : Prefix). q.at) s.fields in
    let total : min (header_length b) (2 ^ 64 - 1) ≡ p.total = ap (λ (q : Prefix). q.total) s.fields in
    record { low = omega arith; high = omega arith; inside = omega arith; total = sym total }

-- ---- In the first bytes and in all

pub prefix_front : (b : List ℕ) (n : ℕ) (p : Prefix) → p.at ≤ n → prefix_at b ≡ Ok p → prefix_at (take n b) ≡ Ok p
prefix_front b n p enough e =
    let s = says b p e in
    let place : messages_place (header_flags b) ≡ p.at = ap (λ (q : Prefix). q.at) s.fields in
    let long = s.long in
    let cut = length-take n b in
    said (take n b) p (says_too b (take n b) p (front_agrees b n (omega arith)) (omega arith) s)

-- the flags of the first bytes are those of all
pub prefix_whole : (b : List ℕ) (n : ℕ) (p : Prefix) → prefix_at (take n b) ≡ Ok p → prefix_at b ≡ Ok p
prefix_whole b n p e =
    let s = says (take n b) p e in
    let within = place_within (header_flags (take n b)) in
    let place : messages_place (header_flags (take n b)) ≡ p.at = ap (λ (q : Prefix). q.at) s.fields in
    let long = s.long in
    let cut = length-take n b in
    let six : 6 ≤ n = omega arith in
    let same : messages_place (header_flags (take n b)) ≡ messages_place (header_flags b) = ap (λ f. messages_place f) (field-take b n 5 1 six) in
    said b p (says_too (take n b) b p (agree_back b (take n b) (front_agrees b n (omega arith))) (omega arith) s)

-- ---- What counts of a look

abbrev pub is_prefix : Prefix → Result Prefix HeaderError
is_prefix p = Ok p

pub one_prefix : (p q : Prefix) → is_prefix q ≡ is_prefix p → q ≡ p
one_prefix p q e = cc

-- the view of bytes by what they begin with
pub view_by : List ℕ → Result Prefix HeaderError → List ℕ
view_by b r = elim r [
  | Err e ↦ elim e [
    | Signature ↦ take 5 b ++ 0 ∷ []
    | Version n ↦ take 5 b ++ 0 ∷ []
    | _ ↦ b
  ]
  | Ok p ↦ cond (nat_lt 512 p.total) (b ++ zeros (512 - length b)) (take p.total b)
]

pub view_is : (b : List ℕ) → header_view b ≡ view_by b (prefix_at b)
unfolding header_view view_by
view_is b = refl

-- six bytes are less than what stands before the messages
pub too_short : (b : List ℕ) (p : Prefix) → prefix_at (take 5 b ++ 0 ∷ []) ≡ Ok p → prefix_at b ≡ Ok p
too_short b p e =
    let s = says (take 5 b ++ 0 ∷ []) p e in
    let within = place_within (header_flags (take 5 b ++ 0 ∷ [])) in
    let long = s.long in
    let cut = length-take 5 b in
    let joined = length-append (take 5 b) (0 ∷ []) in
    absurd (omega arith)

-- bytes that are refused have a view that is refused
pub no_view : (b : List ℕ) (e : HeaderError) (p : Prefix) → prefix_at (view_by b (Err e)) ≡ Ok p → prefix_at b ≡ Ok p
unfolding view_by
no_view b Signature p h = too_short b p h
no_view b (Version n) p h = too_short b p h
no_view b _ p h = h

-- what counts of a look at a header of at most 512 bytes is chunk 0
abbrev pub IsCut : List ℕ → List ℕ → Prefix → Type 0
IsCut b view p = (512 < p.total) ⊎ (p.total ≤ 512) × (view ≡ take p.total b)

pub view_cases : (b : List ℕ) (q p : Prefix) → prefix_at b ≡ Ok q → prefix_at (view_by b (Ok q)) ≡ Ok p → (prefix_at b ≡ Ok p) × IsCut b (view_by b (Ok q)) p
unfolding view_by
view_cases b q p e h = go (cases_lt 512 q.total)
  where
    is_whole : prefix_at b ≡ Ok p → q ≡ p
    is_whole w = one_prefix p q (sym e ∙ w)

    long : 512 < q.total → view_by b (Ok q) ≡ b ++ zeros (512 - length b)
    long l = ap (λ (t : Bool). cond t (b ++ zeros (512 - length b)) (take q.total b)) (lt-ltb 512 q.total l)

    short : q.total ≤ 512 → view_by b (Ok q) ≡ take q.total b
    short l = ap (λ (t : Bool). cond t (b ++ zeros (512 - length b)) (take q.total b)) (le-ltb 512 q.total l)

    padded : prefix_at (b ++ zeros (512 - length b)) ≡ Ok q
    padded = prefix_whole (b ++ zeros (512 - length b)) (length b) q (ap (λ (xs : List ℕ). prefix_at xs) (take_at b (zeros (512 - length b)) (length b) refl) ∙ e)

    go : (512 < q.total) ⊎ (q.total ≤ 512) → (prefix_at b ≡ Ok p) × IsCut b (view_by b (Ok q)) p
    go (inl l) =
        let w : prefix_at b ≡ Ok p = e ∙ sym padded ∙ ap (λ (xs : List ℕ). prefix_at xs) (sym (long l)) ∙ h in
        (w, inl (subst (λ (r : Prefix). 512 < r.total) (is_whole w) l))
    go (inr l) =
        let w : prefix_at b ≡ Ok p = prefix_whole b q.total p (ap (λ (xs : List ℕ). prefix_at xs) (sym (short l)) ∙ h) in
        (w, inr (subst (λ (r : Prefix). (r.total ≤ 512) × (view_by b (Ok q) ≡ take r.total b)) (is_whole w) (l, short l)))

pub view_found : (b : List ℕ) (r : Result Prefix HeaderError) (p : Prefix) → prefix_at b ≡ r → prefix_at (view_by b r) ≡ Ok p → (prefix_at b ≡ Ok p) × IsCut b (view_by b r) p
view_found b (Ok q) p e h = view_cases b q p e h
view_found b (Err f) p e h = refused (sym e ∙ no_view b f p h)
  where
    refused : {Z : Type 0} → Err f ≡ is_prefix p → Z
    refused i = cc

-- a view that says something says what the bytes say
pub header_view_found : (b : List ℕ) (p : Prefix) → prefix_at (header_view b) ≡ Ok p → (prefix_at b ≡ Ok p) × IsCut b (header_view b) p
header_view_found b p h =
    subst (λ (v : List ℕ). (prefix_at b ≡ Ok p) × IsCut b v p) (sym (view_is b))
    (view_found b (prefix_at b) p refl (ap (λ (xs : List ℕ). prefix_at xs) (sym (view_is b)) ∙ h))

pub header_view_short : (b : List ℕ) (p : Prefix) → prefix_at b ≡ Ok p → p.total ≤ 512 → header_view b ≡ take p.total b
unfolding view_by
header_view_short b p e short =
    view_is b ∙ ap (λ (r : Result Prefix HeaderError). view_by b r) e
    ∙ ap (λ (t : Bool). cond t (b ++ zeros (512 - length b)) (take p.total b)) (le-ltb 512 p.total short)

-- ---- What counts of a look at the root header

abbrev pub IsRootView : List ℕ → List ℕ → Prefix → Type 0
IsRootView b view p = (512 < p.total) × (view ≡ b) ⊎ (p.total ≤ 512) × (view ≡ take p.total b)

pub root_by : List ℕ → Result Prefix HeaderError → List ℕ
root_by b r = elim r [ Ok p ↦ cond (nat_lt 512 p.total) b (header_view b) | Err e ↦ header_view b ]

pub root_is : (b : List ℕ) → root_view b ≡ root_by b (prefix_at b)
unfolding root_by
root_is b = refl

pub root_says : (b : List ℕ) (p : Prefix) → prefix_at b ≡ Ok p → IsRootView b (root_by b (Ok p)) p
unfolding root_by
root_says b p e = go (cases_lt 512 p.total)
  where
    go : (512 < p.total) ⊎ (p.total ≤ 512) → IsRootView b (root_by b (Ok p)) p
    go (inl l) = inl (l, ap (λ (t : Bool). cond t b (header_view b)) (lt-ltb 512 p.total l))
    go (inr l) = inr (l, ap (λ (t : Bool). cond t b (header_view b)) (le-ltb 512 p.total l) ∙ header_view_short b p e l)

pub root_view_says : (b : List ℕ) (p : Prefix) → prefix_at b ≡ Ok p → IsRootView b (root_view b) p
root_view_says b p e = subst (λ (v : List ℕ). IsRootView b v p) (sym (root_is b ∙ ap (λ (r : Result Prefix HeaderError). root_by b r) e)) (root_says b p e)

-- a view that says something says what the bytes say
pub root_whole : (b : List ℕ) (r : Result Prefix HeaderError) (p : Prefix) → prefix_at b ≡ r → prefix_at (root_by b r) ≡ Ok p → prefix_at b ≡ Ok p
unfolding root_by
root_whole b (Err e) p is h = (header_view_found b p h).0
root_whole b (Ok q) p is h = go (cases_lt 512 q.total)
  where
    go : (512 < q.total) ⊎ (q.total ≤ 512) → prefix_at b ≡ Ok p
    go (inl l) = ap (λ (t : Bool). prefix_at (cond t b (header_view b))) (sym (lt-ltb 512 q.total l)) ∙ h
    go (inr l) = (header_view_found b p (ap (λ (t : Bool). prefix_at (cond t b (header_view b))) (sym (le-ltb 512 q.total l)) ∙ h)).0

pub root_view_found : (b : List ℕ) (p : Prefix) → prefix_at (root_view b) ≡ Ok p → prefix_at b ≡ Ok p
root_view_found b p h = root_whole b (prefix_at b) p refl (ap (λ (xs : List ℕ). prefix_at xs) (sym (root_is b)) ∙ h)
