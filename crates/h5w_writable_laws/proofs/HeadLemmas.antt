-- The messages of two headers whose bytes are the same but inside the data of two messages.
use Rattle.std.proofs.Common.{◌≡◌, ◌⊎◌, ℕ, zero, suc, ◌+◌, ◌-◌, ◌<◌, ◌≤◌, List, [], ◌∷◌, length, get_or, take, drop, Ok, refl, ap, sym, ◌∙◌, subst, inl, inr, arith}
use Rattle.std.proofs.lemmas.Grind.{same_number_lists}
use Rattle.h5w_model.specs.Numbers.{range}
use Rattle.h5w_model.specs.Headers.{continuation_kind, data_size, msg_at, msgs_in}
use Rattle.h5w_model.specs.declared.message.Msg.{Msg}
use Rattle.h5w_model.proofs.ImageLemmas.{get_or-range, length-range}
use Rattle.h5w_step_laws.proofs.NumberLemmas.{part_of, rest_of}
use Rattle.h5w_step_laws.proofs.WalkLemmas.{IsAmong, SameHead, Stepped, all_from, gap, no_fuel, one, same_head, same_messages, stepped}

-- ---- Bytes

-- from a place up to an end the bytes are the same
abbrev pub SameBytes : List ℕ → List ℕ → ℕ → ℕ → Type 0
SameBytes b c from to = (k : ℕ) → from ≤ k → k < to → get_or c k 0 ≡ get_or b k 0

pub range_same : (b c : List ℕ) (a n : ℕ) → length c ≡ length b → SameBytes b c a (a + n) → range c a n ≡ range b a n
range_same b c a n long h =
    let l = length-range c a n in
    let r = length-range b a n in
    same_number_lists (range c a n) (range b a n) (omega (arith, l, r, long))
    (λ k low. get_or-range c a n k (omega (arith, l, low)) ∙ h (a + k) (omega arith) (omega (arith, l, low)) ∙ sym (get_or-range b a n k (omega (arith, l, low))))

-- ---- Two messages of one list

-- the bytes of one message end where those of the other begin, or before
abbrev pub ApartMessages : ℕ → Msg → Msg → Type 0
ApartMessages before x y = (x.at + before + length x.body ≤ y.at) ⊎ (y.at + before + length y.body ≤ x.at)

abbrev pub AreOne : ℕ → List Msg → Type 0
AreOne before ms = (x y : Msg) → IsAmong x ms → IsAmong y ms → (x ≡ y) ⊎ ApartMessages before x y

apart_step : (b : List ℕ) (before fuel place n : ℕ) (ms : List Msg) → place + n ≤ length b
    → ((at m : ℕ) (rest : List Msg) → at + m ≤ length b → msgs_in fuel before at (range b at m) ≡ Ok rest → AreOne before rest)
    → Stepped before place (range b place n) fuel ms → AreOne before ms
apart_step b before fuel place n ms fits behind (gap short e) = subst (AreOne before) (sym e) (λ x y a c. absurd a)
apart_step b before fuel place n ms fits behind (one rest long ends inside h e) =
    let c = range b place n in
    let size = data_size c in
    let next = before + size in
    let m = msg_at before place c in
    let whole = length-range b place n in
    let body = length-range c before size in
    let low : next ≤ n = omega (arith, whole, inside) in
    let read : msgs_in fuel before (place + next) (range b (place + next) (n - next)) ≡ Ok rest = ap (msgs_in fuel before (place + next)) (sym (rest_of b place n next low)) ∙ h in
    let later = all_from b before fuel (place + next) (n - next) rest (omega (arith, low, fits)) read in
    let apart = behind (place + next) (n - next) rest (omega (arith, low, fits)) read in
    subst (AreOne before) (sym e)
    (λ x y a d. elim a [
      | inl is ↦ elim d [
        | inl also ↦ inl (sym is ∙ also)
        | inr there ↦
            let from = (later y there).from in
            inr (inl (subst (λ (z : Msg). z.at + before + length z.body ≤ y.at) is (omega (arith, body, from))))
      ]
      | inr here ↦ elim d [
        | inl also ↦
            let from = (later x here).from in
            inr (inr (subst (λ (z : Msg). z.at + before + length z.body ≤ x.at) also (omega (arith, body, from))))
        | inr there ↦ apart x y here there
      ]
    ])

pub apart_messages : (b : List ℕ) (before fuel place n : ℕ) (ms : List Msg) → place + n ≤ length b → msgs_in fuel before place (range b place n) ≡ Ok ms → AreOne before ms
apart_messages b before zero place n ms fits h = subst (AreOne before) (sym (same_messages ms [] (sym h ∙ no_fuel before place (range b place n)))) (λ x y a c. absurd a)
apart_messages b before (suc fuel) place n ms fits h =
    apart_step b before fuel place n ms fits (λ at m rest. apart_messages b before fuel at m rest) (stepped fuel before place (range b place n) ms h)

-- ---- Messages that stay

-- kind and flags stay, and all of a continuation
pub record IsSame (m n : Msg) : Type 0 where
  pub kind : n.kind ≡ m.kind
  pub flags : n.flags ≡ m.flags
  pub block : m.kind ≡ continuation_kind → n.body ≡ m.body

abbrev pub AreSame : List Msg → List Msg → Type 0
AreSame [] [] = Unit {0}
AreSame (m ∷ ms) (n ∷ ns) = IsSame m n × AreSame ms ns
AreSame [] (n ∷ ns) = ⊥
AreSame (m ∷ ms) [] = ⊥

-- what stands before a message's data is the same, and so are the data of a continuation
pub record IsLeft (b c : List ℕ) (before : ℕ) (x : Msg) : Type 0 where
  pub head : SameBytes b c x.at (x.at + 4)
  pub block : x.kind ≡ continuation_kind → SameBytes b c (x.at + before) (x.at + before + length x.body)

abbrev pub AreLeft : List ℕ → List ℕ → ℕ → List Msg → Type 0
AreLeft b c before ms = (x : Msg) → IsAmong x ms → IsLeft b c before x

same_step : (b c : List ℕ) (before fuel place n : ℕ) (ms ns : List Msg) → 4 ≤ before → place + n ≤ length b → length c ≡ length b
    → ((at m : ℕ) (xs ys : List Msg) → at + m ≤ length b → msgs_in fuel before at (range b at m) ≡ Ok xs → msgs_in fuel before at (range c at m) ≡ Ok ys → AreLeft b c before xs → AreSame xs ys)
    → AreLeft b c before ms → Stepped before place (range b place n) fuel ms → Stepped before place (range c place n) fuel ns → AreSame ms ns
same_step b c before fuel place n ms ns enough fits long behind left (gap short e) (gap also f) = subst (λ xs. AreSame xs ns) (sym e) (subst (λ ys. AreSame [] ys) (sym f) tt)
same_step b c before fuel place n ms ns enough fits long behind left (gap short e) (one rest wide ends inside h f) =
    let l = length-range c place n in
    let r = length-range b place n in
    absurd (omega (arith, l, r, long, short, wide))
same_step b c before fuel place n ms ns enough fits long behind left (one rest wide ends inside h e) (gap short f) =
    let l = length-range c place n in
    let r = length-range b place n in
    absurd (omega (arith, l, r, long, short, wide))
same_step b c before fuel place n ms ns enough fits long behind left (one rest wide ends inside h e) (one others broad over within g f) =
    let d = range b place n in
    let q = range c place n in
    let l = length-range c place n in
    let r = length-range b place n in
    let size = data_size d in
    let next = before + size in
    let m = msg_at before place d in
    let body = length-range d before size in
    let here : IsLeft b c before m = left m (subst (λ xs. IsAmong m xs) (sym e) (inl refl)) in
    let whole : length q ≡ length d = omega (arith, l, r, long) in
    let front : take 4 q ≡ take 4 d =
    part_of c place n 0 4 (omega (arith, r, wide, enough))
    ∙ range_same b c (place + 0) 4 long (λ k a z. here.head k (omega (arith, a)) (omega (arith, z)))
    ∙ sym (part_of b place n 0 4 (omega (arith, r, wide, enough))) in
    let head : SameHead d q = same_head d q front whole in
    let low : next ≤ n = omega (arith, r, inside) in
    let kept_body : m.kind ≡ continuation_kind → range q before (data_size q) ≡ range d before size = λ is.
    ap (λ s. range q before s) head.size
    ∙ part_of c place n before size low
    ∙ range_same b c (place + before) size long (λ k a z. here.block is k a (omega (arith, z, body, inside)))
    ∙ sym (part_of b place n before size low) in
    let first : IsSame m (msg_at before place q) = record { kind = head.kind; flags = head.flags; block = kept_body } in
    let next_same : before + data_size q ≡ next = ap (λ s. before + s) head.size in
    let read : msgs_in fuel before (place + next) (range b (place + next) (n - next)) ≡ Ok rest = ap (msgs_in fuel before (place + next)) (sym (rest_of b place n next low)) ∙ h in
    let again : msgs_in fuel before (place + next) (range c (place + next) (n - next)) ≡ Ok others =
    ap (msgs_in fuel before (place + next)) (sym (rest_of c place n next low)) ∙ sym (ap (λ s. msgs_in fuel before (place + s) (drop s q)) next_same) ∙ g in
    let later = behind (place + next) (n - next) rest others (omega (arith, low, fits)) read again (λ x a. left x (subst (λ xs. IsAmong x xs) (sym e) (inr a))) in
    subst (λ xs. AreSame xs ns) (sym e) (subst (λ ys. AreSame (m ∷ rest) ys) (sym f) (first, later))

pub same_kept : (b c : List ℕ) (before fuel place n : ℕ) (ms ns : List Msg) → 4 ≤ before → place + n ≤ length b → length c ≡ length b
    → msgs_in fuel before place (range b place n) ≡ Ok ms → msgs_in fuel before place (range c place n) ≡ Ok ns → AreLeft b c before ms → AreSame ms ns
same_kept b c before zero place n ms ns enough fits long h g left =
    subst (λ xs. AreSame xs ns) (sym (same_messages ms [] (sym h ∙ no_fuel before place (range b place n))))
    (subst (λ ys. AreSame [] ys) (sym (same_messages ns [] (sym g ∙ no_fuel before place (range c place n)))) tt)
same_kept b c before (suc fuel) place n ms ns enough fits long h g left =
    same_step b c before fuel place n ms ns enough fits long (λ at m xs ys inside r s some. same_kept b c before fuel at m xs ys enough inside long r s some) left
    (stepped fuel before place (range b place n) ms h) (stepped fuel before place (range c place n) ns g)
