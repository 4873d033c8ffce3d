-- Records by rising key: what a record put among them leaves, and what is found.
use Rattle.std.proofs.Common.{◌≡◌, true, false, List, [], ◌∷◌, ◌++◌, refl, sym, ap, subst, ◌∙◌, Some}
use Rattle.std.proofs.lemmas.Bool.{both_ways}
use Rattle.std.proofs.lemmas.List.Elements.{All-cons, All-head, All-tail, All-nil}
use Rattle.std.specs.List.{All}
use Rattle.h5w_model.specs.declared.cell.Key.{Key}
use Rattle.h5w_model.specs.Tables.{key_below, key_equal}
use Rattle.h5w_bt.specs.declared.records.Record.{Record}
use Rattle.h5w_bt.proofs.KeyLemmas.{below-trans, below-not_back, equal-is, equal-self, below-not_self, above-not_equal, above-from}
use Rattle.h5w_bt_nodes.specs.Nodes.{address_in}
use Rattle.h5w_bt_nodes.specs.Puts.{put_record}
use Rattle.h5w_bt_index.specs.Sound.{IsRising}
use Rattle.h5w_bt_nodes.proofs.Records.{here, in-here, in-past, in-under, past, put-here, put-past, put-under, side, under}

-- each is below the key; each is above it
abbrev pub Under : Key → Record → Type 0
Under key s = key_below s.key key ≡ true

abbrev pub Over : Key → Record → Type 0
Over key s = key_below key s.key ≡ true

abbrev pub AreBelow : Key → List Record → Type 0
AreBelow key rs = All (Under key) rs

abbrev pub AreAbove : Key → List Record → Type 0
AreAbove key rs = All (Over key) rs

-- ---- Behind what is below

pub put-behind : (x : Record) (c rest : List Record) → AreBelow x.key c → put_record x (c ++ rest) ≡ c ++ put_record x rest
put-behind x [] rest h = refl
put-behind x (s ∷ c) rest h =
    put-under x s (c ++ rest) (All-head (Under x.key) s c h) ∙ ap (λ (l : List Record). s ∷ l) (put-behind x c rest (All-tail (Under x.key) s c h))

pub in-behind : (key : Key) (c rest : List Record) → AreBelow key c → address_in key (c ++ rest) ≡ address_in key rest
in-behind key [] rest h = refl
in-behind key (s ∷ c) rest h = in-under key s (c ++ rest) (All-head (Under key) s c h) ∙ in-behind key c rest (All-tail (Under key) s c h)

-- ---- Before what is above

pub put-before : (x r : Record) (c rest : List Record) → key_below r.key x.key ≡ false → key_equal r.key x.key ≡ false →
    put_record x (c ++ r ∷ rest) ≡ put_record x c ++ r ∷ rest
put-before x r [] rest b e = put-past x r rest b e
put-before x r (s ∷ c) rest b e = elim (side s.key x.key) [
  | under u ↦ put-under x s (c ++ r ∷ rest) u ∙ ap (λ (l : List Record). s ∷ l) (put-before x r c rest b e)
      ∙ ap (λ (l : List Record). l ++ r ∷ rest) (sym (put-under x s c u))
  | here u f ↦ put-here x s (c ++ r ∷ rest) u f ∙ ap (λ (l : List Record). l ++ r ∷ rest) (sym (put-here x s c u f))
  | past u f ↦ put-past x s (c ++ r ∷ rest) u f ∙ ap (λ (l : List Record). l ++ r ∷ rest) (sym (put-past x s c u f))
]

pub in-before : (key : Key) (r : Record) (c rest : List Record) → key_below r.key key ≡ false → key_equal r.key key ≡ false →
    address_in key (c ++ r ∷ rest) ≡ address_in key c
in-before key r [] rest b e = in-past key r rest b e
in-before key r (s ∷ c) rest b e = elim (side s.key key) [
  | under u ↦ in-under key s (c ++ r ∷ rest) u ∙ in-before key r c rest b e ∙ sym (in-under key s c u)
  | here u f ↦ in-here key s (c ++ r ∷ rest) u f ∙ sym (in-here key s c u f)
  | past u f ↦ in-past key s (c ++ r ∷ rest) u f ∙ sym (in-past key s c u f)
]

-- ---- Rising records

pub above_all : (key low : Key) (rs : List Record) → key_below low key ≡ true → AreAbove key rs → AreAbove low rs
above_all key low [] b h = All-nil (Over low)
above_all key low (r ∷ rs) b h =
    All-cons (Over low) r rs (below-trans low key r.key b (All-head (Over key) r rs h)) (above_all key low rs b (All-tail (Over key) r rs h))

pub below_all : (key high : Key) (rs : List Record) → key_below key high ≡ true → AreBelow key rs → AreBelow high rs
below_all key high [] b h = All-nil (Under high)
below_all key high (r ∷ rs) b h =
    All-cons (Under high) r rs (below-trans r.key key high (All-head (Under key) r rs h) b) (below_all key high rs b (All-tail (Under key) r rs h))

all_right : (P : Record → Type 0) (c rest : List Record) → All P (c ++ rest) → All P rest
all_right P [] rest h = h
all_right P (s ∷ c) rest h = all_right P c rest (All-tail P s (c ++ rest) h)

all_left : (P : Record → Type 0) (c rest : List Record) → All P (c ++ rest) → All P c
all_left P [] rest h = All-nil P
all_left P (s ∷ c) rest h = All-cons P s c (All-head P s (c ++ rest) h) (all_left P c rest (All-tail P s (c ++ rest) h))

-- what is before a record, and what is behind it
pub record RisesAround (c : List Record) (r : Record) (rest : List Record) : Type 0 where
  pub before : IsRising c
  pub below : AreBelow r.key c
  pub above : AreAbove r.key rest
  pub behind : IsRising rest

pub rises-around : (c : List Record) (r : Record) (rest : List Record) → IsRising (c ++ r ∷ rest) → RisesAround c r rest
rises-around [] r rest h = record { before = tt; below = All-nil (Under r.key); above = h.0; behind = h.1 }
rises-around (s ∷ c) r rest h =
    let p = rises-around c r rest (h.1) in
    record {
      before = (all_left (Over s.key) c (r ∷ rest) (h.0), p.before);
      below = All-cons (Under r.key) s c (All-head (Over s.key) r rest (all_right (Over s.key) c (r ∷ rest) (h.0))) p.below;
      above = p.above;
      behind = p.behind;
    }

put_above : (x : Record) (low : Key) (rs : List Record) → key_below low x.key ≡ true → AreAbove low rs → AreAbove low (put_record x rs)
put_above x low [] b h = All-cons (Over low) x [] b h
put_above x low (r ∷ rs) b h = elim (side r.key x.key) [
  | under u ↦ subst (AreAbove low) (sym (put-under x r rs u)) (All-cons (Over low) r (put_record x rs) (All-head (Over low) r rs h) (put_above x low rs b (All-tail (Over low) r rs h)))
  | here u f ↦ subst (AreAbove low) (sym (put-here x r rs u f)) (All-cons (Over low) x rs b (All-tail (Over low) r rs h))
  | past u f ↦ subst (AreAbove low) (sym (put-past x r rs u f)) (All-cons (Over low) x (r ∷ rs) b h)
]

pub put-rises : (x : Record) (rs : List Record) → IsRising rs → IsRising (put_record x rs)
put-rises x [] h = (All-nil (Over x.key), tt)
put-rises x (r ∷ rs) h = elim (side r.key x.key) [
  | under u ↦ subst IsRising (sym (put-under x r rs u)) (put_above x r.key rs u (h.0), put-rises x rs (h.1))
  | here u f ↦ subst IsRising (sym (put-here x r rs u f)) (subst (λ (k : Key). AreAbove k rs) (equal-is r.key x.key f) (h.0), h.1)
  | past u f ↦ (let b : key_below x.key r.key ≡ true = above-from r.key x.key u f in
      subst IsRising (sym (put-past x r rs u f)) (All-cons (Over x.key) r rs b (above_all r.key x.key rs b (h.0)), h))
]

-- ---- The map

pub put-finds_same : (x : Record) (rs : List Record) → address_in x.key (put_record x rs) ≡ Some x.address
put-finds_same x [] = in-here x.key x [] (below-not_self x.key) (equal-self x.key)
put-finds_same x (r ∷ rs) = elim (side r.key x.key) [
  | under u ↦ ap (address_in x.key) (put-under x r rs u) ∙ in-under x.key r (put_record x rs) u ∙ put-finds_same x rs
  | here u f ↦ ap (address_in x.key) (put-here x r rs u f) ∙ in-here x.key x rs (below-not_self x.key) (equal-self x.key)
  | past u f ↦ ap (address_in x.key) (put-past x r rs u f) ∙ in-here x.key x (r ∷ rs) (below-not_self x.key) (equal-self x.key)
]

pub put-finds_other : (x : Record) (key : Key) (rs : List Record) → key_equal x.key key ≡ false → address_in key (put_record x rs) ≡ address_in key rs
put-finds_other x key [] n = elim (side x.key key) [
  | under v ↦ in-under key x [] v
  | here v g ↦ absurd (both_ways (key_equal x.key key) n g)
  | past v g ↦ in-past key x [] v g
]
put-finds_other x key (r ∷ rs) n = elim (side r.key x.key) [
  | under u ↦ ap (address_in key) (put-under x r rs u) ∙ elim (side r.key key) [
    | under v ↦ in-under key r (put_record x rs) v ∙ put-finds_other x key rs n ∙ sym (in-under key r rs v)
    | here v g ↦ in-here key r (put_record x rs) v g ∙ sym (in-here key r rs v g)
    | past v g ↦ in-past key r (put_record x rs) v g ∙ sym (in-past key r rs v g)
  ]
  | here u f ↦ ap (address_in key) (put-here x r rs u f) ∙ elim (side x.key key) [
    | under v ↦ in-under key x rs v ∙ sym (in-under key r rs (subst (λ (k : Key). key_below k key ≡ true) (sym (equal-is r.key x.key f)) v))
    | here v g ↦ absurd (both_ways (key_equal x.key key) n g)
    | past v g ↦ in-past key x rs v g ∙ sym (in-past key r rs
        (subst (λ (k : Key). key_below k key ≡ false) (sym (equal-is r.key x.key f)) v)
        (subst (λ (k : Key). key_equal k key ≡ false) (sym (equal-is r.key x.key f)) g))
  ]
  | past u f ↦ ap (address_in key) (put-past x r rs u f) ∙ elim (side x.key key) [
    | under v ↦ in-under key x (r ∷ rs) v
    | here v g ↦ absurd (both_ways (key_equal x.key key) n g)
    | past v g ↦ (let b : key_below key r.key ≡ true = below-trans key x.key r.key (above-from x.key key v g) (above-from r.key x.key u f) in
        in-past key x (r ∷ rs) v g ∙ sym (in-past key r rs (below-not_back key r.key b) (above-not_equal key r.key b)))
  ]
]
