-- Records with what is under the children around them.
use Rattle.std.proofs.Common.{◌≡◌, ℕ, zero, suc, ◌+◌, ◌<◌, ◌≤◌, List, [], ◌∷◌, ◌++◌, length, take, drop, get_or, set, refl, sym, ap, subst, ◌∙◌, arith, Option, Some, None, slice_get, append_assoc, length-append, insert, sum_by}
use Rattle.std.proofs.lemmas.List.Sums.{sum_by-cons}
use Rattle.std.proofs.lemmas.List.Elements.{All-cons, All-nil}
use Rattle.std.specs.List.{All}
use Rattle.h5w_model.specs.declared.cell.Key.{Key}
use Rattle.h5w_bt.specs.declared.records.Record.{Record}
use Rattle.h5w_bt.proofs.KeyLemmas.{equal-is}
use Rattle.h5w_bt_nodes.specs.Nodes.{rank, address_in, joined}
use Rattle.h5w_bt_nodes.specs.Puts.{put_record, changed_at}
use Rattle.h5w_bt_index.specs.Sound.{IsRising}
use Rattle.h5w_bt_nodes.proofs.Records.{under, here, past, side, put-under, put-here, in-under, in-here, in-past, rank-under, rank-not_under, none_is_not_some}
use Rattle.h5w_bt_index.proofs.Rising.{AreBelow, below_all, put-behind, put-before, in-behind, in-before, rises-around}

-- ---- A record that is among those of the node, or not

pub joined-put_here : (x : Record) (a : ℕ) (rs : List Record) (cs : List (List Record)) → length cs ≡ length rs + 1 → IsRising (joined rs cs) →
    address_in x.key rs ≡ Some a → put_record x (joined rs cs) ≡ joined (put_record x rs) cs
joined-put_here x a [] cs n h e = absurd (none_is_not_some a (sym e))
joined-put_here x a (r ∷ rs) [] n h e = absurd (omega arith)
joined-put_here x a (r ∷ rs) (c ∷ cs) n h e =
    let p = rises-around c r (joined rs cs) h in
    elim (side r.key x.key) [
      | under u ↦
          put-behind x c (r ∷ joined rs cs) (below_all r.key x.key c u p.below)
          ∙ ap (λ (l : List Record). c ++ l) (put-under x r (joined rs cs) u ∙ ap (λ (l : List Record). r ∷ l)
          (joined-put_here x a rs cs (omega (arith, n)) p.behind (sym (in-under x.key r rs u) ∙ e)))
          ∙ ap (λ (l : List Record). joined l (c ∷ cs)) (sym (put-under x r rs u))
      | here u f ↦
          put-behind x c (r ∷ joined rs cs) (subst (λ (k : Key). AreBelow k c) (equal-is r.key x.key f) p.below)
          ∙ ap (λ (l : List Record). c ++ l) (put-here x r (joined rs cs) u f)
          ∙ ap (λ (l : List Record). joined l (c ∷ cs)) (sym (put-here x r rs u f))
      | past u f ↦ absurd (none_is_not_some a (sym e ∙ in-past x.key r rs u f))
    ]

pub joined-put_below : (x : Record) (rs : List Record) (cs : List (List Record)) → length cs ≡ length rs + 1 → IsRising (joined rs cs) →
    address_in x.key rs ≡ None → put_record x (joined rs cs) ≡ joined rs (changed_at (rank x.key rs) (put_record x) cs)
joined-put_below x [] [] n h e = absurd (omega arith)
joined-put_below x [] (c ∷ cs) n h e = refl
joined-put_below x (r ∷ rs) [] n h e = absurd (omega arith)
joined-put_below x (r ∷ rs) (c ∷ cs) n h e =
    let p = rises-around c r (joined rs cs) h in
    elim (side r.key x.key) [
      | under u ↦
          put-behind x c (r ∷ joined rs cs) (below_all r.key x.key c u p.below)
          ∙ ap (λ (l : List Record). c ++ l) (put-under x r (joined rs cs) u ∙ ap (λ (l : List Record). r ∷ l)
          (joined-put_below x rs cs (omega (arith, n)) p.behind (sym (in-under x.key r rs u) ∙ e)))
          ∙ ap (λ (k : ℕ). joined (r ∷ rs) (changed_at k (put_record x) (c ∷ cs))) (sym (rank-under x.key r rs u))
      | here u f ↦ absurd (none_is_not_some r.address (sym (in-here x.key r rs u f) ∙ e))
      | past u f ↦
          put-before x r c (joined rs cs) u f
          ∙ ap (λ (k : ℕ). joined (r ∷ rs) (changed_at k (put_record x) (c ∷ cs))) (sym (rank-not_under x.key r rs u))
    ]

pub joined-finds_here : (key : Key) (a : ℕ) (rs : List Record) (cs : List (List Record)) → length cs ≡ length rs + 1 → IsRising (joined rs cs) →
    address_in key rs ≡ Some a → address_in key (joined rs cs) ≡ Some a
joined-finds_here key a [] cs n h e = absurd (none_is_not_some a (sym e))
joined-finds_here key a (r ∷ rs) [] n h e = absurd (omega arith)
joined-finds_here key a (r ∷ rs) (c ∷ cs) n h e =
    let p = rises-around c r (joined rs cs) h in
    elim (side r.key key) [
      | under u ↦
          in-behind key c (r ∷ joined rs cs) (below_all r.key key c u p.below)
          ∙ in-under key r (joined rs cs) u
          ∙ joined-finds_here key a rs cs (omega (arith, n)) p.behind (sym (in-under key r rs u) ∙ e)
      | here u f ↦
          in-behind key c (r ∷ joined rs cs) (subst (λ (k : Key). AreBelow k c) (equal-is r.key key f) p.below)
          ∙ in-here key r (joined rs cs) u f
          ∙ sym (in-here key r rs u f)
          ∙ e
      | past u f ↦ absurd (none_is_not_some a (sym e ∙ in-past key r rs u f))
    ]

-- what is found in the list at a place
abbrev pub found_at : Key → List (List Record) → ℕ → Option ℕ
found_at key cs i = elim (slice_get cs i) [ None ↦ None | Some c ↦ address_in key c ]

pub joined-finds_below : (key : Key) (rs : List Record) (cs : List (List Record)) → length cs ≡ length rs + 1 → IsRising (joined rs cs) →
    address_in key rs ≡ None → address_in key (joined rs cs) ≡ found_at key cs (rank key rs)
joined-finds_below key [] [] n h e = absurd (omega arith)
joined-finds_below key [] (c ∷ cs) n h e = refl
joined-finds_below key (r ∷ rs) [] n h e = absurd (omega arith)
joined-finds_below key (r ∷ rs) (c ∷ cs) n h e =
    let p = rises-around c r (joined rs cs) h in
    elim (side r.key key) [
      | under u ↦
          in-behind key c (r ∷ joined rs cs) (below_all r.key key c u p.below)
          ∙ in-under key r (joined rs cs) u
          ∙ joined-finds_below key rs cs (omega (arith, n)) p.behind (sym (in-under key r rs u) ∙ e)
          ∙ ap (λ (k : ℕ). found_at key (c ∷ cs) k) (sym (rank-under key r rs u))
      | here u f ↦ absurd (none_is_not_some r.address (sym (in-here key r rs u f) ∙ e))
      | past u f ↦
          in-before key r c (joined rs cs) u f
          ∙ ap (λ (k : ℕ). found_at key (c ∷ cs) k) (sym (rank-not_under key r rs u))
    ]

-- what is under each child rises
pub joined-each_rises : (rs : List Record) (cs : List (List Record)) → length cs ≡ length rs + 1 → IsRising (joined rs cs) → All IsRising cs
joined-each_rises [] [] n h = All-nil IsRising
joined-each_rises [] (c ∷ []) n h = All-cons IsRising c [] h (All-nil IsRising)
joined-each_rises [] (c ∷ d ∷ cs) n h = absurd (omega arith)
joined-each_rises (r ∷ rs) [] n h = absurd (omega arith)
joined-each_rises (r ∷ rs) (c ∷ cs) n h =
    let p = rises-around c r (joined rs cs) h in
    All-cons IsRising c cs p.before (joined-each_rises rs cs (omega (arith, n)) p.behind)

-- ---- Divisions

some_is : (b c : List Record) → Some b ≡ Some c → b ≡ c
some_is b c e = cc

-- the list at a place is in two parts around a record
pub joined-divided : (rs : List Record) (cs : List (List Record)) (i : ℕ) (m : Record) (left right c : List Record) → slice_get cs i ≡ Some c →
    i ≤ length rs → c ≡ left ++ m ∷ right → joined (insert rs i m) (insert (set cs i left) (suc i) right) ≡ joined rs cs
joined-divided rs [] i m left right c e n d = absurd (nothing_there c e)
  where
    nothing_there : (c : List Record) → None ≡ Some c → ⊥
    nothing_there c e = cc
joined-divided [] (b ∷ []) zero m left right c e n d = sym (some_is b c e ∙ d)
joined-divided [] (b ∷ a ∷ cs) zero m left right c e n d = sym (some_is b c e ∙ d)
joined-divided (r ∷ rs) (b ∷ cs) zero m left right c e n d =
    sym (append_assoc left (m ∷ right) (r ∷ joined rs cs)) ∙ ap (λ (l : List Record). l ++ r ∷ joined rs cs) (sym (some_is b c e ∙ d))
joined-divided [] (b ∷ cs) (suc i) m left right c e n d = absurd (omega arith)
joined-divided (r ∷ rs) (b ∷ cs) (suc i) m left right c e n d = ap (λ (l : List Record). b ++ r ∷ l) (joined-divided rs cs i m left right c e (omega (arith, n)) d)

-- lists cut at a record
pub joined-cut : (rs : List Record) (cs : List (List Record)) (k : ℕ) (x : Record) → length cs ≡ length rs + 1 → k < length rs →
    joined rs cs ≡ joined (take k rs) (take (suc k) cs) ++ get_or rs k x ∷ joined (drop (suc k) rs) (drop (suc k) cs)
joined-cut [] cs k x n lt = absurd (omega arith)
joined-cut (r ∷ rs) [] k x n lt = absurd (omega arith)
joined-cut (r ∷ rs) (c ∷ cs) zero x n lt = refl
joined-cut (r ∷ rs) (c ∷ cs) (suc k) x n lt =
    ap (λ (l : List Record). c ++ r ∷ l) (joined-cut rs cs k x (omega (arith, n)) (omega (arith, lt))) ∙ sym (append_assoc c (r ∷ joined (take k rs) (take (suc k) cs)) _)

-- how many there are
pub length-joined : (rs : List Record) (cs : List (List Record)) → length cs ≡ length rs + 1 → length (joined rs cs) ≡ length rs + sum_by length cs
length-joined [] [] n = absurd (omega arith)
length-joined [] (c ∷ []) n = omega arith
length-joined [] (c ∷ d ∷ cs) n = absurd (omega arith)
length-joined (r ∷ rs) [] n = absurd (omega arith)
length-joined (r ∷ rs) (c ∷ cs) n =
    let ih = length-joined rs cs (omega (arith, n)) in
    omega (arith, length-append c (r ∷ joined rs cs), ih, sum_by-cons (length {A = Record}) c cs)
