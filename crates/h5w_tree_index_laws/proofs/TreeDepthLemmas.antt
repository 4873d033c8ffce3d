-- How many records a tree has, by its depth and by their keys.
use Rattle.std.proofs.Common.{◌≡◌, ◌⊎◌, ℕ, zero, suc, ◌+◌, ◌*◌, ◌<◌, ◌≤◌, true, ◌&&◌, eqb, List, [], ◌∷◌, length, map, None, sym, ap, ◌∙◌, subst, inl, inr, arith, sum_by}
use Rattle.std.specs.List.{All}
use Rattle.std.proofs.lemmas.Bool.{and_parts, eqb-true}
use Rattle.std.proofs.lemmas.List.{length-map}
use Rattle.std.proofs.lemmas.List.Elements.{All-cons, All-head, All-nil, All-tail}
use Rattle.std.proofs.lemmas.List.Sums.{sum_by-cons}
use Rattle.std.proofs.lemmas.Nat.{mul-le}
use Rattle.h5w_model.specs.Tables.{key_below}
use Rattle.h5w_model.specs.Trees.{capacity_of}
use Rattle.h5w_model.specs.declared.cell.Key.{Key}
use Rattle.h5w_bt.specs.declared.records.Record.{Record}
use Rattle.h5w_bt.proofs.KeyLemmas.{equal-self, below-not_self, below_is}
use Rattle.h5w_bt_nodes.specs.Nodes.{Tree, address_in, all_records, records_of}
use Rattle.h5w_bt_nodes.specs.Puts.{is_full_path}
use Rattle.h5w_bt_index.specs.Sound.{AtLeast, IsRising, IsSound, two_fifths}
use Rattle.h5w_bt_index.specs.Index.{records}
use Rattle.h5w_bt_index.proofs.Joined.{length-joined}
use Rattle.h5w_bt_nodes.proofs.Records.{in-here, in-under, none_is_not_some}
use Rattle.h5w_tree_index_laws.specs.TreeDepths.{DeepIsMany, WithinIsFew}

-- ---- How many records are under a node at least

abbrev least_under : ℕ → ℕ → ℕ
least_under zero n = n
least_under (suc d) n = n + (n + 1) * least_under d (two_fifths d)

each_least : (d n : ℕ) (cs : List (Tree d)) → ((c : Tree d) → IsSound d (capacity_of d) c → AtLeast two_fifths d (two_fifths d) c → n ≤ length (all_records d c)) → All (IsSound d (capacity_of d)) cs → All (AtLeast two_fifths d (two_fifths d)) cs
    → length cs * n ≤ sum_by length (map (all_records d) cs)
each_least d n [] k s l = omega arith
each_least d n (c ∷ cs) k s l =
    let first = k c (All-head (IsSound d (capacity_of d)) c cs s) (All-head (AtLeast two_fifths d (two_fifths d)) c cs l) in
    let rest = each_least d n cs k (All-tail (IsSound d (capacity_of d)) c cs s) (All-tail (AtLeast two_fifths d (two_fifths d)) c cs l) in
    let product : suc (length cs) * n ≡ n + length cs * n = grind arith in
    omega (arith, first, rest, product, sum_by-cons (length {A = Record}) (all_records d c) (map (all_records d) cs))

least_records : (d m n : ℕ) (t : Tree d) → IsSound d m t → AtLeast two_fifths d n t → least_under d n ≤ length (all_records d t)
least_records zero m n t s l = l
least_records (suc d) m n t s l =
    let low : ℕ = least_under d (two_fifths d) in
    let each = each_least d low t.children (λ c. least_records d (capacity_of d) (two_fifths d) c) s.each l.1 in
    let all = length-joined t.records (map (all_records d) t.children) (length-map t.children (all_records d) ∙ s.children) in
    let more : (n + 1) * low ≤ length t.children * low = mul-le (n + 1) low (length t.children) low (omega (arith, l.0, s.children)) (omega arith) in
    by_parts (length (all_records (suc d) t)) (length t.records) (sum_by length (map (all_records d) t.children)) (length t.children * low) n ((n + 1) * low) all each more l.0
  where
    by_parts : (whole own below each n m : ℕ) → whole ≡ own + below → each ≤ below → m ≤ each → n ≤ own → n + m ≤ whole
    by_parts whole own below each n m e f g h = omega (arith, e, f, g, h)

-- a node on whose way each is full is full
full_root : (d : ℕ) (key : Key) (t : Tree d) → is_full_path d key t ≡ true → length (records_of d t) ≡ capacity_of d
full_root zero key t e = eqb-true (length t.records) (capacity_of zero) e
full_root (suc d) key t e = eqb-true (length t.records) (capacity_of (suc d)) (and_parts (eqb (length t.records) (capacity_of (suc d))) _ e).0

own_least : (d m n : ℕ) (t : Tree d) → AtLeast two_fifths d m t → n ≤ length (records_of d t) → AtLeast two_fifths d n t
own_least zero m n t l h = h
own_least (suc d) m n t l h = (h, l.1)

pub deep_is_many : DeepIsMany
deep_is_many v key i h deep =
    let full = full_root v.depth key v.root deep.full in
    let least = own_least v.depth 0 (capacity_of v.depth) v.root h (omega (arith, full)) in
    let most : least_under v.depth (capacity_of v.depth) ≤ length (records v) = least_records v.depth (capacity_of v.depth) (capacity_of v.depth) v.root i.sound least in
    let all : 1114349 ≤ length (records v) = subst (λ (d : ℕ). least_under d (capacity_of d) ≤ length (records v)) deep.deepest most in
    all

-- ---- How many records there are at most

abbrev Within : ℕ → ℕ → Record → Type 0
Within bands across r = (r.key.i < bands) × (r.key.j < across)

-- the number of a key in rising order
abbrev number : ℕ → Key → ℕ
number across key = key.i * across + key.j

next_band : (i across : ℕ) → (i + 1) * across ≡ i * across + across
next_band i across = grind arith

number_inside : (bands across : ℕ) (r : Record) → Within bands across r → number across r.key + 1 ≤ bands * across
number_inside bands across r w =
    let most : (r.key.i + 1) * across ≤ bands * across = mul-le (r.key.i + 1) across bands across (omega (arith, w.0)) (omega arith) in
    let next = next_band r.key.i across in
    by_next (r.key.i * across) r.key.j across (bands * across) ((r.key.i + 1) * across) next most w.1
  where
    by_next : (low j across most next : ℕ) → next ≡ low + across → next ≤ most → j < across → low + j + 1 ≤ most
    by_next low j across most next e f h = omega (arith, e, f, h)

number_rises : (bands across : ℕ) (r s : Record) → Within bands across r → key_below r.key s.key ≡ true → number across r.key + 1 ≤ number across s.key
number_rises bands across r s w b = elim (below_is r.key s.key b) [
  | inl less ↦
      let most : (r.key.i + 1) * across ≤ s.key.i * across = mul-le (r.key.i + 1) across s.key.i across (omega (arith, less)) (omega arith) in
      by_next (r.key.i * across) r.key.j across (s.key.i * across) s.key.j ((r.key.i + 1) * across) (next_band r.key.i across) most w.1
  | inr same ↦ by_same (r.key.i * across) (s.key.i * across) r.key.j s.key.j (ap (λ (n : ℕ). n * across) same.0) same.1
]
  where
    by_next : (low j across high k next : ℕ) → next ≡ low + across → next ≤ high → j < across → low + j + 1 ≤ high + k
    by_next low j across high k next e f h = omega (arith, e, f, h)

    by_same : (low high j k : ℕ) → low ≡ high → j < k → low + j + 1 ≤ high + k
    by_same low high j k e h = omega (arith, e, h)

-- what holds of each of two kinds
all_both : {A : Type 0} (P Q R : A → Type 0) (xs : List A) → ((x : A) → P x → Q x → R x) → All P xs → All Q xs → All R xs
all_both P Q R [] k p q = All-nil R
all_both P Q R (x ∷ xs) k p q = All-cons R x xs (k x (All-head P x xs p) (All-head Q x xs q)) (all_both P Q R xs k (All-tail P x xs p) (All-tail Q x xs q))

rising_few : (bands across low : ℕ) (rs : List Record) → IsRising rs → All (Within bands across) rs → low ≤ bands * across → All (λ (r : Record). low ≤ number across r.key) rs → low + length rs ≤ bands * across
rising_few bands across low [] rises within some from = omega (arith, some)
rising_few bands across low (r ∷ rs) rises within some from =
    let w = All-head (Within bands across) r rs within in
    let later = All-tail (Within bands across) r rs within in
    let first = All-head (λ (s : Record). low ≤ number across s.key) r rs from in
    let next = all_both (λ (s : Record). key_below r.key s.key ≡ true) (Within bands across) (λ (s : Record). number across r.key + 1 ≤ number across s.key) rs (λ s b u. number_rises bands across r s w b) rises.0 later in
    let rest = rising_few bands across (number across r.key + 1) rs rises.1 later (number_inside bands across r w) next in
    by_rest low (number across r.key) (length rs) (bands * across) first rest
  where
    by_rest : (low n k most : ℕ) → low ≤ n → n + 1 + k ≤ most → low + suc k ≤ most
    by_rest low n k most e f = omega (arith, e, f)

-- each record is found by its key
each_there : (rs : List Record) → IsRising rs → All (λ (r : Record). address_in r.key rs ≡ None → ⊥) rs
each_there [] rises = All-nil (λ (r : Record). address_in r.key [] ≡ None → ⊥)
each_there (r ∷ rs) rises =
    All-cons (λ (s : Record). address_in s.key (r ∷ rs) ≡ None → ⊥) r rs (λ none. none_is_not_some r.address (sym (in-here r.key r rs (below-not_self r.key) (equal-self r.key)) ∙ none))
    (all_both (λ (s : Record). key_below r.key s.key ≡ true) (λ (s : Record). address_in s.key rs ≡ None → ⊥) (λ (s : Record). address_in s.key (r ∷ rs) ≡ None → ⊥) rs
    (λ s b there none. there (sym (in-under s.key r rs b) ∙ none)) rises.0 (each_there rs rises.1))

weaken : (P Q : Record → Type 0) (rs : List Record) → ((r : Record) → P r → Q r) → All P rs → All Q rs
weaken P Q rs k all = all_both P P Q rs (λ r p q. k r p) all all

pub within_is_few : WithinIsFew
within_is_few v bands across i within =
    let rs : List Record = records v in
    let each : All (Within bands across) rs = weaken (λ (r : Record). address_in r.key rs ≡ None → ⊥) (Within bands across) rs (λ r there. within r.key there) (each_there rs i.rises) in
    let from : All (λ (r : Record). 0 ≤ number across r.key) rs = weaken (Within bands across) (λ (r : Record). 0 ≤ number across r.key) rs (λ r w. omega arith) each in
    let all = rising_few bands across 0 rs i.rises each (omega arith) from in
    omega (arith, all)
