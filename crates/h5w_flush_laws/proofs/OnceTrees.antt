-- In a tree that a check passes no two keys have one chunk, where no two ranges meet.
use Rattle.std.proofs.Common.{◌≡◌, ◌≢◌, ◌⊎◌, ℕ, zero, suc, Bool, true, false, cond, List, [], ◌∷◌, ◌++◌, length, get_or, Result, Ok, Err, refl, sym, ◌∙◌, ap, subst, inl, inr}
use Rattle.std.specs.Prelude.{◌==◌, ◌&&◌, map}
use Rattle.std.proofs.lemmas.Bool.{eqb-true}
use Rattle.h5w_model.specs.Numbers.{range, undefined}
use Rattle.h5w_model.specs.Programs.{Prog, ret, eval, and_then}
use Rattle.h5w_model.specs.Trees.{RecordFields, ChildFields, BtinFields, btlf_at, btin_at, btlf_len, btin_len, node_size}
use Rattle.h5w_model.specs.Datasets.{then_also, refused_as}
use Rattle.h5w_model.specs.Tables.{key_below, key_equal, in_leaf, in_node, tree_lookup}
use Rattle.h5w_model.specs.Findings.{Finding, found, Used, Under, joined, record_under, node_finding, keys_of, children_under, node_visit, chunk_ranges, bad_node}
use Rattle.h5w_model.specs.declared.cell.Key.{Key}
use Rattle.h5w_model.specs.declared.refusal.BlockFault.{BlockFault}
use Rattle.h5w_model.specs.declared.refusal.ReadError.{ReadError}
use Rattle.h5w_model.specs.declared.refusal.ReadError.TheVariants.{Damaged}
use Rattle.h5w_laws.proofs.ResultLemmas.{then_ok, and_then_ok, choice_ok}
use Rattle.h5w_step_laws.specs.Ranges.{Among, block_at, chunk_at}
use Rattle.h5w_step_laws.proofs.RangeLemmas.{among_left, among_right}
use Rattle.h5w_step_laws.proofs.ArrayVisits.{chunks_known}
use Rattle.h5w_step_laws.proofs.TreeVisits.{node_parts, finished, same_under, same_pair}
use Rattle.h5w_flush_laws.proofs.OnceArrays.{Twice, twice_both, twice_left, twice_right, answer, address_in, Sep, sep_nothing, sep_as, sep_right, Always, slot_in, chunks_apart}

-- ---- A leaf

pub same_key : (a b : Key) → key_equal a b ≡ true → a ≡ b
same_key a b h = go (both (a.i == b.i) (a.j == b.j) h)
  where
    both : (x y : Bool) → (x && y) ≡ true → (x ≡ true) × (y ≡ true)
    both true y e = (refl, e)
    both false y e = absurd cc

    go : ((a.i == b.i) ≡ true) × ((a.j == b.j) ≡ true) → a ≡ b
    go t = let row = eqb-true a.i b.i t.0 in let column = eqb-true a.j b.j t.1 in λ i. record { i = row i; j = column i }

-- where a key stands among the records
pub record LeafAt (rs : List RecordFields) (key other : Key) : Type 0 where
  pub number : ℕ
  pub address : slot_in (map (λ (r : RecordFields). r.address) rs) number ≡ in_leaf key rs
  pub is : get_or (keys_of rs) number other ≡ key

pub leaf_at : (rs : List RecordFields) (key other : Key) → in_leaf key rs ≢ undefined → LeafAt rs key other
leaf_at [] key other d = absurd (d refl)
leaf_at (r ∷ rs) key other d = go (key_below r.key key) (key_equal r.key key) refl refl (λ x. leaf_at rs key other x)
  where
    by : Bool → Bool → ℕ
    by b c = cond b (in_leaf key rs) (cond c r.address undefined)

    go : (b c : Bool) → key_below r.key key ≡ b → key_equal r.key key ≡ c → (in_leaf key rs ≢ undefined → LeafAt rs key other) → LeafAt (r ∷ rs) key other
    go true c e f later =
        let same : in_leaf key (r ∷ rs) ≡ in_leaf key rs = ap (λ x. by x (key_equal r.key key)) e in
        let l = later (λ x. d (same ∙ x)) in
        record { number = suc l.number; address = l.address ∙ sym same; is = l.is }
    go false true e f later =
        let same : in_leaf key (r ∷ rs) ≡ r.address = ap (λ x. by x (key_equal r.key key)) e ∙ ap (λ x. cond x r.address undefined) f in
        record { number = 0; address = sym same; is = same_key r.key key f }
    go false false e f later = absurd (d (ap (λ x. by x (key_equal r.key key)) e ∙ ap (λ x. cond x r.address undefined) f))

pub leaf_apart : (end bytes : ℕ) (rs : List RecordFields) (us : List Used) → chunk_ranges end bytes (map (λ (r : RecordFields). r.address) rs) ≡ Ok us → Sep {K = Key} bytes us Always (λ key. in_leaf key rs)
leaf_apart end bytes rs us h = record { among = among; twice = twice }
  where
    s : Sep {K = ℕ} bytes us Always (slot_in (map (λ (r : RecordFields). r.address) rs))
    s = chunks_apart end bytes (map (λ (r : RecordFields). r.address) rs) us h

    among : (key : Key) → Unit {0} → in_leaf key rs ≢ undefined → Among (chunk_at (in_leaf key rs) bytes) us
    among key p d = let l = leaf_at rs key key d in subst (λ x. Among (chunk_at x bytes) us) l.address (s.among l.number tt (λ x. d (sym l.address ∙ x)))

    twice : (j k : Key) → Unit {0} → Unit {0} → j ≢ k → in_leaf j rs ≢ undefined → in_leaf k rs ≡ in_leaf j rs → Twice (chunk_at (in_leaf j rs) bytes) us
    twice j k p q n d e =
        let l = leaf_at rs j j d in
        let m = leaf_at rs k j (λ x. d (sym e ∙ x)) in
        subst (λ x. Twice (chunk_at x bytes) us) l.address
        (s.twice l.number m.number tt tt (λ same. n (sym l.is ∙ ap (λ x. get_or (keys_of rs) x j) same ∙ m.is)) (λ x. d (sym l.address ∙ x)) (m.address ∙ e ∙ sym l.address))

-- ---- A node with children

-- answers of a key that is in a first part, is the one between, or is in a later part
abbrev pub Kind : Key → Key → ℕ → ℕ → ℕ → ℕ → Type 0
Kind mid key ans first own later = (ans ≡ first) ⊎ (((mid ≡ key) × (ans ≡ own)) ⊎ (ans ≡ later))

pub three_apart : (bytes : ℕ) (us vs ws : List Used) (ans first later : Key → ℕ) (own : ℕ) (mid : Key) → ((key : Key) → Kind mid key (ans key) (first key) own (later key)) → Sep {K = Key} bytes us Always first
    → (own ≢ undefined → Among (chunk_at own bytes) vs) → Sep {K = Key} bytes ws Always later → Sep {K = Key} bytes (us ++ (vs ++ ws)) Always ans
three_apart bytes us vs ws ans first later own mid kind a b c = record { among = λ key p d. in_all key d (kind key); twice = λ j k p q n d e. twice j k n d e (kind j) (kind k) }
  where
    all : List Used
    all = us ++ (vs ++ ws)

    as_first : (key : Key) (x : ℕ) → x ≢ undefined → first key ≡ x → Among (chunk_at x bytes) us
    as_first key x d e = subst (λ y. Among (chunk_at y bytes) us) e (a.among key tt (λ z. d (sym e ∙ z)))

    as_own : (x : ℕ) → x ≢ undefined → own ≡ x → Among (chunk_at x bytes) vs
    as_own x d e = subst (λ y. Among (chunk_at y bytes) vs) e (b (λ z. d (sym e ∙ z)))

    as_later : (key : Key) (x : ℕ) → x ≢ undefined → later key ≡ x → Among (chunk_at x bytes) ws
    as_later key x d e = subst (λ y. Among (chunk_at y bytes) ws) e (c.among key tt (λ z. d (sym e ∙ z)))

    in_all : (key : Key) → ans key ≢ undefined → Kind mid key (ans key) (first key) own (later key) → Among (chunk_at (ans key) bytes) (us ++ (vs ++ ws))
    in_all key d (inl e) = among_left (chunk_at (ans key) bytes) us (vs ++ ws) (as_first key (ans key) d (sym e))
    in_all key d (inr (inl e)) = among_right (chunk_at (ans key) bytes) us (vs ++ ws) (among_left (chunk_at (ans key) bytes) vs ws (as_own (ans key) d (sym e.1)))
    in_all key d (inr (inr e)) = among_right (chunk_at (ans key) bytes) us (vs ++ ws) (among_right (chunk_at (ans key) bytes) vs ws (as_later key (ans key) d (sym e)))

    twice : (j k : Key) → j ≢ k → ans j ≢ undefined → ans k ≡ ans j → Kind mid j (ans j) (first j) own (later j) → Kind mid k (ans k) (first k) own (later k) → Twice (chunk_at (ans j) bytes) (us ++ (vs ++ ws))
    twice j k n d e (inl x) (inl y) =
        twice_left (chunk_at (ans j) bytes) us (vs ++ ws) (subst (λ z. Twice (chunk_at z bytes) us) (sym x) (a.twice j k tt tt n (λ z. d (x ∙ z)) (sym y ∙ e ∙ x)))
    twice j k n d e (inl x) (inr (inl y)) =
        twice_both (chunk_at (ans j) bytes) us (vs ++ ws) (as_first j (ans j) d (sym x)) (among_left (chunk_at (ans j) bytes) vs ws (as_own (ans j) d (sym y.1 ∙ e)))
    twice j k n d e (inl x) (inr (inr y)) =
        twice_both (chunk_at (ans j) bytes) us (vs ++ ws) (as_first j (ans j) d (sym x)) (among_right (chunk_at (ans j) bytes) vs ws (as_later k (ans j) d (sym y ∙ e)))
    twice j k n d e (inr (inl x)) (inl y) =
        twice_both (chunk_at (ans j) bytes) us (vs ++ ws) (as_first k (ans j) d (sym y ∙ e)) (among_left (chunk_at (ans j) bytes) vs ws (as_own (ans j) d (sym x.1)))
    twice j k n d e (inr (inl x)) (inr (inl y)) = absurd (n (sym x.0 ∙ y.0))
    twice j k n d e (inr (inl x)) (inr (inr y)) =
        twice_right (chunk_at (ans j) bytes) us (vs ++ ws) (twice_both (chunk_at (ans j) bytes) vs ws (as_own (ans j) d (sym x.1)) (as_later k (ans j) d (sym y ∙ e)))
    twice j k n d e (inr (inr x)) (inl y) =
        twice_both (chunk_at (ans j) bytes) us (vs ++ ws) (as_first k (ans j) d (sym y ∙ e)) (among_right (chunk_at (ans j) bytes) vs ws (as_later j (ans j) d (sym x)))
    twice j k n d e (inr (inr x)) (inr (inl y)) =
        twice_right (chunk_at (ans j) bytes) us (vs ++ ws) (twice_both (chunk_at (ans j) bytes) vs ws (as_own (ans j) d (sym y.1 ∙ e)) (as_later j (ans j) d (sym x)))
    twice j k n d e (inr (inr x)) (inr (inr y)) =
        twice_right (chunk_at (ans j) bytes) us (vs ++ ws)
        (twice_right (chunk_at (ans j) bytes) vs ws (subst (λ z. Twice (chunk_at z bytes) ws) (sym x) (c.twice j k tt tt n (λ z. d (x ∙ z)) (sym y ∙ e ∙ x))))

pub children_apart : (img : List ℕ) (end bytes : ℕ) (visit : ChildFields → Prog (Result Under Finding)) (look : Key → ChildFields → Prog (Result ℕ ReadError)) (rs : List RecordFields) (cs : List ChildFields) (x : Bool × Under)
    → ((c : ChildFields) (u : Under) → eval img (visit c) ≡ Ok u → Sep {K = Key} bytes u.ranges Always (λ key. answer img (look key c)))
    → eval img (children_under end bytes visit rs cs) ≡ Ok x → Sep {K = Key} bytes x.1.ranges Always (λ key. answer img (in_node (look key) key rs cs))
children_apart img end bytes visit look [] [] x child h = sep_nothing {K = Key} bytes x.1.ranges Always (λ key. answer img (in_node (look key) key [] [])) (λ key p. refl)
children_apart img end bytes visit look (r ∷ rs) [] x child h = sep_nothing {K = Key} bytes x.1.ranges Always (λ key. answer img (in_node (look key) key (r ∷ rs) [])) (λ key p. refl)
children_apart img end bytes visit look [] (c ∷ cs) x child h =
    let after : Under → Result (Bool × Under) Finding = λ u. Ok ((c.total == length u.keys), u) in
    let first = and_then_ok img (visit c) (λ u. ret (after u)) x h in
    let all : Bool × Under = ((c.total == length first.0.keys), first.0) in
    subst (λ (y : Bool × Under). Sep {K = Key} bytes y.1.ranges Always (λ key. answer img (in_node (look key) key [] (c ∷ cs)))) (same_pair all x first.2) (child c first.0 first.1)
children_apart img end bytes visit look (r ∷ rs) (c ∷ cs) x child h =
    let final : Under → Under → Bool × Under → Bool × Under = λ u v rest. (((c.total == length u.keys) && rest.0), joined u (joined v rest.1)) in
    let last : Under → Under → Bool × Under → Result (Bool × Under) Finding = λ u v rest. Ok (final u v rest) in
    let others : Prog (Result (Bool × Under) Finding) = children_under end bytes visit rs cs in
    let third : Under → Under → Prog (Result (Bool × Under) Finding) = λ u v. and_then others (λ rest. ret (last u v rest)) in
    let second : Under → Prog (Result (Bool × Under) Finding) = λ u. and_then (ret (record_under end bytes r)) (third u) in
    let first = and_then_ok img (visit c) second x h in
    let own = and_then_ok img (ret (record_under end bytes r)) (third first.0) x first.2 in
    let later = and_then_ok img others (λ rest. ret (last first.0 own.0 rest)) x own.2 in
    let with_key : List Used → Result Under Finding = λ us. Ok (record { ranges = us; keys = r.key ∷ [] }) in
    let its = then_ok (chunk_ranges end bytes (r.address ∷ [])) with_key own.0 own.1 in
    let chunks = chunks_known end bytes (r.address ∷ []) its.0 its.1 in
    let its_under : Under = record { ranges = its.0; keys = r.key ∷ [] } in
    let is_own : its_under ≡ own.0 = same_under its_under own.0 its.2 in
    let same : final first.0 its_under later.0 ≡ x = ap (λ v. final first.0 v later.0) is_own ∙ same_pair (final first.0 own.0 later.0) x later.2 in
    subst (λ (y : Bool × Under). Sep {K = Key} bytes y.1.ranges Always (λ key. answer img (in_node (look key) key (r ∷ rs) (c ∷ cs)))) same
    (three_apart bytes first.0.ranges its.0 later.0.1.ranges (λ key. answer img (in_node (look key) key (r ∷ rs) (c ∷ cs))) (λ key. answer img (look key c)) (λ key. answer img (in_node (look key) key rs cs)) r.address r.key
    (λ key. kind key (key_below r.key key) (key_equal r.key key) refl refl) (child c first.0 first.1) (λ d. chunks.each 0 d) (children_apart img end bytes visit look rs cs later.0 child later.1))
  where
    by : Key → Bool → Bool → Prog (Result ℕ ReadError)
    by key b e = cond b (in_node (look key) key rs cs) (cond e (ret (Ok r.address)) (look key c))

    kind : (key : Key) (b e : Bool) → key_below r.key key ≡ b → key_equal r.key key ≡ e
        → Kind r.key key (answer img (in_node (look key) key (r ∷ rs) (c ∷ cs))) (answer img (look key c)) r.address (answer img (in_node (look key) key rs cs))
    kind key true e s t = inr (inr (ap (λ z. answer img (by key z (key_equal r.key key))) s))
    kind key false true s t = inr (inl (same_key r.key key t, ap (λ z. answer img (by key z (key_equal r.key key))) s ∙ ap (λ z. answer img (by key false z)) t))
    kind key false false s t = inl (ap (λ z. answer img (by key z (key_equal r.key key))) s ∙ ap (λ z. answer img (by key false z)) t)

-- ---- A node

pub node_apart : (img : List ℕ) (end bytes depth place n : ℕ) (u : Under) → eval img (node_visit end bytes depth place n) ≡ Ok u → Sep {K = Key} bytes u.ranges Always (λ key. answer img (tree_lookup depth key place n))
node_apart img end bytes zero place n u h =
    let len : ℕ = btlf_len n in
    let b : List ℕ = range img place len in
    let as_under : List RecordFields → List Used → Under = λ rs us. record { ranges = us; keys = keys_of rs } in
    let after : List RecordFields → Result Under Finding = λ rs. then_also (chunk_ranges end bytes (map (λ (r : RecordFields). r.address) rs)) (λ us. node_finding place true (as_under rs us)) in
    let visit : List ℕ → Prog (Result Under Finding) = λ b. elim (btlf_at b place n) as (λ _. Prog (Result Under Finding)) [ Ok rs ↦ ret (after rs) | Err f ↦ ret (Err (found bad_node place)) ] in
    let parts = node_parts img end place len visit u h in
    let decoded = choice_ok img (btlf_at b place n) (λ rs. ret (after rs)) (λ f. found bad_node place) u parts.1 in
    let rs = decoded.0 in
    let chunks = then_ok (chunk_ranges end bytes (map (λ (r : RecordFields). r.address) rs)) (λ us. node_finding place true (as_under rs us)) u decoded.2 in
    let f = finished place true (as_under rs chunks.0) u chunks.2 in
    subst (λ (y : Under). Sep {K = Key} bytes y.ranges Always (λ key. answer img (tree_lookup zero key place n))) f.is
    (sep_as {K = Key} bytes (block_at place node_size ∷ chunks.0) Always (λ key. in_leaf key rs) (λ key. answer img (tree_lookup zero key place n))
    (λ key p. ap (λ (r : Result (List RecordFields) BlockFault). address_in (then_also (refused_as (Damaged place) r) (λ rs. Ok (in_leaf key rs)))) decoded.1)
    (sep_right {K = Key} bytes (block_at place node_size ∷ []) chunks.0 Always (λ key. in_leaf key rs) (leaf_apart end bytes rs chunks.0 chunks.1)))
node_apart img end bytes (suc depth) place n u h =
    let len : ℕ = btin_len n (suc depth) in
    let b : List ℕ = range img place len in
    let visit_child : ChildFields → Prog (Result Under Finding) = λ c. node_visit end bytes depth c.address c.records in
    let look_child : Key → ChildFields → Prog (Result ℕ ReadError) = λ key c. tree_lookup depth key c.address c.records in
    let last : Bool × Under → Result Under Finding = λ x. node_finding place x.0 x.1 in
    let children : BtinFields → Prog (Result (Bool × Under) Finding) = λ t. children_under end bytes visit_child t.records t.children in
    let after : BtinFields → Prog (Result Under Finding) = λ t. and_then (children t) (λ x. ret (last x)) in
    let visit : List ℕ → Prog (Result Under Finding) = λ b. elim (btin_at b place n (suc depth)) as (λ _. Prog (Result Under Finding)) [ Ok t ↦ after t | Err f ↦ ret (Err (found bad_node place)) ] in
    let parts = node_parts img end place len visit u h in
    let decoded = choice_ok img (btin_at b place n (suc depth)) after (λ f. found bad_node place) u parts.1 in
    let t = decoded.0 in
    let step = and_then_ok img (children t) (λ x. ret (last x)) u decoded.2 in
    let x = step.0 in
    let f = finished place x.0 x.1 u step.2 in
    let inside = children_apart img end bytes visit_child look_child t.records t.children x (λ c v g. node_apart img end bytes depth c.address c.records v g) step.1 in
    subst (λ (y : Under). Sep {K = Key} bytes y.ranges Always (λ key. answer img (tree_lookup (suc depth) key place n))) f.is
    (sep_as {K = Key} bytes (block_at place node_size ∷ x.1.ranges) Always (λ key. answer img (in_node (look_child key) key t.records t.children)) (λ key. answer img (tree_lookup (suc depth) key place n))
    (λ key p. ap (λ (r : Result BtinFields BlockFault). answer img (elim r as (λ _. Prog (Result ℕ ReadError)) [ Ok t ↦ in_node (look_child key) key t.records t.children | Err f ↦ ret (Err (Damaged place f)) ])) decoded.1)
    (sep_right {K = Key} bytes (block_at place node_size ∷ []) x.1.ranges Always (λ key. answer img (in_node (look_child key) key t.records t.children)) inside))
