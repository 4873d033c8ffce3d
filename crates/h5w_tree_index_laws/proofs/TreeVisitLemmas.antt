-- What a check finds on an image where all nodes of a tree stand.
use Rattle.std.proofs.Common.{◌≡◌, ℕ, zero, suc, ◌+◌, ◌<◌, ◌≤◌, Bool, true, false, cond, ◌&&◌, eqb, List, [], ◌∷◌, ◌++◌, length, map, Result, Ok, Err, refl, sym, ap, subst, ◌∙◌, arith, append-nil, eq-eqb, inl, ◌^◌}
use Rattle.std.specs.Prelude.{nat_lt}
use Rattle.std.specs.List.{All}
use Rattle.std.proofs.lemmas.Bool.{cond-false, eqb-true, le-ltb}
use Rattle.std.proofs.lemmas.List.{length-map, map-append}
use Rattle.std.proofs.lemmas.List.Elements.{All-head, All-tail}
use Rattle.h5w_model.specs.Numbers.{range, undefined}
use Rattle.h5w_model.specs.Programs.{Prog, ret, eval, and_then}
use Rattle.h5w_model.specs.Trees.{RecordFields, ChildFields, BtinFields, capacity_of, btlf_at, btlf_len, btin_at, btin_len, node_size}
use Rattle.h5w_model.specs.Datasets.{then_also}
use Rattle.h5w_model.specs.Findings.{Finding, found, Used, Under, chunk_ranges, are_rising, keys_of, joined as under_joined, record_under, node_finding, children_under, node_visit, bad_node, chunk_past_end}
use Rattle.h5w_model.specs.declared.cell.Key.{Key}
use Rattle.h5w_laws.proofs.ResultLemmas.{then_from, choice_from, and_then_from}
use Rattle.h5w_step_laws.specs.Ranges.{AllEndBy, block_at, chunk_at}
use Rattle.h5w_step_laws.proofs.RangeLemmas.{ends_left, ends_right}
use Rattle.h5w_step_laws.proofs.TreeVisits.{finds}
use Rattle.h5w_bt.specs.declared.records.Record.{Record}
use Rattle.h5w_bt.specs.Parts.{record_of}
use Rattle.h5w_laws.proofs.EndLemmas.{ranges_are}
use Rattle.h5w_bt_nodes.specs.Nodes.{Tree, all_records, records_of, joined}
use Rattle.h5w_bt_index.specs.Sound.{IsRising}
use Rattle.h5w_bt_nodes.specs.Blocks.{node_of, place_of, pointer_of}
use Rattle.h5w_tree_index_laws.specs.TreeImages.{around, chunk_of, chunks_of, own_range, ranges_under}
use Rattle.h5w_bt_index.proofs.Rising.{Over}
use Rattle.h5w_bt_nodes.proofs.Places.{All-each}
use Rattle.h5w_bt_index.proofs.Grown.{total_is}
use Rattle.h5w_tree_index_laws.proofs.TreeReadLemmas.{Good, good_children}

-- ---- Chunks

pub chunk_list : (end bytes : ℕ) (rs : List Record) → AllEndBy end (chunks_of bytes rs) → chunk_ranges end bytes (map (λ (r : RecordFields). r.address) (map record_of rs)) ≡ Ok (chunks_of bytes rs)
chunk_list end bytes [] h = refl
chunk_list end bytes (r ∷ rs) h = go (eqb r.address undefined) (λ e. chunk_list end bytes rs e) h
  where
    rest : Result (List Used) Finding
    rest = chunk_ranges end bytes (map (λ (r : RecordFields). r.address) (map record_of rs))

    go : (b : Bool) → (AllEndBy end (chunks_of bytes rs) → rest ≡ Ok (chunks_of bytes rs)) → AllEndBy end (cond b [] (chunk_at r.address bytes ∷ []) ++ chunks_of bytes rs)
        → cond b rest (cond (nat_lt end (r.address + bytes)) (Err (found chunk_past_end r.address)) (then_also rest (λ us. Ok (chunk_at r.address bytes ∷ us)))) ≡ Ok (cond b [] (chunk_at r.address bytes ∷ []) ++ chunks_of bytes rs)
    go true later e = later e
    go false later e =
        cond-false (nat_lt end (r.address + bytes)) _ _ (le-ltb end (r.address + bytes) (e (chunk_at r.address bytes) (inl refl)))
        ∙ then_from rest (λ us. ranges_are (chunk_at r.address bytes ∷ us)) (chunks_of bytes rs) (chunk_at r.address bytes ∷ chunks_of bytes rs) (later (ends_right end (chunk_at r.address bytes ∷ []) (chunks_of bytes rs) e)) refl

-- ---- Keys

abbrev pub keys_in : List Record → List Key
keys_in rs = map (λ (r : Record). r.key) rs

pub keys_same : (rs : List Record) → keys_of (map record_of rs) ≡ keys_in rs
keys_same [] = refl
keys_same (r ∷ rs) = ap (λ l. r.key ∷ l) (keys_same rs)

pub keys_rise : (rs : List Record) → IsRising rs → are_rising (keys_in rs) ≡ true
keys_rise [] h = refl
keys_rise (r ∷ []) h = refl
keys_rise (r ∷ s ∷ rs) h = ap (λ b. b && are_rising (keys_in (s ∷ rs))) (All-head (Over r.key) s rs h.0) ∙ keys_rise (s ∷ rs) h.1

-- ---- A node's answer

abbrev pub node_under : ℕ → (d : ℕ) → Tree d → Under
node_under bytes d t = record { ranges = ranges_under bytes d t; keys = keys_in (all_records d t) }

abbrev under_ok : Under → Result Under Finding
under_ok u = Ok u

own_some : (place : ℕ) → place + node_size < 2 ^ 64 → own_range place ≡ block_at place node_size ∷ []
own_some place h = cond-false (eqb place undefined) _ _ (other (eqb place undefined) refl)
  where
    other : (b : Bool) → eqb place undefined ≡ b → b ≡ false
    other true e = let n : place ≡ undefined = eqb-true place undefined e in absurd (omega (arith, h, n))
    other false e = refl

-- the whole answer, where the totals are right
pub node_finds : (bytes place : ℕ) (ks : List Key) (us vs : List Used) → are_rising ks ≡ true → own_range place ++ us ≡ vs → place + node_size < 2 ^ 64
    → node_finding place true (record { ranges = us; keys = ks }) ≡ Ok (record { ranges = vs; keys = ks })
node_finds bytes place ks us vs rise e h =
    finds place true (record { ranges = us; keys = ks }) (record { ranges = vs; keys = ks })
    (record { totals_right = refl; rising = rise; is = λ i. record { ranges = (sym (ap (λ l. l ++ us) (own_some place h)) ∙ e) i; keys = ks } })

-- ---- Children

abbrev pair_ok : Bool × Under → Result (Bool × Under) Finding
pair_ok u = Ok u

-- the visit of each child, whose total is right
pub record Told (img : List ℕ) (visit : ChildFields → Prog (Result Under Finding)) (c : ChildFields) (us : List Used) (rs : List Record) : Type 0 where
  pub found : eval img (visit c) ≡ Ok (record { ranges = us; keys = keys_in rs })
  pub total : c.total ≡ length rs

abbrev pub EachTold : {C : Type 0} → List ℕ → ℕ → (ChildFields → Prog (Result Under Finding)) → (C → ChildFields) → (C → List Used) → (C → List Record) → C → Type 0
EachTold img end visit ptr us_of rs_of c = AllEndBy end (us_of c) → Told img visit (ptr c) (us_of c) (rs_of c)

right_total : (n : ℕ) (rs : List Record) → n ≡ length rs → eqb n (length (keys_in rs)) ≡ true
right_total n rs e = eq-eqb n (length (keys_in rs)) (e ∙ sym (length-map rs (λ (r : Record). r.key)))

-- one record
pub one_record : (end bytes : ℕ) (r : Record) → AllEndBy end (chunk_of bytes r) → record_under end bytes (record_of r) ≡ Ok (record { ranges = chunk_of bytes r; keys = r.key ∷ [] })
one_record end bytes r h =
    then_from (chunk_ranges end bytes (r.address ∷ [])) (λ us. under_ok (record { ranges = us; keys = r.key ∷ [] })) (chunk_of bytes r) (record { ranges = chunk_of bytes r; keys = r.key ∷ [] })
    (chunk_list end bytes (r ∷ []) (subst (AllEndBy end) (sym (append-nil (chunk_of bytes r))) h) ∙ ap ranges_are (append-nil (chunk_of bytes r))) refl

pub children_tell : {C : Type 0} (img : List ℕ) (end bytes : ℕ) (visit : ChildFields → Prog (Result Under Finding)) (ptr : C → ChildFields) (us_of : C → List Used) (rs_of : C → List Record) (rs : List Record) (cs : List C)
    → length cs ≡ length rs + 1 → AllEndBy end (around bytes rs (map us_of cs)) → All (EachTold img end visit ptr us_of rs_of) cs
    → eval img (children_under end bytes visit (map record_of rs) (map ptr cs)) ≡ Ok (true, record { ranges = around bytes rs (map us_of cs); keys = keys_in (joined rs (map rs_of cs)) })
children_tell img end bytes visit ptr us_of rs_of [] [] n e all = absurd (omega arith)
children_tell img end bytes visit ptr us_of rs_of [] (c ∷ d ∷ cs) n e all = absurd (omega (arith, n))
children_tell img end bytes visit ptr us_of rs_of [] (c ∷ []) n e all =
    let t = All-head (EachTold img end visit ptr us_of rs_of) c [] all e in
    let u : Under = record { ranges = us_of c; keys = keys_in (rs_of c) } in
    and_then_from img (visit (ptr c)) (λ u. ret (pair_ok ((eqb (ptr c).total (length u.keys)), u))) u (true, u) t.found (ap (λ b. pair_ok (b, u)) (right_total (ptr c).total (rs_of c) t.total))
children_tell img end bytes visit ptr us_of rs_of (r ∷ rs) [] n e all = absurd (omega (arith, n))
children_tell img end bytes visit ptr us_of rs_of (r ∷ rs) (c ∷ cs) n e all =
    let first : List Used = us_of c in
    let chunk : List Used = chunk_of bytes r in
    let more : List Used = around bytes rs (map us_of cs) in
    let later : AllEndBy end (chunk ++ more) = ends_right end first (chunk ++ more) e in
    let t = All-head (EachTold img end visit ptr us_of rs_of) c cs all (ends_left end first (chunk ++ more) e) in
    let u : Under = record { ranges = first; keys = keys_in (rs_of c) } in
    let v : Under = record { ranges = chunk; keys = r.key ∷ [] } in
    let w : Under = record { ranges = more; keys = keys_in (joined rs (map rs_of cs)) } in
    let one : record_under end bytes (record_of r) ≡ Ok v = one_record end bytes r (ends_left end chunk more later) in
    let rest = children_tell img end bytes visit ptr us_of rs_of rs cs (omega (arith, n)) (ends_right end chunk more later) (All-tail (EachTold img end visit ptr us_of rs_of) c cs all) in
    let going : ChildFields → Prog (Result Under Finding) = visit in
    let on_rest : Under → Under → Bool × Under → Prog (Result (Bool × Under) Finding) = λ u v rest. ret (pair_ok (((eqb (ptr c).total (length u.keys)) && rest.0), under_joined u (under_joined v rest.1))) in
    let on_record : Under → Under → Prog (Result (Bool × Under) Finding) = λ u v. and_then (children_under end bytes going (map record_of rs) (map ptr cs)) (on_rest u v) in
    let on_child : Under → Prog (Result (Bool × Under) Finding) = λ u. and_then (ret (record_under end bytes (record_of r))) (on_record u) in
    let all_of_it : Bool × Under = (true, record { ranges = first ++ (chunk ++ more); keys = keys_in (rs_of c) ++ (r.key ∷ keys_in (joined rs (map rs_of cs))) }) in
    let tested : eqb (ptr c).total (length u.keys) && true ≡ true = ap (λ b. b && true) (right_total (ptr c).total (rs_of c) t.total) in
    and_then_from img (visit (ptr c)) on_child u all_of_it t.found
    (and_then_from img (ret (record_under end bytes (record_of r))) (on_record u) v all_of_it one
    (and_then_from img (children_under end bytes going (map record_of rs) (map ptr cs)) (on_rest u v) (true, w) all_of_it rest (ap (λ b. pair_ok (b, under_joined u (under_joined v w))) tested)))
    ∙ ap (λ l. pair_ok (true, record { ranges = first ++ (chunk ++ more); keys = l })) (sym (map-append (λ (r : Record). r.key) (rs_of c) (r ∷ joined rs (map rs_of cs))))

-- ---- Nodes

pub visit_finds : (img : List ℕ) (end bytes d : ℕ) (t : Tree d) → Good img d t → AllEndBy end (ranges_under bytes d t) → eval img (node_visit end bytes d (place_of d t) (length (records_of d t))) ≡ Ok (node_under bytes d t)
visit_finds img end bytes zero t g e =
    let rs : List RecordFields = map record_of t.records in
    let n : ℕ = length t.records in
    let own : List Used = own_range t.place in
    let us : List Used = chunks_of bytes t.records in
    let own_is : own ≡ block_at t.place node_size ∷ [] = own_some t.place g.stands.ends in
    let fits : t.place + node_size ≤ end = subst (AllEndBy end) own_is (ends_left end own us e) (block_at t.place node_size) (inl refl) in
    let after : List RecordFields → Result Under Finding = λ rs. then_also (chunk_ranges end bytes (map (λ (r : RecordFields). r.address) rs)) (λ us. node_finding t.place true (record { ranges = us; keys = keys_of rs })) in
    ap (eval img) (cond-false (nat_lt end (t.place + node_size)) _ _ (le-ltb end (t.place + node_size) fits))
    ∙ choice_from img (btlf_at (range img t.place (btlf_len n)) t.place n) (λ rs. ret (after rs)) (λ f. found bad_node t.place) rs (node_under bytes zero t) g.stands.reads
    (then_from (chunk_ranges end bytes (map (λ (r : RecordFields). r.address) rs)) (λ us. node_finding t.place true (record { ranges = us; keys = keys_of rs })) us (node_under bytes zero t) (chunk_list end bytes t.records (ends_right end own us e))
    (ap (λ ks. node_finding t.place true (record { ranges = us; keys = ks })) (keys_same t.records) ∙ node_finds bytes t.place (keys_in t.records) us (own ++ us) (keys_rise t.records g.rises) refl g.stands.ends))
visit_finds img end bytes (suc d) t g e =
    let n : ℕ = length t.records in
    let own : List Used = own_range t.place in
    let us : List Used = around bytes t.records (map (ranges_under bytes d) t.children) in
    let own_is : own ≡ block_at t.place node_size ∷ [] = own_some t.place (g.stands.0).ends in
    let fits : t.place + node_size ≤ end = subst (AllEndBy end) own_is (ends_left end own us e) (block_at t.place node_size) (inl refl) in
    let visit : ChildFields → Prog (Result Under Finding) = λ c. node_visit end bytes d c.address c.records in
    let u : Under = record { ranges = us; keys = keys_in (all_records (suc d) t) } in
    let after : BtinFields → Prog (Result Under Finding) = λ v. and_then (children_under end bytes visit v.records v.children) (λ u. ret (node_finding t.place u.0 u.1)) in
    ap (eval img) (cond-false (nat_lt end (t.place + node_size)) _ _ (le-ltb end (t.place + node_size) fits))
    ∙ choice_from img (btin_at (range img t.place (btin_len n (suc d))) t.place n (suc d)) after (λ f. found bad_node t.place) (node_of d t) (node_under bytes (suc d) t) (g.stands.0).reads
    (and_then_from img (children_under end bytes visit (map record_of t.records) (map (pointer_of d) t.children)) (λ u. ret (node_finding t.place u.0 u.1)) (true, u) (node_under bytes (suc d) t)
    (children_tell img end bytes visit (pointer_of d) (ranges_under bytes d) (all_records d) t.records t.children g.sound.children (ends_right end own us e) (All-each (Good img d) (EachTold img end visit (pointer_of d) (ranges_under bytes d) (all_records d)) (λ c h e. record { found = visit_finds img end bytes d c h e; total = total_is d (capacity_of d) c h.sound }) t.children (good_children img d t g)))
    (node_finds bytes t.place (keys_in (all_records (suc d) t)) us (own ++ us) (keys_rise (all_records (suc d) t) g.rises) refl (g.stands.0).ends))
