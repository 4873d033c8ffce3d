-- The ranges of a tree by its map and by the ranges of its nodes.
use Rattle.std.proofs.Common.{◌≡◌, ℕ, zero, suc, ◌+◌, ◌≤◌, true, false, List, [], ◌∷◌, length, refl, sym, ap, ◌∙◌, subst, arith, sum_by, Option, Some, None}
use Rattle.std.specs.Prelude.{if◌then◌else◌}
use Rattle.std.specs.Option.{unwrap_or}
use Rattle.std.proofs.lemmas.Bool.{eq-eqb}
use Rattle.std.proofs.lemmas.List.Elements.{All-head}
use Rattle.std.proofs.lemmas.List.Sums.{sum_by-append}
use Rattle.h5w_model.specs.Numbers.{undefined}
use Rattle.h5w_model.specs.Tables.{key_below}
use Rattle.h5w_model.specs.Trees.{capacity_of}
use Rattle.h5w_model.specs.Findings.{Used}
use Rattle.h5w_model.specs.declared.cell.Key.{Key}
use Rattle.h5w_step_laws.specs.Ranges.{chunk_at}
use Rattle.h5w_bt.specs.declared.records.Record.{Record}
use Rattle.h5w_bt.proofs.KeyLemmas.{below-not_back, equal-is, equal-self, below-not_self, above-not_equal, above-from}
use Rattle.h5w_bt_nodes.specs.Nodes.{address_in}
use Rattle.h5w_bt_nodes.specs.Puts.{put_record}
use Rattle.h5w_bt_index.specs.Sound.{IsRising}
use Rattle.h5w_bt_index.specs.Index.{Index, address_of, inserted, records}
use Rattle.h5w_bt_index.proofs.Laws.{in_leaf-is, inserted-records}
use Rattle.h5w_bt_nodes.proofs.Records.{here, in-here, in-past, in-under, past, put-here, put-past, put-under, side, under}
use Rattle.h5w_bt_index.proofs.Rising.{AreAbove, above_all}
use Rattle.h5w_tree_index_laws.specs.TreeImages.{InsertedRenews, SameBehind, behind_of, chunk_named, chunk_of}
use Rattle.h5w_tree_index_laws.proofs.TreeInsertLemmas.{all_nodes, apart, chunks, chunks_cons, inserted_nodes}

-- what is found, undefined where nothing is
abbrev answer : Option ℕ → ℕ
answer o = unwrap_or o undefined

-- ---- Another record in the place of that of its key

-- the chunk of nothing
none_named : (f : Used → ℕ) (bytes a : ℕ) → a ≡ undefined → sum_by f (chunk_named bytes a) ≡ 0
none_named f bytes a e = ap (λ b. sum_by f (if b then [] else chunk_at a bytes ∷ [])) (eq-eqb a undefined e)

put_renews : (f : Used → ℕ) (bytes : ℕ) (x : Record) (rs : List Record) → sum_by f (chunk_named bytes (answer (address_in x.key rs))) + chunks f bytes (put_record x rs) ≡ sum_by f (chunk_of bytes x) + chunks f bytes rs
put_renews f bytes x [] = omega (arith, chunks_cons f bytes x [], none_named f bytes undefined refl)
put_renews f bytes x (r ∷ rs) =
    elim (side r.key x.key) [
      | under u ↦
          let e : chunks f bytes (put_record x (r ∷ rs)) ≡ chunks f bytes (r ∷ put_record x rs) = ap (chunks f bytes) (put-under x r rs u) in
          let a : sum_by f (chunk_named bytes (answer (address_in x.key (r ∷ rs)))) ≡ sum_by f (chunk_named bytes (answer (address_in x.key rs))) = ap (λ o. sum_by f (chunk_named bytes (answer o))) (in-under x.key r rs u) in
          omega (arith, e, a, chunks_cons f bytes r (put_record x rs), chunks_cons f bytes r rs, put_renews f bytes x rs)
      | here u g ↦
          let e : chunks f bytes (put_record x (r ∷ rs)) ≡ chunks f bytes (x ∷ rs) = ap (chunks f bytes) (put-here x r rs u g) in
          let a : sum_by f (chunk_named bytes (answer (address_in x.key (r ∷ rs)))) ≡ sum_by f (chunk_of bytes r) = ap (λ o. sum_by f (chunk_named bytes (answer o))) (in-here x.key r rs u g) in
          omega (arith, e, a, chunks_cons f bytes x rs, chunks_cons f bytes r rs)
      | past u g ↦
          let e : chunks f bytes (put_record x (r ∷ rs)) ≡ chunks f bytes (x ∷ r ∷ rs) = ap (chunks f bytes) (put-past x r rs u g) in
          let a : sum_by f (chunk_named bytes (answer (address_in x.key (r ∷ rs)))) ≡ sum_by f (chunk_named bytes undefined) = ap (λ o. sum_by f (chunk_named bytes (answer o))) (in-past x.key r rs u g) in
          omega (arith, e, a, none_named f bytes undefined refl, chunks_cons f bytes x (r ∷ rs))
    ]

pub inserted_renews : InsertedRenews
inserted_renews x v i j =
    let w : Index = inserted x v in
    record {
      nodes = λ f. inserted_nodes f x v i;
      behind = λ bytes f.
          let now = apart f bytes w.depth (capacity_of w.depth) w.root j.sound in
          let was = apart f bytes v.depth (capacity_of v.depth) v.root i.sound in
          let same : all_nodes f w ≡ all_nodes f v = inserted_nodes f x v i in
          let recs : chunks f bytes (records w) ≡ chunks f bytes (put_record x (records v)) = ap (chunks f bytes) (inserted-records x v i) in
          let old : sum_by f (chunk_named bytes (address_of v x.key)) ≡ sum_by f (chunk_named bytes (answer (address_in x.key (records v)))) = ap (λ a. sum_by f (chunk_named bytes a)) (in_leaf-is x.key (records v)) in
          omega (arith, now, was, same, recs, old, put_renews f bytes x (records v), sum_by-append f (chunk_named bytes (address_of v x.key)) (behind_of bytes w), sum_by-append f (chunk_of bytes x) (behind_of bytes v));
    }

-- ---- Records of one map

-- each key finds the same in both
abbrev SameMap : List Record → List Record → Type 0
SameMap rs ss = (key : Key) → answer (address_in key rs) ≡ answer (address_in key ss)

above_none : (key : Key) (rs : List Record) → AreAbove key rs → address_in key rs ≡ None
above_none key [] a = refl
above_none key (r ∷ rs) a =
    let l = All-head (λ (s : Record). key_below key s.key ≡ true) r rs a in
    in-past key r rs (below-not_back key r.key l) (above-not_equal key r.key l)

-- behind a record whose key is not below another there is no record of that
behind_none : (key : Key) (r : Record) (rs : List Record) → IsRising (r ∷ rs) → key_below r.key key ≡ false → address_in key rs ≡ None
behind_none key r rs h u =
    elim (side r.key key) [
      | under t ↦ absurd (let clash : true ≡ false = sym t ∙ u in cc)
      | here t e ↦ above_none key rs (subst (λ (k : Key). AreAbove k rs) (equal-is r.key key e) h.0)
      | past t e ↦ above_none key rs (above_all r.key key rs (above-from r.key key t e) h.0)
    ]

-- a record without an address is as good as none
drop_none : (r : Record) (rs : List Record) → IsRising (r ∷ rs) → r.address ≡ undefined → SameMap (r ∷ rs) rs
drop_none r rs h none key =
    elim (side r.key key) [
      | under t ↦ ap answer (in-under key r rs t)
      | here t e ↦ ap answer (in-here key r rs t e) ∙ none ∙ sym (ap answer (behind_none key r rs h t))
      | past t e ↦ ap answer (in-past key r rs t e) ∙ sym (ap answer (behind_none key r rs h t))
    ]

chunk_none : (f : Used → ℕ) (bytes : ℕ) (r : Record) (rs : List Record) → r.address ≡ undefined → chunks f bytes (r ∷ rs) ≡ chunks f bytes rs
chunk_none f bytes r rs e = omega (arith, chunks_cons f bytes r rs, none_named f bytes r.address e)

-- what is found at the key of the first record
at_first : (r : Record) (rs : List Record) → address_in r.key (r ∷ rs) ≡ Some r.address
at_first r rs = in-here r.key r rs (below-not_self r.key) (equal-self r.key)

-- two records of one key in front
both_first : (r s : Record) (rs ss : List Record) → IsRising (r ∷ rs) → IsRising (s ∷ ss) → r.key ≡ s.key → SameMap (r ∷ rs) (s ∷ ss) → SameMap rs ss
both_first r s rs ss h k e same key =
    elim (side r.key key) [
      | under t ↦ sym (ap answer (in-under key r rs t)) ∙ same key ∙ ap answer (in-under key s ss (ap (λ (q : Key). key_below q key) (sym e) ∙ t))
      | here t g ↦ ap answer (behind_none key r rs h t) ∙ sym (ap answer (behind_none key s ss k (ap (λ (q : Key). key_below q key) (sym e) ∙ t)))
      | past t g ↦ ap answer (behind_none key r rs h t) ∙ sym (ap answer (behind_none key s ss k (ap (λ (q : Key). key_below q key) (sym e) ∙ t)))
    ]

same_chunks : (n : ℕ) (f : Used → ℕ) (bytes : ℕ) (rs ss : List Record) → length rs + length ss ≤ n → IsRising rs → IsRising ss → SameMap rs ss → chunks f bytes rs ≡ chunks f bytes ss
same_chunks n f bytes [] [] few h k same = refl
same_chunks zero f bytes (r ∷ rs) ss few h k same = absurd (omega (arith, few))
same_chunks zero f bytes [] (s ∷ ss) few h k same = absurd (omega (arith, few))
same_chunks (suc n) f bytes (r ∷ rs) [] few h k same =
    let none : r.address ≡ undefined = sym (ap answer (at_first r rs)) ∙ same r.key in
    chunk_none f bytes r rs none ∙ same_chunks n f bytes rs [] (omega (arith, few)) h.1 k (λ key. sym (drop_none r rs h none key) ∙ same key)
same_chunks (suc n) f bytes [] (s ∷ ss) few h k same =
    let none : s.address ≡ undefined = sym (ap answer (at_first s ss)) ∙ sym (same s.key) in
    same_chunks n f bytes [] ss (omega (arith, few)) h k.1 (λ key. same key ∙ drop_none s ss k none key) ∙ sym (chunk_none f bytes s ss none)
same_chunks (suc n) f bytes (r ∷ rs) (s ∷ ss) few h k same =
    elim (side r.key s.key) [
      | under t ↦
          let none : r.address ≡ undefined = sym (ap answer (at_first r rs)) ∙ same r.key ∙ ap answer (in-past r.key s ss (below-not_back r.key s.key t) (above-not_equal r.key s.key t)) in
          chunk_none f bytes r rs none ∙ same_chunks n f bytes rs (s ∷ ss) (omega (arith, few)) h.1 k (λ key. sym (drop_none r rs h none key) ∙ same key)
      | here t e ↦
          let same_key = equal-is r.key s.key e in
          let same_address : r.address ≡ s.address = sym (ap answer (at_first r rs)) ∙ same r.key ∙ ap (λ (q : Key). answer (address_in q (s ∷ ss))) same_key ∙ ap answer (at_first s ss) in
          let ranges : sum_by f (chunk_of bytes r) ≡ sum_by f (chunk_of bytes s) = ap (λ a. sum_by f (chunk_named bytes a)) same_address in
          let rest = same_chunks n f bytes rs ss (omega (arith, few)) h.1 k.1 (both_first r s rs ss h k same_key same) in
          omega (arith, chunks_cons f bytes r rs, chunks_cons f bytes s ss, ranges, rest)
      | past t e ↦
          let back = above-from r.key s.key t e in
          let none : s.address ≡ undefined = sym (ap answer (at_first s ss)) ∙ sym (same s.key) ∙ ap answer (in-past s.key r rs t e) in
          same_chunks n f bytes (r ∷ rs) ss (omega (arith, few)) h k.1 (λ key. same key ∙ drop_none s ss k none key) ∙ sym (chunk_none f bytes s ss none)
    ]

pub same_behind : SameBehind
same_behind v w bytes i j nodes map f =
    let now = apart f bytes w.depth (capacity_of w.depth) w.root j.sound in
    let was = apart f bytes v.depth (capacity_of v.depth) v.root i.sound in
    let same : SameMap (records w) (records v) = λ key. sym (in_leaf-is key (records w)) ∙ map key ∙ in_leaf-is key (records v) in
    omega (arith, now, was, nodes f, same_chunks (length (records w) + length (records v)) f bytes (records w) (records v) (omega arith) j.rises i.rises same)
