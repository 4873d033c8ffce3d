-- An attempt that finds the header as it was, or finds all behind one look.
use Rattle.std.proofs.Common.{◌≡◌, ◌≢◌, ℕ, zero, suc, ◌/◌, ◌<◌, ◌≤◌, Bool, true, false, cond, List, [], ◌∷◌, length, take, get_or, Option, Some, None, Result, Ok, Err, refl, sym, ◌∙◌, ap, arith, add-one}
use Rattle.std.specs.Prelude.{nat_eq, nat_lt, ◌&&◌}
use Rattle.std.specs.Cmp.Lexicographic.{pointwise}
use Rattle.std.proofs.Math.Seq.{take-length}
use Rattle.std.proofs.Math.ListN.{get_or-eq_default}
use Rattle.std.proofs.lemmas.Bool.{eq-eqb, eqb-true, le-ltb}
use Rattle.h5w_model.specs.Programs.{Prog, ret, whole, counted, stored, and_then, look_pieces, cut_up, below_end, Kept, kept_bytes, used, lowered}
use Rattle.h5w_model.specs.Numbers.{undefined}
use Rattle.h5w_model.specs.Datasets.{Described, dataset_from}
use Rattle.h5w_model.specs.Calls.{CallRules, rows_seen, known_table, same_cut, not_shrunk, needed_from, some_unknown, cut_header}
use Rattle.h5w_model.specs.Tables.{Reading, needed, needed_keys, limit_of}
use Rattle.h5w_model.specs.declared.refusal.ReadError.{ReadError}
use Rattle.h5w_model.specs.declared.refusal.ReadError.TheVariants.{Shrunk, TooManyChunks}
use Rattle.h5w_laws.proofs.AnswerLemmas.{unstored_dataset}
use Rattle.h5w_laws.proofs.NumberLemmas.{needed_count}
use Rattle.h5w_lookup.specs.Looks.{plain, with_store}
use Rattle.h5w_lookup.specs.Slots.{answered}
use Rattle.h5w_lookup.specs.Seen.{answer_of, IsHeaderOf}
use Rattle.h5w_reader.specs.Calling.{behind_rest}
use Rattle.h5w_reader.specs.Idle.{IsIdle}
use Rattle.h5w_reader.proofs.UnstoredLemmas.{unstored_then}
use Rattle.h5w_lookup.proofs.TableLemmas.{lacks_none, table_if}

-- ---- Answers

answer_ret : {A : Type 0} (p : Prog A) (a : A) → answer_of p ≡ Some a → p ≡ ret a
answer_ret (ret b) a h = let same : b ≡ a = cc in ap ret same
answer_ret (whole at len next) a h = absurd cc
answer_ret (counted at counts next) a h = absurd cc
answer_ret (stored kind at len next) a h = absurd cc

and_both : (a b : Bool) → a && b ≡ true → (a ≡ true) × (b ≡ true)
and_both true true h = (refl, refl)
and_both true false h = absurd cc
and_both false b h = absurd cc

pub pointwise_same : (xs ys : List ℕ) → pointwise nat_eq xs ys ≡ true → xs ≡ ys
pointwise_same [] [] h = refl
pointwise_same [] (y ∷ ys) h = absurd cc
pointwise_same (x ∷ xs) [] h = absurd cc
pointwise_same (x ∷ xs) (y ∷ ys) h =
    let both = and_both (nat_eq x y) (pointwise nat_eq xs ys) h in
    let first : x ≡ y = eqb-true x y both.0 in
    ap (λ z. z ∷ xs) first ∙ ap (λ (zs : List ℕ). y ∷ zs) (pointwise_same xs ys both.1)

-- ---- What is left behind what the header says

abbrev rest_by : CallRules → Option Reading → Described → Prog (Result Reading ReadError)
rest_by g known d =
    and_then (ret (not_shrunk (rows_seen known) d)) (λ d.
    and_then (needed_from g.limits (known_table known d) d) (answered g.place d))

behind_from : (g : CallRules) (v : List ℕ) → g.keeps ≡ 16 → behind_rest g v ≡ and_then (plain (dataset_from g.place v)) (λ d. with_store (rest_by g g.known d))
unfolding behind_rest
behind_from g v kept = rw kept (unstored_then 16 [] (dataset_from g.place v) (rest_by g g.known) (unstored_dataset g.place v))

same_itself : (d : Described) → same_cut d d ≡ true
same_itself d = rw (eq-eqb d.shape.cols d.shape.cols refl, eq-eqb d.layout.chunk_rows d.layout.chunk_rows refl, eq-eqb d.layout.chunk_cols d.layout.chunk_cols refl) refl

-- all is known
record IsAll (g : CallRules) (r : Reading) : Type 0 where
  place : r.place ≡ g.place
  few : needed r.dataset ≤ limit_of g.limits r.dataset.layout.index
  count : needed r.dataset ≡ length r.table
  defined : (i : ℕ) → i < length r.table → get_or r.table i undefined ≢ undefined

rest_all : (g : CallRules) (r : Reading) → IsAll g r → with_store (rest_by g (Some r) r.dataset) ≡ ret (Ok r)
rest_all g r all =
    let d = r.dataset in
    let rows = d.shape.rows in
    let unshrunk : nat_lt rows rows ≡ false = le-ltb rows rows (omega arith) in
    let beyond : get_or r.table (length r.table) undefined ≡ undefined = get_or-eq_default r.table undefined (let h : length r.table ≤ length r.table = omega arith in h) in
    let none : some_unknown r.table (needed_keys d) ≡ false = lacks_none r.table d (length r.table) all.defined beyond (let h : needed d ≤ length r.table = omega (arith, all.count) in h) in
    let keys : length (needed_keys d) ≡ length r.table = needed_count d ∙ all.count in
    ap (λ c. with_store (and_then (ret (cond c (Err (Shrunk rows rows)) (Ok d))) (λ d. and_then (needed_from g.limits (known_table (Some r) d) d) (answered g.place d)))) unshrunk
    ∙ ap (λ c. with_store (and_then (needed_from g.limits (cond c r.table []) d) (answered g.place d))) (same_itself d)
    ∙ ap (λ c. with_store (and_then (cond c (ret (Err (TooManyChunks (needed d) (limit_of g.limits d.layout.index)))) (table_if r.table d (needed_keys d) (some_unknown r.table (needed_keys d)))) (answered g.place d))) (le-ltb (limit_of g.limits d.layout.index) (needed d) all.few)
    ∙ ap (λ c. with_store (and_then (table_if r.table d (needed_keys d) c) (answered g.place d))) none
    ∙ ap (λ n. answered g.place d (take n r.table)) keys
    ∙ ap (answered g.place d) (take-length r.table)
    ∙ ap (λ p. answered p d r.table) (sym all.place)

whole_uncut : (o : Option ReadError) → ((e : ReadError) → o ≡ Some e → ⊥) → o ≡ None
whole_uncut None h = refl
whole_uncut (Some e) h = absurd (h e refl)

pub idle_is : (g : CallRules) (r : Reading) (v w : List ℕ) → g.keeps ≡ 16 → g.known ≡ Some r → v ≡ w → IsHeaderOf r.place r.dataset w → r.place ≡ g.place → needed r.dataset ≤ limit_of g.limits r.dataset.layout.index
    → needed r.dataset ≡ length r.table → ((i : ℕ) → i < length r.table → get_or r.table i undefined ≢ undefined) → IsIdle g v
idle_is g r v w kept known same seen place few count defined =
    let all : IsAll g r = record { place = place; few = few; count = count; defined = defined } in
    let said : answer_of (plain (dataset_from g.place v)) ≡ Some (Ok r.dataset) = rw (same, ← place) seen.said in
    record {
      reading = r;
      known = known;
      uncut = rw (same, ← place) (whole_uncut (cut_header r.place w) seen.uncut);
      settled = sym (behind_from g v kept
          ∙ ap (λ (p : Prog (Result Described ReadError)). and_then p (λ d. with_store (rest_by g g.known d))) (answer_ret (plain (dataset_from g.place v)) (Ok r.dataset) said)
          ∙ ap (λ k. with_store (rest_by g k r.dataset)) known
          ∙ rest_all g r all);
    }

-- ---- What one look said

record IsOf (at : ℕ) (d : Described) (r : Reading) : Type 0 where
  place : r.place ≡ at
  dataset : r.dataset ≡ d

of_answer : (at : ℕ) (d : Described) (t : List ℕ) (r : Reading) → answered at d t ≡ ret (Ok r) → IsOf at d r
of_answer at d t r h =
    let some : answer_of (answered at d t) ≡ Some (Ok r) = ap answer_of h in
    let same : (let x : Reading = record { place = at; dataset = d; table = t } in x) ≡ r = cc in
    record { place = ap (λ (x : Reading). x.place) (sym same); dataset = ap (λ (x : Reading). x.dataset) (sym same) }

pieces_answer : {A : Type 0} (fuel place len : ℕ) (next : List ℕ → Prog A) (a : A) → answer_of (look_pieces (suc fuel) place len [] next) ≡ Some a → answer_of (next []) ≡ Some a
pieces_answer fuel place zero next a h = h
pieces_answer fuel place (suc len) next a h = absurd cc

cut_answer : {A : Type 0} (place len : ℕ) (next : List ℕ → Prog A) (a : A) → answer_of (cut_up place len next) ≡ Some a → answer_of (next []) ≡ Some a
cut_answer {A} place len next a h = pieces_answer (below_end place len / 512) place (below_end place len) next a (rw (← add-one) h)

abbrev stored_in : ℕ → List Kept → ℕ → Described → ℕ → ℕ → ℕ → (List ℕ → Prog (Result (List ℕ) ReadError)) → Option (List ℕ) → Prog (Result Reading ReadError)
stored_in cap ks at d kind place len next o = elim o [
  | Some b ↦ lowered cap (used cap kind place len b ks) (and_then (next b) (answered at d))
  | None ↦ cut_up place len (λ b. lowered cap (used cap kind place len b ks) (and_then (next b) (answered at d)))
]

-- whatever is looked at for the addresses, place and dataset are told
table_of : (cap : ℕ) (ks : List Kept) (at : ℕ) (d : Described) (q : Prog (Result (List ℕ) ReadError)) (r : Reading) → answer_of (lowered cap ks (and_then q (answered at d))) ≡ Some (Ok r) → IsOf at d r
table_of cap ks at d (ret (Ok t)) r h = of_answer at d t r (answer_ret (answered at d t) (Ok r) h)
table_of cap ks at d (ret (Err e)) r h = absurd cc
table_of cap ks at d (whole place len next) r h = table_of cap ks at d (next []) r (cut_answer place len (λ b. lowered cap ks (and_then (next b) (answered at d))) (Ok r) h)
table_of cap ks at d (counted place counts next) r h = absurd cc
table_of cap ks at d (stored kind place len next) r h =
    elim (kept_bytes kind place len ks) as (λ o. answer_of (stored_in cap ks at d kind place len next o) ≡ Some (Ok r) → IsOf at d r) [
      | Some b ↦ λ k. table_of cap (used cap kind place len b ks) at d (next b) r k
      | None ↦ λ k. table_of cap (used cap kind place len [] ks) at d (next []) r (cut_answer place len (λ b. lowered cap (used cap kind place len b ks) (and_then (next b) (answered at d))) (Ok r) k)
    ] h

-- what is known of a header that was one look
pub record IsSaid (g : CallRules) (v : List ℕ) (r : Reading) : Type 0 where
  pub place_is : r.place ≡ g.place
  pub said : answer_of (plain (dataset_from g.place v)) ≡ Some (Ok r.dataset)

rest_of : (g : CallRules) (known : Option Reading) (d : Described) (c : Bool) (r : Reading)
    → answer_of (with_store (and_then (ret (cond c (Err (Shrunk (rows_seen known) d.shape.rows)) (Ok d))) (λ d. and_then (needed_from g.limits (known_table known d) d) (answered g.place d)))) ≡ Some (Ok r) → IsOf g.place d r
rest_of g known d true r h = absurd cc
rest_of g known d false r h = table_of 16 [] g.place d (needed_from g.limits (known_table known d) d) r h

said_by : (g : CallRules) (p : Prog (Result Described ReadError)) (r : Reading) → answer_of (and_then p (λ d. with_store (rest_by g g.known d))) ≡ Some (Ok r) → (r.place ≡ g.place) × (answer_of p ≡ Some (Ok r.dataset))
said_by g (ret (Ok d)) r h =
    let of = rest_of g g.known d (nat_lt d.shape.rows (rows_seen g.known)) r h in
    (of.place, ap (λ (x : Described). let q : Prog (Result Described ReadError) = ret (Ok x) in answer_of q) (sym of.dataset))
said_by g (ret (Err e)) r h = absurd cc
said_by g (whole at len next) r h = absurd cc
said_by g (counted at counts next) r h = absurd cc
said_by g (stored kind at len next) r h = absurd cc

pub settled_said : (g : CallRules) (v : List ℕ) (r : Reading) → g.keeps ≡ 16 → ret (Ok r) ≡ behind_rest g v → IsSaid g v r
settled_said g v r kept h =
    let said = said_by g (plain (dataset_from g.place v)) r (ap answer_of (sym (h ∙ behind_from g v kept))) in
    record { place_is = said.0; said = said.1 }

uncut_whole : (o : Option ReadError) → o ≡ None → (e : ReadError) → o ≡ Some e → ⊥
uncut_whole o none e h = cc

-- so that much is the header
pub header_of : (g : CallRules) (v : List ℕ) (r : Reading) → g.keeps ≡ 16 → cut_header g.place v ≡ None → ret (Ok r) ≡ behind_rest g v → IsHeaderOf r.place r.dataset v
header_of g v r kept uncut h =
    let is = settled_said g v r kept h in
    rw is.place_is (record { uncut = uncut_whole (cut_header g.place v) uncut; said = is.said })
