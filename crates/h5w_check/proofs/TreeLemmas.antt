-- Visits of the nodes of a tree, behind other ranges and keys.
use Rattle.std.proofs.Common.{◌≡◌, ℕ, suc, ◌+◌, ◌-◌, ◌*◌, ◌^◌, ◌<◌, ◌≤◌, Bool, true, false, cond, not, ◌&&◌, List, [], ◌∷◌, ◌++◌, length, map, get_or, drop, Option, Some, None, Result, Ok, Err, refl, sym, ◌∙◌, ap, subst, append_assoc, arith, inl, inr}
use Rattle.std.specs.Prelude.{◌==◌, nat_lt, codes}
use Rattle.std.specs.List.{All}
use Rattle.std.proofs.lemmas.List.{append-nil, drop_all, drop-map, length-map}
use Rattle.std.proofs.lemmas.List.Elements.{All-drop, All-head}
use Rattle.std.proofs.lemmas.Bool.{cases_Bool, cases_lt, eqb-true, eqb-false, eq-eqb, ne_eqb}
use Rattle.h5w_model.specs.Numbers.{range, undefined}
use Rattle.h5w_model.specs.Blocks.{block_tests}
use Rattle.h5w_model.specs.Programs.{Prog, ret, whole, eval, and_then}
use Rattle.h5w_model.specs.Trees.{RecordFields, ChildFields, BtinFields, BthdFields, bthd_at, btlf_at, btin_at, btin_fields, bthd_len, btlf_len, btin_len, node_size, node_tests, child_tests, capacity_of}
use Rattle.h5w_model.specs.Datasets.{then_also}
use Rattle.h5w_model.specs.Findings.{Used, Finding, Visited, Under, found, chunk_ranges, are_rising, keys_of, joined, record_under, node_at, node_finding, children_under, node_visit, tree_visit, block_past_end, bad_index_header, bad_node, wrong_total, keys_not_rising}
use Rattle.h5w_model.specs.declared.cell.Key.{Key}
use Rattle.h5w_model.specs.declared.refusal.BlockFault.{BlockFault}
use Rattle.h5w_model.proofs.CheckedLemmas.{checked-passed}
use Rattle.h5w_laws.proofs.ProgramLemmas.{eval_and_then}
use Rattle.h5w_check.specs.Ranges.{after, put_after}
use Rattle.h5w_check.specs.Blocks.{block_found, decoded}
use Rattle.h5w_check.specs.Spans.{span_of, joined_spans, capped, ends_joined, in_order}
use Rattle.h5w_check.specs.Nodes.{Spanned, under_after, children_after, ended, records_after, add_found, leaf_found, inner_found, root_found, IsInner}
use Rattle.h5w_check.specs.declared.span.Span.{Span}
use Rattle.h5w_bt.specs.declared.records.Record.{Record}
use Rattle.h5w_bt.specs.declared.children.Child.{Child}
use Rattle.h5w_bt.specs.Parts.{record_of, child_of}
use Rattle.h5w_laws.proofs.NodeLemmas.{length-records_in, length-children_in, children_few}
use Rattle.h5w_check.proofs.RangeLemmas.{chunks_step, next_from}
use Rattle.h5w_check.proofs.SpanLemmas.{and_assoc, span_assoc, span_more}
use Rattle.h5w_check.proofs.ArrayLemmas.{run, run_block, run_decoded}

-- ---- Records

pub records_step : (end bytes : ℕ) (r : RecordFields) (rs : List RecordFields) (old : List Used) (s : Span)
    → records_after end bytes old s (r ∷ rs) ≡ then_also (put_after end bytes r.address old) (λ mid. records_after end bytes mid (joined_spans s (span_of (r.key ∷ []))) rs)
records_step end bytes r rs old s =
    ap (λ x. then_also x (λ mid. Ok (mid, joined_spans s (span_of (keys_of (r ∷ rs)))))) (chunks_step end bytes r.address (map (λ q. q.address) rs) old)
    ∙ then_twice (put_after end bytes r.address old) (λ mid. after mid (chunk_ranges end bytes (map (λ q. q.address) rs))) (λ mid. pair mid (joined_spans s (span_of (keys_of (r ∷ rs)))))
    ∙ ap (λ t. then_also (put_after end bytes r.address old) (λ m. then_also (after m (chunk_ranges end bytes (map (λ q. q.address) rs))) (λ mid. pair mid t)))
    (ap (joined_spans s) (span_more (r.key ∷ []) (keys_of rs)) ∙ sym (span_assoc s (span_of (r.key ∷ [])) (span_of (keys_of rs))))
  where
    pair : List Used → Span → Result Spanned Finding
    pair us t = Ok (us, t)

    then_twice : {A B C : Type 0} (x : Result A Finding) (f : A → Result B Finding) (g : B → Result C Finding) → then_also (then_also x f) g ≡ then_also x (λ a. then_also (f a) g)
    then_twice (Ok a) f g = refl
    then_twice (Err e) f g = refl

joined_none : (s : Span) → s.count < 2 ^ 128 → joined_spans s (span_of []) ≡ s
joined_none s few = λ i. record { count = count i; ends = ends s.ends i; rising = rising s.ends s.rising i }
  where
    count : capped (s.count + 0) ≡ s.count
    count = omega arith

    ends : (e : Option (Key × Key)) → ends_joined e None ≡ e
    ends None = refl
    ends (Some x) = refl

    rising : (e : Option (Key × Key)) (b : Bool) → (b && in_order e None && true) ≡ b
    rising None true = refl
    rising None false = refl
    rising (Some x) true = refl
    rising (Some x) false = refl

pub joined_fits : (a b : Span) → (joined_spans a b).count < 2 ^ 128
joined_fits a b = omega arith

pub total_same : (t n : ℕ) → t < 2 ^ 64 → (t == n) ≡ (t == capped n)
total_same t n low = elim (cases_Bool (t == n)) [
  | inl same ↦ let e : t ≡ n = eqb-true t n same in let k : t ≡ capped n = omega arith in same ∙ sym (eq-eqb t (capped n) k)
  | inr other ↦ let e : t ≡ n → ⊥ = eqb-false t n other in let k : t ≡ capped n → ⊥ = λ h. e (omega arith) in other ∙ sym (ne_eqb t (capped n) k)
]

abbrev spanned_at : List Used → Span → Result Spanned Finding
spanned_at us t = Ok (us, t)

abbrev with_totals : Bool → Spanned → Result (Bool × Spanned) Finding
with_totals b x = Ok (b, x)

abbrev added : Bool → List Used → Span → Result (Bool × Spanned) Finding
added totals us s = Ok (totals, (us, s))

last_given : (totals : Bool) (old : List Used) (s : Span) (total : ℕ) (r : Result Under Finding) → total < 2 ^ 64
    → children_after totals old s (then_also r (λ u. Ok ((total == length u.keys), u))) ≡ then_also (under_after old r) (λ x. Ok (totals && (total == x.1.count), (x.0, joined_spans s x.1)))
last_given totals old s total (Ok u) low = ap (λ b. added (totals && b) (old ++ u.ranges) (joined_spans s (span_of u.keys))) (total_same total (length u.keys) low)
last_given totals old s total (Err f) low = refl

pub child_last : (img : List ℕ) (end bytes : ℕ) (go : ChildFields → Prog (Result Under Finding)) (c : ChildFields) (cs : List ChildFields) (totals : Bool) (old : List Used) (s : Span) → c.total < 2 ^ 64
    → children_after totals old s (eval img (children_under end bytes go [] (c ∷ cs))) ≡ then_also (under_after old (eval img (go c))) (λ x. Ok (totals && (c.total == x.1.count), (x.0, joined_spans s x.1)))
child_last img end bytes go c cs totals old s low =
    ap (children_after totals old s) (eval_and_then img (go c) (λ u. ret (Ok ((c.total == length u.keys), u)))) ∙ last_given totals old s c.total (eval img (go c)) low

-- what stands behind a child and a record
rest_given : (totals : Bool) (old : List Used) (s : Span) (total : ℕ) (u : Under) (vs : List Used) (key : Key) (r : Result (Bool × Under) Finding) → total < 2 ^ 64
    → children_after totals old s (then_also r (λ rest. Ok (((total == length u.keys) && rest.0), joined u (joined (record { ranges = vs; keys = key ∷ [] }) rest.1))))
    ≡ children_after (totals && (total == capped (length u.keys))) ((old ++ u.ranges) ++ vs) (joined_spans (joined_spans s (span_of u.keys)) (span_of (key ∷ []))) r
rest_given totals old s total u vs key (Err f) low = refl
rest_given totals old s total u vs key (Ok rest) low =
    let ranges : old ++ (u.ranges ++ (vs ++ rest.1.ranges)) ≡ ((old ++ u.ranges) ++ vs) ++ rest.1.ranges =
    sym (append_assoc old u.ranges (vs ++ rest.1.ranges)) ∙ sym (append_assoc (old ++ u.ranges) vs rest.1.ranges) in
    let keys : joined_spans s (span_of (u.keys ++ ((key ∷ []) ++ rest.1.keys))) ≡ joined_spans (joined_spans (joined_spans s (span_of u.keys)) (span_of (key ∷ []))) (span_of rest.1.keys) =
    ap (joined_spans s) (span_more u.keys ((key ∷ []) ++ rest.1.keys) ∙ ap (joined_spans (span_of u.keys)) (span_more (key ∷ []) rest.1.keys))
    ∙ sym (span_assoc s (span_of u.keys) (joined_spans (span_of (key ∷ [])) (span_of rest.1.keys)))
    ∙ sym (span_assoc (joined_spans s (span_of u.keys)) (span_of (key ∷ [])) (span_of rest.1.keys)) in
    let b : (totals && ((total == length u.keys) && rest.0)) ≡ (totals && (total == capped (length u.keys)) && rest.0) =
    and_assoc totals (total == length u.keys) rest.0 ∙ ap (λ e. totals && e && rest.0) (total_same total (length u.keys) low) in
    ap (λ e. added e (old ++ (u.ranges ++ (vs ++ rest.1.ranges))) (joined_spans s (span_of (u.keys ++ ((key ∷ []) ++ rest.1.keys))))) b
    ∙ ap (λ us. added (totals && (total == capped (length u.keys)) && rest.0) us (joined_spans s (span_of (u.keys ++ ((key ∷ []) ++ rest.1.keys))))) ranges
    ∙ ap (added (totals && (total == capped (length u.keys)) && rest.0) (((old ++ u.ranges) ++ vs) ++ rest.1.ranges)) keys

record_given : (end bytes : ℕ) (totals : Bool) (old : List Used) (s : Span) (total : ℕ) (u : Under) (r : RecordFields) (rest : Result (Bool × Under) Finding) → total < 2 ^ 64
    → children_after totals old s (then_also (record_under end bytes r) (λ v. then_also rest (λ rest. Ok (((total == length u.keys) && rest.0), joined u (joined v rest.1)))))
    ≡ then_also (put_after end bytes r.address (old ++ u.ranges)) (λ mid. children_after (totals && (total == capped (length u.keys))) mid (joined_spans (joined_spans s (span_of u.keys)) (span_of (r.key ∷ []))) rest)
record_given end bytes totals old s total u r rest low =
    let chunk : Used = record { place = r.address; len = bytes; chunk = true } in
    let mid = old ++ u.ranges in
    let none : Result (List Used) Finding = Ok [] in
    let past : Result (List Used) Finding = Err (found 17 r.address) in
    let one : Result (List Used) Finding = Ok (chunk ∷ []) in
    let kept : Result (List Used) Finding = Ok mid in
    let more : Result (List Used) Finding = Ok (mid ++ chunk ∷ []) in
    let left : Result (List Used) Finding → Result (Bool × Spanned) Finding = λ us.
    children_after totals old s (then_also (then_also us (λ vs. under_ok (record { ranges = vs; keys = r.key ∷ [] }))) (λ v. then_also rest (λ rest. Ok (((total == length u.keys) && rest.0), joined u (joined v rest.1))))) in
    let right : List Used → Result (Bool × Spanned) Finding = λ us. children_after (totals && (total == capped (length u.keys))) us (joined_spans (joined_spans s (span_of u.keys)) (span_of (r.key ∷ []))) rest in
    elim (r.address == undefined) as (λ c. left (cond c none (cond (nat_lt end (r.address + bytes)) past one)) ≡ then_also (cond c kept (cond (nat_lt end (r.address + bytes)) past more)) right) [
      | true ↦ rest_given totals old s total u [] r.key rest low ∙ ap right (append-nil mid)
      | false ↦ elim (nat_lt end (r.address + bytes)) as (λ c. left (cond c past one) ≡ then_also (cond c past more) right) [
        | true ↦ refl
        | false ↦ rest_given totals old s total u (chunk ∷ []) r.key rest low
      ]
    ]
  where
    under_ok : Under → Result Under Finding
    under_ok v = Ok v

child_given : (end bytes : ℕ) (totals : Bool) (old : List Used) (s : Span) (total : ℕ) (given : Result Under Finding) (r : RecordFields) (rest : Result (Bool × Under) Finding) → total < 2 ^ 64
    → children_after totals old s (then_also given (λ u. then_also (record_under end bytes r) (λ v. then_also rest (λ rest. Ok (((total == length u.keys) && rest.0), joined u (joined v rest.1))))))
    ≡ then_also (under_after old given) (λ x. then_also (put_after end bytes r.address x.0) (λ mid. children_after (totals && (total == x.1.count)) mid (joined_spans (joined_spans s x.1) (span_of (r.key ∷ []))) rest))
child_given end bytes totals old s total (Ok u) r rest low = record_given end bytes totals old s total u r rest low
child_given end bytes totals old s total (Err f) r rest low = refl

pub child_more : (img : List ℕ) (end bytes : ℕ) (go : ChildFields → Prog (Result Under Finding)) (r : RecordFields) (rs : List RecordFields) (c : ChildFields) (cs : List ChildFields) (totals : Bool) (old : List Used) (s : Span) → c.total < 2 ^ 64
    → children_after totals old s (eval img (children_under end bytes go (r ∷ rs) (c ∷ cs)))
    ≡ then_also (under_after old (eval img (go c))) (λ x. then_also (put_after end bytes r.address x.0) (λ mid.
    children_after (totals && (c.total == x.1.count)) mid (joined_spans (joined_spans s x.1) (span_of (r.key ∷ []))) (eval img (children_under end bytes go rs cs))))
child_more img end bytes go r rs c cs totals old s low =
    let tail : Under → Under → Bool × Under → Prog (Result (Bool × Under) Finding) = λ u v rest. ret (Ok (((c.total == length u.keys) && rest.0), joined u (joined v rest.1))) in
    ap (children_after totals old s)
    (eval_and_then img (go c) (λ u. and_then (ret (record_under end bytes r)) (λ v. and_then (children_under end bytes go rs cs) (tail u v)))
    ∙ ap (then_also (eval img (go c))) (λ i u. eval_and_then img (ret (record_under end bytes r)) (λ v. and_then (children_under end bytes go rs cs) (tail u v)) i)
    ∙ ap (then_also (eval img (go c))) (λ i u. then_also (record_under end bytes r) (λ v. eval_and_then img (children_under end bytes go rs cs) (tail u v) i)))
    ∙ child_given end bytes totals old s c.total (eval img (go c)) r (eval img (children_under end bytes go rs cs)) low

pub children_end : (img : List ℕ) (end bytes : ℕ) (go : ChildFields → Prog (Result Under Finding)) (i : ℕ) (rs : List RecordFields) (cs : List ChildFields) (totals : Bool) (old : List Used) (s : Span)
    → length cs ≡ i → s.count < 2 ^ 128 → children_after totals old s (eval img (children_under end bytes go (drop i rs) (drop i cs))) ≡ Ok (totals, (old, s))
children_end img end bytes go i rs cs totals old s h few =
    ap (λ xs. children_after totals old s (eval img (children_under end bytes go (drop i rs) xs))) (drop_all i cs (omega arith))
    ∙ no_more (drop i rs)
  where
    and_true : (a : Bool) → (a && true) ≡ a
    and_true true = refl
    and_true false = refl

    no_more : (qs : List RecordFields) → children_after totals old s (eval img (children_under end bytes go qs [])) ≡ Ok (totals, (old, s))
    no_more qs =
        ap (λ b. added b (old ++ []) (joined_spans s (span_of []))) (and_true totals)
        ∙ ap (λ us. added totals us (joined_spans s (span_of []))) (append-nil old)
        ∙ ap (added totals old) (joined_none s few)

-- a record behind a child
add_given : {C : Type 0} (b : Bool) (t : Span) (r : Result (List Used) Finding) (f : Bool × Spanned → Result C Finding)
    → then_also (then_also (then_also r (λ mid. spanned_at mid t)) (λ x. with_totals b x)) f ≡ then_also r (λ mid. f (b, (mid, t)))
add_given b t (Ok us) f = refl
add_given b t (Err e) f = refl

given_cs : (img : List ℕ) (end bytes : ℕ) (go : ChildFields → Prog (Result Under Finding)) (totals : Bool) (old : List Used) (s : Span) → List RecordFields → List ChildFields → Result (Bool × Spanned) Finding
given_cs img end bytes go totals old s rs cs = children_after totals old s (eval img (children_under end bytes go rs cs))

-- what is left behind a child and the record behind it
abbrev pub child_rest : List ℕ → ℕ → ℕ → (ChildFields → Prog (Result Under Finding)) → List RecordFields → List ChildFields → Bool × Spanned → Result (Bool × Spanned) Finding
child_rest img end bytes go rs cs y = children_after y.0 y.1.0 y.1.1 (eval img (children_under end bytes go rs cs))

-- a child and the record behind it, of those that are left
pub child_next : (img : List ℕ) (end bytes : ℕ) (go : ChildFields → Prog (Result Under Finding)) (i : ℕ) (c : ChildFields) (rs : List RecordFields) (cs : List ChildFields) (totals : Bool) (old : List Used) (s : Span)
    → i < length cs → length cs ≡ length rs + 1 → c.total < 2 ^ 64 → drop i cs ≡ c ∷ drop (i + 1) cs
    → children_after totals old s (eval img (children_under end bytes go (drop i rs) (drop i cs)))
    ≡ then_also (under_after old (eval img (go c))) (λ x. then_also (add_found end bytes totals s c.total x.1 (drop i rs) x.0) (child_rest img end bytes go (drop (i + 1) rs) (drop (i + 1) cs)))
unfolding given_cs
child_next img end bytes go i c rs cs totals old s inside count low head =
    let first : children_after totals old s (eval img (children_under end bytes go (drop i rs) (drop i cs))) ≡ given_cs img end bytes go totals old s (drop i rs) (c ∷ drop (i + 1) cs) =
    ap (given_cs img end bytes go totals old s (drop i rs)) head in
    elim (cases_lt i (length rs)) [
      | inl more ↦
          let blank : RecordFields = record { address = 0; key = record { i = 0; j = 0 } } in
          let r = get_or rs i blank in
          let is : drop i rs ≡ r ∷ drop (i + 1) rs = next_from rs i blank more in
          first
          ∙ ap (λ qs. given_cs img end bytes go totals old s qs (c ∷ drop (i + 1) cs)) is
          ∙ child_more img end bytes go r (drop (i + 1) rs) c (drop (i + 1) cs) totals old s low
          ∙ sym (ap (then_also (under_after old (eval img (go c)))) (λ j x. add_given (totals && (c.total == x.1.count)) (joined_spans (joined_spans s x.1) (span_of (r.key ∷ []))) (put_after end bytes r.address x.0) (child_rest img end bytes go (drop (i + 1) rs) (drop (i + 1) cs)) j))
          ∙ ap (λ qs. then_also (under_after old (eval img (go c))) (λ x. then_also (add_found end bytes totals s c.total x.1 qs x.0) (child_rest img end bytes go (drop (i + 1) rs) (drop (i + 1) cs)))) (sym is)
      | inr none ↦
          let is : drop i rs ≡ [] = drop_all i rs none in
          first
          ∙ ap (λ qs. given_cs img end bytes go totals old s qs (c ∷ drop (i + 1) cs)) is
          ∙ child_last img end bytes go c (drop (i + 1) cs) totals old s low
          ∙ sym (ap (then_also (under_after old (eval img (go c)))) (λ j x. children_end img end bytes go (i + 1) rs cs (totals && (c.total == x.1.count)) x.0 (joined_spans s x.1) (omega arith) (joined_fits s x.1) j))
          ∙ ap (λ qs. then_also (under_after old (eval img (go c))) (λ x. then_also (add_found end bytes totals s c.total x.1 qs x.0) (child_rest img end bytes go (drop (i + 1) rs) (drop (i + 1) cs)))) (sym is)
    ]

-- ---- The end of a node

node_end : (at : ℕ) (totals : Bool) (u : Under) (old : List Used)
    → under_after old (node_finding at totals u) ≡ ended at totals ((old ++ record { place = at; len = node_size; chunk = false } ∷ []) ++ u.ranges) (span_of u.keys)
node_end p totals u old =
    let node : Used = record { place = p; len = node_size; chunk = false } in
    let short : Result Under Finding = Err (found wrong_total p) in
    let fallen : Result Under Finding = Err (found keys_not_rising p) in
    let lost : Result Spanned Finding = Err (found wrong_total p) in
    let down : Result Spanned Finding = Err (found keys_not_rising p) in
    let done : Result Spanned Finding = Ok ((old ++ node ∷ []) ++ u.ranges, span_of u.keys) in
    elim totals as (λ t. under_after old (cond t (cond (are_rising u.keys) (Ok (node_at p u)) fallen) short) ≡ cond (not t) lost (cond (not (are_rising u.keys)) down done)) [
      | false ↦ refl
      | true ↦ elim (are_rising u.keys) as (λ t. under_after old (cond t (Ok (node_at p u)) fallen) ≡ cond (not t) down done) [
        | false ↦ refl
        | true ↦ ap (λ us. spanned us (span_of u.keys)) (sym (append_assoc old (node ∷ []) u.ranges))
      ]
    ]
  where
    spanned : List Used → Span → Result Spanned Finding
    spanned us t = Ok (us, t)

end_given : (at : ℕ) (old : List Used) (r : Result (Bool × Under) Finding)
    → under_after old (then_also r (λ u. node_finding at u.0 u.1))
    ≡ then_also (children_after true (old ++ record { place = at; len = node_size; chunk = false } ∷ []) (span_of []) r) (λ y. ended at y.0 y.1.0 y.1.1)
end_given p old (Err f) = refl
end_given p old (Ok u) =
    node_end p u.0 u.1 old
    ∙ ap (ended p u.0 ((old ++ record { place = p; len = node_size; chunk = false } ∷ []) ++ u.1.ranges)) (span_more [] u.1.keys)

records_given : (at : ℕ) (old : List Used) (keys : List Key) (r : Result (List Used) Finding)
    → under_after old (then_also r (λ us. node_finding at true (record { ranges = us; keys = keys })))
    ≡ then_also (then_also (after (old ++ record { place = at; len = node_size; chunk = false } ∷ []) r) (λ mid. spanned_at mid (joined_spans (span_of []) (span_of keys)))) (λ x. ended at true x.0 x.1)
records_given p old keys (Err f) = refl
records_given p old keys (Ok us) =
    node_end p true (record { ranges = us; keys = keys }) old
    ∙ ap (ended p true ((old ++ record { place = p; len = node_size; chunk = false } ∷ []) ++ us)) (span_more [] keys)

-- ---- Over the records and children as they are held

next_mapped : {A B : Type 0} (f : A → B) (xs : List A) (i : ℕ) (d : A) → i < length xs → drop i (map f xs) ≡ f (get_or xs i d) ∷ drop (i + 1) (map f xs)
next_mapped f xs i d h =
    drop-map f i xs ∙ ap (map f) (next_from xs i d h) ∙ ap (λ ys. f (get_or xs i d) ∷ ys) (sym (drop-map f (i + 1) xs))

-- the head of what is left, by what is held
pub head_of : (cs : List ChildFields) (items : List Child) (i : ℕ) (d : Child) → map child_of items ≡ cs → i < length items → drop i cs ≡ child_of (get_or items i d) ∷ drop (i + 1) cs
head_of cs items i d e h = subst (λ xs. drop i xs ≡ child_of (get_or items i d) ∷ drop (i + 1) xs) e (next_mapped child_of items i d h)

pub held_length : (cs : List ChildFields) (items : List Child) → map child_of items ≡ cs → length cs ≡ length items
held_length cs items e = sym (ap length e) ∙ simp length-map

-- what holds of each child holds of the one that is held
pub child_fits : (depth : ℕ) (cs : List ChildFields) (items : List Child) (i : ℕ) (d : Child) → map child_of items ≡ cs → i < length items
    → All (λ (c : ChildFields). c.records ≤ capacity_of depth) cs → (get_or items i d).records ≤ capacity_of depth
child_fits depth cs items i d e h all =
    let P : ChildFields → Type 0 = λ c. c.records ≤ capacity_of depth in
    All-head P (child_of (get_or items i d)) (drop (i + 1) cs) (subst (All P) (head_of cs items i d e h) (All-drop P i cs all))

pub held_next : (end bytes i : ℕ) (d : Record) (rs : List Record) (old : List Used) (s : Span) → i < length rs
    → records_after end bytes old s (drop i (map record_of rs))
    ≡ then_also (put_after end bytes (get_or rs i d).address old) (λ mid. records_after end bytes mid (joined_spans s (span_of ((get_or rs i d).key ∷ []))) (drop (i + 1) (map record_of rs)))
held_next end bytes i d rs old s h =
    ap (λ xs. records_after end bytes old s xs) (next_mapped record_of rs i d h) ∙ records_step end bytes (record_of (get_or rs i d)) (drop (i + 1) (map record_of rs)) old s

add_one : (end bytes : ℕ) (b : Bool) (t : Span) (address : ℕ) (key : Key) (old : List Used) (r : Result (List Used) Finding)
    → then_also (then_also r (λ mid. spanned_at mid (joined_spans t (span_of (key ∷ []))))) (λ x. with_totals b x) ≡ then_also r (λ mid. with_totals b (mid, joined_spans t (span_of (key ∷ []))))
add_one end bytes b t address key old (Ok mid) = refl
add_one end bytes b t address key old (Err f) = refl

pub add_present : (end bytes : ℕ) (totals : Bool) (s : Span) (total : ℕ) (x : Span) (rs : List Record) (i : ℕ) (d : Record) (old : List Used) → i < length rs
    → add_found end bytes totals s total x (drop i (map record_of rs)) old
    ≡ then_also (put_after end bytes (get_or rs i d).address old) (λ mid. with_totals (totals && (total == x.count)) (mid, joined_spans (joined_spans s x) (span_of ((get_or rs i d).key ∷ []))))
add_present end bytes totals s total x rs i d old h =
    ap (λ qs. add_found end bytes totals s total x qs old) (next_mapped record_of rs i d h)
    ∙ add_one end bytes (totals && (total == x.count)) (joined_spans s x) (get_or rs i d).address (get_or rs i d).key old (put_after end bytes (get_or rs i d).address old)

pub leaf_ok : (end bytes at n : ℕ) (b : List ℕ) (old : List Used) (rs : List RecordFields) → btlf_at b at n ≡ Ok rs
    → leaf_found end bytes at n b old ≡ then_also (records_after end bytes old (span_of []) rs) (λ x. ended at true x.0 x.1)
leaf_ok end bytes p n b old rs e = ap (leaf_by end bytes p n old) e
  where
    leaf_by : ℕ → ℕ → ℕ → ℕ → List Used → Result (List RecordFields) BlockFault → Result Spanned Finding
    leaf_by end bytes p n old r = elim r [ Ok rs ↦ then_also (records_after end bytes old (span_of []) rs) (λ x. ended p true x.0 x.1) | Err f ↦ Err (found bad_node p) ]

-- ---- A node

leaf_given : (img : List ℕ) (end bytes at n : ℕ) (old : List Used) (r : Result (List RecordFields) BlockFault)
    → under_after old (eval img (elim r as (λ _. Prog (Result Under Finding)) [
      | Ok rs ↦ ret (then_also (chunk_ranges end bytes (map (λ r. r.address) rs)) (λ us. node_finding at true (record { ranges = us; keys = keys_of rs })))
      | Err f ↦ ret (Err (found bad_node at))
    ]))
    ≡ elim r as (λ _. Result Spanned Finding) [
      | Ok rs ↦ then_also (records_after end bytes (old ++ record { place = at; len = node_size; chunk = false } ∷ []) (span_of []) rs) (λ x. ended at true x.0 x.1)
      | Err f ↦ Err (found bad_node at)
    ]
leaf_given img end bytes p n old (Ok rs) = records_given p old (keys_of rs) (chunk_ranges end bytes (map (λ r. r.address) rs))
leaf_given img end bytes p n old (Err f) = refl

pub node_leaf : (img : List ℕ) (old : List Used) (end bytes at n : ℕ)
    → under_after old (eval img (node_visit end bytes 0 at n)) ≡ then_also (block_found end at node_size (btlf_len n) old img) (λ x. leaf_found end bytes at n x.0 x.1)
node_leaf img old end bytes p n =
    let b = range img p (btlf_len n) in
    let there : List ℕ × List Used = (b, old ++ record { place = p; len = node_size; chunk = false } ∷ []) in
    let past : Prog (Result Under Finding) = ret (Err (found block_past_end p)) in
    let go : Prog (Result Under Finding) = whole p (btlf_len n) (λ b. elim (btlf_at b p n) as (λ _. Prog (Result Under Finding)) [
      | Ok rs ↦ ret (then_also (chunk_ranges end bytes (map (λ r. r.address) rs)) (λ us. node_finding p true (record { ranges = us; keys = keys_of rs })))
      | Err f ↦ ret (Err (found bad_node p))
    ]) in
    elim (nat_lt end (p + node_size)) as (λ c. under_after old (eval img (cond c past go)) ≡ then_also (cond c (Err (found block_past_end p)) (Ok there)) (λ x. leaf_found end bytes p n x.0 x.1)) [
      | true ↦ refl
      | false ↦ leaf_given img end bytes p n old (btlf_at b p n)
    ]

pub node_leaf_at : (img : List ℕ) (old : List Used) (end bytes depth at n : ℕ) → depth ≡ 0
    → under_after old (eval img (node_visit end bytes depth at n)) ≡ then_also (block_found end at node_size (btlf_len n) old img) (λ x. leaf_found end bytes at n x.0 x.1)
node_leaf_at img old end bytes depth p n e =
    subst (λ d. under_after old (eval img (node_visit end bytes d p n)) ≡ then_also (block_found end p node_size (btlf_len n) old img) (λ x. leaf_found end bytes p n x.0 x.1)) (sym e) (node_leaf img old end bytes p n)

-- what follows the fields of an inner node
abbrev pub inner_rest : List ℕ → ℕ → ℕ → ℕ → ℕ → List Used → BtinFields → Result Spanned Finding
inner_rest img end bytes depth at old t =
    then_also (children_after true old (span_of []) (eval img (children_under end bytes (λ c. node_visit end bytes depth c.address c.records) t.records t.children))) (λ y. ended at y.0 y.1.0 y.1.1)

inner_given : (img : List ℕ) (end bytes depth at n : ℕ) (old : List Used) (r : Result BtinFields BlockFault)
    → under_after old (eval img (elim r as (λ _. Prog (Result Under Finding)) [
      | Ok t ↦ and_then (children_under end bytes (λ c. node_visit end bytes depth c.address c.records) t.records t.children) (λ u. ret (node_finding at u.0 u.1))
      | Err f ↦ ret (Err (found bad_node at))
    ]))
    ≡ then_also (decoded bad_node at (λ t. t) r) (inner_rest img end bytes depth at (old ++ record { place = at; len = node_size; chunk = false } ∷ []))
inner_given img end bytes depth p n old (Err f) = refl
inner_given img end bytes depth p n old (Ok t) =
    ap (under_after old) (eval_and_then img (children_under end bytes (λ c. node_visit end bytes depth c.address c.records) t.records t.children) (λ u. ret (node_finding p u.0 u.1)))
    ∙ end_given p old (eval img (children_under end bytes (λ c. node_visit end bytes depth c.address c.records) t.records t.children))

node_suc : (img : List ℕ) (old : List Used) (end bytes depth at n : ℕ)
    → under_after old (eval img (node_visit end bytes (suc depth) at n))
    ≡ then_also (block_found end at node_size (btin_len n (suc depth)) old img) (λ x. then_also (inner_found at n (suc depth) x.0) (inner_rest img end bytes depth at x.1))
node_suc img old end bytes depth p n =
    let b = range img p (btin_len n (suc depth)) in
    let there : List ℕ × List Used = (b, old ++ record { place = p; len = node_size; chunk = false } ∷ []) in
    let past : Prog (Result Under Finding) = ret (Err (found block_past_end p)) in
    let go : Prog (Result Under Finding) = whole p (btin_len n (suc depth)) (λ b. elim (btin_at b p n (suc depth)) as (λ _. Prog (Result Under Finding)) [
      | Ok t ↦ and_then (children_under end bytes (λ c. node_visit end bytes depth c.address c.records) t.records t.children) (λ u. ret (node_finding p u.0 u.1))
      | Err f ↦ ret (Err (found bad_node p))
    ]) in
    elim (nat_lt end (p + node_size)) as (λ c. under_after old (eval img (cond c past go)) ≡ then_also (cond c (Err (found block_past_end p)) (Ok there)) (λ x. then_also (inner_found p n (suc depth) x.0) (inner_rest img end bytes depth p x.1))) [
      | true ↦ refl
      | false ↦ inner_given img end bytes depth p n old (btin_at b p n (suc depth))
    ]

pub node_inner : (img : List ℕ) (old : List Used) (end bytes depth at n : ℕ) → 0 < depth
    → under_after old (eval img (node_visit end bytes depth at n))
    ≡ then_also (block_found end at node_size (btin_len n depth) old img) (λ x. then_also (inner_found at n depth x.0) (inner_rest img end bytes (depth - 1) at x.1))
node_inner img old end bytes depth p n some =
    let e : depth ≡ suc (depth - 1) = omega arith in
    subst (λ d. under_after old (eval img (node_visit end bytes d p n)) ≡ then_also (block_found end p node_size (btin_len n d) old img) (λ x. then_also (inner_found p n d x.0) (inner_rest img end bytes (depth - 1) p x.1)))
    (sym e) (node_suc img old end bytes (depth - 1) p n)

-- ---- The header

abbrev pub root_rest : List ℕ → ℕ → ℕ → List Used → BthdFields → Result (List Used) Finding
root_rest img end bytes old t = run img old (cond (t.root == undefined) (ret (Ok [])) (and_then (node_visit end bytes t.depth t.root t.records) (λ u. ret (Ok u.ranges))))

pub tree_there : (img : List ℕ) (old : List Used) (end bytes at : ℕ)
    → run img old (tree_visit end bytes at) ≡ then_also (block_found end at bthd_len bthd_len old img) (λ x. then_also (root_found at x.0) (root_rest img end bytes x.1))
tree_there img old end bytes p =
    let go : BthdFields → Visited = λ t. cond (t.root == undefined) (ret (Ok [])) (and_then (node_visit end bytes t.depth t.root t.records) (λ u. ret (Ok u.ranges))) in
    let visit : List ℕ → Visited = λ b. elim (bthd_at b p) as (λ _. Visited) [ Ok t ↦ go t | Err f ↦ ret (Err (found bad_index_header p)) ] in
    run_block img old end p bthd_len visit
    ∙ ap (then_also (block_found end p bthd_len bthd_len old img)) (λ i x. run_decoded img x.1 bad_index_header p (λ (t : BthdFields). t) (bthd_at x.0 p) go i)

ranges_given : (old : List Used) (r : Result Under Finding) → after old (then_also r (λ u. Ok u.ranges)) ≡ then_also (under_after old r) (λ x. Ok x.0)
ranges_given old (Ok u) = refl
ranges_given old (Err f) = refl

pub tree_node : (img : List ℕ) (old : List Used) (end bytes : ℕ) (t : BthdFields)
    → run img old (and_then (node_visit end bytes t.depth t.root t.records) (λ u. ret (Ok u.ranges))) ≡ then_also (under_after old (eval img (node_visit end bytes t.depth t.root t.records))) (λ x. Ok x.0)
tree_node img old end bytes t =
    ap (after old) (eval_and_then img (node_visit end bytes t.depth t.root t.records) (λ u. ret (Ok u.ranges))) ∙ ranges_given old (eval img (node_visit end bytes t.depth t.root t.records))

-- ---- What decoders say

pub inner_formed : (b : List ℕ) (at n depth : ℕ) (t : BtinFields) → btin_at b at n depth ≡ Ok t → IsInner depth t
inner_formed b p n depth t h =
    let fields = btin_fields b n depth in
    let tests = block_tests (codes "BTIN") (btin_len n depth) b ++ node_tests b p ++ child_tests b p depth (n + 1) (6 + 24 * n) in
    let passed = checked-passed tests fields t h in
    subst (IsInner depth) passed.1 (record {
      count = length-children_in b depth (n + 1) (6 + 24 * n) ∙ ap (λ k. k + 1) (sym (length-records_in b n 6));
      few = children_few b p depth (n + 1) (6 + 24 * n) passed.0.1.1.1.1.1;
    })
