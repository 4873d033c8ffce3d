-- How many looks a call for rows takes, whatever the looks give.
use Rattle.std.proofs.Common.{◌≡◌, ◌⊎◌, ℕ, zero, suc, ◌+◌, ◌-◌, ◌*◌, ◌≤◌, Bool, true, false, cond, List, [], ◌∷◌, ◌++◌, length, take, drop, Option, None, Some, Result, Ok, Err, refl, sym, ap, subst, inl, inr, arith}
use Rattle.std.specs.Prelude.{nat_lt, nat_eq, if◌then◌else◌}
use Rattle.std.specs.Cmp.Lexicographic.{pointwise}
use Rattle.std.proofs.lemmas.Bool.{cond_both, le-ltb, ltb-false}
use Rattle.std.proofs.lemmas.List.{append-nil, take-append-drop}
use Rattle.h5w_model.specs.Programs.{Prog, ret, bind, and_then, below_end, Kept, lowered, Look, Takes}
use Rattle.h5w_model.specs.Headers.{header_view}
use Rattle.h5w_model.specs.Datasets.{Described, dataset_from, dataset_place}
use Rattle.h5w_model.specs.Tables.{Limits, Reading, format_limits, limit_of, needed, needed_keys}
use Rattle.h5w_model.specs.Calls.{CallRules, rows_seen, known_table, table_from, needed_from, header_look, cut_header, not_shrunk, again, is_settled, behind_header, one_attempt, attempts_from, rows_call, open_rules, open_call}
use Rattle.h5w_model.specs.declared.cell.IndexKind.{IndexKind}
use Rattle.h5w_model.specs.declared.cell.IndexKind.TheVariants.{Array, Tree}
use Rattle.h5w_model.specs.declared.refusal.ReadError.{ReadError}
use Rattle.h5w_model.specs.declared.refusal.ReadError.TheVariants.{Shrunk, TooManyChunks}
use Rattle.h5w_laws.specs.Programs.{lowered_leaving, looks_on}
use Rattle.h5w_laws.proofs.LookLemmas.{takes_whole, takes_ret, takes_split, takes_bind, lowered_in_turn}
use Rattle.h5w_laws.proofs.LoweringLemmas.{lowered_is}
use Rattle.h5w_reader_laws.proofs.BlockLemmas.{onward}
use Rattle.h5w_reader_laws.proofs.AttemptLemmas.{unless_cut, ends_with}
use Rattle.h5w_reader_laws.proofs.KeyLemmas.{keys_named}
use Rattle.h5w_reader_laws.proofs.CountLemmas.{AtMost, AnyOf, IsAnswered, any_answered, at_most_more}
use Rattle.h5w_reader_laws.proofs.DescentLemmas.{table_looks}
use Rattle.h5w_reader_laws.proofs.EndLemmas.{completed, plain_rows, plain_open}
use Rattle.h5w_script_laws.specs.Attempts.{AreLimits, looked_up, LooksBehind, AttemptTakes, AttemptsTake, RowsTake, PlaceTakes, OpenTakes, LooksOfAttempts}
use Rattle.h5w_script_laws.proofs.WithinLemmas.{Costs, within_takes, costs_more, costs_then, costs_at_most, lowered_within}

-- ---- Behind what a header says

limit_few : (limits : Limits) (kind : IndexKind) → AreLimits limits → limit_of limits kind ≤ limit_of format_limits kind
limit_few limits Array h = h.array
limit_few limits Tree h = h.tree

abbrev answered_with : ℕ → Described → List ℕ → Prog (Result Reading ReadError)
answered_with at d t = ret (Ok (record { place = at; dataset = d; table = t }))

abbrev too_many : Limits → Described → Prog (Result (List ℕ) ReadError)
too_many limits d = ret (Err (TooManyChunks (needed d) (limit_of limits d.layout.index)))

-- the addresses of the needed chunks, within the limits or not
table_few : (limits : Limits) (known : List ℕ) (d : Described) (many : Bool) → nat_lt (limit_of limits d.layout.index) (needed d) ≡ many → AreLimits limits
    → AtMost AnyOf (21 * (if many then 0 else needed d)) (if many then too_many limits d else table_from known d (needed_keys d))
table_few limits known d true e h = tt
table_few limits known d false e h =
    let few : needed d ≤ limit_of limits d.layout.index = ltb-false (limit_of limits d.layout.index) (needed d) e in
    at_most_more AnyOf (21 * needed d - 1) (21 * needed d) (table_from known d (needed_keys d)) (omega arith) (table_looks d known (keys_named d (le-ltb (limit_of format_limits d.layout.index) (needed d) (omega (arith, limit_few limits d.layout.index h)))))

abbrev pub described_with : CallRules → Described → Prog (Result Reading ReadError)
described_with g d =
    and_then (ret (not_shrunk (rows_seen g.known) d)) (λ d. and_then (needed_from g.limits (known_table g.known d) d) (answered_with g.place d))

-- behind what a header says, with what is known of the answer
pub described_costs : (g : CallRules) (d : Described) (P : Reading → Type 0) → AreLimits g.limits → ((t : List ℕ) → P (record { place = g.place; dataset = d; table = t }))
    → Costs (IsAnswered P) (21 * looked_up g.limits (Ok d)) (described_with g d)
described_costs g d P h each =
    let n : ℕ = 21 * looked_up g.limits (Ok d) in
    let seen : ℕ = rows_seen g.known in
    let found : Prog (Result (List ℕ) ReadError) = needed_from g.limits (known_table g.known d) d in
    let table : Described → Prog (Result Reading ReadError) = λ d. and_then (needed_from g.limits (known_table g.known d) d) (answered_with g.place d) in
    let few : AtMost AnyOf n found = table_few g.limits (known_table g.known d) d (nat_lt (limit_of g.limits d.layout.index) (needed d)) refl h in
    let reads : Costs (IsAnswered P) n (table d) =
    costs_more (IsAnswered P) (n + 0) n (table d) (omega arith)
    (costs_then AnyOf P n 0 found (answered_with g.place d) (costs_at_most (IsAnswered AnyOf) n found (any_answered n found few)) (λ t any. each t)) in
    cond_both (nat_lt d.shape.rows seen) (Err (Shrunk seen d.shape.rows)) (Ok d) (λ (r : Result Described ReadError). Costs (IsAnswered P) n (onward table r)) (λ t. tt) (λ t. reads)

header_few : (g : CallRules) (r : Result Described ReadError) (ks : List Kept) (ls : List Look) (a : Result Reading ReadError) → AreLimits g.limits
    → Takes (lowered g.keeps ks (onward (described_with g) r)) ls a → length ls ≤ 21 * looked_up g.limits r
header_few g (Ok d) ks ls a h takes =
    let n : ℕ = 21 * looked_up g.limits (Ok d) in
    let p : Prog (Result Reading ReadError) = described_with g d in
    within_takes (IsAnswered AnyOf) n (lowered g.keeps ks p) (lowered_within (IsAnswered AnyOf) n g.keeps ks p (described_costs g d AnyOf h (λ t. tt))) ls (ret a) takes
header_few g (Err e) ks ls a h takes = let none : length ls ≡ 0 = ap length (takes_ret _ ls a takes).0 in omega arith

-- what is answered where the store that is left is answered too
leaving_takes : {A : Type 0} (cap : ℕ) (p : Prog A) (ls : List Look) (left : A × List Kept) → Takes (lowered_leaving cap [] p) ls left → Takes (lowered cap [] p) ls left.0
leaving_takes {A} cap p ls left h =
    let forgets : A × List Kept → Prog A = λ l. ret l.0 in
    let both : Takes (bind (lowered_leaving cap [] p) forgets) (ls ++ []) left.0 = takes_bind (lowered_leaving cap [] p) forgets ls [] left left.0 h refl in
    subst (λ (q : Prog A). Takes q ls left.0) (sym (lowered_is cap [] p))
    (subst (λ (ms : List Look). Takes (bind (lowered_leaving cap [] p) forgets) ms left.0) (append-nil ls) both)

behind_few : (g : CallRules) (v : List ℕ) (ls : List Look) (a : Result Reading ReadError) → AreLimits g.limits → Takes (lowered g.keeps [] (behind_header g v)) ls a → LooksBehind g v ls
behind_few g v ls a h takes =
    let s = lowered_in_turn g.keeps [] (dataset_from g.place v) (onward (described_with g)) ls a takes in
    record {
      continued = take s.first_looks ls;
      chunks = drop s.first_looks ls;
      are = take-append-drop s.first_looks ls;
      header = s.left.0;
      says = leaving_takes g.keeps (dataset_from g.place v) (take s.first_looks ls) s.left s.first;
      few = header_few g s.left.0 s.left.1 (drop s.first_looks ls) a h s.second;
    }

-- ---- An attempt

-- a look at the header, and those behind it
abbrev LastLook : (List ℕ → List Look → Type 0) → List Look → Type 0
LastLook after ls = (ls ≡ []) ⊎ ((l : Look) × (more : List Look) × (ls ≡ l ∷ more) × ((more ≡ []) ⊎ after (header_view l.bytes) more))

-- what comes next takes such looks
abbrev IsNext : (List ℕ → List Look → Type 0) → (List ℕ → Prog (Result Reading ReadError)) → Type 0
IsNext after next = (w : List ℕ) (ls : List Look) (a : Result Reading ReadError) → Takes (next w) ls a → after w ls

-- behind a last look that found this header
behind_last : (after : List ℕ → List Look → Type 0) (next : List ℕ → Prog (Result Reading ReadError)) (v w : List ℕ) (cut : Option ReadError) (left : Result Reading ReadError) (ls : List Look)
    (a : Result Reading ReadError) → IsNext after next → Takes (unless_cut cut (ends_with v next left w)) ls a → (ls ≡ []) ⊎ after w ls
behind_last after next v w (Some e) left ls a h takes = inl (takes_ret (Err e) ls a takes).0
behind_last after next v w None left ls a h takes =
    cond_both (pointwise nat_eq w v) (ret left) (next w) (λ (x : Prog (Result Reading ReadError)). Takes x ls a → (ls ≡ []) ⊎ after w ls)
    (λ t s. inl (takes_ret left ls a s).0)
    (λ t s. inr (h w ls a s))
    takes

last_look : (after : List ℕ → List Look → Type 0) (next : List ℕ → Prog (Result Reading ReadError)) (place : ℕ) (v : List ℕ) (left : Result Reading ReadError) (ls : List Look) (a : Result Reading ReadError)
    → IsNext after next → Takes (header_look place (λ w. unless_cut (cut_header place w) (ends_with v next left w))) ls a → LastLook after ls
last_look after next place v left [] a h takes = inl refl
last_look after next place v left (l ∷ ls) a h takes =
    let now = takes_whole place (below_end place 512) (λ b. unless_cut (cut_header place (header_view b)) (ends_with v next left (header_view b))) l ls a takes in
    inr (l, ls, refl, behind_last after next v (header_view l.bytes) (cut_header place (header_view l.bytes)) left ls a h now.1)

attempt_few : (g : CallRules) (after : List ℕ → List Look → Type 0) (next : List ℕ → Prog (Result Reading ReadError)) (v : List ℕ) (ls : List Look) (a : Result Reading ReadError)
    → AreLimits g.limits → IsNext after next → Takes (one_attempt g next v) ls a → AttemptTakes g after v ls
attempt_few g after next v ls a h n takes = by_cut (cut_header g.place v) takes
  where
    confirms : Result Reading ReadError → Prog (Result Reading ReadError)
    confirms answer = header_look g.place (λ w. unless_cut (cut_header g.place w) (ends_with v next answer w))

    inner : Prog (Result Reading ReadError)
    inner = lowered g.keeps [] (behind_header g v)

    by_cut : (o : Option ReadError) → Takes (unless_cut o (cond (is_settled inner) inner (bind inner confirms))) ls a → AttemptTakes g after v ls
    by_cut (Some e) s = record { behind = []; rest = ls; are = refl; first = inl refl; last = inl (takes_ret (Err e) ls a s).0 }
    by_cut None s =
        cond_both (is_settled inner) inner (bind inner confirms) (λ (x : Prog (Result Reading ReadError)). Takes x ls a → AttemptTakes g after v ls)
        (λ t settled. record { behind = ls; rest = []; are = append-nil ls; first = inr (behind_few g v ls a h settled); last = inl refl })
        (λ t both.
        let parts = takes_split inner confirms ls a both in
        record {
          behind = take parts.first_looks ls;
          rest = drop parts.first_looks ls;
          are = take-append-drop parts.first_looks ls;
          first = inr (behind_few g v (take parts.first_looks ls) parts.left h parts.first);
          last = last_look after next g.place v parts.left (drop parts.first_looks ls) a n parts.second;
        })
        s

attempts_few : (more : ℕ) (g : CallRules) (v : List ℕ) (ls : List Look) (a : Result Reading ReadError) → AreLimits g.limits → Takes (attempts_from g more v) ls a → AttemptsTake more g v ls
attempts_few zero g v ls a h takes =
    attempt_few g (λ w more. more ≡ []) (λ w. ret (Err (again g v w))) v ls a h (λ w ms b s. (takes_ret (Err (again g v w)) ms b s).0) takes
attempts_few (suc more) g v ls a h takes =
    attempt_few g (λ w ms. AttemptsTake more g w ms) (attempts_from g more) v ls a h (λ w ms b s. attempts_few more g w ms b h s) takes

-- ---- A call

rows_few : (g : CallRules) (ls : List Look) (a : Result Reading ReadError) → AreLimits g.limits → Takes (rows_call g) ls a → RowsTake g ls
rows_few g [] a h takes = cc
rows_few g (l ∷ ls) a h takes =
    let now = takes_whole g.place (below_end g.place 512) (λ b. attempts_from g (g.attempts - 1) (header_view b)) l ls a takes in
    (l, ls, refl, attempts_few (g.attempts - 1) g (header_view l.bytes) ls a h now.1)

place_few : (rules : ℕ → CallRules) (r : Result ℕ ReadError) (ls : List Look) (a : Result Reading ReadError) → ((at : ℕ) → AreLimits (rules at).limits)
    → Takes (onward (λ at. rows_call (rules at)) r) ls a → PlaceTakes rules ls r
place_few rules (Ok at) ls a h takes = rows_few (rules at) ls a (h at) takes
place_few rules (Err e) ls a h takes = (takes_ret _ ls a takes).0

open_few : (limits : Limits) (keeps attempts : ℕ) (name : List ℕ) (ls : List Look) (a : Result Reading ReadError) → AreLimits limits
    → Takes (open_call limits keeps attempts name) ls a → OpenTakes limits keeps attempts name ls
open_few limits keeps attempts name ls a h takes =
    let rules : ℕ → CallRules = open_rules limits keeps attempts in
    let s = takes_split (lowered keeps [] (dataset_place name)) (onward (λ at. rows_call (rules at))) ls a takes in
    record {
      way = take s.first_looks ls;
      rest = drop s.first_looks ls;
      are = take-append-drop s.first_looks ls;
      place = s.left;
      says = s.first;
      behind = place_few rules s.left (drop s.first_looks ls) a (λ at. h) s.second;
    }

pub looks_of_attempts : LooksOfAttempts
looks_of_attempts = record {
  rows = rows_few;
  opens = open_few;
  rows_end = λ g ls q e. (looks_on [] q, _, completed [] (rows_call g) ls q (plain_rows g) e);
  opens_end = λ limits keeps attempts name ls q e. (looks_on [] q, _, completed [] (open_call limits keeps attempts name) ls q (plain_open limits keeps attempts name) e);
}
