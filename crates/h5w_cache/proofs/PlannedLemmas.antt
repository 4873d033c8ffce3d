-- A store whose changed blocks were planned.
use Rattle.std.proofs.Common.{◌≡◌, ℕ, zero, suc, ◌+◌, ◌<◌, ◌≤◌, ◌^◌, ◌==◌, Bool, true, false, cond, not, List, [], ◌∷◌, length, get_or, set, refl, sym, ap, subst, ◌∙◌, inl, inr, ◌⊎◌, arith}
use Rattle.std.proofs.lemmas.List.{get_or-set_same, get_or-set_other, length-set, get_or_past, length-map}
use Rattle.std.proofs.lemmas.List.Elements.{All-cons, All-nil, All-head, All-tail}
use Rattle.std.proofs.lemmas.List.Sums.{sum_by-cons, sum_by-set}
use Rattle.std.proofs.lemmas.List.Sorted.{sum_by-IsPermutation, length_permutation}
use Rattle.std.proofs.lemmas.Bool.{cases_eq, eq-eqb, ne_eqb, cases_lt}
use Rattle.std.specs.Prelude.{Option, Some, None, IsSome, IsSomeAnd, IfSome, is_some}
use Rattle.std.specs.Option.{option_map}
use Rattle.std.specs.List.{All, count_by}
use Rattle.std.specs.List.Sorted.{IsPermutation}
use Rattle.h5w_model.specs.Numbers.{undefined}
use Rattle.h5w_space.specs.Space.{Space}
use Rattle.h5w_cache.specs.declared.moves.Move.{Move}
use Rattle.h5w_cache.specs.Blocks.{BlockView, spelled}
use Rattle.h5w_cache.specs.Stores.{IsStore, FitsAddresses, place_in, times}
use Rattle.h5w_cache.specs.Plans.{AreMoves, Chain, IsMove, IsWritten, Placed, block_in, bytes_in, bytes_of, cleaned, moved, numbers, respelled, stays}

-- ---- Numbers in a list

pub times-same : (n k : ℕ) (ks : List ℕ) → k ≡ n → times n (k ∷ ks) ≡ 1 + times n ks
times-same n k ks e = sum_by-cons (λ (m : ℕ). cond (m == n) 1 0) k ks ∙ ap (λ b. cond b 1 0 + times n ks) (eq-eqb k n e)

pub times-other : (n k : ℕ) (ks : List ℕ) → (k ≡ n → ⊥) → times n (k ∷ ks) ≡ times n ks
times-other n k ks e = sum_by-cons (λ (m : ℕ). cond (m == n) 1 0) k ks ∙ ap (λ b. cond b 1 0 + times n ks) (ne_eqb k n e) ∙ (let z : 0 + times n ks ≡ times n ks = omega arith in z)

pub times-more : (n k : ℕ) (ks : List ℕ) → times n ks ≤ times n (k ∷ ks)
times-more n k ks = let e = sum_by-cons (λ (m : ℕ). cond (m == n) 1 0) k ks in omega arith

pub Chain-all : {S M : Type 0} (R : S → M → S → Type 0) (P : M → Type 0) → ((a : S) (m : M) (b : S) → R a m b → P m) → (s : S) (ms : List M) (t : S) → Chain R s ms t → All P ms
Chain-all R P says s [] t h = All-nil P
Chain-all R P says s (m ∷ ms) t h = All-cons P m ms (says s m h.0 h.1) (Chain-all R P says h.0 ms t h.2)

pub kept_inside : (blocks : List (Option BlockView)) (n : ℕ) → IsSome (block_in blocks n) → n < length blocks
kept_inside blocks n h =
    elim (cases_lt n (length blocks)) [
      | inl lt ↦ lt
      | inr ge ↦ let e : block_in blocks n ≡ None = get_or_past blocks n None (omega arith) in absurd (cc)
    ]

pub moves_inside : (blocks : List (Option BlockView)) (places : List ℕ) (s : Space) (ms : List Move) (t : Space) → AreMoves blocks places s ms t → All (λ (m : Move). m.number < length blocks) ms
moves_inside blocks places s ms t h = Chain-all (IsMove blocks places) (λ (m : Move). m.number < length blocks) (λ a m b step. kept_inside blocks m.number step.kept) s ms t h

-- ---- The lists after moves

pub length-moved : (ms : List Move) (places : List ℕ) → length (moved ms places) ≡ length places
length-moved [] places = refl
length-moved (m ∷ ms) places = length-moved ms (set places m.number m.new) ∙ length-set places m.number m.new

pub length-cleaned : (ms : List Move) (marks : List Bool) → length (cleaned ms marks) ≡ length marks
length-cleaned [] marks = refl
length-cleaned (m ∷ ms) marks = length-cleaned ms (set marks m.number false) ∙ length-set marks m.number false

pub length-respelled : (f : ℕ → ℕ) (ms : List Move) (blocks : List (Option BlockView)) → length (respelled f ms blocks) ≡ length blocks
length-respelled f [] blocks = refl
length-respelled f (m ∷ ms) blocks = length-respelled f ms (set blocks m.number (option_map (spelled f) (block_in blocks m.number))) ∙ length-set blocks m.number (option_map (spelled f) (block_in blocks m.number))

pub listed : (ms : List Move) (i : ℕ) (d : Move) → i < length ms → 0 < times (get_or ms i d).number (numbers ms)
listed [] i d h = absurd (omega arith)
listed (m ∷ ms) zero d h = let t = times-same m.number m.number (numbers ms) refl in omega arith
listed (m ∷ ms) (suc i) d h =
    let go = listed ms i d (omega arith) in
    elim (cases_eq m.number (get_or ms i d).number) [
      | inl e ↦ let t = times-same (get_or ms i d).number m.number (numbers ms) e in omega arith
      | inr ne ↦ let t = times-other (get_or ms i d).number m.number (numbers ms) ne in omega arith
    ]

-- what stands at an index that is set to it
set_there : {A : Type 0} (xs : List A) (i : ℕ) (a d : A) → a ≡ d ⊎ (i < length xs) → get_or (set xs i a) i d ≡ a
set_there xs i a d (inr lt) = get_or-set_same xs i a d lt
set_there xs i a d (inl e) =
    elim (cases_lt i (length xs)) [
      | inl lt ↦ get_or-set_same xs i a d lt
      | inr ge ↦ get_or_past (set xs i a) i d (omega (arith, length-set xs i a)) ∙ sym e
    ]

pub cleaned-off : (ms : List Move) (marks : List Bool) (n : ℕ) → (get_or marks n false ≡ false) ⊎ (0 < times n (numbers ms)) → get_or (cleaned ms marks) n false ≡ false
cleaned-off [] marks n (inl e) = e
cleaned-off [] marks n (inr h) = absurd (omega arith)
cleaned-off (m ∷ ms) marks n h =
    elim (cases_eq m.number n) [
      | inl e ↦ cleaned-off ms (set marks m.number false) n (inl (subst (λ k. get_or (set marks m.number false) k false ≡ false) e (set_there marks m.number false false (inl refl))))
      | inr ne ↦
          let kept : get_or (set marks m.number false) n false ≡ get_or marks n false = get_or-set_other marks m.number n false false (λ q. ne (sym q)) in
          let t = times-other n m.number (numbers ms) ne in
          cleaned-off ms (set marks m.number false) n (elim h as (λ _. (get_or (set marks m.number false) n false ≡ false) ⊎ (0 < times n (numbers ms))) [ inl e ↦ inl (kept ∙ e) | inr lt ↦ inr (omega arith) ])
    ]

pub moved-other : (ms : List Move) (places : List ℕ) (n : ℕ) → times n (numbers ms) ≡ 0 → place_in (moved ms places) n ≡ place_in places n
moved-other [] places n h = refl
moved-other (m ∷ ms) places n h =
    elim (cases_eq m.number n) [
      | inl e ↦ let t = times-same n m.number (numbers ms) e in absurd (omega arith)
      | inr ne ↦
          let t = times-other n m.number (numbers ms) ne in
          moved-other ms (set places m.number m.new) n (omega arith) ∙ get_or-set_other places m.number n m.new undefined (λ q. ne (sym q))
    ]

pub moved-one : (ms : List Move) (places : List ℕ) (i : ℕ) (d : Move) → i < length ms → (get_or ms i d).number < length places → times (get_or ms i d).number (numbers ms) ≤ 1
    → place_in (moved ms places) (get_or ms i d).number ≡ (get_or ms i d).new
moved-one [] places i d h inside once = absurd (omega arith)
moved-one (m ∷ ms) places zero d h inside once =
    let t = times-same m.number m.number (numbers ms) refl in
    moved-other ms (set places m.number m.new) m.number (omega arith) ∙ get_or-set_same places m.number m.new undefined inside
moved-one (m ∷ ms) places (suc i) d h inside once =
    let x : Move = get_or ms i d in
    let there : 0 < times x.number (numbers ms) = listed ms i d (omega arith) in
    elim (cases_eq m.number x.number) [
      | inl e ↦ let t = times-same x.number m.number (numbers ms) e in absurd (omega arith)
      | inr ne ↦
          let t = times-other x.number m.number (numbers ms) ne in
          moved-one ms (set places m.number m.new) i d (omega arith) (omega (arith, length-set places m.number m.new)) (omega arith)
    ]

-- what holds of each number and its place holds after moves
pub moved-keeps : (Q : ℕ → ℕ → Type 0) (ms : List Move) (places : List ℕ) → ((n : ℕ) → Q n (place_in places n)) → All (λ (m : Move). Q m.number m.new) ms → All (λ (m : Move). m.number < length places) ms → (n : ℕ) → Q n (place_in (moved ms places) n)
moved-keeps Q [] places before each inside n = before n
moved-keeps Q (m ∷ ms) places before each inside n =
    let here : m.number < length places = All-head (λ (x : Move). x.number < length places) m ms inside in
    let rest : All (λ (x : Move). x.number < length (set places m.number m.new)) ms =
    subst (λ k. All (λ (x : Move). x.number < k) ms) (sym (length-set places m.number m.new)) (All-tail (λ (x : Move). x.number < length places) m ms inside) in
    moved-keeps Q ms (set places m.number m.new)
    (λ k. elim (cases_eq k m.number) [
      | inl e ↦ subst (λ x. Q x (place_in (set places m.number m.new) x)) (sym e) (subst (Q m.number) (sym (get_or-set_same places m.number m.new undefined here)) (All-head (λ (x : Move). Q x.number x.new) m ms each))
      | inr ne ↦ subst (Q k) (sym (get_or-set_other places m.number k m.new undefined ne)) (before k)
    ])
    (All-tail (λ (x : Move). Q x.number x.new) m ms each) rest n

is_some_mapped : {A B : Type 0} (f : A → B) (o : Option A) → is_some (option_map f o) ≡ is_some o
is_some_mapped f None = refl
is_some_mapped f (Some x) = refl

-- what spelling leaves of a block, it leaves of all
respelled-as : {A : Type 0} (P : Option BlockView → A) (f : ℕ → ℕ) → ((o : Option BlockView) → P (option_map (spelled f) o) ≡ P o) → (ms : List Move) (blocks : List (Option BlockView)) (n : ℕ) → P (block_in (respelled f ms blocks) n) ≡ P (block_in blocks n)
respelled-as P f same [] blocks n = refl
respelled-as P f same (m ∷ ms) blocks n =
    let o : Option BlockView = option_map (spelled f) (block_in blocks m.number) in
    respelled-as P f same ms (set blocks m.number o) n
    ∙ elim (cases_eq n m.number) [
      | inl e ↦
          elim (cases_lt n (length blocks)) [
            | inl lt ↦ ap (λ k. P (block_in (set blocks m.number o) k)) e ∙ ap P (get_or-set_same blocks m.number o None (omega arith)) ∙ same (block_in blocks m.number) ∙ ap (λ k. P (block_in blocks k)) (sym e)
            | inr ge ↦ ap P (get_or_past (set blocks m.number o) n None (omega (arith, length-set blocks m.number o)) ∙ sym (get_or_past blocks n None (omega arith)))
          ]
      | inr ne ↦ ap P (get_or-set_other blocks m.number n o None ne)
    ]

pub respelled-kept : (f : ℕ → ℕ) (ms : List Move) (blocks : List (Option BlockView)) (n : ℕ) → is_some (block_in (respelled f ms blocks) n) ≡ is_some (block_in blocks n)
respelled-kept f ms blocks n = respelled-as is_some f (is_some_mapped (spelled f)) ms blocks n

-- whether a block that is kept is written where it stands
abbrev in_place_of : Option BlockView → Bool
in_place_of None = false
in_place_of (Some b) = b.in_place

in_place_spelled : (f : ℕ → ℕ) (o : Option BlockView) → in_place_of (option_map (spelled f) o) ≡ in_place_of o
in_place_spelled f None = refl
in_place_spelled f (Some b) = refl

respelled-in_place : (f : ℕ → ℕ) (ms : List Move) (blocks : List (Option BlockView)) (n : ℕ) → in_place_of (block_in (respelled f ms blocks) n) ≡ in_place_of (block_in blocks n)
respelled-in_place f ms blocks n = respelled-as in_place_of f (in_place_spelled f) ms blocks n

pub respelled-other : (f : ℕ → ℕ) (ms : List Move) (blocks : List (Option BlockView)) (n : ℕ) → times n (numbers ms) ≡ 0 → block_in (respelled f ms blocks) n ≡ block_in blocks n
respelled-other f [] blocks n h = refl
respelled-other f (m ∷ ms) blocks n h =
    let o : Option BlockView = option_map (spelled f) (block_in blocks m.number) in
    elim (cases_eq m.number n) [
      | inl e ↦ let t = times-same n m.number (numbers ms) e in absurd (omega arith)
      | inr ne ↦
          let t = times-other n m.number (numbers ms) ne in
          respelled-other f ms (set blocks m.number o) n (omega arith) ∙ get_or-set_other blocks m.number n o None (λ q. ne (sym q))
    ]

pub respelled-one : (f : ℕ → ℕ) (ms : List Move) (blocks : List (Option BlockView)) (n : ℕ) → times n (numbers ms) ≡ 1 → block_in (respelled f ms blocks) n ≡ option_map (spelled f) (block_in blocks n)
respelled-one f [] blocks n h = absurd (omega arith)
respelled-one f (m ∷ ms) blocks n h =
    let o : Option BlockView = option_map (spelled f) (block_in blocks m.number) in
    elim (cases_eq m.number n) [
      | inl e ↦
          let t = times-same n m.number (numbers ms) e in
          let none : (k : ℕ) → length blocks ≤ k → block_in (set blocks m.number o) k ≡ option_map (spelled f) (block_in blocks k) =
          λ k ge. get_or_past (set blocks m.number o) k None (omega (arith, length-set blocks m.number o)) ∙ ap (option_map (spelled f)) (sym (get_or_past blocks k None ge)) in
          respelled-other f ms (set blocks m.number o) n (omega arith)
          ∙ subst (λ k. block_in (set blocks m.number o) k ≡ option_map (spelled f) (block_in blocks k)) e
          (elim (cases_lt m.number (length blocks)) [ inl lt ↦ get_or-set_same blocks m.number o None lt | inr ge ↦ none m.number (omega arith) ])
      | inr ne ↦
          let t = times-other n m.number (numbers ms) ne in
          respelled-one f ms (set blocks m.number o) n (omega arith) ∙ ap (option_map (spelled f)) (get_or-set_other blocks m.number n o None (λ q. ne (sym q)))
    ]

cleaned-room : (ms : List Move) (marks : List Bool) → All (λ (m : Move). m.number < length marks) ms → count_by not (cleaned ms marks) ≤ count_by not marks + length ms
cleaned-room [] marks inside = omega arith
cleaned-room (m ∷ ms) marks inside =
    let here : m.number < length marks = All-head (λ (x : Move). x.number < length marks) m ms inside in
    let rest : All (λ (x : Move). x.number < length (set marks m.number false)) ms =
    subst (λ k. All (λ (x : Move). x.number < k) ms) (sym (length-set marks m.number false)) (All-tail (λ (x : Move). x.number < length marks) m ms inside) in
    let go = cleaned-room ms (set marks m.number false) rest in
    let step = sum_by-set (λ (b : Bool). cond (not b) 1 0) marks m.number false false here in
    omega arith

-- ---- The store

fits_if : (o : Option BlockView) (p : ℕ) → IfSome o (FitsAddresses p) → in_place_of o ≡ true → (p ≡ undefined → ⊥) → p + length (bytes_of o) < 2 ^ 64
fits_if None p h stays = absurd (cc)
fits_if (Some b) p h stays = h stays

if_fits : (o old : Option BlockView) (p : ℕ) → in_place_of o ≡ in_place_of old → length (bytes_of o) ≡ length (bytes_of old) → (in_place_of old ≡ true → (p ≡ undefined → ⊥) → p + length (bytes_of old) < 2 ^ 64) → IfSome o (FitsAddresses p)
if_fits None old p stays len h = tt
if_fits (Some b) old p stays len h = λ is d. let k = h (sym stays ∙ is) d in omega arith

as_in_block : (o : Option BlockView) (b : Bool) → IsSomeAnd o (λ k. b ≡ k.in_place) → in_place_of o ≡ b
as_in_block None b h = absurd h
as_in_block (Some k) b h = sym h

stays_in : (b : Bool) (old : ℕ) → stays b old ≡ true → b ≡ true
stays_in true old h = refl
stays_in false old h = cc

pub stays_true : (b : Bool) (old : ℕ) → stays b old ≡ true → old ≡ undefined → ⊥
stays_true true old h e = let t : (old == undefined) ≡ true = eq-eqb old undefined e in cc
stays_true false old h e = cc

ends_by : (blocks : List (Option BlockView)) (places : List ℕ) (s : Space) (m : Move) (t : Space) (b : Bool) → IfSome (block_in blocks m.number) (FitsAddresses (place_in places m.number)) → IsMove blocks places s m t → stays m.in_place m.old ≡ b → Placed b m.old m.len s t m.new → m.new + m.len < 2 ^ 64
ends_by blocks places s m t true fits step e p =
    let old : m.old ≡ place_in places m.number = step.old in
    let len : m.len ≡ length (bytes_in blocks m.number) = step.len in
    let new : m.new ≡ m.old = p.0 in
    let end = fits_if (block_in blocks m.number) (place_in places m.number) fits (as_in_block (block_in blocks m.number) m.in_place step.in_place ∙ stays_in m.in_place m.old e) (λ u. stays_true m.in_place m.old e (old ∙ u)) in
    omega arith
ends_by blocks places s m t false fits step e p = step.ends e

-- where a move goes, its block ends below 2^64
pub move_ends : (blocks : List (Option BlockView)) (places : List ℕ) (s : Space) (m : Move) (t : Space) → IfSome (block_in blocks m.number) (FitsAddresses (place_in places m.number)) → IsMove blocks places s m t → m.new + m.len < 2 ^ 64
move_ends blocks places s m t fits step = ends_by blocks places s m t (stays m.in_place m.old) fits step refl step.step

-- what is known when the moves of all changed blocks were made
pub record IsReady (blocks : List (Option BlockView)) (places : List ℕ) (marks : List Bool) (changed : List ℕ) (capacity : ℕ) (s : Space) (ms : List Move) (t : Space) : Type 0 where
  pub store : IsStore blocks places marks changed capacity
  pub all : IsPermutation changed (numbers ms)
  pub moves : AreMoves blocks places s ms t

pub same_times : (changed : List ℕ) (ms : List Move) (n : ℕ) → IsPermutation changed (numbers ms) → times n (numbers ms) ≡ times n changed
same_times changed ms n p = sum_by-IsPermutation (λ (m : ℕ). cond (m == n) 1 0) changed (numbers ms) p

cond_once : (b : Bool) → cond b 1 0 ≤ 1
cond_once true = omega arith
cond_once false = omega arith

pub once_each : (blocks : List (Option BlockView)) (places : List ℕ) (marks : List Bool) (changed : List ℕ) (capacity : ℕ) (ms : List Move) (n : ℕ) → IsStore blocks places marks changed capacity → IsPermutation changed (numbers ms) → times n (numbers ms) ≤ 1
once_each blocks places marks changed capacity ms n s p = let a = same_times changed ms n p in let b = s.once n in let c = cond_once (get_or marks n false) in omega arith

pub listed_once : (blocks : List (Option BlockView)) (places : List ℕ) (marks : List Bool) (changed : List ℕ) (capacity : ℕ) (n : ℕ) → IsStore blocks places marks changed capacity → times n changed ≤ 1
listed_once blocks places marks changed capacity n s = let b = s.once n in let c = cond_once (get_or marks n false) in omega arith

off_by : (b : Bool) (n : ℕ) → n ≡ cond b 1 0 → (b ≡ false) ⊎ (0 < n)
off_by true n e = inr (omega arith)
off_by false n e = inl refl

pub all_off : (marks : List Bool) (changed : List ℕ) (ms : List Move) (n : ℕ) → times n changed ≡ cond (get_or marks n false) 1 0 → IsPermutation changed (numbers ms) → get_or (cleaned ms marks) n false ≡ false
all_off marks changed ms n e p = cleaned-off ms marks n (off_by (get_or marks n false) (times n (numbers ms)) (same_times changed ms n p ∙ e))

pub IsStore-planned : (blocks : List (Option BlockView)) (places : List ℕ) (marks : List Bool) (changed : List ℕ) (capacity : ℕ) (s : Space) (ms : List Move) (t : Space) (f : ℕ → ℕ)
    → IsReady blocks places marks changed capacity s ms t → ((n : ℕ) → length (bytes_in (respelled f ms blocks) n) ≡ length (bytes_in blocks n))
    → IsStore (respelled f ms blocks) (moved ms places) (cleaned ms marks) [] capacity
IsStore-planned blocks places marks changed capacity s ms t f r lengths =
    let inside : All (λ (m : Move). m.number < length blocks) ms = moves_inside blocks places s ms t r.moves in
    let Q : ℕ → ℕ → Type 0 = λ n p. in_place_of (block_in blocks n) ≡ true → (p ≡ undefined → ⊥) → p + length (bytes_in blocks n) < 2 ^ 64 in
    let each : All (λ (m : Move). Q m.number m.new) ms =
    Chain-all (IsMove blocks places) (λ (m : Move). Q m.number m.new) (λ a m b step some d. let len : m.len ≡ length (bytes_in blocks m.number) = step.len in let end = move_ends blocks places a m b (r.store.fits m.number) step in omega arith) s ms t r.moves in
    let in_places : All (λ (m : Move). m.number < length places) ms = subst (λ k. All (λ (m : Move). m.number < k) ms) (sym r.store.each_place) inside in
    let in_marks : All (λ (m : Move). m.number < length marks) ms = subst (λ k. All (λ (m : Move). m.number < k) ms) (sym r.store.each_mark) inside in
    let off : (n : ℕ) → get_or (cleaned ms marks) n false ≡ false = λ n. all_off marks changed ms n (r.store.once n) r.all in
    let count : length ms ≡ length changed = sym (length-map ms (λ (m : Move). m.number)) ∙ length_permutation changed (numbers ms) r.all in
    let room = cleaned-room ms marks in_marks in
    let had = r.store.room in
    record {
      each_place = length-moved ms places ∙ r.store.each_place ∙ sym (length-respelled f ms blocks);
      each_mark = length-cleaned ms marks ∙ r.store.each_mark ∙ sym (length-respelled f ms blocks);
      once = λ n. ap (λ b. cond b 1 0) (sym (off n));
      kept = λ n h. absurd (let e : true ≡ false = sym h ∙ off n in cc);
      fits = λ n. if_fits (block_in (respelled f ms blocks) n) (block_in blocks n) (place_in (moved ms places) n) (respelled-in_place f ms blocks n) (lengths n)
          (moved-keeps Q ms places (λ k. fits_if (block_in blocks k) (place_in places k) (r.store.fits k)) each in_places n);
      room = omega arith;
    }

pub all_written : (blocks : List (Option BlockView)) (places : List ℕ) (marks : List Bool) (changed : List ℕ) (capacity : ℕ) (s : Space) (ms : List Move) (t : Space) (f : ℕ → ℕ)
    → IsReady blocks places marks changed capacity s ms t → ((n : ℕ) → length (bytes_in (respelled f ms blocks) n) ≡ length (bytes_in blocks n)) → All (IsWritten (respelled f ms blocks)) ms
all_written blocks places marks changed capacity s ms t f r lengths =
    Chain-all (IsMove blocks places) (IsWritten (respelled f ms blocks))
    (λ a m b step. record { kept = respelled-kept f ms blocks m.number ∙ step.kept; len = step.len ∙ sym (lengths m.number); ends = move_ends blocks places a m b (r.store.fits m.number) step })
    s ms t r.moves

-- the lists after the moves were carried out
pub record IsCarried (blocks new_blocks : List (Option BlockView)) (places new_places : List ℕ) (marks new_marks : List Bool) (ms : List Move) : Type 0 where
  pub to_places : new_places ≡ moved ms places
  pub to_marks : new_marks ≡ cleaned ms marks
  pub to_blocks : new_blocks ≡ respelled (place_in (moved ms places)) ms blocks
  pub lengths : (n : ℕ) → length (bytes_in new_blocks n) ≡ length (bytes_in blocks n)

pub carried_lengths : (blocks new_blocks : List (Option BlockView)) (places new_places : List ℕ) (marks new_marks : List Bool) (ms : List Move) → IsCarried blocks new_blocks places new_places marks new_marks ms
    → (n : ℕ) → length (bytes_in (respelled (place_in (moved ms places)) ms blocks) n) ≡ length (bytes_in blocks n)
carried_lengths blocks new_blocks places new_places marks new_marks ms h n =
    ap (λ (b : List (Option BlockView)). length (bytes_in b n)) (sym (h.to_blocks)) ∙ h.lengths n

pub store_carried : (blocks new_blocks : List (Option BlockView)) (places new_places : List ℕ) (marks new_marks : List Bool) (changed : List ℕ) (capacity : ℕ) (s : Space) (ms : List Move) (t : Space)
    → IsReady blocks places marks changed capacity s ms t → IsCarried blocks new_blocks places new_places marks new_marks ms → IsStore new_blocks new_places new_marks [] capacity
store_carried blocks new_blocks places new_places marks new_marks changed capacity s ms t r h =
    let f : ℕ → ℕ = place_in (moved ms places) in
    subst (λ (b : List (Option BlockView)). IsStore b new_places new_marks [] capacity) (sym (h.to_blocks))
    (subst (λ (p : List ℕ). IsStore (respelled f ms blocks) p new_marks [] capacity) (sym h.to_places)
    (subst (λ (m : List Bool). IsStore (respelled f ms blocks) (moved ms places) m [] capacity) (sym h.to_marks)
    (IsStore-planned blocks places marks changed capacity s ms t f r (carried_lengths blocks new_blocks places new_places marks new_marks ms h))))

pub written_carried : (blocks new_blocks : List (Option BlockView)) (places new_places : List ℕ) (marks new_marks : List Bool) (changed : List ℕ) (capacity : ℕ) (s : Space) (ms : List Move) (t : Space)
    → IsReady blocks places marks changed capacity s ms t → IsCarried blocks new_blocks places new_places marks new_marks ms → All (IsWritten new_blocks) ms
written_carried blocks new_blocks places new_places marks new_marks changed capacity s ms t r h =
    subst (λ (b : List (Option BlockView)). All (IsWritten b) ms) (sym (h.to_blocks))
    (all_written blocks places marks changed capacity s ms t (place_in (moved ms places)) r (carried_lengths blocks new_blocks places new_places marks new_marks ms h))
