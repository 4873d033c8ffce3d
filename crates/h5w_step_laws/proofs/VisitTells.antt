-- What a visit that was answered tells: what it looked at lies in its ranges, they end by the end of the file, and with another end
-- that they do not pass it gives the same.
use Rattle.std.proofs.Common.{◌≡◌, ℕ, ◌+◌, ◌<◌, ◌≤◌, Bool, true, false, cond, List, [], ◌∷◌, ◌++◌, Result, Ok, Err, refl, sym, ◌∙◌, ap, subst, inl, inr, arith, append-nil}
use Rattle.std.specs.Prelude.{nat_lt}
use Rattle.std.proofs.lemmas.Bool.{le-ltb, ltb-false, cond-false, cond_both}
use Rattle.h5w_model.specs.Numbers.{range}
use Rattle.h5w_model.specs.Programs.{Prog, ret, whole, eval, and_then, Visit, visits, all_of}
use Rattle.h5w_model.specs.Findings.{Finding, found, Used, Visited, block_in, both, block_past_end}
use Rattle.h5w_laws.proofs.ProgramLemmas.{visits_bind}
use Rattle.h5w_laws.proofs.ResultLemmas.{and_then_ok, and_then_from}
use Rattle.h5w_laws.proofs.EndLemmas.{same_ranges}
use Rattle.h5w_step_laws.specs.Ranges.{AllEndBy, AllSome, AllWithin, block_at}
use Rattle.h5w_step_laws.proofs.RangeLemmas.{among_left, among_right, ends_nil, ends_cons, ends_joined, ends_left, ends_right, some_nil, some_cons, some_joined, within_more, within_joined}

pub record VisitTells {R : Type 0} (img : List ℕ) (end bytes : ℕ) (p : ℕ → Prog (Result R Finding)) (r : R) (us : List Used) : Type 0 where
  pub visited : AllWithin us (visits img (p end))
  pub ends : AllEndBy end us
  pub some : 0 < bytes → AllSome us
  pub other : (new : ℕ) → AllEndBy new us → eval img (p new) ≡ Ok r

-- what is looked at by one program and then by the next
pub visits_next : {A B E : Type 0} (img : List ℕ) (p : Prog (Result A E)) (f : A → Prog (Result B E)) (a : A) → eval img p ≡ Ok a
    → visits img (and_then p f) ≡ visits img p ++ visits img (f a)
visits_next {A} {B} {E} img p f a h =
    let rest : Result A E → Prog (Result B E) = λ r. elim r as (λ _. Prog (Result B E)) [ Ok a ↦ f a | Err e ↦ ret (Err e) ] in
    visits_bind img p rest ∙ ap (λ r. visits img p ++ visits img (rest r)) h

-- ---- Nothing, one after another, two lists of ranges

abbrev pub no_visit : Visited
no_visit = ret (Ok [])

pub told_nil : (img : List ℕ) (end bytes : ℕ) → VisitTells {R = List Used} img end bytes (λ e. no_visit) [] []
told_nil img end bytes = record { visited = tt; ends = ends_nil end; some = λ h. some_nil; other = λ new h. refl }

-- the same ranges, said in another way
pub told_as : {A B : Type 0} (img : List ℕ) (end bytes : ℕ) (p : ℕ → Prog (Result A Finding)) (f : A → Result B Finding) (a : A) (b : B) (us : List Used)
    → f a ≡ Ok b → VisitTells img end bytes p a us → VisitTells img end bytes (λ e. and_then (p e) (λ a. ret (f a))) b us
told_as img end bytes p f a b us e t = record {
  visited = subst (λ (vs : List Visit). AllWithin us vs) (sym (visits_next img (p end) (λ a. ret (f a)) a (t.other end t.ends) ∙ append-nil (visits img (p end)))) t.visited;
  ends = t.ends;
  some = t.some;
  other = λ new h. and_then_from img (p new) (λ a. ret (f a)) a b (t.other new h) e;
}

pub told_next : {A B : Type 0} (img : List ℕ) (end bytes : ℕ) (p : ℕ → Prog (Result A Finding)) (f : ℕ → A → Prog (Result B Finding)) (a : A) (b : B) (us vs : List Used)
    → VisitTells img end bytes p a us → VisitTells img end bytes (λ e. f e a) b vs → VisitTells img end bytes (λ e. and_then (p e) (f e)) b (us ++ vs)
told_next img end bytes p f a b us vs t s = record {
  visited = subst (λ (xs : List Visit). AllWithin (us ++ vs) xs) (sym (visits_next img (p end) (f end) a (t.other end t.ends)))
      (within_joined (us ++ vs) (visits img (p end)) (visits img (f end a))
      (within_more us (us ++ vs) (visits img (p end)) (λ u h. among_left u us vs h) t.visited)
      (within_more vs (us ++ vs) (visits img (f end a)) (λ u h. among_right u us vs h) s.visited));
  ends = ends_joined end us vs t.ends s.ends;
  some = λ h. some_joined us vs (t.some h) (s.some h);
  other = λ new h. and_then_from img (p new) (f new) a b (t.other new (ends_left new us vs h)) (s.other new (ends_right new us vs h));
}

-- the two lists that two visits gave
pub record Both (img : List ℕ) (p q : Visited) (us : List Used) : Type 0 where
  pub first : List Used
  pub second : List Used
  pub of_first : eval img p ≡ Ok first
  pub of_second : eval img q ≡ Ok second
  pub parts : first ++ second ≡ us

pub both_parts : (img : List ℕ) (p q : Visited) (us : List Used) → eval img (both p q) ≡ Ok us → Both img p q us
both_parts img p q us h =
    let a = and_then_ok img p (λ us. and_then q (λ vs. ret (Ok (us ++ vs)))) us h in
    let b = and_then_ok img q (λ vs. ret (Ok (a.0 ++ vs))) us a.2 in
    record { first = a.0; second = b.0; of_first = a.1; of_second = b.1; parts = same_ranges (a.0 ++ b.0) us b.2 }

pub told_both : (img : List ℕ) (end bytes : ℕ) (p q : ℕ → Visited) (us vs ws : List Used) → us ++ vs ≡ ws → VisitTells img end bytes p us us → VisitTells img end bytes q vs vs
    → VisitTells img end bytes (λ e. both (p e) (q e)) ws ws
told_both img end bytes p q us vs ws parts t s =
    subst (λ (xs : List Used). VisitTells img end bytes (λ e. both (p e) (q e)) xs xs) parts
    (told_next img end bytes p (λ e xs. and_then (q e) (λ ys. ret (Ok (xs ++ ys)))) us (us ++ vs) us vs t
    (told_as img end bytes q (λ ys. Ok (us ++ ys)) vs (us ++ vs) vs refl s))

-- ---- What was decoded, and what is tested first

pub told_choice : {A E R : Type 0} (img : List ℕ) (end bytes : ℕ) (r : Result A E) (f : ℕ → A → Prog (Result R Finding)) (g : E → Finding) (a : A) (x : R) (us : List Used)
    → r ≡ Ok a → VisitTells img end bytes (λ e. f e a) x us → VisitTells img end bytes (λ e. elim r as (λ _. Prog (Result R Finding)) [ Ok a ↦ f e a | Err e ↦ ret (Err (g e)) ]) x us
told_choice {A} {E} {R} img end bytes r f g a x us h t =
    subst (λ (y : Result A E). VisitTells img end bytes (λ e. elim y as (λ _. Prog (Result R Finding)) [ Ok a ↦ f e a | Err e ↦ ret (Err (g e)) ]) x us) (sym h) t

-- the second branch
pub told_other : {R : Type 0} (img : List ℕ) (end bytes : ℕ) (b : Bool) (p q : ℕ → Prog (Result R Finding)) (x : R) (us : List Used) → b ≡ false
    → VisitTells img end bytes q x us → VisitTells img end bytes (λ e. cond b (p e) (q e)) x us
told_other img end bytes b p q x us h t = subst (λ (c : Bool). VisitTells img end bytes (λ e. cond c (p e) (q e)) x us) (sym h) t

pub told_one : {R : Type 0} (img : List ℕ) (end bytes : ℕ) (b : Bool) (p q : ℕ → Prog (Result R Finding)) (x : R) (us : List Used) → b ≡ true
    → VisitTells img end bytes p x us → VisitTells img end bytes (λ e. cond b (p e) (q e)) x us
told_one img end bytes b p q x us h t = subst (λ (c : Bool). VisitTells img end bytes (λ e. cond c (p e) (q e)) x us) (sym h) t

-- ---- A block within the end

-- what a block's visit gave
pub record InBlock (img : List ℕ) (end place n : ℕ) (visit : List ℕ → Visited) (us : List Used) : Type 0 where
  pub fits : place + n ≤ end
  pub behind : List Used
  pub of_behind : eval img (visit (range img place n)) ≡ Ok behind
  pub parts : block_at place n ∷ behind ≡ us

pub block_parts : (img : List ℕ) (end place n : ℕ) (visit : List ℕ → Visited) (us : List Used) → eval img (block_in end place n visit) ≡ Ok us → InBlock img end place n visit us
block_parts img end place n visit us h =
    let after : List ℕ → Visited = λ b. and_then (visit b) (λ us. ret (Ok (block_at place n ∷ us))) in
    cond_both (nat_lt end (place + n)) (ret (Err (found block_past_end place))) (whole place n after) (λ (q : Visited). eval img q ≡ Ok us → InBlock img end place n visit us)
    (λ t e. absurd cc)
    (λ t e.
    let a = and_then_ok img (visit (range img place n)) (λ us. ret (Ok (block_at place n ∷ us))) us e in
    record { fits = ltb-false end (place + n) t; behind = a.0; of_behind = a.1; parts = same_ranges (block_at place n ∷ a.0) us a.2 })
    h

-- a look at a place within a block, and what is visited then
pub told_look : {R : Type 0} (img : List ℕ) (end bytes place n len : ℕ) (visit : ℕ → List ℕ → Prog (Result R Finding)) (x : R) (us : List Used) → 0 < n → len ≤ n → place + n ≤ end
    → VisitTells img end bytes (λ e. visit e (range img place len)) x us
    → VisitTells img end bytes (λ e. cond (nat_lt e (place + n)) (ret (Err (found block_past_end place))) (whole place len (visit e))) x (block_at place n ∷ us)
told_look {R} img end bytes place n len visit x us some low fits t =
    let own : Used = block_at place n in
    let after : ℕ → Prog (Result R Finding) = λ e. whole place len (visit e) in
    let all : List Used = own ∷ us in
    let look : Visit = record { place = place; len = len; counts = all_of } in
    record {
      visited = subst (λ (q : Prog (Result R Finding)). AllWithin all (visits img q)) (sym (cond-false (nat_lt end (place + n)) (ret (Err (found block_past_end place))) (after end) (le-ltb end (place + n) fits))) (
        record { used = own; among = inl refl; block = refl; from = omega arith; to = omega arith },
        within_more us all (visits img (visit end (range img place len))) (λ u h. inr h) t.visited,
      );
      ends = ends_cons end own us fits t.ends;
      some = λ h. some_cons own us some (t.some h);
      other = λ new h.
          ap (eval img) (cond-false (nat_lt new (place + n)) (ret (Err (found block_past_end place))) (after new) (le-ltb new (place + n) (h own (inl refl))))
          ∙ t.other new (λ u a. h u (inr a));
    }

pub told_block : (img : List ℕ) (end bytes place n : ℕ) (visit : ℕ → List ℕ → Visited) (vs us : List Used) → 0 < n → place + n ≤ end → block_at place n ∷ vs ≡ us
    → VisitTells img end bytes (λ e. visit e (range img place n)) vs vs → VisitTells img end bytes (λ e. block_in e place n (visit e)) us us
told_block img end bytes place n visit vs us some fits parts t =
    let own : Used = block_at place n in
    let after : ℕ → List ℕ → Visited = λ e b. and_then (visit e b) (λ us. ret (Ok (own ∷ us))) in
    let given : VisitTells img end bytes (λ e. after e (range img place n)) (own ∷ vs) vs = told_as img end bytes (λ e. visit e (range img place n)) (λ us. Ok (own ∷ us)) vs (own ∷ vs) vs refl t in
    let whole_block : VisitTells img end bytes (λ e. block_in e place n (visit e)) (own ∷ vs) (own ∷ vs) = told_look img end bytes place n n after (own ∷ vs) vs some (omega arith) fits given in
    subst (λ (xs : List Used). VisitTells img end bytes (λ e. block_in e place n (visit e)) xs xs) parts whole_block
