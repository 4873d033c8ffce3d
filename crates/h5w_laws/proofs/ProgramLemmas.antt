-- What holds of every program of looks.
use Rattle.std.proofs.Common.{◌≡◌, ℕ, List, [], ◌∷◌, ◌++◌, Result, Ok, Err, refl, sym, ◌∙◌, ap}
use Rattle.h5w_model.specs.Numbers.{range}
use Rattle.h5w_model.specs.Programs.{Prog, ret, whole, counted, stored, eval, bind, and_then, Visit, visits, all_of, Same}
use Rattle.h5w_model.specs.Datasets.{then_also}
use Rattle.h5w_laws.specs.Programs.{SameAnswers, SameLaws}

-- ---- One program after another

pub eval_bind : {A B : Type 0} (img : List ℕ) (p : Prog A) (f : A → Prog B) → eval img (bind p f) ≡ eval img (f (eval img p))
eval_bind img (ret a) f = refl
eval_bind img (whole at len next) f = eval_bind img (next (range img at len)) f
eval_bind img (counted at counts next) f = eval_bind img (next (counts (range img at 512))) f
eval_bind img (stored kind at len next) f = eval_bind img (next (range img at len)) f

pub eval_choice : {A B E : Type 0} (img : List ℕ) (r : Result A E) (f : A → Prog (Result B E))
    → eval img (elim r as (λ _. Prog (Result B E)) [ Ok a ↦ f a | Err e ↦ ret (Err e) ]) ≡ then_also r (λ a. eval img (f a))
eval_choice img (Ok a) f = refl
eval_choice img (Err e) f = refl

pub eval_and_then : {A B E : Type 0} (img : List ℕ) (p : Prog (Result A E)) (f : A → Prog (Result B E))
    → eval img (and_then p f) ≡ then_also (eval img p) (λ a. eval img (f a))
eval_and_then img p f = eval_bind img p (λ r. elim r [ Ok a ↦ f a | Err e ↦ ret (Err e) ]) ∙ eval_choice img (eval img p) f

pub visits_bind : {A B : Type 0} (img : List ℕ) (p : Prog A) (f : A → Prog B) → visits img (bind p f) ≡ visits img p ++ visits img (f (eval img p))
visits_bind img (ret a) f = refl
visits_bind img (whole at len next) f = ap (λ vs. record { place = at; len = len; counts = all_of } ∷ vs) (visits_bind img (next (range img at len)) f)
visits_bind img (counted at counts next) f = ap (λ vs. record { place = at; len = 512; counts = counts } ∷ vs) (visits_bind img (next (counts (range img at 512))) f)
visits_bind img (stored kind at len next) f = ap (λ vs. record { place = at; len = len; counts = all_of } ∷ vs) (visits_bind img (next (range img at len)) f)

-- a program ends with its answer
pub bind_ret : {A : Type 0} (p : Prog A) → bind p ret ≡ p
bind_ret (ret a) = refl
bind_ret (whole at len next) = ap (whole at len) (λ i b. bind_ret (next b) i)
bind_ret (counted at counts next) = ap (counted at counts) (λ i b. bind_ret (next b) i)
bind_ret (stored kind at len next) = ap (stored kind at len) (λ i b. bind_ret (next b) i)

-- ---- What stays

pub same_itself : (img : List ℕ) (vs : List Visit) → Same img img vs
same_itself img [] = tt
same_itself img (v ∷ vs) = (refl, same_itself img vs)

pub same_onward : (old mid new : List ℕ) (vs : List Visit) → Same old mid vs → Same mid new vs → Same old new vs
same_onward old mid new [] h g = tt
same_onward old mid new (v ∷ vs) h g = (g.0 ∙ h.0, same_onward old mid new vs h.1 g.1)

pub same_back : (old new : List ℕ) (vs : List Visit) → Same old new vs → Same new old vs
same_back old new [] h = tt
same_back old new (v ∷ vs) h = (sym (h.0), same_back old new vs h.1)

pub same_front : (old new : List ℕ) (vs ws : List Visit) → Same old new (vs ++ ws) → Same old new vs
same_front old new [] ws h = tt
same_front old new (v ∷ vs) ws h = (h.0, same_front old new vs ws h.1)

pub same_behind : (old new : List ℕ) (vs ws : List Visit) → Same old new (vs ++ ws) → Same old new ws
same_behind old new [] ws h = h
same_behind old new (v ∷ vs) ws h = same_behind old new vs ws h.1

pub same_joined : (old new : List ℕ) (vs ws : List Visit) → Same old new vs → Same old new ws → Same old new (vs ++ ws)
same_joined old new [] ws h g = g
same_joined old new (v ∷ vs) ws h g = (h.0, same_joined old new vs ws h.1 g)

pub same_laws : SameLaws
same_laws = record { itself = same_itself; onward = same_onward; back = same_back; front = same_front; behind = same_behind; joined = same_joined }

pub same_eval : {A : Type 0} (old new : List ℕ) (p : Prog A) → Same old new (visits old p) → eval new p ≡ eval old p
same_eval old new (ret a) h = refl
same_eval old new (whole at len next) h = ap (λ b. eval new (next b)) h.0 ∙ same_eval old new (next (range old at len)) h.1
same_eval old new (counted at counts next) h = ap (λ b. eval new (next b)) h.0 ∙ same_eval old new (next (counts (range old at 512))) h.1
same_eval old new (stored kind at len next) h = ap (λ b. eval new (next b)) h.0 ∙ same_eval old new (next (range old at len)) h.1

pub same_visits : {A : Type 0} (old new : List ℕ) (p : Prog A) → Same old new (visits old p) → visits new p ≡ visits old p
same_visits old new (ret a) h = refl
same_visits old new (whole at len next) h =
    ap (λ vs. record { place = at; len = len; counts = all_of } ∷ vs) (ap (λ b. visits new (next b)) h.0 ∙ same_visits old new (next (range old at len)) h.1)
same_visits old new (counted at counts next) h =
    ap (λ vs. record { place = at; len = 512; counts = counts } ∷ vs) (ap (λ b. visits new (next b)) h.0 ∙ same_visits old new (next (counts (range old at 512))) h.1)
same_visits old new (stored kind at len next) h =
    ap (λ vs. record { place = at; len = len; counts = all_of } ∷ vs) (ap (λ b. visits new (next b)) h.0 ∙ same_visits old new (next (range old at len)) h.1)

pub answers_stay : {A : Type 0} (old new : List ℕ) (p : Prog A) → Same old new (visits old p) → SameAnswers A old new p
answers_stay old new p h = record { answer = same_eval old new p h; visited = same_visits old new p h }
