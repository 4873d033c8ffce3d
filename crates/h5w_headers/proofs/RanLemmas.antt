-- How the answers of calls compose.
use Rattle.std.proofs.Common.{◌≡◌, ℕ, ◌≤◌, List, Option, Some, None, Result, Ok, Err, refl, ◌∙◌, ap, arith}
use Rattle.h5w_model.specs.Causes.{Rose}
use Rattle.h5w_model.specs.Datasets.{then_also}
use Rattle.h5w_image.specs.View.{ImageView, Looked}
use Rattle.h5w_image.proofs.ViewLemmas.{looked_twice, looked_itself}
use Rattle.h5w_looks.specs.Still.{IsStill}
use Rattle.h5w_headers.specs.Ran.{Errors, Ran, Told, Tells, Stops, Refuses, seen}
use Rattle.h5w_looks.proofs.ReadLemmas.{still_on}

refuses_along : {A B R : Type 0} (given : Result A R) (other : Result B R) (r : Option R) → ((f : R) → given ≡ Err f → other ≡ Err f) → Refuses given r → Refuses other r
refuses_along given other (Some f) up h = up f h
refuses_along given other None up h = tt

-- an answer that is told of one result is told of an equal one
pub tells_along : {B R E : Type 0} (k : Errors R E) (given other : Result B R) (r : Result B E) → other ≡ given → Tells k given r → Tells k other r
tells_along k given other (Ok b) e h = e ∙ h
tells_along k given other (Err e) same h = refuses_along given other (k.refusal e) (λ f g. same ∙ g) h

-- one refusal is that of both
pub stops_along : {A B R E : Type 0} (k : Errors R E) (given : Result A R) (other : Result B R) (e : E) → ((f : R) → given ≡ Err f → other ≡ Err f) → Stops k given e → Stops k other e
stops_along k given other e up h = refuses_along given other (k.refusal e) up h

pub later : (a b c : ℕ) → a ≤ b → Rose b c → Rose a c
later a b c h g = omega arith

-- one call answered, and another goes on
pub ran_on : {A B R E : Type 0} {k : Errors R E} {v w x : ImageView} (p : List ℕ → Result A R) (a : A) (q r : List ℕ → Result B R) (answer : Result B E)
    → Ran k v w p (Ok a) → Ran k w x q answer → ((img : List ℕ) → p img ≡ Ok a → r img ≡ q img) → Ran k v x r answer
ran_on {A = A} {B = B} {k = k} {v = v} {w = w} {x = x} p a q r answer one two joined = record {
  looked = looked_twice one.looked two.looked;
  cause = λ e. later v.faults w.faults x.faults one.looked.faults (two.cause e);
  exact = λ img still. tells_along k (q img) (r img) answer (joined img (one.exact img still)) (two.exact img (still_on img one.looked still));
}

-- one call answered, and what looks at no image goes on
pub ran_end : {A B R E : Type 0} {k : Errors R E} {v w : ImageView} (p : List ℕ → Result A R) (a : A) (q : Result B R) (r : List ℕ → Result B R) (answer : Result B E)
    → Ran k v w p (Ok a) → Told k q answer → ((img : List ℕ) → p img ≡ Ok a → r img ≡ q) → Ran k v w r answer
ran_end {A = A} {B = B} {k = k} {v = v} {w = w} p a q r answer one two joined = record {
  looked = one.looked;
  cause = λ e. absurd (two.quiet e);
  exact = λ img still. tells_along k q (r img) answer (joined img (one.exact img still)) two.exact;
}

-- what looks at no image is done, and a call goes on
pub ran_begin : {B R E : Type 0} {k : Errors R E} {v w : ImageView} (q r : List ℕ → Result B R) (answer : Result B E)
    → Ran k v w q answer → ((img : List ℕ) → r img ≡ q img) → Ran k v w r answer
ran_begin {B = B} {k = k} {v = v} {w = w} q r answer two joined = record {
  looked = two.looked;
  cause = two.cause;
  exact = λ img still. tells_along k (q img) (r img) answer (joined img) (two.exact img still);
}

abbrev as_error : {B E : Type 0} → E → Result B E
as_error e = Err e

pub same_error : {A B E : Type 0} (e failed : E) → as_error {B = B} e ≡ Err failed → as_error {B = A} e ≡ Err failed
same_error e failed h = let k : e ≡ failed = cc in ap (λ x. Err x) k

-- a call was refused
pub ran_stop : {A B R E : Type 0} {k : Errors R E} {v w : ImageView} (p : List ℕ → Result A R) (e : E) (r : List ℕ → Result B R)
    → Ran k v w p (Err e) → ((img : List ℕ) (f : R) → p img ≡ Err f → r img ≡ Err f) → Ran k v w r (Err e)
ran_stop {A = A} {B = B} {k = k} {v = v} {w = w} p e r one joined = record {
  looked = one.looked;
  cause = λ h. one.cause (same_error {A = A} {B = B} e k.failed h);
  exact = λ img still. stops_along k (p img) (r img) e (joined img) (one.exact img still);
}

-- one call answered, and then what looks at no image was refused
pub ran_refused : {A B C R E : Type 0} {k : Errors R E} {v w : ImageView} (p : List ℕ → Result A R) (a : A) (q : Result C R) (e : E) (r : List ℕ → Result B R)
    → Ran k v w p (Ok a) → Told k q (Err e) → ((img : List ℕ) (f : R) → p img ≡ Ok a → q ≡ Err f → r img ≡ Err f) → Ran k v w r (Err e)
ran_refused {A = A} {B = B} {C = C} {k = k} {v = v} {w = w} p a q e r one two joined = record {
  looked = one.looked;
  cause = λ h. absurd (two.quiet (same_error {A = C} {B = B} e k.failed h));
  exact = λ img still. stops_along k q (r img) e (λ f h. joined img f (one.exact img still) h) two.exact;
}

-- what looks at no image is told of an equal result
pub told_along : {B R E : Type 0} {k : Errors R E} (given other : Result B R) (r : Result B E) → Told k given r → other ≡ given → Told k other r
told_along {k = k} given other r t e = record { exact = tells_along k given other r e t.exact; quiet = t.quiet }

pub told_stop : {A B R E : Type 0} {k : Errors R E} (given : Result A R) (other : Result B R) (e : E) → Told k given (Err e) → ((f : R) → given ≡ Err f → other ≡ Err f) → Told k other (Err e)
told_stop {A = A} {B = B} {k = k} given other e t up = record { exact = stops_along k given other e up t.exact; quiet = λ h. t.quiet (same_error {A = A} {B = B} e k.failed h) }

-- ---- What was told

pub told_ok : {B R E : Type 0} {k : Errors R E} (given : Result B R) (b : B) → given ≡ Ok b → Told k given (Ok b)
told_ok given b e = record { exact = e; quiet = λ h. absurd cc }

-- ---- A loop that looks at an image

-- so far it looked, and what a still image gave at first is what it gives of what is left
pub record Going {B R : Type 0} (v w : ImageView) (given left : List ℕ → Result B R) : Type 0 where
  pub looked : Looked v w
  pub exact : (img : List ℕ) → IsStill v img → given img ≡ left img

pub going_from : {B R : Type 0} (v : ImageView) (given : List ℕ → Result B R) → Going v v given given
going_from v given = record { looked = looked_itself v; exact = λ img still. refl }

pub going_on : {A B R E : Type 0} {k : Errors R E} {v w x : ImageView} (given left next : List ℕ → Result B R) (p : List ℕ → Result A R) (a : A)
    → Going v w given left → Ran k w x p (Ok a) → ((img : List ℕ) → p img ≡ Ok a → left img ≡ next img) → Going v x given next
going_on given left next p a so one joined = record {
  looked = looked_twice so.looked one.looked;
  exact = λ img still. so.exact img still ∙ joined img (one.exact img (still_on img so.looked still));
}

pub going_told : {B R : Type 0} {v w : ImageView} (given left next : List ℕ → Result B R)
    → Going v w given left → ((img : List ℕ) → left img ≡ next img) → Going v w given next
going_told given left next so joined = record {
  looked = so.looked;
  exact = λ img still. so.exact img still ∙ joined img;
}

pub going_stop : {A B R E : Type 0} {k : Errors R E} {v w x : ImageView} (given left : List ℕ → Result B R) (p : List ℕ → Result A R) (e : E)
    → Going v w given left → Ran k w x p (Err e) → ((img : List ℕ) (f : R) → p img ≡ Err f → left img ≡ Err f) → Ran k v x given (Err e)
going_stop {A = A} {B = B} {k = k} {v = v} {w = w} {x = x} given left p e so one joined = record {
  looked = looked_twice so.looked one.looked;
  cause = λ h. later v.faults w.faults x.faults so.looked.faults (one.cause (same_error {A = A} {B = B} e k.failed h));
  exact = λ img still. stops_along k (p img) (given img) e (λ f h. so.exact img still ∙ joined img f h) (one.exact img (still_on img so.looked still));
}

pub going_refused : {B C R E : Type 0} {k : Errors R E} {v w : ImageView} (given left : List ℕ → Result B R) (q : Result C R) (e : E)
    → Going v w given left → Told k q (Err e) → ((img : List ℕ) (f : R) → q ≡ Err f → left img ≡ Err f) → Ran k v w given (Err e)
going_refused {B = B} {C = C} {k = k} given left q e so told joined = record {
  looked = so.looked;
  cause = λ h. absurd (told.quiet (same_error {A = C} {B = B} e k.failed h));
  exact = λ img still. stops_along k q (given img) e (λ f h. so.exact img still ∙ joined img f h) told.exact;
}

pub going_end : {B R E : Type 0} {k : Errors R E} {v w : ImageView} (given left : List ℕ → Result B R) (q : Result B R) (answer : Result B E)
    → Going v w given left → Told k q answer → ((img : List ℕ) → left img ≡ q) → Ran k v w given answer
going_end {k = k} given left q answer so told joined = record {
  looked = so.looked;
  cause = λ e. absurd (told.quiet e);
  exact = λ img still. tells_along k q (given img) answer (so.exact img still ∙ joined img) told.exact;
}

-- where the first of two steps is known, both are what the second gives
pub step_ok : {A B E : Type 0} (r : Result A E) (a : A) (f : A → Result B E) → r ≡ Ok a → then_also r f ≡ f a
step_ok r a f e = ap (λ x. then_also x f) e

pub step_err : {A B E : Type 0} (r : Result A E) (e : E) (f : A → Result B E) → r ≡ Err e → then_also r f ≡ Err e
step_err r e f h = ap (λ x. then_also x f) h

-- one call answered, and the next was refused
pub ran_then_stop : {A B C R E : Type 0} {k : Errors R E} {v w x : ImageView} (p : List ℕ → Result A R) (a : A) (q : List ℕ → Result C R) (e : E) (r : List ℕ → Result B R)
    → Ran k v w p (Ok a) → Ran k w x q (Err e) → ((img : List ℕ) (f : R) → p img ≡ Ok a → q img ≡ Err f → r img ≡ Err f) → Ran k v x r (Err e)
ran_then_stop {A = A} {B = B} {C = C} {k = k} {v = v} {w = w} {x = x} p a q e r one two joined = record {
  looked = looked_twice one.looked two.looked;
  cause = λ h. later v.faults w.faults x.faults one.looked.faults (two.cause (same_error {A = C} {B = B} e k.failed h));
  exact = λ img still. stops_along k (q img) (r img) e (λ f h. joined img f (one.exact img still) h) (two.exact img (still_on img one.looked still));
}

-- an answer that goes on with its value
pub told_map : {A B R E : Type 0} {k : Errors R E} (given : Result A R) (r : Result A E) (f : A → B) → Told k given r → Told k (then_also given (λ x. Ok (f x))) (seen f r)
told_map given (Ok a) f t = told_ok _ (f a) (step_ok given a (λ x. Ok (f x)) t.exact)
told_map {A = A} {B = B} {k = k} given (Err e) f t = told_stop given _ e t (λ g h. step_err given g (λ x. Ok (f x)) h)

-- one after another
pub told_then : {A B R E : Type 0} {k : Errors R E} (given : Result A R) (a : A) (f : A → Result B R) (r : Result B E) → Told k given (Ok a) → Told k (f a) r → Told k (then_also given f) r
told_then given a f r one two = told_along (f a) _ r two (step_ok given a f one.exact)

abbrev pub ok_value : {A E : Type 0} → A → Result A E
ok_value a = Ok a

pub same_value : {A E : Type 0} (a b : A) → ok_value {E = E} a ≡ Ok b → a ≡ b
same_value a b e = cc

-- the same where the answer is seen by another value
pub told_seen : {A B C R E : Type 0} {k : Errors R E} (given : Result B R) (r : Result A E) (g : A → B) (f : B → C) → Told k given (seen g r) → Told k (then_also given (λ x. Ok (f x))) (seen (λ a. f (g a)) r)
told_seen given (Ok a) g f t = told_map given (Ok (g a)) f t
told_seen {A = A} {B = B} {C = C} {k = k} given (Err e) g f t = told_map {A = B} {B = C} given (Err e) f t
