-- How the answers of calls compose that may rest on the nodes that are known.
use Rattle.std.proofs.Common.{◌≡◌, ℕ, List, None, Result, Ok, Err, sym, ◌∙◌, subst}
use Rattle.std.specs.Prelude.{IfSome}
use Rattle.h5w_model.specs.Findings.{Finding, node_visit}
use Rattle.h5w_model.specs.Programs.{eval}
use Rattle.h5w_image.specs.View.{ImageView, Looked}
use Rattle.h5w_image.proofs.ViewLemmas.{looked_twice, looked_itself}
use Rattle.h5w_looks.specs.Still.{IsStill}
use Rattle.h5w_check.specs.Ran.{Ran, Told, check_errors}
use Rattle.h5w_check.specs.Known.{known, span_under, AreRight, Visits}
use Rattle.h5w_check.specs.declared.known.KnownNodes.{KnownNodes}
use Rattle.h5w_check.specs.declared.error.CheckError.{CheckError}
use Rattle.h5w_check.specs.declared.error.CheckError.TheVariants as errors
use Rattle.h5w_looks.proofs.ReadLemmas.{still_on}
use Rattle.h5w_headers.proofs.RanLemmas.{tells_along, stops_along, later, same_error}

-- ---- One call after another

-- a call that knows of no nodes
pub visits_ran : {B : Type 0} {end bytes : ℕ} {v w : ImageView} (m : KnownNodes) (given : List ℕ → Result B Finding) (answer : Result B CheckError)
    → Ran v w given answer → Visits end bytes m m v w given answer
visits_ran m given answer one = record {
  looked = one.looked;
  cause = one.cause;
  exact = λ img still right. one.exact img still;
  kept = λ img still right. right;
}

-- one call answered, and another goes on
pub visits_next : {A B : Type 0} {end bytes : ℕ} {m n : KnownNodes} {v w x : ImageView} (p : List ℕ → Result A Finding) (a : A) (q r : List ℕ → Result B Finding) (answer : Result B CheckError)
    → Ran v w p (Ok a) → Visits end bytes m n w x q answer → ((img : List ℕ) → p img ≡ Ok a → r img ≡ q img) → Visits end bytes m n v x r answer
visits_next {A} {B} {end} {bytes} {m} {n} {v} {w} {x} p a q r answer one two joined = record {
  looked = looked_twice one.looked two.looked;
  cause = λ e. later v.faults w.faults x.faults one.looked.faults (two.cause e);
  exact = λ img still right. tells_along check_errors (q img) (r img) answer (joined img (one.exact img still)) (two.exact img (still_on img one.looked still) right);
  kept = λ img still right. two.kept img (still_on img one.looked still) right;
}

-- one call answered, and another was refused
pub visits_next_stop : {A B C : Type 0} {end bytes : ℕ} {m n : KnownNodes} {v w x : ImageView} (p : List ℕ → Result A Finding) (a : A) (q : List ℕ → Result C Finding) (e : CheckError) (r : List ℕ → Result B Finding)
    → Ran v w p (Ok a) → Visits end bytes m n w x q (Err e) → ((img : List ℕ) (f : Finding) → p img ≡ Ok a → q img ≡ Err f → r img ≡ Err f) → Visits end bytes m n v x r (Err e)
visits_next_stop {A} {B} {C} {end} {bytes} {m} {n} {v} {w} {x} p a q e r one two joined = record {
  looked = looked_twice one.looked two.looked;
  cause = λ h. later v.faults w.faults x.faults one.looked.faults (two.cause (same_error {A = C} {B = B} e errors.Failed h));
  exact = λ img still right. stops_along check_errors (q img) (r img) e (λ f h. joined img f (one.exact img still) h) (two.exact img (still_on img one.looked still) right);
  kept = λ img still right. two.kept img (still_on img one.looked still) right;
}

-- a call answered, and what looks at no image goes on
pub visits_end : {A B : Type 0} {end bytes : ℕ} {m n : KnownNodes} {v w : ImageView} (p : List ℕ → Result A Finding) (a : A) (q : Result B Finding) (r : List ℕ → Result B Finding) (answer : Result B CheckError)
    → Visits end bytes m n v w p (Ok a) → Told q answer → ((img : List ℕ) → p img ≡ Ok a → r img ≡ q) → Visits end bytes m n v w r answer
visits_end p a q r answer one two joined = record {
  looked = one.looked;
  cause = λ e. absurd (two.quiet e);
  exact = λ img still right. tells_along check_errors q (r img) answer (joined img (one.exact img still right)) two.exact;
  kept = one.kept;
}

-- a call that begins with nodes of which nothing is known
pub ran_visits : {B : Type 0} {end bytes : ℕ} {m n : KnownNodes} {v w : ImageView} (given : List ℕ → Result B Finding) (answer : Result B CheckError)
    → ((depth at n : ℕ) → known m depth at n ≡ None) → Visits end bytes m n v w given answer → Ran v w given answer
ran_visits {B} {end} {bytes} {m} given answer none one = record {
  looked = one.looked;
  cause = one.cause;
  exact = λ img still. one.exact img still (λ depth at n. subst (λ o. IfSome o (λ s. span_under (eval img (node_visit end bytes depth at n)) ≡ Ok s)) (sym (none depth at n)) tt);
}

-- ---- A loop

-- so far it looked, and what a still image gave at first is what it gives of what is left
pub record Coming {B : Type 0} (end bytes : ℕ) (m n : KnownNodes) (v w : ImageView) (given left : List ℕ → Result B Finding) : Type 0 where
  pub looked : Looked v w
  pub exact : (img : List ℕ) → IsStill v img → AreRight end bytes m img → given img ≡ left img
  pub kept : (img : List ℕ) → IsStill v img → AreRight end bytes m img → AreRight end bytes n img

pub coming_on : {A B : Type 0} {end bytes : ℕ} {m n o : KnownNodes} {v w x : ImageView} (given left next : List ℕ → Result B Finding) (p : List ℕ → Result A Finding) (a : A)
    → Coming end bytes m n v w given left → Visits end bytes n o w x p (Ok a) → ((img : List ℕ) → p img ≡ Ok a → left img ≡ next img) → Coming end bytes m o v x given next
coming_on given left next p a so one joined = record {
  looked = looked_twice so.looked one.looked;
  exact = λ img still right. so.exact img still right ∙ joined img (one.exact img (still_on img so.looked still) (so.kept img still right));
  kept = λ img still right. one.kept img (still_on img so.looked still) (so.kept img still right);
}

pub coming_told : {B : Type 0} {end bytes : ℕ} {m n : KnownNodes} {v w : ImageView} (given left next : List ℕ → Result B Finding)
    → Coming end bytes m n v w given left → ((img : List ℕ) → left img ≡ next img) → Coming end bytes m n v w given next
coming_told given left next so joined = record {
  looked = so.looked;
  exact = λ img still right. so.exact img still right ∙ joined img;
  kept = so.kept;
}

pub coming_stop : {A B : Type 0} {end bytes : ℕ} {m n o : KnownNodes} {v w x : ImageView} (given left : List ℕ → Result B Finding) (p : List ℕ → Result A Finding) (e : CheckError)
    → Coming end bytes m n v w given left → Visits end bytes n o w x p (Err e) → ((img : List ℕ) (f : Finding) → p img ≡ Err f → left img ≡ Err f) → Visits end bytes m o v x given (Err e)
coming_stop {A} {B} {end} {bytes} {m} {n} {o} {v} {w} {x} given left p e so one joined = record {
  looked = looked_twice so.looked one.looked;
  cause = λ h. later v.faults w.faults x.faults so.looked.faults (one.cause (same_error {A = A} {B = B} e errors.Failed h));
  exact = λ img still right. stops_along check_errors (p img) (given img) e (λ f h. so.exact img still right ∙ joined img f h) (one.exact img (still_on img so.looked still) (so.kept img still right));
  kept = λ img still right. one.kept img (still_on img so.looked still) (so.kept img still right);
}

pub coming_refused : {B C : Type 0} {end bytes : ℕ} {m n : KnownNodes} {v w : ImageView} (given left : List ℕ → Result B Finding) (q : Result C Finding) (e : CheckError)
    → Coming end bytes m n v w given left → Told q (Err e) → ((img : List ℕ) (f : Finding) → q ≡ Err f → left img ≡ Err f) → Visits end bytes m n v w given (Err e)
coming_refused {B} {C} given left q e so told joined = record {
  looked = so.looked;
  cause = λ h. absurd (told.quiet (same_error {A = C} {B = B} e errors.Failed h));
  exact = λ img still right. stops_along check_errors q (given img) e (λ f h. so.exact img still right ∙ joined img f h) told.exact;
  kept = so.kept;
}
