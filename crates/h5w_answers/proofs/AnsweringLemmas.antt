-- A call over looks at an image that stays as it is.
use Rattle.std.proofs.Common.{◌≡◌, ◌≢◌, ◌≤◌, ℕ, List, Option, Some, None, refl, sym, ap, ◌∙◌, subst, inl, inr}
use Rattle.std.specs.Prelude.{IsSome, option_map}
use Rattle.h5w_model.specs.Numbers.{range}
use Rattle.h5w_model.specs.Programs.{Prog, ret, whole, counted, stored, eval, next_look, fed}
use Rattle.h5w_model.specs.Unfinished.{Unfinished, Reader, rows_left, values_left, fed_left, next_look_of, wanted, with_left}
use Rattle.h5w_image.specs.View.{GivesRange, ImageView, Looked}
use Rattle.h5w_image.proofs.ViewLemmas.{looked_twice}
use Rattle.h5w_laws.proofs.MostLooks.{length_in}
use Rattle.h5w_looks.specs.Still.{IsStill}
use Rattle.h5w_looks.proofs.ReadLemmas.{still_on, given_there}
use Rattle.h5w_reader.specs.Readers.{StepTells}
use Rattle.h5w_reader.specs.declared.step.Step.{Step}
use Rattle.h5w_reader.specs.declared.step.Step.TheVariants as steps
use Rattle.h5w_answers.specs.Answering.{AnswersCall, IsForRows, IsForValues, evaluated}

abbrev place_in : Option (ℕ × ℕ) → ℕ
place_in None = 0
place_in (Some look) = look.0

eval_fed : {A : Type 0} (img : List ℕ) (p : Prog A) (at len : ℕ) → next_look p ≡ Some (at, len) → eval img (fed (range img at len) p) ≡ eval img p
eval_fed img (ret a) at len e = cc
eval_fed img (whole place n next) at len e =
    ap (λ x. eval img (next (range img x len))) (sym (ap place_in e)) ∙ ap (λ x. eval img (next (range img place x))) (sym (ap length_in e))
eval_fed img (counted place counts next) at len e = cc
eval_fed img (stored kind place n next) at len e = cc

evaluated_fed : (img : List ℕ) (left : Unfinished) (at len : ℕ) → next_look_of left ≡ Some (at, len) → evaluated img (fed_left (range img at len) left) ≡ evaluated img left
evaluated_fed img (rows_left p) at len e = ap (λ r. rows_left (ret r)) (eval_fed img p at len e)
evaluated_fed img (values_left p) at len e = ap (λ r. values_left (ret r)) (eval_fed img p at len e)

-- what is left once the wanted look gave its bytes comes to the same
pub same_answer : (img : List ℕ) (left : Option Unfinished) (at len : ℕ) (bytes : List ℕ) → wanted left ≡ Some (at, len) → bytes ≡ range img at len
    → option_map (evaluated img) (option_map (fed_left bytes) left) ≡ option_map (evaluated img) left
same_answer img None at len bytes e is = cc
same_answer img (Some l) at len bytes e is = ap (λ b. Some (evaluated img (fed_left b l))) is ∙ ap Some (evaluated_fed img l at len e)

-- the answer of a call whose looks were all taken is what is left then
pub told_whole : (img : List ℕ) (l : Option Unfinished) (old new : Reader) (step : Step) → step ≢ steps.More → StepTells l old step new → StepTells (option_map (evaluated img) l) old step new
told_whole img l old new steps.More more tells = absurd (more refl)
told_whole img l old new (steps.Rows n) more tells = (tells.0, ap (option_map (evaluated img)) tells.1, tells.2, tells.3)
told_whole img l old new (steps.Values vs) more tells = (ap (option_map (evaluated img)) tells.0, tells.1)
told_whole img l old new (steps.Refused e) more tells = (elim tells.0 [ inl a ↦ inl (ap (option_map (evaluated img)) a) | inr b ↦ elim b [ inl v ↦ inr (inl (ap (option_map (evaluated img)) v)) | inr m ↦ inr (inr m) ] ], tells.1)

-- by what a reader was before, as only its call went on
pub told_since : (l m : Option Unfinished) (first old new : Reader) (step : Step) → step ≢ steps.More → l ≡ m → old ≡ with_left first old.left → StepTells l old step new → StepTells m first step new
told_since l m first old new steps.More more e same tells = absurd (more refl)
told_since l m first old new (steps.Rows n) more e same tells =
    (tells.0, sym e ∙ tells.1, tells.2, tells.3 ∙ ap (λ (r : Reader). record { rules = r.rules; known = Some tells.0; left = None }) same)
told_since l m first old new (steps.Values vs) more e same tells = (sym e ∙ tells.0, tells.1 ∙ ap (λ (r : Reader). with_left r None) same)
told_since l m first old new (steps.Refused e0) more e same tells =
    (elim tells.0 [ inl a ↦ inl (sym e ∙ a) | inr b ↦ elim b [ inl v ↦ inr (inl (sym e ∙ v)) | inr w ↦ inr (inr w) ] ], tells.1 ∙ ap (λ (r : Reader). with_left r None) same)

-- a call stays of its kind
pub rows_fed : (bytes : List ℕ) (l : Option Unfinished) → IsForRows l → IsForRows (option_map (fed_left bytes) l)
rows_fed bytes None h = absurd h
rows_fed bytes (Some (rows_left p)) h = tt
rows_fed bytes (Some (values_left p)) h = absurd h

pub values_fed : (bytes : List ℕ) (l : Option Unfinished) → IsForValues l → IsForValues (option_map (fed_left bytes) l)
values_fed bytes None h = absurd h
values_fed bytes (Some (rows_left p)) h = absurd h
values_fed bytes (Some (values_left p)) h = tt

-- ---- The loop

-- Looks were taken of the call that the reader first had.
pub record Asking (v w : ImageView) (first now : Reader) : Type 0 where
  pub looked : Looked v w
  pub wanting : IsSome (wanted now.left)
  pub same : now ≡ with_left first now.left
  pub rows : IsForRows first.left → IsForRows now.left
  pub values : IsForValues first.left → IsForValues now.left
  pub exact : (img : List ℕ) → IsStill v img → option_map (evaluated img) now.left ≡ option_map (evaluated img) first.left

pub asking_more : {v w x : ImageView} {first now new : Reader} (at len : ℕ) (bytes : List ℕ) → Asking v w first now → Looked w x → wanted now.left ≡ Some (at, len) → GivesRange x at len bytes
    → StepTells (option_map (fed_left bytes) now.left) now steps.More new → IsSome (wanted new.left) → Asking v x first new
asking_more {v} {w} {x} {first} {now} {new} at len bytes a looked want gives next wanting =
    let left : new.left ≡ option_map (fed_left bytes) now.left = ap (λ (r : Reader). r.left) next in record {
      looked = looked_twice a.looked looked;
      wanting = wanting;
      same = next ∙ ap (λ (r : Reader). with_left r (option_map (fed_left bytes) now.left)) a.same ∙ ap (λ l. with_left first l) (sym left);
      rows = λ h. subst (λ (l : Option Unfinished). IsForRows l) (sym left) (rows_fed bytes now.left (a.rows h));
      values = λ h. subst (λ (l : Option Unfinished). IsForValues l) (sym left) (values_fed bytes now.left (a.values h));
      exact = λ img still.
          ap (option_map (evaluated img)) left
          ∙ same_answer img now.left at len bytes want (given_there x img at len bytes (still_on img looked (still_on img a.looked still)) gives) ∙ a.exact img still;
    }

-- the answer, whatever the looks gave
pub asking_answers : {v w : ImageView} {first now : Reader} (new : Reader) (bytes : List ℕ) (step : Step) → Asking v w first now → step ≢ steps.More → StepTells (option_map (fed_left bytes) now.left) now step new
    → AnswersCall first step new
asking_answers {v} {w} {first} {now} new bytes step a more tells = record {
  left = option_map (fed_left bytes) now.left;
  rows = λ h. rows_fed bytes now.left (a.rows h);
  values = λ h. values_fed bytes now.left (a.values h);
  tells = told_since (option_map (fed_left bytes) now.left) (option_map (fed_left bytes) now.left) first now new step more refl a.same tells;
}

-- the answer over an image that stays as it is
pub asking_exact : {v w x : ImageView} {first now : Reader} (new : Reader) (at len : ℕ) (bytes : List ℕ) (step : Step) → Asking v w first now → Looked w x → wanted now.left ≡ Some (at, len) → GivesRange x at len bytes
    → step ≢ steps.More → StepTells (option_map (fed_left bytes) now.left) now step new
    → (img : List ℕ) → IsStill v img → StepTells (option_map (evaluated img) first.left) first step new
asking_exact {v} {w} {x} {first} {now} new at len bytes step a looked want gives more tells = λ img still.
    told_since (option_map (evaluated img) (option_map (fed_left bytes) now.left)) (option_map (evaluated img) first.left) first now new step more
    (same_answer img now.left at len bytes want (given_there x img at len bytes (still_on img looked (still_on img a.looked still)) gives) ∙ a.exact img still)
    a.same (told_whole img (option_map (fed_left bytes) now.left) now new step more tells)
