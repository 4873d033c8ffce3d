-- What calls say of an image while a tree is opened.
use Rattle.std.proofs.Common.{◌≡◌, ◌≢◌, ℕ, List, Result, Ok, Err, ap, arith}
use Rattle.h5w_model.specs.declared.refusal.BlockFault.{BlockFault}
use Rattle.h5w_image.specs.View.{ImageView, Looked}
use Rattle.h5w_image.proofs.ViewLemmas.{looked_twice}
use Rattle.h5w_looks.specs.Still.{IsStill}
use Rattle.h5w_looks.proofs.ReadLemmas.{still_on}
use Rattle.h5w_bt_open.specs.Calls.{IfDamaged, Loads, OnDamaged}
use Rattle.h5w_bt_open.specs.declared.error.OpenTreeError.{OpenTreeError}
use Rattle.h5w_bt_open.specs.declared.error.OpenTreeError.TheVariants.{Damaged, Failed, OutOfMemory}

pub damaged_map : (e : OpenTreeError) (P Q : ℕ → BlockFault → Type 0) → ((a : ℕ) (f : BlockFault) → P a f → Q a f) → IfDamaged e P → IfDamaged e Q
damaged_map (Damaged a f) P Q up h = up a f h
damaged_map Failed P Q up h = tt
damaged_map OutOfMemory P Q up h = tt

abbrev as_error : {B : Type 0} → OpenTreeError → Result B OpenTreeError
as_error e = Err e

pub same_error : {A B : Type 0} (e : OpenTreeError) → as_error {B = B} e ≡ Err Failed → as_error {B = A} e ≡ Err Failed
same_error e h = let k : e ≡ Failed = cc in ap (λ x. Err x) k

pub on_damaged_map : {A : Type 0} (r : Result A OpenTreeError) (P Q : ℕ → BlockFault → Type 0) → ((a : ℕ) (f : BlockFault) → P a f → Q a f) → OnDamaged r P → OnDamaged r Q
on_damaged_map (Ok a) P Q up h = tt
on_damaged_map (Err e) P Q up h = damaged_map e P Q up h

-- nothing was refused
pub looks_alone : {A : Type 0} {v w : ImageView} (P : List ℕ → ℕ → BlockFault → Type 0) (a : A) → Looked v w → Loads {A = A} v w P (Ok a)
looks_alone P a h = record { looked = h; cause = λ e. absurd (cc); damaged = λ img still. tt }

-- want of memory after a look
pub looks_memory : {A : Type 0} {v w : ImageView} (P : List ℕ → ℕ → BlockFault → Type 0) → Looked v w → Loads {A = A} v w P (Err OutOfMemory)
looks_memory P h = record { looked = h; cause = λ e. absurd (cc); damaged = λ img still. tt }

-- after looks, what a call says is more than what is asked
pub loads_within : {A B : Type 0} {v w x : ImageView} (P Q : List ℕ → ℕ → BlockFault → Type 0) (e : OpenTreeError) → Looked v w → ((img : List ℕ) → IsStill v img → (a : ℕ) (f : BlockFault) → P img a f → Q img a f)
    → Loads {A = A} w x P (Err e) → Loads {A = B} v x Q (Err e)
loads_within {A} {B} {v} {w} {x} P Q e one up two = record {
  looked = looked_twice one two.looked;
  cause = λ y. let c = two.cause (same_error {A = A} {B = B} e y) in let f = one.faults in omega arith;
  damaged = λ img still. damaged_map e (P img) (Q img) (up img still) (two.damaged img (still_on img one still));
}

-- a refusal that is none of the image
pub loads_quiet : {B : Type 0} {v w : ImageView} (P : List ℕ → ℕ → BlockFault → Type 0) (S : ℕ → BlockFault → Type 0) (e : OpenTreeError) → Looked v w → (e ≢ Failed)
    → ((img : List ℕ) → IsStill v img → (a : ℕ) (f : BlockFault) → S a f → P img a f) → IfDamaged e S → Loads {A = B} v w P (Err e)
loads_quiet {B} P S e looked quiet up h = record {
  looked = looked;
  cause = λ x. absurd (quiet (let y : e ≡ Failed = cc in y));
  damaged = λ img still. damaged_map e S (P img) (up img still) h;
}

-- the same of any answer
pub loads_through : {B : Type 0} {v w x : ImageView} (P Q : List ℕ → ℕ → BlockFault → Type 0) (r : Result B OpenTreeError) → Looked v w → ((img : List ℕ) → IsStill v img → (a : ℕ) (f : BlockFault) → P img a f → Q img a f)
    → Loads {A = B} w x P r → Loads {A = B} v x Q r
loads_through {B} {v} {w} {x} P Q r one up two = record {
  looked = looked_twice one two.looked;
  cause = λ e. let c = two.cause e in let f = one.faults in omega arith;
  damaged = λ img still. on_damaged_map r (P img) (Q img) (up img still) (two.damaged img (still_on img one still));
}
