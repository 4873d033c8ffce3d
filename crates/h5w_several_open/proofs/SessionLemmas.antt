-- One session over the datasets of a file that is opened by several names.
use Rattle.std.proofs.Common.{◌≡◌, ℕ, ◌≤◌, List, [], ◌∷◌, get_or, length, refl, ap, arith}
use Rattle.h5w_model.specs.Relations.{AllPaired}
use Rattle.h5w_model.specs.declared.root.Super.{Super}
use Rattle.h5w_space.specs.Space.{Space}
use Rattle.h5w_writer.specs.PartLaws.{super_piece}
use Rattle.h5w_writer.specs.Sessions.{Session}
use Rattle.h5w_several_writer.specs.Opened.{AreOpened}
use Rattle.h5w_several_open.specs.Answers.{HasBegunWith}

-- there is one of each
pub as_many : {A B : Type 0} (P : A → B → Type 0) (xs : List A) (ys : List B) → AllPaired P xs ys → length ys ≡ length xs
as_many P [] [] h = refl
as_many P [] (y ∷ ys) h = absurd h
as_many P (x ∷ xs) [] h = absurd h
as_many P (x ∷ xs) (y ∷ ys) h = let rest = as_many P xs ys h.1 in omega (arith, rest)

pub are_opened : (limit budget : ℕ) (root : Super) (names : List (List ℕ)) (ss : List Session) → AllPaired (HasBegunWith limit budget root) names ss → AreOpened root.end ss
are_opened limit budget root [] [] h = tt
are_opened limit budget root [] (s ∷ ss) h = absurd h
are_opened limit budget root (name ∷ names) [] h = absurd h
are_opened limit budget root (name ∷ names) (s ∷ ss) h =
    let w : HasBegunWith limit budget root name s = h.0 in
    let ends : s.places.end ≡ root.end = ap (λ (t : Space). t.end) w.places in
    (record { ends = omega (arith, ends); going = w.begun.running; first = super_piece s.root; pending = w.begun.pending; calm = w.begun.flushing; early = w.begun.early }, are_opened limit budget root names ss h.1)

-- the superblock of the first
pub first_root : (limit budget : ℕ) (root : Super) (names : List (List ℕ)) (ss : List Session) (s : Session) → 1 ≤ length ss → AllPaired (HasBegunWith limit budget root) names ss → (get_or ss 0 s).root ≡ root
first_root limit budget root names [] s some h = absurd (omega (arith, some))
first_root limit budget root [] (x ∷ ss) s some h = absurd h
first_root limit budget root (name ∷ names) (x ∷ ss) s some h = let w : HasBegunWith limit budget root name x = h.0 in w.root_is

-- a file ends behind it
pub first_long : (limit budget : ℕ) (root : Super) (names : List (List ℕ)) (ss : List Session) → 1 ≤ length ss → AllPaired (HasBegunWith limit budget root) names ss → 48 ≤ root.end
first_long limit budget root names [] some h = absurd (omega (arith, some))
first_long limit budget root [] (x ∷ ss) some h = absurd h
first_long limit budget root (name ∷ names) (x ∷ ss) some h = let w : HasBegunWith limit budget root name x = h.0 in w.long
