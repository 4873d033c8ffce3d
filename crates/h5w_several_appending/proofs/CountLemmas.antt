-- What is counted of each dataset of a session.
use Rattle.std.proofs.Common.{◌≡◌, ℕ, zero, suc, ◌+◌, ◌<◌, ◌≤◌, List, [], ◌∷◌, ◌++◌, length, map, take, Some, refl, ap, ◌∙◌, arith}
use Rattle.std.specs.Prelude.{slice_get}
use Rattle.std.proofs.lemmas.List.{take_all}
use Rattle.h5w_writer.specs.Sessions.{Session}
use Rattle.h5w_several_batches.specs.SetLines.{columns_at}

-- one more
take_next : (f : Session → ℕ) (ss : List Session) (d n : ℕ) → d < length ss → ((s : Session) → slice_get ss d ≡ Some s → n ≡ f s) → map f (take d ss) ++ n ∷ [] ≡ map f (take (suc d) ss)
take_next f [] d n low is = absurd (omega (arith, low))
take_next f (s ∷ ss) zero n low is = ap (λ (k : ℕ). k ∷ []) (is s refl)
take_next f (s ∷ ss) (suc d) n low is = ap (λ (ns : List ℕ). f s ∷ ns) (take_next f ss d n (omega (arith, low)) is)

pub take_one : (f : Session → ℕ) (ss : List Session) (d n : ℕ) → d < length ss → ((s : Session) → slice_get ss d ≡ Some s → n ≡ f s) → map f (take d ss) ++ n ∷ [] ≡ map f (take (d + 1) ss)
take_one f ss d n low is = let same : suc d ≡ d + 1 = omega arith in take_next f ss d n low is ∙ ap (λ (k : ℕ). map f (take k ss)) same

-- so many were counted
pub taken_count : (f : Session → ℕ) (ss : List Session) (d : ℕ) → length (map f (take d ss)) ≤ d
taken_count f ss zero = omega arith
taken_count f [] (suc d) = omega arith
taken_count f (s ∷ ss) (suc d) = let rest = taken_count f ss d in omega (arith, rest)

pub take_whole : (f : Session → ℕ) (ss : List Session) (d : ℕ) → length ss ≤ d → map f (take d ss) ≡ map f ss
take_whole f ss d low = ap (map f) (take_all d ss low)

-- each is 1 or more
pub some_more : (ns : List ℕ) (n : ℕ) → ((k : ℕ) → 1 ≤ columns_at ns k) → 1 ≤ n → (k : ℕ) → 1 ≤ columns_at (ns ++ n ∷ []) k
some_more [] n all one zero = one
some_more [] n all one (suc k) = omega arith
some_more (m ∷ ns) n all one zero = all 0
some_more (m ∷ ns) n all one (suc k) = some_more ns n (λ j. all (suc j)) one k
