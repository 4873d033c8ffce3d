-- Values that are whole rows.
use Rattle.std.proofs.Common.{◌≡◌, ◌/◌, ◌%◌, ℕ, ℤ, List, length, arith}
use Rattle.std.proofs.lemmas.Nat.{div-add-mod'}
use Rattle.h5w_writer.specs.Sessions.{AreRows, Session}

-- as many as so many whole rows have
pub rows_of_whole : (s : Session) (values : List ℤ) (count : ℕ) → length values ≡ count → count % s.dataset.shape.cols ≡ 0 → AreRows s values
rows_of_whole s values count long whole =
    let cols = s.dataset.shape.cols in
    let split = div-add-mod' count cols in
    (count / cols, omega (arith, long, whole, split))
