-- Datasets of one column.
use Rattle.std.proofs.Common.{ℕ, ℤ, ◌≡◌, ◌*◌, List, length, sym, ap, ◌∙◌, arith}
use Rattle.h5w_writer.specs.Sessions.{Session, AreRows}

-- any values are rows of it
pub are_rows : (s : Session) (values : List ℤ) (columns : ℕ) → columns ≡ s.dataset.shape.cols → columns ≡ 1 → AreRows s values
are_rows s values columns told one =
    (length values, (let whole : length values ≡ length values * 1 = omega arith in whole ∙ ap (λ (n : ℕ). length values * n) (sym one ∙ told)))
