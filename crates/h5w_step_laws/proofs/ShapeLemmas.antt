-- What a header says of the second dimension of a dataset.
use Rattle.std.specs.Prelude.{◌==◌, if◌then◌else◌}
use Rattle.std.proofs.Common.{◌≡◌, ℕ, Bool, true, false, ◌||◌, not, refl, sym, ap, ◌∙◌, ◌⊎◌, ◌&&◌, subst, inl, inr}
use Rattle.std.proofs.lemmas.Bool.{eqb-true}
use Rattle.h5w_model.specs.Messages.{unlimited, is_shape}

-- a second dimension whose maximum is none, or is its size
pub by_side : (most cols : ℕ) → ((most == unlimited) || (most == cols)) ≡ true → ((most == unlimited) || not (cols == unlimited)) ≡ true
by_side most cols h = by (most == unlimited) refl h
  where
    by : (b : Bool) → (most == unlimited) ≡ b → (b || (most == cols)) ≡ true → (b || not (cols == unlimited)) ≡ true
    by true e g = refl
    by false e g =
        let same : most ≡ cols = eqb-true most cols g in
        ap not (ap (λ n. n == unlimited) (sym same) ∙ e)

pub by_rank : (rank rows cols most : ℕ) → (rank ≡ 1) ⊎ (rank ≡ 2) → ((rank == 1) || (most == unlimited) || (most == cols)) ≡ true
    → is_shape (record { rank = rank; rows = rows; cols = if rank == 1 then 1 else cols; growing = (rank == 2) && (most == unlimited) }) ≡ true
by_rank rank rows cols most (inl e) h = subst (λ n. is_shape (record { rank = n; rows = rows; cols = if n == 1 then 1 else cols; growing = (n == 2) && (most == unlimited) }) ≡ true) (sym e) refl
by_rank rank rows cols most (inr e) h =
    subst (λ n. is_shape (record { rank = n; rows = rows; cols = if n == 1 then 1 else cols; growing = (n == 2) && (most == unlimited) }) ≡ true) (sym e)
    (by_side most cols (subst (λ n. ((n == 1) || (most == unlimited) || (most == cols)) ≡ true) e h))
