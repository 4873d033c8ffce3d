-- The readers once one was put into its place.
use Rattle.std.proofs.Common.{◌≡◌, ℕ, ◌<◌, cond, true, false, List, length, get_or, Option, sym, refl, ap, ◌∙◌}
use Rattle.std.specs.Prelude.{◌==◌, slice_set}
use Rattle.std.specs.Option.{unwrap_or}
use Rattle.std.proofs.lemmas.Bool.{cond_both, eq-eqb, eqb-true}
use Rattle.std.proofs.lemmas.List.{get_or-set_same, get_or-set_other}
use Rattle.std.proofs.lemmas.Option.{slice_get-get_or}
use Rattle.h5w_model.specs.Unfinished.{Reader}
use Rattle.h5w_several_script_laws.specs.Polled.{Places}
use Rattle.h5w_several_core.specs.Places.{place_at, seated, vacant}
use Rattle.h5w_several_core.specs.declared.places.Place.{Place}

true_false : true ≡ false → ⊥
true_false e = cc

-- the readers with this in the place of reader n
abbrev pub with_seat : ℕ → Option (ℕ × Reader) → Places → Places
with_seat n o ps k = cond (n == k) o (ps k)

-- the place as it was
pub same_seat : (n : ℕ) (o : Option (ℕ × Reader)) (ps : Places) → ps n ≡ o → with_seat n o ps ≡ ps
same_seat n o ps is = λ i k. (at k) i
  where
    at : (k : ℕ) → with_seat n o ps k ≡ ps k
    at k = cond_both (n == k) o (ps k) (λ (p : Option (ℕ × Reader)). p ≡ ps k) (λ t. sym is ∙ ap ps (eqb-true n k t)) (λ t. refl)

pub set_at : (places : List Place) (r : ℕ) (new : Place) (q : ℕ) → r < length places → place_at (slice_set places r new) q ≡ with_seat r (seated new) (place_at places) q
set_at places r new q inside =
    cond_both (r == q) (seated new) (place_at places q) (λ (o : Option (ℕ × Reader)). place_at (slice_set places r new) q ≡ o)
    (λ t. ap (λ (k : ℕ). place_at (slice_set places r new) k) (sym (eqb-true r q t)) ∙ ap seated (get_or-set_same places r new vacant inside))
    (λ t. ap seated (get_or-set_other places r q new vacant (λ e. true_false (sym (eq-eqb r q (sym e)) ∙ t))))

pub set_seats : (places : List Place) (r : ℕ) (new : Place) → r < length places → place_at (slice_set places r new) ≡ with_seat r (seated new) (place_at places)
set_seats places r new inside = λ i q. (set_at places r new q inside) i

-- within a list no default is taken
pub any_default : (places : List Place) (r : ℕ) (d e : Place) → r < length places → get_or places r d ≡ get_or places r e
any_default places r d e inside = ap (λ (o : Option Place). unwrap_or o d) (sym (slice_get-get_or places r d inside) ∙ slice_get-get_or places r e inside)
