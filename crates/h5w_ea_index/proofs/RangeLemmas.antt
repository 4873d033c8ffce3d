-- Ranges put behind others, one after another.
use Rattle.std.proofs.Common.{◌≡◌, ℕ, suc, ◌+◌, List, ◌++◌, sym, ap, ◌∙◌, arith, append-nil, append_assoc}
use Rattle.h5w_ea_index.specs.Ranges.{each_below}

pub none_below : {A : Type 0} (f : ℕ → List A) (start : List A) → start ≡ start ++ each_below f 0
unfolding each_below
none_below f start = sym (append-nil start)

each_next : {A : Type 0} (f : ℕ → List A) (n : ℕ) → each_below f n ++ f n ≡ each_below f (n + 1)
unfolding each_below
each_next f n = let e : suc n ≡ n + 1 = omega arith in ap (each_below f) e

pub next_below : {A : Type 0} (f : ℕ → List A) (n : ℕ) (start got more : List A) → got ≡ start ++ each_below f n → more ≡ got ++ f n → more ≡ start ++ each_below f (n + 1)
next_below f n start got more before step = step ∙ ap (λ (x : List _). x ++ f n) before ∙ append_assoc start (each_below f n) (f n) ∙ ap (λ (x : List _). start ++ x) (each_next f n)
