-- The batches of a generator are taken.
use Rattle.std.proofs.Common.{◌≡◌, ◌≢◌, ℕ, ◌+◌, ◌*◌, ◌/◌, ◌%◌, ◌≤◌, List, ◌∷◌, length, ℤ, sym, ap, ◌∙◌, subst, arith, add-one}
use Rattle.std.specs.Prelude.{◌==◌}
use Rattle.std.proofs.lemmas.Bool.{cond-true, cond-false, eq-eqb, ne_eqb}
use Rattle.h5w_image.specs.Memory.{MemView}
use Rattle.h5w_writer.specs.Sessions.{Session}
use Rattle.h5w_make.specs.Commands.{batches, full_batches, values_of}
use Rattle.h5w_make.specs.Generators.{generated, state_after}
use Rattle.h5w_make.specs.States.{IsAfter, IsTaken}
use Rattle.h5w_make.proofs.GeneratorLemmas.{full_count, full_values, length_generated, none_outside, state_more}

-- so many values behind some full batches
pub taken : (seed k c : ℕ) → 1 ≤ c → c ≤ 1000 → k * 1000 + c ≤ 1000000 → IsTaken (full_batches seed k) (generated (state_after seed (k * 1000)) c)
taken seed k c some few within =
    let count = length_generated (state_after seed (k * 1000)) c in
    let before : length (values_of (full_batches seed k)) ≡ k * 1000 = ap length (full_values seed k) ∙ length_generated seed (k * 1000) in
    record {
      some = omega (arith, count, some);
      few = omega (arith, count, few);
      batches = omega (arith, full_count seed k, within);
      rows = omega (arith, before, count, within);
      typed = none_outside (state_after seed (k * 1000)) c 0;
    }

pub none_left : (seed n : ℕ) → n % 1000 ≡ 0 → full_batches seed (n / 1000) ≡ batches seed n
none_left seed n none =
    sym (cond-true (n % 1000 == 0) (full_batches seed (n / 1000)) (generated (state_after seed (n / 1000 * 1000)) (n % 1000) ∷ full_batches seed (n / 1000)) (eq-eqb (n % 1000) 0 none))

pub some_left : (seed n : ℕ) → n % 1000 ≢ 0 → generated (state_after seed (n / 1000 * 1000)) (n % 1000) ∷ full_batches seed (n / 1000) ≡ batches seed n
some_left seed n some =
    sym (cond-false (n % 1000 == 0) (full_batches seed (n / 1000)) (generated (state_after seed (n / 1000 * 1000)) (n % 1000) ∷ full_batches seed (n / 1000)) (ne_eqb (n % 1000) 0 some))

-- ---- The loop over full batches

-- what a batch makes of a session between two batches
abbrev pub PutsBatch : Session → MemView → List ℤ → Session → MemView → Type 0
PutsBatch s m values t n = (bs : List (List ℤ)) → IsTaken bs values → IsAfter bs s m → IsAfter (values ∷ bs) t n

-- the values that the generator gives are those of the next batch
values_next : (seed k c state : ℕ) (values : List ℤ) → state ≡ state_after seed (k * 1000) → values ≡ generated state c → values ≡ generated (state_after seed (k * 1000)) c
values_next seed k c state values is given = given ∙ ap (λ x. generated x c) is

pub taken_next : (seed k c state : ℕ) (values : List ℤ) → 1 ≤ c → c ≤ 1000 → k * 1000 + c ≤ 1000000 → state ≡ state_after seed (k * 1000) → values ≡ generated state c → IsTaken (full_batches seed k) values
taken_next seed k c state values some few within is given =
    subst (λ (vs : List ℤ). IsTaken (full_batches seed k) vs) (sym (values_next seed k c state values is given)) (taken seed k c some few within)

pub puts_next : (seed k c state : ℕ) (s t : Session) (m n : MemView) (values : List ℤ) → 1 ≤ c → c ≤ 1000 → k * 1000 + c ≤ 1000000 → IsAfter (full_batches seed k) s m → state ≡ state_after seed (k * 1000)
    → values ≡ generated state c → PutsBatch s m values t n → IsAfter (generated (state_after seed (k * 1000)) c ∷ full_batches seed k) t n
puts_next seed k c state s t m n values some few within h is given puts =
    let same = values_next seed k c state values is given in
    let takes = taken_next seed k c state values some few within is given in
    subst (λ (vs : List ℤ). IsAfter (vs ∷ full_batches seed k) t n) same (puts (full_batches seed k) takes h)

pub state_next : (seed k state next : ℕ) → state ≡ state_after seed (k * 1000) → next ≡ state_after state 1000 → next ≡ state_after seed ((k + 1) * 1000)
state_next seed k state next is stepped =
    let n : k * 1000 + 1000 ≡ (k + 1) * 1000 = omega arith in
    stepped ∙ ap (λ x. state_after x 1000) is ∙ sym (state_more seed (k * 1000) 1000) ∙ ap (state_after seed) n

pub full_next : (seed k : ℕ) (t : Session) (n : MemView) → IsAfter (generated (state_after seed (k * 1000)) 1000 ∷ full_batches seed k) t n → IsAfter (full_batches seed (k + 1)) t n
full_next seed k t n h = subst (λ x. IsAfter (full_batches seed x) t n) (sym (add-one k)) h

-- the last batch, of what is left
pub batches_end : (seed k n state : ℕ) (values : List ℤ) → k ≡ n / 1000 → 1 ≤ n % 1000 → state ≡ state_after seed (k * 1000) → values ≡ generated state (n % 1000) → values ∷ full_batches seed k ≡ batches seed n
batches_end seed k n state values all some is given =
    let left : n % 1000 ≢ 0 = λ none. absurd (omega (arith, none, some)) in
    ap (λ (vs : List ℤ). vs ∷ full_batches seed k) (values_next seed k (n % 1000) state values is given)
    ∙ ap (λ (x : ℕ). generated (state_after seed (x * 1000)) (n % 1000) ∷ full_batches seed x) all ∙ some_left seed n left
