-- One dataset among those of a script, after a line.
use Rattle.std.proofs.Common.{◌≡◌, ◌≢◌, ◌⊎◌, ℕ, zero, suc, ◌+◌, ◌<◌, ◌≤◌, Bool, true, false, List, [], ◌∷◌, length, map, Option, Some, None, refl, sym, ◌∙◌, ap, subst, inl, inr, arith}
use Rattle.std.specs.Prelude.{slice_get, is_some}
use Rattle.h5w_model.specs.Lawful.{Line, flushes, ReaderState, reader_in}
use Rattle.h5w_model.specs.declared.reply.Reply.{Reply}
use Rattle.h5w_model.specs.declared.reply.Reply.TheVariants as replies
use Rattle.h5w_several_script_laws.specs.Scripts.{SetState, due, planned, set_after, set_of, sets_after}

pub got_is : (x y : SetState) → ◌≡◌ {A = Option SetState} (Some x) (Some y) → x ≡ y
got_is x y e = cc

-- ---- One of them

pub record Mapped (f : SetState → SetState) (xs : List SetState) (d : ℕ) (y : SetState) : Type 0 where
  pub was : SetState
  pub there : slice_get xs d ≡ Some was
  pub is : y ≡ f was

-- each was changed alike
pub got_map : (f : SetState → SetState) (xs : List SetState) (d : ℕ) (y : SetState) → slice_get (map f xs) d ≡ Some y → Mapped f xs d y
got_map f [] d y e = absurd (cc)
got_map f (x ∷ xs) zero y e = record { was = x; there = refl; is = sym (got_is (f x) y e) }
got_map f (x ∷ xs) (suc d) y e = let m = got_map f xs d y e in record { was = m.was; there = m.there; is = m.is }

-- a line of one of them
pub record After (e : ℕ) (line : Line) (reply : Reply) (xs : List SetState) (d : ℕ) (y : SetState) : Type 0 where
  pub was : SetState
  pub there : slice_get xs d ≡ Some was
  pub is : ((d ≡ e) × (y ≡ set_after line reply was)) ⊎ ((d ≢ e) × (y ≡ was))

pub got_after : (e : ℕ) (line : Line) (reply : Reply) (xs : List SetState) (d : ℕ) (y : SetState) → slice_get (sets_after e line reply xs) d ≡ Some y → After e line reply xs d y
got_after e line reply [] d y h = absurd (cc)
got_after zero line reply (x ∷ xs) zero y h = record { was = x; there = refl; is = inl (refl, sym (got_is (set_after line reply x) y h)) }
got_after zero line reply (x ∷ xs) (suc d) y h = record { was = y; there = h; is = inr ((λ z. omega (arith, z)), refl) }
got_after (suc e) line reply (x ∷ xs) zero y h = record { was = x; there = refl; is = inr ((λ z. omega (arith, z)), sym (got_is x y h)) }
got_after (suc e) line reply (x ∷ xs) (suc d) y h =
    let m = got_after e line reply xs d y h in
    record {
      was = m.was;
      there = m.there;
      is = elim m.is [ inl k ↦ inl (ap suc k.0, k.1) | inr k ↦ inr ((λ z. k.0 (omega (arith, z))), k.1) ];
    }

-- a flush of all of them
pub record Planned (xs : List SetState) (d : ℕ) (y : SetState) : Type 0 where
  pub was : SetState
  pub there : slice_get xs d ≡ Some was
  pub pieces : ℕ
  pub is : y ≡ set_after flushes (replies.Flushing pieces) was

pub got_planned : (before : ℕ) (ns : List ℕ) (xs : List SetState) (d : ℕ) (y : SetState) → length ns ≡ length xs → slice_get (planned before ns xs) d ≡ Some y → Planned xs d y
got_planned before [] [] d y e h = absurd (cc)
got_planned before [] (x ∷ xs) d y e h = absurd (omega (arith, e))
got_planned before (n ∷ ns) [] d y e h = absurd (omega (arith, e))
got_planned before (n ∷ ns) (x ∷ xs) zero y e h =
    record { was = x; there = refl; pieces = due before n; is = sym (got_is (set_after flushes (replies.Flushing (due before n)) x) y h) }
got_planned before (n ∷ ns) (x ∷ xs) (suc d) y e h =
    let m = got_planned (before + n) ns xs d y (omega (arith, e)) h in
    record { was = m.was; there = m.there; pieces = m.pieces; is = m.is }

-- ---- How many there are

pub length_after : (e : ℕ) (line : Line) (reply : Reply) (xs : List SetState) → length (sets_after e line reply xs) ≡ length xs
length_after e line reply [] = refl
length_after zero line reply (x ∷ xs) = refl
length_after (suc e) line reply (x ∷ xs) = ap suc (length_after e line reply xs)

pub length_planned : (before : ℕ) (ns : List ℕ) (xs : List SetState) → length ns ≡ length xs → length (planned before ns xs) ≡ length xs
length_planned before [] [] e = refl
length_planned before [] (x ∷ xs) e = refl
length_planned before (n ∷ ns) [] e = refl
length_planned before (n ∷ ns) (x ∷ xs) e = ap suc (length_planned (before + n) ns xs (omega (arith, e)))

-- ---- The one with a reader

-- it was opened for this dataset
abbrev pub has_reader : ℕ → SetState → Bool
has_reader n x = is_some (reader_in n x.state.readers)

with_one : (k m : ℕ) (o : Option ReaderState) → is_some o ≡ true → elim o as (λ _. ℕ) [ Some y ↦ k | None ↦ m ] ≡ k
with_one k m None t = absurd (let clash : false ≡ true = t in cc)
with_one k m (Some y) t = refl

without : (k m : ℕ) (o : Option ReaderState) → is_some o ≡ false → elim o as (λ _. ℕ) [ Some y ↦ k | None ↦ m ] ≡ m
without k m None f = refl
without k m (Some y) f = absurd (let clash : true ≡ false = f in cc)

-- the first one that has it is found
pub finds : (n other k d : ℕ) (xs : List SetState) (x : SetState) → slice_get xs d ≡ Some x → has_reader n x ≡ true → ((e : ℕ) (y : SetState) → e < d → slice_get xs e ≡ Some y → has_reader n y ≡ false)
    → set_of n other k xs ≡ k + d
finds n other k d [] x there t none = absurd (cc)
finds n other k zero (y ∷ xs) x there t none =
    let same : has_reader n y ≡ true = ap (has_reader n) (got_is y x there) ∙ t in
    with_one k (set_of n other (suc k) xs) (reader_in n y.state.readers) same ∙ omega arith
finds n other k (suc d) (y ∷ xs) x there t none =
    let later : set_of n other (suc k) xs ≡ suc k + d = finds n other (suc k) d xs x there t (λ e z low is. none (suc e) z (omega (arith, low)) is) in
    without k (set_of n other (suc k) xs) (reader_in n y.state.readers) (none 0 y (omega arith) refl) ∙ later ∙ omega arith

-- none has it
pub finds_none : (n other k : ℕ) (xs : List SetState) → ((e : ℕ) (y : SetState) → slice_get xs e ≡ Some y → has_reader n y ≡ false) → set_of n other k xs ≡ other
finds_none n other k [] none = refl
finds_none n other k (y ∷ xs) none =
    without k (set_of n other (suc k) xs) (reader_in n y.state.readers) (none 0 y refl) ∙ finds_none n other (suc k) xs (λ e z is. none (suc e) z is)
