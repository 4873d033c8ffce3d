-- By how much the end of a file rises.
use Rattle.std.proofs.Common.{◌≡◌, ℕ, ◌+◌, ◌*◌, ◌≤◌, List, [], ◌∷◌, ap, ◌∙◌, inl, inr, arith}
use Rattle.h5w_space.specs.Space.{Space, TakesPlace, extent}
use Rattle.h5w_cache.specs.Plans.{AreRetired, Retires}
use Rattle.h5w_cache.specs.declared.moves.Move.{Move}
use Rattle.h5w_index.specs.Marks.{IsRaised}

pub raised_none : (s t : Space) → t.end ≡ s.end → t.limit ≡ s.limit → IsRaised s t 0
raised_none s t end limit = record { rises = omega (arith, end); bound = omega (arith, end); limit = limit; fits = omega (arith, end) }

pub raised_on : (s t u : Space) (a b : ℕ) → IsRaised s t a → IsRaised t u b → IsRaised s u (a + b)
raised_on s t u a b first next = record {
  rises = omega (arith, first.rises, next.rises);
  bound = omega (arith, first.bound, next.bound);
  limit = next.limit ∙ first.limit;
  fits = omega (arith, first.fits, next.fits, next.limit);
}

pub raised_more : (s t : Space) (a b : ℕ) → a ≤ b → IsRaised s t a → IsRaised s t b
raised_more s t a b less r = record { rises = r.rises; bound = omega (arith, r.bound); limit = r.limit; fits = r.fits }

-- a place that is taken raises the end by its size at most
pub raised_one : (s t : Space) (at size : ℕ) → TakesPlace s t (extent at size) → IsRaised s t size
raised_one s t at size takes =
    elim takes.by [
      | inl free ↦ raised_more s t 0 size (omega arith) (raised_none s t free.end takes.limit)
      | inr last ↦ record {
        rises = omega (arith, last.end);
        bound = omega (arith, last.end);
        limit = takes.limit;
        fits = omega (arith, last.end, last.fits, takes.limit);
      }
    ]

-- what is retired raises nothing
retire_limit : (s : Space) (m : Move) (t : Space) → Retires s m t → t.limit ≡ s.limit
retire_limit s m t (inl left) = ap (λ (x : Space). x.limit) left.1
retire_limit s m t (inr stays) = ap (λ (x : Space). x.limit) stays.1

retire_end : (s : Space) (m : Move) (t : Space) → Retires s m t → t.end ≡ s.end
retire_end s m t (inl left) = ap (λ (x : Space). x.end) left.1
retire_end s m t (inr stays) = ap (λ (x : Space). x.end) stays.1

pub retired_raised : (s : Space) (ms : List Move) (t : Space) → AreRetired s ms t → IsRaised s t 0
retired_raised s [] t h = raised_none s t (ap (λ (x : Space). x.end) h) (ap (λ (x : Space). x.limit) h)
retired_raised s (m ∷ ms) t h = raised_on s h.0 t 0 0 (raised_none s h.0 (retire_end s m h.0 h.1) (retire_limit s m h.0 h.1)) (retired_raised h.0 ms t h.2)

-- one place more of a size of which k were taken
pub raised_next : (s t u : Space) (k at size : ℕ) → IsRaised s t (k * size) → TakesPlace t u (extent at size) → IsRaised s u ((k + 1) * size)
raised_next s t u k at size before takes =
    let sum : k * size + size ≡ (k + 1) * size = grind arith in
    raised_more s u (k * size + size) ((k + 1) * size) (omega (arith, sum)) (raised_on s t u (k * size) size before (raised_one t u at size takes))

-- and none, where a chunk has its place already
pub raised_still : (s t : Space) (k size : ℕ) → IsRaised s t (k * size) → IsRaised s t ((k + 1) * size)
raised_still s t k size before =
    let sum : k * size + size ≡ (k + 1) * size = grind arith in
    raised_more s t (k * size) ((k + 1) * size) (omega (arith, sum)) before
