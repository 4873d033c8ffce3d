-- The chunks that new rows touch, by their numbers and keys, and the new ones among them.
use Rattle.std.proofs.Common.{◌≡◌, ◌⊎◌, ℕ, zero, suc, ◌+◌, ◌-◌, ◌*◌, ◌/◌, ◌%◌, ◌<◌, ◌≤◌, Bool, true, false, List, [], ◌∷◌, ◌++◌, length, Option, Some, refl, sym, ◌∙◌, ap, subst, inl, inr, arith}
use Rattle.std.specs.Prelude.{◌==◌, nat_lt, if◌then◌else◌, slice_get}
use Rattle.std.proofs.Math.Nat.{mod-lt, mul_assoc}
use Rattle.std.proofs.lemmas.Bool.{cond-true, lt-ltb, ltb-false, eq-eqb, eqb-true}
use Rattle.h5w_model.specs.Numbers.{undefined}
use Rattle.h5w_model.specs.Logs.{div_up}
use Rattle.h5w_model.specs.Datasets.{Described}
use Rattle.h5w_model.specs.Tables.{bands, chunks_across, needed, limit_of, format_limits}
use Rattle.h5w_model.specs.Findings.{Used, chunk_bytes}
use Rattle.h5w_model.specs.declared.cell.Key.{Key}
use Rattle.h5w_model.specs.declared.piece.Write.{Write}
use Rattle.h5w_chunks.specs.Grids.{chunk_len}
use Rattle.h5w_chunks.specs.Shares.{first_line, touched, touched_key}
use Rattle.h5w_chunks.specs.Rows.{AllWithin, IsChunkOf}
use Rattle.h5w_chunks.specs.declared.grid.ChunkPlace.{ChunkPlace}
use Rattle.h5w_chunks.proofs.Geometry.{quotient_lt}
use Rattle.h5w_chunks.proofs.KeyLemmas.{array_line, some_across}
use Rattle.h5w_step_laws.specs.Ranges.{Among, AreApart, Disjoint, chunk_at}
use Rattle.h5w_step_laws.specs.Indexes.{IsNamed}
use Rattle.h5w_step_laws.specs.Needed.{AreFew}
use Rattle.h5w_step_laws.specs.Files.{with_rows}
use Rattle.h5w_flush_laws.specs.Rows.{new_chunks, NewChunksMore, RowsAnywhere}

-- ---- Numbers and keys

-- the numbers of touched chunks
abbrev pub touched_bands : Described → ℕ → ℕ → ℕ
touched_bands d from to = div_up to d.layout.chunk_rows - from / d.layout.chunk_rows

pub touched_is : (d : Described) (from to : ℕ) → from < to → touched d from to ≡ touched_bands d from to * chunks_across d
touched_is d from to some = cond-true (nat_lt from to) (touched_bands d from to * chunks_across d) 0 (lt-ltb from to some)

-- band and column of a touched chunk
pub record IsTouched (d : Described) (from to number : ℕ) : Type 0 where
  pub band : number / chunks_across d < touched_bands d from to
  pub column : number % chunks_across d < chunks_across d

pub touched_parts : (d : Described) (from to number : ℕ) → from < to → number < touched d from to → IsTouched d from to number
touched_parts d from to number some low =
    let below : number < touched_bands d from to * chunks_across d = subst (λ n. number < n) (touched_is d from to some) low in
    let any = some_across number (touched_bands d from to) (chunks_across d) below in
    record { band = quotient_lt number (touched_bands d from to) (chunks_across d) any below; column = mod-lt number any }

-- a key in the lines of few chunks is one that the index is asked for
pub few_named : (d : Described) → AreFew d → (key : Key) → key.i < first_line d (bands d) → IsNamed d key
few_named d few key line is =
    let low : needed d ≤ 131060 = subst (λ kind. needed d ≤ limit_of format_limits kind) is (ltb-false (limit_of format_limits d.layout.index) (needed d) few) in
    omega (arith, line, array_line d (bands d) is, low)

-- ---- The new chunks

abbrev pub or_none : Bool → Used → List Used → List Used
or_none b u us = if b then u ∷ us else us

pub new_member : (d : Described) (old : Key → ℕ) (from base : ℕ) (places : List ChunkPlace) (k : ℕ) (p : ChunkPlace) → slice_get places k ≡ Some p → old (touched_key d from (base + k)) ≡ undefined
    → Among (chunk_at p.address (chunk_bytes d)) (new_chunks d old from base places)
new_member d old from base [] k p found e = absurd cc
new_member d old from base (q ∷ places) zero p found e =
    let same : q ≡ p = some_same q p found in
    let here : base + 0 ≡ base = omega arith in
    let first : (old (touched_key d from base) == undefined) ≡ true = eq-eqb (old (touched_key d from base)) undefined (ap (λ n. old (touched_key d from n)) (sym here) ∙ e) in
    subst (λ (us : List Used). Among (chunk_at p.address (chunk_bytes d)) us) (sym (ap (λ b. or_none b (chunk_at q.address (chunk_bytes d)) (new_chunks d old from (suc base) places)) first))
    (inl (ap (λ (x : ChunkPlace). chunk_at x.address (chunk_bytes d)) same))
  where
    some_same : (x y : ChunkPlace) → ◌≡◌ {A = Option ChunkPlace} (Some x) (Some y) → x ≡ y
    some_same x y h = cc
new_member d old from base (q ∷ places) (suc k) p found e =
    let next : base + suc k ≡ suc base + k = omega arith in
    later (old (touched_key d from base) == undefined) (new_member d old from (suc base) places k p found (ap (λ n. old (touched_key d from n)) (sym next) ∙ e))
  where
    later : (b : Bool) → Among (chunk_at p.address (chunk_bytes d)) (new_chunks d old from (suc base) places) → Among (chunk_at p.address (chunk_bytes d)) (or_none b (chunk_at q.address (chunk_bytes d)) (new_chunks d old from (suc base) places))
    later true a = inr a
    later false a = a

-- where a new chunk comes from
pub record NewFrom (d : Described) (old : Key → ℕ) (from base : ℕ) (places : List ChunkPlace) (u : Used) : Type 0 where
  pub number : ℕ
  pub place : ChunkPlace
  pub found : slice_get places number ≡ Some place
  pub absent : old (touched_key d from (base + number)) ≡ undefined
  pub is : u ≡ chunk_at place.address (chunk_bytes d)

pub new_from : (d : Described) (old : Key → ℕ) (from base : ℕ) (places : List ChunkPlace) (u : Used) → Among u (new_chunks d old from base places) → NewFrom d old from base places u
new_from d old from base [] u a = absurd a
new_from d old from base (p ∷ places) u a = go (λ b. new_from d old from (suc base) places u b) (old (touched_key d from base) == undefined) refl a
  where
    later : NewFrom d old from (suc base) places u → NewFrom d old from base (p ∷ places) u
    later n = record {
      number = suc n.number;
      place = n.place;
      found = n.found;
      absent = ap (λ k. old (touched_key d from k)) (let e : base + suc n.number ≡ suc base + n.number = omega arith in e) ∙ n.absent;
      is = n.is;
    }

    first : (Among u (new_chunks d old from (suc base) places) → NewFrom d old from (suc base) places u) → (old (touched_key d from base) == undefined) ≡ true
        → (chunk_at p.address (chunk_bytes d) ≡ u) ⊎ Among u (new_chunks d old from (suc base) places) → NewFrom d old from base (p ∷ places) u
    first more e (inl same) = record {
      number = 0;
      place = p;
      found = refl;
      absent = ap (λ k. old (touched_key d from k)) (let h : base + 0 ≡ base = omega arith in h) ∙ eqb-true (old (touched_key d from base)) undefined e;
      is = sym same;
    }
    first more e (inr b) = later (more b)

    go : (Among u (new_chunks d old from (suc base) places) → NewFrom d old from (suc base) places u) → (b : Bool) → (old (touched_key d from base) == undefined) ≡ b
        → Among u (or_none b (chunk_at p.address (chunk_bytes d)) (new_chunks d old from (suc base) places)) → NewFrom d old from base (p ∷ places) u
    go more true e b = first more e b
    go more false e b = later (more b)

-- two of them do not meet
pub new_apart : (d : Described) (old : Key → ℕ) (from base : ℕ) (places : List ChunkPlace) (j k : ℕ) (p q : ChunkPlace) → Disjoint (new_chunks d old from base places) → j < k → slice_get places j ≡ Some p
    → slice_get places k ≡ Some q → old (touched_key d from (base + j)) ≡ undefined → old (touched_key d from (base + k)) ≡ undefined → AreApart (chunk_at p.address (chunk_bytes d)) (chunk_at q.address (chunk_bytes d))
new_apart d old from base [] j k p q apart less first second e g = absurd cc
new_apart d old from base (x ∷ places) j zero p q apart less first second e g = absurd (omega (arith, less))
new_apart d old from base (x ∷ places) zero (suc k) p q apart less first second e g =
    let same : x ≡ p = some_same x p first in
    let here : base + 0 ≡ base = omega arith in
    let next : base + suc k ≡ suc base + k = omega arith in
    let is : (old (touched_key d from base) == undefined) ≡ true = eq-eqb (old (touched_key d from base)) undefined (ap (λ n. old (touched_key d from n)) (sym here) ∙ e) in
    let both : Disjoint (chunk_at x.address (chunk_bytes d) ∷ new_chunks d old from (suc base) places) =
    subst (λ (us : List Used). Disjoint us) (ap (λ b. or_none b (chunk_at x.address (chunk_bytes d)) (new_chunks d old from (suc base) places)) is) apart in
    subst (λ (y : ChunkPlace). AreApart (chunk_at y.address (chunk_bytes d)) (chunk_at q.address (chunk_bytes d))) same
    (both.1 (chunk_at q.address (chunk_bytes d)) (new_member d old from (suc base) places k q second (ap (λ n. old (touched_key d from n)) (sym next) ∙ g)))
  where
    some_same : (x y : ChunkPlace) → ◌≡◌ {A = Option ChunkPlace} (Some x) (Some y) → x ≡ y
    some_same x y h = cc
new_apart d old from base (x ∷ places) (suc j) (suc k) p q apart less first second e g =
    new_apart d old from (suc base) places j k p q (rest (old (touched_key d from base) == undefined) apart) (omega (arith, less)) first second
    (ap (λ n. old (touched_key d from n)) (let h : suc base + j ≡ base + suc j = omega arith in h) ∙ e)
    (ap (λ n. old (touched_key d from n)) (let h : suc base + k ≡ base + suc k = omega arith in h) ∙ g)
  where
    rest : (b : Bool) → Disjoint (or_none b (chunk_at x.address (chunk_bytes d)) (new_chunks d old from (suc base) places)) → Disjoint (new_chunks d old from (suc base) places)
    rest true h = h.2
    rest false h = h

-- some places and then others
or_none_more : (b : Bool) (u : Used) (us vs : List Used) → or_none b u (us ++ vs) ≡ or_none b u us ++ vs
or_none_more true u us vs = refl
or_none_more false u us vs = refl

pub new_joined : (d : Described) (old : Key → ℕ) (from base : ℕ) (places more : List ChunkPlace) → new_chunks d old from base (places ++ more) ≡ new_chunks d old from base places ++ new_chunks d old from (base + length places) more
new_joined d old from base [] more = ap (λ k. new_chunks d old from k more) (let e : base ≡ base + 0 = omega arith in e)
new_joined d old from base (q ∷ places) more =
    let b : Bool = old (touched_key d from base) == undefined in
    let u : Used = chunk_at q.address (chunk_bytes d) in
    ap (or_none b u) (new_joined d old from (suc base) places more)
    ∙ or_none_more b u (new_chunks d old from (suc base) places) (new_chunks d old from (suc base + length places) more)
    ∙ ap (λ k. new_chunks d old from base (q ∷ places) ++ new_chunks d old from k more) (let e : suc base + length places ≡ base + suc (length places) = omega arith in e)

pub new_chunks_more : NewChunksMore
new_chunks_more d old from places p =
    new_joined d old from 0 places (p ∷ []) ∙ ap (λ k. new_chunks d old from 0 places ++ new_chunks d old from k (p ∷ [])) (let e : 0 + length places ≡ length places = omega arith in e)

pub same_len : (d : Described) → chunk_len d ≡ chunk_bytes d
same_len d = sym (mul_assoc d.layout.chunk_rows d.layout.chunk_cols d.int_type.size)

-- ---- The rows of the dataset do not matter

chunk_of_other : (d : Described) (rows from : ℕ) (places : List ChunkPlace) (row column : ℕ) (p : ChunkPlace) → IsChunkOf d from places row column p → IsChunkOf (with_rows rows d) from places row column p
chunk_of_other d rows from places row column p c = record { band = c.band; across = c.across; stands = c.stands }

within_other : (d : Described) (rows : ℕ) (places : List ChunkPlace) (ws : List Write) → AllWithin (with_rows rows d) places ws → AllWithin d places ws
within_other d rows places [] h = tt
within_other d rows places (w ∷ ws) h = (h.0, within_other d rows places ws h.1)

pub rows_anywhere : RowsAnywhere
rows_anywhere d rows cells from to places ws w = record {
  placed = λ row column low high inside. let c = w.placed row column low high inside in (c.0, record { band = c.1.band; across = c.1.across; stands = c.1.stands });
  stands = λ img row column p apart c low high inside. w.stands img row column p apart (chunk_of_other d rows from places row column p c) low high inside;
  filled = λ img row column p apart c other new. w.filled img row column p apart (chunk_of_other d rows from places row column p c) other new;
  missed = λ row column p apart c other stored. w.missed row column p apart (chunk_of_other d rows from places row column p c) other stored;
  sized = w.sized;
  within = within_other d rows places ws w.within;
}
