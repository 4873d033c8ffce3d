-- What a run's log is to its readers, once all batches were flushed.
use Rattle.std.proofs.Common.{◌≡◌, ℕ, zero, suc, ◌+◌, ◌*◌, ◌/◌, ◌^◌, ◌<◌, ◌≤◌, Bool, true, false, List, [], ◌∷◌, length, take, ℤ, ◌+ℤ◌, ◌≤ℤ◌, ◌<ℤ◌, None, ◌⊎◌, inl, inr, sym, refl, ap, subst, arith}
use Rattle.std.proofs.lemmas.Bool.{and_parts}
use Rattle.std.specs.Int.Signed.{le_z, lt_z}
use Rattle.std.proofs.lemmas.Int.{ints, fits_signed_from_abs}
use Rattle.std.proofs.lemmas.List.{length-take}
use Rattle.std.specs.Prelude.{get_or, neg_ℤ, negsuc, pos, IsTrue}
use Rattle.std.specs.Int.{w128}
use Rattle.std.specs.Int.RustNames.{FitsSigned}
use Rattle.h5w_model.specs.Agrees.{total, values_in}
use Rattle.h5w_model.specs.Integers.{is_in_span, span_of}
use Rattle.h5w_model.specs.Lawful.{first_outside}
use Rattle.h5w_model.specs.Logs.{Log}
use Rattle.h5w_model.specs.Messages.{IntTypeFields, IsIntType, is_int_size}
use Rattle.h5w_model.proofs.IntegerLemmas.{int_sizes}
use Rattle.h5w_model.specs.Prefixed.{Held, Prefixed, image_at}
use Rattle.h5w_model.specs.Tables.{Shows, format_limits}
use Rattle.h5w_model.specs.declared.report.FlushLine.{FlushLine}
use Rattle.h5w_types.proofs.RunLemmas.{in_span_each}
use Rattle.h5w_reader.specs.Readers.{reader_rules}
use Rattle.h5w_creation_laws.specs.CreatedFiles.{CreatedFile}
use Rattle.h5w_writer.specs.Sessions.{Session}
use Rattle.h5w_writer.proofs.LawLemmas.{shown_laws, standing_laws}
use Rattle.h5w_shared.specs.Seats.{SeatView}
use Rattle.h5w_live_laws.specs.Laws.{IsRunOf, Restful}
use Rattle.h5w_live.specs.Reports.{run_of}
use Rattle.h5w_live.specs.Writing.{HasFlushed, Writes}
use Rattle.h5w_live.proofs.WritingLemmas.{is_new}

-- ---- Sums

-- no further from 0 than this
pub record Within (n : ℕ) (z : ℤ) : Type 0 where
  pub low : neg_ℤ (pos n) ≤ℤ z
  pub high : z ≤ℤ pos n

-- each value is one of at most 8 bytes
abbrev pub AreSmall : List ℤ → Type 0
AreSmall [] = Unit {0}
AreSmall (v ∷ vs) = Within 18446744073709551616 v × AreSmall vs

is_true : (b : Bool) → IsTrue b → b ≡ true
is_true b h = h

small_size : (n : ℕ) → IsTrue (is_int_size n) → 256 ^ n ≤ 18446744073709551616
small_size n typed = go (int_sizes n (is_true (is_int_size n) typed)) where
  go : (n ≡ 1) ⊎ ((n ≡ 2) ⊎ ((n ≡ 4) ⊎ (n ≡ 8))) → 256 ^ n ≤ 18446744073709551616
  go (inl e) = subst (λ k. 256 ^ k ≤ 18446744073709551616) (sym e) (omega arith)
  go (inr (inl e)) = subst (λ k. 256 ^ k ≤ 18446744073709551616) (sym e) (omega arith)
  go (inr (inr (inl e))) = subst (λ k. 256 ^ k ≤ 18446744073709551616) (sym e) (omega arith)
  go (inr (inr (inr e))) = subst (λ k. 256 ^ k ≤ 18446744073709551616) (sym e) (omega arith)

le_of : (a b : ℤ) → le_z a b ≡ true → a ≤ℤ b
le_of a b e = grind (arith, ints)

lt_of : (a b : ℤ) → lt_z a b ≡ true → a <ℤ b
lt_of a b e = grind (arith, ints)

small_value : (signed : Bool) (m : ℕ) (v : ℤ) → m ≤ 18446744073709551616 → is_in_span signed m v ≡ true → Within 18446744073709551616 v
small_value true m v most e =
    let p = and_parts (le_z (neg_ℤ (pos (m / 2))) v) (lt_z v (pos (m / 2))) e in
    record { low = omega (arith, ints, le_of (neg_ℤ (pos (m / 2))) v p.0, most); high = omega (arith, ints, lt_of v (pos (m / 2)) p.1, most) }
small_value false m v most e =
    let p = and_parts (le_z (pos 0) v) (lt_z v (pos m)) e in
    record { low = omega (arith, ints, le_of (pos 0) v p.0, most); high = omega (arith, ints, lt_of v (pos m) p.1, most) }

small_each : (t : IntTypeFields) (vs : List ℤ) → 256 ^ t.size ≤ 18446744073709551616 → ((k : ℕ) → k < length vs → is_in_span t.signed (span_of t) (get_or vs k (pos 0)) ≡ true) → AreSmall vs
small_each t [] most each = tt
small_each t (v ∷ vs) most each =
    (small_value t.signed (span_of t) v most (each 0 (omega arith)), small_each t vs most (λ k within. each (suc k) (omega (arith, within))))

-- values of the type are small
pub are_small : (t : IntTypeFields) (vs : List ℤ) → IsIntType t → first_outside t 0 vs ≡ None → AreSmall vs
are_small t vs typed none = small_each t vs (small_size t.size typed) (in_span_each t vs none)

small_take : (n : ℕ) (vs : List ℤ) → AreSmall vs → AreSmall (take n vs)
small_take zero vs h = tt
small_take (suc n) [] h = tt
small_take (suc n) (v ∷ vs) h = (h.0, small_take n vs h.1)

within_more : (m n : ℕ) (a b : ℤ) → Within m a → Within n b → Within (m + n) (a +ℤ b)
within_more m n a b h k = record { low = omega (arith, ints, h.low, k.low); high = omega (arith, ints, h.high, k.high) }

total_within : (vs : List ℤ) → AreSmall vs → Within (length vs * 18446744073709551616) (total vs)
total_within [] h = record { low = omega (arith, ints); high = omega (arith, ints) }
total_within (v ∷ vs) h =
    let rest = total_within vs h.1 in
    subst (λ n. Within n (v +ℤ total vs)) (let e : 18446744073709551616 + length vs * 18446744073709551616 ≡ length (v ∷ vs) * 18446744073709551616 = omega arith in e)
    (within_more 18446744073709551616 (length vs * 18446744073709551616) v (total vs) h.0 rest)

fits_within : (n : ℕ) (z : ℤ) → Within n z → n < 2 ^ 127 → FitsSigned w128 z
fits_within n (pos k) h low = fits_signed_from_abs w128 (pos k) (let e : k ≤ n = omega (arith, ints, h.high) in omega (arith, e, low))
fits_within n (negsuc k) h low = fits_signed_from_abs w128 (negsuc k) (let e : suc k ≤ n = omega (arith, ints, h.low) in omega (arith, e, low))

pub sum_fits : (vs : List ℤ) → AreSmall vs → length vs < 2 ^ 52 → (n : ℕ) → FitsSigned w128 (total (take n vs))
sum_fits vs h few n =
    let l = length-take n vs in
    fits_within (length (take n vs) * 18446744073709551616) (total (take n vs)) (total_within (take n vs) (small_take n vs h)) (omega (arith, l, few))

-- ---- The log

-- readers can rest on the log
pub restful : (f : CreatedFile) (s : Session) (v : SeatView) (attempts : ℕ) (w : Writes f s v) → 1 ≤ attempts → Restful (reader_rules f.name attempts) w.log
restful f s v attempts w some = record {
  served = record {
    prefixed = subst (λ (n : List ℕ). Prefixed n w.log) w.name (standing_laws.prefixed s w.log w.stands);
    held = subst (λ (n : List ℕ). Held n w.log) w.name (standing_laws.held s w.log w.stands);
    fits = λ p at.
        let most = shown_laws.fits s w.log p w.stands (is_new f s v w) at in
        let limit = standing_laws.limited s w.log w.stands in
        omega (arith, most, limit);
  };
  within = λ p r at shows.
      shown_laws.within s w.log format_limits p r w.stands (is_new f s v w) (omega arith) at
      (subst (λ (n : List ℕ). Shows format_limits (image_at w.log p) n r) (sym w.name) shows);
  attempts = some;
}

-- a run is told of it
pub is_run : (f : CreatedFile) (most : ℕ) (done : List (List ℤ)) (s : Session) (v : SeatView) (lines : List FlushLine) (attempts readers calls : ℕ) (h : HasFlushed f most done s v lines) → 1 ≤ attempts → IsIntType f.int_type
    → length (values_in done) < 2 ^ 52 → IsRunOf (reader_rules f.name attempts) h.writes.log (run_of f attempts readers calls done lines)
is_run f most done s v lines attempts readers calls h some typed few = record {
  restful = restful f s v attempts h.writes some;
  attempts = refl;
  columns = sym (ap (λ (l : Log). l.columns) h.writes.new);
  values = sym h.appended;
  flushes = h.tells;
  fits = sum_fits (values_in done) (are_small f.int_type (values_in done) typed h.fit) few;
}
