-- A call for values takes a look.
use Rattle.std.proofs.Common.{◌≡◌, ◌≢◌, ℕ, zero, suc, ◌+◌, ◌-◌, ◌*◌, ◌/◌, ◌^◌, ◌<◌, ◌≤◌, true, cond, List, [], ◌∷◌, length, map, get_or, Option, Some, None, Result, Ok, Err, refl, sym, ◌∙◌, ap, subst, arith}
use Rattle.std.specs.Prelude.{ℤ, ◌==◌, nat_lt}
use Rattle.std.specs.List.{range_with_len, flat_map}
use Rattle.std.proofs.lemmas.Bool.{cond-false, le-ltb, ne_eqb}
use Rattle.std.proofs.lemmas.Nat.{le-div}
use Rattle.std.proofs.Math.Nat.{div-mul-le_self, mul-le-mul_right}
use Rattle.h5w_model.specs.Numbers.{undefined}
use Rattle.h5w_model.specs.Messages.{is_int_size}
use Rattle.h5w_model.specs.Programs.{Prog, ret, whole, counted, WantsMore, bind, and_then, below_end, cut_up, look_pieces, lowered}
use Rattle.h5w_model.specs.Logs.{Log}
use Rattle.h5w_model.specs.Tables.{Reading, bands, chunks_across, needed, cell_offset, chunk_address, each_of}
use Rattle.h5w_model.specs.Prefixed.{image_at}
use Rattle.h5w_model.specs.Calls.{last_in_band, last_column, touched_from, touched_to, none_of, chunk_range, values_from, values_call}
use Rattle.h5w_model.specs.declared.refusal.ReadError.{ReadError}
use Rattle.h5w_model.specs.declared.refusal.ReadError.TheVariants.{Damaged}
use Rattle.h5w_model.specs.declared.refusal.BlockFault.TheVariants.{Cut}
use Rattle.h5w_reader_laws.proofs.MomentLemmas.{Moment, moment, shown_is}
use Rattle.h5w_reader_laws.proofs.KeyLemmas.{Sound, sound_shown}
use Rattle.h5w_reader_laws.proofs.ChunkLemmas.{quotient_is, IsTouched, corners, cell_in_range}
use Rattle.h5w_reader_laws.proofs.CellLemmas.{has_value, cell_later}
use Rattle.h5w_reader_laws.proofs.ReadLooks.{up_to}
use Rattle.h5w_script_laws.specs.Polling.{Polling, Knows}
use Rattle.h5w_script_laws.specs.Premises.{LogHolds}
use Rattle.h5w_script_laws.proofs.AnswerLemmas.{columns_shown}

abbrev Part : Type 0
Part = Prog (Result (Option (List ℕ)) ReadError)

abbrev Parts : Type 0
Parts = List (Option (List ℕ))

abbrev after_part : Prog (Result Parts ReadError) → Result (Option (List ℕ)) ReadError → Prog (Result Parts ReadError)
after_part rest r = elim r [ Ok a ↦ and_then rest (λ more. ret (Ok (a ∷ more))) | Err e ↦ ret (Err e) ]

abbrev with_values : Reading → (from to : ℕ) → Result Parts ReadError → Prog (Result (List ℤ) ReadError)
with_values r from to x = elim x [ Ok ranges ↦ ret (Ok (values_from r from to ranges)) | Err e ↦ ret (Err e) ]

abbrev key_range : Reading → (from to : ℕ) → ℕ × ℕ → Part
key_range r from to k = chunk_range r k.0 k.1 from to

-- the keys of some rows of chunks
abbrev grid_keys : (across from count : ℕ) → List (ℕ × ℕ)
grid_keys across from count = flat_map (λ i. map (λ j. (i, j)) (range_with_len 0 across)) (range_with_len from count)

wants_pieces : {A : Type 0} (fuel place len : ℕ) (got : List ℕ) (next : List ℕ → Prog A) → 0 < fuel → 0 < len → WantsMore (look_pieces fuel place len got next)
wants_pieces zero place len got next h g = absurd (omega arith)
wants_pieces (suc fuel) place zero got next h g = absurd (omega arith)
wants_pieces (suc fuel) place (suc rest) got next h g = tt

wants_cut : {A : Type 0} (place len : ℕ) (next : List ℕ → Prog A) → 0 < len → place + len ≤ 2 ^ 64 → WantsMore (cut_up place len next)
wants_cut place len next h fits = wants_pieces (below_end place len / 512 + 1) place (below_end place len) [] next (omega arith) (omega arith)

some_size : (n : ℕ) → is_int_size n ≡ true → 0 < n
some_size zero h = absurd cc
some_size (suc n) h = omega arith

first_key : (across from count : ℕ) → 0 < across → 0 < count → (rest : List (ℕ × ℕ)) × (grid_keys across from count ≡ (from, 0) ∷ rest)
first_key zero from count h g = absurd (omega arith)
first_key (suc k) from zero h g = absurd (omega arith)
first_key (suc k) from (suc n) h g = (_, refl)

-- the first touched chunk is looked at
record FirstLook (r : Reading) (first to : ℕ) : Type 0 where
  place : ℕ
  len : ℕ
  some : 0 < len
  fits : place + len ≤ 2 ^ 64
  told : List ℕ → Part
  is : chunk_range r (first / r.dataset.layout.chunk_rows) 0 first to ≡ whole place len told
  across : 0 < chunks_across r.dataset
  bands : 0 < (to - 1) / r.dataset.layout.chunk_rows + 1 - first / r.dataset.layout.chunk_rows

first_look : (g : Polling) (log : Log) (p : ℕ) (m : Moment g.name log p) (first to : ℕ) → LogHolds g log → first < to → to ≤ m.shown.dataset.shape.rows → FirstLook m.shown first to
first_look g log p m first to holds some within =
    let r = m.shown in
    let d = r.dataset in
    let img = image_at log p in
    let n = d.layout.chunk_rows in
    let k = d.layout.chunk_cols in
    let sound : Sound d = sound_shown img g.name r.place d m.steps.place m.steps.header in
    let cut = holds.cut p r m.position m.shows in
    let i : ℕ = first / n in
    let last : i ≤ (to - 1) / n = le-div i (to - 1) n sound.rows (omega (arith, div-mul-le_self first n)) in
    let across : 0 < chunks_across d = le-div 1 (d.shape.cols + k - 1) k sound.cols (omega (arith, columns_shown g log p r holds (record { position = m.position; shows = m.shows }), holds.some_columns)) in
    let touched : IsTouched d first to i 0 = record { first = omega arith; last = last; column = across } in
    let c = corners d first to i 0 sound some touched in
    let row : ℕ = last_in_band d i to - 1 in
    let col : ℕ = last_column d 0 - 1 in
    let value = has_value g.name log p m row col (omega (arith, c.below)) c.inside in
    let address = chunk_address r (i * n) (0 * k) in
    let low_row : i * n / n ≡ i = quotient_is i n (i * n) (omega arith) (omega (arith, sound.rows)) in
    let low_col : 0 * k / k ≡ 0 = quotient_is 0 k (0 * k) (omega arith) (omega (arith, sound.cols)) in
    let of_row : row / n ≡ i = quotient_is i n row c.last_row.low c.last_row.high in
    let of_col : col / k ≡ 0 = quotient_is 0 k col c.last_col.low c.last_col.high in
    let slot : i * n / n * chunks_across d + 0 * k / k ≡ i * chunks_across d + 0 = ap (λ x. x * chunks_across d + 0 * k / k) low_row ∙ ap (λ x. i * chunks_across d + x) low_col in
    let same : chunk_address r row col ≡ address = ap (λ x. get_or r.table (x * chunks_across d + col / k) undefined) (of_row ∙ sym low_row) ∙ ap (λ x. get_or r.table (i * n / n * chunks_across d + x) undefined) (of_col ∙ sym low_col) in
    let last_row : (to - 1) / n ≤ (d.shape.rows - 1) / n = le-div ((to - 1) / n) (d.shape.rows - 1) n sound.rows (omega (arith, div-mul-le_self (to - 1) n)) in
    let bands_are : bands d ≡ (d.shape.rows - 1) / n + 1 = up_to d.shape.rows n sound.rows (omega arith) in
    let product : (i + 1) * chunks_across d ≤ bands d * chunks_across d = mul-le-mul_right (chunks_across d) (let e : i + 1 ≤ bands d = omega (arith, last, last_row, bands_are) in e) in
    let few : i * n / n * chunks_across d + 0 * k / k < needed d = omega (arith, slot, product, across) in
    let defined : address ≢ undefined = cut.addressed (i * n / n * chunks_across d + 0 * k / k) few in
    let there : chunk_address r row col ≢ undefined = λ e. defined (sym same ∙ e) in
    let offset = cell_offset d row col in
    let size = d.int_type.size in
    let positive : 0 < size = some_size size sound.size in
    let ends : chunk_address r row col + offset + size ≤ length img =
    (cell_later g.name log p p m m row col value.value holds.served (omega arith) (omega (arith, c.below)) c.inside positive there value.shown).inside in
    let inside = cell_in_range d first to i 0 row col sound some touched (omega (arith, c.first_row.high, c.last_row.low, c.last_row.high, c.below)) c.below c.inside c.last_row c.last_col in
    let start = touched_from d i 0 first in
    let len : ℕ = touched_to d i 0 to - start in
    let fits : address + start + len ≤ 2 ^ 64 = omega (arith, same, ends, inside.above, m.fits) in
    let told : List ℕ → Part = λ b. ret (cond (nat_lt (length b) len) (Err (Damaged (address + start) (Cut len (length b)))) (Ok (Some b))) in
    record {
      place = address + start;
      len = len;
      some = omega (arith, inside.above);
      fits = fits;
      told = told;
      is = cond-false (address == undefined) (ret (Ok None)) (cond (nat_lt (2 ^ 64) (address + start + len)) (counted address none_of (λ b. ret (Err (Damaged address (Cut len 0))))) (whole (address + start) len told)) (ne_eqb address undefined defined)
          ∙ cond-false (nat_lt (2 ^ 64) (address + start + len)) (counted address none_of (λ b. ret (Err (Damaged address (Cut len 0))))) (whole (address + start) len told) (le-ltb (2 ^ 64) (address + start + len) fits);
      across = across;
      bands = omega (arith, last);
    }

wants_look : (r : Reading) (first count : ℕ) → FirstLook r first (first + count) → WantsMore (values_call r first count)
wants_look r first count l =
    let to : ℕ = first + count in
    let i : ℕ = first / r.dataset.layout.chunk_rows in
    let keys = first_key (chunks_across r.dataset) i ((to - 1) / r.dataset.layout.chunk_rows + 1 - i) l.across l.bands in
    let f : ℕ × ℕ → Part = key_range r first to in
    let rest : Prog (Result Parts ReadError) = each_of f keys.0 in
    let goes : List ℕ → Prog (Result (List ℤ) ReadError) = λ b. lowered 0 [] (bind (bind (l.told b) (after_part rest)) (with_values r first to)) in
    let by_look : WantsMore (cut_up l.place l.len goes) = wants_cut l.place l.len goes l.some l.fits in
    let by_key : WantsMore (lowered 0 [] (bind (each_of f ((i, 0) ∷ keys.0)) (with_values r first to))) =
    subst (λ (q : Part). WantsMore (lowered 0 [] (bind (bind q (after_part rest)) (with_values r first to)))) (sym l.is) by_look in
    subst (λ (ks : List (ℕ × ℕ)). WantsMore (lowered 0 [] (bind (each_of f ks) (with_values r first to)))) (sym keys.1) by_key

-- rows that were seen are read by looks
pub values_want : (g : Polling) (log : Log) (until first count : ℕ) (r : Reading) → LogHolds g log → Knows g log until (Some r) → 1 ≤ count → first + count ≤ r.dataset.shape.rows
    → WantsMore (values_call r first count)
values_want g log until first count r holds knows some within =
    let p = knows.position in
    let m = moment g.name log p holds.served knows.shown.position in
    let same : m.shown ≡ r = sym (shown_is g.name log p m r knows.shown.shows) in
    subst (λ (x : Reading). WantsMore (values_call x first count)) same
    (wants_look m.shown first count (first_look g log p m first (first + count) holds (omega arith) (omega (arith, ap (λ (x : Reading). x.dataset.shape.rows) same, within))))
