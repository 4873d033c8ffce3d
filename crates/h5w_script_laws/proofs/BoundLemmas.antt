-- How many looks a reader's call takes at most, in the script's numbers.
use Rattle.std.proofs.Common.{◌≡◌, ℕ, ◌+◌, ◌-◌, ◌*◌, ◌/◌, ◌<◌, ◌≤◌, min, List, length, Option, Some, None, Result, refl, sym, ◌∙◌, ap, subst, arith, length-take}
use Rattle.std.specs.Prelude.{ℤ}
use Rattle.std.proofs.lemmas.List.{length-map}
use Rattle.std.proofs.lemmas.Nat.{le-div}
use Rattle.std.proofs.Math.Nat.{div-mul-le_self, mul-le-mul_right}
use Rattle.h5w_model.specs.Programs.{Prog, ret, whole, counted, stored, rest_after, WantsMore}
use Rattle.h5w_model.specs.Logs.{Log, Cutting, appended, flushed, at_position, needed_chunks, touched_chunks, div_up}
use Rattle.h5w_model.specs.Tables.{Reading, bands, chunks_across, needed}
use Rattle.h5w_model.specs.Prefixed.{image_at}
use Rattle.h5w_model.specs.Readers.{Placed, IsCall, looks_of}
use Rattle.h5w_model.specs.Calls.{values_call}
use Rattle.h5w_model.specs.Unfinished.{refresh_rules, rows_program}
use Rattle.h5w_model.specs.Lawful.{Rules, rows_in, most_value_looks}
use Rattle.h5w_model.specs.declared.refusal.ReadError.{ReadError}
use Rattle.h5w_laws.proofs.LogLemmas.{flushed_laws, div_rises}
use Rattle.h5w_reader_laws.specs.Bounds.{NeedsAtMost, IsUnfinished, cutting_of}
use Rattle.h5w_reader_laws.proofs.MomentLemmas.{moment, shown_is}
use Rattle.h5w_reader_laws.proofs.KeyLemmas.{Sound, sound_shown}
use Rattle.h5w_reader_laws.proofs.BoundLemmas.{short_bounds}
use Rattle.h5w_reader_laws.proofs.ReadLooks.{reads_in_looks}
use Rattle.h5w_script_laws.specs.Polling.{Polling, reader_rules, now, ShownAt, Knows}
use Rattle.h5w_script_laws.specs.Premises.{IsCut, LogHolds}
use Rattle.h5w_script_laws.proofs.AnswerLemmas.{rows_shown, columns_shown}

-- ---- Needed chunks

div_up_rises : (n m k : ℕ) → 0 < k → n ≤ m → (n + k - 1) / k ≤ (m + k - 1) / k
div_up_rises n m k some h = le-div ((n + k - 1) / k) (m + k - 1) k some (omega (arith, div-mul-le_self (n + k - 1) k))

-- no position needs more chunks than the rows of all values
needs_at_most : (g : Polling) (log : Log) → LogHolds g log → NeedsAtMost g.name log (needed_chunks g.rules.cutting (rows_in g.rules (appended log)))
needs_at_most g log holds p r at_p shows =
    let d = r.dataset in
    let c = g.rules.cutting in
    let cut : IsCut c r = holds.cut p r at_p shows in
    let m = moment g.name log p holds.served at_p in
    let sound : Sound d = subst (λ (x : Reading). Sound x.dataset) (sym (shown_is g.name log p m r shows)) (sound_shown (image_at log p) g.name m.shown.place m.shown.dataset m.steps.place m.steps.header) in
    let all = length (appended log) in
    let shown : ShownAt g log p r = record { position = at_p; shows = shows } in
    let flushed_there : ℕ = length (flushed (at_position log p)) in
    let l : min flushed_there all ≡ flushed_there = sym (length-take flushed_there (appended log)) ∙ ap length (flushed_laws.begins_at log p) in
    let here : d.shape.rows ≡ flushed_there / log.columns = rows_shown g log p r holds shown in
    let fewer : flushed_there / log.columns ≤ all / log.columns = div_rises log.columns flushed_there all (omega (arith, l)) in
    let rows : d.shape.rows ≤ rows_in g.rules (appended log) = subst (λ x. d.shape.rows ≤ all / x) holds.columns (subst (λ x. x ≤ all / log.columns) (sym here) fewer) in
    let high : bands d ≤ div_up (rows_in g.rules (appended log)) d.layout.chunk_rows = div_up_rises d.shape.rows (rows_in g.rules (appended log)) d.layout.chunk_rows sound.rows rows in
    let more : needed d ≤ div_up (rows_in g.rules (appended log)) d.layout.chunk_rows * chunks_across d = mul-le-mul_right (chunks_across d) high in
    let by_rows : div_up (rows_in g.rules (appended log)) d.layout.chunk_rows ≡ div_up (rows_in g.rules (appended log)) c.chunk_rows = ap (λ x. (rows_in g.rules (appended log) + x - 1) / x) cut.chunk_rows in
    let across : chunks_across d ≡ div_up c.columns c.chunk_columns = ap (λ x. (x + d.layout.chunk_cols - 1) / d.layout.chunk_cols) (columns_shown g log p r holds shown) ∙ ap (λ x. (c.columns + x - 1) / x) cut.chunk_columns in
    subst (λ x. needed d ≤ div_up (rows_in g.rules (appended log)) c.chunk_rows * x) across (subst (λ x. needed d ≤ x * chunks_across d) by_rows more)

-- ---- Unfinished calls

wants_unfinished : {A : Type 0} (q : Prog A) → WantsMore q → IsUnfinished q
wants_unfinished (ret a) h b e = h
wants_unfinished (whole at len next) h b e = cc
wants_unfinished (counted at counts next) h b e = cc
wants_unfinished (stored kind at len next) h b e = cc

-- the most looks of a call for rows
abbrev pub most_rows_looks : Rules → Log → ℕ
most_rows_looks g log = 2 + g.attempts * (2 + 21 * needed_chunks g.cutting (rows_in g (appended log)))

pub rows_fewer : (g : Polling) (log : Log) (from : ℕ) (known : Option Reading) (ls : List Placed) (q : Prog (Result Reading ReadError)) → LogHolds g log → log.first ≤ from → from ≤ now log
    → Knows g log from known → IsCall log from ls → rest_after (rows_program (reader_rules g) known) (looks_of ls) ≡ Some q → WantsMore q → length ls < most_rows_looks g.rules log
rows_fewer g log from None ls q holds first within knows call is wants =
    short_bounds.opens g.name log g.limits g.keeps g.rules.attempts from (needed_chunks g.rules.cutting (rows_in g.rules (appended log))) ls q holds.served holds.headers (needs_at_most g log holds)
    holds.some_attempts (record { begun = first; reached = within }) call is (wants_unfinished q wants)
rows_fewer g log from (Some r) ls q holds first within knows call is wants =
    let n : ℕ = needed_chunks g.rules.cutting (rows_in g.rules (appended log)) in
    let fewer : length ls < g.rules.attempts * (2 + 21 * n) =
    short_bounds.refreshes g.name log (refresh_rules (reader_rules g) r) knows.position r from n ls q holds.served holds.headers
    (needs_at_most g log holds) holds.some_attempts (record { begun = first; reached = within }) call knows.shown.position knows.shown.shows refl is (wants_unfinished q wants) in
    omega (arith, fewer)

-- a dataset that is cut as the script says
cut_alike : (c : Cutting) (r : Reading) → IsCut c r → r.dataset.shape.cols ≡ c.columns → cutting_of r.dataset ≡ c
cut_alike c r cut columns = λ i. record { chunk_rows = cut.chunk_rows i; chunk_columns = cut.chunk_columns i; columns = columns i; value_size = cut.value_size i }

pub values_fewer : (g : Polling) (log : Log) (from first count : ℕ) (r : Reading) (ls : List Placed) (q : Prog (Result (List ℤ) ReadError)) → LogHolds g log → Knows g log from (Some r)
    → 1 ≤ count → rest_after (values_call r first count) (looks_of ls) ≡ Some q → WantsMore q → length ls < most_value_looks g.rules first count
values_fewer g log from first count r ls q holds knows some is wants =
    let p = knows.position in
    let same : cutting_of r.dataset ≡ g.rules.cutting = cut_alike g.rules.cutting r (holds.cut p r knows.shown.position knows.shown.shows) (columns_shown g log p r holds knows.shown) in
    let fewer = reads_in_looks (image_at log p) g.name r first count (looks_of ls) q knows.shown.shows some is (wants_unfinished q wants) in
    let counted : length (looks_of ls) ≡ length ls = length-map ls (λ (l : Placed). l.look) in
    subst (λ (n : ℕ). n < most_value_looks g.rules first count) counted
    (subst (λ (c : Cutting). length (looks_of ls) < touched_chunks c first (first + count) * (c.chunk_rows * c.chunk_columns * c.value_size / 512 + 1)) same fewer)
