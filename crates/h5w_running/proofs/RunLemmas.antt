-- The batches of an input, and a run over them.
use Rattle.std.proofs.Common.{◌≡◌, ℕ, ◌+◌, ◌*◌, ◌/◌, ◌≤◌, List, [], ◌∷◌, length, ℤ, None, sym, ap, ◌∙◌, subst, arith}
use Rattle.std.proofs.lemmas.Nat.{div-mul-add}
use Rattle.std.proofs.lemmas.List.{length-append}
use Rattle.h5w_model.specs.Agrees.{FlushesAgree, values_in}
use Rattle.h5w_model.specs.declared.report.FlushLine.{FlushLine}
use Rattle.h5w_text.specs.Streams.{SourceView}
use Rattle.h5w_batches.specs.Batches as batches
use Rattle.h5w_batches.specs.Reads.{ReadsBatches}
use Rattle.h5w_live_laws.specs.Lines.{rows_told}
use Rattle.h5w_live.specs.Reports.{Reports}
use Rattle.h5w_live.specs.Writing.{AreBatches, AreWholeRows, first_refused}
use Rattle.h5w_live.specs.declared.report.LiveReport.{LiveReport}
use Rattle.h5w_running.specs.Runs.{Asked, Tells, mirrored_in}
use Rattle.h5w_running.specs.Texts.{report_text}

-- ---- Rows

-- whole rows, as a run asks for them
pub same_rows : (c : ℕ) (bs : List (List ℤ)) → batches.AreBatches c bs → AreBatches c bs
same_rows c [] h = tt
same_rows c (b ∷ bs) h = (h.0, same_rows c bs h.1)

rows_of : (n m c : ℕ) → 1 ≤ c → m ≡ n * c → m / c ≡ n
rows_of n m c some e = let whole : m ≡ n * c + 0 = omega (arith, e) in ap (λ k. k / c) whole ∙ div-mul-add n c 0 (omega arith)

-- of whole rows all values are whole rows
all_rows : (c : ℕ) (bs : List (List ℤ)) → AreBatches c bs → AreWholeRows c (values_in bs)
all_rows c [] h = (0, omega arith)
all_rows c (b ∷ bs) h =
    let rest = all_rows c bs h.1 in
    let first = h.0 in
    let both : first.0 * c + rest.0 * c ≡ (first.0 + rest.0) * c = grind arith in
    (first.0 + rest.0, length-append b (values_in bs) ∙ ap (λ k. k + length (values_in bs)) first.1 ∙ ap (λ k. first.0 * c + k) rest.1 ∙ both)

-- the rows of a batch and of those behind it
rows_both : (c : ℕ) (b : List ℤ) (bs : List (List ℤ)) → 1 ≤ c → AreBatches c (b ∷ bs) → length b / c + length (values_in bs) / c ≡ length (values_in (b ∷ bs)) / c
unfolding all_rows
rows_both c b bs some h =
    let rest = all_rows c bs h.1 in
    let first = h.0 in
    let all = all_rows c (b ∷ bs) h in
    let one : length b / c ≡ first.0 = rows_of first.0 (length b) c some first.1 in
    let more : length (values_in bs) / c ≡ rest.0 = rows_of rest.0 (length (values_in bs)) c some rest.1 in
    let both : length (values_in (b ∷ bs)) / c ≡ first.0 + rest.0 = rows_of (first.0 + rest.0) (length (values_in (b ∷ bs))) c some all.1 in
    ap (λ k. k + length (values_in bs) / c) one ∙ ap (λ k. first.0 + k) more ∙ sym both

none_div : (c : ℕ) → 1 ≤ c → 0 / c ≡ 0
none_div c some = rows_of 0 0 c some (omega arith)

plus_none : (n : ℕ) → n + 0 ≡ n
plus_none n = omega arith

none_plus : (n : ℕ) → 0 + n ≡ n
none_plus n = omega arith

plus_both : (a b c : ℕ) → (a + b) + c ≡ a + (b + c)
plus_both a b c = omega arith

-- the last flush has all rows
pub told_all : (c pieces rows : ℕ) (bs : List (List ℤ)) (fs : List FlushLine) → 1 ≤ c → AreBatches c bs → FlushesAgree c pieces rows bs fs → rows_told rows fs ≡ rows + length (values_in bs) / c
told_all c pieces rows [] [] some h agree = let none : length (values_in []) / c ≡ 0 = none_div c some in sym (ap (λ k. rows + k) none ∙ plus_none rows)
told_all c pieces rows [] (f ∷ fs) some h agree = absurd agree
told_all c pieces rows ([] ∷ bs) fs some h agree = told_all c pieces rows bs fs some h.1 agree
told_all c pieces rows ((v ∷ vs) ∷ bs) [] some h agree = absurd agree
told_all c pieces rows ((v ∷ vs) ∷ bs) (f ∷ fs) some h agree =
    let behind : rows_told f.rows fs ≡ f.rows + length (values_in bs) / c = told_all c f.pieces f.rows bs fs some h.1 agree.2 in
    let line : f.rows ≡ rows + length (v ∷ vs) / c = agree.1 in
    let both : length (v ∷ vs) / c + length (values_in bs) / c ≡ length (values_in ((v ∷ vs) ∷ bs)) / c = rows_both c (v ∷ vs) bs some h in
    behind ∙ ap (λ k. k + length (values_in bs) / c) line ∙ plus_both rows (length (v ∷ vs) / c) (length (values_in bs) / c) ∙ ap (λ k. rows + k) both

-- ---- Answers

pub tells_of : (a : Asked) (s t : SourceView) (r : LiveReport) (c : ℕ) (bs : List (List ℤ)) (text : List ℕ) → 1 ≤ c → c ≡ a.file.columns → ReadsBatches c s t bs → AreBatches c bs → first_refused a.file 0 1 bs ≡ None
    → Reports a.file bs a.attempts (a.readers + a.mirrors) a.calls r → text ≡ report_text r.flushes r.polls (mirrored_in a r) (rows_told 0 r.flushes) → Tells a s t r text
tells_of a s t r c bs text some is read rows accepted reports text_is =
    let columns : 1 ≤ a.file.columns = subst (λ n. 1 ≤ n) is some in
    let whole : AreBatches a.file.columns bs = subst (λ n. AreBatches n bs) is rows in
    record {
      batches = bs;
      read = subst (λ n. ReadsBatches n s t bs) is read;
      accepted = accepted;
      reports = reports;
      text_is = text_is ∙ ap (report_text r.flushes r.polls (mirrored_in a r)) (told_all a.file.columns _ 0 bs r.flushes columns whole reports.agrees.flushes ∙ none_plus (length (values_in bs) / a.file.columns));
    }
