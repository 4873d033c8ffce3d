-- What a session of several datasets tells of all of them together.
use Rattle.std.proofs.Common.{◌≡◌, ℕ, zero, suc, ◌≤◌, List, [], ◌∷◌, length, length-append, ℤ, Some, refl, sym, ◌∙◌, ap, subst, inl, inr, arith}
use Rattle.std.specs.Prelude.{map, slice_get, take}
use Rattle.std.proofs.lemmas.List.{take-append-le}
use Rattle.std.proofs.Math.Seq.{take-length}
use Rattle.h5w_model.specs.Images.{image}
use Rattle.h5w_model.specs.Findings.{AllSummary, Summary, Valid}
use Rattle.h5w_model.specs.Logs.{Log, first_rows, flushed, flushed_at, flushed_rows, hist}
use Rattle.h5w_model.specs.Prefixed.{image_at}
use Rattle.h5w_model.specs.Relations.{AllPaired}
use Rattle.h5w_model.specs.Several.{Begun, FileLog, log_of, pieces_in, shown_in}
use Rattle.h5w_model.specs.Tables.{Reads, Reading}
use Rattle.h5w_model.specs.declared.piece.Write.{Write}
use Rattle.h5w_laws.specs.Several.{IsShare}
use Rattle.h5w_laws.proofs.AnswerLemmas.{same_ok}
use Rattle.h5w_laws.proofs.SeveralLemmas.{each_valid}
use Rattle.h5w_laws.proofs.ValidLemmas.{valid_shows}
use Rattle.h5w_several_laws.specs.Together.{IsAllValid, names_of}
use Rattle.h5w_several_laws.proofs.SeenLemmas.{seen_laws}
use Rattle.h5w_writer.specs.Sessions.{Session, stopped_of}
use Rattle.h5w_several_writer_laws.specs.Sessions.{Sessions, all_pending, halted_of}
use Rattle.h5w_several_writer_laws.specs.Standing.{StandsAll}
use Rattle.h5w_several_writer_laws.specs.Together.{AllNamesLaws, IsValidWith, file_at}
use Rattle.h5w_several_writer_laws.specs.Valid.{names_in}
use Rattle.h5w_several_writer_laws.proofs.GiveLemmas.{standing_all}
use Rattle.h5w_several_writer_laws.proofs.SeenLemmas.{length_pieces}
use Rattle.h5w_several_writer_laws.proofs.ValidFlushLemmas.{standing_names}

-- ---- The names

same_names : (f : Session → Session) → ((s : Session) → (f s).name ≡ s.name) → (ss : List Session) → names_in (map f ss) ≡ names_in ss
same_names f same [] = refl
same_names f same (s ∷ ss) = ap (λ (n : List ℕ). n ∷ names_in (map f ss)) (same s) ∙ ap (λ (ns : List (List ℕ)). s.name ∷ ns) (same_names f same ss)

pub all_names : (S : Sessions) (log : FileLog) (st : StandsAll S log) → names_of st.stands.entries ≡ names_in S.parts
all_names S log st =
    let on = st.stands in
    let was = st.was.parts in
    let named = standing_names st.was.root st.was.places on.ranges (all_pending was) log 0 log.sets [] was on.entries on.parts in
    named
    ∙ sym (elim st.is as (λ _. names_in S.parts ≡ names_in was) [
      | inl same ↦ ap (λ (x : Sessions). names_in x.parts) same
      | inr ended ↦
          elim ended [
            | inl same ↦ ap (λ (x : Sessions). names_in x.parts) same ∙ same_names halted_of (λ s. refl) was
            | inr same ↦ ap (λ (x : Sessions). names_in x.parts) same ∙ same_names stopped_of (λ s. refl) was
          ]
    ])

some_is : {A : Type 0} (x y : A) → Some x ≡ Some y → x ≡ y
some_is x y e = cc

named_at : (ss : List Session) (d : ℕ) (s : Session) → slice_get ss d ≡ Some s → slice_get (names_in ss) d ≡ Some s.name
named_at [] d s is = absurd cc
named_at (x ∷ ss) zero s is = ap (λ (y : Session). Some y.name) (some_is x s is)
named_at (x ∷ ss) (suc d) s is = named_at ss d s is

pub many_names : (ss : List Session) → length (names_in ss) ≡ length ss
many_names [] = refl
many_names (s ∷ ss) = ap suc (many_names ss)

-- ---- The rows

paired_many : (P : List ℕ → ℕ → Type 0) (names : List (List ℕ)) (rows : List ℕ) → AllPaired P names rows → length rows ≡ length names
paired_many P [] [] x = refl
paired_many P [] (n ∷ rows) x = absurd x
paired_many P (name ∷ names) [] x = absurd x
paired_many P (name ∷ names) (n ∷ rows) x = ap suc (paired_many P names rows x.1)

paired_at : (P : List ℕ → ℕ → Type 0) (names : List (List ℕ)) (rows : List ℕ) (d : ℕ) (name : List ℕ) → AllPaired P names rows → slice_get names d ≡ Some name → (n : ℕ) × (slice_get rows d ≡ Some n) × P name n
paired_at P [] rows d name x is = absurd cc
paired_at P (k ∷ names) [] d name x is = absurd x
paired_at P (k ∷ names) (n ∷ rows) zero name x is = (n, refl, subst (λ (y : List ℕ). P y n) (some_is k name is) x.0)
paired_at P (k ∷ names) (n ∷ rows) (suc d) name x is = paired_at P names rows d name x.1 is

-- a valid file has the rows that it reads as
rows_read : (img name : List ℕ) (s : Summary) (rows columns : ℕ) (values : List ℤ) → Valid img name s → Reads img name rows columns values → s.rows ≡ rows
rows_read img name s rows columns values valid reads =
    let whole = valid_shows img name s valid in
    let same : reads.shown ≡ whole.shown = same_ok _ reads.shown whole.shown reads.shows whole.shows in
    sym whole.rows ∙ ap (λ (r : Reading). r.dataset.shape.rows) (sym same) ∙ reads.rows_are

-- ---- An image of the file

-- what the summary says of each name
abbrev HasShare : List ℕ → AllSummary → List ℕ → ℕ → Type 0
HasShare img t name n = (s : Summary) × Valid img name s × IsShare t n s

valid_with : (S : Sessions) (log : FileLog) (img : List ℕ) (rows_of : Log → ℕ) → IsAllValid img (names_in S.parts)
    → ((d : ℕ) (b : Begun) (s : Session) → slice_get log.sets d ≡ Some b → slice_get S.parts d ≡ Some s → (values : List ℤ) × Reads img s.name (rows_of (log_of d b log)) b.columns values) → IsValidWith S log img rows_of
valid_with S log img rows_of found reads =
    let t : AllSummary = found.0 in
    let each : AllPaired (HasShare img t) (names_in S.parts) t.rows = each_valid img (names_in S.parts) t found.1 in
    record {
      summary = t;
      valid = found.1;
      count = paired_many (HasShare img t) (names_in S.parts) t.rows each ∙ many_names S.parts;
      rows = λ d b s set part.
          let one = paired_at (HasShare img t) (names_in S.parts) t.rows d s.name each (named_at S.parts d s part) in
          let read = reads d b s set part in
          let share : IsShare t one.0 one.2.0 = one.2.2 in
          one.1 ∙ ap (λ (k : ℕ). Some k) (sym share.own ∙ rows_read img s.name one.2.0 (rows_of (log_of d b log)) b.columns read.0 one.2.1 read.1);
    }

-- the names of the parts where so many pieces are shown
found_at : (S : Sessions) (log : FileLog) → StandsAll S log → (p : ℕ) → log.first ≤ p → p ≤ shown_in log.events → IsAllValid (file_at log p) (names_in S.parts)
found_at S log st p begun reached =
    let on = st.stands in
    let pieces = pieces_in log.events in
    let left = all_pending st.was.parts in
    let low : p ≤ length pieces = omega (arith, reached, length_pieces log.events) in
    let long = length-append pieces left in
    subst (λ (ns : List (List ℕ)). IsAllValid (file_at log p) ns) (all_names S log st)
    (subst (λ (ws : List Write). IsAllValid (image log.start ws) (names_of on.entries)) (take-append-le p pieces left low) (on.valid p begun (omega (arith, low, long))))

valid_at : (S : Sessions) (log : FileLog) → StandsAll S log → (p : ℕ) → log.first ≤ p → p ≤ shown_in log.events → IsValidWith S log (file_at log p) (λ l. flushed_at l p)
valid_at S log st p begun reached =
    valid_with S log (file_at log p) (λ l. flushed_at l p) (found_at S log st p begun reached)
    (λ d b s set part.
    let told = standing_all.tells S log st d b s set part in
    let seen = seen_laws.pieces d log.events in
    let here = told.prefixed p (record { begun = begun; reached = omega (arith, reached, length_pieces log.events, ap length seen) }) in
    let l : Log = log_of d b log in
    let same : image_at l p ≡ file_at log p = ap (λ (ws : List Write). image log.start (take p ws)) seen in
    let values : List ℤ = first_rows l (flushed_at l p) in
    (values, subst (λ (i : List ℕ). Reads i s.name (flushed_at l p) b.columns values) same here.reads))

valid_now : (S : Sessions) (log : FileLog) → StandsAll S log → log.first ≤ shown_in log.events → IsValidWith S log (image log.start (pieces_in log.events)) flushed_rows
valid_now S log st begun =
    let pieces = pieces_in log.events in
    let whole : take (shown_in log.events) pieces ≡ pieces = ap (λ (n : ℕ). take n pieces) (sym (length_pieces log.events)) ∙ take-length pieces in
    valid_with S log (image log.start pieces) flushed_rows
    (subst (λ (ws : List Write). IsAllValid (image log.start ws) (names_in S.parts)) whole (found_at S log st (shown_in log.events) begun (let same : shown_in log.events ≡ shown_in log.events = refl in omega (arith, same))))
    (λ d b s set part.
    let told = standing_all.tells S log st d b s set part in
    let here = told.now begun in
    let l : Log = log_of d b log in
    let same : image log.start (hist l.events) ≡ image log.start pieces = ap (image log.start) (seen_laws.pieces d log.events) in
    (flushed l, subst (λ (i : List ℕ). Reads i s.name (flushed_rows l) b.columns (flushed l)) same here.reads))

pub all_names_laws : AllNamesLaws
all_names_laws = record { each = valid_at; now = valid_now }
