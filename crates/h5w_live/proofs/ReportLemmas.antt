-- What the pieces of a run that was closed read as: at each flush, and in the end.
use Rattle.std.proofs.Common.{◌≡◌, ℕ, ◌+◌, ◌-◌, ◌*◌, ◌/◌, ◌<◌, ◌≤◌, List, [], ◌∷◌, ◌++◌, length, take, ℤ, sym, refl, ap, ◌∙◌, subst, arith}
use Rattle.std.specs.Prelude.{nat_le}
use Rattle.std.proofs.lemmas.Bool.{cond-false, lt-leb, cond-true, le-leb}
use Rattle.std.proofs.lemmas.List.{take_all}
use Rattle.h5w_model.specs.Agrees.{FlushesAgree, rows_after, values_in}
use Rattle.h5w_model.specs.Datasets.{Described}
use Rattle.h5w_model.specs.Headers.{header_view}
use Rattle.h5w_model.specs.Images.{apply, image}
use Rattle.h5w_model.specs.Logs.{Log, appended, first_rows, flushed_at, flushed_rows, hist}
use Rattle.h5w_model.specs.Numbers.{range}
use Rattle.h5w_model.specs.Prefixed.{IsPosition, image_at}
use Rattle.h5w_model.specs.Readers.{Quiet}
use Rattle.h5w_model.specs.Superblock.{super_at, super_bytes}
use Rattle.h5w_model.specs.Tables.{Reading, Reads, Shows, format_limits}
use Rattle.h5w_model.specs.declared.piece.Write.{Write}
use Rattle.h5w_model.specs.declared.report.FlushLine.{FlushLine}
use Rattle.h5w_model.specs.declared.root.Super.{Super}
use Rattle.h5w_model.proofs.ImageLemmas.{At-apply, image-push}
use Rattle.h5w_model.proofs.SuperLemmas.{length-super_bytes}
use Rattle.h5w_reader_laws.specs.Headline.{Served}
use Rattle.h5w_reader_laws.proofs.MomentLemmas.{moment, same_dataset, shown_is}
use Rattle.h5w_laws.proofs.LogLemmas.{length_hist, position_laws}
use Rattle.h5w_creation_laws.specs.CreatedFiles.{CreatedFile, created_writes}
use Rattle.h5w_writer.specs.Sessions.{Session}
use Rattle.h5w_writer.proofs.LawLemmas.{standing_laws}
use Rattle.h5w_shared.specs.Seats.{SeatView}
use Rattle.h5w_live_laws.specs.Lines.{pieces_in}
use Rattle.h5w_live.specs.Reports.{AreWhole, IsShut, IsWholeBy, header_after}
use Rattle.h5w_live.specs.Writing.{AreBatches, AreWholeRows, HasClosed}
use Rattle.h5w_live.proofs.FlushedLemmas.{pieces_rise}
use Rattle.h5w_live.proofs.RowLemmas.{rows_in_values, some_rows}
use Rattle.h5w_live.proofs.RunLemmas.{restful}
use Rattle.h5w_writer.proofs.PastLemmas.{one_each}

-- before the next line all rows are told
none_after : (columns pieces rows before p : ℕ) (bs : List (List ℤ)) (fs : List FlushLine) → FlushesAgree columns pieces rows bs fs → p ≤ pieces → rows_after before p fs ≡ before
none_after columns pieces rows before p [] [] h low = refl
none_after columns pieces rows before p [] (f ∷ fs) h low = absurd h
none_after columns pieces rows before p ([] ∷ bs) fs h low = none_after columns pieces rows before p bs fs h low
none_after columns pieces rows before p ((v ∷ vs) ∷ bs) [] h low = refl
none_after columns pieces rows before p ((v ∷ vs) ∷ bs) (f ∷ fs) h low =
    ap (λ b. rows_after b p fs) (cond-false (nat_le f.pieces p) f.rows before (lt-leb f.pieces p (omega (arith, low, h.0)))) ∙ none_after columns f.pieces f.rows before p bs fs h.2 (omega (arith, low, h.0))

same_reads : (name : List ℕ) (a b : List ℕ) (m n c e : ℕ) (xs ys : List ℤ) → a ≡ b → m ≡ n → c ≡ e → xs ≡ ys → Reads a name m c xs → Reads b name n e ys
same_reads name a b m n c e xs ys img rows columns values r =
    subst (λ (zs : List ℤ). Reads b name n e zs) values (subst (λ k. Reads b name n k xs) columns (subst (λ k. Reads b name k c xs) rows (subst (λ (i : List ℕ). Reads i name m c xs) img r)))

-- the superblock that was written last
front_of : (r : Super) (front : List Write) → range (image [] (front ++ record { at = 0; piece = super_bytes r } ∷ [])) 0 48 ≡ super_bytes r
front_of r front =
    let w : Write = record { at = 0; piece = super_bytes r } in
    ap (λ (x : List ℕ). range x 0 48) (image-push [] front w) ∙ ap (λ n. range (apply w (image [] front)) 0 n) (sym (length-super_bytes r)) ∙ At-apply w (image [] front)

module _ (f : CreatedFile) (done : List (List ℤ)) (s : Session) (v : SeatView) (lines : List FlushLine) (h : HasClosed f done s v lines) where
  served : Served f.name h.writes.log
  served = (restful f s v 1 h.writes (omega arith)).served

  columns : h.writes.log.columns ≡ f.columns
  columns = ap (λ (l : Log). l.columns) h.writes.new

  begun : h.writes.log.first ≡ length (created_writes f)
  begun = ap (λ (l : Log). l.first) h.writes.new ∙ sym (one_each f)

  img : (p : ℕ) → image_at h.writes.log p ≡ image [] (take p v.seen)
  img p = ap (λ (b : List ℕ). image b (take p (hist h.writes.log.events))) (ap (λ (l : Log). l.start) h.writes.new) ∙ ap (λ (ws : List Write). image [] (take p ws)) h.writes.seat.pieces

  there : (p : ℕ) → length (created_writes f) ≤ p → p ≤ length v.seen → IsPosition h.writes.log p
  there p low high = record { begun = omega (arith, low, begun); reached = omega (arith, high, ap length h.writes.seat.pieces) }

  reads_at : (p n : ℕ) → length (created_writes f) ≤ p → p ≤ length v.seen → flushed_at h.writes.log p ≡ n → Reads (image [] (take p v.seen)) f.name n f.columns (take (n * f.columns) (values_in done))
  reads_at p n low high told =
      let values : first_rows h.writes.log (flushed_at h.writes.log p) ≡ take (n * f.columns) (values_in done) =
      ap (λ (c : ℕ). take (flushed_at h.writes.log p * c) (appended h.writes.log)) columns ∙ ap (λ (xs : List ℤ). take (flushed_at h.writes.log p * f.columns) xs) h.appended
      ∙ ap (λ (k : ℕ). take (k * f.columns) (values_in done)) told in
      same_reads f.name (image_at h.writes.log p) (image [] (take p v.seen)) (flushed_at h.writes.log p) n h.writes.log.columns f.columns (first_rows h.writes.log (flushed_at h.writes.log p))
      (take (n * f.columns) (values_in done))
      (img p) told columns values (served.prefixed p (there p low high)).reads

  -- where the rows rise, the dataset header changed
  changed : (q p : ℕ) (r : Reading) → length (created_writes f) ≤ q → q ≤ p → p ≤ length v.seen → flushed_at h.writes.log q < flushed_at h.writes.log p → Shows format_limits (image [] (take q v.seen)) f.name r
      → header_after (take p v.seen) r.place ≡ header_after (take q v.seen) r.place → ⊥
  changed q p r low order high more shows same =
      let m = moment f.name h.writes.log q served (there q low (omega (arith, order, high))) in
      let n = moment f.name h.writes.log p served (there p (omega (arith, low, order)) high) in
      let is : r ≡ m.shown = shown_is f.name h.writes.log q m r (subst (λ (i : List ℕ). Shows format_limits i f.name r) (sym (img q)) shows) in
      let quiet : Quiet h.writes.log r.place q p =
      ap (λ (i : List ℕ). header_view (range i r.place 512)) (img p) ∙ same ∙ sym (ap (λ (i : List ℕ). header_view (range i r.place 512)) (img q)) in
      let equal = same_dataset f.name h.writes.log q p m n served order (subst (λ (x : Reading). Quiet h.writes.log x.place q p) is quiet) in
      omega (arith, more, m.rows, n.rows, ap (λ (d : Described). d.shape.rows) equal)

  whole_one : (pieces before : ℕ) (w : ℤ) (ws : List ℤ) (bs : List (List ℤ)) (line : FlushLine) (ls : List FlushLine) → AreWholeRows f.columns (w ∷ ws) → length (created_writes f) ≤ pieces → pieces < line.pieces
      → line.rows ≡ before + length (w ∷ ws) / f.columns → FlushesAgree f.columns line.pieces line.rows bs ls → ((p : ℕ) → pieces ≤ p → p ≤ length v.seen → flushed_at h.writes.log p ≡ rows_after before p (line ∷ ls)) → pieces_in line.pieces ls ≤ length v.seen
      → IsWholeBy f.name f.columns v.seen (values_in done) before line
  whole_one pieces before w ws bs line ls one some later rows agree tells last =
      let within : line.pieces ≤ length v.seen = omega (arith, pieces_rise f.columns line.pieces line.rows bs ls agree, last) in
      let q : ℕ = line.pieces - 1 in
      let here : flushed_at h.writes.log line.pieces ≡ line.rows =
      tells line.pieces (omega (arith, later)) within
      ∙ ap (λ b. rows_after b line.pieces ls) (cond-true (nat_le line.pieces line.pieces) line.rows before (le-leb line.pieces line.pieces (omega arith)))
      ∙ none_after f.columns line.pieces line.rows line.rows line.pieces bs ls agree (omega arith) in
      let earlier : flushed_at h.writes.log (line.pieces - 1) ≡ before =
      tells (line.pieces - 1) (omega (arith, later)) (omega (arith, within))
      ∙ ap (λ b. rows_after b (line.pieces - 1) ls) (cond-false (nat_le line.pieces (line.pieces - 1)) line.rows before (lt-leb line.pieces (line.pieces - 1) (omega (arith, later))))
      ∙ none_after f.columns line.pieces line.rows before (line.pieces - 1) bs ls agree (omega arith) in
      let counted : length (w ∷ ws) / f.columns ≡ one.0 = rows_in_values one.0 (length (w ∷ ws)) f.columns h.writes.is.some_columns one.1 in
      let any : 1 ≤ one.0 = some_rows one.0 (length (w ∷ ws)) f.columns one.1 (omega arith) in
      let more : before < line.rows = omega (arith, rows, counted, any) in
      record {
        some = omega (arith, later);
        within = within;
        more = more;
        earlier = reads_at (line.pieces - 1) before (omega (arith, some, later)) (omega (arith, within)) earlier;
        reads = reads_at line.pieces line.rows (omega (arith, some, later)) within here;
        header = λ r shows. changed (line.pieces - 1) line.pieces r (omega (arith, some, later)) (omega arith) within (omega (arith, more, here, earlier)) shows;
      }

  whole_each : (pieces before : ℕ) (bs : List (List ℤ)) (ls : List FlushLine) → AreBatches f.columns bs → length (created_writes f) ≤ pieces → FlushesAgree f.columns pieces before bs ls
      → ((p : ℕ) → pieces ≤ p → p ≤ length v.seen → flushed_at h.writes.log p ≡ rows_after before p ls) → pieces_in pieces ls ≤ length v.seen → AreWhole f.name f.columns v.seen (values_in done) before ls
  whole_each pieces before [] [] all some agree tells last = tt
  whole_each pieces before [] (l ∷ ls) all some agree tells last = absurd agree
  whole_each pieces before ([] ∷ bs) ls all some agree tells last = whole_each pieces before bs ls all.1 some agree tells last
  whole_each pieces before ((w ∷ ws) ∷ bs) [] all some agree tells last = tt
  whole_each pieces before ((w ∷ ws) ∷ bs) (l ∷ ls) all some agree tells last = (
    whole_one pieces before w ws bs l ls all.0 some agree.0 agree.1 agree.2 tells last,
    whole_each l.pieces l.rows bs ls all.1 (omega (arith, some, agree.0)) agree.2
        (λ p low high. tells p (omega (arith, low, agree.0)) high ∙ ap (λ b. rows_after b p ls) (cond-true (nat_le l.pieces p) l.rows before (le-leb l.pieces p low)))
        last,
  )

  pub all_whole : AreWhole f.name f.columns v.seen (values_in done) 0 lines
  all_whole = whole_each (length (created_writes f)) 0 done lines h.batches (omega arith) h.agree (λ p low high. h.tells p (omega (arith, high, ap length h.writes.seat.pieces))) h.last

  pub is_shut : IsShut f.name f.columns v.seen (values_in done)
  is_shut =
      let count : length (hist h.writes.log.events) ≡ length v.seen = ap length h.writes.seat.pieces in
      let counted : length (values_in done) / f.columns ≡ s.committed = rows_in_values s.committed (length (values_in done)) f.columns h.writes.is.some_columns h.rows in
      let told : flushed_at h.writes.log (length v.seen) ≡ s.committed =
      ap (λ (l : Log). flushed_rows l) (position_laws.now h.writes.log (length v.seen) (omega (arith, count, length_hist h.writes.log.events)))
      ∙ sym (standing_laws.flushed_rows s h.writes.log h.writes.stands) in
      record {
        reads = same_reads f.name (image [] (take (length v.seen) v.seen)) (image [] v.seen) s.committed (length (values_in done) / f.columns) f.columns f.columns (take (s.committed * f.columns) (values_in done)) (values_in done)
            (ap (image []) (take_all (length v.seen) v.seen (omega arith))) (sym counted) refl (take_all (s.committed * f.columns) (values_in done) (omega (arith, h.rows)))
            (reads_at (length v.seen) s.committed h.writes.begun (omega arith) told);
        root = h.root;
        super = ap (λ (ws : List Write). super_at (range (image [] ws) 0 48)) h.pieces ∙ ap super_at (front_of h.root h.before) ∙ h.reads;
        flags = h.flags;
      }
