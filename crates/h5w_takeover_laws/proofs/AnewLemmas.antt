-- A session that takes over a file of several datasets, at any position, stands for a log that begins there.
use Rattle.std.proofs.Common.{◌≡◌, ℕ, suc, ◌+◌, ◌≤◌, List, [], ◌∷◌, length, Some, refl, ap, subst, arith}
use Rattle.std.specs.Prelude.{slice_get, take}
use Rattle.h5w_model.specs.Images.{image}
use Rattle.h5w_model.specs.Logs.{Log, first_rows, flushed_at}
use Rattle.h5w_model.specs.Prefixed.{image_at}
use Rattle.h5w_model.specs.Relations.{AllPaired}
use Rattle.h5w_model.specs.Several.{Begun, FileLog, log_of, shown_in}
use Rattle.h5w_model.specs.Tables.{Reads}
use Rattle.h5w_model.specs.declared.piece.Write.{Write}
use Rattle.h5w_several_laws.proofs.SeenLemmas.{seen_laws}
use Rattle.h5w_writer.specs.Sessions.{Session}
use Rattle.h5w_several_writer_laws.specs.Laws.{PartTells}
use Rattle.h5w_several_writer_laws.specs.Sessions.{Sessions}
use Rattle.h5w_several_writer_laws.specs.Standing.{StandsAll}
use Rattle.h5w_several_writer_laws.specs.Together.{file_at}
use Rattle.h5w_several_writer_laws.specs.Valid.{names_in}
use Rattle.h5w_several_writer_laws.proofs.GiveLemmas.{standing_all}
use Rattle.h5w_several_writer_laws.proofs.SeenLemmas.{length_pieces}
use Rattle.h5w_several_writer_laws.proofs.TogetherLemmas.{all_names_laws}
use Rattle.h5w_several_open.specs.Begins.{ReadsIt}
use Rattle.h5w_several_open.specs.Sessions.{BeginsWith}
use Rattle.h5w_several_open.proofs.TakenLemmas.{takes_standing}
use Rattle.h5w_takeover_laws.specs.Several.{TakenAnew, sets_at}

-- what a dataset sees of the file's image
pub seen_image : (log : FileLog) (d : ℕ) (b : Begun) (p : ℕ) → image_at (log_of d b log) p ≡ file_at log p
seen_image log d b p = ap (λ (ws : List Write). image log.start (take p ws)) (seen_laws.pieces d log.events)

module _ (S : Sessions) (log : FileLog) (p : ℕ) (st : StandsAll S log) (begun : log.first ≤ p) (reached : p ≤ shown_in log.events) where
  reads_at : (d : ℕ) (b : Begun) (s : Session) → slice_get log.sets d ≡ Some b → slice_get S.parts d ≡ Some s → Reads (file_at log p) s.name (flushed_at (log_of d b log) p) b.columns (first_rows (log_of d b log) (flushed_at (log_of d b log) p))
  reads_at d b s set part =
      let told : PartTells log d b s = standing_all.tells S log st d b s set part in
      let l : Log = log_of d b log in
      let here = told.prefixed p (record { begun = begun; reached = omega (arith, reached, length_pieces log.events, ap length (seen_laws.pieces d log.events)) }) in
      subst (λ (i : List ℕ). Reads i s.name (flushed_at l p) b.columns (first_rows l (flushed_at l p))) (seen_image log d b p) here.reads

  -- of all datasets from number d on
  all_read : (d : ℕ) (bs : List Begun) (ss : List Session) → length bs ≡ length ss → ((i : ℕ) (b : Begun) (s : Session) → slice_get bs i ≡ Some b → slice_get ss i ≡ Some s → ReadsIt (file_at log p) s.name (record { columns = b.columns; values = first_rows (log_of (d + i) b log) (flushed_at (log_of (d + i) b log) p) }))
      → AllPaired (ReadsIt (file_at log p)) (names_in ss) (sets_at p d log bs)
  all_read d [] [] same each = tt
  all_read d [] (s ∷ ss) same each = absurd (omega (arith, same))
  all_read d (b ∷ bs) [] same each = absurd (omega (arith, same))
  all_read d (b ∷ bs) (s ∷ ss) same each =
      let first = subst (λ (n : ℕ). ReadsIt (file_at log p) s.name (record { columns = b.columns; values = first_rows (log_of n b log) (flushed_at (log_of n b log) p) })) (let e : d + 0 ≡ d = omega arith in e) (each 0 b s refl refl) in (
        first,
        all_read (suc d) bs ss (omega (arith, same))
            (λ i c t set part. subst (λ (n : ℕ). ReadsIt (file_at log p) t.name (record { columns = c.columns; values = first_rows (log_of n c log) (flushed_at (log_of n c log) p) })) (let e : d + suc i ≡ suc d + i = omega arith in e) (each (suc i) c t set part)),
      )

  sets_read : AllPaired (ReadsIt (file_at log p)) (names_in S.parts) (sets_at p 0 log log.sets)
  sets_read = all_read 0 log.sets S.parts (standing_all.sets S log st) (λ i b s set part. subst (λ (n : ℕ). ReadsIt (file_at log p) s.name (record { columns = b.columns; values = first_rows (log_of n b log) (flushed_at (log_of n b log) p) })) (let e : i ≡ 0 + i = omega arith in e) (flushed_at (log_of i b log) p, reads_at i b s set part))

many_paired : {A B : Type 0} (P : A → B → Type 0) (xs : List A) (ys : List B) → AllPaired P xs ys → length xs ≡ length ys
many_paired P [] [] h = refl
many_paired P [] (y ∷ ys) h = absurd h
many_paired P (x ∷ xs) [] h = absurd h
many_paired P (x ∷ xs) (y ∷ ys) h = ap suc (many_paired P xs ys h.1)

pub taken_anew : TakenAnew
taken_anew S T log p limit budget st begun reached taken has low high =
    let names = names_in S.parts in
    let found = all_names_laws.each S log st p begun reached in
    let many = many_paired (BeginsWith budget T.root) names T.parts has.each in
    takes_standing (file_at log p) (length (file_at log p)) names found.summary (sets_at p 0 log log.sets) limit budget T found.valid (sets_read S log p st begun reached) taken has (omega (arith, many, has.sessions.some)) low high
