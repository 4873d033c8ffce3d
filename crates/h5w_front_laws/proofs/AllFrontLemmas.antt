-- The pieces of a flush of several datasets keep the front of their file, part after part.
use Rattle.std.proofs.Common.{◌≡◌, ℕ, suc, false, List, [], ◌∷◌, ◌++◌, refl, sym, ◌∙◌, ap, subst, inl, inr}
use Rattle.h5w_model.specs.Findings.{Used}
use Rattle.h5w_model.specs.Several.{Begun, FileLog}
use Rattle.h5w_model.specs.declared.piece.Write.{Write}
use Rattle.h5w_model.specs.declared.root.Super.{Super}
use Rattle.h5w_step_laws.specs.Ranges.{Among}
use Rattle.h5w_space.specs.Space.{Space}
use Rattle.h5w_several_laws.specs.Turns.{AreKnown, Entry, all_then, flushed as flushed_entry}
use Rattle.h5w_several_laws.proofs.FoldLemmas.{State}
use Rattle.h5w_writer.specs.PartLaws.{PartLaws}
use Rattle.h5w_writer.specs.Sessions.{Session}
use Rattle.h5w_writer.specs.Starts.{HasFlushed}
use Rattle.h5w_writer.specs.Told.{told_of}
use Rattle.h5w_several_writer_laws.specs.Sessions.{AreFlushed, FlushesAll, FlushesPart, Sessions, all_pending}
use Rattle.h5w_several_writer_laws.specs.Standing.{IsDone, StandsAll, last_image, rested}
use Rattle.h5w_several_writer_laws.proofs.FlushAllLemmas.{at_rest, goes_on}
use Rattle.h5w_several_writer_laws.proofs.FoldPartLemmas.{AllRest, is_done, is_waiting, next_state, rest_steps}
use Rattle.h5w_several_writer_laws.proofs.TurnPartLemmas.{IsWithin, last_joined, turned_part, within_then}
use Rattle.h5w_front_laws.specs.Fronts.{AllKeepFront, SaysWritten}
use Rattle.h5w_front_laws.specs.Laws.{AllKeepWritten}
use Rattle.h5w_front_laws.proofs.FrontLemmas.{fronts_joined}
use Rattle.h5w_front_laws.proofs.OneFrontLemmas.{flushed_root, part_keeps}

module _ (p : PartLaws) (log : FileLog) (us : List Used) (blocks : (u : Used) → Among u us → u.chunk ≡ false) where
  -- one part, over the superblock that those before it left
  turn_keeps : (root : Super) (t : Space) (all : List Write) (d : ℕ) (b : Begun) (e : Entry) (s n : Session) → IsDone root t all log d b s e → s.pending ≡ [] → s.stopped ≡ false → FlushesPart root t s n → SaysWritten root → AllKeepFront n.pending
  turn_keeps root t all d b e s n one idle going x says =
      let at = rested root t s in
      let same : told_of s root t ≡ at = ap (λ (ws : List Write). let y : Session = record s { root = root; places = t; pending = ws } in y) idle in
      let flushes = subst (λ (y : Session). HasFlushed y n) same x.flushed in
      let r = one.runs.running in
      part_keeps at one.own r says n (p.flush at n one.own flushes going refl x.ends r)

  fold_keeps : (root last : Super) (t end : Space) (all : List Write) (ds : List Entry) (d : ℕ) (bs : List Begun) (ss uu : List Session) (es : List Entry) → State (last_image log all) t root us ds es → AllRest root t us all log d bs ss es
      → IsWithin t log → AreFlushed root t ss last end uu → SaysWritten root → SaysWritten last × AllKeepFront (all_pending uu)
  fold_keeps root last t end all ds d [] [] [] [] st rest fits x says = (subst SaysWritten (sym x.0) says, tt)
  fold_keeps root last t end all ds d (b ∷ bs) (s ∷ ss) (u ∷ uu) (e ∷ es) st rest fits x says =
      let i = rest.0.0 in
      let one = is_done p log us blocks root t all d b s e rest.0.1 i in
      let waits = is_waiting p log us blocks root t all d b s e rest.0.1 i in
      let img = last_image log all in
      elim x [
        | inl none ↦
            let empty : [] ≡ u.pending = sym (ap (λ (y : Session). y.pending) none.1 ∙ rest.0.1) in
            let later = fold_keeps root last t end all (e ∷ ds) (suc d) bs ss uu es (next_state img t root us ds e es st) rest.1 fits none.2 says in
            (later.0, subst (λ (ws : List Write). AllKeepFront (ws ++ all_pending uu)) empty later.1)
        | inr turn ↦
            let n = turn.0 in
            let flushes = turn.1 in
            let turned = turned_part p log us img root t all d b ds e es s n refl st blocks one i.name rest.0.1 i.going flushes.flushed flushes.ends fits.low waits in
            let ws = n.pending in
            let next = flushed_entry e turned.parts in
            let state = subst (λ (y : List ℕ). State y n.places n.root us (next ∷ all_then n.root ds) (all_then n.root es)) (sym (last_joined log all ws)) turned.state in
            let later = fold_keeps n.root last n.places end (all ++ ws) (next ∷ all_then n.root ds) (suc d) bs ss uu (all_then n.root es) state
            (rest_steps p log us blocks img ws all root n.root t n.places (suc d) bs ss es refl turned.rest turned.stretch rest.1) (within_then t n.places log ws turned.stretch) turn.3
            (flushed_root (told_of s root t) n flushes.flushed says) in
            let own = turn_keeps root t all d b e s n one rest.0.1 i.going flushes says in
            (later.0, subst (λ (vs : List Write). AllKeepFront (vs ++ all_pending uu)) (sym (ap (λ (y : Session). y.pending) turn.2)) (fronts_joined ws (all_pending uu) own later.1))
      ]
  fold_keeps root last t end all ds d [] (s ∷ ss) uu es st rest fits x says = absurd rest
  fold_keeps root last t end all ds d [] [] uu (e ∷ es) st rest fits x says = absurd rest
  fold_keeps root last t end all ds d [] [] (u ∷ uu) [] st rest fits x says = absurd x
  fold_keeps root last t end all ds d (b ∷ bs) [] uu es st rest fits x says = absurd rest
  fold_keeps root last t end all ds d (b ∷ bs) (s ∷ ss) uu [] st rest fits x says = absurd rest
  fold_keeps root last t end all ds d (b ∷ bs) (s ∷ ss) [] (e ∷ es) st rest fits x says = absurd x

pub all_flush_keeps : PartLaws → (S T : Sessions) (log : FileLog) → StandsAll S log → S.stopped ≡ false → all_pending S.parts ≡ [] → FlushesAll S T → SaysWritten S.root → AllKeepWritten T
all_flush_keeps p S T log stands going idle x says =
    let st = goes_on S log stands going in
    let us = st.ranges in
    let rest = at_rest S.root S.places us (all_pending S.parts) log 0 log.sets [] S.parts st.entries idle idle st.parts in
    let known = subst (λ (ws : List Write). AreKnown (last_image log ws) S.places S.root us st.entries) idle st.known in
    let both = fold_keeps p log us st.blocks S.root T.root S.places T.places [] [] 0 log.sets S.parts T.parts st.entries (record { passed = tt; known = known; apart = tt; off = st.off; across = tt }) rest
    (record { ends = st.fits; low = st.low }) x.parts says in
    record { root = both.0; pieces = both.1 }
