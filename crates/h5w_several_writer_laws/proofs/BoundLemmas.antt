-- How far a file with several datasets grows, by the loads of its log.
use Rattle.std.proofs.Common.{◌≡◌, ℕ, zero, suc, ◌+◌, true, false, Bool, List, [], ◌∷◌, ℤ, Some, refl, sym, ◌∙◌, ap, subst, inl, inr, arith}
use Rattle.std.specs.Prelude.{map, slice_get, slice_set}
use Rattle.h5w_model.specs.Logs.{Cutting}
use Rattle.h5w_model.specs.Several.{FileLog, Happened, appends_to, load_all, plans_each, shows_all, spent_by, takes_over}
use Rattle.h5w_model.specs.declared.piece.Write.{Write}
use Rattle.h5w_model.specs.declared.root.Super.{Super}
use Rattle.h5w_space.specs.Space.{Space}
use Rattle.h5w_several_laws.specs.Turns.{AreKnown}
use Rattle.h5w_writer.specs.Sessions.{AfterPiece, Session, Settles, cutting_of, stopped_of, with_values}
use Rattle.h5w_writer.specs.Starts.{HasFlushed}
use Rattle.h5w_writer.specs.Told.{told_of}
use Rattle.h5w_writer.proofs.PartLemmas.{part_laws}
use Rattle.h5w_writer.proofs.StandLemmas.{freed_keeps}
use Rattle.h5w_several_writer_laws.specs.Bounds.{BoundsStand, IsGrown, cuttings_of}
use Rattle.h5w_several_writer_laws.specs.Sessions.{AfterPieceOf, AppendsTo, AreFlushed, AreSameBut, AreShown, FlushesAll, Sessions, all_pending, closed_all, closed_part, closed_parts, closed_super, counts_of}
use Rattle.h5w_several_writer_laws.specs.Standing.{StandsOn, and_then, last_image}
use Rattle.h5w_several_writer_laws.proofs.FlushAllLemmas.{at_rest, goes_on}
use Rattle.h5w_several_writer_laws.proofs.FoldPartLemmas.{IsFolded, folded}

-- ---- Rows stay cut as they are

map_cut : (f : Session → Session) → ((s : Session) → cutting_of (f s) ≡ cutting_of s) → (ss : List Session) → cuttings_of (map f ss) ≡ cuttings_of ss
map_cut f same [] = refl
map_cut f same (s ∷ ss) = ap (λ (c : Cutting). c ∷ cuttings_of (map f ss)) (same s) ∙ ap (λ (cs : List Cutting). cutting_of s ∷ cs) (map_cut f same ss)

some_is : {A : Type 0} (x y : A) → Some x ≡ Some y → x ≡ y
some_is x y e = cc

append_cut : (ss : List Session) (i : ℕ) (part : Session) (values : List ℤ) → slice_get ss i ≡ Some part → cuttings_of (slice_set ss i (with_values part values)) ≡ cuttings_of ss
append_cut [] i part values is = absurd cc
append_cut (s ∷ ss) zero part values is = ap (λ (y : Session). cutting_of y ∷ cuttings_of ss) (sym (some_is s part is))
append_cut (s ∷ ss) (suc i) part values is = ap (λ (cs : List Cutting). cutting_of s ∷ cs) (append_cut ss i part values is)

flushed_cut : (s n : Session) → HasFlushed s n → cutting_of n ≡ cutting_of s
flushed_cut s n (inl x) = ap cutting_of x.session
flushed_cut s n (inr x) = ap cutting_of x.session

flush_cut : (root last : Super) (t end : Space) (ss uu : List Session) → AreFlushed root t ss last end uu → cuttings_of uu ≡ cuttings_of ss
flush_cut root last t end [] [] x = refl
flush_cut root last t end [] (u ∷ uu) x = absurd x
flush_cut root last t end (s ∷ ss) [] x = absurd x
flush_cut root last t end (s ∷ ss) (u ∷ uu) x = elim x [
  | inl y ↦ ap (λ (v : Session). cutting_of v ∷ cuttings_of uu) y.1 ∙ ap (λ (cs : List Cutting). cutting_of s ∷ cs) (flush_cut root last t end ss uu y.2)
  | inr y ↦
      ap (λ (v : Session). cutting_of v ∷ cuttings_of uu) y.2 ∙ ap (λ (c : Cutting). c ∷ cuttings_of uu) (flushed_cut (told_of s root t) y.0 y.1.flushed)
      ∙ ap (λ (cs : List Cutting). cutting_of s ∷ cs) (flush_cut y.0.root last y.0.places end ss uu y.3)
]

refused_cut : (ss uu : List Session) → AreSameBut ss uu → cuttings_of uu ≡ cuttings_of ss
refused_cut [] [] x = refl
refused_cut [] (u ∷ uu) x = absurd x
refused_cut (s ∷ ss) [] x = absurd x
refused_cut (s ∷ ss) (u ∷ uu) x = ap (λ (v : Session). cutting_of v ∷ cuttings_of uu) x.0.session ∙ ap (λ (cs : List Cutting). cutting_of s ∷ cs) (refused_cut ss uu x.1)

settled_cut : (flushing : Bool) (s u : Session) → Settles flushing s u → cutting_of u ≡ cutting_of s
settled_cut true s u x = ap cutting_of x.1
settled_cut false s u x = ap cutting_of x

piece_cut : (s u : Session) (ws : List Write) → AfterPiece s ws u → cutting_of u ≡ cutting_of s
piece_cut s u [] x = settled_cut s.flushing s u x
piece_cut s u (w ∷ ws) x = ap cutting_of x

shown_cut : (w : Write) (ss uu : List Session) → AreShown w ss uu → cuttings_of uu ≡ cuttings_of ss
shown_cut w [] uu x = absurd x
shown_cut w (s ∷ ss) [] x = absurd x
shown_cut w (s ∷ ss) (u ∷ uu) x = elim x [
  | inl y ↦ ap (λ (v : Session). cutting_of v ∷ cuttings_of uu) y.1 ∙ ap (λ (cs : List Cutting). cutting_of s ∷ cs) (shown_cut w ss uu y.2)
  | inr y ↦ ap (λ (c : Cutting). c ∷ cuttings_of uu) (piece_cut s u y.0 y.2) ∙ ap (λ (vs : List Session). cutting_of s ∷ cuttings_of vs) y.3
]

closed_cut : (root : Super) (ss : List Session) → cuttings_of (closed_parts root ss) ≡ cuttings_of ss
closed_cut root [] = refl
closed_cut root (s ∷ ss) = ap (λ (cs : List Cutting). cutting_of s ∷ cs) (map_cut (closed_part root) (λ x. refl) ss)

-- ---- The loads rest on what the log began with, and on the events

spent_events : (cs : List Cutting) (log : FileLog) (other es : List Happened) → spent_by cs (record log { events = other }) es ≡ spent_by cs log es
spent_events cs log other [] = refl
spent_events cs log other (appends_to e vs ∷ es) = ap (λ (n : ℕ). n + load_all cs (let l : FileLog = record log { events = appends_to e vs ∷ es } in l)) (spent_events cs log other es)
spent_events cs log other (plans_each counts ∷ es) = ap (λ (n : ℕ). n + load_all cs (let l : FileLog = record log { events = es } in l)) (spent_events cs log other es)
spent_events cs log other (shows_all w ∷ es) = spent_events cs log other es
spent_events cs log other (takes_over ∷ es) = spent_events cs log other es

-- ---- What calls make of the bound

-- as it was, where the end and the cutting are
grown_same : (S T : Sessions) (log : FileLog) → T.places.end ≡ S.places.end → cuttings_of T.parts ≡ cuttings_of S.parts → IsGrown S log → IsGrown T log
grown_same S T log end cut grown =
    let same = ap (λ (cs : List Cutting). spent_by cs log log.events) cut in
    omega (arith, grown, end, same)

appended_grown : (old new : Sessions) (d : ℕ) (values : List ℤ) (log : FileLog) → AppendsTo d values old new → IsGrown old log → IsGrown new (and_then (appends_to d values) log)
appended_grown old new d values log x grown =
    let next = and_then (appends_to d values) log in
    let cut = ap (λ (y : Sessions). cuttings_of y.parts) x.session ∙ append_cut old.parts d x.part values x.is in
    let end = ap (λ (y : Sessions). y.places.end) x.session in
    let same = grown_same old new log end cut grown in
    let before = spent_events (cuttings_of new.parts) log next.events log.events in
    omega (arith, same, before)

shown_grown : (old new : Sessions) (w : Write) (log : FileLog) → AfterPieceOf w old new → IsGrown old log → IsGrown new (and_then (shows_all w) log)
shown_grown old new w log x grown =
    let next = and_then (shows_all w) log in
    let end : new.places.end ≡ old.places.end = elim x.places [
      | inl y ↦ (freed_keeps old.keeps old.places new.places y.2).0
      | inr y ↦ ap (λ (t : Space). t.end) y.1
    ] in
    let same = grown_same old new log end (shown_cut w old.parts new.parts x.parts) grown in
    let before = spent_events (cuttings_of new.parts) log next.events log.events in
    omega (arith, same, before)

-- ---- A flush

flush_folds : (old new : Sessions) (log : FileLog) (st : StandsOn old log) → all_pending old.parts ≡ [] → FlushesAll old new → IsFolded new.root old.places new.places st.ranges log [] 0 log.sets (all_pending new.parts) [] new.parts (load_all (cuttings_of old.parts) log)
flush_folds old new log st idle x =
    let rest = at_rest old.root old.places st.ranges (all_pending old.parts) log 0 log.sets [] old.parts st.entries idle idle st.parts in
    let known = subst (λ (ws : List Write). AreKnown (last_image log ws) old.places old.root st.ranges st.entries) idle st.known in
    folded part_laws log st.ranges st.blocks old.root new.root old.places new.places log.sets old.parts new.parts st.entries known st.off rest (record { ends = st.fits; low = st.low }) x.parts

flush_grown : (old new : Sessions) (log : FileLog) → StandsOn old log → all_pending old.parts ≡ [] → FlushesAll old new → IsGrown old log → IsGrown new (and_then (plans_each (counts_of new.parts)) log)
flush_grown old new log st idle x grown =
    let next = and_then (plans_each (counts_of new.parts)) log in
    let f = flush_folds old new log st idle x in
    let cut = flush_cut old.root new.root old.places new.places old.parts new.parts x.parts in
    let spent = ap (λ (cs : List Cutting). spent_by cs log log.events) cut in
    let loads = ap (λ (cs : List Cutting). load_all cs log) cut in
    let before = spent_events (cuttings_of new.parts) log next.events log.events in
    omega (arith, grown, f.raised, spent, loads, before)

pub bounds_stand : BoundsStand
bounds_stand = record {
  few = λ old new log st going idle x. (flush_folds old new log (goes_on old log st going) idle x).few;
  raised = λ old new log st going idle x. (flush_folds old new log (goes_on old log st going) idle x).raised;
  appends = appended_grown;
  flushes = λ old new log st going idle x grown. flush_grown old new log (goes_on old log st going) idle x grown;
  refused = λ old new log x grown. grown_same old new log (ap (λ (y : Sessions). y.places.end) x.session) (refused_cut old.parts new.parts x.parts) grown;
  shown = shown_grown;
  stops = λ S log grown. grown_same S (record S { parts = map stopped_of S.parts; stopped = true }) log refl (map_cut stopped_of (λ s. refl) S.parts) grown;
  closes = λ S log grown. grown_same S (closed_all S) log refl (closed_cut (closed_super S) S.parts) grown;
  keeps = λ S log grown. grown;
}
