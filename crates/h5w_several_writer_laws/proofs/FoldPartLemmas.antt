-- All parts of a flush of several datasets, one after another.
use Rattle.std.proofs.Common.{◌+◌, length, ◌≡◌, ℕ, suc, ◌≤◌, false, List, [], ◌∷◌, ◌++◌, refl, sym, ◌∙◌, ap, subst, inl, inr, arith, append-nil, append_assoc, length-append}
use Rattle.std.specs.Prelude.{map}
use Rattle.h5w_model.specs.Findings.{Used}
use Rattle.h5w_model.specs.Logs.{load}
use Rattle.h5w_model.specs.Several.{Begun, FileLog, load_from, log_of}
use Rattle.h5w_model.specs.Prefixed.{PrefixedEach}
use Rattle.h5w_model.specs.declared.piece.Write.{Write}
use Rattle.h5w_model.specs.declared.root.Super.{Super}
use Rattle.h5w_step_laws.specs.Ranges.{Among}
use Rattle.h5w_space.specs.Space.{Space}
use Rattle.h5w_several_laws.specs.Dues.{Waits}
use Rattle.h5w_several_laws.specs.Turns.{AreKnown, AreOff, Entry, IsOff, all_then, flushed as flushed_entry}
use Rattle.h5w_several_laws.proofs.FoldLemmas.{AreAcross, State, across_head, across_tail, flip_apart}
use Rattle.h5w_writer.specs.Sessions.{AllEndBy, Session, cutting_of}
use Rattle.h5w_writer.specs.Told.{told_of}
use Rattle.h5w_writer.proofs.PastLemmas.{ends_joined}
use Rattle.h5w_writer.specs.PartLaws.{PartLaws}
use Rattle.h5w_several_writer_laws.specs.Sessions.{AreFlushed, all_pending, bare}
use Rattle.h5w_several_writer_laws.specs.Standing.{IsDone, last_image, most_in}
use Rattle.h5w_several_writer_laws.proofs.PassedLemmas.{ArePassedBy}
use Rattle.h5w_several_writer_laws.proofs.TurnPartLemmas.{AllIn, IsIn, IsWithin, Seat, Stretches, flushed_named, flushed_none, last_joined, step_all, step_in, turned_part, within_then}

abbrev pub seat : ℕ → Begun → List Write → Session → Seat
seat d b before s = record { number = d; begun = b; before = before; part = s }

-- parts that wait for their turn, from number d on
abbrev pub AllRest : Super → Space → List Used → List Write → FileLog → ℕ → List Begun → List Session → List Entry → Type 0
AllRest root t us all log d [] [] [] = Unit {0}
AllRest root t us all log d (b ∷ bs) (s ∷ ss) (e ∷ es) = (IsIn root t us all log (seat d b [] s) e × (s.pending ≡ [])) × AllRest root t us all log (suc d) bs ss es
AllRest root t us all log d [] (s ∷ ss) es = ⊥
AllRest root t us all log d [] [] (e ∷ es) = ⊥
AllRest root t us all log d (b ∷ bs) [] es = ⊥
AllRest root t us all log d (b ∷ bs) (s ∷ ss) [] = ⊥

-- a part that had its turn, once all had
pub record IsOut (last : Super) (end : Space) (us : List Used) (total : List Write) (log : FileLog) (d : ℕ) (b : Begun) (before : List Write) (u : Session) (e : Entry) : Type 0 where
  pub part : Session
  pub told : u ≡ told_of part last (bare end)
  pub none : part.waits ≡ 0
  pub inside : IsIn last end us total log (seat d b before part) e

abbrev pub AllOut : Super → Space → List Used → List Write → FileLog → ℕ → List Begun → List Write → List Session → List Entry → Type 0
AllOut last end us total log d [] before [] [] = Unit {0}
AllOut last end us total log d (b ∷ bs) before (u ∷ uu) (e ∷ es) = IsOut last end us total log d b before u e × AllOut last end us total log (suc d) bs (before ++ u.pending) uu es
AllOut last end us total log d [] before (u ∷ uu) es = ⊥
AllOut last end us total log d [] before [] (e ∷ es) = ⊥
AllOut last end us total log d (b ∷ bs) before [] es = ⊥
AllOut last end us total log d (b ∷ bs) before (u ∷ uu) [] = ⊥

-- All that had their turn before are as they were then, and those behind have had it.
pub record IsFolded (last : Super) (t end : Space) (us : List Used) (log : FileLog) (done : List Seat) (d : ℕ) (bs : List Begun) (total before : List Write) (uu : List Session) (most : ℕ) : Type 0 where
  pub ds : List Entry
  pub es : List Entry
  pub state : State (last_image log total) end last us ds es
  pub passed : AllIn last end us total log done ds
  pub rest : AllOut last end us total log d bs before uu es
  pub stretch : Stretches t end log (all_pending uu)
  pub few : length (all_pending uu) ≤ most
  pub raised : end.end ≤ t.end + most

-- ---- From the parts that had their turn to all

pub across_cons : (e : Entry) (ds es : List Entry) → IsOff e ds → AreAcross ds es → AreAcross ds (e ∷ es)
across_cons e [] es off a = tt
across_cons e (d ∷ ds) es off a = ((flip_apart d e off.0, a.0), across_cons e ds es off.1 a.1)

shift : (img : List ℕ) (t : Space) (root : Super) (us : List Used) (e : Entry) (ds es : List Entry) → State img t root us (e ∷ ds) es → State img t root us ds (e ∷ es)
shift img t root us e ds es s = record {
  passed = s.passed.1;
  known = (s.passed.0, s.known);
  apart = s.apart.1;
  off = (s.across.0, s.off);
  across = across_cons e ds es s.apart.0 s.across.1;
}

-- it had its turn with the next one
pub next_state : (img : List ℕ) (t : Space) (root : Super) (us : List Used) (ds : List Entry) (e : Entry) (es : List Entry) → State img t root us ds (e ∷ es) → State img t root us (e ∷ ds) es
next_state img t root us ds e es st = record {
  passed = (st.known.0, st.passed);
  known = st.known.1;
  apart = (across_head ds e es st.across, st.apart);
  off = st.off.1;
  across = (st.off.0, across_tail ds e es st.across);
}

-- the same limit
pub most_same : (t u : Space) (log : FileLog) → u.limit ≡ t.limit → most_in u log ≡ most_in t log
most_same t u log limit = ap (λ (n : ℕ). let x : Space = record u { limit = n } in most_in x log) limit

stretched : (t u end : Space) (log : FileLog) (ws : List Write) → u.limit ≡ t.limit → Stretches u end log ws → Stretches t end log ws
stretched t u end log ws limit x =
    let most = most_same t u log limit in
    record { limit = x.limit ∙ limit; fits = omega (arith, x.fits, most); ends = subst (λ (n : ℕ). AllEndBy n ws) most x.ends; low = omega (arith, x.low, limit) }

-- The last one that had its turn is the first of those that are all through: it led from one end of the file to the next, and has so many pieces at most.
popped : (last : Super) (t v end : Space) (us : List Used) (log : FileLog) (done : List Seat) (d : ℕ) (b : Begun) (bs : List Begun) (total before : List Write) (n u : Session) (uu : List Session) (own most : ℕ) → u ≡ told_of n last (bare end) → n.waits ≡ 0
    → AllEndBy (most_in t log) u.pending → length u.pending ≤ own → v.limit ≡ t.limit → v.end ≤ t.end + own → IsFolded last v end us log (seat d b before n ∷ done) (suc d) bs total (before ++ u.pending) uu most
    → IsFolded last t end us log done d (b ∷ bs) total before (u ∷ uu) (own + most)
popped last t v end us log done d b bs total before n u uu own most told none ends count limit rise x = go x.ds x.state x.passed
  where
    go : (ds : List Entry) → State (last_image log total) end last us ds x.es → AllIn last end us total log (seat d b before n ∷ done) ds → IsFolded last t end us log done d (b ∷ bs) total before (u ∷ uu) (own + most)
    go [] state passed = absurd passed
    go (e ∷ ds) state passed =
        let later = stretched t v end log (all_pending uu) limit x.stretch in
        let both = length-append u.pending (all_pending uu) in
        record {
          ds = ds;
          es = e ∷ x.es;
          state = shift (last_image log total) end last us e ds x.es state;
          passed = passed.1;
          rest = (record { part = n; told = told; none = none; inside = passed.0 }, x.rest);
          stretch = record { limit = later.limit; fits = later.fits; ends = ends_joined (most_in t log) u.pending (all_pending uu) ends later.ends; low = later.low };
          few = omega (arith, both, count, x.few);
          raised = omega (arith, rise, x.raised);
        }

module _ (p : PartLaws) (log : FileLog) (us : List Used) (blocks : (u : Used) → Among u us → u.chunk ≡ false) where
  pub rest_steps : (img : List ℕ) (ws all : List Write) (root to : Super) (t u : Space) (d : ℕ) (bs : List Begun) (ss : List Session) (es : List Entry) → img ≡ last_image log all → ArePassedBy img ws to u us es → Stretches t u log ws
      → AllRest root t us all log d bs ss es → AllRest to u us (all ++ ws) log d bs ss (all_then to es)
  rest_steps img ws all root to t u d [] [] [] is by stretch x = tt
  rest_steps img ws all root to t u d (b ∷ bs) (s ∷ ss) (e ∷ es) is by stretch x =
      ((step_in p log us img ws all root to t u (seat d b [] s) e is by.0 stretch x.0.0, x.0.1), rest_steps img ws all root to t u (suc d) bs ss es is by.1 stretch x.1)
  rest_steps img ws all root to t u d [] (s ∷ ss) es is by stretch x = absurd x
  rest_steps img ws all root to t u d [] [] (e ∷ es) is by stretch x = absurd x
  rest_steps img ws all root to t u d (b ∷ bs) [] es is by stretch x = absurd x
  rest_steps img ws all root to t u d (b ∷ bs) (s ∷ ss) [] is by stretch x = absurd x

  -- a part that waits has not begun
  pub is_done : (root : Super) (t : Space) (all : List Write) (d : ℕ) (b : Begun) (s : Session) (e : Entry) → s.pending ≡ [] → IsIn root t us all log (seat d b [] s) e → IsDone root t all log d b s e
  is_done root t all d b s e idle x = elim x.phase [
    | inl done ↦ done.0
    | inr planned ↦ absurd (planned.some idle)
  ]

  -- and its dataset waits for its turn, too
  pub is_waiting : (root : Super) (t : Space) (all : List Write) (d : ℕ) (b : Begun) (s : Session) (e : Entry) → s.pending ≡ [] → IsIn root t us all log (seat d b [] s) e → Waits s.name (log_of d b log) all e.moment e.held
  is_waiting root t all d b s e idle x = elim x.phase [
    | inl done ↦ done.2
    | inr planned ↦ absurd (planned.some idle)
  ]

  -- it has no rows that wait
  still : (root last : Super) (t end : Space) (all : List Write) (done : List Seat) (d : ℕ) (b : Begun) (bs : List Begun) (s u : Session) (uu : List Session) (own most : ℕ) → s.pending ≡ [] → s.waits ≡ 0 → u ≡ told_of s last (bare end)
      → IsFolded last t end us log (seat d b all s ∷ done) (suc d) bs (all ++ all_pending uu) all uu most → IsFolded last t end us log done d (b ∷ bs) (all ++ (u.pending ++ all_pending uu)) all (u ∷ uu) (own + most)
  still root last t end all done d b bs s u uu own most idle none told later =
      let empty : [] ≡ u.pending = sym (ap (λ (y : Session). y.pending) told ∙ idle) in
      let total = subst (λ (ws : List Write). IsFolded last t end us log (seat d b all s ∷ done) (suc d) bs (all ++ (ws ++ all_pending uu)) all uu most) empty later in
      let behind = subst (λ (ws : List Write). IsFolded last t end us log (seat d b all s ∷ done) (suc d) bs (all ++ (u.pending ++ all_pending uu)) ws uu most) (sym (append-nil all) ∙ ap (λ (ws : List Write). all ++ ws) empty) total in
      popped last t t end us log done d b bs (all ++ (u.pending ++ all_pending uu)) all s u uu own most told none (subst (λ (ws : List Write). AllEndBy (most_in t log) ws) empty tt) (let n = ap length empty in omega (arith, n)) refl (omega arith) behind

  -- its rows are flushed
  turns : (last : Super) (t end : Space) (all : List Write) (done : List Seat) (d : ℕ) (b : Begun) (bs : List Begun) (n u : Session) (uu : List Session) (own most : ℕ) → n.waits ≡ 0 → u ≡ told_of n last (bare end) → Stretches t n.places log n.pending
      → length n.pending ≤ own → n.places.end ≤ t.end + own → IsFolded last n.places end us log (seat d b all n ∷ done) (suc d) bs ((all ++ n.pending) ++ all_pending uu) (all ++ n.pending) uu most
      → IsFolded last t end us log done d (b ∷ bs) (all ++ (u.pending ++ all_pending uu)) all (u ∷ uu) (own + most)
  turns last t end all done d b bs n u uu own most none told stretch few raised later =
      let ws = n.pending in
      let same : ws ≡ u.pending = sym (ap (λ (y : Session). y.pending) told) in
      let total = subst (λ (vs : List Write). IsFolded last n.places end us log (seat d b all n ∷ done) (suc d) bs vs (all ++ ws) uu most) (append_assoc all ws (all_pending uu)) later in
      let behind = subst (λ (vs : List Write). IsFolded last n.places end us log (seat d b all n ∷ done) (suc d) bs (all ++ (vs ++ all_pending uu)) (all ++ vs) uu most) same total in
      popped last t n.places end us log done d b bs (all ++ (u.pending ++ all_pending uu)) all n u uu own most told none (subst (λ (vs : List Write). AllEndBy (most_in t log) vs) same stretch.ends) (subst (λ (vs : List Write). length vs ≤ own) same few) stretch.limit raised
      behind

  fold : (root last : Super) (t end : Space) (all : List Write) (done : List Seat) (ds : List Entry) (d : ℕ) (bs : List Begun) (ss uu : List Session) (es : List Entry) → State (last_image log all) t root us ds es → AllIn root t us all log done ds
      → AllRest root t us all log d bs ss es → IsWithin t log → AreFlushed root t ss last end uu → IsFolded last t end us log done d bs (all ++ all_pending uu) all uu (load_from d (map cutting_of ss) bs log)
  fold root last t end all done ds d [] [] [] [] st in_done rest fits x =
      subst (λ (r : Super). IsFolded r t end us log done d [] (all ++ []) all [] 0) (sym x.0)
      (subst (λ (y : Space). IsFolded root t y us log done d [] (all ++ []) all [] 0) (sym x.1)
      (subst (λ (ws : List Write). IsFolded root t t us log done d [] ws all [] 0) (sym (append-nil all))
      (record { ds = ds; es = []; state = st; passed = in_done; rest = tt; stretch = record { limit = refl; fits = fits.ends; ends = tt; low = fits.low }; few = omega arith; raised = omega arith })))
  fold root last t end all done ds d (b ∷ bs) (s ∷ ss) (u ∷ uu) (e ∷ es) st in_done rest fits x =
      let i = rest.0.0 in
      let one = is_done root t all d b s e rest.0.1 i in
      let waits = is_waiting root t all d b s e rest.0.1 i in
      elim x [
        | inl none ↦
            let here : IsIn root t us all log (seat d b all s) e = record { name = i.name; early = i.early; going = i.going; each = i.each; past = i.past; phase = inl (one, rest.0.1, waits) } in
            still root last t end all done d b bs s u uu (load (cutting_of s) (log_of d b log)) (load_from (suc d) (map cutting_of ss) bs log) rest.0.1 none.0 none.1 (fold root last t end all (seat d b all s ∷ done) (e ∷ ds) (suc d) bs ss uu es (next_state (last_image log all) t root us ds e es st) (here, in_done) rest.1 fits none.2)
        | inr turn ↦
            let n = turn.0 in
            let flushes = turn.1 in
            let img = last_image log all in
            let turned = turned_part p log us img root t all d b ds e es s n refl st blocks one i.name rest.0.1 i.going flushes.flushed flushes.ends fits.low waits in
            let ws = n.pending in
            let name = flushed_named (told_of s root t) n flushes.flushed in
            let none = flushed_none (told_of s root t) n flushes.flushed in
            let here : IsIn n.root n.places us (all ++ ws) log (seat d b all n) (flushed_entry e turned.parts) = record {
              name = i.name ∙ sym name;
              early = none.1;
              going = none.2 ∙ i.going;
              each = subst (λ (k : List ℕ). PrefixedEach k (log_of d b log)) (sym name) i.each;
              past = turned.past i.past;
              phase = inr turned.planned;
            } in
            let passed = step_all p log us img ws all root n.root t n.places done ds refl turned.done turned.stretch in_done in
            let state = subst (λ (y : List ℕ). State y n.places n.root us (flushed_entry e turned.parts ∷ all_then n.root ds) (all_then n.root es)) (sym (last_joined log all ws)) turned.state in
            turns last t end all done d b bs n u uu (load (cutting_of s) (log_of d b log)) (load_from (suc d) (map cutting_of ss) bs log) none.0 turn.2 turned.stretch turned.few turned.raised
            (fold n.root last n.places end (all ++ ws) (seat d b all n ∷ done) (flushed_entry e turned.parts ∷ all_then n.root ds) (suc d) bs ss uu (all_then n.root es) state (here, passed)
            (rest_steps img ws all root n.root t n.places (suc d) bs ss es refl turned.rest turned.stretch rest.1) (within_then t n.places log ws turned.stretch) turn.3)
      ]
  fold root last t end all done ds d [] (s ∷ ss) uu es st in_done rest fits x = absurd rest
  fold root last t end all done ds d [] [] uu (e ∷ es) st in_done rest fits x = absurd rest
  fold root last t end all done ds d [] [] (u ∷ uu) [] st in_done rest fits x = absurd x
  fold root last t end all done ds d (b ∷ bs) [] uu es st in_done rest fits x = absurd rest
  fold root last t end all done ds d (b ∷ bs) (s ∷ ss) uu [] st in_done rest fits x = absurd rest
  fold root last t end all done ds d (b ∷ bs) (s ∷ ss) [] (e ∷ es) st in_done rest fits x = absurd x

  pub folded : (root last : Super) (t end : Space) (bs : List Begun) (ss uu : List Session) (es : List Entry) → AreKnown (last_image log []) t root us es → AreOff es → AllRest root t us [] log 0 bs ss es → IsWithin t log
      → AreFlushed root t ss last end uu → IsFolded last t end us log [] 0 bs (all_pending uu) [] uu (load_from 0 (map cutting_of ss) bs log)
  folded root last t end bs ss uu es known off rest fits x = fold root last t end [] [] [] 0 bs ss uu es (record { passed = tt; known = known; apart = tt; off = off; across = tt }) tt rest fits x
