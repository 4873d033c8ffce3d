-- A session of several datasets that is stopped or closed.
use Rattle.std.proofs.Common.{◌≡◌, ◌⊎◌, ℕ, suc, ◌/◌, ◌%◌, true, false, Bool, List, [], ◌∷◌, ◌++◌, Ok, refl, sym, ◌∙◌, ap, subst, inl, inr, arith, append-nil}
use Rattle.std.specs.Prelude.{map, ◌==◌}
use Rattle.std.proofs.lemmas.Bool.{eq-eqb, or_right}
use Rattle.h5w_model.specs.Images.{image}
use Rattle.h5w_model.specs.Datasets.{is_swmr}
use Rattle.h5w_model.specs.Findings.{Used}
use Rattle.h5w_model.specs.Logs.{Log}
use Rattle.h5w_model.specs.Several.{Begun, FileLog, log_of, pieces_in}
use Rattle.h5w_model.specs.Superblock.{super_at, super_bytes}
use Rattle.h5w_model.specs.declared.piece.Write.{Write}
use Rattle.h5w_model.specs.declared.root.Super.{Super}
use Rattle.h5w_space.specs.Space.{Space}
use Rattle.h5w_step_laws.specs.Logs.{image_now}
use Rattle.h5w_step_laws.specs.Plans.{Plan}
use Rattle.h5w_flush_laws.specs.Knowledge.{KnownHeld}
use Rattle.h5w_several_laws.specs.Together.{names_of}
use Rattle.h5w_several_laws.specs.Turns.{AreKnown, AreOff, Entry, IsOne, all_then, then_as}
use Rattle.h5w_several_laws.proofs.TogetherLemmas.{names_then}
use Rattle.h5w_several_laws.proofs.FoldLemmas.{all_off_then}
use Rattle.h5w_writer.specs.Sessions.{AfterPiece, AllEndBy, Session, Settles, cleared, closed_of, stopped_of}
use Rattle.h5w_writer.specs.Told.{moved_to, told_log}
use Rattle.h5w_writer.proofs.PastLemmas.{ends_front, ends_joined}
use Rattle.h5w_writer.specs.PartLaws.{PartLaws, RunsAs, super_piece}
use Rattle.h5w_several_writer_laws.specs.Began.{IsAmple}
use Rattle.h5w_several_writer_laws.specs.Sessions.{AfterPieceOf, AreFlushing, AreParts, AreShown, Sessions, all_pending, closed_all, closed_part, closed_parts, closed_super, halted, halted_of, stopped_all}
use Rattle.h5w_several_writer_laws.specs.Courses.{AreAt, AreThrough, Stand, stands_of}
use Rattle.h5w_several_writer_laws.specs.Valid.{AreValidFrom}
use Rattle.h5w_several_writer_laws.proofs.CourseLemmas.{standing_at}
use Rattle.h5w_several_writer_laws.specs.Standing.{AreStandingParts, HasRun, IsDone, IsStandingPart, IsUnbegun, StandsAll, StandsOn, last_image, most_in, rested}
use Rattle.h5w_several_writer_laws.proofs.ValidLemmas.{valid_last}
use Rattle.h5w_several_writer_laws.proofs.RunLemmas.{planned_run, run_rests, sight_image}
use Rattle.h5w_several_writer_laws.proofs.SightLemmas.{seen_told}
use Rattle.h5w_several_writer_laws.proofs.TurnPartLemmas.{entry, entry_is, last_joined, own_image, own_most, settled_runs}
use Rattle.h5w_several_writer_laws.proofs.FlushAllLemmas.{back_nil, front_nil}

-- ---- A stop

map_twice : (f g h : Session → Session) → ((s : Session) → f (g s) ≡ h s) → (ss : List Session) → map f (map g ss) ≡ map h ss
map_twice f g h same [] = refl
map_twice f g h same (s ∷ ss) = ap (λ (y : Session). y ∷ map f (map g ss)) (same s) ∙ ap (λ (ys : List Session). h s ∷ ys) (map_twice f g h same ss)

halted_stop : (was : Sessions) → stopped_all (halted was) ≡ stopped_all was
halted_stop was = ap (λ (ss : List Session). let y : Sessions = record was { parts = ss; stopped = true } in y) (map_twice stopped_of halted_of stopped_of (λ s. refl) was.parts)

stopped_twice : (was : Sessions) → stopped_all (stopped_all was) ≡ stopped_all was
stopped_twice was = ap (λ (ss : List Session). let y : Sessions = record was { parts = ss; stopped = true } in y) (map_twice stopped_of stopped_of stopped_of (λ s. refl) was.parts)

pub stops_stand : (S : Sessions) (log : FileLog) → StandsAll S log → StandsAll (stopped_all S) log
stops_stand S log st = record {
  was = st.was;
  stands = st.stands;
  is = elim st.is [
    | inl same ↦ inr (inr (ap stopped_all same))
    | inr ended ↦
        elim ended [
          | inl same ↦ inr (inr (ap stopped_all same ∙ halted_stop st.was))
          | inr same ↦ inr (inr (ap stopped_all same ∙ stopped_twice st.was))
        ]
  ];
}

-- ---- A piece of a session that was closed

abbrev going_of : Session → Session
going_of s = record s { stopped = false }

abbrev AllGoing : List Session → Type 0
AllGoing [] = Unit {0}
AllGoing (s ∷ ss) = (s.stopped ≡ false) × AllGoing ss

abbrev AllStopped : List Session → Type 0
AllStopped [] = Unit {0}
AllStopped (s ∷ ss) = (s.stopped ≡ true) × AllStopped ss

all_going : (root : Super) (t : Space) (us : List Used) (left : List Write) (log : FileLog) (d : ℕ) (bs : List Begun) (before : List Write) (ss : List Session) (es : List Entry) → AreStandingParts root t us left log d bs before ss es → AllGoing ss
all_going root t us left log d [] before [] [] x = tt
all_going root t us left log d (b ∷ bs) before (s ∷ ss) (e ∷ es) x = (x.0.going, all_going root t us left log (suc d) bs (before ++ s.pending) ss es x.1)
all_going root t us left log d [] before (s ∷ ss) es x = absurd x
all_going root t us left log d [] before [] (e ∷ es) x = absurd x
all_going root t us left log d (b ∷ bs) before [] es x = absurd x
all_going root t us left log d (b ∷ bs) before (s ∷ ss) [] x = absurd x

-- as it goes on
going_same : (s : Session) → s.stopped ≡ false → going_of (halted_of s) ≡ s
going_same s going = ap (λ (b : Bool). let y : Session = record s { stopped = b } in y) (sym going)

halted_same : (s : Session) → s.stopped ≡ true → halted_of (going_of s) ≡ s
halted_same s stopped = ap (λ (b : Bool). let y : Session = record s { stopped = b } in y) (sym stopped)

going_parts : (ss : List Session) → AllGoing ss → map going_of (map halted_of ss) ≡ ss
going_parts [] x = refl
going_parts (s ∷ ss) x = ap (λ (y : Session). y ∷ map going_of (map halted_of ss)) (going_same s x.0) ∙ ap (λ (ys : List Session). s ∷ ys) (going_parts ss x.1)

halted_parts : (ss : List Session) → AllStopped ss → map halted_of (map going_of ss) ≡ ss
halted_parts [] x = refl
halted_parts (s ∷ ss) x = ap (λ (y : Session). y ∷ map halted_of (map going_of ss)) (halted_same s x.0) ∙ ap (λ (ys : List Session). s ∷ ys) (halted_parts ss x.1)

all_halted : (ss : List Session) → AllStopped (map halted_of ss)
all_halted [] = tt
all_halted (s ∷ ss) = (refl, all_halted ss)

settles_going : (flushing : Bool) (s u : Session) → s.stopped ≡ false → Settles flushing (halted_of s) u → Settles flushing s (going_of u)
settles_going true s u going x = (
  x.0,
  ap going_of x.1 ∙ ap (λ (b : Bool). let y : Session = record s { places = u.places; committed = s.dataset.shape.rows; pending = []; stopped = b; flushing = false } in y) (sym going),
)
settles_going false s u going x = ap going_of x ∙ ap (λ (b : Bool). let y : Session = record s { pending = []; stopped = b } in y) (sym going)

piece_going : (s u : Session) (ws : List Write) → s.stopped ≡ false → AfterPiece (halted_of s) ws u → AfterPiece s ws (going_of u)
piece_going s u [] going x = settles_going s.flushing s u going x
piece_going s u (w ∷ ws) going x = ap going_of x ∙ ap (λ (b : Bool). let y : Session = record s { pending = w ∷ ws; stopped = b } in y) (sym going)

settles_halted : (flushing : Bool) (s u : Session) → Settles flushing (halted_of s) u → u.stopped ≡ true
settles_halted true s u x = ap (λ (y : Session). y.stopped) x.1
settles_halted false s u x = ap (λ (y : Session). y.stopped) x

piece_halted : (s u : Session) (ws : List Write) → AfterPiece (halted_of s) ws u → u.stopped ≡ true
piece_halted s u [] x = settles_halted s.flushing s u x
piece_halted s u (w ∷ ws) x = ap (λ (y : Session). y.stopped) x

shown_going : (w : Write) (ss uu : List Session) → AllGoing ss → AreShown w (map halted_of ss) uu → AreShown w ss (map going_of uu)
shown_going w [] uu going x = absurd x
shown_going w (s ∷ ss) [] going x = absurd x
shown_going w (s ∷ ss) (u ∷ uu) going x = elim x [
  | inl y ↦ inl (y.0, ap going_of y.1 ∙ going_same s going.0, shown_going w ss uu going.1 y.2)
  | inr y ↦ inr (y.0, y.1, piece_going s u y.0 going.0 y.2, ap (map going_of) y.3 ∙ going_parts ss going.1)
]

shown_halted : (w : Write) (ss uu : List Session) → AreShown w (map halted_of ss) uu → AllStopped uu
shown_halted w [] uu x = absurd x
shown_halted w (s ∷ ss) [] x = absurd x
shown_halted w (s ∷ ss) (u ∷ uu) x = elim x [
  | inl y ↦ (ap (λ (v : Session). v.stopped) y.1, shown_halted w ss uu y.2)
  | inr y ↦ (piece_halted s u y.0 y.2, subst AllStopped (sym y.3) (all_halted ss))
]

flushing_going : (ss : List Session) → AreFlushing (map halted_of ss) → AreFlushing ss
flushing_going [] x = absurd x
flushing_going (s ∷ ss) x = elim x [
  | inl y ↦ inl y
  | inr y ↦ inr (flushing_going ss y)
]

flushing_halted : (ss : List Session) → AreFlushing ss → AreFlushing (map halted_of ss)
flushing_halted [] x = absurd x
flushing_halted (s ∷ ss) x = elim x [
  | inl y ↦ inl y
  | inr y ↦ inr (flushing_halted ss y)
]

pending_going : (uu : List Session) → all_pending (map going_of uu) ≡ all_pending uu
pending_going [] = refl
pending_going (u ∷ uu) = ap (λ (ws : List Write). u.pending ++ ws) (pending_going uu)

-- the one that goes on had its piece shown as well
pub record GoesWith (w : Write) (was new : Sessions) : Type 0 where
  pub next : Sessions
  pub shown : AfterPieceOf w was next
  pub is : new ≡ halted next

pub halted_shown : (was new : Sessions) (w : Write) (log : FileLog) → StandsOn was log → AfterPieceOf w (halted was) new → GoesWith w was new
halted_shown was new w log st x =
    let going = all_going was.root was.places st.ranges (all_pending was.parts) log 0 log.sets [] was.parts st.entries st.parts in
    let parts = map going_of new.parts in
    let same = pending_going new.parts in
    record {
      next = record was { places = new.places; parts = parts };
      shown = record {
        parts = shown_going w was.parts new.parts going x.parts;
        places = elim x.places [
          | inl y ↦ inl (flushing_going was.parts y.0, same ∙ y.1, y.2)
          | inr y ↦ inr (
            elim y.0 [
              | inl some ↦ inl (λ none. some (sym same ∙ none))
              | inr calm ↦ inr (λ busy. calm (flushing_halted was.parts busy))
            ],
            y.1,
          )
        ];
        session = refl;
      };
      is = x.session ∙ ap (λ (ss : List Session). let y : Sessions = record was { places = new.places; parts = ss; stopped = true } in y) (sym (halted_parts new.parts (shown_halted w was.parts new.parts x.parts)));
    }

-- where it was stopped nothing is pending
pub stopped_none : (w : Write) (ss uu : List Session) → AreShown w (map stopped_of ss) uu → ⊥
stopped_none w [] uu x = x
stopped_none w (s ∷ ss) [] x = x
stopped_none w (s ∷ ss) (u ∷ uu) x = elim x [
  | inl y ↦ stopped_none w ss uu y.2
  | inr y ↦ some_is y.0 (sym y.1)
]
  where
    some_is : (vs : List Write) → w ∷ vs ≡ [] → ⊥
    some_is vs none = cc

-- ---- A close

-- the superblock of a closed session is of a file that nobody writes: of its flags bits 0 and 2 agree
shut_swmr : (S : Sessions) → is_swmr (closed_super S) ≡ true
shut_swmr S =
    let flags = cleared S.root.flags in
    let low : flags % 2 ≡ 0 = omega arith in
    let high : flags / 4 % 2 ≡ 0 = omega arith in
    or_right (S.root.version == 2) ((flags % 2) == (flags / 4 % 2)) (eq-eqb (flags % 2) (flags / 4 % 2) (low ∙ sym high))

-- the session that goes on with the superblock's piece
abbrev closing_part : Super → Session → Session
closing_part root s = record s { root = root; pending = []; flushing = false }

abbrev closing_parts : Super → List Session → List Session
closing_parts root [] = []
closing_parts root (s ∷ ss) = record s { root = root; pending = super_piece root ∷ []; flushing = false } ∷ map (closing_part root) ss

abbrev closing : Sessions → Sessions
closing S = record S { root = closed_super S; parts = closing_parts (closed_super S) S.parts }

none_closing : (root : Super) (ss : List Session) → all_pending (map (closing_part root) ss) ≡ []
none_closing root [] = refl
none_closing root (s ∷ ss) = none_closing root ss

-- a part with nothing pending is in no flush
calm_part : (b : Bool) → (b ≡ true → ⊥) → b ≡ false
calm_part true never = absurd (never refl)
calm_part false never = refl

abbrev AllCalm : List Session → Type 0
AllCalm [] = Unit {0}
AllCalm (s ∷ ss) = ((s.flushing ≡ false) × (s.pending ≡ [])) × AllCalm ss

all_calm : (S : Sessions) (ss : List Session) → all_pending ss ≡ [] → AreParts S ss → AllCalm ss
all_calm S [] idle x = tt
all_calm S (s ∷ ss) idle x =
    let own = front_nil s.pending (all_pending ss) idle in
    ((calm_part s.flushing (λ busy. x.0.session.busy busy own), own), all_calm S ss (back_nil s.pending (all_pending ss) idle) x.1)

closed_same : (root : Super) (ss : List Session) → map halted_of (map (closing_part root) ss) ≡ map (closed_part root) ss
closed_same root ss = map_twice halted_of (closing_part root) (closed_part root) (λ s. refl) ss

calm_first : (s : Session) → s.flushing ≡ false → (root : Super) → halted_of (record s { root = root; pending = super_piece root ∷ []; flushing = false }) ≡ record s { root = root; pending = super_piece root ∷ []; stopped = true }
calm_first s calm root = ap (λ (b : Bool). let y : Session = record s { root = root; pending = super_piece root ∷ []; stopped = true; flushing = b } in y) (sym calm)

closed_is : (S : Sessions) → AreParts S S.parts → AllCalm S.parts → closed_all S ≡ halted (closing S)
closed_is S x calm = ap (λ (ss : List Session). let y : Sessions = record S { root = closed_super S; parts = ss; stopped = true } in y) (go S.parts x calm)
  where
    go : (ss : List Session) → AreParts S ss → AllCalm ss → closed_parts (closed_super S) ss ≡ map halted_of (closing_parts (closed_super S) ss)
    go [] x calm = refl
    go (s ∷ ss) x calm =
        let root = closed_super S in
        let first : closed_of s ≡ record s { root = root; pending = super_piece root ∷ []; stopped = true } =
        ap (λ (r : Super). let q : Super = record r { flags = cleared r.flags } in let y : Session = record s { root = q; pending = super_piece q ∷ []; stopped = true } in y) x.0.root in
        ap (λ (y : Session). y ∷ map (closed_part root) ss) (first ∙ sym (calm_first s calm.0.0 root)) ∙ ap (λ (ys : List Session). halted_of (record s { root = root; pending = super_piece root ∷ []; flushing = false }) ∷ ys) (sym (closed_same root ss))

-- a part with nothing pending was told of all
done_of : (root : Super) (t : Space) (us : List Used) (log : FileLog) (d : ℕ) (b : Begun) (before : List Write) (s : Session) (behind : List Write) (e : Entry) → s.pending ≡ [] → IsStandingPart root t us [] log d b before s behind e → IsDone root t [] log d b s e
done_of root t us log d b before s behind e idle x = elim x.phase [
  | inl done ↦ done
  | inr due ↦ absurd (due.some idle)
]

module _ (p : PartLaws) (S : Sessions) (us : List Used) (log : FileLog) (low : IsAmple S.places log) (reads : super_at (super_bytes (closed_super S)) ≡ Ok (closed_super S)) where
  abbrev root : Super
  root = closed_super S

  abbrev piece : List Write
  piece = super_piece root ∷ []

  abbrev t : Space
  t = S.places

  -- what one part is then
  record IsClosing (d : ℕ) (b : Begun) (s : Session) (e : Entry) : Type 0 where
    own : Log
    done : IsDone root t piece log d b (closing_part root s) (then_as root e)
    one : IsOne (last_image log piece) t root us (then_as root e)
    ends : AllEndBy (most_in t log) piece
    run : HasRun s.name (log_of d b log) [] e → HasRun s.name (log_of d b log) piece (then_as root e)

  closing_one : (d : ℕ) (b : Begun) (s : Session) (e : Entry) → e.name ≡ s.name → s.early ≡ 0 → s.flushing ≡ false → IsDone S.root t [] log d b s e → IsOne (last_image log []) t S.root us e → IsClosing d b s e
  closing_one d b s e name early calm x one =
      let r = x.runs.running in
      let at = rested S.root t s in
      let o : Entry = entry s.name r.after r.address r.held in
      let same : e ≡ o = entry_is s.name e at [] x.own t name x.runs in
      let told = p.super at x.own r (cleared S.root.flags) early reads (shut_swmr S) in
      let next = p.told at x.own r piece root t told.0 in
      let runs = subst (λ (q : Space). RunsAs (rested root t s) [] (told_log next.0 piece x.own) (moved_to root r.after) r.address r.held q) told.1 next.1 in
      let settled = settled_runs s.name x.own r.after r.held r.runs in
      let here : image (image_now x.own) piece ≡ last_image log piece = ap (λ (i : List ℕ). image i piece) (own_image log d b x.own [] x.seen) ∙ sym (last_joined log [] piece) in
      let most = own_most log d b x.own [] t at x.seen refl in
      let known : KnownHeld (image (image_now x.own) piece) s.name (moved_to root r.after) r.address t r.held = subst (λ (q : Space). KnownHeld (image (image_now x.own) piece) s.name (moved_to root r.after) r.address q r.held) told.1 (record { knows = told.0.knows; is = told.0.holds }) in
      let there = subst (λ (i : List ℕ). KnownHeld i s.name (moved_to root r.after) r.address t r.held) here known in
      let own_one = subst (λ (y : Entry). IsOne (last_image log []) t S.root us y) same one in
      record {
        own = told_log next.0 piece x.own;
        done = record {
          calm = inl refl;
          own = told_log next.0 piece x.own;
          seen = seen_told log d b x.own [] x.seen settled next.0 piece;
          runs = subst (λ (f : Bool). RunsAs (let y : Session = record s { root = root; places = t; pending = []; flushing = f } in y) [] (told_log next.0 piece x.own) (moved_to root e.moment) e.address e.held t) calm
              (subst (λ (y : Entry). RunsAs (rested root t s) [] (told_log next.0 piece x.own) (moved_to root y.moment) y.address y.held t) (sym same) runs);
        };
        one = subst (λ (y : Entry). IsOne (last_image log piece) t root us (then_as root y)) (sym same) (record { knows = there.knows; super_is = refl; root_is = own_one.root_is; held_is = there.is; cols = own_one.cols });
        ends = subst (λ (n : ℕ). AllEndBy n piece) most told.0.ends;
        run = λ h. record {
          due = 0;
          runs = planned_run s.name (log_of d b log) e.moment (moved_to root e.moment) e.held e.held piece (run_rests s.name (log_of d b log) e h)
              (subst (λ (y : Entry). Plan (image_now (log_of d b log)) y.moment y.held piece (moved_to root y.moment) y.held) (sym same)
              (subst (λ (i : List ℕ). Plan i r.after r.held piece (moved_to root r.after) r.held) (own_image log d b x.own [] x.seen ∙ sym (sight_image log d b [])) told.0.plan));
        };
      }

  -- there is a file already
  rest_of : (d : ℕ) (b : Begun) (s : Session) (e : Entry) → HasRun s.name (log_of d b log) [] e ⊎ IsUnbegun log [] s → HasRun s.name (log_of d b log) [] e
  rest_of d b s e (inl h) = h
  rest_of d b s e (inr u) = absurd (u.some refl)

  record AreClosing (d : ℕ) (bs : List Begun) (ss : List Session) (es : List Entry) : Type 0 where
    parts : AreStandingParts root t us piece log d bs piece (map (closing_part root) ss) (all_then root es)
    known : AreKnown (last_image log piece) t root us (all_then root es)

  closing_ones : (d : ℕ) (bs : List Begun) (before : List Write) (ss : List Session) (es : List Entry) → AllCalm ss → AreStandingParts S.root t us [] log d bs before ss es → AreKnown (last_image log []) t S.root us es → AreClosing d bs ss es
  closing_ones d [] before [] [] calm x known = record { parts = tt; known = tt }
  closing_ones d (b ∷ bs) before (s ∷ ss) (e ∷ es) calm x known =
      let done = done_of S.root t us log d b before s (all_pending ss) e calm.0.1 x.0 in
      let one = closing_one d b s e x.0.name x.0.early calm.0.0 done known.0 in
      let later = closing_ones (suc d) bs (before ++ s.pending) ss es calm.1 x.1 known.1 in
      record {
        parts = (
          record { name = x.0.name; early = x.0.early; going = x.0.going; each = x.0.each; run = inl (one.run (rest_of d b s e x.0.run)); past = record { raised = x.0.past.raised; addressed = x.0.past.addressed; next = x.0.past.next }; phase = inl one.done },
          later.parts,
        );
        known = (one.one, later.known);
      }
  closing_ones d [] before (s ∷ ss) es calm x known = absurd x
  closing_ones d [] before [] (e ∷ es) calm x known = absurd x
  closing_ones d (b ∷ bs) before [] es calm x known = absurd x
  closing_ones d (b ∷ bs) before (s ∷ ss) [] calm x known = absurd x

  -- the first part has the piece
  record AreClosed (ss : List Session) (bs : List Begun) (es : List Entry) : Type 0 where
    parts : AreStandingParts root t us (all_pending (closing_parts root ss)) log 0 bs [] (closing_parts root ss) (all_then root es)
    known : AreKnown (last_image log (all_pending (closing_parts root ss))) t root us (all_then root es)
    ends : AllEndBy (most_in t log) (all_pending (closing_parts root ss))

  first_closed : (bs : List Begun) (ss : List Session) (es : List Entry) → AllCalm ss → AreStandingParts S.root t us [] log 0 bs [] ss es → AreKnown (last_image log []) t S.root us es → AreClosed ss bs es
  first_closed [] [] [] calm x known = record { parts = tt; known = tt; ends = tt }
  first_closed (b ∷ bs) (s ∷ ss) (e ∷ es) calm x known =
      let done = done_of S.root t us log 0 b [] s (all_pending ss) e calm.0.1 x.0 in
      let one = closing_one 0 b s e x.0.name x.0.early calm.0.0 done known.0 in
      let later = closing_ones 1 bs s.pending ss es calm.1 x.1 known.1 in
      let behind = none_closing root ss in
      let all : all_pending (closing_parts root (s ∷ ss)) ≡ piece = ap (λ (ws : List Write). super_piece root ∷ ws) behind in
      let own : IsDone root t piece log 0 b (record s { root = root; pending = piece; flushing = false }) (then_as root e) = record { calm = inr refl; own = one.done.own; seen = one.done.seen; runs = one.done.runs } in
      record {
        parts = subst (λ (ws : List Write). AreStandingParts root t us ws log 0 (b ∷ bs) [] (closing_parts root (s ∷ ss)) (all_then root (e ∷ es))) (sym all)
            (record { name = x.0.name; early = x.0.early; going = x.0.going; each = x.0.each; run = inl (one.run (rest_of 0 b s e x.0.run)); past = record { raised = x.0.past.raised; addressed = x.0.past.addressed; next = x.0.past.next }; phase = inl own }, later.parts);
        known = subst (λ (ws : List Write). AreKnown (last_image log ws) t root us (all_then root (e ∷ es))) (sym all) (one.one, later.known);
        ends = subst (λ (ws : List Write). AllEndBy (most_in t log) ws) (sym all) one.ends;
      }
  first_closed [] (s ∷ ss) es calm x known = absurd x
  first_closed [] [] (e ∷ es) calm x known = absurd x
  first_closed (b ∷ bs) [] es calm x known = absurd x
  first_closed (b ∷ bs) (s ∷ ss) [] calm x known = absurd x

-- behind its piece no finding applies to all names
closed_valid : (root : Super) (t : Space) (us : List Used) (log : FileLog) (bs : List Begun) (ss : List Session) (es : List Entry) → AreStandingParts root t us (all_pending (closing_parts root ss)) log 0 bs [] (closing_parts root ss) (all_then root es)
    → AreKnown (last_image log (all_pending (closing_parts root ss))) t root us (all_then root es) → AreOff es → AreValidFrom log.first log.start (names_of es) (pieces_in log.events)
    → AreValidFrom log.first log.start (names_of (all_then root es)) (pieces_in log.events ++ all_pending (closing_parts root ss))
closed_valid root t us log [] [] [] x known off valid = subst (λ (ws : List Write). AreValidFrom log.first log.start [] ws) (sym (append-nil (pieces_in log.events))) valid
closed_valid root t us log (b ∷ bs) (s ∷ ss) (e ∷ es) x known off valid =
    let all : all_pending (closing_parts root (s ∷ ss)) ≡ super_piece root ∷ [] = ap (λ (ws : List Write). super_piece root ∷ ws) (none_closing root ss) in
    let then = all_then root (e ∷ es) in
    let before = subst (λ (ns : List (List ℕ)). AreValidFrom log.first log.start ns (pieces_in log.events)) (sym (names_then root (e ∷ es))) valid in
    subst (λ (ws : List Write). AreValidFrom log.first log.start (names_of then) (pieces_in log.events ++ ws)) (sym all)
    (valid_last log.first log (super_piece root) t root us then (λ none. cc) (subst (λ (ws : List Write). AreKnown (last_image log ws) t root us then) all known) (all_off_then root (e ∷ es) off) before)
closed_valid root t us log [] (s ∷ ss) es x known off valid = absurd x
closed_valid root t us log [] [] (e ∷ es) x known off valid = absurd x
closed_valid root t us log (b ∷ bs) [] es x known off valid = absurd x
closed_valid root t us log (b ∷ bs) (s ∷ ss) [] x known off valid = absurd x

-- before it all is as it was
closed_course : (root : Super) (log : FileLog) (ss : List Session) (xs : List Stand) → AreAt log xs → AreThrough log xs (all_pending (closing_parts root ss))
closed_course root log [] xs at = tt
closed_course root log (s ∷ ss) xs at = subst (λ (ws : List Write). AreThrough log xs (super_piece root ∷ ws)) (sym (none_closing root ss)) ((λ begun. at), tt)

pub closes_stand : PartLaws → (S : Sessions) (log : FileLog) → StandsOn S log → all_pending S.parts ≡ [] → AreParts S S.parts → super_at (super_bytes (closed_super S)) ≡ Ok (closed_super S) → StandsAll (closed_all S) log
closes_stand p S log st idle x reads =
    let us = st.ranges in
    let calm = all_calm S S.parts idle x in
    let parts = subst (λ (ws : List Write). AreStandingParts S.root S.places us ws log 0 log.sets [] S.parts st.entries) idle st.parts in
    let known = subst (λ (ws : List Write). AreKnown (last_image log ws) S.places S.root us st.entries) idle st.known in
    let closed = first_closed p S us log st.low reads log.sets S.parts st.entries calm parts known in
    record {
      was = closing S;
      stands = record {
        ranges = us;
        entries = all_then (closed_super S) st.entries;
        known = closed.known;
        off = all_off_then (closed_super S) st.entries st.off;
        blocks = st.blocks;
        parts = closed.parts;
        fits = st.fits;
        low = st.low;
        ends = ends_joined (most_in S.places log) (pieces_in log.events) (all_pending (closing_parts (closed_super S) S.parts)) (ends_front (most_in S.places log) (pieces_in log.events) (all_pending S.parts) st.ends) closed.ends;
        going = st.going;
        valid = closed_valid (closed_super S) S.places us log log.sets S.parts st.entries closed.parts closed.known st.off
            (subst (λ (ws : List Write). AreValidFrom log.first log.start (names_of st.entries) ws) (ap (λ (ws : List Write). pieces_in log.events ++ ws) idle ∙ append-nil (pieces_in log.events)) st.valid);
        course = subst (λ (ns : List (List ℕ)). AreThrough log (stands_of 0 log.sets ns) (all_pending (closing_parts (closed_super S) S.parts))) (sym (names_then (closed_super S) st.entries))
            (closed_course (closed_super S) log S.parts (stands_of 0 log.sets (names_of st.entries)) (record { entries = st.entries; each = standing_at S.root S.places us log 0 log.sets [] S.parts st.entries parts; off = st.off }));
      };
      is = inr (inl (closed_is S x calm));
    }
