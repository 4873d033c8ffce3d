-- What steps of the session and of its image make of a machine.
use Rattle.std.proofs.Common.{◌≡◌, ℕ, ◌<◌, ◌≤◌, ◌^◌, List, [], ◌∷◌, ◌++◌, length, map, Option, Some, None, refl, sym, ap, subst, ◌∙◌, arith}
use Rattle.std.specs.Prelude.{IfSome}
use Rattle.h5w_model.specs.Images.{image}
use Rattle.h5w_model.specs.Several.{FileLog, pieces_in, shows_all}
use Rattle.h5w_model.specs.declared.piece.Write.{Write}
use Rattle.h5w_model.proofs.ImageLemmas.{image-push}
use Rattle.h5w_image.specs.Memory.{MemView}
use Rattle.h5w_image.specs.View.{Same, Wrote}
use Rattle.h5w_steady.specs.Steady.{steady}
use Rattle.h5w_script_laws.specs.Polling.{Polling}
use Rattle.h5w_writer_laws.proofs.PieceLemmas.{some_is}
use Rattle.h5w_several_writer.specs.Refusals.{HasRoomForAll}
use Rattle.h5w_several_writer_laws.specs.Sessions.{Sessions, all_pending}
use Rattle.h5w_several_writer_laws.specs.Standing.{StandsAll, and_then}
use Rattle.h5w_several_writer_laws.proofs.SeenLemmas.{length_pieces}
use Rattle.h5w_several_script_laws.specs.Scripts.{AllowedAll, FileLine, FileReply, FileState, next_all}
use Rattle.h5w_several_script_laws.specs.Polled.{Places}
use Rattle.h5w_several_world_laws.specs.Worlds.{HaveOneFileLog}
use Rattle.h5w_several_world_laws.proofs.StepLemmas.{states_length}
use Rattle.h5w_several_core.specs.Places.{place_at}
use Rattle.h5w_several_core.specs.Worlds.{FileSteps, HasFront, HaveFileLog, HoldsAll, IsUsedBy, SeveralView, StandsForFile, line_of, logged_in, pollings_of, set_in}
use Rattle.h5w_several_core.specs.declared.events.FileEvent.{FileEvent}
use Rattle.h5w_several_core.specs.declared.places.Place.{Place}
use Rattle.h5w_several_core.proofs.FrontLemmas.{front_moved}

-- a machine by its parts
abbrev pub world_of : Sessions → MemView → ℕ → List Place → SeveralView
world_of S m attempts places = record { session = S; bytes = m.bytes; journal = m.history; attempts = attempts; places = places }

-- the image is as before, whatever the session is
pub replaced : (S : Sessions) (m n : MemView) (attempts : ℕ) (places : List Place) → Same (steady m) (steady n) → world_of S n attempts places ≡ world_of S m attempts places
replaced S m n attempts places same =
    let bytes = some_is n.bytes m.bytes same.bytes in
    let journal = some_is n.history m.history same.history in
    λ i. record { session = S; bytes = bytes i; journal = journal i; attempts = attempts; places = places }

-- and the session too
pub unchanged : (S T : Sessions) (m n : MemView) (attempts : ℕ) (places : List Place) → Same (steady m) (steady n) → T ≡ S → world_of T n attempts places ≡ world_of S m attempts places
unchanged S T m n attempts places same is = ap (λ (U : Sessions). world_of U n attempts places) is ∙ replaced S m n attempts places same

-- ---- Logs

-- the image is as before
pub same_logs : (S T : Sessions) (m n : MemView) (attempts : ℕ) (ps qs : List Place) (old new : FileLog) → Same (steady m) (steady n) → (StandsAll S old → StandsAll T new) → new.start ≡ old.start → new.first ≡ old.first
    → pieces_in new.events ≡ pieces_in old.events → StandsForFile (world_of S m attempts ps) old → StandsForFile (world_of T n attempts qs) new
same_logs S T m n attempts ps qs old new same stands start first pieces h = record {
  stands = stands h.stands;
  start = start ∙ h.start;
  begun = let many = ap (λ (ws : List Write). length ws) pieces in let begun = h.begun in omega (arith, begun, first, many, length_pieces old.events, length_pieces new.events);
  journal = some_is n.history m.history same.history ∙ h.journal ∙ sym pieces;
  bytes = some_is n.bytes m.bytes same.bytes ∙ h.bytes ∙ ap (image []) (sym pieces);
}

-- a piece became visible
pub shown_logs : (S T : Sessions) (m n : MemView) (attempts : ℕ) (ps : List Place) (w : Write) (log : FileLog) → Wrote (w ∷ []) (steady m) (steady n) → (StandsAll S log → StandsAll T (and_then (shows_all w) log))
    → StandsForFile (world_of S m attempts ps) log → StandsForFile (world_of T n attempts ps) (and_then (shows_all w) log)
shown_logs S T m n attempts ps w log wrote stands h = record {
  stands = stands h.stands;
  start = h.start;
  begun = let begun = h.begun in omega (arith, begun);
  journal = some_is n.history (m.history ++ w ∷ []) wrote.history ∙ ap (λ (ws : List Write). ws ++ w ∷ []) h.journal;
  bytes = some_is n.bytes (image m.bytes (w ∷ [])) wrote.bytes ∙ ap (λ (b : List ℕ). image b (w ∷ [])) h.bytes ∙ sym (image-push [] (pieces_in log.events) w);
}

-- ---- Steps

-- for one state: the line may be given the reply, and the state after it fits the session that is left, of this log
pub record StepsOn (attempts : ℕ) (ps : Places) (F : FileState) (line : FileLine) (reply : FileReply) (new : Sessions) (log : FileLog) : Type 0 where
  pub allowed : AllowedAll F line reply
  pub fits : HaveOneFileLog new attempts ps (next_all F line reply)
  pub log_is : fits.log ≡ log

-- at each state that fits and has the event's dataset in use
abbrev pub StepsAll : (S T : Sessions) (m : MemView) (attempts : ℕ) (ps qs : List Place) → FileEvent → FileReply → Type 0
StepsAll S T m attempts ps qs event reply =
    (F : FileState) (h : HaveOneFileLog S attempts (place_at ps) F) → StandsForFile (world_of S m attempts ps) h.log → IsUsedBy event F
    → StepsOn attempts (place_at qs) F (line_of event) reply T (logged_in (world_of S m attempts ps) event reply h.log)

module _ (S T : Sessions) (m n : MemView) (attempts : ℕ) (ps qs : List Place) (event : FileEvent) (reply : FileReply) where
  pub file_steps : pollings_of (world_of T n attempts qs) ≡ pollings_of (world_of S m attempts ps)
      → ((log : FileLog) → StandsForFile (world_of S m attempts ps) log → StandsForFile (world_of T n attempts qs) (logged_in (world_of S m attempts ps) event reply log))
      → StepsAll S T m attempts ps qs event reply → FileSteps (world_of S m attempts ps) event reply (world_of T n attempts qs)
  file_steps polls logs steps = record {
    rules = ap (map (λ (g : Polling). g.rules)) polls;
    lawful = λ F h used.
        let s = steps F h.have h.file used in (
          s.allowed,
          record { have = s.fits; file = subst (λ (l : FileLog). StandsForFile (world_of T n attempts qs) l) (sym s.log_is) (logs h.have.log h.file) },
        );
    logged = logs;
  }

-- nothing happened
pub idle_steps : (w : SeveralView) (event : FileEvent) (reply : FileReply) → ((log : FileLog) → logged_in w event reply log ≡ log) → ((F : FileState) → next_all F (line_of event) reply ≡ F)
    → ((F : FileState) → HaveFileLog w F → IsUsedBy event F → AllowedAll F (line_of event) reply) → FileSteps w event reply w
idle_steps w event reply logs next allowed = record {
  rules = refl;
  lawful = λ F h used. (allowed F h used, subst (λ (G : FileState). HaveFileLog w G) (sym (next F)) h);
  logged = λ log stands. subst (λ (l : FileLog). StandsForFile w l) (sym (logs log)) stands;
}

-- ---- What holds of each machine

-- another dataset is in use
pub reused : (w : SeveralView) (F : FileState) (d : ℕ) → HaveFileLog w F → d < length w.session.parts → HaveFileLog w (record F { used = d })
reused w F d h inside =
    let st = h.have.state in
    let sets = states_length w.session.places.limit w.attempts 0 w.session.parts F.sets st.states in
    record {
      have = record {
        log = h.have.log;
        stands = h.have.stands;
        new = h.have.new;
        state = record {
          states = st.states;
          left = st.left;
          stopped = st.stopped;
          limit = st.limit;
          pollings = st.pollings;
          logs = st.logs;
          own = st.own;
          polls = record { each = st.polls.each; used = omega (arith, inside, sets); within = st.polls.within };
          grown = st.grown;
        };
      };
      file = record { stands = h.file.stands; start = h.file.start; begun = h.file.begun; journal = h.file.journal; bytes = h.file.bytes };
    }

-- a state that has this dataset in use
record HasUsed (w : SeveralView) (o : Option ℕ) : Type 0 where
  state : FileState
  fits : HaveFileLog w state
  used : IfSome o (λ (d : ℕ). state.used ≡ d)

with_used : (w : SeveralView) (o : Option ℕ) (F : FileState) → HaveFileLog w F → IfSome o (λ (d : ℕ). d < length w.session.parts) → HasUsed w o
with_used w None F h inside = record { state = F; fits = h; used = tt }
with_used w (Some d) F h inside = record { state = record F { used = d }; fits = reused w F d h inside; used = refl }

-- after an event
pub steps_hold : (S T : Sessions) (m n : MemView) (attempts : ℕ) (ps qs : List Place) (event : FileEvent) (reply : FileReply) → HoldsAll S m attempts ps → IfSome (set_in event) (λ (d : ℕ). d < length S.parts)
    → FileSteps (world_of S m attempts ps) event reply (world_of T n attempts qs) → HasRoomForAll T (steady n) → T.places.limit ≡ S.places.limit → HasFront T n.bytes → length qs ≡ 17 → HoldsAll T n attempts qs
steps_hold S T m n attempts ps qs event reply h inside steps room limit front count =
    let u = with_used (world_of S m attempts ps) (set_in event) h.script h.fits inside in
    record {
      room = room;
      count = count;
      tries = h.tries;
      limit = subst (λ (l : ℕ). l ≤ 2 ^ 40) (sym limit) h.limit;
      front = front;
      script = next_all u.state (line_of event) reply;
      fits = (steps.lawful u.state u.fits u.used).1;
    }

pub same_room : (S T : Sessions) (m n : MemView) → Same (steady m) (steady n) → length (all_pending T.parts) ≡ length (all_pending S.parts) → T.places.end ≡ S.places.end → HasRoomForAll S (steady m) → HasRoomForAll T (steady n)
same_room S T m n same pieces end room = record { pieces = omega (arith, room.pieces, same.pieces, pieces); end = omega (arith, room.end, same.end, end) }

-- nothing happened but that the image may have more room
pub same_hold : (S T : Sessions) (m n : MemView) (attempts : ℕ) (ps : List Place) → HoldsAll S m attempts ps → Same (steady m) (steady n) → T ≡ S → HoldsAll T n attempts ps
same_hold S T m n attempts ps h same is =
    subst (λ (U : Sessions). HoldsAll U n attempts ps) (sym is)
    (record {
      room = same_room S S m n same refl refl h.room;
      count = h.count;
      tries = h.tries;
      limit = h.limit;
      front = front_moved S S m.bytes n.bytes (some_is n.bytes m.bytes same.bytes) h.front;
      script = h.script;
      fits = subst (λ (w : SeveralView). HaveFileLog w h.script) (sym (replaced S m n attempts ps same)) h.fits;
    })

-- the image is what the journal makes of no bytes
pub folded : (S : Sessions) (m : MemView) (attempts : ℕ) (ps : List Place) (w : SeveralView) → world_of S m attempts ps ≡ w → HoldsAll S m attempts ps → w.bytes ≡ image [] w.journal
folded S m attempts ps w view h = subst (λ (x : SeveralView). x.bytes ≡ image [] x.journal) view (h.fits.file.bytes ∙ ap (image []) (sym h.fits.file.journal))
