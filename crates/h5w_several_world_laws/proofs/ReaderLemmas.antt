-- Lines of readers of several datasets.
use Rattle.std.proofs.Common.{◌≡◌, ◌⊎◌, ℕ, zero, suc, ◌+◌, ◌*◌, ◌^◌, ◌<◌, ◌≤◌, List, [], ◌∷◌, length, Option, Some, None, refl, sym, ◌∙◌, ap, subst, inl, inr, arith}
use Rattle.std.specs.Prelude.{slice_get}
use Rattle.h5w_model.specs.Lawful.{Line, looks, opens, reads, refreshes, ScriptState, next_state, with_reader}
use Rattle.h5w_model.specs.Logs.{Log}
use Rattle.h5w_model.specs.Unfinished.{Reader}
use Rattle.h5w_model.specs.declared.reply.Reply.{Reply}
use Rattle.h5w_model.specs.declared.reply.Reply.TheVariants as replies
use Rattle.h5w_script_laws.specs.Laws.{opening}
use Rattle.h5w_script_laws.specs.Polling.{Polling}
use Rattle.h5w_script_laws.specs.Premises.{LogHolds}
use Rattle.h5w_script_laws.specs.Scripts.{Moves, Polled, Readers, Refuses}
use Rattle.h5w_script_laws.proofs.ScriptLemmas.{begin_line_laws, look_line_laws}
use Rattle.h5w_writer.specs.Sessions.{Session}
use Rattle.h5w_several_writer_laws.specs.Sessions.{Sessions}
use Rattle.h5w_several_script_laws.specs.Scripts.{FileState, SetState, asked_of, asks, next_all, says, set_after, set_asked, sets_after}
use Rattle.h5w_several_script_laws.specs.Polled.{IsOf, IsPolled, Places, and_place, readers_of}
use Rattle.h5w_several_script_laws.proofs.PolledLemmas.{next_in, not_placed, placed_here, reader_file_laws, set_there}
use Rattle.h5w_several_script_laws.proofs.SetLemmas.{got_is}
use Rattle.h5w_several_world_laws.specs.Worlds.{AreStatesOf, HaveOneFileLog, IsStateOfPart, polling_in}
use Rattle.h5w_several_world_laws.specs.Steps.{StepsTo}
use Rattle.h5w_several_world_laws.specs.ReaderSteps.{AllReaderSteps}
use Rattle.h5w_several_world_laws.proofs.HoldingLemmas.{logs_hold}
use Rattle.h5w_several_world_laws.proofs.StepLemmas.{state_as, tells_of}

-- ---- The states of parts

reader_state : (limit attempts before : ℕ) (s : Session) (x : SetState) (line : Line) (reply : Reply) (t : ScriptState) → next_state x.rules x.state line reply ≡ t → t.pending ≡ x.state.pending
    → t.ends_flush ≡ x.state.ends_flush → IsStateOfPart limit attempts before s x → IsStateOfPart limit attempts before s (set_after line reply x)
reader_state limit attempts before s x line reply t is pending ends st =
    subst (λ (u : ScriptState). IsStateOfPart limit attempts before s (record x { state = u })) (sym is)
    (record { rules = st.rules; pending = pending ∙ st.pending; ends_flush = ends ∙ st.ends_flush; flushing = st.flushing; taken = st.taken })

-- a line that leaves of one dataset all but its readers
pub reader_states : (limit attempts before d : ℕ) (ss : List Session) (xs : List SetState) (line : Line) (reply : Reply) (x : SetState) (t : ScriptState) → slice_get xs d ≡ Some x → next_state x.rules x.state line reply ≡ t
    → t.pending ≡ x.state.pending → t.ends_flush ≡ x.state.ends_flush → AreStatesOf limit attempts before ss xs → AreStatesOf limit attempts before ss (sets_after d line reply xs)
reader_states limit attempts before d [] [] line reply x t at is pending ends h = h
reader_states limit attempts before d [] (y ∷ ys) line reply x t at is pending ends h = absurd h
reader_states limit attempts before d (s ∷ ss) [] line reply x t at is pending ends h = h
reader_states limit attempts before zero (s ∷ ss) (y ∷ ys) line reply x t at is pending ends h =
    let same : x ≡ y = sym (got_is y x at) in (
      subst (λ (z : SetState). IsStateOfPart limit attempts before s (set_after line reply z)) same
          (reader_state limit attempts before s x line reply t is pending ends (subst (λ (z : SetState). IsStateOfPart limit attempts before s z) (sym same) h.0)),
      h.1,
    )
reader_states limit attempts before (suc d) (s ∷ ss) (y ∷ ys) line reply x t at is pending ends h =
    (h.0, reader_states limit attempts (before + length s.pending) d ss ys line reply x t at is pending ends h.1)

-- ---- The steps

module _ (S : Sessions) (attempts : ℕ) (ps : Places) (F : FileState) (h : HaveOneFileLog S attempts ps F) (n : ℕ) where
  abbrev pub moves : (d : ℕ) (x : SetState) (line : Line) (reply : Reply) (r : Reader) → IsOf line n → set_asked F n ≡ d → slice_get F.sets d ≡ Some x
      → Moves (h.state.pollings d) (h.state.logs d) x.state (readers_of d ps) line reply n r → StepsTo attempts (and_place n d r ps) F (asks line) (says reply) S
  moves d x line reply r of is there m =
      let l = reader_file_laws.moves h.state.pollings h.state.logs F ps n d x line reply r h.state.polls of is there m in
      let rules = (h.state.polls.each d x there).rules in
      let next : next_state x.rules x.state line reply ≡ with_reader x.state n m.state = ap (λ g. next_state g x.state line reply) (sym rules) ∙ m.is in
      let states : AreStatesOf S.places.limit attempts 0 S.parts (sets_after (set_asked F n) line reply F.sets) =
      subst (λ (e : ℕ). AreStatesOf S.places.limit attempts 0 S.parts (sets_after e line reply F.sets)) (sym is)
      (reader_states S.places.limit attempts 0 d S.parts F.sets line reply x (with_reader x.state n m.state) there next refl refl h.state.states) in
      let same = next_in F n line reply of in
      record {
        allowed = l.0;
        fits = record {
          log = h.log;
          stands = h.stands;
          new = h.new;
          state = record {
            states = subst (λ (G : FileState). AreStatesOf S.places.limit attempts 0 S.parts G.sets) (sym same) states;
            left = ap (λ (G : FileState). G.left) same ∙ h.state.left;
            stopped = ap (λ (G : FileState). G.stopped) same ∙ h.state.stopped;
            limit = ap (λ (G : FileState). G.space_limit) same ∙ h.state.limit;
            pollings = h.state.pollings;
            logs = h.state.logs;
            own = h.state.own;
            polls = l.1;
            grown = subst (λ (G : FileState). S.places.end ≤ 1024 * length h.log.sets + G.spent) (sym same) h.state.grown;
          };
        };
      }

  abbrev pub refuses : (d : ℕ) (x : SetState) (line : Line) (reply : Reply) → IsOf line n → set_asked F n ≡ d → slice_get F.sets d ≡ Some x → Refuses (h.state.pollings d) x.state line reply
      → StepsTo attempts ps F (asks line) (says reply) S
  refuses d x line reply of is there m =
      let l = reader_file_laws.refuses F (h.state.pollings d) n d x line reply of is there (h.state.polls.each d x there).rules m in
      record {
        allowed = l.0;
        fits = record { log = h.log; stands = h.stands; new = h.new; state = state_as S attempts ps F (next_all F (asks line) (says reply)) h.log (sym l.1) h.state };
      }

  pub polled_at : (d : ℕ) (x : SetState) → slice_get F.sets d ≡ Some x → Polled (h.state.pollings d) (h.state.logs d) x.state (readers_of d ps)
  polled_at d x there = (h.state.polls.each d x there).polled

  -- the dataset of a reader that was not opened, and of one that was
  module _ (none : ps n ≡ None) where
    abbrev pub used : (x : SetState) × (slice_get F.sets F.used ≡ Some x)
    used = set_there F.sets F.used h.state.polls.used

    pub is_used : set_asked F n ≡ F.used
    is_used = reader_file_laws.asked_none h.state.pollings h.state.logs F ps n h.state.polls none

    pub absent : readers_of F.used ps n ≡ None
    absent = not_placed F.used ps n none

    abbrev pub refuse_none : (line : Line) (reply : Reply) → IsOf line n → Refuses (h.state.pollings F.used) used.0.state line reply → StepsTo attempts ps F (asks line) (says reply) S
    refuse_none line reply of m = refuses F.used used.0 line reply of is_used used.1 m

    abbrev pub opens_one : StepsTo attempts (and_place n F.used (opening (h.state.pollings F.used)) ps) F (asks (opens n)) (says (replies.Opening n)) S
    opens_one =
        moves F.used used.0 (opens n) (replies.Opening n) _ refl is_used used.1
        (begin_line_laws.opens_one (h.state.pollings F.used) (h.state.logs F.used) used.0.state (readers_of F.used ps) n (polled_at F.used used.0 used.1) absent)

  module _ (d : ℕ) (r : Reader) (is : ps n ≡ Some (d, r)) where
    abbrev pub own : (x : SetState) × (slice_get F.sets d ≡ Some x)
    own = set_there F.sets d (h.state.polls.within n (d, r) is)

    pub is_own : set_asked F n ≡ d
    is_own = reader_file_laws.asked h.state.pollings h.state.logs F ps n d r h.state.polls is

    pub present : readers_of d ps n ≡ Some r
    present = placed_here d r ps n is

    pub own_polled : Polled (h.state.pollings d) (h.state.logs d) own.0.state (readers_of d ps)
    own_polled = polled_at d own.0 own.1

    abbrev pub move_own : (line : Line) (reply : Reply) (next : Reader) → IsOf line n → Moves (h.state.pollings d) (h.state.logs d) own.0.state (readers_of d ps) line reply n next
        → StepsTo attempts (and_place n d next ps) F (asks line) (says reply) S
    move_own line reply next of m = moves d own.0 line reply next of is_own own.1 m

    abbrev pub refuse_own : (line : Line) (reply : Reply) → IsOf line n → Refuses (h.state.pollings d) own.0.state line reply → StepsTo attempts ps F (asks line) (says reply) S
    refuse_own line reply of m = refuses d own.0 line reply of is_own own.1 m

-- readers of a dataset can rest on its log
pub holds_at : (S : Sessions) (attempts : ℕ) (ps : Places) (F : FileState) (h : HaveOneFileLog S attempts ps F) → S.places.limit ≤ 2 ^ 40 → 1 ≤ attempts → (n d : ℕ) (r : Reader) → ps n ≡ Some (d, r)
    → LogHolds (h.state.pollings d) (h.state.logs d)
holds_at S attempts ps F h limit tries n d r is =
    let x = set_there F.sets d (h.state.polls.within n (d, r) is) in
    let t = tells_of S attempts ps F h.log h.state h.stands d x.0 x.1 in
    let own = h.state.own d t.begun t.part t.set_is t.part_is in
    let holds = logs_hold S attempts h.state.pollings h.log h.stands h.new limit tries d t.begun t.part t.set_is t.part_is own.0 in
    subst (λ (g : Polling). LogHolds g (h.state.logs d)) (sym own.0) (subst (λ (l : Log). LogHolds (polling_in S.places.limit attempts t.part) l) (sym own.1) holds)

abbrev pub all_reader_steps : AllReaderSteps
all_reader_steps S attempts ps F h limit tries n = record {
  opens_one = opens_one S attempts ps F h n;
  refreshes_none = λ none.
      refuse_none S attempts ps F h n none (refreshes n) (replies.NoReader n) refl
      (begin_line_laws.refreshes_none (h.state.pollings F.used) (h.state.logs F.used) _ (readers_of F.used ps) n (polled_at S attempts ps F h n F.used _ (used S attempts ps F h n none).1) (absent S attempts ps F h n none));
  reads_none = λ from count none.
      refuse_none S attempts ps F h n none (reads n from count) (replies.NoReader n) refl
      (begin_line_laws.reads_none (h.state.pollings F.used) (h.state.logs F.used) _ (readers_of F.used ps) n from count (polled_at S attempts ps F h n F.used _ (used S attempts ps F h n none).1) (absent S attempts ps F h n none));
  looks_none = λ none.
      refuse_none S attempts ps F h n none (looks n 1) (replies.NoReader n) refl
      (look_line_laws.looks_none (h.state.pollings F.used) (h.state.logs F.used) _ (readers_of F.used ps) n (polled_at S attempts ps F h n F.used _ (used S attempts ps F h n none).1) (absent S attempts ps F h n none));
  opens_again = λ d r is.
      refuse_own S attempts ps F h n d r is (opens n) (replies.ReaderExists n) refl
      (begin_line_laws.opens_again (h.state.pollings d) (h.state.logs d) _ (readers_of d ps) n r (own_polled S attempts ps F h n d r is) (present S attempts ps F h n d r is));
  refreshes_one = λ d r is idle.
      move_own S attempts ps F h n d r is (refreshes n) (replies.Refreshing n) _ refl
      (begin_line_laws.refreshes_one (h.state.pollings d) (h.state.logs d) _ (readers_of d ps) n r (own_polled S attempts ps F h n d r is) (present S attempts ps F h n d r is) idle);
  reads_some = λ d r what from count is idle known some inside.
      move_own S attempts ps F h n d r is (reads n from count) (replies.Reading n) _ refl
      (begin_line_laws.reads_some (h.state.pollings d) (h.state.logs d) _ (readers_of d ps) n from count r what (holds_at S attempts ps F h limit tries n d r is) (own_polled S attempts ps F h n d r is) (present S attempts ps F h n d r is) idle known some
      inside);
  reads_want = λ d r what from count is idle known some inside.
      begin_line_laws.reads_want (h.state.pollings d) (h.state.logs d) _ (readers_of d ps) n from count r what (holds_at S attempts ps F h limit tries n d r is) (own_polled S attempts ps F h n d r is)
      (present S attempts ps F h n d r is) idle known some inside;
  reads_nothing = λ d r from is idle inside.
      refuse_own S attempts ps F h n d r is (reads n from 0) (replies.Values n []) refl
      (begin_line_laws.reads_nothing (h.state.pollings d) (h.state.logs d) _ (readers_of d ps) n from r (own_polled S attempts ps F h n d r is) (present S attempts ps F h n d r is) idle inside);
  reads_past = λ d r from count is idle past.
      refuse_own S attempts ps F h n d r is (reads n from count) _ refl
      (begin_line_laws.reads_past (h.state.pollings d) (h.state.logs d) _ (readers_of d ps) n from count r (own_polled S attempts ps F h n d r is) (present S attempts ps F h n d r is) idle past);
  looks_idle = λ d r is idle.
      refuse_own S attempts ps F h n d r is (looks n 1) (replies.Idle n) refl
      (look_line_laws.looks_idle (h.state.pollings d) (h.state.logs d) _ (readers_of d ps) n r (own_polled S attempts ps F h n d r is) (present S attempts ps F h n d r is) idle);
  refreshes_busy = λ d r left is some.
      refuse_own S attempts ps F h n d r is (refreshes n) (replies.ReaderBusy n) refl
      (begin_line_laws.refreshes_busy (h.state.pollings d) (h.state.logs d) _ (readers_of d ps) n r left (own_polled S attempts ps F h n d r is) (present S attempts ps F h n d r is) some);
  reads_busy = λ d r left from count is some.
      refuse_own S attempts ps F h n d r is (reads n from count) (replies.ReaderBusy n) refl
      (begin_line_laws.reads_busy (h.state.pollings d) (h.state.logs d) _ (readers_of d ps) n from count r left (own_polled S attempts ps F h n d r is) (present S attempts ps F h n d r is) some);
  looks_on = λ d place len r left reply is some wants answers.
      move_own S attempts ps F h n d r is (looks n 1) reply _ refl
      (look_line_laws.looks_on (h.state.pollings d) (h.state.logs d) _ (readers_of d ps) n place len r left reply (holds_at S attempts ps F h limit tries n d r is) (own_polled S attempts ps F h n d r is) (present S attempts ps F h n d r is) some wants answers);
  replies_one = λ d place len r left is some wants.
      look_line_laws.replies_one (h.state.pollings d) (h.state.logs d) _ (readers_of d ps) n place len r left (holds_at S attempts ps F h limit tries n d r is) (own_polled S attempts ps F h n d r is) (present S attempts ps F h n d r is) some wants;
}
