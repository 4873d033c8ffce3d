-- Steps of a session of several datasets.
use Rattle.std.proofs.Common.{◌≡◌, ◌⊎◌, ℕ, zero, suc, ◌+◌, ◌-◌, ◌*◌, ◌/◌, ◌<◌, ◌≤◌, min, cond, Bool, true, false, List, [], ◌∷◌, ◌++◌, length, map, Option, Some, None, refl, sym, ◌∙◌, ap, subst, inl, inr, arith, length-append}
use Rattle.std.specs.Prelude.{nat_lt, MatchBool, slice_get, ℤ}
use Rattle.std.proofs.lemmas.Option.{slice_get_within}
use Rattle.h5w_model.specs.Lawful.{Rules, ScriptState, after_shows, ends, shows_up_to, rows_of as script_rows}
use Rattle.h5w_model.specs.Logs.{Log, shows, appended, flushed_rows, and_now}
use Rattle.h5w_model.specs.Several.{Begun, FileLog, log_of, shows_all}
use Rattle.h5w_model.specs.declared.piece.Write.{Write}
use Rattle.h5w_model.specs.declared.reply.Reply.TheVariants as replies
use Rattle.h5w_script_laws.specs.Polling.{Polling}
use Rattle.h5w_writer.specs.Sessions.{Session, rows_of, stopped_of}
use Rattle.h5w_writer.proofs.StandLemmas.{freed_keeps}
use Rattle.h5w_several_writer_laws.specs.Laws.{PartTells}
use Rattle.h5w_several_writer_laws.specs.Sessions.{AfterPieceOf, Sessions, all_pending, counts_of, stopped_all}
use Rattle.h5w_several_writer_laws.specs.Standing.{StandsAll, and_then}
use Rattle.h5w_several_writer_laws.proofs.CallLemmas.{calls_stand}
use Rattle.h5w_several_writer_laws.proofs.GiveLemmas.{standing_all}
use Rattle.h5w_several_script_laws.specs.Scripts.{FileState, SetState, asks, due, left_after, next_all, says, set_after, shown_sets, total, using, uses}
use Rattle.h5w_several_script_laws.specs.Polled.{FilePolled, IsPolled, Places}
use Rattle.h5w_several_script_laws.proofs.PolledLemmas.{writer_file_laws}
use Rattle.h5w_several_world_laws.specs.Worlds.{AreStatesOf, HaveOneFileLog, IsFileStateOf, IsStateOfPart, polling_in, rules_in}
use Rattle.h5w_several_world_laws.specs.Steps.{StepLaws, StepsTo}
use Rattle.h5w_several_world_laws.proofs.BeginningLemmas.{new_then}
use Rattle.h5w_several_world_laws.proofs.ShownLemmas.{after_idle, counts_shown, left_none, shown_left, shown_rows, shown_states, total_left, was_part}

-- ---- Tests

-- what follows where a test holds, and where it does not
pub match_yes : (P Q : Type 0) (b : Bool) → b ≡ true → P → MatchBool b P Q
match_yes P Q true e p = p
match_yes P Q false e p = absurd (let clash : false ≡ true = e in cc)

pub match_no : (P Q : Type 0) (b : Bool) → b ≡ false → Q → MatchBool b P Q
match_no P Q true e q = absurd (let clash : true ≡ false = e in cc)
match_no P Q false e q = q

-- ---- A dataset and its part, by number

pub part_there : (ss : List Session) (d : ℕ) → d < length ss → (s : Session) × (slice_get ss d ≡ Some s)
part_there [] d low = absurd (omega (arith, low))
part_there (s ∷ ss) zero low = (s, refl)
part_there (s ∷ ss) (suc d) low = part_there ss d (omega (arith, low))

pub begun_there : (bs : List Begun) (d : ℕ) → d < length bs → (b : Begun) × (slice_get bs d ≡ Some b)
begun_there [] d low = absurd (omega (arith, low))
begun_there (b ∷ bs) zero low = (b, refl)
begun_there (b ∷ bs) (suc d) low = begun_there bs d (omega (arith, low))

pub states_length : (limit attempts before : ℕ) (ss : List Session) (xs : List SetState) → AreStatesOf limit attempts before ss xs → length xs ≡ length ss
states_length limit attempts before [] [] h = refl
states_length limit attempts before [] (x ∷ xs) h = absurd h
states_length limit attempts before (s ∷ ss) [] h = absurd h
states_length limit attempts before (s ∷ ss) (x ∷ xs) h = ap suc (states_length limit attempts (before + length s.pending) ss xs h.1)

pub state_at : (limit attempts before : ℕ) (ss : List Session) (xs : List SetState) → AreStatesOf limit attempts before ss xs → (d : ℕ) (s : Session) (x : SetState) → slice_get ss d ≡ Some s → slice_get xs d ≡ Some x
    → (k : ℕ) × IsStateOfPart limit attempts k s x
state_at limit attempts before [] [] h d s x a c = absurd (cc)
state_at limit attempts before [] (y ∷ ys) h d s x a c = absurd h
state_at limit attempts before (t ∷ ss) [] h d s x a c = absurd h
state_at limit attempts before (t ∷ ss) (y ∷ ys) h zero s x a c =
    let part : t ≡ s = some_part t s a in
    let set : y ≡ x = some_set y x c in
    (before, subst (λ (q : Session). IsStateOfPart limit attempts before q x) part (subst (λ (z : SetState). IsStateOfPart limit attempts before t z) set h.0))
  where
    some_part : (a b : Session) → ◌≡◌ {A = Option Session} (Some a) (Some b) → a ≡ b
    some_part a b e = cc

    some_set : (a b : SetState) → ◌≡◌ {A = Option SetState} (Some a) (Some b) → a ≡ b
    some_set a b e = cc
state_at limit attempts before (t ∷ ss) (y ∷ ys) h (suc d) s x a c = state_at limit attempts (before + length t.pending) ss ys h.1 d s x a c

-- what a session and a log tell of one dataset of a script
pub record Tells (S : Sessions) (attempts : ℕ) (ps : Places) (F : FileState) (log : FileLog) (st : IsFileStateOf S attempts ps F log) (d : ℕ) (x : SetState) : Type 0 where
  pub begun : Begun
  pub part : Session
  pub set_is : slice_get log.sets d ≡ Some begun
  pub part_is : slice_get S.parts d ≡ Some part
  pub tells : PartTells log d begun part
  pub log_is : st.logs d ≡ log_of d begun log
  pub rows : x.state.flushed ≡ part.committed
  pub all : script_rows x.rules x.state ≡ rows_of part

pub tells_of : (S : Sessions) (attempts : ℕ) (ps : Places) (F : FileState) (log : FileLog) (st : IsFileStateOf S attempts ps F log) → StandsAll S log → (d : ℕ) (x : SetState) → slice_get F.sets d ≡ Some x
    → Tells S attempts ps F log st d x
tells_of S attempts ps F log st stands d x at =
    let sets = states_length S.places.limit attempts 0 S.parts F.sets st.states in
    let inside : d < length F.sets = slice_get_within F.sets d x at in
    let s = part_there S.parts d (omega (arith, inside, sets)) in
    let b = begun_there log.sets d (omega (arith, inside, sets, standing_all.sets S log stands)) in
    let t = standing_all.tells S log stands d b.0 s.0 b.1 s.1 in
    let own = st.own d b.0 s.0 b.1 s.1 in
    let follows = (st.polls.each d x at).polled.follows in
    let state = state_at S.places.limit attempts 0 S.parts F.sets st.states d s.0 x s.1 at in
    let values : x.state.appended ≡ appended (log_of d b.0 log) = follows.appended ∙ ap appended own.1 in
    record {
      begun = b.0;
      part = s.0;
      set_is = b.1;
      part_is = s.1;
      tells = t;
      log_is = own.1;
      rows = follows.flushed ∙ ap flushed_rows own.1 ∙ sym t.flushed_rows;
      all =
          ap (λ (g : Rules). length x.state.appended / g.cutting.columns) state.1.rules
          ∙ ap (λ (vs : List ℤ). length vs / s.0.dataset.shape.cols) values
          ∙ ap (λ (c : ℕ). length (appended (log_of d b.0 log)) / c) (sym t.columns)
          ∙ sym t.appended_rows;
    }

-- ---- A piece

pub limit_kept : (old new : Sessions) (w : Write) → AfterPieceOf w old new → new.places.limit ≡ old.places.limit
limit_kept old new w x = elim x.places [
  | inl y ↦ (freed_keeps old.keeps old.places new.places y.2).1
  | inr y ↦ ap (λ t. t.limit) y.1
]

end_kept : (old new : Sessions) (w : Write) → AfterPieceOf w old new → new.places.end ≡ old.places.end
end_kept old new w x = elim x.places [
  | inl y ↦ (freed_keeps old.keeps old.places new.places y.2).0
  | inr y ↦ ap (λ t. t.end) y.1
]

module _ (old new : Sessions) (attempts : ℕ) (ps : Places) (F : FileState) (w : Write) (h : HaveOneFileLog old attempts ps F) (x : AfterPieceOf w old new) where
  pub now_stands : StandsAll new (and_then (shows_all w) h.log)
  now_stands = calls_stand.shown old new w h.log h.stands x

  pub limit_is : new.places.limit ≡ old.places.limit
  limit_is = limit_kept old new w x

  -- after the piece as much is flushed of each dataset as its state says
  pub rows_now : (d : ℕ) (y : SetState) → slice_get F.sets d ≡ Some y → (after_shows y.rules y.state 1).flushed ≡ flushed_rows (and_now (shows w) (h.state.logs d))
  rows_now d y at =
      let t = tells_of old attempts ps F h.log h.state h.stands d y at in
      let inside : d < length old.parts = slice_get_within old.parts d t.part t.part_is in
      let many = standing_all.sets old h.log h.stands in
      let still = standing_all.sets new (and_then (shows_all w) h.log) now_stands in
      let u = part_there new.parts d (omega (arith, inside, many, still)) in
      let told = standing_all.tells new (and_then (shows_all w) h.log) now_stands d t.begun u.0 t.set_is u.1 in
      shown_rows old.places.limit attempts w old.parts new.parts F.sets x.parts h.state.states d t.part u.0 y t.part_is u.1 at t.rows t.all
      ∙ told.flushed_rows
      ∙ ap (λ (l : Log). flushed_rows (and_now (shows w) l)) (sym t.log_is)

  pub own_now : (d : ℕ) (b : Begun) (u : Session) → slice_get h.log.sets d ≡ Some b → slice_get new.parts d ≡ Some u
      → (h.state.pollings d ≡ polling_in new.places.limit attempts u) × (and_now (shows w) (h.state.logs d) ≡ log_of d b (and_then (shows_all w) h.log))
  own_now d b u is at =
      let p = was_part w old.parts new.parts x.parts d u at in
      let own = h.state.own d b p.was is p.there in (
        own.0 ∙ sym (p.keeps.polling old.places.limit attempts) ∙ ap (λ (l : ℕ). polling_in l attempts u) (sym limit_is),
        ap (and_now (shows w)) own.1,
      )

  pub still_grown : new.places.end ≤ 1024 * length h.log.sets + F.spent
  still_grown = omega (arith, end_kept old new w x, h.state.grown)

  abbrev pub shown_state : (k pieces : ℕ) → IsFileStateOf new attempts ps (next_all F (asks (shows_up_to k)) (says (replies.Written 1 pieces))) (and_then (shows_all w) h.log)
  shown_state k pieces = record {
    states =
        subst (λ (l : ℕ). AreStatesOf l attempts 0 new.parts (shown_sets 1 F.sets)) (sym limit_is)
        (shown_states old.places.limit attempts w old.parts new.parts F.sets x.parts h.state.states);
    left = ap (left_after 1) h.state.left ∙ counts_shown w old.parts new.parts x.parts;
    stopped = h.state.stopped ∙ sym (ap (λ (S : Sessions). S.stopped) x.session);
    limit = h.state.limit ∙ sym limit_is;
    pollings = h.state.pollings;
    logs = λ d. and_now (shows w) (h.state.logs d);
    own = own_now;
    polls = writer_file_laws.shown h.state.pollings h.state.logs F ps w k 1 pieces h.state.polls rows_now;
    grown = still_grown;
  }

  abbrev pub shown_steps : StepsTo attempts ps F (asks (shows_up_to 1)) (says (replies.Written 1 (length (all_pending new.parts)))) new
  shown_steps =
      let count : total F.left ≡ suc (length (all_pending new.parts)) = ap total h.state.left ∙ total_left old.parts ∙ shown_left w old.parts new.parts x.parts in
      let one : 1 ≡ min 1 (total F.left) = omega arith in
      let rest : length (all_pending new.parts) ≡ total F.left - min 1 (total F.left) = omega arith in
      record {
        allowed = λ i. says (replies.Written (one i) (rest i));
        fits = record {
          log = and_then (shows_all w) h.log;
          stands = now_stands;
          new = new_then h.state.pollings h.log (shows_all w) h.new;
          state = shown_state 1 (length (all_pending new.parts));
        };
      }

-- ---- No piece

pub none_shown : (limit attempts before : ℕ) (ss : List Session) (xs : List SetState) → all_pending ss ≡ [] → AreStatesOf limit attempts before ss xs → shown_sets 0 xs ≡ xs
none_shown limit attempts before [] [] none h = refl
none_shown limit attempts before [] (x ∷ xs) none h = absurd h
none_shown limit attempts before (s ∷ ss) [] none h = absurd h
none_shown limit attempts before (s ∷ ss) (x ∷ xs) none h =
    let count : length s.pending + length (all_pending ss) ≡ 0 = sym (length-append s.pending (all_pending ss)) ∙ ap length none in
    let own : length s.pending ≡ 0 = omega (arith, count) in
    let rest : all_pending ss ≡ [] = empty (all_pending ss) (omega (arith, count)) in
    let pending : x.state.pending ≡ 0 = h.0.pending ∙ ap (due before) own in
    let idle : x.state.ends_flush ≡ false = h.0.ends_flush ∙ ap (nat_lt 0) own in
    let same : after_shows x.rules x.state 0 ≡ x.state = after_idle x.rules x.state 0 pending idle ∙ ap (λ (k : ℕ). record (x.state) { pending = k }) (sym pending) in
    λ i. record x { state = same i } ∷ none_shown limit attempts (before + length s.pending) ss xs rest h.1 i
  where
    empty : (ws : List Write) → length ws ≡ 0 → ws ≡ []
    empty [] e = refl
    empty (w ∷ ws) e = absurd (omega (arith, e))

pub none_left : (ss : List Session) → all_pending ss ≡ [] → total (counts_of ss) ≡ 0
none_left ss none = total_left ss ∙ ap length none

-- the same state
abbrev pub state_as : (S : Sessions) (attempts : ℕ) (ps : Places) (F G : FileState) (log : FileLog) → F ≡ G → IsFileStateOf S attempts ps F log → IsFileStateOf S attempts ps G log
state_as S attempts ps F G log e st = record {
  states = subst (λ (H : FileState). AreStatesOf S.places.limit attempts 0 S.parts H.sets) e st.states;
  left = sym (ap (λ (H : FileState). H.left) e) ∙ st.left;
  stopped = sym (ap (λ (H : FileState). H.stopped) e) ∙ st.stopped;
  limit = sym (ap (λ (H : FileState). H.space_limit) e) ∙ st.limit;
  pollings = st.pollings;
  logs = st.logs;
  own = st.own;
  polls = subst (λ (H : FileState). FilePolled st.pollings st.logs H ps) e st.polls;
  grown = subst (λ (H : FileState). S.places.end ≤ 1024 * length log.sets + H.spent) e st.grown;
}

abbrev pub shown_none : (S : Sessions) (attempts : ℕ) (ps : Places) (F : FileState) → HaveOneFileLog S attempts ps F → all_pending S.parts ≡ [] → StepsTo attempts ps F (asks (shows_up_to 1)) (says (replies.Written 0 0)) S
shown_none S attempts ps F h none =
    let count : total F.left ≡ 0 = ap total h.state.left ∙ none_left S.parts none in
    let one : 0 ≡ min 1 (total F.left) = omega arith in
    let rest : 0 ≡ total F.left - min 1 (total F.left) = omega arith in
    let same : next_all F (asks (shows_up_to 1)) (says (replies.Written 0 0)) ≡ F =
    λ i. record F { sets = none_shown S.places.limit attempts 0 S.parts F.sets none h.state.states i; left = left_none F.left i } in
    record {
      allowed = λ i. says (replies.Written (one i) (rest i));
      fits = record { log = h.log; stands = h.stands; new = h.new; state = state_as S attempts ps F (next_all F (asks (shows_up_to 1)) (says (replies.Written 0 0))) h.log (sym same) h.state };
    }

-- ---- A stop

pub stopped_states : (limit attempts before k : ℕ) (ss : List Session) (xs : List SetState) → AreStatesOf limit attempts before ss xs → AreStatesOf limit attempts k (map stopped_of ss) (map (set_after ends replies.Stopped) xs)
stopped_states limit attempts before k [] [] h = tt
stopped_states limit attempts before k [] (x ∷ xs) h = absurd h
stopped_states limit attempts before k (s ∷ ss) [] h = absurd h
stopped_states limit attempts before k (s ∷ ss) (x ∷ xs) h = (
  record { rules = h.0.rules; pending = refl; ends_flush = refl; flushing = refl; taken = λ t. let clash : false ≡ true = t in cc },
  stopped_states limit attempts (before + length s.pending) (k + 0) ss xs h.1,
)

pub stopped_counts : (ss : List Session) → map (λ (n : ℕ). 0) (counts_of ss) ≡ counts_of (map stopped_of ss)
stopped_counts [] = refl
stopped_counts (s ∷ ss) = ap (λ (ns : List ℕ). 0 ∷ ns) (stopped_counts ss)

-- a part of the stopped session
pub stopped_part : (ss : List Session) (d : ℕ) (u : Session) → slice_get (map stopped_of ss) d ≡ Some u → (s : Session) × (slice_get ss d ≡ Some s) × (stopped_of s ≡ u)
stopped_part [] d u e = absurd (cc)
stopped_part (s ∷ ss) zero u e = (s, refl, some_part (stopped_of s) u e)
  where
    some_part : (a b : Session) → ◌≡◌ {A = Option Session} (Some a) (Some b) → a ≡ b
    some_part a b e = cc
stopped_part (s ∷ ss) (suc d) u e = stopped_part ss d u e

abbrev pub stopped_steps : (S : Sessions) (attempts : ℕ) (ps : Places) (F : FileState) → HaveOneFileLog S attempts ps F → StepsTo attempts ps F (asks ends) (says replies.Stopped) (stopped_all S)
stopped_steps S attempts ps F h = record {
  allowed = refl;
  fits = record {
    log = h.log;
    stands = calls_stand.stops S h.log h.stands;
    new = h.new;
    state = record {
      states = stopped_states S.places.limit attempts 0 0 S.parts F.sets h.state.states;
      left = ap (map (λ (n : ℕ). 0)) h.state.left ∙ stopped_counts S.parts;
      stopped = refl;
      limit = h.state.limit;
      pollings = h.state.pollings;
      logs = h.state.logs;
      own = λ d b u is at.
          let p = stopped_part S.parts d u at in
          let own = h.state.own d b p.0 is p.1 in
          (own.0 ∙ ap (polling_in S.places.limit attempts) p.2, own.1);
      polls = writer_file_laws.ended h.state.pollings h.state.logs F ps h.state.polls;
      grown = h.state.grown;
    };
  };
}

-- ---- Another dataset in use

abbrev pub used_steps : (S : Sessions) (attempts : ℕ) (ps : Places) (F : FileState) (i : ℕ) → HaveOneFileLog S attempts ps F → 0 < i → i < length S.parts + 1 → StepsTo attempts ps F (uses i) (using i) S
used_steps S attempts ps F i h some few =
    let sets = states_length S.places.limit attempts 0 S.parts F.sets h.state.states in
    let u = writer_file_laws.used h.state.pollings h.state.logs F ps i h.state.polls (omega (arith, some)) (omega (arith, few, sets)) in
    record {
      allowed = u.0;
      fits = record {
        log = h.log;
        stands = h.stands;
        new = h.new;
        state = record {
          states = h.state.states;
          left = h.state.left;
          stopped = h.state.stopped;
          limit = h.state.limit;
          pollings = h.state.pollings;
          logs = h.state.logs;
          own = h.state.own;
          polls = u.1;
          grown = h.state.grown;
        };
      };
    }

pub step_laws : StepLaws
step_laws = record { shown = shown_steps; shown_none = shown_none; stopped = stopped_steps; used = used_steps }
