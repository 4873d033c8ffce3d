-- A reader whose unfinished call was taken away, of one of the datasets.
use Rattle.std.proofs.Common.{◌≡◌, ◌≢◌, ◌⊎◌, ℕ, zero, suc, ◌+◌, ◌<◌, cond, Bool, true, false, List, [], ◌∷◌, length, Option, Some, None, refl, sym, ap, subst, ◌∙◌, inl, inr, arith}
use Rattle.std.specs.Prelude.{◌==◌, slice_get, slice_set}
use Rattle.std.proofs.lemmas.Bool.{cond_both, cond-false, cond-true, eq-eqb, eqb-true, ne_eqb}
use Rattle.std.proofs.lemmas.List.{length-set}
use Rattle.std.proofs.lemmas.Option.{slice_get_within}
use Rattle.h5w_model.specs.Lawful.{ReaderState, put_reader, reader_in}
use Rattle.h5w_model.specs.Logs.{Log}
use Rattle.h5w_model.specs.Unfinished.{Reader}
use Rattle.h5w_script_laws.specs.Polling.{MayPoll, Polling}
use Rattle.h5w_script_laws.proofs.PutLemmas.{put_other}
use Rattle.h5w_writer.specs.Sessions.{Session}
use Rattle.h5w_writer_laws.proofs.PieceLemmas.{some_is}
use Rattle.h5w_several_writer_laws.specs.Sessions.{Sessions}
use Rattle.h5w_several_script_laws.specs.Scripts.{FileState, SetState}
use Rattle.h5w_several_script_laws.specs.Polled.{FilePolled, IsPolled, Places, readers_of}
use Rattle.h5w_several_script_laws.proofs.PolledLemmas.{placed_here, set_there}
use Rattle.h5w_several_script_laws.proofs.SetLemmas.{got_is}
use Rattle.h5w_several_world_laws.specs.Worlds.{AreStatesOf, HaveOneFileLog, IsStateOfPart}
use Rattle.h5w_core.specs.Readers.{ended}
use Rattle.h5w_core.proofs.ReaderLemmas.{may_end}
use Rattle.h5w_several_core.specs.Places.{seat_ended}
use Rattle.h5w_several_core.proofs.SeatLemmas.{same_seat, with_seat}

-- ---- One reader

both_poll : (g : Polling) (log : Log) (b : Bool) (o : Option ReaderState) (p q : Option Reader) (y : ReaderState) (x : Reader) → q ≡ cond b (Some x) p → MayPoll g log (Some y) (Some x) → MayPoll g log o p → MayPoll g log (cond b (Some y) o) q
both_poll g log true o p q y x is polls others = subst (λ (z : Option Reader). MayPoll g log (Some y) z) (sym is) polls
both_poll g log false o p q y x is polls others = subst (λ (z : Option Reader). MayPoll g log o z) (sym is) others

-- ---- The datasets

-- a dataset with these readers
abbrev with_list : SetState → List (ℕ × ReaderState) → SetState
with_list x rs = record x { state = record (x.state) { readers = rs } }

abbrev list_at : ℕ → List (ℕ × ReaderState) → SetState → List SetState → List SetState
list_at d rs x xs = slice_set xs d (with_list x rs)

listed_states : (limit attempts before d : ℕ) (ss : List Session) (xs : List SetState) (x : SetState) (rs : List (ℕ × ReaderState)) → slice_get xs d ≡ Some x → AreStatesOf limit attempts before ss xs → AreStatesOf limit attempts before ss (list_at d rs x xs)
listed_states limit attempts before d [] [] x rs at h = h
listed_states limit attempts before d [] (y ∷ ys) x rs at h = absurd h
listed_states limit attempts before d (s ∷ ss) [] x rs at h = absurd h
listed_states limit attempts before zero (s ∷ ss) (y ∷ ys) x rs at h =
    let own : IsStateOfPart limit attempts before s x = subst (λ (z : SetState). IsStateOfPart limit attempts before s z) (got_is y x at) h.0 in
    (record { rules = own.rules; pending = own.pending; ends_flush = own.ends_flush; flushing = own.flushing; taken = own.taken }, h.1)
listed_states limit attempts before (suc d) (s ∷ ss) (y ∷ ys) x rs at h = (h.0, listed_states limit attempts (before + length s.pending) d ss ys x rs at h.1)

-- what stands at a number of such a list
record Got (d : ℕ) (u : SetState) (xs : List SetState) (e : ℕ) (y : SetState) : Type 0 where
  is : ((e ≡ d) × (y ≡ u)) ⊎ ((d ≢ e) × (slice_get xs e ≡ Some y))

next_differ : (d e : ℕ) → d ≢ e → suc d ≢ suc e
next_differ d e other same = other (omega (arith, same))

got_set : (d : ℕ) (u : SetState) (xs : List SetState) (e : ℕ) (y : SetState) → slice_get (slice_set xs d u) e ≡ Some y → Got d u xs e y
got_set d u [] e y at = absurd (let none : slice_get [] e ≡ Some y = at in cc)
got_set zero u (x ∷ xs) zero y at = record { is = inl (refl, sym (got_is u y at)) }
got_set zero u (x ∷ xs) (suc e) y at = record { is = inr (λ same. absurd (omega (arith, same)), at) }
got_set (suc d) u (x ∷ xs) zero y at = record { is = inr (λ same. absurd (omega (arith, same)), at) }
got_set (suc d) u (x ∷ xs) (suc e) y at =
    let g = got_set d u xs e y at in
    record { is = elim g.is [ inl k ↦ inl (ap suc k.0, k.1) | inr k ↦ inr (next_differ d e k.0, k.1) ] }

-- ---- The readers of a dataset

abbrev pub of_place : ℕ → Option (ℕ × Reader) → Option Reader
of_place d o = elim o as (λ _. Option Reader) [ None ↦ None | Some x ↦ cond (x.0 == d) (Some x.1) None ]

own_seat : (n d : ℕ) (r : Reader) (ps : Places) (k : ℕ) → readers_of d (with_seat n (Some (d, r)) ps) k ≡ cond (n == k) (Some r) (readers_of d ps k)
own_seat n d r ps k =
    cond_both (n == k) (Some (d, r)) (ps k) (λ (o : Option (ℕ × Reader)). of_place d o ≡ cond (n == k) (Some r) (readers_of d ps k))
    (λ t. cond-true (d == d) (Some r) None (eq-eqb d d refl) ∙ sym (cond-true (n == k) (Some r) (readers_of d ps k) t))
    (λ t. sym (cond-false (n == k) (Some r) (readers_of d ps k) t))

other_seat : (n d e : ℕ) (r x : Reader) (ps : Places) → d ≢ e → ps n ≡ Some (d, x) → (k : ℕ) → readers_of e (with_seat n (Some (d, r)) ps) k ≡ readers_of e ps k
other_seat n d e r x ps other there k =
    cond_both (n == k) (Some (d, r)) (ps k) (λ (o : Option (ℕ × Reader)). of_place e o ≡ readers_of e ps k)
    (λ t. cond-false (d == e) (Some r) None (ne_eqb d e other) ∙ sym (sym (ap (readers_of e ps) (eqb-true n k t)) ∙ ap (of_place e) there ∙ cond-false (d == e) (Some x) None (ne_eqb d e other)))
    (λ t. refl)

-- ---- The states that fit

-- a state that fits a session and its readers over this log
pub record FitsOver (S : Sessions) (attempts : ℕ) (ps : Places) (F : FileState) (h : HaveOneFileLog S attempts ps F) (qs : Places) : Type 0 where
  pub state : FileState
  pub fits : HaveOneFileLog S attempts qs state
  pub log_is : fits.log ≡ h.log

module _ (S : Sessions) (attempts : ℕ) (ps : Places) (F : FileState) (h : HaveOneFileLog S attempts ps F) (n : ℕ) where
  module _ (d : ℕ) (x : Reader) (there : ps n ≡ Some (d, x)) where
    abbrev gs : ℕ → Polling
    gs = h.state.pollings

    abbrev logs : ℕ → Log
    logs = h.state.logs

    own : (y : SetState) × (slice_get F.sets d ≡ Some y)
    own = set_there F.sets d (h.state.polls.within n (d, x) there)

    polled : IsPolled (gs d) (logs d) own.0 (readers_of d ps)
    polled = h.state.polls.each d own.0 own.1

    last : (y : ReaderState) × MayPoll (gs d) (logs d) (Some y) (Some (ended x))
    last = may_end (gs d) (logs d) (reader_in n own.0.state.readers) x (subst (λ (o : Option Reader). MayPoll (gs d) (logs d) (reader_in n own.0.state.readers) o) (placed_here d x ps n there) (polled.polled.all n))

    abbrev readers : List (ℕ × ReaderState)
    readers = put_reader n last.0 own.0.state.readers

    abbrev after : FileState
    after = record F { sets = list_at d readers own.0 F.sets }

    abbrev qs : Places
    qs = with_seat n (Some (d, ended x)) ps

    own_polled : IsPolled (gs d) (logs d) (with_list own.0 readers) (readers_of d qs)
    own_polled = record {
      rules = polled.rules;
      polled = record {
        follows = record { appended = polled.polled.follows.appended; flushed = polled.polled.follows.flushed };
        begun = polled.polled.begun;
        all = λ k.
            subst (λ (o : Option ReaderState). MayPoll (gs d) (logs d) o (readers_of d qs k)) (sym (put_other n k last.0 own.0.state.readers))
            (both_poll (gs d) (logs d) (n == k) (reader_in k own.0.state.readers) (readers_of d ps k) (readers_of d qs k) last.0 (ended x) (own_seat n d (ended x) ps k) last.1 (polled.polled.all k));
      };
    }

    other_polled : (e : ℕ) (y : SetState) → d ≢ e → slice_get F.sets e ≡ Some y → IsPolled (gs e) (logs e) y (readers_of e qs)
    other_polled e y other at =
        let was = h.state.polls.each e y at in
        record {
          rules = was.rules;
          polled = record {
            follows = was.polled.follows;
            begun = was.polled.begun;
            all = λ k. subst (λ (o : Option Reader). MayPoll (gs e) (logs e) (reader_in k y.state.readers) o) (sym (other_seat n d e (ended x) x ps other there k)) (was.polled.all k);
          };
        }

    each_polled : (e : ℕ) (y : SetState) → slice_get after.sets e ≡ Some y → IsPolled (gs e) (logs e) y (readers_of e qs)
    each_polled e y at =
        elim (got_set d (with_list own.0 readers) F.sets e y at).is [
          | inl k ↦
              subst (λ (z : SetState). IsPolled (gs e) (logs e) z (readers_of e qs)) (sym k.1)
              (subst (λ (i : ℕ). IsPolled (gs i) (logs i) (with_list own.0 readers) (readers_of i qs)) (sym k.0) own_polled)
          | inr k ↦ other_polled e y k.0 k.1
        ]

    file_polled : FilePolled gs logs after qs
    file_polled =
        let count : length after.sets ≡ length F.sets = length-set F.sets d (with_list own.0 readers) in
        let inside : d < length F.sets = slice_get_within F.sets d own.0 own.1 in
        record {
          each = each_polled;
          used = let low = h.state.polls.used in omega (arith, low, count);
          within = λ k p.
              cond_both (n == k) (Some (d, ended x)) (ps k) (λ (o : Option (ℕ × Reader)). o ≡ Some p → p.0 < length after.sets)
              (λ t e. let is : d ≡ p.0 = ap (λ (q : ℕ × Reader). q.0) (some_is (d, ended x) p e) in omega (arith, inside, count, is))
              (λ t e. let low = h.state.polls.within k p e in omega (arith, low, count));
        }

    ended_there : FitsOver S attempts ps F h qs
    ended_there =
        let st = h.state in
        record {
          state = after;
          fits = record {
            log = h.log;
            stands = h.stands;
            new = h.new;
            state = record {
              states = listed_states S.places.limit attempts 0 d S.parts F.sets own.0 readers own.1 st.states;
              left = st.left;
              stopped = st.stopped;
              limit = st.limit;
              pollings = gs;
              logs = logs;
              own = st.own;
              polls = file_polled;
              grown = st.grown;
            };
          };
          log_is = refl;
        }

  ended_by : (o : Option (ℕ × Reader)) → ps n ≡ o → FitsOver S attempts ps F h (with_seat n (seat_ended o) ps)
  ended_by None there =
      subst (λ (qs : Places). FitsOver S attempts ps F h qs) (sym (same_seat n None ps there)) (record { state = F; fits = h; log_is = refl })
  ended_by (Some p) there = ended_there p.0 p.1 there

  pub ended_fits : FitsOver S attempts ps F h (with_seat n (seat_ended (ps n)) ps)
  ended_fits = ended_by (ps n) refl
