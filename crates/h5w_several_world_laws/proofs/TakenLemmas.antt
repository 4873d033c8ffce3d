-- Another writer takes over: readers poll on, over the settled logs.
use Rattle.std.proofs.Common.{◌≡◌, ℕ, zero, suc, ◌+◌, ◌*◌, ◌/◌, ◌≤◌, true, false, List, [], ◌∷◌, length, map, take, ℤ, Option, Some, None, refl, sym, ◌∙◌, ap, subst, arith}
use Rattle.std.specs.Prelude.{nat_lt, slice_get}
use Rattle.std.proofs.lemmas.List.{length-map}
use Rattle.h5w_model.specs.Lawful.{ReaderState, Rules, reader_in}
use Rattle.h5w_model.specs.Images.{image}
use Rattle.h5w_model.specs.Logs.{Log, flushed, flushed_rows}
use Rattle.h5w_model.specs.Several.{FileLog, log_of, settled_log, shown_in, takes_over}
use Rattle.h5w_model.specs.Unfinished.{Reader}
use Rattle.h5w_model.specs.declared.piece.Write.{Write}
use Rattle.h5w_laws.proofs.LogLemmas.{flushed_begins, length_hist}
use Rattle.h5w_script_laws.specs.Polling.{MayPoll, Polling, now}
use Rattle.h5w_script_laws.proofs.EventLemmas.{GoesOn, counts_same, polls_on}
use Rattle.h5w_several_laws.proofs.SettledLemmas.{settled_laws, settled_pieces}
use Rattle.h5w_writer.specs.Sessions.{Session}
use Rattle.h5w_several_writer_laws.specs.Sessions.{Sessions, counts_of}
use Rattle.h5w_several_writer_laws.specs.Standing.{StandsAll, and_then}
use Rattle.h5w_several_writer_laws.proofs.SeenLemmas.{shown_seen}
use Rattle.h5w_several_script_laws.specs.Scripts.{FileState, SetState, due, flushed_of, goes_on, settled_in, settled_set, takes, took_over}
use Rattle.h5w_several_script_laws.specs.Polled.{FilePolled, IsPolled, Places, readers_of}
use Rattle.h5w_several_script_laws.proofs.SetLemmas.{got_map}
use Rattle.h5w_several_world_laws.specs.Worlds.{AreStatesOf, HaveOneFileLog, IsFileStateOf, IsStateOfPart, polling_in}
use Rattle.h5w_several_world_laws.specs.Steps.{StepsTo}
use Rattle.h5w_several_world_laws.specs.Takeovers.{ArePartsTaken, IsPartTaken, IsTakenFrom, TakeSteps}
use Rattle.h5w_several_world_laws.proofs.BeginningLemmas.{new_then}
use Rattle.h5w_several_world_laws.proofs.StepLemmas.{match_no, match_yes, tells_of}

-- ---- A settled log

-- it has the same pieces, and as much is flushed at each position
settled_on : (log : Log) → GoesOn log (settled_log log)
settled_on log = record {
  first = refl;
  longer = let same = ap length (settled_pieces 0 log.events) in omega (arith, same);
  images = λ p h. ap (λ (ws : List Write). image log.start (take p ws)) (settled_pieces 0 log.events);
  flushed = λ p h. ap (λ (vs : List ℤ). length vs / log.columns) (settled_laws.positions log p);
}

settled_polls : (g : Polling) (log : Log) (x : Option ReaderState) (r : Option Reader) → MayPoll g log x r → MayPoll g (settled_log log) x r
settled_polls g log None None h = tt
settled_polls g log (Some x) (Some r) h = polls_on g log (settled_log log) x r (settled_on log) (λ from n within. counts_same log (settled_log log) from n (settled_on log) (ap length (settled_pieces 0 log.events))) h
settled_polls g log None (Some r) h = absurd h
settled_polls g log (Some x) None h = absurd h

-- as much is flushed
settled_flushed : (log : Log) → flushed (settled_log log) ≡ flushed log
settled_flushed log = settled_laws.later 0 0 log.values log.events (omega arith)

-- a dataset's rows that were not flushed are gone
pub settled_set_polled : (g : Polling) (log : Log) (x : SetState) (rs : ℕ → Option Reader) → x.rules.cutting.columns ≡ log.columns → length (flushed log) ≡ flushed_rows log * log.columns → IsPolled g log x rs → IsPolled g (settled_log log) (settled_set x) rs
settled_set_polled g log x rs columns whole h =
    let f = h.polled.follows in
    let many : x.state.flushed * x.rules.cutting.columns ≡ length (flushed log) = ap (λ (n : ℕ). n * x.rules.cutting.columns) f.flushed ∙ ap (λ (c : ℕ). flushed_rows log * c) columns ∙ sym whole in
    record {
      rules = h.rules;
      polled = record {
        follows = record {
          appended =
              ap (λ (n : ℕ). take n x.state.appended) many ∙ ap (take (length (flushed log))) f.appended ∙ flushed_begins 0 log.values log.events
              ∙ sym (settled_laws.appended 0 log.values log.events);
          flushed = f.flushed ∙ ap (λ (vs : List ℤ). length vs / log.columns) (sym (settled_flushed log));
        };
        begun = let same = ap length (settled_pieces 0 log.events) in let begun = h.polled.begun in omega (arith, same, begun);
        all = λ n. settled_polls g log (reader_in n x.state.readers) (rs n) (h.polled.all n);
      };
    }

-- ---- A session

zero_counts : (ss uu : List Session) → ArePartsTaken ss uu → map (λ (n : ℕ). 0) (counts_of ss) ≡ counts_of uu
zero_counts [] [] h = refl
zero_counts [] (u ∷ uu) h = absurd h
zero_counts (s ∷ ss) [] h = absurd h
zero_counts (s ∷ ss) (u ∷ uu) h = ap (λ (n : ℕ). n ∷ map (λ (k : ℕ). 0) (counts_of ss)) (sym (ap length h.0.pending)) ∙ ap (λ (ns : List ℕ). length u.pending ∷ ns) (zero_counts ss uu h.1)

taken_states : (limit attempts before k : ℕ) (ss uu : List Session) (xs : List SetState) → ArePartsTaken ss uu → AreStatesOf limit attempts before ss xs → AreStatesOf limit attempts k uu (map settled_set xs)
taken_states limit attempts before k [] [] [] h x = tt
taken_states limit attempts before k [] [] (y ∷ xs) h x = absurd x
taken_states limit attempts before k [] (u ∷ uu) xs h x = absurd h
taken_states limit attempts before k (s ∷ ss) [] xs h x = absurd h
taken_states limit attempts before k (s ∷ ss) (u ∷ uu) [] h x = absurd x
taken_states limit attempts before k (s ∷ ss) (u ∷ uu) (y ∷ xs) h x =
    let none : 0 ≡ length u.pending = sym (ap length h.0.pending) in
    let own : IsStateOfPart limit attempts k u (settled_set y) = record {
      rules = x.0.rules ∙ sym (ap (λ (g : Polling). g.rules) (h.0.polling limit attempts));
      pending = ap (due k) none;
      ends_flush = ap (nat_lt 0) none;
      flushing = h.0.flushing ∙ ap (nat_lt 0) none;
      taken = λ t. let clash : false ≡ true = sym h.0.flushing ∙ t in absurd (cc);
    } in
    (own, taken_states limit attempts (before + length s.pending) (k + length u.pending) ss uu xs h.1 x.1)

-- a part of the one before
part_before : (ss uu : List Session) (d : ℕ) (u : Session) → ArePartsTaken ss uu → slice_get uu d ≡ Some u → (s : Session) × (slice_get ss d ≡ Some s) × IsPartTaken s u
part_before [] [] d u h at = absurd cc
part_before [] (v ∷ uu) d u h at = absurd h
part_before (s ∷ ss) [] d u h at = absurd h
part_before (s ∷ ss) (v ∷ uu) zero u h at = (s, refl, subst (IsPartTaken s) (some_part v u at) h.0)
  where
    some_part : (a b : Session) → ◌≡◌ {A = Option Session} (Some a) (Some b) → a ≡ b
    some_part a b e = cc
part_before (s ∷ ss) (v ∷ uu) (suc d) u h at = part_before ss uu d u h.1 at

module _ (S T : Sessions) (attempts : ℕ) (ps : Places) (F : FileState) (h : HaveOneFileLog S attempts ps F) (stopped : S.stopped ≡ true) (stands : StandsAll T (and_then takes_over h.log)) (x : IsTakenFrom S T) where
  abbrev next : FileLog
  next = and_then takes_over h.log

  -- each dataset has whole rows
  set_polled : (d : ℕ) (y : SetState) → slice_get F.sets d ≡ Some y → IsPolled (h.state.pollings d) (settled_log (h.state.logs d)) (settled_set y) (readers_of d ps)
  set_polled d y at =
      let t = tells_of S attempts ps F h.log h.state h.stands d y at in
      let polled = h.state.polls.each d y at in
      let view : Log = log_of d t.begun h.log in
      let begun : h.log.first ≤ shown_in h.log.events =
      let first = ap (λ (l : Log). l.first) t.log_is in
      let many = ap now t.log_is in
      let low = polled.polled.begun in
      omega (arith, first, many, low, length_hist view.events, shown_seen d h.log.events) in
      let reads = (t.tells.now begun).reads in
      let whole : length (flushed view) ≡ flushed_rows view * view.columns = reads.count ∙ ap (λ (n : ℕ). n * reads.shown.dataset.shape.cols) reads.rows_are ∙ ap (λ (c : ℕ). flushed_rows view * c) reads.columns_are in
      let own = h.state.own d t.begun t.part t.set_is t.part_is in
      let columns : y.rules.cutting.columns ≡ view.columns =
      ap (λ (g : Rules). g.cutting.columns) (sym polled.rules) ∙ ap (λ (g : Polling). g.rules.cutting.columns) own.0 ∙ sym t.tells.columns in
      settled_set_polled (h.state.pollings d) (h.state.logs d) y (readers_of d ps) (columns ∙ ap (λ (l : Log). l.columns) (sym t.log_is))
      (subst (λ (l : Log). length (flushed l) ≡ flushed_rows l * l.columns) (sym t.log_is) whole) polled

  polls : FilePolled h.state.pollings (λ d. settled_log (h.state.logs d)) (settled_in F) ps
  polls =
      let many : length (map settled_set F.sets) ≡ length F.sets = length-map F.sets settled_set in
      let old = h.state.polls in
      record {
        each = λ d y at. let m = got_map settled_set F.sets d y at in subst (λ (z : SetState). IsPolled (h.state.pollings d) (settled_log (h.state.logs d)) z (readers_of d ps)) (sym m.is) (set_polled d m.was m.there);
        used = let used = old.used in omega (arith, used, many);
        within = λ n p at. (let within = old.within n p at in omega (arith, within, many));
      }

  state : IsFileStateOf T attempts ps (settled_in F) next
  state = record {
    states = subst (λ (l : ℕ). AreStatesOf l attempts 0 T.parts (map settled_set F.sets)) (sym x.limit) (taken_states S.places.limit attempts 0 0 S.parts T.parts F.sets x.parts h.state.states);
    left = ap (map (λ (n : ℕ). 0)) h.state.left ∙ zero_counts S.parts T.parts x.parts;
    stopped = sym x.going;
    limit = h.state.limit ∙ sym x.limit;
    pollings = h.state.pollings;
    logs = λ d. settled_log (h.state.logs d);
    own = λ d b u is at.
        let p = part_before S.parts T.parts d u x.parts at in
        let own = h.state.own d b p.0 is p.1 in
        (own.0 ∙ sym (p.2.polling S.places.limit attempts) ∙ ap (λ (l : ℕ). polling_in l attempts u) (sym x.limit), ap settled_log own.1);
    polls = polls;
    grown = let grown = h.state.grown in let end = x.end in omega (arith, grown, end);
  }

  pub taken_steps : StepsTo attempts ps F takes (took_over (flushed_of F.sets)) T
  unfolding state
  taken_steps = record {
    allowed = match_yes _ _ F.stopped (h.state.stopped ∙ stopped) refl;
    fits = record { log = next; stands = stands; state = state; new = new_then h.state.pollings h.log takes_over h.new };
  }

  pub taken_log : taken_steps.fits.log ≡ next
  unfolding taken_steps
  taken_log = refl

abbrev pub going_steps : (S : Sessions) (attempts : ℕ) (ps : Places) (F : FileState) → HaveOneFileLog S attempts ps F → S.stopped ≡ false → StepsTo attempts ps F takes goes_on S
going_steps S attempts ps F h going = record {
  allowed = match_no _ _ F.stopped (h.state.stopped ∙ going) refl;
  fits = record { log = h.log; stands = h.stands; state = h.state; new = h.new };
}

pub take_steps : TakeSteps
take_steps = record { going = going_steps; taken = taken_steps }
