-- All readers of a script over several datasets.
use Rattle.std.proofs.Common.{◌≡◌, ◌≢◌, ◌⊎◌, ℕ, zero, suc, ◌+◌, ◌-◌, ◌<◌, ◌≤◌, cond, Bool, true, false, List, [], ◌∷◌, ◌++◌, length, map, Option, Some, None, refl, sym, ◌∙◌, ap, subst, inl, inr, arith, append_assoc, length-append}
use Rattle.std.specs.Prelude.{ℤ, nat_lt, ◌==◌, slice_get, is_some}
use Rattle.std.proofs.lemmas.Bool.{cond_both, cond-true, cond-false, eq-eqb, eqb-true, lt-ltb, ne_eqb}
use Rattle.std.proofs.lemmas.List.{length-map}
use Rattle.std.proofs.lemmas.Option.{slice_get_within}
use Rattle.h5w_model.specs.Logs.{Log, appends, plans, shows, appended, appended_in, flushed_rows, hist, and_now}
use Rattle.h5w_model.specs.Several.{up_to}
use Rattle.h5w_model.specs.Unfinished.{Reader}
use Rattle.h5w_model.specs.Lawful.{Rules, Line, adds, flushes, shows_up_to, ends, opens, refreshes, reads, looks, ReaderState, ScriptState, Allowed, after_shows, committed, next_state, reader_in, with_reader}
use Rattle.h5w_model.specs.declared.piece.Write.{Write}
use Rattle.h5w_model.specs.declared.reply.Reply.{Reply}
use Rattle.h5w_model.specs.declared.reply.Reply.TheVariants as replies
use Rattle.h5w_script_laws.specs.Polling.{Polling, MayPoll, now}
use Rattle.h5w_script_laws.specs.Scripts.{Readers, AllPoll, Polled, Moves, Refuses, and_reader}
use Rattle.h5w_script_laws.proofs.EventLemmas.{goes_on_still, polls_on, counts_same}
use Rattle.h5w_script_laws.proofs.ScriptLemmas.{all_kept, writer_line_laws}
use Rattle.h5w_several_script_laws.specs.Scripts.{uses, asks, using, flushing_each, says, FileState, SetState, AllowedAll, AllowedOf, added, asked_of, next_all, planned, set_after, set_asked, sets_after, shown_sets}
use Rattle.h5w_several_script_laws.specs.Polled.{Places, readers_of, and_place, IsPolled, FilePolled, IsOf, ReaderFileLaws, WriterFileLaws}
use Rattle.h5w_several_script_laws.proofs.SetLemmas.{finds, finds_none, got_after, got_is, got_map, got_planned, has_reader, length_after, length_planned}

-- ---- Which dataset has a reader

may_same : (g : Polling) (log : Log) (o : Option ReaderState) (q : Option Reader) → MayPoll g log o q → is_some o ≡ is_some q
may_same g log None None h = refl
may_same g log (Some x) (Some r) h = refl
may_same g log None (Some r) h = absurd h
may_same g log (Some x) None h = absurd h

has_own : (gs : ℕ → Polling) (logs : ℕ → Log) (F : FileState) (ps : Places) (n e : ℕ) (y : SetState) → FilePolled gs logs F ps → slice_get F.sets e ≡ Some y → has_reader n y ≡ is_some (readers_of e ps n)
has_own gs logs F ps n e y polled there = may_same (gs e) (logs e) (reader_in n y.state.readers) (readers_of e ps n) ((polled.each e y there).polled.all n)

-- one place of two
abbrev of_place : (d : ℕ) → Option (ℕ × Reader) → Option Reader
of_place d o = elim o as (λ _. Option Reader) [ None ↦ None | Some x ↦ cond (x.0 == d) (Some x.1) None ]

pub placed_here : (d : ℕ) (r : Reader) (ps : Places) (n : ℕ) → ps n ≡ Some (d, r) → readers_of d ps n ≡ Some r
placed_here d r ps n is = ap (of_place d) is ∙ cond-true (d == d) (Some r) None (eq-eqb d d refl)

placed_other : (d e : ℕ) (r : Reader) (ps : Places) (n : ℕ) → ps n ≡ Some (d, r) → d ≢ e → readers_of e ps n ≡ None
placed_other d e r ps n is other = ap (of_place e) is ∙ cond-false (d == e) (Some r) None (ne_eqb d e other)

pub not_placed : (e : ℕ) (ps : Places) (n : ℕ) → ps n ≡ None → readers_of e ps n ≡ None
not_placed e ps n is = ap (of_place e) is

pub set_there : (xs : List SetState) (d : ℕ) → d < length xs → (x : SetState) × (slice_get xs d ≡ Some x)
set_there [] d low = absurd (omega (arith, low))
set_there (x ∷ xs) zero low = (x, refl)
set_there (x ∷ xs) (suc d) low = set_there xs d (omega (arith, low))

asked : (gs : ℕ → Polling) (logs : ℕ → Log) (F : FileState) (ps : Places) (n d : ℕ) (r : Reader) → FilePolled gs logs F ps → ps n ≡ Some (d, r) → set_asked F n ≡ d
asked gs logs F ps n d r polled is =
    let x = set_there F.sets d (polled.within n (d, r) is) in
    let found : set_asked F n ≡ 0 + d =
    finds n F.used 0 d F.sets x.0 x.1 (has_own gs logs F ps n d x.0 polled x.1 ∙ ap is_some (placed_here d r ps n is))
    (λ e y low at. has_own gs logs F ps n e y polled at ∙ ap is_some (placed_other d e r ps n is (λ z. omega (arith, low, z)))) in
    found ∙ omega arith

asked_none : (gs : ℕ → Polling) (logs : ℕ → Log) (F : FileState) (ps : Places) (n : ℕ) → FilePolled gs logs F ps → ps n ≡ None → set_asked F n ≡ F.used
asked_none gs logs F ps n polled is = finds_none n F.used 0 F.sets (λ e y at. has_own gs logs F ps n e y polled at ∙ ap is_some (not_placed e ps n is))

-- ---- A dataset that a line leaves

still : (g : Polling) (log : Log) (x y : SetState) (rs : Readers) → y.rules ≡ x.rules → y.state.appended ≡ x.state.appended → y.state.flushed ≡ x.state.flushed → y.state.readers ≡ x.state.readers
    → IsPolled g log x rs → IsPolled g log y rs
still g log x y rs rules values rows readers h = record {
  rules = h.rules ∙ sym rules;
  polled = record {
    follows = record { appended = values ∙ h.polled.follows.appended; flushed = rows ∙ h.polled.follows.flushed };
    begun = h.polled.begun;
    all = λ n. subst (λ (xs : List (ℕ × ReaderState)). MayPoll g log (reader_in n xs) (rs n)) (sym readers) (h.polled.all n);
  };
}

with_readers : (g : Polling) (log : Log) (x : SetState) (rs qs : Readers) → ((k : ℕ) → qs k ≡ rs k) → IsPolled g log x rs → IsPolled g log x qs
with_readers g log x rs qs same h = record {
  rules = h.rules;
  polled = record {
    follows = h.polled.follows;
    begun = h.polled.begun;
    all = λ k. subst (λ (o : Option Reader). MayPoll g log (reader_in k x.state.readers) o) (sym (same k)) (h.polled.all k);
  };
}

-- ---- One more reader

own_place : (n d : ℕ) (r : Reader) (ps : Places) (k : ℕ) → readers_of d (and_place n d r ps) k ≡ and_reader n r (readers_of d ps) k
own_place n d r ps k =
    cond_both (n == k) (Some (d, r)) (ps k) (λ (o : Option (ℕ × Reader)). of_place d o ≡ cond (n == k) (Some r) (readers_of d ps k))
    (λ t. cond-true (d == d) (Some r) None (eq-eqb d d refl) ∙ sym (cond-true (n == k) (Some r) (readers_of d ps k) t))
    (λ t. sym (cond-false (n == k) (Some r) (readers_of d ps k) t))

other_place : (n d e : ℕ) (r : Reader) (ps : Places) → d ≢ e → ((p : ℕ × Reader) → ps n ≡ Some p → p.0 ≡ d) → (k : ℕ) → readers_of e (and_place n d r ps) k ≡ readers_of e ps k
other_place n d e r ps other own k =
    cond_both (n == k) (Some (d, r)) (ps k) (λ (o : Option (ℕ × Reader)). of_place e o ≡ readers_of e ps k)
    (λ t. cond-false (d == e) (Some r) None (ne_eqb d e other) ∙ sym (sym (ap (readers_of e ps) (eqb-true n k t)) ∙ of_was (ps n) refl))
    (λ t. refl)
  where
    of_was : (o : Option (ℕ × Reader)) → ps n ≡ o → of_place e o ≡ None
    of_was None is = refl
    of_was (Some p) is = cond-false (p.0 == e) (Some p.1) None (ne_eqb p.0 e (λ z. other (sym (own p is) ∙ z)))

-- ---- Lines of a reader

allowed_of : (F : FileState) (n d : ℕ) (x : SetState) (line : Line) (reply : Reply) → set_asked F n ≡ d → slice_get F.sets d ≡ Some x → Allowed x.rules x.state line reply → AllowedOf F (set_asked F n) line (says reply)
allowed_of F n d x line reply is there h =
    subst (λ (e : ℕ). AllowedOf F e line (says reply)) (sym is) (record { set = x; there = there; own = reply; is = refl; allowed = h })

allowed_in : (F : FileState) (n d : ℕ) (x : SetState) (line : Line) (reply : Reply) → IsOf line n → set_asked F n ≡ d → slice_get F.sets d ≡ Some x → Allowed x.rules x.state line reply → AllowedAll F (asks line) (says reply)
allowed_in F n d x (adds vs) reply of is there h = absurd of
allowed_in F n d x flushes reply of is there h = absurd of
allowed_in F n d x (shows_up_to k) reply of is there h = absurd of
allowed_in F n d x ends reply of is there h = absurd of
allowed_in F n d x (opens r) reply of is there h = allowed_of F r d x (opens r) reply (ap (set_asked F) of ∙ is) there h
allowed_in F n d x (refreshes r) reply of is there h = allowed_of F r d x (refreshes r) reply (ap (set_asked F) of ∙ is) there h
allowed_in F n d x (reads r from count) reply of is there h = allowed_of F r d x (reads r from count) reply (ap (set_asked F) of ∙ is) there h
allowed_in F n d x (looks r k) reply of is there h = allowed_of F r d x (looks r k) reply (ap (set_asked F) of ∙ is) there h

pub next_in : (F : FileState) (n : ℕ) (line : Line) (reply : Reply) → IsOf line n → next_all F (asks line) (says reply) ≡ asked_of F n line reply
next_in F n (adds vs) reply of = absurd of
next_in F n flushes reply of = absurd of
next_in F n (shows_up_to k) reply of = absurd of
next_in F n ends reply of = absurd of
next_in F n (opens r) reply of = ap (λ (k : ℕ). asked_of F k (opens r) reply) of
next_in F n (refreshes r) reply of = ap (λ (k : ℕ). asked_of F k (refreshes r) reply) of
next_in F n (reads r from count) reply of = ap (λ (k : ℕ). asked_of F k (reads r from count) reply) of
next_in F n (looks r k) reply of = ap (λ (q : ℕ). asked_of F q (looks r k) reply) of

pair_is : (a b : ℕ × Reader) → ◌≡◌ {A = Option (ℕ × Reader)} (Some a) (Some b) → a ≡ b
pair_is a b e = cc

module _ (gs : ℕ → Polling) (logs : ℕ → Log) (F : FileState) (ps : Places) (n d : ℕ) (x : SetState) (line : Line) (reply : Reply) (r : Reader) (polled : FilePolled gs logs F ps)
    (is : set_asked F n ≡ d) (there : slice_get F.sets d ≡ Some x) (m : Moves (gs d) (logs d) x.state (readers_of d ps) line reply n r) where
  old : IsPolled (gs d) (logs d) x (readers_of d ps)
  old = polled.each d x there

  move_allowed : Allowed x.rules x.state line reply
  move_allowed = subst (λ g. Allowed g x.state line reply) old.rules m.allowed

  -- a reader that was opened before is of this dataset
  owner : (p : ℕ × Reader) → ps n ≡ Some p → p.0 ≡ d
  owner p at = sym (asked gs logs F ps n p.0 p.1 polled at) ∙ is

  next_is : next_state x.rules x.state line reply ≡ with_reader x.state n m.state
  next_is = ap (λ g. next_state g x.state line reply) (sym old.rules) ∙ m.is

  moved_own : IsPolled (gs d) (logs d) (set_after line reply x) (readers_of d (and_place n d r ps))
  moved_own =
      subst (λ (t : ScriptState). IsPolled (gs d) (logs d) (record x { state = t }) (readers_of d (and_place n d r ps))) (sym next_is)
      (record {
        rules = old.rules;
        polled = record {
          follows = record { appended = old.polled.follows.appended; flushed = old.polled.follows.flushed };
          begun = old.polled.begun;
          all = λ k. subst (λ (o : Option Reader). MayPoll (gs d) (logs d) (reader_in k (with_reader x.state n m.state).readers) o) (sym (own_place n d r ps k)) (m.polls k);
        };
      })

  moved_each : (e : ℕ) (y : SetState) → slice_get (sets_after (set_asked F n) line reply F.sets) e ≡ Some y → IsPolled (gs e) (logs e) y (readers_of e (and_place n d r ps))
  moved_each e y h =
      let a = got_after (set_asked F n) line reply F.sets e y h in
      elim a.is [
        | inl k ↦
            let here : e ≡ d = k.0 ∙ is in
            let same : a.was ≡ x = got_is a.was x (sym a.there ∙ ap (slice_get F.sets) here ∙ there) in
            subst (λ (z : SetState). IsPolled (gs e) (logs e) z (readers_of e (and_place n d r ps))) (sym (k.1 ∙ ap (set_after line reply) same))
            (subst (λ (i : ℕ). IsPolled (gs i) (logs i) (set_after line reply x) (readers_of i (and_place n d r ps))) (sym here) moved_own)
        | inr k ↦
            subst (λ (z : SetState). IsPolled (gs e) (logs e) z (readers_of e (and_place n d r ps))) (sym k.1)
            (with_readers (gs e) (logs e) a.was (readers_of e ps) (readers_of e (and_place n d r ps)) (other_place n d e r ps (λ z. k.0 (sym z ∙ sym is)) owner) (polled.each e a.was a.there))
      ]

  moved : FilePolled gs logs (asked_of F n line reply) (and_place n d r ps)
  moved =
      let count = length_after (set_asked F n) line reply F.sets in
      let inside : d < length F.sets = slice_get_within F.sets d x there in
      record {
        each = moved_each;
        used = omega (arith, polled.used, count);
        within = λ k p.
            cond_both (n == k) (Some (d, r)) (ps k) (λ (o : Option (ℕ × Reader)). o ≡ Some p → p.0 < length (sets_after (set_asked F n) line reply F.sets))
            (λ t e. let own : d ≡ p.0 = ap (λ (q : ℕ × Reader). q.0) (pair_is (d, r) p e) in omega (arith, inside, count, own))
            (λ t e. let own = polled.within k p e in omega (arith, own, count));
      }

-- a line that changes nothing of a dataset changes nothing
same_after : (d : ℕ) (line : Line) (reply : Reply) (xs : List SetState) (x : SetState) → slice_get xs d ≡ Some x → set_after line reply x ≡ x → sets_after d line reply xs ≡ xs
same_after d line reply [] x there same = refl
same_after zero line reply (y ∷ ys) x there same =
    let is : y ≡ x = got_is y x there in
    ap (λ (z : SetState). z ∷ ys) (ap (set_after line reply) is ∙ same ∙ sym is)
same_after (suc d) line reply (y ∷ ys) x there same = ap (λ (zs : List SetState). y ∷ zs) (same_after d line reply ys x there same)

pub reader_file_laws : ReaderFileLaws
reader_file_laws = record {
  asked = asked;
  asked_none = asked_none;
  moves = λ gs logs F ps n d x line reply r polled of is there m. (
    allowed_in F n d x line reply of is there (move_allowed gs logs F ps n d x line reply r polled is there m),
    subst (λ (G : FileState). FilePolled gs logs G (and_place n d r ps)) (sym (next_in F n line reply of)) (moved gs logs F ps n d x line reply r polled is there m),
  );
  refuses = λ F g n d x line reply of is there rules m.
      let next : next_state x.rules x.state line reply ≡ x.state = ap (λ h. next_state h x.state line reply) (sym rules) ∙ m.same in (
        allowed_in F n d x line reply of is there (subst (λ h. Allowed h x.state line reply) rules m.allowed),
        next_in F n line reply of
            ∙ ap (λ (xs : List SetState). record F { sets = xs })
            (ap (λ (e : ℕ). sets_after e line reply F.sets) is ∙ same_after d line reply F.sets x there (ap (λ (s : ScriptState). record x { state = s }) next)),
      );
}

-- ---- Lines of the writer

begun_more : (w : Write) (log : Log) → log.first ≤ now log → log.first ≤ now (and_now (shows w) log)
begun_more w log begun = omega (arith, length-append (hist log.events) (w ∷ []))

appended_own : (g : Polling) (log : Log) (x : SetState) (rs : Readers) (vs : List ℤ) (rows pending : ℕ) → IsPolled g log x rs → IsPolled g (and_now (appends vs) log) (set_after (adds vs) (replies.Appended rows pending) x) rs
appended_own g log x rs vs rows pending h = record {
  rules = h.rules;
  polled = record {
    follows = record {
      appended = ap (λ (xs : List ℤ). xs ++ vs) h.polled.follows.appended ∙ append_assoc log.values (appended_in log.events) vs;
      flushed = h.polled.follows.flushed;
    };
    begun = h.polled.begun;
    all = writer_line_laws.appended g log x.state rs vs h.polled.all;
  };
}

planned_own : (g : Polling) (log : Log) (x : SetState) (rs : Readers) (k pieces : ℕ) → flushed_rows (and_now (plans k) log) ≡ flushed_rows log → IsPolled g log x rs
    → IsPolled g (and_now (plans k) log) (set_after flushes (replies.Flushing pieces) x) rs
planned_own g log x rs k pieces level h =
    let new = and_now (plans k) log in
    let on = goes_on_still (plans k) log refl level in
    record {
      rules = h.rules;
      polled = record {
        follows = record { appended = h.polled.follows.appended; flushed = h.polled.follows.flushed ∙ sym level };
        begun = h.polled.begun;
        all = all_kept g log new x.state x.state rs refl (λ y r p. polls_on g log new y r on (λ from n within. counts_same log new from n on refl) p) h.polled.all;
      };
    }

-- pieces leave the values, and the rows unless they end a flush
shown_values : (g : Rules) (s : ScriptState) (j : ℕ) → (after_shows g s j).appended ≡ s.appended
shown_values g s j =
    cond_both (nat_lt j s.pending) (record s { pending = s.pending - j }) (cond s.ends_flush (committed g s) (record s { pending = 0 })) (λ (t : ScriptState). t.appended ≡ s.appended)
    (λ t. refl)
    (λ f. cond_both s.ends_flush (committed g s) (record s { pending = 0 }) (λ (t : ScriptState). t.appended ≡ s.appended) (λ t. refl) (λ t. refl))

shown_rows : (g : Rules) (s : ScriptState) (j : ℕ) → (j < s.pending) ⊎ (s.ends_flush ≡ false) → (after_shows g s j).flushed ≡ s.flushed
shown_rows g s j (inl low) =
    ap (λ (t : ScriptState). t.flushed) (cond-true (nat_lt j s.pending) (record s { pending = s.pending - j }) (cond s.ends_flush (committed g s) (record s { pending = 0 })) (lt-ltb j s.pending low))
shown_rows g s j (inr open_still) =
    cond_both (nat_lt j s.pending) (record s { pending = s.pending - j }) (cond s.ends_flush (committed g s) (record s { pending = 0 })) (λ (t : ScriptState). t.flushed ≡ s.flushed)
    (λ t. refl)
    (λ f. ap (λ (t : ScriptState). t.flushed) (cond-false s.ends_flush (committed g s) (record s { pending = 0 }) open_still))

shown_own : (g : Polling) (log : Log) (x : SetState) (rs : Readers) (w : Write) (pieces : ℕ) → (after_shows x.rules x.state pieces).flushed ≡ flushed_rows (and_now (shows w) log) → IsPolled g log x rs
    → IsPolled g (and_now (shows w) log) (record x { state = after_shows x.rules x.state pieces }) rs
shown_own g log x rs w pieces rows h =
    let new = and_now (shows w) log in
    record {
      rules = h.rules;
      polled = record {
        follows = record { appended = shown_values x.rules x.state pieces ∙ h.polled.follows.appended; flushed = rows };
        begun = begun_more w log h.polled.begun;
        all = subst (λ (t : Rules). AllPoll g new (after_shows t x.state pieces) rs) h.rules
            (writer_line_laws.shown g log x.state rs w pieces (λ level. sym rows ∙ shown_rows x.rules x.state pieces level ∙ h.polled.follows.flushed) h.polled.all);
      };
    }

pub writer_file_laws : WriterFileLaws
writer_file_laws = record {
  used = λ gs logs F ps i polled some few.
      ((some, few, refl), record { each = polled.each; used = omega (arith, some, few); within = polled.within });
  appended = λ gs old new F ps vs rows pending polled own others.
      let line = adds vs in
      let reply = replies.Appended rows pending in
      let count = length_after F.used line reply F.sets in
      record {
        each = λ d y h.
            let a = got_after F.used line reply F.sets d y h in
            let was = polled.each d a.was a.there in
            elim a.is [
              | inl k ↦
                  let log : new d ≡ and_now (appends vs) (old d) = ap new k.0 ∙ own ∙ ap (λ (i : ℕ). and_now (appends vs) (old i)) (sym k.0) in
                  subst (λ (l : Log). IsPolled (gs d) l y (readers_of d ps)) (sym log)
                  (subst (λ (z : SetState). IsPolled (gs d) (and_now (appends vs) (old d)) z (readers_of d ps)) (sym k.1) (appended_own (gs d) (old d) a.was (readers_of d ps) vs rows pending was))
              | inr k ↦
                  subst (λ (l : Log). IsPolled (gs d) l y (readers_of d ps)) (sym (others d k.0))
                  (subst (λ (z : SetState). IsPolled (gs d) (old d) z (readers_of d ps)) (sym k.1) was)
            ];
        used = omega (arith, polled.used, count);
        within = λ n p h. let inside = polled.within n p h in omega (arith, inside, count);
      };
  planned = λ gs logs F ps counts polled same level.
      let count = length_planned 0 counts F.sets same in
      record {
        each = λ d y h.
            let a = got_planned 0 counts F.sets d y same h in
            subst (λ (z : SetState). IsPolled (gs d) (and_now (plans (up_to d counts)) (logs d)) z (readers_of d ps)) (sym a.is)
            (planned_own (gs d) (logs d) a.was (readers_of d ps) (up_to d counts) a.pieces (level d a.was a.there) (polled.each d a.was a.there));
        used = omega (arith, polled.used, count);
        within = λ n p h. let inside = polled.within n p h in omega (arith, inside, count);
      };
  shown = λ gs logs F ps w k pieces pending polled rows.
      let change = λ (x : SetState). record x { state = after_shows x.rules x.state pieces } in
      let count = length-map F.sets change in
      record {
        each = λ d y h.
            let a = got_map change F.sets d y h in
            subst (λ (z : SetState). IsPolled (gs d) (and_now (shows w) (logs d)) z (readers_of d ps)) (sym a.is)
            (shown_own (gs d) (logs d) a.was (readers_of d ps) w pieces (rows d a.was a.there) (polled.each d a.was a.there));
        used = omega (arith, polled.used, count);
        within = λ n p h. let inside = polled.within n p h in omega (arith, inside, count);
      };
  ended = λ gs logs F ps polled.
      let change = set_after ends replies.Stopped in
      let count = length-map F.sets change in
      record {
        each = λ d y h.
            let a = got_map change F.sets d y h in
            subst (λ (z : SetState). IsPolled (gs d) (logs d) z (readers_of d ps)) (sym a.is)
            (still (gs d) (logs d) a.was (change a.was) (readers_of d ps) refl refl refl refl (polled.each d a.was a.there));
        used = omega (arith, polled.used, count);
        within = λ n p h. let inside = polled.within n p h in omega (arith, inside, count);
      };
}
