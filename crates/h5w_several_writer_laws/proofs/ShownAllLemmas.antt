-- What a session of several datasets is once its oldest pending piece became visible.
use Rattle.std.proofs.Common.{◌≡◌, ◌⊎◌, ℕ, suc, true, false, Bool, List, [], ◌∷◌, ◌++◌, length, ℤ, refl, sym, ◌∙◌, ap, subst, inl, inr, arith, append-nil, append_assoc}
use Rattle.std.specs.Prelude.{nat_lt, if◌then◌else◌}
use Rattle.std.proofs.lemmas.Bool.{cond-true, lt-ltb}
use Rattle.h5w_model.specs.Images.{image}
use Rattle.h5w_model.specs.Findings.{Used}
use Rattle.h5w_model.specs.Logs.{and_now, flushed, flushed_in, shows}
use Rattle.h5w_model.specs.Several.{Begun, FileLog, log_of, pieces_in, shows_all}
use Rattle.h5w_model.specs.Tables.{Reading, Shows, format_limits}
use Rattle.h5w_model.specs.declared.piece.Write.{Write}
use Rattle.h5w_model.specs.declared.root.Super.{Super}
use Rattle.h5w_space.specs.Space.{Space}
use Rattle.h5w_step_laws.specs.Logs.{image_now}
use Rattle.h5w_step_laws.specs.Moments.{Moment, Represents, reading_of}
use Rattle.h5w_step_laws.proofs.GoesLemmas.{image_pushed}
use Rattle.h5w_several_laws.specs.Beside.{with_root}
use Rattle.h5w_several_laws.specs.Together.{names_of}
use Rattle.h5w_several_laws.specs.Turns.{AreKnown, Entry, IsOne}
use Rattle.h5w_writer.specs.Past.{AllAddressed}
use Rattle.h5w_writer.proofs.AddressedLemmas.{shown_addressed}
use Rattle.h5w_writer.specs.Sessions.{AfterPiece, AllEndBy, Freed, Session, Settles}
use Rattle.h5w_writer.proofs.StandLemmas.{freed_keeps, freed_or_kept}
use Rattle.h5w_writer.specs.PartLaws.{PartLaws}
use Rattle.h5w_several_writer_laws.specs.Seen.{IsOwn}
use Rattle.h5w_several_writer_laws.specs.Sessions.{AfterPieceOf, AreShown, Sessions, all_pending}
use Rattle.h5w_several_writer_laws.specs.Courses.{AreThrough, stands_of}
use Rattle.h5w_several_writer_laws.specs.Valid.{AreValidFrom}
use Rattle.h5w_several_writer_laws.specs.Standing.{AreStandingParts, HasRun, IsDone, IsDue, IsStandingPart, IsUnbegun, StandsOn, and_then, last_image, most_in, rested}
use Rattle.h5w_several_writer_laws.proofs.ShownLemmas.{calm_after, due_last, due_more, left_is, part_behind, part_idle, shown_left, shown_log}
use Rattle.h5w_several_writer_laws.proofs.RunLemmas.{next_run, run_each, shown_run}
use Rattle.h5w_several_writer_laws.proofs.PastLemmas.{past_level, past_shown}
use Rattle.h5w_several_writer_laws.proofs.SightLemmas.{seen_own, seen_shown}
use Rattle.h5w_several_writer_laws.proofs.TurnPartLemmas.{IsWithin, ends_back, last_joined, own_image}
use Rattle.h5w_several_writer_laws.proofs.FlushAllLemmas.{back_nil, front_nil, not_both}

-- ---- The part whose piece it is

module _ (p : PartLaws) (root : Super) (t : Space) (us : List Used) (w : Write) (log : FileLog) (left : List Write) where
  -- of no flush
  calm_part : (d : ℕ) (b : Begun) (s u : Session) (ws behind : List Write) (e : Entry) → s.flushing ≡ false → u ≡ record s { pending = ws } → IsStandingPart root t us (w ∷ left) log d b [] s behind e → IsDone root t (w ∷ left) log d b s e
      → IsStandingPart root t us left (shown_log w log) d b [] u behind e
  calm_part d b s u ws behind e calm is x done =
      let seen = seen_shown log d b done.own w left done.seen in
      let next : s.flushing ≡ false → IsDone root t left (shown_log w log) d b s e = λ c. record { calm = inr c; own = done.own; seen = seen; runs = done.runs } in
      let run = next_run root t w left log d b s e x.run next in
      subst (λ (y : Session). IsStandingPart root t us left (shown_log w log) d b [] y behind e) (sym is) (record {
        name = x.name;
        early = x.early;
        going = x.going;
        each = run_each (shown_log w log) d b left s e run;
        run = elim run [
          | inl h ↦ inl h
          | inr u ↦ inr (record { calm = u.calm; some = u.some; new = u.new; first = u.first })
        ];
        past = past_level root t w left log d b s e x.name x.run next (sym seen.now ∙ done.seen.now) x.past;
        phase = inl (record { calm = inr calm; own = done.own; seen = seen; runs = done.runs });
      })

  -- of a flush: there is a file already
  own_run : (d : ℕ) (b : Begun) (s : Session) (e : Entry) → s.flushing ≡ true → HasRun s.name (log_of d b log) (w ∷ left) e ⊎ IsUnbegun log (w ∷ left) s → HasRun s.name (log_of d b log) (w ∷ left) e
  own_run d b s e busy (inl h) = h
  own_run d b s e busy (inr u) = absurd (not_both s.flushing busy u.calm)

  -- the last of its own pieces: the image is that of the moment that was planned
  last_addressed : (d : ℕ) (b : Begun) (s : Session) (behind : List Write) (e : Entry) → s.pending ≡ w ∷ [] → e.name ≡ s.name → (due : IsDue root t us log d b [] s behind e) → AllAddressed (reading_of e.moment)
      → (r : Reading) → Shows format_limits (image log.start (pieces_in log.events ++ w ∷ [])) e.name r → AllAddressed r
  last_addressed d b s behind e is name due a r seen =
      let own = and_now (shows w) due.own in
      let m = with_root us due.moment in
      let img : List ℕ = image log.start (pieces_in log.events ++ w ∷ []) in
      let there : image (image_now due.own) s.pending ≡ img =
      ap (image (image_now due.own)) is ∙ sym (image_pushed due.own w) ∙ own_image (shown_log w log) d b own [] (seen_own log d b due.own w due.seen) ∙ ap (image log.start) (append-nil (pieces_in log.events ++ w ∷ [])) in
      let file = subst (λ (n : List ℕ). Represents img n m) (sym name) (subst (λ (i : List ℕ). Represents i s.name m) there due.owed.file) in
      shown_addressed img e.name m r file (subst (λ (n : Moment). AllAddressed (reading_of n)) due.moment_is a) seen

  -- one that is not the last brings no rows
  own_level : (d : ℕ) (b : Begun) (s : Session) (y : Write) (ws behind : List Write) (e : Entry) → s.pending ≡ w ∷ y ∷ ws → (due : IsDue root t us log d b [] s behind e) → flushed (and_now (shows w) due.own) ≡ flushed due.own
  own_level d b s y ws behind e is due =
      let runs = due.runs.running.runs in
      let old : List ℤ = runs.before.values in
      let last : List ℤ = due.runs.running.after.values in
      let at : (k : ℕ) → flushed_in k due.own.values due.own.events ≡ (if nat_lt k (length (w ∷ y ∷ ws)) then old else last) =
      λ k. subst (λ (vs : List Write). flushed_in k due.own.values due.own.events ≡ (if nat_lt k (length vs) then old else last)) is (runs.flushed k) in
      at 1 ∙ cond-true (nat_lt 1 (length (w ∷ y ∷ ws))) old last (lt-ltb 1 (length (w ∷ y ∷ ws)) (omega arith))
      ∙ sym (at 0 ∙ cond-true (nat_lt 0 (length (w ∷ y ∷ ws))) old last (lt-ltb 0 (length (w ∷ y ∷ ws)) (omega arith)))

  due_part : (d : ℕ) (b : Begun) (s u : Session) (ws behind : List Write) (e : Entry) → s.pending ≡ w ∷ ws → AfterPiece s ws u → left ≡ ws ++ behind → IsOne (last_image log (w ∷ left)) t root us e → IsWithin t log → AllEndBy (most_in t log) left
      → IsStandingPart root t us (w ∷ left) log d b [] s behind e → IsDue root t us log d b [] s behind e → IsStandingPart root t us left (shown_log w log) d b [] u behind e
  due_part d b s u [] behind e is after cut one fits ends x due =
      let own = and_now (shows w) due.own in
      let begun : image_now due.own ≡ last_image log [] = own_image log d b due.own [] due.seen in
      let here : last_image log (w ∷ left) ≡ image (image_now own) behind =
      last_joined log [] (w ∷ left)
      ∙ ap (λ (i : List ℕ). image i (w ∷ left)) (sym begun) ∙ ap (λ (i : List ℕ). image i left) (sym (image_pushed due.own w)) ∙ ap (image (image_now own)) cut in
      let done = due_last p root t us w log d b s behind e due is x.early x.name (subst (λ (i : List ℕ). IsOne i t root us e) here one) fits (subst (λ (vs : List Write). AllEndBy (most_in t log) vs) cut ends) u after in
      let settled = subst (λ (f : Bool). Settles f s u) due.flushing after in
      let name = ap (λ (y : Session). y.name) settled.1 in
      let had = own_run d b s e due.flushing x.run in
      let run : HasRun u.name (log_of d b (shown_log w log)) left e = subst (λ (n : List ℕ). HasRun n (log_of d b (shown_log w log)) left e) (sym name) (shown_run s.name (log_of d b log) w left e had) in
      record {
        name = x.name ∙ sym name;
        early = ap (λ (y : Session). y.early) settled.1 ∙ x.early;
        going = ap (λ (y : Session). y.stopped) settled.1 ∙ x.going;
        each = run.runs.goes.prefixed;
        run = inl run;
        past = past_shown log b w e d left (subst (λ (n : List ℕ). HasRun n (log_of d b log) (w ∷ left) e) (sym x.name) had) (λ bare. inr (last_addressed d b s behind e is x.name due (x.past.next bare))) x.past;
        phase = inl (subst (λ (vs : List Write). IsDone root t vs (shown_log w log) d b u e) (sym cut) done);
      }
  due_part d b s u (y ∷ ws) behind e is after cut one fits ends x due =
      let next = due_more p root t us w log d b s behind e due y ws is in
      let had = own_run d b s e due.flushing x.run in
      let run = shown_run s.name (log_of d b log) w left e had in
      let level = sym (seen_own log d b due.own w due.seen).now ∙ own_level d b s y ws behind e is due ∙ due.seen.now in
      subst (λ (z : Session). IsStandingPart root t us left (shown_log w log) d b [] z behind e) (sym after) (record {
        name = x.name;
        early = x.early;
        going = x.going;
        each = run.runs.goes.prefixed;
        run = inl run;
        past = past_shown log b w e d left (subst (λ (n : List ℕ). HasRun n (log_of d b log) (w ∷ left) e) (sym x.name) had) (λ bare. inl level) x.past;
        phase = inr next;
      })

  the_part : (d : ℕ) (b : Begun) (s u : Session) (ws behind : List Write) (e : Entry) → s.pending ≡ w ∷ ws → AfterPiece s ws u → left ≡ ws ++ behind → IsOne (last_image log (w ∷ left)) t root us e → IsWithin t log → AllEndBy (most_in t log) left
      → IsStandingPart root t us (w ∷ left) log d b [] s behind e → IsStandingPart root t us left (shown_log w log) d b [] u behind e
  the_part d b s u ws behind e is after cut one fits ends x = elim x.phase [
    | inl done ↦
        elim done.calm [
          | inl idle ↦ absurd (some_is ws (sym is ∙ idle))
          | inr calm ↦ calm_part d b s u ws behind e calm (calm_after s u ws calm after) x done
        ]
    | inr due ↦ due_part d b s u ws behind e is after cut one fits ends x due
  ]
    where
      some_is : (vs : List Write) → w ∷ vs ≡ [] → ⊥
      some_is vs none = cc

  -- ---- All parts

  parts_behind : (d : ℕ) (bs : List Begun) (before : List Write) (ss : List Session) (es : List Entry) → AreStandingParts root t us (w ∷ left) log d bs (w ∷ before) ss es → AreStandingParts root t us left (shown_log w log) d bs before ss es
  parts_behind d [] before [] [] x = tt
  parts_behind d (b ∷ bs) before (s ∷ ss) (e ∷ es) x = (part_behind root t us left w log d b before s (all_pending ss) e x.0, parts_behind (suc d) bs (before ++ s.pending) ss es x.1)
  parts_behind d [] before (s ∷ ss) es x = absurd x
  parts_behind d [] before [] (e ∷ es) x = absurd x
  parts_behind d (b ∷ bs) before [] es x = absurd x
  parts_behind d (b ∷ bs) before (s ∷ ss) [] x = absurd x

  parts_shown : (d : ℕ) (bs : List Begun) (ss uu : List Session) (es : List Entry) → AreShown w ss uu → left ≡ all_pending uu → AreKnown (last_image log (w ∷ left)) t root us es → IsWithin t log → AllEndBy (most_in t log) left
      → AreStandingParts root t us (w ∷ left) log d bs [] ss es → AreStandingParts root t us left (shown_log w log) d bs [] uu es
  parts_shown d (b ∷ bs) (s ∷ ss) (u ∷ uu) (e ∷ es) made is known fits ends x = elim made [
    | inl y ↦
        let idle : u.pending ≡ [] = ap (λ (v : Session). v.pending) y.1 ∙ y.0 in
        let rest : left ≡ all_pending uu = is ∙ ap (λ (ws : List Write). ws ++ all_pending uu) idle in
        let own = part_idle root t us left w log d b s (all_pending ss) e y.0 x.0 in
        let later = parts_shown (suc d) bs ss uu es y.2 rest known.1 fits ends (subst (λ (ws : List Write). AreStandingParts root t us (w ∷ left) log (suc d) bs ws ss es) y.0 x.1) in (
          subst (λ (v : Session). IsStandingPart root t us left (shown_log w log) d b [] v (all_pending uu) e) (sym y.1) (behind_any d b s (all_pending ss) (all_pending uu) e y.0 own),
          subst (λ (ws : List Write). AreStandingParts root t us left (shown_log w log) (suc d) bs ws uu es) (sym idle) later,
        )
    | inr y ↦
        let own = left_is s u y.0 y.2 in
        let same : all_pending uu ≡ all_pending ss = ap all_pending y.3 in
        let cut : left ≡ y.0 ++ all_pending ss = is ∙ ap (λ (ws : List Write). ws ++ all_pending uu) own ∙ ap (λ (ws : List Write). y.0 ++ ws) same in
        let first = the_part d b s u y.0 (all_pending ss) e y.1 y.2 cut known.0 fits ends x.0 in
        let rest = parts_behind (suc d) bs y.0 ss es (subst (λ (ws : List Write). AreStandingParts root t us (w ∷ left) log (suc d) bs ws ss es) y.1 x.1) in (
          subst (λ (ws : List Write). IsStandingPart root t us left (shown_log w log) d b [] u ws e) (sym same) first,
          subst (λ (vs : List Session). AreStandingParts root t us left (shown_log w log) (suc d) bs u.pending vs es) (sym y.3) (subst (λ (ws : List Write). AreStandingParts root t us left (shown_log w log) (suc d) bs ws ss es) (sym own) rest),
        )
  ]
    where
      behind_any : (d : ℕ) (b : Begun) (s : Session) (behind other : List Write) (e : Entry) → s.pending ≡ [] → IsStandingPart root t us left (shown_log w log) d b [] s behind e → IsStandingPart root t us left (shown_log w log) d b [] s other e
      behind_any d b s behind other e idle x = record {
        name = x.name;
        early = x.early;
        going = x.going;
        each = x.each;
        run = x.run;
        past = x.past;
        phase = elim x.phase [
          | inl done ↦ inl done
          | inr due ↦ absurd (due.some idle)
        ];
      }
  parts_shown d bs [] uu es made is known fits ends x = absurd made
  parts_shown d bs (s ∷ ss) [] es made is known fits ends x = absurd made
  parts_shown d [] (s ∷ ss) (u ∷ uu) es made is known fits ends x = absurd x
  parts_shown d (b ∷ bs) (s ∷ ss) (u ∷ uu) [] made is known fits ends x = absurd x

-- ---- What was retired is free, or forgotten

freed_one : (keeps : Bool) (img : List ℕ) (t v : Space) (root : Super) (us : List Used) (e : Entry) → Freed keeps t v → IsOne img t root us e → IsOne img v root us e
freed_one keeps img t v root us e freed x =
    let known = freed_or_kept keeps img e.name e.moment e.address t v e.held freed (record { knows = x.knows; is = x.held_is }) in
    record { knows = known.knows; super_is = x.super_is; root_is = x.root_is; held_is = known.is; cols = x.cols }

freed_all : (keeps : Bool) (img : List ℕ) (t v : Space) (root : Super) (us : List Used) (es : List Entry) → Freed keeps t v → AreKnown img t root us es → AreKnown img v root us es
freed_all keeps img t v root us [] freed x = tt
freed_all keeps img t v root us (e ∷ es) freed x = (freed_one keeps img t v root us e freed x.0, freed_all keeps img t v root us es freed x.1)

module _ (p : PartLaws) (keeps : Bool) (root : Super) (t v : Space) (us : List Used) (log : FileLog) (freed : Freed keeps t v) where
  part_freed : (left : List Write) (d : ℕ) (b : Begun) (before : List Write) (s : Session) (behind : List Write) (e : Entry) → s.pending ≡ [] → IsStandingPart root t us left log d b before s behind e → IsStandingPart root v us left log d b before s behind e
  part_freed left d b before s behind e idle x = record {
    name = x.name;
    early = x.early;
    going = x.going;
    each = x.each;
    run = x.run;
    past = x.past;
    phase = elim x.phase [
      | inl done ↦
          let r = done.runs.running in
          let next = p.freed (rested root t s) done.own r keeps v x.early (subst (λ (y : Space). Freed keeps y v) (sym done.runs.rest_is) freed) in
          inl (record {
            calm = done.calm;
            own = done.own;
            seen = subst (λ (n : ℕ). IsOwn n log d b done.own left) (sym (freed_keeps keeps t v freed).1) done.seen;
            runs = record {
              running = next.running;
              after = next.after ∙ done.runs.after;
              address_is = next.address_is ∙ done.runs.address_is;
              held_is = next.held_is ∙ done.runs.held_is;
              rest_is = next.rest_is;
            };
          })
      | inr due ↦ absurd (due.some idle)
    ];
  }

  parts_freed : (left : List Write) (d : ℕ) (bs : List Begun) (before : List Write) (ss : List Session) (es : List Entry) → all_pending ss ≡ [] → AreStandingParts root t us left log d bs before ss es → AreStandingParts root v us left log d bs before ss es
  parts_freed left d [] before [] [] idle x = tt
  parts_freed left d (b ∷ bs) before (s ∷ ss) (e ∷ es) idle x =
      (part_freed left d b before s (all_pending ss) e (front_nil s.pending (all_pending ss) idle) x.0, parts_freed left (suc d) bs (before ++ s.pending) ss es (back_nil s.pending (all_pending ss) idle) x.1)
  parts_freed left d [] before (s ∷ ss) es idle x = absurd x
  parts_freed left d [] before [] (e ∷ es) idle x = absurd x
  parts_freed left d (b ∷ bs) before [] es idle x = absurd x
  parts_freed left d (b ∷ bs) before (s ∷ ss) [] idle x = absurd x

pub freed_stands : PartLaws → (S : Sessions) (v : Space) (keeps : Bool) (log : FileLog) → Freed keeps S.places v → all_pending S.parts ≡ [] → StandsOn S log → StandsOn (record S { places = v }) log
freed_stands p S v keeps log freed idle st =
    let kept = freed_keeps keeps S.places v freed in
    let most : most_in v log ≡ most_in S.places log = ap (λ (n : ℕ). let y : Space = record v { limit = n } in most_in y log) kept.1 in
    record {
      ranges = st.ranges;
      entries = st.entries;
      known = freed_all keeps (last_image log (all_pending S.parts)) S.places v S.root st.ranges st.entries freed st.known;
      off = st.off;
      blocks = st.blocks;
      parts = parts_freed p keeps S.root S.places v st.ranges log freed (all_pending S.parts) 0 log.sets [] S.parts st.entries idle st.parts;
      fits = omega (arith, st.fits, kept.0, most);
      low = omega (arith, st.low, kept.1);
      ends = subst (λ (n : ℕ). AllEndBy n (pieces_in log.events ++ all_pending S.parts)) (sym most) st.ends;
      going = st.going;
      valid = st.valid;
      course = st.course;
    }

-- ---- The session

pub shown_stands : PartLaws → (old new : Sessions) (w : Write) (log : FileLog) → StandsOn old log → AfterPieceOf w old new → StandsOn new (and_then (shows_all w) log)
shown_stands p old new w log st x =
    let left = all_pending new.parts in
    let is = shown_left w old.parts new.parts x.parts in
    let next = shown_log w log in
    let us = st.ranges in
    let known = subst (λ (ws : List Write). AreKnown (last_image log ws) old.places old.root us st.entries) is st.known in
    let parts = subst (λ (ws : List Write). AreStandingParts old.root old.places us ws log 0 log.sets [] old.parts st.entries) is st.parts in
    let ends = subst (λ (ws : List Write). AllEndBy (most_in old.places log) (pieces_in log.events ++ ws)) is st.ends in
    let more : pieces_in log.events ++ (w ∷ left) ≡ pieces_in next.events ++ left = sym (append_assoc (pieces_in log.events) (w ∷ []) left) in
    let tail = ends_back (most_in old.places log) (w ∷ []) left (ends_back (most_in old.places log) (pieces_in log.events) (w ∷ left) ends) in
    let mid : Sessions = record old { parts = new.parts } in
    let on : StandsOn mid next = record {
      ranges = us;
      entries = st.entries;
      known = subst (λ (ws : List Write). AreKnown (image log.start ws) old.places old.root us st.entries) more known;
      off = st.off;
      blocks = st.blocks;
      parts = parts_shown p old.root old.places us w log left 0 log.sets old.parts new.parts st.entries x.parts refl known (record { ends = st.fits; low = st.low }) tail parts;
      fits = st.fits;
      low = st.low;
      ends = subst (λ (ws : List Write). AllEndBy (most_in old.places log) ws) more ends;
      going = st.going;
      valid = subst (λ (ws : List Write). AreValidFrom log.first log.start (names_of st.entries) ws) more (subst (λ (ws : List Write). AreValidFrom log.first log.start (names_of st.entries) (pieces_in log.events ++ ws)) is st.valid);
      course = (subst (λ (ws : List Write). AreThrough log (stands_of 0 log.sets (names_of st.entries)) ws) is st.course).1;
    } in
    elim x.places [
      | inl free ↦ subst (λ (y : Sessions). StandsOn y next) (sym x.session) (freed_stands p mid new.places old.keeps next free.2 free.1 on)
      | inr same ↦ subst (λ (y : Sessions). StandsOn y next) (sym (x.session ∙ ap (λ (v : Space). let y : Sessions = record old { places = v; parts = new.parts } in y) same.1)) on
    ]
