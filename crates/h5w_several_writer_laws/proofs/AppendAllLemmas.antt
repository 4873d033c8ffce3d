-- What a session of several datasets is once values were appended to one of them, and where a flush was refused.
use Rattle.std.proofs.Common.{◌≡◌, ℕ, zero, suc, ◌+◌, ◌<◌, false, List, [], ◌∷◌, ◌++◌, ℤ, Some, None, refl, sym, ◌∙◌, ap, subst, inl, inr, arith}
use Rattle.std.specs.Prelude.{slice_get, slice_set, ◌==◌}
use Rattle.std.proofs.lemmas.Bool.{cond-true, eq-eqb, ne_eqb}
use Rattle.h5w_model.specs.Findings.{Used}
use Rattle.h5w_model.specs.Logs.{Log, Happening, and_now, appends}
use Rattle.h5w_model.specs.Prefixed.{PrefixedEach}
use Rattle.h5w_model.specs.Several.{Begun, FileLog, appends_to, log_of, pieces_in, seen_by}
use Rattle.h5w_model.specs.declared.piece.Write.{Write}
use Rattle.h5w_model.specs.declared.root.Super.{Super}
use Rattle.h5w_space.specs.Space.{Space}
use Rattle.h5w_several_laws.specs.Together.{names_of}
use Rattle.h5w_several_laws.specs.Turns.{AreKnown, Entry}
use Rattle.h5w_writer.specs.Flushes.{SameBut}
use Rattle.h5w_writer.specs.Refusals.{append_refusal}
use Rattle.h5w_writer.specs.Sessions.{AllEndBy, AreRows, Session, with_values}
use Rattle.h5w_writer.specs.PartLaws.{PartLaws}
use Rattle.h5w_several_writer_laws.specs.Sessions.{AppendsTo, AreSameBut, SameButHeld, Sessions, all_pending}
use Rattle.h5w_several_writer_laws.specs.Courses.{AreThrough, stands_of}
use Rattle.h5w_several_writer_laws.specs.Valid.{AreValidFrom}
use Rattle.h5w_several_writer_laws.specs.Standing.{AreStandingParts, HasRun, IsStandingPart, StandsOn, and_then, last_image, most_in, rested}
use Rattle.h5w_several_writer_laws.proofs.RunLemmas.{appended_run}
use Rattle.h5w_several_writer_laws.proofs.SightLemmas.{others_values, seen_appended, seen_other}
use Rattle.h5w_several_writer_laws.proofs.FlushAllLemmas.{back_nil, front_nil}

some_is : {A : Type 0} (x y : A) → Some x ≡ Some y → x ≡ y
some_is x y e = cc

-- ---- Values are appended

-- what is pending stays
same_pending : (ss : List Session) (i : ℕ) (part : Session) (values : List ℤ) → slice_get ss i ≡ Some part → all_pending (slice_set ss i (with_values part values)) ≡ all_pending ss
same_pending [] i part values is = absurd cc
same_pending (s ∷ ss) zero part values is = ap (λ (y : Session). y.pending ++ all_pending ss) (sym (some_is s part is))
same_pending (s ∷ ss) (suc i) part values is = ap (λ (ws : List Write). s.pending ++ ws) (same_pending ss i part values is)

module _ (p : PartLaws) (root : Super) (t : Space) (us : List Used) (log : FileLog) (n : ℕ) (values : List ℤ) where
  abbrev next : FileLog
  next = and_then (appends_to n values) log

  other_part : (d : ℕ) (b : Begun) (before : List Write) (s : Session) (behind : List Write) (e : Entry) → (n == d) ≡ false → s.pending ≡ [] → IsStandingPart root t us [] log d b before s behind e → IsStandingPart root t us [] next d b before s behind e
  other_part d b before s behind e other idle x = record {
    name = x.name;
    early = x.early;
    going = x.going;
    each = subst (λ (hs : List Happening). PrefixedEach s.name (let l : Log = record (log_of d b log) { events = hs } in l)) (sym (others_values d n values log.events other)) x.each;
    run = elim x.run [
      | inl h ↦ inl (subst (λ (hs : List Happening). HasRun s.name (let l : Log = record (log_of d b log) { events = hs } in l) [] e) (sym (others_values d n values log.events other)) h)
      | inr u ↦ absurd (u.some refl)
    ];
    past = record { raised = x.past.raised; addressed = x.past.addressed; next = x.past.next };
    phase = elim x.phase [
      | inl done ↦ inl (record { calm = done.calm; own = done.own; seen = seen_other log d n b done.own values [] other done.seen; runs = done.runs })
      | inr due ↦ absurd (due.some idle)
    ];
  }

  other_parts : (d : ℕ) (bs : List Begun) (before : List Write) (ss : List Session) (es : List Entry) → n < d → all_pending ss ≡ [] → AreStandingParts root t us [] log d bs before ss es → AreStandingParts root t us [] next d bs before ss es
  other_parts d [] before [] [] low idle x = tt
  other_parts d (b ∷ bs) before (s ∷ ss) (e ∷ es) low idle x = (
    other_part d b before s (all_pending ss) e (ne_eqb n d (λ same. omega (arith, low, same))) (front_nil s.pending (all_pending ss) idle) x.0,
    other_parts (suc d) bs (before ++ s.pending) ss es (omega (arith, low)) (back_nil s.pending (all_pending ss) idle) x.1,
  )
  other_parts d [] before (s ∷ ss) es low idle x = absurd x
  other_parts d [] before [] (e ∷ es) low idle x = absurd x
  other_parts d (b ∷ bs) before [] es low idle x = absurd x
  other_parts d (b ∷ bs) before (s ∷ ss) [] low idle x = absurd x

  own_part : (b : Begun) (before : List Write) (s : Session) (behind : List Write) (e : Entry) → s.pending ≡ [] → AreRows s values → append_refusal s values ≡ None → IsStandingPart root t us [] log n b before s behind e
      → IsStandingPart root t us [] next n b before (with_values s values) behind e
  own_part b before s behind e idle rows accepted x = elim x.phase [
    | inl done ↦
        let r = done.runs.running in
        let at = rested root t s in
        let fine : append_refusal at values ≡ None = subst (λ (ws : List Write). append_refusal (let y : Session = record s { root = root; places = t; pending = ws } in y) values ≡ None) idle accepted in
        let runs = p.appends at values done.own r rows fine in
        let seen = seen_appended log n b done.own values done.seen in
        let is : log_of n b next ≡ and_now (appends values) (log_of n b log) =
        ap (λ (hs : List Happening). let l : Log = record (log_of n b log) { events = hs } in l) (cond-true (n == n) (appends values ∷ seen_by n log.events) (seen_by n log.events) (eq-eqb n n refl)) in
        let run : HasRun s.name (log_of n b next) [] e = elim x.run [
          | inl h ↦ subst (λ (l : Log). HasRun s.name l [] e) (sym is) (appended_run s.name (log_of n b log) values e h)
          | inr u ↦ absurd (u.some refl)
        ] in
        record {
          name = x.name;
          early = x.early;
          going = x.going;
          each = run.runs.goes.prefixed;
          run = inl run;
          past = record { raised = x.past.raised; addressed = x.past.addressed; next = x.past.next };
          phase = inl (record {
            calm = done.calm;
            own = and_now (appends values) done.own;
            seen = seen;
            runs = record {
              running = runs.running;
              after = runs.after ∙ done.runs.after;
              address_is = runs.address_is ∙ done.runs.address_is;
              held_is = runs.held_is ∙ done.runs.held_is;
              rest_is = runs.rest_is ∙ done.runs.rest_is;
            };
          });
        }
    | inr due ↦ absurd (due.some idle)
  ]

  parts_append : (i d : ℕ) (bs : List Begun) (before : List Write) (ss : List Session) (es : List Entry) (part : Session) → n ≡ d + i → slice_get ss i ≡ Some part → AreRows part values → append_refusal part values ≡ None → all_pending ss ≡ []
      → AreStandingParts root t us [] log d bs before ss es → AreStandingParts root t us [] next d bs before (slice_set ss i (with_values part values)) es
  parts_append zero d (b ∷ bs) before (s ∷ ss) (e ∷ es) part number is rows accepted idle x =
      let same = some_is s part is in
      let at : n ≡ d = omega (arith, number) in
      let own = own_part b before s (all_pending ss) e (front_nil s.pending (all_pending ss) idle) (subst (λ (y : Session). AreRows y values) (sym same) rows) (subst (λ (y : Session). append_refusal y values ≡ None) (sym same) accepted)
      (subst (λ (k : ℕ). IsStandingPart root t us [] log k b before s (all_pending ss) e) (sym at) x.0) in
      let rest = other_parts (suc d) bs (before ++ s.pending) ss es (omega (arith, at)) (back_nil s.pending (all_pending ss) idle) x.1 in
      subst (λ (y : Session). AreStandingParts root t us [] next d (b ∷ bs) before (with_values y values ∷ ss) (e ∷ es)) same (subst (λ (k : ℕ). IsStandingPart root t us [] next k b before (with_values s values) (all_pending ss) e) at own, rest)
  parts_append (suc i) d (b ∷ bs) before (s ∷ ss) (e ∷ es) part number is rows accepted idle x =
      let pending = same_pending ss i part values is in
      let own = other_part d b before s (all_pending ss) e (ne_eqb n d (λ same. omega (arith, number, same))) (front_nil s.pending (all_pending ss) idle) x.0 in (
        subst (λ (ws : List Write). IsStandingPart root t us [] next d b before s ws e) (sym pending) own,
        parts_append i (suc d) bs (before ++ s.pending) ss es part (omega (arith, number)) is rows accepted (back_nil s.pending (all_pending ss) idle) x.1,
      )
  parts_append i d bs before [] es part number is rows accepted idle x = absurd cc
  parts_append i d [] before (s ∷ ss) es part number is rows accepted idle x = absurd x
  parts_append i d (b ∷ bs) before (s ∷ ss) [] part number is rows accepted idle x = absurd x

pub appends_stand : PartLaws → (old new : Sessions) (d : ℕ) (values : List ℤ) (log : FileLog) → StandsOn old log → all_pending old.parts ≡ [] → (x : AppendsTo d values old new) → AreRows x.part values → append_refusal x.part values ≡ None
    → StandsOn new (and_then (appends_to d values) log)
appends_stand p old new d values log st idle x rows accepted =
    let left = all_pending old.parts in
    let parts = slice_set old.parts d (with_values x.part values) in
    let next = and_then (appends_to d values) log in
    let same : all_pending parts ≡ left = same_pending old.parts d x.part values x.is in
    let before = subst (λ (ws : List Write). AreStandingParts old.root old.places st.ranges ws log 0 log.sets [] old.parts st.entries) idle st.parts in
    let after = parts_append p old.root old.places st.ranges log d values d 0 log.sets [] old.parts st.entries x.part (let z : d ≡ 0 + d = omega arith in z) x.is rows accepted idle before in
    subst (λ (y : Sessions). StandsOn y next) (sym x.session) (record {
      ranges = st.ranges;
      entries = st.entries;
      known = subst (λ (ws : List Write). AreKnown (last_image log ws) old.places old.root st.ranges st.entries) (sym same) st.known;
      off = st.off;
      blocks = st.blocks;
      parts = subst (λ (ws : List Write). AreStandingParts old.root old.places st.ranges ws next 0 log.sets [] parts st.entries) (sym (same ∙ idle)) after;
      fits = st.fits;
      low = st.low;
      ends = subst (λ (ws : List Write). AllEndBy (most_in old.places log) (pieces_in log.events ++ ws)) (sym same) st.ends;
      going = st.going;
      valid = subst (λ (ws : List Write). AreValidFrom log.first log.start (names_of st.entries) (pieces_in log.events ++ ws)) (sym same) st.valid;
      course = subst (λ (ws : List Write). AreThrough next (stands_of 0 log.sets (names_of st.entries)) ws) (sym (same ∙ idle)) tt;
    })

-- ---- A flush is refused

refused_pending : (ss uu : List Session) → AreSameBut ss uu → all_pending uu ≡ all_pending ss
refused_pending [] [] x = refl
refused_pending [] (u ∷ uu) x = absurd x
refused_pending (s ∷ ss) [] x = absurd x
refused_pending (s ∷ ss) (u ∷ uu) x = ap (λ (y : Session). y.pending ++ all_pending uu) x.0.session ∙ ap (λ (ws : List Write). s.pending ++ ws) (refused_pending ss uu x.1)

module _ (p : PartLaws) (root : Super) (t : Space) (us : List Used) (left : List Write) (log : FileLog) where
  refused_part : (d : ℕ) (b : Begun) (before : List Write) (s u : Session) (behind after : List Write) (e : Entry) → s.pending ≡ [] → SameBut s u → IsStandingPart root t us left log d b before s behind e → IsStandingPart root t us left log d b before u after e
  refused_part d b before s u behind after e idle x y = elim y.phase [
    | inl done ↦
        let r = done.runs.running in
        let same : SameBut (rested root t s) (rested root t u) = record { session = ap (rested root t) x.session; held = x.held; unmade = x.unmade; roomy = x.roomy } in
        let runs = p.refused (rested root t s) (rested root t u) done.own r same in
        let name = ap (λ (z : Session). z.name) x.session in
        record {
          name = y.name ∙ sym name;
          early = ap (λ (z : Session). z.early) x.session ∙ y.early;
          going = ap (λ (z : Session). z.stopped) x.session ∙ y.going;
          each = subst (λ (k : List ℕ). PrefixedEach k (log_of d b log)) (sym name) y.each;
          run = elim y.run [
            | inl h ↦ inl (subst (λ (k : List ℕ). HasRun k (log_of d b log) left e) (sym name) h)
            | inr u ↦ inr (record { calm = ap (λ (z : Session). z.flushing) x.session ∙ u.calm; some = u.some; new = u.new; first = u.first })
          ];
          past = y.past;
          phase = inl (record {
            calm = inl (ap (λ (z : Session). z.pending) x.session ∙ idle);
            own = done.own;
            seen = done.seen;
            runs = record {
              running = runs.running;
              after = runs.after ∙ done.runs.after;
              address_is = runs.address_is ∙ done.runs.address_is;
              held_is = runs.held_is ∙ done.runs.held_is;
              rest_is = runs.rest_is ∙ done.runs.rest_is;
            };
          });
        }
    | inr due ↦ absurd (due.some idle)
  ]

  refused_parts : (d : ℕ) (bs : List Begun) (before : List Write) (ss uu : List Session) (es : List Entry) → all_pending ss ≡ [] → AreSameBut ss uu → AreStandingParts root t us left log d bs before ss es → AreStandingParts root t us left log d bs before uu es
  refused_parts d [] before [] [] [] idle x y = tt
  refused_parts d (b ∷ bs) before (s ∷ ss) (u ∷ uu) (e ∷ es) idle x y =
      let same : u.pending ≡ s.pending = ap (λ (z : Session). z.pending) x.0.session in (
        refused_part d b before s u (all_pending ss) (all_pending uu) e (front_nil s.pending (all_pending ss) idle) x.0 y.0,
        subst (λ (ws : List Write). AreStandingParts root t us left log (suc d) bs (before ++ ws) uu es) (sym same) (refused_parts (suc d) bs (before ++ s.pending) ss uu es (back_nil s.pending (all_pending ss) idle) x.1 y.1),
      )
  refused_parts d bs before [] (u ∷ uu) es idle x y = absurd x
  refused_parts d bs before (s ∷ ss) [] es idle x y = absurd x
  refused_parts d [] before [] [] (e ∷ es) idle x y = absurd y
  refused_parts d (b ∷ bs) before [] [] es idle x y = absurd y
  refused_parts d [] before (s ∷ ss) (u ∷ uu) es idle x y = absurd y
  refused_parts d (b ∷ bs) before (s ∷ ss) (u ∷ uu) [] idle x y = absurd y

pub refused_stands : PartLaws → (old new : Sessions) (log : FileLog) → StandsOn old log → all_pending old.parts ≡ [] → SameButHeld old new → StandsOn new log
refused_stands p old new log st idle x =
    let same = refused_pending old.parts new.parts x.parts in
    let parts = refused_parts p old.root old.places st.ranges (all_pending old.parts) log 0 log.sets [] old.parts new.parts st.entries idle x.parts st.parts in
    subst (λ (y : Sessions). StandsOn y log) (sym x.session) (record {
      ranges = st.ranges;
      entries = st.entries;
      known = subst (λ (ws : List Write). AreKnown (last_image log ws) old.places old.root st.ranges st.entries) (sym same) st.known;
      off = st.off;
      blocks = st.blocks;
      parts = subst (λ (ws : List Write). AreStandingParts old.root old.places st.ranges ws log 0 log.sets [] new.parts st.entries) (sym same) parts;
      fits = st.fits;
      low = st.low;
      ends = subst (λ (ws : List Write). AllEndBy (most_in old.places log) (pieces_in log.events ++ ws)) (sym same) st.ends;
      going = st.going;
      valid = subst (λ (ws : List Write). AreValidFrom log.first log.start (names_of st.entries) (pieces_in log.events ++ ws)) (sym same) st.valid;
      course = subst (λ (ws : List Write). AreThrough log (stands_of 0 log.sets (names_of st.entries)) ws) (sym (same ∙ idle)) tt;
    })
