-- The steps of an append to several datasets: batches that are closed, and lines that are taken.
use Rattle.std.proofs.Common.{◌≡◌, ◌≢◌, ◌⊎◌, ℕ, zero, suc, ◌+◌, ◌*◌, ◌<◌, ◌≤◌, Bool, true, false, List, [], ◌∷◌, ◌++◌, length, map, ℤ, Option, Some, None, Result, Ok, Err, refl, sym, ap, ◌∙◌, subst, inl, inr, arith}
use Rattle.std.specs.Prelude.{OnOk, nat_lt, if◌then◌else◌, slice_get}
use Rattle.std.proofs.lemmas.List.{length-map}
use Rattle.h5w_model.specs.Causes.{Rose}
use Rattle.h5w_model.specs.Lawful.{first_outside}
use Rattle.h5w_model.specs.Several.{FileLog, appends_to, plans_each}
use Rattle.h5w_model.specs.declared.piece.Write.{Write}
use Rattle.h5w_image.specs.View.{DiskView, IsThere, Same}
use Rattle.h5w_writer.specs.Refusals.{append_refusal}
use Rattle.h5w_writer.specs.Sessions.{AreRows, Session, rows_of}
use Rattle.h5w_writer.specs.declared.refusal.AppendError.{AppendError}
use Rattle.h5w_writer.specs.declared.refusal.AppendError.TheVariants as append_errors
use Rattle.h5w_text.specs.Streams.{SinkView, Gave, GaveSome}
use Rattle.h5w_text.specs.declared.error.ErrorLine.TheVariants as errors
use Rattle.h5w_batches.specs.Batches.{AreWholeRows}
use Rattle.h5w_batches.specs.declared.error.BatchError.{BatchError}
use Rattle.h5w_batches.specs.declared.error.BatchError.TheVariants as batch_errors
use Rattle.h5w_files.specs.Images.{file_image}
use Rattle.h5w_files.proofs.ImageLemmas.{same_name}
use Rattle.h5w_files.proofs.SinkLemmas.{gave_both}
use Rattle.h5w_appending.specs.Appending.{Unput}
use Rattle.h5w_appending.specs.Puts.{writes_of}
use Rattle.h5w_appending.proofs.OpenLemmas.{there_on}
use Rattle.h5w_appending.proofs.PutLemmas.{length-writes, puts_there}
use Rattle.h5w_several_batches.specs.SetLines.{HasNoMeaning, columns_at, set_line_of}
use Rattle.h5w_several_batches.specs.declared.line.SetLine.TheVariants.{Numbers, Use}
use Rattle.h5w_several_writer.specs.Flows.{PlansAll, all_waits}
use Rattle.h5w_several_writer.specs.Refusals.{HasRoomForAll, append_refusal_in}
use Rattle.h5w_several_writer_laws.specs.Sessions.{AppendsTo, AreParts, AreSessions, IsPart, Sessions, all_pending, counts_of as pieces_of}
use Rattle.h5w_several_writer_laws.specs.Standing.{StandsAll, and_then}
use Rattle.h5w_appending.proofs.StepLemmas.{nothing_put}
use Rattle.h5w_several_appending.specs.Appending.{AppendsAll, AppendsBy, ClosesOn, FlushesBy, HasNone, IsReady, LineCause, LinesOn, Planned, PutsAll, PutsBy, ReadyUnlessDisk, SaysOn, Told, Unflushed, ending_of, not_read, not_taken, says_nothing, wanting}
use Rattle.h5w_several_appending.specs.Stores.{Stored, datasets_of}
use Rattle.h5w_several_appending.specs.Taken.{SetBatches, close_each, columns_in, end_each, rows_with, told_line, told_text}
use Rattle.h5w_several_appending.specs.declared.batching.Ending.{Ending}
use Rattle.h5w_several_appending.specs.declared.batching.Ending.TheVariants as endings
use Rattle.h5w_several_appending.proofs.PartLemmas.{added_columns, added_pending, alike_columns, but_pending, none_taken, planned_columns, some_taken, taken_rows}
use Rattle.h5w_several_appending.proofs.PutLemmas.{all_put}
use Rattle.h5w_several_appending.proofs.SetLemmas.{close_none, close_some, closed_none, closed_text_is}
use Rattle.h5w_several_appending.proofs.StoreLemmas.{broke_batch, broke_before, stored_batch, stored_same, stored_unflushed, stored_used, stored_values}

-- ---- A dataset of the session

part_at : (S : Sessions) (ss : List Session) (d : ℕ) (s : Session) → slice_get ss d ≡ Some s → AreParts S ss → IsPart S s
part_at S [] d s is h = absurd (cc)
part_at S (x ∷ ss) zero s is h = let first : x ≡ s = cc in subst (λ (y : Session). IsPart S y) first h.0
part_at S (x ∷ ss) (suc d) s is h = part_at S ss d s is h.1

nil_first : (xs ys : List Write) → xs ++ ys ≡ [] → xs ≡ []
nil_first [] ys e = refl
nil_first (x ∷ xs) ys e = absurd (cc)

nil_second : (xs ys : List Write) → xs ++ ys ≡ [] → ys ≡ []
nil_second [] ys e = e
nil_second (x ∷ xs) ys e = absurd (cc)

idle_at : (ss : List Session) (d : ℕ) (s : Session) → slice_get ss d ≡ Some s → all_pending ss ≡ [] → s.pending ≡ []
idle_at [] d s is e = absurd (cc)
idle_at (x ∷ ss) zero s is e = let first : x ≡ s = cc in ap (λ (y : Session). y.pending) (sym first) ∙ nil_first x.pending (all_pending ss) e
idle_at (x ∷ ss) (suc d) s is e = idle_at ss d s is (nil_second x.pending (all_pending ss) e)

pub columns_get : (ss : List Session) (d : ℕ) (s : Session) → slice_get ss d ≡ Some s → columns_at (columns_in ss) d ≡ s.dataset.shape.cols
columns_get [] d s is = absurd (cc)
columns_get (x ∷ ss) zero s is = let first : x ≡ s = cc in ap (λ (y : Session). y.dataset.shape.cols) first
columns_get (x ∷ ss) (suc d) s is = columns_get ss d s is

-- whole rows of it
pub rows_at : (ss : List Session) (d : ℕ) (s : Session) (values : List ℤ) → slice_get ss d ≡ Some s → AreWholeRows (columns_at (columns_in ss) d) values → AreRows s values
rows_at ss d s values is rows = (rows.0, rows.1 ∙ ap (λ c. rows.0 * c) (columns_get ss d s is))

-- ---- Refusals that a session gives which is ready

refused_first : {E : Type 0} (stopped : Bool) (pending : ℕ) (x e : E) (y : ℕ → E) (o : Option E) → stopped ≡ false → pending ≡ 0 → (if stopped then Some x else if nat_lt 0 pending then Some (y pending) else o) ≡ Some e → o ≡ Some e
refused_first stopped pending x e y o running idle h =
    subst (λ n. (if nat_lt 0 n then Some (y n) else o) ≡ Some e) idle (subst (λ (t : Bool). (if t then Some x else if nat_lt 0 pending then Some (y pending) else o) ≡ Some e) running h)

abbrev pub CauseOf : Sessions → Session → List ℤ → AppendError → Type 0
CauseOf S s values e = (append_refusal_in S s values ≡ Some e) ⊎ ((e ≡ append_errors.Failed) ⊎ (e ≡ append_errors.OutOfMemory))

-- of its own
own_refusal : {v : DiskView} (name : List ℕ) (S : Sessions) (s : Session) (values : List ℤ) (e : AppendError) → IsReady name S v → append_refusal_in S s values ≡ Some e → append_refusal s values ≡ Some e
own_refusal name S s values e ready h = refused_first S.stopped (length (all_pending S.parts)) append_errors.Stopped e (λ n. append_errors.Busy n) (append_refusal s values) ready.running (ap length ready.idle) h

outside_of : (f : Option (ℕ × ℤ)) (b : Bool) (chunks limit i : ℕ) (x : ℤ)
    → (elim f [ Some y ↦ Some (append_errors.OutOfRange y.0 y.1) | None ↦ (if b then Some (append_errors.Chunks chunks limit) else None) ]) ≡ Some (append_errors.OutOfRange i x) → f ≡ Some (i, x)
outside_of (Some y) b chunks limit i x h = let first : y.0 ≡ i = cc in let second : y.1 ≡ x = cc in (λ j. Some (first j, second j))
outside_of None true chunks limit i x h = absurd (cc)
outside_of None false chunks limit i x h = absurd (cc)

-- a value outside the type is the first
pub out_of_range_of : {v : DiskView} (name : List ℕ) (S : Sessions) (d : ℕ) (s : Session) (values : List ℤ) (i : ℕ) (x : ℤ) → IsReady name S v → AreSessions S → slice_get S.parts d ≡ Some s → CauseOf S s values (append_errors.OutOfRange i x)
    → first_outside s.dataset.int_type 0 values ≡ Some (i, x)
out_of_range_of name S d s values i x ready sessions is (inl r) =
    outside_of (first_outside s.dataset.int_type 0 values) _ _ _ i x
    (refused_first s.stopped (length s.pending) append_errors.Stopped (append_errors.OutOfRange i x) (λ n. append_errors.Busy n) _ ((part_at S S.parts d s is sessions.each).stopped ∙ ready.running) (ap length (idle_at S.parts d s is ready.idle))
    (own_refusal name S s values (append_errors.OutOfRange i x) ready r))
out_of_range_of name S d s values i x ready sessions is (inr (inl e)) = absurd (cc)
out_of_range_of name S d s values i x ready sessions is (inr (inr e)) = absurd (cc)

pub too_many_of : {v : DiskView} (name : List ℕ) (S : Sessions) (s : Session) (values : List ℤ) (c l : ℕ) → IsReady name S v → CauseOf S s values (append_errors.Chunks c l) → append_refusal s values ≡ Some (append_errors.Chunks c l)
too_many_of name S s values c l ready (inl r) = own_refusal name S s values (append_errors.Chunks c l) ready r
too_many_of name S s values c l ready (inr (inl e)) = absurd (cc)
too_many_of name S s values c l ready (inr (inr e)) = absurd (cc)

kinds_of : (f : Option (ℕ × ℤ)) (b : Bool) (chunks limit : ℕ) (e : AppendError)
    → (elim f [ Some x ↦ Some (append_errors.OutOfRange x.0 x.1) | None ↦ (if b then Some (append_errors.Chunks chunks limit) else None) ]) ≡ Some e
    → ((x : ℕ × ℤ) × (e ≡ append_errors.OutOfRange x.0 x.1)) ⊎ (e ≡ append_errors.Chunks chunks limit)
kinds_of (Some x) b chunks limit e h = let is : append_errors.OutOfRange x.0 x.1 ≡ e = cc in inl (x, sym is)
kinds_of None true chunks limit e h = let is : append_errors.Chunks chunks limit ≡ e = cc in inr (sym is)
kinds_of None false chunks limit e h = absurd (cc)

never_of : {v : DiskView} (name : List ℕ) (S : Sessions) (d : ℕ) (s : Session) (values : List ℤ) (e : AppendError) → IsReady name S v → AreSessions S → slice_get S.parts d ≡ Some s → CauseOf S s values e → ((i : ℕ) (x : ℤ) → e ≡ append_errors.OutOfRange i x → ⊥)
    → ((c l : ℕ) → e ≡ append_errors.Chunks c l → ⊥) → (e ≡ append_errors.Failed → ⊥) → (e ≡ append_errors.OutOfMemory → ⊥) → ⊥
never_of name S d s values e ready sessions is (inr (inl f)) no_range no_chunks no_fault no_memory = no_fault f
never_of name S d s values e ready sessions is (inr (inr m)) no_range no_chunks no_fault no_memory = no_memory m
never_of name S d s values e ready sessions is (inl r) no_range no_chunks no_fault no_memory =
    let h = refused_first s.stopped (length s.pending) append_errors.Stopped e (λ n. append_errors.Busy n) _ ((part_at S S.parts d s is sessions.each).stopped ∙ ready.running) (ap length (idle_at S.parts d s is ready.idle)) (own_refusal name S s values e ready r) in
    elim (kinds_of (first_outside s.dataset.int_type 0 values) _ _ _ e h) [ inl x ↦ no_range x.0.0 x.0.1 x.1 | inr c ↦ no_chunks _ _ c ]

pub never_stopped : {v : DiskView} (name : List ℕ) (S : Sessions) (d : ℕ) (s : Session) (values : List ℤ) → IsReady name S v → AreSessions S → slice_get S.parts d ≡ Some s → CauseOf S s values append_errors.Stopped → ⊥
never_stopped name S d s values ready sessions is c = never_of name S d s values append_errors.Stopped ready sessions is c (λ i x e. cc) (λ a b e. cc) (λ e. cc) (λ e. cc)

pub never_busy : {v : DiskView} (name : List ℕ) (S : Sessions) (d n : ℕ) (s : Session) (values : List ℤ) → IsReady name S v → AreSessions S → slice_get S.parts d ≡ Some s → CauseOf S s values (append_errors.Busy n) → ⊥
never_busy name S d n s values ready sessions is c = never_of name S d s values (append_errors.Busy n) ready sessions is c (λ i x e. cc) (λ a b e. cc) (λ e. cc) (λ e. cc)

-- ---- Calls that are not refused

pub appended_ok : (v w : DiskView) (r q : ℕ) (name other : List ℕ) (d : ℕ) (S T : Sessions) (values : List ℤ) → Same (file_image r name v) (file_image q other w) → AppendsTo d values S T
    → ((log : FileLog) → StandsAll S log → StandsAll T (and_then (appends_to d values) log)) → HasRoomForAll T (file_image q other w) → AppendsAll name d S T values w
appended_ok v w r q name other d S T values same added stands room = record {
  added = added;
  stands = stands;
  room = let low = room.pieces in omega (arith, low);
  end = subst (λ (m : List ℕ). T.places.end ≤ w.end m) (same_name r q name other v.through w.through same.through).0 room.end;
}

pub planned_ok : (v w : DiskView) (r q : ℕ) (name other : List ℕ) (S T : Sessions) (counts : List ℕ) → Same (file_image r name v) (file_image q other w) → PlansAll S T → counts ≡ pieces_of T.parts
    → ((log : FileLog) → StandsAll S log → StandsAll T (and_then (plans_each counts) log)) → HasRoomForAll T (file_image q other w) → HasNone S T ⊎ Planned name S T w
planned_ok v w r q name other S T counts same plans count stands room = cases (all_waits S.parts) refl
  where
    cases : (k : ℕ) → all_waits S.parts ≡ k → HasNone S T ⊎ Planned name S T w
    cases zero e = inl (record { waits = e; same = plans.none e })
    cases (suc k) e = inr (record {
      waits = omega (arith, e);
      plans = plans;
      some = plans.some (omega (arith, e));
      stands = λ log h. subst (λ (ns : List ℕ). StandsAll T (and_then (plans_each ns) log)) count (stands log h);
      room = room.pieces;
      end = subst (λ (m : List ℕ). T.places.end ≤ w.end m) (same_name r q name other v.through w.through same.through).0 room.end;
    })

pub none_planned : {x : DiskView} (name : List ℕ) (S T : Sessions) → HasNone S T ⊎ Planned name S T x → length (all_pending T.parts) ≡ 0 → HasNone S T
none_planned name S T (inl h) e = h
none_planned name S T (inr p) e = let some = p.some in absurd (omega (arith, some, e))

pub some_planned : {v x : DiskView} (name : List ℕ) (S T : Sessions) → IsReady name S v → HasNone S T ⊎ Planned name S T x → length (all_pending T.parts) ≢ 0 → Planned name S T x
some_planned name S T ready (inl h) some = absurd (some (ap (λ (y : Sessions). length (all_pending y.parts)) h.same ∙ ap length ready.idle))
some_planned name S T ready (inr p) some = p

-- ---- A session that can go on

ready_put : {v w : DiskView} (n : ℕ) (name : List ℕ) (S T : Sessions) → IsThere v name → S.stopped ≡ false → length (all_pending S.parts) + 1 ≤ v.pieces → S.places.end ≤ v.end name → PutsAll n name S T v w → IsReady name T w
ready_put {v} {w} n name S T there running room low q =
    let ps = q.puts in
    let count : length (all_pending S.parts) ≡ length (writes_of ps.puts) = ap length (all_put name S T ps q.all) in
    let puts = length-writes ps.puts in
    let end = ps.keeps.end in
    let ends = ps.ends in
    let left = ps.room in
    record {
      there = puts_there name ps.puts ps.disk there;
      running = ps.keeps.stopped ∙ running;
      idle = q.all;
      room = omega (arith, count, puts, room, left);
      end = omega (arith, end, low, ends);
    }

pub ready_begun : {v w : DiskView} (n : ℕ) (name : List ℕ) (S T : Sessions) → PutsAll n name S T v w → IsThere v name → S.stopped ≡ false → length (all_pending S.parts) + 1 ≤ v.pieces → S.places.end ≤ v.end name → IsReady name T w
ready_begun n name S T q there running room end = ready_put n name S T there running room end q

pub ready_values : {v w : DiskView} (name : List ℕ) (d : ℕ) (S T : Sessions) (values : List ℤ) → Unput name v w → AppendsAll name d S T values w → IsReady name S v → IsReady name T w
ready_values name d S T values p a ready =
    let is = a.added.session in record {
      there = there_on name p.disk ready.there;
      running = ap (λ (x : Sessions). x.stopped) is ∙ ready.running;
      idle = ap (λ (x : Sessions). all_pending x.parts) is ∙ added_pending S.parts d a.added.part values a.added.is ∙ ready.idle;
      room = a.room;
      end = a.end;
    }

pub ready_batch : {v x w : DiskView} (n : ℕ) (name : List ℕ) (S T R : Sessions) → Unput name v x → Planned name S T x → PutsAll n name T R x w → IsReady name S v → IsReady name R w
ready_batch n name S T R p plan q ready = ready_put n name T R (there_on name p.disk ready.there) (ap (λ (x : Sessions). x.stopped) plan.plans.session ∙ ready.running) plan.room plan.end q

-- one that stays
pub ready_unput : {v w : DiskView} (name : List ℕ) (S : Sessions) → Unput name v w → IsReady name S v → IsReady name S w
ready_unput name S p ready =
    let room = p.room in
    let before = ready.room in
    let end = p.end in
    let low = ready.end in
    record { there = there_on name p.disk ready.there; running = ready.running; idle = ready.idle; room = omega (arith, room, before); end = omega (arith, end, low) }

-- one whose flush was refused
pub ready_unflushed : {v w : DiskView} (name : List ℕ) (S T : Sessions) → Unput name v w → Unflushed S T → IsReady name S v → IsReady name T w
ready_unflushed {v} {w} name S T p a ready =
    let is = a.same.session in
    let room = p.room in
    let before = ready.room in
    let end = p.end in
    let low = ready.end in
    let same : T.places.end ≡ S.places.end = ap (λ (x : Sessions). x.places.end) is in
    record {
      there = there_on name p.disk ready.there;
      running = ap (λ (x : Sessions). x.stopped) is ∙ ready.running;
      idle = but_pending S.parts T.parts a.same.parts ∙ ready.idle;
      room = omega (arith, room, before);
      end = omega (arith, same, end, low);
    }

pub ready_same : {v w : DiskView} (name : List ℕ) (S T : Sessions) → T ≡ S → Unput name v w → IsReady name S v → IsReady name T w
ready_same {v} {w} name S T same p ready = subst (λ (x : Sessions). IsReady name x w) (sym same) (ready_unput name S p ready)

-- by the result of a flush, or of values that were appended
pub ready_flush_ended : {v w : DiskView} (name : List ℕ) (S T : Sessions) (e : Ending) → Unput name v w → FlushesBy name S T v w (Err e) → IsReady name S v → ReadyUnlessDisk {A = Unit {0}} name T w (Err e)
ready_flush_ended name S T (endings.Refused e) p h ready = ready_unflushed name S T p h.0 ready
ready_flush_ended name S T endings.Disk p h ready = tt
ready_flush_ended name S T endings.Sink p h ready = absurd h

pub ready_puts_ended : (x w : DiskView) (n : ℕ) (name : List ℕ) (T R : Sessions) (e : Ending) → PutsBy n name T R x w (Err e) → ReadyUnlessDisk {A = Unit {0}} name R w (Err e)
ready_puts_ended x w n name T R (endings.Refused e) h = absurd h
ready_puts_ended x w n name T R endings.Disk h = tt
ready_puts_ended x w n name T R endings.Sink h = absurd h

pub ready_appends : {v w : DiskView} (name : List ℕ) (number d : ℕ) (values : List ℤ) (S T : Sessions) (r : Result (Unit {0}) Ending) → Unput name v w → AppendsBy name number d values S T v w r → IsReady name S v → ReadyUnlessDisk name T w r
ready_appends name number d values S T (Ok a) p h ready = ready_values name d S T values p h ready
ready_appends name number d values S T (Err (endings.Refused e)) p h ready = ready_same name S T h.0 p ready
ready_appends name number d values S T (Err endings.Disk) p h ready = tt
ready_appends name number d values S T (Err endings.Sink) p h ready = absurd h

pub columns_appends : (v w : DiskView) (name : List ℕ) (number d : ℕ) (values : List ℤ) (S T : Sessions) (r : Result (Unit {0}) Ending) → AppendsBy name number d values S T v w r → OnOk r (columns_in T.parts ≡ columns_in S.parts)
columns_appends v w name number d values S T (Ok a) h = ap (λ (x : Sessions). columns_in x.parts) h.added.session ∙ added_columns S.parts d h.added.part values h.added.is
columns_appends v w name number d values S T (Err e) h = tt

pub columns_batch : {x w : DiskView} (n : ℕ) (name : List ℕ) (S T R : Sessions) → Planned name S T x → PutsAll n name T R x w → columns_in R.parts ≡ columns_in S.parts
columns_batch n name S T R plan q = alike_columns T.parts R.parts q.puts.keeps.parts ∙ planned_columns S.parts T.parts plan.plans.each

-- ---- Batches

pub told_unput : {u v w : DiskView} {k l : SinkView} (name : List ℕ) (first S : Sessions) (b : SetBatches) → Unput name v w → Told name first S b u v k l → Told name first S b u w k l
told_unput name first S b p t = record { stored = stored_same name first S b p t.stored; gave = t.gave }

-- its flush was refused, or the image failed
pub closes_ended : {v w : DiskView} (k : SinkView) (n : ℕ) (name : List ℕ) (S T : Sessions) (e : Ending) → IsReady name S v → Unput name v w → FlushesBy name S T v w (Err e) → ClosesOn n name S T v w k k (Err e)
closes_ended k n name S T (endings.Refused e) ready p h = λ first b u m counted told. (record { stored = stored_unflushed name first S T b ready.idle h.0 p told.stored; gave = told.gave }, h.1)
closes_ended {v} k n name S T endings.Disk ready p h =
    λ first b u m counted told. record { broke = broke_before name first h.0 T b h.2 p h.3 (stored_unflushed name first S h.0 b ready.idle h.1 (nothing_put v name) told.stored); gave = told.gave }
closes_ended k n name S T endings.Sink ready p h = absurd h

-- no row waits
pub closes_none : {v w : DiskView} {k : SinkView} (n : ℕ) (name : List ℕ) (S T : Sessions) → Unput name v w → HasNone S T → ClosesOn n name S T v w k k (Ok tt)
closes_none {v} {w} {k} n name S T p none = λ first b u m counted told.
    let ds = datasets_of first.parts in
    let same : close_each ds b ≡ b = close_none ds b (none_taken ds S.parts b.sets none.waits told.stored.taken.parts) in
    subst (λ (x : Sessions). Told name first x (close_each ds b) u w m k) (sym none.same) (subst (λ (c : SetBatches). Told name first S c u w m k) (sym same) (told_unput name first S b p told))

-- the disk failed at a piece
pub closes_broke : {v x : DiskView} (w : DiskView) (k : SinkView) (n : ℕ) (name : List ℕ) (S T R : Sessions) (e : Ending) → IsReady name S v → Unput name v x → Planned name S T x → PutsBy n name T R x w (Err e) → ClosesOn n name S R v w k k (Err e)
closes_broke w k n name S T R (endings.Refused e) ready p plan q = absurd q
closes_broke w k n name S T R endings.Disk ready p plan q = λ first b u m counted told. record { broke = broke_batch n name first S T R b counted ready.idle p plan q told.stored; gave = told.gave }
closes_broke w k n name S T R endings.Sink ready p plan q = absurd q

-- the line of a batch stands behind those before it
batch_line : (name : List ℕ) (first S : Sessions) (b : SetBatches) (u v : DiskView) (bytes : List ℕ) → 1 ≤ all_waits S.parts → Stored name first S b u v → bytes ≡ told_line (map rows_of S.parts)
    → told_text (close_each (datasets_of first.parts) b).told ≡ told_text b.told ++ bytes
batch_line name first S b u v bytes some h is =
    let ds = datasets_of first.parts in
    closed_text_is ds b (some_taken ds S.parts b.sets some h.taken.parts) ∙ ap (λ (t : List ℕ). told_text b.told ++ t) (ap told_line (taken_rows ds S.parts b.sets h.taken.parts) ∙ sym is)

-- all was put, and its line was written
pub closes_whole : {v x w : DiskView} {k l : SinkView} (n : ℕ) (name : List ℕ) (S T R : Sessions) (bytes : List ℕ) → IsReady name S v → Unput name v x → Planned name S T x → PutsAll n name T R x w → bytes ≡ told_line (map rows_of S.parts) → Gave bytes k l
    → ClosesOn n name S R v w k l (Ok tt)
closes_whole {v} {x} {w} {k} {l} n name S T R bytes ready p plan q is gave = λ first b u m counted told. record {
  stored = stored_batch n name first S T R b counted ready.idle p plan q told.stored;
  gave = subst (λ (y : List ℕ). Gave y m l) (sym (batch_line name first S b u v bytes plan.waits told.stored is)) (gave_both (told_text b.told) bytes told.gave gave);
}

-- and the sink failed at its line
pub closes_half : {v x w : DiskView} {k l : SinkView} (n : ℕ) (name : List ℕ) (S T R : Sessions) (bytes : List ℕ) → IsReady name S v → Unput name v x → Planned name S T x → PutsAll n name T R x w → bytes ≡ told_line (map rows_of S.parts) → Rose k.faults l.faults
    → GaveSome bytes k l → ClosesOn n name S R v w k l (Err endings.Sink)
closes_half {v} {x} {w} {k} {l} n name S T R bytes ready p plan q is rose gave = λ first b u m counted told.
    let ds = datasets_of first.parts in
    let some = some_taken ds S.parts b.sets plan.waits told.stored.taken.parts in
    let line : bytes ≡ told_line (rows_with ds (end_each b.sets)) = is ∙ ap told_line (sym (taken_rows ds S.parts b.sets told.stored.taken.parts)) in
    record {
      stored = stored_batch n name first S T R b counted ready.idle p plan q told.stored;
      stops = record {
        before = b.told;
        last = rows_with ds (end_each b.sets);
        told = ap (λ (c : SetBatches). c.told) (close_some ds b some);
        waiting = closed_none ds b;
        middle = k;
        gave = told.gave;
        rose = rose;
        some = subst (λ (y : List ℕ). GaveSome y k l) line gave;
      };
    }

-- memory for its line was wanting
pub closes_wanting : {v : DiskView} {k : SinkView} (n : ℕ) (name : List ℕ) (S : Sessions) → ClosesOn n name S S v v k k (Err (endings.Refused errors.Memory))
closes_wanting n name S = λ first b u m counted told. (told, wanting)

-- ---- Values of a line

-- none close a batch
pub says_closes : {v : DiskView} {k : SinkView} (w : DiskView) (l : SinkView) (n : ℕ) (name : List ℕ) (used number : ℕ) (values : List ℤ) (S T : Sessions) (r : Result (Unit {0}) Ending) → values ≡ [] → ClosesOn n name S T v w k l r → SaysOn n name used number values S T v w k l r
says_closes {v} {k} w l n name used number values S T r none h = subst (λ (vs : List ℤ). SaysOn n name used number vs S T v w k l r) (sym none) (λ first b u m counted same told. h first b u m counted told)

pub says_values : {v w : DiskView} (k : SinkView) (n : ℕ) (name : List ℕ) (used number : ℕ) (values : List ℤ) (S T : Sessions) (r : Result (Unit {0}) Ending) → IsReady name S v → 1 ≤ length values → AreWholeRows (columns_at (columns_in S.parts) used) values → Unput name v w
    → AppendsBy name number used values S T v w r → SaysOn n name used number values S T v w k k r
says_values k n name used number [] S T r ready some rows p h = absurd (omega (arith, some))
says_values {v} {w} k n name used number (x ∷ values) S T (Ok a) ready some rows p h = λ first b u m counted same told.
    let is : slice_get S.parts b.used ≡ Some h.added.part = ap (slice_get S.parts) same ∙ h.added.is in
    let here : AppendsAll name b.used S T (x ∷ values) w = subst (λ (d : ℕ). AppendsAll name d S T (x ∷ values) w) (sym same) h in
    let count : length (x ∷ values) ≡ rows.0 * here.added.part.dataset.shape.cols = rows.1 ∙ ap (λ c. rows.0 * c) (ap (columns_at (columns_in S.parts)) (sym same) ∙ columns_get S.parts b.used here.added.part here.added.is) in
    record { stored = stored_values name first S T b (x ∷ values) rows.0 here count ready.idle p told.stored; gave = told.gave }
says_values {v} {w} k n name used number (x ∷ values) S T (Err (endings.Refused e)) ready some rows p h =
    λ first b u m counted same told. (subst (λ (y : Sessions). Told name first y b u w m k) (sym h.0) (told_unput name first S b p told), h.1)
says_values k n name used number (x ∷ values) S T (Err endings.Disk) ready some rows p h = λ first b u m counted same told. record { broke = broke_before name first S T b h.0 p h.1 told.stored; gave = told.gave }
says_values k n name used number (x ∷ values) S T (Err endings.Sink) ready some rows p h = absurd h

-- ---- A line

-- it says nothing, or memory was wanting
pub lines_nothing : {v : DiskView} {k : SinkView} (n : ℕ) (name columns : List ℕ) (used number : ℕ) (line : List ℕ) (S : Sessions) (e : BatchError) → HasNoMeaning columns used number line e → LinesOn n name columns used number line S S v v k k (Err (ending_of e))
lines_nothing n name columns used number line S (batch_errors.Line m) h =
    λ first b u o counted same told. (told, subst (λ (i : ℕ). LineCause columns used number line S (errors.Line i)) (sym h.0) (says_nothing h.1))
lines_nothing n name columns used number line S (batch_errors.Input limit) h = absurd h
lines_nothing n name columns used number line S batch_errors.Source h = absurd h
lines_nothing n name columns used number line S batch_errors.OutOfMemory h = λ first b u o counted same told. (told, not_read)

pub ready_nothing : {w : DiskView} (name : List ℕ) (S : Sessions) (e : BatchError) → IsReady name S w → ReadyUnlessDisk {A = ℕ} name S w (Err (ending_of e))
ready_nothing name S (batch_errors.Line n) ready = ready
ready_nothing name S (batch_errors.Input limit) ready = ready
ready_nothing name S batch_errors.Source ready = ready
ready_nothing name S batch_errors.OutOfMemory ready = ready

-- a dataset of the columns is one of the session
pub inside_sets : (columns : List ℕ) (ss : List Session) (d : ℕ) → columns ≡ columns_in ss → d < length columns → d < length ss
inside_sets columns ss d are low = subst (λ (n : ℕ). d < n) (ap length are ∙ length-map ss (λ (s : Session). s.dataset.shape.cols)) low

pub said_rows : (columns : List ℕ) (ss : List Session) (used : ℕ) (values others : List ℤ) → columns ≡ columns_in ss → others ≡ values → AreWholeRows (columns_at columns used) values → AreWholeRows (columns_at (columns_in ss) used) others
said_rows columns ss used values others are same rows = (rows.0, ap length same ∙ rows.1 ∙ ap (λ (c : List ℕ). rows.0 * columns_at c used) are)

-- it names a dataset
pub lines_use : {v : DiskView} {k : SinkView} (n : ℕ) (name columns : List ℕ) (used number d : ℕ) (line : List ℕ) (S : Sessions) → columns ≡ columns_in S.parts → d < length columns → set_line_of columns used line ≡ Some (Use d)
    → LinesOn n name columns used number line S S v v k k (Ok d)
lines_use n name columns used number d line S are low spelled = λ first b u m counted same told.
    let inside = inside_sets columns S.parts d are low in
    (Use d, spelled, refl, record { stored = stored_used name first S b d inside told.stored; gave = told.gave })

-- it has values
pub lines_values : {v w : DiskView} {k l : SinkView} (n : ℕ) (name columns : List ℕ) (used number : ℕ) (line : List ℕ) (values : List ℤ) (S T : Sessions) → set_line_of columns used line ≡ Some (Numbers values) → SaysOn n name used number values S T v w k l (Ok tt)
    → LinesOn n name columns used number line S T v w k l (Ok used)
lines_values n name columns used number line values S T spelled h = λ first b u m counted same told. (Numbers values, spelled, refl, h first b u m counted same told)

pub lines_ended : {v : DiskView} {k : SinkView} (w : DiskView) (l : SinkView) (n : ℕ) (name columns : List ℕ) (used number : ℕ) (line : List ℕ) (values : List ℤ) (S T : Sessions) (e : Ending) → set_line_of columns used line ≡ Some (Numbers values) → SaysOn n name used number values S T v w k l (Err e)
    → LinesOn n name columns used number line S T v w k l (Err e)
lines_ended w l n name columns used number line values S T (endings.Refused e) spelled h = λ first b u m counted same told. let r = h first b u m counted same told in (r.0, not_taken values e spelled r.1)
lines_ended w l n name columns used number line values S T endings.Disk spelled h = λ first b u m counted same told. h first b u m counted same told
lines_ended w l n name columns used number line values S T endings.Sink spelled h = λ first b u m counted same told. (Numbers values, spelled, h first b u m counted same told)

pub ready_line : (w : DiskView) (name : List ℕ) (T : Sessions) (e : Ending) → ReadyUnlessDisk {A = Unit {0}} name T w (Err e) → ReadyUnlessDisk {A = ℕ} name T w (Err e)
ready_line w name T (endings.Refused e) h = h
ready_line w name T endings.Disk h = tt
ready_line w name T endings.Sink h = h
