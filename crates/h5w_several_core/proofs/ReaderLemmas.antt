-- An event of a reader, by its place.
use Rattle.std.proofs.Common.{◌≡◌, ℕ, ◌<◌, ◌≤◌, cond, List, length, get_or, Option, Some, None, option_map, Result, Ok, Err, refl, sym, ap, subst, ◌∙◌, arith}
use Rattle.std.specs.Prelude.{◌==◌, IfSome, slice_get, slice_set}
use Rattle.std.specs.Result.{IfOk, OnErr}
use Rattle.std.proofs.lemmas.List.{length-set}
use Rattle.h5w_model.specs.Several.{FileLog}
use Rattle.h5w_model.specs.Unfinished.{Reader}
use Rattle.h5w_model.specs.declared.memory.OutOfMemory.{OutOfMemory}
use Rattle.h5w_model.specs.declared.reply.Reply.{Reply}
use Rattle.h5w_image.specs.Memory.{MemView}
use Rattle.h5w_image.specs.View.{Same}
use Rattle.h5w_image.proofs.ViewLemmas.{same_itself}
use Rattle.h5w_reader.specs.Readers.{reader_rules}
use Rattle.h5w_reader.specs.declared.reader.ReaderCore.{ReaderCore}
use Rattle.h5w_writer.specs.Sessions.{Session}
use Rattle.h5w_writer_laws.proofs.PieceLemmas.{some_is}
use Rattle.h5w_several_writer_laws.specs.Sessions.{Sessions}
use Rattle.h5w_several_script_laws.specs.Scripts.{FileState, says}
use Rattle.h5w_several_script_laws.specs.Polled.{Places}
use Rattle.h5w_several_world_laws.specs.Worlds.{HaveOneFileLog}
use Rattle.h5w_steady.specs.Steady.{steady}
use Rattle.h5w_space.specs.declared.Full.{Full}
use Rattle.h5w_core.specs.Readers.{IsCalling, LookGives, LookReplies, MayRead, ReadGives, ReadLooks, RefreshGives, ended, placed}
use Rattle.h5w_core.specs.Worlds.{full_reply}
use Rattle.h5w_several_core.specs.Places.{SeatOpens, place_at, reader_in, seat_ended, seat_of, seated, vacant}
use Rattle.h5w_several_core.specs.Worlds.{FileSteps, HasFront, HoldsAll, IsKeptIn, IsUsedBy, SeveralView, StandsForFile, as_told, line_of, logged_in, reply_of, set_in}
use Rattle.h5w_several_core.specs.declared.events.FileEvent.{FileEvent}
use Rattle.h5w_several_core.specs.declared.events.FileEvent.TheVariants as events
use Rattle.h5w_several_core.specs.declared.events.FileReply.{FileReply}
use Rattle.h5w_several_core.specs.declared.events.FileReply.TheVariants.{Says}
use Rattle.h5w_several_core.specs.declared.places.Place.{Place}
use Rattle.h5w_several_core.proofs.EndedLemmas.{FitsOver, ended_fits}
use Rattle.h5w_several_core.proofs.FrontLemmas.{front_moved}
use Rattle.h5w_several_core.proofs.LineLemmas.{look_on, look_replies as looks_reply, open_on, read_looks as reads_look, read_on, refresh_on}
use Rattle.h5w_several_core.proofs.MachineLemmas.{StepsOn, file_steps, same_logs, same_room, steps_hold, world_of}
use Rattle.h5w_several_core.proofs.SeatLemmas.{any_default, same_seat, set_at, set_seats, with_seat}

-- with this reader in it
abbrev pub with_reader : Place → Option ReaderCore → Place
with_reader p core = record p { reader = core }

seat_ends : (d : ℕ) (o : Option Reader) → seat_ended (seat_of d o) ≡ seat_of d (option_map ended o)
seat_ends d None = refl
seat_ends d (Some x) = refl

-- ---- A call's result, and what is told of it

told_ok : (P : FileReply → Type 0) (result : Result Reply OutOfMemory) (answer : Result FileReply OutOfMemory) → answer ≡ as_told result → IfOk result (λ reply. P (Says reply)) → IfOk answer P
told_ok P (Ok x) answer is h = subst (λ (z : Result FileReply OutOfMemory). IfOk z P) (sym is) h
told_ok P (Err e) answer is h = subst (λ (z : Result FileReply OutOfMemory). IfOk z P) (sym is) tt

told_err : (X : Type 0) (result : Result Reply OutOfMemory) (answer : Result FileReply OutOfMemory) → answer ≡ as_told result → OnErr result X → OnErr answer X
told_err X (Ok x) answer is h = subst (λ (z : Result FileReply OutOfMemory). OnErr z X) (sym is) tt
told_err X (Err e) answer is h = subst (λ (z : Result FileReply OutOfMemory). OnErr z X) (sym is) h

pub told_full : (result : Result Reply OutOfMemory) (answer : Result FileReply OutOfMemory) → answer ≡ as_told result → ((full : Full) → result ≡ Ok (full_reply full) → ⊥) → (full : Full) → answer ≡ Ok (Says (full_reply full)) → ⊥
told_full (Ok x) answer is never full told = let both = sym is ∙ told in let same : x ≡ full_reply full = cc in never full (ap Ok same)
told_full (Err e) answer is never full told = let both = sym is ∙ told in absurd cc

ok_then : {P Q : Reply → Type 0} (result : Result Reply OutOfMemory) → IfOk result P → ((reply : Reply) → P reply → Q reply) → IfOk result Q
ok_then (Ok x) h f = f x h
ok_then (Err e) h f = tt

err_then : {X Y : Type 0} (result : Result Reply OutOfMemory) → OnErr result X → (X → Y) → OnErr result Y
err_then (Ok x) h f = tt
err_then (Err e) h f = f h

no_seat : (d : ℕ) (o : Option Reader) → seat_of d o ≡ None → o ≡ None
no_seat d None is = refl
no_seat d (Some x) is = absurd (cc)

module _ (S : Sessions) (m : MemView) (attempts r : ℕ) (places : List Place) (h : HoldsAll S m attempts places) (few : r ≤ 16) (place : Place) (value : place ≡ get_or places r place) where
  abbrev old : SeveralView
  old = world_of S m attempts places

  inside : r < length places
  inside = let count = h.count in omega (arith, few, count)

  place_is : get_or places r vacant ≡ place
  place_is = any_default places r vacant place inside ∙ sym value

  here : place_at places r ≡ seated place
  here = ap seated place_is

  reader_here : reader_in places r ≡ placed place.reader
  reader_here = ap (λ (p : Place). placed p.reader) place_is

  -- ---- Any event of a reader

  module _ (n : MemView) (same : Same (steady m) (steady n)) (new : Place) where
    abbrev qs : List Place
    qs = slice_set places r new

    abbrev then : SeveralView
    then = world_of S n attempts qs

    front_still : HasFront S n.bytes
    front_still = front_moved S S m.bytes n.bytes (some_is n.bytes m.bytes same.bytes) h.front

    seat_steps : (event : FileEvent) (reply : Reply) → ((log : FileLog) → logged_in old event (says reply) log ≡ log)
        → ((F : FileState) (have : HaveOneFileLog S attempts (place_at places) F) → StandsForFile old have.log → IsUsedBy event F → StepsOn attempts (with_seat r (seated new) (place_at places)) F (line_of event) (says reply) S have.log)
        → FileSteps old event (says reply) then
    seat_steps event reply logs steps =
        file_steps S S m n attempts places qs event (says reply) refl
        (λ log stood. subst (λ (l : FileLog). StandsForFile then l) (sym (logs log)) (same_logs S S m n attempts places qs log log same (λ x. x) refl refl refl stood))
        (λ F have file used.
        subst (λ (l : FileLog). StepsOn attempts (place_at qs) F (line_of event) (says reply) S l) (sym (logs have.log))
        (subst (λ (ps : Places). StepsOn attempts ps F (line_of event) (says reply) S have.log) (sym (set_seats places r new inside)) (steps F have file used)))

    seat_hold : (event : FileEvent) (reply : Reply) → IfSome (set_in event) (λ (d : ℕ). d < length S.parts) → FileSteps old event (says reply) then → HoldsAll S n attempts qs
    seat_hold event reply named steps =
        steps_hold S S m n attempts places qs event (says reply) h named steps (same_room S S m n same refl refl h.room) refl front_still (length-set places r new ∙ h.count)

    -- some state fits the readers that are left
    over_hold : FitsOver S attempts (place_at places) h.script h.fits.have (with_seat r (seated new) (place_at places)) → HoldsAll S n attempts qs
    over_hold x =
        let y : FitsOver S attempts (place_at places) h.script h.fits.have (place_at qs) =
        subst (λ (ps : Places). FitsOver S attempts (place_at places) h.script h.fits.have ps) (sym (set_seats places r new inside)) x in
        let stands : StandsForFile then h.fits.have.log = same_logs S S m n attempts places qs h.fits.have.log h.fits.have.log same (λ x. x) refl refl refl h.fits.file in
        record {
          room = same_room S S m n same refl refl h.room;
          count = length-set places r new ∙ h.count;
          tries = h.tries;
          limit = h.limit;
          front = front_still;
          script = y.state;
          fits = record { have = y.fits; file = subst (λ (l : FileLog). StandsForFile then l) (sym y.log_is) stands };
        }

    -- a place as it was
    pub kept_hold : seated new ≡ seated place → HoldsAll S n attempts qs
    kept_hold is =
        over_hold
        (subst (λ (ps : Places). FitsOver S attempts (place_at places) h.script h.fits.have ps) (sym (same_seat r (seated new) (place_at places) (here ∙ sym is)))
        (record { state = h.script; fits = h.fits.have; log_is = refl }))

    -- a place whose reader's call was taken away
    ended_hold : seated new ≡ seat_ended (place_at places r) → HoldsAll S n attempts qs
    ended_hold is =
        over_hold
        (subst (λ (o : Option (ℕ × Reader)). FitsOver S attempts (place_at places) h.script h.fits.have (with_seat r o (place_at places))) (sym is)
        (ended_fits S attempts (place_at places) h.script h.fits.have r))

    kept_seat : (o : Option (ℕ × Reader)) → seated new ≡ o → IsKeptIn old then r o
    kept_seat o is = record {
      session = refl;
      bytes = some_is n.bytes m.bytes same.bytes;
      journal = some_is n.history m.history same.history;
      attempts = refl;
      readers = λ q. set_at places r new q inside ∙ ap (λ (x : Option (ℕ × Reader)). cond (r == q) x (place_at places q)) is;
    }

    pub kept_place : seated new ≡ seated place → IsKeptIn old then r (place_at places r)
    kept_place is = kept_seat (place_at places r) (is ∙ sym here)

  itself : Same (steady m) (steady m)
  itself = same_itself (steady m)

  -- ---- Open

  module _ (d : ℕ) (part : Session) (at : slice_get S.parts d ≡ Some part) (named : d < length S.parts) (new : Place) (reply : Reply) (gives : SeatOpens r d (reader_rules part.name attempts) (seated place) reply (seated new)) where
    open_steps : FileSteps old (events.Open r d) (says reply) (world_of S m attempts (slice_set places r new))
    open_steps =
        seat_steps m itself new (events.Open r d) reply (λ log. refl)
        (λ F have file used. open_on S attempts (place_at places) F have h.limit h.tries r d used part at (seated place) (seated new) reply here gives)

    pub open_hold : HoldsAll S m attempts (slice_set places r new)
    open_hold = seat_hold m itself new (events.Open r d) reply named open_steps

  -- ---- Refresh

  module _ (core : Option ReaderCore) (reply : Reply) (gives : RefreshGives r (placed place.reader) reply (placed core)) where
    pub refresh_steps : FileSteps old (events.Refresh r) (says reply) (world_of S m attempts (slice_set places r (with_reader place core)))
    refresh_steps =
        seat_steps m itself (with_reader place core) (events.Refresh r) reply (λ log. refl)
        (λ F have file used. refresh_on S attempts (place_at places) F have h.limit h.tries r place.dataset (placed place.reader) (placed core) reply here gives)

    pub refresh_hold : HoldsAll S m attempts (slice_set places r (with_reader place core))
    refresh_hold = seat_hold m itself (with_reader place core) (events.Refresh r) reply tt refresh_steps

  -- ---- Read

  module _ (from count : ℕ) where
    pub read_may : ReadLooks from count (placed place.reader)
    read_may = reads_look S attempts (place_at places) h.script h.fits.have h.limit h.tries r place.dataset from count (placed place.reader) here

    module _ (core : Option ReaderCore) where
      pub read_steps : (reply : Reply) → ReadGives r from count (placed place.reader) reply (placed core) → FileSteps old (events.Read r from count) (says reply) (world_of S m attempts (slice_set places r (with_reader place core)))
      read_steps reply gives =
          seat_steps m itself (with_reader place core) (events.Read r from count) reply (λ log. refl)
          (λ F have file used. read_on S attempts (place_at places) F have h.limit h.tries r place.dataset from count (placed place.reader) (placed core) reply here gives)

      pub read_hold : (result : Result Reply OutOfMemory) → IfOk result (λ reply. ReadGives r from count (placed place.reader) reply (placed core)) → OnErr result (placed core ≡ placed place.reader)
          → HoldsAll S m attempts (slice_set places r (with_reader place core))
      read_hold (Ok reply) gives kept = seat_hold m itself (with_reader place core) (events.Read r from count) reply tt (read_steps reply gives)
      read_hold (Err e) gives kept = kept_hold m itself (with_reader place core) (ap (seat_of place.dataset) kept)

      pub read_kept : placed core ≡ placed place.reader → IsKeptIn old (world_of S m attempts (slice_set places r (with_reader place core))) r (place_at places r)
      read_kept kept = kept_place m itself (with_reader place core) (ap (seat_of place.dataset) kept)

  -- ---- Look

  pub look_may : LookReplies r m.bytes (placed place.reader)
  look_may = looks_reply S attempts (place_at places) h.script h.fits.have h.limit h.tries r place.dataset m.bytes h.fits.file.start h.fits.file.bytes (placed place.reader) here

  module _ (n : MemView) (same : Same (steady m) (steady n)) (core : Option ReaderCore) where
    pub look_steps : (reply : Reply) → LookGives r m.bytes (placed place.reader) reply (placed core) → FileSteps old (events.Look r) (says reply) (world_of S n attempts (slice_set places r (with_reader place core)))
    look_steps reply gives =
        seat_steps n same (with_reader place core) (events.Look r) reply (λ log. refl)
        (λ F have file used. look_on S attempts (place_at places) F have h.limit h.tries r place.dataset m.bytes file.start file.bytes (placed place.reader) (placed core) reply here gives)

    is_ended : placed core ≡ option_map ended (placed place.reader) → seated (with_reader place core) ≡ seat_ended (place_at places r)
    is_ended kept = ap (seat_of place.dataset) kept ∙ sym (seat_ends place.dataset (placed place.reader)) ∙ ap seat_ended (sym here)

    pub look_hold : (result : Result Reply OutOfMemory) → IfOk result (λ reply. LookGives r m.bytes (placed place.reader) reply (placed core)) → OnErr result (placed core ≡ option_map ended (placed place.reader))
        → HoldsAll S n attempts (slice_set places r (with_reader place core))
    look_hold (Ok reply) gives kept = seat_hold n same (with_reader place core) (events.Look r) reply tt (look_steps reply gives)
    look_hold (Err e) gives kept = ended_hold n same (with_reader place core) (is_ended kept)

    pub look_kept : placed core ≡ option_map ended (placed place.reader) → IsKeptIn old (world_of S n attempts (slice_set places r (with_reader place core))) r (seat_ended (place_at places r))
    look_kept kept = kept_seat n same (with_reader place core) (seat_ended (place_at places r)) (is_ended kept)

  -- ---- By the value of the machine, and the call's result

  module _ (w : SeveralView) (view : world_of S m attempts places ≡ w) (answer : Result FileReply OutOfMemory) (result : Result Reply OutOfMemory) (is : answer ≡ as_told result) where
    by_view : (event : FileEvent) (reply : Reply) (next : SeveralView) → FileSteps old event (says reply) next → FileSteps w event (says reply) next
    by_view event reply next steps = subst (λ (x : SeveralView). FileSteps x event (says reply) next) view steps

    seat_was : place_at w.places r ≡ place_at places r
    seat_was = ap (λ (x : SeveralView). place_at x.places r) (sym view)

    reader_was : placed place.reader ≡ reader_in w.places r
    reader_was = sym reader_here ∙ ap (λ (x : SeveralView). reader_in x.places r) view

    module _ (new : Place) where
      abbrev opened : SeveralView
      opened = world_of S m attempts (slice_set places r new)

      pub opened_kept : OnErr result (seated new ≡ seated place) → OnErr answer (IsKeptIn w opened r (place_at w.places r))
      opened_kept kept =
          told_err (IsKeptIn w opened r (place_at w.places r)) result answer is
          (err_then result kept (λ k. subst (λ (o : Option (ℕ × Reader)). IsKeptIn w opened r o) (sym seat_was) (subst (λ (x : SeveralView). IsKeptIn x opened r (place_at places r)) view (kept_place m itself new k))))

      pub opened_memory : OnErr result (seated place ≡ None) → OnErr answer (reader_in w.places r ≡ None)
      opened_memory none = told_err (reader_in w.places r ≡ None) result answer is (err_then result none (λ k. sym reader_was ∙ no_seat place.dataset (placed place.reader) k))

      module _ (d : ℕ) (named : d < length S.parts) (part : Session) (at : slice_get S.parts d ≡ Some part) where
        pub opened_steps : IfOk result (λ reply. SeatOpens r d (reader_rules part.name attempts) (seated place) reply (seated new)) → IfOk answer (λ reply. FileSteps w (events.Open r d) (reply_of reply) opened)
        opened_steps gives =
            told_ok (λ reply. FileSteps w (events.Open r d) (reply_of reply) opened) result answer is
            (ok_then result gives (λ reply g. by_view (events.Open r d) reply opened (open_steps d part at named new reply g)))

        pub opened_hold : IfOk result (λ reply. SeatOpens r d (reader_rules part.name attempts) (seated place) reply (seated new)) → OnErr result (seated new ≡ seated place) → HoldsAll S m attempts (slice_set places r new)
        opened_hold gives kept = open_by result gives kept
          where
            open_by : (x : Result Reply OutOfMemory) → IfOk x (λ reply. SeatOpens r d (reader_rules part.name attempts) (seated place) reply (seated new)) → OnErr x (seated new ≡ seated place) → HoldsAll S m attempts (slice_set places r new)
            open_by (Ok reply) gives kept = open_hold d part at named new reply gives
            open_by (Err e) gives kept = kept_hold m itself new kept

    module _ (from count : ℕ) (core : Option ReaderCore) where
      abbrev after_read : SeveralView
      after_read = world_of S m attempts (slice_set places r (with_reader place core))

      pub read_told : IfOk result (λ reply. ReadGives r from count (placed place.reader) reply (placed core)) → IfOk answer (λ reply. FileSteps w (events.Read r from count) (reply_of reply) after_read)
      read_told gives =
          told_ok (λ reply. FileSteps w (events.Read r from count) (reply_of reply) after_read) result answer is
          (ok_then result gives (λ reply g. by_view (events.Read r from count) reply after_read (read_steps from count core reply g)))

      pub read_left : OnErr result (placed core ≡ placed place.reader) → OnErr answer (IsKeptIn w after_read r (place_at w.places r))
      read_left kept =
          told_err (IsKeptIn w after_read r (place_at w.places r)) result answer is
          (err_then result kept (λ k. subst (λ (o : Option (ℕ × Reader)). IsKeptIn w after_read r o) (sym seat_was) (subst (λ (x : SeveralView). IsKeptIn x after_read r (place_at places r)) view (read_kept from count core k))))

      pub read_memory : OnErr result (MayRead from count (placed place.reader)) → OnErr answer (MayRead from count (reader_in w.places r))
      read_memory may = told_err (MayRead from count (reader_in w.places r)) result answer is (err_then result may (λ k. subst (MayRead from count) reader_was k))

    module _ (n : MemView) (same : Same (steady m) (steady n)) (core : Option ReaderCore) where
      abbrev after_look : SeveralView
      after_look = world_of S n attempts (slice_set places r (with_reader place core))

      pub look_told : IfOk result (λ reply. LookGives r m.bytes (placed place.reader) reply (placed core)) → IfOk answer (λ reply. FileSteps w (events.Look r) (reply_of reply) after_look)
      look_told gives =
          told_ok (λ reply. FileSteps w (events.Look r) (reply_of reply) after_look) result answer is
          (ok_then result gives (λ reply g. by_view (events.Look r) reply after_look (look_steps n same core reply g)))

      pub look_left : OnErr result (placed core ≡ option_map ended (placed place.reader)) → OnErr answer (IsKeptIn w after_look r (seat_ended (place_at w.places r)))
      look_left kept =
          told_err (IsKeptIn w after_look r (seat_ended (place_at w.places r))) result answer is
          (err_then result kept (λ k. subst (λ (o : Option (ℕ × Reader)). IsKeptIn w after_look r (seat_ended o)) (sym seat_was) (subst (λ (x : SeveralView). IsKeptIn x after_look r (seat_ended (place_at places r))) view (look_kept n same core k))))

      pub look_memory : OnErr result (IsCalling (placed place.reader)) → OnErr answer (IsCalling (reader_in w.places r))
      look_memory may = told_err (IsCalling (reader_in w.places r)) result answer is (err_then result may (λ k. subst IsCalling reader_was k))
