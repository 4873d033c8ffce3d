-- What holds of every world is kept.
use Rattle.std.proofs.Common.{◌≡◌, ℕ, ◌<◌, ◌≤◌, true, false, List, [], ◌∷◌, length, ℤ, Option, Some, Result, Ok, Err, sym, refl, ap, ◌∙◌, subst, arith}
use Rattle.std.specs.Result.{OnOk, OnErr, IfOk}
use Rattle.h5w_model.specs.Images.{image}
use Rattle.h5w_model.specs.Logs.{Log, and_now, appends, plans, shows, load}
use Rattle.h5w_model.specs.Lawful.{ScriptState, line_of, next_state}
use Rattle.h5w_model.specs.declared.event.Event.{Event}
use Rattle.h5w_model.specs.declared.event.Event.TheVariants as events
use Rattle.h5w_model.specs.declared.piece.Write.{Write}
use Rattle.h5w_model.specs.declared.reply.Reply.{Reply}
use Rattle.h5w_model.specs.declared.reply.Reply.TheVariants as replies
use Rattle.h5w_image.specs.Memory.{MemView}
use Rattle.h5w_image.specs.View.{Same, Wrote}
use Rattle.h5w_reader.specs.declared.reader.ReaderCore.{ReaderCore}
use Rattle.h5w_writer.specs.Refusals.{flush_refusal}
use Rattle.h5w_writer.specs.Room.{HasRoomFor}
use Rattle.h5w_writer.specs.Flushes.{SameBut}
use Rattle.h5w_writer.specs.Sessions.{Session, AfterPiece, TakesRows, cutting_of, stopped_of}
use Rattle.h5w_writer.specs.Stands.{Stands}
use Rattle.h5w_writer.specs.declared.refusal.AppendError.{AppendError}
use Rattle.h5w_writer.specs.declared.refusal.FlushError.{FlushError}
use Rattle.h5w_steady.specs.Steady.{steady}
use Rattle.h5w_core.specs.Worlds.{AreRowsBy, HaveOneLog, HoldsMore, HoldsTogether, IsStateOf, StandsFor, Steps, WorldView, logged, rules_of}
use Rattle.h5w_core.proofs.AppendLemmas.{AppendTells, append_done}
use Rattle.h5w_core.proofs.FlushLemmas.{IsAnswered, LeavesSession, flush_done, held_log}
use Rattle.h5w_core.proofs.ShowLemmas.{idle_steps, nothing_logged, show_done, show_logged}
use Rattle.h5w_core.proofs.StateLemmas.{new_now}
use Rattle.h5w_core.proofs.WorldLemmas.{changed, replaced, same_folded, still_folded, world_of}

-- after an event, whatever the reply
pub steps_hold : (s t : Session) (m n : MemView) (attempts : ℕ) (places others : List (Option ReaderCore)) (event : Event) (reply : Reply) → HoldsTogether s m attempts places
    → Steps (world_of s m attempts places) event reply (world_of t n attempts others) → HasRoomFor t (steady n) → n.bytes ≡ image [] n.history → length others ≡ 17 → HoldsTogether t n attempts others
steps_hold s t m n attempts places others event reply h steps room folds count = record {
  room = room;
  folds = folds;
  places = count;
  script = next_state (rules_of (world_of s m attempts places)) h.script (line_of event) reply;
  fits = (steps.lawful h.script h.fits).1;
}

pub same_room : (s t : Session) (m n : MemView) → Same (steady m) (steady n) → t ≡ s → HasRoomFor s (steady m) → HasRoomFor t (steady n)
same_room s t m n same is room =
    let pieces : length t.pending ≡ length s.pending = ap (λ (x : Session). length x.pending) is in
    let end : t.places.end ≡ s.places.end = ap (λ (x : Session). x.places.end) is in
    record { pieces = omega (arith, room.pieces, same.pieces, pieces); end = omega (arith, room.end, same.end, end) }

-- nothing happened
pub same_hold : (s t : Session) (m n : MemView) (attempts : ℕ) (places : List (Option ReaderCore)) → HoldsTogether s m attempts places → Same (steady m) (steady n) → t ≡ s → HoldsTogether t n attempts places
same_hold s t m n attempts places h same is = record {
  room = same_room s t m n same is h.room;
  folds = same_folded m n same h.folds;
  places = h.places;
  script = h.script;
  fits = subst (λ (w : WorldView). HaveOneLog w h.script) (sym (changed s t m n attempts places same (λ x. x) is)) h.fits;
}

-- ---- The writer's calls

pub append_hold : (s t : Session) (m n : MemView) (attempts : ℕ) (places : List (Option ReaderCore)) (vs : List ℤ) (r : Result ℕ AppendError) → AreRowsBy (rules_of (world_of s m attempts places)) vs → HoldsTogether s m attempts places → Same (steady m) (steady n)
    → AppendTells s t vs r → OnOk r (HasRoomFor t (steady n)) → HoldsTogether t n attempts places
append_hold s t m n attempts places vs (Ok rows) are h same tells room =
    steps_hold s t m n attempts places places (events.Append vs) (replies.Appended rows (length t.pending)) h
    (append_done s t m n attempts rows (length t.pending) places (world_of s m attempts places) vs are refl same tells refl) room (same_folded m n same h.folds) h.places
append_hold s t m n attempts places vs (Err e) are h same tells room = same_hold s t m n attempts places h same tells.kept

-- a session that may hold more blocks
held_room : (s t : Session) (m n : MemView) → Same (steady m) (steady n) → SameBut s t → HasRoomFor s (steady m) → HasRoomFor t (steady n)
held_room s t m n same kept room =
    let pieces : length t.pending ≡ length s.pending = ap (λ (x : Session). length x.pending) kept.session in
    let end : t.places.end ≡ s.places.end = ap (λ (x : Session). x.places.end) kept.session in
    record { pieces = omega (arith, room.pieces, same.pieces, pieces); end = omega (arith, room.end, same.end, end) }

pub held_hold : (s t : Session) (m n : MemView) (attempts : ℕ) (places : List (Option ReaderCore)) → HoldsTogether s m attempts places → Same (steady m) (steady n) → LeavesSession s t → HoldsTogether t n attempts places
held_hold s t m n attempts places h same left = record {
  room = held_room s t m n same left.same h.room;
  folds = same_folded m n same h.folds;
  places = h.places;
  script = h.script;
  fits =
      subst (λ (w : WorldView). HaveOneLog w h.script) (sym (replaced s t m n attempts places same))
      (held_log (world_of s m attempts places) t h.script left.same left.stands h.fits);
}

-- what the session's flush tells
pub record FlushTells (s t : Session) (r : Result ℕ FlushError) : Type 0 where
  pub flushed : OnOk r (TakesRows s t)
  pub pieces : IfOk r (λ n. n ≡ length t.pending)
  pub some : 0 < s.waits → IfOk r (λ n. 1 ≤ n)
  pub nothing : s.waits ≡ 0 → OnOk r (t ≡ s)
  pub stands : IfOk r (λ n. (log : Log) → Stands s log → Stands t (and_now (plans n) log))
  pub bound : IfOk r (λ n. (log : Log) → Stands s log → n ≤ load (cutting_of s) log)
  pub refused : (e : FlushError) → flush_refusal s ≡ Some e → r ≡ Err e
  pub kept : OnErr r (SameBut s t)
  pub left : OnErr r ((log : Log) → Stands s log → Stands t log)

pub answered : (s t : Session) (pieces : ℕ) → FlushTells s t (Ok pieces) → IsAnswered s t (Ok pieces) pieces
answered s t pieces e = record { ok = refl; refused = e.refused; takes = e.flushed; count = e.pieces; some = e.some; nothing = e.nothing; bound = e.bound; stands = e.stands }

pub flush_hold : (s t : Session) (m n : MemView) (attempts : ℕ) (places : List (Option ReaderCore)) (r : Result ℕ FlushError) → HoldsTogether s m attempts places → Same (steady m) (steady n)
    → FlushTells s t r → OnOk r (HasRoomFor t (steady n)) → HoldsTogether t n attempts places
flush_hold s t m n attempts places (Ok pieces) h same tells room =
    steps_hold s t m n attempts places places events.Flush (replies.Flushing pieces) h
    (flush_done s t m n attempts pieces places (world_of s m attempts places) (Ok pieces) refl same (answered s t pieces tells)) room (same_folded m n same h.folds) h.places
flush_hold s t m n attempts places (Err e) h same tells room = held_hold s t m n attempts places h same (record { same = tells.kept; stands = tells.left })

-- ---- A stop

stopped_room : (s : Session) (m : MemView) → HasRoomFor s (steady m) → HasRoomFor (stopped_of s) (steady m)
stopped_room s m room = record { pieces = omega (arith, room.pieces); end = room.end }

stop_state : (w : WorldView) (s : ScriptState) (log : Log) → IsStateOf w s log → IsStateOf (record w { session = stopped_of w.session }) (record s { stopped = true; pending = 0; ends_flush = false }) log
stop_state w s log state = record {
  appended = state.appended;
  flushed = state.flushed;
  pending = refl;
  ends_flush = refl;
  taken = λ flush. let clash : false ≡ true = flush in cc;
  idle = λ none. refl;
  spent = state.spent;
  stopped = refl;
  tries = state.tries;
  begun = state.begun;
  polls = state.polls;
}

stopped_steps : (w : WorldView) → ((log : Log) → Stands w.session log → Stands (stopped_of w.session) log) → Steps w events.Stop replies.Stopped (record w { session = stopped_of w.session })
stopped_steps w carries = record {
  rules = refl;
  lawful = λ s fits. (
    refl,
    record {
      log = fits.log;
      stands = record { stands = carries fits.log fits.stands.stands; new = fits.stands.new; journal = fits.stands.journal; bytes = fits.stands.bytes };
      state = stop_state w s fits.log fits.state;
    },
  );
}

stop_carries : (s t : Session) → t ≡ stopped_of s → ((log : Log) → Stands s log → Stands t log) → (log : Log) → Stands s log → Stands (stopped_of s) log
stop_carries s t is stands log stood = subst (λ (x : Session). Stands x log) is (stands log stood)

pub stop_steps : (s t : Session) (m : MemView) (attempts : ℕ) (places : List (Option ReaderCore)) (w : WorldView) → world_of s m attempts places ≡ w → t ≡ stopped_of s
    → ((log : Log) → Stands s log → Stands t log) → Steps w events.Stop replies.Stopped (world_of t m attempts places)
stop_steps s t m attempts places w view is stands =
    subst (λ (x : WorldView). Steps x events.Stop replies.Stopped (world_of t m attempts places)) view
    (subst (λ (x : Session). Steps (world_of s m attempts places) events.Stop replies.Stopped (world_of x m attempts places)) (sym is)
    (stopped_steps (world_of s m attempts places) (stop_carries s t is stands)))

pub stop_hold : (s t : Session) (m : MemView) (attempts : ℕ) (places : List (Option ReaderCore)) → HoldsTogether s m attempts places → t ≡ stopped_of s → ((log : Log) → Stands s log → Stands t log)
    → HoldsTogether t m attempts places
stop_hold s t m attempts places h is stands =
    steps_hold s t m m attempts places places events.Stop replies.Stopped h (stop_steps s t m attempts places (world_of s m attempts places) refl is stands)
    (subst (λ (x : Session). HasRoomFor x (steady m)) (sym is) (stopped_room s m h.room)) h.folds h.places

pub stop_logs : (s t : Session) (m : MemView) (attempts : ℕ) (places : List (Option ReaderCore)) (w : WorldView) → world_of s m attempts places ≡ w → ((log : Log) → Stands s log → Stands t log)
    → (log : Log) → StandsFor w log → StandsFor (world_of t m attempts places) log
stop_logs s t m attempts places w view stands log stood =
    let there : StandsFor (world_of s m attempts places) log = subst (λ (x : WorldView). StandsFor x log) (sym view) stood in
    record { stands = stands log there.stands; new = there.new; journal = there.journal; bytes = there.bytes }

-- ---- A piece

-- what the call says where nothing is pending, and where something is
pub record ShowsCount (s t : Session) (m n : MemView) (count : ℕ) : Type 0 where
  pub nothing : s.pending ≡ [] → (count ≡ 0) × (t ≡ s) × (n ≡ m)
  pub piece : (w : Write) (ws : List Write) → s.pending ≡ w ∷ ws → (count ≡ 1) × AfterPiece s ws t × Wrote (w ∷ []) (steady m) (steady n)
  pub stands : (w : Write) (ws : List Write) → s.pending ≡ w ∷ ws → (log : Log) → Stands s log → Stands t (and_now (shows w) log)

shown_steps : (s t : Session) (m n : MemView) (attempts count left : ℕ) (places : List (Option ReaderCore)) (ws : List Write) → s.pending ≡ ws → ShowsCount s t m n count → left ≡ length t.pending
    → Steps (world_of s m attempts places) events.Visible (replies.Written count left) (world_of t n attempts places)
shown_steps s t m n attempts count left places [] pending shown is =
    let h = shown.nothing pending in
    let none : left ≡ 0 = is ∙ ap (λ (x : Session). length x.pending) h.1 ∙ ap length pending in
    let reply : replies.Written count left ≡ replies.Written 0 0 = λ i. replies.Written (h.0 i) (none i) in
    subst (λ (x : Reply). Steps (world_of s m attempts places) events.Visible x (world_of t n attempts places)) (sym reply)
    (subst (λ (x : WorldView). Steps (world_of s m attempts places) events.Visible (replies.Written 0 0) x) (λ i. world_of (sym h.1 i) (sym h.2 i) attempts places)
    (idle_steps (world_of s m attempts places) pending))
shown_steps s t m n attempts count left places (w ∷ ws) pending shown is =
    let h = shown.piece w ws pending in
    subst (λ (k : ℕ). Steps (world_of s m attempts places) events.Visible (replies.Written k left) (world_of t n attempts places)) (sym h.0)
    (show_done s t m n attempts left places (world_of s m attempts places) w ws refl pending h.2 h.1 is (shown.stands w ws pending))

pub show_steps : (s t : Session) (m n : MemView) (attempts count left : ℕ) (places : List (Option ReaderCore)) (w : WorldView) → world_of s m attempts places ≡ w → ShowsCount s t m n count → left ≡ length t.pending
    → Steps w events.Visible (replies.Written count left) (world_of t n attempts places)
show_steps s t m n attempts count left places w view shown is =
    subst (λ (x : WorldView). Steps x events.Visible (replies.Written count left) (world_of t n attempts places)) view (shown_steps s t m n attempts count left places s.pending refl shown is)

shown_folds : (s t : Session) (m n : MemView) (count : ℕ) (ws : List Write) → s.pending ≡ ws → ShowsCount s t m n count → m.bytes ≡ image [] m.history → n.bytes ≡ image [] n.history
shown_folds s t m n count [] pending shown folds = subst (λ (v : MemView). v.bytes ≡ image [] v.history) (sym (shown.nothing pending).2) folds
shown_folds s t m n count (w ∷ ws) pending shown folds = still_folded m n w (shown.piece w ws pending).2 folds

pub show_hold : (s t : Session) (m n : MemView) (attempts count : ℕ) (places : List (Option ReaderCore)) → HoldsTogether s m attempts places → ShowsCount s t m n count → HasRoomFor t (steady n) → HoldsTogether t n attempts places
show_hold s t m n attempts count places h shown room =
    steps_hold s t m n attempts places places events.Visible (replies.Written count (length t.pending)) h (shown_steps s t m n attempts count (length t.pending) places s.pending refl shown refl) room
    (shown_folds s t m n count s.pending refl shown h.folds) h.places

shown_logged : (s t : Session) (m n : MemView) (attempts count : ℕ) (places : List (Option ReaderCore)) (reply : Reply) (ws : List Write) → s.pending ≡ ws → ShowsCount s t m n count
    → (log : Log) → StandsFor (world_of s m attempts places) log → StandsFor (world_of t n attempts places) (logged (world_of s m attempts places) events.Visible reply log)
shown_logged s t m n attempts count places reply [] pending shown log stood =
    let h = shown.nothing pending in
    subst (λ (x : WorldView). StandsFor x (logged (world_of s m attempts places) events.Visible reply log)) (λ i. world_of (sym h.1 i) (sym h.2 i) attempts places)
    (nothing_logged (world_of s m attempts places) reply pending log stood)
shown_logged s t m n attempts count places reply (w ∷ ws) pending shown log stood =
    let h = shown.piece w ws pending in show_logged s t m n attempts places (world_of s m attempts places) w ws reply refl pending h.2 (shown.stands w ws pending) log stood

pub show_logs : (s t : Session) (m n : MemView) (attempts count : ℕ) (places : List (Option ReaderCore)) (w : WorldView) (reply : Reply) → world_of s m attempts places ≡ w → ShowsCount s t m n count
    → (log : Log) → StandsFor w log → StandsFor (world_of t n attempts places) (logged w events.Visible reply log)
show_logs s t m n attempts count places w reply view shown =
    subst (λ (x : WorldView). (log : Log) → StandsFor x log → StandsFor (world_of t n attempts places) (logged x events.Visible reply log)) view
    (shown_logged s t m n attempts count places reply s.pending refl shown)

-- ---- Logs that no piece is added to

pub same_stands : (s t : Session) (m n : MemView) (attempts : ℕ) (places others : List (Option ReaderCore)) (w : WorldView) (log : Log) → world_of s m attempts places ≡ w → Same (steady m) (steady n)
    → t ≡ s → StandsFor w log → StandsFor (world_of t n attempts others) log
same_stands s t m n attempts places others w log view same is stood =
    let there : StandsFor (world_of s m attempts others) log = subst (λ (x : WorldView). StandsFor (record x { readers = others }) log) (sym view) (record { stands = stood.stands; new = stood.new; journal = stood.journal; bytes = stood.bytes }) in
    subst (λ (x : WorldView). StandsFor x log) (sym (changed s t m n attempts others same (λ x. x) is)) there

pub held_stands : (s t : Session) (m n : MemView) (attempts : ℕ) (places : List (Option ReaderCore)) (w : WorldView) (log : Log) → world_of s m attempts places ≡ w → Same (steady m) (steady n)
    → ((l : Log) → Stands s l → Stands t l) → StandsFor w log → StandsFor (world_of t n attempts places) log
held_stands s t m n attempts places w log view same stands stood =
    let there : StandsFor (world_of s m attempts places) log = subst (λ (x : WorldView). StandsFor x log) (sym view) stood in
    subst (λ (x : WorldView). StandsFor x log) (sym (replaced s t m n attempts places same))
    (record { stands = stands log there.stands; new = there.new; journal = there.journal; bytes = there.bytes })

-- want of memory leaves all but blocks that are held
pub holds_more : (s t : Session) (m n : MemView) (attempts : ℕ) (places : List (Option ReaderCore)) (w : WorldView) → world_of s m attempts places ≡ w → Same (steady m) (steady n) → SameBut s t
    → HoldsMore w (world_of t n attempts places)
holds_more s t m n attempts places w view same kept =
    subst (λ (x : WorldView). HoldsMore x (world_of t n attempts places)) view
    (record { session = kept; others = replaced s t m n attempts places same })

pub appended_stands : (s t : Session) (m n : MemView) (attempts : ℕ) (vs : List ℤ) (places : List (Option ReaderCore)) (w : WorldView) (log : Log) → world_of s m attempts places ≡ w → Same (steady m) (steady n)
    → ((l : Log) → Stands s l → Stands t (and_now (appends vs) l)) → StandsFor w log → StandsFor (world_of t n attempts places) (and_now (appends vs) log)
appended_stands s t m n attempts vs places w log view same stands stood =
    let there : StandsFor (world_of s m attempts places) log = subst (λ (x : WorldView). StandsFor x log) (sym view) stood in
    subst (λ (x : WorldView). StandsFor x (and_now (appends vs) log)) (sym (replaced s t m n attempts places same))
    (record { stands = stands log there.stands; new = new_now (appends vs) log there.new; journal = there.journal; bytes = there.bytes })

pub planned_stands : (s t : Session) (m n : MemView) (attempts pieces : ℕ) (places : List (Option ReaderCore)) (w : WorldView) (log : Log) → world_of s m attempts places ≡ w → Same (steady m) (steady n)
    → ((l : Log) → Stands s l → Stands t (and_now (plans pieces) l)) → StandsFor w log → StandsFor (world_of t n attempts places) (and_now (plans pieces) log)
planned_stands s t m n attempts pieces places w log view same stands stood =
    let there : StandsFor (world_of s m attempts places) log = subst (λ (x : WorldView). StandsFor x log) (sym view) stood in
    subst (λ (x : WorldView). StandsFor x (and_now (plans pieces) log)) (sym (replaced s t m n attempts places same))
    (record { stands = stands log there.stands; new = new_now (plans pieces) log there.new; journal = there.journal; bytes = there.bytes })
