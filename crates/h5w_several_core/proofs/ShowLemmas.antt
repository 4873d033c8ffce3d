-- A piece becomes visible, and the writer stops.
use Rattle.std.proofs.Common.{◌≡◌, ℕ, true, List, [], ◌∷◌, length, refl, sym, ap, subst, ◌∙◌, arith}
use Rattle.h5w_model.specs.Images.{image}
use Rattle.h5w_model.specs.Several.{FileLog, shows_all}
use Rattle.h5w_model.specs.declared.piece.Write.{Write}
use Rattle.h5w_model.specs.declared.reply.Reply.TheVariants as replies
use Rattle.h5w_image.specs.Memory.{MemView}
use Rattle.h5w_image.specs.View.{ImageView, Wrote}
use Rattle.h5w_image.proofs.ViewLemmas.{same_itself}
use Rattle.h5w_steady.specs.Steady.{steady}
use Rattle.h5w_writer_laws.proofs.PieceLemmas.{some_is}
use Rattle.h5w_several_writer.specs.Flows.{KeepsParts}
use Rattle.h5w_several_writer.specs.Refusals.{HasRoomForAll}
use Rattle.h5w_several_writer.proofs.EndLemmas.{stopped_none}
use Rattle.h5w_several_writer_laws.specs.Sessions.{AfterPieceOf, Sessions, all_pending, stopped_all}
use Rattle.h5w_several_writer_laws.specs.Standing.{StandsAll, and_then}
use Rattle.h5w_several_script_laws.specs.Scripts.{FileReply, says}
use Rattle.h5w_several_world_laws.proofs.StepLemmas.{shown_none, shown_steps, stopped_steps}
use Rattle.h5w_several_core.specs.Places.{place_at}
use Rattle.h5w_several_core.specs.Worlds.{FileSteps, HoldsAll, SeveralView, StandsForFile, pollings_of, shown_log}
use Rattle.h5w_several_core.specs.declared.events.FileEvent.TheVariants as events
use Rattle.h5w_several_core.specs.declared.places.Place.{Place}
use Rattle.h5w_several_core.proofs.FrontLemmas.{front_shown, front_stopped}
use Rattle.h5w_several_core.proofs.MachineLemmas.{file_steps, same_logs, shown_logs, steps_hold, world_of}
use Rattle.h5w_several_core.proofs.RuleLemmas.{polls_in, polls_kept, polls_stopped}

-- ---- A piece

-- what the call says where nothing is pending, and where something is
pub record ShowsCount (S T : Sessions) (m n : MemView) (count : ℕ) : Type 0 where
  pub nothing : all_pending S.parts ≡ [] → (count ≡ 0) × (T ≡ S) × (n ≡ m)
  pub piece : (w : Write) (ws : List Write) → all_pending S.parts ≡ w ∷ ws → (count ≡ 1) × AfterPieceOf w S T × Wrote (w ∷ []) (steady m) (steady n)
  pub parts : (w : Write) (ws : List Write) → all_pending S.parts ≡ w ∷ ws → KeepsParts S T
  pub stands : (w : Write) (ws : List Write) → all_pending S.parts ≡ w ∷ ws → (log : FileLog) → StandsAll S log → StandsAll T (and_then (shows_all w) log)

-- none is pending
none_steps : (S : Sessions) (m : MemView) (attempts : ℕ) (ps : List Place) → all_pending S.parts ≡ [] → FileSteps (world_of S m attempts ps) events.Visible (says (replies.Written 0 0)) (world_of S m attempts ps)
none_steps S m attempts ps none =
    file_steps S S m m attempts ps ps events.Visible (says (replies.Written 0 0)) refl (λ log stood. subst (λ (ws : List Write). StandsForFile (world_of S m attempts ps) (shown_log ws log)) (sym none) stood)
    (λ F h file used.
    let s = shown_none S attempts (place_at ps) F h none in
    record { allowed = s.allowed; fits = s.fits; log_is = ap (λ (ws : List Write). shown_log ws h.log) (sym none) })

kept_polls : (S T : Sessions) (m n : MemView) (attempts : ℕ) (ps : List Place) → KeepsParts S T → pollings_of (world_of T n attempts ps) ≡ pollings_of (world_of S m attempts ps)
kept_polls S T m n attempts ps x = ap (λ (l : ℕ). polls_in l attempts T.parts) x.limit ∙ polls_kept S.places.limit attempts S.parts T.parts x.each

piece_steps : (S T : Sessions) (m n : MemView) (attempts : ℕ) (ps : List Place) (w : Write) (ws : List Write) → all_pending S.parts ≡ w ∷ ws → AfterPieceOf w S T → Wrote (w ∷ []) (steady m) (steady n) → KeepsParts S T
    → ((log : FileLog) → StandsAll S log → StandsAll T (and_then (shows_all w) log)) → FileSteps (world_of S m attempts ps) events.Visible (says (replies.Written 1 (length (all_pending T.parts)))) (world_of T n attempts ps)
piece_steps S T m n attempts ps w ws pending after wrote parts stands =
    file_steps S T m n attempts ps ps events.Visible (says (replies.Written 1 (length (all_pending T.parts)))) (kept_polls S T m n attempts ps parts)
    (λ log stood. subst (λ (us : List Write). StandsForFile (world_of T n attempts ps) (shown_log us log)) (sym pending) (shown_logs S T m n attempts ps w log wrote (stands log) stood))
    (λ F h file used.
    let s = shown_steps S T attempts (place_at ps) F w h after in
    record { allowed = s.allowed; fits = s.fits; log_is = ap (λ (us : List Write). shown_log us h.log) (sym pending) })

module _ (S T : Sessions) (m n : MemView) (attempts count left : ℕ) (ps : List Place) (shown : ShowsCount S T m n count) (is : left ≡ length (all_pending T.parts)) where
  steps_by : (ws : List Write) → all_pending S.parts ≡ ws → FileSteps (world_of S m attempts ps) events.Visible (says (replies.Written count left)) (world_of T n attempts ps)
  steps_by [] pending =
      let h = shown.nothing pending in
      let none : left ≡ 0 = is ∙ ap (λ (U : Sessions). length (all_pending U.parts)) h.1 ∙ ap (λ (ws : List Write). length ws) pending in
      let reply : says (replies.Written count left) ≡ says (replies.Written 0 0) = λ i. says (replies.Written (h.0 i) (none i)) in
      subst (λ (x : FileReply). FileSteps (world_of S m attempts ps) events.Visible x (world_of T n attempts ps)) (sym reply)
      (subst (λ (x : SeveralView). FileSteps (world_of S m attempts ps) events.Visible (says (replies.Written 0 0)) x) (λ i. world_of (sym h.1 i) (sym h.2 i) attempts ps) (none_steps S m attempts ps pending))
  steps_by (w ∷ ws) pending =
      let h = shown.piece w ws pending in
      let reply : says (replies.Written count left) ≡ says (replies.Written 1 (length (all_pending T.parts))) = λ i. says (replies.Written (h.0 i) (is i)) in
      subst (λ (x : FileReply). FileSteps (world_of S m attempts ps) events.Visible x (world_of T n attempts ps)) (sym reply)
      (piece_steps S T m n attempts ps w ws pending h.1 h.2 (shown.parts w ws pending) (shown.stands w ws pending))

  pub show_steps : FileSteps (world_of S m attempts ps) events.Visible (says (replies.Written count left)) (world_of T n attempts ps)
  show_steps = steps_by (all_pending S.parts) refl

  hold_by : (ws : List Write) → all_pending S.parts ≡ ws → HoldsAll S m attempts ps → HasRoomForAll T (steady n) → HoldsAll T n attempts ps
  hold_by [] pending h room =
      let x = shown.nothing pending in
      subst (λ (v : MemView). HoldsAll T v attempts ps) (sym x.2) (subst (λ (U : Sessions). HoldsAll U m attempts ps) (sym x.1) h)
  hold_by (w ∷ ws) pending h room =
      let x = shown.parts w ws pending in
      let y = shown.piece w ws pending in
      steps_hold S T m n attempts ps ps events.Visible (says (replies.Written count left)) h tt show_steps room x.limit
      (front_shown S T m.bytes n.bytes w (some_is n.bytes (image m.bytes (w ∷ [])) y.2.bytes) y.1 h.front) h.count

  pub show_hold : HoldsAll S m attempts ps → HasRoomForAll T (steady n) → HoldsAll T n attempts ps
  show_hold h room = hold_by (all_pending S.parts) refl h room

  polls_by : (ws : List Write) → all_pending S.parts ≡ ws → pollings_of (world_of T n attempts ps) ≡ pollings_of (world_of S m attempts ps)
  polls_by [] pending =
      let x = shown.nothing pending in
      ap (λ (U : Sessions). polls_in U.places.limit attempts U.parts) x.1
  polls_by (w ∷ ws) pending = kept_polls S T m n attempts ps (shown.parts w ws pending)

  pub show_polls : pollings_of (world_of T n attempts ps) ≡ pollings_of (world_of S m attempts ps)
  show_polls = polls_by (all_pending S.parts) refl

-- ---- A stop

module _ (S T : Sessions) (m : MemView) (attempts : ℕ) (ps : List Place) (is : T ≡ stopped_all S) (stands : (log : FileLog) → StandsAll S log → StandsAll T log) where
  stopped_logs : (log : FileLog) → StandsAll S log → StandsAll (stopped_all S) log
  stopped_logs log stood = subst (λ (U : Sessions). StandsAll U log) is (stands log stood)

  stopped_polls : pollings_of (world_of (stopped_all S) m attempts ps) ≡ pollings_of (world_of S m attempts ps)
  stopped_polls = polls_stopped S.places.limit attempts S.parts

  stopped_file : FileSteps (world_of S m attempts ps) events.Stop (says replies.Stopped) (world_of (stopped_all S) m attempts ps)
  stopped_file =
      file_steps S (stopped_all S) m m attempts ps ps events.Stop (says replies.Stopped) stopped_polls
      (λ log stood. same_logs S (stopped_all S) m m attempts ps ps log log (same_itself (steady m)) (stopped_logs log) refl refl refl stood)
      (λ F h file used.
      let s = stopped_steps S attempts (place_at ps) F h in
      record { allowed = s.allowed; fits = s.fits; log_is = refl })

  pub stop_steps : FileSteps (world_of S m attempts ps) events.Stop (says replies.Stopped) (world_of T m attempts ps)
  stop_steps = subst (λ (U : Sessions). FileSteps (world_of S m attempts ps) events.Stop (says replies.Stopped) (world_of U m attempts ps)) (sym is) stopped_file

  pub stop_polls : pollings_of (world_of T m attempts ps) ≡ pollings_of (world_of S m attempts ps)
  stop_polls = ap (λ (U : Sessions). polls_in U.places.limit attempts U.parts) is ∙ stopped_polls

  stopped_room : HasRoomForAll S (steady m) → HasRoomForAll (stopped_all S) (steady m)
  stopped_room room =
      let none : length (all_pending (stopped_all S).parts) ≡ 0 = ap (λ (ws : List Write). length ws) (stopped_none S.parts) in
      record { pieces = omega (arith, none, room.pieces); end = room.end }

  pub stop_hold : HoldsAll S m attempts ps → HoldsAll T m attempts ps
  stop_hold h =
      subst (λ (U : Sessions). HoldsAll U m attempts ps) (sym is)
      (steps_hold S (stopped_all S) m m attempts ps ps events.Stop (says replies.Stopped) h tt stopped_file (stopped_room h.room) refl (front_stopped S m.bytes h.front) h.count)

-- ---- Room

-- a piece that became visible used the room of one
pub room_stays : (S T : Sessions) (w : Write) (ws : List Write) (u v : ImageView) → all_pending S.parts ≡ w ∷ ws → HasRoomForAll S u → all_pending T.parts ≡ ws → KeepsParts S T → Wrote (w ∷ []) u v → HasRoomForAll T v
room_stays S T w ws u v pending room left parts wrote =
    let before = ap (λ (us : List Write). length us) pending in
    let after = ap (λ (us : List Write). length us) left in
    record { pieces = omega (arith, room.pieces, before, after, wrote.pieces); end = omega (arith, room.end, parts.end, wrote.end) }

-- the first of one list is the first of the same
pub first_is : (a b : Write) (us vs : List Write) → a ∷ us ≡ b ∷ vs → a ≡ b
first_is a b us vs same = cc
