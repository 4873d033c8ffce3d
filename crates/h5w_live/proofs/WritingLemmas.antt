-- The pieces of a session become visible through its seat.
use Rattle.std.proofs.Common.{◌≡◌, ℕ, ◌+◌, ◌-◌, ◌≤◌, true, List, [], ◌∷◌, ◌++◌, length, ℤ, sym, refl, ap, ◌∙◌, subst, arith, append_assoc, length-append}
use Rattle.std.proofs.lemmas.List.{append-nil}
use Rattle.h5w_model.specs.Datasets.{Described}
use Rattle.h5w_model.specs.Logs.{Happening, Log, and_now, appends, hist, plans, shows}
use Rattle.h5w_model.specs.declared.piece.Write.{Write}
use Rattle.h5w_creation_laws.specs.CreatedFiles.{CreatedFile, described_of}
use Rattle.h5w_writer.specs.Past.{IsNew}
use Rattle.h5w_writer.specs.Sessions.{AfterPiece, Session, stopped_of, with_rows}
use Rattle.h5w_writer.specs.Stands.{Stands}
use Rattle.h5w_image.specs.View.{Same}
use Rattle.h5w_shared.specs.Seats.{FailedSeat, ImageId, SeatView, seen_through}
use Rattle.h5w_shared.proofs.ThreadLemmas.{through_seats}
use Rattle.h5w_live.specs.Writing.{ArePut, HasPlaces, HasWritten, StaysSeated, Writes}
use Rattle.h5w_reader_laws.specs.Showing.{showing}
use Rattle.h5w_writer_laws.proofs.LeavingLemmas.{piece_leaves}
use Rattle.h5w_writer_laws.proofs.PieceLemmas.{after_pending, onward}

-- ---- Events

-- a batch more was put
pub put_behind : (before now : List Happening) (bs : List (List ℤ)) (v : ℤ) (vs : List ℤ) (early ws : List Write) → ArePut before bs now
    → ArePut before (bs ++ (v ∷ vs) ∷ []) (showing ws (plans (length ws) ∷ showing early (appends (v ∷ vs) ∷ now)))
put_behind before now [] v vs early ws h = (early, ws, ap (λ (es : List Happening). showing ws (plans (length ws) ∷ showing early (appends (v ∷ vs) ∷ es))) h)
put_behind before now ([] ∷ bs) v vs early ws h = put_behind before now bs v vs early ws h
put_behind before now ((x ∷ xs) ∷ bs) v vs early ws h = (h.0, h.1, put_behind (showing h.1 (plans (length h.1) ∷ showing h.0 (appends (x ∷ xs) ∷ before))) now bs v vs early ws h.2)

-- an empty one is none
pub put_empty : (before now : List Happening) (bs : List (List ℤ)) → ArePut before bs now → ArePut before (bs ++ [] ∷ []) now
put_empty before now [] h = h
put_empty before now ([] ∷ bs) h = put_empty before now bs h
put_empty before now ((x ∷ xs) ∷ bs) h = (h.0, h.1, put_empty (showing h.1 (plans (length h.1) ∷ showing h.0 (appends (x ∷ xs) ∷ before))) now bs h.2)

-- its log is a new file's
pub is_new : (f : CreatedFile) (s : Session) (v : SeatView) (w : Writes f s v) → IsNew w.log
is_new f s v w = record { file = f; is = w.is; log_is = w.new }

-- ---- The pieces of a plan

-- a log of the session goes on to one whose pieces the seat has seen
pub record GoesOn (t : Session) (u : SeatView) (log : Log) (seen left all : List Write) : Type 0 where
  pub events : List Happening
  pub stands : Stands t (record log { events = events })
  pub showing : showing left events ≡ showing all log.events
  pub pieces : hist log.events ≡ seen → hist events ≡ u.seen

-- so far these are left of the pieces, and the session, its seat and its logs are on their way
pub record Showing (s t : Session) (v u : SeatView) : Type 0 where
  pub session : AfterPiece s t.pending t
  pub image : u.image ≡ v.image
  pub seen : u.seen ++ t.pending ≡ v.seen ++ s.pending
  pub stands : (log : Log) → Stands s log → GoesOn t u log v.seen t.pending s.pending
  pub room : HasPlaces t u
  pub used : v.pieces + length t.pending ≤ u.pieces + length s.pending
  pub end : v.end ≤ u.end
  pub grown : length v.seen ≤ length u.seen

-- the seat with a piece more
abbrev pub and_piece : Write → SeatView → SeatView
and_piece w u = record u { seen = u.seen ++ w ∷ []; pieces = u.pieces - 1 }

pub shows_next : (s t n : Session) (v u x : SeatView) (w : Write) (ws : List Write) → Showing s t v u → t.pending ≡ w ∷ ws → AfterPiece t ws n → x ≡ and_piece w u
    → ((log : Log) → Stands t log → Stands n (and_now (shows w) log)) → Showing s n v x
shows_next s t n v u x w ws so is after wrote stands =
    let left : n.pending ≡ ws = after_pending t n ws after in
    let there : t ≡ record s { pending = w ∷ ws } = subst (λ (ps : List Write). AfterPiece s ps t) is so.session in
    let seen : x.seen ≡ u.seen ++ w ∷ [] = ap (λ (y : SeatView). y.seen) wrote in
    let pieces : x.pieces ≡ u.pieces - 1 = ap (λ (y : SeatView). y.pieces) wrote in
    let ends : x.end ≡ u.end = ap (λ (y : SeatView). y.end) wrote in
    let same = piece_leaves t n ws after in
    let one : length (w ∷ ws) ≡ length ws + 1 = omega arith in
    let count : length t.pending ≡ length n.pending + 1 = ap length is ∙ one ∙ ap (λ (l : List Write). length l + 1) (sym left) in
    record {
      session = subst (λ (ps : List Write). AfterPiece s ps n) (sym left) (onward s w ws ws n (subst (λ (y : Session). AfterPiece y ws n) there after));
      image = ap (λ (y : SeatView). y.image) wrote ∙ so.image;
      seen =
          ap (λ (hs : List Write). hs ++ n.pending) seen
          ∙ append_assoc u.seen (w ∷ []) n.pending ∙ ap (λ (ps : List Write). u.seen ++ w ∷ ps) left ∙ ap (λ (ps : List Write). u.seen ++ ps) (sym is) ∙ so.seen;
      stands = λ log stood.
          let now = so.stands log stood in
          record {
            events = shows w ∷ now.events;
            stands = stands (record log { events = now.events }) now.stands;
            showing = ap (λ (ps : List Write). showing ps (shows w ∷ now.events)) left ∙ ap (λ (ps : List Write). showing ps now.events) (sym is) ∙ now.showing;
            pieces = λ e. ap (λ (hs : List Write). hs ++ w ∷ []) (now.pieces e) ∙ sym seen;
          };
      room = record { pieces = omega (arith, so.room.pieces, count, pieces); end = omega (arith, so.room.end, same.end, ends) };
      used = omega (arith, so.used, so.room.pieces, count, pieces);
      end = omega (arith, so.end, ends);
      grown = omega (arith, so.grown, ap length seen, length-append u.seen (w ∷ []));
    }

pub stands_done : (s t : Session) (v u : SeatView) → Showing s t v u → t.pending ≡ [] → (log : Log) → Stands s log → Stands t (record log { events = showing s.pending log.events })
stands_done s t v u so none log stood =
    let now = so.stands log stood in
    let all : now.events ≡ showing s.pending log.events = ap (λ (ps : List Write). showing ps now.events) (sym none) ∙ now.showing in
    subst (λ (es : List Happening). Stands t (record log { events = es })) all now.stands

-- where nothing is pending, nothing is to be shown
nothing : (ws : List Write) → length ws ≡ 0 → ws ≡ []
nothing [] none = refl
nothing (w ∷ ws) none = absurd (omega (arith, none))

pub shows_none : (s : Session) → length s.pending ≡ 0 → s ≡ record s { pending = [] }
shows_none s none = ap (λ (ws : List Write). record s { pending = ws }) (nothing s.pending none)

pub stands_none : (s : Session) → length s.pending ≡ 0 → (log : Log) → Stands s log → Stands s (record log { events = showing s.pending log.events })
stands_none s none log stood = subst (λ (ws : List Write). Stands s (record log { events = showing ws log.events })) (sym (nothing s.pending none)) stood

pub wrote_none : (s : Session) (v : SeatView) → length s.pending ≡ 0 → HasWritten s.pending v v
wrote_none s v none = record {
  image = refl;
  seen = sym (append-nil v.seen) ∙ ap (λ (ws : List Write). v.seen ++ ws) (sym (nothing s.pending none));
  pieces = omega arith;
  end = omega arith;
}

-- the session is the writer's still, with what is visible so far
pub writes_on : (f : CreatedFile) (s t n : Session) (v u x : SeatView) → Showing s t v u → x.image ≡ u.image → x.seen ≡ u.seen → n.name ≡ t.name → n.dataset ≡ t.dataset
    → ((log : Log) → Stands t log → Stands n log) → Writes f s v → Writes f n x
writes_on f s t n v u x so image seen name dataset stands w =
    let now = so.stands w.log w.stands in
    let same = piece_leaves s t t.pending so.session in
    let d : n.dataset ≡ s.dataset = dataset ∙ same.dataset in
    record {
      log = record (w.log) { events = now.events };
      stands = stands (record (w.log) { events = now.events }) now.stands;
      is = w.is;
      new = ap (λ (l : Log). record l { events = now.events }) w.new;
      seat = record { start = w.seat.start ∙ ap (λ (i : ImageId). i.start) (sym (image ∙ so.image)); pieces = now.pieces w.seat.pieces ∙ sym seen };
      begun = omega (arith, w.begun, ap length seen, so.grown);
      name = name ∙ same.name ∙ w.name;
      dataset = d ∙ w.dataset ∙ ap (λ (e : Described). with_rows e.shape.rows (described_of f)) (sym d);
    }

-- the session is stopped where its seat failed
pub writes_failed : (f : CreatedFile) (s t n : Session) (v u x : SeatView) → Showing s t v u → FailedSeat u x → n ≡ stopped_of t → ((log : Log) → Stands t log → Stands n log) → Writes f s v → Writes f n x
writes_failed f s t n v u x so failed stopped stands w =
    writes_on f s t n v u x so (ap (λ (y : SeatView). y.image) failed.same) (ap (λ (y : SeatView). y.seen) failed.same)
    (ap (λ (y : Session). y.name) stopped) (ap (λ (y : Session). y.dataset) stopped) stands w

-- ---- A call through the seat

pub stays_seated : (m n : ℕ) (s t : SeatView) → Same (seen_through true m s) (seen_through true n t) → StaysSeated s t
stays_seated m n s t same =
    let seat = through_seats.same true m n s t same in
    record { image = seat.1; seen = seat.2; pieces = same.pieces; end = same.end }
