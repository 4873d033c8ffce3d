-- The oldest pending piece becomes visible.
use Rattle.std.proofs.Common.{◌≡◌, ◌≢◌, ◌⊎◌, ℕ, suc, ◌-◌, ◌<◌, ◌≤◌, List, [], ◌∷◌, ◌++◌, length, Bool, true, false, nat_lt, if◌then◌else◌, min, sym, refl, ap, ◌∙◌, subst, inl, inr, arith, length-append, Option, ℤ}
use Rattle.std.proofs.lemmas.Bool.{lt-ltb}
use Rattle.h5w_model.specs.Images.{image}
use Rattle.h5w_model.specs.Logs.{Log, Cutting, Happening, appends, plans, shows, hist, appended, flushed_rows, spent, and_now}
use Rattle.h5w_model.specs.Lawful.{Rules, ScriptState, after_shows, committed, rows_in}
use Rattle.h5w_model.specs.declared.event.Event.TheVariants as events
use Rattle.h5w_model.specs.declared.piece.Write.{Write}
use Rattle.h5w_model.specs.declared.reply.Reply.{Reply}
use Rattle.h5w_model.specs.declared.reply.Reply.TheVariants as replies
use Rattle.h5w_model.proofs.ImageLemmas.{image-push}
use Rattle.h5w_script_laws.specs.Polling.{Polling, now}
use Rattle.h5w_script_laws.specs.Scripts.{AllPoll}
use Rattle.h5w_script_laws.proofs.ScriptLemmas.{writer_line_laws}
use Rattle.h5w_model.specs.Datasets.{Described}
use Rattle.h5w_writer.specs.Sessions.{Session, AfterPiece, cutting_of, rows_of}
use Rattle.h5w_writer.specs.Stands.{Stands}
use Rattle.h5w_writer.proofs.LawLemmas.{standing_laws}
use Rattle.h5w_core.specs.Worlds.{WorldView, HaveOneLog, IsStateOf, StandsFor, Steps, logged, polling_by, polling_of, rules_of, shown_world}
use Rattle.h5w_core.proofs.StateLemmas.{in_rows, new_now, rules_by}
use Rattle.h5w_core.proofs.WorldLemmas.{world_of, shown_is}
use Rattle.h5w_image.specs.Memory.{MemView}
use Rattle.h5w_image.specs.View.{Wrote}
use Rattle.h5w_reader.specs.declared.reader.ReaderCore.{ReaderCore}
use Rattle.h5w_core.specs.Readers.{reader_at}
use Rattle.h5w_steady.specs.Steady.{steady}
use Rattle.h5w_writer_laws.specs.Leaves.{PieceLeaves}
use Rattle.h5w_writer_laws.proofs.LeavingLemmas.{piece_leaves}
use Rattle.h5w_writer.proofs.PastLemmas.{spent_in-events}

-- ---- Nothing is pending

nothing_shown : (s : ScriptState) → s.pending ≡ 0 → s.ends_flush ≡ false → (g : Rules) → after_shows g s 0 ≡ record s { pending = 0 }
nothing_shown s none idle g =
    ap (λ n. if nat_lt 0 n then record s { pending = s.pending - 0 } else (if s.ends_flush then committed g s else record s { pending = 0 })) none
    ∙ ap (λ (b : Bool). if b then committed g s else record s { pending = 0 }) idle

idle_state : (w : WorldView) (s : ScriptState) (log : Log) → w.session.pending ≡ [] → IsStateOf w s log → IsStateOf w (record s { pending = 0 }) log
idle_state w s log none state =
    record {
      appended = state.appended;
      flushed = state.flushed;
      pending = ap length (sym none);
      ends_flush = state.ends_flush;
      taken = state.taken;
      idle = state.idle;
      spent = state.spent;
      stopped = state.stopped;
      tries = state.tries;
      begun = state.begun;
      polls = state.polls;
    }

pub idle_steps : (w : WorldView) → w.session.pending ≡ [] → Steps w events.Visible (replies.Written 0 0) w
idle_steps w none =
    record {
      rules = refl;
      lawful = λ s fits.
          let pending : s.pending ≡ 0 = fits.state.pending ∙ ap length none in
          let idle : s.ends_flush ≡ false = fits.state.ends_flush ∙ fits.state.idle none in (
            ap (λ n. replies.Written (min 1 n) (n - min 1 n)) (sym pending),
            subst (λ (t : ScriptState). HaveOneLog w t) (sym (nothing_shown s pending idle (rules_of w)))
                (record { log = fits.log; stands = fits.stands; state = idle_state w s fits.log none fits.state }),
          );
    }

-- ---- A piece becomes visible

-- so rules and polling stay
pub shown_rules : (w : WorldView) (piece : Write) (t : Session) (ws : List Write) → PieceLeaves w.session ws t → rules_of (shown_world w piece t) ≡ rules_of w
shown_rules w piece t ws after = λ i. rules_by (after.dataset i) (after.limit i) (after.budget i) w.attempts

shown_polling : (w : WorldView) (piece : Write) (t : Session) (ws : List Write) → PieceLeaves w.session ws t → polling_of (shown_world w piece t) ≡ polling_of w
shown_polling w piece t ws after = λ i. polling_by (after.name i) (rules_by (after.dataset i) (after.limit i) (after.budget i) w.attempts)

pub same_cutting : (s t : Session) (ws : List Write) → PieceLeaves s ws t → cutting_of t ≡ cutting_of s
same_cutting s t ws after =
    ap (λ (d : Described). record { chunk_rows = d.layout.chunk_rows; chunk_columns = d.layout.chunk_cols; columns = d.shape.cols; value_size = d.int_type.size }) after.dataset

cons_some : (w : Write) (ws : List Write) → w ∷ ws ≢ []
cons_some w ws e = cc

pub shown_stands : (w : WorldView) (piece : Write) (t : Session) (log : Log) → Stands t (and_now (shows piece) log) → StandsFor w log → StandsFor (shown_world w piece t) (and_now (shows piece) log)
shown_stands w piece t log stands stood =
    record {
      stands = stands;
      new = new_now (shows piece) log stood.new;
      journal = ap (λ (ws : List Write). ws ++ piece ∷ []) stood.journal;
      bytes = ap (λ (b : List ℕ). image b (piece ∷ [])) stood.bytes ∙ sym (image-push [] (hist log.events) piece);
    }

last_state : (g : Rules) (s : ScriptState) → s.pending ≡ 1 → s.ends_flush ≡ true → after_shows g s 1 ≡ committed g s
last_state g s one ends =
    ap (λ n. if nat_lt 1 n then record s { pending = s.pending - 1 } else (if s.ends_flush then committed g s else record s { pending = 0 })) one
    ∙ ap (λ (b : Bool). if b then committed g s else record s { pending = 0 }) ends

early_state : (g : Rules) (s : ScriptState) → s.pending ≡ 1 → s.ends_flush ≡ false → after_shows g s 1 ≡ record s { pending = 0 }
early_state g s one still =
    ap (λ n. if nat_lt 1 n then record s { pending = s.pending - 1 } else (if s.ends_flush then committed g s else record s { pending = 0 })) one
    ∙ ap (λ (b : Bool). if b then committed g s else record s { pending = 0 }) still

more_state : (g : Rules) (s : ScriptState) (n : ℕ) → s.pending ≡ suc (suc n) → after_shows g s 1 ≡ record s { pending = s.pending - 1 }
more_state g s n more =
    ap (λ (b : Bool). if b then record s { pending = s.pending - 1 } else (if s.ends_flush then committed g s else record s { pending = 0 })) (lt-ltb 1 s.pending (omega arith))

-- pieces are shown after an event as before it
begun_on : (e : Happening) (log : Log) → log.first ≤ now log → log.first ≤ now (and_now e log)
begun_on (appends vs) log begun = begun
begun_on (plans k) log begun = begun
begun_on (shows w) log begun = omega (arith, length-append (hist log.events) (w ∷ []))

-- the last piece is the last, and ends a flush
last_alone : (s : ScriptState) (log : Log) (piece : Write) → s.pending ≡ 1 → s.ends_flush ≡ true → (1 < s.pending) ⊎ (s.ends_flush ≡ false)
    → flushed_rows (and_now (shows piece) log) ≡ flushed_rows log
last_alone s log piece one ends (inl more) = absurd (omega arith)
last_alone s log piece one ends (inr open_still) = let clash : true ≡ false = sym ends ∙ open_still in cc

-- readers poll on, and the loads stay
shown_polls : (w : WorldView) (piece : Write) (t : Session) (ws : List Write) (s : ScriptState) (log : Log) → PieceLeaves w.session ws t → AllPoll (polling_of w) (and_now (shows piece) log) s (reader_at w.readers)
    → AllPoll (polling_of (shown_world w piece t)) (and_now (shows piece) log) s (reader_at w.readers)
shown_polls w piece t ws s log after polls = subst (λ (g : Polling). AllPoll g (and_now (shows piece) log) s (reader_at w.readers)) (sym (shown_polling w piece t ws after)) polls

shown_spent : (w : WorldView) (piece : Write) (t : Session) (ws : List Write) (n : ℕ) (log : Log) → PieceLeaves w.session ws t → n ≡ spent (cutting_of w.session) log → n ≡ spent (cutting_of t) (and_now (shows piece) log)
shown_spent w piece t ws n log after is =
    is ∙ sym (spent_in-events (cutting_of w.session) log (shows piece ∷ log.events) log.events) ∙ ap (λ (c : Cutting). spent c (and_now (shows piece) log)) (sym (same_cutting w.session t ws after))

-- the last piece of a flush brings all rows
last_shown : (w : WorldView) (piece : Write) (t : Session) (s : ScriptState) (log : Log) → w.session.pending ≡ piece ∷ [] → w.session.flushing ≡ true → AfterPiece w.session [] t → Stands w.session log
    → Stands t (and_now (shows piece) log) → IsStateOf w s log → IsStateOf (shown_world w piece t) (committed (rules_of w) s) (and_now (shows piece) log)
last_shown w piece t s log pending flushing shown stood stands state =
    let after = piece_leaves w.session t [] shown in
    let one : s.pending ≡ 1 = state.pending ∙ ap length pending in
    let ends : s.ends_flush ≡ true = state.ends_flush ∙ flushing in
    let none_wait : w.session.waits ≡ 0 = state.taken flushing in
    let rows : rows_of w.session ≡ rows_in (rules_of w) s.appended = standing_laws.appended_rows w.session log stood ∙ in_rows w.session log (appended log) stood ∙ ap (λ (vs : List ℤ). rows_in (rules_of w) vs) (sym state.appended) in
    let committed_is : t.committed ≡ w.session.dataset.shape.rows = after.brings flushing refl in
    let all : rows_in (rules_of w) s.appended ≡ t.committed = omega (arith, rows, none_wait, committed_is) in
    record {
      appended = state.appended;
      flushed = all ∙ standing_laws.flushed_rows t (and_now (shows piece) log) stands;
      pending = sym (ap length after.pending);
      ends_flush = sym (after.idle refl);
      taken = λ flush. after.waits ∙ none_wait;
      idle = λ none. after.idle refl;
      spent = shown_spent w piece t [] s.spent log after state.spent;
      stopped = state.stopped ∙ sym after.stopped;
      tries = state.tries;
      begun = begun_on (shows piece) log state.begun;
      polls =
          shown_polls w piece t [] (committed (rules_of w) s) log after
          (subst (λ (x : ScriptState). AllPoll (polling_of w) (and_now (shows piece) log) x (reader_at w.readers)) (last_state (rules_of w) s one ends)
          (writer_line_laws.shown (polling_of w) log s (reader_at w.readers) piece 1 (last_alone s log piece one ends) state.polls));
    }

-- the last piece of an append brings none
early_shown : (w : WorldView) (piece : Write) (t : Session) (s : ScriptState) (log : Log) → w.session.pending ≡ piece ∷ [] → w.session.flushing ≡ false → AfterPiece w.session [] t → Stands w.session log
    → Stands t (and_now (shows piece) log) → IsStateOf w s log → IsStateOf (shown_world w piece t) (record s { pending = 0 }) (and_now (shows piece) log)
early_shown w piece t s log pending still shown stood stands state =
    let after = piece_leaves w.session t [] shown in
    let none = after.idle refl in
    let one : s.pending ≡ 1 = state.pending ∙ ap length pending in
    let open_still : s.ends_flush ≡ false = state.ends_flush ∙ still in
    let same : t.committed ≡ w.session.committed = ap (λ (x : Session). x.committed) (after.still still) in
    let level : flushed_rows log ≡ flushed_rows (and_now (shows piece) log) =
    sym (standing_laws.flushed_rows w.session log stood) ∙ sym same ∙ standing_laws.flushed_rows t (and_now (shows piece) log) stands in
    record {
      appended = state.appended;
      flushed = state.flushed ∙ level;
      pending = sym (ap length after.pending);
      ends_flush = open_still ∙ sym none;
      taken = λ flush. let clash : false ≡ true = sym none ∙ flush in cc;
      idle = λ no_piece. none;
      spent = shown_spent w piece t [] s.spent log after state.spent;
      stopped = state.stopped ∙ sym after.stopped;
      tries = state.tries;
      begun = begun_on (shows piece) log state.begun;
      polls =
          shown_polls w piece t [] (record s { pending = 0 }) log after
          (subst (λ (x : ScriptState). AllPoll (polling_of w) (and_now (shows piece) log) x (reader_at w.readers)) (early_state (rules_of w) s one open_still)
          (writer_line_laws.shown (polling_of w) log s (reader_at w.readers) piece 1 (λ _. sym level) state.polls));
    }

-- each other one leaves the rows
more_shown : (w : WorldView) (piece next : Write) (rest : List Write) (t : Session) (s : ScriptState) (log : Log) → w.session.pending ≡ piece ∷ next ∷ rest → AfterPiece w.session (next ∷ rest) t → Stands w.session log
    → Stands t (and_now (shows piece) log) → IsStateOf w s log → IsStateOf (shown_world w piece t) (record s { pending = s.pending - 1 }) (and_now (shows piece) log)
more_shown w piece next rest t s log pending shown stood stands state =
    let after = piece_leaves w.session t (next ∷ rest) shown in
    let count : s.pending ≡ suc (length (next ∷ rest)) = state.pending ∙ ap length pending in
    let same : t.committed ≡ w.session.committed = ap (λ (x : Session). x.committed) shown in
    let level : flushed_rows log ≡ flushed_rows (and_now (shows piece) log) =
    sym (standing_laws.flushed_rows w.session log stood) ∙ sym same ∙ standing_laws.flushed_rows t (and_now (shows piece) log) stands in
    let left : length t.pending ≡ length (next ∷ rest) = ap length after.pending in
    let flush : t.flushing ≡ w.session.flushing = ap (λ (x : Session). x.flushing) shown in
    record {
      appended = state.appended;
      flushed = state.flushed ∙ level;
      pending = omega (arith, count, left);
      ends_flush = state.ends_flush ∙ sym flush;
      taken = λ ends. after.waits ∙ state.taken (sym flush ∙ ends);
      idle = λ none. absurd (cons_some next rest (sym after.pending ∙ none));
      spent = shown_spent w piece t (next ∷ rest) s.spent log after state.spent;
      stopped = state.stopped ∙ sym after.stopped;
      tries = state.tries;
      begun = begun_on (shows piece) log state.begun;
      polls =
          shown_polls w piece t (next ∷ rest) (record s { pending = s.pending - 1 }) log after
          (subst (λ (x : ScriptState). AllPoll (polling_of w) (and_now (shows piece) log) x (reader_at w.readers)) (more_state (rules_of w) s (length rest) count)
          (writer_line_laws.shown (polling_of w) log s (reader_at w.readers) piece 1 (λ _. sym level) state.polls));
    }

-- the last piece, by whether it ends a flush
last_fits : (w : WorldView) (piece : Write) (t : Session) (s : ScriptState) (log : Log) (b : Bool) → w.session.flushing ≡ b → w.session.pending ≡ piece ∷ [] → AfterPiece w.session [] t → StandsFor w log
    → Stands t (and_now (shows piece) log) → IsStateOf w s log → HaveOneLog (shown_world w piece t) (after_shows (rules_of w) s 1)
last_fits w piece t s log true flushing pending shown stood stands state =
    subst (λ (x : ScriptState). HaveOneLog (shown_world w piece t) x) (sym (last_state (rules_of w) s (state.pending ∙ ap length pending) (state.ends_flush ∙ flushing)))
    (record { log = and_now (shows piece) log; stands = shown_stands w piece t log stands stood; state = last_shown w piece t s log pending flushing shown stood.stands stands state })
last_fits w piece t s log false still pending shown stood stands state =
    subst (λ (x : ScriptState). HaveOneLog (shown_world w piece t) x) (sym (early_state (rules_of w) s (state.pending ∙ ap length pending) (state.ends_flush ∙ still)))
    (record { log = and_now (shows piece) log; stands = shown_stands w piece t log stands stood; state = early_shown w piece t s log pending still shown stood.stands stands state })

piece_fits : (w : WorldView) (piece : Write) (pieces : List Write) (t : Session) (s : ScriptState) (log : Log) → w.session.pending ≡ piece ∷ pieces → AfterPiece w.session pieces t → StandsFor w log
    → Stands t (and_now (shows piece) log) → IsStateOf w s log → HaveOneLog (shown_world w piece t) (after_shows (rules_of w) s 1)
piece_fits w piece [] t s log pending shown stood stands state = last_fits w piece t s log w.session.flushing refl pending shown stood stands state
piece_fits w piece (next ∷ rest) t s log pending shown stood stands state =
    let more : s.pending ≡ suc (suc (length rest)) = state.pending ∙ ap length pending in
    subst (λ (x : ScriptState). HaveOneLog (shown_world w piece t) x) (sym (more_state (rules_of w) s (length rest) more))
    (record { log = and_now (shows piece) log; stands = shown_stands w piece t log stands stood; state = more_shown w piece next rest t s log pending shown stood.stands stands state })

-- the session's own clause, for each log
abbrev pub Carries : Session → Write → Session → Type 0
Carries s piece t = (log : Log) → Stands s log → Stands t (and_now (shows piece) log)

pub piece_steps : (w : WorldView) (piece : Write) (pieces : List Write) (t : Session) → w.session.pending ≡ piece ∷ pieces → AfterPiece w.session pieces t → Carries w.session piece t
    → Steps w events.Visible (replies.Written 1 (length pieces)) (shown_world w piece t)
piece_steps w piece pieces t pending shown carries =
    record {
      rules = shown_rules w piece t pieces (piece_leaves w.session t pieces shown);
      lawful = λ s fits.
          let count : s.pending ≡ suc (length pieces) = fits.state.pending ∙ ap length pending in
          let one : 1 ≡ min 1 s.pending = omega arith in
          let left : length pieces ≡ s.pending - min 1 s.pending = omega arith in (
            λ i. replies.Written (one i) (left i),
            piece_fits w piece pieces t s fits.log pending shown fits.stands (carries fits.log fits.stands.stands) fits.state,
          );
    }

-- ---- By the parts of a world

-- the worlds before and after it, by their parts
pub show_done : (s t : Session) (m n : MemView) (attempts left : ℕ) (readers : List (Option ReaderCore)) (w : WorldView) (piece : Write) (pieces : List Write) → world_of s m attempts readers ≡ w → s.pending ≡ piece ∷ pieces
    → Wrote (piece ∷ []) (steady m) (steady n) → AfterPiece s pieces t → left ≡ length t.pending → ((log : Log) → Stands s log → Stands t (and_now (shows piece) log))
    → Steps w events.Visible (replies.Written 1 left) (world_of t n attempts readers)
show_done s t m n attempts left readers w piece pieces view pending wrote shown count stands =
    let after = piece_leaves s t pieces shown in
    let rest : left ≡ length pieces = count ∙ ap length after.pending in
    let steps = piece_steps (world_of s m attempts readers) piece pieces t pending shown stands in
    subst (λ (x : WorldView). Steps x events.Visible (replies.Written 1 left) (world_of t n attempts readers)) view
    (subst (λ (x : WorldView). Steps (world_of s m attempts readers) events.Visible (replies.Written 1 left) x) (sym (shown_is s t m n attempts readers piece wrote))
    (subst (λ (k : ℕ). Steps (world_of s m attempts readers) events.Visible (replies.Written 1 k) (shown_world (world_of s m attempts readers) piece t)) (sym rest) steps))

pub logged_piece : (w : WorldView) (piece : Write) (pieces : List Write) (reply : Reply) (log : Log) → w.session.pending ≡ piece ∷ pieces → logged w events.Visible reply log ≡ and_now (shows piece) log
logged_piece w piece pieces reply log pending = ap (λ (ws : List Write). elim ws as (λ _. Log) [ [] ↦ log | x ∷ xs ↦ and_now (shows x) log ]) pending

pub logged_nothing : (w : WorldView) (reply : Reply) (log : Log) → w.session.pending ≡ [] → logged w events.Visible reply log ≡ log
logged_nothing w reply log none = ap (λ (ws : List Write). elim ws as (λ _. Log) [ [] ↦ log | x ∷ xs ↦ and_now (shows x) log ]) none

pub show_logged : (s t : Session) (m n : MemView) (attempts : ℕ) (readers : List (Option ReaderCore)) (w : WorldView) (piece : Write) (pieces : List Write) (reply : Reply) → world_of s m attempts readers ≡ w → s.pending ≡ piece ∷ pieces
    → Wrote (piece ∷ []) (steady m) (steady n) → ((log : Log) → Stands s log → Stands t (and_now (shows piece) log))
    → (log : Log) → StandsFor w log → StandsFor (world_of t n attempts readers) (logged w events.Visible reply log)
show_logged s t m n attempts readers w piece pieces reply view pending wrote stands log stood =
    let there : w.session.pending ≡ piece ∷ pieces = ap (λ (x : WorldView). x.session.pending) (sym view) ∙ pending in
    let stood_there : StandsFor (world_of s m attempts readers) log = subst (λ (x : WorldView). StandsFor x log) (sym view) stood in
    subst (λ (l : Log). StandsFor (world_of t n attempts readers) l) (sym (logged_piece w piece pieces reply log there))
    (subst (λ (x : WorldView). StandsFor x (and_now (shows piece) log)) (sym (shown_is s t m n attempts readers piece wrote))
    (shown_stands (world_of s m attempts readers) piece t log (stands log stood_there.stands) stood_there))

pub nothing_logged : (w : WorldView) (reply : Reply) → w.session.pending ≡ [] → (log : Log) → StandsFor w log → StandsFor w (logged w events.Visible reply log)
nothing_logged w reply none log stood = subst (λ (l : Log). StandsFor w l) (sym (logged_nothing w reply log none)) stood
