-- Readers rest on the log of a file over each takeover.
use Rattle.std.proofs.Common.{◌≡◌, ℕ, ◌≤◌, List, [], ◌∷◌, ◌++◌, length, take, refl, sym, ◌∙◌, ap, subst, arith, append_assoc, append-nil, length-append}
use Rattle.std.proofs.lemmas.List.{take-append-le}
use Rattle.h5w_model.specs.Images.{image}
use Rattle.h5w_model.specs.Logs.{Log, hist}
use Rattle.h5w_model.specs.Prefixed.{image_at}
use Rattle.h5w_model.specs.Programs.{IsLookAt}
use Rattle.h5w_model.specs.Readers.{IsCall, Placed}
use Rattle.h5w_model.specs.Several.{FileLog, Happened, alone, appends_to, file_log, log_of, pieces_in, plans_each, seen_by, shows_all, takes_over}
use Rattle.h5w_model.specs.Tables.{Limits, Shows, format_limits, limit_of, needed}
use Rattle.h5w_model.specs.declared.cell.IndexKind.{IndexKind}
use Rattle.h5w_model.specs.declared.piece.Write.{Write}
use Rattle.h5w_reader_laws.specs.Headline.{WithinLimits}
use Rattle.h5w_reader_laws.proofs.CallLemmas as headline
use Rattle.h5w_reader_laws.proofs.ValueLemmas as values
use Rattle.h5w_several_laws.proofs.SeenLemmas.{seen_laws}
use Rattle.h5w_several_writer_laws.proofs.GiveLemmas.{standing_all}
use Rattle.h5w_takeover_reading_laws.specs.Across.{AllServe, AloneGoesOn, ReaderGoesOn, ReadersGoOn, ReadsAcross, RefreshesAcross, begun_of, later_log}

-- ---- Pieces

-- what happens later brings its pieces behind those that are there
later_pieces : (es fs : List Happened) → pieces_in (es ++ fs) ≡ pieces_in fs ++ pieces_in es
later_pieces [] fs = sym (append-nil (pieces_in fs))
later_pieces (appends_to e vs ∷ es) fs = later_pieces es fs
later_pieces (plans_each counts ∷ es) fs = later_pieces es fs
later_pieces (shows_all w ∷ es) fs = ap (λ (ws : List Write). ws ++ w ∷ []) (later_pieces es fs) ∙ append_assoc (pieces_in fs) (pieces_in es) (w ∷ [])
later_pieces (takes_over ∷ es) fs = later_pieces es fs

seen_later : (es fs : List Happened) (d : ℕ) → hist (seen_by d (es ++ fs)) ≡ hist (seen_by d fs) ++ pieces_in es
seen_later es fs d = seen_laws.pieces d (es ++ fs) ∙ later_pieces es fs ∙ ap (λ (ws : List Write). ws ++ pieces_in es) (sym (seen_laws.pieces d fs))

-- ---- A reader goes on

module _ (old new : Log) (more : List Write) (start : new.start ≡ old.start) (pieces : hist new.events ≡ hist old.events ++ more) where
  same_image : (p : ℕ) → p ≤ length (hist old.events) → image_at new p ≡ image_at old p
  same_image p low =
      ap (λ (b : List ℕ). image b (take p (hist new.events))) start
      ∙ ap (λ (ws : List Write). image old.start ws) (ap (take p) pieces ∙ take-append-le p (hist old.events) more low)

  longer : length (hist old.events) ≤ length (hist new.events)
  longer = let same = ap length pieces ∙ length-append (hist old.events) more in omega (arith, same)

  calls_on : (from : ℕ) (ls : List Placed) → IsCall old from ls → IsCall new from ls
  calls_on from [] h = tt
  calls_on from (l ∷ ls) h = (h.0, omega (arith, longer, h.1), subst (λ (i : List ℕ). IsLookAt i l.look) (sym (same_image l.position h.1)) h.2, calls_on l.position ls h.3)

  reader_goes_on : new.first ≡ old.first → ReaderGoesOn old new
  reader_goes_on first = record {
    positions = λ p at. record { begun = let begun = at.begun in omega (arith, begun, first); reached = let reached = at.reached in omega (arith, reached, longer) };
    images = λ p at. same_image p at.reached;
    calls = calls_on;
  }

pub readers_go_on : ReadersGoOn
readers_go_on log es d b = reader_goes_on (log_of d b log) (log_of d b (later_log es log)) (pieces_in es) refl (seen_later es log.events d) refl

pub alone_goes_on : AloneGoesOn
alone_goes_on log es =
    reader_goes_on log (log_of 0 (begun_of log) (later_log es (file_log log))) (pieces_in es) refl
    (seen_later es (alone log.events) 0 ∙ ap (λ events. hist events ++ pieces_in es) (seen_laws.one log.events)) refl

-- ---- What it gets

pub all_serve : AllServe
all_serve S log st limit start d b s set part =
    let t = standing_all.tells S log st d b s set part in (
      record {
        prefixed = t.prefixed;
        held = t.held;
        fits = λ p at. let fits = standing_all.fits S log st d b s set part p at in omega (arith, fits, limit, start);
      },
      λ p r at shows. subst (λ (k : IndexKind). needed r.dataset ≤ limit_of format_limits k) (sym (t.dataset p r at shows).index) (t.few p r at shows),
    )

pub refreshes_across : RefreshesAcross
refreshes_across S log es d b s g seen r from ls a x limits tries at before call shows place known takes =
    let later : FileLog = later_log es log in
    let on = readers_go_on log es d b in
    let serves = all_serve S later x.stands x.limit x.start d b s x.set x.part in
    let within : WithinLimits g.limits s.name (log_of d b later) = subst (λ (l : Limits). WithinLimits l s.name (log_of d b later)) (sym limits) serves.1 in
    headline.refreshes_to_rows s.name (log_of d b later) g seen r from ls a serves.0 within tries (on.positions seen at) before call
    (subst (λ (i : List ℕ). Shows format_limits i s.name r) (sym (on.images seen at)) shows) place known takes

pub reads_across : ReadsAcross
reads_across S log es d b s seen r from first count ls a x at before shows call some low takes =
    let later : FileLog = later_log es log in
    let on = readers_go_on log es d b in
    let serves = all_serve S later x.stands x.limit x.start d b s x.set x.part in
    values.reads_values s.name (log_of d b later) seen r from first count ls a serves.0 (on.positions seen at) before
    (subst (λ (i : List ℕ). Shows format_limits i s.name r) (sym (on.images seen at)) shows) call some low takes
