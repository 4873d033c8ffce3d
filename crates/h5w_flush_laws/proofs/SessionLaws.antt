-- A session over its log.
use Rattle.std.proofs.Common.{◌≡◌, ◌≢◌, ℕ, List, [], ◌∷◌, ◌++◌, refl, sym, ◌∙◌, ap, subst, append-nil}
use Rattle.h5w_model.specs.Images.{image}
use Rattle.h5w_model.specs.Logs.{Log, shows, appended, and_now}
use Rattle.h5w_model.specs.Findings.{Used}
use Rattle.h5w_model.specs.declared.cell.Key.{Key}
use Rattle.h5w_model.specs.declared.piece.Write.{Write}
use Rattle.h5w_step_laws.specs.Files.{commit_at}
use Rattle.h5w_space.specs.Space.{Space}
use Rattle.h5w_step_laws.specs.Moments.{Moment}
use Rattle.h5w_step_laws.specs.Logs.{image_now}
use Rattle.h5w_step_laws.specs.Sessions.{Runs}
use Rattle.h5w_step_laws.proofs.GoesLemmas.{image_pushed}
use Rattle.h5w_step_laws.proofs.SessionLaws.{piece_runs, append_runs, flush_runs}
use Rattle.h5w_flush_laws.specs.Knowledge.{HeldMissed, Knows}
use Rattle.h5w_flush_laws.specs.Parts.{Parts, early_of, flushed_to, pieces_of, IsFlush}
use Rattle.h5w_flush_laws.specs.Flushes.{Rests, shown_also, flush_planned, SessionLaws}
use Rattle.h5w_flush_laws.proofs.FlushLaws.{flush_safe, knows_again}

some_last : (ws : List Write) (w : Write) → ws ++ w ∷ [] ≢ []
some_last [] w e = cc
some_last (v ∷ ws) w e = cc

pub shown_image : (ws : List Write) (log : Log) → image_now (shown_also ws log) ≡ image (image_now log) ws
shown_image [] log = refl
shown_image (w ∷ ws) log = shown_image ws (and_now (shows w) log) ∙ ap (λ (x : List ℕ). image x ws) (image_pushed log w)

pub shows_some : (name : List ℕ) (log : Log) (n : Moment) (after : List Used) (ws vs : List Write) → Runs name log (ws ++ vs) n after → Runs name (shown_also ws log) vs n after
shows_some name log n after [] vs r = r
shows_some name log n after (w ∷ ws) vs r = shows_some name (and_now (shows w) log) n after ws vs (piece_runs name log w (ws ++ vs) n after r)

plans_flush : (name : List ℕ) (log : Log) (m : Moment) (old : Key → ℕ) (s t : Space) (f : Parts) → (r : Rests name log m old s) → IsFlush (image_now log) m old s f t → HeldMissed r.knows.held f.writes
    → m.values ++ f.more ≡ appended log → Runs name (flush_planned m f log) (pieces_of (image_now log) m f) (flushed_to m f) f.behind
plans_flush name log m old s t f r i missed values =
    flush_runs name log m (flushed_to m f) r.knows.held f.behind (pieces_of (image_now log) m f) r.runs (flush_safe (image_now log) name m old s t f r.knows i missed)
    (some_last (early_of f) (commit_at (image_now log) m.place f.rows f.named)) values

-- a session rests over an image that is the log's
record RestsAt (img name : List ℕ) (log : Log) (m : Moment) (address : Key → ℕ) (s : Space) : Type 0 where
  knows : Knows img name m address s
  runs : Runs name log [] m knows.held

rests_at : (img name : List ℕ) (log : Log) (m : Moment) (address : Key → ℕ) (s : Space) → img ≡ image_now log → RestsAt img name log m address s → Rests name log m address s
rests_at img name log m address s same r =
    let x = subst (λ (i : List ℕ). RestsAt i name log m address s) same r in
    record { knows = x.knows; runs = x.runs }

pub session_laws : SessionLaws
session_laws = record {
  appends_values = λ name log m address s vs r. record { runs = append_runs name log vs m m r.knows.held r.knows.held [] r.runs (refl, refl); knows = r.knows };
  plans_flush = plans_flush;
  shows_some = shows_some;
  rests_again = λ name log m old s t v f r i missed values c.
      let pieces : List Write = pieces_of (image_now log) m f in
      let planned : Log = flush_planned m f log in
      let last = flushed_to m f in
      let again = knows_again (image_now log) name m old s t v f r.knows i missed c in
      rests_at (image (image_now log) pieces) name (shown_also pieces planned) last f.address v (sym (shown_image pieces planned)) (record {
        knows = again.knows;
        runs = subst (λ (us : List Used). Runs name (shown_also pieces planned) [] last us) (sym again.is)
            (shows_some name planned last f.behind pieces []
            (subst (λ (ws : List Write). Runs name planned ws last f.behind) (sym (append-nil pieces)) (plans_flush name log m old s t f r i missed values)));
      });
}
