-- A session that begins over the image of a log runs over a log of its own.
use Rattle.std.proofs.Common.{◌≡◌, ℕ, ◌+◌, ◌-◌, ◌*◌, List, [], refl, sym, ap, ◌∙◌, subst, arith, append-nil}
use Rattle.h5w_model.specs.Datasets.{Described}
use Rattle.h5w_model.specs.Findings.{Used}
use Rattle.h5w_model.specs.Images.{image}
use Rattle.h5w_model.specs.Logs.{Log, flushed, flushed_rows}
use Rattle.h5w_model.specs.Prefixed.{ReadsNow}
use Rattle.h5w_model.specs.Several.{settled_log}
use Rattle.h5w_model.specs.declared.cell.Key.{Key}
use Rattle.h5w_model.specs.declared.piece.Write.{Write}
use Rattle.h5w_step_laws.specs.Logs.{Goes, image_now}
use Rattle.h5w_step_laws.specs.Moments.{Moment, Represents, reading_of}
use Rattle.h5w_step_laws.proofs.FoundLemmas.{moment_shows}
use Rattle.h5w_step_laws.proofs.GoesLemmas.{image_last, past_now, reads_now}
use Rattle.h5w_step_laws.proofs.MomentLemmas.{few}
use Rattle.h5w_step_laws.proofs.SessionLaws.{goes_runs}
use Rattle.h5w_chunks.specs.declared.grid.ChunkPlace.{ChunkPlace}
use Rattle.h5w_step_laws.specs.Needed.{AreFew}
use Rattle.h5w_flush_laws.specs.Flushes.{IsBegun, Rests}
use Rattle.h5w_flush_laws.specs.Knowledge.{KnownHeld}
use Rattle.h5w_index.specs.Views.{address_in}
use Rattle.h5w_index.proofs.MarkLemmas.{mark_laws}
use Rattle.h5w_several_laws.proofs.SettledLemmas.{settled_laws, settled_pieces}
use Rattle.h5w_several_laws.proofs.TakeLemmas.{takes_over}
use Rattle.h5w_writer.specs.Early.{HasEarly}
use Rattle.h5w_writer.specs.Openings.{IsOver}
use Rattle.h5w_writer.specs.PartLaws.{RunsAs}
use Rattle.h5w_writer.specs.Past.{Past}
use Rattle.h5w_writer.specs.Sessions.{Session, rows_of, with_rows}
use Rattle.h5w_writer.specs.Stands.{Running}
use Rattle.h5w_writer.proofs.CreatingLemmas.{no_cells}
use Rattle.h5w_writer.proofs.EarlyLemmas.{nothing_early}
use Rattle.h5w_writer.proofs.PartLemmas.{part_laws}
use Rattle.h5w_writer.proofs.StandLemmas.{goes_rows}
use Rattle.h5w_takeover_laws.specs.Restarts.{IsTakenAs, TakenRuns, taken_log}

-- ---- The log of its own

-- it has come to the moment to which the other log has come, and readers may hold the same
pub taken_goes : (name : List ℕ) (log : Log) (m : Moment) (held : List Used) → Goes name log m held → Goes name (taken_log log) m held
taken_goes name log m held g = record {
  begun = omega arith;
  now = g.now;
  values = g.values;
  some_columns = g.some_columns;
  columns = g.columns;
  reaches = g.reaches;
  past = λ p r low high seen. past_now (taken_log log) p name m held r (image_last (taken_log log) p (omega arith)) g.now g.reaches seen;
  off_front = g.off_front;
  ends = g.ends;
  some = g.some;
  clear = g.clear;
  prefixed = λ low. reads_now name (taken_log log) m g.now g.values g.some_columns g.columns;
  still = λ k low short. absurd (omega (arith, short));
}

-- the other log, once it is settled, has the same image
settled_now : (log : Log) → image_now (settled_log log) ≡ image_now log
settled_now log = ap (λ (h : List Write). image log.start h) (settled_pieces 0 log.events)

module _ (s : Session) (log : Log) (m : Moment) (held : List Used) (g : Goes s.name log m held) (over : (n : Moment) → Represents (image_now log) s.name n → IsOver s (image_now log) n) (places : IsBegun m s.places) where
  abbrev own : Log
  own = taken_log log

  abbrev img : List ℕ
  img = image_now log

  abbrev address : Key → ℕ
  address key = address_in s.index key

  b : IsOver s img m
  b = over m g.now

  here : Goes s.name own m held
  here = taken_goes s.name log m held g

  settled : (r : Rests s.name (settled_log log) m address s.places) × (r.knows.held ≡ held)
  settled = takes_over s.name log m held address s.places g b.knows.index places b.knows.layout

  known : KnownHeld img s.name m address s.places held
  known = subst (λ (i : List ℕ). KnownHeld i s.name m address s.places held) (settled_now log) (record { knows = settled.0.knows; is = settled.1 })

  -- what a session keeps of the past is little at first
  past : Past s [] own m
  past =
      let now : ReadsNow s.name own = reads_now s.name own m here.now here.values here.some_columns here.columns in
      let x = part_laws.over img s.name (flushed_rows own) own.columns (flushed own) now.summary now.valid now.reads g.some_columns in
      let r : RunsAs s [] own x.0 address x.0.behind s.places = x.2 s refl (over x.0 x.1) in
      let p = r.running.past in
      record {
        begun = p.begun;
        counted = p.counted;
        limit_low = p.limit_low;
        limit_high = p.limit_high;
        addressed = p.addressed;
        next = λ bare. p.addressed bare 0 (reading_of m) (record { begun = omega arith; reached = omega arith }) (moment_shows img s.name m g.now);
        own = p.own;
        reach = p.reach;
        grew = p.grew;
        fits = p.fits;
        ends = tt;
        roomy = p.roomy;
      }

  -- no row was written early
  written : HasEarly s.dataset s.early s.chunks s.places img address s.places []
  written =
      let d = m.dataset in
      let rows : d.shape.rows ≡ d.shape.rows + 0 = omega arith in
      let now : AreFew (with_rows (s.dataset.shape.rows + 0) s.dataset) =
      subst (λ (x : Described). AreFew (with_rows (x.shape.rows + 0) x)) b.keeps.dataset (subst (λ (n : ℕ). AreFew (with_rows n d)) rows (few img s.name m g.now)) in
      let none = nothing_early s.dataset s.places img address now in
      subst (λ (n : ℕ). HasEarly s.dataset n s.chunks s.places img address s.places []) (sym b.early)
      (subst (λ (ps : List ChunkPlace). HasEarly s.dataset 0 ps s.places img address s.places []) (sym b.chunks) none)

  taken_running : Running s [] own
  taken_running = record {
    after = m;
    address = address;
    held = held;
    runs = goes_runs s.name own m held here (λ k. sym g.values);
    rest = s.places;
    knows = known.knows;
    holds = known.is;
    keeps = b.keeps;
    index = b.index;
    marks = mark_laws.clean s.dataset s.dataset.shape.rows (rows_of s) s.index b.clean;
    early = [];
    written = written;
    some = let none = b.early in omega (arith, none);
    flushing = λ e. b.early;
    more = [];
    waiting = b.waiting ∙ no_cells s.dataset;
    fit = refl;
    count = subst (λ (n : ℕ). 0 ≡ n * s.dataset.shape.cols) (let waits = b.waits in let none : 0 ≡ s.waits - s.early = omega (arith, waits) in none) (omega arith);
    appended = append-nil m.values ∙ g.values ∙ sym (append-nil (flushed log));
    committed = goes_rows s.name own m held here ∙ ap (λ (d : Described). d.shape.rows) b.keeps.dataset ∙ sym b.committed;
    planned = λ kept still. b.committed;
    columns = ap (λ (d : Described). d.shape.cols) (sym b.keeps.dataset) ∙ g.columns;
    past = past;
  }

  taken_as : RunsAs s [] own m address held s.places
  unfolding taken_running
  taken_as = record { running = taken_running; after = refl; address_is = refl; held_is = refl; rest_is = refl }

  pub taken : IsTakenAs s log m held
  taken = record { own = taken_as; all = settled.0; held_is = settled.1; rows = settled_laws.appended 0 log.values log.events }

pub taken_runs : TakenRuns
taken_runs s log m held g over places = taken s log m held g over places
