-- Readers of each dataset can rest on what it sees of the log.
use Rattle.std.proofs.Common.{◌≡◌, ℕ, zero, suc, ◌^◌, ◌<◌, ◌≤◌, List, [], ◌∷◌, ◌++◌, length, take, Some, refl, sym, ◌∙◌, ap, subst, arith, length-append}
use Rattle.std.specs.Prelude.{slice_get}
use Rattle.std.proofs.lemmas.List.{take_at}
use Rattle.std.proofs.lemmas.Option.{slice_get_within}
use Rattle.h5w_model.specs.Datasets.{root_header}
use Rattle.h5w_model.specs.Images.{image}
use Rattle.h5w_model.specs.Logs.{Log, hist}
use Rattle.h5w_model.specs.Prefixed.{IsPosition, continuation_blocks, image_at, root_address}
use Rattle.h5w_model.specs.Programs.{visits}
use Rattle.h5w_model.specs.Several.{Begun, FileLog, log_of}
use Rattle.h5w_model.specs.Tables.{Shows, format_limits, limit_of, needed}
use Rattle.h5w_model.specs.declared.cell.IndexKind.{IndexKind}
use Rattle.h5w_model.specs.declared.piece.Write.{Write}
use Rattle.h5w_step_laws.specs.Moments.{reading_of}
use Rattle.h5w_step_laws.proofs.FoundLemmas.{moment_shows}
use Rattle.h5w_creation_laws.specs.CreatedFiles.{CreatedFile}
use Rattle.h5w_several_creation_laws.specs.SeveralFiles.{created_writes, first_place, super_of}
use Rattle.h5w_several_creation_laws.proofs.StandLaws.{several_stand}
use Rattle.h5w_reader_laws.specs.Bounds.{looks_in}
use Rattle.h5w_reader_laws.specs.Headline.{Served}
use Rattle.h5w_reader_laws.proofs.PremiseLemmas.{bounds_from_one}
use Rattle.h5w_script_laws.specs.Polling.{Polling}
use Rattle.h5w_reader.specs.Readers.{reader_rules}
use Rattle.h5w_writer.specs.Sessions.{Session}
use Rattle.h5w_several_laws.proofs.SeenLemmas.{seen_laws}
use Rattle.h5w_several_writer_laws.specs.Sessions.{Sessions}
use Rattle.h5w_several_writer_laws.proofs.GiveLemmas.{standing_all}
use Rattle.h5w_several_world_laws.specs.Holding.{LogsHold}
use Rattle.h5w_several_world_laws.proofs.BeginningLemmas.{IsShort, new_short}

file_there : (fs : List CreatedFile) (d : ℕ) → d < length fs → (f : CreatedFile) × (slice_get fs d ≡ Some f)
file_there [] d low = absurd (omega (arith, low))
file_there (f ∷ fs) zero low = (f, refl)
file_there (f ∷ fs) (suc d) low = file_there fs d (omega (arith, low))

pub logs_hold : LogsHold
logs_hold S attempts pollings log st new limit tries d b s set part polling =
    let l : Log = log_of d b log in
    let t = standing_all.tells S log st d b s set part in
    let by = reader_rules s.name attempts in
    let ws : List Write = created_writes new.files in
    let served : Served s.name l = record {
      prefixed = t.prefixed;
      held = t.held;
      fits = λ p at. let fits = standing_all.fits S log st d b s set part p at in omega (arith, fits, limit, ap length new.start);
    } in
    -- the dataset as it was created
    let f = file_there new.files d (let inside = slice_get_within log.sets d b set in omega (arith, inside, new.sets)) in
    let name : f.0.name ≡ s.name = sym (new.names d f.0 f.1) ∙ ap (λ (g : Polling). g.name) polling in
    let short : IsShort (image [] ws) s.name = subst (λ (n : List ℕ). IsShort (image [] ws) n) name
    (new_short (image [] ws) (super_of 5 new.files) (first_place new.files) new.files d f.0 new.are refl (several_stand new.files new.are).created.stands f.1) in
    -- the first position shows it so
    let shown : hist l.events ≡ ws ++ new.later = seen_laws.pieces d log.events ∙ new.pieces in
    let first : IsPosition l log.first = record { begun = omega arith; reached = let count = ap length shown ∙ length-append ws new.later in omega (arith, count, new.first) } in
    let img : image [] ws ≡ image_at l log.first =
    sym (ap (λ (start : List ℕ). image start (take log.first (hist l.events))) new.start ∙ ap (λ (vs : List Write). image [] (take log.first vs)) shown ∙ ap (image []) (take_at ws new.later log.first (sym new.first))) in
    let seen : Shows format_limits (image_at l log.first) s.name (reading_of short.moment) =
    subst (λ (i : List ℕ). Shows format_limits i s.name (reading_of short.moment)) img (moment_shows (image [] ws) s.name short.moment short.here) in
    record {
      served = served;
      within = λ p r at shows. subst (λ (k : IndexKind). needed r.dataset ≤ limit_of by.limits k) (sym (t.dataset p r at shows).index) (t.few p r at shows);
      headers = bounds_from_one.headers s.name l log.first (reading_of short.moment) served first seen
          (subst (λ (i : List ℕ). looks_in (visits i (root_header (root_address i))) ≤ 2) img short.root)
          (subst (λ (i : List ℕ). continuation_blocks i (reading_of short.moment) ≡ []) img short.alone);
      cut = λ p r at shows.
          let x = t.dataset p r at shows in
          record { chunk_rows = x.chunk_rows; chunk_columns = x.chunk_columns; value_size = ap (λ y. y.size) x.int_type; addressed = λ k low. t.addressed (new.empty d b set) p r at shows k low };
      columns = t.columns;
      some_columns = let some = t.some_columns in omega (arith, some);
      some_attempts = tries;
    }
