-- A new file of several datasets is empty under each name.
use Rattle.std.proofs.Common.{◌≡◌, ℕ, List, [], ◌∷◌, length, refl, ◌∙◌, ap}
use Rattle.h5w_model.specs.Images.{image}
use Rattle.h5w_model.specs.Several.{FileLog}
use Rattle.h5w_step_laws.specs.Moments.{Represents, reading_of}
use Rattle.h5w_step_laws.proofs.FoundLemmas.{moment_reads, moment_shows}
use Rattle.h5w_creation_laws.specs.CreatedFiles as one
use Rattle.h5w_creation_laws.specs.CreatedFiles.{CreatedFile}
use Rattle.h5w_several_creation_laws.specs.SeveralFiles.{created_writes, end_behind, first_place, moment_at, root_ranges, super_of}
use Rattle.h5w_several_creation_laws.specs.SeveralLaws.{EachStands}
use Rattle.h5w_several_creation_laws.proofs.OneLemmas.{one_dataset}
use Rattle.h5w_several_creation_laws.proofs.StandLaws.{several_stand}
use Rattle.h5w_writer.proofs.PastLemmas.{one_each}
use Rattle.h5w_several_creating.specs.Created.{begun_of}
use Rattle.h5w_several_creating.specs.Laws.{CreatesEmpty, CreatesOne, EachEmpty, IsEmpty}

module _ (img : List ℕ) (fs : List CreatedFile) where
  one_empty : (place : ℕ) (f : CreatedFile) → Represents img f.name (moment_at (super_of 5 fs) (root_ranges fs) place f) → IsEmpty img place f
  one_empty place f here =
      let m = moment_at (super_of 5 fs) (root_ranges fs) place f in
      record { reads = moment_reads img f.name m here; reading = reading_of m; shows = moment_shows img f.name m here; dataset = refl }

  each_empty : (place : ℕ) (gs : List CreatedFile) → EachStands img (super_of 5 fs) (root_ranges fs) place gs → EachEmpty img place gs
  each_empty place [] x = tt
  each_empty place (f ∷ gs) x = (one_empty place f x.0, each_empty (end_behind place f) gs x.1)

pub creates_empty : CreatesEmpty
creates_empty fs is =
    let new = (several_stand fs is).created in
    record { valid = new.valid; each = each_empty (image [] (created_writes fs)) fs (first_place fs) fs new.stands }

pub creates_one : CreatesOne
creates_one f is =
    let many : length (created_writes (f ∷ [])) ≡ length (one.created_blocks f) = ap length (one_dataset f is).writes ∙ one_each f in
    ap (λ (n : ℕ). let log : FileLog = record { start = []; sets = begun_of f ∷ []; first = n; events = [] } in log) many
