-- A new file says that it is written.
use Rattle.std.proofs.Common.{ℕ, List, [], ◌∷◌, length, refl, arith}
use Rattle.h5w_model.specs.Images.{image}
use Rattle.h5w_model.specs.Numbers.{range}
use Rattle.h5w_creation_laws.specs.CreatedFiles as one
use Rattle.h5w_creation_laws.specs.CreatedFiles.{CreatedFile}
use Rattle.h5w_creation_laws.proofs.CreatedLaws.{created_new}
use Rattle.h5w_several_creation_laws.specs.SeveralFiles.{AreCreatable, created_writes, super_of}
use Rattle.h5w_several_creation_laws.proofs.StandLaws.{several_stand}
use Rattle.h5w_step_laws.specs.Moments.{Moment, Represents}
use Rattle.h5w_step_laws.proofs.MomentLemmas.{super_parts}
use Rattle.h5w_front_laws.specs.Fronts.{IsLeftOpen, SaysWritten}
use Rattle.h5w_front_laws.specs.Laws.{NewFronts}

-- the image of a file whose superblock says so
represents_open : (img name : List ℕ) (m : Moment) → Represents img name m → SaysWritten m.super → IsLeftOpen img
represents_open img name m file says = record { root = m.super; read = (super_parts (length img) (range img 0 48) m.super file.super).read; says = says }

one_says : (f : CreatedFile) → SaysWritten (one.super_of f)
one_says f = record { version = refl; writing = refl; swmr = refl }

all_say : (fs : List CreatedFile) → SaysWritten (super_of 5 fs)
all_say fs = record { version = refl; writing = refl; swmr = refl }

all_open : (fs : List CreatedFile) → AreCreatable fs → IsLeftOpen (image [] (created_writes fs))
all_open [] are = absurd (let some = are.some in omega arith)
all_open (f ∷ fs) are = represents_open (image [] (created_writes (f ∷ fs))) f.name _ (several_stand (f ∷ fs) are).created.stands.0 (all_say (f ∷ fs))

pub new_fronts : NewFronts
new_fronts = record {
  one = λ f is. (represents_open (image [] (one.created_writes f)) f.name (one.created_moment f) (created_new f is).represents (one_says f), one_says f);
  several = λ fs are. (all_open fs are, all_say fs);
}
