use Rattle.std.proofs.Common.{◌≤◌, length, sym, subst}
use Rattle.h5w_model.specs.Datasets.{Described}
use Rattle.h5w_step_laws.specs.Spelled.{spelled_header}
use Rattle.h5w_step_laws.proofs.SpelledLemmas.{spelled_read}
use Rattle.h5w_creation_laws.specs.CreatedFiles.{described_of}
use Rattle.h5w_creation_laws.proofs.SizeLemmas.{spellable}
use Rattle.h5w_creation.specs.Forms.{created_by}
use Rattle.h5w_creation.proofs.FormLemmas.{creatable}
use Rattle.h5w_creation.proofs.file.create_file.Goals as goal

pub dataset_header-requires-clause-short : goal.dataset_header-requires-clause-short
dataset_header-requires-clause-short c =
    let f = created_by c.args.name.now c.args.form.now in
    let is = creatable c.args.name.now c.args.form.now c.requires.form c.requires.named c.requires.name_bound in
    subst (λ (d : Described). length (spelled_header d) ≤ 512) (sym c.grid_of-grid.ensures.dataset) (spelled_read (described_of f) (spellable f is)).short
