use Rattle.std.proofs.Common.{◌≡◌, ◌∙◌, ap, sym, subst, arith, List, ℕ, Bool, if◌then◌else◌}
use Rattle.h5w_model.specs.declared.cell.IndexKind.{IndexKind}
use Rattle.h5w_model.specs.declared.cell.IndexKind.TheVariants.{Array, Tree}
use Rattle.h5w_creation.specs.Forms.{a_name, created_by}
use Rattle.h5w_creation_laws.specs.CreatedFiles.{IsCreatable}
use Rattle.h5w_creation.specs.NewFiles.{new_file}
use Rattle.h5w_creation.proofs.OptionLemmas.{creatable_by}
use Rattle.h5w_creation.proofs.options.form_of.Goals as goal
use Rattle.h5w_creation.proofs.options.form_of.Goals.{After-index_for}

-- the file that is created, under any name
file_is : (c : After-index_for) (name : List ℕ) → created_by name (record {
  int_type = c.args.options.now.int_type;
  fill = c.fill_of.result;
  chunk = (c.args.options.now.chunk_rows, c.sides_of-rank.result.2);
  rank = c.sides_of-rank.result.0;
  columns = c.sides_of-rank.result.1;
  growing = c.grows-growing.result;
  index = c.index_for.result;
})
    ≡ record (new_file c.args.options.now) { name = name }
file_is c name = λ i. record {
  name = name;
  int_type = (new_file c.args.options.now).int_type;
  fill = c.fill_of.ensures.bytes i;
  chunk_rows = c.args.options.now.chunk_rows;
  chunk_cols = c.sides_of-rank.ensures.width i;
  rank = c.sides_of-rank.ensures.rank i;
  columns = c.sides_of-rank.ensures.columns i;
  growing = c.grows-growing.ensures i;
  index = (c.index_for.ensures ∙ ap (λ (growing : Bool). let kind : IndexKind = if growing then Tree else Array in kind) c.grows-growing.ensures) i;
}

pub returns-clause-form : goal.returns-clause-form
returns-clause-form c =
    let o = c.args.options.now in
    record {
      creatable = subst IsCreatable (sym (file_is c a_name)) (creatable_by a_name o (omega arith) (omega arith) c.requires);
      filled = c.fill_of.ensures.sized;
    }

pub returns-clause-file : goal.returns-clause-file
returns-clause-file c = file_is c c.args.options.now.name
