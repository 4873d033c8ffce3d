use Rattle.std.proofs.Common.{◌≡◌, ◌∙◌, ℕ, List, ap, length, replicate, subst, sym}
use Rattle.std.specs.Prelude.{IfOk}
use Rattle.h5w_creation.specs.declared.form.Form.{Form}
use Rattle.h5w_several_creation.specs.Forms.{AreForms, each_by}
use Rattle.h5w_several_creation.proofs.SetLemmas.{same_forms}
use Rattle.h5w_several_creation_laws.specs.SeveralFiles.{created_writes, super_of}
use Rattle.h5w_appending.proofs.creating.create_alike.Goals as goal

pub create_files-requires-clause-forms : goal.create_files-requires-clause-forms
create_files-requires-clause-forms c =
    let names = c.args.names.now in
    let form = c.args.form.now in
    let each : c.deref.result.now ≡ replicate (length names) form =
    c.deref.ensures.value ∙ c.in_ok-forms.ensures.items_if_clones_equal (λ y same. same) ∙ ap (λ (n : ℕ). replicate n form) c.len.ensures in
    subst (AreForms names) (sym each) (same_forms names form c.requires.form)

pub returns-clause-root : goal.returns-clause-root
returns-clause-root c =
    let names = c.args.names.now in
    let form = c.args.form.now in
    let each : c.deref.result.now ≡ replicate (length names) form =
    c.deref.ensures.value ∙ c.in_ok-forms.ensures.items_if_clones_equal (λ y same. same) ∙ ap (λ (n : ℕ). replicate n form) c.len.ensures in
    subst (λ (forms : List Form). IfOk c.create_files.result (λ made. made.root ≡ super_of 5 (each_by names forms))) each c.create_files.ensures.root

pub returns-clause-writes : goal.returns-clause-writes
returns-clause-writes c =
    let names = c.args.names.now in
    let form = c.args.form.now in
    let each : c.deref.result.now ≡ replicate (length names) form =
    c.deref.ensures.value ∙ c.in_ok-forms.ensures.items_if_clones_equal (λ y same. same) ∙ ap (λ (n : ℕ). replicate n form) c.len.ensures in
    subst (λ (forms : List Form). IfOk c.create_files.result (λ made. made.writes.items ≡ created_writes (each_by names forms))) each c.create_files.ensures.writes
