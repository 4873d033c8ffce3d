use Rattle.h5w_handles.specs.declared.several.SeveralState.{SeveralState}
use Rattle.std.proofs.Common.{◌≡◌, ◌≤◌, ◌*◌, ◌^◌, ℕ, List, length, subst, sym}
use Rattle.h5w_creation.specs.declared.form.Form.{Form}
use Rattle.h5w_several_creation.specs.Forms.{AreForms}
use Rattle.h5w_several_handles.specs.Names.{AddsForms}
use Rattle.h5w_several_handles.proofs.HoldLemmas.{forms_fit, most_within, new_set}
use Rattle.h5w_several_handles.proofs.opening.created.Goals as goal

pub create-requires-clause-forms : goal.create-requires-clause-forms
create-requires-clause-forms c =
    subst (AreForms c.args.names.now) (sym c.deref.ensures.value)
    (forms_fit c.args.names.now c.args.options.now c.new-forms.result.items c.add_forms.new.forms.items c.requires c.new-forms.ensures.items c.in_ok-add_forms.ensures)

pub create-requires-clause-low : goal.create-requires-clause-low
create-requires-clause-low c = subst (λ (n : ℕ). 1024 * length c.args.names.now ≤ n) (sym c.most_of-limit.ensures.limit) c.requires.room

pub create-requires-clause-high : goal.create-requires-clause-high
create-requires-clause-high c = subst (λ (n : ℕ). n ≤ 2 ^ 40) (sym c.most_of-limit.ensures.limit) (most_within c.args.names.now c.args.options.now c.requires).0

pub create-requires-clause-budget : goal.create-requires-clause-budget
create-requires-clause-budget c = subst (λ (n : ℕ). (1024 ≤ n) × (n ≤ 2 ^ 30)) (sym c.most_of-limit.ensures.budget) (most_within c.args.names.now c.args.options.now c.requires).1

pub returns : goal.returns
returns c =
    let made = c.in_ok-new.ensures in
    let state : SeveralState = record { first = c.in_ok-new.new.writes; session = c.in_ok-new.new.session } in
    let adds : AddsForms c.args.options.now c.new-forms.result.items c.deref.result.now =
    subst (λ (fs : List Form). AddsForms c.args.options.now c.new-forms.result.items fs) (sym c.deref.ensures.value) c.in_ok-add_forms.ensures in
    new_set c.args.names.now c.args.options.now c.new-forms.result.items c.deref.result.now c.most_of-limit.result.0 c.most_of-limit.result.1 state c.new-forms.ensures.items adds c.most_of-limit.ensures.limit c.most_of-limit.ensures.budget made.writes made.session
    made.begins made.stands made.idle
