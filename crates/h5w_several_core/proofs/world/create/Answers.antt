use Rattle.std.proofs.Common.{◌≡◌, ◌∙◌, ℕ, ap, arith, length, replicate, subst, sym}
use Rattle.h5w_several_creation.specs.Forms.{AreForms}
use Rattle.h5w_several_creation.proofs.SetLemmas.{same_forms}
use Rattle.h5w_several_core.proofs.CreationLemmas.{creates_all, put_ends, put_some}
use Rattle.h5w_several_core.proofs.world.create.Goals as goal

pub create-requires-clause-forms : goal.create-requires-clause-forms
create-requires-clause-forms c =
    let names = c.args.names.now in
    let form = c.form_of-form.result in
    let each : c.deref.result.now ≡ replicate (length names) form = c.deref.ensures.value ∙ c.in_ok-forms.ensures.items_if_clones_equal (λ y same. same) ∙ ap (λ (n : ℕ). replicate n form) c.len.ensures in
    subst (AreForms names) (sym each) (same_forms names form c.form_of-form.ensures.form)

pub put_all-requires-clause-ends : goal.put_all-requires-clause-ends
put_all-requires-clause-ends c =
    let r = c.requires in
    let f = c.form_of-form.ensures in
    let form = c.form_of-form.result in
    let s = c.in_ok-new in
    let room = c.in_ok-make_room.ensures in
    let each : c.deref.result.now ≡ replicate (length c.args.names.now) form = c.deref.ensures.value ∙ c.in_ok-forms.ensures.items_if_clones_equal (λ y same. same) ∙ ap (λ (n : ℕ). replicate n form) c.len.ensures in
    let writes = c.deref-2.ensures.value ∙ s.ensures.writes in
    put_ends c.args.names.now c.args.options.now form c.deref.result.now s.new.session c.deref-2.result.now f.form f.file each r.names r.named writes s.ensures.shown s.ensures.stands c.make_room.new.self.end
    (omega (arith, room.end, c.end.ensures))

pub put_all-requires-clause-some : goal.put_all-requires-clause-some
put_all-requires-clause-some c =
    let r = c.requires in
    let f = c.form_of-form.ensures in
    let form = c.form_of-form.result in
    let s = c.in_ok-new in
    let each : c.deref.result.now ≡ replicate (length c.args.names.now) form = c.deref.ensures.value ∙ c.in_ok-forms.ensures.items_if_clones_equal (λ y same. same) ∙ ap (λ (n : ℕ). replicate n form) c.len.ensures in
    let writes = c.deref-2.ensures.value ∙ s.ensures.writes in
    put_some c.args.names.now c.args.options.now form c.deref.result.now s.new.session c.deref-2.result.now f.form f.file each r.names r.named writes s.ensures.shown s.ensures.stands

pub returns : goal.returns
returns c =
    let r = c.requires in
    let f = c.form_of-form.ensures in
    let form = c.form_of-form.result in
    let s = c.in_ok-new in
    let room = c.in_ok-make_room.ensures in
    let each : c.deref.result.now ≡ replicate (length c.args.names.now) form = c.deref.ensures.value ∙ c.in_ok-forms.ensures.items_if_clones_equal (λ y same. same) ∙ ap (λ (n : ℕ). replicate n form) c.len.ensures in
    let writes = c.deref-2.ensures.value ∙ s.ensures.writes in
    let many = ap length c.deref-2.ensures.value in
    creates_all c.args.names.now c.args.options.now form c.deref.result.now s.new.session c.deref-2.result.now f.form f.file each r.names r.named writes s.ensures.shown s.ensures.stands c.in_ok-image.image
    c.make_room.new.self c.put_all.new.image c.in_ok-image.ensures room.same (omega (arith, room.pieces, c.len-2.ensures, many)) (omega (arith, room.end, c.end.ensures)) c.put_all.ensures
