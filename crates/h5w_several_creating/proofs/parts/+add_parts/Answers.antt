use Rattle.std.proofs.Common.{ℕ, ◌+◌, ◌≡◌, ◌≤◌, ◌∷◌, ◌∙◌, List, OnOk, ap, sym, subst, arith}
use Rattle.h5w_creation.specs.Forms.{created_by}
use Rattle.h5w_creation.specs.declared.form.Form.{Form}
use Rattle.h5w_creation_laws.specs.CreatedFiles.{CreatedFile, header_len}
use Rattle.h5w_several_creation.specs.Forms.{any_by, each_by}
use Rattle.h5w_several_creation_laws.specs.SeveralFiles.{end_behind}
use Rattle.h5w_several_creating.specs.Parts.{AddsParts, IsPartOver}
use Rattle.h5w_several_creating.proofs.SessionLemmas.{added, within_first}
use Rattle.h5w_several_creating.proofs.parts.+add_parts.Goals as goal

pub part_at-requires-clause-ends : goal.part_at-requires-clause-ends
part_at-requires-clause-ends t c =
    let s = c.in-Some-Some in
    let end = c.args.shared.now.root.end in
    subst (λ (g : Form). end_behind c.args.place (created_by s.name.now g) ≤ end) (sym c.in_ok-mold.ensures.form)
    (within_first end c.args.place s.name.now s.rest.now c.args.names.now s.form.now s.others.now c.args.forms.now s.ensures.cases.0 s.ensures'.cases.0 c.requires.ends)

pub overflow_add-next : goal.overflow_add-next
overflow_add-next t c =
    let s = c.in-Some-Some in
    let end = c.args.shared.now.root.end in
    let mold = c.in_ok-mold.ensures in
    let long : c.in_ok-mold.mold.header_len ≡ header_len (any_by s.form.now) = mold.mold.long ∙ ap (λ (g : Form). header_len (any_by g)) mold.form in
    let within : end_behind c.args.place (created_by s.name.now s.form.now) ≤ end =
    within_first end c.args.place s.name.now s.rest.now c.args.names.now s.form.now s.others.now c.args.forms.now s.ensures.cases.0 s.ensures'.cases.0 c.requires.ends in
    omega (arith, within, long, c.requires.shared.small)

pub overflow_add-next-2 : goal.overflow_add-next-2
overflow_add-next-2 t c =
    let s = c.in-Some-Some in
    let end = c.args.shared.now.root.end in
    let mold = c.in_ok-mold.ensures in
    let long : c.in_ok-mold.mold.header_len ≡ header_len (any_by s.form.now) = mold.mold.long ∙ ap (λ (g : Form). header_len (any_by g)) mold.form in
    let within : end_behind c.args.place (created_by s.name.now s.form.now) ≤ end =
    within_first end c.args.place s.name.now s.rest.now c.args.names.now s.form.now s.others.now c.args.forms.now s.ensures.cases.0 s.ensures'.cases.0 c.requires.ends in
    omega (arith, within, c.index_len.ensures.exact, long, c.requires.shared.small)

pub returns : goal.returns
returns t c =
    let s = c.in-Some-Some in
    let place = c.args.place in
    let u = c.args.shared.now in
    let mold = c.in_ok-mold.ensures in
    let f = created_by s.name.now s.form.now in
    let part = c.in_ok-part_at.field-0 in
    let long : c.in_ok-mold.mold.header_len ≡ header_len (any_by s.form.now) = mold.mold.long ∙ ap (λ (g : Form). header_len (any_by g)) mold.form in
    let next : place + c.in_ok-mold.mold.header_len + c.index_len.result ≡ end_behind place f = omega (arith, c.index_len.ensures.exact, long) in
    let own : IsPartOver u place f part =
    subst (λ (g : Form). IsPartOver u place (created_by s.name.now g) part) mold.form (subst (λ (n : List ℕ). IsPartOver u place (created_by n c.in_ok-mold.mold.form) part) c.as_slice.ensures c.in_ok-part_at.ensures) in
    let all : each_by c.args.names.now c.args.forms.now ≡ f ∷ each_by s.rest.now s.others.now =
    ap (λ (ns : List (List ℕ)). each_by ns c.args.forms.now) s.ensures.cases.0 ∙ ap (λ (gs : List Form). each_by (s.name.now ∷ s.rest.now) gs) s.ensures'.cases.0 in
    subst (λ (fs : List CreatedFile). OnOk c.add_parts.result (AddsParts u place fs c.args.parts.now.items c.add_parts.new.parts.items)) (sym all)
    (added u place (place + c.in_ok-mold.mold.header_len + c.index_len.result) f (each_by s.rest.now s.others.now) part c.args.parts.now.items c.push.new.self.items c.add_parts.new.parts.items c.add_parts.result own
    c.in_ok-push.ensures.items next c.add_parts.ensures)
