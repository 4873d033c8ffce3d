use Rattle.std.proofs.Common.{◌≡◌, ℕ, ◌*◌, ◌≤◌, [], ◌∙◌, List, length, ap, sym, subst, arith}
use Rattle.h5w_creation_laws.specs.CreatedFiles.{CreatedFile}
use Rattle.h5w_several_creation_laws.specs.SeveralFiles.{end_from, first_place}
use Rattle.h5w_several_creation.specs.Forms.{each_by}
use Rattle.h5w_several_creation.proofs.SetLemmas.{are_creatable, as_many}
use Rattle.h5w_several_writer.specs.Opened.{places_from}
use Rattle.h5w_several_writer_laws.specs.Sessions.{Sessions, all_pending}
use Rattle.h5w_several_open.proofs.StandLemmas.{none_rested}
use Rattle.h5w_several_creating.specs.Parts.{AddsParts}
use Rattle.h5w_several_creating.specs.declared.parts.Shared.{Shared}
use Rattle.h5w_several_creating.proofs.CreateLemmas.{begins, first_begun, is_created, is_shared, is_shown, last_ends, parts_made, parts_many, parts_opened, root_begun, stands}
use Rattle.h5w_several_creating.proofs.creation.create.Goals as goal

pub add_parts-requires-clause-shared : goal.add_parts-requires-clause-shared
add_parts-requires-clause-shared c =
    let r = c.requires in
    let fs = each_by c.args.names.now c.args.forms.now in
    let t : Shared = record { root = c.in_ok-created.created.root; limit = c.args.limit; budget = c.args.budget } in
    is_shared fs t (are_creatable c.args.names.now c.args.forms.now r.forms r.names r.named) c.in_ok-created.ensures.root r.high r.budget

pub add_parts-requires-clause-begun : goal.add_parts-requires-clause-begun
add_parts-requires-clause-begun c = first_begun (each_by c.args.names.now c.args.forms.now) c.first_place-first.result (c.first_place-first.ensures c.args.forms.now c.requires.forms.many)

pub add_parts-requires-clause-ends : goal.add_parts-requires-clause-ends
add_parts-requires-clause-ends c =
    let forms = c.args.forms.now in
    let fs = each_by c.args.names.now forms in
    let root = c.in_ok-created.created.root in
    subst (λ (ns : List (List ℕ)). end_from c.first_place-first.result (each_by ns forms) ≤ root.end) (sym c.as_slice.ensures)
    (last_ends fs c.first_place-first.result root (c.first_place-first.ensures forms c.requires.forms.many) c.in_ok-created.ensures.root)

pub at_rest-requires-clause-some : goal.at_rest-requires-clause-some
at_rest-requires-clause-some c =
    let t : Shared = record { root = c.in_ok-created.created.root; limit = c.args.limit; budget = c.args.budget } in
    let names = c.args.names.now in
    let forms = c.args.forms.now in
    let fs = each_by names forms in
    let new = c.add_parts.new.parts.items in
    let x : AddsParts t (first_place fs) fs [] new =
    parts_made t c.first_place-first.result (each_by c.as_slice.result.now forms) fs c.new-parts.result.items new (c.first_place-first.ensures forms c.requires.forms.many) (ap (λ (ns : List (List ℕ)). each_by ns forms) c.as_slice.ensures)
    c.new-parts.ensures.items c.in_ok-add_parts.ensures in
    let some = c.requires.names.some in
    omega (arith, some, parts_many t (first_place fs) fs new x, as_many names forms c.requires.forms.many)

pub at_rest-requires-clause-few : goal.at_rest-requires-clause-few
at_rest-requires-clause-few c =
    let t : Shared = record { root = c.in_ok-created.created.root; limit = c.args.limit; budget = c.args.budget } in
    let names = c.args.names.now in
    let forms = c.args.forms.now in
    let fs = each_by names forms in
    let new = c.add_parts.new.parts.items in
    let x : AddsParts t (first_place fs) fs [] new =
    parts_made t c.first_place-first.result (each_by c.as_slice.result.now forms) fs c.new-parts.result.items new (c.first_place-first.ensures forms c.requires.forms.many) (ap (λ (ns : List (List ℕ)). each_by ns forms) c.as_slice.ensures)
    c.new-parts.ensures.items c.in_ok-add_parts.ensures in
    let few = c.requires.names.few in
    omega (arith, few, parts_many t (first_place fs) fs new x, as_many names forms c.requires.forms.many)

pub at_rest-requires-clause-opened : goal.at_rest-requires-clause-opened
at_rest-requires-clause-opened c =
    let t : Shared = record { root = c.in_ok-created.created.root; limit = c.args.limit; budget = c.args.budget } in
    let forms = c.args.forms.now in
    let fs = each_by c.args.names.now forms in
    let new = c.add_parts.new.parts.items in
    let x : AddsParts t (first_place fs) fs [] new =
    parts_made t c.first_place-first.result (each_by c.as_slice.result.now forms) fs c.new-parts.result.items new (c.first_place-first.ensures forms c.requires.forms.many) (ap (λ (ns : List (List ℕ)). each_by ns forms) c.as_slice.ensures)
    c.new-parts.ensures.items c.in_ok-add_parts.ensures in
    parts_opened t (first_place fs) fs new x

pub at_rest-requires-clause-begun : goal.at_rest-requires-clause-begun
at_rest-requires-clause-begun c = root_begun (each_by c.args.names.now c.args.forms.now) c.in_ok-created.created.root c.in_ok-created.ensures.root

pub returns-clause-session : goal.returns-clause-session
returns-clause-session c =
    let t : Shared = record { root = c.in_ok-created.created.root; limit = c.args.limit; budget = c.args.budget } in
    let names = c.args.names.now in
    let forms = c.args.forms.now in
    let fs = each_by names forms in
    let new = c.add_parts.new.parts.items in
    let r = c.requires in
    let x : AddsParts t (first_place fs) fs [] new =
    parts_made t c.first_place-first.result (each_by c.as_slice.result.now forms) fs c.new-parts.result.items new (c.first_place-first.ensures forms r.forms.many) (ap (λ (ns : List (List ℕ)). each_by ns forms) c.as_slice.ensures)
    c.new-parts.ensures.items c.in_ok-add_parts.ensures in
    let low : 1024 * length fs ≤ t.limit = subst (λ (n : ℕ). 1024 * n ≤ t.limit) (sym (as_many names forms r.forms.many)) r.low in
    is_created fs t new c.at_rest.result (are_creatable names forms r.forms r.names r.named) low r.high c.in_ok-created.ensures.root x c.at_rest.ensures.session c.in_ok-created.created.writes.items c.in_ok-created.ensures.writes

pub returns-clause-shown : goal.returns-clause-shown
returns-clause-shown c =
    let t : Shared = record { root = c.in_ok-created.created.root; limit = c.args.limit; budget = c.args.budget } in
    let names = c.args.names.now in
    let forms = c.args.forms.now in
    let fs = each_by names forms in
    let new = c.add_parts.new.parts.items in
    let r = c.requires in
    let x : AddsParts t (first_place fs) fs [] new =
    parts_made t c.first_place-first.result (each_by c.as_slice.result.now forms) fs c.new-parts.result.items new (c.first_place-first.ensures forms r.forms.many) (ap (λ (ns : List (List ℕ)). each_by ns forms) c.as_slice.ensures)
    c.new-parts.ensures.items c.in_ok-add_parts.ensures in
    let low : 1024 * length fs ≤ t.limit = subst (λ (n : ℕ). 1024 * n ≤ t.limit) (sym (as_many names forms r.forms.many)) r.low in
    is_shown fs t new c.at_rest.result (are_creatable names forms r.forms r.names r.named) low r.high c.in_ok-created.ensures.root x c.at_rest.ensures.session

pub returns-clause-begins : goal.returns-clause-begins
returns-clause-begins c =
    let t : Shared = record { root = c.in_ok-created.created.root; limit = c.args.limit; budget = c.args.budget } in
    let names = c.args.names.now in
    let forms = c.args.forms.now in
    let fs = each_by names forms in
    let new = c.add_parts.new.parts.items in
    let r = c.requires in
    let x : AddsParts t (first_place fs) fs [] new =
    parts_made t c.first_place-first.result (each_by c.as_slice.result.now forms) fs c.new-parts.result.items new (c.first_place-first.ensures forms r.forms.many) (ap (λ (ns : List (List ℕ)). each_by ns forms) c.as_slice.ensures)
    c.new-parts.ensures.items c.in_ok-add_parts.ensures in
    let low : 1024 * length fs ≤ t.limit = subst (λ (n : ℕ). 1024 * n ≤ t.limit) (sym (as_many names forms r.forms.many)) r.low in
    begins fs t new c.at_rest.result (are_creatable names forms r.forms r.names r.named) low r.high c.in_ok-created.ensures.root x c.at_rest.ensures.session c.in_ok-created.created.writes.items c.in_ok-created.ensures.writes

pub returns-clause-stands : goal.returns-clause-stands
returns-clause-stands c =
    let t : Shared = record { root = c.in_ok-created.created.root; limit = c.args.limit; budget = c.args.budget } in
    let names = c.args.names.now in
    let forms = c.args.forms.now in
    let fs = each_by names forms in
    let new = c.add_parts.new.parts.items in
    let r = c.requires in
    let x : AddsParts t (first_place fs) fs [] new =
    parts_made t c.first_place-first.result (each_by c.as_slice.result.now forms) fs c.new-parts.result.items new (c.first_place-first.ensures forms r.forms.many) (ap (λ (ns : List (List ℕ)). each_by ns forms) c.as_slice.ensures)
    c.new-parts.ensures.items c.in_ok-add_parts.ensures in
    let low : 1024 * length fs ≤ t.limit = subst (λ (n : ℕ). 1024 * n ≤ t.limit) (sym (as_many names forms r.forms.many)) r.low in
    stands fs t new c.at_rest.result (are_creatable names forms r.forms r.names r.named) low r.high c.in_ok-created.ensures.root x c.at_rest.ensures.session

pub returns-clause-idle : goal.returns-clause-idle
returns-clause-idle c =
    let root = c.in_ok-created.created.root in
    ap (λ (S : Sessions). all_pending S.parts) c.at_rest.ensures.session ∙ none_rested root (places_from root.end c.args.limit) c.add_parts.new.parts.items
