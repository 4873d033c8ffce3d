use Rattle.std.proofs.Common.{◌≡◌, ℕ, ◌≤◌, ◌∙◌, List, length, ap, sym, subst}
use Rattle.h5w_model.specs.Headers.{msgs_bytes}
use Rattle.h5w_model.specs.declared.message.Msg.{Msg}
use Rattle.h5w_several_creation_laws.specs.SeveralFiles.{created_writes, end_from, first_place, root_messages}
use Rattle.h5w_several_creation.specs.Forms.{each_by}
use Rattle.h5w_several_creation.proofs.SetLemmas.{all_put, ends_low, links_are, messages_few}
use Rattle.h5w_several_creation.proofs.file.create_files.Goals as goal

pub put_sets-requires-clause-low : goal.put_sets-requires-clause-low
put_sets-requires-clause-low c =
    let names = c.args.names.now in
    let forms = c.args.forms.now in
    let first = c.first_place-first.result in
    let fits = c.requires.forms in
    subst (λ (ns : List (List ℕ)). end_from first (each_by ns forms) ≤ 8192) (sym c.as_slice.ensures)
    (ends_low names forms first fits c.requires.names (c.first_place-first.ensures forms fits.many))

pub put_root-requires : goal.put_root-requires
put_root-requires c =
    let names = c.args.names.now in
    let forms = c.args.forms.now in
    let many = c.requires.forms.many in
    let own = each_by c.as_slice.result.now forms in
    let same : own ≡ each_by names forms = ap (λ (ns : List (List ℕ)). each_by ns forms) c.as_slice.ensures in
    let place = c.first_place-first.ensures forms many ∙ ap first_place (sym same) in
    let links = links_are own c.first_place-first.result c.in_ok-links.links c.put_sets.new.links place c.in_ok-links.ensures c.in_ok-end.ensures.links ∙ ap root_messages same in
    record { size = subst (λ (ms : List Msg). length (msgs_bytes ms) ≤ 660) (sym links) (messages_few names forms many c.requires.names) }

pub returns-clause-writes : goal.returns-clause-writes
returns-clause-writes c =
    let names = c.args.names.now in
    let forms = c.args.forms.now in
    let own = each_by c.as_slice.result.now forms in
    let same : own ≡ each_by names forms = ap (λ (ns : List (List ℕ)). each_by ns forms) c.as_slice.ensures in
    let place = c.first_place-first.ensures forms c.requires.forms.many ∙ ap first_place (sym same) in
    all_put own c.first_place-first.result c.in_ok-end.end c.in_ok-links.links c.put_sets.new.links c.new-writes.result.items c.put_sets.new.writes.items c.put_root.new.writes.items c.push.new.self.items c.super_write.result
    c.superblock-root.result place c.in_ok-links.ensures c.in_ok-end.ensures.links c.new-writes.ensures.items c.in_ok-end.ensures.writes c.in_ok-put_root.ensures c.in_ok-end.ensures.end c.superblock-root.ensures
    c.super_write.ensures c.in_ok-push.ensures.items
    ∙ ap created_writes same
