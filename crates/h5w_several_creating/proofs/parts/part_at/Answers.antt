use Rattle.std.proofs.Common.{◌+◌, ◌≤◌, ◌<◌, ◌^◌, length, sym, subst, arith}
use Rattle.h5w_model.specs.Datasets.{Described}
use Rattle.h5w_chunks.specs.Grids.{dataset_of}
use Rattle.h5w_step_laws.specs.Spelled.{spelled_header}
use Rattle.h5w_index.specs.Held.{view_of}
use Rattle.h5w_creation.specs.Forms.{created_by}
use Rattle.h5w_creation.proofs.FormLemmas.{creatable}
use Rattle.h5w_several_creation_laws.specs.SeveralFiles.{end_behind}
use Rattle.h5w_writer.specs.Sessions.{IsSession}
use Rattle.h5w_several_creating.proofs.SessionLemmas.{made_is, moved, moved_index, over_is, short_header}
use Rattle.h5w_several_creating.proofs.parts.part_at.Goals as goal

pub dataset_header-requires-clause-short : goal.dataset_header-requires-clause-short
dataset_header-requires-clause-short c =
    let m = c.args.mold.now in
    let name = c.args.name.now in
    let r = c.requires in
    let f = created_by name m.form in
    let small : end_behind c.args.place f < 2 ^ 62 = omega (arith, r.ends, r.shared.small) in
    subst (λ (d : Described). length (spelled_header d) ≤ 512) (sym (moved m c.args.place name r.mold)) (short_header c.args.place f (creatable name m.form r.mold.form r.name.0 r.name.1) small)

pub over-requires-clause-session : goal.over-requires-clause-session
over-requires-clause-session c =
    let m = c.args.mold.now in
    let t = c.args.shared.now in
    let name = c.args.name.now in
    let place = c.args.place in
    let r = c.requires in
    let f = created_by name m.form in
    let v = view_of c.in_ok-index.index in
    let d : Described = record (dataset_of m.grid) { layout = record ((dataset_of m.grid).layout) { address = place + m.header_len } } in
    subst IsSession (sym (over_is t place f d c.in_ok-dataset_header.field-0 v (moved m place name r.mold) c.in_ok-dataset_header.ensures))
    (made_is t place f v r.shared (creatable name m.form r.mold.form r.name.0 r.name.1) r.begun r.ends c.in_ok-index.ensures.sound (moved_index m place name v r.mold c.in_ok-index.ensures.new))
