use Rattle.std.proofs.Common.{ℕ, ◌^◌, subst}
use Rattle.h5w_creation_laws.specs.CreatedFiles.{CreatedFile, created_log}
use Rattle.h5w_writer.specs.Creations.{IsCreated}
use Rattle.h5w_creation.specs.NewFiles.{new_file as file_of}
use Rattle.h5w_writer.specs.Stands.{Stands}
use Rattle.h5w_make.specs.Commands.{new_file}
use Rattle.h5w_make.proofs.BatchLemmas.{created_after}
use Rattle.h5w_make.proofs.batch.create.Goals as goal

pub returns : goal.returns
returns c =
    let s = c.in_ok-session in
    let o = c.in_ok-options in
    let made : IsCreated new_file (2 ^ 40) s.session =
    subst (λ (f : CreatedFile). IsCreated f (2 ^ 40) s.session) o.ensures.file (subst (λ (n : ℕ). IsCreated (file_of o.options) n s.session) o.ensures.limit s.ensures.session) in
    let stands : Stands s.session (created_log new_file) = subst (λ (f : CreatedFile). Stands s.session (created_log f)) o.ensures.file s.ensures.stands in
    created_after s.session c.show_all.new.session c.args.image.now c.make_room.new.self c.show_all.new.image made stands c.requires
    c.make_room.ensures.same c.show_all.ensures.session c.show_all.ensures.image c.show_all.ensures.stands
