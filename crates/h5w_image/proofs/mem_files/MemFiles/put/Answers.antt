use Rattle.std.proofs.Common.{ap, sym, ◌∙◌, arith, Some, ℕ, List, []}
use Rattle.std.specs.Option.{option_copied_mut, option_map}
use Rattle.std.specs.FinMap as finite
use Rattle.h5w_model.specs.Images.{apply}
use Rattle.h5w_image.specs.NamedFiles.{FilesView}
use Rattle.h5w_image.specs.declared.mem_files.MemFile.{MemFile}
use Rattle.h5w_image.proofs.Files.{of_each-kept, of_each-updates, some_lent, there, value_there}
use Rattle.h5w_image.proofs.mem_files.MemFiles.put.Goals as goal

pub unwrap-requires : goal.unwrap-requires
unwrap-requires c =
    some_lent c.get_mut.result _ c.get_mut.ensures.value
    (there (λ (m : MemFile). m.bytes.items) c.self.inside.files c.args.name.now c.args.self.now.files (ap (λ (v : FilesView). v.files) c.self.view_is) c.requires.there)

pub write-requires : goal.write-requires
write-requires c =
    let is = ap option_copied_mut (sym c.unwrap.ensures) ∙ c.get_mut.ensures.value in
    let end = value_there (λ (m : MemFile). m.end) c.self.inside.files c.args.name.now c.args.self.now.ends c.unwrap.result.now 0 (ap (λ (v : FilesView). v.ends) c.self.view_is) is in
    omega (arith, c.requires.room, end)

pub returns-clause-files : goal.returns-clause-files
returns-clause-files c =
    let f : MemFile → List ℕ = λ m. m.bytes.items in
    let name = c.args.name.now in
    let whole = ap (λ (v : FilesView). v.files) c.self.view_is in
    let some = there f c.self.inside.files name c.args.self.now.files whole c.requires.there in
    let is = ap option_copied_mut (sym c.unwrap.ensures) ∙ c.get_mut.ensures.value in
    let old = value_there f c.self.inside.files name c.args.self.now.files c.unwrap.result.now [] whole is in
    of_each-updates f name c.self.inside.files (c.get_mut.follows.lender c.write.new.self) c.write.new.self ((c.get_mut.follows.holds c.write.new.self).3 some)
    ∙ ap (λ (v : FilesView). finite.insert v.files name c.write.new.self.bytes.items) c.self.view_is
    ∙ ap (finite.insert c.args.self.now.files name) (c.write.ensures.bytes ∙ ap (apply c.args.w.now) (sym old))

pub returns-clause-ends : goal.returns-clause-ends
returns-clause-ends c =
    let name = c.args.name.now in
    let some = there (λ (m : MemFile). m.bytes.items) c.self.inside.files name c.args.self.now.files (ap (λ (v : FilesView). v.files) c.self.view_is) c.requires.there in
    let is = ap option_copied_mut (sym c.unwrap.ensures) ∙ c.get_mut.ensures.value in
    of_each-kept (λ (m : MemFile). m.end) name c.self.inside.files (c.get_mut.follows.lender c.write.new.self) c.write.new.self ((c.get_mut.follows.holds c.write.new.self).3 some)
    (ap (option_map (λ (m : MemFile). m.end)) (sym is) ∙ ap Some (sym c.write.ensures.end))
    ∙ ap (λ (v : FilesView). v.ends) c.self.view_is
