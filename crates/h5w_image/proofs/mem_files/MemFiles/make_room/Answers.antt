use Rattle.std.proofs.Common.{ap, sym, ◌∙◌, Some, ℕ, List, max}
use Rattle.std.specs.Option.{option_copied_mut, option_map}
use Rattle.std.specs.FinMap as finite
use Rattle.h5w_image.specs.NamedFiles.{FilesView}
use Rattle.h5w_image.specs.declared.mem_files.MemFile.{MemFile}
use Rattle.h5w_image.proofs.Files.{at_error, of_each-kept, of_each-updates, some_lent, there, value_there}
use Rattle.h5w_image.proofs.mem_files.MemFiles.make_room.Goals as goal

pub unwrap-requires : goal.unwrap-requires
unwrap-requires c =
    some_lent c.get_mut.result _ c.get_mut.ensures.value
    (there (λ (m : MemFile). m.bytes.items) c.self.inside.files c.args.name.now c.args.self.now.files (ap (λ (v : FilesView). v.files) c.self.view_is) c.requires)

pub returns-clause-files : goal.returns-clause-files
returns-clause-files c =
    let f : MemFile → List ℕ = λ m. m.bytes.items in
    let name = c.args.name.now in
    let whole = ap (λ (v : FilesView). v.files) c.self.view_is in
    let some = there f c.self.inside.files name c.args.self.now.files whole c.requires in
    let is = ap option_copied_mut (sym c.unwrap.ensures) ∙ c.get_mut.ensures.value in
    of_each-kept f name c.self.inside.files (c.get_mut.follows.lender c.make_room.new.self) c.make_room.new.self ((c.get_mut.follows.holds c.make_room.new.self).3 some)
    (ap (option_map f) (sym is) ∙ ap Some (sym c.make_room.ensures.bytes))
    ∙ whole

pub returns-clause-ok : goal.returns-clause-ok
returns-clause-ok c =
    let f : MemFile → ℕ = λ m. m.end in
    let name = c.args.name.now in
    let whole = ap (λ (v : FilesView). v.ends) c.self.view_is in
    let some = there (λ (m : MemFile). m.bytes.items) c.self.inside.files name c.args.self.now.files (ap (λ (v : FilesView). v.files) c.self.view_is) c.requires in
    let is = ap option_copied_mut (sym c.unwrap.ensures) ∙ c.get_mut.ensures.value in
    let old = value_there f c.self.inside.files name c.args.self.now.ends c.unwrap.result.now 0 whole is in
    of_each-updates f name c.self.inside.files (c.get_mut.follows.lender c.make_room.new.self) c.make_room.new.self ((c.get_mut.follows.holds c.make_room.new.self).3 some)
    ∙ ap (λ (v : FilesView). finite.insert v.ends name c.make_room.new.self.end) c.self.view_is
    ∙ ap (finite.insert c.args.self.now.ends name) (c.in_ok-make_room.ensures.end ∙ ap (λ n. max n c.args.end) (sym old))

pub returns-in_err-make_room-clause-files : goal.returns-in_err-make_room-clause-files
returns-in_err-make_room-clause-files c =
    let f : MemFile → List ℕ = λ m. m.bytes.items in
    let name = c.args.name.now in
    let whole = ap (λ (v : FilesView). v.files) c.self.view_is in
    let some = there f c.self.inside.files name c.args.self.now.files whole c.requires in
    let is = ap option_copied_mut (sym c.unwrap.ensures) ∙ c.get_mut.ensures.value in
    of_each-kept f name c.self.inside.files (c.get_mut.follows.lender c.make_room.new.self) c.make_room.new.self ((c.get_mut.follows.holds c.make_room.new.self).3 some)
    (ap (option_map f) (sym is) ∙ ap Some (sym c.make_room.ensures.bytes))
    ∙ whole

pub returns-in_err-make_room-clause-refused : goal.returns-in_err-make_room-clause-refused
returns-in_err-make_room-clause-refused c =
    let f : MemFile → ℕ = λ m. m.end in
    let name = c.args.name.now in
    let whole = ap (λ (v : FilesView). v.ends) c.self.view_is in
    let some = there (λ (m : MemFile). m.bytes.items) c.self.inside.files name c.args.self.now.files (ap (λ (v : FilesView). v.files) c.self.view_is) c.requires in
    let is = ap option_copied_mut (sym c.unwrap.ensures) ∙ c.get_mut.ensures.value in
    at_error _ (of_each-kept f name c.self.inside.files (c.get_mut.follows.lender c.make_room.new.self) c.make_room.new.self ((c.get_mut.follows.holds c.make_room.new.self).3 some)
    (ap (option_map f) (sym is) ∙ ap Some (sym c.in_err-make_room.ensures.refused))
    ∙ whole)
