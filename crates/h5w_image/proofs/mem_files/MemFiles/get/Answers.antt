use Rattle.std.proofs.Common.{ap, sym, ◌∙◌, Some, Option}
use Rattle.std.specs.Option.{is_some, option_map}
use Rattle.std.specs.FinMap as finite
use Rattle.h5w_image.specs.NamedFiles.{FilesView}
use Rattle.h5w_image.specs.declared.mem_files.MemFile.{MemFile}
use Rattle.h5w_image.proofs.Files.{get-of_each}
use Rattle.h5w_image.proofs.mem_files.MemFiles.get.Goals as goal

pub returns-in-Some-clause-value : goal.returns-in-Some-clause-value
returns-in-Some-clause-value c =
    ap Some c.deref.ensures.value
    ∙ ap (option_map (λ (m : MemFile). m.bytes.items)) c.in-Some.ensures.value
    ∙ sym (get-of_each (λ (m : MemFile). m.bytes.items) c.self.inside.files c.args.name.now)
    ∙ ap (λ (v : FilesView). finite.get v.files c.args.name.now) c.self.view_is

pub returns-in-None-clause-value : goal.returns-in-None-clause-value
returns-in-None-clause-value c =
    ap (option_map (λ (m : MemFile). m.bytes.items)) c.in-None.ensures.value
    ∙ sym (get-of_each (λ (m : MemFile). m.bytes.items) c.self.inside.files c.args.name.now)
    ∙ ap (λ (v : FilesView). finite.get v.files c.args.name.now) c.self.view_is

pub returns-in-Some-clause-room : goal.returns-in-Some-clause-room
returns-in-Some-clause-room c =
    ap (λ (o : Option MemFile). is_some (option_map (λ (m : MemFile). m.end) o)) c.in-Some.ensures.value
    ∙ ap is_some (sym (get-of_each (λ (m : MemFile). m.end) c.self.inside.files c.args.name.now))
    ∙ ap (λ (v : FilesView). is_some (finite.get v.ends c.args.name.now)) c.self.view_is

pub returns-in-None-clause-room : goal.returns-in-None-clause-room
returns-in-None-clause-room c =
    ap (λ (o : Option MemFile). is_some (option_map (λ (m : MemFile). m.end) o)) c.in-None.ensures.value
    ∙ ap is_some (sym (get-of_each (λ (m : MemFile). m.end) c.self.inside.files c.args.name.now))
    ∙ ap (λ (v : FilesView). is_some (finite.get v.ends c.args.name.now)) c.self.view_is
