use Rattle.std.proofs.Common.{ap, ◌∙◌}
use Rattle.std.specs.String.{string_bytes}
use Rattle.std.specs.FinMap as finite
use Rattle.h5w_image.specs.NamedFiles.{FilesView}
use Rattle.h5w_image.specs.declared.mem_files.MemFile.{MemFile}
use Rattle.h5w_image.proofs.Files.{of_each-updates}
use Rattle.h5w_image.proofs.mem_files.MemFiles.insert.Goals as goal

pub returns-clause-ok : goal.returns-clause-ok
returns-clause-ok c =
    let name = string_bytes c.args.name in
    let bytes = of_each-updates (λ (m : MemFile). m.bytes.items) name c.self.inside.files c.insert.new.self _ c.in_ok-insert.ensures.updates
    ∙ ap (λ (v : FilesView). finite.insert v.files name c.args.bytes.items) c.self.view_is in
    let ends = of_each-updates (λ (m : MemFile). m.end) name c.self.inside.files c.insert.new.self _ c.in_ok-insert.ensures.updates
    ∙ ap (λ (v : FilesView). finite.insert v.ends name 0) c.self.view_is in
    λ i. record { files = bytes i; ends = ends i }
