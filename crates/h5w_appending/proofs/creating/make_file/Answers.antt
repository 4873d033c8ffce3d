use Rattle.std.proofs.Common.{ℕ, List, sym, subst}
use Rattle.h5w_model.specs.Images.{AllSized}
use Rattle.h5w_model.specs.declared.piece.Write.{Write}
use Rattle.h5w_creation_laws.specs.CreationLaws.{WritesEndBy}
use Rattle.h5w_several_creation.specs.Forms.{all_by}
use Rattle.h5w_several_creation_laws.specs.SeveralFiles.{closed_writes}
use Rattle.h5w_appending.specs.Creates.{Makes}
use Rattle.h5w_appending.proofs.CreateLemmas.{all_may, closed_sized, closed_within, creates_all, new_there}
use Rattle.h5w_appending.proofs.creating.make_file.Goals as goal

pub make_new-requires-clause-sized : goal.make_new-requires-clause-sized
make_new-requires-clause-sized g c =
    let fs = all_by c.args.names.now c.args.form.now in
    subst AllSized (sym c.in-Ok.ensures.writes) (closed_sized fs (all_may c.args.names.now c.args.form.now c.requires.form c.requires.names c.requires.named))

pub make_new-requires-clause-ends : goal.make_new-requires-clause-ends
make_new-requires-clause-ends g c =
    let fs = all_by c.args.names.now c.args.form.now in
    subst (λ (ws : List Write). WritesEndBy c.in-Ok.new.end ws) (sym c.in-Ok.ensures.writes)
    (subst (λ (n : ℕ). WritesEndBy n (closed_writes fs)) (sym c.in-Ok.ensures.end) (closed_within fs (all_may c.args.names.now c.args.form.now c.requires.form c.requires.names c.requires.named)))

pub returns-in-Ok-clause-creates : goal.returns-in-Ok-clause-creates
returns-in-Ok-clause-creates g c =
    let fs = all_by c.args.names.now c.args.form.now in
    creates_all c.args.file.now fs c.make_new.result (new_there fs (all_may c.args.names.now c.args.form.now c.requires.form c.requires.names c.requires.named))
    (subst (λ (ws : List Write). Makes c.args.file.now ws (g.D.Disk.view c.args.disk.now) (g.D.Disk.view c.make_new.new.disk) c.make_new.result) c.in-Ok.ensures.writes c.make_new.ensures)
