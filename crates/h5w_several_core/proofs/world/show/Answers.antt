use Rattle.std.proofs.Common.{◌≡◌, [], ◌∷◌, ◌∙◌, drop, refl, subst, sym}
use Rattle.h5w_model.specs.declared.piece.Write.{Write}
use Rattle.h5w_image.specs.View.{Wrote}
use Rattle.h5w_steady.specs.Steady.{steady}
use Rattle.h5w_writer_laws.proofs.PieceLemmas.{oldest}
use Rattle.h5w_several_writer_laws.specs.Sessions.{all_pending}
use Rattle.h5w_several_core.proofs.ShowLemmas.{first_is, room_stays}
use Rattle.h5w_several_core.proofs.world.show.Goals as goal

pub returns-clause-piece : goal.returns-clause-piece
returns-clause-piece c w ws pending =
    let piece = c.in-Some.w.now in
    let all = all_pending c.args.session.now.parts in
    let same : piece ≡ w = first_is piece w (drop 1 all) ws (sym (oldest piece all c.in-Some.ensures.oldest) ∙ pending) in
    (refl, c.written.ensures.piece w ws pending, subst (λ (v : Write). Wrote (v ∷ []) (steady c.args.image.now) (steady c.put.new.self)) same c.put.ensures)

pub returns-clause-room : goal.returns-clause-room
returns-clause-room c =
    let s = c.args.session.now in
    let piece = c.in-Some.w.now in
    let pieces = drop 1 (all_pending s.parts) in
    let pending = oldest piece (all_pending s.parts) c.in-Some.ensures.oldest in
    room_stays s c.written.new.self piece pieces (steady c.args.image.now) (steady c.put.new.self) pending c.requires (c.written.ensures.left piece pieces pending) c.written.ensures.parts c.put.ensures
