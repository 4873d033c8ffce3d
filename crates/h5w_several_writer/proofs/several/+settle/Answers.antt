use Rattle.std.proofs.Common.{◌∙◌, [], ◌∷◌, sym, ap, subst, arith}
use Rattle.h5w_writer.specs.Sessions.{Session}
use Rattle.h5w_writer.specs.Told.{told_of}
use Rattle.h5w_several_writer.specs.Opened.{AreOpened, places_from, rested}
use Rattle.h5w_several_writer.proofs.ShownLemmas.{settles_calm}
use Rattle.h5w_several_writer.proofs.several.+settle.Goals as goal

pub set_aside-requires-clause-rises : goal.set_aside-requires-clause-rises
set_aside-requires-clause-rises t c =
    let o = (subst (AreOpened c.args.root.end) c.in-Some.ensures.cases.0 c.requires.opened).0 in
    let is = settles_calm c.in-Some.part.now c.written.new.self o.calm (c.written.ensures.piece o.first [] o.pending) in
    omega (arith, o.ends, ap (λ (s : Session). s.places.end) is)

pub returns-in-Some-clause-rested : goal.returns-in-Some-clause-rested
returns-in-Some-clause-rested t c =
    let s = c.in-Some.part.now in
    let root = c.args.root in
    let from = places_from root.end c.args.limit in
    let o = (subst (AreOpened root.end) c.in-Some.ensures.cases.0 c.requires.opened).0 in
    let is = settles_calm s c.written.new.self o.calm (c.written.ensures.piece o.first [] o.pending) in
    let first = c.set_aside.ensures.session ∙ ap (λ (v : Session). told_of v root from) is in
    (λ i. first i ∷ c.settle.ensures.rested i) ∙ ap (rested root from) (sym c.in-Some.ensures.cases.0)
