use Rattle.std.proofs.Common.{◌<◌, ◌^◌, map, subst, ap, ◌∙◌}
use Rattle.std.specs.List.{All}
use Rattle.std.proofs.lemmas.List.Elements.{All-map}
use Rattle.h5w_model.specs.Trees.{ChildFields}
use Rattle.h5w_bt.specs.Parts.{child_of}
use Rattle.h5w_bt.proofs.children.Children.write.Goals as goal

pub returns-clause-fits : goal.returns-clause-fits
returns-clause-fits c =
    subst (λ l. All (λ (v : ChildFields). v.address < 2 ^ 64) l) (ap (map child_of) c.deref.ensures.value ∙ c.self.view_is) (All-map (λ (v : ChildFields). v.address < 2 ^ 64) child_of c.deref.result.now c.write_children.ensures.fits)
