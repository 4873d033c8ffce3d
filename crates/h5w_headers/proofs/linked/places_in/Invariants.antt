use Rattle.std.proofs.Common.{◌≡◌, ◌++◌, drop}
use Rattle.h5w_model.specs.Datasets.{refused_as}
use Rattle.h5w_model.specs.Links.{find_link}
use Rattle.h5w_model.specs.declared.refusal.ReadError.TheVariants.{Link}
use Rattle.h5w_headers.specs.Linked.{Led, led_by}
use Rattle.h5w_headers.proofs.linked.places_in.Given as goal

abbrev pub invariant-loop-name : goal.invariant-loop-name
invariant-loop-name l =
    let left : Led = led_by (λ name. refused_as Link (find_link l.links name)) (drop l.name-index l.names) in
    led_by (λ name. refused_as Link (find_link l.links name)) l.names ≡ (l.places.items ++ left.0, left.1)
