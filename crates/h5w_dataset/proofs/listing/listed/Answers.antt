use Rattle.std.proofs.Common.{◌≡◌, ◌∙◌, map, rules}
use Rattle.h5w_dataset.specs.Founds.{found_of, listed}
use Rattle.h5w_dataset.specs.declared.found.FoundMessage.{FoundMessage}
use Rattle.h5w_dataset.proofs.LinkLemmas.{listed_founds}
use Rattle.h5w_dataset.proofs.listing.listed.Goals as goal

pub returns : goal.returns
returns c =
    let e : c.in_ok-msgs.msgs.items ≡ map (λ (f : FoundMessage). listed (found_of f)) c.args.found.items = search rules in
    c.from_vec.ensures ∙ e ∙ listed_founds c.args.found.items
