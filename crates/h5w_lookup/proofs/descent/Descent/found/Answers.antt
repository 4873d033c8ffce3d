use Rattle.h5w_model.specs.Calls.{known_table}
use Rattle.h5w_lookup.specs.Attempts.{known_of, rules_of}
use Rattle.h5w_lookup.specs.Indexes.{in_place_of}
use Rattle.h5w_dataset.specs.Described.{described_of}
use Rattle.h5w_lookup.specs.Seeking.{next_rest}
use Rattle.h5w_lookup.specs.Stores.{kept}
use Rattle.h5w_lookup.specs.Descents.{after_next, descended}
use Rattle.h5w_lookup.proofs.PieceLemmas.{along}
use Rattle.h5w_lookup.proofs.DescentLemmas.{slots_push}
use Rattle.h5w_lookup.proofs.descent.Descent.found.Goals as goal

pub returns : goal.returns
returns c =
    let g = rules_of c.args.rules.now (known_of c.args.known.now) in
    let s = c.args.self in
    let d = described_of s.dataset in
    let known = known_table (known_of c.args.known.now) d in
    along (descended g) c.go_on.result _ (next_rest (kept s.store) (after_next g s) c.args.address) c.go_on.ensures
    (slots_push g.place known d (in_place_of s.index) (kept s.store) c.args.address s.found.items c.push.new.self.items c.in_ok-push.ensures.items)
