use Rattle.std.proofs.Common.{length, refl, sym, ◌∙◌, ap}
use Rattle.h5w_model.specs.Programs.{fed}
use Rattle.h5w_reader.specs.Walking.{walking, walked}
use Rattle.h5w_lookup.specs.Attempts.{known_of, rules_of, looking_up}
use Rattle.h5w_lookup.specs.Descents.{reading_news}
use Rattle.h5w_reader.specs.Calling.{behind_left, messages_rest, reached}
use Rattle.h5w_reader.specs.declared.behind.Behind.TheVariants.{Lookup}
use Rattle.h5w_lookup.proofs.OutcomeLemmas.{mapped_left}
use Rattle.h5w_lookup.proofs.PieceLemmas.{along}
use Rattle.h5w_reader.proofs.CallLemmas.{fed_bind, fits_bind}
use Rattle.h5w_reader.proofs.StageLemmas.{walking_looks}
use Rattle.h5w_reader.proofs.behind.Behind.feed.Goals as goal

pub feed-requires : goal.feed-requires
feed-requires c =
    let b = c.in-Visit.block in
    fits_bind (walking b) _ (length c.args.piece.now) _ (walking_looks b) (rw c.in-Visit.is at c.requires)

pub returns-in_ok-feed-in-Visit : goal.returns-in_ok-feed-in-Visit
returns-in_ok-feed-in-Visit c =
    let g = rules_of c.args.rules.now (known_of c.args.known.now) in
    let b = c.in-Visit.block in
    let piece = c.args.piece.now in
    along (reached g) c.after_walk.result (messages_rest g (walked c.in_ok-feed-in-Visit.field-0)) (fed piece (behind_left g c.args.self)) c.after_walk.ensures
    (rw c.in-Visit.is (ap (messages_rest g) c.in_ok-feed-in-Visit.ensures ∙ sym (fed_bind (walking b) _ piece _ (walking_looks b))))

pub returns-in_ok-looked_up-in-Lookup : goal.returns-in_ok-looked_up-in-Lookup
returns-in_ok-looked_up-in-Lookup c =
    let g = rules_of c.args.rules.now (known_of c.args.known.now) in
    rw c.in-Lookup.is (mapped_left (reading_news g.known) (looking_up g) Lookup (behind_left g) c.in_ok-looked_up-in-Lookup.looked_up c.map_looks.result c.map_looks.ensures (λ l. refl)
    ∙ c.in_ok-looked_up-in-Lookup.ensures)
