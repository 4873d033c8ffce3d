use Rattle.std.proofs.Common.{◌∙◌, [], length, refl, ap, sym}
use Rattle.std.specs.Global.{Box}
use Rattle.h5w_model.specs.Calls.{known_table}
use Rattle.h5w_lookup.specs.Attempts.{known_of, rules_of, looking_up}
use Rattle.h5w_lookup.specs.Indexes.{in_place_of}
use Rattle.h5w_dataset.specs.Described.{described_of}
use Rattle.h5w_lookup.specs.Slots.{slots_rest}
use Rattle.h5w_lookup.specs.Stores.{kept}
use Rattle.h5w_lookup.specs.Unknown.{needed_with}
use Rattle.h5w_lookup.specs.Descents.{reading_news, waiting}
use Rattle.h5w_lookup.specs.declared.descent.Waiting.{Waiting}
use Rattle.h5w_lookup.specs.declared.lookup.Lookup.TheVariants.{Block}
use Rattle.h5w_lookup.proofs.OutcomeLemmas.{mapped_left}
use Rattle.h5w_lookup.proofs.DescentLemmas.{slots_begin}
use Rattle.h5w_lookup.proofs.lookup.Lookup.descend.Goals as goal

pub returns : goal.returns
returns c =
    let g = rules_of c.args.rules.now (known_of c.args.known.now) in
    let d = described_of c.args.d.now in
    let e = in_place_of c.args.index in
    let known = known_table (known_of c.args.known.now) d in
    mapped_left (reading_news g.known) (λ (w : Box Waiting). waiting g w.value) Block (looking_up g) c.in_ok-descended.descended c.map_looks.result c.map_looks.ensures (λ w. refl)
    ∙ c.in_ok-descended.ensures
    ∙ ap (λ xs. slots_rest g.place known d e (kept c.in_ok-new.field-0) (length (needed_with known d xs)) (needed_with known d xs)) c.new.ensures.items
    ∙ ap (λ ks. slots_rest g.place known d e ks (length (needed_with known d [])) (needed_with known d [])) c.in_ok-new.ensures
    ∙ sym (slots_begin g.place known d e [])
