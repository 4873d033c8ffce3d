use Rattle.std.proofs.Common.{◌++◌, ◌∷◌, [], map, sym, ap, ◌∙◌}
use Rattle.std.proofs.lemmas.List.{map-append}
use Rattle.h5w_model.specs.Trees.{RecordFields, records_in}
use Rattle.h5w_bt.specs.Parts.{record_of}
use Rattle.h5w_bt.proofs.Reading.{records_in-more}
use Rattle.h5w_bt.proofs.records.read_records.Goals as goal

pub loop-i-preserved : goal.loop-i-preserved
loop-i-preserved c =
    let b = c.args.b.now in
    let i = c.loop-i.i in
    ap (map record_of) c.in_ok-push.ensures.items
    ∙ map-append record_of c.loop-i.records.items (c.read.result ∷ [])
    ∙ ap (λ l. l ++ record_of c.read.result ∷ []) c.loop-i.invariant
    ∙ ap (λ (v : RecordFields). records_in b i 6 ++ v ∷ []) c.read.ensures
    ∙ sym (records_in-more b i 6)
