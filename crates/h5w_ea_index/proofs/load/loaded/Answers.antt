use Rattle.std.proofs.Common.{subst}
use Rattle.h5w_array_laws.specs.Parts.{Part}
use Rattle.h5w_ea_index.specs.Loading.{copied_part}
use Rattle.h5w_ea_index.specs.Opened.{IsJudged}
use Rattle.h5w_ea_index.proofs.OpenedLemmas.{made_sound, read_stands}
use Rattle.h5w_ea_index.proofs.load.loaded.Goals as goal

pub returns-clause-sound : goal.returns-clause-sound
returns-clause-sound g c =
    let k : Part = copied_part c.args.part in
    let j : IsJudged k c.in_ok-bytes.bytes.items c.args.at c.args.first c.in_ok-whole.whole = subst (λ b. IsJudged k b c.args.at c.args.first c.in_ok-whole.whole) c.deref.ensures.value c.in_ok-whole.ensures.judged in
    made_sound k c.in_ok-bytes.bytes.items c.args.at c.args.first c.args.header c.in_ok-whole.whole c.in_ok-block.block j c.in_ok-block.ensures

pub returns-clause-stands : goal.returns-clause-stands
returns-clause-stands g c = λ img still.
    let k : Part = copied_part c.args.part in
    let j : IsJudged k c.in_ok-bytes.bytes.items c.args.at c.args.first c.in_ok-whole.whole = subst (λ b. IsJudged k b c.args.at c.args.first c.in_ok-whole.whole) c.deref.ensures.value c.in_ok-whole.ensures.judged in
    read_stands img c.args.at c.len.result k c.in_ok-bytes.bytes.items c.len.ensures.value (c.in_ok-bytes.ensures.exact img still) c.args.first c.args.header c.in_ok-whole.whole c.in_ok-block.block j c.in_ok-block.ensures c.in_ok-bytes.ensures.few
