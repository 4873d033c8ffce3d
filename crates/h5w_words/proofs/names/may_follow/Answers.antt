use Rattle.std.proofs.Common.{◌≡◌, ◌<◌, ◌∙◌, true, length, arith}
use Rattle.std.proofs.lemmas.Bool.{both_ways, le-ltb, lt-ltb}
use Rattle.h5w_words.specs.Names.{is_link_name}
use Rattle.h5w_words.proofs.NameLemmas.{unless_held}
use Rattle.h5w_words.proofs.names.may_follow.Goals as goal
use Rattle.h5w_words.proofs.names.may_follow.Goals.{then-len-lt-MOST, else-len-lt-MOST}

pub returns-then-is_link_name : goal.returns-then-is_link_name
returns-then-is_link_name c = elim c.if-len-lt-MOST.branch [
  | then-len-lt-MOST w ↦
      let room : length c.args.names.now < 8 = omega arith in
      let link : is_link_name c.args.name.now ≡ true = cc in
      unless_held c.args.names.now c.args.name.now c.has.result (lt-ltb _ _ room) link c.has.ensures
  | else-len-lt-MOST w ↦ absurd (both_ways c.if-len-lt-MOST.value (w.value-is ∙ le-ltb c.len.result 8 (omega arith)) c.if-is_link_name.true)
]
