use Rattle.h5w_reader.specs.Cores.{reader}
use Rattle.h5w_core.proofs.PlaceLemmas.{look_goes_on}
use Rattle.h5w_core.proofs.readers.look.Goals as goal

pub returns-in-More-clause-gives : goal.returns-in-More-clause-gives
returns-in-More-clause-gives c =
    let x = reader c.in-Some.core in
    rw c.in-Some.is
    (look_goes_on c.args.reader c.args.image.now.bytes c.show-piece.result x (reader c.give.new.self) x.left c.in-Some-want.next.at c.in-Some-want.next.len c.in-Some-want.ensures.next
    c.show-piece.ensures.shows c.in-More.ensures.told (c.give.ensures.wanting c.in-More.is))
