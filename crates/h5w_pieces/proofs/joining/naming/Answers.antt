use Rattle.std.proofs.Common.{refl}
use Rattle.h5w_pieces.proofs.joining.naming.Goals as goal

pub returns-then-address-eq-UNDEFINED-clause-names : goal.returns-then-address-eq-UNDEFINED-clause-names
returns-then-address-eq-UNDEFINED-clause-names c = record { unnamed = λ none. refl; named = λ named. absurd (named c.if-address-eq-UNDEFINED.true) }

pub returns-else-address-eq-UNDEFINED-clause-names : goal.returns-else-address-eq-UNDEFINED-clause-names
returns-else-address-eq-UNDEFINED-clause-names c = record { unnamed = λ none. absurd (c.if-address-eq-UNDEFINED.false none); named = λ named. refl }
