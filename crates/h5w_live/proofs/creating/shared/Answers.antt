use Rattle.std.proofs.Common.{Result, Ok, Err, sym, subst, []}
use Rattle.std.specs.Prelude.{IfOk}
use Rattle.h5w_shared.specs.Seats.{SeatView}
use Rattle.h5w_live.specs.Writing.{HasFlushed}
use Rattle.h5w_live.proofs.creating.shared.Goals as goal

if_ok : {A E : Type 0} (P Q : A → Type 0) (r : Result A E) → ((a : A) → P a → Q a) → IfOk r P → IfOk r Q
if_ok P Q (Ok a) h p = h a p
if_ok P Q (Err e) h p = tt

pub returns-in-Ok-show_created-clause-created : goal.returns-in-Ok-show_created-clause-created
returns-in-Ok-show_created-clause-created g c = λ f most creating.
    if_ok _ _ c.both_created.result (λ r same. subst (λ (v : SeatView). HasFlushed f most [] c.show_created.new.session v []) (sym same) (c.in-Ok-show_created.ensures.created f most creating)) c.both_created.ensures.seat
