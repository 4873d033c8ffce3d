use Rattle.std.proofs.Common.{◌≡◌, length}
use Rattle.h5w_options.specs.declared.options.Options.{Options}
use Rattle.h5w_writer.specs.Room.{HasRoomFor}
use Rattle.h5w_steady.specs.Steady.{steady}
use Rattle.h5w_core.specs.Creation.{Creates}
use Rattle.h5w_core.proofs.world.show_all.Given as goal

abbrev pub invariant-loop : goal.invariant-loop
invariant-loop l =
    ((o : Options) → Creates o 0 l.initial.session l.initial.image → Creates o l.counter l.session l.image)
    × HasRoomFor l.session (steady l.image)
    × (l.pieces ≡ length l.initial.session.pending)
