-- A plan that was begun on some places.
use Rattle.h5w_space.specs.Space.{Space}
use Rattle.h5w_index.specs.Steps.{IsBegun, WasBegun}
use Rattle.h5w_index.specs.Views.{IndexView, an_array, a_tree}
use Rattle.h5w_index.specs.declared.flush.IndexFlush.{IndexFlush}
use Rattle.h5w_index.specs.declared.flush.IndexFlush.TheVariants.{Array, Tree}

pub was_begun : (v : IndexView) (s : Space) (b : IndexFlush) (t : Space) → IsBegun v s b t → WasBegun v b
was_begun (an_array v) s (Array b) t h = record { from = s; to = t; begun = h }
was_begun (a_tree p v) s (Tree b) t h = record { from = s; to = t; begun = h }
was_begun (an_array v) s (Tree b) t h = absurd h
was_begun (a_tree p v) s (Array b) t h = absurd h
