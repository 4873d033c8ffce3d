-- Steps of pieces by what they are.
use Rattle.std.proofs.Common.{◌≡◌, ℕ, ◌≤◌, List, length, refl}
use Rattle.h5w_model.specs.Findings.{Used}
use Rattle.h5w_model.specs.Logs.{Log, shows, flushed, and_now}
use Rattle.h5w_model.specs.declared.piece.Write.{Write}
use Rattle.h5w_step_laws.specs.Moments.{Moment}
use Rattle.h5w_step_laws.specs.Steps.{Step, unseen}
use Rattle.h5w_step_laws.specs.Logs.{Goes, image_now}
use Rattle.h5w_step_laws.specs.Plans.{UnseenRange}
use Rattle.h5w_step_laws.proofs.GoesLemmas.{piece_goes}
use Rattle.h5w_step_laws.proofs.PlanLaws.{past_end}

-- one piece of a range that no reader reaches
pub one_unseen : (img : List ℕ) (m : Moment) (held : List Used) (w : Write) → UnseenRange m held w.at (length w.piece) → Step img m held w m held
one_unseen img m held w r = unseen (record { off_blocks = r.off_blocks; off_cells = r.off_cells }) r.off_held refl refl

pub unseen_goes : (name : List ℕ) (log : Log) (m : Moment) (held : List Used) (w : Write) → Goes name log m held → UnseenRange m held w.at (length w.piece) → m.values ≡ flushed (and_now (shows w) log)
    → Goes name (and_now (shows w) log) m held
unseen_goes name log m held w g r values = piece_goes name log m held w m held g (one_unseen (image_now log) m held w r) values

-- one past the end-of-file address
pub past_goes : (name : List ℕ) (log : Log) (m : Moment) (held : List Used) (w : Write) → Goes name log m held → m.super.end ≤ w.at → m.values ≡ flushed (and_now (shows w) log)
    → Goes name (and_now (shows w) log) m held
past_goes name log m held w g behind values = unseen_goes name log m held w g (past_end (image_now log) name m held w.at (length w.piece) g.now g.ends behind) values
