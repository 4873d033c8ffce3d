-- A session that goes on where another one stopped.
use Rattle.std.proofs.Common.{◌≡◌, ℕ, List, [], refl, sym, ap, subst, arith}
use Rattle.std.proofs.lemmas.List.Elements.{All-nil}
use Rattle.std.specs.List.{All}
use Rattle.h5w_model.specs.Images.{image}
use Rattle.h5w_model.specs.Logs.{Log}
use Rattle.h5w_model.specs.Findings.{Used}
use Rattle.h5w_model.specs.declared.piece.Write.{Write}
use Rattle.h5w_space.specs.Space.{Apart, Space}
use Rattle.h5w_space.specs.declared.Extent.{Extent}
use Rattle.h5w_step_laws.specs.Moments.{Moment}
use Rattle.h5w_step_laws.specs.Logs.{Goes, image_now}
use Rattle.h5w_step_laws.specs.Sessions.{Runs}
use Rattle.h5w_step_laws.proofs.GoesLemmas.{moved_front}
use Rattle.h5w_step_laws.proofs.MomentLemmas.{inside}
use Rattle.h5w_step_laws.proofs.SessionLaws.{goes_runs}
use Rattle.h5w_flush_laws.specs.Spaces.{AllLive, extent_of}
use Rattle.h5w_flush_laws.specs.Knowledge.{KnownHeld}
use Rattle.h5w_flush_laws.specs.Flushes.{IsBegun, Rests}
use Rattle.h5w_flush_laws.proofs.KnownLaws.{begin_live}
use Rattle.h5w_model.specs.Several.{settled_log}
use Rattle.h5w_several_laws.proofs.SettledLemmas.{settled_goes, settled_pieces}
use Rattle.h5w_several_laws.specs.Takes.{TakesOver}

held_live : (name : List ℕ) (log : Log) (m : Moment) (held : List Used) (s : Space) → Goes name log m held → IsBegun m s → AllLive s held
held_live name log m held s g begun u a =
    let ends = g.ends u a in
    let same = begun.end in
    record {
      within = omega arith;
      off_free = subst (λ (xs : List Extent). All (Apart (extent_of u)) xs) (sym begun.none_free) (All-nil (Apart (extent_of u)));
      off_retired = subst (λ (xs : List Extent). All (Apart (extent_of u)) xs) (sym begun.none_retired) (All-nil (Apart (extent_of u)));
    }

pub takes_over : TakesOver
takes_over name log m held address s g map begun layout = rests (subst (λ (i : List ℕ). KnownHeld i name m address s held) same here)
  where
    same : image_now log ≡ image_now (settled_log log)
    same = ap (λ (h : List Write). image log.start h) (sym (settled_pieces 0 log.events))

    here : KnownHeld (image_now log) name m address s held
    here = record {
      knows = record {
        file = g.now;
        index = map;
        live = begin_live (image_now log) name m s g.now begun;
        ended = let end = begun.end in omega arith;
        covered = omega (arith, begun.end, inside (image_now log) name m g.now);
        held = held;
        holding = record { reaches = g.reaches; off_front = λ u v a b. g.off_front u v a (moved_front m v b); clear = g.clear; some = g.some; live = held_live name log m held s g begun };
        layout = layout;
      };
      is = refl;
    }

    rests : KnownHeld (image_now (settled_log log)) name m address s held → (r : Rests name (settled_log log) m address s) × (r.knows.held ≡ held)
    rests k =
        let settled = settled_goes name log m held g in
        let runs : Runs name (settled_log log) [] m held = goes_runs name (settled_log log) m held settled.goes settled.flushed in
        (record { knows = k.knows; runs = subst (λ (us : List Used). Runs name (settled_log log) [] m us) (sym k.is) runs }, k.is)
