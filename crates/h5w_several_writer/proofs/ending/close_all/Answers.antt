use Rattle.std.proofs.Common.{◌≡◌, ◌∙◌, Ok, sym, ap, subst}
use Rattle.h5w_model.specs.Superblock.{super_at, super_bytes}
use Rattle.h5w_model.specs.declared.root.Super.{Super}
use Rattle.h5w_writer.specs.Sessions.{IsSession, Session}
use Rattle.h5w_several_writer.specs.Parts.{IsFirst}
use Rattle.h5w_several_writer.proofs.EndLemmas.{closed_session}
use Rattle.h5w_several_writer.proofs.ending.close_all.Goals as goal

pub returns-in-Ok-clause-reads : goal.returns-in-Ok-clause-reads
returns-in-Ok-clause-reads c = subst (λ (r : Super). super_at (super_bytes r) ≡ Ok r) (sym (c.root-root.ensures ∙ ap (λ (s : Session). s.root) c.in-Ok.ensures.closed)) c.in-Ok.ensures.reads

pub returns-in-Ok-clause-sessions : goal.returns-in-Ok-clause-sessions
returns-in-Ok-clause-sessions c =
    let first = subst (IsFirst c.args.root) c.in-Some.ensures.cases.0 c.requires.first in
    (subst IsSession (sym c.in-Ok.ensures.closed) (closed_session c.in-Some.part.now first.0 first.3), c.close_behind.ensures.sessions)
