use Rattle.std.proofs.Common.{◌≡◌, ◌∙◌, ◌≤◌, ap, sym, subst, arith}
use Rattle.h5w_space.specs.Space.{Space}
use Rattle.h5w_writer.specs.Sessions.{IsSession, Session}
use Rattle.h5w_writer.specs.Told.{told_of}
use Rattle.h5w_writer.proofs.LentLemmas.{told_is}
use Rattle.h5w_writer.proofs.PastLemmas.{ends_later}
use Rattle.h5w_writer.proofs.SessionFields.{session_of}
use Rattle.h5w_writer.proofs.state.WriterCore.tell.Goals as goal

pub invariant_of-self : goal.invariant_of-self
invariant_of-self c =
    let i = c.self.inside in
    let v = session_of i in
    let t = c.replace.new.dest in
    let same : t ≡ c.args.places = c.replace.ensures.after in
    let less : i.places.end ≤ t.end = omega (arith, c.requires.rises, ap (λ (s : Space). s.end) same, ap (λ (s : Session). s.places.end) c.self.view_is) in
    let is = subst IsSession c.self.view_is c.self.invariant.0 in
    let told = told_is c.args.self.now c.args.root c.args.places c.requires.version c.requires.rises c.requires.small c.requires.limit c.requires.live is in (
      subst (λ (s : Space). IsSession (told_of v c.args.root s)) (sym same) (subst (λ (s : Session). IsSession (told_of s c.args.root c.args.places)) (sym c.self.view_is) told),
      c.self.invariant.1,
      record { sized = c.self.invariant.2.sized; within = ends_later i.places.end t.end i.backlog.plan.items less c.self.invariant.2.within },
      c.self.invariant.3,
      c.self.invariant.4,
    )

pub returns-clause-is : goal.returns-clause-is
returns-clause-is c =
    let v = session_of c.self.inside in
    let is = subst IsSession c.self.view_is c.self.invariant.0 in
    let told = told_is c.args.self.now c.args.root c.args.places c.requires.version c.requires.rises c.requires.small c.requires.limit c.requires.live is in
    subst (λ (s : Space). IsSession (told_of v c.args.root s)) (sym c.replace.ensures.after) (subst (λ (s : Session). IsSession (told_of s c.args.root c.args.places)) (sym c.self.view_is) told)
