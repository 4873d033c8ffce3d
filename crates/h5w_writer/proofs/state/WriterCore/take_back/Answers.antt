use Rattle.std.proofs.Common.{◌≡◌, ◌∙◌, ◌≤◌, [], List, drop, ap, sym, subst, arith}
use Rattle.h5w_model.specs.declared.piece.Write.{Write}
use Rattle.h5w_space.specs.Space.{Space}
use Rattle.h5w_writer.specs.Sessions.{ArePieces, IsSession, Session}
use Rattle.h5w_writer.specs.Told.{told_of}
use Rattle.h5w_writer.proofs.LentLemmas.{returned_is}
use Rattle.h5w_writer.proofs.SessionFields.{session_of}
use Rattle.h5w_writer.proofs.state.WriterCore.take_back.Goals as goal

pub invariant_of-self : goal.invariant_of-self
invariant_of-self c =
    let i = c.self.inside in
    let v = session_of i in
    let t = c.replace.new.dest in
    let same : t ≡ c.args.places = c.replace.ensures.after in
    let idle : v.pending ≡ [] = ap (λ (s : Session). s.pending) c.self.view_is ∙ c.requires.idle in
    let told : IsSession (told_of v c.args.root c.args.places) = subst (λ (s : Session). IsSession (told_of s c.args.root c.args.places)) (sym c.self.view_is) (returned_is c.args.self.now c.args.root c.args.places c.requires.lent) in
    let none : drop 0 c.clear.new.self.items ≡ v.pending = c.clear.ensures.items ∙ sym idle in (
      subst (λ (ws : List Write). IsSession (record (told_of v c.args.root t) { pending = ws })) (sym none) (subst (λ (s : Space). IsSession (told_of v c.args.root s)) (sym same) told),
      c.self.invariant.1,
      subst (λ (ws : List Write). ArePieces t.end ws) (sym c.clear.ensures.items) (record { sized = tt; within = tt }),
      omega arith,
      omega (arith, c.clear.ensures.capacity, c.self.invariant.4),
    )
