use Rattle.std.proofs.Common.{◌≡◌, true, false, ◌∙◌, sym, subst, inl, inr}
use Rattle.h5w_model.specs.Numbers.{undefined}
use Rattle.h5w_index.specs.Blocks.{has_no_block}
use Rattle.h5w_writer.specs.Sessions.{IsNamed, IsSession, Session}
use Rattle.h5w_writer.proofs.state.WriterCore.is_unmade.Goals as goal

pub returns-then-self-clause-yes : goal.returns-then-self-clause-yes
returns-then-self-clause-yes c so = inl (subst (λ (s : Session). s.dataset.layout.address ≡ undefined) c.self.view_is c.if-self.true)

pub returns-then-self-clause-session : goal.returns-then-self-clause-session
returns-then-self-clause-session c = subst IsSession c.self.view_is c.self.invariant.0

pub returns-clause-session : goal.returns-clause-session
returns-clause-session c = subst IsSession c.self.view_is c.self.invariant.0

pub returns-clause-yes : goal.returns-clause-yes
returns-clause-yes c so = inr (subst (λ (s : Session). has_no_block s.index ≡ true) c.self.view_is (sym c.has_no_block.ensures ∙ so))

pub returns-clause-no : goal.returns-clause-no
returns-clause-no c none = record {
  named = subst (λ (s : Session). IsNamed s.dataset) c.self.view_is c.if-self.false;
  made = subst (λ (s : Session). has_no_block s.index ≡ false) c.self.view_is (sym c.has_no_block.ensures ∙ none);
}
