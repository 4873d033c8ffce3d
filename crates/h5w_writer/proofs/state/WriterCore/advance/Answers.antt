use Rattle.std.proofs.Common.{rules, arith, ◌≡◌, ◌+◌, ◌∙◌, ap, sym, subst, false, true, length, drop, List, [], Bool, refl, ℕ}
use Rattle.h5w_model.specs.declared.piece.Write.{Write}
use Rattle.h5w_writer.specs.Sessions.{ArePieces, Session}
use Rattle.h5w_writer.proofs.StandLemmas.{freed_keeps, freed_live, not_both}
use Rattle.h5w_writer.proofs.StateLemmas.{after_flush_piece, after_some, after_unplanned, freed_is, last_of, left_are, more_left, some_left, still_is}
use Rattle.h5w_writer.proofs.state.WriterCore.advance.Goals as goal
use Rattle.h5w_writer.proofs.state.WriterCore.advance.Goals.{else-self-len-via-then-self-len+else-self, else-self-len-via-else-self-len}

pub invariant_of-self : goal.invariant_of-self
invariant_of-self c =
    let i = c.self.inside in
    let kept = freed_keeps i.keeps i.places c.let_go.new.places c.let_go.ensures in
    let left = some_left i.backlog.plan.items c.args.self.now.pending i.backlog.shown (ap (λ (t : Session). t.pending) c.self.view_is) c.requires in (
      freed_is _ c.let_go.new.places kept.0 kept.1 (freed_live i.keeps i.places c.let_go.new.places c.let_go.ensures) (still_is _ i.root i.grid.shape.rows (drop (i.backlog.shown + 1) i.backlog.plan.items) i.stopped i.keeps false refl (λ e. cc) c.self.invariant.0),
      c.self.invariant.1,
      subst (λ (n : ℕ). ArePieces n i.backlog.plan.items) (sym kept.0) c.self.invariant.2,
      omega (arith, left),
      c.self.invariant.4,
    )

pub invariant_of-self-else-self : goal.invariant_of-self-else-self
invariant_of-self-else-self c =
    let i = c.self.inside in
    let left = some_left i.backlog.plan.items c.args.self.now.pending i.backlog.shown (ap (λ (t : Session). t.pending) c.self.view_is) c.requires in (
      still_is _ i.root i.committed (drop (i.backlog.shown + 1) i.backlog.plan.items) i.stopped i.keeps i.backlog.flushing refl (λ e. absurd (not_both i.backlog.flushing c.if-self.false e)) c.self.invariant.0,
      c.self.invariant.1,
      c.self.invariant.2,
      omega (arith, left),
      c.self.invariant.4,
    )

pub invariant_of-self-else-self-len : goal.invariant_of-self-else-self-len
invariant_of-self-else-self-len c =
    let i = c.self.inside in
    let left = some_left i.backlog.plan.items c.args.self.now.pending i.backlog.shown (ap (λ (t : Session). t.pending) c.self.view_is) c.requires in
    let more : i.backlog.shown + 1 ≡ length i.backlog.plan.items → ⊥ = λ e. c.if-self-len.false (e ∙ search rules) in (
      still_is _ i.root i.committed (drop (i.backlog.shown + 1) i.backlog.plan.items) i.stopped i.keeps i.backlog.flushing refl (λ e. (c.self.invariant.0.flushing e, λ none. more (last_of i.backlog.plan.items i.backlog.shown left none))) c.self.invariant.0,
      c.self.invariant.1,
      c.self.invariant.2,
      omega (arith, left),
      c.self.invariant.4,
    )

pub returns-else-self-len : goal.returns-else-self-len
returns-else-self-len c w ws pending =
    let i = c.self.inside in
    let s = c.args.self.now in
    let is : drop i.backlog.shown i.backlog.plan.items ≡ s.pending = ap (λ (t : Session). t.pending) c.self.view_is in
    let inside = some_left i.backlog.plan.items s.pending i.backlog.shown is c.requires in
    let own = is ∙ pending in
    elim c.else-self-len.branch [
      | else-self-len-via-then-self-len+else-self b ↦
          after_unplanned s ws _ (ap (λ (t : Session). t.flushing) (sym c.self.view_is) ∙ b.if-self.false)
          (b.self-is ∙ ap (λ (t : Session). record t { pending = drop (i.backlog.shown + 1) i.backlog.plan.items }) c.self.view_is ∙ ap (λ (ps : List Write). record s { pending = ps }) (sym (left_are i.backlog.plan.items i.backlog.shown w ws inside own)))
      | else-self-len-via-else-self-len b ↦
          let more : i.backlog.shown + 1 ≡ length i.backlog.plan.items → ⊥ = λ e. b.if-self-len.false (e ∙ search rules) in
          after_some s ws _ (more_left i.backlog.plan.items i.backlog.shown w ws inside more own)
          (b.self-is ∙ ap (λ (t : Session). record t { pending = drop (i.backlog.shown + 1) i.backlog.plan.items }) c.self.view_is ∙ ap (λ (ps : List Write). record s { pending = ps }) (sym (left_are i.backlog.plan.items i.backlog.shown w ws inside own)))
    ]
