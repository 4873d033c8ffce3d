use Rattle.std.proofs.Common.{◌∙◌, sym, ap, subst}
use Rattle.h5w_model.specs.Programs.{fed}
use Rattle.h5w_lookup.specs.Attempts.{looking_up}
use Rattle.h5w_lookup.specs.declared.descent.Waiting.{Waiting}
use Rattle.h5w_lookup.proofs.LookLemmas.{TookUp, waiting_by, waiting_goes, waiting_same}
use Rattle.h5w_lookup.proofs.lookup.Lookup.absorb.Goals as goal

pub returns-in-Block-clause-more : goal.returns-in-Block-clause-more
returns-in-Block-clause-more c = λ ok g.
    ap (λ (w : Waiting). waiting_by g w c.absorb.new.self) c.deref_mut.ensures.value
    ∙ waiting_goes g c.in-Block.waiting.value c.absorb.new.self c.args.piece.now
    (subst (λ (w : Waiting). TookUp w.gather c.absorb.new.self c.args.piece.now) c.deref_mut.ensures.value (record { left = c.absorb.ensures.more ok; start = c.absorb.ensures.start }))
    ∙ ap (λ l. fed c.args.piece.now (looking_up g l)) (sym c.in-Block.is)

pub returns-in-Block-clause-same : goal.returns-in-Block-clause-same
returns-in-Block-clause-same c = λ ok g.
    ap (λ (w : Waiting). waiting_by g w c.absorb.new.self) c.deref_mut.ensures.value
    ∙ waiting_same g c.in-Block.waiting.value c.absorb.new.self (c.absorb.ensures.same ok ∙ ap (λ (w : Waiting). w.gather) c.deref_mut.ensures.value)
    ∙ ap (looking_up g) (sym c.in-Block.is)

pub invariant_of-deref_mut : goal.invariant_of-deref_mut
invariant_of-deref_mut c =
    let w = c.deref_mut.result.now in
    record { begins = c.absorb.ensures.start ∙ w.begins }
