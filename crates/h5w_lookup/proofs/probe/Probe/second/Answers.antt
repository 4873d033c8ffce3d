use Rattle.std.proofs.Common.{◌≡◌, ◌∙◌, subst}
use Rattle.h5w_model.specs.Programs.{used}
use Rattle.h5w_model.specs.Arrays.{slots_len}
use Rattle.h5w_model.specs.Tables.{secondary_block}
use Rattle.h5w_lookup.specs.Stores.{kept}
use Rattle.h5w_lookup.proofs.SeekLemmas.{second_nowhere, second_kept, second_waits}
use Rattle.h5w_lookup.proofs.probe.Probe.second.Goals as goal

pub returns-then-at-eq-UNDEFINED-clause-exact : goal.returns-then-at-eq-UNDEFINED-clause-exact
returns-then-at-eq-UNDEFINED-clause-exact c = λ next. second_nowhere (kept c.args.store.now) c.args.at c.args.sblock c.args.block c.args.slot next c.if-at-eq-UNDEFINED.true

pub returns-clause-exact : goal.returns-clause-exact
returns-clause-exact c = λ next.
    let k = c.in-Some.ensures in
    c.data.ensures.exact next
    ∙ rw (c.slot-address.ensures, c.sizes-blocks.ensures.slots) (second_kept (kept c.args.store.now) (kept c.touch.new.self) c.args.at c.args.sblock c.args.block c.args.slot k.bytes c.in-Some.content.now next c.if-at-eq-UNDEFINED.false (rw (c.slots_len-len.ensures, c.sizes-blocks.ensures.blocks) at k.is_kept) (rw (c.slots_len-len.ensures, c.sizes-blocks.ensures.blocks) at k.read)
    (subst (λ m. kept c.touch.new.self ≡ used 16 secondary_block c.args.at (slots_len m) k.bytes (kept c.args.store.now)) c.sizes-blocks.ensures.blocks (subst (λ m. kept c.touch.new.self ≡ used 16 secondary_block c.args.at m k.bytes (kept c.args.store.now)) c.slots_len-len.ensures (c.touch.ensures k.bytes k.is_kept))))

pub returns-in-None-clause-exact : goal.returns-in-None-clause-exact
returns-in-None-clause-exact c = λ next.
    let h = rw (c.slots_len-len.ensures, c.sizes-blocks.ensures.blocks) at c.in-None.ensures in
    second_waits (kept c.args.store.now) (record { at = c.args.at; sblock = c.args.sblock; block = c.args.block; slot = c.args.slot; known = c.requires }) next c.if-at-eq-UNDEFINED.false h
