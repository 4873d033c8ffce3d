use Rattle.std.proofs.Common.{◌≡◌, ◌∙◌, Err, inr, refl, sym, ap}
use Rattle.h5w_model.specs.Programs.{used}
use Rattle.h5w_model.specs.Tables.{data_slot, secondary_block}
use Rattle.h5w_model.specs.Arrays.{super_block_of, easb_at, slots_len}
use Rattle.h5w_lookup.specs.Attempts.{known_of, rules_of}
use Rattle.h5w_lookup.specs.Contents.{slots_in}
use Rattle.h5w_lookup.specs.Seeking.{store_rest, wait_given}
use Rattle.h5w_lookup.specs.Stores.{kept}
use Rattle.h5w_lookup.specs.Descents.{after_next, descended}
use Rattle.h5w_lookup.specs.declared.wait.Wait.TheVariants.{Second}
use Rattle.h5w_lookup.proofs.PieceLemmas.{along}
use Rattle.h5w_lookup.proofs.StoreLemmas.{read_of}
use Rattle.h5w_lookup.proofs.SeekLemmas.{second_read}
use Rattle.h5w_lookup.proofs.DescentLemmas.{put_used, second_refused, refused_block}
use Rattle.h5w_lookup.proofs.descent.Descent.enter_second.Goals as goal

pub returns-in-Err : goal.returns-in-Err
returns-in-Err c =
    let g = rules_of c.args.rules.now (known_of c.args.known.now) in
    let w = c.args.w in
    let b = c.args.bytes.items in
    let next = after_next g c.args.self in
    let blocks = (super_block_of w.sblock).blocks in
    let given : easb_at b w.at blocks ≡ Err c.in-Err.fault = sym (rw (c.as_slice.ensures.value, c.sizes-blocks.ensures.blocks) at c.in-Err.ensures.exact) in
    refused_block g w.at c.refused.result c.in-Err.fault (easb_at b w.at blocks) (wait_given (kept c.args.self.store) (Second w) next b) c.refused.ensures.refused c.refused.ensures.other (inr given)
    (λ e. second_refused (used 16 secondary_block w.at (slots_len blocks) b (kept c.args.self.store)) w.at w.sblock w.block w.slot b c.in-Err.fault next e)

pub returns : goal.returns
returns c =
    let g = rules_of c.args.rules.now (known_of c.args.known.now) in
    let w = c.args.w in
    let b = c.args.bytes.items in
    let x = c.second-block.result in
    let blocks = (super_block_of w.sblock).blocks in
    let slots = (super_block_of w.sblock).slots in
    let is = rw c.sizes-blocks.ensures.blocks at c.second-block.ensures in
    let next = after_next g c.args.self in
    let old = kept c.args.self.store in
    let ks = used 16 secondary_block w.at (slots_len blocks) b old in
    along (descended g) c.resume.result _ (wait_given old (Second w) next b) c.resume.ensures
    (c.data-way.ensures.exact next
    ∙ ap (λ k. store_rest k (data_slot c.slot-address.result c.sizes-blocks.result.1 w.slot) next) (put_used secondary_block w.at (slots_len blocks) b x old (kept c.put.new.self) is c.in_ok-put.ensures)
    ∙ ap (λ n. store_rest ks (data_slot c.slot-address.result n w.slot) next) c.sizes-blocks.ensures.slots
    ∙ ap (λ a. store_rest ks (data_slot a slots w.slot) next) c.slot-address.ensures
    ∙ second_read ks w.at w.sblock w.block w.slot b (slots_in x.content) next ((read_of secondary_block w.at (slots_len blocks) b x is).of_second blocks refl refl))
