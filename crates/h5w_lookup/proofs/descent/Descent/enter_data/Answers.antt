use Rattle.std.proofs.Common.{◌≡◌, ◌∙◌, Err, inr, refl, sym, ap}
use Rattle.h5w_model.specs.Programs.{used}
use Rattle.h5w_model.specs.Tables.{data_block}
use Rattle.h5w_model.specs.Arrays.{eadb_at, slots_len}
use Rattle.h5w_lookup.specs.Attempts.{known_of, rules_of}
use Rattle.h5w_lookup.specs.Contents.{slots_in}
use Rattle.h5w_lookup.specs.Seeking.{next_rest, wait_given}
use Rattle.h5w_lookup.specs.Stores.{kept}
use Rattle.h5w_lookup.specs.Descents.{after_next, descended}
use Rattle.h5w_lookup.specs.declared.wait.Wait.TheVariants.{Data}
use Rattle.h5w_lookup.proofs.PieceLemmas.{along}
use Rattle.h5w_lookup.proofs.StoreLemmas.{read_of}
use Rattle.h5w_lookup.proofs.SeekLemmas.{data_read}
use Rattle.h5w_lookup.proofs.DescentLemmas.{put_used, data_refused, refused_block}
use Rattle.h5w_lookup.proofs.descent.Descent.enter_data.Goals as goal

pub returns-in-Err : goal.returns-in-Err
returns-in-Err c =
    let g = rules_of c.args.rules.now (known_of c.args.known.now) in
    let w = c.args.w in
    let b = c.args.bytes.items in
    let next = after_next g c.args.self in
    let given : eadb_at b w.at w.n ≡ Err c.in-Err.fault = sym (rw c.as_slice.ensures.value at c.in-Err.ensures.exact) in
    refused_block g w.at c.refused.result c.in-Err.fault (eadb_at b w.at w.n) (wait_given (kept c.args.self.store) (Data w) next b) c.refused.ensures.refused c.refused.ensures.other (inr given)
    (λ e. data_refused (used 16 data_block w.at (slots_len w.n) b (kept c.args.self.store)) w.at w.n w.slot b c.in-Err.fault next e)

pub returns : goal.returns
returns c =
    let g = rules_of c.args.rules.now (known_of c.args.known.now) in
    let w = c.args.w in
    let b = c.args.bytes.items in
    let x = c.data-block.result in
    let is = c.data-block.ensures in
    let next = after_next g c.args.self in
    let old = kept c.args.self.store in
    let ks = used 16 data_block w.at (slots_len w.n) b old in
    along (descended g) c.found.result _ (wait_given old (Data w) next b) c.found.ensures
    (ap (λ k. next_rest k next c.slot-address.result) (put_used data_block w.at (slots_len w.n) b x old (kept c.put.new.self) is c.in_ok-put.ensures)
    ∙ ap (next_rest ks next) c.slot-address.ensures
    ∙ data_read ks w.at w.n w.slot b (slots_in x.content) next ((read_of data_block w.at (slots_len w.n) b x is).of_data w.n refl refl))
