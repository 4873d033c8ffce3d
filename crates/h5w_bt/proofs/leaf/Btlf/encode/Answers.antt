use Rattle.std.proofs.Common.{◌≡◌, ◌+◌, ◌-◌, ◌*◌, ◌++◌, length, take, drop, refl, sym, ap, ◌∙◌}
use Rattle.std.proofs.lemmas.List.{length-map}
use Rattle.h5w_model.specs.Checksum.{sealed_block}
use Rattle.h5w_bt.specs.Parts.{record_of}
use Rattle.h5w_bt.proofs.Spelling.{btlf-sealed, btlf_at-btlf_bytes}
use Rattle.h5w_bt.proofs.leaf.Btlf.encode.Goals as goal

pub returns-clause-spelled : goal.returns-clause-spelled
returns-clause-spelled c =
    let rs = c.args.self.now.records in
    let out = c.write.new.out in
    let count : length c.as_slice.result.now ≡ length c.args.self.now.records = sym (length-map c.as_slice.result.now record_of) ∙ ap length c.as_slice.ensures in
    c.seal_front.ensures
    ∙ ap (λ k. sealed_block (take (10 + 24 * k - 4) out) ++ drop (10 + 24 * k) out) count
    ∙ btlf-sealed rs c.args.out.now c.put_bytes.new.b out (length rs) refl c.put_bytes.ensures.written c.write.ensures.written

pub returns-clause-reads_back : goal.returns-clause-reads_back
returns-clause-reads_back c = λ place. let rs = c.args.self.now.records in btlf_at-btlf_bytes rs place (length rs) refl c.write.ensures.fits
