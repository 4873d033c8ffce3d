use Rattle.std.proofs.Common.{◌≡◌, ◌+◌, ◌-◌, ◌*◌, ◌++◌, length, take, drop, refl, sym, ap, ◌∙◌}
use Rattle.std.proofs.lemmas.List.{length-map}
use Rattle.std.specs.List.{flat_map}
use Rattle.h5w_model.specs.Checksum.{sealed_block}
use Rattle.h5w_model.specs.Trees.{btin_len, child_bytes, pointer_size}
use Rattle.h5w_bt.specs.Fields.{btin_of}
use Rattle.h5w_bt.specs.Parts.{record_of}
use Rattle.h5w_bt.proofs.Spelling.{btin-sealed, btin_at-btin_bytes}
use Rattle.h5w_bt.proofs.inner.Btin.encode.Goals as goal

pub returns-clause-spelled : goal.returns-clause-spelled
returns-clause-spelled c =
    let t = btin_of c.args.self.now in
    let depth = c.args.depth in
    let n = length t.records in
    let k = length c.as_slice-n.result.now in
    let b1 = c.write.new.out in
    let b2 = c.write-2.new.out in
    let width = length t.children * pointer_size depth in
    let more = flat_map (child_bytes depth) t.children in
    let count : length c.as_slice-n.result.now ≡ length c.args.self.now.records = sym (length-map c.as_slice-n.result.now record_of) ∙ ap length c.as_slice-n.ensures in
    let len : 10 + 24 * k + (k + 1) * c.pointer_size.result ≡ btin_len n depth =
    ap (λ i. 10 + 24 * i + (i + 1) * c.pointer_size.result) count ∙ ap (λ w. 10 + 24 * n + (n + 1) * w) c.pointer_size.ensures.exact in
    c.seal_front.ensures
    ∙ ap (λ i. sealed_block (take (i - 4) b2) ++ drop i b2) len
    ∙ btin-sealed t c.args.out.now c.put_bytes.new.b b1 b2 depth n c.requires.form refl c.put_bytes.ensures.written c.write.ensures.written
    (c.write-2.ensures.written ∙ ap (λ i. (take (6 + 24 * i) b1 ++ more) ++ drop (6 + 24 * i + width) b1) count)

pub returns-clause-reads_back : goal.returns-clause-reads_back
returns-clause-reads_back c = λ place.
    let t = btin_of c.args.self.now in
    btin_at-btin_bytes t c.args.depth place (length t.records) c.requires.form refl c.write.ensures.fits
    (λ k d h. record { address = c.write-2.ensures.fits k d h; form = c.requires.form.pointers k d h })
