use Rattle.std.proofs.Common.{◌≡◌, Ok, List, ℕ, subst, sym, ◌∙◌, arith}
use Rattle.h5w_model.specs.Trees.{bthd_at}
use Rattle.h5w_bt.specs.Fields.{bthd_of}
use Rattle.h5w_bt.proofs.Spelling.{bthd-sealed, bthd_bytes-is, bthd_at-bthd_body}
use Rattle.h5w_bt.proofs.header.Bthd.encode.Goals as goal

pub returns-clause-spelled : goal.returns-clause-spelled
returns-clause-spelled c =
    c.seal_front.ensures
    ∙ bthd-sealed (bthd_of c.args.self.now) c.args.out.now c.put_bytes.new.b c.put.new.b c.put_bytes-2.new.b c.put-2.new.b c.put-3.new.b c.put-4.new.b
    (record {
      head = c.put_bytes.ensures.written;
      depth = c.put.ensures.written;
      percents = c.put_bytes-2.ensures.written;
      root = c.put-2.ensures.written;
      records = c.put-3.ensures.written;
      total = c.put-4.ensures.written;
    })

pub returns-clause-reads_back : goal.returns-clause-reads_back
returns-clause-reads_back c = λ place.
    let t = bthd_of c.args.self.now in
    subst (λ (b : List ℕ). bthd_at b place ≡ Ok (bthd_of c.args.self.now)) (sym (bthd_bytes-is t)) (bthd_at-bthd_body t place c.requires.form (omega arith) (omega arith))
