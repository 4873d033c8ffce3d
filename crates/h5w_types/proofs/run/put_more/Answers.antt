use Rattle.std.proofs.Common.{◌≡◌, ◌∙◌, ◌+◌, ◌*◌, ◌++◌, length, length-append, ap, ℕ, arith}
use Rattle.std.specs.Vec.{vec_len}
use Rattle.h5w_types.specs.Fields.{int_type_of}
use Rattle.h5w_types.specs.Runs.{run_bytes}
use Rattle.h5w_types.proofs.RunLemmas.{part_all, part_more, parted}
use Rattle.h5w_types.proofs.run.put_more.Goals as goal

pub put_reserved-requires-clause-fit : goal.put_reserved-requires-clause-fit
put_reserved-requires-clause-fit c =
    let steps = c.in-Some.ensures.steps in
    (parted (int_type_of c.args.t.now) c.loop-part.part-iterator.rest.now c.in-Some.part.now c.next.new.self.rest.now steps.1.0 c.loop-part.invariant.fit).front

pub put_reserved-requires-clause-room : goal.put_reserved-requires-clause-room
put_reserved-requires-clause-room c =
    let steps = c.in-Some.ensures.steps in
    let part = c.in-Some.part.now in
    let behind = c.next.new.self.rest.now in
    let parts = parted (int_type_of c.args.t.now) c.loop-part.part-iterator.rest.now part behind steps.1.0 c.loop-part.invariant.fit in
    let long = ap length steps.1.0 ∙ length-append part behind in
    let room = ap (λ (k : ℕ). k * c.args.t.now.size) long ∙ parts.room in
    omega (arith, c.loop-part.invariant.room, room)

pub loop-part-preserved : goal.loop-part-preserved
loop-part-preserved c =
    let steps = c.in-Some.ensures.steps in
    let t = int_type_of c.args.t.now in
    let part = c.in-Some.part.now in
    let behind = c.next.new.self.rest.now in
    let left = c.loop-part.part-iterator.rest.now in
    let parts = parted t left part behind steps.1.0 c.loop-part.invariant.fit in
    let long = ap length steps.1.0 ∙ length-append part behind in
    let room = ap (λ (k : ℕ). k * c.args.t.now.size) long ∙ parts.room in
    let len : vec_len c.put_reserved.new.out ≡ vec_len c.loop-part.out + length (run_bytes t part) =
    let items = ap length c.put_reserved.ensures.added ∙ length-append c.loop-part.out.items (run_bytes t part) in omega (arith, items) in
    record {
      size = steps.0 ∙ c.loop-part.invariant.size;
      goes = part_more t c.loop-part.out.items c.put_reserved.new.out.items (c.args.out.now.items ++ run_bytes t c.args.values.now) left part behind steps.1.0 c.put_reserved.ensures.added c.loop-part.invariant.goes;
      fit = parts.rest;
      room = omega (arith, c.loop-part.invariant.room, room, len, parts.len, c.put_reserved.ensures.capacity);
    }

pub returns-clause-added : goal.returns-clause-added
returns-clause-added c =
    let steps = c.in-None.ensures.steps in
    let t = int_type_of c.args.t.now in
    part_all t c.loop-part.out.items (c.args.out.now.items ++ run_bytes t c.args.values.now) c.loop-part.part-iterator.rest.now steps.1.0 c.loop-part.invariant.goes
