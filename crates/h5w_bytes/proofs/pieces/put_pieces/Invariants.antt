use Rattle.std.proofs.Common.{◌≡◌, ◌+◌, ◌/◌, ◌++◌, length, vec_len, vec_capacity}
use Rattle.h5w_model.specs.Images.{pieces}
use Rattle.h5w_bytes.proofs.pieces.put_pieces.Given as goal

abbrev pub invariant-loop-part : goal.invariant-loop-part
invariant-loop-part l = record {
  size : l.part-iterator.size ≡ 512;
  goes : l.out.items ++ pieces l.at l.part-iterator.rest.now ≡ l.initial.out.items ++ pieces l.fn.place l.fn.bytes;
  fits : l.at + length l.part-iterator.rest.now ≡ l.fn.place + length l.fn.bytes;
  count : vec_len l.out + (length l.part-iterator.rest.now + 511) / 512 ≡ vec_len l.initial.out + (length l.fn.bytes + 511) / 512;
  capacity : vec_capacity l.out ≡ vec_capacity l.initial.out;
}
