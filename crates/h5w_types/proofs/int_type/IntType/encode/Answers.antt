use Rattle.std.proofs.Common.{◌≡◌, ℕ, List, [], ◌∷◌, ◌++◌, ◌+◌, ◌*◌, drop, sym, ◌∙◌, ap, refl, Bool, true, false}
use Rattle.std.specs.Prelude.{if◌then◌else◌}
use mir.Val.{bool_byte}
use Rattle.h5w_model.proofs.MessageLemmas.{int_type_at-int_type_bytes, int_type_bytes-is, length-int_type_bytes}
use Rattle.h5w_types.specs.Messages.{int_type_bits}
use Rattle.h5w_types.specs.Fields.{int_type_of}
use Rattle.h5w_types.proofs.int_type.IntType.encode.Goals as goal

bits_are : (big signed : Bool) → bool_byte big + 8 * bool_byte signed ≡ (if big then 1 else 0) + (if signed then 8 else 0)
bits_are true true = refl
bits_are true false = refl
bits_are false true = refl
bits_are false false = refl

pub returns-clause-len : goal.returns-clause-len
returns-clause-len c = (refl, length-int_type_bytes (int_type_of c.args.self.now))

pub returns-clause-written : goal.returns-clause-written
returns-clause-written c =
    let t = int_type_of c.args.self.now in
    let bits : c.from.result + 8 * c.from-2.result ≡ int_type_bits t =
    (λ i. c.from.ensures i + 8 * c.from-2.ensures i) ∙ bits_are t.big t.signed in
    ap (λ (l : List ℕ). l ++ drop 12 c.args.out.now)
    (c.copy_from_slice.ensures.after
    ∙ ap (λ (n : ℕ). 0x30 ∷ n ∷ 0 ∷ 0 ∷ t.size ∷ 0 ∷ 0 ∷ 0 ∷ 0 ∷ 0 ∷ 8 * t.size ∷ 0 ∷ []) bits
    ∙ sym (int_type_bytes-is t c.requires.typed))

pub returns-clause-reads_back : goal.returns-clause-reads_back
returns-clause-reads_back c = λ rest. int_type_at-int_type_bytes (int_type_of c.args.self.now) rest c.requires.typed
