use Rattle.std.proofs.Common.{arith, rules}
use Rattle.h5w_text.proofs.HexLemmas.{hex_more}
use Rattle.h5w_text.proofs.refusal.+hex.Goals as goal

pub returns : goal.returns
returns t c =
    hex_more c.args.out.now.items c.hex.new.out.items c.push.new.self.items c.args.digits c.args.n c.hex_digit.result (omega arith) c.in_ok-hex.ensures c.hex_digit.ensures (search rules)
