use Rattle.h5w_text.proofs.HexLemmas.{damaged_text}
use Rattle.h5w_text.proofs.refusal.refusal.Goals as goal

pub returns-in_ok-with_numbers-in-Damaged : goal.returns-in_ok-with_numbers-in-Damaged
returns-in_ok-with_numbers-in-Damaged c =
    damaged_text c.fault.result c.args.out.now.items c.with_numbers-in-Damaged.new.out.items c.fault.new.out.items c.args.error c.in-Damaged.at c.in-Damaged.why c.in-Damaged.is c.in_ok-with_numbers-in-Damaged.ensures c.fault.ensures
