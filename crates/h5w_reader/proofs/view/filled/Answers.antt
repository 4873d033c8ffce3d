use Rattle.std.proofs.Common.{◌-◌, ◌++◌, ap, sym, length}
use Rattle.std.proofs.lemmas.List.{take_all}
use Rattle.h5w_reader.proofs.ViewLemmas.{zeros_are}
use Rattle.h5w_reader.proofs.view.filled.Goals as goal

pub returns : goal.returns
returns c =
    let b = c.args.b.now in
    let made = c.in_ok-bytes.ensures in
    rw (c.from_vec.ensures, c.in_ok-resize.ensures.items, made.items, made.len, take_all 512 b c.requires) (ap (λ xs. b ++ xs) (sym (zeros_are (512 - length b))))
