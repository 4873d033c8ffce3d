use Rattle.std.proofs.Common.{◌∙◌, sym}
use Rattle.h5w_several_playing.proofs.AloneLemmas.{took_ended}
use Rattle.h5w_several_playing.proofs.alone.AloneScript.take_over.Goals as goal

pub returns : goal.returns
returns c =
    let x = c.in_ok-world in
    let s = c.of_one-2 in
    took_ended c.args.self.now c.in-Own.world x.world s.result x.rows c.args.text.now.items c.write_numbers.new.out.items c.write_numbers.result (sym c.replace.ensures.value ∙ c.in-Own.is) c.requires x.ensures.fits x.ensures.rows x.ensures.rules s.ensures.world s.ensures.used s.ensures.columns c.write_numbers.ensures
