use Rattle.std.proofs.Common.{◌≡◌, Some, ap, ◌∙◌, sym}
use Rattle.std.specs.Prelude.{slice_get, option_map}
use Rattle.h5w_image.specs.Journals.{write_seen}
use Rattle.h5w_stop.proofs.PieceLemmas.{put_ok}
use Rattle.h5w_stop.proofs.positions.show.Goals as goal

pub returns : goal.returns
returns c =
    let there : slice_get c.args.journal.now.writes c.args.position ≡ Some (write_seen c.in-Some.write) = sym c.get.ensures ∙ ap (option_map write_seen) c.in-Some.is in
    put_ok c.put.result c.args.position c.args.journal.now.writes (write_seen c.in-Some.write) c.args.image.now c.put.new.self c.requires.piece there c.requires.before c.put.ensures
