use Rattle.std.proofs.Common.{◌∙◌, ap, None}
use Rattle.h5w_model.specs.Programs.{and_then}
use Rattle.h5w_reader.specs.Calling.{place_rest}
use Rattle.h5w_reader.proofs.CallLemmas.{open_is}
use Rattle.h5w_reader.proofs.stage.Stage.open.Goals as goal

pub returns : goal.returns
returns c = λ most name. ap (λ p. and_then p (place_rest most name None)) c.new.ensures ∙ open_is most name
