use Rattle.std.proofs.Common.{◌≡◌, ◌∙◌, refl, ap, Option, Some, None}
use Rattle.h5w_model.specs.Unfinished.{Reader}
use Rattle.h5w_model.specs.Tables.{Reading}
use Rattle.h5w_lookup.specs.Attempts.{known_of, reading_of}
use Rattle.h5w_reader.specs.Readers.{reader_rules}
use Rattle.h5w_reader.specs.declared.call.Call.TheVariants as calls
use Rattle.h5w_reader.specs.declared.stage.Stage.TheVariants as stages
use Rattle.h5w_reader.proofs.CoreLemmas.{idle_rows}
use Rattle.h5w_reader.proofs.reader.ReaderCore.same_rows.Goals as goal

pub returns-in-Some-known : goal.returns-in-Some-known
returns-in-Some-known c =
    let s = c.args.self.now in
    let k = c.in-Some-known.known in
    let call : s.call ≡ Some (calls.Rows (stages.Header c.in-Header.rules)) = c.in-Some.is ∙ ap Some (c.in-Rows.is ∙ ap calls.Rows c.in-Header.is) in
    let at : Option Reading → Reader = λ x. record { rules = reader_rules s.name s.attempts; known = x; left = None } in (
      reading_of k,
      idle_rows s.attempts s.name c.args.piece.now s.known s.call c.in-Header.rules k call c.in-Some-known.is (c.is_idle.ensures c.if-is_idle.true),
      refl,
      ap at (ap known_of c.in-Some-known.is),
    )
