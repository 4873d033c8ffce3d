use Rattle.std.proofs.Common.{◌≡◌, inl, inr, ◌∙◌, sym, Ok, Err}
use Rattle.h5w_model.specs.Datasets.{linked}
use Rattle.h5w_dataset.specs.Founds.{founds}
use Rattle.h5w_reader.specs.Calling.{place_rest}
use Rattle.h5w_reader.proofs.CallLemmas.{place_ok, place_err, refused_is}
use Rattle.h5w_reader.proofs.stage.Stage.after_root.Goals as goal

pub returns-in-Err : goal.returns-in-Err
returns-in-Err c = λ known.
    let ms = founds c.args.found.items in
    refused_is c.args.attempts c.args.name.now known c.refused.result c.in-Err.error (place_rest c.args.attempts c.args.name.now known ms) c.refused.ensures.refused c.refused.ensures.other
    (λ k. let said : linked c.args.name.now ms ≡ Err c.in-Err.error = elim c.place_of.ensures [ inl e ↦ sym e ∙ c.in-Err.is | inr e ↦ absurd (k (let z = sym c.in-Err.is ∙ e in cc)) ] in
    place_err c.args.attempts c.args.name.now known ms c.in-Err.error said)

pub returns : goal.returns
returns c = λ known.
    let ms = founds c.args.found.items in
    let said : linked c.args.name.now ms ≡ Ok c.in-Ok.place = elim c.place_of.ensures [ inl e ↦ sym e ∙ c.in-Ok.is | inr e ↦ absurd cc ] in
    sym (place_ok c.args.attempts c.in-Ok.place c.args.name.now known ms said)
