-- Events one after another.
use Rattle.std.proofs.Common.{◌≡◌, List, [], ◌∷◌, map, sym, ap, subst}
use Rattle.h5w_model.specs.Lawful.{Rules, ScriptState, Lawful, line_of, next_state}
use Rattle.h5w_model.specs.declared.event.Event.{Event}
use Rattle.h5w_model.specs.declared.reply.Reply.{Reply}
use Rattle.h5w_core.specs.Worlds.{WorldView, HaveOneLog, rules_of}
use Rattle.h5w_core.specs.Runs.{RunsLawfully, state_after}

-- what is to be shown, for the rules g
abbrev Ends : Rules → WorldView → List Event → List Reply → ScriptState → Type 0
Ends g new events replies s = Lawful g s (map line_of events) replies × HaveOneLog new (state_after g s (map line_of events) replies) × (rules_of new ≡ g)

pub runs_lawfully : RunsLawfully
runs_lawfully old new [] [] s fits is = (tt, subst (λ (w : WorldView). HaveOneLog w s) (sym is) fits, ap rules_of is)
runs_lawfully old new [] (reply ∷ replies) s fits runs = absurd runs
runs_lawfully old new (event ∷ events) [] s fits runs = absurd runs
runs_lawfully old new (event ∷ events) (reply ∷ replies) s fits runs =
    let g = rules_of old in
    let next = next_state g s (line_of event) reply in
    let done = runs.1.lawful s fits in
    let rest : Ends g new events replies next =
    subst (λ (h : Rules). Ends h new events replies next) runs.1.rules (runs_lawfully runs.0 new events replies next done.1 runs.2) in
    ((done.0, rest.0), rest.1, rest.2)
