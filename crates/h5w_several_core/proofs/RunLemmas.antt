-- Lines that take a dataset into use, and events one after another.
use Rattle.std.proofs.Common.{◌≡◌, ℕ, ◌+◌, ◌-◌, ◌<◌, List, [], ◌∷◌, ◌++◌, length, Option, Some, None, refl, sym, ap, subst, arith}
use Rattle.std.specs.Prelude.{IfSome}
use Rattle.h5w_model.specs.Lawful.{Rules}
use Rattle.h5w_several_script_laws.specs.Scripts.{AllowedAll, FileLine, FileReply as ScriptReply, FileState, LawfulAll, next_all, uses, using}
use Rattle.h5w_several_world_laws.proofs.StepLemmas.{step_laws}
use Rattle.h5w_several_core.specs.Places.{place_at}
use Rattle.h5w_several_core.specs.Runs.{FileRuns, RunsLawfullyAll, UsesLawfully, file_after, lines_in, replies_in}
use Rattle.h5w_several_core.specs.Worlds.{FileSteps, HaveFileLog, IsUsedBy, SeveralView, line_of, reply_of, rules_of, set_in}
use Rattle.h5w_several_core.specs.declared.events.FileEvent.{FileEvent}
use Rattle.h5w_several_core.specs.declared.events.FileReply.{FileReply}
use Rattle.h5w_several_core.proofs.MachineLemmas.{reused}
use Rattle.h5w_several_core.proofs.RuleLemmas.{count_rules}

pub uses_lawfully : UsesLawfully
uses_lawfully w F i h some few =
    let count : length (rules_of w) ≡ length w.session.parts = count_rules w.session.places.limit w.attempts w.session.parts in
    let s = step_laws.used w.session w.attempts (place_at w.places) F i h.have (omega (arith, some)) (omega (arith, few, count)) in
    (s.allowed, reused w F (i - 1) h (omega (arith, some, few, count)))

-- ---- Events one after another

-- what is to be shown, for these rules
record Ends (gs : List Rules) (new : SeveralView) (lines : List FileLine) (replies : List ScriptReply) (F : FileState) : Type 0 where
  lawful : LawfulAll F lines replies
  fits : HaveFileLog new (file_after F lines replies)
  rules : rules_of new ≡ gs

-- one line more before them
one_more : (gs : List Rules) (new : SeveralView) (line : FileLine) (reply : ScriptReply) (lines : List FileLine) (replies : List ScriptReply) (F : FileState) → AllowedAll F line reply → Ends gs new lines replies (next_all F line reply)
    → Ends gs new (line ∷ lines) (reply ∷ replies) F
one_more gs new line reply lines replies F allowed e = record { lawful = (allowed, e.lawful); fits = e.fits; rules = e.rules }

-- an event's lines before them
event_more : (old next new : SeveralView) (event : FileEvent) (reply : FileReply) (lines : List FileLine) (replies : List ScriptReply) (o : Option ℕ) (F : FileState) → set_in event ≡ o → HaveFileLog old F
    → IfSome o (λ (d : ℕ). d < length (rules_of old)) → FileSteps old event (reply_of reply) next
    → ((G : FileState) → HaveFileLog next G → Ends (rules_of old) new lines replies G)
    → Ends (rules_of old) new
    (elim o as (λ _. List FileLine) [ None ↦ line_of event ∷ [] | Some d ↦ uses (d + 1) ∷ line_of event ∷ [] ] ++ lines)
    (elim o as (λ _. List ScriptReply) [ None ↦ reply_of reply ∷ [] | Some d ↦ using (d + 1) ∷ reply_of reply ∷ [] ] ++ replies) F
event_more old next new event reply lines replies None F is h inside steps rest =
    let used : IsUsedBy event F = subst (λ (p : Option ℕ). IfSome p (λ (d : ℕ). F.used ≡ d)) (sym is) tt in
    let s = steps.lawful F h used in
    one_more (rules_of old) new (line_of event) (reply_of reply) lines replies F s.0 (rest (next_all F (line_of event) (reply_of reply)) s.1)
event_more old next new event reply lines replies (Some d) F is h inside steps rest =
    let u = uses_lawfully old F (d + 1) h (omega arith) (omega (arith, inside)) in
    let G : FileState = record F { used = (d + 1) - 1 } in
    let here : (d + 1) - 1 ≡ d = omega arith in
    let used : IsUsedBy event G = subst (λ (p : Option ℕ). IfSome p (λ (e : ℕ). G.used ≡ e)) (sym is) here in
    let s = steps.lawful G u.1 used in
    one_more (rules_of old) new (uses (d + 1)) (using (d + 1)) (line_of event ∷ lines) (reply_of reply ∷ replies) F u.0
    (one_more (rules_of old) new (line_of event) (reply_of reply) lines replies G s.0 (rest (next_all G (line_of event) (reply_of reply)) s.1))

runs : (old new : SeveralView) (events : List FileEvent) (replies : List FileReply) (F : FileState) → HaveFileLog old F → FileRuns old events replies new → Ends (rules_of old) new (lines_in events) (replies_in events replies) F
runs old new [] [] F h is = record { lawful = tt; fits = subst (λ (w : SeveralView). HaveFileLog w F) (sym is) h; rules = ap rules_of is }
runs old new [] (reply ∷ replies) F h r = absurd r
runs old new (event ∷ events) [] F h r = absurd r
runs old new (event ∷ events) (reply ∷ replies) F h r =
    event_more old r.0 new event reply (lines_in events) (replies_in events replies) (set_in event) F refl h r.1 r.2
    (λ G fits. subst (λ (gs : List Rules). Ends gs new (lines_in events) (replies_in events replies) G) r.2.rules (runs r.0 new events replies G fits r.3))

pub runs_lawfully : RunsLawfullyAll
runs_lawfully old new events replies F h r = let e = runs old new events replies F h r in (e.lawful, e.fits, e.rules)
