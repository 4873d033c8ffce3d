-- A world of one dataset whose file another writer takes over.
use Rattle.std.proofs.Common.{ℕ, zero, suc, ◌≤◌, ◌≡◌, ◌∙◌, true, List, [], ◌∷◌, ◌++◌, length, Some, Result, Ok, Err, sym, ap, subst, arith}
use Rattle.std.specs.Prelude.{OnOk, slice_get}
use Rattle.h5w_model.specs.Lawful.{Rules, ScriptState}
use Rattle.h5w_input.specs.LinesAhead.{IsLine}
use Rattle.h5w_input.specs.declared.line.TextLine.{TextLine}
use Rattle.h5w_core.specs.Worlds.{HaveOneLog, WorldView, rules_of}
use Rattle.h5w_several_script_laws.specs.Alone.{alone}
use Rattle.h5w_several_script_laws.specs.Scripts.{FileState, AllowedAll, goes_on, next_all, settled_in, takes, took_over}
use Rattle.h5w_several_world_laws.proofs.StepLemmas.{match_yes}
use Rattle.h5w_several_core.specs.Worlds as machines
use Rattle.h5w_several_core.specs.Worlds.{HaveFileLog, SeveralView}
use Rattle.h5w_playing.specs.Machines.{GivesReply}
use Rattle.h5w_playing.specs.Ones.{FitsAlone, spelling_of}
use Rattle.h5w_playing.specs.Replies.{file_reply_text}
use Rattle.h5w_several_playing.specs.Alone.{AsksTakeover, FitsOne, IsStopped, TookOver}
use Rattle.h5w_several_playing.specs.Sets.{FitsAll, IsScript, ScriptView}
use Rattle.h5w_several_playing.specs.declared.alone.AloneScript.{AloneScript}
use Rattle.h5w_several_playing.specs.declared.alone.AloneScript.TheVariants.{Own, Taken}

-- ---- The machine of the writer that takes over

-- its one dataset is in use
pub one_script : (gs : List Rules) (columns : ℕ) → length gs ≡ 1 → 1 ≤ columns → ((h : Rules) → slice_get gs 0 ≡ Some h → columns ≡ h.cutting.columns) → IsScript gs 0 columns
one_script [] columns one some told = absurd (omega (arith, one))
one_script (g ∷ []) columns one some told = record {
  inside = omega arith;
  few = omega arith;
  some = some;
  each = each_one;
}
  where
    each_one : (d : ℕ) (h : Rules) → slice_get (g ∷ []) d ≡ Some h → h.cutting.columns ≡ columns
    each_one zero h at = sym (told h at)
    each_one (suc d) h at = absurd (cc)
one_script (g ∷ h ∷ gs) columns one some told = absurd (omega (arith, one))

-- the reply to a takeover, and what fits then
taken_lawful : (w : WorldView) (s : ScriptView) (rows : ℕ) → w.session.stopped ≡ true → ((q : ScriptState) → HaveOneLog w q → HaveFileLog s.world (settled_in (alone (rules_of w) q))) → ((q : ScriptState) → HaveOneLog w q → rows ≡ q.flushed) → s.used ≡ 0
    → (F : FileState) → FitsAlone w F → AllowedAll F takes (took_over (rows ∷ [])) × FitsAll s (next_all F takes (took_over (rows ∷ [])))
taken_lawful w s rows stopped fits count used F f =
    subst (λ (G : FileState). AllowedAll G takes (took_over (rows ∷ [])) × FitsAll s (settled_in G)) (sym f.is) (
      match_yes (took_over (rows ∷ []) ≡ took_over (f.script.flushed ∷ [])) (took_over (rows ∷ []) ≡ goes_on) f.script.stopped (f.fits.state.stopped ∙ stopped) (ap (λ (n : ℕ). took_over (n ∷ [])) (count f.script f.fits)),
      record { fits = fits f.script f.fits; used = sym used },
    )

pub took_alone : (w : WorldView) (x : SeveralView) (s : ScriptView) (rows : ℕ) (before after : List ℕ) → w.session.stopped ≡ true → ((q : ScriptState) → HaveOneLog w q → HaveFileLog x (settled_in (alone (rules_of w) q)))
    → ((q : ScriptState) → HaveOneLog w q → rows ≡ q.flushed) → machines.rules_of x ≡ rules_of w ∷ [] → s.world ≡ x → s.used ≡ 0 → ((g : Rules) → slice_get (machines.rules_of x) 0 ≡ Some g → s.columns ≡ g.cutting.columns)
    → after ≡ before ++ file_reply_text (took_over (rows ∷ [])) → TookOver (Own w) (Taken s) before after
took_alone w x s rows before after stopped fits count rules world used told text =
    let gs : machines.rules_of s.world ≡ rules_of w ∷ [] = ap machines.rules_of world ∙ rules in
    let columns : s.columns ≡ (rules_of w).cutting.columns = told (rules_of w) (ap (λ (hs : List Rules). slice_get hs 0) rules) in
    record {
      reply = took_over (rows ∷ []);
      lawful = taken_lawful w s rows stopped (λ q f. subst (λ (y : SeveralView). HaveFileLog y (settled_in (alone (rules_of w) q))) (sym world) (fits q f)) count used;
      spelling = ap (λ (c : ℕ). record { columns = c; sets = length (machines.rules_of s.world) }) columns ∙ ap (λ (hs : List Rules). record { columns = (rules_of w).cutting.columns; sets = length hs }) gs;
      text = text;
    }

-- the text of the reply was added, unless memory was refused
pub took_ended : {E : Type 0} (a : AloneScript) (w : WorldView) (x : SeveralView) (s : ScriptView) (rows : ℕ) (before after : List ℕ) (result : Result (Unit {0}) E) → a ≡ Own w → IsStopped a
    → ((q : ScriptState) → HaveOneLog w q → HaveFileLog x (settled_in (alone (rules_of w) q))) → ((q : ScriptState) → HaveOneLog w q → rows ≡ q.flushed) → machines.rules_of x ≡ rules_of w ∷ [] → s.world ≡ x → s.used ≡ 0
    → ((g : Rules) → slice_get (machines.rules_of x) 0 ≡ Some g → s.columns ≡ g.cutting.columns) → OnOk result (after ≡ before ++ file_reply_text (took_over (rows ∷ []))) → OnOk result (TookOver a (Taken s) before after)
took_ended a w x s rows before after (Ok done) own stopped fits count rules world used told text =
    subst (λ (b : AloneScript). TookOver b (Taken s) before after) (sym own) (took_alone w x s rows before after (subst IsStopped own stopped) fits count rules world used told text)
took_ended a w x s rows before after (Err e) own stopped fits count rules world used told text = tt

-- ---- The line

-- the line asked for it
pub taken_alone : (w v : WorldView) (s : AloneScript) (line : TextLine) (bytes : List ℕ) (before middle after : List ℕ) → AsksTakeover line w v before middle → IsLine line bytes → TookOver (Own v) s middle after
    → GivesReply (spelling_of w) bytes (FitsAlone w) (FitsOne s) before after
taken_alone w v s line bytes before middle after asks given took = record {
  line = takes;
  reply = took.reply;
  spelled = asks.spelled bytes given;
  lawful = λ F f. took.lawful F (subst (λ (u : WorldView). FitsAlone u F) (sym asks.same) f);
  text = took.text ∙ ap (λ (t : List ℕ). t ++ file_reply_text took.reply) asks.text;
}
