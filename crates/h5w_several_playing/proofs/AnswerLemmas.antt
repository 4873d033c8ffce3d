-- What a line asks of a machine of several datasets, and what it is answered.
use Rattle.std.proofs.Common.{ℕ, ◌+◌, ◌-◌, ◌*◌, ◌<◌, ◌≡◌, ◌∙◌, List, ◌++◌, length, Some, Result, Ok, Err, sym, ap, subst, arith}
use Rattle.std.specs.Prelude.{IfOk, OnOk}
use Rattle.h5w_model.specs.Lawful.{Line, Rules, adds, ends, flushes, looks, opens, reads, refreshes, shows_up_to}
use Rattle.h5w_input.specs.LinesAhead.{IsLine}
use Rattle.h5w_input.specs.declared.line.TextLine.{TextLine}
use Rattle.h5w_input.specs.declared.line.TextLine.TheVariants.{Whole}
use Rattle.h5w_several_script_laws.specs.Scripts.{FileLine, FileState, AllowedAll, asks, next_all, takes, uses, using}
use Rattle.h5w_several_core.specs.Worlds.{HaveFileLog, IsUsedBy, SeveralView, line_of, reply_of, rules_of}
use Rattle.h5w_several_core.specs.declared.events.FileEvent.{FileEvent}
use Rattle.h5w_several_core.specs.declared.events.FileReply.{FileReply}
use Rattle.h5w_several_core.proofs.RunLemmas.{uses_lawfully}
use Rattle.h5w_playing.specs.Answers.{InRange}
use Rattle.h5w_playing.specs.Lines.{file_line_of}
use Rattle.h5w_playing.specs.Machines.{GivesReply}
use Rattle.h5w_playing.specs.Replies.{file_reply_text}
use Rattle.h5w_playing.proofs.LineLemmas.{asked_line}
use Rattle.h5w_playing.proofs.RangeLemmas.{in_range}
use Rattle.h5w_several_playing.specs.Sets.{AnswersIn, FitsAll, IsHeardBy, IsScript, SaysIn, ScriptView, TakesIn, spelling_in}

-- the machine, the dataset in use and the columns as one value
abbrev pub script_of : SeveralView → (used columns : ℕ) → ScriptView
script_of world used columns = record { world = world; used = used; columns = columns }

-- the rules stay, and so does what holds of the machine
pub script_stays : (gs hs : List Rules) (used columns : ℕ) → hs ≡ gs → IsScript gs used columns → IsScript hs used columns
script_stays gs hs used columns same h = subst (λ (rules : List Rules). IsScript rules used columns) (sym same) h

-- ---- A line

-- values of whole rows are rows of the dataset in use, and so on
pub heard : (gs : List Rules) (used columns : ℕ) (line : Line) → IsScript gs used columns → InRange columns line → IsHeardBy gs used line
heard gs used columns (adds values) h rows = record {
  inside = h.inside;
  rows = λ g at. (rows.0, rows.1 ∙ ap (λ (c : ℕ). rows.0 * c) (sym (h.each used g at)));
}
heard gs used columns flushes h range = tt
heard gs used columns (shows_up_to k) h range = tt
heard gs used columns ends h range = tt
heard gs used columns (opens r) h range = (range.1, h.inside)
heard gs used columns (refreshes r) h range = range.1
heard gs used columns (reads r from count) h range = range.1
heard gs used columns (looks r k) h range = (range.1, range.2)

-- by the value of the machine
pub heard_in : (world : SeveralView) (used columns : ℕ) (s : ScriptView) (line : Line) → script_of world used columns ≡ s → IsScript (rules_of world) used columns → InRange s.columns line → IsHeardBy (rules_of world) used line
heard_in world used columns s line view h range = heard (rules_of world) used columns line h (subst (λ (v : ScriptView). InRange v.columns line) (sym view) range)

-- an event of the machine is asked
pub stepped : {E : Type 0} (used : ℕ) (old new : SeveralView) (event : FileEvent) (line : Line) (result : Result FileReply E) → line_of event ≡ asks line → rules_of new ≡ rules_of old → ((F : FileState) → F.used ≡ used → IsUsedBy event F)
    → IfOk result (λ reply. (F : FileState) → HaveFileLog old F → IsUsedBy event F → AllowedAll F (line_of event) (reply_of reply) × HaveFileLog new (next_all F (line_of event) (reply_of reply)))
    → IfOk result (λ reply. AnswersIn used old line (reply_of reply) new)
stepped used old new event line (Ok reply) asked same used_by lawful = record {
  rules = same;
  lawful = λ F f u. subst (λ (l : FileLine). AllowedAll F l (reply_of reply) × HaveFileLog new (next_all F l (reply_of reply))) asked (lawful F f (used_by F u));
}
stepped used old new event line (Err e) asked same used_by lawful = tt

-- a line was given a reply, and its text was added
pub said : {E : Type 0} (world new : SeveralView) (used columns : ℕ) (s : ScriptView) (line : Line) (reply : FileReply) (before after : List ℕ) (result : Result (Unit {0}) E) → script_of world used columns ≡ s
    → AnswersIn used world line (reply_of reply) new → OnOk result (after ≡ before ++ file_reply_text (reply_of reply)) → OnOk result (SaysIn s line (script_of new used columns) before after)
said world new used columns s line reply before after (Ok done) view answers text = record {
  reply = reply_of reply;
  answers = subst (λ (v : ScriptView). AnswersIn v.used v.world line (reply_of reply) new) view answers;
  used = ap (λ (v : ScriptView). v.used) view;
  columns = ap (λ (v : ScriptView). v.columns) view;
  text = text;
}
said world new used columns s line reply before after (Err e) view answers text = tt

-- another writer takes the file over, and the text of the reply was added
pub taken : {E : Type 0} (world new : SeveralView) (used columns : ℕ) (s : ScriptView) (reply : FileReply) (before after : List ℕ) (result : Result (Unit {0}) E) → script_of world used columns ≡ s
    → ((F : FileState) → HaveFileLog world F → Unit {0} → AllowedAll F takes (reply_of reply) × HaveFileLog new (next_all F takes (reply_of reply))) → OnOk result (after ≡ before ++ file_reply_text (reply_of reply))
    → OnOk result (TakesIn s (script_of new used columns) before after)
taken world new used columns s reply before after (Ok done) view lawful text = record {
  reply = reply_of reply;
  lawful = λ F f. lawful F (subst (λ (v : ScriptView). HaveFileLog v.world F) (sym view) f) tt;
  used = ap (λ (v : ScriptView). v.used) view;
  text = text;
}
taken world new used columns s reply before after (Err e) view lawful text = tt

-- ---- What was read

module _ (world : SeveralView) (used columns : ℕ) (s : ScriptView) (view : script_of world used columns ≡ s) (sets : ℕ) (count : sets ≡ length (rules_of world)) where
  -- the line that was read is spelled so
  pub spelled_as : (own : List ℕ) (l : FileLine) → file_line_of (record { columns = columns; sets = sets }) own ≡ Some l → file_line_of (spelling_in s) own ≡ Some l
  spelled_as own l means =
      subst (λ (v : ScriptView). file_line_of (spelling_in v) own ≡ Some l) view (subst (λ (n : ℕ). file_line_of (record { columns = columns; sets = n }) own ≡ Some l) count means)

  pub spelled_here : (line : TextLine) (own bytes : List ℕ) (l : FileLine) → line ≡ Whole own → file_line_of (record { columns = columns; sets = sets }) own ≡ Some l → IsLine line bytes → file_line_of (spelling_in s) bytes ≡ Some l
  spelled_here line own bytes l is means given =
      let same : own ≡ bytes = (subst (λ (t : TextLine). IsLine t bytes) is given).0 in
      subst (λ (b : List ℕ). file_line_of (spelling_in s) b ≡ Some l) same (spelled_as own l means)

  -- its numbers are in range
  pub range_here : (own : List ℕ) (l : Line) → IsScript (rules_of world) used columns → file_line_of (record { columns = columns; sets = sets }) own ≡ Some (asks l) → InRange s.columns l
  range_here own l h means =
      subst (λ (v : ScriptView). InRange v.columns l) view (in_range columns h.some own l (asked_line (record { columns = columns; sets = sets }) own l means))

  -- the dataset that it names is there
  pub inside_here : (d : ℕ) → d < sets → d < length (rules_of s.world)
  inside_here d low = subst (λ (v : ScriptView). d < length (rules_of v.world)) view (omega (arith, low, count))

pub using_in : (old new : ScriptView) (bytes : List ℕ) (d : ℕ) (before after : List ℕ) → file_line_of (spelling_in old) bytes ≡ Some (uses (d + 1)) → d < length (rules_of old.world) → new.world ≡ old.world → new.used ≡ d → after ≡ before ++ file_reply_text (using (d + 1))
    → GivesReply (spelling_in old) bytes (FitsAll old) (FitsAll new) before after
using_in old new bytes d before after spelled inside world used text = record {
  line = uses (d + 1);
  reply = using (d + 1);
  spelled = spelled;
  lawful = λ F f.
      let u = uses_lawfully old.world F (d + 1) f.fits (omega arith) (omega (arith, inside)) in
      let one : (d + 1) - 1 ≡ d = omega arith in
      (u.0, record { fits = subst (λ (w : SeveralView). HaveFileLog w (record F { used = (d + 1) - 1 })) (sym world) u.1; used = one ∙ sym used });
  text = text;
}
