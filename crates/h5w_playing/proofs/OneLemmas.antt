-- A world of one dataset answers lines as the script of a file with one dataset.
use Rattle.std.proofs.Common.{ℕ, ◌+◌, ◌-◌, ◌<◌, ◌≡◌, ◌∙◌, List, [], ◌∷◌, ◌++◌, Some, refl, ap, subst, sym, arith, append_assoc, append-nil}
use Rattle.std.specs.Prelude.{codes}
use Rattle.h5w_model.specs.Lawful.{Line, Rules, next_state}
use Rattle.h5w_model.specs.declared.reply.Reply.{Reply}
use Rattle.h5w_model.specs.declared.reply.Reply.TheVariants.{Appended, Flushing, Written, Busy, Stopped, OutOfRange, FullChunks, FullSpace, Deep, Opening, Refreshing, Reading, Rows, Values, Again, Looking, Idle, ReaderBusy, NoReader, ReaderExists, OutOfRows}
use Rattle.h5w_text.specs.Replies.{reply_text, spaced}
use Rattle.h5w_input.specs.LinesAhead.{IsLine}
use Rattle.h5w_input.specs.declared.line.TextLine.{TextLine}
use Rattle.h5w_input.specs.declared.line.TextLine.TheVariants.{Whole}
use Rattle.h5w_core.specs.Worlds.{WorldView, rules_of}
use Rattle.h5w_several_script_laws.specs.Alone.{alone, of_one}
use Rattle.h5w_several_script_laws.specs.Scripts.{FileLine, FileReply, FileState, AllowedAll, asks, next_all, uses, using}
use Rattle.h5w_several_script_laws.proofs.AloneLemmas.{one_dataset_laws}
use Rattle.h5w_playing.specs.Answers.{Answers}
use Rattle.h5w_playing.specs.Lines.{file_line_of}
use Rattle.h5w_playing.specs.Machines.{GivesReply}
use Rattle.h5w_playing.specs.Ones.{FitsAlone, Says, spelling_of}
use Rattle.h5w_playing.specs.Replies.{file_reply_text}

-- ---- Texts

-- a reply to one dataset has the same text
one_text : (r : Reply) → file_reply_text (of_one r) ≡ reply_text r
one_text (Appended rows pending) = refl
one_text (Flushing pieces) = ap (λ (t : List ℕ). codes "flushing" ++ (t ++ 10 ∷ [])) (append-nil (spaced pieces)) ∙ sym (append_assoc (codes "flushing") (spaced pieces) (10 ∷ []))
one_text (Written pieces pending) = refl
one_text (Busy pending) = refl
one_text Stopped = refl
one_text (OutOfRange index value) = refl
one_text (FullChunks chunks limit) = refl
one_text (FullSpace at size limit) = refl
one_text Deep = refl
one_text (Opening reader) = refl
one_text (Refreshing reader) = refl
one_text (Reading reader) = refl
one_text (Rows reader rows) = refl
one_text (Values reader values) = refl
one_text (Again reader attempts) = refl
one_text (Looking reader) = refl
one_text (Idle reader) = refl
one_text (ReaderBusy reader) = refl
one_text (NoReader reader) = refl
one_text (ReaderExists reader) = refl
one_text (OutOfRows reader from count rows) = refl

-- ---- Lines

abbrev Stepped : WorldView → FileState → FileLine → FileReply → Type 0
Stepped new F line reply = AllowedAll F line reply × FitsAlone new (next_all F line reply)

answers_alone : (old new : WorldView) (line : Line) (reply : Reply) → Answers old line reply new → (F : FileState) → FitsAlone old F → Stepped new F (asks line) (of_one reply)
answers_alone old new line reply a F f =
    let g = rules_of old in
    let s = a.lawful f.script f.fits in
    subst (λ (G : FileState). Stepped new G (asks line) (of_one reply)) (sym f.is) (
      one_dataset_laws.allowed g f.script line reply s.0,
      record {
        script = next_state g f.script line reply;
        is = one_dataset_laws.next g f.script line reply ∙ ap (λ (h : Rules). alone h (next_state g f.script line reply)) (sym a.rules);
        fits = s.1;
      },
    )

-- the one dataset is in use, and stays so
used_alone : (w : WorldView) (i : ℕ) → i ≡ 1 → (F : FileState) → FitsAlone w F → Stepped w F (uses i) (using i)
used_alone w i one F f =
    let none : 1 - 1 ≡ 0 = omega arith in
    let same : next_all (alone (rules_of w) f.script) (uses 1) (using 1) ≡ alone (rules_of w) f.script = ap (λ (n : ℕ). record (alone (rules_of w) f.script) { used = n }) none in
    subst (λ (n : ℕ). Stepped w F (uses n) (using n)) (sym one)
    (subst (λ (G : FileState). Stepped w G (uses 1) (using 1)) (sym f.is) ((omega arith, omega arith, refl), record { script = f.script; is = same; fits = f.fits }))

-- ---- Replies

-- the line that was read is spelled so
pub spelled_alone : (w : WorldView) (line : TextLine) (own bytes : List ℕ) (columns : ℕ) (l : FileLine) → line ≡ Whole own → columns ≡ (rules_of w).cutting.columns → file_line_of (record { columns = columns; sets = 1 }) own ≡ Some l → IsLine line bytes
    → file_line_of (spelling_of w) bytes ≡ Some l
spelled_alone w line own bytes columns l is value means given =
    let same : own ≡ bytes = (subst (λ (t : TextLine). IsLine t bytes) is given).0 in
    subst (λ (b : List ℕ). file_line_of (spelling_of w) b ≡ Some l) same (subst (λ (n : ℕ). file_line_of (record { columns = n; sets = 1 }) own ≡ Some l) value means)

pub asked_alone : (old new : WorldView) (bytes : List ℕ) (line : Line) (before after : List ℕ) → file_line_of (spelling_of old) bytes ≡ Some (asks line) → Says old line new before after
    → GivesReply (spelling_of old) bytes (FitsAlone old) (FitsAlone new) before after
asked_alone old new bytes line before after spelled says = record {
  line = asks line;
  reply = of_one says.reply;
  spelled = spelled;
  lawful = answers_alone old new line says.reply says.answers;
  text = says.text ∙ ap (λ (t : List ℕ). before ++ t) (sym (one_text says.reply));
}

pub using_alone : (w : WorldView) (bytes : List ℕ) (d : ℕ) (before after : List ℕ) → file_line_of (spelling_of w) bytes ≡ Some (uses (d + 1)) → d < 1 → after ≡ before ++ file_reply_text (using (d + 1))
    → GivesReply (spelling_of w) bytes (FitsAlone w) (FitsAlone w) before after
using_alone w bytes d before after spelled low text = record {
  line = uses (d + 1);
  reply = using (d + 1);
  spelled = spelled;
  lawful = used_alone w (d + 1) (omega (arith, low));
  text = text;
}
