-- The lines of one reader of a run.
use Rattle.std.proofs.Common.{◌≡◌, ℕ, ◌+◌, ◌≤◌, List, [], ◌∷◌, length, Option, None, arith}
use Rattle.std.specs.Prelude.{ℤ, pos}
use Rattle.h5w_model.specs.Agrees.{ReaderAgrees, Run}
use Rattle.h5w_model.specs.Logs.{Log, hist}
use Rattle.h5w_model.specs.Tables.{Reading}
use Rattle.h5w_model.specs.Unfinished.{ReaderRules}
use Rattle.h5w_model.specs.declared.piece.Write.{Write}
use Rattle.h5w_model.specs.declared.report.PollLine.{PollLine}
use Rattle.h5w_reader.specs.Readers.{reader_rules}
use Rattle.h5w_creation_laws.specs.CreatedFiles.{CreatedFile, created_writes}
use Rattle.h5w_shared.specs.Turns.{StartsWith}
use Rattle.h5w_shared.proofs.Beginnings.{starts_length}
use Rattle.h5w_live_laws.specs.Laws.{IsRunOf}
use Rattle.h5w_live_laws.specs.Polls.{TellPolls, told_after}
use Rattle.h5w_live_laws.proofs.PollLemmas.{poll_laws, tell_starts}
use Rattle.h5w_live_reading.specs.Reading.{Polled}
use Rattle.h5w_live.specs.Reports.{EndBy, TellsSeat}

-- behind fewer pieces
agrees_behind : (run : Run) (reader call a b seen : ℕ) (lines : List PollLine) → a ≤ b → ReaderAgrees run reader call b seen lines → ReaderAgrees run reader call a seen lines
agrees_behind run reader call a b seen [] low h = tt
agrees_behind run reader call a b seen (line ∷ lines) low h =
    (record { reader_is = h.0.reader_is; call_is = h.0.call_is; later = omega (arith, low, h.0.later); ends = h.0.ends; answer = h.0.answer }, h.1)

-- all calls of a reader that began once the creation was visible
pub reader_agrees : (g : ReaderRules) (log : Log) (run : Run) (reader : ℕ) (before after : List Write) (lines : List PollLine) → IsRunOf g log run → log.first ≡ run.first → run.first ≤ length before
    → StartsWith (hist log.events) after → Polled g log.start reader before after lines → ReaderAgrees run reader 1 run.first 0 lines
reader_agrees g log run reader before after lines is first some starts p =
    agrees_behind run reader 1 run.first (length before) 0 lines some (poll_laws.agree g log run reader before after lines p.next is (omega (arith, first, some)) starts p.tell)

-- no call ended behind what its seat had seen in the end
ends_by : (g : ReaderRules) (start : List ℕ) (reader call : ℕ) (known : Option Reading) (told : ℤ) (before : List Write) (lines : List PollLine) (next : Option Reading) (after : List Write) (most : ℕ) → length after ≤ most
    → TellPolls g start reader call known told before lines next after → EndBy most lines
ends_by g start reader call known told before [] next after most low h = tt
ends_by g start reader call known told before (line ∷ lines) next after most low h =
    let longer = starts_length after h.1 (tell_starts g start reader (call + 1) h.0 (told_after told line.answer) h.1 lines next after h.3) in
    (omega (arith, h.2.after_is, longer, low), ends_by g start reader (call + 1) h.0 (told_after told line.answer) h.1 lines next after most low h.3)

pub tells_seat : (f : CreatedFile) (attempts reader : ℕ) (pieces seen : List Write) (lines : List PollLine) → StartsWith pieces seen → Polled (reader_rules f.name attempts) [] reader (created_writes f) seen lines
    → TellsSeat f attempts reader pieces lines
tells_seat f attempts reader pieces seen lines begins polled = record {
  seen = seen;
  begins = begins;
  polled = polled;
  within = ends_by (reader_rules f.name attempts) [] reader 1 None (pos 0) (created_writes f) lines polled.next seen (length pieces) (starts_length pieces seen begins) polled.tell;
}
