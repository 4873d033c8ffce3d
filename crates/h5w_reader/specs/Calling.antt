-- What is left of a reader's call for rows.
use Rattle.std.specs.Prelude.{ℕ, zero, suc, ◌-◌, List, [], nat_eq, if◌then◌else◌, Option, Some, None, Result, Ok, Err}
use Rattle.std.specs.Cmp.Lexicographic.{pointwise}
use Rattle.h5w_model.specs.Programs.{Prog, ret, bind, and_then, lowered}
use Rattle.h5w_model.specs.Headers.{header_view}
use Rattle.h5w_model.specs.Checked.{viewed}
use Rattle.h5w_model.specs.Datasets.{linked}
use Rattle.h5w_model.specs.Datasets as model
use Rattle.h5w_model.specs.Calls.{CallRules, cut_header, behind_header, confirmed, again, attempts_from, rows_call}
use Rattle.h5w_model.specs.Tables.{Reading}
use Rattle.h5w_model.specs.declared.refusal.LinkError.{LinkError}
use Rattle.h5w_model.specs.declared.refusal.LinkError.TheVariants as link_errors
use Rattle.h5w_model.specs.declared.refusal.ReadError.{ReadError}
use Rattle.h5w_model.specs.declared.refusal.ReadError.TheVariants as read_errors
use Rattle.h5w_reader.specs.Walking.{walking}
use Rattle.h5w_reader.specs.Opening.{opening}
use Rattle.h5w_lookup.specs.Attempts.{looking_up, described_rest, rules_of}
use Rattle.h5w_lookup.specs.Descents.{reading_news}
use Rattle.h5w_lookup.specs.Outcomes.{outcome_left}
use Rattle.h5w_lookup.specs.declared.news.News.{News}
use Rattle.h5w_lookup.specs.declared.outcome.Outcome.{Outcome}
use Rattle.h5w_reader.specs.declared.behind.Behind.{Behind}
use Rattle.h5w_reader.specs.declared.behind.Behind.TheVariants as behind_by
use Rattle.h5w_reader.specs.declared.stage.Stage.{Stage}
use Rattle.h5w_reader.specs.declared.stage.Stage.TheVariants as stages

-- ---- The dataset header's place

-- a link's refusal, unless memory was wanting
abbrev pub link_refusal : LinkError → ReadError
link_refusal link_errors.OutOfMemory = read_errors.OutOfMemory
link_refusal e = read_errors.Link e

-- given the messages of the root header
unfoldable pub place_rest : ℕ → List ℕ → Option Reading → List model.FoundMessage → Prog (Result Reading ReadError)
place_rest most name known ms = elim (linked name ms) [ Ok at ↦ rows_call (rules_of (record { attempts = most; place = at }) known) | Err e ↦ ret (Err e) ]

-- ---- Behind the dataset header

-- given what counts of a look at the dataset header
unfoldable pub behind_rest : CallRules → List ℕ → Prog (Result Reading ReadError)
behind_rest g v = lowered g.keeps [] (behind_header g v)

-- its messages are known
abbrev pub messages_rest : CallRules → Prog (Result (List model.FoundMessage) ReadError) → Prog (Result Reading ReadError)
messages_rest g p = and_then p (described_rest g)

abbrev pub behind_left : CallRules → Behind → Prog (Result Reading ReadError)
behind_left g (behind_by.Visit b) = messages_rest g (walking b)
behind_left g (behind_by.Lookup l) = looking_up g l

abbrev pub reached : CallRules → Outcome News Behind → Prog (Result Reading ReadError)
reached g r = outcome_left (reading_news g.known) (behind_left g) r

-- ---- Attempts

-- where the last look at the header is another than the first
abbrev pub differs : CallRules → ℕ → List ℕ → List ℕ → Prog (Result Reading ReadError)
differs g zero v w = ret (Err (again g v w))
differs g (suc more) v w = attempts_from g more w

-- from what counts of an attempt's first look on
unfoldable pub attempt_rest : CallRules → ℕ → List ℕ → Prog (Result Reading ReadError)
attempt_rest g more v = attempts_from g more v

-- from an attempt's last look on
unfoldable pub confirm_rest : CallRules → ℕ → List ℕ → Result Reading ReadError → Prog (Result Reading ReadError)
confirm_rest g more v answer = confirmed g v (differs g more v) answer

-- given what counts of that look
unfoldable pub confirm_given : CallRules → ℕ → List ℕ → Result Reading ReadError → List ℕ → Prog (Result Reading ReadError)
confirm_given g more v answer w =
    elim (cut_header g.place w) [
      | Some e ↦ ret (Err e)
      | None ↦ (if pointwise nat_eq w v then ret answer else differs g more v w)
    ]

-- from the first look at the dataset header on
unfoldable pub rows_rest : CallRules → Prog (Result Reading ReadError)
rows_rest g = rows_call g

-- given that look
unfoldable pub rows_given : CallRules → List ℕ → Prog (Result Reading ReadError)
rows_given g b = attempt_rest g (g.attempts - 1) (header_view b)

-- of a call that knows this
abbrev pub stage_left : ℕ → List ℕ → Option Reading → Stage → Prog (Result Reading ReadError)
stage_left most name known (stages.Open o) = and_then (opening o) (place_rest most name known)
stage_left most name known (stages.Header r) = rows_rest (rules_of r known)
stage_left most name known (stages.Behind a b) = bind (behind_left (rules_of a.rules known) b) (confirm_rest (rules_of a.rules known) a.more a.view)
stage_left most name known (stages.Confirm a r) = confirm_rest (rules_of a.rules known) a.more a.view (viewed (reading_news known) r)

abbrev pub came : ℕ → List ℕ → Option Reading → Outcome News Stage → Prog (Result Reading ReadError)
came most name known c = outcome_left (reading_news known) (stage_left most name known) c
