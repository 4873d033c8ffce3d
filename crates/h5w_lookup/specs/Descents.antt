-- What is left of a descent.
use Rattle.std.specs.Prelude.{ℕ, List, length, Option, Result}
use Rattle.std.specs.Global.{Box}
use Rattle.h5w_model.specs.Programs.{Prog, bind}
use Rattle.h5w_model.specs.Tables.{Reading}
use Rattle.h5w_model.specs.Calls.{CallRules, known_table}
use Rattle.h5w_model.specs.declared.refusal.ReadError.{ReadError}
use Rattle.h5w_dataset.specs.Described.{described_of}
use Rattle.h5w_lookup.specs.Indexes.{in_place_of}
use Rattle.h5w_lookup.specs.Gathering.{gathering}
use Rattle.h5w_lookup.specs.Outcomes.{outcome_left}
use Rattle.h5w_lookup.specs.Seeking.{wait_given}
use Rattle.h5w_lookup.specs.Slots.{slots_rest, after_found}
use Rattle.h5w_lookup.specs.Unknown.{needed_with}
use Rattle.h5w_lookup.specs.Stores.{kept}
use Rattle.h5w_lookup.specs.declared.news.News.{News}
use Rattle.h5w_lookup.specs.declared.descent.Descent.{Descent}
use Rattle.h5w_lookup.specs.declared.descent.Waiting.{Waiting}
use Rattle.h5w_lookup.specs.declared.outcome.Outcome.{Outcome}

-- a dataset by what was known of it, and the news
abbrev pub reading_news : Option Reading → News → Reading
reading_news known n =
    record { place = n.place; dataset = described_of n.dataset; table = needed_with (known_table known (described_of n.dataset)) (described_of n.dataset) n.found.items }

-- the addresses that are known of a descent's dataset
abbrev pub known_in : CallRules → Descent → List ℕ
known_in g s = known_table g.known (described_of s.dataset)

-- those with the ones that were found
abbrev pub found_in : CallRules → Descent → List ℕ → List ℕ
found_in g s found = needed_with (known_in g s) (described_of s.dataset) found

abbrev pub descent_rest : CallRules → Descent → Prog (Result Reading ReadError)
descent_rest g s = slots_rest g.place (known_in g s) (described_of s.dataset) (in_place_of s.index) (kept s.store) (length (found_in g s s.found.items)) (found_in g s s.found.items)

-- behind the address of its next chunk
abbrev pub after_next : CallRules → Descent → ℕ → Prog (Result Reading ReadError)
after_next g s a = after_found g.place (known_in g s) (described_of s.dataset) (in_place_of s.index) s.found.items a

abbrev pub waiting : CallRules → Waiting → Prog (Result Reading ReadError)
waiting g w = bind (gathering w.gather) (wait_given (kept w.descent.store) w.wait (after_next g w.descent))

abbrev pub descended : CallRules → Outcome News (Box Waiting) → Prog (Result Reading ReadError)
descended g d = outcome_left (reading_news g.known) (λ w. waiting g w.value) d
