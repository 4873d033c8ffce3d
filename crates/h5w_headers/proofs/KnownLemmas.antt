-- The messages of a header that is written too.
use Rattle.std.proofs.Common.{◌≡◌, ℕ, Bool, true, false, List, Result, Ok, Err, Option, Some, None, refl}
use Rattle.std.specs.Prelude.{MatchOption}
use Rattle.h5w_model.specs.Headers.{unknown_for_writing, unless_refused}
use Rattle.h5w_model.specs.declared.message.Msg.{Msg}
use Rattle.h5w_model.specs.declared.refusal.HeaderError.{HeaderError}
use Rattle.h5w_model.specs.declared.refusal.HeaderError.TheVariants.{Unknown}
use Rattle.h5w_headers.specs.Walks.{known_by}
use Rattle.h5w_dataset.specs.Listed.{Listed}
use Rattle.h5w_dataset.proofs.ListedLemmas.{known_listed}

pub known_by_listed : (limit : ℕ) (writes : Bool) (r : Result (List Msg) HeaderError) → Listed limit r → Listed limit (known_by writes r)
known_by_listed limit false r h = h
known_by_listed limit true (Ok ms) h = known_listed limit (unknown_for_writing ms) ms h
known_by_listed limit true (Err e) h = h

pub known_err : (writes : Bool) (e : HeaderError) → known_by writes (Err e) ≡ Err e
known_err true e = refl
known_err false e = refl

-- what a refusal for writing makes of messages
abbrev pub followed : List Msg → Result (Unit {0}) HeaderError → Result (List Msg) HeaderError
followed ms (Ok u) = Ok ms
followed ms (Err e) = Err e

by_option : (refused : Option ℕ) (ms : List Msg) (r : Result (Unit {0}) HeaderError) → MatchOption refused (r ≡ Ok tt) (λ kind. r ≡ Err (Unknown kind)) → unless_refused refused ms ≡ followed ms r
by_option None ms r h = rw h refl
by_option (Some kind) ms r h = rw h refl

pub known_said : (ms : List Msg) (r : Result (Unit {0}) HeaderError) → MatchOption (unknown_for_writing ms) (r ≡ Ok tt) (λ kind. r ≡ Err (Unknown kind)) → known_by true (Ok ms) ≡ followed ms r
known_said ms r h = by_option (unknown_for_writing ms) ms r h
