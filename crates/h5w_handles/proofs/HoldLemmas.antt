-- What a handle holds behind the call that begins a reader.
use Rattle.std.proofs.Common.{◌≡◌, ◌∙◌, ℕ, true, List, Option, Some, None, ap, sym, subst, inl, inr, arith}
use Rattle.h5w_handles.specs.Handles.{HoldsReader, OpensReader, are_attempts, has_reader}
use Rattle.h5w_handles.specs.ReaderCalls.{IsNewReader}
use Rattle.h5w_handles.specs.declared.code.H5wTold.{H5wTold}
use Rattle.h5w_handles.specs.declared.held.Held.{Held}
use Rattle.h5w_handles.specs.declared.held.Held.TheVariants.{Reader, Several, Writer}
use Rattle.h5w_handles.specs.declared.reader.ReaderState.{ReaderState}

-- the reader that is held, or else that one
abbrev reader_in : ReaderState → Option Held → ReaderState
reader_in s None = s
reader_in s (Some (Reader t)) = t
reader_in s (Some (Writer t)) = s
reader_in s (Some (Several t)) = s

pub opens_reader : (name : List ℕ) (attempts : ℕ) (s : ReaderState) (old : Option Held) (answer : H5wTold) (new : Option Held) → old ≡ None → are_attempts attempts ≡ true → IsNewReader name attempts s → HoldsReader s answer new
    → OpensReader name attempts old answer new
opens_reader name attempts s old answer new none are is (inl h) = record {
  taken = λ some. absurd (cc);
  bounds = λ e not. absurd (cc);
  either = λ e a. inl h.0;
  begun = λ e. ap has_reader h.1;
  is_new = λ e t held. subst (λ (u : ReaderState). IsNewReader name attempts u) (ap (reader_in s) (sym h.1 ∙ held)) is;
  refused = λ e. let code : 1 ≡ 6 = ap (λ (x : H5wTold). x.code) (sym h.0 ∙ e) in absurd (omega (arith, code));
}
opens_reader name attempts s old answer new none are is (inr h) = record {
  taken = λ some. absurd (cc);
  bounds = λ e not. absurd (cc);
  either = λ e a. inr h.0;
  begun = λ e. let code : 6 ≡ 1 = ap (λ (x : H5wTold). x.code) (sym h.0 ∙ e) in absurd (omega (arith, code));
  is_new = λ e t held. absurd (cc);
  refused = λ e. h.1;
}
