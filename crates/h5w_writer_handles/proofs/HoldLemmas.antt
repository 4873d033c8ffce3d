-- What a handle holds behind the calls that begin a writer.
use Rattle.std.proofs.Common.{◌≡◌, ◌∙◌, ℕ, ◌<◌, ◌^◌, true, List, [], length, ℤ, Option, Some, None, Result, Ok, Err, ap, refl, sym, subst, inl, inr, arith}
use Rattle.std.specs.Prelude.{IfOk, IfErr}
use Rattle.h5w_model.specs.Causes.{Rose}
use Rattle.h5w_model.specs.Findings.{Summary, Valid}
use Rattle.h5w_model.specs.Tables.{Reads}
use Rattle.h5w_options.specs.Options.{AreOptions}
use Rattle.h5w_options.specs.declared.options.Options.{Options}
use Rattle.h5w_creation_laws.specs.CreatedFiles.{created_log}
use Rattle.h5w_image.specs.View.{ImageView}
use Rattle.h5w_looks.specs.Still.{IsStill}
use Rattle.h5w_opening.specs.Errors.{IsOpenKind}
use Rattle.h5w_opening.specs.declared.error.OpenError.{OpenError}
use Rattle.h5w_opening.specs.declared.error.OpenError.TheVariants as failing
use Rattle.h5w_writer.specs.Creations.{IsCreated}
use Rattle.h5w_creation.specs.NewFiles.{new_file}
use Rattle.h5w_writer.specs.Openings.{opened_log}
use Rattle.h5w_writer.specs.Sessions.{Session}
use Rattle.h5w_writer.specs.Stands.{Stands}
use Rattle.h5w_writer_open.specs.OpenAnswers.{HasBegun, IsOpenAnswer}
use Rattle.h5w_handles.specs.Codes.{told}
use Rattle.h5w_handles.specs.Handles.{has_writer}
use Rattle.h5w_handles.specs.declared.code.H5wCode.TheVariants as codes
use Rattle.h5w_handles.specs.declared.code.H5wTold.{H5wTold}
use Rattle.h5w_handles.specs.declared.held.Held.{Held}
use Rattle.h5w_handles.specs.declared.held.Held.TheVariants.{Reader, Several, Writer}
use Rattle.h5w_writer_handles.specs.CreatedBy.{options_of}
use Rattle.h5w_writer_handles.specs.Handles.{CreatesWriter, Holds, IsNewWriter, IsOpened}
use Rattle.h5w_writer_handles.specs.declared.options.H5wOptions.{H5wOptions}

-- the session that is held, or else that one
abbrev session_in : Session → Option Held → Session
session_in s None = s
session_in s (Some (Reader r)) = s
session_in s (Some (Several r)) = s
session_in s (Some (Writer t)) = t

-- a session that was created by these options
pub new_writer : {E : Type 0} (name : List ℕ) (o : H5wOptions) (options : Options) (r : Result Session E) → options ≡ options_of name o → IfOk r (λ s. IsCreated (new_file options) options.limit s) → IfOk r (λ s. s.budget ≡ options.budget)
    → IfOk r (λ s. Stands s (created_log (new_file options))) → IfOk r (IsNewWriter name o)
new_writer name o options (Ok s) is session budget stands = record {
  session = subst (λ (p : Options). IsCreated (new_file p) p.limit s) is session;
  budget = subst (λ (p : Options). s.budget ≡ p.budget) is budget;
  stands = subst (λ (p : Options). Stands s (created_log (new_file p))) is stands;
}
new_writer name o options (Err e) is session budget stands = tt

pub creates : (name : List ℕ) (o : H5wOptions) (s : Session) (old : Option Held) (answer : H5wTold) (new : Option Held) → old ≡ None → AreOptions (options_of name o) → IsNewWriter name o s → Holds s answer new → CreatesWriter name o old answer new
creates name o s old answer new none are is (inl h) = record {
  taken = λ some. absurd (cc);
  bounds = λ e not. absurd (not are);
  either = λ e a. inl (ap has_writer h.1);
  created = λ e t held. let same : s ≡ t = ap (session_in s) (sym h.1 ∙ held) in (subst (λ (u : Session). answer ≡ told codes.Done 0 (length u.pending)) same h.0, subst (λ (u : Session). IsNewWriter name o u) same is);
  refused = λ e. let code : 0 ≡ 6 = ap (λ (x : H5wTold). x.code) (sym h.0 ∙ e) in absurd (omega (arith, code));
}
creates name o s old answer new none are is (inr h) = record {
  taken = λ some. absurd (cc);
  bounds = λ e not. absurd (not are);
  either = λ e a. inr h.0;
  created = λ e t held. absurd (cc);
  refused = λ e. h.1;
}

-- ---- A file that is given whole

-- what it tells
abbrev pub given : List ℕ → ImageView
given bytes = record { bytes = Some bytes; history = None; disk = None; alone = true; faults = 0; through = []; pieces = 0; end = 0 }

abbrev OpensLog : (bytes name : List ℕ) → Session → Type 0
OpensLog bytes name s = (img : List ℕ) (rows columns : ℕ) (values : List ℤ) (sm : Summary) → IsStill (given bytes) img → Valid img name sm → Reads img name rows columns values → Stands s (opened_log img columns values)

pub is_opened : (bytes name : List ℕ) (limit budget : ℕ) (r : Result Session OpenError) → length bytes < 2 ^ 64 → ((img : List ℕ) → IsStill (given bytes) img → IsOpenAnswer img (length bytes) name limit budget r) → IfErr r IsOpenKind → (r ≡ Err failing.Failed → Rose 0 0)
    → IfOk r (HasBegun name limit budget) → IfOk r (OpensLog bytes name) → IsOpened bytes name limit budget r
is_opened bytes name limit budget r short exact kinds cause begun stands =
    let still : IsStill (given bytes) bytes = record { told = refl; alone = refl; short = short } in
    record {
      exact = exact bytes still;
      kinds = kinds;
      never = λ e. let rose = cause e in absurd (omega (arith, rose));
      begun = begun;
      stands = inner r stands still;
    }
  where
    inner : (r : Result Session OpenError) → IfOk r (OpensLog bytes name) → IsStill (given bytes) bytes
        → IfOk r (λ s. (rows columns : ℕ) (values : List ℤ) (sm : Summary) → Valid bytes name sm → Reads bytes name rows columns values → Stands s (opened_log bytes columns values))
    inner (Ok s) f still = λ rows columns values sm valid reads. f bytes rows columns values sm still valid reads
    inner (Err e) f still = tt
