-- Pieces of a creation, and behind them those of a session.
use Rattle.std.proofs.Common.{◌≡◌, ◌≢◌, ◌∙◌, ℕ, ◌<◌, ◌≤◌, List, [], ◌∷◌, length, Option, Some, None, refl, ap, sym, subst, arith}
use Rattle.std.specs.Prelude.{slice_get}
use Rattle.h5w_model.specs.Several.{FileLog, shows_all}
use Rattle.h5w_model.specs.declared.piece.Write.{Write}
use Rattle.h5w_several_writer.specs.Flows.{KeepsParts}
use Rattle.h5w_several_writer_laws.specs.Sessions.{AfterPieceOf, all_pending}
use Rattle.h5w_several_writer_laws.specs.Standing.{StandsAll, and_then}
use Rattle.h5w_handles.specs.Codes.{misuse, told}
use Rattle.h5w_handles.specs.declared.code.H5wCode.TheVariants as codes
use Rattle.h5w_handles.specs.declared.code.H5wTold.{H5wTold}
use Rattle.h5w_handles.specs.declared.several.SeveralState.{SeveralState}
use Rattle.h5w_writer_handles.specs.WriterCalls.{bytes_for, next_out, next_place, place_for}
use Rattle.h5w_several_handles.specs.SetCalls.{WrittenSet}
use Rattle.h5w_several_handles.specs.Sets.{pending_in, pending_of}
use Rattle.h5w_several_handles.proofs.ListLemmas.{empty_of}

-- none of the creation is left
pub none_left : (s : SeveralState) → length s.first.items ≡ 0 → pending_of s ≡ all_pending s.session.parts
unfolding pending_of
none_left s e = inner s.first.items e
  where
    inner : (us : List Write) → length us ≡ 0 → pending_in us (all_pending s.session.parts) ≡ all_pending s.session.parts
    inner [] e = refl
    inner (u ∷ us) e = absurd (omega (arith, e))

-- some are
pub some_left : (s : SeveralState) → 1 ≤ length s.first.items → pending_of s ≡ s.first.items
unfolding pending_of
some_left s some = inner s.first.items some
  where
    inner : (us : List Write) → 1 ≤ length us → pending_in us (all_pending s.session.parts) ≡ us
    inner [] some = absurd (omega (arith, some))
    inner (u ∷ us) some = refl

-- the session has none
pub idle_behind : (s : SeveralState) → all_pending s.session.parts ≡ [] → pending_of s ≡ s.first.items
unfolding pending_of
idle_behind s idle = inner s.first.items
  where
    inner : (us : List Write) → pending_in us (all_pending s.session.parts) ≡ us
    inner [] = idle
    inner (u ∷ us) = refl

-- ---- The oldest

-- the piece that there is, or else that one
abbrev write_or : Write → Option Write → Write
write_or w None = w
write_or w (Some v) = v

pub place_first : (ws : List Write) (w : Write) (room : ℕ) → Some w ≡ slice_get ws 0 → place_for w room ≡ next_place ws room
place_first [] w room is = absurd (cc)
place_first (v ∷ vs) w room is = ap (λ (x : Write). place_for x room) (ap (write_or w) is)

pub bytes_first : (ws : List Write) (w : Write) (out : List ℕ) → Some w ≡ slice_get ws 0 → bytes_for w out ≡ next_out ws out
bytes_first [] w out is = absurd (cc)
bytes_first (v ∷ vs) w out is = ap (λ (x : Write). bytes_for x out) (ap (write_or w) is)

-- nothing is pending
pub none_first : (ws : List Write) → None ≡ slice_get ws 0 → ws ≡ []
none_first [] is = refl
none_first (v ∷ vs) is = absurd (cc)

-- ---- A piece is written

abbrev Shown : SeveralState → SeveralState → Type 0
Shown s t = (w : Write) (ws : List Write) → all_pending s.session.parts ≡ w ∷ ws → AfterPieceOf w s.session t.session × (all_pending t.session.parts ≡ ws)

abbrev Stood : SeveralState → SeveralState → Type 0
Stood s t = (w : Write) (ws : List Write) → all_pending s.session.parts ≡ w ∷ ws → (log : FileLog) → StandsAll s.session log → StandsAll t.session (and_then (shows_all w) log)

-- one of the creation
pub written_first : (s t : SeveralState) (answer : H5wTold) → 1 ≤ length s.first.items → ((w : Write) (ws : List Write) → s.first.items ≡ w ∷ ws → t.first.items ≡ ws) → t.session ≡ s.session → answer ≡ told codes.Done 0 (length (pending_of t)) → WrittenSet s answer t
written_first s t answer some first session is =
    let left : s.first.items ≡ [] → ⊥ = λ e. let zero : length s.first.items ≡ 0 = ap length e in omega (arith, zero, some) in
    record {
      none = λ e. absurd (left (sym (some_left s some) ∙ e));
      told = λ more. is;
      created = λ w ws e. (first w ws e, session);
      first = λ e. absurd (left e);
      piece = λ w ws e pending. absurd (left e);
      parts = λ e more. absurd (left e);
      stands = λ w ws e pending log st. absurd (left e);
    }

-- none is pending
pub written_none : (s : SeveralState) (answer : H5wTold) → length s.first.items ≡ 0 → length (all_pending s.session.parts) ≡ 0 → answer ≡ misuse → WrittenSet s answer s
written_none s answer first idle is =
    let none : all_pending s.session.parts ≡ [] = empty_of (all_pending s.session.parts) idle in
    record {
      none = λ e. (is, refl);
      told = λ more. absurd (more (none_left s first ∙ none));
      created = λ w ws e. absurd (let many : length s.first.items ≡ length (w ∷ ws) = ap length e in omega (arith, many, first));
      first = λ e. refl;
      piece = λ w ws e pending. absurd (let many : length (all_pending s.session.parts) ≡ length (w ∷ ws) = ap length pending in omega (arith, many, idle));
      parts = λ e more. absurd (more none);
      stands = λ w ws e pending log st. absurd (let many : length (all_pending s.session.parts) ≡ length (w ∷ ws) = ap length pending in omega (arith, many, idle));
    }

-- one of the session
pub written_piece : (s t : SeveralState) (answer : H5wTold) → length s.first.items ≡ 0 → 1 ≤ length (all_pending s.session.parts) → t.first ≡ s.first → Shown s t → KeepsParts s.session t.session → Stood s t
    → answer ≡ told codes.Done 0 (length (pending_of t)) → WrittenSet s answer t
written_piece s t answer none some same shown keeps stood is = record {
  none = λ e. absurd (let zero : length (all_pending s.session.parts) ≡ 0 = ap length (sym (none_left s none) ∙ e) in omega (arith, zero, some));
  told = λ more. is;
  created = λ w ws e. absurd (let many : length s.first.items ≡ length (w ∷ ws) = ap length e in omega (arith, many, none));
  first = λ e. same;
  piece = λ w ws e pending. shown w ws pending;
  parts = λ e more. keeps;
  stands = λ w ws e pending log st. stood w ws pending log st;
}
