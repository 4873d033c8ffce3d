-- A created file of several datasets is taken over by each name, and so it is after whatever its session did.
use Rattle.std.proofs.Common.{◌≡◌, ℕ, suc, ◌≤◌, List, [], ◌∷◌, length, Some, Ok, Err, refl, sym, ap, ◌∙◌, subst, arith, length-append}
use Rattle.std.specs.Prelude.{slice_get, take}
use Rattle.std.specs.List.{AllByRecursion}
use Rattle.std.proofs.lemmas.List.{take-append-le, take_all}
use Rattle.h5w_model.specs.Findings.{Used}
use Rattle.h5w_model.specs.Images.{image}
use Rattle.h5w_model.specs.Several.{FileLog, pieces_in, shown_in}
use Rattle.h5w_model.specs.declared.piece.Write.{Write}
use Rattle.h5w_model.specs.declared.root.Super.{Super}
use Rattle.h5w_creation_laws.specs.CreatedFiles.{CreatedFile, IsCreatable}
use Rattle.h5w_several_creation_laws.specs.SeveralFiles.{AreCreatable, created_writes, end_behind, first_place, moment_at, names_of, root_ranges, super_of}
use Rattle.h5w_several_creation_laws.specs.SeveralLaws.{AreNewFiles, EachStands}
use Rattle.h5w_several_creation_laws.proofs.StandLaws.{several_stand}
use Rattle.h5w_writable_laws.specs.Writable.{EachWritable}
use Rattle.h5w_writable_laws.proofs.SeveralLemmas.{several_writable}
use Rattle.h5w_opening.specs.Errors.{refusal_of}
use Rattle.h5w_opening.specs.declared.error.OpenError.{OpenError}
use Rattle.h5w_writer.specs.Sessions.{Session}
use Rattle.h5w_several_writer_laws.specs.Sessions.{AreSessions, Sessions}
use Rattle.h5w_several_writer_laws.specs.Standing.{StandsAll}
use Rattle.h5w_several_writer_laws.specs.Together.{file_at}
use Rattle.h5w_several_writer_laws.specs.Valid.{names_in}
use Rattle.h5w_several_writer_laws.proofs.GiveLemmas.{standing_all}
use Rattle.h5w_several_writer_laws.proofs.SeenLemmas.{length_pieces}
use Rattle.h5w_several_open.specs.Taken.{IsNotTakenBy}
use Rattle.h5w_takeover_laws.specs.Created.{AnswersAll, IsCreatedFor}
use Rattle.h5w_takeover_laws.specs.Refused.{IsLeftOpen}
use Rattle.h5w_takeover_laws.proofs.AllRefusedLemmas.{CanTake, refuses_none}
use Rattle.h5w_takeover_laws.proofs.RefusedLemmas.{none_of}

-- ---- The created file

-- each dataset is there, and can be written
each_take : (img : List ℕ) (s : Super) (root : List Used) (place : ℕ) (fs : List CreatedFile) → AllByRecursion IsCreatable fs → EachStands img s root place fs → EachWritable img s root place fs → AllByRecursion (CanTake img) (names_of fs)
each_take img s root place [] is stand can = tt
each_take img s root place (f ∷ fs) is stand can =
    let one : IsCreatable f = is.0 in
    (record { moment = moment_at s root place f; file = stand.0; written = record { can = can.0; small = one.small }; some = one.some_columns }, each_take img s root (end_behind place f) fs is.1 stand.1 can.1)

created_take : (fs : List CreatedFile) → AreCreatable fs → AllByRecursion (CanTake (image [] (created_writes fs))) (names_of fs)
created_take fs h =
    let made : AreNewFiles 5 fs (image [] (created_writes fs)) = (several_stand fs h).created in
    each_take (image [] (created_writes fs)) (super_of 5 fs) (root_ranges fs) (first_place fs) fs h.each made.stands (several_writable fs h)

-- ---- Whatever its session did

same_names : (fs : List CreatedFile) (ss : List Session) → length fs ≡ length ss → ((d : ℕ) (f : CreatedFile) (s : Session) → slice_get fs d ≡ Some f → slice_get ss d ≡ Some s → s.name ≡ f.name) → names_in ss ≡ names_of fs
same_names [] [] same each = refl
same_names [] (s ∷ ss) same each = absurd (omega (arith, same))
same_names (f ∷ fs) [] same each = absurd (omega (arith, same))
same_names (f ∷ fs) (s ∷ ss) same each =
    let one : s.name ≡ f.name = each 0 f s refl refl in
    let rest = same_names fs ss (omega (arith, same)) (λ d g t set part. each (suc d) g t set part) in
    λ i. one i ∷ rest i

module _ (S : Sessions) (log : FileLog) (st : StandsAll S log) (are : AreSessions S) (x : IsCreatedFor S.parts log) (left : IsLeftOpen (image log.start (pieces_in log.events))) where
  abbrev ws : List Write
  ws = created_writes x.files

  abbrev last : ℕ
  last = shown_in log.events

  many : last ≡ length (pieces_in log.events)
  many = sym (length_pieces log.events)

  reached : log.first ≤ last
  reached = omega (arith, x.first, many, ap length x.pieces, length-append ws x.later)

  first_image : file_at log log.first ≡ image [] ws
  first_image =
      ap (λ (n : ℕ). image log.start (take n (pieces_in log.events))) x.first
      ∙ ap (λ (vs : List Write). image log.start (take (length ws) vs)) x.pieces
      ∙ ap (image log.start) (take-append-le (length ws) ws x.later (omega arith) ∙ take_all (length ws) ws (omega arith))
      ∙ ap (λ (i : List ℕ). image i ws) x.start

  last_image : file_at log last ≡ image log.start (pieces_in log.events)
  last_image = ap (image log.start) (take_all last (pieces_in log.events) (omega (arith, many)))

  each_first : AllByRecursion (CanTake (file_at log log.first)) (names_in S.parts)
  each_first =
      let names = same_names x.files S.parts (sym x.sets ∙ standing_all.sets S log st) x.names in
      subst (λ (ns : List (List ℕ)). AllByRecursion (CanTake (file_at log log.first)) ns) (sym names)
      (subst (λ (i : List ℕ). AllByRecursion (CanTake i) (names_of x.files)) (sym first_image) (created_take x.files x.are))

  never : (e : OpenError) → IsNotTakenBy (image log.start (pieces_in log.events)) (length (image log.start (pieces_in log.events))) (names_in S.parts) e → ⊥
  never e why =
      let none = ap length x.start in
      refuses_none S log last e st are reached (omega arith) each_first (omega (arith, none)) (subst IsLeftOpen (sym last_image) left)
      (subst (λ (i : List ℕ). IsNotTakenBy i (length i) (names_in S.parts) e) (sym last_image) why)

pub answers_all : AnswersAll
answers_all S log limit budget (Ok T) st are x left is = tt
answers_all S log limit budget (Err e) st are x left is =
    none_of (refusal_of e) (IsNotTakenBy (image log.start (pieces_in log.events)) (length (image log.start (pieces_in log.events))) (names_in S.parts)) is (λ f why. never S log st are x left f why)
