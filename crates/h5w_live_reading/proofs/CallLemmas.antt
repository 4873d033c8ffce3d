-- A reader's call through its seat.
use Rattle.std.proofs.Common.{◌≡◌, ◌≢◌, ◌<◌, ℕ, List, [], ◌∷◌, ◌++◌, Option, Some, None, refl, sym, ap, ◌∙◌, subst, inl, inr, arith}
use Rattle.std.specs.Prelude.{IsSome, option_map}
use Rattle.std.proofs.lemmas.List.{map-append}
use Rattle.h5w_model.specs.Causes.{Rose}
use Rattle.h5w_model.specs.Asked.{left_after}
use Rattle.h5w_model.specs.Images.{image}
use Rattle.h5w_model.specs.Numbers.{range}
use Rattle.h5w_model.specs.Programs.{Look, IsLookAt}
use Rattle.h5w_model.specs.Unfinished.{Unfinished, Reader, fed_left, wanted, with_left}
use Rattle.h5w_model.specs.declared.piece.Write.{Write}
use Rattle.h5w_reader.specs.Readers.{StepTells}
use Rattle.h5w_reader.specs.declared.step.Step.{Step}
use Rattle.h5w_reader.specs.declared.step.Step.TheVariants as steps
use Rattle.h5w_reader.proofs.AskedLemmas.{left_more}
use Rattle.h5w_shared.specs.Seats.{ImageId, SeatView, bytes_of}
use Rattle.h5w_shared.specs.Threads.{Sight, Sights, seen_after}
use Rattle.h5w_shared.specs.Turns.{StartsWith}
use Rattle.h5w_live_laws.specs.Polls.{LooksThrough, looks_in}
use Rattle.h5w_live_reading.specs.Reading.{AnswersThrough}

-- ---- A look more

sights_more : (start : List ℕ) (from : List Write) (ss : List Sight) (s : Sight) → Sights start from ss → StartsWith s.seen (seen_after from ss) → IsLookAt (image start s.seen) s.look
    → Sights start from (ss ++ s ∷ []) × (s.seen ≡ seen_after from (ss ++ s ∷ []))
sights_more start from [] s h more is = ((more, is, tt), refl)
sights_more start from (t ∷ ss) s h more is =
    let rest = sights_more start t.seen ss s h.2 more is in
    ((h.0, h.1, rest.0), rest.1)

through_more : (start : List ℕ) (before now : List Write) (ss : List Sight) (s : Sight) → LooksThrough start before now ss → StartsWith s.seen now → IsLookAt (image start s.seen) s.look
    → LooksThrough start before s.seen (ss ++ s ∷ [])
through_more start before now ss s h more is =
    let all = sights_more start before ss s h.sights (subst (λ (l : List Write). StartsWith s.seen l) h.ends more) is in
    record { sights = all.0; ends = all.1 }

-- by what a reader was before, as only its call went on
told_since : (l m : Option Unfinished) (first old new : Reader) (step : Step) → step ≢ steps.More → l ≡ m → old ≡ with_left first old.left → StepTells l old step new → StepTells m first step new
told_since l m first old new steps.More more e same tells = absurd (more refl)
told_since l m first old new (steps.Rows n) more e same tells =
    (tells.0, sym e ∙ tells.1, tells.2, tells.3 ∙ ap (λ (r : Reader). record { rules = r.rules; known = Some tells.0; left = None }) same)
told_since l m first old new (steps.Values vs) more e same tells = (sym e ∙ tells.0, tells.1 ∙ ap (λ (r : Reader). with_left r None) same)
told_since l m first old new (steps.Refused e0) more e same tells =
    (elim tells.0 [ inl a ↦ inl (sym e ∙ a) | inr b ↦ elim b [ inl v ↦ inr (inl (sym e ∙ v)) | inr w ↦ inr (inr w) ] ], tells.1 ∙ ap (λ (r : Reader). with_left r None) same)

-- ---- The loop

-- looks were taken of the call that the reader first had
pub record Asking (start : List ℕ) (before now : List Write) (first last : Reader) : Type 0 where
  pub looks : List Sight
  pub looked : LooksThrough start before now looks
  pub wanting : IsSome (wanted last.left)
  pub same : last ≡ with_left first last.left
  pub left : (p : Unfinished) → first.left ≡ Some p → last.left ≡ left_after (looks_in looks) p

abbrev sight_of : List Write → ℕ → ℕ → List ℕ → Sight
sight_of now at count got = record { seen = now; look = record { place = at; len = count; bytes = got } }

-- what a look gave is what the seat's image has
pub is_look : (i : ImageId) (s : SeatView) (at len : ℕ) (bytes : List ℕ) → s.image ≡ i → bytes ≡ range (bytes_of s) at len → bytes ≡ range (image i.start s.seen) at len
is_look i s at len bytes same is = is ∙ ap (λ (x : ImageId). range (image x.start s.seen) at len) same

module _ (start : List ℕ) (before now next : List Write) (first last new : Reader) (at len : ℕ) (bytes : List ℕ) (a : Asking start before now first last) (grown : StartsWith next now)
    (is : bytes ≡ range (image start next) at len) (want : wanted last.left ≡ Some (at, len)) where
  abbrev more : List Sight
  more = a.looks ++ sight_of next at len bytes ∷ []

  more_looked : LooksThrough start before next more
  more_looked = through_more start before now a.looks (sight_of next at len bytes) a.looked grown is

  more_left : (p : Unfinished) → first.left ≡ Some p → option_map (fed_left bytes) last.left ≡ left_after (looks_in more) p
  more_left p e =
      let l : Look = record { place = at; len = len; bytes = bytes } in
      let here : last.left ≡ left_after (looks_in a.looks) p = a.left p e in
      ap (option_map (fed_left bytes)) here
      ∙ sym (left_more (looks_in a.looks) p l (ap wanted (sym here) ∙ want))
      ∙ ap (λ (ls : List Look). left_after ls p) (sym (map-append (λ (s : Sight). s.look) a.looks (sight_of next at len bytes ∷ [])))

  pub asking_more : StepTells (option_map (fed_left bytes) last.left) last steps.More new → IsSome (wanted new.left) → Asking start before next first new
  asking_more told wanting =
      let left : new.left ≡ option_map (fed_left bytes) last.left = ap (λ (r : Reader). r.left) told in
      record {
        looks = more;
        looked = more_looked;
        wanting = wanting;
        same = told ∙ ap (λ (r : Reader). with_left r (option_map (fed_left bytes) last.left)) a.same ∙ ap (λ l. with_left first l) (sym left);
        left = λ p e. left ∙ more_left p e;
      }

  pub asking_ends : (step : Step) → step ≢ steps.More → StepTells (option_map (fed_left bytes) last.left) last step new → AnswersThrough start before next first step new
  asking_ends step ended told = record {
    looks = more;
    looked = more_looked;
    tells = λ p e. told_since (option_map (fed_left bytes) last.left) (left_after (looks_in more) p) first last new step ended (more_left p e) a.same told;
  }

-- a count that rose is above 0
pub rose_some : (before now : ℕ) → Rose before now → 0 < now
rose_some before now h = omega (arith, h)
