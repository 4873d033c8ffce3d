-- The places that moves take and leave.
use Rattle.std.proofs.Common.{◌≡◌, ℕ, zero, suc, ◌+◌, ◌<◌, Bool, true, false, List, [], ◌∷◌, ◌++◌, length, get_or, refl, sym, ap, subst, ◌∙◌, inl, inr, arith, append_assoc}
use Rattle.std.proofs.lemmas.List.Elements.{All-push, All-head, All-tail}
use Rattle.std.proofs.lemmas.Bool.{cases_eq, cases_lt}
use Rattle.std.specs.Prelude.{Option}
use Rattle.std.specs.List.{All}
use Rattle.h5w_model.specs.Images as images
use Rattle.h5w_space.specs.Space.{Space, IsLive, Apart, extent}
use Rattle.h5w_space.specs.declared.Extent.{Extent}
use Rattle.h5w_cache.specs.declared.moves.Move.{Move}
use Rattle.h5w_cache.specs.Blocks.{BlockView}
use Rattle.h5w_cache.specs.Stores.{times}
use Rattle.h5w_cache.specs.Plans.{AreMoves, AreRetired, IsMove, Placed, Retires, Took, numbers, stays}
use Rattle.h5w_cache.specs.StoreLaws.{IsLeft, IsRetired}
use Rattle.h5w_cache.proofs.PlannedLemmas.{times-other}

-- ranges that are apart as sums
pub Apart-sides : (r s : Extent) → 0 < r.size → 0 < s.size → Apart r s → images.Apart r.at r.size s.at s.size
Apart-sides r s a b h = elim (cases_lt s.at (r.at + r.size)) [ inl lt ↦ inr (omega arith) | inr ge ↦ inl (omega arith) ]

-- ---- One move

pub placed_live : (b : Bool) (old len : ℕ) (s t : Space) (new : ℕ) (x : Extent) → Placed b old len s t new → IsLive s x → IsLive t x
placed_live true old len s t new x p l = subst (λ (q : Space). IsLive q x) (sym (p.1)) l
placed_live false old len s t new x p l = p.stays_live x l

pub placed_retired : (b : Bool) (old len : ℕ) (s t : Space) (new : ℕ) → Placed b old len s t new → t.retired ≡ s.retired
placed_retired true old len s t new p = ap (λ (q : Space). q.retired) (p.1)
placed_retired false old len s t new p = p.takes.retired

pub move_live : (blocks : List (Option BlockView)) (places : List ℕ) (s : Space) (m : Move) (t : Space) (x : Extent) → IsMove blocks places s m t → IsLive s x → IsLive t x
move_live blocks places s m t x step l = placed_live (stays m.in_place m.old) m.old m.len s t m.new x step.step l

pub took_of : (blocks : List (Option BlockView)) (places : List ℕ) (s : Space) (m : Move) (t : Space) → IsMove blocks places s m t → stays m.in_place m.old ≡ false → Took s t (extent m.new m.len)
took_of blocks places s m t step e = subst (λ b. Placed b m.old m.len s t m.new) e step.step

pub stayed_of : (blocks : List (Option BlockView)) (places : List ℕ) (s : Space) (m : Move) (t : Space) → IsMove blocks places s m t → stays m.in_place m.old ≡ true → m.new ≡ m.old
stayed_of blocks places s m t step e = (subst (λ b. Placed b m.old m.len s t m.new) e step.step).0

-- ---- A move among others

pub moves_live : (blocks : List (Option BlockView)) (places : List ℕ) (s : Space) (ms : List Move) (t : Space) (x : Extent) → AreMoves blocks places s ms t → IsLive s x → IsLive t x
moves_live blocks places s [] t x h l = subst (λ (q : Space). IsLive q x) (sym h) l
moves_live blocks places s (m ∷ ms) t x h l = moves_live blocks places h.0 ms t x h.2 (move_live blocks places s m h.0 x h.1 l)

-- the move at an index, and what is live before and after it
pub record IsMoveAt (blocks : List (Option BlockView)) (places : List ℕ) (s : Space) (m : Move) (t : Space) : Type 0 where
  pub before : Space
  pub after : Space
  pub step : IsMove blocks places before m after
  pub came : (x : Extent) → IsLive s x → IsLive before x
  pub goes : (x : Extent) → IsLive after x → IsLive t x
  pub same : before.retired ≡ s.retired

pub at_move : (blocks : List (Option BlockView)) (places : List ℕ) (s : Space) (ms : List Move) (t : Space) (i : ℕ) (d : Move) → AreMoves blocks places s ms t → i < length ms → IsMoveAt blocks places s (get_or ms i d) t
at_move blocks places s [] t i d h lt = absurd (omega arith)
at_move blocks places s (m ∷ ms) t zero d h lt = record { before = s; after = h.0; step = h.1; came = λ x l. l; goes = λ x l. moves_live blocks places h.0 ms t x h.2 l; same = refl }
at_move blocks places s (m ∷ ms) t (suc i) d h lt =
    let rest = at_move blocks places h.0 ms t i d h.2 (omega arith) in
    record {
      before = rest.before;
      after = rest.after;
      step = rest.step;
      came = λ x l. rest.came x (move_live blocks places s m h.0 x h.1 l);
      goes = rest.goes;
      same = rest.same ∙ placed_retired (stays m.in_place m.old) m.old m.len s h.0 m.new (h.1).step;
    }

-- two taken places are apart
pub two_apart : (blocks : List (Option BlockView)) (places : List ℕ) (s : Space) (ms : List Move) (t : Space) (i j : ℕ) (d : Move) → AreMoves blocks places s ms t → i < j → j < length ms
    → stays (get_or ms i d).in_place (get_or ms i d).old ≡ false → stays (get_or ms j d).in_place (get_or ms j d).old ≡ false
    → Apart (extent (get_or ms j d).new (get_or ms j d).len) (extent (get_or ms i d).new (get_or ms i d).len)
two_apart blocks places s [] t i j d h lt inside e f = absurd (omega arith)
two_apart blocks places s (m ∷ ms) t i zero d h lt inside e f = absurd (omega arith)
two_apart blocks places s (m ∷ ms) t zero (suc j) d h lt inside e f =
    let first : Took s h.0 (extent m.new m.len) = took_of blocks places s m h.0 h.1 e in
    let other = at_move blocks places h.0 ms t j d h.2 (omega arith) in
    (took_of blocks places other.before (get_or ms j d) other.after other.step f).off_live (extent m.new m.len) (other.came (extent m.new m.len) first.live)
two_apart blocks places s (m ∷ ms) t (suc i) (suc j) d h lt inside e f = two_apart blocks places h.0 ms t i j d h.2 (omega arith) (omega arith) e f

-- the move of a number that is listed
pub found_move : (ms : List Move) (n : ℕ) (d : Move) → 0 < times n (numbers ms) → (i : ℕ) × (i < length ms) × ((get_or ms i d).number ≡ n)
found_move [] n d h = absurd (omega arith)
found_move (m ∷ ms) n d h =
    elim (cases_eq m.number n) [
      | inl e ↦ (zero, omega arith, e)
      | inr ne ↦
          let t = times-other n m.number (numbers ms) ne in
          let rest = found_move ms n d (omega arith) in
          (suc rest.0, omega (arith, rest.1), rest.2)
    ]

-- ---- Retirements

retire_live : (s : Space) (m : Move) (t : Space) (x : Extent) → Retires s m t → IsLive s x → (IsLeft m → Apart x (extent m.old m.len)) → IsLive t x
retire_live s m t x (inl left) l h =
    subst (λ (q : Space). IsLive q x) (sym left.1) (record { within = l.within; off_free = l.off_free; off_retired = All-push (Apart x) s.retired (extent m.old m.len) l.off_retired (h (left.0.0, left.0.1)) })
retire_live s m t x (inr same) l h = subst (λ (q : Space). IsLive q x) (sym same.1) l

pub retired_live : (s : Space) (ms : List Move) (t : Space) (x : Extent) → AreRetired s ms t → IsLive s x → All (λ (m : Move). IsLeft m → Apart x (extent m.old m.len)) ms → IsLive t x
retired_live s [] t x h l each = subst (λ (q : Space). IsLive q x) (sym h) l
retired_live s (m ∷ ms) t x h l each =
    retired_live h.0 ms t x h.2 (retire_live s m h.0 x h.1 l (All-head (λ (y : Move). IsLeft y → Apart x (extent y.old y.len)) m ms each)) (All-tail (λ (y : Move). IsLeft y → Apart x (extent y.old y.len)) m ms each)

retire_keeps : (s : Space) (m : Move) (t : Space) (r : Extent) → Retires s m t → IsRetired s r → IsRetired t r
retire_keeps s m t r (inl left) h = (h.0, h.1 ++ extent m.old m.len ∷ [], ap (λ (q : Space). q.retired) left.1 ∙ ap (λ l. l ++ extent m.old m.len ∷ []) h.2 ∙ append_assoc h.0 (r ∷ h.1) (extent m.old m.len ∷ []))
retire_keeps s m t r (inr same) h = subst (λ (q : Space). IsRetired q r) (sym same.1) h

pub retired_keeps : (s : Space) (ms : List Move) (t : Space) (r : Extent) → AreRetired s ms t → IsRetired s r → IsRetired t r
retired_keeps s [] t r h x = subst (λ (q : Space). IsRetired q r) (sym h) x
retired_keeps s (m ∷ ms) t r h x = retired_keeps h.0 ms t r h.2 (retire_keeps s m h.0 r h.1 x)

retire_there : (s : Space) (m : Move) (t : Space) → Retires s m t → IsLeft m → IsLive s (extent m.old m.len) → IsRetired t (extent m.old m.len)
retire_there s m t (inl left) h l = (s.retired, [], ap (λ (q : Space). q.retired) left.1)
retire_there s m t (inr same) h l = absurd (same.0 (h.0, h.1, l))

-- a place that was left is retired, where it is live and apart from those that were left before
pub left_retired : (s : Space) (ms : List Move) (t : Space) (i : ℕ) (d : Move) → AreRetired s ms t → i < length ms → IsLeft (get_or ms i d) → IsLive s (extent (get_or ms i d).old (get_or ms i d).len)
    → ((j : ℕ) → j < i → IsLeft (get_or ms j d) → Apart (extent (get_or ms i d).old (get_or ms i d).len) (extent (get_or ms j d).old (get_or ms j d).len))
    → IsRetired t (extent (get_or ms i d).old (get_or ms i d).len)
left_retired s [] t i d h lt left l apart = absurd (omega arith)
left_retired s (m ∷ ms) t zero d h lt left l apart = retired_keeps h.0 ms t (extent m.old m.len) h.2 (retire_there s m h.0 h.1 left l)
left_retired s (m ∷ ms) t (suc i) d h lt left l apart =
    left_retired h.0 ms t i d h.2 (omega arith) left (retire_live s m h.0 (extent (get_or ms i d).old (get_or ms i d).len) h.1 l (apart 0 (omega arith))) (λ j below. apart (suc j) (omega arith))
