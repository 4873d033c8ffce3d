-- A record put into a tree changes the nodes on its way alone, and marks each.
use Rattle.std.proofs.Common.{◌≡◌, ℕ, zero, suc, Bool, true, false, List, [], ◌∷◌, take, drop, set, inl, inr, refl, sym, subst, Some, slice_get, insert}
use Rattle.std.proofs.lemmas.Bool.{false≢true}
use Rattle.std.proofs.lemmas.List.Elements.{All-cons, All-nil}
use Rattle.h5w_model.specs.Trees.{capacity_of}
use Rattle.h5w_bt.specs.declared.records.Record.{Record}
use Rattle.h5w_bt_nodes.specs.Nodes.{Tree, rank}
use Rattle.h5w_bt_nodes.specs.Puts.{put_record, changed_at, put, settled, is_over, half, left_of, right_of, raised}
use Rattle.h5w_bt_nodes.specs.Shapes.{IsShape}
use Rattle.h5w_bt_index.specs.Marks.{Part, Some_of, IsCleanPart, IsMarked}
use Rattle.h5w_bt_nodes.proofs.Places.{some_same, none_is_not, at_place, inside_from, All-changed_at, All-in_two, All-taken, All-dropped}
use Rattle.h5w_bt_nodes.proofs.Steps.{settled_over, settled_not, went_down, put_here, put_below, there, not_there, is_there}
use Rattle.h5w_bt_nodes.proofs.Over.{OnTheWay, on_the_way}

some-changed : {A : Type 0} (P : A → Type 0) (f : A → A) (i : ℕ) (xs : List A) (c : A) → slice_get xs i ≡ Some c → (P (f c) → P c) → Some_of P (changed_at i f xs) → Some_of P xs
some-changed P f i [] c e k h = h
some-changed P f zero (x ∷ xs) c e k (inl h) = inl (subst P (sym (some_same x c e)) (k (subst (λ (y : _). P (f y)) (some_same x c e) h)))
some-changed P f zero (x ∷ xs) c e k (inr h) = inr h
some-changed P f (suc i) (x ∷ xs) c e k (inl h) = inl h
some-changed P f (suc i) (x ∷ xs) c e k (inr h) = inr (some-changed P f i xs c e k h)

some-in_two : {A : Type 0} (P : A → Type 0) (f : A → A) (i : ℕ) (xs : List A) (c l r : A) → slice_get xs i ≡ Some c → (P l → P c) → (P r → P c) →
    Some_of P (insert (set (changed_at i f xs) i l) (suc i) r) → Some_of P xs
some-in_two P f i [] c l r e k m h = absurd (none_is_not c e)
some-in_two P f zero (x ∷ xs) c l r e k m (inl h) = inl (subst P (sym (some_same x c e)) (k h))
some-in_two P f zero (x ∷ xs) c l r e k m (inr (inl h)) = inl (subst P (sym (some_same x c e)) (m h))
some-in_two P f zero (x ∷ xs) c l r e k m (inr (inr h)) = inr h
some-in_two P f (suc i) (x ∷ xs) c l r e k m (inl h) = inl h
some-in_two P f (suc i) (x ∷ xs) c l r e k m (inr h) = inr (some-in_two P f i xs c l r e k m h)

some-taken : {A : Type 0} (P : A → Type 0) (n : ℕ) (xs : List A) → Some_of P (take n xs) → Some_of P xs
some-taken P zero xs h = absurd h
some-taken P (suc n) [] h = h
some-taken P (suc n) (x ∷ xs) (inl h) = inl h
some-taken P (suc n) (x ∷ xs) (inr h) = inr (some-taken P n xs h)

some-dropped : {A : Type 0} (P : A → Type 0) (n : ℕ) (xs : List A) → Some_of P (drop n xs) → Some_of P xs
some-dropped P zero xs h = h
some-dropped P (suc n) [] h = h
some-dropped P (suc n) (x ∷ xs) h = inr (some-dropped P n xs h)

pub left-clean : (p : Part) (d : ℕ) (t : Tree d) → IsCleanPart p d (left_of d t) → IsCleanPart p d t
left-clean p zero t h = absurd (false≢true (h.0))
left-clean p (suc d) t (inl h) = absurd (false≢true (h.0))
left-clean p (suc d) t (inr h) = inr (some-taken (IsCleanPart p d) (suc (half (suc d))) t.children h)

pub right-clean : (p : Part) (d : ℕ) (t : Tree d) → IsCleanPart p d (right_of d t) → IsCleanPart p d t
right-clean p zero t h = absurd (false≢true (h.0))
right-clean p (suc d) t (inl h) = absurd (false≢true (h.0))
right-clean p (suc d) t (inr h) = inr (some-dropped (IsCleanPart p d) (suc (half (suc d))) t.children h)

pub put-clean : (p : Part) (d : ℕ) (x : Record) (t : Tree d) → IsShape d (capacity_of d) t → IsCleanPart p d (put d x t) → IsCleanPart p d t
put-clean p zero x t s h = absurd (false≢true (h.0))
put-clean p (suc d) x t s h = elim (is_there x.key t.records) [
  | there a e ↦ same (subst (IsCleanPart p (suc d)) (put_here d x a t e) h)
  | not_there e ↦ (let w = on_the_way d x t s in
      go w (put-clean p d x w.child w.shape) (is_over d (put d x w.child)) refl (subst (IsCleanPart p (suc d)) (put_below d x t e) h))
]
  where
    same : IsCleanPart p (suc d) (record t { records = put_record x t.records; clean = false }) → IsCleanPart p (suc d) t
    same (inl h) = absurd (false≢true (h.0))
    same (inr h) = inr h

    down : (w : OnTheWay d x t) → (IsCleanPart p d (put d x w.child) → IsCleanPart p d w.child) → IsCleanPart p (suc d) (went_down d x t) → IsCleanPart p (suc d) t
    down w k (inl h) = absurd (false≢true (h.0))
    down w k (inr h) = inr (some-changed (IsCleanPart p d) (put d x) (rank x.key t.records) t.children w.child w.before k h)

    go : (w : OnTheWay d x t) → (IsCleanPart p d (put d x w.child) → IsCleanPart p d w.child) → (o : Bool) → is_over d (put d x w.child) ≡ o →
        IsCleanPart p (suc d) (settled d (rank x.key t.records) (went_down d x t)) → IsCleanPart p (suc d) t
    go w k true o h = elim (subst (IsCleanPart p (suc d)) (settled_over d (rank x.key t.records) (went_down d x t) (put d x w.child) w.after o) h) [
      | inl q ↦ absurd (false≢true (q.0))
      | inr q ↦ inr (some-in_two (IsCleanPart p d) (put d x) (rank x.key t.records) t.children w.child (left_of d (put d x w.child)) (right_of d (put d x w.child)) w.before
          (λ a. k (left-clean p d (put d x w.child) a)) (λ a. k (right-clean p d (put d x w.child) a)) q)
    ]
    go w k false o h = down w k (subst (IsCleanPart p (suc d)) (settled_not d (rank x.key t.records) (went_down d x t) (put d x w.child) w.after o) h)

pub raised-clean : (p : Part) (d : ℕ) (t : Tree d) → IsCleanPart p (suc d) (raised d t) → IsCleanPart p d t
raised-clean p d t (inl h) = absurd (false≢true (h.0))
raised-clean p d t (inr (inl h)) = left-clean p d t h
raised-clean p d t (inr (inr (inl h))) = right-clean p d t h
raised-clean p d t (inr (inr (inr h))) = absurd h

-- ---- Marks

pub left-marked : (d : ℕ) (t : Tree d) → IsMarked d t → IsMarked d (left_of d t)
left-marked zero t h = tt
left-marked (suc d) t h = (λ e. absurd (false≢true e), All-taken (IsMarked d) (suc (half (suc d))) t.children (h.1))

pub right-marked : (d : ℕ) (t : Tree d) → IsMarked d t → IsMarked d (right_of d t)
right-marked zero t h = tt
right-marked (suc d) t h = (λ e. absurd (false≢true e), All-dropped (IsMarked d) (suc (half (suc d))) t.children (h.1))

pub put-marked : (d : ℕ) (x : Record) (t : Tree d) → IsShape d (capacity_of d) t → IsMarked d t → IsMarked d (put d x t)
put-marked zero x t s h = tt
put-marked (suc d) x t s h = elim (is_there x.key t.records) [
  | there a e ↦ subst (IsMarked (suc d)) (sym (put_here d x a t e)) (λ e. absurd (false≢true e), h.1)
  | not_there e ↦ subst (IsMarked (suc d)) (sym (put_below d x t e))
      (let w = on_the_way d x t s in go w (put-marked d x w.child w.shape (at_place (IsMarked d) t.children (rank x.key t.records) w.child (h.1) w.before)) (is_over d (put d x w.child)) refl)
]
  where
    go : (w : OnTheWay d x t) → IsMarked d (put d x w.child) → (o : Bool) → is_over d (put d x w.child) ≡ o → IsMarked (suc d) (settled d (rank x.key t.records) (went_down d x t))
    go w p true o = subst (IsMarked (suc d)) (sym (settled_over d (rank x.key t.records) (went_down d x t) (put d x w.child) w.after o)) (
      λ e. absurd (false≢true e),
      All-in_two (IsMarked d) (put d x) (rank x.key t.records) t.children (left_of d (put d x w.child)) (right_of d (put d x w.child))
          (inside_from t.children (rank x.key t.records) w.child w.before) (left-marked d (put d x w.child) p) (right-marked d (put d x w.child) p) (h.1),
    )
    go w p false o = subst (IsMarked (suc d)) (sym (settled_not d (rank x.key t.records) (went_down d x t) (put d x w.child) w.after o))
        (λ e. absurd (false≢true e), All-changed_at (IsMarked d) (put d x) (rank x.key t.records) t.children w.child w.before p (h.1))

pub raised-marked : (d : ℕ) (t : Tree d) → IsMarked d t → IsMarked (suc d) (raised d t)
raised-marked d t h = (
  λ e. absurd (false≢true e),
  All-cons (IsMarked d) (left_of d t) (right_of d t ∷ []) (left-marked d t h) (All-cons (IsMarked d) (right_of d t) [] (right-marked d t h) (All-nil (IsMarked d))),
)
