-- Another dataset, whose readers may hold more than what stands behind its blocks in place.
use Rattle.std.proofs.Common.{◌≡◌, ◌⊎◌, ℕ, ◌+◌, ◌*◌, ◌<◌, ◌≤◌, false, List, [], ◌∷◌, ◌++◌, length, refl, sym, ◌∙◌, ap, subst, inl, inr, arith}
use Rattle.std.specs.Prelude.{ℤ}
use Rattle.std.proofs.Math.Nat.{mul-le-mul_right}
use Rattle.h5w_model.specs.Images.{apply}
use Rattle.h5w_model.specs.Datasets.{Described}
use Rattle.h5w_model.specs.Findings.{Used, the_superblock}
use Rattle.h5w_model.specs.declared.piece.Write.{Write}
use Rattle.h5w_step_laws.specs.Ranges.{Among, AllAmong, AreApart}
use Rattle.h5w_step_laws.proofs.RangeLemmas.{among_left, among_right, among_split}
use Rattle.h5w_step_laws.specs.Moments.{Moment, moved_of, Represents}
use Rattle.h5w_step_laws.specs.Steps.{OffAll, Step, unseen, ends, switches, commits}
use Rattle.h5w_step_laws.proofs.GoesLemmas.{holds_behind, moved_front, off_joined, step_misses}
use Rattle.h5w_step_laws.proofs.StepRepresents.{step_represents}
use Rattle.h5w_step_laws.proofs.SessionLaws.{some_piece}
use Rattle.h5w_several_laws.specs.Beside.{BesideHeld, IsBeside}
use Rattle.h5w_several_laws.proofs.BesideLemmas.{beside_stays, kept_super, step_held}

-- ---- What is held after a piece that brings no rows

moved_same : (m n : Moment) (held : List Used) → n.header ≡ m.header → n.fixed ≡ m.fixed → OffAll held (moved_of m) → OffAll held (moved_of n)
moved_same m n held header fixed off u v a b = off u v a (subst (λ (us : List Used). Among v (the_superblock ∷ us)) same b)
  where
    same : n.header ++ n.fixed ≡ m.header ++ m.fixed
    same = ap (λ (us : List Used). us ++ n.fixed) header ∙ ap (λ (us : List Used). m.header ++ us) fixed

moved_next : (m n : Moment) (held : List Used) → n.header ≡ m.header → OffAll held (moved_of m) → OffAll held n.fixed → OffAll held (moved_of n)
moved_next m n held header off fixed u v a b = front b
  where
    later : Among v n.header ⊎ Among v n.fixed → AreApart u v
    later (inl c) = off u v a (inr (among_left v m.header m.fixed (subst (λ (us : List Used). Among v us) header c)))
    later (inr c) = fixed u v a c

    front : (the_superblock ≡ v) ⊎ Among v (n.header ++ n.fixed) → AreApart u v
    front (inl e) = off u v a (inl e)
    front (inr c) = later (among_split v n.header n.fixed c)

-- as many values are as many rows
never_more : (rows more cols : ℕ) → rows < more → 0 < cols → more * cols ≡ rows * cols → ⊥
never_more rows more cols rises some same =
    let step : (rows + 1) * cols ≤ more * cols = mul-le-mul_right cols (omega (arith, rises)) in
    let one : (rows + 1) * cols ≡ rows * cols + cols = grind arith in
    omega (arith, step, one, same, some)

-- all of it is held still, and it is off what is written where it stands
record IsHeldOn (m n : Moment) (held after : List Used) : Type 0 where
  off : OffAll after (moved_of n)
  more : AllAmong held after
  cols : n.dataset.shape.cols ≡ m.dataset.shape.cols

held_on : (img name : List ℕ) (m n : Moment) (held after : List Used) (w : Write) → Represents img name m → 0 < m.dataset.shape.cols → OffAll held (moved_of m) → Step img m held w n after → n.values ≡ m.values → IsHeldOn m n held after
held_on img name m n held after w r some off (unseen x misses is same) values =
    subst (λ (us : List Used). IsHeldOn m n held us) (sym same)
    (record { off = moved_same m n held (ap (λ (y : Moment). y.header) is) (ap (λ (y : Moment). y.fixed) is) off; more = λ u a. a; cols = ap (λ (y : Moment). y.dataset.shape.cols) is })
held_on img name m n held after w r some off (ends x same) values =
    subst (λ (us : List Used). IsHeldOn m n held us) (sym same)
    (record { off = moved_same m n held (ap (λ (y : Moment). y.header) x.is) (ap (λ (y : Moment). y.fixed) x.is) off; more = λ u a. a; cols = ap (λ (y : Moment). y.dataset.shape.cols) x.is })
held_on img name m n held after w r some off (switches s stays clear same) values =
    let next = step_represents img name m held w n after r (switches s stays clear same) in
    let own = holds_behind (apply w img) name n next in
    subst (λ (us : List Used). IsHeldOn m n held us) (sym same) (record {
      off = off_joined n.behind held (moved_of n) (λ u v a b. own.off_front u v a (moved_front n v b)) (moved_next m n held (ap (λ (y : Moment). y.header) s.is) off stays);
      more = λ u a. among_right u n.behind held a;
      cols = ap (λ (y : Moment). y.dataset.shape.cols) s.is;
    })
held_on img name m n held after w r some off (commits c same) values =
    let rows : ℕ = m.dataset.shape.rows in
    let later : ℕ = n.dataset.shape.rows in
    let cols : n.dataset.shape.cols ≡ m.dataset.shape.cols = ap (λ (d : Described). d.shape.cols) c.described.rows_alone in
    let count : later * m.dataset.shape.cols ≡ rows * m.dataset.shape.cols = ap (λ (k : ℕ). later * k) (sym cols) ∙ sym c.count ∙ ap (λ (vs : List ℤ). length vs) values ∙ r.count in
    absurd (never_more rows later m.dataset.shape.cols c.rises some count)

-- ---- All pieces

-- the first piece is a step of the other one
first_held : (img name other : List ℕ) (m n e : Moment) (held after more : List Used) (w : Write) → Represents img name m → OffAll held (moved_of m) → Step img m held w n after → Represents img other e → IsBeside e m
    → ((u : Used) → Among u more → u.chunk ≡ false → Among u held) → Step img e more w (record e { super = n.super }) more
first_held img name other m n e held after more w r off s o b told =
    let misses = step_misses img m held w n after off s in
    step_held img name other m n e held after more w r s o b (λ u a block. misses u (told u a block) block)

pub beside_held : BesideHeld
beside_held img name other m n e held after more [] some r off f o b told = (kept_super m n e b (ap (λ (x : Moment). x.super) f.0), refl)
beside_held img name other m n e held after more (w ∷ []) some r off f o b told =
    let between : Moment = record e { super = f.0.super } in (
      between,
      more,
      first_held img name other m f.0 e held f.1 more w r off f.2 o b told,
      refl,
      (kept_super f.0 n between (beside_stays img m f.0 e held f.1 w f.2 b) (ap (λ (x : Moment). x.super) f.4.0), refl),
    )
beside_held img name other m n e held after more (w ∷ (v ∷ vs)) some r off f o b told =
    let between : Moment = record e { super = f.0.super } in
    let step = first_held img name other m f.0 e held f.1 more w r off f.2 o b told in
    let on = held_on img name m f.0 held f.1 w r some off f.2 (f.3 (some_piece v vs)) in (
      between,
      more,
      step,
      refl,
      beside_held (apply w img) name other f.0 n between f.1 after more (v ∷ vs) (subst (λ (k : ℕ). 0 < k) (sym on.cols) some) (step_represents img name m held w f.0 f.1 r f.2) on.off f.4
          (step_represents img other e more w between more o step) (beside_stays img m f.0 e held f.1 w f.2 b) (λ u a block. on.more u (told u a block)),
    )
