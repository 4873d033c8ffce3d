-- The ranges of a file after a flush do not meet.
use Rattle.std.proofs.Common.{◌<◌, ◌≡◌, ◌≢◌, ◌⊎◌, ℕ, ◌+◌, ◌≤◌, Bool, true, false, List, [], ◌∷◌, ◌++◌, sym, ◌∙◌, ap, inl, inr, arith}
use Rattle.h5w_model.specs.Findings.{Used, the_superblock}
use Rattle.h5w_step_laws.specs.Ranges.{Among, AllAmong, AreApart, Disjoint}
use Rattle.h5w_step_laws.proofs.RangeLemmas.{among_left, among_right, among_split}
use Rattle.h5w_step_laws.specs.Counts.{count_at}
use Rattle.h5w_step_laws.specs.Moments.{Moment, all_used}
use Rattle.h5w_step_laws.proofs.PartLemmas.{disjoint_two, disjoint_apart, count_joined}

-- ---- All ranges after a change of the index

abbrev pub all_parts : List Used → List Used → List Used → List Used
all_parts root header index = the_superblock ∷ (root ++ (header ++ index))

pub parts_among : (root header index new fresh : List Used) → AllAmong new (fresh ++ index) → AllAmong (all_parts root header new) (fresh ++ all_parts root header index)
parts_among root header index new fresh known u a = first a
  where
    all : List Used
    all = the_superblock ∷ (root ++ (header ++ index))

    changed : Among u fresh ⊎ Among u index → Among u (fresh ++ all)
    changed (inl b) = among_left u fresh all b
    changed (inr b) = among_right u fresh all (inr (among_right u root (header ++ index) (among_right u header index b)))

    third : Among u header ⊎ Among u new → Among u (fresh ++ all)
    third (inl b) = among_right u fresh all (inr (among_right u root (header ++ index) (among_left u header index b)))
    third (inr b) = changed (among_split u fresh index (known u b))

    second : Among u root ⊎ Among u (header ++ new) → Among u (fresh ++ all)
    second (inl b) = among_right u fresh all (inr (among_left u root (header ++ index) b))
    second (inr b) = third (among_split u header new b)

    first : (the_superblock ≡ u) ⊎ Among u (root ++ (header ++ new)) → Among u (fresh ++ all)
    first (inl e) = among_right u fresh all (inl e)
    first (inr b) = second (among_split u root (header ++ new) b)

pub parts_count : (root header index new fresh : List Used) (p : ℕ) → count_at p new ≤ count_at p (fresh ++ index) → count_at p (all_parts root header new) ≤ count_at p (fresh ++ all_parts root header index)
parts_count root header index new fresh p few =
    omega (
      arith,
      few,
      count_joined p fresh index,
      count_joined p root (header ++ new),
      count_joined p header new,
      count_joined p fresh (all_parts root header index),
      count_joined p root (header ++ index),
      count_joined p header index,
    )

-- fresh ranges are apart from those of the file
pub fresh_off : (m : Moment) (fresh : List Used) → Disjoint (fresh ++ all_used m) → (u v : Used) → Among u fresh → Among v (all_used m) → AreApart u v
fresh_off m fresh d u v a b = disjoint_apart fresh (all_used m) u v d a b

-- ranges of blocks are no ranges of chunks
pub kinds_differ : (u v : Used) → u.chunk ≡ false → v.chunk ≡ true → u ≢ v
kinds_differ u v block chunk e = never (sym block ∙ ap (λ (x : Used). x.chunk) e ∙ chunk)
  where
    never : ◌≡◌ {A = Bool} false true → ⊥
    never h = cc

pub apart_kinds : (all : List Used) (u v : Used) → Disjoint all → Among u all → Among v all → u.chunk ≡ false → v.chunk ≡ true → AreApart u v
apart_kinds all u v d a b block chunk = disjoint_two all u v d a b (kinds_differ u v block chunk)

-- ---- What readers hold after a header piece is what the file has

-- a range that is not empty meets itself
pub meets_itself : (u : Used) → 0 < u.len → AreApart u u → ⊥
meets_itself u some (inl h) = omega (arith, some, h)
meets_itself u some (inr h) = omega (arith, some, h)
