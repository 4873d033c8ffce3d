-- Places that a session takes and lets go.
use Rattle.std.proofs.Common.{◌≡◌, ◌⊎◌, ℕ, ◌+◌, ◌<◌, ◌≤◌, Bool, true, false, List, [], ◌∷◌, ◌++◌, Option, refl, sym, ◌∙◌, ap, subst, inl, inr, arith}
use Rattle.std.proofs.lemmas.Bool.{cases_lt}
use Rattle.std.proofs.lemmas.List.Elements.{All-head, All-tail, All-append, All-nil, All-cons}
use Rattle.std.proofs.lemmas.List.Sorted.{All-permutation}
use Rattle.std.specs.List.{All}
use Rattle.h5w_model.specs.Findings.{Used}
use Rattle.h5w_step_laws.specs.Ranges.{Among, AreApart, Disjoint, block_at}
use Rattle.h5w_step_laws.proofs.RangeLemmas.{among_left, among_right, among_split}
use Rattle.h5w_step_laws.proofs.PartLemmas.{disjoint_some}
use Rattle.h5w_space.specs.Space.{Space, IsLive, Apart, TakesPlace, TakesFree, TakesEnd, extent}
use Rattle.h5w_space.specs.declared.Extent.{Extent}
use Rattle.h5w_space.proofs.Sound.{Apart-sym}
use Rattle.h5w_cache.specs.Blocks.{BlockView}
use Rattle.h5w_cache.specs.Plans.{Took, Placed, Retires, AreRetired, AreMoves, stays}
use Rattle.h5w_cache.specs.StoreLaws.{IsLeft}
use Rattle.h5w_cache.specs.declared.moves.Move.{Move}
use Rattle.h5w_flush_laws.specs.Spaces.{extent_of, AllLive, Taken, LetGo, TakenLaws, MoveLaws, moved_ranges, IsLeftBy, CommittedLive}

-- ---- Apart, in bytes and as ranges

-- ranges that are not empty and have no byte in common do not meet
pub meet_nowhere : (u v : Used) → 0 < u.len → 0 < v.len → Apart (extent_of u) (extent_of v) → AreApart u v
meet_nowhere u v some any apart = go (cases_lt v.place (u.place + u.len))
  where
    go : (v.place < u.place + u.len) ⊎ (u.place + u.len ≤ v.place) → AreApart u v
    go (inl h) = inr (let p = apart in omega arith)
    go (inr h) = inl h

pub have_no_byte : (u v : Used) → AreApart u v → Apart (extent_of u) (extent_of v)
have_no_byte u v (inl h) = omega arith
have_no_byte u v (inr h) = omega arith

-- ---- Ranges that do not meet

pub disjoint_joined : (us vs : List Used) → Disjoint us → Disjoint vs → ((u v : Used) → Among u us → Among v vs → AreApart u v) → Disjoint (us ++ vs)
disjoint_joined [] vs d e apart = e
disjoint_joined (u ∷ us) vs d e apart = (d.0, λ v a. each v (among_split v us vs a), disjoint_joined us vs d.2 e (λ w v a b. apart w v (inr a) b))
  where
    each : (v : Used) → Among v us ⊎ Among v vs → AreApart u v
    each v (inl a) = d.1 v a
    each v (inr a) = apart u v (inl refl) a

-- ---- Live ranges

pub live_as : (s t : Space) (x : Extent) → t.end ≡ s.end → t.free ≡ s.free → t.retired ≡ s.retired → IsLive s x → IsLive t x
live_as s t x same_end same_free same_retired l = record {
  within = subst (λ n. x.at + x.size ≤ n) (sym same_end) l.within;
  off_free = subst (λ (rs : List Extent). All (Apart x) rs) (sym same_free) l.off_free;
  off_retired = subst (λ (rs : List Extent). All (Apart x) rs) (sym same_retired) l.off_retired;
}

pub live_joined : (s : Space) (us vs : List Used) → AllLive s us → AllLive s vs → AllLive s (us ++ vs)
live_joined s us vs l m u a = go (among_split u us vs a)
  where
    go : Among u us ⊎ Among u vs → IsLive s (extent_of u)
    go (inl b) = l u b
    go (inr b) = m u b

-- what was live is apart from what is taken
pub taken_apart : (s t : Space) (us vs : List Used) → Taken s us t → AllLive s vs → Disjoint vs → (u v : Used) → Among u us → Among v vs → AreApart u v
taken_apart s t us vs k l d u v a b = meet_nowhere u v (disjoint_some us k.apart u a) (disjoint_some vs d v b) (k.off_live u (extent_of v) a (l v b))

pub taken_disjoint : (s t : Space) (us vs : List Used) → Taken s us t → AllLive s vs → Disjoint vs → Disjoint (us ++ vs)
taken_disjoint s t us vs k l d = disjoint_joined us vs k.apart d (taken_apart s t us vs k l d)

-- ---- What is taken

by_end : (s t : Space) (u : Used) → TakesPlace s t (extent_of u) → (s.end ≤ t.end) × ((t.end ≡ s.end) ⊎ (u.place + u.len ≡ t.end))
by_end s t u k = go k.by
  where
    go : TakesFree s t (extent_of u) ⊎ TakesEnd s t (extent_of u) → (s.end ≤ t.end) × ((t.end ≡ s.end) ⊎ (u.place + u.len ≡ t.end))
    go (inl f) = let same = f.end in (omega arith, inl f.end)
    go (inr e) =
        let place = e.place in
        let end = e.end in
        (omega arith, inr (omega arith))

one : (s t : Space) (u : Used) → 0 < u.len → Took s t (extent_of u) → Taken s (u ∷ []) t
one s t u some k = record {
  apart = (some, λ v a. absurd a, tt);
  off_live = λ v x a l. only v a (λ (y : Used). Apart (extent_of y) x) (k.off_live x l);
  live = λ v a. only v a (λ (y : Used). IsLive t (extent_of y)) k.live;
  stays_live = k.stays_live;
  rises = (by_end s t u k.takes).0;
  end = ends (by_end s t u k.takes).1;
}
  where
    only : (v : Used) → Among v (u ∷ []) → (P : Used → Type 0) → P u → P v
    only v (inl e) P p = subst P e p
    only v (inr a) P p = absurd a

    ends : (t.end ≡ s.end) ⊎ (u.place + u.len ≡ t.end) → (t.end ≡ s.end) ⊎ ((v : Used) × Among v (u ∷ []) × (v.place + v.len ≡ t.end))
    ends (inl e) = inl e
    ends (inr e) = inr (u, inl refl, e)

none_taken : (s t : Space) → t.end ≡ s.end → t.free ≡ s.free → t.retired ≡ s.retired → Taken s [] t
none_taken s t same_end same_free same_retired = record {
  apart = tt;
  off_live = λ u x a l. absurd a;
  live = λ u a. absurd a;
  stays_live = λ x l. live_as s t x same_end same_free same_retired l;
  rises = omega (arith, same_end);
  end = inl same_end;
}

joined : (s t v : Space) (us vs : List Used) → Taken s us t → Taken t vs v → Taken s (us ++ vs) v
joined s t v us vs k l = record {
  apart = disjoint_joined us vs k.apart l.apart (λ u w a b. meet_nowhere u w (disjoint_some us k.apart u a) (disjoint_some vs l.apart w b) (Apart-sym (extent_of w) (extent_of u) (l.off_live w (extent_of u) b (k.live u a))));
  off_live = λ u x a live. off u x live (among_split u us vs a);
  live = live_joined v us vs (λ u a. l.stays_live (extent_of u) (k.live u a)) l.live;
  stays_live = λ x live. l.stays_live x (k.stays_live x live);
  rises = omega (arith, k.rises, l.rises);
  end = ends l.end k.end;
}
  where
    off : (u : Used) (x : Extent) → IsLive s x → Among u us ⊎ Among u vs → Apart (extent_of u) x
    off u x live (inl a) = k.off_live u x a live
    off u x live (inr a) = l.off_live u x a (k.stays_live x live)

    first : v.end ≡ t.end → (t.end ≡ s.end) ⊎ ((u : Used) × Among u us × (u.place + u.len ≡ t.end)) → (v.end ≡ s.end) ⊎ ((u : Used) × Among u (us ++ vs) × (u.place + u.len ≡ v.end))
    first e (inl f) = inl (e ∙ f)
    first e (inr f) = inr (f.0, among_left f.0 us vs f.1, f.2 ∙ sym e)

    ends : (v.end ≡ t.end) ⊎ ((u : Used) × Among u vs × (u.place + u.len ≡ v.end)) → (t.end ≡ s.end) ⊎ ((u : Used) × Among u us × (u.place + u.len ≡ t.end))
        → (v.end ≡ s.end) ⊎ ((u : Used) × Among u (us ++ vs) × (u.place + u.len ≡ v.end))
    ends (inl e) f = first e f
    ends (inr e) f = inr (e.0, among_right e.0 us vs e.1, e.2)

pub taken_laws : TakenLaws
taken_laws = record { one = one; none_taken = none_taken; joined = joined }

-- ---- Moves

pub took : (b : Bool) (old len : ℕ) (s t : Space) (new : ℕ) → b ≡ false → Placed b old len s t new → Took s t (extent new len)
took false old len s t new e p = p
took true old len s t new e p = absurd cc

stayed : (b : Bool) (old len : ℕ) (s t : Space) (new : ℕ) → b ≡ true → Placed b old len s t new → t ≡ s
stayed true old len s t new e p = p.1
stayed false old len s t new e p = absurd cc

moves_taken : (blocks : List (Option BlockView)) (places : List ℕ) (s : Space) (ms : List Move) (t : Space) → AreMoves blocks places s ms t
    → All (λ (m : Move). stays m.in_place m.old ≡ false) ms → Taken s (moved_ranges ms) t
moves_taken blocks places s [] t moves away = none_taken s t (ap (λ (x : Space). x.end) moves) (ap (λ (x : Space). x.free) moves) (ap (λ (x : Space). x.retired) moves)
moves_taken blocks places s (m ∷ ms) t moves away =
    let goes : Move → Type 0 = λ (x : Move). stays x.in_place x.old ≡ false in
    let first = took (stays m.in_place m.old) m.old m.len s moves.0 m.new (All-head goes m ms away) moves.1.step in
    joined s moves.0 t (block_at m.new m.len ∷ []) (moved_ranges ms) (one s moves.0 (block_at m.new m.len) moves.1.some first) (moves_taken blocks places moves.0 ms t moves.2 (All-tail goes m ms away))

moves_stayed : (blocks : List (Option BlockView)) (places : List ℕ) (s : Space) (ms : List Move) (t : Space) → AreMoves blocks places s ms t
    → All (λ (m : Move). stays m.in_place m.old ≡ true) ms → t ≡ s
moves_stayed blocks places s [] t moves all = moves
moves_stayed blocks places s (m ∷ ms) t moves all =
    let stay : Move → Type 0 = λ (x : Move). stays x.in_place x.old ≡ true in
    moves_stayed blocks places moves.0 ms t moves.2 (All-tail stay m ms all) ∙ stayed (stays m.in_place m.old) m.old m.len s moves.0 m.new (All-head stay m ms all) moves.1.step

abbrev pub LetGoOf : (Used → Type 0) → Space → Space → Type 0
LetGoOf P s t = (us : List Used) × LetGo s us t × ((u : Used) → Among u us → P u)

nothing_let_go : (P : Used → Type 0) (s t : Space) → t ≡ s → LetGoOf P s t
nothing_let_go P s t e = ([], record { stays_live = λ x l off. subst (λ (y : Space). IsLive y x) (sym e) l; end = ap (λ (y : Space). y.end) e }, λ u a. absurd a)

let_go_joined : (P : Used → Type 0) (s t v : Space) → LetGoOf P s t → LetGoOf P t v → LetGoOf P s v
let_go_joined P s t v k l = (
  k.0 ++ l.0,
  record {
    stays_live = λ x live off. l.1.stays_live x (k.1.stays_live x live (λ u a. off u (among_left u k.0 l.0 a))) (λ u a. off u (among_right u k.0 l.0 a));
    end = l.1.end ∙ k.1.end;
  },
  λ u a. go u (among_split u k.0 l.0 a),
)
  where
    go : (u : Used) → Among u k.0 ⊎ Among u l.0 → P u
    go u (inl a) = k.2 u a
    go u (inr a) = l.2 u a

one_let_go : (P : Used → Type 0) (s : Space) (m : Move) (t : Space) → (IsLeft m → P (block_at m.old m.len)) → Retires s m t → LetGoOf P s t
one_let_go P s m t p (inr r) = nothing_let_go P s t r.1
one_let_go P s m t p (inl r) = (
  block_at m.old m.len ∷ [],
  record {
    stays_live = λ x l off. subst (λ (y : Space). IsLive y x) (sym r.1) (record {
      within = l.within;
      off_free = l.off_free;
      off_retired = All-append (Apart x) s.retired (extent m.old m.len ∷ []) l.off_retired (All-cons (Apart x) (extent m.old m.len) [] (Apart-sym (extent m.old m.len) x (off (block_at m.old m.len) (inl refl))) (All-nil (Apart x)));
    });
    end = ap (λ (y : Space). y.end) r.1;
  },
  λ u a. only u a,
)
  where
    only : (u : Used) → Among u (block_at m.old m.len ∷ []) → P u
    only u (inl e) = subst P e (p (r.0.0, r.0.1))
    only u (inr a) = absurd a

moves_let_go : (s : Space) (ms : List Move) (t : Space) → AreRetired s ms t → LetGoOf (λ u. IsLeftBy u ms) s t
moves_let_go s [] t r = nothing_let_go (λ u. IsLeftBy u []) s t r
moves_let_go s (m ∷ ms) t r =
    let_go_joined (λ u. IsLeftBy u (m ∷ ms)) s r.0 t (one_let_go (λ u. IsLeftBy u (m ∷ ms)) s m r.0 (λ left. inl (left, refl)) r.1)
    (let later = moves_let_go r.0 ms t r.2 in (later.0, later.1, λ u a. inr (later.2 u a)))

pub move_laws : MoveLaws
move_laws = record { taken = moves_taken; stayed = moves_stayed; let_go = moves_let_go }

-- ---- A commit

pub committed_live : CommittedLive
committed_live s t c x l = record {
  within = subst (λ n. x.at + x.size ≤ n) (sym c.end) l.within;
  off_free = All-permutation (Apart x) (s.free ++ s.retired) t.free c.free (All-append (Apart x) s.free s.retired l.off_free l.off_retired);
  off_retired = subst (λ (rs : List Extent). All (Apart x) rs) (sym c.retired) (All-nil (Apart x));
}
