-- The oldest piece of several datasets becomes visible.
use Rattle.std.proofs.Common.{◌≡◌, ◌≢◌, ◌⊎◌, ℕ, zero, suc, ◌+◌, ◌-◌, ◌<◌, ◌≤◌, cond, Bool, true, false, List, [], ◌∷◌, ◌++◌, length, map, Option, Some, None, refl, sym, ◌∙◌, ap, subst, inl, inr, arith, length-append}
use Rattle.std.specs.Prelude.{nat_lt, slice_get}
use Rattle.std.proofs.lemmas.Bool.{cond-true, cond-false, le-ltb, lt-ltb}
use Rattle.h5w_model.specs.Lawful.{Rules, ScriptState, after_shows, committed, rows_of as script_rows}
use Rattle.h5w_model.specs.declared.piece.Write.{Write}
use Rattle.h5w_writer.specs.Sessions.{AfterPiece, Session, Settles, rows_of}
use Rattle.h5w_several_writer_laws.specs.Sessions.{AreShown, all_pending, counts_of}
use Rattle.h5w_several_script_laws.specs.Scripts.{SetState, due, left_after, shown_sets, total}
use Rattle.h5w_several_script_laws.proofs.SetLemmas.{got_is}
use Rattle.h5w_several_world_laws.specs.Worlds.{AreStatesOf, IsStateOfPart, polling_in, rules_in}

-- ---- What a piece leaves of its part

pub record KeepsPart (s u : Session) : Type 0 where
  pub rules : (limit attempts : ℕ) → rules_in limit attempts u ≡ rules_in limit attempts s
  pub polling : (limit attempts : ℕ) → polling_in limit attempts u ≡ polling_in limit attempts s
  pub waits : u.waits ≡ s.waits

-- all pieces of a part are visible
record Settled (s u : Session) : Type 0 where
  keeps : KeepsPart s u
  left : u.pending ≡ []

settled_all : (b : Bool) (s u : Session) → Settles b s u → Settled s u
settled_all true s u x = subst (λ (v : Session). Settled s v) (sym x.1) (record { keeps = record { rules = λ l a. refl; polling = λ l a. refl; waits = refl }; left = refl })
settled_all false s u x = subst (λ (v : Session). Settled s v) (sym x) (record { keeps = record { rules = λ l a. refl; polling = λ l a. refl; waits = refl }; left = refl })

pub piece_keeps : (s u : Session) (ws : List Write) → AfterPiece s ws u → KeepsPart s u
piece_keeps s u [] x = (settled_all s.flushing s u x).keeps
piece_keeps s u (w ∷ ws) x = subst (λ (v : Session). KeepsPart s v) (sym x) (record { rules = λ l a. refl; polling = λ l a. refl; waits = refl })

piece_left : (s u : Session) (ws : List Write) → AfterPiece s ws u → u.pending ≡ ws
piece_left s u [] x = (settled_all s.flushing s u x).left
piece_left s u (w ∷ ws) x = ap (λ (v : Session). v.pending) x

-- ---- What is left

pub shown_left : (w : Write) (ss uu : List Session) → AreShown w ss uu → length (all_pending ss) ≡ suc (length (all_pending uu))
shown_left w [] uu x = absurd x
shown_left w (s ∷ ss) [] x = absurd x
shown_left w (s ∷ ss) (u ∷ uu) x = elim x [
  | inl y ↦
      let later = shown_left w ss uu y.2 in
      let own : length u.pending ≡ length s.pending = ap (λ (v : Session). length v.pending) y.1 in
      omega (arith, length-append s.pending (all_pending ss), length-append u.pending (all_pending uu), later, own)
  | inr y ↦
      let own : length s.pending ≡ suc (length y.0) = ap length y.1 in
      let left : length u.pending ≡ length y.0 = ap length (piece_left s u y.0 y.2) in
      let rest : length (all_pending uu) ≡ length (all_pending ss) = ap (λ (vs : List Session). length (all_pending vs)) y.3 in
      omega (arith, length-append s.pending (all_pending ss), length-append u.pending (all_pending uu), own, left, rest)
]

pub total_left : (ss : List Session) → total (counts_of ss) ≡ length (all_pending ss)
total_left [] = refl
total_left (s ∷ ss) = let later = total_left ss in omega (arith, length-append s.pending (all_pending ss), later)

pub left_none : (ns : List ℕ) → left_after 0 ns ≡ ns
left_none [] = refl
left_none (n ∷ ns) =
    let own : n - 0 ≡ n = omega arith in
    let rest : 0 - n ≡ 0 = omega arith in
    λ i. own i ∷ (ap (λ (j : ℕ). left_after j ns) rest ∙ left_none ns) i

pub counts_shown : (w : Write) (ss uu : List Session) → AreShown w ss uu → left_after 1 (counts_of ss) ≡ counts_of uu
counts_shown w [] uu x = absurd x
counts_shown w (s ∷ ss) [] x = absurd x
counts_shown w (s ∷ ss) (u ∷ uu) x = elim x [
  | inl y ↦
      let none : length s.pending ≡ 0 = ap length y.0 in
      let same : length u.pending ≡ length s.pending = ap (λ (v : Session). length v.pending) y.1 in
      let own : length s.pending - 1 ≡ length u.pending = omega arith in
      let rest : 1 - length s.pending ≡ 1 = omega arith in
      λ i. own i ∷ (ap (λ (j : ℕ). left_after j (counts_of ss)) rest ∙ counts_shown w ss uu y.2) i
  | inr y ↦
      let some : length s.pending ≡ suc (length y.0) = ap length y.1 in
      let left : length u.pending ≡ length y.0 = ap length (piece_left s u y.0 y.2) in
      let own : length s.pending - 1 ≡ length u.pending = omega arith in
      let rest : 1 - length s.pending ≡ 0 = omega arith in
      λ i. own i ∷ (ap (λ (j : ℕ). left_after j (counts_of ss)) rest ∙ left_none (counts_of ss) ∙ ap counts_of (sym y.3)) i
]

-- ---- The state of a dataset

pub after_idle : (g : Rules) (s : ScriptState) (j : ℕ) → s.pending ≡ 0 → s.ends_flush ≡ false → after_shows g s j ≡ record s { pending = 0 }
after_idle g s j none idle =
    cond-false (nat_lt j s.pending) (record s { pending = s.pending - j }) (cond s.ends_flush (committed g s) (record s { pending = 0 })) (le-ltb j s.pending (omega arith))
    ∙ cond-false s.ends_flush (committed g s) (record s { pending = 0 }) idle

after_more : (g : Rules) (s : ScriptState) → 1 < s.pending → after_shows g s 1 ≡ record s { pending = s.pending - 1 }
after_more g s more = cond-true (nat_lt 1 s.pending) (record s { pending = s.pending - 1 }) (cond s.ends_flush (committed g s) (record s { pending = 0 })) (lt-ltb 1 s.pending more)

after_last : (g : Rules) (s : ScriptState) → s.pending ≡ 1 → s.ends_flush ≡ true → after_shows g s 1 ≡ committed g s
after_last g s one ends =
    cond-false (nat_lt 1 s.pending) (record s { pending = s.pending - 1 }) (cond s.ends_flush (committed g s) (record s { pending = 0 })) (ap (nat_lt 1) one)
    ∙ cond-true s.ends_flush (committed g s) (record s { pending = 0 }) ends

abbrev shown_set : SetState → SetState
shown_set x = record x { state = after_shows x.rules x.state 1 }

-- a dataset with this state after the piece
set_is : (x : SetState) (t : ScriptState) → after_shows x.rules x.state 1 ≡ t → shown_set x ≡ record x { state = t }
set_is x t e = ap (λ (s : ScriptState). record x { state = s }) e

-- A part that has no piece, or whose pieces are behind this one, is passed by.
record IsPassed (before : ℕ) (s : Session) (x : SetState) : Type 0 where
  more : after_shows x.rules x.state 1 ≡ record (x.state) { pending = due (before - 1) (length s.pending) }

is_passed : (limit attempts before : ℕ) (s : Session) (x : SetState) → (length s.pending ≡ 0) ⊎ (1 ≤ before) → IsStateOfPart limit attempts before s x → IsPassed before s x
is_passed limit attempts before s x which st = of_count (length s.pending) refl
  where
    of_count : (n : ℕ) → length s.pending ≡ n → IsPassed before s x
    of_count zero none =
        let pending : x.state.pending ≡ 0 = st.pending ∙ ap (due before) none in
        let idle : x.state.ends_flush ≡ false = st.ends_flush ∙ ap (nat_lt 0) none in
        record { more = after_idle x.rules x.state 1 pending idle ∙ ap (λ (k : ℕ). record (x.state) { pending = k }) (sym (ap (due (before - 1)) none)) }
    of_count (suc n) some =
        let pending : x.state.pending ≡ before + suc n = st.pending ∙ ap (due before) some in
        let low : 1 ≤ before = elim which [ inl none ↦ absurd (omega (arith, none, some)) | inr low ↦ low ] in
        let next : x.state.pending - 1 ≡ before - 1 + suc n = omega (arith, pending, low) in
        record { more = after_more x.rules x.state (omega (arith, pending, low)) ∙ ap (λ (k : ℕ). record (x.state) { pending = k }) (next ∙ sym (ap (due (before - 1)) some)) }

passed_state : (limit attempts before : ℕ) (s : Session) (x : SetState) → (length s.pending ≡ 0) ⊎ (1 ≤ before) → IsStateOfPart limit attempts before s x → IsStateOfPart limit attempts (before - 1) s (shown_set x)
passed_state limit attempts before s x which st =
    let p = is_passed limit attempts before s x which st in
    subst (λ (y : SetState). IsStateOfPart limit attempts (before - 1) s y) (sym (set_is x (record (x.state) { pending = due (before - 1) (length s.pending) }) p.more))
    (record { rules = st.rules; pending = refl; ends_flush = st.ends_flush; flushing = st.flushing; taken = st.taken })

passed_rows : (limit attempts before : ℕ) (s : Session) (x : SetState) → (length s.pending ≡ 0) ⊎ (1 ≤ before) → IsStateOfPart limit attempts before s x → (after_shows x.rules x.state 1).flushed ≡ x.state.flushed
passed_rows limit attempts before s x which st = ap (λ (t : ScriptState). t.flushed) (is_passed limit attempts before s x which st).more

-- ---- The part whose piece it is

-- a part with this piece and others behind it, whose state this is
record IsNext (limit attempts : ℕ) (w : Write) (ws : List Write) (s u : Session) (x : SetState) : Type 0 where
  pending : s.pending ≡ w ∷ ws
  after : AfterPiece s ws u
  state : IsStateOfPart limit attempts 0 s x

pub some_count : (n : ℕ) → nat_lt 0 (suc n) ≡ true
some_count n = lt-ltb 0 (suc n) (omega arith)

next_count : (limit attempts : ℕ) (w : Write) (ws : List Write) (s u : Session) (x : SetState) → IsNext limit attempts w ws s u x
    → (x.state.pending ≡ suc (length ws)) × (x.state.ends_flush ≡ true) × (s.flushing ≡ true)
next_count limit attempts w ws s u x n =
    let count : length s.pending ≡ suc (length ws) = ap length n.pending in
    (n.state.pending ∙ ap (due 0) count ∙ (let whole : 0 + suc (length ws) ≡ suc (length ws) = omega arith in whole), n.state.ends_flush ∙ ap (nat_lt 0) count ∙ some_count (length ws), n.state.flushing ∙ ap (nat_lt 0) count ∙ some_count (length ws))

own_state : (limit attempts : ℕ) (w : Write) (ws : List Write) (s u : Session) (x : SetState) → IsNext limit attempts w ws s u x → IsStateOfPart limit attempts 0 u (shown_set x)
own_state limit attempts w [] s u x n =
    let c = next_count limit attempts w [] s u x n in
    let settles : Settles true s u = subst (λ (b : Bool). Settles b s u) c.2 n.after in
    let still : u.flushing ≡ false = ap (λ (v : Session). v.flushing) settles.1 in
    let none : u.pending ≡ [] = ap (λ (v : Session). v.pending) settles.1 in
    let keeps = piece_keeps s u [] n.after in
    subst (λ (y : SetState). IsStateOfPart limit attempts 0 u y) (sym (set_is x (committed x.rules x.state) (after_last x.rules x.state c.0 c.1)))
    (record {
      rules = n.state.rules ∙ sym (keeps.rules limit attempts);
      pending = sym (ap (λ (vs : List Write). due 0 (length vs)) none);
      ends_flush = sym (ap (λ (vs : List Write). nat_lt 0 (length vs)) none);
      flushing = still ∙ sym (ap (λ (vs : List Write). nat_lt 0 (length vs)) none);
      taken = λ t. let clash : false ≡ true = sym still ∙ t in cc;
    })
own_state limit attempts w (v ∷ vs) s u x n =
    let c = next_count limit attempts w (v ∷ vs) s u x n in
    let left : u.pending ≡ v ∷ vs = ap (λ (y : Session). y.pending) n.after in
    let same : u.flushing ≡ s.flushing = ap (λ (y : Session). y.flushing) n.after in
    let keeps = piece_keeps s u (v ∷ vs) n.after in
    let many : x.state.pending ≡ suc (suc (length vs)) = c.0 in
    let count : x.state.pending - 1 ≡ 0 + suc (length vs) = omega (arith, many) in
    subst (λ (y : SetState). IsStateOfPart limit attempts 0 u y) (sym (set_is x (record (x.state) { pending = x.state.pending - 1 }) (after_more x.rules x.state (omega (arith, many)))))
    (record {
      rules = n.state.rules ∙ sym (keeps.rules limit attempts);
      pending = count ∙ sym (ap (λ (ws : List Write). due 0 (length ws)) left);
      ends_flush = c.1 ∙ sym (ap (λ (ws : List Write). nat_lt 0 (length ws)) left ∙ some_count (length vs));
      flushing = same ∙ c.2 ∙ sym (ap (λ (ws : List Write). nat_lt 0 (length ws)) left ∙ some_count (length vs));
      taken = λ t. keeps.waits ∙ n.state.taken (sym same ∙ t);
    })

-- its rows are there with the last of its pieces
own_rows : (limit attempts : ℕ) (w : Write) (ws : List Write) (s u : Session) (x : SetState) → IsNext limit attempts w ws s u x → x.state.flushed ≡ s.committed → script_rows x.rules x.state ≡ rows_of s
    → (after_shows x.rules x.state 1).flushed ≡ u.committed
own_rows limit attempts w [] s u x n old rows =
    let c = next_count limit attempts w [] s u x n in
    let settles : Settles true s u = subst (λ (b : Bool). Settles b s u) c.2 n.after in
    let none : s.waits ≡ 0 = n.state.taken c.2 in
    let all : rows_of s ≡ s.dataset.shape.rows = omega (arith, none) in
    ap (λ (t : ScriptState). t.flushed) (after_last x.rules x.state c.0 c.1) ∙ rows ∙ all ∙ sym (ap (λ (v : Session). v.committed) settles.1)
own_rows limit attempts w (v ∷ vs) s u x n old rows =
    let many : x.state.pending ≡ suc (suc (length vs)) = (next_count limit attempts w (v ∷ vs) s u x n).0 in
    ap (λ (t : ScriptState). t.flushed) (after_more x.rules x.state (omega (arith, many))) ∙ old ∙ sym (ap (λ (y : Session). y.committed) n.after)

-- ---- All parts

behind_states : (limit attempts before : ℕ) (ss : List Session) (xs : List SetState) → 1 ≤ before → AreStatesOf limit attempts before ss xs → AreStatesOf limit attempts (before - 1) ss (shown_sets 1 xs)
behind_states limit attempts before [] [] low h = tt
behind_states limit attempts before [] (x ∷ xs) low h = absurd h
behind_states limit attempts before (s ∷ ss) [] low h = absurd h
behind_states limit attempts before (s ∷ ss) (x ∷ xs) low h =
    let next : before + length s.pending - 1 ≡ before - 1 + length s.pending = omega (arith, low) in
    let later = behind_states limit attempts (before + length s.pending) ss xs (omega (arith, low)) h.1 in
    (passed_state limit attempts before s x (inr low) h.0, subst (λ (k : ℕ). AreStatesOf limit attempts k ss (shown_sets 1 xs)) next later)

pub shown_states : (limit attempts : ℕ) (w : Write) (ss uu : List Session) (xs : List SetState) → AreShown w ss uu → AreStatesOf limit attempts 0 ss xs → AreStatesOf limit attempts 0 uu (shown_sets 1 xs)
shown_states limit attempts w [] uu xs x h = absurd x
shown_states limit attempts w (s ∷ ss) [] xs x h = absurd x
shown_states limit attempts w (s ∷ ss) (u ∷ uu) [] x h = absurd h
shown_states limit attempts w (s ∷ ss) (u ∷ uu) (y ∷ ys) x h = elim x [
  | inl z ↦
      let none : length s.pending ≡ 0 = ap length z.0 in
      let same : length u.pending ≡ length s.pending = ap (λ (v : Session). length v.pending) z.1 in
      let here : 0 + length s.pending ≡ 0 = omega arith in
      let there : 0 ≡ 0 + length u.pending = omega arith in (
        subst (λ (v : Session). IsStateOfPart limit attempts 0 v (shown_set y)) (sym z.1) (passed_state limit attempts 0 s y (inl none) h.0),
        subst (λ (k : ℕ). AreStatesOf limit attempts k uu (shown_sets 1 ys)) there
            (shown_states limit attempts w ss uu ys z.2 (subst (λ (k : ℕ). AreStatesOf limit attempts k ss ys) here h.1)),
      )
  | inr z ↦
      let some : length s.pending ≡ suc (length z.0) = ap length z.1 in
      let left : length u.pending ≡ length z.0 = ap length (piece_left s u z.0 z.2) in
      let there : 0 + length s.pending - 1 ≡ 0 + length u.pending = omega arith in (
        own_state limit attempts w z.0 s u y (record { pending = z.1; after = z.2; state = h.0 }),
        subst (λ (k : ℕ). AreStatesOf limit attempts k uu (shown_sets 1 ys)) there
            (subst (λ (vs : List Session). AreStatesOf limit attempts (0 + length s.pending - 1) vs (shown_sets 1 ys)) (sym z.3) (behind_states limit attempts (0 + length s.pending) ss ys (omega (arith, some)) h.1)),
      )
]

pub part_is : (s t : Session) → ◌≡◌ {A = Option Session} (Some s) (Some t) → s ≡ t
part_is s t e = cc

behind_rows : (limit attempts before : ℕ) (ss : List Session) (xs : List SetState) → 1 ≤ before → AreStatesOf limit attempts before ss xs → (d : ℕ) (s : Session) (x : SetState) → slice_get ss d ≡ Some s → slice_get xs d ≡ Some x
    → (after_shows x.rules x.state 1).flushed ≡ x.state.flushed
behind_rows limit attempts before [] [] low h d s x there at = absurd (cc)
behind_rows limit attempts before [] (y ∷ ys) low h d s x there at = absurd h
behind_rows limit attempts before (t ∷ ss) [] low h d s x there at = absurd h
behind_rows limit attempts before (t ∷ ss) (y ∷ ys) low h zero s x there at =
    subst (λ (z : SetState). (after_shows z.rules z.state 1).flushed ≡ z.state.flushed) (got_is y x at) (passed_rows limit attempts before t y (inr low) h.0)
behind_rows limit attempts before (t ∷ ss) (y ∷ ys) low h (suc d) s x there at = behind_rows limit attempts (before + length t.pending) ss ys (omega (arith, low)) h.1 d s x there at

-- each dataset's rows are those of its part, after the piece as before it
pub shown_rows : (limit attempts : ℕ) (w : Write) (ss uu : List Session) (xs : List SetState) → AreShown w ss uu → AreStatesOf limit attempts 0 ss xs → (d : ℕ) (s u : Session) (x : SetState)
    → slice_get ss d ≡ Some s → slice_get uu d ≡ Some u → slice_get xs d ≡ Some x → x.state.flushed ≡ s.committed → script_rows x.rules x.state ≡ rows_of s → (after_shows x.rules x.state 1).flushed ≡ u.committed
shown_rows limit attempts w [] uu xs sh h d s u x a b c old rows = absurd sh
shown_rows limit attempts w (t ∷ ss) [] xs sh h d s u x a b c old rows = absurd sh
shown_rows limit attempts w (t ∷ ss) (v ∷ uu) [] sh h d s u x a b c old rows = absurd h
shown_rows limit attempts w (t ∷ ss) (v ∷ uu) (y ∷ ys) sh h zero s u x a b c old rows =
    let own : IsStateOfPart limit attempts 0 s x =
    subst (λ (q : Session). IsStateOfPart limit attempts 0 q x) (part_is t s a) (subst (λ (z : SetState). IsStateOfPart limit attempts 0 t z) (got_is y x c) h.0) in
    elim sh [
      | inl z ↦
          let none : length s.pending ≡ 0 = ap (λ (q : Session). length q.pending) (sym (part_is t s a)) ∙ ap length z.0 in
          let same : u ≡ s = sym (part_is v u b) ∙ z.1 ∙ part_is t s a in
          passed_rows limit attempts 0 s x (inl none) own ∙ old ∙ sym (ap (λ (q : Session). q.committed) same)
      | inr z ↦
          let pending : s.pending ≡ w ∷ z.0 = ap (λ (q : Session). q.pending) (sym (part_is t s a)) ∙ z.1 in
          let after : AfterPiece s z.0 u = subst (λ (q : Session). AfterPiece q z.0 u) (part_is t s a) (subst (λ (q : Session). AfterPiece t z.0 q) (part_is v u b) z.2) in
          own_rows limit attempts w z.0 s u x (record { pending = pending; after = after; state = own }) old rows
    ]
shown_rows limit attempts w (t ∷ ss) (v ∷ uu) (y ∷ ys) sh h (suc d) s u x a b c old rows = elim sh [
  | inl z ↦
      let none : length t.pending ≡ 0 = ap length z.0 in
      let here : 0 + length t.pending ≡ 0 = omega arith in
      shown_rows limit attempts w ss uu ys z.2 (subst (λ (k : ℕ). AreStatesOf limit attempts k ss ys) here h.1) d s u x a b c old rows
  | inr z ↦
      let some : length t.pending ≡ suc (length z.0) = ap length z.1 in
      let same : s ≡ u = part_is s u (sym a ∙ ap (λ (vs : List Session). slice_get vs d) (sym z.3) ∙ b) in
      behind_rows limit attempts (0 + length t.pending) ss ys (omega (arith, some)) h.1 d s x a c ∙ old ∙ ap (λ (q : Session). q.committed) same
]

-- a part after the piece was one before it
pub record WasPart (ss : List Session) (d : ℕ) (u : Session) : Type 0 where
  pub was : Session
  pub there : slice_get ss d ≡ Some was
  pub keeps : KeepsPart was u

keeps_self : (s u : Session) → u ≡ s → KeepsPart s u
keeps_self s u e = subst (λ (v : Session). KeepsPart s v) (sym e) (record { rules = λ l a. refl; polling = λ l a. refl; waits = refl })

pub was_part : (w : Write) (ss uu : List Session) → AreShown w ss uu → (d : ℕ) (u : Session) → slice_get uu d ≡ Some u → WasPart ss d u
was_part w [] uu x d u b = absurd x
was_part w (s ∷ ss) [] x d u b = absurd x
was_part w (s ∷ ss) (v ∷ uu) x zero u b = elim x [
  | inl y ↦ record { was = s; there = refl; keeps = keeps_self s u (sym (part_is v u b) ∙ y.1) }
  | inr y ↦ record { was = s; there = refl; keeps = subst (λ (q : Session). KeepsPart s q) (part_is v u b) (piece_keeps s v y.0 y.2) }
]
was_part w (s ∷ ss) (v ∷ uu) x (suc d) u b = elim x [
  | inl y ↦ let p = was_part w ss uu y.2 d u b in record { was = p.was; there = p.there; keeps = p.keeps }
  | inr y ↦ record { was = u; there = ap (λ (vs : List Session). slice_get vs d) (sym y.3) ∙ b; keeps = keeps_self u u refl }
]
