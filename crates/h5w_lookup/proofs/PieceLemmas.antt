-- A block in pieces of at most 512 bytes.
use Rattle.std.proofs.Common.{◌≡◌, ℕ, zero, suc, ◌+◌, ◌-◌, ◌/◌, ◌<◌, ◌≤◌, min, cond, List, [], ◌++◌, append_assoc, length, Some, Result, Ok, Err, refl, sym, ◌∙◌, ap, arith, add-one, subst}
use Rattle.std.specs.Prelude.{◌==◌}
use Rattle.std.specs.Result.{IfOk}
use Rattle.std.proofs.lemmas.List.{append-nil}
use Rattle.std.proofs.lemmas.Bool.{cond_both, eqb-true, eqb-false}
use Rattle.h5w_model.specs.Programs.{Prog, ret, whole, counted, stored, bind, and_then, look_pieces, cut_up, below_end, next_look, fed}
use Rattle.h5w_laws.proofs.LoweringLemmas.{pieces_bind}
use Rattle.h5w_lookup.specs.Looks.{plain}
use Rattle.h5w_lookup.specs.Gathering.{gather_from, cut_behind}

-- what follows a look for m of n bytes that gave these
abbrev after_piece : ℕ → ℕ → ℕ → List ℕ → List ℕ → Prog (List ℕ)
after_piece fuel place rest got b = cond (length b == min 512 rest) (look_pieces fuel (place + 512) (rest - 512) (got ++ b) ret) (ret (got ++ b))

begins : (fuel place rest : ℕ) (got : List ℕ) → 0 < rest → look_pieces (suc fuel) place rest got ret ≡ whole place (min 512 rest) (after_piece fuel place rest got)
begins fuel place zero got h = absurd (omega arith)
begins fuel place (suc rest) got h = refl

-- a range that is not empty begins with a look
pub gather_begins : (place rest : ℕ) (got : List ℕ) → 0 < rest → gather_from place rest got ≡ whole place (min 512 rest) (after_piece (rest / 512) place rest got)
unfolding gather_from
gather_begins place rest got h = rw add-one (begins (rest / 512) place rest got h)

pub gather_wants : (place rest len : ℕ) (got : List ℕ) → 0 < rest → len ≡ min 512 rest → next_look (gather_from place rest got) ≡ Some (place, len)
gather_wants place rest len got h e = ap next_look (gather_begins place rest got h) ∙ ap (λ n. Some (place, n)) (sym e)

pieces_end : (fuel place : ℕ) (got : List ℕ) → look_pieces fuel place 0 got ret ≡ ret got
pieces_end zero place got = refl
pieces_end (suc fuel) place got = refl

-- the last piece of a range
pub gather_last : (place rest : ℕ) (got b : List ℕ) → 0 < rest → rest ≤ 512 → fed b (gather_from place rest got) ≡ ret (got ++ b)
gather_last place rest got b h small =
    ap (fed b) (gather_begins place rest got h)
    ∙ cond_both (length b == min 512 rest) (look_pieces (rest / 512) (place + 512) (rest - 512) (got ++ b) ret) (ret (got ++ b)) (λ (p : Prog (List ℕ)). p ≡ ret (got ++ b))
    (λ t. let e : rest - 512 ≡ 0 = omega arith in rw e (pieces_end (rest / 512) (place + 512) (got ++ b)))
    (λ t. refl)

-- a piece that is shorter than 512 bytes, where more was asked for, is the last
pub gather_short : (place rest : ℕ) (got b : List ℕ) → 512 ≤ rest → length b < 512 → fed b (gather_from place rest got) ≡ ret (got ++ b)
gather_short place rest got b h short =
    ap (fed b) (gather_begins place rest got (omega arith))
    ∙ cond_both (length b == min 512 rest) (look_pieces (rest / 512) (place + 512) (rest - 512) (got ++ b) ret) (ret (got ++ b)) (λ (p : Prog (List ℕ)). p ≡ ret (got ++ b))
    (λ t. let e : length b ≡ min 512 rest = eqb-true (length b) (min 512 rest) t in absurd (omega arith))
    (λ t. refl)

-- behind a full piece the range goes on
pub gather_more : (place rest : ℕ) (got b : List ℕ) → 512 < rest → length b ≡ 512 → fed b (gather_from place rest got) ≡ gather_from (place + 512) (rest - 512) (got ++ b)
unfolding gather_from
gather_more place rest got b h full =
    ap (fed b) (gather_begins place rest got (omega arith))
    ∙ cond_both (length b == min 512 rest) (look_pieces (rest / 512) (place + 512) (rest - 512) (got ++ b) ret) (ret (got ++ b)) (λ (p : Prog (List ℕ)). p ≡ look_pieces ((rest - 512) / 512 + 1) (place + 512) (rest - 512) (got ++ b) ret)
    (λ t. let e : rest / 512 ≡ (rest - 512) / 512 + 1 = omega arith in ap (λ n. look_pieces n (place + 512) (rest - 512) (got ++ b) ret) e)
    (λ t. let e : length b ≡ min 512 rest = omega arith in absurd (eqb-false (length b) (min 512 rest) t e))

-- a range with what follows it goes on as the range does
pub fed_gather : {A : Type 0} (place rest : ℕ) (got b : List ℕ) (f : List ℕ → Prog A) → 0 < rest → fed b (bind (gather_from place rest got) f) ≡ bind (fed b (gather_from place rest got)) f
fed_gather place rest got b f h = rw (gather_begins place rest got h) refl

-- and wants the same look
pub wants_gather : {A : Type 0} (place rest len : ℕ) (got : List ℕ) (f : List ℕ → Prog A) → 0 < rest → len ≡ min 512 rest → next_look (bind (gather_from place rest got) f) ≡ Some (place, len)
wants_gather place rest len got f h e = ap (λ (p : Prog (List ℕ)). next_look (bind p f)) (gather_begins place rest got h) ∙ ap (λ n. Some (place, n)) (sym e)

-- a block in looks of at most 512 bytes is such a range
pub cut_up_is : {A : Type 0} (place len : ℕ) (next : List ℕ → Prog A) → cut_up place len next ≡ bind (cut_behind [] place len) next
unfolding gather_from
cut_up_is place len next = sym (pieces_bind (below_end place len / 512 + 1) place (below_end place len) [] ret next)

-- the same behind some bytes
pub pieces_behind : {A : Type 0} (fuel place len : ℕ) (first got : List ℕ) (next : List ℕ → Prog A)
    → look_pieces fuel place len (first ++ got) next ≡ look_pieces fuel place len got (λ b. next (first ++ b))
pieces_behind zero place len first got next = refl
pieces_behind (suc fuel) place zero first got next = refl
pieces_behind {A} (suc fuel) place (suc rest) first got next =
    ap (whole place (min 512 (suc rest))) (λ i b. (
    ap (λ (x : List ℕ). cond (length b == min 512 (suc rest)) (look_pieces fuel (place + 512) (suc rest - 512) x next) (next x)) (append_assoc first got b)
    ∙ ap (λ (q : Prog A). cond (length b == min 512 (suc rest)) q (next (first ++ (got ++ b)))) (pieces_behind fuel (place + 512) (suc rest - 512) first (got ++ b) next)
    ) i)

pub cut_up_behind : {A : Type 0} (place len : ℕ) (first : List ℕ) (next : List ℕ → Prog A) → cut_up place len (λ b. next (first ++ b)) ≡ bind (cut_behind first place len) next
unfolding gather_from
cut_up_behind place len first next =
    sym (pieces_behind (below_end place len / 512 + 1) place (below_end place len) first [] next)
    ∙ ap (λ (x : List ℕ). look_pieces (below_end place len / 512 + 1) place (below_end place len) x next) (append-nil first)
    ∙ sym (pieces_bind (below_end place len / 512 + 1) place (below_end place len) first ret next)

-- ---- Programs of which no block is kept

pub plain_bind : {A B : Type 0} (p : Prog A) (f : A → Prog B) → plain (bind p f) ≡ bind (plain p) (λ a. plain (f a))
plain_bind (ret a) f = refl
plain_bind (whole at len next) f =
    ap (cut_up at len) (λ i b. plain_bind (next b) f i)
    ∙ sym (pieces_bind (below_end at len / 512 + 1) at (below_end at len) [] (λ b. plain (next b)) (λ a. plain (f a)))
plain_bind (counted at counts next) f = ap (whole at (below_end at 512)) (λ i b. plain_bind (next (counts b)) f i)
plain_bind (stored kind at len next) f =
    ap (cut_up at len) (λ i b. plain_bind (next b) f i)
    ∙ sym (pieces_bind (below_end at len / 512 + 1) at (below_end at len) [] (λ b. plain (next b)) (λ a. plain (f a)))

-- ---- One program after another

pub then_assoc : {A B C E : Type 0} (p : Prog (Result A E)) (f : A → Prog (Result B E)) (g : B → Prog (Result C E)) → and_then (and_then p f) g ≡ and_then p (λ a. and_then (f a) g)
then_assoc (ret (Ok a)) f g = refl
then_assoc (ret (Err e)) f g = refl
then_assoc (whole at len next) f g = ap (whole at len) (λ i b. then_assoc (next b) f g i)
then_assoc (counted at counts next) f g = ap (counted at counts) (λ i b. then_assoc (next b) f g i)
then_assoc (stored kind at len next) f g = ap (stored kind at len) (λ i b. then_assoc (next b) f g i)

-- ---- Answers

-- a call's answer, of which more is known
pub along : {X Y E : Type 0} (view : X → Y) (r : Result X E) (x y : Y) → IfOk r (λ w. view w ≡ x) → x ≡ y → IfOk r (λ w. view w ≡ y)
along view (Ok w) x y h e = h ∙ e
along view (Err f) x y h e = h

-- what is answered is known, and this holds of it
pub told : {A E : Type 0} (r : Result A E) (a : A) (P : A → Type 0) → IfOk r (λ v. v ≡ a) → P a → IfOk r P
told (Ok v) a P e p = subst P (sym e) p
told (Err f) a P h p = h
