-- Looks that are taken one by one are the looks of one line, over all datasets of a file.
use Rattle.std.proofs.Common.{ℕ, zero, suc, ◌+◌, ◌≡◌, ◌∙◌, true, false, List, [], ◌∷◌, Option, Some, None, refl, sym, ap, subst}
use Rattle.std.specs.Prelude.{is_some, slice_get}
use Rattle.h5w_model.specs.Lawful.{Line, Rules, ReaderState, ScriptState, Allowed, after_looks, looks, next_state, reader_in, with_reader}
use Rattle.h5w_model.specs.declared.reply.Reply.{Reply}
use Rattle.h5w_model.specs.declared.reply.Reply.TheVariants as replies
use Rattle.h5w_script_laws.specs.OneByOne.{EndsLine, LookedOn}
use Rattle.h5w_script_laws.proofs.OneByOneLemmas.{looks_one_by_one}
use Rattle.h5w_script_laws.proofs.PutLemmas.{put_there}
use Rattle.h5w_several_script_laws.specs.Scripts.{FileState, SetState, AllowedAll, AllowedOf, asks, next_all, says, set_asked, set_of, sets_after, with_state}
use Rattle.h5w_several_script_laws.proofs.SetLemmas.{got_is}

-- ---- Looks one by one

-- after a line of one look that was answered that more are to be taken
pub record LooksOn (F : FileState) (r : ℕ) (after : FileState) : Type 0 where
  pub reader : ℕ
  pub allowed : AllowedAll F (asks (looks r 1)) (says (replies.Looking reader))
  pub is : after ≡ next_all F (asks (looks r 1)) (says (replies.Looking reader))

-- after so many of them
abbrev pub LookedAll : FileState → ℕ → ℕ → FileState → Type 0
LookedAll F r zero after = after ≡ F
LookedAll F r (suc j) after = (before : FileState) × LookedAll F r j before × LooksOn before r after

-- ---- One dataset's state

put_state : ℕ → ScriptState → List SetState → List SetState
put_state d s [] = []
put_state zero s (x ∷ xs) = with_state x s ∷ xs
put_state (suc d) s (x ∷ xs) = x ∷ put_state d s xs

put_own : (d : ℕ) (xs : List SetState) (x : SetState) → slice_get xs d ≡ Some x → put_state d x.state xs ≡ xs
unfolding put_state
put_own d [] x there = absurd (cc)
put_own zero (y ∷ ys) x there = ap (λ (z : SetState). with_state y z.state ∷ ys) (sym (got_is y x there))
put_own (suc d) (y ∷ ys) x there = ap (λ (zs : List SetState). y ∷ zs) (put_own d ys x there)

put_got : (d : ℕ) (s : ScriptState) (xs : List SetState) (x : SetState) → slice_get xs d ≡ Some x → slice_get (put_state d s xs) d ≡ Some (with_state x s)
unfolding put_state
put_got d s [] x there = absurd (cc)
put_got zero s (y ∷ ys) x there = ap (λ (z : SetState). Some (with_state z s)) (got_is y x there)
put_got (suc d) s (y ∷ ys) x there = put_got d s ys x there

put_next : (d : ℕ) (s : ScriptState) (xs : List SetState) (x : SetState) (line : Line) (reply : Reply) → slice_get xs d ≡ Some x → sets_after d line reply (put_state d s xs) ≡ put_state d (next_state x.rules s line reply) xs
unfolding put_state
put_next d s [] x line reply there = absurd (cc)
put_next zero s (y ∷ ys) x line reply there = ap (λ (z : SetState). with_state y (next_state z.rules s line reply) ∷ ys) (got_is y x there)
put_next (suc d) s (y ∷ ys) x line reply there = ap (λ (zs : List SetState). y ∷ zs) (put_next d s ys x line reply there)

same_choice : (k m : ℕ) (o p : Option ReaderState) → is_some o ≡ is_some p → elim o as (λ _. ℕ) [ Some y ↦ k | None ↦ m ] ≡ elim p as (λ _. ℕ) [ Some y ↦ k | None ↦ m ]
same_choice k m None None e = refl
same_choice k m (Some y) (Some z) e = refl
same_choice k m None (Some z) e = absurd (let clash : false ≡ true = e in cc)
same_choice k m (Some y) None e = absurd (let clash : true ≡ false = e in cc)

put_asked : (r other k d : ℕ) (s : ScriptState) (xs : List SetState) (x : SetState) → slice_get xs d ≡ Some x → is_some (reader_in r s.readers) ≡ is_some (reader_in r x.state.readers) → set_of r other k (put_state d s xs) ≡ set_of r other k xs
unfolding put_state
put_asked r other k d s [] x there same = refl
put_asked r other k zero s (y ∷ ys) x there same =
    same_choice k (set_of r other (suc k) ys) (reader_in r s.readers) (reader_in r y.state.readers) (same ∙ ap (λ (z : SetState). is_some (reader_in r z.state.readers)) (sym (got_is y x there)))
put_asked r other k (suc d) s (y ∷ ys) x there same =
    ap (λ (n : ℕ). elim (reader_in r y.state.readers) as (λ _. ℕ) [ Some z ↦ k | None ↦ n ]) (put_asked r other (suc k) d s ys x there same)

-- a look leaves a reader where it is
look_keeps : (g : Rules) (s : ScriptState) (r k : ℕ) (reply : Reply) (o : Option ReaderState) → reader_in r s.readers ≡ o
    → is_some (reader_in r (elim o as (λ _. ScriptState) [ None ↦ s | Some x ↦ with_reader s r (after_looks s k x reply) ]).readers) ≡ is_some o
look_keeps g s r k reply None e = ap is_some e
look_keeps g s r k reply (Some x) e = ap is_some (put_there r (after_looks s k x reply) s.readers)

-- ---- The dataset that is asked

-- a dataset was looked at so often
record Under (F before : FileState) (r j d : ℕ) (x : SetState) (s : ScriptState) : Type 0 where
  there : slice_get F.sets d ≡ Some x
  asked : set_asked F r ≡ d
  looked : LookedOn x.rules x.state r j s
  readers : is_some (reader_in r s.readers) ≡ is_some (reader_in r x.state.readers)
  is : before ≡ record F { sets = put_state d s F.sets }

asked_before : (F before : FileState) (r j d : ℕ) (x : SetState) (s : ScriptState) → Under F before r j d x s → set_asked before r ≡ d
asked_before F before r j d x s u = ap (λ (G : FileState). set_asked G r) u.is ∙ put_asked r F.used 0 d s F.sets x u.there u.readers ∙ u.asked

-- what may be replied to a look may be replied by the dataset's own script
own_look : (F before : FileState) (r j d : ℕ) (x : SetState) (s : ScriptState) (reply : Reply) → Under F before r j d x s → AllowedOf before (set_asked before r) (looks r 1) (says reply) → Allowed x.rules s (looks r 1) reply
own_look F before r j d x s reply u a =
    let at : slice_get before.sets d ≡ Some (with_state x s) = ap (λ (G : FileState). slice_get G.sets d) u.is ∙ put_got d s F.sets x u.there in
    let same : a.set ≡ with_state x s = got_is a.set (with_state x s) (sym a.there ∙ ap (slice_get before.sets) (asked_before F before r j d x s u) ∙ at) in
    let own : reply ≡ a.own = said_is reply a.own a.is in
    subst (λ (q : Reply). Allowed x.rules s (looks r 1) q) (sym own) (subst (λ (y : SetState). Allowed y.rules y.state (looks r 1) a.own) same a.allowed)
  where
    said_is : (p q : Reply) → says p ≡ says q → p ≡ q
    said_is p q e = cc

-- the state after a look
next_look : (F before : FileState) (r j d : ℕ) (x : SetState) (s : ScriptState) (reply : Reply) → Under F before r j d x s
    → next_all before (asks (looks r 1)) (says reply) ≡ record F { sets = put_state d (next_state x.rules s (looks r 1) reply) F.sets }
next_look F before r j d x s reply u =
    ap (λ (e : ℕ). record before { sets = sets_after e (looks r 1) reply before.sets }) (asked_before F before r j d x s u)
    ∙ ap (λ (G : FileState). record G { sets = sets_after d (looks r 1) reply G.sets }) u.is
    ∙ ap (λ (ys : List SetState). record F { sets = ys }) (put_next d s F.sets x (looks r 1) reply u.there)

under_first : (F : FileState) (r : ℕ) (x : SetState) → slice_get F.sets (set_asked F r) ≡ Some x → Under F F r 0 (set_asked F r) x x.state
under_first F r x there = record {
  there = there;
  asked = refl;
  looked = refl;
  readers = refl;
  is = ap (λ (ys : List SetState). record F { sets = ys }) (sym (put_own (set_asked F r) F.sets x there));
}

under_more : (F before after : FileState) (r j d : ℕ) (x : SetState) (s : ScriptState) (u : Under F before r j d x s) (on : LooksOn before r after)
    → Under F after r (suc j) d x (next_state x.rules s (looks r 1) (replies.Looking on.reader))
under_more F before after r j d x s u on = record {
  there = u.there;
  asked = u.asked;
  looked = (s, u.looked, record { reader = on.reader; allowed = own_look F before r j d x s (replies.Looking on.reader) u on.allowed; is = refl });
  readers = look_keeps x.rules s r 1 (replies.Looking on.reader) (reader_in r s.readers) refl ∙ u.readers;
  is = on.is ∙ next_look F before r j d x s (replies.Looking on.reader) u;
}

-- the dataset is there
asked_set : (F before : FileState) (r j : ℕ) (reply : Reply) → LookedAll F r j before → AllowedOf before (set_asked before r) (looks r 1) (says reply) → (x : SetState) × (slice_get F.sets (set_asked F r) ≡ Some x)
asked_set F before r zero reply e a = (a.set, ap (λ (G : FileState). slice_get G.sets (set_asked G r)) (sym e) ∙ a.there)
asked_set F before r (suc j) reply h a = asked_set F h.0 r j (replies.Looking h.2.reader) h.1 h.2.allowed

under : (F before : FileState) (r j : ℕ) (x : SetState) → slice_get F.sets (set_asked F r) ≡ Some x → LookedAll F r j before → (s : ScriptState) × Under F before r j (set_asked F r) x s
under F before r zero x there e = (x.state, subst (λ (G : FileState). Under F G r 0 (set_asked F r) x x.state) (sym e) (under_first F r x there))
under F before r (suc j) x there h =
    let u = under F h.0 r j x there h.1 in
    (next_state x.rules u.0 (looks r 1) (replies.Looking h.2.reader), under_more F h.0 before r j (set_asked F r) x u.0 u.1 h.2)

-- ---- The line

-- a line of at most k looks may be given what the last of them may be given, and the state after it is the same
pub record IsLine (F before : FileState) (r k : ℕ) (reply : Reply) : Type 0 where
  pub allowed : AllowedAll F (asks (looks r k)) (says reply)
  pub same : next_all F (asks (looks r k)) (says reply) ≡ next_all before (asks (looks r 1)) (says reply)

pub is_line : (F before : FileState) (r j k : ℕ) (reply : Reply) → LookedAll F r j before → AllowedAll before (asks (looks r 1)) (says reply) → EndsLine reply k (j + 1) → IsLine F before r k reply
is_line F before r j k reply on h ends =
    let d : ℕ = set_asked F r in
    let set = asked_set F before r j reply on h in
    let x = set.0 in
    let u = under F before r j x set.1 on in
    let own = own_look F before r j d x u.0 reply u.1 h in
    let line = looks_one_by_one.allowed x.rules x.state u.0 r j k reply u.1.looked own ends in
    let same = looks_one_by_one.same x.rules x.state u.0 r j k reply u.1.looked own ends in
    let was : sets_after d (looks r k) reply F.sets ≡ put_state d (next_state x.rules x.state (looks r k) reply) F.sets =
    ap (sets_after d (looks r k) reply) (sym (put_own d F.sets x set.1)) ∙ put_next d x.state F.sets x (looks r k) reply set.1 in
    record {
      allowed = record { set = x; there = set.1; own = reply; is = refl; allowed = line };
      same =
          ap (λ (ys : List SetState). record F { sets = ys }) (was ∙ ap (λ (t : ScriptState). put_state d t F.sets) same)
          ∙ sym (next_look F before r j d x u.0 reply u.1);
    }
