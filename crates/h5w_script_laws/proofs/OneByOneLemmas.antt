-- Looks one by one are one line.
use Rattle.std.proofs.Common.{◌≡◌, ◌⊎◌, ℕ, zero, suc, ◌+◌, List, [], ◌∷◌, ◌++◌, replicate, Contains, Option, Some, None, refl, sym, ◌∙◌, ap, subst, inl, inr, arith}
use Rattle.std.proofs.lemmas.List.Elements.{Contains-append_cases, Contains-append_left, Contains-push, Contains-push_cases}
use Rattle.h5w_model.specs.Lawful.{Rules, looks, CallKind, for_rows, for_values, Calling, ReaderState, ScriptState, reader_in, with_reader, after_looks, looked, Allowed, AnswerAllowed, CallAllowed, LookAllowed, next_state}
use Rattle.h5w_model.specs.declared.reply.Reply.{Reply}
use Rattle.h5w_model.specs.declared.reply.Reply.TheVariants as replies
use Rattle.h5w_script_laws.proofs.PutLemmas.{put_there, put_twice}
use Rattle.h5w_script_laws.specs.OneByOne.{LooksOn, LookedOn, EndsLine, LooksOneByOne}

-- ---- A call under way

-- a reader after j looks of its call
abbrev after_some : ScriptState → ReaderState → Calling → ℕ → ReaderState
after_some s x c j = record x { call = Some (looked s c j) }

-- a reader of a state has an unfinished call, and after j looks of it the state is this
record Under (s before : ScriptState) (r j : ℕ) : Type 0 where
  reader : ReaderState
  call : Calling
  there : reader_in r s.readers ≡ Some reader
  calling : reader.call ≡ Some call
  is : before ≡ with_reader s r (after_some s reader call j)

one_more : (s : ScriptState) (c : Calling) (j : ℕ) → looked s (looked s c j) 1 ≡ looked s c (j + 1)
one_more s c j =
    let more : c.looks + j + 1 ≡ c.looks + (j + 1) = omega arith in
    let next : suc j ≡ j + 1 = omega arith in
    λ i. record c { looks = more i; at_looks = replicate (next i) s.flushed ++ c.at_looks }

-- the state after a line of looks of a reader
abbrev next_by : ScriptState → ℕ → ℕ → Reply → Option ReaderState → ScriptState
next_by s r k reply o = elim o as (λ _. ScriptState) [ None ↦ s | Some x ↦ with_reader s r (after_looks s k x reply) ]

-- ---- One more look

-- what a look may be given after j of them, the line of k looks may be given
more_answer : (g : Rules) (s : ScriptState) (r j k : ℕ) (x : ReaderState) (c : Calling) (kind : CallKind) (reply : Reply) → EndsLine reply k (j + 1)
    → AnswerAllowed g (with_reader s r (after_some s x c j)) r (after_some s x c j) (looked s c j) 1 kind reply → AnswerAllowed g s r x c k kind reply
more_answer g s r j k x c for_rows reply ends (inl (some, inl h)) =
    inl (omega (arith, ends.within), inl (record { rows = h.rows; is = h.is; flushed = seen_once j h.rows h.flushed; since_begin = h.since_begin; seen = h.seen }))
  where
    first_one : (n : ℕ) (xs : List ℕ) → s.flushed ≡ n → Contains (s.flushed ∷ xs) n
    first_one n xs e = Contains-append_left (s.flushed ∷ []) xs n (subst (λ (m : ℕ). Contains (s.flushed ∷ []) m) e (Contains-push [] s.flushed))

    either : (n : ℕ) (xs : List ℕ) → Contains (s.flushed ∷ xs) n → (s.flushed ≡ n) ⊎ Contains xs n
    either n xs h = elim (Contains-append_cases (s.flushed ∷ []) xs n h) [
      | inl a ↦ elim (Contains-push_cases [] s.flushed n a) [ inl b ↦ absurd (omega (arith, b.1)) | inr e ↦ inl e ]
      | inr b ↦ inr b
    ]

    seen_once : (i n : ℕ) → Contains (s.flushed ∷ replicate i s.flushed ++ c.at_looks) n → Contains (s.flushed ∷ c.at_looks) n
    seen_once zero n h = h
    seen_once (suc i) n h = elim (either n (replicate (suc i) s.flushed ++ c.at_looks) h) [ inl e ↦ first_one n c.at_looks e | inr b ↦ seen_once i n b ]
more_answer g s r j k x c for_rows reply ends (inl (some, inr h)) = inl (omega (arith, ends.within), inr (record { is = h.is; rises = h.rises }))
more_answer g s r j k x c for_rows reply ends (inr h) = inr (record { is = h.is; fewer = omega (arith, h.fewer, ends.looking r h.is) })
more_answer g s r j k x c (for_values from count) reply ends (inl (some, h)) = inl (omega (arith, ends.within), h)
more_answer g s r j k x c (for_values from count) reply ends (inr h) = inr (record { is = h.is; fewer = omega (arith, h.fewer, ends.looking r h.is) })

-- a reader is the same after a look that ends a line as after the line
abbrev SameAfter : ScriptState → ℕ → ℕ → ℕ → ReaderState → Calling → Reply → Type 0
SameAfter s r j k x c reply = after_looks (with_reader s r (after_some s x c j)) 1 (after_some s x c j) reply ≡ after_looks s k x reply

looking_after : (s : ScriptState) (r j k reader : ℕ) (x : ReaderState) (c : Calling) → x.call ≡ Some c → k ≡ j + 1 → SameAfter s r j k x c (replies.Looking reader)
looking_after s r j k reader x c calling e =
    ap (λ (d : Calling). record x { call = Some d }) (one_more s c j ∙ ap (looked s c) (sym e))
    ∙ sym (ap (λ (o : Option Calling). record x { call = elim o as (λ _. Option Calling) [ None ↦ None | Some d ↦ Some (looked s d k) ] }) calling)

more_reader : (g : Rules) (s : ScriptState) (r j k : ℕ) (x : ReaderState) (c : Calling) (kind : CallKind) (reply : Reply) → x.call ≡ Some c → EndsLine reply k (j + 1)
    → AnswerAllowed g (with_reader s r (after_some s x c j)) r (after_some s x c j) (looked s c j) 1 kind reply → SameAfter s r j k x c reply
more_reader g s r j k x c for_rows reply calling ends (inl (some, inl h)) = subst (λ (a : Reply). SameAfter s r j k x c a) (sym h.is) refl
more_reader g s r j k x c for_rows reply calling ends (inl (some, inr h)) = subst (λ (a : Reply). SameAfter s r j k x c a) (sym h.is) refl
more_reader g s r j k x c for_rows reply calling ends (inr h) = subst (λ (a : Reply). SameAfter s r j k x c a) (sym h.is) (looking_after s r j k r x c calling (ends.looking r h.is))
more_reader g s r j k x c (for_values from count) reply calling ends (inl (some, h)) = subst (λ (a : Reply). SameAfter s r j k x c a) (sym h) refl
more_reader g s r j k x c (for_values from count) reply calling ends (inr h) = subst (λ (a : Reply). SameAfter s r j k x c a) (sym h.is) (looking_after s r j k r x c calling (ends.looking r h.is))

-- ---- The looks before

-- the state after a look that looks on
looking_next : (g : Rules) (t : ScriptState) (r reader : ℕ) (x : ReaderState) (c : Calling) → reader_in r t.readers ≡ Some x → x.call ≡ Some c
    → next_state g t (looks r 1) (replies.Looking reader) ≡ with_reader t r (record x { call = Some (looked t c 1) })
looking_next g t r reader x c there calling =
    ap (next_by t r 1 (replies.Looking reader)) there
    ∙ ap (λ (o : Option Calling). with_reader t r (record x { call = elim o as (λ _. Option Calling) [ None ↦ None | Some d ↦ Some (looked t d 1) ] })) calling

-- a reader that looks on has a call
record HasCall (s : ScriptState) (r : ℕ) : Type 0 where
  reader : ReaderState
  call : Calling
  there : reader_in r s.readers ≡ Some reader
  calling : reader.call ≡ Some call

has_call : (g : Rules) (s : ScriptState) (r reader : ℕ) (o : Option ReaderState) → reader_in r s.readers ≡ o → LookAllowed g s r 1 o (replies.Looking reader) → HasCall s r
has_call g s r reader None e h = absurd (cc)
has_call g s r reader (Some x) e h = of_call x.call refl h
  where
    of_call : (d : Option Calling) → x.call ≡ d → CallAllowed g s r x 1 d (replies.Looking reader) → HasCall s r
    of_call None f h = absurd (cc)
    of_call (Some c) f h = record { reader = x; call = c; there = e; calling = f }

first_under : (g : Rules) (s after : ScriptState) (r : ℕ) → LooksOn g s r after → Under s after r 1
first_under g s after r on =
    let h = has_call g s r on.reader (reader_in r s.readers) refl on.allowed in
    record {
      reader = h.reader;
      call = h.call;
      there = h.there;
      calling = h.calling;
      is = on.is ∙ looking_next g s r on.reader h.reader h.call h.there h.calling;
    }

more_under : (g : Rules) (s before after : ScriptState) (r j : ℕ) → Under s before r j → LooksOn g before r after → Under s after r (j + 1)
more_under g s before after r j u on =
    let x = u.reader in
    let c = u.call in
    let then : ScriptState = with_reader s r (after_some s x c j) in
    let goes : next_state g then (looks r 1) (replies.Looking on.reader) ≡ with_reader then r (record x { call = Some (looked then (looked s c j) 1) }) =
    looking_next g then r on.reader (after_some s x c j) (looked s c j) (put_there r (after_some s x c j) s.readers) refl in
    record {
      reader = x;
      call = c;
      there = u.there;
      calling = u.calling;
      is = on.is ∙ ap (λ (t : ScriptState). next_state g t (looks r 1) (replies.Looking on.reader)) u.is ∙ goes
          ∙ ap (λ (d : Calling). with_reader then r (record x { call = Some d })) (one_more s c j)
          ∙ ap (λ (xs : List (ℕ × ReaderState)). record s { readers = xs }) (put_twice r (after_some s x c j) (after_some s x c (j + 1)) s.readers);
    }

under : (g : Rules) (s after : ScriptState) (r j : ℕ) → LookedOn g s r j after → ((j ≡ 0) × (after ≡ s)) ⊎ Under s after r j
under g s after r zero h = inl (refl, h)
under g s after r (suc j) h =
    let next : j + 1 ≡ suc j = omega arith in
    elim (under g s h.0 r j h.1) [
      | inl none ↦
          let one : 1 ≡ suc j = omega (arith, none.0) in
          inr (subst (λ n. Under s after r n) one (first_under g s after r (subst (λ (t : ScriptState). LooksOn g t r after) none.1 h.2)))
      | inr u ↦ inr (subst (λ n. Under s after r n) next (more_under g s h.0 after r j u h.2))
    ]

-- ---- One line

-- a first look
first_allowed : (g : Rules) (s : ScriptState) (r k : ℕ) (o : Option ReaderState) (reply : Reply) → EndsLine reply k 1 → LookAllowed g s r 1 o reply → LookAllowed g s r k o reply
first_allowed g s r k None reply ends h = h
first_allowed g s r k (Some x) reply ends h = of_call x.call h
  where
    of_kind : (c : Calling) (kind : CallKind) → AnswerAllowed g s r x c 1 kind reply → AnswerAllowed g s r x c k kind reply
    of_kind c for_rows (inl a) = inl (ends.within, a.1)
    of_kind c for_rows (inr a) = inr (record { is = a.is; fewer = omega (arith, a.fewer, ends.looking r a.is) })
    of_kind c (for_values from count) (inl a) = inl (ends.within, a.1)
    of_kind c (for_values from count) (inr a) = inr (record { is = a.is; fewer = omega (arith, a.fewer, ends.looking r a.is) })

    of_call : (d : Option Calling) → CallAllowed g s r x 1 d reply → CallAllowed g s r x k d reply
    of_call None h = h
    of_call (Some c) h = of_kind c c.kind h

first_after : (s : ScriptState) (k : ℕ) (x : ReaderState) (reply : Reply) → EndsLine reply k 1 → after_looks s k x reply ≡ after_looks s 1 x reply
first_after s k x (replies.Looking reader) ends = ap (λ n. after_looks s n x (replies.Looking reader)) (ends.looking reader refl)
first_after s k x (replies.Rows reader rows) ends = refl
first_after s k x (replies.Values reader values) ends = refl
first_after s k x (replies.Again reader attempts) ends = refl
first_after s k x reply ends = refl

first_next : (s : ScriptState) (r k : ℕ) (o : Option ReaderState) (reply : Reply) → EndsLine reply k 1 → next_by s r k reply o ≡ next_by s r 1 reply o
first_next s r k None reply ends = refl
first_next s r k (Some x) reply ends = ap (with_reader s r) (first_after s k x reply ends)

-- a line that may be given a reply, with the same state after it as after a look at another state
record IsLine (g : Rules) (s before : ScriptState) (r k : ℕ) (reply : Reply) : Type 0 where
  allowed : Allowed g s (looks r k) reply
  same : next_state g s (looks r k) reply ≡ next_state g before (looks r 1) reply

-- a later look
later_line : (g : Rules) (s before : ScriptState) (r j k : ℕ) (reply : Reply) → Under s before r j → EndsLine reply k (j + 1) → Allowed g before (looks r 1) reply → IsLine g s before r k reply
later_line g s before r j k reply u ends h =
    let x = u.reader in
    let c = u.call in
    let then : ScriptState = with_reader s r (after_some s x c j) in
    let own = put_there r (after_some s x c j) s.readers in
    let known : Allowed g then (looks r 1) reply = subst (λ (t : ScriptState). Allowed g t (looks r 1) reply) u.is h in
    let answer : AnswerAllowed g then r (after_some s x c j) (looked s c j) 1 c.kind reply = subst (λ (o : Option ReaderState). LookAllowed g then r 1 o reply) own known in
    let line : LookAllowed g s r k (Some x) reply = subst (λ (d : Option Calling). CallAllowed g s r x k d reply) (sym (u.calling)) (more_answer g s r j k x c c.kind reply ends answer) in
    record {
      allowed = subst (λ (o : Option ReaderState). LookAllowed g s r k o reply) (sym (u.there)) line;
      same =
          ap (next_by s r k reply) u.there
          ∙ ap (with_reader s r) (sym (more_reader g s r j k x c c.kind reply u.calling ends answer))
          ∙ sym (ap (λ (xs : List (ℕ × ReaderState)). record s { readers = xs }) (put_twice r (after_some s x c j) (after_looks then 1 (after_some s x c j) reply) s.readers))
          ∙ sym (ap (next_by then r 1 reply) own)
          ∙ sym (ap (λ (t : ScriptState). next_state g t (looks r 1) reply) u.is);
    }

is_line : (g : Rules) (s before : ScriptState) (r j k : ℕ) (reply : Reply) → LookedOn g s r j before → Allowed g before (looks r 1) reply → EndsLine reply k (j + 1) → IsLine g s before r k reply
is_line g s before r j k reply on h ends =
    elim (under g s before r j on) [
      | inl none ↦
          let one : j + 1 ≡ 1 = omega (arith, none.0) in
          let first : EndsLine reply k 1 = subst (λ n. EndsLine reply k n) one ends in
          let here : Allowed g s (looks r 1) reply = subst (λ (t : ScriptState). Allowed g t (looks r 1) reply) none.1 h in
          record {
            allowed = first_allowed g s r k (reader_in r s.readers) reply first here;
            same = first_next s r k (reader_in r s.readers) reply first ∙ sym (ap (λ (t : ScriptState). next_state g t (looks r 1) reply) none.1);
          }
      | inr u ↦ later_line g s before r j k reply u ends h
    ]

pub looks_one_by_one : LooksOneByOne
looks_one_by_one = record {
  allowed = λ g s before r j k reply on h ends. (is_line g s before r j k reply on h ends).allowed;
  same = λ g s before r j k reply on h ends. (is_line g s before r j k reply on h ends).same;
}
