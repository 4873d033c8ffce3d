-- What a reader's calls make of its place.
use Rattle.std.proofs.Common.{◌≡◌, ℕ, ◌+◌, ◌≤◌, List, [], Option, Some, None, Result, Ok, Err, ℤ, nat_lt, option_map, sym, refl, ap, ◌∙◌, subst, inl, inr, arith}
use Rattle.std.specs.Prelude.{IsSome, ◌==◌, if◌then◌else◌}
use Rattle.std.proofs.lemmas.Bool.{cases_lt, cond-true, cond-false, lt-ltb, ne_eqb}
use Rattle.h5w_model.specs.Numbers.{range}
use Rattle.h5w_model.specs.Programs.{Prog, ret, whole, counted, stored, next_look}
use Rattle.h5w_model.specs.Tables.{Reading}
use Rattle.h5w_model.specs.Calls.{rows_seen, values_call}
use Rattle.h5w_model.specs.Unfinished.{Unfinished, rows_left, values_left, wanted, fed_left, values_program, Reader, with_left}
use Rattle.h5w_model.specs.declared.refusal.ReadError.{ReadError}
use Rattle.h5w_model.specs.declared.reply.Reply.TheVariants as replies
use Rattle.h5w_script_laws.specs.Laws.{reply_to, after_look}
use Rattle.h5w_reader.specs.Readers.{BegunRead, read_refusal}
use Rattle.h5w_reader.specs.declared.step.ReadBegin.{ReadBegin}
use Rattle.h5w_reader.specs.declared.step.ReadBegin.TheVariants as begins
use Rattle.h5w_core.specs.Readers.{LooksTo, ReadGives, ReadsTo, ReadLooks, looked}

-- ---- Reads

-- not refused: no call is unfinished, and the rows were seen
record Accepts (x : Reader) (from count : ℕ) : Type 0 where
  idle : x.left ≡ None
  inside : from + count ≤ rows_seen x.known

accepts_by : (left : Option Unfinished) (rows from count : ℕ) → elim left as (λ _. Option ReadBegin) [ Some l ↦ Some begins.Busy | None ↦ (if nat_lt rows (from + count) then Some (begins.OutOfRows from count rows) else None) ] ≡ None
    → (left ≡ None) × (from + count ≤ rows)
accepts_by (Some l) rows from count e = absurd cc
accepts_by None rows from count e =
    elim (cases_lt rows (from + count)) [
      | inl past ↦
          let clash : Some (begins.OutOfRows from count rows) ≡ None = sym (cond-true (nat_lt rows (from + count)) (Some (begins.OutOfRows from count rows)) None (lt-ltb rows (from + count) past)) ∙ e in
          absurd cc
      | inr inside ↦ (refl, inside)
    ]

accepts : (x : Reader) (from count : ℕ) → read_refusal x from count ≡ None → Accepts x from count
accepts x from count e = let both = accepts_by x.left (rows_seen x.known) from count e in record { idle = both.0; inside = both.1 }

ok_err : {A : Type 0} (e : ReadBegin) (r : Result A ReadBegin) (a : A) → r ≡ Ok a → r ≡ Err e → ⊥
ok_err e r a ok err = cc

not_refused : {A : Type 0} (refusal : Option ReadBegin) (r : Result A ReadBegin) (a : A) → r ≡ Ok a → ((e : ReadBegin) → refusal ≡ Some e → r ≡ Err e) → refusal ≡ None
not_refused None r a ok refused = refl
not_refused (Some e) r a ok refused = absurd (ok_err e r a ok (refused e refl))

-- the program of a read of some rows of what is known
some_program : (what : Reading) (from count : ℕ) → 1 ≤ count → values_program (Some what) from count ≡ values_call what from count
some_program what from count some = cond-false (count == 0) (ret (Ok [])) (values_call what from count) (ne_eqb count 0 (λ none. absurd (omega (arith, none))))

none_some : IsSome {T = ℕ × ℕ} None → ⊥
none_some e = cc

begins_by : (r from count : ℕ) (x y : Reader) (known : Option Reading) → x.known ≡ known → from + count ≤ rows_seen x.known → IsSome (next_look (values_program known from count))
    → y ≡ with_left x (Some (values_left (values_program known from count))) → ReadsTo r from count x None (replies.Reading r) (Some y)
begins_by r from count x y None is inside looks new = absurd (none_some looks)
begins_by r from count x y (Some what) is inside looks new =
    elim (cases_lt 0 count) [
      | inl some ↦
          let program = some_program what from count (omega arith) in
          inr (inr (record {
            what = what;
            known = is;
            some = omega arith;
            inside = inside;
            is = refl;
            begun = ap Some new ∙ ap (λ (p : Prog (Result (List ℤ) ReadError)). Some (with_left x (Some (values_left p)))) program;
          }))
      | inr few ↦
          let none : count ≡ 0 = omega arith in
          absurd (none_some (subst (λ (n : ℕ). IsSome (next_look (values_program (Some what) from n))) none looks))
    ]

pub read_begins : {A : Type 0} (r from count : ℕ) (x y : Reader) (result : Result A ReadBegin) (a : A) → result ≡ Ok a → ((e : ReadBegin) → read_refusal x from count ≡ Some e → result ≡ Err e)
    → BegunRead (values_program x.known from count) x None y → IsSome (wanted y.left) → ReadGives r from count (Some x) (replies.Reading r) (Some y)
read_begins r from count x y result a ok refused begun wants =
    let looks : IsSome (next_look (values_program x.known from count)) = subst (λ (l : Option Unfinished). IsSome (wanted l)) (ap (λ (z : Reader). z.left) begun) wants in
    let free = accepts x from count (not_refused (read_refusal x from count) result a ok refused) in
    subst (λ (left : Option Unfinished). ReadsTo r from count x left (replies.Reading r) (Some y)) (sym free.idle) (begins_by r from count x y x.known refl free.inside looks begun)

values_of : Prog (Result (List ℤ) ReadError) → List ℤ
values_of (ret (Ok vs)) = vs
values_of p = []

no_values : (from count : ℕ) (known : Option Reading) (vs : List ℤ) → count ≡ 0 → values_program known from count ≡ ret (Ok vs) → vs ≡ []
unfolding values_of
no_values from count None vs none is = sym (ap values_of is)
no_values from count (Some what) vs none is =
    sym (ap values_of is) ∙ ap (λ (n : ℕ). values_of (values_program (Some what) from n)) none

no_look : (p : Prog (Result (List ℤ) ReadError)) (a : Result (List ℤ) ReadError) → p ≡ ret a → IsSome (next_look p) → ⊥
no_look p a is looks = none_some (subst (λ (q : Prog (Result (List ℤ) ReadError)). IsSome (next_look q)) is looks)

-- a read of rows that were seen is no answer
no_answer : (x : Reader) (from count : ℕ) (known : Option Reading) (a : Result (List ℤ) ReadError) → x.known ≡ known → Accepts x from count → ReadLooks from count (Some x) → 1 ≤ count
    → values_program known from count ≡ ret a → ⊥
no_answer x from count None a is free looks some answer =
    let none : rows_seen x.known ≡ 0 = ap rows_seen is in
    absurd (omega (arith, free.inside))
no_answer x from count (Some what) a is free looks some answer =
    no_look (values_call what from count) a (sym (some_program what from count some) ∙ answer) (looks what free.idle is some free.inside)

pub read_nothing : {A : Type 0} (r from count : ℕ) (x y : Reader) (vs : List ℤ) (result : Result A ReadBegin) (a : A) → result ≡ Ok a → ReadLooks from count (Some x)
    → ((e : ReadBegin) → read_refusal x from count ≡ Some e → result ≡ Err e) → BegunRead (values_program x.known from count) x (Some vs) y
    → ReadGives r from count (Some x) (replies.Values r vs) (Some y)
read_nothing r from count x y vs result a ok looks refused begun =
    let free = accepts x from count (not_refused (read_refusal x from count) result a ok refused) in
    elim (cases_lt 0 count) [
      | inl some ↦ absurd (no_answer x from count x.known (Ok vs) refl free looks (omega arith) begun.1)
      | inr few ↦
          let none : count ≡ 0 = omega arith in
          subst (λ (left : Option Unfinished). ReadsTo r from count x left (replies.Values r vs) (Some y)) (sym free.idle)
          (inr (inl (record {
            none = none;
            inside = omega (arith, free.inside);
            is = ap (replies.Values r) (no_values from count x.known vs none begun.1);
            same = ap Some begun.0;
          })))
    ]

-- ---- Looks

looked_is : (b piece : List ℕ) (l : Unfinished) (place len : ℕ) → wanted (Some l) ≡ Some (place, len) → piece ≡ range b place len → looked b l ≡ fed_left piece l
looked_is b piece l place len wants is =
    ap (λ (o : Option (ℕ × ℕ)). elim o as (λ _. Unfinished) [ None ↦ l | Some at ↦ fed_left (range b at.0 at.1) l ]) wants ∙ ap (λ (p : List ℕ). fed_left p l) (sym is)

looking_reply : (r : ℕ) (l : Unfinished) → IsSome (wanted (Some l)) → reply_to r l ≡ Some (replies.Looking r)
looking_reply r (rows_left (ret a)) wants = absurd (none_some wants)
looking_reply r (rows_left (whole place len next)) wants = refl
looking_reply r (rows_left (counted place counts next)) wants = absurd (none_some wants)
looking_reply r (rows_left (stored kind place len next)) wants = absurd (none_some wants)
looking_reply r (values_left (ret a)) wants = absurd (none_some wants)
looking_reply r (values_left (whole place len next)) wants = refl
looking_reply r (values_left (counted place counts next)) wants = absurd (none_some wants)
looking_reply r (values_left (stored kind place len next)) wants = absurd (none_some wants)

looking_on : (x : Reader) (l : Unfinished) → IsSome (wanted (Some l)) → with_left x (Some l) ≡ after_look x l
looking_on x (rows_left (ret a)) wants = absurd (none_some wants)
looking_on x (rows_left (whole place len next)) wants = refl
looking_on x (rows_left (counted place counts next)) wants = refl
looking_on x (rows_left (stored kind place len next)) wants = refl
looking_on x (values_left (ret a)) wants = absurd (none_some wants)
looking_on x (values_left (whole place len next)) wants = refl
looking_on x (values_left (counted place counts next)) wants = refl
looking_on x (values_left (stored kind place len next)) wants = refl

-- more looks are wanted
pub look_goes_on : (r : ℕ) (b piece : List ℕ) (x y : Reader) (left : Option Unfinished) (place len : ℕ) → wanted left ≡ Some (place, len) → piece ≡ range b place len
    → y ≡ with_left x (option_map (fed_left piece) left) → IsSome (wanted y.left) → LooksTo r b x left (replies.Looking r) (Some y)
look_goes_on r b piece x y None place len wants is new more = absurd cc
look_goes_on r b piece x y (Some l) place len wants is new more =
    let after = looked_is b piece l place len wants is in
    let goes : IsSome (wanted (Some (fed_left piece l))) = subst (λ (o : Option Unfinished). IsSome (wanted o)) (ap (λ (z : Reader). z.left) new) more in
    record {
      is = ap (reply_to r) after ∙ looking_reply r (fed_left piece l) goes;
      new_is = ap Some new ∙ ap Some (looking_on x (fed_left piece l) goes) ∙ ap (λ (m : Unfinished). Some (after_look x m)) (sym after);
    }
