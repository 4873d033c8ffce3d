-- What a reader was asked.
use Rattle.std.proofs.Common.{◌≡◌, ℕ, Bool, true, false, cond, List, [], ◌∷◌, ◌++◌, Option, Some, None, Result, Ok, Err, ℤ, refl, sym, ◌∙◌, ap, subst, ◌⊎◌, inl, inr}
use Rattle.std.specs.Prelude.{option_map, ◌==◌, ◌&&◌}
use Rattle.std.proofs.lemmas.Bool.{eq-eqb}
use Rattle.h5w_model.specs.Programs.{Prog, ret, whole, counted, stored, Look, rest_after, next_look, fed}
use Rattle.h5w_model.specs.Tables.{Reading}
use Rattle.h5w_model.specs.declared.refusal.ReadError.{ReadError}
use Rattle.h5w_model.specs.Unfinished.{Unfinished, rows_left, values_left, Reader, ReaderRules, wanted, fed_left, with_left, rows_program}
use Rattle.h5w_model.specs.Asked.{Answer, told_rows, told_values, told_refusal, Asking, Answered, Asks, Asked, AreCalls, Begins, IsAnswered, IsAsking, known_by, left_after, no_asks, beginning, without, and_look}
use Rattle.h5w_reader.specs.Readers.{StepTells, IsRefused, new_reader}
use Rattle.h5w_reader.specs.Asked.{IsWanted, answering, refusing, finding, stepping, looking, is_want_of_memory}
use Rattle.h5w_reader.specs.declared.step.Step.{Step}
use Rattle.h5w_reader.specs.declared.step.Step.TheVariants as steps

-- ---- One look more

taken_next : {A : Type 0} (q : Prog A) (l : Look) → next_look q ≡ Some (l.place, l.len) → rest_after q (l ∷ []) ≡ Some (fed l.bytes q)
taken_next (ret a) l e = absurd cc
taken_next (counted at counts next) l e = absurd cc
taken_next (stored kind at len next) l e = absurd cc
taken_next (whole at len next) l e =
    let pair : (l.place, l.len) ≡ (at, len) = cc in
    let p : l.place ≡ at = ap (λ (x : ℕ × ℕ). x.0) pair in
    let n : l.len ≡ len = ap (λ (x : ℕ × ℕ). x.1) pair in
    rw (eq-eqb l.place at p, eq-eqb l.len len n) refl

more_if : {A : Type 0} (c : Bool) (x y : Option (Prog A)) (q r : Prog A) → cond c x None ≡ Some q → (x ≡ Some q → y ≡ Some r) → cond c y None ≡ Some r
more_if true x y q r e f = f e
more_if false x y q r e f = absurd cc

pub rest_more : {A : Type 0} (p q : Prog A) (ls : List Look) (l : Look) → rest_after p ls ≡ Some q → next_look q ≡ Some (l.place, l.len) → rest_after p (ls ++ l ∷ []) ≡ Some (fed l.bytes q)
rest_more p q [] l e next = let same : p ≡ q = cc in rw same (taken_next q l next)
rest_more (ret a) q (m ∷ ms) l e next = absurd cc
rest_more (counted at counts go) q (m ∷ ms) l e next = absurd cc
rest_more (stored kind at len go) q (m ∷ ms) l e next = absurd cc
rest_more (whole at len go) q (m ∷ ms) l e next =
    more_if ((m.place == at) && (m.len == len)) (rest_after (go m.bytes) ms) (rest_after (go m.bytes) (ms ++ l ∷ [])) q (fed l.bytes q) e (λ f. rest_more (go m.bytes) q ms l f next)

-- ---- The calls

pub asked_begin : (r : Reader) (asks : Asks) (p : Unfinished) → Asked r asks → Begins r.rules r.known p → Asked (with_left r (Some p)) (beginning p asks)
asked_begin r asks (rows_left p) a b = record { known = a.known; calls = a.calls; call = (b, refl) }
asked_begin r asks (values_left p) a b = record { known = a.known; calls = a.calls; call = (b, refl) }

-- a new reader
pub asked_new : (g : ReaderRules) → Asked (new_reader g) (beginning (rows_left (rows_program g None)) no_asks)
asked_new g = record { known = refl; calls = tt; call = (refl, refl) }

-- ---- A step

rows_inside : (x : Option (Prog (Result Reading ReadError))) (t : Prog (Result Reading ReadError)) → option_map rows_left x ≡ Some (rows_left t) → x ≡ Some t
rows_inside None t e = absurd cc
rows_inside (Some y) t e = let same : y ≡ t = cc in ap Some same

values_inside : (x : Option (Prog (Result (List ℤ) ReadError))) (t : Prog (Result (List ℤ) ReadError)) → option_map values_left x ≡ Some (values_left t) → x ≡ Some t
values_inside None t e = absurd cc
values_inside (Some y) t e = let same : y ≡ t = cc in ap Some same

pub no_values : (x : Option (Prog (Result (List ℤ) ReadError))) (t : Prog (Result Reading ReadError)) → option_map values_left x ≡ Some (rows_left t) → ⊥
no_values None t e = cc
no_values (Some y) t e = cc

pub no_rows : (x : Option (Prog (Result Reading ReadError))) (t : Prog (Result (List ℤ) ReadError)) → option_map rows_left x ≡ Some (values_left t) → ⊥
no_rows None t e = cc
no_rows (Some y) t e = cc

pub rows_more : (p : Prog (Result Reading ReadError)) (ls : List Look) (l : Look) (x : Option (Prog (Result Reading ReadError))) → rest_after p ls ≡ x → wanted (option_map rows_left x) ≡ Some (l.place, l.len)
    → option_map rows_left (rest_after p (ls ++ l ∷ [])) ≡ option_map (fed_left l.bytes) (option_map rows_left x)
rows_more p ls l None e next = absurd cc
rows_more p ls l (Some t) e next = ap (option_map rows_left) (rest_more p t ls l e next)

pub values_more : (p : Prog (Result (List ℤ) ReadError)) (ls : List Look) (l : Look) (x : Option (Prog (Result (List ℤ) ReadError))) → rest_after p ls ≡ x → wanted (option_map values_left x) ≡ Some (l.place, l.len)
    → option_map values_left (rest_after p (ls ++ l ∷ [])) ≡ option_map (fed_left l.bytes) (option_map values_left x)
values_more p ls l None e next = absurd cc
values_more p ls l (Some t) e next = ap (option_map values_left) (rest_more p t ls l e next)

-- what is left after one look more
pub left_more : (ls : List Look) (p : Unfinished) (l : Look) → wanted (left_after ls p) ≡ Some (l.place, l.len) → left_after (ls ++ l ∷ []) p ≡ option_map (fed_left l.bytes) (left_after ls p)
left_more ls (rows_left p) l next = rows_more p ls l (rest_after p ls) refl next
left_more ls (values_left p) l next = values_more p ls l (rest_after p ls) refl next

gives_rows : (p : Unfinished) (ls : List Look) (r : Reading) → left_after ls p ≡ Some (rows_left (ret (Ok r))) → IsAnswered p ls (told_rows r)
gives_rows (rows_left p) ls r e = rows_inside (rest_after p ls) (ret (Ok r)) e
gives_rows (values_left p) ls r e = absurd (no_values (rest_after p ls) (ret (Ok r)) e)

gives_values : (p : Unfinished) (ls : List Look) (vs : List ℤ) → left_after ls p ≡ Some (values_left (ret (Ok vs))) → IsAnswered p ls (told_values vs)
gives_values (rows_left p) ls vs e = absurd (no_rows (rest_after p ls) (ret (Ok vs)) e)
gives_values (values_left p) ls vs e = values_inside (rest_after p ls) (ret (Ok vs)) e

gives_refusal : (p : Unfinished) (ls : List Look) (f : ReadError) → (left_after ls p ≡ Some (rows_left (ret (Err f)))) ⊎ (left_after ls p ≡ Some (values_left (ret (Err f)))) → IsAnswered p ls (told_refusal f)
gives_refusal (rows_left p) ls f (inl e) = rows_inside (rest_after p ls) (ret (Err f)) e
gives_refusal (rows_left p) ls f (inr e) = absurd (no_rows (rest_after p ls) (ret (Err f)) e)
gives_refusal (values_left p) ls f (inl e) = absurd (no_values (rest_after p ls) (ret (Err f)) e)
gives_refusal (values_left p) ls f (inr e) = values_inside (rest_after p ls) (ret (Err f)) e

-- a reader with an unfinished call
record Going (old : Reader) (asks : Asks) (a : Asking) : Type 0 where
  known : old.known ≡ known_by asks.answered
  calls : AreCalls old.rules asks.answered
  begun : Begins old.rules old.known a.program

abbrev and_answer : Asking → Answer → Answered
and_answer a answer = record { program = a.program; looks = a.looks; answer = answer }

answered_calls : (old : Reader) (asks : Asks) (a : Asking) (answer : Answer) → Going old asks a → IsAnswered a.program a.looks answer → AreCalls old.rules (and_answer a answer ∷ asks.answered)
answered_calls old asks a answer g gives = (subst (λ k. Begins old.rules k a.program) g.known g.begun, gives, g.calls)

refused_asks : (old : Reader) (asks : Asks) (a : Asking) (f : ReadError) (memory : Bool) → is_want_of_memory f ≡ memory → Going old asks a → IsRefused (left_after a.looks a.program) f
    → Asked (with_left old None) (elim memory as (λ _. Asks) [ true ↦ without asks | false ↦ answering asks a (told_refusal f) ])
refused_asks old asks a f true e g r = record { known = g.known; calls = g.calls; call = refl }
refused_asks old asks a f false e g (inl h) = record { known = g.known; calls = answered_calls old asks a (told_refusal f) g (gives_refusal a.program a.looks f (inl h)); call = refl }
refused_asks old asks a f false e g (inr (inl h)) = record { known = g.known; calls = answered_calls old asks a (told_refusal f) g (gives_refusal a.program a.looks f (inr h)); call = refl }
refused_asks old asks a f false e g (inr (inr h)) = let t : true ≡ false = sym (ap is_want_of_memory h) ∙ e in absurd cc

stepped : (old new : Reader) (asks : Asks) (a : Asking) (step : Step) → Going old asks a → StepTells (left_after a.looks a.program) old step new → Asked new (stepping asks a step new.known)
stepped old new asks a steps.More g told =
    subst (λ n. Asked n (stepping asks a steps.More n.known)) (sym told) (record { known = g.known; calls = g.calls; call = (g.begun, refl) })
stepped old new asks a (steps.Rows n) g told =
    let r = told.0 in
    subst (λ n. Asked n (finding asks a n.known)) (sym told.3)
    (record { known = refl; calls = answered_calls old asks a (told_rows r) g (gives_rows a.program a.looks r told.1); call = refl })
stepped old new asks a (steps.Values vs) g told =
    subst (λ n. Asked n (answering asks a (told_values vs))) (sym told.1)
    (record { known = g.known; calls = answered_calls old asks a (told_values vs) g (gives_values a.program a.looks vs told.0); call = refl })
stepped old new asks a (steps.Refused f) g told =
    subst (λ n. Asked n (refusing asks a f)) (sym told.1) (refused_asks old asks a f (is_want_of_memory f) refl g told.0)

going : (old new : Reader) (asks : Asks) (step : Step) (l : Look) (x : Option Asking) → asks.unfinished ≡ x → StepTells (option_map (fed_left l.bytes) old.left) old step new → Asked old asks → IsAsking old x → wanted old.left ≡ Some (l.place, l.len)
    → Asked new (elim x as (λ _. Asks) [ Some a ↦ stepping asks (and_look l a) step new.known | None ↦ asks ])
going old new asks step l None e told asked call next = let t : wanted old.left ≡ None = ap wanted call in absurd cc
going old new asks step l (Some a) e told asked call next =
    let more = left_more a.looks a.program l (ap wanted (sym call.1) ∙ next) in
    let same : option_map (fed_left l.bytes) old.left ≡ left_after (a.looks ++ l ∷ []) a.program = ap (option_map (fed_left l.bytes)) call.1 ∙ sym more in
    stepped old new asks (and_look l a) step (record { known = asked.known; calls = asked.calls; begun = call.0 }) (subst (λ x. StepTells x old step new) same told)

pub asked_give : (old new : Reader) (asks : Asks) (step : Step) (b : List ℕ) (l : Look) → StepTells (option_map (fed_left b) old.left) old step new → Asked old asks → IsWanted (wanted old.left) b l → Asked new (looking l step new.known asks)
asked_give old new asks step b l told asked w =
    going old new asks step l asks.unfinished refl (subst (λ x. StepTells (option_map (fed_left x) old.left) old step new) (sym w.got) told) asked asked.call w.range
