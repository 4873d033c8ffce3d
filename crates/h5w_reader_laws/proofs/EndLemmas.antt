-- Calls that are not at their end, completed on an image.
use Rattle.std.proofs.Common.{◌≡◌, ℕ, zero, suc, ◌+◌, ◌-◌, ◌<◌, ◌≤◌, cond, List, [], ◌∷◌, ◌++◌, length, map, Option, Some, None, Result, Ok, Err, refl, sym, ◌∙◌, ap, subst, arith, length-append}
use Rattle.std.specs.Prelude.{nat_eq}
use Rattle.std.specs.List.{AllByRecursion}
use Rattle.std.specs.Cmp.Lexicographic.{pointwise}
use Rattle.std.proofs.lemmas.Bool.{cond_both}
use Rattle.std.proofs.lemmas.List.{length-map}
use Rattle.h5w_model.specs.Numbers.{range}
use Rattle.h5w_model.specs.Programs.{Prog, ret, whole, counted, stored, eval, bind, and_then, Look, rest_after, lowered, Takes}
use Rattle.h5w_model.specs.Headers.{header_view}
use Rattle.h5w_model.specs.Logs.{Log, hist}
use Rattle.h5w_model.specs.Datasets.{dataset_place}
use Rattle.h5w_model.specs.Tables.{Limits, Reading, each_of}
use Rattle.h5w_model.specs.Prefixed.{image_at}
use Rattle.h5w_model.specs.Readers.{Placed, IsCall, looks_of}
use Rattle.h5w_model.specs.Calls.{CallRules, header_look, cut_header, again, is_settled, attempts_from, rows_call, open_rules, open_call, chunk_range, touched_keys, values_from, values_call}
use Rattle.h5w_model.specs.declared.refusal.ReadError.{ReadError}
use Rattle.h5w_laws.specs.Programs.{looks_on}
use Rattle.h5w_laws.proofs.LookLemmas.{IsPlain, plain_lowered, plain_rest, rest_append, takes_on}
use Rattle.h5w_reader_laws.specs.Headline.{IsTakenAt, IsEnd, EndsWhenStill}
use Rattle.h5w_reader_laws.specs.Bounds.{IsUnfinished}
use Rattle.h5w_reader_laws.proofs.BlockLemmas.{onward}
use Rattle.h5w_reader_laws.proofs.AttemptLemmas.{behind_of, attempt_of, unless_cut, ends_with}

-- ---- Any program of plain looks

-- what is left looks at something
pub looks_left : {A : Type 0} (img : List ℕ) (q : Prog A) → IsPlain q → ((a : A) → q ≡ ret a → ⊥) → 1 ≤ length (looks_on img q)
looks_left img (ret a) plain h = absurd (h a refl)
looks_left img (whole at len next) plain h = omega arith
looks_left img (counted at counts next) plain h = absurd plain
looks_left img (stored kind at len next) plain h = absurd plain

pub plain_bind : {A B : Type 0} (p : Prog A) (f : A → Prog B) → IsPlain p → ((a : A) → IsPlain (f a)) → IsPlain (bind p f)
plain_bind (ret a) f h g = g a
plain_bind (whole at len next) f h g = λ b. plain_bind (next b) f (h b) g
plain_bind (counted at counts next) f h g = h
plain_bind (stored kind at len next) f h g = h

-- completed on an image
pub completed : {A : Type 0} (img : List ℕ) (p : Prog A) (ls : List Look) (q : Prog A) → IsPlain p → rest_after p ls ≡ Some q → Takes p (ls ++ looks_on img q) (eval img q)
completed img p ls q plain e = rest_append p ls (looks_on img q) q e ∙ takes_on img q (plain_rest p ls q plain e)

-- ---- Over the images of a log

abbrev placed_at : ℕ → Look → Placed
placed_at p l = record { position = p; look = l }

call_joined : (log : Log) (from to : ℕ) (xs ys : List Placed) → from ≤ to → to ≤ length (hist log.events) → IsCall log from xs → ((low : ℕ) → low ≤ length (hist log.events) → IsCall log low ys) → IsCall log from (xs ++ ys)
call_joined log from to [] ys h k c g = g from (omega arith)
call_joined log from to (x ∷ xs) ys h k c g = (c.0, c.1, c.2, call_joined log x.position x.position xs ys (omega arith) c.1 c.3 g)

-- the looks of a program at the last image
call_last : {A : Type 0} (log : Log) (q : Prog A) (low : ℕ) → low ≤ length (hist log.events) → IsCall log low (map (placed_at (length (hist log.events))) (looks_on (image_at log (length (hist log.events))) q))
call_last log (ret a) low h = tt
call_last log (whole at len next) low h =
    (h, omega arith, refl, call_last log (next (range (image_at log (length (hist log.events))) at len)) (length (hist log.events)) (omega arith))
call_last log (counted at counts next) low h = tt
call_last log (stored kind at len next) low h = tt

looks_joined : (p : ℕ) (ls : List Placed) (ms : List Look) → looks_of (ls ++ map (placed_at p) ms) ≡ looks_of ls ++ ms
looks_joined p [] [] = refl
looks_joined p [] (m ∷ ms) = ap (λ (xs : List Look). m ∷ xs) (looks_joined p [] ms)
looks_joined p (l ∷ ls) ms = ap (λ (xs : List Look). l.look ∷ xs) (looks_joined p ls ms)

placed_last : (p : ℕ) (ms : List Look) → AllByRecursion (IsTakenAt p) (map (placed_at p) ms)
placed_last p [] = tt
placed_last p (m ∷ ms) = (refl, placed_last p ms)

-- the looks that are left, at the last image
abbrev pub left_on : {A : Type 0} → Log → Prog A → List Placed
left_on log q = map (placed_at (length (hist log.events))) (looks_on (image_at log (length (hist log.events))) q)

pub complete : {A : Type 0} (log : Log) (from : ℕ) (p : Prog A) (ls : List Placed) (q : Prog A) → IsPlain p → from ≤ length (hist log.events) → IsCall log from ls
    → rest_after p (looks_of ls) ≡ Some q → IsEnd log from p ls (left_on log q)
complete {A} log from p ls q plain reached call left =
    let last : ℕ = length (hist log.events) in
    let img : List ℕ = image_at log last in
    record {
      last = placed_last last (looks_on img q);
      call = call_joined log from last ls (left_on log q) reached (omega arith) call (call_last log q);
      answer = eval img q;
      takes = subst (λ (xs : List Look). Takes p xs (eval img q)) (sym (looks_joined last ls (looks_on img q))) (completed img p (looks_of ls) q plain left);
    }

-- which are some
pub more_looks : {A : Type 0} (log : Log) (p : Prog A) (ls : List Placed) (q : Prog A) → IsPlain p → rest_after p (looks_of ls) ≡ Some q → IsUnfinished q → length ls < length (ls ++ left_on log q)
more_looks log p ls q plain left unfinished =
    let last : ℕ = length (hist log.events) in
    let img : List ℕ = image_at log last in
    let some = looks_left img q (plain_rest p (looks_of ls) q plain left) unfinished in
    let l : length (ls ++ left_on log q) ≡ length ls + length (looks_on img q) = length-append ls (left_on log q) ∙ ap (λ k. length ls + k) (length-map (looks_on img q) (placed_at last)) in
    omega arith

-- programs of plain looks

plain_unless : (o : Option ReadError) (x : Prog (Result Reading ReadError)) → IsPlain x → IsPlain (unless_cut o x)
plain_unless (Some e) x h = tt
plain_unless None x h = h

plain_attempt : (g : CallRules) (next : List ℕ → Prog (Result Reading ReadError)) (v : List ℕ) → ((w : List ℕ) → IsPlain (next w)) → IsPlain (attempt_of g.limits g.keeps g.known g.place next v)
plain_attempt g next v h =
    let x : Prog (Result Reading ReadError) = lowered g.keeps [] (behind_of g.limits g.known g.place v) in
    let confirms : Result Reading ReadError → Prog (Result Reading ReadError) = λ answer. header_look g.place (λ w. unless_cut (cut_header g.place w) (ends_with v next answer w)) in
    let plain : IsPlain x = plain_lowered g.keeps [] (behind_of g.limits g.known g.place v) in
    plain_unless (cut_header g.place v) (cond (is_settled x) x (bind x confirms))
    (cond_both (is_settled x) x (bind x confirms) (λ (y : Prog (Result Reading ReadError)). IsPlain y) (λ t. plain)
    (λ t. plain_bind x confirms plain (λ answer b.
    let w : List ℕ = header_view b in
    plain_unless (cut_header g.place w) (ends_with v next answer w)
    (cond_both (pointwise nat_eq w v) (ret answer) (next w) (λ (y : Prog (Result Reading ReadError)). IsPlain y) (λ u. tt) (λ u. h w)))))

plain_attempts : (g : CallRules) (more : ℕ) (v : List ℕ) → IsPlain (attempts_from g more v)
plain_attempts g zero v = plain_attempt g (λ w. ret (Err (again g v w))) v (λ w. tt)
plain_attempts g (suc more) v = plain_attempt g (attempts_from g more) v (plain_attempts g more)

pub plain_rows : (g : CallRules) → IsPlain (rows_call g)
plain_rows g = λ b. plain_attempts g (g.attempts - 1) (header_view b)

pub plain_open : (limits : Limits) (kept attempts : ℕ) (name : List ℕ) → IsPlain (open_call limits kept attempts name)
plain_open limits kept attempts name =
    plain_bind (lowered kept [] (dataset_place name)) (onward (λ at. rows_call (open_rules limits kept attempts at))) (plain_lowered kept [] (dataset_place name)) go
  where
    go : (r : Result ℕ ReadError) → IsPlain (onward (λ at. rows_call (open_rules limits kept attempts at)) r)
    go (Ok at) = plain_rows (open_rules limits kept attempts at)
    go (Err e) = tt

pub plain_values : (r : Reading) (first count : ℕ) → IsPlain (values_call r first count)
plain_values r first count =
    plain_lowered 0 [] (and_then (each_of (λ k. chunk_range r k.0 k.1 first (first + count)) (touched_keys r first (first + count))) (λ ranges. ret (Ok (values_from r first (first + count) ranges))))

pub ends_when_still : EndsWhenStill
ends_when_still = record {
  opens = λ name log limits kept attempts from ls q at call left.
      (left_on log q, complete log from (open_call limits kept attempts name) ls q (plain_open limits kept attempts name) at.reached call left);
  refreshes = λ log g from ls q at call left. (left_on log q, complete log from (rows_call g) ls q (plain_rows g) at.reached call left);
  reads = λ log r first count from ls q at call left. (left_on log q, complete log from (values_call r first count) ls q (plain_values r first count) at.reached call left);
}
