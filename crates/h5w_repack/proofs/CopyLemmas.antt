-- What the jobs of a planned file do, one after another.
use Rattle.std.proofs.Common.{◌≡◌, ℕ, ◌+◌, ◌<◌, ◌≤◌, List, [], ◌∷◌, ◌++◌, length, drop, Some, None, refl, sym, ap, ap₂, ◌∙◌, subst, arith, append_assoc, append-nil, length-append}
use Rattle.std.specs.Prelude.{OnErr, Result, Err, Ok}
use Rattle.std.specs.List.{All}
use Rattle.std.proofs.lemmas.List.{map-append}
use Rattle.std.proofs.lemmas.List.Elements.{All-append, All-cons, All-head, All-nil, All-tail}
use Rattle.h5w_model.specs.Numbers.{range}
use Rattle.h5w_model.specs.declared.piece.Write.{Write}
use Rattle.h5w_laws.proofs.LoweringLemmas.{length_range}
use Rattle.h5w_image.specs.View.{GivesRange, Looked, Same}
use Rattle.h5w_looks.proofs.ReadLemmas.{still_on, given_there}
use Rattle.h5w_packing.specs.Jobs.{IsJobBehind, IsJobIn, first_job, place_of, write_of, writes_of}
use Rattle.h5w_packing.specs.declared.job.Job.{Job}
use Rattle.h5w_packing.specs.declared.job.Job.TheVariants.{Chunk, Block}
use Rattle.h5w_repack.specs.Pairs.{PairView, PutsOne}
use Rattle.h5w_repack.specs.Copies.{AreBehind, AreDone, Carries, CarriesSome, IsDone, IsInside}
use Rattle.h5w_repack.proofs.CarryLemmas.{carries_itself, carries_more, carries_nothing, carries_one}

-- ---- Parts of a list

all_left : {X : Type 0} (P : X → Type 0) (xs ys : List X) → All P (xs ++ ys) → All P xs
all_left P [] ys h = All-nil P
all_left P (x ∷ xs) ys h = All-cons P x xs (All-head P x (xs ++ ys) h) (all_left P xs ys (All-tail P x (xs ++ ys) h))

all_right : {X : Type 0} (P : X → Type 0) (xs ys : List X) → All P (xs ++ ys) → All P ys
all_right P [] ys h = h
all_right P (x ∷ xs) ys h = all_right P xs ys (All-tail P x (xs ++ ys) h)

-- ---- One job

-- all of a range that stands inside
whole_range : (img : List ℕ) (at len : ℕ) → at + len ≤ length img → length (range img at len) ≡ len
whole_range img at len inside = omega (arith, length_range img at len, inside)

-- a piece of a chunk was looked at, and then written
pub chunk_done : {u v w : PairView} (from to n : ℕ) (piece out : List ℕ) → Looked u.from v.from → v.name ≡ u.name → Same u.to v.to → GivesRange v.from from n piece → length out ≡ n → (length piece ≡ n → out ≡ piece)
    → Looked v.from w.from → w.name ≡ v.name → PutsOne v.name (record { at = to; piece = out }) v.to w.to → IsDone (Chunk from to n) u w
chunk_done {u} {v} {w} from to n piece out looked name same gives size whole later named put = record {
  bytes = out;
  size = size;
  carries = carries_more {u = u} {v = v} {w = w} [] (record { at = to; piece = out } ∷ []) (carries_nothing {u = u} {v = v} looked name same) (carries_one {u = v} {v = w} (record { at = to; piece = out }) later named put);
  are = λ img still inside.
      let is : piece ≡ range img from n = given_there v.from img from n piece (still_on img looked still) gives in
      let all : length piece ≡ n = ap length is ∙ whole_range img from n inside in
      λ i. record { at = to; piece = (whole all ∙ is) i };
}

-- a piece of a block was written
pub block_done : {u v : PairView} (w : Write) → Looked u.from v.from → v.name ≡ u.name → PutsOne u.name w u.to v.to → IsDone (Block w) u v
block_done {u} {v} w looked name put = record {
  bytes = w.piece;
  size = refl;
  carries = carries_one {u = u} {v = v} w looked name put;
  are = λ img still inside. refl;
}

-- ---- All of them

pub none_done : (u : PairView) → AreDone [] u u
none_done u = record {
  writes = [];
  count = refl;
  behind = λ h. All-nil (λ (w : Write). 48 ≤ w.at);
  carries = carries_itself u;
  are = λ img still inside. refl;
}

pub one_more : {u v w : PairView} (js : List Job) (j : Job) → AreDone js u v → IsDone j v w → AreDone (js ++ j ∷ []) u w
one_more {u} {v} {w} js j p q =
    let last : Write = record { at = place_of j; piece = q.bytes } in
    record {
      writes = p.writes ++ last ∷ [];
      count = length-append p.writes (last ∷ []) ∙ ap (λ n. n + 1) p.count ∙ sym (length-append js (j ∷ []));
      behind = λ h.
          All-append (λ (x : Write). 48 ≤ x.at) p.writes (last ∷ []) (p.behind (all_left IsJobBehind js (j ∷ []) h))
          (All-cons (λ (x : Write). 48 ≤ x.at) last [] (All-head IsJobBehind j [] (all_right IsJobBehind js (j ∷ []) h)) (All-nil (λ (x : Write). 48 ≤ x.at)));
      carries = carries_more {u = u} {v = v} {w = w} p.writes (last ∷ []) p.carries q.carries;
      are = λ img still inside.
          let front : p.writes ≡ writes_of img js = p.are img still (all_left (IsInside img) js (j ∷ []) inside) in
          let end : last ≡ write_of img j = q.are img (still_on img p.carries.from still) (All-head (IsInside img) j [] (all_right (IsInside img) js (j ∷ []) inside)) in
          ap₂ (λ (x : List Write) (y : Write). x ++ y ∷ []) front end ∙ sym (map-append (write_of img) js (j ∷ []));
    }

-- ---- The loop

-- These jobs are done, and those are left; there is room for them.
pub record Copying (js left : List Job) (end : ℕ) (u v : PairView) : Type 0 where
  pub before : List Job
  pub are : before ++ left ≡ js
  pub done : AreDone before u v
  pub room : length left ≤ v.to.pieces
  pub within : end ≤ v.to.end

pub copying_first : (js : List Job) (end : ℕ) (u : PairView) → length js ≤ u.to.pieces → end ≤ u.to.end → Copying js js end u u
copying_first js end u room within = record { before = []; are = refl; done = none_done u; room = room; within = within }

rest_of : (left : List Job) (j : Job) → first_job left ≡ Some j → left ≡ j ∷ drop 1 left
rest_of [] j e = absurd cc
rest_of (x ∷ xs) j e = let same : x ≡ j = cc in ap (λ y. y ∷ xs) same

pub copying_next : {u v w : PairView} (js left : List Job) (end : ℕ) (j : Job) → Copying js left end u v → first_job left ≡ Some j → IsDone j v w → Copying js (drop 1 left) end u w
copying_next {u} {v} {w} js left end j c next done =
    let e : left ≡ j ∷ drop 1 left = rest_of left j next in
    let room = c.room in
    let wrote = done.carries.wrote.pieces in
    let higher = done.carries.wrote.end in
    let within = c.within in
    record {
      before = c.before ++ j ∷ [];
      are = append_assoc c.before (j ∷ []) (drop 1 left) ∙ ap (λ (x : List Job). c.before ++ x) (sym e) ∙ c.are;
      done = one_more c.before j c.done done;
      room = omega (arith, ap length e, room, wrote);
      within = omega (arith, within, higher);
    }

pub copying_ends : {u v : PairView} (js left : List Job) (end : ℕ) → Copying js left end u v → first_job left ≡ None → AreDone js u v
copying_ends {u} {v} js [] end c e = subst (λ (x : List Job). AreDone x u v) (sym (append-nil c.before) ∙ c.are) c.done
copying_ends js (j ∷ left) end c e = absurd cc

-- the next one fits
pub next_fits : {u v : PairView} (js left : List Job) (end : ℕ) (j : Job) → All (IsJobIn end) js → Copying js left end u v → first_job left ≡ Some j → IsJobIn v.to.end j
next_fits {u} {v} js left end j sized c next =
    let all : All (IsJobIn end) left = all_right (IsJobIn end) c.before left (subst (λ (x : List Job). All (IsJobIn end) x) (sym c.are) sized) in
    let one : IsJobIn end j = All-head (IsJobIn end) j (drop 1 left) (subst (λ (x : List Job). All (IsJobIn end) x) (rest_of left j next) all) in
    let high = one.high in
    let within = c.within in
    record { some = one.some; piece = one.piece; high = omega (arith, high, within) }

pub next_room : {u v : PairView} (js left : List Job) (end : ℕ) (j : Job) → Copying js left end u v → first_job left ≡ Some j → 1 ≤ v.to.pieces
next_room js left end j c next = let room = c.room in omega (arith, ap length (rest_of left j next), room)

-- what comes before another job is not the last
all_before : (before rest body : List Job) (j last : Job) → before ++ j ∷ rest ≡ body ++ last ∷ [] → All IsJobBehind body → All IsJobBehind before
all_before [] rest body j last e h = All-nil IsJobBehind
all_before (b ∷ bs) rest [] j last e h = absurd (none bs (ap (λ (xs : List Job). length xs) e))
  where
    none : (bs : List Job) → length (b ∷ bs ++ j ∷ rest) ≡ 1 → ⊥
    none bs e = omega (arith, e, length-append bs (j ∷ rest))
all_before (b ∷ bs) rest (c ∷ cs) j last e h =
    let same : b ≡ c = cc in
    let more : bs ++ j ∷ rest ≡ cs ++ last ∷ [] = cc in
    All-cons IsJobBehind b bs (subst IsJobBehind (sym same) (All-head IsJobBehind c cs h)) (all_before bs rest cs j last more (All-tail IsJobBehind c cs h))

-- one fewer is left
pub fewer_left : (left new : List Job) (j : Job) → first_job left ≡ Some j → new ≡ drop 1 left → length new < length left
fewer_left left new j next is = let one = ap length (rest_of left j next) in let rest = ap length is in omega (arith, one, rest)

-- a job failed: those before it were done
pub copying_fails : {u v w : PairView} (js left body : List Job) (last : Job) (end : ℕ) (j : Job) → Copying js left end u v → first_job left ≡ Some j → js ≡ body ++ last ∷ [] → All IsJobBehind body → Carries [] v w → CarriesSome u w
copying_fails {u} {v} {w} js left body last end j c next ordered behind kept = record {
  writes = c.done.writes ++ [];
  behind = subst AreBehind (sym (append-nil c.done.writes))
      (c.done.behind (all_before c.before (drop 1 left) body j last (ap (λ (x : List Job). c.before ++ x) (sym (rest_of left j next)) ∙ c.are ∙ ordered) behind));
  carries = carries_more {u = u} {v = v} {w = w} c.done.writes [] c.done.carries kept;
}

-- room was made, and then all was done
pub done_after : {u v w : PairView} (js : List Job) → Carries [] u v → AreDone js v w → AreDone js u w
done_after {u} {v} {w} js p q = record {
  writes = q.writes;
  count = q.count;
  behind = q.behind;
  carries = carries_more {u = u} {v = v} {w = w} [] q.writes p q.carries;
  are = λ img still inside. q.are img (still_on img p.from still) inside;
}

pub some_after : {u v w : PairView} → Carries [] u v → CarriesSome v w → CarriesSome u w
some_after {u} {v} {w} p q = record { writes = q.writes; behind = q.behind; carries = carries_more {u = u} {v = v} {w = w} [] q.writes p q.carries }

pub on_err : {T E P Q : Type 0} (r : Result T E) → (P → Q) → OnErr r P → OnErr r Q
on_err (Ok x) f p = tt
on_err (Err e) f p = f p
