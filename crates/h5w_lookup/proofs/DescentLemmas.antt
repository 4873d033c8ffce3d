-- The steps of a descent.
use Rattle.std.proofs.Common.{◌≡◌, ◌≢◌, ℕ, zero, suc, ◌+◌, ◌-◌, ◌<◌, ◌≤◌, min, List, [], ◌∷◌, ◌++◌, length, take, get_or, Some, Result, Ok, Err, ◌⊎◌, inl, inr, refl, sym, ◌∙◌, ap, arith}
use Rattle.std.specs.Result.{IfOk}
use Rattle.std.proofs.Math.Seq.{take-suc}
use Rattle.std.proofs.lemmas.List.{length-append, length-take, take_all, take_min}
use Rattle.std.proofs.lemmas.Bool.{eq-eqb, ne_eqb}
use Rattle.h5w_model.specs.Programs.{Prog, ret, and_then, lowered, Kept, used, next_look}
use Rattle.h5w_model.specs.Numbers.{undefined}
use Rattle.h5w_model.specs.Arrays.{SlotsFields, super_block_of, eadb_at, easb_at}
use Rattle.h5w_model.specs.Datasets.{Described, then_also, refused_as}
use Rattle.h5w_model.specs.Calls.{CallRules}
use Rattle.h5w_model.specs.Tables.{Reading, InPlace, address_behind, keys_across, needed, data_slot}
use Rattle.h5w_model.specs.declared.refusal.BlockFault.{BlockFault}
use Rattle.h5w_model.specs.declared.refusal.BlockFault.TheVariants as faults
use Rattle.h5w_model.specs.declared.refusal.ReadError.{ReadError}
use Rattle.h5w_model.specs.declared.refusal.ReadError.TheVariants.{Damaged}
use Rattle.h5w_lookup.specs.Seeking.{store_rest, next_rest, data_given, second_given, wait_given}
use Rattle.h5w_lookup.specs.Unknown.{unknown_at, with_found, needed_with}
use Rattle.h5w_lookup.specs.Slots.{key_of, known_or, slots_from, answered, slots_rest, slots_left, found_left, after_found}
use Rattle.h5w_lookup.specs.Contents.{bytes_in}
use Rattle.h5w_lookup.specs.Stores.{IsBlockOf, kept}
use Rattle.h5w_lookup.specs.Descents.{after_next, waiting, descended}
use Rattle.h5w_lookup.specs.declared.block.Block.{Block}
use Rattle.h5w_lookup.specs.declared.descent.Waiting.{Waiting}
use Rattle.std.specs.Global.{Box}
use Rattle.h5w_lookup.specs.declared.news.News.{News}
use Rattle.h5w_lookup.specs.declared.outcome.Outcome.{Outcome}
use Rattle.h5w_lookup.specs.declared.outcome.Outcome.TheVariants as outcomes
use Rattle.h5w_lookup.proofs.PieceLemmas.{wants_gather, then_assoc}
use Rattle.h5w_lookup.proofs.UnknownLemmas.{unknown_is, unknown_rises, known_first, known_between, length_found, found_keeps, found_next}

-- ---- Chunk by chunk

-- behind the last needed chunk
slots_end : (at : ℕ) (known : List ℕ) (d : Described) (p : InPlace) (ks : List Kept) (i : ℕ) (done : List ℕ) → needed d ≤ i → slots_rest at known d p ks i done ≡ answered at d done
unfolding slots_rest
slots_end at known d p ks i done h =
    let none : needed d - i ≡ 0 = omega arith in
    ap (λ n. lowered 16 ks (and_then (slots_from p (keys_across d) known n i done) (answered at d))) none

-- at a needed chunk
slots_step : (at : ℕ) (known : List ℕ) (d : Described) (p : InPlace) (i : ℕ) (done : List ℕ) → i < needed d
    → slots_left at known d p i done ≡ and_then (known_or p (keys_across d) known i) (λ a. slots_left at known d p (i + 1) (done ++ a ∷ []))
slots_step at known d p i done h =
    let more : needed d - i ≡ suc (needed d - (i + 1)) = omega arith in
    ap (λ n. and_then (slots_from p (keys_across d) known n i done) (answered at d)) more
    ∙ then_assoc (known_or p (keys_across d) known i) (λ a. slots_from p (keys_across d) known (needed d - (i + 1)) (i + 1) (done ++ a ∷ [])) (answered at d)

-- a chunk whose address is known, and one whose address is not
known_is : (p : InPlace) (across : ℕ) (known : List ℕ) (i : ℕ) → get_or known i undefined ≢ undefined → known_or p across known i ≡ ret (Ok (get_or known i undefined))
known_is p across known i h = rw (ne_eqb (get_or known i undefined) undefined h) refl

sought_is : (p : InPlace) (across : ℕ) (known : List ℕ) (i : ℕ) → get_or known i undefined ≡ undefined → known_or p across known i ≡ address_behind p (key_of across i)
sought_is p across known i h = rw (eq-eqb (get_or known i undefined) undefined h) refl

known_step : (at : ℕ) (known : List ℕ) (d : Described) (p : InPlace) (i : ℕ) (done : List ℕ) → i < needed d → get_or known i undefined ≢ undefined
    → slots_left at known d p i done ≡ slots_left at known d p (i + 1) (done ++ get_or known i undefined ∷ [])
known_step at known d p i done h there =
    slots_step at known d p i done h
    ∙ ap (λ (q : Prog (Result ℕ ReadError)). and_then q (λ a. slots_left at known d p (i + 1) (done ++ a ∷ []))) (known_is p (keys_across d) known i there)

-- known chunks, one behind the other, which stand in a table
slots_go : (at : ℕ) (known : List ℕ) (d : Described) (p : InPlace) (table : List ℕ) (i m : ℕ) → i + m ≤ needed d → i + m ≤ length table
    → ((j : ℕ) → i ≤ j → j < i + m → get_or known j undefined ≢ undefined) → ((j : ℕ) → i ≤ j → j < i + m → get_or table j undefined ≡ get_or known j undefined)
    → slots_left at known d p i (take i table) ≡ slots_left at known d p (i + m) (take (i + m) table)
slots_go at known d p table i zero h k defined same = ap (λ n. slots_left at known d p n (take n table)) (let z : i ≡ i + 0 = omega arith in z)
slots_go at known d p table i (suc m) h k defined same =
    let n : ℕ = i + m in
    let less : n < needed d = omega arith in
    let inside : n < length table = omega arith in
    let last : n < i + suc m = omega arith in
    let behind : i ≤ n = omega arith in
    let one : n + 1 ≡ suc n = omega arith in
    let end : suc n ≡ i + suc m = omega arith in
    slots_go at known d p table i m (omega arith) (omega arith) (λ j x y. defined j x (omega arith)) (λ j x y. same j x (omega arith))
    ∙ known_step at known d p n (take n table) less (defined n behind last)
    ∙ ap (λ a. slots_left at known d p (n + 1) (take n table ++ a ∷ [])) (sym (same n behind last))
    ∙ ap (slots_left at known d p (n + 1)) (sym (take-suc table n undefined inside))
    ∙ ap (λ k. slots_left at known d p k (take (suc n) table)) one
    ∙ ap (λ k. slots_left at known d p k (take k table)) end

-- up to the next chunk without a known address, or the last that is needed
slots_settle : (at : ℕ) (known : List ℕ) (d : Described) (p : InPlace) (xs : List ℕ) (i : ℕ) → i ≤ needed d → i ≤ length (with_found known xs)
    → ((j : ℕ) → i ≤ j → j < length (with_found known xs) → get_or known j undefined ≢ undefined)
    → slots_left at known d p i (take i (with_found known xs)) ≡ found_left at known d p xs
slots_settle at known d p xs i h k defined =
    let table = with_found known xs in
    let n : ℕ = min (needed d) (length table) in
    let end : i + (n - i) ≡ n = omega arith in
    let there : (j : ℕ) → i ≤ j → j < i + (n - i) → get_or known j undefined ≢ undefined = λ j x y. defined j x (omega arith) in
    let same : (j : ℕ) → i ≤ j → j < i + (n - i) → get_or table j undefined ≡ get_or known j undefined = λ j x y. found_keeps known xs j (there j x y) (omega arith) in
    slots_go at known d p table i (n - i) (omega arith) (omega arith) there same
    ∙ ap (λ m. slots_left at known d p m (take m table)) end
    ∙ ap (λ ys. slots_left at known d p n ys) (take_min (needed d) table)
    ∙ ap (λ m. slots_left at known d p m (take (needed d) table)) (sym (length-take (needed d) table))

-- the first chunks are known
pub slots_begin : (at : ℕ) (known : List ℕ) (d : Described) (p : InPlace) (ks : List Kept)
    → slots_rest at known d p ks 0 [] ≡ slots_rest at known d p ks (length (needed_with known d [])) (needed_with known d [])
unfolding slots_rest
slots_begin at known d p ks =
    let count : length (with_found known []) ≡ unknown_at known 0 = length_found known [] in
    ap (lowered 16 ks) (slots_settle at known d p [] 0 (omega arith) (omega arith) (λ j x y. known_first known j (omega (arith, count))))

-- behind the address of the next without a known one
slots_more : (at : ℕ) (known : List ℕ) (d : Described) (p : InPlace) (xs : List ℕ) (a : ℕ) → unknown_at known (length xs) < needed d
    → slots_left at known d p (unknown_at known (length xs) + 1) (with_found known xs ++ a ∷ []) ≡ after_found at known d p xs a
slots_more at known d p xs a h =
    let u : ℕ = unknown_at known (length xs) in
    let table = with_found known (xs ++ a ∷ []) in
    let more : length (xs ++ a ∷ []) ≡ suc (length xs) = length-append xs (a ∷ []) ∙ omega arith in
    let count : length table ≡ unknown_at known (suc (length xs)) = length_found known (xs ++ a ∷ []) ∙ ap (unknown_at known) more in
    let rises : u < unknown_at known (suc (length xs)) = unknown_rises known (length xs) in
    let one : u + 1 ≡ suc u = omega arith in
    ap (slots_left at known d p (u + 1)) (sym (found_next known xs a))
    ∙ ap (λ k. slots_left at known d p k (take (suc u) table)) one
    ∙ slots_settle at known d p (xs ++ a ∷ []) (suc u) (omega arith) (omega (arith, count, rises)) (λ j x y. known_between known (length xs) j (omega arith) (omega (arith, count)))

-- at that chunk
slots_here : (at : ℕ) (known : List ℕ) (d : Described) (p : InPlace) (xs : List ℕ) → unknown_at known (length xs) < needed d
    → found_left at known d p xs ≡ slots_left at known d p (unknown_at known (length xs)) (with_found known xs)
slots_here at known d p xs h =
    let table = with_found known xs in
    let count : length table ≡ unknown_at known (length xs) = length_found known xs in
    let all : take (needed d) table ≡ table = take_all (needed d) table (omega (arith, count)) in
    ap (λ ys. slots_left at known d p (length ys) ys) all
    ∙ ap (λ n. slots_left at known d p n table) count

-- that chunk is looked up
pub slots_at : (at : ℕ) (known : List ℕ) (d : Described) (p : InPlace) (ks : List Kept) (across i : ℕ) (xs : List ℕ) → across ≡ keys_across d → i ≡ unknown_at known (length xs) → i < needed d
    → store_rest ks (address_behind p (key_of across i)) (after_found at known d p xs) ≡ slots_rest at known d p ks (length (needed_with known d xs)) (needed_with known d xs)
unfolding slots_rest store_rest
slots_at at known d p ks across i xs wide is less =
    let u : ℕ = unknown_at known (length xs) in
    let near : u < needed d = omega arith in
    ap (λ m. lowered 16 ks (and_then (address_behind p (key_of m i)) (after_found at known d p xs))) wide
    ∙ ap (λ m. lowered 16 ks (and_then (address_behind p (key_of (keys_across d) m)) (after_found at known d p xs))) is
    ∙ ap (λ (q : Prog (Result ℕ ReadError)). lowered 16 ks (and_then q (after_found at known d p xs))) (sym (sought_is p (keys_across d) known u (unknown_is known (length xs))))
    ∙ ap (λ (f : ℕ → Prog (Result Reading ReadError)). lowered 16 ks (and_then (known_or p (keys_across d) known u) f)) (λ i a. sym (slots_more at known d p xs a near) i)
    ∙ ap (lowered 16 ks) (sym (slots_step at known d p u (with_found known xs) near))
    ∙ ap (lowered 16 ks) (sym (slots_here at known d p xs near))

-- behind its address
pub slots_push : (at : ℕ) (known : List ℕ) (d : Described) (p : InPlace) (ks : List Kept) (a : ℕ) (xs items : List ℕ) → items ≡ xs ++ a ∷ []
    → slots_rest at known d p ks (length (needed_with known d items)) (needed_with known d items) ≡ next_rest ks (after_found at known d p xs) a
unfolding slots_rest next_rest
slots_push at known d p ks a xs items h = ap (λ ys. lowered 16 ks (found_left at known d p ys)) h

-- all needed chunks are known or were found
pub slots_done : (at : ℕ) (known : List ℕ) (d : Described) (p : InPlace) (ks : List Kept) (xs : List ℕ) → needed d ≤ unknown_at known (length xs)
    → slots_rest at known d p ks (length (needed_with known d xs)) (needed_with known d xs) ≡ answered at d (needed_with known d xs)
slots_done at known d p ks xs h =
    let count = length_found known xs in
    let long = length-take (needed d) (with_found known xs) in
    slots_end at known d p ks (length (needed_with known d xs)) (needed_with known d xs) (omega (arith, count, long))

-- ---- Blocks

pub waiting_wants : (g : CallRules) (w : Waiting) (len : ℕ) → len ≡ min 512 w.gather.rest → next_look (waiting g w) ≡ Some (w.gather.place, len)
waiting_wants g w len e = wants_gather w.gather.place w.gather.rest len w.gather.got.items (wait_given (kept w.descent.store) w.wait (after_next g w.descent)) w.gather.more e

-- a block that is kept
pub put_used : (kind at len : ℕ) (b : List ℕ) (x : Block) (old new : List Kept) → IsBlockOf kind at len b x → new ≡ used 16 x.kind x.place x.len (bytes_in x.content) old
    → new ≡ used 16 kind at len b old
put_used kind at len b x old new is put =
    put
    ∙ ap (λ k. used 16 k x.place x.len (bytes_in x.content) old) is.kind_is
    ∙ ap (λ k. used 16 kind k x.len (bytes_in x.content) old) is.place_is
    ∙ ap (λ k. used 16 kind at k (bytes_in x.content) old) is.len_is
    ∙ ap (λ k. used 16 kind at len k old) is.bytes_are

abbrev data_by : List Kept → ℕ → ℕ → (ℕ → Prog (Result Reading ReadError)) → Result SlotsFields BlockFault → Prog (Result Reading ReadError)
data_by ks at slot next given = lowered 16 ks (and_then (ret (then_also (refused_as (Damaged at) given) (λ d. Ok (get_or d.slots slot undefined)))) next)

pub data_refused : (ks : List Kept) (at n slot : ℕ) (b : List ℕ) (f : BlockFault) (next : ℕ → Prog (Result Reading ReadError)) → eadb_at b at n ≡ Err f → store_rest ks (data_given at n slot b) next ≡ ret (Err (Damaged at f))
unfolding store_rest
data_refused ks at n slot b f next e = ap (data_by ks at slot next) e

abbrev second_by : List Kept → ℕ → ℕ → ℕ → ℕ → (ℕ → Prog (Result Reading ReadError)) → Result SlotsFields BlockFault → Prog (Result Reading ReadError)
second_by ks at s block slot next given = lowered 16 ks (and_then (elim given as (λ _. Prog (Result ℕ ReadError)) [
  | Ok t ↦ data_slot (get_or t.slots block undefined) (super_block_of s).slots slot
  | Err f ↦ ret (Err (Damaged at f))
]) next)

pub second_refused : (ks : List Kept) (at s block slot : ℕ) (b : List ℕ) (f : BlockFault) (next : ℕ → Prog (Result Reading ReadError)) → easb_at b at (super_block_of s).blocks ≡ Err f
    → store_rest ks (second_given at s block slot b) next ≡ ret (Err (Damaged at f))
unfolding store_rest
second_refused ks at s block slot b f next e = ap (second_by ks at s block slot next) e

-- a refusal that may be want of memory
pub refused_block : {A E : Type 0} (g : CallRules) (at : ℕ) (r : Result (Outcome News (Box Waiting)) E) (f : BlockFault) (given : Result A BlockFault) (p : Prog (Result Reading ReadError))
    → IfOk r (λ d. d ≡ outcomes.Refused (Damaged at f)) → IfOk r (λ d. f ≢ faults.OutOfMemory) → (f ≡ faults.OutOfMemory) ⊎ (given ≡ Err f) → (given ≡ Err f → p ≡ ret (Err (Damaged at f)))
    → IfOk r (λ d. descended g d ≡ p)
refused_block g at (Ok d) f given p h other (inl e) k = absurd (other e)
refused_block g at (Ok d) f given p h other (inr e) k = ap (descended g) h ∙ sym (k e)
refused_block g at (Err x) f given p h other c k = h
