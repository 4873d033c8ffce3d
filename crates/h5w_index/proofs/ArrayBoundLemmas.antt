-- What a plan of an array's changed blocks takes: how many they are, how long, and by how much the end of the file rises, by the number of
-- the chunks on whose ways they are.
use Rattle.std.proofs.Common.{◌≡◌, ◌≢◌, ◌⊎◌, ℕ, zero, suc, ◌+◌, ◌*◌, ◌/◌, ◌^◌, ◌<◌, ◌≤◌, Bool, true, false, List, [], ◌∷◌, length, take, drop, cond, Option, Some, None, IfSome, refl, sym, ap, ◌∙◌, subst, inl, inr, arith, length-append, length-drop, length-take}
use Rattle.std.specs.Prelude.{◌==◌, if◌then◌else◌, IsSomeAnd}
use Rattle.std.proofs.lemmas.List.Sorted.{sum_by-IsPermutation}
use Rattle.std.proofs.lemmas.Bool.{cases_eq, lt-ltb, ne_eqb}
use Rattle.std.proofs.lemmas.Nat.{mul-le}
use Rattle.std.proofs.lemmas.List.{length-map}
use Rattle.std.proofs.Math.Nat.{pow-le-pow_right}
use Rattle.h5w_model.specs.Numbers.{undefined}
use Rattle.h5w_model.specs.Images.{pieces}
use Rattle.h5w_model.specs.Datasets.{Described}
use Rattle.h5w_model.specs.declared.cell.Key.{Key}
use Rattle.h5w_model.specs.declared.piece.Write.{Write}
use Rattle.h5w_model.proofs.ImageLemmas.{length-pieces}
use Rattle.h5w_chunks.specs.Shares.{touched, touched_key}
use Rattle.h5w_space.specs.Space.{Space}
use Rattle.h5w_space.specs.declared.Full.{Full}
use Rattle.h5w_cache.specs.Blocks.{BlockView}
use Rattle.h5w_cache.specs.Plans as plans
use Rattle.h5w_cache.specs.Plans.{AreMoves, AreRetired, AreTaken, IsMove, IsOrder, IsPlan, Placed, bytes_in, bytes_of, numbers, stays}
use Rattle.h5w_cache.specs.Starts.{IsBegun, Start}
use Rattle.h5w_cache.specs.Stores.{Store, block_of, is_changed, place_of, times}
use Rattle.h5w_cache.specs.declared.moves.Move.{Move}
use Rattle.h5w_cache.proofs.PlannedLemmas.{same_times, times-more, times-other, times-same}
use Rattle.h5w_array_laws.specs.Parts.{IsPart, Part, data_of, header, holder, index_block, length_of, number_of, parent, secondary_of, stays_in_place}
use Rattle.h5w_array_laws.specs.ArrayStores.{IsArray, IsBlock}
use Rattle.h5w_array_laws.proofs.KeptLemmas.{is_some_of, of_some}
use Rattle.h5w_array_laws.proofs.PlanLemmas.{block_known, someAnd_of}
use Rattle.h5w_ea_index.specs.Steps.{OnWay}
use Rattle.h5w_index.specs.Marks.{ArrayMarked, FullBound, IsRaised, IsTouched, PlanBound}
use Rattle.h5w_index.specs.Steps.{ArrayNoPlace}
use Rattle.h5w_index.proofs.CountLemmas.{Listed, listed_times, no_more, taken_listed, taken_times, times_listed}
use Rattle.h5w_index.proofs.RaisedLemmas.{retired_raised, raised_more, raised_none, raised_on, raised_one}

-- ---- How long blocks are

length_short : (k : Part) → IsPart k → length_of k ≤ 8214
length_short (data_of s b) is =
    let half : (s + 1) / 2 ≤ 6 = omega (arith, is.0) in
    let some : 0 < 2 = omega arith in
    let power : 2 ^ ((s + 1) / 2) ≤ 2 ^ 6 = pow-le-pow_right some half in
    omega (arith, power)
length_short (secondary_of s) is =
    let half : s / 2 ≤ 6 = omega (arith, is.1) in
    let some : 0 < 2 = omega arith in
    let power : 2 ^ (s / 2) ≤ 2 ^ 6 = pow-le-pow_right some half in
    omega (arith, power)
length_short index_block is = omega arith
length_short header is = omega arith

bytes_short_of : (v : Store) → IsArray v → (n : ℕ) (o : Option BlockView) → block_of v n ≡ o → length (bytes_of o) ≤ 8214
bytes_short_of v a n None e = omega arith
bytes_short_of v a n (Some b) e = let k = block_known v a n b e in omega (arith, k.3.len, length_short k.0 k.1)

bytes_short : (v : Store) → IsArray v → (n : ℕ) → length (bytes_in v.blocks n) ≤ 8214
bytes_short v a n = bytes_short_of v a n (block_of v n) refl

length_some : (k : Part) → IsPart k → 1 ≤ length_of k
length_some (data_of s b) is = omega arith
length_some (secondary_of s) is = omega arith
length_some index_block is = omega arith
length_some header is = omega arith

block_some : (v : Store) (n : ℕ) (b : BlockView) → IsArray v → block_of v n ≡ Some b → (1 ≤ length b.bytes) × (length b.bytes ≤ 8214)
block_some v n b a e =
    let k = block_known v a n b e in
    let short : length b.bytes ≤ 8214 = subst (λ (o : Option BlockView). length (bytes_of o) ≤ 8214) e (bytes_short v a n) in
    (omega (arith, k.3.len, length_some k.0 k.1), short)

some_and : {A : Type 0} (o : Option A) (P : A → Type 0) → IsSomeAnd o P → (x : A) × (o ≡ Some x) × P x
some_and None P h = absurd h
some_and (Some x) P h = (x, refl, h)

-- ---- Blocks that take a new place

-- their numbers
abbrev out_of : List Move → List ℕ
out_of [] = []
out_of (m ∷ ms) = if m.in_place then out_of ms else m.number ∷ out_of ms

out_in : (m : Move) (ms : List Move) → m.in_place ≡ true → out_of (m ∷ ms) ≡ out_of ms
out_in m ms e = rw e refl

out_new : (m : Move) (ms : List Move) → m.in_place ≡ false → out_of (m ∷ ms) ≡ m.number ∷ out_of ms
out_new m ms e = rw e refl

cases_bool : (b : Bool) → (b ≡ true) ⊎ (b ≡ false)
cases_bool true = inl refl
cases_bool false = inr refl

out_times : (n : ℕ) (ms : List Move) → times n (out_of ms) ≤ times n (numbers ms)
out_times n [] = omega arith
out_times n (m ∷ ms) =
    let rest = out_times n ms in
    elim (cases_bool m.in_place) [
      | inl e ↦ omega (arith, rest, times-more n m.number (numbers ms), ap (times n) (out_in m ms e))
      | inr e ↦ out_times_new n m ms e rest
    ]
  where
    out_times_new : (n : ℕ) (m : Move) (ms : List Move) → m.in_place ≡ false → times n (out_of ms) ≤ times n (numbers ms) → times n (out_of (m ∷ ms)) ≤ times n (numbers (m ∷ ms))
    out_times_new n m ms e rest =
        elim (cases_eq m.number n) [
          | inl same ↦ omega (arith, rest, times-same n m.number (numbers ms) same, times-same n m.number (out_of ms) same, ap (times n) (out_new m ms e))
          | inr other ↦ omega (arith, rest, times-other n m.number (numbers ms) other, times-other n m.number (out_of ms) other, ap (times n) (out_new m ms e))
        ]

out_listed : (n : ℕ) (ms : List Move) → Listed n (out_of ms) → Listed n (numbers ms)
out_listed n ms l = times_listed n (numbers ms) (omega (arith, listed_times n (out_of ms) l, out_times n ms))

-- a block that has a move, and takes a new place
record IsOut (v : Store) (n : ℕ) : Type 0 where
  block : BlockView
  is : block_of v n ≡ Some block
  moves : block.in_place ≡ false

module _ (v : Store) where
  out_step : (s : Space) (m : Move) (t : Space) → IsMove v.blocks v.places s m t → m.in_place ≡ false → IsOut v m.number
  out_step s m t step e =
      let b = is_some_of (block_of v m.number) step.kept in
      record { block = b.0; is = b.1; moves = sym (someAnd_of (λ (x : BlockView). m.in_place ≡ x.in_place) (block_of v m.number) b.0 b.1 step.in_place) ∙ e }

  out_blocks : (s : Space) (ms : List Move) (t : Space) → AreMoves v.blocks v.places s ms t → (n : ℕ) → Listed n (out_of ms) → IsOut v n
  out_blocks s [] t moves n l = absurd l
  out_blocks s (m ∷ ms) t moves n l =
      elim (cases_bool m.in_place) [
        | inl e ↦ out_blocks moves.0 ms t moves.2 n (subst (Listed n) (out_in m ms e) l)
        | inr e ↦ elim (subst (Listed n) (out_new m ms e) l) [
          | inl same ↦ subst (IsOut v) same (out_step s m moves.0 moves.1 e)
          | inr rest ↦ out_blocks moves.0 ms t moves.2 n rest
        ]
      ]

-- ---- By how much the end rises

placed_raised : (b : Bool) (old len : ℕ) (s t : Space) (new : ℕ) → b ≡ true → Placed b old len s t new → IsRaised s t 0
placed_raised true old len s t new e p = raised_none s t (ap (λ (x : Space). x.end) p.1) (ap (λ (x : Space). x.limit) p.1)
placed_raised false old len s t new e p = absurd cc

taken_raised : (b : Bool) (old len : ℕ) (s t : Space) (new : ℕ) → b ≡ false → Placed b old len s t new → IsRaised s t len
taken_raised true old len s t new e p = absurd cc
taken_raised false old len s t new e p = raised_one s t new len p.takes

stays_not : (b : Bool) (old : ℕ) → b ≡ false → stays b old ≡ false
stays_not true old e = absurd cc
stays_not false old e = refl

stays_so : (b : Bool) (old : ℕ) → b ≡ true → old ≢ undefined → stays b old ≡ true
stays_so false old e placed = absurd cc
stays_so true old e placed = rw (ne_eqb old undefined placed) refl

in_place_of : (o : Option BlockView) (k : Part) → IfSome o (IsBlock k) → IfSome o (λ (b : BlockView). b.in_place ≡ stays_in_place k)
in_place_of None k each = tt
in_place_of (Some b) k each = each.in_place

module _ (v : Store) (a : IsArray v) where
  -- a block in place has a place already
  in_place_placed : (s : Space) (m : Move) (t : Space) → IsMove v.blocks v.places s m t → m.in_place ≡ true → m.old ≢ undefined
  in_place_placed s m t step e =
      let b = is_some_of (block_of v m.number) step.kept in
      let k = block_known v a m.number b.0 b.1 in
      let stay : stays_in_place k.0 ≡ true = sym k.3.in_place ∙ sym (someAnd_of (λ (x : BlockView). m.in_place ≡ x.in_place) (block_of v m.number) b.0 b.1 step.in_place) ∙ e in
      λ none. (a.in_place k.0 k.1 stay).1 (ap (place_of v) k.2 ∙ sym step.old ∙ none)

  move_len : (s : Space) (m : Move) (t : Space) → IsMove v.blocks v.places s m t → m.len ≤ 8214
  move_len s m t step = omega (arith, step.len, bytes_short v a m.number)

  pub moves_raised : (s : Space) (ms : List Move) (t : Space) → AreMoves v.blocks v.places s ms t → IsRaised s t (length (out_of ms) * 8214)
  moves_raised s [] t moves = raised_more s t 0 (0 * 8214) (omega arith) (raised_none s t (ap (λ (x : Space). x.end) moves) (ap (λ (x : Space). x.limit) moves))
  moves_raised s (m ∷ ms) t moves =
      let u = moves.0 in
      let step = moves.1 in
      let rest = moves_raised u ms t moves.2 in
      elim (cases_bool m.in_place) [
        | inl e ↦
            let still = placed_raised (stays m.in_place m.old) m.old m.len s u m.new (stays_so m.in_place m.old e (in_place_placed s m u step e)) step.step in
            raised_more s t (0 + length (out_of ms) * 8214) (length (out_of (m ∷ ms)) * 8214) (omega (arith, ap length (out_in m ms e))) (raised_on s u t 0 (length (out_of ms) * 8214) still rest)
        | inr e ↦
            let takes = taken_raised (stays m.in_place m.old) m.old m.len s u m.new (stays_not m.in_place m.old e) step.step in
            let most = raised_more s u m.len 8214 (move_len s m u step) takes in
            raised_more s t (8214 + length (out_of ms) * 8214) (length (out_of (m ∷ ms)) * 8214) (omega (arith, ap length (out_new m ms e))) (raised_on s u t 8214 (length (out_of ms) * 8214) most rest)
      ]

-- ---- How many blocks are on the ways of some chunks

-- the number in dimension 0 of the chunk
abbrev index_at : Described → ℕ → ℕ → ℕ
index_at d from k = (touched_key d from k).i

-- the numbers of the blocks that have the slots of some chunks, and of those that name them
abbrev ways : Described → ℕ → ℕ → ℕ → List ℕ
ways d from k zero = []
ways d from k (suc n) = number_of (holder (index_at d from k)) ∷ number_of (parent (holder (index_at d from k))) ∷ ways d from (k + 1) n

length-ways : (d : Described) (from k n : ℕ) → length (ways d from k n) ≡ 2 * n
length-ways d from k zero = omega arith
length-ways d from k (suc n) = omega (arith, length-ways d from (k + 1) n)

way_listed : (d : Described) (from k n j : ℕ) → k ≤ j → j < k + n → Listed (number_of (holder (index_at d from j))) (ways d from k n) × Listed (number_of (parent (holder (index_at d from j)))) (ways d from k n)
way_listed d from k zero j low high = absurd (omega (arith, low, high))
way_listed d from k (suc n) j low high =
    elim (cases_eq k j) [
      | inl same ↦ (inl (ap (λ (x : ℕ). number_of (holder (index_at d from x))) same), inr (inl (ap (λ (x : ℕ). number_of (parent (holder (index_at d from x)))) same)))
      | inr other ↦
          let rest = way_listed d from (k + 1) n j (omega (arith, low, other)) (omega (arith, high)) in
          (inr (inr rest.0), inr (inr rest.1))
    ]

-- moves of changed blocks, none twice
record AreChanged (v : Store) (ms : List Move) : Type 0 where
  once : (n : ℕ) → times n (numbers ms) ≤ 1
  changed : (n : ℕ) → Listed n (numbers ms) → is_changed v n ≡ true

module _ (v : Store) (a : IsArray v) (d : Described) (from to : ℕ) (marks : ArrayMarked d from to v) (ms : List Move) (all : AreChanged v ms) where
  way_of : (n : ℕ) → Listed n (numbers ms) → (key : Key) × IsTouched d from to key × OnWay (holder key.i) n
  way_of n l = marks n (all.changed n l)

  -- every block but the two in place
  abbrev known_ways : List ℕ
  known_ways = ways d from 0 (touched d from to)

  listed_way : (key : Key) → IsTouched d from to key → Listed (number_of (holder key.i)) known_ways × Listed (number_of (parent (holder key.i))) known_ways
  listed_way key t =
      subst (λ (k : Key). Listed (number_of (holder k.i)) known_ways × Listed (number_of (parent (holder k.i))) known_ways) (sym t.is)
      (way_listed d from 0 (touched d from to) t.number (omega arith) (omega (arith, t.inside)))

  on_way_all : (n : ℕ) (key : Key) → IsTouched d from to key → OnWay (holder key.i) n → Listed n (number_of index_block ∷ number_of header ∷ known_ways)
  on_way_all n key t (inl e) = subst (λ (x : ℕ). Listed x (number_of index_block ∷ number_of header ∷ known_ways)) (sym e) (inr (inr (listed_way key t).0))
  on_way_all n key t (inr (inl e)) = subst (λ (x : ℕ). Listed x (number_of index_block ∷ number_of header ∷ known_ways)) (sym e) (inr (inr (listed_way key t).1))
  on_way_all n key t (inr (inr (inl e))) = inl (sym e)
  on_way_all n key t (inr (inr (inr e))) = inr (inl (sym e))

  few_moves : length ms ≤ 2 * touched d from to + 2
  few_moves =
      let most = no_more (numbers ms) (number_of index_block ∷ number_of header ∷ known_ways) all.once (λ n l. let w = way_of n l in on_way_all n w.0 w.1 w.2) in
      omega (arith, most, length-ways d from 0 (touched d from to), length-map ms (λ (m : Move). m.number))

  -- a block in place takes no new place
  not_out : (k : Part) → IsPart k → stays_in_place k ≡ true → (n : ℕ) → n ≡ number_of k → IsOut v n → ⊥
  not_out k is stay n e out =
      let here : block_of v (number_of k) ≡ Some out.block = ap (block_of v) (sym e) ∙ out.is in
      let known = of_some (λ (b : BlockView). b.in_place ≡ stays_in_place k) (block_of v (number_of k)) out.block here (in_place_of (block_of v (number_of k)) k (a.each k is)) in
      absurd (let clash : true ≡ false = sym stay ∙ sym known ∙ out.moves in cc)

  on_way_out : (n : ℕ) (key : Key) → IsOut v n → IsTouched d from to key → OnWay (holder key.i) n → Listed n known_ways
  on_way_out n key out t (inl e) = subst (λ (x : ℕ). Listed x known_ways) (sym e) (listed_way key t).0
  on_way_out n key out t (inr (inl e)) = subst (λ (x : ℕ). Listed x known_ways) (sym e) (listed_way key t).1
  on_way_out n key out t (inr (inr (inl e))) = absurd (not_out index_block tt refl n e out)
  on_way_out n key out t (inr (inr (inr e))) = absurd (not_out header tt refl n e out)

  few_out : (s t : Space) → AreMoves v.blocks v.places s ms t → length (out_of ms) ≤ 2 * touched d from to
  few_out s t moves =
      let most = no_more (out_of ms) known_ways (λ n. omega (arith, all.once n, out_times n ms))
      (λ n l. let w = way_of n (out_listed n ms l) in on_way_out n w.0 (out_blocks v s ms t moves n l) w.1 w.2) in
      omega (arith, most, length-ways d from 0 (touched d from to))

  moves_bound : (s t : Space) → AreMoves v.blocks v.places s ms t → IsRaised s t (touched d from to * 16428)
  moves_bound s t moves =
      let few = few_out s t moves in
      let product : length (out_of ms) * 8214 ≤ 2 * touched d from to * 8214 = mul-le (length (out_of ms)) 8214 (2 * touched d from to) 8214 few (omega arith) in
      raised_more s t (length (out_of ms) * 8214) (touched d from to * 16428) (omega (arith, product)) (moves_raised v a s ms t moves)

-- ---- The pieces of blocks

moved_few : (blocks : List (Option BlockView)) (ms : List Move) → ((n : ℕ) → length (bytes_in blocks n) ≤ 8214) → length (plans.writes_of blocks ms) ≤ length ms * 17
moved_few blocks [] short = omega arith
moved_few blocks (m ∷ ms) short =
    let bytes = bytes_in blocks m.number in
    let rest = moved_few blocks ms short in
    let one : length (pieces m.new bytes) ≤ 17 = omega (arith, length-pieces m.new bytes, short m.number) in
    omega (arith, length-append (pieces m.new bytes) (plans.writes_of blocks ms), one, rest)

-- those before the first in place and those from it on, together
split_few : (blocks : List (Option BlockView)) (ms : List Move) (k : ℕ) → k ≤ length ms → ((n : ℕ) → length (bytes_in blocks n) ≤ 8214)
    → length (plans.writes_of blocks (take k ms)) + length (plans.writes_of blocks (drop k ms)) ≤ length ms * 17
split_few blocks ms k inside short =
    let all : length (take k ms) + length (drop k ms) ≡ length ms = omega (arith, length-take k ms, length-drop k ms) in
    omega (arith, moved_few blocks (take k ms) short, moved_few blocks (drop k ms) short, all)

-- ---- A plan

changed_by : (v : Store) (n : ℕ) → 0 < times n v.changed → is_changed v n ≡ true
changed_by v n some = lt-ltb 0 (times n v.changed) some

module _ (d : Described) (from to : ℕ) (v : Store) (a : IsArray v) (marks : ArrayMarked d from to v) where
  order_changed : (ms : List Move) → IsOrder v.blocks v.changed (numbers ms) → (n : ℕ) → Listed n (numbers ms) → is_changed v n ≡ true
  order_changed ms order n l = changed_by v n (omega (arith, listed_times n (numbers ms) l, same_times v.changed ms n order.all))

  plan_changed : (s : Space) (ms : List Move) (copies fixed : List Write) (w : Store) (t : Space) → IsPlan v s ms copies fixed w t → AreChanged v ms
  plan_changed s ms copies fixed w t p = record { once = p.once; changed = order_changed ms p.order }

  -- all of them have their places
  array_raised : (s : Space) (ms : List Move) (roomy t : Space) → AreChanged v ms → AreTaken v.blocks v.places s ms roomy → AreRetired roomy ms t → IsRaised s t (touched d from to * 16428)
  array_raised s ms roomy t changed x retired =
      let most : ℕ = touched d from to * 16428 in
      let moved = moves_bound v a d from to marks ms changed s x.taken x.moves in
      let still = raised_none x.taken roomy (ap (λ (u : Space). u.end) x.roomy) (ap (λ (u : Space). u.limit) x.roomy) in
      raised_more s t (most + 0 + 0) most (omega arith) (raised_on s roomy t (most + 0) 0 (raised_on s x.taken roomy most 0 moved still) (retired_raised roomy ms t retired))

  -- so it is of a plan that is begun, if no block is listed twice
  pub array_begun : (s : Space) (b : Start) (t : Space) → ((n : ℕ) → times n v.changed ≤ 1) → IsBegun v.blocks v.places v.changed s b t → IsRaised s t (touched d from to * 16428)
  array_begun s b t once x =
      let changed : AreChanged v b.moves = record { once = λ n. omega (arith, once n, same_times v.changed b.moves n x.order.all); changed = order_changed b.moves x.order } in
      array_raised s b.moves x.roomy t changed x.taken x.retired

  pub array_bound : (s : Space) (ms : List Move) (copies fixed : List Write) (w : Store) (t : Space) → IsPlan v s ms copies fixed w t → PlanBound d from to s copies fixed t
  array_bound s ms copies fixed w t p =
      let changed = plan_changed s ms copies fixed w t p in
      let short : (n : ℕ) → length (bytes_in w.blocks n) ≤ 8214 = λ n. omega (arith, p.lengths n, bytes_short v a n) in
      let all = split_few w.blocks ms p.writes.split p.writes.splits.inside short in
      let few = few_moves v a d from to marks ms changed in
      record {
        raised = array_raised s ms p.roomy t changed p.taken p.retired;
        pieces = omega (arith, all, few, ap length p.writes.before, ap length p.writes.from);
      }

  -- the first block in turn that has no place
  pub array_full : (s : Space) (e : Full) → ArrayNoPlace v s e → FullBound d from to s e
  array_full s e x =
      let none = x.refused in
      let f = none.full in
      let k = length f.taken in
      let kept : (i : ℕ) → times i none.order ≡ times i v.changed = λ i. sum_by-IsPermutation (λ (m : ℕ). cond (m == i) 1 0) v.changed none.order none.ordered.all in
      let changed : AreChanged v f.taken = record {
        once = λ i. omega (arith, x.once i, kept i, taken_times i k none.order, ap (times i) f.first);
        changed = λ i l. changed_by v i (omega (arith, kept i, listed_times i none.order (taken_listed i k none.order (subst (Listed i) f.first l))));
      } in
      let block = some_and _ _ f.refused in
      let size = block_some v _ block.0 a block.1 in
      record {
        before = f.t;
        raised = moves_bound v a d from to marks f.taken changed s f.t f.moves;
        size = length block.0.bytes;
        some = size.0;
        few = size.1;
        refused = block.2.1;
      }
