-- The writes in place of a plan: none, or the whole index block and then the whole header; and what all writes miss.
use Rattle.std.proofs.Common.{◌≡◌, ◌⊎◌, ℕ, suc, ◌+◌, ◌-◌, ◌/◌, ◌<◌, ◌≤◌, true, false, List, [], ◌∷◌, ◌++◌, length, take, drop, get_or, refl, sym, ap, ◌∙◌, subst, inl, inr, arith}
use Rattle.std.specs.List.{AllByRecursion}
use Rattle.std.proofs.lemmas.Bool.{cases_lt, cases_eq, cases_Bool}
use Rattle.std.proofs.lemmas.List.{get_or-map, length-map, get_or-take, get_or-drop, length-take, length-drop, take-append-drop, take_all, map-append}
use Rattle.std.proofs.lemmas.List.Elements.{All-from_get_or, All-get_or}
use Rattle.h5w_model.specs.Images.{AllMiss, first_pieces, pieces}
use Rattle.h5w_model.specs.Arrays.{eahd_len, eaib_len}
use Rattle.h5w_model.specs.Findings.{Used}
use Rattle.h5w_model.specs.declared.piece.Write.{Write}
use Rattle.h5w_space.specs.Space.{Space, IsLive, Apart, extent}
use Rattle.h5w_space.specs.declared.Extent.{Extent}
use Rattle.h5w_cache.specs.Blocks.{BlockView}
use Rattle.h5w_cache.specs.Stores.{Store, block_of, place_of, place_in, times, is_changed}
use Rattle.h5w_cache.specs.Plans.{IsPlan, bytes_in, bytes_of, turn_in, numbers, writes_of}
use Rattle.h5w_cache.specs.StoreLaws.{IsPlaced, IsRetired, KeepsStore, Standing, range_of}
use Rattle.h5w_cache.specs.declared.moves.Move.{Move}
use Rattle.h5w_cache.proofs.PlannedLemmas.{kept_inside, same_times, times-other, times-same}
use Rattle.h5w_cache.proofs.MoveLemmas.{found_move}
use Rattle.h5w_cache.proofs.LawLemmas.{no_move}
use Rattle.h5w_step_laws.specs.Ranges.{Among, block_at}
use Rattle.h5w_array_laws.specs.Parts.{Part, data_of, secondary_of, index_block, header, IsPart, number_of, length_of, stays_in_place}
use Rattle.h5w_array_laws.specs.ArrayStores.{IsArray, IsBlock, block_at_part, place_at_part, bytes_at_part, header_place, fixed_of}
use Rattle.h5w_array_laws.specs.ArrayImages.{AreInPlace}
use Rattle.h5w_array_laws.specs.ArrayPlans.{extent_of}
use Rattle.h5w_array_laws.proofs.StoreLemmas.{move_at, new_at, new_placed}
use Rattle.h5w_array_laws.proofs.KeptLemmas.{is_some_of, of_some}
use Rattle.h5w_array_laws.proofs.StandLemmas.{header_length, index_length}
use Rattle.h5w_array_laws.proofs.PlanLemmas.{block_known, turn_is, in_place_high, someAnd_of, place_stays}
use Rattle.h5w_array_laws.proofs.PlannedLemmas.{array_after, is_clean, is_marked}
use Rattle.h5w_array_laws.proofs.FreshLemmas.{took}

-- ---- How often a number is listed

pub times_joined : (n : ℕ) (xs ys : List ℕ) → times n (xs ++ ys) ≡ times n xs + times n ys
times_joined n [] ys = omega arith
times_joined n (x ∷ xs) ys = elim (cases_eq x n) as (λ _. times n ((x ∷ xs) ++ ys) ≡ times n (x ∷ xs) + times n ys) [
  | inl e ↦ omega (arith, times-same n x (xs ++ ys) e, times-same n x xs e, times_joined n xs ys)
  | inr ne ↦ omega (arith, times-other n x (xs ++ ys) ne, times-other n x xs ne, times_joined n xs ys)
]

-- of the two numbers in place
abbrev pub IsTop : ℕ → Type 0
IsTop n = (n ≡ 845) ⊎ (n ≡ 846)

pub tops_counted : (ns : List ℕ) → AllByRecursion IsTop ns → times 845 ns + times 846 ns ≡ length ns
tops_counted [] h = omega arith
tops_counted (n ∷ ns) h = go h.0 (tops_counted ns h.1)
  where
    go : IsTop n → times 845 ns + times 846 ns ≡ length ns → times 845 (n ∷ ns) + times 846 (n ∷ ns) ≡ suc (length ns)
    go (inl e) later = omega (arith, times-same 845 n ns e, times-other 846 n ns (λ f. absurd (omega (arith, e, f))), later)
    go (inr e) later = omega (arith, times-same 846 n ns e, times-other 845 n ns (λ f. absurd (omega (arith, e, f))), later)

pub two_tops : (ns : List ℕ) (c : ℕ) → AllByRecursion IsTop ns → times 845 ns ≡ c → times 846 ns ≡ c → c ≤ 1 → (1 < length ns → get_or ns 0 0 ≤ get_or ns 1 0) → (ns ≡ []) ⊎ (ns ≡ 845 ∷ 846 ∷ [])
two_tops [] c h e f few rises = inl refl
two_tops (x ∷ []) c h e f few rises = absurd (omega (arith, tops_counted (x ∷ []) h, e, f))
two_tops (x ∷ y ∷ []) c h e f few rises = go h.0 h.1.0
  where
    go : IsTop x → IsTop y → (x ∷ y ∷ [] ≡ []) ⊎ (x ∷ y ∷ [] ≡ 845 ∷ 846 ∷ [])
    go (inl i) (inl j) = absurd (omega (arith, times-same 845 x (y ∷ []) i, times-same 845 y [] j, e, few))
    go (inl i) (inr j) = inr (λ k. i k ∷ j k ∷ [])
    go (inr i) (inl j) = absurd (omega (arith, rises (omega arith), i, j))
    go (inr i) (inr j) = absurd (omega (arith, times-same 846 x (y ∷ []) i, times-same 846 y [] j, f, few))
two_tops (x ∷ y ∷ z ∷ ns) c h e f few rises = absurd (omega (arith, tops_counted (x ∷ y ∷ z ∷ ns) h, e, f, few))

-- the moves of two numbers
pub two_moves : (ms : List Move) (a b : ℕ) → numbers ms ≡ a ∷ b ∷ [] → (m : Move) × (n : Move) × (ms ≡ m ∷ n ∷ []) × (m.number ≡ a) × (n.number ≡ b)
two_moves [] a b h = absurd cc
two_moves (m ∷ []) a b h = absurd cc
two_moves (m ∷ n ∷ []) a b h = (m, n, refl, cc, cc)
two_moves (m ∷ n ∷ o ∷ ms) a b h = absurd cc

pub no_moves : (ms : List Move) → numbers ms ≡ [] → ms ≡ []
no_moves [] h = refl
no_moves (m ∷ ms) h = absurd cc

-- bytes of at most 512 are one piece
pub one_piece : (place : ℕ) (bytes : List ℕ) → 0 < length bytes → length bytes ≤ 512 → pieces place bytes ≡ record { at = place; piece = bytes } ∷ []
unfolding pieces first_pieces
one_piece place bytes some few =
    let one : (length bytes + 511) / 512 ≡ 1 = omega arith in
    ap (λ k. first_pieces k place bytes) one
    ∙ ap (λ b. record { at = place; piece = b } ∷ []) (take_all 512 bytes few)

pub all_at : {X : Type 0} (Q : X → Type 0) (xs : List X) (d : X) → ((i : ℕ) → i < length xs → Q (get_or xs i d)) → AllByRecursion Q xs
all_at Q [] d h = tt
all_at Q (x ∷ xs) d h = (h 0 (omega arith), all_at Q xs d (λ i lt. h (suc i) (omega arith)))

-- a part that stays in place
pub stays_which : (k : Part) → stays_in_place k ≡ true → (k ≡ index_block) ⊎ (k ≡ header)
stays_which (data_of s b) h = absurd cc
stays_which (secondary_of s) h = absurd cc
stays_which index_block h = inl refl
stays_which header h = inr refl

module _ (v : Store) (s : Space) (ms : List Move) (cs fs : List Write) (w : Store) (t : Space) (p : IsPlan v s ms cs fs w t) (a : IsArray v) where
  -- a move in place is that of a part that stays in place
  pub move_stays : (i : ℕ) → i < length ms → (get_or ms i no_move).in_place ≡ true → (k : Part) × IsPart k × (number_of k ≡ (get_or ms i no_move).number) × (stays_in_place k ≡ true) × (length (bytes_in v.blocks (get_or ms i no_move).number) ≡ length_of k)
  move_stays i lt e =
      let m : Move = get_or ms i no_move in
      let at = move_at v s ms cs fs w t p i lt in
      let b = is_some_of (block_of v m.number) at.step.kept in
      let k = block_known v a m.number b.0 b.1 in
      let same : m.in_place ≡ b.0.in_place = someAnd_of (λ (x : BlockView). m.in_place ≡ x.in_place) (block_of v m.number) b.0 b.1 at.step.in_place in
      (k.0, k.1, k.2, sym k.3.in_place ∙ sym same ∙ e, ap (λ o. length (bytes_of o)) b.1 ∙ k.3.len)

  -- the other way round
  pub top_stays_move : (k : Part) → IsPart k → stays_in_place k ≡ true → (i : ℕ) → i < length ms → (get_or ms i no_move).number ≡ number_of k → (get_or ms i no_move).in_place ≡ true
  top_stays_move k is stay i lt e =
      let m : Move = get_or ms i no_move in
      let at = move_at v s ms cs fs w t p i lt in
      let b = is_some_of (block_at_part v k) (a.in_place k is stay).0 in
      let known = of_some (IsBlock k) (block_at_part v k) b.0 b.1 (a.each k is) in
      someAnd_of (λ (x : BlockView). m.in_place ≡ x.in_place) (block_of v m.number) b.0 (ap (block_of v) e ∙ b.1) at.step.in_place ∙ known.in_place ∙ stay

  -- no block in place is moved before the split
  pub none_before_split : (k : Part) → IsPart k → stays_in_place k ≡ true → times (number_of k) (numbers (take p.writes.split ms)) ≡ 0
  none_before_split k is stay = go (cases_lt 0 (times (number_of k) (numbers (take p.writes.split ms))))
    where
      go : (0 < times (number_of k) (numbers (take p.writes.split ms))) ⊎ (times (number_of k) (numbers (take p.writes.split ms)) ≤ 0) → times (number_of k) (numbers (take p.writes.split ms)) ≡ 0
      go (inr none) = omega arith
      go (inl some) =
          let front : List Move = take p.writes.split ms in
          let f = found_move front (number_of k) no_move some in
          let lt : f.0 < p.writes.split = omega (arith, f.1, length-take p.writes.split ms) in
          let inside : f.0 < length ms = omega (arith, f.1, length-take p.writes.split ms) in
          let same : get_or front f.0 no_move ≡ get_or ms f.0 no_move = get_or-take p.writes.split ms f.0 no_move lt in
          let off : (get_or front f.0 no_move).in_place ≡ false = All-get_or (λ (m : Move). m.in_place ≡ false) front f.0 no_move f.1 p.writes.splits.before in
          let on : (get_or ms f.0 no_move).in_place ≡ true = top_stays_move k is stay f.0 inside (ap (λ (m : Move). m.number) (sym same) ∙ f.2) in
          absurd (let x : true ≡ false = sym on ∙ ap (λ (m : Move). m.in_place) (sym same) ∙ off in cc)

  -- the number of a move, as its turn
  pub number_turn : (i : ℕ) → i < length ms → turn_in v.blocks (get_or (numbers ms) i 0) ≡ (get_or ms i no_move).number
  number_turn i lt =
      ap (turn_in v.blocks) (get_or-map (λ (x : Move). x.number) ms i no_move 0 lt)
      ∙ turn_is v a (get_or ms i no_move).number (move_at v s ms cs fs w t p i lt).step.kept

  pub rising : (i j : ℕ) → i ≤ j → j < length ms → (get_or ms i no_move).number ≤ (get_or ms j no_move).number
  rising i j le lt =
      let count : length (numbers ms) ≡ length ms = length-map ms (λ (x : Move). x.number) in
      let up : turn_in v.blocks (get_or (numbers ms) i 0) ≤ turn_in v.blocks (get_or (numbers ms) j 0) = p.order.turns i j 0 le (omega (arith, count, lt)) in
      omega (arith, up, number_turn i (omega arith), number_turn j lt)

  -- behind the split stand the two alone
  pub top_behind : (i : ℕ) → p.writes.split + i < length ms → IsTop (get_or ms (p.writes.split + i) no_move).number
  top_behind i lt =
      let j : ℕ = p.writes.split in
      let first : j < length ms = omega arith in
      let k = move_stays j first (p.writes.splits.from first no_move) in
      let at = move_at v s ms cs fs w t p j first in
      let b = is_some_of (block_of v (get_or ms j no_move).number) at.step.kept in
      let same = someAnd_of (λ (x : BlockView). (get_or ms j no_move).in_place ≡ x.in_place) (block_of v (get_or ms j no_move).number) b.0 b.1 at.step.in_place in
      let high : 845 ≤ (get_or ms j no_move).number = in_place_high v a (get_or ms j no_move).number b.0 b.1 (sym same ∙ p.writes.splits.from first no_move) in
      let up = rising j (j + i) (omega arith) lt in
      let inside : (get_or ms (j + i) no_move).number < length v.blocks = kept_inside v.blocks (get_or ms (j + i) no_move).number (move_at v s ms cs fs w t p (j + i) lt).step.kept in
      let count : length v.blocks ≡ 847 = a.count in
      elim (cases_eq (get_or ms (j + i) no_move).number 845) as (λ _. IsTop (get_or ms (j + i) no_move).number) [
        | inl e ↦ inl e
        | inr ne ↦ inr (omega (arith, ne, high, up, inside, count))
      ]

  pub rest_at : (i : ℕ) → get_or (drop p.writes.split ms) i no_move ≡ get_or ms (p.writes.split + i) no_move
  rest_at i = get_or-drop p.writes.split ms i no_move

  -- how often a block in place is moved behind the split
  pub times_behind : (k : Part) → IsPart k → stays_in_place k ≡ true → times (number_of k) (numbers (drop p.writes.split ms)) ≡ times (number_of k) v.changed
  times_behind k is stay =
      let n : ℕ = number_of k in
      let j : ℕ = p.writes.split in
      let parts : numbers ms ≡ numbers (take j ms) ++ numbers (drop j ms) = ap numbers (sym (take-append-drop j ms)) ∙ map-append (λ (x : Move). x.number) (take j ms) (drop j ms) in
      omega (arith, ap (times n) parts, times_joined n (numbers (take j ms)) (numbers (drop j ms)), none_before_split k is stay, same_times v.changed ms n p.order.all)

  -- both change or none
  pub tops_together : times 845 v.changed ≡ times 846 v.changed
  tops_together = go (cases_Bool (is_changed v 845)) (cases_Bool (is_changed v 846))
    where
      one : (n : ℕ) → times n v.changed ≤ 1
      one n = omega (arith, same_times v.changed ms n p.order.all, p.once n)

      go : (is_changed v 845 ≡ true) ⊎ (is_changed v 845 ≡ false) → (is_changed v 846 ≡ true) ⊎ (is_changed v 846 ≡ false) → times 845 v.changed ≡ times 846 v.changed
      go (inl e) (inl f) = omega (arith, is_marked v 845 e, is_marked v 846 f, one 845, one 846)
      go (inr e) (inr f) = omega (arith, is_clean v 845 e, is_clean v 846 f)
      go (inl e) (inr f) = absurd (let x : is_changed v 846 ≡ true = a.marked index_block tt e in cc)
      go (inr e) (inl f) = absurd (let x : is_changed v 845 ≡ true = a.together f in cc)

  pub top_numbers : (numbers (drop p.writes.split ms) ≡ []) ⊎ (numbers (drop p.writes.split ms) ≡ 845 ∷ 846 ∷ [])
  top_numbers =
      let j : ℕ = p.writes.split in
      let rest : List Move = drop j ms in
      let count : length (numbers rest) ≡ length rest = length-map rest (λ (x : Move). x.number) in
      let len : length rest ≡ length ms - j = length-drop j ms in
      let at : (i : ℕ) → i < length rest → get_or (numbers rest) i 0 ≡ (get_or ms (j + i) no_move).number =
      λ i lt. get_or-map (λ (x : Move). x.number) rest i no_move 0 lt ∙ ap (λ (m : Move). m.number) (rest_at i) in
      two_tops (numbers rest) (times 845 v.changed)
      (all_at IsTop (numbers rest) 0 (λ i lt. let low : i < length rest = omega (arith, lt, count) in subst IsTop (sym (at i low)) (top_behind i (omega (arith, low, len)))))
      (times_behind index_block tt refl)
      (times_behind header tt refl ∙ sym tops_together)
      (omega (arith, same_times v.changed ms 845 p.order.all, p.once 845))
      (λ two. let low : 1 < length rest = omega (arith, two, count) in
      let up = rising (j + 0) (j + 1) (omega arith) (omega (arith, low, len)) in
      omega (arith, at 0 (omega arith), at 1 low, up))

  pub top_write : (k : Part) → IsPart k → (i : ℕ) → i < length ms → (get_or ms i no_move).number ≡ number_of k → 0 < length (bytes_at_part w k) → length (bytes_at_part w k) ≤ 512
      → pieces (get_or ms i no_move).new (bytes_in w.blocks (get_or ms i no_move).number) ≡ record { at = place_at_part w k; piece = bytes_at_part w k } ∷ []
  top_write k is i lt e some few =
      let new : (get_or ms i no_move).new ≡ place_at_part w k = sym (new_at v s ms cs fs w t p i lt) ∙ ap (place_of w) e in
      ap (λ q. pieces q (bytes_in w.blocks (get_or ms i no_move).number)) new
      ∙ ap (λ n. pieces (place_at_part w k) (bytes_in w.blocks n)) e
      ∙ one_piece (place_at_part w k) (bytes_at_part w k) some few

  pub writes_none : numbers (drop p.writes.split ms) ≡ [] → fs ≡ []
  writes_none e = p.writes.from ∙ ap (writes_of w.blocks) (no_moves (drop p.writes.split ms) e)

  pub writes_two : numbers (drop p.writes.split ms) ≡ 845 ∷ 846 ∷ []
      → fs ≡ record { at = place_at_part w index_block; piece = bytes_at_part w index_block } ∷ record { at = header_place w; piece = bytes_at_part w header } ∷ []
  writes_two e =
      let j : ℕ = p.writes.split in
      let rest : List Move = drop j ms in
      let after : IsArray w = array_after v s ms cs fs w t p a in
      let x = two_moves rest 845 846 e in
      let len : length rest ≡ length ms - j = length-drop j ms in
      let two : length rest ≡ 2 = ap length x.2 in
      let first_is : x.0 ≡ get_or ms (j + 0) no_move = ap (λ l. get_or l 0 no_move) (sym x.2) ∙ rest_at 0 in
      let second_is : x.1 ≡ get_or ms (j + 1) no_move = ap (λ l. get_or l 1 no_move) (sym x.2) ∙ rest_at 1 in
      let index_len = index_length w after in
      let header_len = header_length w after in
      let first : pieces x.0.new (bytes_in w.blocks x.0.number) ≡ record { at = place_at_part w index_block; piece = bytes_at_part w index_block } ∷ [] =
      subst (λ (m : Move). pieces m.new (bytes_in w.blocks m.number) ≡ record { at = place_at_part w index_block; piece = bytes_at_part w index_block } ∷ []) (sym first_is)
      (top_write index_block tt (j + 0) (omega (arith, two, len)) (ap (λ (m : Move). m.number) (sym first_is) ∙ x.3) (omega (arith, index_len)) (omega (arith, index_len))) in
      let second : pieces x.1.new (bytes_in w.blocks x.1.number) ≡ record { at = header_place w; piece = bytes_at_part w header } ∷ [] =
      subst (λ (m : Move). pieces m.new (bytes_in w.blocks m.number) ≡ record { at = header_place w; piece = bytes_at_part w header } ∷ []) (sym second_is)
      (top_write header tt (j + 1) (omega (arith, two, len)) (ap (λ (m : Move). m.number) (sym second_is) ∙ x.4) (omega (arith, header_len)) (omega (arith, header_len))) in
      p.writes.from ∙ ap (writes_of w.blocks) x.2
      ∙ ap (λ l. l ++ (pieces x.1.new (bytes_in w.blocks x.1.number) ++ [])) first
      ∙ ap (λ l. record { at = place_at_part w index_block; piece = bytes_at_part w index_block } ∷ (l ++ [])) second

  pub fixed_writes : AreInPlace w fs
  fixed_writes = go top_numbers
    where
      go : (numbers (drop p.writes.split ms) ≡ []) ⊎ (numbers (drop p.writes.split ms) ≡ 845 ∷ 846 ∷ []) → AreInPlace w fs
      go (inl e) = inl (writes_none e)
      go (inr e) = inr (writes_two e)

  -- ---- What all writes miss

  pub fixed_after : fixed_of w ≡ fixed_of v
  fixed_after =
      ap (λ q. block_at q eahd_len ∷ block_at (place_at_part w index_block) eaib_len ∷ []) (place_stays v s ms cs fs w t p a header tt refl)
      ∙ ap (λ q. block_at (header_place v) eahd_len ∷ block_at q eaib_len ∷ []) (place_stays v s ms cs fs w t p a index_block tt refl)

  pub fixed_part : (k : Part) → stays_in_place k ≡ true → Among (block_at (place_at_part v k) (length_of k)) (fixed_of v)
  fixed_part k stay = go (stays_which k stay)
    where
      go : (k ≡ index_block) ⊎ (k ≡ header) → Among (block_at (place_at_part v k) (length_of k)) (fixed_of v)
      go (inl e) = subst (λ (x : Part). Among (block_at (place_at_part v x) (length_of x)) (fixed_of v)) (sym e) (inr (inl refl))
      go (inr e) = subst (λ (x : Part). Among (block_at (place_at_part v x) (length_of x)) (fixed_of v)) (sym e) (inl refl)

  pub stayed_apart : Standing v s → (r : Extent) → ((u : Used) → Among u (fixed_of v) → Apart (extent_of u) r) → (i : ℕ) → i < length ms → (get_or ms i no_move).new ≡ (get_or ms i no_move).old → Apart (extent (get_or ms i no_move).new (get_or ms i no_move).len) r
  stayed_apart st r apart i lt same = go (cases_Bool (get_or ms i no_move).in_place)
    where
      go : ((get_or ms i no_move).in_place ≡ true) ⊎ ((get_or ms i no_move).in_place ≡ false) → Apart (extent (get_or ms i no_move).new (get_or ms i no_move).len) r
      go (inl e) =
          let m : Move = get_or ms i no_move in
          let at = move_at v s ms cs fs w t p i lt in
          let k = move_stays i lt e in
          let here : m.new ≡ place_at_part v k.0 = same ∙ at.step.old ∙ ap (place_of v) (sym k.2) in
          let len : m.len ≡ length_of k.0 = at.step.len ∙ k.4 in
          subst (λ q. Apart (extent q m.len) r) (sym here) (subst (λ n. Apart (extent (place_at_part v k.0) n) r) (sym len) (apart (block_at (place_at_part v k.0) (length_of k.0)) (fixed_part k.0 k.3)))
      go (inr e) =
          let m : Move = get_or ms i no_move in
          let at = move_at v s ms cs fs w t p i lt in
          let some = at.step.some in
          let placed : IsPlaced v m.number = record { kept = at.step.kept; placed = λ u. new_placed v s ms cs fs w t p i lt (same ∙ at.step.old ∙ u) } in
          let range : extent m.old m.len ≡ range_of v m.number = ap (λ q. extent q m.len) at.step.old ∙ ap (λ n. extent (place_in v.places m.number) n) at.step.len in
          let was : IsLive s (extent m.old m.len) = subst (IsLive s) (sym range) (st.live m.number placed) in
          let off : Apart (extent m.new m.len) (extent m.old m.len) = (took v.blocks v.places at.before m at.after at.step e).off_live (extent m.old m.len) (at.came (extent m.old m.len) was) in
          absurd (omega (arith, off, same, some))

  pub off_writes : KeepsStore v s ms (cs ++ fs) w t → Standing v s → (r : Extent) → 0 < r.size → IsLive s r ⊎ IsRetired s r → ((u : Used) → Among u (fixed_of v) → Apart (extent_of u) r) → AllMiss (cs ++ fs) r.at r.size
  off_writes keeps st r some known apart =
      keeps.off r (record { some = some; known = known; apart = All-from_get_or (λ (m : Move). m.new ≡ m.old → Apart (extent m.new m.len) r) ms no_move (stayed_apart st r apart) })
