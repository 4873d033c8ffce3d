-- The plan of an array's blocks as the index's part of a flush.
use Rattle.std.proofs.Common.{◌≡◌, ◌≢◌, ◌⊎◌, ℕ, zero, suc, ◌+◌, ◌-◌, ◌<◌, ◌≤◌, Bool, true, false, List, [], ◌∷◌, ◌++◌, length, None, refl, sym, ◌∙◌, ap, subst, inl, inr, arith, append-nil}
use Rattle.std.specs.Prelude.{map, flat_map, IsSome, take, ℤ}
use Rattle.std.specs.List.{range_with_len}
use Rattle.std.specs.Prelude.{◌==◌}
use Rattle.std.proofs.lemmas.Bool.{cases_lt, cond-false}
use Rattle.std.proofs.lemmas.Bool.Decides.{eqb_tells}
use Rattle.h5w_model.specs.Numbers.{undefined}
use Rattle.h5w_model.specs.Images.{AllMiss, image}
use Rattle.h5w_model.specs.Arrays.{super_block_of, eahd_len, eaib_len}
use Rattle.h5w_model.specs.Datasets.{Described}
use Rattle.h5w_model.specs.Findings.{Used, chunk_bytes}
use Rattle.h5w_model.specs.Prefixed.{StaysDefined}
use Rattle.h5w_model.specs.declared.cell.Key.{Key}
use Rattle.h5w_model.specs.declared.piece.Write.{Write}
use Rattle.h5w_step_laws.specs.Ranges.{Among, AllAmong, AllEndBy, block_at}
use Rattle.h5w_step_laws.proofs.RangeLemmas.{among_left, among_right, among_split}
use Rattle.h5w_space.specs.Space.{Space}
use Rattle.h5w_cache.specs.Stores.{Store, place_of, block_of}
use Rattle.h5w_cache.specs.Plans.{bytes_in, bytes_of}
use Rattle.h5w_cache.specs.StoreLaws.{IsPlaced}
use Rattle.h5w_cache.specs.declared.moves.Move.{Move}
use Rattle.h5w_step_laws.specs.Moments.{Moment, all_used}
use Rattle.h5w_step_laws.specs.Steps.{LiesIn}
use Rattle.h5w_step_laws.specs.Counts.{count_at}
use Rattle.h5w_step_laws.proofs.MomentLemmas.{in_fixed, in_behind, parts_of}
use Rattle.h5w_step_laws.proofs.PartLemmas.{count_joined}
use Rattle.h5w_array_laws.specs.Parts.{Part, data_of, secondary_of, index_block, header, IsPart, length_of, children, first_parts, second_parts, data_blocks_of, visit_order}
use Rattle.h5w_array_laws.specs.ArrayStores.{IsArray, IsBlock, map_of, place_at_part, bytes_at_part, block_at_part, header_place, own_range, ranges_of, fixed_of, behind_of, blocks_in_place, chunks_in, slots_in}
use Rattle.h5w_array_laws.specs.ArrayImages.{HeaderStands, StandsArray, BehindStands, SaysArray, AreInPlace}
use Rattle.h5w_array_laws.specs.ArrayPlans.{fresh, IsArrayPlan}
use Rattle.h5w_array_laws.specs.ArrayWrites.{MissArray}
use Rattle.h5w_array_laws.proofs.KeptLemmas.{is_some_of, of_some}
use Rattle.h5w_array_laws.proofs.StandLemmas.{header_length, index_length, standing_says}
use Rattle.h5w_array_laws.proofs.PlanLemmas.{copies_stand, in_place_says}
use Rattle.h5w_array_laws.proofs.TableLemmas.{plan_is_read}
use Rattle.h5w_array_laws.proofs.WriteLemmas.{writes_leave, copies_miss, in_place_stands}
use Rattle.h5w_array_laws.proofs.ArrayPlanLemmas.{plans_array}
use Rattle.h5w_flush_laws.specs.Spaces.{Taken}
use Rattle.h5w_flush_laws.specs.Knowledge.{IsAsked, Knows}
use Rattle.h5w_flush_laws.specs.Parts.{AllUnseen, AreEnded, SaysInPlace, EachSays, IndexFlushed, block_ranges, block_writes, committed}
use Rattle.h5w_flush_laws.specs.Chunks.{AreChunks}
use Rattle.h5w_flush_laws.proofs.FlushLemmas.{end_misses, unseen_miss}
use Rattle.h5w_array_flush_laws.specs.ArrayFlushes.{array_parts, IsArrayPart, ArrayFlushed}

-- ---- The blocks of an array among its ranges

abbrev pub In : {X : Type 0} → X → List X → Type 0
In x [] = ⊥
In x (y ∷ ys) = (y ≡ x) ⊎ In x ys

in_left : {X : Type 0} (x : X) (xs ys : List X) → In x xs → In x (xs ++ ys)
in_left x [] ys i = absurd i
in_left x (y ∷ xs) ys (inl e) = inl e
in_left x (y ∷ xs) ys (inr i) = inr (in_left x xs ys i)

in_right : {X : Type 0} (x : X) (xs ys : List X) → In x ys → In x (xs ++ ys)
in_right x [] ys i = i
in_right x (y ∷ xs) ys i = inr (in_right x xs ys i)

in_map : (g : ℕ → Part) (from n i : ℕ) → i < n → In (g (from + i)) (map g (range_with_len from n))
in_map g from zero i low = absurd (omega (arith, low))
in_map g from (suc n) zero low = inl (ap g (let e : from ≡ from + 0 = omega arith in e))
in_map g from (suc n) (suc i) low = inr (subst (λ j. In (g j) (map g (range_with_len (from + 1) n))) (let e : from + 1 + i ≡ from + suc i = omega arith in e) (in_map g (from + 1) n i (omega (arith, low))))

in_parts : (ps : List Part) (p k : Part) → In p ps → (p ≡ k) ⊎ In k (children p) → In k (flat_map (λ x. x ∷ children x) ps)
in_parts [] p k i own = absurd i
in_parts (q ∷ ps) p k (inl e) own = in_left k (q ∷ children q) (flat_map (λ x. x ∷ children x) ps) (subst (λ (x : Part). (x ≡ k) ⊎ In k (children x)) (sym e) own)
in_parts (q ∷ ps) p k (inr i) own = in_right k (q ∷ children q) (flat_map (λ x. x ∷ children x) ps) (in_parts ps p k i own)

is_zero : (b : ℕ) → b < 1 → 0 ≡ b
is_zero b h = omega (arith, h)

direct : (s b : ℕ) → s < 4 → b < (super_block_of s).blocks → In (data_of s b) first_parts
direct zero b low few = inl (ap (data_of 0) (is_zero b few))
direct (suc zero) b low few = inr (inl (ap (data_of 1) (is_zero b few)))
direct (suc (suc zero)) zero low few = inr (inr (inl refl))
direct (suc (suc zero)) (suc zero) low few = inr (inr (inr (inl refl)))
direct (suc (suc zero)) (suc (suc b)) low few = absurd (omega (arith, few))
direct (suc (suc (suc zero))) zero low few = inr (inr (inr (inr (inl refl))))
direct (suc (suc (suc zero))) (suc zero) low few = inr (inr (inr (inr (inr (inl refl)))))
direct (suc (suc (suc zero))) (suc (suc b)) low few = absurd (omega (arith, few))
direct (suc (suc (suc (suc s)))) b low few = absurd (omega (arith, low))

second_in : (s : ℕ) → 4 ≤ s → s ≤ 12 → In (secondary_of s) (first_parts ++ second_parts)
second_in s from to =
    in_right (secondary_of s) first_parts second_parts (subst (λ j. In (secondary_of j) second_parts) (let e : 4 + (s - 4) ≡ s = omega (arith, from) in e) (in_map secondary_of 4 9 (s - 4) (omega (arith, from, to))))

data_in : (s b : ℕ) → s ≤ 12 → b < (super_block_of s).blocks → (s < 4) ⊎ (4 ≤ s) → In (data_of s b) (flat_map (λ x. x ∷ children x) (first_parts ++ second_parts))
data_in s b to few (inl low) = in_parts (first_parts ++ second_parts) (data_of s b) (data_of s b) (in_left (data_of s b) first_parts second_parts (direct s b low few)) (inl refl)
data_in s b to few (inr high) =
    in_parts (first_parts ++ second_parts) (secondary_of s) (data_of s b) (second_in s high to)
    (inr (subst (λ j. In (data_of s j) (data_blocks_of s)) (let e : 0 + b ≡ b = omega arith in e) (in_map (data_of s) 0 (super_block_of s).blocks b few)))

pub data_visited : (s b : ℕ) → s ≤ 12 → b < (super_block_of s).blocks → In (data_of s b) visit_order
unfolding visit_order
data_visited s b to few = data_in s b to few (cases_lt s 4)

pub second_visited : (s : ℕ) → 4 ≤ s → s ≤ 12 → In (secondary_of s) visit_order
unfolding visit_order
second_visited s from to = in_parts (first_parts ++ second_parts) (secondary_of s) (secondary_of s) (second_in s from to) (inl refl)

pub in_flat : (g : Part → List Used) (ks : List Part) (k : Part) (u : Used) → In k ks → Among u (g k) → Among u (flat_map g ks)
in_flat g [] k u i a = absurd i
in_flat g (x ∷ ks) k u (inl e) a = among_left u (g x) (flat_map g ks) (subst (λ y. Among u (g y)) (sym e) a)
in_flat g (x ∷ ks) k u (inr i) a = among_right u (g x) (flat_map g ks) (in_flat g ks k u i a)

pub own_there : (v : Store) (k : Part) → place_at_part v k ≢ undefined → own_range v k ≡ block_at (place_at_part v k) (length_of k) ∷ []
own_there v k placed = elim (eqb_tells (place_at_part v k) undefined) [
  | inl t ↦ absurd (placed t.1)
  | inr t ↦ cond-false (place_at_part v k == undefined) [] (block_at (place_at_part v k) (length_of k) ∷ []) t.0
]

pub visited_range : (bytes : ℕ) (v : Store) (k : Part) → In k visit_order → place_at_part v k ≢ undefined → Among (block_at (place_at_part v k) (length_of k)) (fixed_of v ++ behind_of bytes v)
visited_range bytes v k i placed =
    let u : Used = block_at (place_at_part v k) (length_of k) in
    let own : Among u (own_range v k) = subst (λ (us : List Used). Among u us) (sym (own_there v k placed)) (inl refl) in
    let ranged : Among u (ranges_of bytes v k) = among_left u (own_range v k) (chunks_in bytes (slots_in (block_at_part v k) k)) own in
    among_right u (fixed_of v) (behind_of bytes v) (among_right u (chunks_in bytes (slots_in (block_at_part v index_block) index_block)) (flat_map (ranges_of bytes v) visit_order) (in_flat (ranges_of bytes v) visit_order k u i ranged))

part_range : (bytes : ℕ) (v : Store) (k : Part) → IsPart k → place_at_part v k ≢ undefined → Among (block_at (place_at_part v k) (length_of k)) (fixed_of v ++ behind_of bytes v)
part_range bytes v (data_of s b) is placed = visited_range bytes v (data_of s b) (data_visited s b is.0 is.1) placed
part_range bytes v (secondary_of s) is placed = visited_range bytes v (secondary_of s) (second_visited s is.0 is.1) placed
part_range bytes v index_block is placed = inr (inl refl)
part_range bytes v header is placed = inl refl

-- each block that has a place is one of the array's ranges
pub placed_range : (bytes : ℕ) (v : Store) (n : ℕ) → IsArray v → IsPlaced v n → Among (block_at (place_of v n) (length (bytes_in v.blocks n))) (fixed_of v ++ behind_of bytes v)
placed_range bytes v n a placed =
    let known = a.known n placed.kept in
    let k : Part = known.0 in
    let some : IsSome (block_at_part v k) = subst (λ j. IsSome (block_of v j)) (sym known.2) placed.kept in
    let here : place_at_part v k ≢ undefined = λ e. placed.placed (ap (place_of v) (sym known.2) ∙ e) in
    let block = is_some_of (block_at_part v k) some in
    let long : length (bytes_at_part v k) ≡ length_of k = ap (λ b. length (bytes_of b)) block.1 ∙ (of_some (IsBlock k) (block_at_part v k) block.0 block.1 (a.each k known.1)).len in
    subst (λ j. Among (block_at (place_of v j) (length (bytes_in v.blocks j))) (fixed_of v ++ behind_of bytes v)) known.2
    (subst (λ c. Among (block_at (place_at_part v k) c) (fixed_of v ++ behind_of bytes v)) (sym long) (part_range bytes v k known.1 here))

-- ---- The index's part

module _ (img name : List ℕ) (m : Moment) (old : Key → ℕ) (s b c t : Space) (v w : Store) (ms : List Move) (writes : List Write) (chunks : List Used) (copies : List (ℕ × List ℕ))
    (supers : List Write) (last : ℕ) (fixed : List Write) (k : Knows img name m old s) (taken : Taken s (chunks ++ block_ranges copies) c) (end : last ≡ c.end) (ended : AreEnded m.super last supers)
    (unseen : AllUnseen m writes) (are : AreChunks chunks) (kept_by : (key : Key) → IsAsked m.dataset key → StaysDefined (old key) (map_of w key.i)) (x : IsArrayPart img m v b ms w t chunks copies fixed) where
  planned : IsArrayPlan v b ms (block_writes copies) fixed w t
  planned = plans_array v b ms (block_writes copies) fixed w t x.plan.before x.plan.plan x.plan.keeps

  pub block_in_file : (u : Used) → u.chunk ≡ false → Among u (fixed_of v ++ behind_of (chunk_bytes m.dataset) v) → Among u (m.fixed ++ m.behind)
  block_in_file u block a = go (among_split u (fixed_of v) (behind_of (chunk_bytes m.dataset) v) a)
    where
      never : ◌≡◌ {A = Bool} false true → ⊥
      never e = cc

      behind : Among u chunks ⊎ Among u m.behind → Among u (m.fixed ++ m.behind)
      behind (inl c) = absurd (never (sym block ∙ are u c))
      behind (inr c) = among_right u m.fixed m.behind c

      go : Among u (fixed_of v) ⊎ Among u (behind_of (chunk_bytes m.dataset) v) → Among u (m.fixed ++ m.behind)
      go (inl c) = among_left u m.fixed m.behind (subst (λ (us : List Used). Among u us) (sym x.stay) c)
      go (inr c) = behind (among_split u chunks m.behind (x.behind.among u c))

  in_file : AllAmong (m.fixed ++ m.behind) (all_used m)
  in_file u a = elim (among_split u m.fixed m.behind a) [ inl c ↦ in_fixed m u c | inr c ↦ in_behind m u c ]

  rows_miss : MissArray v writes
  rows_miss n placed =
      unseen_miss m writes (block_at (place_of v n) (length (bytes_in v.blocks n))) unseen
      (in_file (block_at (place_of v n) (length (bytes_in v.blocks n))) (block_in_file (block_at (place_of v n) (length (bytes_in v.blocks n))) refl (placed_range (chunk_bytes m.dataset) v n x.plan.before placed))) refl

  stands_rows : StandsArray v (image img writes)
  stands_rows = writes_leave.array v img writes x.plan.before rows_miss x.stands

  pub stands_copies : StandsArray v (image (image img writes) (block_writes copies))
  stands_copies = writes_leave.array v (image img writes) (block_writes copies) x.plan.before (copies_miss v b ms (block_writes copies) fixed w t x.plan) stands_rows

  pub behind_copies : BehindStands w (image (image img writes) (block_writes copies))
  behind_copies = copies_stand v b ms (block_writes copies) fixed w t (image img writes) x.plan stands_rows

  header_super : AllMiss supers (header_place v) eahd_len
  header_super =
      let u : Used = block_at (header_place v) eahd_len in
      let among : Among u m.fixed = subst (λ (us : List Used). Among u us) (sym x.stay) (inl refl) in
      end_misses m.super last supers u ended ((parts_of m k.file.apart).super u (among_right u m.root (m.header ++ (m.fixed ++ m.behind)) (among_right u m.header (m.fixed ++ m.behind) (among_left u m.fixed m.behind among))))

  headed : HeaderStands v (image (image (image img writes) (block_writes copies)) supers)
  headed = writes_leave.header v (image (image img writes) (block_writes copies)) supers header_super stands_copies.headed

  pub at_after : m.dataset.layout.address ≡ header_place w
  at_after = x.at ∙ ap header_of (sym planned.stay)
    where
      header_of : List Used → ℕ
      header_of [] = 0
      header_of (u ∷ us) = u.place

  ends_by : AllEndBy last (behind_of (chunk_bytes m.dataset) w)
  ends_by u a = go (among_split u (fresh ms) (behind_of (chunk_bytes m.dataset) v) ((planned.behind (chunk_bytes m.dataset)).among u a))
    where
      new : Among u (chunks ++ block_ranges copies) → u.place + u.len ≤ last
      new c = let live = taken.live u c in let within = live.within in omega (arith, within, end)

      before : Among u chunks ⊎ Among u m.behind → u.place + u.len ≤ last
      before (inl c) = new (among_left u chunks (block_ranges copies) c)
      before (inr c) = omega (arith, k.file.index.ends u (among_right u m.fixed m.behind c), k.ended, taken.rises, end)

      go : Among u (fresh ms) ⊎ Among u (behind_of (chunk_bytes m.dataset) v) → u.place + u.len ≤ last
      go (inl c) = new (among_right u chunks (block_ranges copies) (subst (λ (us : List Used). Among u us) x.copied c))
      go (inr c) = before (among_split u chunks m.behind (x.behind.among u c))

  same_fixed : m.fixed ≡ fixed_of w
  same_fixed = x.stay ∙ sym planned.stay

  index_lies : LiesIn (record { at = place_at_part w index_block; piece = bytes_at_part w index_block }) m.fixed
  index_lies = record {
    used = block_at (place_at_part w index_block) eaib_len;
    among = subst (λ (us : List Used). Among (block_at (place_at_part w index_block) eaib_len) us) (sym same_fixed) (inr (inl refl));
    from = omega arith;
    to = omega (arith, index_length w x.plan.after);
  }

  header_lies : LiesIn (record { at = header_place w; piece = bytes_at_part w header }) m.fixed
  header_lies = record {
    used = block_at (header_place w) eahd_len;
    among = subst (λ (us : List Used). Among (block_at (header_place w) eahd_len) us) (sym same_fixed) (inl refl);
    from = omega arith;
    to = omega (arith, header_length w x.plan.after);
  }

  says_after : (now : List ℕ) (d : Described) → SaysArray w d now → SaysInPlace now d (blocks_in_place w) (fixed_of w)
  says_after now d h = record { says = h.says; looks = sym h.looks }

  each_says : EachSays m.dataset m.fixed (blocks_in_place w) (fixed_of w) (image (image (image img writes) (block_writes copies)) supers) fixed
  each_says = go x.plan.fixed
    where
      says : (n : ℕ) → 1 ≤ n → n ≤ length fixed → SaysArray w m.dataset (image (image (image (image img writes) (block_writes copies)) supers) (take n fixed))
      says n some few = in_place_says v b ms (block_writes copies) fixed w t (image (image (image img writes) (block_writes copies)) supers) m.dataset n x.plan headed x.kind x.at some few

      go : AreInPlace w fixed → EachSays m.dataset m.fixed (blocks_in_place w) (fixed_of w) (image (image (image img writes) (block_writes copies)) supers) fixed
      go (inl e) = subst (λ (ws : List Write). EachSays m.dataset m.fixed (blocks_in_place w) (fixed_of w) (image (image (image img writes) (block_writes copies)) supers) ws) (sym e) tt
      go (inr e) =
          let count : length fixed ≡ 2 = ap length e in
          let one = subst (λ (ws : List Write). SaysArray w m.dataset (image (image (image (image img writes) (block_writes copies)) supers) (take 1 ws))) e (says 1 (omega arith) (omega (arith, count))) in
          let two = subst (λ (ws : List Write). SaysArray w m.dataset (image (image (image (image img writes) (block_writes copies)) supers) (take 2 ws))) e (says 2 (omega arith) (omega (arith, count))) in
          subst (λ (ws : List Write). EachSays m.dataset m.fixed (blocks_in_place w) (fixed_of w) (image (image (image img writes) (block_writes copies)) supers) ws) (sym e)
          (index_lies, says_after _ m.dataset one, (header_lies, says_after _ m.dataset two, tt))

  index_flushed : (rows : ℕ) (more : List ℤ) → IndexFlushed img m old (array_parts (chunk_bytes m.dataset) w rows more writes chunks copies supers last fixed)
  index_flushed rows more =
      let read = plan_is_read v b ms (block_writes copies) fixed w t (image img writes) x.plan stands_rows in
      let e : Described = committed m.dataset rows None in
      record {
        blocks = blocks_in_place w;
        behind = read.visited last (chunk_bytes m.dataset) ends_by;
        answers = λ key n. read.found key (n x.kind);
        each_says = each_says;
        said = λ none.
            says_after (image (image img writes) (block_writes copies)) e
            (standing_says w (image (image img writes) (block_writes copies)) e x.plan.after planned.clean
            (subst (λ (ws : List Write). StandsArray w (image (image (image img writes) (block_writes copies)) ws)) none (in_place_stands v b ms (block_writes copies) fixed w t (image (image img writes) (block_writes copies)) x.plan stands_copies behind_copies)) x.kind at_after);
        added = [];
        begins = sym same_fixed ∙ sym (append-nil m.fixed);
        added_fresh = λ u a. absurd a;
        known = λ u a. known u (among_split u (fixed_of w) (behind_of (chunk_bytes m.dataset) w) a);
        counts = λ p. counts p;
        kept = kept_by;
      }
    where
      copied : (u : Used) → Among u (fresh ms) → Among u ((chunks ++ block_ranges copies) ++ (m.fixed ++ m.behind))
      copied u a = among_left u (chunks ++ block_ranges copies) (m.fixed ++ m.behind) (among_right u chunks (block_ranges copies) (subst (λ (us : List Used). Among u us) x.copied a))

      before : (u : Used) → Among u chunks ⊎ Among u m.behind → Among u ((chunks ++ block_ranges copies) ++ (m.fixed ++ m.behind))
      before u (inl a) = among_left u (chunks ++ block_ranges copies) (m.fixed ++ m.behind) (among_left u chunks (block_ranges copies) a)
      before u (inr a) = among_right u (chunks ++ block_ranges copies) (m.fixed ++ m.behind) (among_right u m.fixed m.behind a)

      later : (u : Used) → Among u (fresh ms) ⊎ Among u (behind_of (chunk_bytes m.dataset) v) → Among u ((chunks ++ block_ranges copies) ++ (m.fixed ++ m.behind))
      later u (inl a) = copied u a
      later u (inr a) = before u (among_split u chunks m.behind (x.behind.among u a))

      known : (u : Used) → Among u (fixed_of w) ⊎ Among u (behind_of (chunk_bytes m.dataset) w) → Among u ((chunks ++ block_ranges copies) ++ (m.fixed ++ m.behind))
      known u (inl a) = among_right u (chunks ++ block_ranges copies) (m.fixed ++ m.behind) (among_left u m.fixed m.behind (subst (λ (us : List Used). Among u us) (sym same_fixed) a))
      known u (inr a) = later u (among_split u (fresh ms) (behind_of (chunk_bytes m.dataset) v) ((planned.behind (chunk_bytes m.dataset)).among u a))

      counts : (p : ℕ) → count_at p (fixed_of w ++ behind_of (chunk_bytes m.dataset) w) ≤ count_at p ((chunks ++ block_ranges copies) ++ (m.fixed ++ m.behind))
      counts p =
          let first = count_joined p (fixed_of w) (behind_of (chunk_bytes m.dataset) w) in
          let second = count_joined p (chunks ++ block_ranges copies) (m.fixed ++ m.behind) in
          let third = count_joined p chunks (block_ranges copies) in
          let fourth = count_joined p m.fixed m.behind in
          let fifth = count_joined p (fresh ms) (behind_of (chunk_bytes m.dataset) v) in
          let sixth = count_joined p chunks m.behind in
          let now = (planned.behind (chunk_bytes m.dataset)).counts p in
          let then = x.behind.counts p in
          let same : count_at p m.fixed ≡ count_at p (fixed_of w) = ap (count_at p) same_fixed in
          let copies_are : count_at p (fresh ms) ≡ count_at p (block_ranges copies) = ap (count_at p) x.copied in
          all_in (count_at p (fixed_of w ++ behind_of (chunk_bytes m.dataset) w)) (count_at p ((chunks ++ block_ranges copies) ++ (m.fixed ++ m.behind))) (count_at p (fixed_of w)) (count_at p (behind_of (chunk_bytes m.dataset) w)) (count_at p chunks)
          (count_at p (block_ranges copies)) (count_at p m.fixed) (count_at p m.behind) (count_at p (fresh ms)) (count_at p (behind_of (chunk_bytes m.dataset) v)) first (second ∙ ap (λ n. n + count_at p (m.fixed ++ m.behind)) third ∙ ap (λ n. count_at p chunks + count_at p (block_ranges copies) + n) fourth)
          (subst (λ n. count_at p (behind_of (chunk_bytes m.dataset) w) ≤ n) fifth now) (subst (λ n. count_at p (behind_of (chunk_bytes m.dataset) v) ≤ n) sixth then) same copies_are
        where
          all_in : (whole total fw bw c r fm bm fr bv : ℕ) → whole ≡ fw + bw → total ≡ c + r + (fm + bm) → bw ≤ fr + bv → bv ≤ c + bm → fm ≡ fw → fr ≡ r → whole ≤ total
          all_in whole total fw bw c r fm bm fr bv h1 h2 h3 h4 h5 h6 = omega (arith, h1, h2, h3, h4, h5, h6)

pub array_flushed : ArrayFlushed
array_flushed img name m old s b c t v w ms rows more writes chunks copies supers last fixed k taken end ended unseen are kept_by x =
    index_flushed img name m old s b c t v w ms writes chunks copies supers last fixed k taken end ended unseen are kept_by x rows more
