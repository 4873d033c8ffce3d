-- An array that stands in a file, as a session begins with it: its blocks' places are live and apart.
use Rattle.std.proofs.Common.{◌≡◌, ◌≢◌, ℕ, ◌<◌, true, false, List, [], ◌∷◌, ◌++◌, length, refl, sym, ◌∙◌, ap, subst, inl, inr, arith}
use Rattle.std.specs.Prelude.{flat_map}
use Rattle.h5w_model.specs.Numbers.{undefined}
use Rattle.h5w_model.specs.Findings.{Used, chunk_bytes}
use Rattle.h5w_model.specs.declared.cell.IndexKind.TheVariants.{Array}
use Rattle.h5w_step_laws.specs.Ranges.{Among, AreApart, Disjoint, block_at}
use Rattle.h5w_step_laws.proofs.RangeLemmas.{among_left, among_right}
use Rattle.h5w_space.specs.Space.{Space, IsLive, Apart, extent}
use Rattle.h5w_space.specs.declared.Extent.{Extent}
use Rattle.h5w_cache.specs.Stores.{Store, place_of, place_in, times}
use Rattle.h5w_cache.specs.Plans.{bytes_in, bytes_of}
use Rattle.h5w_cache.specs.StoreLaws.{IsPlaced, Standing, range_of}
use Rattle.h5w_step_laws.specs.Moments.{Moment, Represents, all_used}
use Rattle.h5w_step_laws.proofs.PartLemmas.{disjoint_apart, disjoint_right}
use Rattle.h5w_array_laws.specs.Parts.{Part, data_of, secondary_of, index_block, header, IsPart, number_of, length_of, stays_in_place, visit_order}
use Rattle.h5w_array_laws.specs.ArrayStores.{IsArray, block_at_part, place_at_part, header_place, fixed_of, map_of, own_range, ranges_of, behind_of, blocks_in_place, chunks_in, slots_in}
use Rattle.h5w_array_laws.specs.ArrayImages.{BehindStands, StandsArray}
use Rattle.h5w_array_laws.specs.ArrayNaming.{IsFileOf}
use Rattle.h5w_array_laws.proofs.FileLemmas.{file_tells}
use Rattle.h5w_array_laws.proofs.FoundLemmas.{address_found}
use Rattle.h5w_array_laws.proofs.StandLemmas.{standing_says}
use Rattle.h5w_flush_laws.specs.Flushes.{IsBegun}
use Rattle.h5w_flush_laws.specs.Knowledge.{IsMap, KnownHeld}
use Rattle.h5w_flush_laws.proofs.KnownLaws.{begin_knows}
use Rattle.h5w_array_flush_laws.specs.ArrayBegins.{ArrayBegins}
use Rattle.h5w_array_flush_laws.proofs.ArrayFlushLemmas.{In, data_visited, second_visited, own_there, in_flat}
use Rattle.h5w_array_flush_laws.proofs.ArrayPlaceLemmas.{PartOf, part_of}

-- ---- Ranges of different parts

swapped : (u w : Used) → AreApart u w → AreApart w u
swapped u w (inl h) = inr h
swapped u w (inr h) = inl h

flat_apart : (g : Part → List Used) (ks : List Part) (k j : Part) (u w : Used) → Disjoint (flat_map g ks) → In k ks → In j ks → k ≢ j → Among u (g k) → Among w (g j) → AreApart u w
flat_apart g [] k j u w d i l ne a b = absurd i
flat_apart g (x ∷ xs) k j u w d (inl e) (inl f) ne a b = absurd (ne (sym e ∙ f))
flat_apart g (x ∷ xs) k j u w d (inl e) (inr l) ne a b = disjoint_apart (g x) (flat_map g xs) u w d (subst (λ (y : Part). Among u (g y)) (sym e) a) (in_flat g xs j w l b)
flat_apart g (x ∷ xs) k j u w d (inr i) (inl f) ne a b =
    swapped w u (disjoint_apart (g x) (flat_map g xs) w u d (subst (λ (y : Part). Among w (g y)) (sym f) b) (in_flat g xs k u i a))
flat_apart g (x ∷ xs) k j u w d (inr i) (inr l) ne a b = flat_apart g xs k j u w (disjoint_right (g x) (flat_map g xs) d) i l ne a b

as_extents : (u w : Used) → AreApart u w → Apart (extent u.place u.len) (extent w.place w.len)
as_extents u w (inl h) = omega arith
as_extents u w (inr h) = omega arith

listed : (k : Part) → IsPart k → stays_in_place k ≡ false → In k visit_order
listed (data_of s b) is e = data_visited s b is.0 is.1
listed (secondary_of s) is e = second_visited s is.0 is.1
listed index_block is e = absurd cc
listed header is e = absurd cc

-- a part with a place: one of the two in place, or one behind them
data Where (k : Part) : Type 0 where
  on_top : k ≡ header → Where k
  second : k ≡ index_block → Where k
  below : stays_in_place k ≡ false → Where k

where_is : (k : Part) → Where k
where_is (data_of s b) = below refl
where_is (secondary_of s) = below refl
where_is index_block = second refl
where_is header = on_top refl

abbrev block_of_part : Store → Part → Used
block_of_part v k = block_at (place_at_part v k) (length_of k)

module _ (img name : List ℕ) (m : Moment) (s : Space) (v : Store) (a : IsArray v) (clean : v.changed ≡ []) (stands : StandsArray v img) (file : Represents img name m) (kind : m.dataset.layout.index ≡ Array)
    (address : m.dataset.layout.address ≡ header_place v) (begun : IsBegun m s) where
  told : IsFileOf m v
  told = file_tells v img name m a clean stands file kind address

  abbrev bytes : ℕ
  bytes = chunk_bytes m.dataset

  -- ---- The map

  behind_stands : BehindStands v img
  behind_stands n placed low = stands.there n placed (ap (times n) clean)

  map_is : IsMap img m.dataset (λ key. map_of v key.i)
  map_is = record {
    blocks = blocks_in_place v;
    read = (standing_says v img m.dataset a clean stands kind address).says;
    answers = λ key named. address_found v img a clean behind_stands key (named kind);
  }

  known : KnownHeld img name m (λ key. map_of v key.i) s m.behind
  known = begin_knows img name m (λ key. map_of v key.i) s file map_is begun (λ u. absurd ((a.in_place header tt refl).1 (sym address ∙ u)))

  -- ---- The places

  abbrev own : List Used
  own = chunks_in bytes (slots_in (block_at_part v index_block) index_block)

  behind_disjoint : Disjoint (fixed_of v ++ behind_of bytes v)
  behind_disjoint =
      subst (λ (us : List Used). Disjoint (us ++ behind_of bytes v)) told.of.fixed
      (subst (λ (us : List Used). Disjoint (m.fixed ++ us)) told.behind
      (disjoint_right m.header (m.fixed ++ m.behind) (disjoint_right m.root (m.header ++ (m.fixed ++ m.behind)) file.apart.2)))

  ranged : (k : Part) → place_at_part v k ≢ undefined → Among (block_of_part v k) (ranges_of bytes v k)
  ranged k placed = among_left (block_of_part v k) (own_range v k) (chunks_in bytes (slots_in (block_at_part v k) k)) (subst (λ (us : List Used). Among (block_of_part v k) us) (sym (own_there v k placed)) (inl refl))

  in_behind : (k : Part) → IsPart k → stays_in_place k ≡ false → place_at_part v k ≢ undefined → Among (block_of_part v k) (behind_of bytes v)
  in_behind k is moves placed =
      among_right (block_of_part v k) own (flat_map (ranges_of bytes v) visit_order) (in_flat (ranges_of bytes v) visit_order k (block_of_part v k) (listed k is moves) (ranged k placed))

  in_fixed : (k : Part) → stays_in_place k ≡ true → Among (block_of_part v k) (fixed_of v)
  in_fixed (data_of s b) e = absurd cc
  in_fixed (secondary_of s) e = absurd cc
  in_fixed index_block e = inr (inl refl)
  in_fixed header e = inl refl

  in_both : (k : Part) → IsPart k → place_at_part v k ≢ undefined → Among (block_of_part v k) (fixed_of v ++ behind_of bytes v)
  in_both k is placed = elim (where_is k) [
    | on_top e ↦ among_left (block_of_part v k) (fixed_of v) (behind_of bytes v) (in_fixed k (ap stays_in_place e))
    | second e ↦ among_left (block_of_part v k) (fixed_of v) (behind_of bytes v) (in_fixed k (ap stays_in_place e))
    | below e ↦ among_right (block_of_part v k) (fixed_of v) (behind_of bytes v) (in_behind k is e placed)
  ]

  in_used : (u : Used) → Among u (fixed_of v ++ behind_of bytes v) → Among u (all_used m)
  in_used u x =
      let y : Among u (m.fixed ++ m.behind) = subst (λ (us : List Used). Among u (us ++ m.behind)) (sym told.of.fixed) (subst (λ (us : List Used). Among u (fixed_of v ++ us)) (sym told.behind) x) in
      inr (among_right u m.root (m.header ++ (m.fixed ++ m.behind)) (among_right u m.header (m.fixed ++ m.behind) y))

  -- two different parts with places
  parts_apart : (k j : Part) → IsPart k → IsPart j → k ≢ j → place_at_part v k ≢ undefined → place_at_part v j ≢ undefined → AreApart (block_of_part v k) (block_of_part v j)
  parts_apart k j p q ne x y = go (where_is k) (where_is j)
    where
      across : (stays_in_place k ≡ true) → (stays_in_place j ≡ false) → AreApart (block_of_part v k) (block_of_part v j)
      across e f = disjoint_apart (fixed_of v) (behind_of bytes v) (block_of_part v k) (block_of_part v j) behind_disjoint (in_fixed k e) (in_behind j q f y)

      back : (stays_in_place k ≡ false) → (stays_in_place j ≡ true) → AreApart (block_of_part v k) (block_of_part v j)
      back e f = swapped (block_of_part v j) (block_of_part v k) (disjoint_apart (fixed_of v) (behind_of bytes v) (block_of_part v j) (block_of_part v k) behind_disjoint (in_fixed j f) (in_behind k p e x))

      both : AreApart (block_of_part v header) (block_of_part v index_block)
      both = behind_disjoint.1 (block_of_part v index_block) (inl refl)

      go : Where k → Where j → AreApart (block_of_part v k) (block_of_part v j)
      go (on_top e) (on_top f) = absurd (ne (e ∙ sym f))
      go (on_top e) (second f) = subst (λ (z : Part). AreApart (block_of_part v z) (block_of_part v j)) (sym e) (subst (λ (z : Part). AreApart (block_of_part v header) (block_of_part v z)) (sym f) both)
      go (on_top e) (below f) = across (ap stays_in_place e) f
      go (second e) (on_top f) =
          subst (λ (z : Part). AreApart (block_of_part v z) (block_of_part v j)) (sym e)
          (subst (λ (z : Part). AreApart (block_of_part v index_block) (block_of_part v z)) (sym f) (swapped (block_of_part v header) (block_of_part v index_block) both))
      go (second e) (second f) = absurd (ne (e ∙ sym f))
      go (second e) (below f) = across (ap stays_in_place e) f
      go (below e) (on_top f) = back e (ap stays_in_place f)
      go (below e) (second f) = back e (ap stays_in_place f)
      go (below e) (below f) =
          flat_apart (ranges_of bytes v) visit_order k j (block_of_part v k) (block_of_part v j)
          (disjoint_right own (flat_map (ranges_of bytes v) visit_order) (disjoint_right (fixed_of v) (behind_of bytes v) behind_disjoint))
          (listed k p e) (listed j q f) ne (ranged k x) (ranged j y)

  range_is : (n : ℕ) → IsPlaced v n → (p : PartOf v n) → range_of v n ≡ extent (block_of_part v p.part).place (block_of_part v p.part).len
  range_is n placed p =
      let long : length (bytes_in v.blocks n) ≡ length_of p.part = sym (ap (λ q. length (bytes_in v.blocks q)) p.number) ∙ ap (λ o. length (bytes_of o)) p.kept ∙ p.is_block.len in
      ap (λ q. extent (place_in v.places q) (length (bytes_in v.blocks n))) (sym p.number) ∙ ap (extent (place_at_part v p.part)) long

  placed_part : (n : ℕ) → IsPlaced v n → (p : PartOf v n) → place_at_part v p.part ≢ undefined
  placed_part n placed p u = placed.placed (sym (ap (place_of v) p.number) ∙ u)

  some_length : (k : Part) → 0 < length_of k
  some_length (data_of s b) = omega arith
  some_length (secondary_of s) = omega arith
  some_length index_block = omega arith
  some_length header = omega arith

  standing : Standing v s
  standing = record {
    live = λ n placed.
        let p = part_of v n a placed.kept in
        subst (IsLive s) (sym (range_is n placed p)) (known.knows.live (block_of_part v p.part) (in_used (block_of_part v p.part) (in_both p.part p.is_part (placed_part n placed p))));
    some = λ n placed.
        let p = part_of v n a placed.kept in
        let e = ap (λ (x : Extent). x.size) (range_is n placed p) in
        let l = some_length p.part in
        omega arith;
    apart = λ n k ne x y.
        let p = part_of v n a x.kept in
        let q = part_of v k a y.kept in
        let other : p.part ≢ q.part = λ e. ne (sym p.number ∙ ap number_of e ∙ q.number) in
        subst (λ r. Apart r (range_of v k)) (sym (range_is n x p))
        (subst (Apart (extent (block_of_part v p.part).place (block_of_part v p.part).len)) (sym (range_is k y q))
        (as_extents (block_of_part v p.part) (block_of_part v q.part) (parts_apart p.part q.part p.is_part q.is_part other (placed_part n x p) (placed_part k y q))));
  }

pub array_begins : ArrayBegins
array_begins img name m s v a clean stands file kind address begun =
    let told = file_tells v img name m a clean stands file kind address in
    let k = known img name m s v a clean stands file kind address begun in
    record {
      knows = k.knows;
      held = k.is;
      rests = record {
        kind = kind;
        at = address;
        array = a;
        clean = clean;
        stands = stands;
        standing = standing img name m s v a clean stands file kind address begun;
        fixed = told.of.fixed;
        behind = told.behind;
        map = λ key. refl;
      };
    }
