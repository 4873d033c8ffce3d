-- What a session knows of a file whose array is not there yet.
use Rattle.std.proofs.Common.{◌≡◌, ◌⊎◌, ℕ, ◌+◌, ◌<◌, List, [], ◌∷◌, length, refl, sym, ◌∙◌, ap, subst, inl, inr, arith}
use Rattle.h5w_model.specs.Numbers.{undefined}
use Rattle.h5w_model.specs.Arrays.{eahd_len, eaib_len}
use Rattle.h5w_model.specs.Findings.{Used}
use Rattle.h5w_model.specs.declared.cell.Key.{Key}
use Rattle.h5w_model.specs.declared.cell.IndexKind.TheVariants.{Array}
use Rattle.h5w_step_laws.specs.Ranges.{Among, Disjoint, block_at}
use Rattle.h5w_space.specs.Space.{Commits, Space, IsLive, Apart, extent}
use Rattle.h5w_space.proofs.Sound.{Apart-sym}
use Rattle.h5w_cache.specs.Stores.{Store, place_of}
use Rattle.h5w_cache.specs.Plans.{bytes_in}
use Rattle.h5w_cache.specs.StoreLaws.{IsPlaced, Standing, range_of}
use Rattle.h5w_step_laws.specs.Moments.{Moment}
use Rattle.h5w_array_laws.specs.Parts.{index_block}
use Rattle.h5w_array_laws.specs.ArrayStores.{IsArray, place_at_part, header_place, fixed_of}
use Rattle.h5w_array_laws.proofs.StandLemmas.{header_length, index_length}
use Rattle.h5w_array_laws.proofs.WriteLemmas.{which_part}
use Rattle.h5w_array_laws.proofs.CreatedLemmas.{created_starts}
use Rattle.h5w_flush_laws.specs.Spaces.{extent_of, AllLive, Taken}
use Rattle.h5w_flush_laws.specs.Knowledge.{KnownHeld}
use Rattle.h5w_flush_laws.proofs.SpaceLemmas.{have_no_byte, committed_live}
use Rattle.h5w_flush_laws.proofs.KnownLaws.{end_known}
use Rattle.h5w_flush_laws.proofs.FlushLaws.{freed_known}
use Rattle.h5w_array_flush_laws.proofs.ArrayRestLemmas.{standing_freed}
use Rattle.h5w_first_flush_laws.specs.FirstFlushes.{no_chunk, IsUnnamed}
use Rattle.h5w_first_flush_laws.specs.Starting.{IsBlank, StartRests, CreatedBlank, BlankMap, BlankHeld, StartBegins, StartOf, StartEnds, StartFreed, StartTakes, RestsStay}
use Rattle.h5w_first_flush_laws.proofs.FirstFlushLemmas.{unnamed_begins}

-- ---- An array that was just made

pub created_blank : CreatedBlank
created_blank at place v c low lower =
    let starts = created_starts at place v c low lower in
    record {
      map = starts.map;
      unplaced = λ n h. (c.none n (λ e. absurd (omega (arith, e, h))) (λ e. absurd (omega (arith, e, h)))).1;
      behind = starts.behind;
    }

-- a block is live, and some bytes long
record IsHere (v : Store) (s : Space) (n : ℕ) : Type 0 where
  pub live : IsLive s (range_of v n)
  pub some : 0 < length (bytes_in v.blocks n)

-- its two blocks stand apart, where their places are
pub blank_standing : (s : Space) (v : Store) → IsArray v → IsBlank v → Disjoint (fixed_of v) → AllLive s (fixed_of v) → Standing v s
blank_standing s v a blank off live = record {
  live = λ n placed. (both n placed).live;
  some = λ n placed. (both n placed).some;
  apart = λ n j ne x y. apart n j ne x y (which_part v a n x) (which_part v a j y);
}
  where
    top : range_of v 846 ≡ extent (header_place v) eahd_len
    top = ap (extent (header_place v)) (header_length v a)

    index : range_of v 845 ≡ extent (place_at_part v index_block) eaib_len
    index = ap (extent (place_at_part v index_block)) (index_length v a)

    both : (n : ℕ) → IsPlaced v n → IsHere v s n
    both n placed = elim (which_part v a n placed) as (λ _. IsHere v s n) [
      | inl h ↦ absurd (placed.placed (blank.unplaced n h))
      | inr h ↦ elim h as (λ _. IsHere v s n) [
        | inl e ↦ subst (IsHere v s) (sym e) (record { live = subst (IsLive s) (sym index) (live (block_at (place_at_part v index_block) eaib_len) (inr (inl refl))); some = omega (arith, index_length v a) })
        | inr e ↦ subst (IsHere v s) (sym e) (record { live = subst (IsLive s) (sym top) (live (block_at (header_place v) eahd_len) (inl refl)); some = omega (arith, header_length v a) })
      ]
    ]

    two : Apart (range_of v 846) (range_of v 845)
    two =
        subst (λ r. Apart r (range_of v 845)) (sym top)
        (subst (Apart (extent (header_place v) eahd_len)) (sym index)
        (have_no_byte (block_at (header_place v) eahd_len) (block_at (place_at_part v index_block) eaib_len) (off.1 (block_at (place_at_part v index_block) eaib_len) (inl refl))))

    apart : (n j : ℕ) → (n ≡ j → ⊥) → IsPlaced v n → IsPlaced v j → (n < 845) ⊎ (n ≡ 845) ⊎ (n ≡ 846) → (j < 845) ⊎ (j ≡ 845) ⊎ (j ≡ 846) → Apart (range_of v n) (range_of v j)
    apart n j ne x y (inl h) q = absurd (x.placed (blank.unplaced n h))
    apart n j ne x y (inr p) (inl h) = absurd (y.placed (blank.unplaced j h))
    apart n j ne x y (inr (inl e)) (inr (inl f)) = absurd (ne (e ∙ sym f))
    apart n j ne x y (inr (inr e)) (inr (inr f)) = absurd (ne (e ∙ sym f))
    apart n j ne x y (inr (inr e)) (inr (inl f)) = subst (λ i. Apart (range_of v i) (range_of v j)) (sym e) (subst (λ i. Apart (range_of v 846) (range_of v i)) (sym f) two)
    apart n j ne x y (inr (inl e)) (inr (inr f)) =
        subst (λ i. Apart (range_of v i) (range_of v j)) (sym e) (subst (λ i. Apart (range_of v 845) (range_of v i)) (sym f) (Apart-sym (range_of v 846) (range_of v 845) two))

-- ---- What is known

pub start_begins : StartBegins
start_begins img name m s v r unnamed layout begun blank =
    let k = unnamed_begins Array img name m s r unnamed layout begun in
    (record { knows = k.0.knows; unnamed = unnamed; blank = blank }, k.1)

pub blank_map : BlankMap
blank_map v blank = λ j key. blank.map key.i j

pub start_of : StartOf
start_of img name m address s v k unnamed blank same =
    let here : KnownHeld img name m address s k.held = record { knows = k; is = refl } in
    let known = subst (λ (f : Key → ℕ). KnownHeld img name m f s k.held) (λ j key. (same key ∙ blank.map key.i) j) here in
    (record { knows = known.knows; unnamed = unnamed; blank = blank }, known.is)

pub start_ends : StartEnds
start_ends img name m n s v w r e fits =
    let known = end_known img name m n no_chunk s w r.knows e fits in
    (record { knows = known.knows; unnamed = subst (λ (x : Moment). IsUnnamed Array x.dataset) (sym e.is) r.unnamed; blank = r.blank }, known.is)

pub start_freed : StartFreed
start_freed img name m s t v r c =
    let known = freed_known img name m no_chunk s t c r.knows in
    (record { knows = known.knows; unnamed = r.unnamed; blank = r.blank }, known.is)

pub same_fixed : (v u : Store) → ((n : ℕ) → place_of u n ≡ place_of v n) → fixed_of u ≡ fixed_of v
same_fixed v u places =
    ap (λ p. block_at p eahd_len ∷ block_at (place_at_part u index_block) eaib_len ∷ []) (places 846)
    ∙ ap (λ p. block_at (header_place v) eahd_len ∷ block_at p eaib_len ∷ []) (places 845)

pub blank_held : BlankHeld
blank_held v u blank map places behind = record { map = λ i. map i ∙ blank.map i; unplaced = λ n h. places n ∙ blank.unplaced n h; behind = λ bytes. behind bytes ∙ blank.behind bytes }

-- ---- Where the two places are taken

pub start_takes : StartTakes
start_takes img name m base s at place v u r taken created fits fits_too =
    let low : at < undefined = omega (arith, fits) in
    let lower : place < undefined = omega (arith, fits_too) in
    let array = (created_starts at place u created low lower).array in
    let blank = created_blank at place u created low lower in
    let here : Taken base (fixed_of u) s =
    subst (λ p. Taken base (block_at p eahd_len ∷ block_at (place_at_part u index_block) eaib_len ∷ []) s) (sym created.header_at)
    (subst (λ p. Taken base (block_at at eahd_len ∷ block_at p eaib_len ∷ []) s) (sym created.index_at) taken) in (
      record {
        start = record { knows = r.knows; unnamed = r.unnamed; blank = blank };
        taken = here;
        array = array;
        standing = blank_standing s u array blank here.apart here.live;
      },
      refl,
    )

rests_freed : (img name : List ℕ) (m : Moment) (base s t : Space) (v : Store) → (r : StartRests img name m base s v) → Commits s t → (x : StartRests img name m base t v) × (x.start.knows.held ≡ r.start.knows.held)
rests_freed img name m base s t v r c = (
  record {
    start = r.start;
    taken = record {
      apart = r.taken.apart;
      off_live = r.taken.off_live;
      live = λ u a. committed_live s t c (extent_of u) (r.taken.live u a);
      stays_live = λ x live. committed_live s t c x (r.taken.stays_live x live);
      rises = omega (arith, r.taken.rises, c.end);
      end = ends r.taken.end;
    };
    array = r.array;
    standing = standing_freed v s t c r.standing;
  },
  refl,
)
  where
    ends : (s.end ≡ base.end) ⊎ ((u : Used) × Among u (fixed_of v) × (u.place + u.len ≡ s.end)) → (t.end ≡ base.end) ⊎ ((u : Used) × Among u (fixed_of v) × (u.place + u.len ≡ t.end))
    ends (inl e) = inl (c.end ∙ e)
    ends (inr e) = inr (e.0, e.1, e.2 ∙ sym c.end)

pub rests_stay : RestsStay
rests_stay = record {
  ends = λ img name m n base s v w r e fits.
      let start = start_ends img name m n base v w r.start e fits in
      (record { start = start.0; taken = r.taken; array = r.array; standing = r.standing }, start.1);
  held = λ img name m base s v u r array map places behind standing. (
    record {
      start = record { knows = r.start.knows; unnamed = r.start.unnamed; blank = blank_held v u r.start.blank map places behind };
      taken = subst (λ (us : List Used). Taken base us s) (sym (same_fixed v u places)) r.taken;
      array = array;
      standing = standing r.standing;
    },
    refl,
  );
  freed = rests_freed;
}
