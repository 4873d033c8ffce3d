-- The chunks that new rows go into have their places: what each meets.
use Rattle.std.proofs.Common.{◌≡◌, ◌≢◌, ◌⊎◌, ℕ, ◌+◌, ◌<◌, ◌≤◌, true, false, eqb, List, ◌++◌, length, Some, refl, sym, ◌∙◌, ap, subst, inl, inr, arith}
use Rattle.std.specs.Prelude.{slice_get}
use Rattle.std.proofs.lemmas.Bool.{cases_lt}
use Rattle.std.proofs.lemmas.Bool.Decides.{eqb_tells}
use Rattle.std.proofs.lemmas.Option.{slice_get_within}
use Rattle.h5w_model.specs.Numbers.{undefined}
use Rattle.h5w_model.specs.Images.{Apart}
use Rattle.h5w_model.specs.Findings.{Used, chunk_bytes}
use Rattle.h5w_model.specs.Prefixed.{StaysDefined}
use Rattle.h5w_model.specs.declared.cell.Key.{Key}
use Rattle.h5w_chunks.specs.Shares.{touched, touched_key}
use Rattle.h5w_chunks.specs.Rows.{ChunksApart}
use Rattle.h5w_chunks.specs.declared.grid.ChunkPlace.{ChunkPlace}
use Rattle.h5w_chunks.proofs.KeyLemmas.{touched_lines, touched_number, touched_once}
use Rattle.h5w_step_laws.specs.Ranges.{Among, AreApart, Disjoint, chunk_at}
use Rattle.h5w_step_laws.specs.Indexes.{IsNamed}
use Rattle.h5w_step_laws.specs.Needed.{AreFew}
use Rattle.h5w_step_laws.proofs.NeededLaws.{one_address}
use Rattle.h5w_space.specs.Space.{Space}
use Rattle.h5w_step_laws.specs.Files.{with_rows}
use Rattle.h5w_step_laws.specs.Moments.{Moment, all_used}
use Rattle.h5w_step_laws.proofs.PartLemmas.{apart_sym, disjoint_some, disjoint_two}
use Rattle.h5w_step_laws.proofs.MomentLemmas.{in_behind}
use Rattle.h5w_flush_laws.specs.Spaces.{Taken, extent_of}
use Rattle.h5w_flush_laws.specs.Knowledge.{IsAsked, IsOnce, Knows}
use Rattle.h5w_flush_laws.specs.Rows.{new_chunks, PlacesApart}
use Rattle.h5w_flush_laws.proofs.SpaceLemmas.{meet_nowhere, taken_disjoint}
use Rattle.h5w_flush_laws.proofs.PartLemmas.{fresh_off}
use Rattle.h5w_flush_laws.proofs.KnownLaws.{answers_of}
use Rattle.h5w_flush_laws.proofs.OnceLaws.{file_once}
use Rattle.h5w_flush_laws.proofs.NewChunkLemmas.{few_named, new_member, new_apart, same_len}

module _ (img name : List ℕ) (m : Moment) (old : Key → ℕ) (s t : Space) (rows : ℕ) (places : List ChunkPlace) (k : Knows img name m old s) (taken : Taken s (new_chunks m.dataset old m.dataset.shape.rows 0 places) t)
    (rises : m.dataset.shape.rows < rows) (small : AreFew (with_rows rows m.dataset)) (all : length places ≡ touched m.dataset m.dataset.shape.rows rows)
    (kept : (n : ℕ) (p : ChunkPlace) → slice_get places n ≡ Some p → StaysDefined (old (touched_key m.dataset m.dataset.shape.rows n)) p.address) where
  abbrev chunks : List Used
  chunks = new_chunks m.dataset old m.dataset.shape.rows 0 places

  once : IsOnce m.dataset old
  once = file_once img name m old k.file k.index

  all_apart : Disjoint (chunks ++ all_used m)
  all_apart = taken_disjoint s t chunks (all_used m) taken k.live k.file.apart

  number_low : (n : ℕ) (p : ChunkPlace) → slice_get places n ≡ Some p → n < touched m.dataset m.dataset.shape.rows rows
  number_low n p found = omega (arith, slice_get_within places n p found, all)

  pub number_asked : (n : ℕ) (p : ChunkPlace) → slice_get places n ≡ Some p → IsAsked m.dataset (touched_key m.dataset m.dataset.shape.rows n)
  number_asked n p found =
      let lines = touched_lines m.dataset m.dataset.shape.rows rows n (number_low n p found) in
      record { named = few_named (with_rows rows m.dataset) small (touched_key m.dataset m.dataset.shape.rows n) lines.high; across = lines.side }

  -- a chunk that has an address is one of the file
  pub old_chunk : (key : Key) → IsNamed m.dataset key → old key ≢ undefined → Among (chunk_at (old key) (chunk_bytes m.dataset)) m.behind
  old_chunk key n defined =
      let known = k.file.index.answered key n in
      let same : known.address ≡ old key = one_address known.address (old key) (sym known.is ∙ answers_of img m.super.end m.dataset m.fixed m.behind old k.file.index k.index key n) in
      subst (λ x. x ≢ undefined → Among (chunk_at x (chunk_bytes m.dataset)) m.behind) same known.chunk defined

  -- it is a new one, or one of the file
  pub place_new : (n : ℕ) (p : ChunkPlace) → slice_get places n ≡ Some p → old (touched_key m.dataset m.dataset.shape.rows n) ≡ undefined → Among (chunk_at p.address (chunk_bytes m.dataset)) chunks
  place_new n p found e = new_member m.dataset old m.dataset.shape.rows 0 places n p found (ap (λ j. old (touched_key m.dataset m.dataset.shape.rows j)) (let h : 0 + n ≡ n = omega arith in h) ∙ e)

  pub place_old : (n : ℕ) (p : ChunkPlace) → slice_get places n ≡ Some p → old (touched_key m.dataset m.dataset.shape.rows n) ≢ undefined → Among (chunk_at p.address (chunk_bytes m.dataset)) m.behind
  place_old n p found defined =
      subst (λ x. Among (chunk_at x (chunk_bytes m.dataset)) m.behind) (sym (kept n p found defined))
      (old_chunk (touched_key m.dataset m.dataset.shape.rows n) (number_asked n p found).named defined)

  -- it is apart from another range of the file
  pub place_off : (n : ℕ) (p : ChunkPlace) → slice_get places n ≡ Some p → (v : Used) → Among v (all_used m)
      → (old (touched_key m.dataset m.dataset.shape.rows n) ≢ undefined → chunk_at p.address (chunk_bytes m.dataset) ≢ v) → AreApart (chunk_at p.address (chunk_bytes m.dataset)) v
  place_off n p found v b differ = go (eqb_tells (old (touched_key m.dataset m.dataset.shape.rows n)) undefined)
    where
      u : Used
      u = chunk_at p.address (chunk_bytes m.dataset)

      key : Key
      key = touched_key m.dataset m.dataset.shape.rows n

      go : ((eqb (old key) undefined ≡ true) × (old key ≡ undefined)) ⊎ ((eqb (old key) undefined ≡ false) × (old key ≢ undefined)) → AreApart u v
      go (inl e) = fresh_off m chunks all_apart u v (place_new n p found e.1) b
      go (inr e) = disjoint_two (all_used m) u v k.file.apart (in_behind m u (place_old n p found e.1)) b (differ e.1)

  -- and from what readers may hold
  pub place_off_held : (n : ℕ) (p : ChunkPlace) → slice_get places n ≡ Some p → (v : Used) → Among v k.held → v.chunk ≡ false → AreApart (chunk_at p.address (chunk_bytes m.dataset)) v
  place_off_held n p found v b block = go (eqb_tells (old (touched_key m.dataset m.dataset.shape.rows n)) undefined)
    where
      u : Used
      u = chunk_at p.address (chunk_bytes m.dataset)

      key : Key
      key = touched_key m.dataset m.dataset.shape.rows n

      go : ((eqb (old key) undefined ≡ true) × (old key ≡ undefined)) ⊎ ((eqb (old key) undefined ≡ false) × (old key ≢ undefined)) → AreApart u v
      go (inl e) =
          let fresh = place_new n p found e.1 in
          meet_nowhere u v (disjoint_some chunks taken.apart u fresh) (k.holding.some v b) (taken.off_live u (extent_of v) fresh (k.holding.live v b))
      go (inr e) = apart_sym v u (k.holding.clear v u b block (place_old n p found e.1) refl)

  -- no two of them meet
  all_places_apart : ChunksApart m.dataset places
  all_places_apart j n p q other first second =
      subst (λ c. Apart p.address c q.address c) (sym (same_len m.dataset)) (go (eqb_tells (old (touched_key m.dataset m.dataset.shape.rows j)) undefined) (eqb_tells (old (touched_key m.dataset m.dataset.shape.rows n)) undefined))
    where
      u : Used
      u = chunk_at p.address (chunk_bytes m.dataset)

      v : Used
      v = chunk_at q.address (chunk_bytes m.dataset)

      x : Key
      x = touched_key m.dataset m.dataset.shape.rows j

      y : Key
      y = touched_key m.dataset m.dataset.shape.rows n

      zero_less : (i : ℕ) → 0 + i ≡ i
      zero_less i = omega arith

      absent : (i : ℕ) → old (touched_key m.dataset m.dataset.shape.rows i) ≡ undefined → old (touched_key m.dataset m.dataset.shape.rows (0 + i)) ≡ undefined
      absent i e = ap (λ h. old (touched_key m.dataset m.dataset.shape.rows h)) (zero_less i) ∙ e

      both_new : (j < n) ⊎ (n ≤ j) → old x ≡ undefined → old y ≡ undefined → AreApart u v
      both_new (inl less) e g = new_apart m.dataset old m.dataset.shape.rows 0 places j n p q taken.apart less first second (absent j e) (absent n g)
      both_new (inr more) e g = apart_sym v u (new_apart m.dataset old m.dataset.shape.rows 0 places n j q p taken.apart (strictly more) second first (absent n g) (absent j e))
        where
          strictly : n ≤ j → n < j
          strictly h = elim (cases_lt n j) [ inl less ↦ less | inr same ↦ absurd (other (omega (arith, h, same))) ]

      one_chunk : old x ≢ undefined → old y ≢ undefined → u ≡ v → ⊥
      one_chunk e g same =
          let address : p.address ≡ q.address = ap (λ (r : Used). r.place) same in
          let together : old y ≡ old x = sym (kept n q second g) ∙ sym address ∙ kept j p first e in
          other (touched_once m.dataset m.dataset.shape.rows j n (touched_number m.dataset m.dataset.shape.rows rows j (number_low j p first)).some (sym (once x y (number_asked j p first) (number_asked n q second) e together)))

      go : ((eqb (old x) undefined ≡ true) × (old x ≡ undefined)) ⊎ ((eqb (old x) undefined ≡ false) × (old x ≢ undefined)) → ((eqb (old y) undefined ≡ true) × (old y ≡ undefined)) ⊎ ((eqb (old y) undefined ≡ false) × (old y ≢ undefined)) → AreApart u v
      go (inl e) (inl g) = both_new (cases_lt j n) e.1 g.1
      go (inl e) (inr g) = fresh_off m chunks all_apart u v (place_new j p first e.1) (in_behind m v (place_old n q second g.1))
      go (inr e) (inl g) = apart_sym v u (fresh_off m chunks all_apart v u (place_new n q second g.1) (in_behind m u (place_old j p first e.1)))
      go (inr e) (inr g) = disjoint_two (all_used m) u v k.file.apart (in_behind m u (place_old j p first e.1)) (in_behind m v (place_old n q second g.1)) (one_chunk e.1 g.1)

pub places_apart : PlacesApart
places_apart img name m old s t rows places k taken rises small all kept = all_places_apart img name m old s t rows places k taken rises small all kept
