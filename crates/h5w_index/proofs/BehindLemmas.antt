-- Places that are taken one after another, behind those of other chunks or of none.
use Rattle.std.proofs.Common.{◌≡◌, ◌≢◌, ◌⊎◌, ℕ, zero, suc, ◌+◌, ◌*◌, ◌<◌, ◌≤◌, List, [], ◌∷◌, ◌++◌, length, Option, Some, None, refl, sym, ap, ◌∙◌, subst, inl, inr, arith, length-append, append-nil, append_assoc}
use Rattle.std.specs.Prelude.{if◌then◌else◌}
use Rattle.std.specs.List.{slice_get}
use Rattle.std.proofs.lemmas.Bool.{eq-eqb, ne_eqb}
use Rattle.h5w_model.specs.Numbers.{undefined}
use Rattle.h5w_model.specs.Datasets.{Described}
use Rattle.h5w_model.specs.Findings.{Used, chunk_bytes}
use Rattle.h5w_model.specs.declared.cell.Key.{Key}
use Rattle.h5w_step_laws.specs.Ranges.{chunk_at}
use Rattle.h5w_space.specs.Space.{Space, extent}
use Rattle.h5w_space.specs.declared.Extent.{Extent}
use Rattle.h5w_cache.specs.Plans.{Took}
use Rattle.h5w_chunks.specs.Grids.{chunk_len}
use Rattle.h5w_chunks.specs.Shares.{touched_key}
use Rattle.h5w_chunks.specs.declared.grid.ChunkPlace.{ChunkPlace}
use Rattle.h5w_flush_laws.specs.Spaces.{Taken}
use Rattle.h5w_flush_laws.specs.Rows.{new_chunks}
use Rattle.h5w_flush_laws.proofs.NewChunkLemmas.{new_joined, same_len}
use Rattle.h5w_flush_laws.proofs.SpaceLemmas.{taken_laws}
use Rattle.h5w_index.specs.Marks.{IsRaised}
use Rattle.h5w_index.specs.Placing.{IsCopy, TakesEach, next_key}
use Rattle.h5w_index.specs.Naming.{AreTaken, AreTakenBehind, BehindLaws}
use Rattle.h5w_index.proofs.PartlyLemmas.{get_pushed}
use Rattle.h5w_index.proofs.RaisedLemmas.{raised_next, raised_none, raised_on, raised_one, raised_still}

behind_none : (d : Described) (old : Key → ℕ) (early : List ChunkPlace) (s t : Space) → IsCopy s t → AreTakenBehind d old early s early t
behind_none d old early s t c = record {
  later = [];
  all = sym (append-nil early);
  taken = taken_laws.none_taken s t c.end c.free c.retired;
  raised = subst (λ n. IsRaised s t n) (let e : 0 ≡ 0 * chunk_bytes d = omega arith in e) (raised_none s t c.end c.limit);
  inside = λ k p at. absurd (let clash : ◌≡◌ {A = Option ChunkPlace} None (Some p) = at in cc);
  first = t;
  copied = c;
  ranges = [];
  each = refl;
}

-- ---- The next chunk

pub pushed_long : (chunks : List ChunkPlace) (p : ChunkPlace) → length (chunks ++ p ∷ []) ≡ length chunks + 1
pushed_long chunks p = length-append chunks (p ∷ []) ∙ omega arith

-- its key by those behind the first ones
next_behind : (d : Described) (early later chunks : List ChunkPlace) → chunks ≡ early ++ later → next_key d chunks ≡ touched_key d d.shape.rows (length early + length later)
next_behind d early later chunks all = ap (touched_key d d.shape.rows) (ap length all ∙ length-append early later)

all_pushed : (early later chunks : List ChunkPlace) (p : ChunkPlace) → chunks ≡ early ++ later → chunks ++ p ∷ [] ≡ early ++ (later ++ p ∷ [])
all_pushed early later chunks p all = ap (λ (cs : List ChunkPlace). cs ++ p ∷ []) all ∙ append_assoc early later (p ∷ [])

-- the ranges of new chunks with one chunk more, which had an address or had none
pub no_range : (d : Described) (old : Key → ℕ) (early later chunks : List ChunkPlace) (p : ChunkPlace) → chunks ≡ early ++ later → old (next_key d chunks) ≢ undefined
    → new_chunks d old d.shape.rows (length early) (later ++ p ∷ []) ≡ new_chunks d old d.shape.rows (length early) later
no_range d old early later chunks p all there =
    let key : Key = touched_key d d.shape.rows (length early + length later) in
    new_joined d old d.shape.rows (length early) later (p ∷ [])
    ∙ ap (λ b. new_chunks d old d.shape.rows (length early) later ++ (if b then chunk_at p.address (chunk_bytes d) ∷ [] else [])) (ne_eqb (old key) undefined (λ e. there (ap old (next_behind d early later chunks all) ∙ e)))
    ∙ append-nil (new_chunks d old d.shape.rows (length early) later)

pub one_range : (d : Described) (old : Key → ℕ) (early later chunks : List ChunkPlace) (p : ChunkPlace) → chunks ≡ early ++ later → old (next_key d chunks) ≡ undefined
    → new_chunks d old d.shape.rows (length early) (later ++ p ∷ []) ≡ new_chunks d old d.shape.rows (length early) later ++ chunk_at p.address (chunk_bytes d) ∷ []
one_range d old early later chunks p all none =
    let key : Key = touched_key d d.shape.rows (length early + length later) in
    new_joined d old d.shape.rows (length early) later (p ∷ [])
    ∙ ap (λ b. new_chunks d old d.shape.rows (length early) later ++ (if b then chunk_at p.address (chunk_bytes d) ∷ [] else [])) (eq-eqb (old key) undefined (ap old (sym (next_behind d early later chunks all)) ∙ none))

-- the next chunk has an address
behind_stored : (d : Described) (old : Key → ℕ) (early : List ChunkPlace) (s t : Space) (chunks : List ChunkPlace) (p : ChunkPlace) → old (next_key d chunks) ≢ undefined → p.address + chunk_len d ≤ t.end → AreTakenBehind d old early s chunks t
    → AreTakenBehind d old early s (chunks ++ p ∷ []) t
behind_stored d old early s t chunks p there ends x = record {
  later = x.later ++ p ∷ [];
  all = all_pushed early x.later chunks p x.all;
  taken = subst (λ (us : List Used). Taken s us t) (sym (no_range d old early x.later chunks p x.all there)) x.taken;
  raised = subst (λ n. IsRaised s t (n * chunk_bytes d)) (sym (pushed_long x.later p)) (raised_still s t (length x.later) (chunk_bytes d) x.raised);
  inside = λ k q at.
      elim (get_pushed x.later p k q at) [
        | inl before ↦ x.inside k q before
        | inr last ↦ subst (λ (c : ChunkPlace). c.address + chunk_len d ≤ t.end) last.1 ends
      ];
  first = x.first;
  copied = x.copied;
  ranges = x.ranges;
  each = x.each;
}

takes_also : (s t n : Space) (rs : List Extent) (r : Extent) → TakesEach s rs t → Took t n r → TakesEach s (rs ++ r ∷ []) n
takes_also s t n [] r e took = (n, subst (λ (u : Space). Took u n r) e took, refl)
takes_also s t n (q ∷ rs) r e took = (e.0, e.1, takes_also e.0 t n rs r e.2 took)

-- it has none, and gets a place
behind_new : (d : Described) (old : Key → ℕ) (early : List ChunkPlace) (s t next : Space) (chunks : List ChunkPlace) (p : ChunkPlace) → 0 < chunk_len d → old (next_key d chunks) ≡ undefined → Took t next (extent p.address (chunk_len d))
    → AreTakenBehind d old early s chunks t → AreTakenBehind d old early s (chunks ++ p ∷ []) next
behind_new d old early s t next chunks p some none took x =
    let bytes : ℕ = chunk_bytes d in
    let c : Used = chunk_at p.address bytes in
    let took_bytes : Took t next (extent p.address bytes) = subst (λ n. Took t next (extent p.address n)) (same_len d) took in
    let long : 0 < bytes = subst (λ n. 0 < n) (same_len d) some in
    let end = (raised_one t next p.address bytes took_bytes.takes).rises in
    record {
      later = x.later ++ p ∷ [];
      all = all_pushed early x.later chunks p x.all;
      taken = subst (λ (us : List Used). Taken s us next) (sym (one_range d old early x.later chunks p x.all none))
          (taken_laws.joined s t next (new_chunks d old d.shape.rows (length early) x.later) (c ∷ []) x.taken (taken_laws.one t next c long took_bytes));
      raised = subst (λ n. IsRaised s next (n * bytes)) (sym (pushed_long x.later p)) (raised_next s t next (length x.later) p.address bytes x.raised took_bytes.takes);
      inside = λ k q at.
          elim (get_pushed x.later p k q at) [
            | inl before ↦ omega (arith, x.inside k q before, end)
            | inr last ↦ subst (λ (c : ChunkPlace). c.address + chunk_len d ≤ next.end) last.1 took.live.within
          ];
      first = x.first;
      copied = x.copied;
      ranges = x.ranges ++ extent p.address (chunk_len d) ∷ [];
      each = takes_also x.first t next x.ranges (extent p.address (chunk_len d)) x.each took;
    }

-- ---- At several times

-- places are taken alike whatever room there is
took_roomy : (n : ℕ) (s t : Space) (r : Extent) → Took s t r → Took (record s { spare = n }) (record t { spare = n }) r
took_roomy n s t r k = record {
  takes = record {
    by = elim k.takes.by [
      | inl f ↦ inl (record { free = f.free; end = f.end })
      | inr e ↦ inr (record { none = e.none; place = e.place; end = e.end; fits = e.fits; free = e.free })
    ];
    limit = k.takes.limit;
    retired = k.takes.retired;
    spare = refl;
  };
  off_live = λ x l. k.off_live x (record { within = l.within; off_free = l.off_free; off_retired = l.off_retired });
  off_retired = k.off_retired;
  live = record { within = k.live.within; off_free = k.live.off_free; off_retired = k.live.off_retired };
  stays_live = λ x l.
      let m = k.stays_live x (record { within = l.within; off_free = l.off_free; off_retired = l.off_retired }) in
      record { within = m.within; off_free = m.off_free; off_retired = m.off_retired };
}

takes_roomy : (n : ℕ) (s t : Space) (rs : List Extent) → TakesEach s rs t → TakesEach (record s { spare = n }) rs (record t { spare = n })
takes_roomy n s t [] e = ap (λ (x : Space). let y : Space = record x { spare = n } in y) e
takes_roomy n s t (r ∷ rs) e = (record (e.0) { spare = n }, took_roomy n s e.0 r e.1, takes_roomy n e.0 t rs e.2)

copy_is : (t u : Space) → IsCopy t u → ◌≡◌ {A = Space} (record t { spare = u.spare }) u
copy_is t u c = λ i. let y : Space = record { end = sym c.end i; limit = sym c.limit i; free = sym c.free i; retired = sym c.retired i; spare = u.spare } in y

takes_on : (s t u : Space) (rs qs : List Extent) → TakesEach s rs t → TakesEach t qs u → TakesEach s (rs ++ qs) u
takes_on s t u [] qs e f = subst (λ (x : Space). TakesEach x qs u) e f
takes_on s t u (r ∷ rs) qs e f = (e.0, e.1, takes_on e.0 t u rs qs e.2 f)

-- an element of a list joined with another is one of either
pub get_joined : (xs ys : List ChunkPlace) (k : ℕ) (p : ChunkPlace) → slice_get (xs ++ ys) k ≡ Some p → (slice_get xs k ≡ Some p) ⊎ ((j : ℕ) × (slice_get ys j ≡ Some p))
get_joined [] ys k p at = inr (k, at)
get_joined (x ∷ xs) ys zero p at = inl at
get_joined (x ∷ xs) ys (suc k) p at =
    elim (get_joined xs ys k p at) [
      | inl front ↦ inl front
      | inr back ↦ inr back
    ]

pub behind_again : (d : Described) (old : Key → ℕ) (early : List ChunkPlace) (s t u : Space) (chunks more : List ChunkPlace) → AreTakenBehind d old early s chunks t → AreTakenBehind d old chunks t more u → AreTakenBehind d old early s more u
behind_again d old early s t u chunks more x y =
    let bytes : ℕ = chunk_bytes d in
    let front : List Used = new_chunks d old d.shape.rows (length early) x.later in
    let behind : ℕ → List Used = λ k. new_chunks d old d.shape.rows k y.later in
    let ranges : front ++ behind (length chunks) ≡ new_chunks d old d.shape.rows (length early) (x.later ++ y.later) =
    ap (λ k. front ++ behind k) (ap length x.all ∙ length-append early x.later) ∙ sym (new_joined d old d.shape.rows (length early) x.later y.later) in
    let long : length x.later * bytes + length y.later * bytes ≡ length (x.later ++ y.later) * bytes = sum (length x.later) (length y.later) bytes ∙ ap (λ n. n * bytes) (sym (length-append x.later y.later)) in
    let roomy : Space = record (x.first) { spare = y.first.spare } in
    let start : TakesEach roomy x.ranges y.first = subst (λ (z : Space). TakesEach roomy x.ranges z) (copy_is t y.first y.copied) (takes_roomy y.first.spare x.first t x.ranges x.each) in
    record {
      later = x.later ++ y.later;
      all = y.all ∙ ap (λ (cs : List ChunkPlace). cs ++ y.later) x.all ∙ append_assoc early x.later y.later;
      taken = subst (λ (us : List Used). Taken s us u) ranges (taken_laws.joined s t u front (behind (length chunks)) x.taken y.taken);
      raised = subst (λ n. IsRaised s u n) long (raised_on s t u (length x.later * bytes) (length y.later * bytes) x.raised y.raised);
      inside = λ k p at.
          elim (get_joined x.later y.later k p at) [
            | inl first ↦ omega (arith, x.inside k p first, y.raised.rises)
            | inr last ↦ y.inside last.0 p last.1
          ];
      first = roomy;
      copied = record { end = x.copied.end; free = x.copied.free; retired = x.copied.retired; limit = x.copied.limit };
      ranges = x.ranges ++ y.ranges;
      each = takes_on roomy y.first u x.ranges y.ranges start y.each;
    }
  where
    sum : (a b n : ℕ) → a * n + b * n ≡ (a + b) * n
    sum a b n = grind arith

behind_copy : (d : Described) (old : Key → ℕ) (early : List ChunkPlace) (s t u : Space) (chunks : List ChunkPlace) → IsCopy t u → AreTakenBehind d old early s chunks t → AreTakenBehind d old early s chunks u
behind_copy d old early s t u chunks c x = behind_again d old early s t u chunks chunks x (behind_none d old chunks t u c)

-- ---- Behind none

pub behind_first : (d : Described) (old : Key → ℕ) (s t : Space) (chunks : List ChunkPlace) → AreTaken d old s chunks t → AreTakenBehind d old [] s chunks t
behind_first d old s t chunks x = record { later = chunks; all = refl; taken = x.taken; raised = x.raised; inside = x.inside; first = x.first; copied = x.copied; ranges = x.ranges; each = x.each }

pub first_of : (d : Described) (old : Key → ℕ) (s t : Space) (chunks : List ChunkPlace) → AreTakenBehind d old [] s chunks t → AreTaken d old s chunks t
first_of d old s t chunks x =
    let made : AreTaken d old s x.later t = record { taken = x.taken; raised = x.raised; inside = x.inside; first = x.first; copied = x.copied; ranges = x.ranges; each = x.each } in
    subst (λ (cs : List ChunkPlace). AreTaken d old s cs t) (sym x.all) made

behind_joins : (d : Described) (old : Key → ℕ) (rest s t : Space) (early chunks : List ChunkPlace) → AreTaken d old rest early s → AreTakenBehind d old early s chunks t → AreTaken d old rest chunks t
behind_joins d old rest s t early chunks x y = first_of d old rest t chunks (behind_again d old [] rest s t early chunks (behind_first d old rest s early x) y)

pub taken_none : (d : Described) (old : Key → ℕ) (s t : Space) → IsCopy s t → AreTaken d old s [] t
taken_none d old s t c = first_of d old s t [] (behind_none d old [] s t c)

pub taken_stored : (d : Described) (old : Key → ℕ) (s t : Space) (chunks : List ChunkPlace) (p : ChunkPlace) → old (next_key d chunks) ≢ undefined → p.address + chunk_len d ≤ t.end → AreTaken d old s chunks t → AreTaken d old s (chunks ++ p ∷ []) t
taken_stored d old s t chunks p there ends x = first_of d old s t (chunks ++ p ∷ []) (behind_stored d old [] s t chunks p there ends (behind_first d old s t chunks x))

pub taken_new : (d : Described) (old : Key → ℕ) (s t next : Space) (chunks : List ChunkPlace) (p : ChunkPlace) → 0 < chunk_len d → old (next_key d chunks) ≡ undefined → Took t next (extent p.address (chunk_len d))
    → AreTaken d old s chunks t → AreTaken d old s (chunks ++ p ∷ []) next
taken_new d old s t next chunks p some none took x = first_of d old s next (chunks ++ p ∷ []) (behind_new d old [] s t next chunks p some none took (behind_first d old s t chunks x))

pub taken_copy : (d : Described) (old : Key → ℕ) (s t u : Space) (chunks : List ChunkPlace) → IsCopy t u → AreTaken d old s chunks t → AreTaken d old s chunks u
taken_copy d old s t u chunks c x = first_of d old s u chunks (behind_copy d old [] s t u chunks c (behind_first d old s t chunks x))

pub behind_laws : BehindLaws
behind_laws = record {
  behind_none = behind_none;
  behind_stored = behind_stored;
  behind_new = behind_new;
  behind_copy = behind_copy;
  behind_joins = behind_joins;
  behind_again = behind_again;
  behind_first = behind_first;
  first_of = first_of;
}
