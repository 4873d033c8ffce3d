-- Rows that are written early miss the superblock.
use Rattle.std.proofs.Common.{◌≡◌, ◌⊎◌, ℕ, ◌+◌, ◌-◌, ◌<◌, ◌≤◌, true, false, nat_lt, List, [], length, drop, Some, refl, sym, ◌∙◌, ap, subst, inl, inr, arith}
use Rattle.std.specs.List.{slice_get}
use Rattle.std.proofs.lemmas.Bool.{cases_lt, cond-false, le-ltb}
use Rattle.h5w_model.specs.Images.{AllMiss, Apart, image}
use Rattle.h5w_model.specs.Datasets.{Described}
use Rattle.h5w_model.specs.Findings.{Used, chunk_bytes, the_superblock}
use Rattle.h5w_model.specs.Logs.{Log}
use Rattle.h5w_model.specs.declared.piece.Write.{Write}
use Rattle.h5w_chunks.specs.Grids.{chunk_len}
use Rattle.h5w_chunks.specs.Shares.{touched}
use Rattle.h5w_chunks.specs.Early.{shift_of}
use Rattle.h5w_chunks.specs.declared.grid.ChunkPlace.{ChunkPlace}
use Rattle.h5w_chunks.proofs.EarlyLemmas.{within_miss}
use Rattle.h5w_step_laws.specs.Needed.{AreFew}
use Rattle.h5w_step_laws.specs.Logs.{image_now}
use Rattle.h5w_flush_laws.specs.EarlyRows.{IsEarlyPlace}
use Rattle.h5w_flush_laws.specs.Rows.{new_chunks}
use Rattle.h5w_flush_laws.specs.Spaces.{Taken}
use Rattle.h5w_flush_laws.proofs.ChunkPlaceLemmas.{place_off}
use Rattle.h5w_flush_laws.proofs.NewChunkLemmas.{same_len}
use Rattle.h5w_pieces.specs.NextPlaces.{next_places}
use Rattle.h5w_pieces.proofs.NextPlaces.{get_dropped, next_of, places_are}
use Rattle.h5w_writer.specs.Early.{WritesEarly, WrittenEarly}
use Rattle.h5w_writer.specs.Sessions.{Session, next_row, with_rows}
use Rattle.h5w_writer.specs.Stands.{Running, Stands}
use Rattle.h5w_front_laws.specs.Fronts.{AllKeepFront, SaysWritten}
use Rattle.h5w_front_laws.specs.Laws.{KeepsWritten}
use Rattle.h5w_front_laws.proofs.FrontLemmas.{missed_fronts}

-- ---- By which places they are written

-- each of them is a chunk's place, whether it counts as stored or not
pub record IsPlaceOf (all : List ChunkPlace) (q : ChunkPlace) : Type 0 where
  pub number : ℕ
  pub place : ChunkPlace
  pub found : slice_get all number ≡ Some place
  pub same : q.address ≡ place.address

next_is_place : (d : Described) (from mid : ℕ) (all : List ChunkPlace) (k : ℕ) (q : ChunkPlace) → from ≤ mid → slice_get (next_places d from mid all) k ≡ Some q → IsPlaceOf all q
next_is_place d from mid all k q low found = go (cases_lt from mid)
  where
    go : (from < mid) ⊎ (mid ≤ from) → IsPlaceOf all q
    go (inl rises) =
        let n = next_of d mid 0 k (drop (shift_of d from mid) all) q (subst (λ (ps : List ChunkPlace). slice_get ps k ≡ Some q) (places_are d from mid all rises) found) in
        record { number = shift_of d from mid + k; place = n.place; found = sym (get_dropped (shift_of d from mid) k all) ∙ n.found; same = ap (λ (p : ChunkPlace). p.address) n.is }
    go (inr high) =
        let same : next_places d from mid all ≡ all = cond-false (nat_lt from mid) _ all (le-ltb from mid high) in
        record { number = k; place = q; found = subst (λ (ps : List ChunkPlace). slice_get ps k ≡ Some q) same found; same = refl }

-- ---- Their writes

module _ (s t : Session) (log : Log) (x : WritesEarly s t) (r : Running t t.pending log) where
  abbrev rows : ℕ
  rows = t.dataset.shape.rows + t.early

  early_is : t.early ≡ x.to - s.dataset.shape.rows
  early_is = ap (λ (y : Session). y.early) x.session

  same_set : t.dataset ≡ s.dataset
  same_set = ap (λ (y : Session). y.dataset) x.session

  data_set : t.dataset ≡ r.after.dataset
  data_set = sym r.keeps.dataset

  rises : t.dataset.shape.rows < rows
  rises = let some = x.some in let same = ap (λ (d : Described). d.shape.rows) same_set in omega (arith, some, early_is, same)

  place_misses : (n : ℕ) (p : ChunkPlace) → slice_get t.chunks n ≡ Some p → Apart p.address (chunk_len s.dataset) 0 48
  place_misses n p found =
      let img = image (image_now log) t.pending in
      let m = r.after in
      let w = r.written in
      let len : chunk_bytes m.dataset ≡ chunk_len s.dataset = ap chunk_bytes (r.keeps.dataset ∙ same_set) ∙ sym (same_len s.dataset) in
      subst (λ (bytes : ℕ). Apart p.address bytes 0 48) len
      (place_off img t.name m r.address r.rest t.places rows t.chunks r.knows
      (subst (λ (d : Described). Taken r.rest (new_chunks d r.address d.shape.rows 0 t.chunks) t.places) data_set w.taken.taken)
      (subst (λ (d : Described). d.shape.rows < rows) data_set rises)
      (subst (λ (d : Described). AreFew (with_rows rows d)) data_set w.few)
      (subst (λ (d : Described). length t.chunks ≡ touched d d.shape.rows rows) data_set w.all)
      (λ k q at. (subst (λ (d : Described). IsEarlyPlace d r.address d.shape.rows k q) data_set (w.placed k q at)).kept)
      n p found the_superblock (inl refl) (λ some same. let clash : true ≡ false = ap (λ (u : Used). u.chunk) same in cc))

  writes_miss : AllMiss t.pending 0 48
  writes_miss =
      let d = s.dataset in
      within_miss d (next_places d d.shape.rows (next_row s) t.chunks) t.pending 0 48 x.written.within (λ k q found.
      let p = next_is_place d d.shape.rows (next_row s) t.chunks k q (omega arith) found in
      subst (λ (at : ℕ). Apart at (chunk_len d) 0 48) (sym p.same) (place_misses p.number p.place p.found))

-- ---- An append

-- the session that wrote them runs
early_running : (s t : Session) (log : Log) → WritesEarly s t → Stands t log → Running t t.pending log
early_running s t log x st =
    let same : (st.left ≡ t.pending) ⊎ ((t.stopped ≡ true) × (t.pending ≡ [])) → st.left ≡ t.pending = λ e. elim e [
      | inl is ↦ is
      | inr none ↦ absurd (x.pieces none.1)
    ] in
    elim st.phase [
      | inl c ↦
          let none : t.early ≡ 0 = ap (λ (y : Session). y.early) c.1.session in
          let some = x.some in
          absurd (omega (arith, none, ap (λ (y : Session). y.early) x.session, some))
      | inr r ↦ subst (λ (ws : List Write). Running t ws log) (same st.dropped) r
    ]

pub early_keeps : (s t : Session) (log : Log) → WrittenEarly s t → s.pending ≡ [] → Stands t log → SaysWritten s.root → KeepsWritten t
early_keeps s t log (inl same) idle st says = record {
  root = subst (λ (y : Session). SaysWritten y.root) (sym same) says;
  pieces = subst (λ (y : Session). AllKeepFront y.pending) (sym same) (subst AllKeepFront (sym idle) tt);
}
early_keeps s t log (inr x) idle st says = record {
  root = subst (λ (y : Session). SaysWritten y.root) (sym x.session) says;
  pieces = missed_fronts t.pending (writes_miss s t log x (early_running s t log x st));
}
