-- What is left of a plan is pieces within the file, and the superblock's is the last.
use Rattle.std.proofs.Common.{◌≡◌, ℕ, zero, suc, ◌+◌, ◌-◌, ◌*◌, ◌<◌, ◌≤◌, List, [], ◌∷◌, ◌++◌, length, flat_map, refl, sym, ◌∙◌, ap, subst, inl, inr, arith, append_assoc}
use Rattle.std.specs.Prelude.{map, min}
use Rattle.std.specs.List.{All, AllByRecursion}
use Rattle.std.proofs.lemmas.List.{map-append}
use Rattle.std.proofs.lemmas.List.Elements.{All-append, All-cons, All-head, All-nil, All-tail}
use Rattle.h5w_model.specs.Images.{pieces}
use Rattle.h5w_model.specs.Superblock.{super_bytes}
use Rattle.h5w_model.specs.Findings.{Used, chunk_bytes}
use Rattle.h5w_model.specs.declared.piece.Write.{Write}
use Rattle.h5w_model.proofs.SuperLemmas.{length-super_bytes}
use Rattle.h5w_step_laws.specs.Spelled.{spelled_header}
use Rattle.h5w_step_laws.specs.Ranges.{Among, block_at}
use Rattle.h5w_flush_laws.specs.Parts.{block_ranges, block_writes}
use Rattle.h5w_array_laws.specs.ArrayPlans.{fresh}
use Rattle.h5w_several_creation_laws.specs.Links.{linking_header_len}
use Rattle.h5w_several_creation_laws.proofs.LinkLemmas as links
use Rattle.h5w_packing_laws.specs.Growing.{IsPiece, RangesFrom, own_blocks}
use Rattle.h5w_packing_laws.specs.Packing.{IsPackedSet, PackedSet, front_ranges, packed_super, root_bytes, set_links, set_names}
use Rattle.h5w_packing_laws.specs.PackingLaws.{BlocksWritten, TightPlan, TopsWritten}
use Rattle.h5w_packing_laws.proofs.FileLemmas.{StandsBetween, all_between, behind_rises, front_from, front_some, link_names, packed_blocks, set_tight, wider}
use Rattle.h5w_packing_laws.proofs.RangeLemmas.{ranges_end, ranges_rise}
use Rattle.h5w_packing.specs.Jobs.{IsJobBehind, IsJobIn, IsPrepared, PackingView, behind_address, block_jobs, chunk_jobs, first_jobs, piece_count}
use Rattle.h5w_packing.specs.Plans.{IsPlanned, IsPlannedSet, PlannedSet, Wanted, chunks_end, fronts_end, header_write, set_chunks, sets_of}
use Rattle.h5w_packing.specs.declared.job.Copied.{Copied}
use Rattle.h5w_packing.specs.declared.job.Job.{Job}
use Rattle.h5w_packing.specs.declared.job.Job.TheVariants.{Chunk, Block}
use Rattle.h5w_packing.proofs.EndLemmas.{IsWithin, blocks_within, pieces_within}
use Rattle.h5w_packing.proofs.FrontLemmas.{spelled_short}
use Rattle.h5w_packing.proofs.SoFarLemmas.{each_packed, set_end}
use Rattle.h5w_packing.proofs.TableLemmas.{IsBetween, copied_between, end_rises}

-- a piece within the file, behind the superblock's place
record IsGood (end : ℕ) (j : Job) : Type 0 where
  within : IsJobIn end j
  behind : IsJobBehind j

all_within : (end : ℕ) (js : List Job) → All (IsGood end) js → All (IsJobIn end) js
all_within end [] h = All-nil (IsJobIn end)
all_within end (j ∷ js) h = All-cons (IsJobIn end) j js (All-head (IsGood end) j js h).within (all_within end js (All-tail (IsGood end) j js h))

all_behind : (end : ℕ) (js : List Job) → All (IsGood end) js → All IsJobBehind js
all_behind end [] h = All-nil IsJobBehind
all_behind end (j ∷ js) h = All-cons IsJobBehind j js (All-head (IsGood end) j js h).behind (all_behind end js (All-tail (IsGood end) j js h))

-- ---- The chunks' pieces

-- what is left behind the first piece, where more pieces come
first_good : (end k from to at left : ℕ) → 512 * k < left + 512 → (0 < k → to + at + left ≤ end) → 48 ≤ to → All (IsGood end) (first_jobs k from to at left)
unfolding first_jobs
first_good end zero from to at left few high low = All-nil (IsGood end)
first_good end (suc k) from to at left few high low =
    let all = high (omega arith) in
    All-cons (IsGood end) (Chunk (behind_address from at) (to + at) (min 512 left)) (first_jobs k from to (at + 512) (left - 512))
    (record { within = record { some = omega (arith, few); piece = omega arith; high = omega (arith, all) }; behind = omega (arith, low) })
    (first_good end k from to (at + 512) (left - 512) (omega (arith, few)) (λ some. omega (arith, all, few, some)) low)

chunks_good : (end from : ℕ) (cs : List Copied) → 48 ≤ from → All (IsBetween from end) cs → All (IsGood end) (flat_map chunk_jobs cs)
chunks_good end from [] low h = All-nil (IsGood end)
chunks_good end from (c ∷ cs) low h =
    let one = All-head (IsBetween from end) c cs h in
    All-append (IsGood end) (chunk_jobs c) (flat_map chunk_jobs cs) (first_good end (piece_count (c.len - 0)) c.from c.to 0 (c.len - 0) (omega arith) (λ some. omega (arith, one.high)) (omega (arith, low, one.low)))
    (chunks_good end from cs low (All-tail (IsBetween from end) c cs h))

more_high : (from low end high : ℕ) (cs : List Copied) → low ≤ from → end ≤ high → All (IsBetween from end) cs → All (IsBetween low high) cs
more_high from low end high [] l e h = All-nil (IsBetween low high)
more_high from low end high (c ∷ cs) l e h =
    let one = All-head (IsBetween from end) c cs h in
    All-cons (IsBetween low high) c cs (record { low = omega (arith, l, one.low); high = omega (arith, one.high, e) }) (more_high from low end high cs l e (All-tail (IsBetween from end) c cs h))

-- ---- The blocks' pieces

writes_good : (end : ℕ) (ws : List Write) → All (IsWithin 48 end) ws → All (IsGood end) (block_jobs ws)
writes_good end [] h = All-nil (IsGood end)
writes_good end (w ∷ ws) h =
    let one = All-head (IsWithin 48 end) w ws h in
    All-cons (IsGood end) (Block w) (block_jobs ws) (record { within = record { some = one.some; piece = one.short; high = one.high }; behind = one.low }) (writes_good end ws (All-tail (IsWithin 48 end) w ws h))

-- pieces whose ranges stand there
own_within : (end : ℕ) (ws : List Write) → All IsPiece ws → ((u : Used) → Among u (block_ranges (own_blocks ws)) → (48 ≤ u.place) × (u.place + u.len ≤ end)) → All (IsWithin 48 end) ws
own_within end [] h f = All-nil (IsWithin 48 end)
own_within end (w ∷ ws) h f =
    let one = All-head IsPiece w ws h in
    let here = f (block_at w.at (length w.piece)) (inl refl) in
    All-cons (IsWithin 48 end) w ws (record { low = here.0; some = one.some; short = one.short; high = here.1 }) (own_within end ws (All-tail IsPiece w ws h) (λ u a. f u (inr a)))

ranges_low : (from end : ℕ) (us : List Used) (u : Used) → RangesFrom from us end → Among u us → from ≤ u.place
ranges_low from end [] u h a = absurd a
ranges_low from end (v ∷ us) u h (inl e) = omega (arith, h.0, ap (λ (y : Used). y.place) e)
ranges_low from end (v ∷ us) u h (inr a) = let later = ranges_low (from + v.len) end us u h.1 a in omega (arith, later)

-- ---- Those of a dataset

module _ (limit end : ℕ) (x : PlannedSet) (h : IsPlannedSet limit x) (b : StandsBetween 48 48 end x.set) where
  abbrev set : PackedSet
  set = x.set

  abbrev bytes : ℕ
  bytes = chunk_bytes x.source.dataset

  chunks_between : All (IsBetween 48 end) (set_chunks x)
  chunks_between =
      more_high set.first.end 48 (chunks_end bytes set.first.end x.source.table) end (set_chunks x) b.first (omega (arith, set_end limit x h, b.last))
      (copied_between bytes set.first.end set.first.end x.source.table (omega arith))

  tight : TightPlan (h.packed.packing).s set.moves set.copies set.last
  tight = set_tight set h.packed

  copies_within : All (IsWithin 48 end) (block_writes set.copies)
  copies_within =
      blocks_within 48 end set.copies
      (λ u a. omega (arith, ranges_low (h.packed.packing).s.end set.last.end (fresh set.moves) u tight.ranges (subst (λ (us : List Used). Among u us) tight.blocks a), h.placed, end_rises bytes set.first.end x.source.table, b.first))
      (λ u a. omega (arith, ranges_end (h.packed.packing).s.end set.last.end (fresh set.moves) tight.ranges u (subst (λ (us : List Used). Among u us) tight.blocks a), b.last))

  -- the header and the blocks in place
  front_within : (u : Used) → Among u (front_ranges set) → (48 ≤ u.place) × (u.place + u.len ≤ end)
  front_within u a =
      let from = front_from set h.packed in
      (omega (arith, ranges_low set.place set.top (front_ranges set) u from a, b.low), omega (arith, ranges_end set.place set.top (front_ranges set) from u a, b.top))

  tops_within : TopsWritten set → All (IsWithin 48 end) set.tops
  tops_within t = own_within end set.tops t.pieces (λ u a. front_within u (inr (t.part.among u a)))

  header_within : IsWithin 48 end (header_write x)
  header_within =
      let own : Used = block_at set.place (length (spelled_header set.dataset)) in
      let here = front_within own (inl refl) in
      record { low = here.0; some = front_some set h.packed own (inl refl); short = omega (arith, spelled_short set.dataset h.packed.laid.spellable); high = here.1 }

-- ---- Those of all

abbrev set_copies : PlannedSet → List Write
set_copies x = block_writes x.set.copies

abbrev set_tops : PlannedSet → List Write
set_tops x = x.set.tops

module _ (limit end : ℕ) where
  all_chunks : (xs : List PlannedSet) → AllByRecursion (IsPlannedSet limit) xs → AllByRecursion (StandsBetween 48 48 end) (sets_of xs) → All (IsBetween 48 end) (flat_map set_chunks xs)
  all_chunks [] h b = All-nil (IsBetween 48 end)
  all_chunks (x ∷ xs) h b = All-append (IsBetween 48 end) (set_chunks x) (flat_map set_chunks xs) (chunks_between limit end x h.0 b.0) (all_chunks xs h.1 b.1)

  all_copies : (xs : List PlannedSet) → AllByRecursion (IsPlannedSet limit) xs → AllByRecursion (StandsBetween 48 48 end) (sets_of xs) → All (IsWithin 48 end) (flat_map set_copies xs)
  all_copies [] h b = All-nil (IsWithin 48 end)
  all_copies (x ∷ xs) h b = All-append (IsWithin 48 end) (set_copies x) (flat_map set_copies xs) (copies_within limit end x h.0 b.0) (all_copies xs h.1 b.1)

  all_tops : (xs : List PlannedSet) → AllByRecursion (IsPlannedSet limit) xs → AllByRecursion (StandsBetween 48 48 end) (sets_of xs) → AllByRecursion TopsWritten (sets_of xs) → All (IsWithin 48 end) (flat_map set_tops xs)
  all_tops [] h b t = All-nil (IsWithin 48 end)
  all_tops (x ∷ xs) h b t = All-append (IsWithin 48 end) (set_tops x) (flat_map set_tops xs) (tops_within limit end x h.0 b.0 t.0) (all_tops xs h.1 b.1 t.1)

  all_headers : (xs : List PlannedSet) → AllByRecursion (IsPlannedSet limit) xs → AllByRecursion (StandsBetween 48 48 end) (sets_of xs) → All (IsWithin 48 end) (map header_write xs)
  all_headers [] h b = All-nil (IsWithin 48 end)
  all_headers (x ∷ xs) h b = All-cons (IsWithin 48 end) (header_write x) (map header_write xs) (header_within limit end x h.0 b.0) (all_headers xs h.1 b.1)

module _ (ws : List Wanted) (limit : ℕ) (p : PackingView) (x : IsPlanned ws limit p) where
  abbrev xs : List PlannedSet
  xs = x.sets

  abbrev end : ℕ
  end = x.end

  abbrev packed : List PackedSet
  packed = sets_of xs

  each : AllByRecursion IsPackedSet packed
  each = each_packed limit xs x.each

  blocks : BlocksWritten packed end
  blocks = packed_blocks packed (fronts_end ws) end each x.packed

  between : AllByRecursion (StandsBetween 48 48 end) packed
  between = wider (48 + linking_header_len (set_names packed)) (fronts_end ws) 48 48 end packed (omega arith) (omega arith) (all_between (48 + linking_header_len (set_names packed)) (fronts_end ws) (fronts_end ws) end packed each x.packed.fronts x.packed.behinds (behind_rises (fronts_end ws) end packed each x.packed.behinds))

  root_long : length (root_bytes packed) ≡ linking_header_len (set_names packed)
  root_long = links.root_long (set_links packed) ∙ ap linking_header_len (link_names packed)

  root_high : 48 + linking_header_len (set_names packed) ≤ end
  root_high =
      let rest = blocks.from.1.1 in
      ranges_rise (48 + linking_header_len (set_names packed)) end _ rest

  abbrev super : Write
  super = record { at = 0; piece = super_bytes (packed_super end) }

  abbrev root : List Write
  root = pieces 48 (root_bytes packed)

  abbrev body_writes : List Write
  body_writes = flat_map set_copies xs ++ (flat_map set_tops xs ++ (map header_write xs ++ root))

  abbrev chunk_pieces : List Job
  chunk_pieces = flat_map chunk_jobs (flat_map set_chunks xs)

  abbrev body : List Job
  body = chunk_pieces ++ block_jobs body_writes

  body_good : All (IsGood end) body
  body_good =
      let heads : All (IsWithin 48 end) (map header_write xs ++ root) = All-append (IsWithin 48 end) (map header_write xs) root (all_headers limit end xs x.each between) (pieces_within 48 (root_bytes packed) 48 end (omega arith) (omega (arith, root_long, root_high))) in
      All-append (IsGood end) chunk_pieces (block_jobs body_writes) (chunks_good end 48 (flat_map set_chunks xs) (omega arith) (all_chunks limit end xs x.each between))
      (writes_good end body_writes (All-append (IsWithin 48 end) (flat_map set_copies xs) (flat_map set_tops xs ++ (map header_write xs ++ root)) (all_copies limit end xs x.each between)
      (All-append (IsWithin 48 end) (flat_map set_tops xs) (map header_write xs ++ root) (all_tops limit end xs x.each between blocks.tops) heads)))

  ordered : p.left ≡ body ++ Block super ∷ []
  ordered =
      let c : List Write = flat_map set_copies xs in
      let t : List Write = flat_map set_tops xs in
      let h : List Write = map header_write xs in
      let ws : c ++ (t ++ (h ++ (root ++ super ∷ []))) ≡ body_writes ++ super ∷ [] =
      ap (λ (l : List Write). c ++ (t ++ l)) (sym (append_assoc h root (super ∷ [])))
      ∙ ap (λ (l : List Write). c ++ l) (sym (append_assoc t (h ++ root) (super ∷ [])))
      ∙ sym (append_assoc c (t ++ (h ++ root)) (super ∷ [])) in
      x.jobs ∙ ap (λ (l : List Write). chunk_pieces ++ block_jobs l) ws
      ∙ ap (λ (js : List Job). chunk_pieces ++ js) (map-append Block body_writes (super ∷ []))
      ∙ sym (append_assoc chunk_pieces (block_jobs body_writes) (Block super ∷ []))

  super_in : IsJobIn end (Block super)
  super_in =
      let long : length super.piece ≡ 48 = length-super_bytes (packed_super end) in
      record { some = omega (arith, long); piece = omega (arith, long); high = omega (arith, long, root_high) }

  pub prepared : IsPrepared p
  prepared = record {
    sized = subst (λ n. All (IsJobIn n) p.left) (sym x.ends) (subst (λ (js : List Job). All (IsJobIn end) js) (sym ordered) (All-append (IsJobIn end) body (Block super ∷ []) (all_within end body body_good) (All-cons (IsJobIn end) (Block super) [] super_in (All-nil (IsJobIn end)))));
    body = body;
    last = Block super;
    ordered = ordered;
    behind = all_behind end body body_good;
  }
