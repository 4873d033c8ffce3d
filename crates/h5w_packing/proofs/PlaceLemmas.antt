-- Chunks that get their places one after another, each of which the index then names.
use Rattle.std.proofs.Common.{◌≡◌, ◌≢◌, ◌⊎◌, ℕ, zero, suc, ◌+◌, ◌*◌, ◌/◌, ◌%◌, ◌<◌, ◌≤◌, ◌^◌, List, [], ◌∷◌, ◌++◌, length, length-append, refl, sym, ◌∙◌, ap, subst, inl, inr, arith, append-nil, append_assoc}
use Rattle.std.specs.Prelude.{◌==◌, drop, slice_index_or}
use Rattle.std.proofs.Math.Nat.{div-lt_iff_lt-mul, mod-lt}
use Rattle.std.proofs.lemmas.List.{drop_all, drop_more}
use Rattle.std.proofs.lemmas.List.Sorted.{length_permutation}
use Rattle.h5w_model.specs.Numbers.{undefined}
use Rattle.h5w_model.specs.Datasets.{Described}
use Rattle.h5w_model.specs.Tables.{bands, chunks_across, format_limits, index_key, keys_across, limit_of, needed}
use Rattle.h5w_model.specs.Findings.{chunk_bytes}
use Rattle.h5w_model.specs.declared.cell.Key.{Key}
use Rattle.h5w_model.specs.declared.cell.IndexKind.{IndexKind}
use Rattle.h5w_model.specs.declared.cell.IndexKind.TheVariants.{Array, Tree}
use Rattle.h5w_space.specs.Space.{Space, TakesEnd, TakesFree, TakesPlace}
use Rattle.h5w_space.specs.declared.Extent.{Extent}
use Rattle.h5w_space.specs.declared.Full.{Full}
use Rattle.h5w_step_laws.proofs.MomentLemmas.{one_more}
use Rattle.h5w_index.specs.Views.{IndexView, IsSound}
use Rattle.h5w_index.specs.Steps.{IsDeep, IsSet}
use Rattle.h5w_index.proofs.DepthLemmas.{depth_laws}
use Rattle.h5w_index.proofs.ToldLemmas.{set_tells}
use Rattle.h5w_packing_laws.specs.Growing.{AreNamed, IsNamedNext, IsTight, named_from}
use Rattle.h5w_packing_laws.proofs.MapLemmas.{chunk_there, chunk_absent}
use Rattle.h5w_packing.specs.Plans.{IsChunkOut, IsNextOut, IsOfKind, TakesAll, chunks_end, copied_from, key_lines, packed_table}
use Rattle.h5w_packing.specs.declared.job.Copied.{Copied}
use Rattle.h5w_packing.proofs.TableLemmas.{copied_absent, copied_there, end_absent, end_there, table_absent, table_there}

-- ---- The keys of needed chunks

lines_by : (k : IndexKind) (lines wide all : ℕ) → lines * wide ≡ all → all ≤ limit_of format_limits k
    → (elim k as (λ _. ℕ) [ Array ↦ all | Tree ↦ lines ]) * (elim k as (λ _. ℕ) [ Array ↦ 1 | Tree ↦ wide ]) ≤ 1114348
lines_by Array lines wide all e few = omega (arith, few)
lines_by Tree lines wide all e few = omega (arith, e, few)

pub lines_few : (d : Described) → needed d ≤ limit_of format_limits d.layout.index → key_lines d * keys_across d ≤ 1114348
lines_few d few = lines_by d.layout.index (bands d) (chunks_across d) (needed d) refl few

low_by : (k : IndexKind) (lines wide all n : ℕ) → lines * wide ≡ all → n < all → 0 < wide
    → n / (elim k as (λ _. ℕ) [ Array ↦ 1 | Tree ↦ wide ]) < (elim k as (λ _. ℕ) [ Array ↦ all | Tree ↦ lines ])
low_by Array lines wide all n e low some = omega (arith, low)
low_by Tree lines wide all n e low some = (div-lt_iff_lt-mul {k = wide} {x = n} {y = lines} some).1 (omega (arith, low, e))

side_by : (k : IndexKind) (wide n : ℕ) → 0 < wide → n % (elim k as (λ _. ℕ) [ Array ↦ 1 | Tree ↦ wide ]) < (elim k as (λ _. ℕ) [ Array ↦ 1 | Tree ↦ wide ])
side_by Array wide n some = omega arith
side_by Tree wide n some = mod-lt n some

some_factor : (a b n : ℕ) → n < a * b → 0 < b
some_factor a zero n h = absurd (omega (arith, h))
some_factor a (suc b) n h = omega arith

pub key_low : (d : Described) (n : ℕ) → n < needed d → (index_key d n).i < key_lines d
key_low d n low = low_by d.layout.index (bands d) (chunks_across d) (needed d) n refl low (some_factor (bands d) (chunks_across d) n low)

pub key_side : (d : Described) (n : ℕ) → n < needed d → (index_key d n).j < keys_across d
key_side d n low = side_by d.layout.index (chunks_across d) n (some_factor (bands d) (chunks_across d) n low)

-- ---- The next place

pub tight_place : (s t : Space) (r : Extent) → IsTight s → TakesPlace s t r → (r.at ≡ s.end) × (t ≡ record s { end = s.end + r.size })
tight_place s t r tight k = go k.by
  where
    go : TakesFree s t r ⊎ TakesEnd s t r → (r.at ≡ s.end) × (t ≡ record s { end = s.end + r.size })
    go (inl f) = absurd (omega (arith, length_permutation s.free (r ∷ t.free) f.free, ap length tight.free))
    go (inr f) = (f.place, λ i. record { end = f.end i; limit = k.limit i; free = f.free i; retired = k.retired i; spare = k.spare i })

-- ---- The index

pub not_deep : (d : Described) (n : ℕ) (v : IndexView) → IsSound v → IsOfKind d v → needed d ≤ limit_of format_limits d.layout.index → IsDeep v (index_key d n) → ⊥
not_deep d n v sound kind few deep = depth_laws.shallow (key_lines d) (keys_across d) (index_key d n) v sound kind.within (lines_few d few) deep

pub kind_stays : (d : Described) (n address : ℕ) (v w : IndexView) → n < needed d → IsSound v → IsOfKind d v → address ≢ undefined → IsSet (index_key d n) address v w → IsOfKind d w
kind_stays d n address v w low sound kind defined sets =
    let key : Key = index_key d n in
    record {
      kind = kind.kind ∙ sym (set_tells key address v w sound defined sets).like.kind;
      within = depth_laws.set (key_lines d) (keys_across d) key address v w sound (key_low d n low) (key_side d n low) sets kind.within;
    }

-- ---- One after another

-- The first n chunks of a table have their places, and the index names them.
pub record IsHalfway (d : Described) (table : List ℕ) (s : Space) (u : IndexView) (n : ℕ) (places : Space) (v : IndexView) (chunks : List Copied) : Type 0 where
  pub sound : IsSound v
  pub takes : TakesAll d v
  pub kind : IsOfKind d v
  pub space : places ≡ record s { end = places.end }
  pub within : places.end ≤ s.limit
  pub at : places.end ≡ s.end + length chunks * chunk_bytes d
  pub chunks_are : chunks ++ copied_from (chunk_bytes d) places.end (drop n table) ≡ copied_from (chunk_bytes d) s.end table
  pub ends : chunks_end (chunk_bytes d) places.end (drop n table) ≡ chunks_end (chunk_bytes d) s.end table
  pub named : (w : IndexView) → AreNamed v (named_from d n (packed_table (chunk_bytes d) places.end (drop n table))) w → AreNamed u (named_from d 0 (packed_table (chunk_bytes d) s.end table)) w

pub halfway_start : (d : Described) (table : List ℕ) (s : Space) (u : IndexView) (chunks : List Copied) → IsSound u → TakesAll d u → IsOfKind d u → s.end ≤ s.limit → chunks ≡ [] → IsHalfway d table s u 0 s u chunks
halfway_start d table s u chunks sound takes kind within none =
    subst (λ (cs : List Copied). IsHalfway d table s u 0 s u cs) (sym none) (record { sound = sound; takes = takes; kind = kind; space = refl; within = within; at = omega arith; chunks_are = refl; ends = refl; named = λ w h. h })

module _ (d : Described) (table : List ℕ) (s : Space) (u : IndexView) (n : ℕ) (places : Space) (v : IndexView) (chunks : List Copied) (h : IsHalfway d table s u n places v chunks) where
  abbrev bytes : ℕ
  bytes = chunk_bytes d

  pub halfway_tight : IsTight s → IsTight places
  halfway_tight tight = record { free = ap (λ (x : Space). x.free) h.space ∙ tight.free; retired = ap (λ (x : Space). x.retired) h.space ∙ tight.retired }

  pub halfway_limit : places.limit ≡ s.limit
  halfway_limit = ap (λ (x : Space). x.limit) h.space

  more : n < length table → drop n table ≡ slice_index_or table n 0 ∷ drop (n + 1) table
  more inside = drop_more table n 0 inside

  -- an absent chunk
  pub halfway_absent : n < length table → slice_index_or table n 0 ≡ undefined → IsHalfway d table s u (n + 1) places v chunks
  halfway_absent inside absent =
      let a : ℕ = slice_index_or table n 0 in
      let rest : List ℕ = drop (n + 1) table in
      let here : packed_table bytes places.end (drop n table) ≡ undefined ∷ packed_table bytes places.end rest = ap (packed_table bytes places.end) (more inside) ∙ table_absent bytes places.end a rest absent in
      let names : named_from d n (packed_table bytes places.end (drop n table)) ≡ named_from d (n + 1) (packed_table bytes places.end rest) = ap (named_from d n) here ∙ chunk_absent d n undefined (packed_table bytes places.end rest) refl in
      record {
        sound = h.sound;
        takes = h.takes;
        kind = h.kind;
        space = h.space;
        within = h.within;
        at = h.at;
        chunks_are = ap (λ (cs : List Copied). chunks ++ cs) (sym (ap (copied_from bytes places.end) (more inside) ∙ copied_absent bytes places.end a rest absent)) ∙ h.chunks_are;
        ends = sym (ap (chunks_end bytes places.end) (more inside) ∙ end_absent bytes places.end a rest absent) ∙ h.ends;
        named = λ w x. h.named w (subst (λ (cs : List (Key × ℕ)). AreNamed v cs w) (sym names) x);
      }

  -- one that is there
  pub halfway_there : (t : Space) (next : IndexView) (to : ℕ) (others : List Copied) → s.limit ≤ 2 ^ 40 → n < length table → slice_index_or table n 0 ≢ undefined → IsSound next → TakesAll d next → IsOfKind d next → to ≡ places.end
      → t ≡ record places { end = places.end + chunk_bytes d } → places.end + chunk_bytes d ≤ places.limit → IsNamedNext v (index_key d n, to) next → others ≡ chunks ++ record { from = slice_index_or table n 0; to = to; len = chunk_bytes d } ∷ []
      → IsHalfway d table s u (n + 1) t next others
  halfway_there t next to others small inside there sound takes kind is place fits name put =
      let a : ℕ = slice_index_or table n 0 in
      let rest : List ℕ = drop (n + 1) table in
      let end : t.end ≡ places.end + bytes = ap (λ (x : Space). x.end) place in
      let one : Copied = record { from = a; to = places.end; len = bytes } in
      let defined : places.end ≢ undefined = λ e. absurd (omega (arith, e, h.within, small)) in
      let here : packed_table bytes places.end (drop n table) ≡ places.end ∷ packed_table bytes t.end rest =
      ap (packed_table bytes places.end) (more inside) ∙ table_there bytes places.end a rest there ∙ ap (λ m. places.end ∷ packed_table bytes m rest) (sym end) in
      let names : named_from d n (packed_table bytes places.end (drop n table)) ≡ (index_key d n, places.end) ∷ named_from d (n + 1) (packed_table bytes t.end rest) =
      ap (named_from d n) here ∙ chunk_there d n places.end (packed_table bytes t.end rest) defined in
      let copies : copied_from bytes places.end (drop n table) ≡ one ∷ copied_from bytes t.end rest =
      ap (copied_from bytes places.end) (more inside) ∙ copied_there bytes places.end a rest there ∙ ap (λ m. one ∷ copied_from bytes m rest) (sym end) in
      let all : others ≡ chunks ++ one ∷ [] = put ∙ ap (λ m. chunks ++ record { from = a; to = m; len = bytes } ∷ []) is in
      let named_next : IsNamedNext v (index_key d n, places.end) next = subst (λ m. IsNamedNext v (index_key d n, m) next) is name in
      record {
        sound = sound;
        takes = takes;
        kind = kind;
        space = place ∙ ap (λ (y : Space). let z : Space = record y { end = places.end + bytes } in z) h.space ∙ ap (λ m. let z : Space = record s { end = m } in z) (sym end);
        within = omega (arith, fits, end, halfway_limit);
        at = omega (arith, end, h.at, ap (λ m. m * bytes) (let count : length others ≡ length chunks + 1 = ap length all ∙ length-append chunks (one ∷ []) in count), one_more (length chunks) bytes);
        chunks_are = ap (λ (cs : List Copied). cs ++ copied_from bytes t.end rest) all ∙ append_assoc chunks (one ∷ []) (copied_from bytes t.end rest) ∙ ap (λ (cs : List Copied). chunks ++ cs) (sym copies) ∙ h.chunks_are;
        ends = ap (λ m. chunks_end bytes m rest) end ∙ sym (ap (chunks_end bytes places.end) (more inside) ∙ end_there bytes places.end a rest there) ∙ h.ends;
        named = λ w x. h.named w (subst (λ (cs : List (Key × ℕ)). AreNamed v cs w) (sym names) (next, named_next, x));
      }

  -- the next one has no place
  pub halfway_full : (full : Full) → n < length table → slice_index_or table n 0 ≢ undefined → IsNextOut (chunk_bytes d) places full → IsChunkOut (chunk_bytes d) s.end s.limit table full
  halfway_full full inside there out =
      let a : ℕ = slice_index_or table n 0 in
      let rest : List ℕ = drop (n + 1) table in
      let one : Copied = record { from = a; to = places.end; len = bytes } in
      let copies : copied_from bytes places.end (drop n table) ≡ one ∷ copied_from bytes (places.end + bytes) rest = ap (copied_from bytes places.end) (more inside) ∙ copied_there bytes places.end a rest there in
      let long : length (copied_from bytes s.end table) ≡ length chunks + suc (length (copied_from bytes (places.end + bytes) rest)) =
      ap length (sym h.chunks_are) ∙ length-append chunks (copied_from bytes places.end (drop n table)) ∙ ap (λ (cs : List Copied). length chunks + length cs) copies in
      let is : full ≡ record { at = s.end + length chunks * bytes; size = bytes; limit = s.limit } = out.is ∙ (λ i. record { at = h.at i; size = bytes; limit = halfway_limit i }) in
      record {
        before = length chunks;
        inside = omega (arith, long);
        is = is;
        out = omega (arith, out.out, halfway_limit, ap (λ (f : Full). f.at) out.is, ap (λ (f : Full). f.size) out.is);
      }

  -- all are placed
  none_left : length table ≤ n → drop n table ≡ []
  none_left past = drop_all n table past

  pub halfway_chunks : length table ≤ n → chunks ≡ copied_from (chunk_bytes d) s.end table
  halfway_chunks past = sym (append-nil chunks) ∙ ap (λ (l : List ℕ). chunks ++ copied_from bytes places.end l) (sym (none_left past)) ∙ h.chunks_are

  pub halfway_end : length table ≤ n → places.end ≡ chunks_end (chunk_bytes d) s.end table
  halfway_end past = ap (chunks_end bytes places.end) (sym (none_left past)) ∙ h.ends

  pub halfway_space : length table ≤ n → places ≡ record s { end = chunks_end (chunk_bytes d) s.end table }
  halfway_space past = h.space ∙ ap (λ m. let x : Space = record s { end = m } in x) (halfway_end past)

  pub halfway_named : length table ≤ n → AreNamed u (named_from d 0 (packed_table (chunk_bytes d) s.end table)) v
  halfway_named past = h.named v (subst (λ (l : List ℕ). AreNamed v (named_from d n (packed_table bytes places.end l)) v) (sym (none_left past)) refl)
