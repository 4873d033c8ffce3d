-- What a packed file shows, and the range that would end past the limit.
use Rattle.std.proofs.Common.{◌≡◌, ◌∙◌, ℕ, ◌+◌, ◌<◌, ◌≤◌, Bool, true, false, List, [], ◌∷◌, length, map, Option, Some, None, Result, Ok, inl, inr, ap, arith, subst, sym}
use Rattle.std.specs.Prelude.{IsSomeAnd}
use Rattle.std.specs.List.{AllByRecursion}
use Rattle.std.proofs.lemmas.List.{length-map}
use Rattle.h5w_model.specs.Numbers.{range}
use Rattle.h5w_model.specs.Superblock.{super_at}
use Rattle.h5w_model.specs.Relations.{AllPaired}
use Rattle.h5w_model.specs.Tables.{Reading, Shows, format_limits}
use Rattle.h5w_model.specs.declared.root.Super.{Super}
use Rattle.h5w_model.specs.declared.refusal.SuperError.{SuperError}
use Rattle.h5w_space.specs.Space.{Space}
use Rattle.h5w_space.specs.declared.Full.{Full}
use Rattle.h5w_cache.specs.Blocks.{BlockView}
use Rattle.h5w_cache.specs.Plans.{Chain, IsMove, IsRefused, Placed, stays}
use Rattle.h5w_cache.specs.declared.moves.Move.{Move}
use Rattle.h5w_bt_index.specs.Plans.{IsNodeMove}
use Rattle.h5w_index.specs.Steps.{HasNoPlace}
use Rattle.h5w_index.specs.Views.{IndexView, an_array, a_tree}
use Rattle.h5w_step_laws.specs.Moments.{reading_of}
use Rattle.h5w_step_laws.proofs.FoundLemmas.{moment_shows}
use Rattle.h5w_step_laws.proofs.MomentLemmas.{super_parts}
use Rattle.h5w_packing_laws.specs.Packing.{PackedSet, packed_super}
use Rattle.h5w_packing.specs.Jobs.{PackingView}
use Rattle.h5w_packing.specs.Plans.{IsOut, IsPlanned, PlannedSet, Wanted, first_space}
use Rattle.h5w_packing.specs.Shown.{EndsPast, IsCopyOf, ReadsAlike, ShowsCopies}
use Rattle.h5w_packing.specs.Whole.{AllWanted, IsPackedBy, IsPackedSetBy, Packed}

-- ---- What it shows

abbrev name_of : Packed → List ℕ
name_of x = x.name

abbrev old_of : Packed → Reading
old_of x = x.reading

abbrev new_of : Packed → Reading
new_of x = reading_of x.moment

abbrev AreBy : List ℕ → List ℕ → List Packed → Type 0
AreBy img to xs = AllByRecursion (λ (x : Packed). IsPackedSetBy img to x.name x.reading x.moment) xs

shows_each : (img to : List ℕ) (xs : List Packed) → AreBy img to xs → AllPaired (Shows format_limits to) (map name_of xs) (map new_of xs)
shows_each img to [] h = tt
shows_each img to (x ∷ xs) h = (moment_shows to x.name x.moment (h.0).represents, shows_each img to xs h.1)

copies_each : (img to : List ℕ) (xs : List Packed) → AreBy img to xs → AllPaired (IsCopyOf img to) (map old_of xs) (map new_of xs)
copies_each img to [] h = tt
copies_each img to (x ∷ xs) h = (record { dataset = (h.0).dataset; chunks = (h.0).chunks }, copies_each img to xs h.1)

values_each : (img to : List ℕ) (xs : List Packed) → AreBy img to xs → AllByRecursion (ReadsAlike img to) (map name_of xs)
values_each img to [] h = tt
values_each img to (x ∷ xs) h = ((h.0).values, values_each img to xs h.1)

super_of_first : (img to : List ℕ) (xs : List Packed) → 1 ≤ length xs → AreBy img to xs → super_at (range to 0 48) ≡ Ok (packed_super (length to))
super_of_first img to [] some h = absurd (omega (arith, some))
super_of_first img to (x ∷ xs) some h =
    let ok : Super → Result Super SuperError = λ s. Ok s in
    (super_parts (length to) (range to 0 48) x.moment.super (h.0).represents.super).read ∙ ap ok (h.0).super

-- as many as are wanted
wanted_count : (names : List (List ℕ)) (rs : List Reading) (ws : List Wanted) → AllWanted names rs ws → length ws ≡ length names
wanted_count [] [] ws w = ap length w
wanted_count [] (r ∷ rs) ws w = absurd w
wanted_count (n ∷ ns) [] ws w = absurd w
wanted_count (n ∷ ns) (r ∷ rs) [] w = absurd w
wanted_count (n ∷ ns) (r ∷ rs) (v ∷ ws) w = omega (arith, wanted_count ns rs ws w.1)

pub packed_shows : (img : List ℕ) (names : List (List ℕ)) (rs : List Reading) (ws : List Wanted) (limit : ℕ) (p : PackingView) (to : List ℕ) → AllWanted names rs ws → IsPlanned ws limit p → IsPackedBy img names rs p to
    → ShowsCopies img names rs p.ranges to
packed_shows img names rs ws limit p to wanted planned packed =
    let xs : List Packed = packed.sets in
    let sets : length planned.sets ≡ length ws = sym (length-map planned.sets (λ (x : PlannedSet). x.source)) ∙ ap length planned.are in
    let all : length xs ≡ length names = sym (length-map xs name_of) ∙ ap length packed.named in
    let counted : 1 ≤ length xs = omega (arith, planned.packed.some, length-map planned.sets (λ (x : PlannedSet). x.set), sets, wanted_count names rs ws wanted, all) in
    record {
      new = map new_of xs;
      shows = subst (λ (ns : List (List ℕ)). AllPaired (Shows format_limits to) ns (map new_of xs)) packed.named (shows_each img to xs packed.each);
      copies = subst (λ (l : List Reading). AllPaired (IsCopyOf img to) l (map new_of xs)) packed.shown (copies_each img to xs packed.each);
      values = subst (λ (ns : List (List ℕ)). AllByRecursion (ReadsAlike img to) ns) packed.named (values_each img to xs packed.each);
      super = super_of_first img to xs counted packed.each;
      summary = packed.summary;
      valid = packed.valid;
      whole = packed.whole;
      tiled = packed.tiled;
    }

-- ---- The range that has no place

refused_past : (t : Space) (len : ℕ) (full : Full) → IsRefused t len full → EndsPast t.limit full
refused_past t len full r =
    let at : full.at ≡ t.end = ap (λ (f : Full). f.at) r.is in
    let size : full.size ≡ len = ap (λ (f : Full). f.size) r.is in
    record { limited = ap (λ (f : Full). f.limit) r.is; past = omega (arith, at, size, r.no_room) }

-- steps that leave the limit
chain_limit : (R : Space → Move → Space → Type 0) → ((s : Space) (m : Move) (t : Space) → R s m t → t.limit ≡ s.limit) → (s : Space) (ms : List Move) (t : Space) → Chain R s ms t → t.limit ≡ s.limit
chain_limit R one s [] t h = ap (λ (x : Space). x.limit) h
chain_limit R one s (m ∷ ms) t h = chain_limit R one h.0 ms t h.2 ∙ one s m h.0 h.1

placed_limit : (b : Bool) (old len : ℕ) (s t : Space) (new : ℕ) → Placed b old len s t new → t.limit ≡ s.limit
placed_limit true old len s t new h = ap (λ (x : Space). x.limit) h.1
placed_limit false old len s t new h = h.takes.limit

node_limit : (s : Space) (m : Move) (t : Space) → IsNodeMove s m t → t.limit ≡ s.limit
node_limit s m t h = h.step.takes.limit

block_past : (o : Option BlockView) (place : ℕ) (t : Space) (full : Full) → IsSomeAnd o (λ b. (stays b.in_place place ≡ false) × IsRefused t (length b.bytes) full) → EndsPast t.limit full
block_past None place t full h = absurd h
block_past (Some b) place t full h = refused_past t (length b.bytes) full h.1

past_at : (s t : Space) (full : Full) → t.limit ≡ s.limit → EndsPast t.limit full → EndsPast s.limit full
past_at s t full same x = record { limited = x.limited ∙ same; past = omega (arith, same, x.past) }

no_place_past : (v : IndexView) (s : Space) (full : Full) → HasNoPlace v s full → EndsPast s.limit full
no_place_past (an_array v) s full h =
    let out = h.refused.full in
    let same : out.t.limit ≡ s.limit = chain_limit (IsMove v.blocks v.places) (λ s m t x. placed_limit (stays m.in_place m.old) m.old m.len s t m.new x.step) s out.taken out.t out.moves in
    past_at s out.t full same (block_past _ _ out.t full out.refused)
no_place_past (a_tree p v) s full h = past_at s h.t full (chain_limit IsNodeMove node_limit s h.taken h.t h.moves) (refused_past h.t _ full h.refused)

pub out_past : (ws : List Wanted) (limit : ℕ) (full : Full) → IsOut ws limit full → EndsPast limit full
out_past ws limit full out = elim out.out.which [
  | inl chunk ↦ record { limited = ap (λ (f : Full). f.limit) chunk.is; past = chunk.out }
  | inr block ↦ no_place_past block.named (first_space _ limit) full block.refused
]
