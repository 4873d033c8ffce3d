-- Datasets of a packed file that are planned one after another.
use Rattle.std.proofs.Common.{◌≡◌, ℕ, zero, suc, ◌+◌, ◌*◌, ◌-◌, ◌<◌, ◌≤◌, ◌^◌, List, [], ◌∷◌, ◌++◌, length, length-append, refl, sym, ◌∙◌, ap, subst, arith, append-nil, append_assoc}
use Rattle.std.specs.Prelude.{drop, flat_map, map, slice_index_or}
use Rattle.std.specs.List.{All, AllByRecursion, sum_by}
use Rattle.std.proofs.lemmas.List.Sums.{sum_by-cons}
use Rattle.std.proofs.lemmas.List.{drop_all, drop_more, length-map, map-append}
use Rattle.std.proofs.lemmas.List.Elements.{All-append, All-cons, All-head, All-nil, All-tail}
use Rattle.h5w_model.specs.Numbers.{undefined}
use Rattle.h5w_model.specs.Findings.{chunk_bytes}
use Rattle.h5w_model.specs.Headers.{header_bytes, msgs_bytes}
use Rattle.h5w_model.specs.Images.{pieces}
use Rattle.h5w_model.specs.Superblock.{super_bytes}
use Rattle.h5w_model.specs.Tables.{format_limits, limit_of, needed}
use Rattle.h5w_model.specs.Tiles.{TileFields}
use Rattle.h5w_model.specs.declared.message.Msg.{Msg}
use Rattle.h5w_model.specs.declared.piece.Write.{Write}
use Rattle.h5w_space.specs.declared.Full.{Full}
use Rattle.h5w_chunks.specs.Grids.{IsGrid, dataset_of}
use Rattle.h5w_flush_laws.specs.Parts.{block_writes}
use Rattle.h5w_several_creation_laws.specs.Links.{AreLinks, link_message, link_messages, linking, linking_header_len, linking_len, names_in, names_len}
use Rattle.h5w_several_creation_laws.proofs.LinkLemmas.{messages_few, messages_long}
use Rattle.h5w_packing_laws.specs.Packing.{ArePacked, BehindsFrom, FrontsFrom, IsPackedSet, PackedSet, packed_super, set_links, set_names}
use Rattle.h5w_packing_laws.proofs.FileLemmas.{are_linkable, behind_rises, chunks_within, set_bytes}
use Rattle.h5w_packing_laws.proofs.RangeLemmas.{ranges_rise}
use Rattle.h5w_packing.specs.Jobs.{EndsLow, PackingView, all_jobs}
use Rattle.h5w_packing.specs.Plans.{IsOut, IsPlanned, IsPlannedSet, IsSetOut, PlannedSet, Wanted, chunks_end, copied_from, first_place, front_size, fronts_end, fronts_size, head_tiles, head_writes, header_write, planned_writes, set_chunks, set_front_tiles, set_tiles, sets_of, sources_of, wanted_names, wanted_of}
use Rattle.h5w_packing.specs.SoFar.{AreAll, AreMade, AreSources, HasMore, IsBegun, IsPlanOf, IsSource, behind_writes}
use Rattle.h5w_packing.specs.declared.gathering.Planning.{Planning}
use Rattle.h5w_packing.specs.declared.job.Copied.{Copied}
use Rattle.h5w_packing.specs.declared.source.Source.{Source}
use Rattle.h5w_packing.proofs.CellLemmas.{bytes_same}
use Rattle.h5w_packing.proofs.TableLemmas.{copied_low}

-- ---- Behind others

flat_more : {X Y : Type 0} (f : X → List Y) (xs : List X) (x : X) → flat_map f (xs ++ x ∷ []) ≡ flat_map f xs ++ f x
flat_more f [] x = append-nil (f x)
flat_more f (y ∷ xs) x = ap (λ (l : List _). f y ++ l) (flat_more f xs x) ∙ sym (append_assoc (f y) (flat_map f xs) (f x))

pub each_more : {X : Type 0} (P : X → Type 0) (xs : List X) (x : X) → AllByRecursion P xs → P x → AllByRecursion P (xs ++ x ∷ [])
each_more P [] x h p = (p, tt)
each_more P (y ∷ xs) x h p = (h.0, each_more P xs x h.1 p)

fronts_more : (at : ℕ) (xs : List PlannedSet) (x : PlannedSet) (end : ℕ) → FrontsFrom at (sets_of xs) end → x.set.place ≡ end → FrontsFrom at (sets_of (xs ++ x ∷ [])) x.set.top
fronts_more at [] x end h e = (e ∙ sym h, refl)
fronts_more at (y ∷ xs) x end h e = (h.0, fronts_more y.set.top xs x end h.1 e)

behinds_more : (at : ℕ) (xs : List PlannedSet) (x : PlannedSet) (end : ℕ) → BehindsFrom at (sets_of xs) end → x.set.first.end ≡ end → BehindsFrom at (sets_of (xs ++ x ∷ [])) x.set.last.end
behinds_more at [] x end h e = (e ∙ sym h, refl)
behinds_more at (y ∷ xs) x end h e = (h.0, behinds_more y.set.last.end xs x end h.1 e)

links_more : (xs : List PlannedSet) (x : PlannedSet) → link_messages (set_links (sets_of (xs ++ x ∷ []))) ≡ link_messages (set_links (sets_of xs)) ++ link_message (x.set.name, x.set.place) ∷ []
links_more [] x = refl
links_more (y ∷ xs) x = ap (λ (ms : List Msg). link_message (y.set.name, y.set.place) ∷ ms) (links_more xs x)

-- ---- The loop

pub made_begun : (ws : List Wanted) (limit : ℕ) (p : Planning) → IsBegun (first_place ws) (fronts_end ws) p → fronts_end ws ≤ limit → AreMade ws limit 0 p
made_begun ws limit p b low = record {
  sets = [];
  are = refl;
  each = tt;
  fronts_from = sym b.place_is;
  behinds_from = sym b.end;
  left = ap (λ n. n + fronts_size ws) b.place_is;
  behind = omega (arith, b.place_is);
  above = omega (arith, b.end);
  within = omega (arith, b.end, low);
  links = b.links;
  chunks = b.chunks;
  copies = b.copies;
  tops = b.tops;
  headers = b.headers;
  fronts = b.fronts;
  behinds = b.behinds;
}

module _ (ws : List Wanted) (limit k : ℕ) (s : Planning) (h : AreMade ws limit k s) (inside : k < length ws) (d : Wanted) where
  abbrev w : Wanted
  w = slice_index_or ws k d

  pub next_is : drop k ws ≡ w ∷ drop (k + 1) ws
  next_is = drop_more ws k d inside

  pub next_fits : s.place + (front_size w.dataset + fronts_size (drop (k + 1) ws)) ≡ fronts_end ws
  next_fits = ap (λ (l : List Wanted). s.place + fronts_size l) (sym next_is) ∙ h.left

  pub made_more : (t : Planning) → HasMore limit w s t → AreMade ws limit (k + 1) t
  made_more t m =
      let x : PlannedSet = m.set in
      let xs : List PlannedSet = h.sets in
      let f : PlannedSet → List Write = λ y. block_writes y.set.copies in
      let g : PlannedSet → List Write = λ y. y.set.tops in
      let rise = behind_rises x.set.first.end x.set.last.end (x.set ∷ []) (m.planned.packed, tt) (refl, refl) in
      record {
        sets = xs ++ x ∷ [];
        are =
            ap (λ (l : List Wanted). l ++ drop (k + 1) ws) (map-append (λ (y : PlannedSet). y.source) xs (x ∷ []) ∙ ap (λ (v : Wanted). sources_of xs ++ v ∷ []) m.source)
            ∙ append_assoc (sources_of xs) (w ∷ []) (drop (k + 1) ws)
            ∙ ap (λ (l : List Wanted). sources_of xs ++ l) (sym next_is)
            ∙ h.are;
        each = each_more (IsPlannedSet limit) xs x h.each m.planned;
        fronts_from = subst (λ n. FrontsFrom (first_place ws) (sets_of (xs ++ x ∷ [])) n) (sym m.next) (fronts_more (first_place ws) xs x s.place h.fronts_from m.place_is);
        behinds_from = subst (λ n. BehindsFrom (fronts_end ws) (sets_of (xs ++ x ∷ [])) n) (sym m.last) (behinds_more (fronts_end ws) xs x s.end h.behinds_from m.first);
        left = omega (arith, m.next, m.size, next_fits);
        behind = omega (arith, m.next, m.size, h.behind);
        above = omega (arith, m.last, m.first, rise, h.above);
        within = omega (arith, m.last, m.planned.within);
        links = m.links ∙ ap (λ (ms : List Msg). ms ++ link_message (x.set.name, x.set.place) ∷ []) h.links
            ∙ sym (ap (λ (ms : List Msg). linking [] ++ ms) (links_more xs x));
        chunks = m.chunks ∙ ap (λ (l : List Copied). l ++ set_chunks x) h.chunks ∙ sym (flat_more set_chunks xs x);
        copies = m.copies ∙ ap (λ (l : List Write). l ++ f x) h.copies ∙ sym (flat_more f xs x);
        tops = m.tops ∙ ap (λ (l : List Write). l ++ g x) h.tops ∙ sym (flat_more g xs x);
        headers = m.headers ∙ ap (λ (l : List Write). l ++ header_write x ∷ []) h.headers ∙ sym (map-append header_write xs (x ∷ []));
        fronts = m.fronts ∙ ap (λ (l : List TileFields). l ++ set_front_tiles x) h.fronts ∙ append_assoc (head_tiles (first_place ws - 48)) (flat_map set_front_tiles xs) (set_front_tiles x)
            ∙ ap (λ (l : List TileFields). head_tiles (first_place ws - 48) ++ l) (sym (flat_more set_front_tiles xs x));
        behinds = m.behinds ∙ ap (λ (l : List TileFields). l ++ set_tiles x) h.behinds ∙ sym (flat_more set_tiles xs x);
      }

  pub made_out : (full : Full) → IsSetOut w limit s.place s.end full → IsOut ws limit full
  made_out full out = record {
    before = h.sets;
    next = w;
    behind = drop (k + 1) ws;
    are = ap (λ (l : List Wanted). sources_of h.sets ++ l) (sym next_is) ∙ h.are;
    each = h.each;
    place = s.place;
    at = s.end;
    fronts = h.fronts_from;
    behinds = h.behinds_from;
    out = out;
  }

-- the last turn leaves all of them
pub made_all : (ws : List Wanted) (limit k : ℕ) (p : Planning) → AreMade ws limit k p → length ws ≤ k → AreAll ws limit p
made_all ws limit k p h past =
    let same : drop k ws ≡ drop (length ws) ws = drop_all k ws past ∙ sym (drop_all (length ws) ws (omega arith)) in
    record {
      sets = h.sets;
      are = ap (λ (l : List Wanted). sources_of h.sets ++ l) (sym same) ∙ h.are;
      each = h.each;
      fronts_from = h.fronts_from;
      behinds_from = h.behinds_from;
      left = ap (λ (l : List Wanted). p.place + fronts_size l) (sym same) ∙ h.left;
      behind = h.behind;
      above = h.above;
      within = h.within;
      links = h.links;
      chunks = h.chunks;
      copies = h.copies;
      tops = h.tops;
      headers = h.headers;
      fronts = h.fronts;
      behinds = h.behinds;
    }

-- ---- All of them

pub each_packed : (limit : ℕ) (xs : List PlannedSet) → AllByRecursion (IsPlannedSet limit) xs → AllByRecursion IsPackedSet (sets_of xs)
each_packed limit [] h = tt
each_packed limit (x ∷ xs) h = ((h.0).packed, each_packed limit xs h.1)

pub names_are : (limit : ℕ) (xs : List PlannedSet) → AllByRecursion (IsPlannedSet limit) xs → set_names (sets_of xs) ≡ wanted_names (sources_of xs)
names_are limit [] h = refl
names_are limit (x ∷ xs) h = λ i. (h.0).named i ∷ names_are limit xs h.1 i

named_short : (limit : ℕ) (xs : List PlannedSet) → AllByRecursion (IsPlannedSet limit) xs → AllByRecursion (λ (n : List ℕ). length n ≤ 255) (wanted_names (sources_of xs)) → AllByRecursion (λ (x : PackedSet). length x.name ≤ 255) (sets_of xs)
named_short limit [] h short = tt
named_short limit (x ∷ xs) h short = (omega (arith, ap length (h.0).named, short.0), named_short limit xs h.1 short.1)

-- its chunks end before its other blocks
pub set_end : (limit : ℕ) (x : PlannedSet) → IsPlannedSet limit x → chunks_end (chunk_bytes x.source.dataset) x.set.first.end x.source.table ≤ x.set.last.end
set_end limit x h = omega (arith, h.placed, chunks_within x.set h.packed)

pub some_bytes : (limit : ℕ) (x : PlannedSet) → IsPlannedSet limit x → 0 < chunk_bytes x.source.dataset
some_bytes limit x h = subst (λ n. 0 < n) (bytes_same x.source.dataset x.set.dataset h.same) (set_bytes x.set h.packed)

chunks_low : (limit : ℕ) (x : PlannedSet) → limit ≤ 2 ^ 40 → IsPlannedSet limit x → All EndsLow (set_chunks x)
chunks_low limit x high h = copied_low (chunk_bytes x.source.dataset) x.set.first.end x.source.table (some_bytes limit x h) (omega (arith, set_end limit x h, h.within, high))

pub all_low : (limit : ℕ) (xs : List PlannedSet) → limit ≤ 2 ^ 40 → AllByRecursion (IsPlannedSet limit) xs → All EndsLow (flat_map set_chunks xs)
all_low limit [] high h = All-nil EndsLow
all_low limit (x ∷ xs) high h = All-append EndsLow (set_chunks x) (flat_map set_chunks xs) (chunks_low limit x high h.0) (all_low limit xs high h.1)

-- ---- The plan

module _ (ws : List Wanted) (limit : ℕ) (p : Planning) (h : AreAll ws limit p) where
  abbrev sets : List PlannedSet
  sets = h.sets

  sources_are : sources_of sets ≡ ws
  sources_are = sym (append-nil (sources_of sets)) ∙ ap (λ (l : List Wanted). sources_of sets ++ l) (sym (drop_all (length ws) ws (omega arith))) ∙ h.are

  pub all_chunks_low : limit ≤ 2 ^ 40 → All EndsLow p.chunks.items
  all_chunks_low high = subst (λ (cs : List Copied). All EndsLow cs) (sym h.chunks) (all_low limit sets high h.each)

  module _ (some : 1 ≤ length ws) (few : length ws ≤ 8) (named : AllByRecursion (λ (n : List ℕ). length n ≤ 255) (wanted_names ws)) where
    count : length (sets_of sets) ≡ length ws
    count = length-map sets (λ (x : PlannedSet). x.set) ∙ sym (length-map sets (λ (x : PlannedSet). x.source)) ∙ ap length sources_are

    short : AllByRecursion (λ (x : PackedSet). length x.name ≤ 255) (sets_of sets)
    short = named_short limit sets h.each (subst (λ (l : List Wanted). AllByRecursion (λ (n : List ℕ). length n ≤ 255) (wanted_names l)) (sym sources_are) named)

    names : set_names (sets_of sets) ≡ wanted_names ws
    names = names_are limit sets h.each ∙ ap wanted_names sources_are

    done : fronts_end ws ≡ p.place
    done = sym (ap (λ (l : List Wanted). p.place + fronts_size l) (sym (drop_all (length ws) ws (omega arith))) ∙ h.left) ∙ omega arith

    pub links_short : length (msgs_bytes p.links) ≤ 2188
    links_short =
        let links : List (List ℕ × ℕ) = set_links (sets_of sets) in
        let few_links : AreLinks links = are_linkable (sets_of sets) (each_packed limit sets h.each) (omega (arith, count, few)) short in
        omega (arith, ap (λ (ms : List Msg). length (msgs_bytes ms)) h.links, messages_long links, messages_few links few_links)

    abbrev super : Write
    super = record { at = 0; piece = super_bytes (packed_super p.end) }

    pub plan_of : (q : PackingView) → limit ≤ 2 ^ 40 → IsPlanOf p q → IsPlanned ws limit q
    plan_of q high is = record {
      sets = sets;
      are = sources_are;
      each = h.each;
      end = p.end;
      packed = record {
        some = omega (arith, count, some);
        few = omega (arith, count, few);
        named = short;
        fronts = subst (λ (ns : List (List ℕ)). FrontsFrom (48 + linking_header_len ns) (sets_of sets) (fronts_end ws)) (sym names) (subst (λ n. FrontsFrom (first_place ws) (sets_of sets) n) (sym done) h.fronts_from);
        behinds = h.behinds_from;
      };
      jobs =
          is.left
          ∙ (λ i. all_jobs (h.chunks i) (h.copies i ++ (h.tops i ++ ((h.headers i ++ pieces 48 (header_bytes (h.links i))) ++ super ∷ []))))
          ∙ ap (λ (l : List Write). all_jobs (flat_map set_chunks sets) (flat_map (λ (x : PlannedSet). block_writes x.set.copies) sets ++ (flat_map (λ (x : PlannedSet). x.set.tops) sets ++ l)))
          (append_assoc (map header_write sets) (pieces 48 (header_bytes (linking (set_links (sets_of sets))))) (super ∷ []));
      ranges =
          is.ranges ∙ (λ i. h.fronts i ++ h.behinds i)
          ∙ append_assoc (head_tiles (first_place ws - 48)) (flat_map set_front_tiles sets) (flat_map set_tiles sets)
          ∙ ap (λ n. head_tiles n ++ (flat_map set_front_tiles sets ++ flat_map set_tiles sets)) (let e : first_place ws - 48 ≡ linking_header_len (wanted_names ws) = omega arith in e);
      ends = is.end;
      within = h.within;
      small = high;
    }

-- ---- By what the code has

pub names_short : (ss : List Source) → All IsSource ss → AllByRecursion (λ (n : List ℕ). length n ≤ 255) (wanted_names (map wanted_of ss))
names_short [] h = tt
names_short (s ∷ ss) h = ((All-head IsSource s ss h).named, names_short ss (All-tail IsSource s ss h))

-- ---- What is wanted, one after another

pub item_is : (ss : List Source) (k : ℕ) (d : Source) → slice_index_or (map wanted_of ss) k (wanted_of d) ≡ wanted_of (slice_index_or ss k d)
item_is [] k d = refl
item_is (s ∷ ss) zero d = refl
item_is (s ∷ ss) (suc k) d = item_is ss k d

pub links_sum : (ss : List Source) → sum_by (λ (s : Source). 15 + length s.name) ss ≡ names_len (wanted_names (map wanted_of ss))
links_sum [] = refl
links_sum (s ∷ ss) = let later = links_sum ss in omega (arith, sum_by-cons (λ (x : Source). 15 + length x.name) s ss, later)

pub links_low : (ss : List Source) → All IsSource ss → sum_by (λ (s : Source). 15 + length s.name) ss ≤ 270 * length ss
links_low [] h = omega arith
links_low (s ∷ ss) h =
    let later = links_low ss (All-tail IsSource s ss h) in
    let one = (All-head IsSource s ss h).named in
    omega (arith, sum_by-cons (λ (x : Source). 15 + length x.name) s ss, later, one)

-- the next one among those of the code
pub next_item : (ss : List Source) (k : ℕ) (s : Source) → s ≡ slice_index_or ss k s → slice_index_or (map wanted_of ss) k (wanted_of s) ≡ wanted_of s
next_item ss k s is = item_is ss k s ∙ ap wanted_of (sym is)

pub count_of : (ss : List Source) → length (map wanted_of ss) ≡ length ss
count_of ss = length-map ss wanted_of

pub size_step : (ss : List Source) (k : ℕ) (s : Source) (len n all : ℕ) → k < length ss → s ≡ slice_index_or ss k s → n ≡ front_size (dataset_of s.grid) → len + fronts_size (drop k (map wanted_of ss)) ≡ all
    → len + n + fronts_size (drop (k + 1) (map wanted_of ss)) ≡ all
size_step ss k s len n all inside is size h =
    let ws : List Wanted = map wanted_of ss in
    let next : drop k ws ≡ wanted_of s ∷ drop (k + 1) ws = drop_more ws k (wanted_of s) (omega (arith, inside, count_of ss)) ∙ ap (λ (w : Wanted). w ∷ drop (k + 1) ws) (next_item ss k s is) in
    let sizes : fronts_size (drop k ws) ≡ front_size (dataset_of s.grid) + fronts_size (drop (k + 1) ws) = ap fronts_size next in
    omega (arith, h, sizes, size)
