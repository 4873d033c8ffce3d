-- Several datasets of one file: the check for their names, and what each has.
use Rattle.std.proofs.Common.{◌≡◌, ℕ, ◌-◌, ◌≤◌, false, not, cond, List, [], ◌∷◌, ◌++◌, length, Option, Some, None, Result, Ok, Err, refl, sym, ◌∙◌, ap, subst, inl, arith}
use Rattle.std.specs.Prelude.{map, flat_map, sum_by, count_by}
use Rattle.std.specs.List.{AllByRecursion}
use Rattle.std.proofs.lemmas.List.{append-nil}
use Rattle.h5w_model.specs.Numbers.{range}
use Rattle.h5w_model.specs.Programs.{ret, eval, and_then}
use Rattle.h5w_model.specs.Datasets.{FoundMessage, HeaderFields, Described, root_header, linked, refused_as}
use Rattle.h5w_model.specs.Tables.{Limits, format_limits, each_of}
use Rattle.h5w_model.specs.Findings.{Finding, found, bad_root, Used, Summary, AllSummary, Part, Valid, AllValid, check_all, checked_super, checked_dataset, checked_names, checked_part, checked_links, header_ranges, index_visit, by_place, overlap_of, all_summary, all_verdict, ranges_of_all}
use Rattle.h5w_model.specs.Relations.{AllPaired, IsPart, AllDiffer, HasAll}
use Rattle.h5w_model.specs.declared.root.Super.{Super}
use Rattle.h5w_model.specs.declared.refusal.ReadError.{ReadError}
use Rattle.h5w_laws.specs.Ranges.{EndsBy, AllApart}
use Rattle.h5w_laws.specs.Several.{alone, OneVerdictOfAll, FindsAll, IsShare, EachValid, AllRanges}
use Rattle.h5w_laws.proofs.ResultLemmas.{then_ok, then_from, refused_ok, and_then_ok, and_then_from}
use Rattle.h5w_laws.proofs.AnswerLemmas.{one_of, same_ok, same_err}
use Rattle.h5w_laws.proofs.ApartLemmas.{all_joined, all_as, apart_all, length_all}
use Rattle.h5w_laws.proofs.EndLemmas.{AllEnd, header_ends, index_end}
use Rattle.h5w_laws.proofs.RangeLemmas.{root_first, first_used, dataset_ranges, super_ends, super_within}
use Rattle.h5w_laws.proofs.FitLemmas.{free_fit, fit_free, AreSomeOf, fit_some, sum_some, some_behind, some_front, some_joined}
use Rattle.h5w_laws.proofs.LinkLemmas.{IsLinked, links_found, links_from, of_names, links_step, root_step, names_step, eval_names, of_all, parts_step, all_step}
use Rattle.h5w_laws.proofs.OneNameLemmas.{one_name, of_summary, same_summary}

-- ---- Superblock, root header and links

same_names : (t v : List ℕ × List Used) → of_names t ≡ of_names v → t ≡ v
same_names t v h = cc

-- what the check found of the root header and its links
record NamesFound (img : List ℕ) (names : List (List ℕ)) (s : Super) (t : List ℕ × List Used) : Type 0 where
  root : HeaderFields
  read : eval img (root_header (s.root)) ≡ Ok root
  within : header_ranges s.end root.ranges ≡ Ok t.1
  links : checked_links s.root [] names root.messages ≡ Ok t.0

names_found : (img : List ℕ) (names : List (List ℕ)) (s : Super) (t : List ℕ × List Used) → eval img (checked_names names s) ≡ Ok t → NamesFound img names s t
names_found img names s t h =
    let r : Result HeaderFields ReadError = eval img (root_header s.root) in
    let header = then_ok (refused_as (λ e. found bad_root s.root) r) (root_step names s) t (sym (eval_names img names s) ∙ h) in
    let ranges = then_ok (header_ranges s.end header.0.ranges) (links_step names s header.0) t header.2 in
    let links = then_ok (checked_links s.root [] names header.0.messages) (λ places. of_names (places, ranges.0)) t ranges.2 in
    let all : NamesFound img names s (links.0, ranges.0) = record {
      root = header.0;
      read = refused_ok (λ e. found bad_root s.root) r header.0 header.1;
      within = ranges.1;
      links = links.1;
    } in
    subst (NamesFound img names s) (same_names (links.0, ranges.0) t links.2) all

names_from : (img : List ℕ) (names : List (List ℕ)) (s : Super) (t : List ℕ × List Used) → NamesFound img names s t → eval img (checked_names names s) ≡ Ok t
names_from img names s t n =
    let h : HeaderFields = n.root in
    eval_names img names s
    ∙ ap (names_step names s) n.read
    ∙ then_from (header_ranges s.end h.ranges) (links_step names s h) t.1 t n.within
    (then_from (checked_links s.root [] names h.messages) (λ places. of_names (places, t.1)) t.0 t n.links refl)

-- ---- One dataset after another

abbrev IsVisited : Limits → List ℕ → Super → ℕ → Part → Type 0
IsVisited limits img s place p = eval img (checked_part limits s place) ≡ Ok p

abbrev of_parts : List Part → Result (List Part) Finding
of_parts ps = Ok ps

same_parts : (ps qs : List Part) → of_parts ps ≡ of_parts qs → ps ≡ qs
same_parts ps qs h = cc

abbrev of_part : Part → Result Part Finding
of_part p = Ok p

same_part : (p q : Part) → of_part p ≡ of_part q → p ≡ q
same_part p q h = cc

parts_found : (limits : Limits) (img : List ℕ) (s : Super) (places : List ℕ) (ps : List Part) → eval img (each_of (checked_part limits s) places) ≡ Ok ps → AllPaired (IsVisited limits img s) places ps
parts_found limits img s [] ps h = subst (AllPaired (IsVisited limits img s) []) (same_parts [] ps h) tt
parts_found limits img s (a ∷ places) ps h =
    let one = and_then_ok img (checked_part limits s a) (λ p. and_then (each_of (checked_part limits s) places) (λ rest. ret (of_parts (p ∷ rest)))) ps h in
    let more = and_then_ok img (each_of (checked_part limits s) places) (λ rest. ret (of_parts (one.0 ∷ rest))) ps one.2 in
    subst (AllPaired (IsVisited limits img s) (a ∷ places)) (same_parts (one.0 ∷ more.0) ps more.2) (one.1, parts_found limits img s places more.0 more.1)

parts_from : (limits : Limits) (img : List ℕ) (s : Super) (places : List ℕ) (ps : List Part) → AllPaired (IsVisited limits img s) places ps → eval img (each_of (checked_part limits s) places) ≡ Ok ps
parts_from limits img s [] [] h = refl
parts_from limits img s [] (p ∷ ps) h = absurd h
parts_from limits img s (a ∷ places) [] h = absurd h
parts_from limits img s (a ∷ places) (p ∷ ps) h =
    and_then_from img (checked_part limits s a) (λ q. and_then (each_of (checked_part limits s) places) (λ rest. ret (of_parts (q ∷ rest)))) p (p ∷ ps) h.0
    (and_then_from img (each_of (checked_part limits s) places) (λ rest. ret (of_parts (p ∷ rest))) ps (p ∷ ps) (parts_from limits img s places ps h.1) refl)

-- what a dataset has: its header, and its index
record PartFound (limits : Limits) (img : List ℕ) (s : Super) (place : ℕ) (p : Part) : Type 0 where
  header : Described × List Used
  index : List Used
  checked : eval img (checked_dataset limits s place) ≡ Ok header
  visited : eval img (index_visit s.end header.0) ≡ Ok index
  is : p ≡ record { place = place; dataset = header.0; ranges = header.1 ++ index }

part_found : (limits : Limits) (img : List ℕ) (s : Super) (place : ℕ) (p : Part) → IsVisited limits img s place p → PartFound limits img s place p
part_found limits img s place p h =
    let part : Described × List Used → List Used → Part = λ d us. record { place = place; dataset = d.0; ranges = d.1 ++ us } in
    let one = and_then_ok img (checked_dataset limits s place) (λ d. and_then (index_visit s.end d.0) (λ us. ret (of_part (part d us)))) p h in
    let more = and_then_ok img (index_visit s.end one.0.0) (λ us. ret (of_part (part one.0 us))) p one.2 in
    record { header = one.0; index = more.0; checked = one.1; visited = more.1; is = sym (same_part (part one.0 more.0) p more.2) }

part_place : (limits : Limits) (img : List ℕ) (s : Super) (place : ℕ) (p : Part) → IsVisited limits img s place p → p.place ≡ place
part_place limits img s place p h = let f = part_found limits img s place p h in let is = f.is in ap (λ (q : Part). q.place) is

-- names, their places, and the datasets there
record PartsAre (limits : Limits) (img : List ℕ) (s : Super) (ms : List FoundMessage) (names : List (List ℕ)) (places : List ℕ) (ps : List Part) : Type 0 where
  are : AllPaired (IsPart limits img s ms) names ps
  there : map (λ (p : Part). p.place) ps ≡ places

parts_are : (limits : Limits) (img : List ℕ) (s : Super) (ms : List FoundMessage) (names : List (List ℕ)) (places : List ℕ) (ps : List Part)
    → AllPaired (IsLinked ms) names places → AllPaired (IsVisited limits img s) places ps → PartsAre limits img s ms names places ps
parts_are limits img s ms [] [] [] h g = record { are = tt; there = refl }
parts_are limits img s ms [] [] (p ∷ ps) h g = absurd g
parts_are limits img s ms [] (a ∷ places) ps h g = absurd h
parts_are limits img s ms (n ∷ names) [] ps h g = absurd h
parts_are limits img s ms (n ∷ names) (a ∷ places) [] h g = absurd g
parts_are limits img s ms (n ∷ names) (a ∷ places) (p ∷ ps) h g =
    let same : p.place ≡ a = part_place limits img s a p g.0 in
    let link : linked n ms ≡ Ok p.place = h.0 ∙ ap (λ (x : ℕ). let r : Result ℕ ReadError = Ok x in r) (sym same) in
    let visited : eval img (checked_part limits s p.place) ≡ Ok p = subst (λ (x : ℕ). eval img (checked_part limits s x) ≡ of_part p) (sym same) g.0 in
    let rest = parts_are limits img s ms names places ps h.1 g.1 in
    let own : IsPart limits img s ms n p = record { link = link; visited = visited } in
    record {
      are = (own, rest.are);
      there = ap (λ (x : ℕ). x ∷ map (λ (q : Part). q.place) ps) same ∙ ap (λ (xs : List ℕ). a ∷ xs) rest.there;
    }

parts_linked : (limits : Limits) (img : List ℕ) (s : Super) (ms : List FoundMessage) (names : List (List ℕ)) (ps : List Part)
    → AllPaired (IsPart limits img s ms) names ps → AllPaired (IsLinked ms) names (map (λ (p : Part). p.place) ps) × AllPaired (IsVisited limits img s) (map (λ (p : Part). p.place) ps) ps
parts_linked limits img s ms [] [] h = (tt, tt)
parts_linked limits img s ms [] (p ∷ ps) h = absurd h
parts_linked limits img s ms (n ∷ names) [] h = absurd h
parts_linked limits img s ms (n ∷ names) (p ∷ ps) h =
    let own : IsPart limits img s ms n p = h.0 in
    let rest = parts_linked limits img s ms names ps h.1 in
    ((own.link, rest.0), (own.visited, rest.1))

-- ---- The check

verdict_found : (s : Super) (ps : List Part) (us : List Used) (t : AllSummary) → all_verdict s ps us ≡ Ok t → (overlap_of (by_place us) ≡ None) × (t ≡ all_summary s ps us)
verdict_found s ps us t h = go (overlap_of (by_place us)) refl h
  where
    go : (o : Option Finding) → overlap_of (by_place us) ≡ o → elim o as (λ _. Result AllSummary Finding) [ None ↦ Ok (all_summary s ps us) | Some f ↦ Err f ] ≡ of_summary t
        → (overlap_of (by_place us) ≡ None) × (t ≡ all_summary s ps us)
    go None e g = (e, sym (same_summary (all_summary s ps us) t g))
    go (Some f) e g = absurd cc

verdict_from : (s : Super) (ps : List Part) (us : List Used) → overlap_of (by_place us) ≡ None → all_verdict s ps us ≡ of_summary (all_summary s ps us)
verdict_from s ps us h = ap (λ (o : Option Finding). elim o as (λ _. Result AllSummary Finding) [ None ↦ Ok (all_summary s ps us) | Some f ↦ Err f ]) h

all_found : (limits : Limits) (img : List ℕ) (names : List (List ℕ)) (t : AllSummary) → eval img (check_all limits names (length img)) ≡ Ok t → HasAll limits img names t
all_found limits img names t h =
    let super = and_then_ok img (ret (checked_super (length img) (range img 0 48))) (all_step limits names) t h in
    let s : Super = super.0 in
    let root = and_then_ok img (checked_names names s) (parts_step limits s) t super.2 in
    let parts = and_then_ok img (each_of (checked_part limits s) root.0.0) (λ ps. ret (of_all s root.0.1 ps)) t root.2 in
    let told = verdict_found s parts.0 (ranges_of_all root.0.1 parts.0) t parts.2 in
    let n = names_found img names s root.0 root.1 in
    let header : HeaderFields = n.root in
    let links = links_found s.root header.messages [] names root.0.0 n.links in
    let both = parts_are limits img s header.messages names root.0.0 parts.0 links.are (parts_found limits img s root.0.0 parts.0 parts.1) in
    record {
      superblock = s;
      found = super.1;
      root = header;
      read = n.read;
      root_ranges = root.0.1;
      within = n.within;
      parts = parts.0;
      linked_to = both.are;
      differ = subst AllDiffer (sym both.there) links.differ;
      fit = free_fit (ranges_of_all root.0.1 parts.0) told.0;
      has = told.1;
    }

all_new : (places : List ℕ) → AllByRecursion (λ (b : ℕ). false ≡ false) places
all_new [] = tt
all_new (a ∷ rest) = (refl, all_new rest)

all_from : (limits : Limits) (img : List ℕ) (names : List (List ℕ)) (t : AllSummary) → HasAll limits img names t → eval img (check_all limits names (length img)) ≡ Ok t
all_from limits img names t h =
    let s : Super = h.superblock in
    let header : HeaderFields = h.root in
    let ps : List Part = h.parts in
    let us : List Used = h.root_ranges in
    let places : List ℕ = map (λ (p : Part). p.place) ps in
    let both = parts_linked limits img s header.messages names ps h.linked_to in
    let links = links_from s.root header.messages [] names places (record { are = both.0; differ = h.differ; anew = all_new places }) in
    let free = fit_free (ranges_of_all us ps) h.fit in
    and_then_from img (ret (checked_super (length img) (range img 0 48))) (all_step limits names) s t h.found
    (and_then_from img (checked_names names s) (parts_step limits s) (places, us) t
    (names_from img names s (places, us) (record { root = header; read = h.read; within = h.within; links = links }))
    (and_then_from img (each_of (checked_part limits s) places) (λ ps. ret (of_all s us ps)) ps t (parts_from limits img s places ps both.1)
    (verdict_from s ps (ranges_of_all us ps) free ∙ ap of_summary (sym h.has))))

pub one_verdict_of_all : OneVerdictOfAll
one_verdict_of_all = record {
  one = λ img names. one_of (eval img (check_all format_limits names (length img)));
  summary = λ img names. same_ok (eval img (check_all format_limits names (length img)));
  finding = λ img names. same_err (eval img (check_all format_limits names (length img)));
}

pub finds_all : FindsAll
finds_all limits img names t = (all_found limits img names t, all_from limits img names t)

-- ---- Each dataset

abbrev pub flat_ranges : List Part → List Used
flat_ranges ps = flat_map (λ (p : Part). p.ranges) ps

-- each one's ranges are some of all
each_some : (ps : List Part) → AllByRecursion (λ (p : Part). AreSomeOf p.ranges (flat_ranges ps)) ps
each_some [] = tt
each_some (p ∷ ps) = (
  some_front p.ranges (flat_ranges ps),
  all_as (λ (q : Part). AreSomeOf q.ranges (flat_ranges ps)) (λ (q : Part). AreSomeOf q.ranges (flat_ranges (p ∷ ps))) ps (λ q some. some_behind p.ranges q.ranges (flat_ranges ps) some) (each_some ps),
)

-- the ranges of a file with one of the datasets
abbrev with_one : List Used → Part → List Used
with_one root p = ranges_of_all root (p ∷ [])

some_with : (root : List Used) (p : Part) (ps : List Part) → AreSomeOf p.ranges (flat_ranges ps) → AreSomeOf (with_one root p) (ranges_of_all root ps)
some_with root p ps some =
    inl (refl, some_joined root (p.ranges ++ []) (flat_ranges ps) (subst (λ (us : List Used). AreSomeOf us (flat_ranges ps)) (sym (append-nil p.ranges)) some))

abbrev first_row : AllSummary → ℕ
first_row t = elim t.rows as (λ _. ℕ) [ [] ↦ 0 | n ∷ ns ↦ n ]

-- what one name is said to have
abbrev IsShared : List ℕ → AllSummary → List ℕ → ℕ → Type 0
IsShared img t name rows = (s : Summary) × Valid img name s × IsShare t rows s

one_valid : (img : List ℕ) (names : List (List ℕ)) (t : AllSummary) (h : HasAll format_limits img names t) (name : List ℕ) (p : Part)
    → IsPart format_limits img h.superblock h.root.messages name p → AreSomeOf p.ranges (flat_ranges h.parts) → IsShared img t name p.dataset.shape.rows
one_valid img names t h name p is some =
    let s : Super = h.superblock in
    let us : List Used = h.root_ranges in
    let own : List Used = with_one us p in
    let all : List Used = ranges_of_all us h.parts in
    let part : AreSomeOf own all = some_with us p h.parts some in
    let told : AllSummary = all_summary s (p ∷ []) own in
    let valid : AllValid img (name ∷ []) told = all_from format_limits img (name ∷ []) told (record {
      superblock = s;
      found = h.found;
      root = h.root;
      read = h.read;
      root_ranges = us;
      within = h.within;
      parts = p ∷ [];
      linked_to = (is, tt);
      differ = (tt, tt);
      fit = fit_some own all part h.fit;
      has = refl;
    }) in
    let back = one_name.back img name told valid in
    let v : Summary = back.0 in
    let same : told ≡ alone v = back.2 in
    let whole : t ≡ all_summary s h.parts all = h.has in
    let v_end : s.end ≡ v.end = ap (λ (x : AllSummary). x.end) same in
    let t_end : t.end ≡ s.end = ap (λ (x : AllSummary). x.end) whole in
    let v_lost : s.end - sum_by (λ (u : Used). u.len) own ≡ v.lost = ap (λ (x : AllSummary). x.lost) same in
    let t_lost : t.lost ≡ s.end - sum_by (λ (u : Used). u.len) all = ap (λ (x : AllSummary). x.lost) whole in
    let v_chunks : count_by (λ (u : Used). u.chunk) own ≡ v.chunks = ap (λ (x : AllSummary). x.chunks) same in
    let t_chunks : t.chunks ≡ count_by (λ (u : Used). u.chunk) all = ap (λ (x : AllSummary). x.chunks) whole in
    let v_blocks : count_by (λ (u : Used). not u.chunk) own ≡ v.blocks = ap (λ (x : AllSummary). x.blocks) same in
    let t_blocks : t.blocks ≡ count_by (λ (u : Used). not u.chunk) all = ap (λ (x : AllSummary). x.blocks) whole in
    let fewer : sum_by (λ (u : Used). u.len) own ≤ sum_by (λ (u : Used). u.len) all = sum_some (λ (u : Used). u.len) own all part in
    let chunks : count_by (λ (u : Used). u.chunk) own ≤ count_by (λ (u : Used). u.chunk) all = sum_some (λ (u : Used). cond u.chunk 1 0) own all part in
    let blocks : count_by (λ (u : Used). not u.chunk) own ≤ count_by (λ (u : Used). not u.chunk) all = sum_some (λ (u : Used). cond (not u.chunk) 1 0) own all part in (
      v,
      back.1,
      record {
        own = sym (ap first_row same);
        end = sym v_end ∙ sym t_end;
        chunks = omega (arith, v_chunks, t_chunks, chunks);
        blocks = omega (arith, v_blocks, t_blocks, blocks);
        lost = omega (arith, v_lost, t_lost, fewer);
      },
    )

each_of_parts : (limits : Limits) (img : List ℕ) (s : Super) (ms : List FoundMessage) (P : List ℕ → ℕ → Type 0) (all : List Used) (names : List (List ℕ)) (ps : List Part)
    → ((name : List ℕ) (p : Part) → IsPart limits img s ms name p → AreSomeOf p.ranges all → P name p.dataset.shape.rows)
    → AllPaired (IsPart limits img s ms) names ps → AllByRecursion (λ (p : Part). AreSomeOf p.ranges all) ps → AllPaired P names (map (λ (p : Part). p.dataset.shape.rows) ps)
each_of_parts limits img s ms P all [] [] f h some = tt
each_of_parts limits img s ms P all [] (p ∷ ps) f h some = absurd h
each_of_parts limits img s ms P all (n ∷ names) [] f h some = absurd h
each_of_parts limits img s ms P all (n ∷ names) (p ∷ ps) f h some = (f n p h.0 some.0, each_of_parts limits img s ms P all names ps f h.1 some.1)

pub each_valid : EachValid
each_valid img names t valid =
    let h : HasAll format_limits img names t = all_found format_limits img names t valid in
    let header : HeaderFields = h.root in
    let rows : t.rows ≡ map (λ (p : Part). p.dataset.shape.rows) h.parts = ap (λ (x : AllSummary). x.rows) h.has in
    subst (AllPaired (IsShared img t) names) (sym rows)
    (each_of_parts format_limits img h.superblock header.messages (IsShared img t) (flat_ranges h.parts) names h.parts (one_valid img names t h) h.linked_to (each_some h.parts))

-- ---- The ranges of all

parts_end : (img : List ℕ) (s : Super) (ms : List FoundMessage) (names : List (List ℕ)) (ps : List Part) → AllPaired (IsPart format_limits img s ms) names ps → AllEnd s.end (flat_ranges ps)
parts_end img s ms [] [] h = tt
parts_end img s ms [] (p ∷ ps) h = absurd h
parts_end img s ms (n ∷ names) [] h = absurd h
parts_end img s ms (n ∷ names) (p ∷ ps) h =
    let own : IsPart format_limits img s ms n p = h.0 in
    let f = part_found format_limits img s p.place p own.visited in
    let d : Described × List Used = f.header in
    let us : List Used = f.index in
    let ends : AllEnd s.end (d.1 ++ us) = all_joined (EndsBy s.end) d.1 us (dataset_ranges img s p.place d f.checked) (index_end img s.end d.0 us f.visited) in
    let is = f.is in
    let ranges : d.1 ++ us ≡ p.ranges = sym (ap (λ (q : Part). q.ranges) is) in
    all_joined (EndsBy s.end) p.ranges (flat_ranges ps) (subst (AllEnd s.end) ranges ends) (parts_end img s ms names ps h.1)

pub all_ranges : AllRanges
all_ranges img names t valid =
    let h : HasAll format_limits img names t = all_found format_limits img names t valid in
    let s : Super = h.superblock in
    let header : HeaderFields = h.root in
    let us : List Used = h.root_ranges in
    let rest : List Used = flat_ranges h.parts in
    let ranges : List Used = ranges_of_all us h.parts in
    let free = fit_free ranges h.fit in
    let apart : AllApart ranges = apart_all ranges free in
    let root_ends : AllEnd s.end us = header_ends s.end header.ranges us h.within in
    let first = first_used s.end header us (root_first img s.root header h.read) h.within in
    let low = super_within s.end us rest first root_ends apart in
    let within : AllEnd s.end ranges = (low, all_joined (EndsBy s.end) us rest root_ends (parts_end img s header.messages names h.parts h.linked_to)) in
    let whole : t ≡ all_summary s h.parts ranges = h.has in
    let t_end : t.end ≡ s.end = ap (λ (x : AllSummary). x.end) whole in
    let t_lost : t.lost ≡ s.end - sum_by (λ (u : Used). u.len) ranges = ap (λ (x : AllSummary). x.lost) whole in
    let fewer = length_all s.end ranges free within in
    record {
      all = h;
      ranges = ranges;
      are = refl;
      apart = apart;
      within = subst (λ (e : ℕ). AllEnd e ranges) (sym t_end) within;
      made = omega (arith, t_end, t_lost, fewer);
      complete = subst (λ (e : ℕ). e ≤ length img) (sym t_end) (super_ends (length img) (range img 0 48) s h.found);
      chunks = ap (λ (x : AllSummary). x.chunks) whole;
      blocks = ap (λ (x : AllSummary). x.blocks) whole;
    }
