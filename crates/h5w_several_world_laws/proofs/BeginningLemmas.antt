-- What a file of several datasets is when its creation is shown, and what the log keeps of that.
use Rattle.std.proofs.Common.{◌≡◌, ℕ, zero, suc, ◌+◌, ◌-◌, ◌*◌, ◌/◌, ◌<◌, ◌≤◌, cond, List, [], ◌∷◌, ◌++◌, length, Some, Result, Ok, refl, sym, ◌∙◌, ap, subst, inl, inr, arith, append_assoc}
use Rattle.std.specs.Prelude.{nat_le, nat_lt, if◌then◌else◌, slice_get}
use Rattle.std.specs.List.{AllByRecursion}
use Rattle.std.proofs.lemmas.Bool.{cases_Bool, cond_both, ltb-true}
use Rattle.h5w_model.specs.Numbers.{range}
use Rattle.h5w_model.specs.Programs.{Prog, whole, eval, visits, Visit}
use Rattle.h5w_model.specs.Headers.{prefix_at}
use Rattle.h5w_model.specs.Images.{image}
use Rattle.h5w_model.specs.Datasets.{Range, HeaderFields, from_chunk_0, root_view, root_header, header_refusal}
use Rattle.h5w_model.specs.Findings.{Used}
use Rattle.h5w_model.specs.Prefixed.{continuation_blocks, root_address}
use Rattle.h5w_model.specs.Several.{FileLog, Happened, appends_to, pieces_in, plans_each, shows_all, takes_over}
use Rattle.h5w_model.specs.declared.message.Prefix.{Prefix}
use Rattle.h5w_model.specs.declared.piece.Write.{Write}
use Rattle.h5w_model.specs.declared.refusal.ReadError.{ReadError}
use Rattle.h5w_model.specs.declared.root.Super.{Super}
use Rattle.h5w_laws.proofs.ResultLemmas.{choice_ok}
use Rattle.h5w_step_laws.specs.Ranges.{block_at, visits_of}
use Rattle.h5w_step_laws.proofs.HeaderLaws.{root_parts}
use Rattle.h5w_step_laws.proofs.HeaderVisits.{used_of, looks_of, choice_looks, from_chunk_walked}
use Rattle.h5w_step_laws.specs.Moments.{Moment, Represents, reading_of}
use Rattle.h5w_step_laws.proofs.MomentLemmas.{header_of, root_at}
use Rattle.h5w_creation_laws.specs.CreatedFiles.{CreatedFile, IsCreatable, root_place}
use Rattle.h5w_several_creation_laws.specs.SeveralFiles.{AreCreatable, created_writes, end_behind, links_len, messages_len, moment_at, root_len, root_ranges}
use Rattle.h5w_several_creation_laws.specs.SeveralLaws.{EachStands}
use Rattle.h5w_reader_laws.specs.Bounds.{looks_in}
use Rattle.h5w_script_laws.specs.Polling.{Polling}
use Rattle.h5w_writer.proofs.RootLooks.{first_len}
use Rattle.h5w_several_writer_laws.specs.Standing.{and_then}
use Rattle.h5w_several_world_laws.specs.Beginnings.{IsNewFor}

-- ---- A root header of at most 1,024 bytes

-- one range alone is the first of these
one_range : (place a b : ℕ) (rs : List Range) (us : List Used) → block_at place a ∷ [] ≡ used_of (record { place = place; len = b } ∷ rs) ++ us → (a ≡ b) × (rs ≡ [])
one_range place a b [] us e = (ap (λ (vs : List Used). first_len vs) e, refl)
one_range place a b (r ∷ rs) us e = absurd (omega (arith, ap length e))

-- two looks are all
few_looks : (img : List ℕ) (place n : ℕ) (h : HeaderFields) (us : List Used) → eval img (root_header place) ≡ Ok h → block_at place n ∷ [] ≡ used_of h.ranges ++ us → n ≤ 1024
    → looks_in (visits img (root_header place)) ≤ 2
few_looks img place n h us e all short =
    let first : List ℕ = root_view (range img place 512) in
    let more : Prefix → List ℕ → Prog (Result HeaderFields ReadError) = λ p rest. from_chunk_0 place p (first ++ rest) in
    let long_chunk : Prefix → Prog (Result HeaderFields ReadError) = λ p. whole (place + 512) (p.total - 512) (more p) in
    let go : Prefix → Prog (Result HeaderFields ReadError) = λ p. if nat_lt 512 p.total then long_chunk p else from_chunk_0 place p first in
    let d = choice_ok img (prefix_at first) go (header_refusal place) h e in
    let p : Prefix = d.0 in
    let look : Visit = record { place = place; len = 512; counts = root_view } in
    let seen : visits img (root_header place) ≡ look ∷ visits img (go p) = ap (λ (vs : List Visit). look ∷ vs) (choice_looks img (prefix_at first) go (header_refusal place) p d.1) in
    elim (cases_Bool (nat_lt 512 p.total)) [
      | inl t ↦
          let b : List ℕ = first ++ range img (place + 512) (p.total - 512) in
          let w = from_chunk_walked img place p b h (ap (λ c. eval img (cond c (long_chunk p) (from_chunk_0 place p first))) (sym t) ∙ d.2) in
          let one = one_range place n p.total w.blocks us (all ∙ ap (λ (rs : List Range). used_of rs ++ us) w.ranges) in
          let behind : visits img (from_chunk_0 place p b) ≡ [] = w.looks ∙ ap (λ (rs : List Range). looks_of rs) one.1 in
          let looks : looks_in (visits img (root_header place)) ≡ 1 + ((p.total - 512 + 511) / 512 + 0) =
          ap looks_in seen
          ∙ ap (λ c. 1 + looks_in (visits img (cond c (long_chunk p) (from_chunk_0 place p first)))) t
          ∙ ap (λ (vs : List Visit). 1 + ((p.total - 512 + 511) / 512 + looks_in vs)) behind in
          let past : 512 < p.total = ltb-true 512 p.total t in
          omega (arith, looks, one.0, short, past)
      | inr t ↦
          let w = from_chunk_walked img place p first h (ap (λ c. eval img (cond c (long_chunk p) (from_chunk_0 place p first))) (sym t) ∙ d.2) in
          let one = one_range place n p.total w.blocks us (all ∙ ap (λ (rs : List Range). used_of rs ++ us) w.ranges) in
          let looks : looks_in (visits img (root_header place)) ≡ 1 + 0 =
          ap looks_in seen
          ∙ ap (λ c. 1 + looks_in (visits img (cond c (long_chunk p) (from_chunk_0 place p first)))) t
          ∙ ap (λ (vs : List Visit). 1 + looks_in vs) (w.looks ∙ ap (λ (rs : List Range). looks_of rs) one.1) in
          omega (arith, looks)
    ]

pub root_few : (img name : List ℕ) (m : Moment) (n : ℕ) → Represents img name m → m.root ≡ block_at m.super.root n ∷ [] → n ≤ 1024 → looks_in (visits img (root_header (root_address img))) ≤ 2
root_few img name m n r root short =
    let p = root_parts img name m.super m.place r.root.own r.root.checked in
    let all : block_at m.super.root n ∷ [] ≡ used_of p.header.ranges ++ r.root.others = sym root ∙ r.root.is ∙ ap (λ (us : List Used). us ++ r.root.others) p.ranges in
    subst (λ (a : ℕ). looks_in (visits img (root_header a)) ≤ 2) (sym (root_at img name m r)) (few_looks img m.super.root n p.header r.root.others p.read all short)

-- ---- The file that is created

links_short : (fs : List CreatedFile) → AllByRecursion IsCreatable fs → links_len fs ≤ 79 * length fs
links_short [] all = omega arith
links_short (f ∷ fs) all =
    let rest = links_short fs all.1 in
    let bound = all.0.name_bound in
    let more : suc (length fs) ≡ length fs + 1 = omega arith in
    subst (λ (n : ℕ). 15 + length f.name + links_len fs ≤ 79 * n) (sym more) (omega (arith, rest, bound))

-- the root header has at most 672 bytes
root_short : (fs : List CreatedFile) → AreCreatable fs → root_len fs ≤ 1024
root_short fs are =
    let links = links_short fs are.each in
    let few = are.few in
    cond_both (nat_le (messages_len fs) 255) 11 12 (λ (n : ℕ). n + messages_len fs ≤ 1024) (λ t. omega (arith, links, few)) (λ t. omega (arith, links, few))

-- one of the datasets, at the place of its header
record StandsThere (img : List ℕ) (s : Super) (root : List Used) (f : CreatedFile) : Type 0 where
  place : ℕ
  here : Represents img f.name (moment_at s root place f)

stands_there : (img : List ℕ) (s : Super) (root : List Used) (place : ℕ) (fs : List CreatedFile) (d : ℕ) (f : CreatedFile) → EachStands img s root place fs → slice_get fs d ≡ Some f → StandsThere img s root f
stands_there img s root place [] d f each is = absurd (cc)
stands_there img s root place (g ∷ fs) zero f each is = subst (λ (x : CreatedFile). StandsThere img s root x) (some_file g f is) (record { place = place; here = each.0 })
  where
    some_file : (a b : CreatedFile) → Some a ≡ Some b → a ≡ b
    some_file a b e = cc
stands_there img s root place (g ∷ fs) (suc d) f each is = stands_there img s root (end_behind place g) fs d f each.1 is

-- both headers are short
pub record IsShort (img name : List ℕ) : Type 0 where
  pub moment : Moment
  pub here : Represents img name moment
  pub root : looks_in (visits img (root_header (root_address img))) ≤ 2
  pub alone : continuation_blocks img (reading_of moment) ≡ []

pub new_short : (img : List ℕ) (s : Super) (place : ℕ) (fs : List CreatedFile) (d : ℕ) (f : CreatedFile) → AreCreatable fs → s.root ≡ root_place → EachStands img s (root_ranges fs) place fs → slice_get fs d ≡ Some f
    → IsShort img f.name
new_short img s place fs d f are at each is =
    let there = stands_there img s (root_ranges fs) place fs d f each is in
    let m : Moment = moment_at s (root_ranges fs) there.place f in
    let h = header_of img f.name m there.here in
    let none : h.continued ≡ [] = let all = h.ranges in cc in
    record {
      moment = m;
      here = there.here;
      root = root_few img f.name m (root_len fs) there.here (ap (λ (p : ℕ). block_at p (root_len fs) ∷ []) (sym at)) (root_short fs are);
      alone = h.named ∙ ap visits_of none;
    }

-- ---- What happens then

-- the log began so, whatever happens
pub new_then : (pollings : ℕ → Polling) (log : FileLog) (e : Happened) → IsNewFor pollings log → IsNewFor pollings (and_then e log)
new_then pollings log e new =
    let p = more e in
    record { files = new.files; are = new.are; start = new.start; first = new.first; later = p.0; pieces = p.1; sets = new.sets; empty = new.empty; names = new.names }
  where
    more : (e : Happened) → (later : List Write) × (pieces_in (e ∷ log.events) ≡ created_writes new.files ++ later)
    more (appends_to d vs) = (new.later, new.pieces)
    more (plans_each counts) = (new.later, new.pieces)
    more (shows_all w) = (new.later ++ w ∷ [], ap (λ (ws : List Write). ws ++ w ∷ []) new.pieces ∙ append_assoc (created_writes new.files) new.later (w ∷ []))
    more takes_over = (new.later, new.pieces)
