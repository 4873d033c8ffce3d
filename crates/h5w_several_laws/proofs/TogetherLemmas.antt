-- The datasets of one file together.
use Rattle.std.proofs.Common.{◌≡◌, ◌≢◌, ℕ, ◌-◌, ◌<◌, not, List, [], ◌∷◌, ◌++◌, length, Result, Ok, refl, sym, ◌∙◌, ap, subst, inl, inr, arith}
use Rattle.std.specs.Prelude.{map, flat_map, count_by, sum_by}
use Rattle.std.specs.List.{AllByRecursion}
use Rattle.h5w_model.specs.Numbers.{range}
use Rattle.h5w_model.specs.Images.{apply}
use Rattle.h5w_model.specs.Programs.{ret, eval, and_then}
use Rattle.h5w_model.specs.Datasets.{Described, HeaderFields, linked, root_header}
use Rattle.h5w_model.specs.Tables.{format_limits}
use Rattle.h5w_model.specs.Findings.{AllSummary, Finding, Part, Used, all_summary, checked_dataset, checked_part, checked_super, index_visit, ranges_of_all, the_superblock}
use Rattle.h5w_model.specs.Relations.{AllDiffer, AllPaired, HasAll, IsPart}
use Rattle.h5w_model.specs.declared.piece.Write.{Write}
use Rattle.h5w_model.specs.declared.root.Super.{Super}
use Rattle.h5w_laws.proofs.AnswerLemmas.{same_ok}
use Rattle.h5w_laws.proofs.FitLemmas.{free_fit}
use Rattle.h5w_laws.proofs.ResultLemmas.{and_then_from}
use Rattle.h5w_laws.proofs.SeveralLemmas.{finds_all}
use Rattle.h5w_step_laws.specs.Ranges.{AllEndBy, Among, AreApart, Disjoint, block_at}
use Rattle.h5w_step_laws.proofs.HeaderLaws.{header_tells, root_parts}
use Rattle.h5w_step_laws.proofs.HeaderVisits.{ranges_from, used_of}
use Rattle.h5w_step_laws.proofs.OverlapLemmas.{overlap_laws}
use Rattle.h5w_step_laws.proofs.RangeLemmas.{among_left, among_split}
use Rattle.h5w_step_laws.specs.Moments.{Moment, Represents}
use Rattle.h5w_step_laws.specs.Steps.{OffAll, Step}
use Rattle.h5w_step_laws.specs.Plans.{Flush}
use Rattle.h5w_step_laws.proofs.FoundLemmas.{disjoint_drop}
use Rattle.h5w_step_laws.proofs.PartLemmas.{apart_sym, disjoint_apart, disjoint_left, disjoint_right}
use Rattle.h5w_step_laws.proofs.StepRepresents.{step_represents}
use Rattle.h5w_several_laws.specs.Beside.{IsBeside, own_of}
use Rattle.h5w_several_laws.specs.Together.{AllFound, AreBeside, AreClear, AreThere, FlushStaysValid, IsAllValid, IsClear, StaysValid, names_of, onto, summary_of}
use Rattle.h5w_several_laws.specs.Turns.{Entry, all_then, owns, then_as}
use Rattle.h5w_several_laws.proofs.BesideLemmas.{apart_beside, beside_stays, step_beside}
use Rattle.h5w_several_laws.proofs.TurnLemmas.{join}

-- ---- One dataset

abbrev part_in : Moment → Part
part_in m = record { place = m.place; dataset = m.dataset; ranges = own_of m }

abbrev of_part : Part → Result Part Finding
of_part p = Ok p

visited : (img name : List ℕ) (m : Moment) → Represents img name m → eval img (checked_part format_limits m.super m.place) ≡ of_part (part_in m)
visited img name m r =
    let s : Super = m.super in
    let part : Described × List Used → List Used → Part = λ d us. record { place = m.place; dataset = d.0; ranges = d.1 ++ us } in
    let header : Described × List Used = (m.dataset, m.header) in
    let index = r.index in
    and_then_from img (checked_dataset format_limits s m.place) (λ d. and_then (index_visit s.end d.0) (λ us. ret (of_part (part d us)))) header (part_in m) r.header
    (and_then_from img (index_visit s.end header.0) (λ us. ret (of_part (part header us))) (m.fixed ++ m.behind) (part_in m) index.checked refl)

-- what the first of them tells of superblock and root header
record IsRooted (img : List ℕ) (s : Super) (h : HeaderFields) (root : List Used) (e : Entry) : Type 0 where
  file : Represents img e.name e.moment
  super : e.moment.super ≡ s
  link : linked e.name h.messages ≡ Ok e.moment.place
  own : file.root.own ≡ root

abbrev AreRooted : List ℕ → Super → HeaderFields → List Used → List Entry → Type 0
AreRooted img s h root [] = Unit {0}
AreRooted img s h root (e ∷ es) = IsRooted img s h root e × AreRooted img s h root es

module _ (img : List ℕ) (s : Super) (h : HeaderFields) (root : List Used) (super : checked_super (length img) (range img 0 48) ≡ Ok s) (read : eval img (root_header s.root) ≡ Ok h) (ranges : root ≡ used_of h.ranges) where
  rooted : (e : Entry) → Represents img e.name e.moment → IsRooted img s h root e
  rooted e r =
      let q = root_parts img e.name e.moment.super e.moment.place r.root.own r.root.checked in
      let same : e.moment.super ≡ s = same_ok (checked_super (length img) (range img 0 48)) e.moment.super s r.super super in
      let there : eval img (root_header s.root) ≡ Ok q.header = subst (λ (t : Super). eval img (root_header t.root) ≡ Ok q.header) same q.read in
      let header : q.header ≡ h = same_ok (eval img (root_header s.root)) q.header h there read in
      record {
        file = r;
        super = same;
        link = subst (λ (g : HeaderFields). linked e.name g.messages ≡ Ok e.moment.place) header q.link;
        own = q.ranges ∙ ap (λ (g : HeaderFields). used_of g.ranges) header ∙ sym ranges;
      }

  all_rooted : (es : List Entry) → AreThere img es → AreRooted img s h root es
  all_rooted [] there = tt
  all_rooted (e ∷ es) there = (rooted e there.0, all_rooted es there.1)

-- ---- Ranges that do not meet

own_front : (img : List ℕ) (s : Super) (h : HeaderFields) (root : List Used) (e : Entry) → IsRooted img s h root e → Disjoint ((the_superblock ∷ root) ++ own_of e.moment)
own_front img s h root e x =
    let m = e.moment in
    let r = x.file.root in
    let all : Disjoint (((the_superblock ∷ r.own) ++ r.others) ++ own_of m) = subst (λ (us : List Used). Disjoint (the_superblock ∷ (us ++ own_of m))) r.is x.file.apart in
    subst (λ (us : List Used). Disjoint ((the_superblock ∷ us) ++ own_of m)) x.own (disjoint_drop (the_superblock ∷ r.own) r.others (own_of m) all)

clear_owns : (e : Entry) (es : List Entry) → IsClear e es → OffAll (own_of e.moment) (owns es)
clear_owns e [] off u v a b = absurd b
clear_owns e (x ∷ es) off u v a b = elim (among_split v (own_of x.moment) (owns es) b) [
  | inl c ↦ apart_sym v u (off.0 v u c a)
  | inr c ↦ clear_owns e es off.1 u v a c
]

all_own : (img : List ℕ) (s : Super) (h : HeaderFields) (root : List Used) (es : List Entry) → AreRooted img s h root es → AreClear es → Disjoint (owns es)
all_own img s h root [] x off = tt
all_own img s h root (e ∷ es) x off =
    let own = disjoint_right (the_superblock ∷ root) (own_of e.moment) (own_front img s h root e x.0) in
    join (own_of e.moment) (owns es) own (all_own img s h root es x.1 off.1) (clear_owns e es off.0)

front_off : (img : List ℕ) (s : Super) (h : HeaderFields) (root : List Used) (es : List Entry) → AreRooted img s h root es → OffAll (the_superblock ∷ root) (owns es)
front_off img s h root [] x u v a b = absurd b
front_off img s h root (e ∷ es) x u v a b = elim (among_split v (own_of e.moment) (owns es) b) [
  | inl c ↦ disjoint_apart (the_superblock ∷ root) (own_of e.moment) u v (own_front img s h root e x.0) a c
  | inr c ↦ front_off img s h root es x.1 u v a c
]

-- ---- The whole check

abbrev parts_in : List Entry → List Part
parts_in es = map (λ (e : Entry). part_in e.moment) es

flat_owns : (es : List Entry) → flat_map (λ (p : Part). p.ranges) (parts_in es) ≡ owns es
flat_owns [] = refl
flat_owns (e ∷ es) = ap (λ (us : List Used). own_of e.moment ++ us) (flat_owns es)

rows_in_parts : (es : List Entry) → map (λ (p : Part). p.dataset.shape.rows) (parts_in es) ≡ map (λ (e : Entry). e.moment.dataset.shape.rows) es
rows_in_parts [] = refl
rows_in_parts (e ∷ es) = ap (λ (ns : List ℕ). e.moment.dataset.shape.rows ∷ ns) (rows_in_parts es)

all_parts : (img : List ℕ) (s : Super) (h : HeaderFields) (root : List Used) (es : List Entry) → AreRooted img s h root es → AllPaired (IsPart format_limits img s h.messages) (names_of es) (parts_in es)
all_parts img s h root [] x = tt
all_parts img s h root (e ∷ es) x = (
  record { link = x.0.link; visited = subst (λ (t : Super). eval img (checked_part format_limits t e.moment.place) ≡ of_part (part_in e.moment)) x.0.super (visited img e.name e.moment x.0.file) },
  all_parts img s h root es x.1,
)

-- where a header stands a range begins
record HasFirst (m : Moment) : Type 0 where
  total : ℕ
  some : 0 < total
  among : Among (block_at m.place total) (own_of m)

first_range : (img name : List ℕ) (m : Moment) → Represents img name m → HasFirst m
first_range img name m r =
    let h = header_tells img format_limits m.super m.place m.dataset m.header r.header in
    let first : Used = block_at m.place h.total in
    let among : Among first m.header = subst (λ (us : List Used). Among first us) (sym h.ranges) (inl refl) in
    record { total = h.total; some = h.some first among; among = among_left first m.header (m.fixed ++ m.behind) among }

places_differ : (img : List ℕ) (s : Super) (h : HeaderFields) (root : List Used) (e : Entry) (es : List Entry) → HasFirst e.moment → AreRooted img s h root es → IsClear e es
    → AllByRecursion (λ (b : ℕ). e.moment.place ≢ b) (map (λ (p : Part). p.place) (parts_in es))
places_differ img s h root e [] one x off = tt
places_differ img s h root e (o ∷ es) one x off = (λ same. never same (off.0 (block_at o.moment.place other.total) (block_at e.moment.place one.total) other.among one.among), places_differ img s h root e es one x.1 off.1)
  where
    other : HasFirst o.moment
    other = first_range img o.name o.moment x.0.file

    never : e.moment.place ≡ o.moment.place → AreApart (block_at o.moment.place other.total) (block_at e.moment.place one.total) → ⊥
    never same (inl below) = let some = other.some in omega (arith, same, below, some)
    never same (inr above) = let some = one.some in omega (arith, same, above, some)

all_differ : (img : List ℕ) (s : Super) (h : HeaderFields) (root : List Used) (es : List Entry) → AreRooted img s h root es → AreClear es → AllDiffer (map (λ (p : Part). p.place) (parts_in es))
all_differ img s h root [] x off = tt
all_differ img s h root (e ∷ es) x off = (places_differ img s h root e es (first_range img e.name e.moment x.0.file) x.1 off.0, all_differ img s h root es x.1 off.1)

has_all : (img : List ℕ) (s : Super) (h : HeaderFields) (root : List Used) (es : List Entry) → checked_super (length img) (range img 0 48) ≡ Ok s → eval img (root_header s.root) ≡ Ok h → root ≡ used_of h.ranges → AllEndBy s.end root
    → Disjoint (the_superblock ∷ root) → AreRooted img s h root es → AreClear es → HasAll format_limits img (names_of es) (summary_of s root es)
has_all img s h root es super read ranges ends front x off =
    let all : List Used = ranges_of_all root (parts_in es) in
    let are : all ≡ the_superblock ∷ root ++ owns es = ap (λ (us : List Used). the_superblock ∷ root ++ us) (flat_owns es) in
    let apart : Disjoint (the_superblock ∷ root ++ owns es) = join (the_superblock ∷ root) (owns es) front (all_own img s h root es x off) (front_off img s h root es x) in
    record {
      superblock = s;
      found = super;
      root = h;
      read = read;
      root_ranges = root;
      within = ranges_from s.end h.ranges (subst (λ (us : List Used). AllEndBy s.end us) ranges ends) ∙ ap Ok (sym ranges);
      parts = parts_in es;
      linked_to = all_parts img s h root es x;
      differ = all_differ img s h root es x off;
      fit = free_fit all (overlap_laws.none all (subst Disjoint (sym are) apart));
      has = ap (λ (us : List Used). let t : AllSummary = record {
        rows = map (λ (e : Entry). e.moment.dataset.shape.rows) es;
        chunks = count_by (λ (u : Used). u.chunk) us;
        blocks = count_by (λ (u : Used). not u.chunk) us;
        end = s.end;
        lost = s.end - sum_by (λ (u : Used). u.len) us;
      } in t) (sym are)
          ∙ ap (λ (ns : List ℕ). let t : AllSummary = record (all_summary s (parts_in es) all) { rows = ns } in t) (sym (rows_in_parts es));
    }

pub all_found : AllFound
all_found img e es there off =
    let m = e.moment in
    let root : List Used = there.0.root.own in
    let q = root_parts img e.name m.super m.place root there.0.root.checked in
    let x = all_rooted img m.super q.header root there.0.super q.read q.ranges (e ∷ es) there in
    let front = disjoint_left (the_superblock ∷ root) (own_of m) (own_front img m.super q.header root e x.0) in
    (finds_all format_limits img (names_of (e ∷ es)) (summary_of m.super root (e ∷ es))).1 (has_all img m.super q.header root (e ∷ es) there.0.super q.read q.ranges q.ends front x off)

-- so some summary is there for a list of datasets that has one
pub some_valid : (img : List ℕ) (es : List Entry) → es ≢ [] → AreThere img es → AreClear es → IsAllValid img (names_of es)
some_valid img [] some there off = absurd (some refl)
some_valid img (e ∷ es) some there off = (summary_of e.moment.super there.0.root.own (e ∷ es), all_found img e es there off)

-- ---- Lists back to front

abbrev AreClearAcross : List Entry → List Entry → Type 0
AreClearAcross [] es = Unit {0}
AreClearAcross (d ∷ ds) es = IsClear d es × AreClearAcross ds es

clear_cons : (e : Entry) (ds es : List Entry) → IsClear e ds → AreClearAcross ds es → AreClearAcross ds (e ∷ es)
clear_cons e [] es off a = tt
clear_cons e (d ∷ ds) es off a = (((λ u v b c. apart_sym v u (off.0 v u c b)), a.0), clear_cons e ds es off.1 a.1)

clear_onto : (ds es : List Entry) → AreClear ds → AreClear es → AreClearAcross ds es → AreClear (onto ds es)
clear_onto [] es a b c = b
clear_onto (d ∷ ds) es a b c = clear_onto ds (d ∷ es) a.1 (c.0, b) (clear_cons d ds es a.0 c.1)

there_onto : (img : List ℕ) (ds es : List Entry) → AreThere img ds → AreThere img es → AreThere img (onto ds es)
there_onto img [] es a b = b
there_onto img (d ∷ ds) es a b = there_onto img ds (d ∷ es) a.1 (a.0, b)

pub names_onto : (ds es : List Entry) → names_of (onto ds es) ≡ onto (names_of ds) (names_of es)
names_onto [] es = refl
names_onto (d ∷ ds) es = names_onto ds (d ∷ es)

some_onto : (ds : List Entry) (e : Entry) (es : List Entry) → onto ds (e ∷ es) ≢ []
some_onto [] e es none = cc
some_onto (d ∷ ds) e es none = some_onto ds d (e ∷ es) none

clear_front : (x : Entry) (ds es : List Entry) → IsClear x (ds ++ es) → IsClear x ds
clear_front x [] es off = tt
clear_front x (d ∷ ds) es off = (off.0, clear_front x ds es off.1)

clear_back : (x : Entry) (ds es : List Entry) → IsClear x (ds ++ es) → IsClear x es
clear_back x [] es off = off
clear_back x (d ∷ ds) es off = clear_back x ds es off.1

-- ---- With another superblock

pub names_then : (s : Super) (es : List Entry) → names_of (all_then s es) ≡ names_of es
names_then s [] = refl
names_then s (e ∷ es) = ap (λ (ns : List (List ℕ)). e.name ∷ ns) (names_then s es)

clear_then : (s : Super) (x : Entry) (es : List Entry) → IsClear x es → IsClear (then_as s x) (all_then s es)
clear_then s x [] off = tt
clear_then s x (e ∷ es) off = (off.0, clear_then s x es off.1)

all_clear_then : (s : Super) (es : List Entry) → AreClear es → AreClear (all_then s es)
all_clear_then s [] off = tt
all_clear_then s (e ∷ es) off = (clear_then s e es off.0, all_clear_then s es off.1)

-- ---- A flush

there_front : (img : List ℕ) (ds es : List Entry) → AreThere img (ds ++ es) → AreThere img ds
there_front img [] es a = tt
there_front img (d ∷ ds) es a = (a.0, there_front img ds es a.1)

there_back : (img : List ℕ) (ds es : List Entry) → AreThere img (ds ++ es) → AreThere img es
there_back img [] es a = a
there_back img (d ∷ ds) es a = there_back img ds es a.1

beside_front : (m : Moment) (ds es : List Entry) → AreBeside m (ds ++ es) → AreBeside m ds
beside_front m [] es a = tt
beside_front m (d ∷ ds) es a = (a.0, beside_front m ds es a.1)

beside_back : (m : Moment) (ds es : List Entry) → AreBeside m (ds ++ es) → AreBeside m es
beside_back m [] es a = a
beside_back m (d ∷ ds) es a = beside_back m ds es a.1

clears_front : (ds es : List Entry) → AreClear (ds ++ es) → AreClear ds
clears_front [] es a = tt
clears_front (d ∷ ds) es a = (clear_front d ds es a.0, clears_front ds es a.1)

clears_back : (ds es : List Entry) → AreClear (ds ++ es) → AreClear es
clears_back [] es a = a
clears_back (d ∷ ds) es a = clears_back ds es a.1

clears_across : (ds es : List Entry) → AreClear (ds ++ es) → AreClearAcross ds es
clears_across [] es a = tt
clears_across (d ∷ ds) es a = (clear_back d ds es a.0, clears_across ds es a.1)

-- others, with the superblock of the dataset that is flushed
record AreAround (img : List ℕ) (m : Moment) (xs : List Entry) : Type 0 where
  there : AreThere img (all_then m.super xs)
  beside : AreBeside m (all_then m.super xs)

around : (img : List ℕ) (m : Moment) (xs : List Entry) → AreThere img xs → AreBeside m xs → AreAround img m xs
around img m [] there beside = record { there = tt; beside = tt }
around img m (x ∷ xs) there beside =
    let later = around img m xs there.1 beside.1 in
    let under : Super → Moment = λ s. record (x.moment) { super = s } in
    let b = beside.0 in
    record {
      there = (subst (λ (s : Super). Represents img x.name (under s)) b.super there.0, later.there);
      beside = (subst (λ (s : Super). IsBeside (under s) m) b.super b, later.beside);
    }

around_next : (img name : List ℕ) (m n : Moment) (held after : List Used) (w : Write) (xs : List Entry) → Represents img name m → Step img m held w n after → AreAround img m xs → AreAround (apply w img) n xs
around_next img name m n held after w [] r s a = record { there = tt; beside = tt }
around_next img name m n held after w (x ∷ xs) r s a =
    let there = a.there in
    let beside = a.beside in
    let later = around_next img name m n held after w xs r s (record { there = there.1; beside = beside.1 }) in
    let o : Moment = (then_as m.super x).moment in
    let next : Moment = (then_as n.super x).moment in
    record {
      there = (step_represents img x.name o o.behind w next o.behind there.0 (step_beside img name x.name m n o held after w r s there.0 beside.0), later.there);
      beside = (beside_stays img m n o held after w s beside.0, later.beside);
    }

module _ (name : List ℕ) (ds es : List Entry) (before : AreClear ds) (behind : AreClear es) (across : AreClearAcross ds es) where
  abbrev names : List (List ℕ)
  names = onto (names_of ds) (name ∷ names_of es)

  around_clear : (img : List ℕ) (m : Moment) (xs : List Entry) → Represents img name m → AreBeside m xs → (x : Entry) → x.moment ≡ m → IsClear x xs
  around_clear img m [] r beside x is = tt
  around_clear img m (y ∷ xs) r beside x is = (subst (λ (n : Moment). OffAll (own_of y.moment) (own_of n)) (sym is) (apart_beside img name m y.moment r beside.0), around_clear img m xs r beside.1 x is)

  around_across : (img : List ℕ) (m : Moment) (xs : List Entry) → Represents img name m → AreBeside m (all_then m.super xs) → (x : Entry) → x.moment ≡ m → AreClearAcross xs es → AreClearAcross (all_then m.super xs) (x ∷ all_then m.super es)
  around_across img m [] r beside x is across = tt
  around_across img m (y ∷ xs) r beside x is across =
      let off : OffAll (own_of x.moment) (own_of y.moment) =
      λ u v a b. apart_sym v u (apart_beside img name m (then_as m.super y).moment r beside.0 v u b (subst (λ (n : Moment). Among u (own_of n)) is a)) in
      ((off, clear_then m.super y es across.0), around_across img m xs r beside.1 x is across.1)

  valid_here : (img : List ℕ) (m : Moment) → Represents img name m → AreAround img m ds → AreAround img m es → IsAllValid img names
  valid_here img m r a b =
      let x : Entry = record { name = name; moment = m; address = λ k. 0; held = [] } in
      let xs = all_then m.super ds in
      let ys = all_then m.super es in
      let there = there_onto img xs (x ∷ ys) a.there (r, b.there) in
      let off = clear_onto xs (x ∷ ys) (all_clear_then m.super ds before) (around_clear img m ys r b.beside x refl, all_clear_then m.super es behind) (around_across img m ds r a.beside x refl across) in
      let same : names_of (onto xs (x ∷ ys)) ≡ names =
      names_onto xs (x ∷ ys) ∙ ap (λ (ns : List (List ℕ)). onto ns (name ∷ names_of ys)) (names_then m.super ds) ∙ ap (λ (ns : List (List ℕ)). onto (names_of ds) (name ∷ ns)) (names_then m.super es) in
      subst (λ (ns : List (List ℕ)). IsAllValid img ns) same (some_valid img (onto xs (x ∷ ys)) (some_onto xs x ys) there off)

  stays_valid : (img : List ℕ) (m n : Moment) (held after : List Used) (ws : List Write) → Represents img name m → Flush img m held ws n after → AreAround img m ds → AreAround img m es → StaysValid img names ws
  stays_valid img m n held after [] r f a b = tt
  stays_valid img m n held after (w ∷ ws) r f a b =
      let next = step_represents img name m held w f.0 f.1 r f.2 in
      let c = around_next img name m f.0 held f.1 w ds r f.2 a in
      let d = around_next img name m f.0 held f.1 w es r f.2 b in
      (valid_here (apply w img) f.0 next c d, stays_valid (apply w img) f.0 n f.1 after ws next f.4 c d)

pub flush_stays_valid : FlushStaysValid
flush_stays_valid img name m n held after ws ds es r f there beside off =
    stays_valid name ds es (clears_front ds es off) (clears_back ds es off) (clears_across ds es off) img m n held after ws r f
    (around img m ds (there_front img ds es there) (beside_front m ds es beside))
    (around img m es (there_back img ds es there) (beside_back m ds es beside))
