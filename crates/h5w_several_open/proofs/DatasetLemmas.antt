-- What a file that is valid for several names has of each of them.
use Rattle.std.proofs.Common.{◌≡◌, ℕ, List, [], ◌∷◌, ◌++◌, length, Result, Ok, refl, sym, ◌∙◌, ap, subst, inl, inr}
use Rattle.std.specs.List.{AllByRecursion}
use Rattle.h5w_model.specs.Numbers.{range}
use Rattle.h5w_model.specs.Programs.{ret, eval, and_then}
use Rattle.h5w_model.specs.Tables.{format_limits}
use Rattle.h5w_model.specs.Datasets.{HeaderFields, linked, root_header}
use Rattle.h5w_model.specs.Findings.{AllSummary, Finding, Part, Used, checked_dataset, checked_part, checked_super, index_visit, ranges_of_all}
use Rattle.h5w_model.specs.Relations.{AllPaired, HasAll, IsPart}
use Rattle.h5w_model.specs.declared.root.Super.{Super}
use Rattle.h5w_laws.specs.Ranges.{AreApart as IsApartFrom, AllApart as NoneMeet}
use Rattle.h5w_laws.proofs.AnswerLemmas.{same_ok}
use Rattle.h5w_laws.proofs.ResultLemmas.{and_then_from}
use Rattle.h5w_laws.proofs.SeveralLemmas.{all_ranges, flat_ranges}
use Rattle.h5w_step_laws.specs.Ranges.{Among, AreApart as IsOffRange}
use Rattle.h5w_step_laws.proofs.RangeLemmas.{among_left, among_right}
use Rattle.h5w_step_laws.proofs.HeaderVisits.{ranges_ok, used_blocks, used_of}
use Rattle.h5w_step_laws.proofs.HeaderLaws.{RootParts, root_parts}
use Rattle.h5w_space.specs.Space.{Space}
use Rattle.h5w_step_laws.specs.Steps.{OffAll}
use Rattle.h5w_step_laws.proofs.PartLemmas.{apart_sym}
use Rattle.h5w_several_laws.specs.Beside.{own_of}
use Rattle.h5w_several_laws.specs.Turns.{AreKnown, AreOff, Entry, IsApart, IsOff, IsOne}
use Rattle.h5w_several_open.specs.Datasets.{AllApart, AllHave, AreOffEach, HasMoments, IsEntry, IsOffEach}

-- ---- Lists

all_among : (P : Used → Type 0) (us : List Used) → AllByRecursion P us → (u : Used) → Among u us → P u
all_among P [] h u a = absurd a
all_among P (x ∷ us) h u (inl e) = subst P e h.0
all_among P (x ∷ us) h u (inr a) = all_among P us h.1 u a

paired_as : {A B : Type 0} (P Q : A → B → Type 0) (xs : List A) (ys : List B) → ((x : A) (y : B) → P x y → Q x y) → AllPaired P xs ys → AllPaired Q xs ys
paired_as P Q [] [] f h = tt
paired_as P Q [] (y ∷ ys) f h = absurd h
paired_as P Q (x ∷ xs) [] f h = absurd h
paired_as P Q (x ∷ xs) (y ∷ ys) f h = (f x y h.0, paired_as P Q xs ys f h.1)

-- of ranges of which none meets one behind it, the first meet none of the last
parted : (us vs : List Used) → NoneMeet (us ++ vs) → OffAll us vs × NoneMeet vs
parted [] vs h = ((λ u v a b. absurd a), h)
parted (x ∷ us) vs h = off (parted us vs h.1)
  where
    off : OffAll us vs × NoneMeet vs → OffAll (x ∷ us) vs × NoneMeet vs
    off rest = (
      λ u v a b.
          elim a [
            | inl e ↦ subst (λ (y : Used). IsOffRange y v) e (all_among (IsApartFrom x) (us ++ vs) h.0 v (among_right v us vs b))
            | inr c ↦ rest.0 u v c b
          ],
      rest.1,
    )

off_each : (us : List Used) (ps : List Part) → OffAll us (flat_ranges ps) → IsOffEach us ps
off_each us [] off = tt
off_each us (p ∷ ps) off = ((λ u v a b. off u v a (among_left v p.ranges (flat_ranges ps) b)), off_each us ps (λ u v a b. off u v a (among_right v p.ranges (flat_ranges ps) b)))

each_off : (ps : List Part) → NoneMeet (flat_ranges ps) → AreOffEach ps
each_off [] h = tt
each_off (p ∷ ps) h =
    let r = parted p.ranges (flat_ranges ps) h in
    (off_each p.ranges ps r.0, each_off ps r.1)

-- ---- A moment of one dataset

module _ (img : List ℕ) (names : List (List ℕ)) (t : AllSummary) (h : HasAll format_limits img names t) where
  abbrev s : Super
  s = h.superblock

  root_used : h.root_ranges ≡ used_of h.root.ranges
  root_used = (ranges_ok s.end h.root.ranges h.root_ranges h.within).0

  moment_of : (name : List ℕ) (p : Part) → IsPart format_limits img s h.root.messages name p → HasMoments s h.root_ranges img name p
  moment_of name p part m file = record {
    super_is = super;
    root_is = rooted.ranges ∙ ap (λ (x : HeaderFields). used_of x.ranges) header ∙ sym root_used;
    place = place;
    dataset = ap (λ (q : Part). q.dataset) found;
    own = ap (λ (q : Part). q.ranges) found;
  }
    where
      super : m.super ≡ s
      super = same_ok (checked_super (length img) (range img 0 48)) m.super s file.super h.found

      rooted : RootParts img name m.super m.place file.root.own
      rooted = root_parts img name m.super m.place file.root.own file.root.checked

      header : rooted.header ≡ h.root
      header = same_ok (eval img (root_header s.root)) rooted.header h.root (subst (λ (x : Super). eval img (root_header x.root) ≡ Ok rooted.header) super rooted.read) h.read

      place : m.place ≡ p.place
      place = same_ok (linked name h.root.messages) m.place p.place (subst (λ (x : HeaderFields). linked name x.messages ≡ Ok m.place) header rooted.link) part.link

      own_part : Part
      own_part = record { place = m.place; dataset = m.dataset; ranges = own_of m }

      joined : (us ws : List Used) → us ≡ ws → ◌≡◌ {A = Result Part Finding} (Ok (record { place = m.place; dataset = m.dataset; ranges = us })) (Ok (record { place = m.place; dataset = m.dataset; ranges = ws }))
      joined us ws e = ap (λ (xs : List Used). Ok (record { place = m.place; dataset = m.dataset; ranges = xs })) e

      checked : eval img (checked_part format_limits m.super m.place) ≡ Ok own_part
      checked =
          and_then_from img (checked_dataset format_limits m.super m.place) (λ d. and_then (index_visit m.super.end d.0) (λ us. ret (Ok (record { place = m.place; dataset = d.0; ranges = d.1 ++ us })))) (m.dataset, m.header) own_part file.header
          (and_then_from img (index_visit m.super.end m.dataset) (λ us. ret (Ok (record { place = m.place; dataset = m.dataset; ranges = m.header ++ us }))) (m.fixed ++ m.behind) own_part file.index.checked refl)

      found : own_part ≡ p
      found =
          same_ok (eval img (checked_part format_limits s p.place)) own_part p
          (subst (λ (n : ℕ). eval img (checked_part format_limits s n) ≡ Ok own_part) place (subst (λ (x : Super). eval img (checked_part format_limits x m.place) ≡ Ok own_part) super checked)) part.visited

pub all_have : AllHave
all_have img names t valid =
    let r = all_ranges img names t valid in
    let h = r.all in
    let apart : NoneMeet (ranges_of_all h.root_ranges h.parts) = subst NoneMeet r.are r.apart in
    record {
      super = h.superblock;
      root = h.root_ranges;
      blocks = λ u a. used_blocks h.root.ranges u (subst (λ (us : List Used). Among u us) (root_used img names t h) a);
      parts = h.parts;
      each = paired_as (IsPart format_limits img h.superblock h.root.messages) (HasMoments h.superblock h.root_ranges img) names h.parts (moment_of img names t h) h.linked_to;
      off = each_off h.parts (parted h.root_ranges (flat_ranges h.parts) apart.1).1;
    }

-- ---- Sessions over it

module _ (img : List ℕ) (space : Space) (super : Super) (root : List Used) where
  one : (name : List ℕ) (p : Part) (e : Entry) → HasMoments super root img name p → IsEntry img space name e → IsOne img space super root e × (own_of e.moment ≡ p.ranges)
  one name p e moments x =
      let is = subst (λ (n : List ℕ). HasMoments super root img n p) (sym x.name_is) moments in
      let m = is e.moment x.knows.file in
      (record { knows = x.knows; super_is = m.super_is; root_is = x.untold ∙ m.root_is; held_is = x.held_is; cols = x.cols }, m.own)

  own_held : (name : List ℕ) (e : Entry) → IsEntry img space name e → (u : Used) → Among u e.held → Among u (own_of e.moment)
  own_held name e x u a =
      among_right u e.moment.header (e.moment.fixed ++ e.moment.behind) (among_right u e.moment.fixed e.moment.behind (subst (λ (us : List Used). Among u us) x.behind a))

  two : (name other : List ℕ) (p q : Part) (e f : Entry) → HasMoments super root img name p → HasMoments super root img other q → IsEntry img space name e → IsEntry img space other f → OffAll p.ranges q.ranges → IsApart f e
  two name other p q e f ms ns x y off =
      let mine : own_of e.moment ≡ p.ranges = (one name p e ms x).1 in
      let its : own_of f.moment ≡ q.ranges = (one other q f ns y).1 in
      let apart : OffAll (own_of e.moment) (own_of f.moment) = subst (λ (us : List Used). OffAll us (own_of f.moment)) (sym mine) (subst (OffAll p.ranges) (sym its) off) in
      record {
        own = λ u v a b. apart_sym v u (apart v u b a);
        held = λ u v a b. apart_sym v u (apart v u b (own_held other f y u a));
        other = λ u v a b. apart u v (own_held name e x u a) b;
      }

  all_off : (name : List ℕ) (p : Part) (e : Entry) (names : List (List ℕ)) (ps : List Part) (es : List Entry) → HasMoments super root img name p → IsEntry img space name e → IsOffEach p.ranges ps → AllPaired (HasMoments super root img) names ps
      → AllPaired (IsEntry img space) names es → IsOff e es
  all_off name p e [] [] [] ms x off h g = tt
  all_off name p e [] (q ∷ ps) es ms x off h g = absurd h
  all_off name p e [] [] (f ∷ es) ms x off h g = absurd g
  all_off name p e (n ∷ names) [] es ms x off h g = absurd h
  all_off name p e (n ∷ names) (q ∷ ps) [] ms x off h g = absurd g
  all_off name p e (n ∷ names) (q ∷ ps) (f ∷ es) ms x off h g = (two name n p q e f ms h.0 x g.0 off.0, all_off name p e names ps es ms x off.1 h.1 g.1)

  all_apart_of : (names : List (List ℕ)) (ps : List Part) (es : List Entry) → AllPaired (HasMoments super root img) names ps → AreOffEach ps → AllPaired (IsEntry img space) names es → AreKnown img space super root es × AreOff es
  all_apart_of [] [] [] h off g = (tt, tt)
  all_apart_of [] (p ∷ ps) es h off g = absurd h
  all_apart_of [] [] (e ∷ es) h off g = absurd g
  all_apart_of (n ∷ names) [] es h off g = absurd h
  all_apart_of (n ∷ names) (p ∷ ps) [] h off g = absurd g
  all_apart_of (n ∷ names) (p ∷ ps) (e ∷ es) h off g =
      let rest = all_apart_of names ps es h.1 off.1 g.1 in
      (((one n p e h.0 g.0).0, rest.0), (all_off n p e names ps es h.0 g.0 off.0 h.1 g.1, rest.1))

pub all_apart : AllApart
all_apart img names t s es valid entries =
    let h = all_have img names t valid in
    let r = all_apart_of img s h.super h.root names h.parts es h.each h.off entries in
    record { super = h.super; root = h.root; blocks = h.blocks; known = r.0; off = r.1 }
