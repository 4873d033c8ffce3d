-- All parts of a flush of several datasets.
use Rattle.std.proofs.Common.{◌≡◌, ℕ, false, List, [], ◌∷◌, ◌++◌, Option, Some, None, refl, sym, ◌∙◌, ap, subst, append_assoc}
use Rattle.h5w_model.specs.Images.{image}
use Rattle.h5w_model.specs.Findings.{Used}
use Rattle.h5w_model.specs.declared.root.Super.{Super}
use Rattle.h5w_model.specs.declared.piece.Write.{Write}
use Rattle.h5w_model.proofs.ImageLemmas.{image-append}
use Rattle.h5w_step_laws.specs.Ranges.{Among}
use Rattle.h5w_space.specs.Space.{Space}
use Rattle.h5w_step_laws.specs.Moments.{Moment}
use Rattle.h5w_step_laws.specs.Plans.{Plan, Flush}
use Rattle.h5w_step_laws.proofs.PartLemmas.{apart_sym}
use Rattle.h5w_step_laws.proofs.PlanLaws.{plans_join}
use Rattle.h5w_flush_laws.specs.Parts.{Parts, flushed_to, pieces_of}
use Rattle.h5w_several_laws.specs.Turns.{AllFollow, AllPart, AllPlan, AreKnown, AreOff, ArePlans, AreTurns, Entry, HasPart, HasPlan, IsApart, IsOff, IsOne, IsTurn, TurnsFollow, all_then, flushed, part_of, super_then, then_as, turn_pieces, turns_lead}
use Rattle.h5w_several_laws.proofs.TurnLemmas.{turn_known}

-- each of the first is apart from all of the second
abbrev pub AreAcross : List Entry → List Entry → Type 0
AreAcross [] es = Unit {0}
AreAcross (d ∷ ds) es = IsOff d es × AreAcross ds es

-- ---- Lists of datasets

pub flip_apart : (e x : Entry) → IsApart e x → IsApart x e
flip_apart e x off = record { own = λ u v a b. apart_sym v u (off.own v u b a); held = off.other; other = off.held }

pub across_tail : (ds : List Entry) (e : Entry) (es : List Entry) → AreAcross ds (e ∷ es) → AreAcross ds es
across_tail [] e es a = tt
across_tail (d ∷ ds) e es a = (a.0.1, across_tail ds e es a.1)

pub across_head : (ds : List Entry) (e : Entry) (es : List Entry) → AreAcross ds (e ∷ es) → IsOff e ds
across_head [] e es a = tt
across_head (d ∷ ds) e es a = (flip_apart e d a.0.0, across_head ds e es a.1)

pub off_append : (m : Entry) (ds es : List Entry) → IsOff m ds → IsOff m es → IsOff m (ds ++ es)
off_append m [] es a b = b
off_append m (d ∷ ds) es a b = (a.0, off_append m ds es a.1 b)

pub all_off : (ds es : List Entry) → AreOff ds → AreOff es → AreAcross ds es → AreOff (ds ++ es)
all_off [] es a b c = b
all_off (d ∷ ds) es a b c = (off_append d ds es a.0 c.0, all_off ds es a.1 b c.1)

pub known_append : (img : List ℕ) (s : Space) (super : Super) (root : List Used) (ds es : List Entry) → AreKnown img s super root ds → AreKnown img s super root es → AreKnown img s super root (ds ++ es)
known_append img s super root [] es a b = b
known_append img s super root (d ∷ ds) es a b = (a.0, known_append img s super root ds es a.1 b)

-- ---- With another superblock

pub off_then : (m : Entry) (super : Super) (es : List Entry) → IsOff m es → IsOff m (all_then super es)
off_then m super [] a = tt
off_then m super (e ∷ es) a = (record { own = a.0.own; held = a.0.held; other = a.0.other }, off_then m super es a.1)

off_as : (super : Super) (e : Entry) (es : List Entry) → IsOff e es → IsOff (then_as super e) es
off_as super e [] a = tt
off_as super e (x ∷ es) a = (record { own = a.0.own; held = a.0.held; other = a.0.other }, off_as super e es a.1)

pub all_off_then : (super : Super) (es : List Entry) → AreOff es → AreOff (all_then super es)
all_off_then super [] a = tt
all_off_then super (e ∷ es) a = (off_as super e (all_then super es) (off_then e super es a.0), all_off_then super es a.1)

pub across_then : (super : Super) (ds es : List Entry) → AreAcross ds es → AreAcross (all_then super ds) (all_then super es)
across_then super [] es a = tt
across_then super (d ∷ ds) es a = (off_as super d (all_then super es) (off_then d super es a.0), across_then super ds es a.1)

pub record BothOff (m : Entry) (xs ys : List Entry) : Type 0 where
  pub one : IsOff m xs
  pub two : IsOff m ys

pub split_off : (m : Entry) (super : Super) (ds es : List Entry) → IsOff m (all_then super (ds ++ es)) → BothOff m (all_then super ds) (all_then super es)
split_off m super [] es a = record { one = tt; two = a }
split_off m super (d ∷ ds) es a =
    let r = split_off m super ds es a.1 in
    record { one = (a.0, r.one); two = r.two }

pub record BothKnown (img : List ℕ) (s : Space) (super : Super) (root : List Used) (xs ys : List Entry) : Type 0 where
  pub one : AreKnown img s super root xs
  pub two : AreKnown img s super root ys

pub split_known : (img : List ℕ) (s : Space) (super : Super) (root : List Used) (to : Super) (ds es : List Entry) → AreKnown img s super root (all_then to (ds ++ es)) → BothKnown img s super root (all_then to ds) (all_then to es)
split_known img s super root to [] es a = record { one = tt; two = a }
split_known img s super root to (d ∷ ds) es a =
    let r = split_known img s super root to ds es a.1 in
    record { one = (a.0, r.one); two = r.two }

pub record BothPlan (img : List ℕ) (ws : List Write) (to : Super) (xs ys : List Entry) : Type 0 where
  pub one : ArePlans img ws to xs
  pub two : ArePlans img ws to ys

pub split_plans : (img : List ℕ) (ws : List Write) (to : Super) (ds es : List Entry) → ArePlans img ws to (ds ++ es) → BothPlan img ws to ds es
split_plans img ws to [] es a = record { one = tt; two = a }
split_plans img ws to (d ∷ ds) es a =
    let r = split_plans img ws to ds es a.1 in
    record { one = (a.0, r.one); two = r.two }

-- ---- Pieces of a part before those of later ones

module _ (img : List ℕ) (ws us : List Write) (to : Super) where
  plan_more : (d : Entry) → Plan img d.moment d.held ws (then_as to d).moment d.held → HasPlan (image img ws) us (then_as to d).moment d.held → HasPlan img (ws ++ us) d.moment d.held
  plan_more d p h = record {
    super = h.super;
    plan = plans_join img d.moment (then_as to d).moment (record (d.moment) { super = h.super }) d.held d.held d.held ws us p h.plan;
  }

  part_more : (d : Entry) (f : Parts) → Plan img d.moment d.held ws (then_as to d).moment d.held → HasPart (image img ws) us (then_as to d).moment d.held f → HasPart img (ws ++ us) d.moment d.held f
  part_more d f p h =
      let m = d.moment in
      let at : Moment = record m { super = h.super } in
      let last : Moment = record (flushed_to m f) { super = h.last } in
      record {
        before = ws ++ h.before;
        own = h.own;
        own_is = h.own_is ∙ ap (λ (x : List ℕ). pieces_of x m f) (sym (image-append img ws h.before));
        behind = h.behind;
        cut = ap (λ xs. ws ++ xs) h.cut ∙ sym (append_assoc ws (h.before ++ h.own) h.behind) ∙ ap (λ xs. xs ++ h.behind) (sym (append_assoc ws h.before h.own));
        super = h.super;
        waits = plans_join img m (then_as to d).moment at d.held d.held d.held ws h.before p h.waits;
        flush = subst (λ (x : List ℕ). Flush x at d.held h.own (flushed_to at f) f.behind) (sym (image-append img ws h.before)) h.flush;
        last = h.last;
        rests = subst (λ (x : List ℕ). Plan x (flushed_to at f) f.behind h.behind last f.behind)
            (sym (ap (image img) (append_assoc ws h.before h.own) ∙ image-append img ws (h.before ++ h.own))) h.rests;
      }

  all_plans_more : (ds : List Entry) → ArePlans img ws to ds → AllPlan (image img ws) us (all_then to ds) → AllPlan img (ws ++ us) ds
  all_plans_more [] p h = tt
  all_plans_more (d ∷ ds) p h = (plan_more d p.0 h.0, all_plans_more ds p.1 h.1)

  all_parts_more : (ds : List Entry) (ps : List (Option Parts)) → ArePlans img ws to ds → AllPart (image img ws) us (all_then to ds) ps → AllPart img (ws ++ us) ds ps
  all_parts_more [] ps p h = tt
  all_parts_more (d ∷ ds) [] p h = tt
  all_parts_more (d ∷ ds) (None ∷ ps) p h = (plan_more d p.0 h.0, all_parts_more ds ps p.1 h.1)
  all_parts_more (d ∷ ds) (Some f ∷ ps) p h = (part_more d f p.0 h.0, all_parts_more ds ps p.1 h.1)

-- the part of a dataset itself
part_first : (img : List ℕ) (ws us : List Write) (e : Entry) (f : Parts) → ws ≡ part_of img e f → Flush img e.moment e.held ws (flushed e f).moment f.behind → HasPlan (image img ws) us (flushed e f).moment f.behind → HasPart img (ws ++ us) e.moment e.held f
part_first img ws us e f is flush h = record {
  before = [];
  own = ws;
  own_is = is;
  behind = us;
  cut = refl;
  super = e.moment.super;
  waits = (refl, refl);
  flush = flush;
  last = h.super;
  rests = h.plan;
}

none_yet : (img : List ℕ) (ds : List Entry) → AllPlan img [] ds
none_yet img [] = tt
none_yet img (d ∷ ds) = (record { super = d.moment.super; plan = (refl, refl) }, none_yet img ds)

-- ---- All parts

pub record State (img : List ℕ) (s : Space) (super : Super) (root : List Used) (done es : List Entry) : Type 0 where
  pub passed : AreKnown img s super root done
  pub known : AreKnown img s super root es
  pub apart : AreOff done
  pub off : AreOff es
  pub across : AreAcross done es

pub turned : (img : List ℕ) (s : Space) (super : Super) (root : List Used) (done : List Entry) (e : Entry) (es : List Entry) (f : Parts) (u : Space) → (st : State img s super root done (e ∷ es)) → IsTurn img e (done ++ es) f u
    → State (image img (part_of img e f)) u (super_then e f) root (flushed e f ∷ all_then (super_then e f) done) (all_then (super_then e f) es)
turned img s super root done e es f u st turn =
    let to : Super = super_then e f in
    let img2 : List ℕ = image img (part_of img e f) in
    let same : e.moment.root ≡ root = st.known.0.root_is in
    let own = subst (λ (r : List Used). AreKnown img2 u to r (flushed e f ∷ [])) same (turn.one, tt) in
    let others = split_known img2 u to root to done es (subst (λ (r : List Used). AreKnown img2 u to r (all_then to (done ++ es))) same turn.others) in
    let off = split_off (flushed e f) to done es turn.off in
    record {
      passed = (own.0, others.one);
      known = others.two;
      apart = (off.one, all_off_then to done st.apart);
      off = all_off_then to es st.off.1;
      across = (off.two, across_then to done es (across_tail done e es st.across));
    }

follow : (img : List ℕ) (s t : Space) (super : Super) (root : List Used) (done es : List Entry) (ps : List (Option Parts)) → State img s super root done es → ((x : Used) → Among x root → x.chunk ≡ false)
    → AreTurns img s done es ps t → AllFollow img done es ps root t
follow img s t super root done [] [] st blocks a = record {
  plans = none_yet img done;
  parts = tt;
  super = super;
  known = subst (λ (x : Space). AreKnown img x super root done) (sym a) st.passed;
  off = st.apart;
}
follow img s t super root done [] (p ∷ ps) st blocks a = absurd a
follow img s t super root done (e ∷ es) [] st blocks a = absurd a
follow img s t super root done (e ∷ es) (None ∷ ps) st blocks a =
    let next : State img s super root (e ∷ done) es = record {
      passed = (st.known.0, st.passed);
      known = st.known.1;
      apart = (across_head done e es st.across, st.apart);
      off = st.off.1;
      across = (st.off.0, across_tail done e es st.across);
    } in
    let r = follow img s t super root (e ∷ done) es ps next blocks a in
    record { plans = r.plans.1; parts = (r.plans.0, r.parts); super = r.super; known = r.known; off = r.off }
follow img s t super root done (e ∷ es) (Some f ∷ ps) st blocks a =
    let one = st.known.0 in
    let to : Super = super_then e f in
    let ws : List Write = part_of img e f in
    let all = known_append img s super root done es st.passed st.known.1 in
    let seen : AreKnown img s e.moment.super e.moment.root (done ++ es) =
    subst (λ (x : Super). AreKnown img s x e.moment.root (done ++ es)) (sym one.super_is) (subst (λ (us : List Used). AreKnown img s super us (done ++ es)) (sym one.root_is) all) in
    let own_one : IsOne img s e.moment.super e.moment.root e = record { knows = one.knows; super_is = refl; root_is = refl; held_is = one.held_is; cols = one.cols } in
    let turn =
    turn_known img e (done ++ es) f s a.0 own_one seen (off_append e done es (across_head done e es st.across) st.off.0) (all_off done es st.apart st.off.1 (across_tail done e es st.across))
    (λ x b. blocks x (subst (λ (us : List Used). Among x us) one.root_is b)) a.1 a.2 in
    let next = turned img s super root done e es f a.0 st turn in
    let r = follow (image img ws) a.0 t to root (flushed e f ∷ all_then to done) (all_then to es) ps next blocks a.3 in
    let us : List Write = turn_pieces (image img ws) (all_then to es) ps in
    let plans = split_plans img ws to done es turn.plans in
    record {
      plans = all_plans_more img ws us to done plans.one r.plans.1;
      parts = (part_first img ws us e f refl turn.flush r.plans.0, all_parts_more img ws us to es ps plans.two r.parts);
      super = r.super;
      known = subst (λ (x : List ℕ). AreKnown x t r.super root (turns_lead (image img ws) (flushed e f ∷ all_then to done) (all_then to es) ps)) (sym (image-append img ws us)) r.known;
      off = r.off;
    }

pub turns_follow : TurnsFollow
turns_follow img es ps s t super root known off blocks a =
    follow img s t super root [] es ps (record { passed = tt; known = known; apart = tt; off = off; across = tt }) blocks a
