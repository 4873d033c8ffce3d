-- Pieces of one dataset's flush pass the others by.
use Rattle.std.proofs.Common.{◌≡◌, ℕ, List, [], ◌∷◌, ◌++◌, sym, ◌∙◌, subst}
use Rattle.std.specs.Prelude.{map}
use Rattle.h5w_model.specs.Images.{apply, image}
use Rattle.h5w_model.specs.Findings.{Used}
use Rattle.h5w_model.specs.declared.root.Super.{Super}
use Rattle.h5w_model.specs.declared.piece.Write.{Write}
use Rattle.h5w_step_laws.specs.Ranges.{Among, AllAmong}
use Rattle.h5w_step_laws.proofs.RangeLemmas.{among_left, among_right}
use Rattle.h5w_space.specs.Space.{Space}
use Rattle.h5w_step_laws.specs.Moments.{Moment, Represents}
use Rattle.h5w_step_laws.specs.Plans.{Flush, Plan}
use Rattle.h5w_step_laws.proofs.StepRepresents.{step_represents}
use Rattle.h5w_several_laws.specs.Beside.{IsBeside, own_of, whole_of}
use Rattle.h5w_several_laws.specs.Turns.{AreKnown, ArePlans, Entry, IsOne, all_then, owns, then_as, told}
use Rattle.h5w_several_laws.proofs.BesideLemmas.{beside_stays, step_beside, step_misses_own}
use Rattle.h5w_several_laws.proofs.TurnLemmas.{whole_among}
use Rattle.h5w_writer.specs.PartLaws.{ArePassed}
use Rattle.h5w_writer.specs.Told.{moved_to}

-- each piece of a flush misses what another dataset has, whose file it leaves but for the superblock
pub flush_passes : (img name other : List ℕ) (m n e : Moment) (held after : List Used) (ws : List Write) → Represents img name m → Flush img m held ws n after → Represents img other e → IsBeside e m → ArePassed img other e ws
flush_passes img name other m n e held after [] r f o b = tt
flush_passes img name other m n e held after (w ∷ ws) r f o b =
    let misses = step_misses_own img name m f.0 e held f.1 w r f.2 b in
    let between : Moment = record e { super = f.0.super } in
    let step = step_beside img name other m f.0 e held f.1 w r f.2 o b in
    let next = step_represents img other e e.behind w between e.behind o step in (
      (λ u a block. misses u a),
      f.0.super,
      next,
      flush_passes (apply w img) name other f.0 n between f.1 after ws (step_represents img name m held w f.0 f.1 r f.2) f.4 next (beside_stays img m f.0 e held f.1 w f.2 b),
    )

-- it does not depend on the superblock, and holds of pieces one after another
pub passed_moved : (img name : List ℕ) (m : Moment) (root : Super) (ws : List Write) → ArePassed img name (moved_to root m) ws → ArePassed img name m ws
passed_moved img name m root [] p = tt
passed_moved img name m root (w ∷ ws) p = p

pub passed_joined : (img name : List ℕ) (m : Moment) (root : Super) (ws vs : List Write) → ArePassed img name m ws → ArePassed (image img ws) name (moved_to root m) vs → ArePassed img name m (ws ++ vs)
passed_joined img name m root [] vs p q = passed_moved img name m root vs q
passed_joined img name m root (w ∷ ws) vs p q = (p.0, p.1, p.2, passed_joined (apply w img) name (moved_to p.1 m) root ws vs p.3 q)

-- ---- What a part of a flush is for another dataset

-- Its pieces are a plan, and pass it by; and it is known then.
pub record IsPassedBy (img : List ℕ) (ws : List Write) (root : Super) (t : Space) (us : List Used) (x : Entry) : Type 0 where
  pub plan : Plan img x.moment x.held ws (moved_to root x.moment) x.held
  pub passed : ArePassed img x.name x.moment ws
  pub one : IsOne (image img ws) t root us (then_as root x)

abbrev pub ArePassedBy : List ℕ → List Write → Super → Space → List Used → List Entry → Type 0
ArePassedBy img ws root t us [] = Unit {0}
ArePassedBy img ws root t us (x ∷ xs) = IsPassedBy img ws root t us x × ArePassedBy img ws root t us xs

-- a file that was told of all these has each of them beside it
pub beside_told : (img : List ℕ) (m : Moment) (s : Space) (super : Super) (us : List Used) (os : List Entry) → m.super ≡ super → m.root ≡ us → (x : Entry) → AllAmong (own_of x.moment) (owns os) → IsOne img s super us x → IsBeside x.moment (told m os)
beside_told img m s super us os same ranges x inside one =
    let wholes : List Used = map whole_of (owns os) in
    record {
      super = one.super_is ∙ sym same;
      root = λ u a block. among_left u m.root wholes (subst (λ (vs : List Used). Among u vs) (one.root_is ∙ sym ranges) a);
      own = λ u a. among_right (whole_of u) m.root wholes (whole_among (owns os) u (inside u a));
    }

-- of the flush of a file that was told of all these
pub all_passed : (img name : List ℕ) (m n : Moment) (held after : List Used) (ws : List Write) (root : Super) (s t : Space) (super : Super) (us : List Used) (os : List Entry) → Represents img name (told m os) → Flush img (told m os) held ws n after
    → m.super ≡ super → m.root ≡ us → (xs : List Entry) → AllAmong (owns xs) (owns os) → AreKnown img s super us xs → ArePlans img ws root xs → AreKnown (image img ws) t root us (all_then root xs) → ArePassedBy img ws root t us xs
all_passed img name m n held after ws root s t super us os r f same ranges [] inside known planning then = tt
all_passed img name m n held after ws root s t super us os r f same ranges (x ∷ xs) inside known planning then =
    let one = known.0 in
    let beside = beside_told img m s super us os same ranges x (λ u a. inside u (among_left u (own_of x.moment) (owns xs) a)) one in (
      record { plan = planning.0; passed = flush_passes img name x.name (told m os) n x.moment held after ws r f one.knows.file beside; one = then.0 },
      all_passed img name m n held after ws root s t super us os r f same ranges xs (λ u a. inside u (among_right u (own_of x.moment) (owns xs) a)) known.1 planning.1 then.1,
    )
