-- What is left of a new file that is not whole, and what one is that is.
use Rattle.std.proofs.Common.{◌≡◌, inl, inr, ℕ, ◌≤◌, List, [], Option, Some, None, refl, sym, ap, ◌∙◌, subst, arith}
use Rattle.std.specs.Prelude.{IfSome, length, map, ◌∷◌, Result, Err, ◌⊎◌, option_map}
use Rattle.std.specs.List.{All, AllByRecursion}
use Rattle.std.proofs.lemmas.List.{length-map}
use Rattle.std.proofs.lemmas.List.Elements.{All-cons, All-nil, All-weaker}
use Rattle.h5w_model.specs.Images.{image}
use Rattle.h5w_model.specs.Tables.{format_limits}
use Rattle.h5w_model.specs.declared.piece.Write.{Write}
use Rattle.h5w_creation_laws.proofs.BornLemmas.{born}
use Rattle.h5w_image.specs.View.{ImageView, Wrote}
use Rattle.h5w_looks.specs.Still.{IsStill}
use Rattle.h5w_space.specs.declared.Full.{Full}
use Rattle.h5w_packing.specs.Jobs.{PackingView, writes_of}
use Rattle.h5w_packing.specs.Plans.{IsOut, IsPlanned, wanted_of}
use Rattle.h5w_packing.specs.SoFar.{AreSources, IsSource}
use Rattle.h5w_packing.proofs.WholeLemmas.{packed_whole}
use Rattle.h5w_cache.specs.declared.plan.PlanError.{PlanError}
use Rattle.h5w_cache.specs.declared.plan.PlanError.TheVariants as plans
use Rattle.h5w_survey.specs.Surveys.{IsSurvey, IsSurveyOf, IsSurveyed}
use Rattle.h5w_packing.specs.declared.source.Source.{Source}
use Rattle.h5w_repack.specs.Copies.{AreBehind, AreDone}
use Rattle.h5w_repack.specs.Errors.{of_copy, of_plan}
use Rattle.h5w_repack.specs.Packed.{ArePacks, IsNoFile, IsNotPacked, IsOutOf, IsPacked, MayBeLate}
use Rattle.h5w_repack.specs.Pairs.{PairView}
use Rattle.h5w_repack.specs.declared.error.CopyError.{CopyError}
use Rattle.h5w_repack.specs.declared.error.CopyError.TheVariants as copies
use Rattle.h5w_repack.specs.declared.error.RepackError.TheVariants as errors
use Rattle.h5w_repack.proofs.InsideLemmas.{jobs_inside}

-- pieces that all stand behind the superblock's place make no file
pub unborn : (ws : List Write) → AreBehind ws → IsNoFile (image [] ws)
unborn ws behind name = born format_limits name ws (All-weaker (λ (w : Write). 48 ≤ w.at) (λ (w : Write). 8 ≤ w.at) (λ w h. omega (arith, h)) ws behind)

pub empty_unborn : IsNoFile []
empty_unborn = unborn [] (All-nil (λ (w : Write). 48 ≤ w.at))

-- the bytes of an image without bytes, once these pieces were written
pub written_bytes : (u v : ImageView) (ws : List Write) (b : List ℕ) → IfSome u.bytes (λ x. x ≡ []) → Wrote ws u v → v.bytes ≡ Some b → b ≡ image [] ws
written_bytes u v ws b empty wrote is = go u.bytes refl empty
  where
    some_list : (x y : List ℕ) → ◌≡◌ {A = Option (List ℕ)} (Some x) (Some y) → x ≡ y
    some_list x y e = cc

    go : (o : Option (List ℕ)) → u.bytes ≡ o → IfSome o (λ x. x ≡ []) → b ≡ image [] ws
    go None e h = absurd (none (sym is ∙ wrote.bytes ∙ ap (option_map (λ x. image x ws)) e))
      where
        none : ◌≡◌ {A = Option (List ℕ)} (Some b) None → ⊥
        none e = cc
    go (Some x) e h = some_list b (image [] ws) (sym is ∙ wrote.bytes ∙ ap (option_map (λ x. image x ws)) (e ∙ ap Some h))

pub unborn_bytes : (u v : ImageView) (ws : List Write) (b : List ℕ) → IfSome u.bytes (λ x. x ≡ []) → AreBehind ws → Wrote ws u v → v.bytes ≡ Some b → IsNoFile b
unborn_bytes u v ws b empty behind wrote is = subst IsNoFile (sym (written_bytes u v ws b empty wrote is)) (unborn ws behind)

-- ---- All is done

-- what was surveyed, planned and done is packed
pub packed_by : (img : List ℕ) (names : List (List ℕ)) (limit : ℕ) (ss : List Source) (p : PackingView) (u v : PairView) (to : List ℕ) → IsStill u.from img → IsSurveyOf img names ss → IsPlanned (map wanted_of ss) limit p
    → AreDone p.left u v → to ≡ image [] (writes_of img p.left) → IsPacked img names limit p.ranges to
packed_by img names limit ss p u v to still found planned done is = record {
  source = found.shown;
  file = found.file;
  wanted = map wanted_of ss;
  are = found.are;
  packing = p;
  planned = planned;
  ranges_are = refl;
  packed = packed_whole img names found.file.valid.0 found.shown (map wanted_of ss) limit p to still.short found.file.valid.1 found.file.shows found.are planned is;
}

-- the pieces that were written are those of the plan
pub writes_are : (img : List ℕ) (names : List (List ℕ)) (limit : ℕ) (ss : List Source) (p : PackingView) (u v : PairView) → IsStill u.from img → IsSurveyOf img names ss → IsPlanned (map wanted_of ss) limit p → (done : AreDone p.left u v)
    → done.writes ≡ writes_of img p.left
writes_are img names limit ss p u v still found planned done =
    done.are img still (jobs_inside img names found.file.valid.0 found.shown (map wanted_of ss) limit p found.file.valid.1 found.file.shows found.are planned)

-- a range that would end past the limit
pub out_by : (img : List ℕ) (names : List (List ℕ)) (limit : ℕ) (ss : List Source) (full : Full) → IsSurveyOf img names ss → IsOut (map wanted_of ss) limit full → IsOutOf img names limit full
out_by img names limit ss full found out = record { source = found.shown; file = found.file; wanted = map wanted_of ss; are = found.are; out = out }

-- what a survey found can be planned
sources_each : (names : List (List ℕ)) (ss : List Source) → map (λ (s : Source). s.name) ss ≡ names → AllByRecursion IsSurveyed ss → AllByRecursion (λ (name : List ℕ). length name ≤ 255) names → All IsSource ss
sources_each names ss e h short = go ss h (subst (λ (ns : List (List ℕ)). AllByRecursion (λ (name : List ℕ). length name ≤ 255) ns) (sym e) short)
  where
    go : (ss : List Source) → AllByRecursion IsSurveyed ss → AllByRecursion (λ (name : List ℕ). length name ≤ 255) (map (λ (s : Source). s.name) ss) → All IsSource ss
    go [] h short = All-nil IsSource
    go (s ∷ ss) h short = All-cons IsSource s ss (record { grid = (h.0).grid; listed = (h.0).listed; few = (h.0).few; named = short.0 }) (go ss h.1 short.1)

pub names_count : (names : List (List ℕ)) (ss : List Source) → IsSurvey names ss → length ss ≡ length names
names_count names ss h = sym (length-map ss (λ (s : Source). s.name)) ∙ ap length h.named

pub are_sources : (names : List (List ℕ)) (ss : List Source) → ArePacks names → IsSurvey names ss → AreSources ss
are_sources names ss a h =
    let count = names_count names ss h in
    record { some = omega (arith, count, a.some); few = omega (arith, count, a.few); each = sources_each names ss h.named h.each a.each }

pub copy_error : (img : List ℕ) (names : List (List ℕ)) (limit : ℕ) (e : CopyError) → IsNotPacked img names limit (of_copy e)
copy_error img names limit copies.From = tt
copy_error img names limit copies.To = tt
copy_error img names limit copies.OutOfMemory = tt

-- an error of the plan
pub plan_error : (img : List ℕ) (names : List (List ℕ)) (limit : ℕ) (e : PlanError) → ((full : Full) → e ≡ plans.Full full → IsOutOf img names limit full) → IsNotPacked img names limit (of_plan e)
plan_error img names limit (plans.Full full) h = h full refl
plan_error img names limit plans.OutOfMemory h = tt

-- ---- The new file as an image alone

pub wrote_plain : (u v : ImageView) (ws : List Write) → Wrote ws (record u { disk = None }) (record v { disk = None }) → Wrote ws u v
wrote_plain u v ws p = record { bytes = p.bytes; history = p.history; alone = p.alone; faults = p.faults; through = p.through; pieces = p.pieces; end = p.end }

-- want of memory comes before the first write
pub late_or_none : (W : Type 0) (e : CopyError) → (e ≡ copies.OutOfMemory → W) → MayBeLate (of_copy e) ⊎ W
late_or_none W copies.From h = inl tt
late_or_none W copies.To h = inl tt
late_or_none W copies.OutOfMemory h = inr (h refl)

pub same_error : {A E : Type 0} (x y : E) → ◌≡◌ {A = Result A E} (Err x) (Err y) → x ≡ y
same_error x y e = cc

pub copy_from : (e : CopyError) → of_copy e ≡ errors.From → e ≡ copies.From
copy_from copies.From h = refl
copy_from copies.To h = absurd cc
copy_from copies.OutOfMemory h = absurd cc

pub copy_to : (e : CopyError) → of_copy e ≡ errors.To → e ≡ copies.To
copy_to copies.From h = absurd cc
copy_to copies.To h = refl
copy_to copies.OutOfMemory h = absurd cc
