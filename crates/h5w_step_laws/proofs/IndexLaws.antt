-- What an index is known by, and what leaves it.
use Rattle.std.proofs.Common.{◌≡◌, ℕ, ◌≤◌, List, ◌++◌, length, Result, Ok, refl, sym, ◌∙◌, ap, subst}
use Rattle.h5w_model.specs.Images.{apply}
use Rattle.h5w_model.specs.Programs.{Prog, eval, visits, Visit, Same}
use Rattle.h5w_model.specs.Datasets.{Described}
use Rattle.h5w_model.specs.Tables.{InPlace, in_place, address_behind}
use Rattle.h5w_model.specs.Findings.{Used, Visited, chunk_bytes}
use Rattle.h5w_model.specs.declared.cell.Key.{Key}
use Rattle.h5w_model.specs.declared.piece.Write.{Write}
use Rattle.h5w_laws.proofs.ProgramLemmas.{same_eval, same_visits}
use Rattle.h5w_step_laws.specs.Ranges.{AllEndBy, AllWithin, MissesBlocks, blocks_of}
use Rattle.h5w_step_laws.specs.Indexes.{IsNamed, behind_visit, IsAnswered, IsIndex, CheckedIndex, IndexOfParts, IndexByEnd, IndexMissed, VisitedBehind, BehindMissed}
use Rattle.h5w_step_laws.proofs.RangeLemmas.{among_left, among_right, ends_left, ends_right, within_own, missed_stay}
use Rattle.h5w_step_laws.proofs.ArrayVisits.{Answers}
use Rattle.h5w_step_laws.proofs.IndexVisits.{BehindKnown, behind_known, belong, named}

pub answer_of : (img : List ℕ) (bytes : ℕ) (us : List Used) (blocks : InPlace) (key : Key) → Answers img bytes us (address_behind blocks key) → IsAnswered img bytes us blocks key
answer_of img bytes us blocks key a = record { address = a.address; is = a.is; chunk = a.chunk; within = a.within }

pub index_of_parts : IndexOfParts
index_of_parts img end d blocks behind read ends h =
    let bytes : ℕ = chunk_bytes d in
    let fixed : List Used = blocks_of (visits img (in_place d)) in
    let b = belong img d in
    let known = behind_known img end bytes blocks behind (b.sound blocks read) h in
    let t = b.build end blocks behind read ends known.told in
    record {
      checked = t.other end t.ends;
      visited = t.visited;
      blocks = blocks;
      read = read;
      fixed_are = refl;
      stands = h;
      answered = λ key n. answer_of img bytes behind blocks key (known.keys key (named img d blocks key n read));
      ends = t.ends;
      some = t.some;
    }

pub checked_index : CheckedIndex
checked_index img end d ranges h =
    let p = (belong img d).parts end ranges h in
    record {
      fixed = blocks_of (visits img (in_place d));
      behind = p.behind;
      parts = sym p.parts;
      index = index_of_parts img end d p.blocks p.behind p.read p.ends p.of_behind;
    }

-- ---- Another end

pub behind_by_end : (img : List ℕ) (end other bytes : ℕ) (blocks : InPlace) (behind : List Used) → BehindKnown img end bytes blocks behind → AllEndBy other behind
    → eval img (behind_visit other bytes blocks) ≡ Ok behind
behind_by_end img end other bytes blocks behind k ends = k.told.other other ends

-- the same blocks in place, said of the list that they are
pub index_as : (img : List ℕ) (end : ℕ) (d : Described) (blocks : InPlace) (fixed behind : List Used) → fixed ≡ blocks_of (visits img (in_place d)) → eval img (in_place d) ≡ Ok blocks → AllEndBy end fixed
    → eval img (behind_visit end (chunk_bytes d) blocks) ≡ Ok behind → IsIndex img end d fixed behind
index_as img end d blocks fixed behind are read ends h =
    subst (λ (xs : List Used). IsIndex img end d xs behind) (sym are)
    (index_of_parts img end d blocks behind read (subst (λ (xs : List Used). AllEndBy end xs) are ends) h)

pub index_by_end : IndexByEnd
index_by_end img end other d fixed behind i ends =
    let bytes : ℕ = chunk_bytes d in
    let known = behind_known img end bytes i.blocks behind ((belong img d).sound i.blocks i.read) i.stands in
    index_as img other d i.blocks fixed behind i.fixed_are i.read (ends_left other fixed behind ends)
    (behind_by_end img end other bytes i.blocks behind known (ends_right other fixed behind ends))

-- ---- A write that misses

pub misses_left : (w : Write) (us vs : List Used) → MissesBlocks w (us ++ vs) → MissesBlocks w us
misses_left w us vs h u a b = h u (among_left u us vs a) b

pub misses_right : (w : Write) (us vs : List Used) → MissesBlocks w (us ++ vs) → MissesBlocks w vs
misses_right w us vs h u a b = h u (among_right u us vs a) b

-- the blocks in place themselves
pub place_same : (w : Write) (img : List ℕ) (end : ℕ) (d : Described) (fixed : List Used) → fixed ≡ blocks_of (visits img (in_place d)) → end ≤ length img → AllEndBy end fixed → MissesBlocks w fixed
    → Same img (apply w img) (visits img (in_place d))
place_same w img end d fixed are inside ends misses =
    missed_stay w img end fixed (visits img (in_place d)) inside ends
    (subst (λ (xs : List Used). AllWithin xs (visits img (in_place d))) (sym are) (within_own (visits img (in_place d)))) misses

pub behind_same : (w : Write) (img : List ℕ) (end bytes : ℕ) (us : List Used) (blocks : InPlace) (key : Key) → end ≤ length img → AllEndBy end us → MissesBlocks w us → IsAnswered img bytes us blocks key
    → Same img (apply w img) (visits img (address_behind blocks key))
behind_same w img end bytes us blocks key inside ends misses a = missed_stay w img end us (visits img (address_behind blocks key)) inside ends a.within misses

pub visited_behind : VisitedBehind
visited_behind img other end d blocks behind read h =
    let bytes : ℕ = chunk_bytes d in
    let known = behind_known img end bytes blocks behind ((belong other d).sound blocks read) h in
    record {
      stands = h;
      visited = known.told.visited;
      answered = λ key n. answer_of img bytes behind blocks key (known.keys key (named other d blocks key n read));
      ends = known.told.ends;
      some = known.told.some;
    }

pub behind_missed : BehindMissed
behind_missed w img other end d blocks behind read b inside misses =
    let bytes : ℕ = chunk_bytes d in
    let p : Visited = behind_visit end bytes blocks in
    let same = missed_stay w img end behind (visits img p) inside b.ends b.visited misses in
    record {
      left = visited_behind (apply w img) other end d blocks behind read (same_eval img (apply w img) p same ∙ b.stands);
      answers = λ key n. same_eval img (apply w img) (address_behind blocks key) (behind_same w img end bytes behind blocks key inside b.ends misses (b.answered key n));
    }

pub index_missed : IndexMissed
index_missed w img end d fixed behind i inside misses =
    let bytes : ℕ = chunk_bytes d in
    let new : List ℕ = apply w img in
    let p : Prog (Result InPlace _) = in_place d in
    let ends_fixed = ends_left end fixed behind i.ends in
    let ends_behind = ends_right end fixed behind i.ends in
    let off_behind = misses_right w fixed behind misses in
    let here = place_same w img end d fixed i.fixed_are inside ends_fixed (misses_left w fixed behind misses) in
    let read : eval new p ≡ Ok i.blocks = same_eval img new p here ∙ i.read in
    let stands = behind_missed w img img end d i.blocks behind i.read (visited_behind img img end d i.blocks behind i.read i.stands) inside off_behind in
    let are : fixed ≡ blocks_of (visits new p) = i.fixed_are ∙ ap (λ (vs : List Visit). blocks_of vs) (sym (same_visits img new p here)) in
    let same : (key : Key) → IsNamed d key → Same img new (visits img (address_behind i.blocks key)) =
    λ key n. behind_same w img end bytes behind i.blocks key inside ends_behind off_behind (i.answered key n) in
    record {
      left = index_as new end d i.blocks fixed behind are read ends_fixed stands.left.stands;
      read = read;
      same_place = here;
      same_behind = same;
      answers = λ key n. same_eval img new (address_behind i.blocks key) (same key n);
      looks = λ key n. same_visits img new (address_behind i.blocks key) (same key n);
    }
