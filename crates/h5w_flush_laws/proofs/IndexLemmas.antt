-- The index of a flush: what stands behind its blocks in place, and these written one after another.
use Rattle.std.proofs.Common.{◌≡◌, ◌≢◌, ◌⊎◌, ℕ, ◌<◌, ◌≤◌, true, false, List, [], ◌∷◌, ◌++◌, length, get_or, Ok, refl, sym, ◌∙◌, subst, inl, inr, append-nil}
use Rattle.std.specs.Prelude.{map}
use Rattle.h5w_model.specs.Numbers.{undefined}
use Rattle.h5w_model.specs.Images.{apply, image, AllMiss}
use Rattle.h5w_model.specs.Programs.{eval, visits}
use Rattle.h5w_model.specs.Datasets.{Described}
use Rattle.h5w_model.specs.Tables.{InPlace, in_place, needed_keys}
use Rattle.h5w_model.specs.Findings.{Used, chunk_bytes}
use Rattle.h5w_model.specs.Prefixed.{StaysDefined}
use Rattle.h5w_model.specs.declared.cell.Key.{Key}
use Rattle.h5w_model.specs.declared.piece.Write.{Write}
use Rattle.h5w_step_laws.specs.Ranges.{AllWithin, Among, AllAmong, AllEndBy, AreApart, Disjoint, MissesBlocks}
use Rattle.h5w_step_laws.specs.Indexes.{IsBehind, IsAnswered, behind_visit}
use Rattle.h5w_step_laws.proofs.RangeLemmas.{among_left, among_right, among_split}
use Rattle.h5w_step_laws.proofs.IndexLaws.{behind_missed}
use Rattle.h5w_step_laws.specs.Moments.{Moment, all_used, Represents, HasCells}
use Rattle.h5w_step_laws.specs.Steps.{LiesIn, OffAll, Clear, Step}
use Rattle.h5w_step_laws.proofs.PartLemmas.{apart_sym}
use Rattle.h5w_step_laws.proofs.MomentLemmas.{inside, lies_missed, header_of, in_behind, parts_of}
use Rattle.h5w_step_laws.proofs.StepRepresents.{MissesEach, step_represents, fixed_missed}
use Rattle.h5w_step_laws.proofs.WriterLaws.{naming_switches}
use Rattle.h5w_flush_laws.specs.Knowledge.{AnswersBy}
use Rattle.h5w_flush_laws.specs.Parts.{SaysInPlace, EachSays}
use Rattle.h5w_flush_laws.proofs.KeyLemmas.{table_behind}
use Rattle.h5w_flush_laws.proofs.PartLemmas.{apart_kinds}
use Rattle.h5w_flush_laws.proofs.EarlyLemmas.{Stage, header_kept, kept_itself, kept_on}

-- ---- Behind the blocks in place

-- what is told of what stands behind some blocks in place does not depend on rows, and not on the index's own address
pub behind_of_other : (img : List ℕ) (end : ℕ) (d e : Described) (blocks : InPlace) (behind : List Used) → e.layout.index ≡ d.layout.index → chunk_bytes e ≡ chunk_bytes d
    → IsBehind img end d blocks behind → IsBehind img end e blocks behind
behind_of_other img end d e blocks behind same bytes b = record {
  stands = subst (λ n. eval img (behind_visit end n blocks) ≡ Ok behind) (sym bytes) b.stands;
  visited = subst (λ n. AllWithin behind (visits img (behind_visit end n blocks))) (sym bytes) b.visited;
  answered = λ key n. subst (λ c. IsAnswered img c behind blocks key) (sym bytes) (b.answered key (λ is. n (same ∙ is)));
  ends = b.ends;
  some = λ h. b.some (subst (λ n. 0 < n) bytes h);
}

-- A write that misses its ranges leaves it and each key's address.
pub record BehindBy (img : List ℕ) (end : ℕ) (d : Described) (blocks : InPlace) (behind : List Used) (f : Key → ℕ) : Type 0 where
  pub stands : IsBehind img end d blocks behind
  pub answers : AnswersBy img d blocks f

pub behind_by_missed : (w : Write) (img other : List ℕ) (end : ℕ) (d : Described) (blocks : InPlace) (behind : List Used) (f : Key → ℕ) → eval other (in_place d) ≡ Ok blocks
    → BehindBy img end d blocks behind f → end ≤ length img → MissesBlocks w behind → BehindBy (apply w img) end d blocks behind f
behind_by_missed w img other end d blocks behind f read b fits misses =
    let left = behind_missed w img other end d blocks behind read b.stands fits misses in
    record { stands = left.left; answers = λ key n. left.answers key n ∙ b.answers key n }

-- ---- The blocks in place, one after another

-- the file with these ranges of its index, and the map's addresses
abbrev pub turned : Moment → List Used → List Used → (Key → ℕ) → Moment
turned m fixed behind f = record m { fixed = fixed; behind = behind; table = map f (needed_keys m.dataset) }

-- what holds before a block in place is written
pub record Turning (img name : List ℕ) (m : Moment) (held fixed behind : List Used) (blocks : InPlace) (f : Key → ℕ) : Type 0 where
  pub file : Represents img name m
  pub added : List Used
  pub begins : fixed ≡ m.fixed ++ added
  pub stands : BehindBy img m.super.end m.dataset blocks behind f
  pub off : OffAll held fixed
  pub clear : Clear held (turned m fixed behind f)
  pub ends : AllEndBy m.super.end fixed
  pub apart : Disjoint (all_used (turned m fixed behind f))
  pub addresses : (k : ℕ) → k < length m.table → StaysDefined (get_or m.table k undefined) (get_or (map f (needed_keys m.dataset)) k undefined)
  pub cells : HasCells img (turned m fixed behind f)

pub lies_among : (w : Write) (us vs : List Used) → AllAmong us vs → LiesIn w us → LiesIn w vs
lies_among w us vs sub l = record { used = l.used; among = sub l.used l.among; from = l.from; to = l.to }

pub turn : (img name : List ℕ) (m : Moment) (held fixed behind : List Used) (blocks : InPlace) (f : Key → ℕ) (w : Write) → Turning img name m held fixed behind blocks f → LiesIn w m.fixed
    → SaysInPlace (apply w img) m.dataset blocks fixed → Step img m held w (turned m fixed behind f) (behind ++ held)
turn img name m held fixed behind blocks f w t lies says =
    naming_switches img name m held w blocks (turned m fixed behind f) t.file t.off t.clear (record {
      is = refl;
      inside = lies;
      says = says.says;
      fixed = says.looks;
      added = t.added;
      begins = t.begins;
      ends = t.ends;
      behind = t.stands.stands.stands;
      apart = t.apart;
      table = table_behind img m.dataset blocks f (header_of img name m t.file).few t.stands.answers;
      addresses = t.addresses;
      cells = t.cells;
    })

-- a block in place misses what is to stand behind
pub turn_misses : (img name : List ℕ) (m : Moment) (held fixed behind : List Used) (blocks : InPlace) (f : Key → ℕ) (w : Write) → Turning img name m held fixed behind blocks f → LiesIn w m.fixed → MissesEach w behind
turn_misses img name m held fixed behind blocks f w t lies =
    lies_missed w fixed behind (lies_among w m.fixed fixed (λ u a. subst (λ (us : List Used). Among u us) (sym t.begins) (among_left u m.fixed t.added a)) lies) (parts_of (turned m fixed behind f) t.apart).fixed

pub turned_on : (img name : List ℕ) (m : Moment) (held fixed behind : List Used) (blocks : InPlace) (f : Key → ℕ) (w : Write) → Turning img name m held fixed behind blocks f → LiesIn w m.fixed
    → SaysInPlace (apply w img) m.dataset blocks fixed → Turning (apply w img) name (turned m fixed behind f) (behind ++ held) fixed behind blocks f
turned_on img name m held fixed behind blocks f w t lies says =
    let next : Moment = turned m fixed behind f in
    let there = step_represents img name m held w next (behind ++ held) t.file (turn img name m held fixed behind blocks f w t lies says) in
    record {
      file = there;
      added = [];
      begins = sym (append-nil fixed);
      stands = behind_by_missed w img (apply w img) m.super.end m.dataset blocks behind f says.says t.stands (inside img name m t.file) (λ u a b. turn_misses img name m held fixed behind blocks f w t lies u a);
      off = λ u v a b. off u v (among_split u behind held a) b;
      clear = λ u v a block b chunk. clear u v (among_split u behind held a) block b chunk;
      ends = t.ends;
      apart = t.apart;
      addresses = λ k low defined. refl;
      cells = there.cells;
    }
  where
    off : (u v : Used) → Among u behind ⊎ Among u held → Among v fixed → AreApart u v
    off u v (inl a) b = apart_sym v u ((parts_of (turned m fixed behind f) t.apart).fixed v u b a)
    off u v (inr a) b = t.off u v a b

    clear : (u v : Used) → Among u behind ⊎ Among u held → u.chunk ≡ false → Among v behind → v.chunk ≡ true → AreApart u v
    clear u v (inl a) block b chunk = apart_kinds (all_used (turned m fixed behind f)) u v t.apart (in_behind (turned m fixed behind f) u a) (in_behind (turned m fixed behind f) v b) block chunk
    clear u v (inr a) block b chunk = t.clear u v a block b chunk

-- What some blocks in place, one after another, come to.
pub record Turned (img : List ℕ) (m : Moment) (held fixed behind : List Used) (blocks : InPlace) (f : Key → ℕ) (ws : List Write) (n : Moment) : Type 0 where
  pub after : List Used
  pub stage : Stage img m held ws n after
  pub stands : BehindBy (image img ws) m.super.end m.dataset blocks behind f
  pub misses : (u : Used) → Among u behind → AllMiss ws u.place u.len

pub turned_first : (img name : List ℕ) (m : Moment) (held fixed behind : List Used) (blocks : InPlace) (f : Key → ℕ) (w : Write) (ws : List Write) → Turning img name m held fixed behind blocks f → LiesIn w m.fixed
    → SaysInPlace (apply w img) m.dataset blocks fixed → Turned (apply w img) (turned m fixed behind f) (behind ++ held) fixed behind blocks f ws (turned m fixed behind f)
    → Turned img m held fixed behind blocks f (w ∷ ws) (turned m fixed behind f)
turned_first img name m held fixed behind blocks f w ws t lies says later = record {
  after = later.after;
  stage = record {
    plan = (turned m fixed behind f, behind ++ held, turn img name m held fixed behind blocks f w t lies says, refl, later.stage.plan);
    header = kept_on img (apply w img) (image (apply w img) ws) m.place (header_kept img name m w t.file (λ u a b. fixed_missed m w t.file.apart lies u (inr (among_right u m.root m.header a)))) later.stage.header;
  };
  stands = later.stands;
  misses = λ u a. (turn_misses img name m held fixed behind blocks f w t lies u a, later.misses u a);
}

pub turns_on : (img name : List ℕ) (m : Moment) (held before fixed behind : List Used) (blocks : InPlace) (f : Key → ℕ) (ws : List Write) → Turning img name (turned m fixed behind f) held fixed behind blocks f
    → AllAmong before fixed → EachSays m.dataset before blocks fixed img ws → Turned img (turned m fixed behind f) held fixed behind blocks f ws (turned m fixed behind f)
turns_on img name m held before fixed behind blocks f [] t sub says = record { after = held; stage = record { plan = (refl, refl); header = kept_itself img m.place }; stands = t.stands; misses = λ u a. tt }
turns_on img name m held before fixed behind blocks f (w ∷ ws) t sub says =
    let n : Moment = turned m fixed behind f in
    let lies : LiesIn w n.fixed = lies_among w before fixed sub says.0 in
    turned_first img name n held fixed behind blocks f w ws t lies says.1
    (turns_on (apply w img) name m (behind ++ held) before fixed behind blocks f ws (turned_on img name n held fixed behind blocks f w t lies says.1) sub says.2)

-- some blocks in place, at least one
pub turns : (img name : List ℕ) (m : Moment) (held fixed behind : List Used) (blocks : InPlace) (f : Key → ℕ) (w : Write) (ws : List Write) → Turning img name m held fixed behind blocks f
    → EachSays m.dataset m.fixed blocks fixed img (w ∷ ws) → Turned img m held fixed behind blocks f (w ∷ ws) (turned m fixed behind f)
turns img name m held fixed behind blocks f w ws t says =
    turned_first img name m held fixed behind blocks f w ws t says.0 says.1
    (turns_on (apply w img) name m (behind ++ held) m.fixed fixed behind blocks f ws (turned_on img name m held fixed behind blocks f w t says.0 says.1)
    (λ u a. subst (λ (us : List Used). Among u us) (sym t.begins) (among_left u m.fixed t.added a)) says.2)

-- and what they say at last
pub says_last : (d : Described) (before : List Used) (blocks : InPlace) (fixed : List Used) (img : List ℕ) (w : Write) (ws : List Write) → EachSays d before blocks fixed img (w ∷ ws) → SaysInPlace (image img (w ∷ ws)) d blocks fixed
says_last d before blocks fixed img w [] says = says.1
says_last d before blocks fixed img w (v ∷ ws) says = says_last d before blocks fixed (apply w img) v ws says.2
