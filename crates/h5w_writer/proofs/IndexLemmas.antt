-- What the index of a session is for its file, as calls leave it.
use Rattle.std.proofs.Common.{◌≡◌, ◌⊎◌, ℕ, Bool, true, false, List, [], ◌++◌, sym, ◌∙◌, subst, inl, inr, refl}
use Rattle.std.proofs.lemmas.List.Elements.{All-nil}
use Rattle.h5w_model.specs.Images.{apply}
use Rattle.h5w_model.specs.Numbers.{undefined}
use Rattle.h5w_model.specs.declared.cell.Key.{Key}
use Rattle.h5w_model.specs.declared.root.Super.{Super}
use Rattle.h5w_model.specs.declared.piece.Write.{Write}
use Rattle.h5w_space.specs.Space.{Space, IsLive, Apart}
use Rattle.h5w_space.specs.declared.Extent.{Extent}
use Rattle.h5w_step_laws.specs.Moments.{Moment}
use Rattle.h5w_step_laws.specs.Ranges.{MissesBlocks}
use Rattle.h5w_array_laws.specs.Parts.{header}
use Rattle.h5w_flush_laws.specs.Knowledge.{Knows}
use Rattle.h5w_index.specs.Views.{IndexView, IsSound, an_array, a_tree, header_place}
use Rattle.h5w_index.specs.Flushes.{Rests}
use Rattle.h5w_index.proofs.FlushLemmas.{rests_forgotten, rests_freed}
use Rattle.h5w_index.proofs.BeginLemmas.{rests_missed}
use Rattle.h5w_writer.specs.Sessions.{Freed, IsNamed}
use Rattle.h5w_first_flush_laws.proofs.AloneLemmas.{alone_missed}
use Rattle.h5w_index.specs.Blocks.{has_no_block}
use Rattle.h5w_writer.specs.Indexes.{IsKeptIndex, IsStarting, Lacks, an_index, a_block}
use Rattle.h5w_writer.proofs.HeaderAlone.{never, rests_whole}

-- ---- What was retired becomes free or is forgotten, and the superblock is written again

-- what was live stays so where what was retired is forgotten
pub forgotten_live : (s : Space) (r : Extent) → IsLive s r → IsLive (record s { retired = [] }) r
forgotten_live s r l = record { within = l.within; off_free = l.off_free; off_retired = All-nil (Apart r) }

pub freed_index : (keeps : Bool) (img : List ℕ) (m : Moment) (address : Key → ℕ) (s t : Space) (v : IndexView) → Freed keeps s t → Rests img m address s v → Rests img m address t v
freed_index true img m address s t v freed i = subst (λ (x : Space). Rests img m address x v) (sym freed) (rests_forgotten img m address s v i)
freed_index false img m address s t v freed i = rests_freed img m address s t v freed i

-- so it is where the file has none yet, of which nothing is written
pub freed_kept : (keeps : Bool) (img : List ℕ) (m : Moment) (address : Key → ℕ) (s t : Space) (v : IndexView) → Freed keeps s t → IsKeptIndex img m address s v → IsKeptIndex img m address t v
freed_kept keeps img m address s t v freed (inl i) = inl (freed_index keeps img m address s t v freed i)
freed_kept keeps img m address s t v freed (inr none) = inr none

-- a write that misses its blocks leaves it
pub missed_kept : (img name : List ℕ) (m : Moment) (address : Key → ℕ) (s : Space) (v : IndexView) (w : Write) → Knows img name m address s → MissesBlocks w (m.fixed ++ m.behind) → IsKeptIndex img m address s v
    → IsKeptIndex (apply w img) m address s v
missed_kept img name m address s v w knows off (inl i) = inl (rests_missed img name m address s v w knows off i)
missed_kept img name m address s v w knows off (inr none) = inr (record { kind = none.kind; lacks = go none.lacks; sound = none.sound; blank = none.blank; map = none.map })
  where
    go : Lacks img m.dataset v → Lacks (apply w img) m.dataset v
    go (an_index unnamed) = an_index unnamed
    go (a_block alone lacking) = a_block (alone_missed img name m w knows.file alone off) lacking

-- with another superblock
pub super_kept : (img : List ℕ) (m : Moment) (root : Super) (address : Key → ℕ) (s : Space) (v : IndexView) → IsKeptIndex img m address s v → IsKeptIndex img (record m { super = root }) address s v
super_kept img m root address s v (inl i) = inl (record { kind = i.kind; at_place = i.at_place; sound = i.sound; stands = i.stands; stays = i.stays; fixed = i.fixed; behind = i.behind; map = i.map })
super_kept img m root address s v (inr none) = inr (record { kind = none.kind; lacks = none.lacks; sound = none.sound; blank = none.blank; map = none.map })

-- a file whose layout names its index has it, if that has an index block
pub kept_whole : (img : List ℕ) (m : Moment) (address : Key → ℕ) (s : Space) (v : IndexView) → IsNamed m.dataset → has_no_block v ≡ false → IsKeptIndex img m address s v → Rests img m address s v
kept_whole img m address s v named made (inl i) = i
kept_whole img m address s v named made (inr none) = go none.lacks
  where
    go : Lacks img m.dataset v → Rests img m address s v
    go (an_index unnamed) = absurd (named unnamed)
    go (a_block alone lacking) = never (has_no_block v) lacking made

-- an index stands somewhere
pub header_defined : (v : IndexView) → IsSound v → header_place v ≡ undefined → ⊥
header_defined (an_array v) sound none = (sound.in_place header tt refl).1 none
header_defined (a_tree place v) sound none = sound.defined none

-- a file lacks its index where the layout names none, or where that which is kept has no index block
pub kept_starting : (img name : List ℕ) (m : Moment) (address : Key → ℕ) (s : Space) (v : IndexView) → Knows img name m address s → (m.dataset.layout.address ≡ undefined) ⊎ (has_no_block v ≡ true) → IsKeptIndex img m address s v → IsStarting img m address v
kept_starting img name m address s v knows (inl none) (inl i) = absurd (header_defined v i.sound (sym i.at_place ∙ none))
kept_starting img name m address s v knows (inr lacking) (inl i) = never (has_no_block v) lacking (rests_whole img name m address s v knows i)
kept_starting img name m address s v knows unmade (inr starts) = starts
