-- The pieces in place of an array's plan, as safe steps of a file.
use Rattle.std.proofs.Common.{◌≡◌, ◌⊎◌, ℕ, List, [], ◌∷◌, ◌++◌, get_or, refl, sym, ap, ◌∙◌, subst, inl, inr, arith, append-nil, append_assoc}
use Rattle.h5w_model.specs.Numbers.{undefined}
use Rattle.h5w_model.specs.Images.{apply}
use Rattle.h5w_model.specs.Arrays.{eahd_len, eaib_len}
use Rattle.h5w_model.specs.Findings.{Used, chunk_bytes, the_superblock}
use Rattle.h5w_model.specs.declared.piece.Write.{Write}
use Rattle.h5w_model.proofs.ImageLemmas.{At-apply_missed}
use Rattle.h5w_laws.proofs.StaysLemmas.{defined_itself}
use Rattle.h5w_space.specs.Space.{Space}
use Rattle.h5w_cache.specs.Stores.{Store, place_of}
use Rattle.h5w_cache.specs.Plans.{bytes_in}
use Rattle.h5w_cache.specs.StoreLaws.{Standing}
use Rattle.h5w_cache.proofs.LawLemmas.{standing_after}
use Rattle.h5w_step_laws.specs.Ranges.{Among, AllEndBy, Disjoint, block_at}
use Rattle.h5w_step_laws.proofs.RangeLemmas.{among_left, among_right, among_split, ends_left}
use Rattle.h5w_step_laws.specs.Moments.{Moment, Represents, all_used}
use Rattle.h5w_step_laws.specs.Steps.{OffAll, Clear, Step}
use Rattle.h5w_step_laws.specs.Writers.{Naming}
use Rattle.h5w_step_laws.specs.Plans.{Plan}
use Rattle.h5w_step_laws.proofs.MomentLemmas.{few}
use Rattle.h5w_step_laws.proofs.StepRepresents.{step_represents}
use Rattle.h5w_step_laws.proofs.WriterLaws.{naming_switches}
use Rattle.h5w_step_laws.proofs.GoesLemmas.{behind_front, behind_clear, clear_joined, off_joined}
use Rattle.h5w_step_laws.proofs.PartLemmas.{disjoint_part, count_joined}
use Rattle.h5w_array_laws.specs.Parts.{index_block, header}
use Rattle.h5w_array_laws.specs.Among.{AreAmong}
use Rattle.h5w_array_laws.specs.ArrayStores.{IsArray, place_at_part, bytes_at_part, header_place, behind_of, blocks_in_place}
use Rattle.h5w_array_laws.specs.ArrayImages.{HeaderStands, BehindStands, AreInPlace, IsRead}
use Rattle.h5w_array_laws.specs.ArrayTables.{table_in}
use Rattle.h5w_array_laws.specs.ArrayNaming.{IsArrayOf, MayName, naming, InPlaceSteps, MoreApart}
use Rattle.h5w_array_laws.proofs.AmongLemmas.{part_itself, part_onward, part_joined}
use Rattle.h5w_array_laws.proofs.StandLemmas.{header_length, index_length, index_placed}
use Rattle.h5w_array_laws.proofs.PlanLemmas.{all_clean, header_after, place_stays, two_apart, says_one, says_two}
use Rattle.h5w_array_laws.proofs.FixedLemmas.{fixed_after}
use Rattle.h5w_array_laws.proofs.VisitedLemmas.{visited}
use Rattle.h5w_array_laws.proofs.FoundLemmas.{address_found}
use Rattle.h5w_array_laws.proofs.TableLemmas.{array_table}

-- ---- Ranges

-- all ranges, with those behind last
pub used_as : (m : Moment) → all_used m ≡ (the_superblock ∷ (m.root ++ (m.header ++ m.fixed))) ++ m.behind
used_as m =
    ap (λ us. the_superblock ∷ us)
    (ap (λ us. m.root ++ us) (sym (append_assoc m.header m.fixed m.behind)) ∙ sym (append_assoc m.root (m.header ++ m.fixed) m.behind))

pub part_moved : (us vs ws : List Used) → AreAmong (us ++ (vs ++ ws)) (vs ++ (us ++ ws))
part_moved us vs ws = record {
  among = λ u a. go u (among_split u us (vs ++ ws) a);
  counts = λ p. omega (arith, count_joined p us (vs ++ ws), count_joined p vs ws, count_joined p vs (us ++ ws), count_joined p us ws);
}
  where
    later : (u : Used) → Among u vs ⊎ Among u ws → Among u (vs ++ (us ++ ws))
    later u (inl a) = among_left u vs (us ++ ws) a
    later u (inr a) = among_right u vs (us ++ ws) (among_right u us ws a)

    go : (u : Used) → Among u us ⊎ Among u (vs ++ ws) → Among u (vs ++ (us ++ ws))
    go u (inl a) = among_right u vs (us ++ ws) (among_left u us ws a)
    go u (inr a) = later u (among_split u vs ws a)

pub more_apart : MoreApart
more_apart m more behind among apart =
    let front : List Used = the_superblock ∷ (m.root ++ (m.header ++ m.fixed)) in
    let part : AreAmong (front ++ behind) (more ++ (front ++ m.behind)) =
    part_onward (front ++ behind) (front ++ (more ++ m.behind)) (more ++ (front ++ m.behind))
    (part_joined front behind front (more ++ m.behind) (part_itself front) among)
    (part_moved front more m.behind) in
    let one : Disjoint (more ++ (front ++ m.behind)) = subst (λ (us : List Used). Disjoint (more ++ us)) (used_as m) apart in
    subst (λ (us : List Used). Disjoint us) (sym (used_as (record m { behind = behind })))
    (disjoint_part (more ++ (front ++ m.behind)) (front ++ behind) one part.among part.counts)

-- ---- Pieces

module _ (img name : List ℕ) (m : Moment) (w : Store) (t : Space) (a : IsArray w) (clean : w.changed ≡ []) (st : Standing w t) (r : Represents img name m) (of : IsArrayOf m w) (headed : HeaderStands w img)
    (behind : BehindStands w img) (may : MayName img m w) where
  pub fixed_ends : AllEndBy m.super.end m.fixed
  fixed_ends = ends_left m.super.end m.fixed m.behind r.index.ends

  -- what is read where the blocks behind stand
  pub read_on : (other : List ℕ) → BehindStands w other → IsRead w other
  read_on other stands = record { visited = visited w other a clean stands; found = address_found w other a clean stands }

  -- the index block names the new blocks
  pub first_names : Naming img m (record { at = place_at_part w index_block; piece = bytes_at_part w index_block }) (blocks_in_place w) (naming m w)
  first_names =
      let x : Write = record { at = place_at_part w index_block; piece = bytes_at_part w index_block } in
      let says = says_one w t img a clean st headed m.dataset of.kind of.address in
      let read = read_on img behind in
      let own : Used = block_at (place_at_part w index_block) eaib_len in
      record {
        is = refl;
        inside = record {
          used = own;
          among = subst (λ (us : List Used). Among own us) (sym of.fixed) (inr (inl refl));
          from = omega arith;
          to = omega (arith, index_length w a);
        };
        says = says.says;
        fixed = of.fixed ∙ sym says.looks;
        added = [];
        begins = sym (append-nil m.fixed);
        ends = fixed_ends;
        behind = read.visited m.super.end (chunk_bytes m.dataset) may.ends;
        apart = may.apart;
        table = array_table w img m.dataset read (few img name m r) of.kind;
        addresses = may.addresses;
        cells = may.cells;
      }

  -- the blocks behind stand once the index block is written
  pub behind_one : BehindStands w (apply (record { at = place_at_part w index_block; piece = bytes_at_part w index_block }) img)
  behind_one n placed low =
      At-apply_missed (record { at = place_at_part w index_block; piece = bytes_at_part w index_block }) img (place_of w n) (bytes_in w.blocks n)
      (two_apart w t st 845 n (λ f. absurd (omega (arith, f, low))) (index_placed w a) placed) (behind n placed low)

  -- the header, once the file says the new array
  pub second_names : Represents (apply (record { at = place_at_part w index_block; piece = bytes_at_part w index_block }) img) name (naming m w)
      → Naming (apply (record { at = place_at_part w index_block; piece = bytes_at_part w index_block }) img) (naming m w) (record { at = header_place w; piece = bytes_at_part w header }) (blocks_in_place w) (naming m w)
  second_names next =
      let x : Write = record { at = place_at_part w index_block; piece = bytes_at_part w index_block } in
      let says = says_two w t img a clean st headed m.dataset of.kind of.address in
      let read = read_on (apply x img) behind_one in
      let own : Used = block_at (header_place w) eahd_len in
      record {
        is = refl;
        inside = record {
          used = own;
          among = subst (λ (us : List Used). Among own us) (sym of.fixed) (inl refl);
          from = omega arith;
          to = omega (arith, header_length w a);
        };
        says = says.says;
        fixed = of.fixed ∙ sym says.looks;
        added = [];
        begins = sym (append-nil m.fixed);
        ends = fixed_ends;
        behind = read.visited m.super.end (chunk_bytes m.dataset) may.ends;
        apart = may.apart;
        table = array_table w (apply x img) m.dataset read (few img name m r) of.kind;
        addresses = λ k low. defined_itself (get_or (table_in w m.dataset) k undefined);
        cells = next.cells;
      }

  pub two_steps : (held : List Used) → OffAll held m.fixed → Clear held (naming m w)
      → Plan img m held (record { at = place_at_part w index_block; piece = bytes_at_part w index_block } ∷ record { at = header_place w; piece = bytes_at_part w header } ∷ []) (naming m w)
      (behind_of (chunk_bytes m.dataset) w ++ (behind_of (chunk_bytes m.dataset) w ++ held))
  two_steps held off clear =
      let x : Write = record { at = place_at_part w index_block; piece = bytes_at_part w index_block } in
      let y : Write = record { at = header_place w; piece = bytes_at_part w header } in
      let n : Moment = naming m w in
      let us : List Used = behind_of (chunk_bytes m.dataset) w in
      let first : Step img m held x n (us ++ held) = naming_switches img name m held x (blocks_in_place w) n r off clear first_names in
      let next : Represents (apply x img) name n = step_represents img name m held x n (us ++ held) r first in
      let off_fixed : OffAll us m.fixed = λ u v b c. behind_front n may.apart u v b (inr (among_right v m.root (m.header ++ m.fixed) (among_right v m.header m.fixed c))) in
      let second : Step (apply x img) n (us ++ held) y n (us ++ (us ++ held)) =
      naming_switches (apply x img) name n (us ++ held) y (blocks_in_place w) n next
      (off_joined us held m.fixed off_fixed off)
      (clear_joined us held n (behind_clear n may.apart) clear)
      (second_names next) in
      (n, us ++ held, first, refl, (n, us ++ (us ++ held), second, refl, (refl, refl)))

pub in_place_steps : InPlaceSteps
in_place_steps v s ms cs fs w t img name m held planned some r of headed behind may off clear = go planned.fixed
  where
    go : AreInPlace w fs → Plan img m held fs (naming m w) (behind_of (chunk_bytes m.dataset) w ++ (behind_of (chunk_bytes m.dataset) w ++ held))
    go (inl e) = absurd (some e)
    go (inr e) =
        let p = planned.plan in
        let top = place_stays v s ms cs fs w t p planned.before header tt refl in
        let under = place_stays v s ms cs fs w t p planned.before index_block tt refl in
        let now : IsArrayOf m w = record { kind = of.kind; address = of.address ∙ sym top; fixed = of.fixed ∙ sym (fixed_after v s ms cs fs w t p planned.before) } in
        subst (λ ws. Plan img m held ws (naming m w) (behind_of (chunk_bytes m.dataset) w ++ (behind_of (chunk_bytes m.dataset) w ++ held))) (sym e)
        (two_steps img name m w t planned.after (all_clean v s ms cs fs w t p) (standing_after v s ms cs fs w t p planned.standing) r now (header_after v w img top under headed) behind may held off clear)
