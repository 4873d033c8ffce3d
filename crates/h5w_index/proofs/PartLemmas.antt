-- What a session shows of its index as the part of a flush.
use Rattle.std.proofs.Common.{◌≡◌, ℕ, List, ◌++◌, sym, ◌∙◌, subst}
use Rattle.h5w_model.specs.Findings.{Used, chunk_bytes}
use Rattle.h5w_model.specs.declared.cell.Key.{Key}
use Rattle.h5w_space.specs.Space.{Space}
use Rattle.h5w_cache.specs.StoreLaws.{Standing, range_of}
use Rattle.h5w_array_laws.specs.Among.{AreAmong}
use Rattle.h5w_array_laws.proofs.AmongLemmas.{part_itself, part_joined, part_onward}
use Rattle.h5w_flush_laws.specs.Spaces.{Taken}
use Rattle.h5w_flush_laws.specs.Rows.{new_chunks}
use Rattle.h5w_index.specs.Views.{IndexView, an_array, a_tree, Stays, address_in, behind_of}
use Rattle.h5w_index.specs.Placing.{IndexPart, RestsHeld}
use Rattle.h5w_index.proofs.NamingLemmas.{same_among}
use Rattle.h5w_index.proofs.ToldLemmas.{same_ranges}

-- the blocks' places stay live where others are taken
stays_taken : (v : IndexView) (s : Space) (us : List Used) (t : Space) → Taken s us t → Stays v s → Stays v t
stays_taken (an_array v) s us t taken stays =
    let before : Standing v s = stays in
    record { live = λ n placed. taken.stays_live (range_of v n) (before.live n placed); some = before.some; apart = before.apart }
stays_taken (a_tree p v) s us t taken stays = tt

pub index_part : IndexPart
index_part img m old s between t to v held w places added ms copies fixed r x plan are =
    let like = x.partly.like in
    let bytes : ℕ = chunk_bytes m.dataset in
    let same : old ≡ address_in v = λ i key. r.map key i in
    let new : List Used = new_chunks m.dataset (address_in v) m.dataset.shape.rows 0 places in
    let joined : AreAmong (new ++ behind_of bytes v) (new ++ m.behind) = part_joined new (behind_of bytes v) new m.behind (part_itself new) (same_among (behind_of bytes v) m.behind r.behind) in
    let behind : AreAmong (behind_of bytes held) (new ++ m.behind) = part_onward (behind_of bytes held) (new ++ behind_of bytes v) (new ++ m.behind) x.behind joined in
    record {
      kind = r.kind ∙ sym like.kind;
      at_place = r.at_place ∙ sym like.place;
      stay = r.fixed ∙ sym like.fixed;
      sound = like.sound;
      stands = like.stands img r.stands;
      stays = stays_taken held s new between x.taken (like.stays s r.stays);
      behind = subst (λ (f : Key → ℕ). AreAmong (behind_of bytes held) (new_chunks m.dataset f m.dataset.shape.rows 0 places ++ m.behind)) (sym same) behind;
      plan = plan;
      copied = are;
    }

pub rests_held : RestsHeld
rests_held img m old s v w told r = record {
  kind = r.kind ∙ sym told.like.kind;
  at_place = r.at_place ∙ sym told.like.place;
  sound = told.like.sound;
  stands = told.like.stands img r.stands;
  stays = told.like.stays s r.stays;
  fixed = r.fixed ∙ sym told.like.fixed;
  behind = λ f. same_ranges v w (chunk_bytes m.dataset) r.sound told.like told.map f ∙ r.behind f;
  map = λ key. r.map key ∙ sym (told.map key);
}
