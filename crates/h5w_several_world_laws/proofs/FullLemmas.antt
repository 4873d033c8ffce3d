-- A flush of several datasets that finds no place for one of them.
use Rattle.std.proofs.Common.{◌≡◌, ℕ, suc, ◌+◌, ◌*◌, ◌<◌, ◌≤◌, cond, Bool, true, false, List, [], ◌∷◌, length, refl, sym, ◌∙◌, ap, inl, inr, arith}
use Rattle.std.specs.Prelude.{nat_lt}
use Rattle.std.proofs.lemmas.Bool.{cases_lt, cond-true, lt-ltb}
use Rattle.h5w_model.specs.Lawful.{flushes}
use Rattle.h5w_model.specs.Several.{load_from}
use Rattle.h5w_model.specs.declared.reply.Reply.TheVariants as replies
use Rattle.h5w_space.specs.declared.Full.{Full}
use Rattle.h5w_writer.specs.Sessions.{Session}
use Rattle.h5w_several_writer_laws.specs.Bounds.{cuttings_of}
use Rattle.h5w_several_writer_laws.specs.Sessions.{SameButHeld, Sessions, all_pending}
use Rattle.h5w_several_writer_laws.proofs.GiveLemmas.{standing_all}
use Rattle.h5w_several_writer.specs.Flows.{all_waits}
use Rattle.h5w_several_writer.specs.Refusals.{NoPlaceAll}
use Rattle.h5w_several_script_laws.specs.Scripts.{FileReply, FileState, SetState, FlushAllowedIn, IsFullIn, asks, load_in, pending_in, rows_wait, says, some_wait, total}
use Rattle.h5w_several_script_laws.specs.Polled.{Places}
use Rattle.h5w_several_world_laws.specs.Worlds.{HaveOneFileLog}
use Rattle.h5w_several_world_laws.specs.Refusals.{FullStep}
use Rattle.h5w_several_world_laws.specs.Steps.{StepsTo}
use Rattle.h5w_several_world_laws.proofs.FlushLemmas.{AllRested, loads_are, rested, sets_count, wait_is}
use Rattle.h5w_several_world_laws.proofs.RefusalLemmas.{held_step}
use Rattle.h5w_several_world_laws.proofs.StepLemmas.{match_no, match_yes, none_left}

-- ---- Rows wait

either_true : (a b : Bool) → b ≡ true → cond a true b ≡ true
either_true true b e = refl
either_true false b e = e

-- rows that wait in some session do so in its state
some_waits : (ss : List Session) (xs : List SetState) → AllRested ss xs → length xs ≡ length ss → 0 < all_waits ss → some_wait xs ≡ true
some_waits [] xs rest same some = absurd (omega (arith, some))
some_waits (s ∷ ss) [] rest same some = absurd (omega (arith, same))
some_waits (s ∷ ss) (x ∷ xs) rest same some =
    let rows = s.dataset.shape.rows in
    elim (cases_lt 0 s.waits) [
      | inl here ↦ cond-true (rows_wait x) true (some_wait xs) (wait_is s x (rest 0 s x refl refl) ∙ lt-ltb rows (rows + s.waits) (omega (arith, here)))
      | inr none ↦ either_true (rows_wait x) (some_wait xs) (some_waits ss xs (λ e t y a c. rest (suc e) t y a c) (omega (arith, same)) (omega (arith, some, none)))
    ]

-- ---- The step

module _ (old new : Sessions) (attempts : ℕ) (ps : Places) (F : FileState) (full : Full) (h : HaveOneFileLog old attempts ps F) (going : old.stopped ≡ false) (none : all_pending old.parts ≡ []) (lacks : NoPlaceAll old h.log full)
    (same : SameButHeld old new) where
  abbrev pub reply : FileReply
  reply = says (replies.FullSpace full.at full.size full.limit)

  is_full : IsFullIn F reply
  is_full =
      let loads : load_in F.sets ≡ load_from 0 (cuttings_of old.parts) h.log.sets h.log = loads_are old attempts ps F h going none in
      let bytes : full.size ≤ load_from 0 (cuttings_of old.parts) h.log.sets h.log = lacks.size_bound in
      let begins : full.at ≤ old.places.end + load_from 0 (cuttings_of old.parts) h.log.sets h.log = lacks.load_bound in
      let limit : full.limit ≡ F.space_limit = lacks.limit ∙ sym h.state.limit in
      let sets : length h.log.sets ≡ length old.parts = standing_all.sets old h.log h.stands in
      let count : length F.sets ≡ length old.parts = sets_count old attempts ps F h going none in
      record {
        place = full.at;
        size = full.size;
        is = ap (λ (n : ℕ). says (replies.FullSpace full.at full.size n)) limit;
        positive = lacks.some;
        size_bound = omega (arith, bytes, loads);
        place_bound = omega (arith, begins, loads, h.state.grown, sets, count);
        full = omega (arith, lacks.past, limit);
      }

  pub full_allowed : FlushAllowedIn F reply
  full_allowed =
      let idle : pending_in F ≡ 0 = ap total h.state.left ∙ none_left old.parts none in
      let waits : some_wait F.sets ≡ true = some_waits old.parts F.sets (rested old attempts ps F h going none) (sets_count old attempts ps F h going none) lacks.waits in
      match_no _ _ F.stopped (h.state.stopped ∙ going)
      (match_no _ _ (nat_lt 0 (pending_in F)) (ap (nat_lt 0) idle) (match_yes _ _ (some_wait F.sets) waits (inr is_full)))

  abbrev pub full_steps : StepsTo attempts ps F (asks flushes) reply new
  full_steps = record { allowed = full_allowed; fits = held_step old new attempts ps F h going none same }

pub full_step : FullStep
full_step = full_steps
