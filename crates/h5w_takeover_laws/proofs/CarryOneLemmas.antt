-- The session that takes over the file of another one.
use Rattle.std.proofs.Common.{◌≡◌, ◌≢◌, ℕ, ◌+◌, ◌^◌, ◌≤◌, List, [], ◌∷◌, length, length-append, refl, ap, sym, ◌∙◌, subst, inl, inr, arith}
use Rattle.h5w_model.specs.Logs.{Log, hist}
use Rattle.h5w_model.specs.declared.piece.Write.{Write}
use Rattle.h5w_step_laws.specs.Logs.{image_now}
use Rattle.h5w_step_laws.specs.Moments.{Moment, Represents}
use Rattle.h5w_step_laws.specs.Files.{chunk_0}
use Rattle.h5w_creation_laws.specs.CreatedFiles.{CreatedFile, created_blocks, created_writes}
use Rattle.h5w_writer.specs.Openings.{IsOver}
use Rattle.h5w_writer.specs.Sessions.{Session}
use Rattle.h5w_writer.specs.Stands.{Creating, Running, Stands}
use Rattle.h5w_writer.proofs.PartLemmas.{part_laws}
use Rattle.h5w_writer.proofs.PastLemmas.{one_each}
use Rattle.h5w_writer_open.specs.OpenAnswers.{session_over}
use Rattle.h5w_several_open.specs.Beginnings.{IsBegunOver, taken_over}
use Rattle.h5w_several_open.proofs.BeginLemmas.{over_by}
use Rattle.h5w_takeover_laws.specs.Restarts.{Carries, IsCarried, taken_log}
use Rattle.h5w_takeover_laws.proofs.RefusedLemmas.{begun_parts}
use Rattle.h5w_takeover_laws.proofs.RestartLemmas.{taken_runs}

-- a reader found a file, so no piece of a creation is left
no_creation : (f : CreatedFile) (s : Session) (left : List Write) (log : Log) → Creating f s left log → log.first ≤ length (hist log.events) → ⊥
no_creation f s left log c begun =
    let all : length (hist log.events) + length left ≡ length (created_writes f) = sym (length-append (hist log.events) left) ∙ ap length c.pieces in
    let first : log.first ≡ length (created_blocks f) = ap (λ (l : Log). l.first) c.log_is in
    none left c.some (omega (arith, all, first, one_each f, begun))
  where
    none : (xs : List Write) → xs ≢ [] → length xs ≡ 0 → ⊥
    none [] some e = some refl
    none (x ∷ xs) some e = omega (arith, e)

module _ (s t : Session) (log : Log) (size limit budget : ℕ) (low : 1024 ≤ limit) (high : limit ≤ 2 ^ 40) (x : IsBegunOver taken_over (image_now log) size s.name limit budget t) where
  abbrev img : List ℕ
  img = image_now log

  abbrev plain : Session
  plain = session_over x.found (chunk_0 img x.found.place) x.kept s.name limit budget

  over : (n : Moment) → Represents img s.name n → IsOver plain img n
  over n file = over_by img s.name limit budget x.found x.kept (begun_parts taken_over img s.name size x.found x.is) low high x.index x.is_index x.is_kept x.unrefused n file

  carried : (left : List Write) → Running s left log → IsCarried t log
  carried left r =
      let g = r.runs.goes in
      let m = r.runs.before in
      let own = taken_runs plain log m r.runs.held g over (record { end = (over m g.now).end; none_free = refl; none_retired = refl }) in
      subst (λ (y : Session). IsCarried y log) (sym x.session)
      (record { moment = m; held = r.runs.held; taken = own; stands = part_laws.stands plain [] (taken_log log) refl own.own.running })

-- so it runs
pub goes_on : (s : Session) (log : Log) (st : Stands s log) → log.first ≤ length (hist log.events) → Running s st.left log
goes_on s log st begun = elim st.phase [ inl c ↦ absurd (no_creation c.0 s st.left log c.1 begun) | inr r ↦ r ]

pub carries : Carries
carries s t log size limit budget st begun x low high = carried s t log size limit budget low high x st.left (goes_on s log st begun)
