-- An append that writes rows early leaves a session that stands over the log with its values.
use Rattle.std.proofs.Common.{◌≡◌, ℕ, ◌+◌, ◌*◌, ◌/◌, ◌<◌, ◌≤◌, Bool, true, false, List, [], ℤ, refl, sym, ap, ◌∙◌, subst, inl, inr, arith, length, take, ◌++◌, ◌-◌}
use Rattle.std.proofs.lemmas.List.{take-append-le, take_all}
use Rattle.std.proofs.lemmas.Bool.{le-ltb}
use Rattle.std.proofs.Math.Nat.{mul-le-mul_right}
use Rattle.h5w_model.specs.Logs.{Log, and_now, appends, load}
use Rattle.h5w_model.specs.Messages.{IsIntType}
use Rattle.h5w_model.specs.Tables.{chunks_across, format_limits, limit_of, needed}
use Rattle.h5w_step_laws.specs.Needed.{AreFew}
use Rattle.h5w_writer.specs.Early.{WritesEarly, WrittenEarly, dirty_of}
use Rattle.h5w_writer.specs.Past.{Past}
use Rattle.h5w_writer.specs.Sessions.{AddsValues, AllEndBy, AreRows, IsSession, Session, cutting_of, rows_of, with_rows, with_values}
use Rattle.h5w_writer.specs.Stands.{Running, Stands}
use Rattle.h5w_writer.proofs.EarlyBytes.{up_more}
use Rattle.h5w_writer.proofs.EarlyLoads.{dirty_low, early_pieces, early_raised}
use Rattle.h5w_writer.proofs.EarlyStands.{early_running}
use Rattle.h5w_writer.proofs.FlushStands.{idle_running}
use Rattle.h5w_writer.proofs.PastLemmas.{IsLike, past_early}
use Rattle.h5w_writer.proofs.StandLemmas.{values_running, values_stand}
use Rattle.h5w_writer.proofs.StateLemmas.{Accepted, idle_unplanned, values_is}

-- ---- After a refusal

-- the cells are taken back
pub taken_back : (u v : Session) (added : List ℕ) (put back : List ℕ) (more : ℕ) → u ≡ record v { waiting = put; waits = v.waits + more } → put ≡ v.waiting ++ added → back ≡ take (length v.waiting) u.waiting
    → record u { waiting = back; waits = u.waits - more } ≡ v
taken_back u v added put back more is put_is back_is =
    let cells : back ≡ v.waiting = back_is ∙ ap (λ (y : Session). take (length v.waiting) y.waiting) is ∙ ap (take (length v.waiting)) put_is ∙ take-append-le (length v.waiting) v.waiting added (omega arith) ∙ take_all (length v.waiting) v.waiting (omega arith) in
    let rows : (v.waits + more) - more ≡ v.waits = omega arith in
    ap (λ (y : Session). record y { waiting = back; waits = y.waits - more }) is ∙ ap (λ (bs : List ℕ). record v { waiting = bs; waits = (v.waits + more) - more }) cells ∙ ap (λ (n : ℕ). record v { waits = n }) rows

-- ---- What an append leaves

-- nothing else changes
pub adds_values : (s : Session) (values : List ℤ) (t : Session) → WrittenEarly (with_values s values) t → AddsValues s values t
adds_values s values t (inl same) = record {
  session = same ∙ ap (λ (y : Session). record (with_values s values) { early = y.early; waiting = y.waiting; chunks = y.chunks; places = y.places; pending = y.pending }) (sym same);
  limit = ap (λ (y : Session). y.places.limit) same;
  rises = let e : t.places.end ≡ s.places.end = ap (λ (y : Session). y.places.end) same in omega (arith, e);
}
adds_values s values t (inr x) =
    let is = x.session in
    record {
      session = is ∙ (λ k. record (with_values s values) { early = ap (λ (y : Session). y.early) (sym is) k; waiting = ap (λ (y : Session). y.waiting) (sym is) k; chunks = t.chunks; places = t.places; pending = t.pending });
      limit = x.taken.raised.limit;
      rises = x.taken.raised.rises;
    }

-- no flush is begun
pub adds_unplanned : (s : Session) (values : List ℤ) (t : Session) → IsSession s → s.pending ≡ [] → AddsValues s values t → t.flushing ≡ false
adds_unplanned s values t is idle added = ap (λ (y : Session). y.flushing) added.session ∙ idle_unplanned s is idle

module _ (s : Session) (values : List ℤ) (log : Log) (is : IsSession s) (rows : AreRows s values) (by : Accepted s values) (st : Stands s log) where
  abbrev then : Session
  then = with_values s values

  abbrev next : Log
  next = and_now (appends values) log

  before : Running s [] log
  before = idle_running s log by.running by.idle st

  valued : Running then [] next
  valued = values_running s values log is.some_columns rows by.fit before

  stood : Stands then next
  stood = values_stand s values log is.some_columns rows by.idle by st

  -- the bytes that wait are within the load
  pub over_load : length s.header ≤ 512 → dirty_of then ≤ load (cutting_of s) next
  over_load short = dirty_low then next by.running by.idle stood valued short

  module _ (t : Session) (x : WritesEarly then t) where
    pub pieces_load : length t.pending ≤ load (cutting_of s) next
    pieces_load = early_pieces then next by.running by.idle stood valued t x

    like_early : IsLike s t
    like_early = subst (λ (y : Session). IsLike s y) (sym x.session) (record { name = refl; place = refl; dataset = refl; address = λ named. refl; limit = x.taken.raised.limit; own = λ o. o; reach = λ first img h. h; roomy = λ o. o })

    small : AreFew (with_rows x.to s.dataset)
    small =
        let now = values_is s values is rows by in
        let bands = up_more x.to (rows_of then) s.dataset.layout.chunk_rows before.past.counted.rows x.bound in
        let few = mul-le-mul_right (chunks_across s.dataset) bands in
        le-ltb (limit_of format_limits s.dataset.layout.index) (needed (with_rows x.to s.dataset)) (omega (arith, few, now.few))

    pub early_stands : IsIntType s.dataset.int_type → AllEndBy t.places.end t.pending → Stands t next
    unfolding valued values_running
    early_stands typed within =
        let raised = early_raised then next by.running by.idle stood valued t x in
        let past : Past t t.pending next before.after = past_early s t values t.pending log before.after like_early raised within before.past in
        let run = early_running then t next x valued typed small by.running (idle_unplanned s is by.idle) past in
        let goes = run.runs.goes in
        record { left = t.pending; dropped = inl refl; phase = inr run; prefixed = goes.prefixed; still = goes.still }

  -- whatever it wrote early
  pub append_stands : (t : Session) → IsIntType s.dataset.int_type → AllEndBy t.places.end t.pending → WrittenEarly then t → Stands t next
  append_stands t typed within (inl same) = subst (λ (y : Session). Stands y next) (sym same) stood
  append_stands t typed within (inr x) = early_stands t x typed within

  pub append_few : (t : Session) → WrittenEarly then t → length t.pending ≤ load (cutting_of s) next
  append_few t (inl same) = omega (arith, ap (λ (y : Session). length y.pending) same, ap length by.idle)
  append_few t (inr x) = pieces_load t x

  pub append_over : s.budget < dirty_of then → length s.header ≤ 512 → s.budget < load (cutting_of s) next
  append_over over short = omega (arith, over, over_load short)
