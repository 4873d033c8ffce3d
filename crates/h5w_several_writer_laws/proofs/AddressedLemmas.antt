-- After a flush each needed chunk has an address, where each had one before, whatever file the session began over.
use Rattle.std.proofs.Common.{◌≡◌, ◌≢◌, ◌⊎◌, ℕ, ◌<◌, List, [], true, get_or, sym, ap, ◌∙◌, subst, inl, inr}
use Rattle.std.specs.Prelude.{map}
use Rattle.h5w_model.specs.Images.{image}
use Rattle.h5w_model.specs.Numbers.{undefined}
use Rattle.h5w_model.specs.Logs.{Log}
use Rattle.h5w_model.specs.Datasets.{Described}
use Rattle.h5w_model.specs.Tables.{index_key, needed, needed_keys}
use Rattle.h5w_model.specs.declared.cell.Key.{Key}
use Rattle.h5w_model.specs.declared.piece.Write.{Write}
use Rattle.h5w_step_laws.specs.Moments.{reading_of}
use Rattle.h5w_step_laws.specs.Logs.{image_now}
use Rattle.h5w_step_laws.proofs.MomentLemmas.{few}
use Rattle.h5w_flush_laws.proofs.KeyLemmas.{found_table, needed_at}
use Rattle.h5w_index.specs.Blocks.{has_no_block}
use Rattle.h5w_index.specs.Views.{address_in}
use Rattle.h5w_writer.specs.Sessions.{Session}
use Rattle.h5w_writer.specs.Starts.{HasFlushed}
use Rattle.h5w_writer.specs.Past.{AllAddressed}
use Rattle.h5w_writer.specs.Stands.{Running}
use Rattle.h5w_writer.proofs.EarlyStands.{kept_map}
use Rattle.h5w_writer.proofs.IndexLemmas.{kept_starting}
use Rattle.h5w_writer.proofs.NextLemmas.{number_defined}
use Rattle.h5w_writer.proofs.StartKinds.{blank_none}

-- ---- A session

module _ (s : Session) (left : List Write) (log : Log) (r : Running s left log) where
  abbrev now : List ℕ
  now = image (image_now log) left

  map_is : ◌≡◌ {A = Key → ℕ} r.address (λ key. address_in s.index key)
  map_is = kept_map now r.after r.address r.rest s.index r.index

  at_key : (n : ℕ) → n < needed r.after.dataset → get_or r.after.table n undefined ≡ address_in s.index (index_key r.after.dataset n)
  at_key n low =
      let f : Described = r.after.dataset in
      let table : r.after.table ≡ map r.address (needed_keys f) = found_table now f r.address r.after.table (few now s.name r.after r.knows.file) r.knows.index r.knows.file.table in
      ap (λ (t : List ℕ). get_or t n undefined) table ∙ needed_at r.address f n low ∙ (λ i. map_is i (index_key f n))

  -- each needed chunk has an address by its index
  pub defined : AllAddressed (reading_of r.after) → (n : ℕ) → n < needed s.dataset → address_in s.index (index_key s.dataset n) ≢ undefined
  defined a = subst (λ (d : Described). (n : ℕ) → n < needed d → address_in s.index (index_key d n) ≢ undefined) r.keeps.dataset (λ n low e. a n low (at_key n low ∙ e))

  -- and where it has, each is addressed
  pub addressed : ((n : ℕ) → n < needed s.dataset → address_in s.index (index_key s.dataset n) ≢ undefined) → AllAddressed (reading_of r.after)
  addressed each n low e =
      let there = subst (λ (d : Described). (k : ℕ) → k < needed d → address_in s.index (index_key d k) ≢ undefined) (sym r.keeps.dataset) each in
      there n low (sym (at_key n low) ∙ e)

-- a flush of rows, into an index that is there or is made with it
pub flush_addressed : (old new : Session) (log now : Log) → HasFlushed old new → (r : Running old [] log) → (n : Running new new.pending now) → AllAddressed (reading_of r.after) → AllAddressed (reading_of n.after)
flush_addressed old new log now x r n a = addressed new new.pending now n (by x)
  where
    before : (k : ℕ) → k < needed old.dataset → address_in old.index (index_key old.dataset k) ≢ undefined
    before = defined old [] log r a

    by : HasFlushed old new → (k : ℕ) → k < needed new.dataset → address_in new.index (index_key new.dataset k) ≢ undefined
    by (inl y) k low e =
        let same = ap (λ (s : Session). s.dataset) y.session in
        number_defined old old.index old.places new.index new.places y.planned before k (subst (λ (d : Described). k < needed d) same low) (ap (λ (d : Described). address_in new.index (index_key d k)) (sym same) ∙ e)
    by (inr y) k low e =
        let same = ap (λ (s : Session). s.dataset) y.session in
        let starting = kept_starting (image_now log) old.name r.after r.address r.rest old.index r.knows (subst (λ (d : Described). (d.layout.address ≡ undefined) ⊎ (has_no_block old.index ≡ true)) (sym r.keeps.dataset) y.unmade) r.index in
        let each : (m : ℕ) → m < needed old.dataset → address_in y.made (index_key old.dataset m) ≢ undefined = λ m there none. before m there (blank_none old.index starting.blank (index_key old.dataset m)) in
        number_defined old y.made y.first new.index new.places y.planned each k (subst (λ (d : Described). k < needed d) same low) (ap (λ (d : Described). address_in new.index (index_key d k)) (sym same) ∙ e)
