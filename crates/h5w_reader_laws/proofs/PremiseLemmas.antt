-- What holds at one position of a log that readers can rest on, and so at all.
use Rattle.std.proofs.Common.{◌≡◌, ℕ, ◌+◌, ◌-◌, ◌*◌, ◌/◌, ◌≤◌, List, [], ◌∷◌, length, sym, ◌∙◌, ap, subst, inl, inr, arith}
use Rattle.std.proofs.lemmas.Bool.{cases_lt}
use Rattle.std.proofs.lemmas.Nat.{le-div}
use Rattle.std.proofs.Math.Nat.{mul-le-mul_right, div-mul-le_self}
use Rattle.h5w_model.specs.Programs.{Visit, visits}
use Rattle.h5w_model.specs.Logs.{Log, hist}
use Rattle.h5w_model.specs.Datasets.{Described, root_header}
use Rattle.h5w_model.specs.Tables.{Reading, Shows, format_limits, limit_of, needed, chunks_across}
use Rattle.h5w_model.specs.Prefixed.{image_at, IsPosition, SameDescribed, Stays, root_address, continuation_blocks}
use Rattle.h5w_laws.proofs.ProgramLemmas.{same_visits}
use Rattle.h5w_reader_laws.specs.Headline.{Served, WithinFromLast}
use Rattle.h5w_reader_laws.specs.Bounds.{NeedsAtMost, ShortHeaders, BoundsFromOne, looks_in}
use Rattle.h5w_reader_laws.proofs.MomentLemmas.{Moment, moment, keeps, shown_is}
use Rattle.h5w_reader_laws.proofs.KeyLemmas.{Sound, sound_shown}

-- ---- Chunks

-- more rows need no fewer chunks
needed_more : (d e : Described) → Sound d → SameDescribed d e → d.shape.rows ≤ e.shape.rows → needed d ≤ needed e
needed_more d e sound same more =
    let n : ℕ = d.layout.chunk_rows in
    let a : (d.shape.rows + n - 1) / n * n ≤ d.shape.rows + n - 1 = div-mul-le_self (d.shape.rows + n - 1) n in
    let b : (d.shape.rows + n - 1) / n ≤ (e.shape.rows + n - 1) / n = le-div ((d.shape.rows + n - 1) / n) (e.shape.rows + n - 1) n sound.rows (omega arith) in
    let c : needed e ≡ (e.shape.rows + n - 1) / n * chunks_across d = ap (λ (x : Described). needed x) same.rows_alone in
    omega (arith, mul-le-mul_right (chunks_across d) b, c)

-- the moment of the last position
last_moment : (name : List ℕ) (log : Log) (p : ℕ) → Served name log → IsPosition log p → Moment name log (length (hist log.events))
last_moment name log p served at = moment name log (length (hist log.events)) served (record { begun = omega (arith, at.begun, at.reached); reached = omega arith })

-- what is needed at a position, and at the last one
record NeedsLess (name : List ℕ) (log : Log) (r last : Reading) : Type 0 where
  fewer : needed r.dataset ≤ needed last.dataset
  kind : last.dataset.layout.index ≡ r.dataset.layout.index

needs_less : (name : List ℕ) (log : Log) (p : ℕ) (r last : Reading) → Served name log → IsPosition log p → Shows format_limits (image_at log p) name r
    → Shows format_limits (image_at log (length (hist log.events))) name last → NeedsLess name log r last
needs_less name log p r last served at shows shows_last =
    let m = moment name log p served at in
    let n = last_moment name log p served at in
    let k = (keeps name log p (length (hist log.events)) m n served at.reached).stays in
    let few = needed_more m.shown.dataset n.shown.dataset (sound_shown (image_at log p) name m.shown.place m.shown.dataset m.steps.place m.steps.header) k.described k.rows in
    let both : NeedsLess name log m.shown n.shown = record { fewer = few; kind = ap (λ (x : Described). x.layout.index) k.described.rows_alone } in
    subst (λ (x : Reading). NeedsLess name log x last) (sym (shown_is name log p m r shows))
    (subst (λ (x : Reading). NeedsLess name log m.shown x) (sym (shown_is name log (length (hist log.events)) n last shows_last)) both)

pub within_from_last : WithinFromLast
within_from_last limits name log r served shows few p s at shows_s =
    let l = needs_less name log p s r served at shows_s shows in
    subst (λ kind. needed s.dataset ≤ limit_of limits kind) l.kind (omega (arith, l.fewer))

needs_at_most : (name : List ℕ) (log : Log) (n : ℕ) (r : Reading) → Served name log → Shows format_limits (image_at log (length (hist log.events))) name r
    → needed r.dataset ≤ n → NeedsAtMost name log n
needs_at_most name log n r served shows few p s at shows_s = let l = needs_less name log p s r served at shows_s shows in omega (arith, l.fewer)

-- ---- Headers

-- the headers at two positions are looked at alike
pub record LookedAlike (name : List ℕ) (log : Log) (p q : ℕ) (r s : Reading) : Type 0 where
  pub root : visits (image_at log q) (root_header (root_address (image_at log q))) ≡ visits (image_at log p) (root_header (root_address (image_at log p)))
  pub dataset : continuation_blocks (image_at log q) s ≡ continuation_blocks (image_at log p) r

stays_alike : (name : List ℕ) (log : Log) (p q : ℕ) (r s : Reading) → Stays (image_at log p) r (image_at log q) s → LookedAlike name log p q r s
stays_alike name log p q r s k =
    let old : List ℕ = image_at log p in
    let new : List ℕ = image_at log q in
    record {
      root = ap (λ a. visits new (root_header a)) k.root ∙ same_visits old new (root_header (root_address old)) k.root_header;
      dataset = k.named;
    }

pub looked_alike : (name : List ℕ) (log : Log) (p q : ℕ) (m : Moment name log p) (n : Moment name log q) → Served name log → LookedAlike name log p q m.shown n.shown
looked_alike name log p q m n served =
    elim (cases_lt p q) [
      | inl less ↦ stays_alike name log p q m.shown n.shown (keeps name log p q m n served (omega arith)).stays
      | inr more ↦
          let a = stays_alike name log q p n.shown m.shown (keeps name log q p n m served more).stays in
          record { root = sym (a.root); dataset = sym (a.dataset) }
    ]

headers_once : (name : List ℕ) (log : Log) (p : ℕ) (r : Reading) → Served name log → IsPosition log p → Shows format_limits (image_at log p) name r
    → looks_in (visits (image_at log p) (root_header (root_address (image_at log p)))) ≤ 2 → continuation_blocks (image_at log p) r ≡ [] → ShortHeaders name log
headers_once name log p r served at shows few none =
    let m = moment name log p served at in
    let is : r ≡ m.shown = shown_is name log p m r shows in
    record {
      root = λ q to. let a = looked_alike name log p q m (moment name log q served to) served in subst (λ (vs : List Visit). looks_in vs ≤ 2) (sym (a.root)) few;
      dataset = λ q s to shows_s.
          let n = moment name log q served to in
          let a = looked_alike name log p q m n served in
          ap (λ (x : Reading). continuation_blocks (image_at log q) x) (shown_is name log q n s shows_s) ∙ a.dataset ∙ sym (ap (λ (x : Reading). continuation_blocks (image_at log p) x) is) ∙ none;
    }

pub bounds_from_one : BoundsFromOne
bounds_from_one = record { needs = needs_at_most; headers = headers_once }
