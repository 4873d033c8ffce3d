-- What a piece leaves of the addresses of the needed chunks.
use Rattle.std.proofs.Common.{◌≡◌, ℕ, ◌+◌, ◌*◌, ◌<◌, ◌≤◌, List, length, get_or, sym, ap, ◌∙◌, subst, arith}
use Rattle.std.proofs.lemmas.Nat.{mul-le}
use Rattle.h5w_model.specs.Numbers.{undefined}
use Rattle.h5w_model.specs.Datasets.{Described}
use Rattle.h5w_model.specs.Tables.{Reading, Shows, format_limits, needed}
use Rattle.h5w_model.specs.Findings.{Used}
use Rattle.h5w_model.specs.declared.piece.Write.{Write}
use Rattle.h5w_laws.proofs.NumberLemmas.{needed_count}
use Rattle.h5w_step_laws.specs.Moments.{Moment, Represents, reading_of}
use Rattle.h5w_step_laws.specs.Steps.{Step, commits, ends, switches, unseen}
use Rattle.h5w_step_laws.proofs.FoundLemmas.{shown_is}
use Rattle.h5w_step_laws.proofs.MomentLemmas.{one_more, table_of_file}
use Rattle.h5w_writer.specs.Past.{AllAddressed}

-- ---- A piece that brings no rows

-- more rows are more values
no_rise : (a b cols : ℕ) → 0 < cols → a < b → a * cols ≡ b * cols → ⊥
no_rise a b cols some less same =
    let most : (a + 1) * cols ≤ b * cols = mul-le (a + 1) cols b cols (omega arith) (omega arith) in
    absurd (omega (arith, one_more a cols))

pub step_addressed : (img name : List ℕ) (m : Moment) (held : List Used) (w : Write) (n : Moment) (after : List Used) → Represents img name m → 0 < m.dataset.shape.cols → Step img m held w n after
    → n.values ≡ m.values → AllAddressed (reading_of m) → AllAddressed (reading_of n)
step_addressed img name m held w n after r some (unseen hidden misses same kept) values a = subst (λ (x : Moment). AllAddressed (reading_of x)) (sym same) a
step_addressed img name m held w n after r some (ends raised kept) values a = subst (λ (x : Moment). AllAddressed (reading_of x)) (sym raised.is) a
step_addressed img name m held w n after r some (switches named off clear now) values a = λ k below.
    let same : n.dataset ≡ m.dataset = ap (λ (x : Moment). x.dataset) named.is in
    let inside : k < needed m.dataset = subst (λ (d : Described). k < needed d) same below in
    let count : length m.table ≡ needed m.dataset = (table_of_file img name m r).listed ∙ needed_count m.dataset in
    let stays : get_or n.table k undefined ≡ get_or m.table k undefined = named.addresses k (omega (arith, count)) (a k inside) in
    λ e. a k inside (sym stays ∙ e)
step_addressed img name m held w n after r some (commits committed now) values a =
    let cols : n.dataset.shape.cols ≡ m.dataset.shape.cols = ap (λ (d : Described). d.shape.cols) committed.described.rows_alone in
    let same : m.dataset.shape.rows * m.dataset.shape.cols ≡ n.dataset.shape.rows * m.dataset.shape.cols =
    sym r.count ∙ sym (ap length values) ∙ committed.count ∙ ap (λ (c : ℕ). n.dataset.shape.rows * c) cols in
    absurd (no_rise m.dataset.shape.rows n.dataset.shape.rows m.dataset.shape.cols some committed.rises same)

-- ---- At a position

-- whatever an image shows of a file
pub shown_addressed : (img name : List ℕ) (m : Moment) (r : Reading) → Represents img name m → AllAddressed (reading_of m) → Shows format_limits img name r → AllAddressed r
shown_addressed img name m r here a shows = subst AllAddressed (sym (shown_is img name m r here shows)) a
