-- What readers find at a session's first position, and what stays of it.
use Rattle.std.proofs.Common.{◌≡◌, ℕ, ◌≤◌, List, [], ◌∷◌, length, take, ap, sym, ◌∙◌, subst, arith}
use Rattle.h5w_model.specs.Images.{image}
use Rattle.h5w_model.specs.Programs.{visits}
use Rattle.h5w_model.specs.Logs.{Log, hist}
use Rattle.h5w_model.specs.Datasets.{root_header, root_view}
use Rattle.h5w_model.specs.Tables.{Reading, Shows, format_limits}
use Rattle.h5w_model.specs.Findings.{Used}
use Rattle.h5w_model.specs.Prefixed.{Held, IsPosition, Keeps, continuation_blocks, image_at, root_address}
use Rattle.h5w_step_laws.specs.Ranges.{visits_of}
use Rattle.h5w_step_laws.specs.Moments.{reading_of}
use Rattle.h5w_step_laws.proofs.FoundLemmas.{moment_shows}
use Rattle.h5w_step_laws.proofs.MomentLemmas.{header_of, root_at}
use Rattle.h5w_creation_laws.specs.CreatedFiles.{CreatedFile, IsCreatable, created_blocks, created_moment, created_writes, header_place, root_len, root_place, super_of}
use Rattle.h5w_creation_laws.proofs.CreatedLaws.{created_new}
use Rattle.h5w_writer.specs.Past.{HasCreated}
use Rattle.h5w_writer.specs.Sessions.{Session}
use Rattle.h5w_writer.proofs.PastLemmas.{one_each}
use Rattle.h5w_writer.proofs.RootLooks.{root_alone}

behind_first : (u v : Used) (us vs : List Used) → u ∷ us ≡ v ∷ vs → vs ≡ us
behind_first u v us vs e = cc

-- a new file's bytes
abbrev pub new_image : CreatedFile → List ℕ
new_image f = image [] (created_writes f)

-- a new file's root header is one look, and its dataset header names no further block
pub record IsBeginning (f : CreatedFile) : Type 0 where
  pub shows : Shows format_limits (new_image f) f.name (reading_of (created_moment f))
  pub root : visits (new_image f) (root_header (root_address (new_image f))) ≡ record { place = root_place; len = 512; counts = root_view } ∷ []
  pub header : continuation_blocks (new_image f) (reading_of (created_moment f)) ≡ []

pub beginning : (f : CreatedFile) → IsCreatable f → IsBeginning f
beginning f is =
    let img = new_image f in
    let m = created_moment f in
    let c = created_new f is in
    let h = header_of img f.name m c.represents in
    let short : root_len f ≤ 512 = let bound = is.name_bound in omega arith in
    record {
      shows = moment_shows img f.name m c.represents;
      root = ap (λ (a : ℕ). visits img (root_header a)) (root_at img f.name m c.represents) ∙ root_alone img f.name (super_of f) (header_place f) (root_len f) c.root short;
      header = h.named ∙ ap visits_of (behind_first _ _ [] h.continued h.ranges);
    }

-- what stays from the first position to a later one
pub since_first : (s : Session) (log : Log) (p : ℕ) (r : Reading) → (b : HasCreated s log) → Held s.name log → IsPosition log p → Shows format_limits (image_at log p) s.name r
    → Keeps (new_image b.file) (reading_of (created_moment b.file)) (image_at log p) r
since_first s log p r b held at shows =
    let f = b.file in
    let m = created_moment f in
    let n = length (created_writes f) in
    let first : log.first ≡ length (created_blocks f) = ap (λ (l : Log). l.first) b.log_is in
    let count : n ≡ length (created_blocks f) = one_each f in
    let img : image_at log n ≡ new_image f = ap (λ (start : List ℕ). image start (take n (hist log.events))) (ap (λ (l : Log). l.start) b.log_is) ∙ ap (image []) b.pieces in
    let begins = beginning f b.is in
    let there : Shows format_limits (image_at log n) s.name (reading_of m) =
    subst (λ (i : List ℕ). Shows format_limits i s.name (reading_of m)) (sym img) (subst (λ (name : List ℕ). Shows format_limits (new_image f) name (reading_of m)) (sym b.name) begins.shows) in
    let low : n ≤ p = omega (arith, first, count, at.begun) in
    subst (λ (i : List ℕ). Keeps i (reading_of m) (image_at log p) r) img
    (held n p (reading_of m) r (record { begun = omega (arith, first, count); reached = omega (arith, low, at.reached) }) at low there shows)
