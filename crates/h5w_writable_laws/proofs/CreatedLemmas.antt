-- A created file can be written.
use Rattle.std.proofs.Common.{◌≡◌, ℕ, ◌+◌, ◌-◌, ◌≤◌, true, cond, List, [], ◌∷◌, ◌++◌, length, Result, Ok, Err, refl, ap, sym, ◌∙◌, arith, append-nil}
use Rattle.std.specs.Prelude.{nat_lt}
use Rattle.std.proofs.lemmas.Bool.{le-ltb}
use Rattle.h5w_model.specs.Numbers.{range}
use Rattle.h5w_model.specs.Images.{At, image}
use Rattle.h5w_model.specs.Programs.{Prog, ret, whole, eval}
use Rattle.h5w_model.specs.Headers.{header_bytes, messages_at, msgs_bytes, placed, prefix_at}
use Rattle.h5w_model.specs.Datasets.{HeaderFields, Range, found_at, from_chunk_0, header_refusal, root_view}
use Rattle.h5w_model.specs.Messages.{unsupported}
use Rattle.h5w_model.specs.Findings.{Used}
use Rattle.h5w_model.specs.Tables.{format_limits}
use Rattle.h5w_model.specs.declared.message.Msg.{Msg}
use Rattle.h5w_model.specs.declared.message.Prefix.{Prefix}
use Rattle.h5w_model.specs.declared.refusal.HeaderError.{HeaderError}
use Rattle.h5w_model.specs.declared.refusal.ReadError.{ReadError}
use Rattle.h5w_model.specs.declared.refusal.ReadError.TheVariants as read_errors
use Rattle.h5w_model.proofs.HeaderRoundTrip.{messages_at-written}
use Rattle.h5w_model.proofs.ImageLemmas.{Holds-rest}
use Rattle.h5w_laws.proofs.PrefixLemmas.{one_prefix, root_view_found}
use Rattle.h5w_laws.proofs.ResultLemmas.{choice_from, choice_ok}
use Rattle.h5w_step_laws.specs.Ranges.{block_at}
use Rattle.h5w_step_laws.proofs.HeaderLaws.{dataset_parts, root_looks, root_parts}
use Rattle.h5w_step_laws.proofs.HeaderVisits.{used_of, view_whole}
use Rattle.h5w_step_laws.specs.Moments.{Moment, Represents, reading_of}
use Rattle.h5w_step_laws.proofs.MomentLemmas.{root_at}
use Rattle.h5w_step_laws.specs.Files.{chunk_0}
use Rattle.h5w_step_laws.specs.Spelled.{IsSpellable, spelled_header, spelled_messages}
use Rattle.h5w_step_laws.proofs.ImageLemmas.{HeaderRead, header_read}
use Rattle.h5w_step_laws.proofs.SpelledLemmas.{spelled_read, spelled_stands}
use Rattle.h5w_headers.specs.Walks.{dataset_header_for, from_chunk_0_for, known_by, root_header_for, walk_for}
use Rattle.h5w_creation_laws.specs.CreatedFiles.{CreatedFile, IsCreatable, created_moment, created_writes, header_block, header_place, index_blocks, root_block, root_len, root_messages, root_place, super_of}
use Rattle.h5w_creation_laws.proofs.CreatedLaws.{created_new, created_sizes, front_blocks}
use Rattle.h5w_creation_laws.proofs.SizeLemmas.{prefix_long, root_long, root_messages_long}
use Rattle.h5w_creation_laws.proofs.RootLemmas.{root_view-by}
use Rattle.h5w_writable_laws.specs.Writable.{CanBeWritten, CreatedWritable}

abbrev Answer : Type 0
Answer = Result HeaderFields ReadError

abbrev walks_for : ℕ → Prefix → List Msg → Prog Answer
walks_for place p ms = walk_for true 32 place p.tracked (record { place = place; len = p.total } ∷ []) [] (found_at place true ms)

abbrev alone : ℕ → Prefix → List Msg → HeaderFields
alone place p ms = record { messages = found_at place true ms; ranges = record { place = place; len = p.total } ∷ [] }

-- chunk 0 with these messages, of which a writer knows each and none is a continuation
taken : (img : List ℕ) (place : ℕ) (p : Prefix) (b : List ℕ) (ms : List Msg) → messages_at b ≡ Ok ms → known_by true (Ok ms) ≡ Ok ms → eval img (walks_for place p ms) ≡ Ok (alone place p ms)
    → eval img (from_chunk_0_for true place p b) ≡ Ok (alone place p ms)
taken img place p b ms read known walked = choice_from img (known_by true (messages_at b)) (walks_for place p) (header_refusal place) ms (alone place p ms) (ap (known_by true) read ∙ known) walked

-- where it is spelled as a created one
pub spelled_taken : (img name : List ℕ) (m : Moment) → Represents img name m → IsSpellable m.dataset → At img m.place (spelled_header m.dataset) → m.place + length (spelled_header m.dataset) ≤ m.super.end
    → (h : HeaderFields) × (eval img (dataset_header_for true m.place) ≡ Ok h)
spelled_taken img name m file can at fits =
    let place : ℕ = m.place in
    let b : List ℕ = chunk_0 img place in
    let parts = dataset_parts img format_limits m.super place m.dataset m.header file.header in
    let r : HeaderRead img place parts.header = header_read img place parts.header parts.read in
    let p : Prefix = r.prefix in
    let chunk : b ≡ spelled_header m.dataset = (spelled_stands img format_limits m.super place m.dataset can at fits parts.within).chunk in
    let ms : List Msg = placed 7 (spelled_messages m.dataset) in
    let read : messages_at b ≡ Ok ms = ap messages_at chunk ∙ (spelled_read m.dataset can).alone in
    let large : Prog Answer = ret (Err (read_errors.Unsupported (unsupported 1))) in
    let go_for : Prefix → Prog Answer = λ q. cond (nat_lt 512 q.total) large (from_chunk_0_for true place q b) in (
      alone place p ms,
      choice_from img (prefix_at b) go_for (header_refusal place) p (alone place p ms) r.begins_so
          (ap (λ t. eval img (cond t large (from_chunk_0_for true place p b))) (le-ltb 512 p.total r.short) ∙ taken img place p b ms read refl refl),
    )

first_range : (u v : Used) (us vs : List Used) → ◌≡◌ {A = List Used} (u ∷ us) (v ∷ vs) → u ≡ v
first_range u v us vs e = cc

module _ (f : CreatedFile) (is : IsCreatable f) where
  abbrev img : List ℕ
  img = image [] (created_writes f)

  short : length f.name ≤ 64
  short = is.name_bound

  root_there : At img root_place (root_block f).1
  root_there = (Holds-rest img (index_blocks f.index f) (front_blocks f) (created_new f is).blocks).1.0

  header_there : At img (header_place f) (header_block f).1
  header_there = (Holds-rest img (index_blocks f.index f) (front_blocks f) (created_new f is).blocks).0

  root_says : messages_at (header_bytes (root_messages f)) ≡ Ok (placed 7 (root_messages f))
  root_says =
      let n = length (msgs_bytes (root_messages f)) in
      let long = root_messages_long f in
      let bound = short in
      ap messages_at (sym (append-nil (header_bytes (root_messages f))))
      ∙ messages_at-written (root_messages f) [] (omega (arith, long, bound)) (record { complete = refl; known = refl })
      ∙ ap (λ (k : ℕ). Ok (placed k (root_messages f))) (prefix_long n (omega (arith, long, bound)))

  root_taken : (h : HeaderFields) × (eval img (root_header_for true root_place) ≡ Ok h)
  root_taken =
      let place : ℕ = root_place in
      let first : List ℕ = root_view (range img place 512) in
      let word : HeaderError → ReadError = header_refusal place in
      let parts = root_parts img f.name (super_of f) (header_place f) (created_moment f).root (created_new f is).root in
      let more : Prefix → Prog Answer = λ p. cond (nat_lt 512 p.total) (whole (place + 512) (p.total - 512) (λ rest. from_chunk_0 place p (first ++ rest))) (from_chunk_0 place p first) in
      let more_for : Prefix → Prog Answer = λ p. cond (nat_lt 512 p.total) (whole (place + 512) (p.total - 512) (λ rest. from_chunk_0_for true place p (first ++ rest))) (from_chunk_0_for true place p first) in
      let x = choice_ok img (prefix_at first) more word parts.header parts.read in
      let p : Prefix = x.0 in
      let looks = root_looks img place parts.header parts.read in
      let says : prefix_at (range img place 512) ≡ Ok p = root_view_found (range img place 512) p x.1 in
      let one : looks.prefix ≡ p = one_prefix p looks.prefix (sym looks.says ∙ says) in
      let ranges : block_at place (root_len f) ∷ [] ≡ block_at place looks.prefix.total ∷ used_of looks.blocks = parts.ranges ∙ ap (λ (rs : List Range). used_of rs) looks.ranges in
      let same : root_len f ≡ looks.prefix.total = ap (λ (u : Used). u.len) (first_range (block_at place (root_len f)) (block_at place looks.prefix.total) [] (used_of looks.blocks) ranges) in
      let total : p.total ≡ root_len f = sym (same ∙ ap (λ (q : Prefix). q.total) one) in
      let bound = short in
      let small : p.total ≤ 512 = omega (arith, total, bound) in
      let bytes : List ℕ = header_bytes (root_messages f) in
      let long = root_long f bound in
      let here : first ≡ bytes =
      root_view-by (range img place 512) p says small ∙ view_whole img place p says small ∙ ap (λ n. range img place n) (total ∙ sym long) ∙ root_there in
      let ms : List Msg = placed 7 (root_messages f) in
      let read : messages_at first ≡ Ok ms = ap messages_at here ∙ root_says in (
        alone place p ms,
        choice_from img (prefix_at first) more_for word p (alone place p ms) x.1
            (ap (λ t. eval img (cond t (whole (place + 512) (p.total - 512) (λ rest. from_chunk_0_for true place p (first ++ rest))) (from_chunk_0_for true place p first))) (le-ltb 512 p.total small)
            ∙ taken img place p first ms read refl refl),
      )

  header_taken : (h : HeaderFields) × (eval img (dataset_header_for true (header_place f)) ≡ Ok h)
  header_taken =
      let sizes = created_sizes f is in
      let long = sizes.header in
      spelled_taken img f.name (created_moment f) (created_new f is).represents sizes.spellable header_there (omega (arith, long))

  pub can_be_written : CanBeWritten img (reading_of (created_moment f))
  can_be_written = record {
    root = (root_taken.0, ap (λ a. eval img (root_header_for true a)) (root_at img f.name (created_moment f) (created_new f is).represents) ∙ root_taken.1);
    header = header_taken;
    layout = λ none. (created_new f is).layout;
  }

pub created_writable : CreatedWritable
created_writable f is = can_be_written f is
