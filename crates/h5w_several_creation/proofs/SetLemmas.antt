-- The blocks of a dataset, and how long the headers of a new file are.
use Rattle.std.proofs.Common.{◌≡◌, ℕ, ◌+◌, ◌*◌, ◌≤◌, cond, leb, List, [], ◌∷◌, ◌++◌, length, replicate, append_assoc, refl, sym, ap, ◌∙◌, subst, inl, inr, arith}
use Rattle.std.specs.Prelude.{map}
use Rattle.std.specs.List.{AllByRecursion, sum_by}
use Rattle.std.proofs.lemmas.Bool.{cases_Bool}
use Rattle.std.proofs.lemmas.List.Sums.{sum_by-cons}
use Rattle.h5w_model.specs.Numbers.{le}
use Rattle.h5w_model.specs.Headers.{header_bytes, msgs_bytes, prefix_bytes}
use Rattle.h5w_model.specs.Images.{pieces}
use Rattle.h5w_model.specs.Superblock.{super_bytes}
use Rattle.h5w_model.specs.Links.{link_info_bytes, group_info_bytes, link_info_kind}
use Rattle.h5w_model.specs.declared.root.Super.{Super}
use Rattle.h5w_model.specs.declared.message.Msg.{Msg}
use Rattle.h5w_model.specs.declared.piece.Write.{Write}
use Rattle.h5w_model.specs.declared.cell.IndexKind.{IndexKind}
use Rattle.h5w_model.specs.declared.cell.IndexKind.TheVariants.{Array, Tree}
use Rattle.h5w_model.proofs.HeaderLemmas.{length-header_bytes}
use Rattle.h5w_model.proofs.HeaderRoundTrip.{prefix_bytes-small, prefix_bytes-large}
use Rattle.h5w_step_laws.specs.Spelled.{message, spelled_header}
use Rattle.h5w_creation_laws.specs.CreatedFiles.{CreatedFile, IsCreatable, block_write, described_of, group_info_kind, header_len, root_place}
use Rattle.h5w_creation_laws.proofs.SizeLemmas.{header_long}
use Rattle.h5w_creation.specs.Forms.{IsForm}
use Rattle.h5w_creation.specs.Made.{index_writes}
use Rattle.h5w_creation.specs.declared.form.Form.{Form}
use Rattle.h5w_creation.proofs.FormLemmas.{creatable}
use Rattle.h5w_several_creation_laws.specs.SeveralFiles.{AllNamed, AreCreatable, names_of, index_behind, end_from, links_len, links_from, first_place, end_of, root_messages, root_bytes, header_at, index_at, set_at, sets_from, all_sets, super_block, created_writes}
use Rattle.h5w_several_creation_laws.proofs.PlaceLemmas.{end_bound, root_bound}
use Rattle.h5w_several_creation_laws.proofs.RootLemmas.{messages_long}
use Rattle.h5w_several_creation.specs.Forms.{AreForms, AreNames, HasRoom, any_by, each_by, with_address}
use Rattle.h5w_several_creation.proofs.HeaderLemmas.{moved_header}

-- ---- The root header

-- how many bytes stand before messages
prefix_few : (n : ℕ) → length (prefix_bytes n) ≤ 8
unfolding le
prefix_few n = elim (cases_Bool (leb n 255)) [
  | inl e ↦ let long : length (prefix_bytes n) ≡ 7 = ap length (prefix_bytes-small n e) in omega (arith, long)
  | inr e ↦ let long : length (prefix_bytes n) ≡ 8 = ap length (prefix_bytes-large n e) in omega (arith, long)
]

pub root_fits : (ms : List Msg) → length (msgs_bytes ms) ≤ 660 → length (header_bytes ms) ≤ 672
root_fits ms h = omega (arith, length-header_bytes ms, prefix_few (length (msgs_bytes ms)))

-- ---- The names and forms

pub all_creatable : (names : List (List ℕ)) (forms : List Form) → AllByRecursion IsForm forms → AllByRecursion HasRoom names → AllByRecursion IsCreatable (each_by names forms)
all_creatable [] forms is each = tt
all_creatable (name ∷ names) [] is each = tt
all_creatable (name ∷ names) (form ∷ forms) is each = (creatable name form is.0 each.0.0 each.0.1, all_creatable names forms is.1 each.1)

abbrev pub link_len : List ℕ → ℕ
link_len name = 15 + length name

pub names_sum : (names : List (List ℕ)) (forms : List Form) → length forms ≡ length names → sum_by link_len names ≡ links_len (each_by names forms)
names_sum [] forms many = refl
names_sum (name ∷ names) [] many = absurd (omega (arith, many))
names_sum (name ∷ names) (form ∷ forms) many =
    let one = sum_by-cons link_len name names in
    let rest = names_sum names forms (omega (arith, many)) in
    omega arith

pub names_short : (names : List (List ℕ)) → AllByRecursion HasRoom names → sum_by link_len names ≤ 79 * length names
names_short [] each = omega arith
names_short (name ∷ names) each =
    let one = sum_by-cons link_len name names in
    let rest = names_short names each.1 in
    let short = each.0.1 in
    omega arith

pub as_many : (names : List (List ℕ)) (forms : List Form) → length forms ≡ length names → length (each_by names forms) ≡ length names
as_many [] forms many = refl
as_many (name ∷ names) [] many = absurd (omega (arith, many))
as_many (name ∷ names) (form ∷ forms) many = let rest = as_many names forms (omega (arith, many)) in omega arith

-- one form for each name
pub same_forms : (names : List (List ℕ)) (form : Form) → IsForm form → AreForms names (replicate (length names) form)
same_forms [] form is = record { many = refl; each = tt }
same_forms (name ∷ names) form is =
    let rest = same_forms names form is in
    let many = rest.many in
    record { many = omega (arith, many); each = (is, rest.each) }

pub names_same : (names : List (List ℕ)) (forms : List Form) → length forms ≡ length names → names_of (each_by names forms) ≡ names
names_same [] forms many = refl
names_same (name ∷ names) [] many = absurd (omega (arith, many))
names_same (name ∷ names) (form ∷ forms) many = ap (λ (ns : List (List ℕ)). name ∷ ns) (names_same names forms (omega (arith, many)))

-- a file can be created by them, where no two names are the same
pub are_creatable : (names : List (List ℕ)) (forms : List Form) → AreForms names forms → AreNames names → AllNamed names → AreCreatable (each_by names forms)
are_creatable names forms fits are named =
    let many = as_many names forms fits.many in
    let some = are.some in
    let few = are.few in
    record {
      some = omega (arith, many, some);
      few = omega (arith, many, few);
      each = all_creatable names forms fits.each are.each;
      named = subst AllNamed (sym (names_same names forms fits.many)) named;
    }

pub messages_few : (names : List (List ℕ)) (forms : List Form) → length forms ≡ length names → AreNames names → length (msgs_bytes (root_messages (each_by names forms))) ≤ 660
messages_few names forms many h =
    let few = h.few in
    let short = names_short names h.each in
    let sum = names_sum names forms many in
    omega (arith, messages_long (each_by names forms))

pub place_is : (names : List (List ℕ)) (forms : List Form) (len head : ℕ) → length forms ≡ length names → len ≡ sum_by link_len names → head ≡ cond (leb (28 + len) 255) 11 12 → 48 + (head + (28 + len)) ≡ first_place (each_by names forms)
place_is names forms len head many is by =
    ap (λ (h : ℕ). 48 + (h + (28 + len))) by
    ∙ ap (λ (n : ℕ). 48 + (cond (leb (28 + n) 255) 11 12 + (28 + n))) (is ∙ names_sum names forms many)

pub names_few : (names : List (List ℕ)) → AreNames names → sum_by link_len names ≤ 632
names_few names h = let few = h.few in let short = names_short names h.each in omega arith

-- where the datasets end
pub ends_low : (names : List (List ℕ)) (forms : List Form) (first : ℕ) → AreForms names forms → AreNames names → first ≡ first_place (each_by names forms) → end_from first (each_by names forms) ≤ 8192
ends_low names forms first fits are is =
    let few = are.few in
    let short = names_short names are.each in
    let sum = names_sum names forms fits.many in
    let root = root_bound (each_by names forms) in
    let end = end_bound first (each_by names forms) (all_creatable names forms fits.each are.each) in
    let many = as_many names forms fits.many in
    omega (arith, is)

-- ---- One dataset

pub header_is_long : (form : Form) → IsForm form → length (spelled_header (described_of (any_by form))) ≡ header_len (any_by form)
header_is_long form h = header_long (any_by form) h.creatable

pub header_moved : (form : Form) (place : ℕ) → with_address (spelled_header (described_of (any_by form))) (index_behind place (any_by form)) ≡ (header_at place (any_by form)).1
header_moved form place = moved_header (described_of (any_by form)) (index_behind place (any_by form))

pub set_writes : (k : IndexKind) (place : ℕ) (f : CreatedFile) → index_writes k (index_behind place f) (index_behind place f + 72) ++ block_write (header_at place f) ∷ [] ≡ map block_write (index_at k place f ++ header_at place f ∷ [])
set_writes Array place f = refl
set_writes Tree place f = refl

-- the pieces that a dataset adds
pub set_put : (form : Form) (place len : ℕ) (header piece : List ℕ) (old mid new : List Write) → IsForm form → header ≡ spelled_header (described_of (any_by form)) → len ≡ length header
    → mid ≡ old ++ index_writes form.index (place + len) (place + len + 72) → piece ≡ with_address header (place + len) → new ≡ mid ++ record { at = place; piece = piece } ∷ []
    → new ≡ old ++ map block_write (set_at place (any_by form))
set_put form place len header piece old mid new h is long index moved all =
    let k = form.index in
    let one : List ℕ → Write = λ b. record { at = place; piece = b } in
    let size : len ≡ header_len (any_by form) = long ∙ ap length is ∙ header_is_long form h in
    let at = index_behind place (any_by form) in
    all
    ∙ ap (λ (ws : List Write). ws ++ one piece ∷ []) index
    ∙ append_assoc old (index_writes k (place + len) (place + len + 72)) (one piece ∷ [])
    ∙ ap (λ (b : List ℕ). old ++ (index_writes k (place + len) (place + len + 72) ++ one b ∷ [])) (moved ∙ ap (λ (b : List ℕ). with_address b (place + len)) is)
    ∙ ap (λ (n : ℕ). old ++ (index_writes k (place + n) (place + n + 72) ++ one (with_address (spelled_header (described_of (any_by form))) (place + n)) ∷ [])) size
    ∙ ap (λ (b : List ℕ). old ++ (index_writes k at (at + 72) ++ one b ∷ [])) (header_moved form place)
    ∙ ap (λ (ws : List Write). old ++ ws) (set_writes k place (any_by form))

-- ---- All of them

pub links_are : (fs : List CreatedFile) (first : ℕ) (start ls : List Msg) → first ≡ first_place fs
    → start ≡ message link_info_kind link_info_bytes ∷ message group_info_kind group_info_bytes ∷ [] → ls ≡ start ++ links_from first fs → ls ≡ root_messages fs
links_are fs first start ls place infos all =
    all ∙ ap (λ (ms : List Msg). ms ++ links_from first fs) infos
    ∙ ap (λ (n : ℕ). message link_info_kind link_info_bytes ∷ message group_info_kind group_info_bytes ∷ links_from n fs) place

pub all_put : (fs : List CreatedFile) (first end : ℕ) (start ls : List Msg) (begun sets root all : List Write) (w : Write) (s : Super) → first ≡ first_place fs
    → start ≡ message link_info_kind link_info_bytes ∷ message group_info_kind group_info_bytes ∷ [] → ls ≡ start ++ links_from first fs → begun ≡ []
    → sets ≡ begun ++ map block_write (sets_from first fs) → root ≡ sets ++ pieces root_place (header_bytes ls) → end ≡ end_from first fs
    → s ≡ record { version = 3; flags = 5; end = end; root = root_place } → w ≡ record { at = 0; piece = super_bytes s } → all ≡ root ++ w ∷ [] → all ≡ created_writes fs
all_put fs first end start ls begun sets root all w s place infos links none own head last super piece done =
    let messages = links_are fs first start ls place infos links in
    let a : sets ≡ map block_write (all_sets fs) = own ∙ ap (λ (ws : List Write). ws ++ map block_write (sets_from first fs)) none ∙ ap (λ (n : ℕ). map block_write (sets_from n fs)) place in
    let b : root ≡ map block_write (all_sets fs) ++ pieces root_place (root_bytes fs) =
    head ∙ ap (λ (ws : List Write). ws ++ pieces root_place (header_bytes ls)) a ∙ ap (λ (ms : List Msg). map block_write (all_sets fs) ++ pieces root_place (header_bytes ms)) messages in
    let e : end ≡ end_of fs = last ∙ ap (λ (n : ℕ). end_from n fs) place in
    let v : w ≡ block_write (super_block 5 fs) =
    piece ∙ ap (λ (t : Super). record { at = 0; piece = super_bytes t }) (super ∙ ap (λ (n : ℕ). record { version = 3; flags = 5; end = n; root = root_place }) e) in
    done
    ∙ ap (λ (ws : List Write). ws ++ w ∷ []) b
    ∙ append_assoc (map block_write (all_sets fs)) (pieces root_place (root_bytes fs)) (w ∷ [])
    ∙ ap (λ (x : Write). map block_write (all_sets fs) ++ (pieces root_place (root_bytes fs) ++ x ∷ [])) v
