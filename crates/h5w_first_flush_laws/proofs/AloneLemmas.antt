-- What a session knows of a file whose array is a header alone.
use Rattle.std.proofs.Common.{◌≡◌, ℕ, false, List, [], ◌∷◌, ◌++◌, Result, Ok, Err, refl, sym, ◌∙◌, ap, subst, inl}
use Rattle.std.specs.Prelude.{cond}
use Rattle.std.proofs.lemmas.Bool.{eq-eqb}
use Rattle.h5w_model.specs.Numbers.{range, undefined}
use Rattle.h5w_model.specs.Images.{Misses, apply}
use Rattle.h5w_model.specs.Arrays.{EahdFields, eahd_at, eahd_len}
use Rattle.h5w_model.specs.Programs.{Prog, ret, eval, visits, Visit}
use Rattle.h5w_model.specs.Datasets.{Described}
use Rattle.h5w_model.specs.Tables.{InPlace, nowhere, in_place}
use Rattle.h5w_model.specs.Findings.{Used, chunk_bytes}
use Rattle.h5w_model.specs.declared.piece.Write.{Write}
use Rattle.h5w_model.specs.declared.refusal.ReadError.{ReadError}
use Rattle.h5w_model.specs.declared.refusal.ReadError.TheVariants.{Damaged}
use Rattle.h5w_model.proofs.ImageLemmas.{range-apply_missed}
use Rattle.h5w_step_laws.specs.Ranges.{Among, block_at, blocks_of}
use Rattle.h5w_step_laws.specs.Indexes.{behind_visit}
use Rattle.h5w_step_laws.proofs.RangeLemmas.{among_left, among_right}
use Rattle.h5w_step_laws.proofs.IndexVisits.{look_at, block_read}
use Rattle.h5w_step_laws.specs.Moments.{Moment, Represents}
use Rattle.h5w_step_laws.proofs.StepRepresents.{MissesEach, ends_missed}
use Rattle.h5w_array_laws.proofs.InPlaceLemmas.{from_header, header_read, of_dataset}
use Rattle.h5w_array_laws.proofs.StandLemmas.{header_fits}
use Rattle.h5w_flush_laws.proofs.FlushLaws.{freed_known}
use Rattle.h5w_flush_laws.proofs.KnownLaws.{begin_knows, end_known, one_answer}
use Rattle.h5w_first_flush_laws.specs.FirstFlushes.{no_chunk}
use Rattle.h5w_first_flush_laws.proofs.FirstFlushLemmas.{one_list}
use Rattle.h5w_first_flush_laws.specs.HeaderAlone.{IsHeaderAlone, AloneBegins, AloneEnds, AloneFreed, AloneNowhere}

-- whatever is asked of the program that reads the blocks in place: it ends with the header
ends_there : {A : Type 0} (img : List ℕ) (place : ℕ) (a : EahdFields) (f : Prog (Result InPlace ReadError) → A) → eahd_at (range img place eahd_len) place ≡ Ok a → a.block ≡ undefined
    → f (from_header place (range img place eahd_len)) ≡ f (ret (Ok nowhere))
ends_there img place a f read none =
    ap (λ (r : Result EahdFields _). f (elim r as (λ _. Prog (Result InPlace ReadError)) [ Ok a ↦ header_read a | Err e ↦ ret (Err (Damaged place e)) ])) read
    ∙ ap (λ c. f (cond c (ret (Ok nowhere)) (block_read a.block))) (eq-eqb a.block undefined none)

pub alone_nowhere : AloneNowhere
alone_nowhere img name m r x =
    let d : Described = m.dataset in
    let i = r.index in
    let read : eval img (in_place d) ≡ Ok nowhere = of_dataset d (eval img) x.kind x.named ∙ ends_there img d.layout.address x.fields (eval img) x.read x.none in
    let looks : visits img (in_place d) ≡ look_at d.layout.address eahd_len ∷ [] =
    of_dataset d (visits img) x.kind x.named ∙ ap (λ (vs : List Visit). look_at d.layout.address eahd_len ∷ vs) (ends_there img d.layout.address x.fields (visits img) x.read x.none) in
    record {
      map = record { blocks = nowhere; read = read; answers = λ key n. refl };
      fixed = i.fixed_are ∙ ap blocks_of looks;
      behind = one_list m.behind [] (sym i.stands ∙ ap (λ (p : InPlace). eval img (behind_visit m.super.end (chunk_bytes d) p)) (one_answer i.blocks nowhere (sym i.read ∙ read)));
    }

pub alone_begins : AloneBegins
alone_begins img name m s r x begun =
    let known = begin_knows img name m no_chunk s r (alone_nowhere img name m r x).map begun (λ none. absurd (x.named none)) in
    (record { knows = known.knows; alone = x }, known.is)

-- a write that misses the ranges of its blocks leaves it
pub alone_missed : (img name : List ℕ) (m : Moment) (w : Write) → Represents img name m → IsHeaderAlone img m.dataset → ((u : Used) → Among u (m.fixed ++ m.behind) → u.chunk ≡ false → Misses w u.place u.len)
    → IsHeaderAlone (apply w img) m.dataset
alone_missed img name m w r x off =
    let at : ℕ = m.dataset.layout.address in
    let u : Used = block_at at eahd_len in
    let among : Among u m.fixed = subst (λ (us : List Used). Among u us) (sym (alone_nowhere img name m r x).fixed) (inl refl) in
    let same = range-apply_missed w img at eahd_len (off u (among_left u m.fixed m.behind among) refl) (header_fits img at x.fields x.read) in
    record { kind = x.kind; named = x.named; fields = x.fields; read = ap (λ (b : List ℕ). eahd_at b at) same ∙ x.read; none = x.none }

pub alone_ends : AloneEnds
alone_ends img name m n s w x e fits =
    let off : MissesEach w (m.fixed ++ m.behind) = λ u a. ends_missed img m n w x.knows.file.apart e u (among_right u m.root (m.header ++ (m.fixed ++ m.behind)) (among_right u m.header (m.fixed ++ m.behind) a)) in
    let known = end_known img name m n no_chunk s w x.knows e fits in
    (record { knows = known.knows; alone = subst (λ (y : Moment). IsHeaderAlone (apply w img) y.dataset) (sym e.is) (alone_missed img name m w x.knows.file x.alone (λ u a block. off u a)) }, known.is)

pub alone_freed : AloneFreed
alone_freed img name m s t x c =
    let known = freed_known img name m no_chunk s t c x.knows in
    (record { knows = known.knows; alone = x.alone }, known.is)
