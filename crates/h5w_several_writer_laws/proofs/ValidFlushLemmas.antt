-- All names over a flush of several datasets, part after part.
use Rattle.std.proofs.Common.{◌≡◌, ℕ, suc, false, List, [], ◌∷◌, ◌++◌, refl, sym, ◌∙◌, ap, subst, inl, inr}
use Rattle.h5w_model.specs.Images.{image}
use Rattle.h5w_model.specs.Findings.{Used}
use Rattle.h5w_model.specs.Several.{Begun, FileLog}
use Rattle.h5w_model.specs.declared.piece.Write.{Write}
use Rattle.h5w_model.specs.declared.root.Super.{Super}
use Rattle.h5w_step_laws.specs.Ranges.{AllAmong, Among}
use Rattle.h5w_step_laws.proofs.RangeLemmas.{among_left, among_right}
use Rattle.h5w_space.specs.Space.{Space}
use Rattle.h5w_step_laws.specs.Moments.{Moment}
use Rattle.h5w_flush_laws.specs.Parts.{flushed_to}
use Rattle.h5w_several_laws.specs.Beside.{own_of}
use Rattle.h5w_several_laws.specs.Together.{AreBeside, StaysValid, names_of, onto}
use Rattle.h5w_several_laws.specs.Turns.{AreKnown, AreOff, Entry, all_then, flushed as flushed_entry, owns, told}
use Rattle.h5w_several_laws.proofs.FoldLemmas.{State}
use Rattle.h5w_several_laws.proofs.TogetherLemmas.{flush_stays_valid, names_then}
use Rattle.h5w_writer.specs.Sessions.{Session}
use Rattle.h5w_writer.specs.Told.{told_of}
use Rattle.h5w_writer.specs.PartLaws.{PartLaws}
use Rattle.h5w_several_writer_laws.specs.Sessions.{AreFlushed, all_pending}
use Rattle.h5w_several_writer_laws.specs.Standing.{AreStandingParts, last_image}
use Rattle.h5w_several_writer_laws.specs.Valid.{names_in}
use Rattle.h5w_several_writer_laws.proofs.PassedLemmas.{beside_told}
use Rattle.h5w_several_writer_laws.proofs.TurnPartLemmas.{IsTurned, IsWithin, flushed_named, last_joined, turned_part, within_then}
use Rattle.h5w_several_writer_laws.proofs.FoldPartLemmas.{AllOut, AllRest, is_done, is_waiting, next_state, rest_steps}
use Rattle.h5w_several_writer_laws.proofs.ValidLemmas.{known_there, off_clear, stays_joined}

-- ---- One part

all_beside : (img : List ℕ) (m : Moment) (s : Space) (os xs : List Entry) → AllAmong (owns xs) (owns os) → AreKnown img s m.super m.root xs → AreBeside (told m os) xs
all_beside img m s os [] inside known = tt
all_beside img m s os (x ∷ xs) inside known = (
  beside_told img m s m.super m.root os refl refl x (λ u a. inside u (among_left u (own_of x.moment) (owns xs) a)) known.0,
  all_beside img m s os xs (λ u a. inside u (among_right u (own_of x.moment) (owns xs) a)) known.1,
)

module _ (p : PartLaws) (log : FileLog) (us : List Used) where
  part_valid : (img : List ℕ) (root : Super) (t : Space) (all : List Write) (d : ℕ) (b : Begun) (ds : List Entry) (e : Entry) (es : List Entry) (s n : Session) → IsTurned p log us img root t all d b ds e es s n
      → StaysValid img (onto (names_of ds) (e.name ∷ names_of es)) n.pending
  part_valid img root t all d b ds e es s n x =
      let os = ds ++ es in
      flush_stays_valid img e.name (told e.moment os) (flushed_to (told e.moment os) x.parts) x.held x.parts.behind n.pending ds es x.file x.flush
      (known_there img t e.moment.super e.moment.root os x.others)
      (all_beside img e.moment t os os (λ u a. a) x.others)
      (off_clear os x.apart)

-- ---- All parts

module _ (p : PartLaws) (log : FileLog) (us : List Used) (blocks : (u : Used) → Among u us → u.chunk ≡ false) where
  fold_valid : (root last : Super) (t end : Space) (all : List Write) (ds : List Entry) (d : ℕ) (bs : List Begun) (ss uu : List Session) (es : List Entry) → State (last_image log all) t root us ds es → AllRest root t us all log d bs ss es
      → IsWithin t log → AreFlushed root t ss last end uu → StaysValid (last_image log all) (onto (names_of ds) (names_of es)) (all_pending uu)
  fold_valid root last t end all ds d [] [] [] [] st rest fits x = tt
  fold_valid root last t end all ds d (b ∷ bs) (s ∷ ss) (u ∷ uu) (e ∷ es) st rest fits x =
      let i = rest.0.0 in
      let one = is_done p log us blocks root t all d b s e rest.0.1 i in
      let waits = is_waiting p log us blocks root t all d b s e rest.0.1 i in
      let img = last_image log all in
      let names = onto (names_of ds) (e.name ∷ names_of es) in
      elim x [
        | inl none ↦
            let empty : [] ≡ u.pending = sym (ap (λ (y : Session). y.pending) none.1 ∙ rest.0.1) in
            let later = fold_valid root last t end all (e ∷ ds) (suc d) bs ss uu es (next_state img t root us ds e es st) rest.1 fits none.2 in
            subst (λ (ws : List Write). StaysValid img names (ws ++ all_pending uu)) empty later
        | inr turn ↦
            let n = turn.0 in
            let flushes = turn.1 in
            let turned = turned_part p log us img root t all d b ds e es s n refl st blocks one i.name rest.0.1 i.going flushes.flushed flushes.ends fits.low waits in
            let ws = n.pending in
            let next = flushed_entry e turned.parts in
            let state = subst (λ (y : List ℕ). State y n.places n.root us (next ∷ all_then n.root ds) (all_then n.root es)) (sym (last_joined log all ws)) turned.state in
            let later = fold_valid n.root last n.places end (all ++ ws) (next ∷ all_then n.root ds) (suc d) bs ss uu (all_then n.root es) state
            (rest_steps p log us blocks img ws all root n.root t n.places (suc d) bs ss es refl turned.rest turned.stretch rest.1) (within_then t n.places log ws turned.stretch) turn.3 in
            let named : onto (e.name ∷ names_of (all_then n.root ds)) (names_of (all_then n.root es)) ≡ names =
            ap (λ (ns : List (List ℕ)). onto (e.name ∷ ns) (names_of (all_then n.root es))) (names_then n.root ds) ∙ ap (λ (ns : List (List ℕ)). onto (e.name ∷ names_of ds) ns) (names_then n.root es) in
            let behind = subst (λ (k : List (List ℕ)). StaysValid (image img ws) k (all_pending uu)) named (subst (λ (y : List ℕ). StaysValid y (onto (e.name ∷ names_of (all_then n.root ds)) (names_of (all_then n.root es))) (all_pending uu)) (last_joined log all ws) later) in
            let both = stays_joined img names ws (all_pending uu) (part_valid p log us img root t all d b ds e es s n turned) behind in
            subst (λ (vs : List Write). StaysValid img names (vs ++ all_pending uu)) (sym (ap (λ (y : Session). y.pending) turn.2)) both
      ]
  fold_valid root last t end all ds d [] (s ∷ ss) uu es st rest fits x = absurd rest
  fold_valid root last t end all ds d [] [] uu (e ∷ es) st rest fits x = absurd rest
  fold_valid root last t end all ds d [] [] (u ∷ uu) [] st rest fits x = absurd x
  fold_valid root last t end all ds d (b ∷ bs) [] uu es st rest fits x = absurd rest
  fold_valid root last t end all ds d (b ∷ bs) (s ∷ ss) uu [] st rest fits x = absurd rest
  fold_valid root last t end all ds d (b ∷ bs) (s ∷ ss) [] (e ∷ es) st rest fits x = absurd x

  pub flush_valid : (root last : Super) (t end : Space) (bs : List Begun) (ss uu : List Session) (es : List Entry) → AreKnown (last_image log []) t root us es → AreOff es → AllRest root t us [] log 0 bs ss es → IsWithin t log
      → AreFlushed root t ss last end uu → StaysValid (last_image log []) (names_of es) (all_pending uu)
  flush_valid root last t end bs ss uu es known off rest fits x = fold_valid root last t end [] [] 0 bs ss uu es (record { passed = tt; known = known; apart = tt; off = off; across = tt }) rest fits x

-- ---- The names

pub standing_names : (root : Super) (t : Space) (us : List Used) (left : List Write) (log : FileLog) (d : ℕ) (bs : List Begun) (before : List Write) (ss : List Session) (es : List Entry) → AreStandingParts root t us left log d bs before ss es → names_of es ≡ names_in ss
standing_names root t us left log d [] before [] [] x = refl
standing_names root t us left log d (b ∷ bs) before (s ∷ ss) (e ∷ es) x =
    ap (λ (n : List ℕ). n ∷ names_of es) x.0.name ∙ ap (λ (ns : List (List ℕ)). s.name ∷ ns) (standing_names root t us left log (suc d) bs (before ++ s.pending) ss es x.1)
standing_names root t us left log d [] before (s ∷ ss) es x = absurd x
standing_names root t us left log d [] before [] (e ∷ es) x = absurd x
standing_names root t us left log d (b ∷ bs) before [] es x = absurd x
standing_names root t us left log d (b ∷ bs) before (s ∷ ss) [] x = absurd x

pub out_names : (last : Super) (end : Space) (us : List Used) (total : List Write) (log : FileLog) (d : ℕ) (bs : List Begun) (before : List Write) (uu : List Session) (es : List Entry) → AllOut last end us total log d bs before uu es → names_of es ≡ names_in uu
out_names last end us total log d [] before [] [] x = refl
out_names last end us total log d (b ∷ bs) before (u ∷ uu) (e ∷ es) x =
    ap (λ (n : List ℕ). n ∷ names_of es) (x.0.inside.name ∙ sym (ap (λ (y : Session). y.name) x.0.told)) ∙ ap (λ (ns : List (List ℕ)). u.name ∷ ns) (out_names last end us total log (suc d) bs (before ++ u.pending) uu es x.1)
out_names last end us total log d [] before (u ∷ uu) es x = absurd x
out_names last end us total log d [] before [] (e ∷ es) x = absurd x
out_names last end us total log d (b ∷ bs) before [] es x = absurd x
out_names last end us total log d (b ∷ bs) before (u ∷ uu) [] x = absurd x

pub flushed_names : (root : Super) (t : Space) (ss : List Session) (last : Super) (end : Space) (uu : List Session) → AreFlushed root t ss last end uu → names_in uu ≡ names_in ss
flushed_names root t [] last end [] x = refl
flushed_names root t (s ∷ ss) last end (u ∷ uu) x = elim x [
  | inl none ↦ ap (λ (y : Session). y.name ∷ names_in uu) none.1 ∙ ap (λ (ns : List (List ℕ)). s.name ∷ ns) (flushed_names root t ss last end uu none.2)
  | inr turn ↦
      let n = turn.0 in
      ap (λ (y : Session). y.name ∷ names_in uu) turn.2
      ∙ ap (λ (k : List ℕ). k ∷ names_in uu) (flushed_named (told_of s root t) n turn.1.flushed)
      ∙ ap (λ (ns : List (List ℕ)). s.name ∷ ns) (flushed_names n.root n.places ss last end uu turn.3)
]
flushed_names root t [] last end (u ∷ uu) x = absurd x
flushed_names root t (s ∷ ss) last end [] x = absurd x
