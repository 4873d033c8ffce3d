-- The blocks in place over looks at images that change: what is found is what one of these images has.
use Rattle.std.proofs.Common.{◌≡◌, ◌⊎◌, ℕ, ◌+◌, ◌^◌, ◌≤◌, true, false, cond, List, [], ◌∷◌, length, Result, Ok, Err, refl, sym, ◌∙◌, ap, subst, inl, inr, arith}
use Rattle.std.specs.Prelude.{◌==◌, if◌then◌else◌}
use Rattle.std.specs.List.{Any}
use Rattle.std.proofs.lemmas.Bool.{cond_both, cond-true, cond-false, cases_Bool, eqb-false}
use Rattle.h5w_model.specs.Numbers.{range, undefined}
use Rattle.h5w_model.specs.Programs.{Prog, ret, whole, eval, bind, and_then, lowered, Takes, IsLookAt}
use Rattle.h5w_model.specs.Arrays.{EahdFields, eahd_at, eaib_at, eahd_len, eaib_len}
use Rattle.h5w_model.specs.Trees.{bthd_at, bthd_len}
use Rattle.h5w_model.specs.Logs.{Log}
use Rattle.h5w_model.specs.Datasets.{Described, then_also, refused_as}
use Rattle.h5w_model.specs.Tables.{InPlace, nowhere, in_array, in_tree, in_place, array_in_place, tree_in_place}
use Rattle.h5w_model.specs.Prefixed.{image_at, NamesBlock, StaysDefined}
use Rattle.h5w_model.specs.Readers.{Placed, IsCall, looks_of}
use Rattle.h5w_model.specs.declared.cell.IndexKind.{IndexKind}
use Rattle.h5w_model.specs.declared.cell.IndexKind.TheVariants.{Array, Tree}
use Rattle.h5w_model.specs.declared.refusal.ReadError.{ReadError}
use Rattle.h5w_model.specs.declared.refusal.ReadError.TheVariants.{Damaged}
use Rattle.h5w_model.specs.declared.refusal.BlockFault.{BlockFault}
use Rattle.h5w_laws.proofs.ResultLemmas.{HasAnswer, then_ok, refused_ok, passes, choice_ok, choice_from, fits_in}
use Rattle.h5w_reader_laws.specs.Headline.{IsTakenAt}
use Rattle.h5w_reader_laws.proofs.LookLemmas.{Until, any_here, any_there, one_look}

-- how a program goes on with an answer
abbrev pub onward : {A B : Type 0} → (A → Prog (Result B ReadError)) → Result A ReadError → Prog (Result B ReadError)
onward f r = elim r [ Ok a ↦ f a | Err e ↦ ret (Err e) ]

-- The blocks in place as they are at some position of a call, and the looks that come then.
pub record BlocksFound (B : Type 0) (log : Log) (p q cap : ℕ) (blocks_of : Prog (Result InPlace ReadError)) (f : InPlace → Prog (Result B ReadError)) (ts : List Placed) (a : Result B ReadError) : Type 0 where
  pub at : ℕ
  pub low : p ≤ at
  pub high : at ≤ q
  pub looked : (at ≡ p) ⊎ Any (IsTakenAt at) ts
  pub blocks : InPlace
  pub read : eval (image_at log at) blocks_of ≡ Ok blocks
  pub rest : List Placed
  pub call : IsCall log at rest
  pub until : Until q rest
  pub takes : Takes (lowered cap [] (f blocks)) (looks_of rest) a

-- at each position up to a last one they are read, and no image ends past 2^64
pub record AreRead (log : Log) (p q : ℕ) (blocks_of : Prog (Result InPlace ReadError)) : Type 0 where
  pub ordered : p ≤ q
  pub read : (u : ℕ) → p ≤ u → u ≤ q → HasAnswer (eval (image_at log u) blocks_of)
  pub fits : (u : ℕ) → p ≤ u → u ≤ q → length (image_at log u) ≤ 2 ^ 64

-- an index block that an array's header names is named from then on
abbrev pub KeepsName : Log → ℕ → ℕ → ℕ → Type 0
KeepsName log p q address = (u w a b : ℕ) → p ≤ u → u ≤ w → w ≤ q → NamesBlock (image_at log u) address a → NamesBlock (image_at log w) address b → StaysDefined a b

look_bytes : (log : Log) (t : Placed) (place len : ℕ) → IsLookAt (image_at log t.position) t.look → t.look.place ≡ place → t.look.len ≡ len
    → t.look.bytes ≡ range (image_at log t.position) place len
look_bytes log t place len gave at_place whole_len =
    let img : List ℕ = image_at log t.position in
    gave ∙ ap (λ a. range img a t.look.len) at_place ∙ ap (λ n. range img place n) whole_len

-- ---- The array

abbrev index_block : ℕ → List ℕ → Result InPlace ReadError
index_block block b = then_also (refused_as (Damaged block) (eaib_at b block)) (λ e. Ok (in_array e))

abbrev second_block : ℕ → Prog (Result InPlace ReadError)
second_block block = cond (block == undefined) (ret (Ok nowhere)) (whole block eaib_len (λ b. ret (index_block block b)))

abbrev from_header : ℕ → Result EahdFields BlockFault → Prog (Result InPlace ReadError)
from_header address r = elim r as (λ _. Prog (Result InPlace ReadError)) [ Ok a ↦ second_block a.block | Err f ↦ ret (Err (Damaged address f)) ]

-- the array's header, and what comes behind it
record HeaderRead (img : List ℕ) (address : ℕ) (b : InPlace) : Type 0 where
  header : EahdFields
  is : eahd_at (range img address eahd_len) address ≡ Ok header
  behind : eval img (second_block header.block) ≡ Ok b
  inside : address + eahd_len ≤ length img

header_read : (img : List ℕ) (address : ℕ) (b : InPlace) → eval img (array_in_place address) ≡ Ok b → HeaderRead img address b
header_read img address b h =
    let r = eahd_at (range img address eahd_len) address in
    let c = choice_ok img r (λ a. second_block a.block) (Damaged address) b h in
    record { header = c.0; is = c.1; behind = c.2; inside = fits_in img address eahd_len (omega arith) (passes _ _ _ c.0 c.1).0 }

named : (img : List ℕ) (address : ℕ) (h : EahdFields) → eahd_at (range img address eahd_len) address ≡ Ok h → NamesBlock img address h.block
named img address h is =
    subst (λ (r : Result EahdFields BlockFault). elim r as (λ _. Type 0) [ Ok x ↦ x.block ≡ h.block | Err f ↦ h.block ≡ undefined ]) (sym is) refl

-- an index block that is read lies within the image
index_inside : (img : List ℕ) (block : ℕ) (b : InPlace) → index_block block (range img block eaib_len) ≡ Ok b → block + eaib_len ≤ length img
index_inside img block b h =
    let r = refused_as (Damaged block) (eaib_at (range img block eaib_len) block) in
    let e = then_ok r (λ e. Ok (in_array e)) b h in
    let i = refused_ok (Damaged block) (eaib_at (range img block eaib_len) block) e.0 e.1 in
    fits_in img block eaib_len (omega arith) (passes _ _ _ e.0 i).0

-- behind a header that names no block
none_named : {B : Type 0} (log : Log) (p q address cap : ℕ) (f : InPlace → Prog (Result B ReadError)) (t : Placed) (ts : List Placed) (a : Result B ReadError) (h : EahdFields)
    → p ≤ t.position → t.position ≤ q → IsCall log t.position ts → Until q ts → eahd_at (range (image_at log t.position) address eahd_len) address ≡ Ok h
    → (h.block == undefined) ≡ true → Takes (lowered cap [] (bind (second_block h.block) (onward f))) (looks_of ts) a
    → BlocksFound B log p q cap (array_in_place address) f (t ∷ ts) a
none_named {B} log p q address cap f t ts a h low high call until is none takes =
    let img : List ℕ = image_at log t.position in
    let second : Prog (Result InPlace ReadError) = whole h.block eaib_len (λ b. ret (index_block h.block b)) in
    let e : second_block h.block ≡ ret (Ok nowhere) = cond-true (h.block == undefined) (ret (Ok nowhere)) second none in
    record {
      at = t.position;
      low = low;
      high = high;
      looked = inr (any_here (IsTakenAt t.position) t ts refl);
      blocks = nowhere;
      read = choice_from img (eahd_at (range img address eahd_len) address) (λ a. second_block a.block) (Damaged address) h nowhere is (ap (eval img) e);
      rest = ts;
      call = call;
      until = until;
      takes = subst (λ (x : Prog (Result InPlace ReadError)). Takes (lowered cap [] (bind x (onward f))) (looks_of ts) a) e takes;
    }

-- behind a header that names one: the look at it is at a position at which the header names it too
one_named : {B : Type 0} (log : Log) (p q address cap : ℕ) (f : InPlace → Prog (Result B ReadError)) (t : Placed) (ts : List Placed) (a : Result B ReadError) (h : EahdFields) (b : InPlace)
    → AreRead log p q (array_in_place address) → KeepsName log p q address
    → p ≤ t.position → t.position ≤ q → IsCall log t.position ts → Until q ts → eahd_at (range (image_at log t.position) address eahd_len) address ≡ Ok h
    → eval (image_at log t.position) (second_block h.block) ≡ Ok b
    → (h.block == undefined) ≡ false → Takes (lowered cap [] (bind (second_block h.block) (onward f))) (looks_of ts) a
    → BlocksFound B log p q cap (array_in_place address) f (t ∷ ts) a
one_named {B} log p q address cap f t ts a h b are keeps low high call until is behind some takes =
    let img : List ℕ = image_at log t.position in
    let block : ℕ = h.block in
    let second : Prog (Result InPlace ReadError) = whole block eaib_len (λ b. ret (index_block block b)) in
    let e : second_block block ≡ second = cond-false (block == undefined) (ret (Ok nowhere)) second some in
    let inside : block + eaib_len ≤ length img = index_inside img block b (ap (eval img) (sym e) ∙ behind) in
    let one = one_look block eaib_len (λ x. lowered cap [] (onward f (index_block block x))) ts a (omega arith) (omega arith) (omega (arith, inside, are.fits t.position low high))
    (subst (λ (x : Prog (Result InPlace ReadError)). Takes (lowered cap [] (bind x (onward f))) (looks_of ts) a) e takes) in
    later one.look one.rest one.are one.at_place one.whole_len one.takes
  where
    later : (l : Placed) (rest : List Placed) → ts ≡ l ∷ rest → l.look.place ≡ h.block → l.look.len ≡ eaib_len
        → Takes (lowered cap [] (onward f (index_block h.block l.look.bytes))) (looks_of rest) a → BlocksFound B log p q cap (array_in_place address) f (t ∷ ts) a
    later l rest cut at_place whole_len then_takes =
        let c = subst (λ (xs : List Placed). IsCall log t.position xs) cut call in
        let u = subst (λ (xs : List Placed). Until q xs) cut until in
        let there : List ℕ = image_at log l.position in
        let found = are.read l.position (omega (arith, c.0)) u.0 in
        let r = header_read there address found.0 found.1 in
        let same : r.header.block ≡ h.block =
        keeps t.position l.position h.block r.header.block low c.0 u.0 (named (image_at log t.position) address h is) (named there address r.header r.is) (eqb-false h.block undefined some) in
        let read : eval there (second_block h.block) ≡ Ok found.0 = subst (λ x. eval there (second_block x) ≡ Ok found.0) same r.behind in
        let second : Prog (Result InPlace ReadError) = whole h.block eaib_len (λ b. ret (index_block h.block b)) in
        let says : index_block h.block (range there h.block eaib_len) ≡ Ok found.0 =
        ap (eval there) (sym (cond-false (h.block == undefined) (ret (Ok nowhere)) second some)) ∙ read in
        let bytes : l.look.bytes ≡ range there h.block eaib_len = look_bytes log l h.block eaib_len c.2 at_place whole_len in
        record {
          at = l.position;
          low = omega (arith, c.0);
          high = u.0;
          looked = inr (any_there (IsTakenAt l.position) t ts (subst (λ (xs : List Placed). Any (IsTakenAt l.position) xs) (sym cut) (any_here (IsTakenAt l.position) l rest refl)));
          blocks = found.0;
          read = found.1;
          rest = rest;
          call = c.3;
          until = u.1;
          takes = subst (λ (x : Result InPlace ReadError). Takes (lowered cap [] (onward f x)) (looks_of rest) a) (ap (index_block h.block) bytes ∙ says) then_takes;
        }

array_takes : {B : Type 0} (log : Log) (p q address cap : ℕ) (f : InPlace → Prog (Result B ReadError)) (ts : List Placed) (a : Result B ReadError)
    → AreRead log p q (array_in_place address) → KeepsName log p q address → IsCall log p ts → Until q ts
    → Takes (lowered cap [] (and_then (array_in_place address) f)) (looks_of ts) a → BlocksFound B log p q cap (array_in_place address) f ts a
array_takes {B} log p q address cap f ts a are keeps call until takes =
    let first = are.read p (omega arith) are.ordered in
    let here = header_read (image_at log p) address first.0 first.1 in
    let one = one_look address eahd_len (λ x. lowered cap [] (bind (from_header address (eahd_at x address)) (onward f))) ts a (omega arith) (omega arith)
    (omega (arith, here.inside, are.fits p (omega arith) are.ordered)) takes in
    later one.look one.rest one.are one.at_place one.whole_len one.takes
  where
    later : (l : Placed) (rest : List Placed) → ts ≡ l ∷ rest → l.look.place ≡ address → l.look.len ≡ eahd_len
        → Takes (lowered cap [] (bind (from_header address (eahd_at l.look.bytes address)) (onward f))) (looks_of rest) a → BlocksFound B log p q cap (array_in_place address) f ts a
    later l rest cut at_place whole_len then_takes =
        let c = subst (λ (xs : List Placed). IsCall log p xs) cut call in
        let u = subst (λ (xs : List Placed). Until q xs) cut until in
        let there : List ℕ = image_at log l.position in
        let found = are.read l.position c.0 u.0 in
        let r = header_read there address found.0 found.1 in
        let bytes : l.look.bytes ≡ range there address eahd_len = look_bytes log l address eahd_len c.2 at_place whole_len in
        let goes = subst (λ (x : Result EahdFields BlockFault). Takes (lowered cap [] (bind (from_header address x) (onward f))) (looks_of rest) a) (ap (λ (b : List ℕ). eahd_at b address) bytes ∙ r.is) then_takes in
        subst (λ (xs : List Placed). BlocksFound B log p q cap (array_in_place address) f xs a) (sym cut)
        (elim (cases_Bool (r.header.block == undefined)) [
          | inl none ↦ none_named log p q address cap f l rest a r.header c.0 u.0 c.3 u.1 r.is none goes
          | inr some ↦ one_named log p q address cap f l rest a r.header found.0 are keeps c.0 u.0 c.3 u.1 r.is r.behind some goes
        ])

-- ---- The tree

abbrev tree_header : ℕ → List ℕ → Result InPlace ReadError
tree_header address b = then_also (refused_as (Damaged address) (bthd_at b address)) (λ t. Ok (if t.root == undefined then nowhere else in_tree t))

tree_inside : (img : List ℕ) (address : ℕ) (b : InPlace) → tree_header address (range img address bthd_len) ≡ Ok b → address + bthd_len ≤ length img
tree_inside img address b h =
    let r = refused_as (Damaged address) (bthd_at (range img address bthd_len) address) in
    let e = then_ok r (λ t. Ok (if t.root == undefined then nowhere else in_tree t)) b h in
    let i = refused_ok (Damaged address) (bthd_at (range img address bthd_len) address) e.0 e.1 in
    fits_in img address bthd_len (omega arith) (passes _ _ _ e.0 i).0

tree_takes : {B : Type 0} (log : Log) (p q address cap : ℕ) (f : InPlace → Prog (Result B ReadError)) (ts : List Placed) (a : Result B ReadError)
    → AreRead log p q (tree_in_place address) → IsCall log p ts → Until q ts
    → Takes (lowered cap [] (and_then (tree_in_place address) f)) (looks_of ts) a → BlocksFound B log p q cap (tree_in_place address) f ts a
tree_takes {B} log p q address cap f ts a are call until takes =
    let first = are.read p (omega arith) are.ordered in
    let inside : address + bthd_len ≤ length (image_at log p) = tree_inside (image_at log p) address first.0 first.1 in
    let one = one_look address bthd_len (λ x. lowered cap [] (onward f (tree_header address x))) ts a (omega arith) (omega arith)
    (omega (arith, inside, are.fits p (omega arith) are.ordered)) takes in
    later one.look one.rest one.are one.at_place one.whole_len one.takes
  where
    later : (l : Placed) (rest : List Placed) → ts ≡ l ∷ rest → l.look.place ≡ address → l.look.len ≡ bthd_len
        → Takes (lowered cap [] (onward f (tree_header address l.look.bytes))) (looks_of rest) a → BlocksFound B log p q cap (tree_in_place address) f ts a
    later l rest cut at_place whole_len then_takes =
        let c = subst (λ (xs : List Placed). IsCall log p xs) cut call in
        let u = subst (λ (xs : List Placed). Until q xs) cut until in
        let there : List ℕ = image_at log l.position in
        let found = are.read l.position c.0 u.0 in
        let bytes : l.look.bytes ≡ range there address bthd_len = look_bytes log l address bthd_len c.2 at_place whole_len in
        record {
          at = l.position;
          low = c.0;
          high = u.0;
          looked = inr (subst (λ (xs : List Placed). Any (IsTakenAt l.position) xs) (sym cut) (any_here (IsTakenAt l.position) l rest refl));
          blocks = found.0;
          read = found.1;
          rest = rest;
          call = c.3;
          until = u.1;
          takes = subst (λ (x : Result InPlace ReadError). Takes (lowered cap [] (onward f x)) (looks_of rest) a) (ap (tree_header address) bytes ∙ found.1) then_takes;
        }

-- ---- Either

-- where there is no index
no_index : {B : Type 0} (log : Log) (p q cap : ℕ) (f : InPlace → Prog (Result B ReadError)) (ts : List Placed) (a : Result B ReadError) → p ≤ q → IsCall log p ts → Until q ts
    → Takes (lowered cap [] (f nowhere)) (looks_of ts) a → BlocksFound B log p q cap (ret (Ok nowhere)) f ts a
no_index log p q cap f ts a h call until takes =
    record { at = p; low = omega arith; high = h; looked = inl refl; blocks = nowhere; read = refl; rest = ts; call = call; until = until; takes = takes }

abbrev by_kind : IndexKind → ℕ → Prog (Result InPlace ReadError)
by_kind kind address = elim kind as (λ _. Prog (Result InPlace ReadError)) [ Array ↦ array_in_place address | Tree ↦ tree_in_place address ]

kind_takes : {B : Type 0} (log : Log) (p q : ℕ) (kind : IndexKind) (address cap : ℕ) (f : InPlace → Prog (Result B ReadError)) (ts : List Placed) (a : Result B ReadError)
    → AreRead log p q (by_kind kind address) → (kind ≡ Array → KeepsName log p q address) → IsCall log p ts → Until q ts
    → Takes (lowered cap [] (and_then (by_kind kind address) f)) (looks_of ts) a → BlocksFound B log p q cap (by_kind kind address) f ts a
kind_takes log p q Array address cap f ts a are keeps call until takes = array_takes log p q address cap f ts a are (keeps refl) call until takes
kind_takes log p q Tree address cap f ts a are keeps call until takes = tree_takes log p q address cap f ts a are call until takes

pub blocks_taken : {B : Type 0} (log : Log) (p q cap : ℕ) (d : Described) (f : InPlace → Prog (Result B ReadError)) (ts : List Placed) (a : Result B ReadError)
    → AreRead log p q (in_place d) → (d.layout.index ≡ Array → (d.layout.address ≡ undefined → ⊥) → KeepsName log p q d.layout.address) → IsCall log p ts → Until q ts
    → Takes (lowered cap [] (and_then (in_place d) f)) (looks_of ts) a → BlocksFound B log p q cap (in_place d) f ts a
blocks_taken {B} log p q cap d f ts a are keeps call until =
    let n : ℕ = d.layout.address in
    cond_both (n == undefined) (ret (Ok nowhere)) (by_kind d.layout.index n)
    (λ (x : Prog (Result InPlace ReadError)). AreRead log p q x → Takes (lowered cap [] (and_then x f)) (looks_of ts) a → BlocksFound B log p q cap x f ts a)
    (λ t r h. no_index log p q cap f ts a r.ordered call until h)
    (λ t r h. kind_takes log p q d.layout.index n cap f ts a r (λ is. keeps is (eqb-false n undefined t)) call until h)
    are
