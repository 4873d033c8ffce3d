-- A put into a file as a write of the image that it is, and looks at it.
use Rattle.std.proofs.Common.{◌≡◌, ℕ, List, [], ◌∷◌, ◌++◌, length, Option, Some, None, refl, sym, ap, ap₂, ◌∙◌, arith}
use Rattle.std.specs.Prelude.{IfSome, IsSome, option_map}
use Rattle.std.specs.Option.{unwrap_or}
use Rattle.h5w_model.specs.Images.{apply, image}
use Rattle.h5w_model.specs.declared.piece.Write.{Write}
use Rattle.h5w_image.specs.View.{DiskState, DiskView, ImageView, IsThere, Leaves, Looked, Wrote, file, put}
use Rattle.h5w_image.proofs.Names.{get-insert_same}
use Rattle.h5w_files.specs.Images.{LeavesFiles, file_image, told_bytes}

there_applied : (wr : Write) (o : Option (List ℕ)) → IsSome o → Some (apply wr (unwrap_or o [])) ≡ option_map (λ b. image b (wr ∷ [])) o
there_applied wr None h = absurd (cc)
there_applied wr (Some b) h = refl

put_bytes : (name : List ℕ) (wr : Write) (faults : ℕ) (t : Option DiskState) → IfSome t (λ d. IsSome (file d name))
    → told_bytes (option_map (put name wr faults) t) name ≡ option_map (λ b. image b (wr ∷ [])) (told_bytes t name)
put_bytes name wr faults None h = refl
put_bytes name wr faults (Some d) h = get-insert_same d.files name (apply wr (unwrap_or (file d name) [])) ∙ there_applied wr (file d name) h

pub wrote_file : {v w : DiskView} (r : ℕ) (name : List ℕ) (wr : Write) (faults : ℕ) → IsThere v name → Leaves 1 (option_map (put name wr faults) v.told) v w
    → Wrote (wr ∷ []) (file_image r name v) (file_image r name w)
wrote_file {v} {w} r name wr faults there p = record {
  bytes = ap (λ t. told_bytes t name) p.told ∙ put_bytes name wr faults v.told there;
  history = refl;
  alone = refl;
  faults = p.faults;
  through = ap (λ t. r ∷ length name ∷ name ++ t) p.through;
  pieces = p.pieces;
  end = p.end name;
}

-- ---- What works through the same

cut_alike : (xs ys cs ds : List ℕ) → length xs ≡ length ys → xs ++ cs ≡ ys ++ ds → (xs ≡ ys) × (cs ≡ ds)
cut_alike [] [] cs ds count e = (refl, e)
cut_alike [] (y ∷ ys) cs ds count e = absurd (cc)
cut_alike (x ∷ xs) [] cs ds count e = absurd (cc)
cut_alike (x ∷ xs) (y ∷ ys) cs ds count e =
    let first : x ≡ y = cc in
    let rest : xs ++ cs ≡ ys ++ ds = cc in
    let both = cut_alike xs ys cs ds (omega (arith, count)) rest in
    (ap₂ (λ z zs. z ∷ zs) first both.0, both.1)

-- images that work through the same are of one name
pub same_name : (r q : ℕ) (name other cs ds : List ℕ) → q ∷ length other ∷ other ++ ds ≡ r ∷ length name ∷ name ++ cs → (other ≡ name) × (ds ≡ cs)
same_name r q name other cs ds e = let count : length other ≡ length name = cc in let rest : other ++ ds ≡ name ++ cs = cc in cut_alike other name ds cs count rest

-- looks at a file leave its disk
pub looked_files : {u w : DiskView} (r q : ℕ) (name other : List ℕ) → Looked (file_image r name u) (file_image q other w) → LeavesFiles u.told u w
looked_files {u} {w} r q name other looked =
    let same = looked.still refl in
    record { told = same.disk; faults = same.faults; through = (same_name r q name other u.through w.through same.through).1 }

pub leaves_on : {u v w : DiskView} → LeavesFiles u.told u v → LeavesFiles v.told v w → LeavesFiles u.told u w
leaves_on p q = record { told = q.told ∙ p.told; faults = omega (arith, p.faults, q.faults); through = q.through ∙ p.through }

pub reference_looked : {v w : ImageView} → Looked v w → (r q : ℕ) (xs ys : List ℕ) → v.through ≡ r ∷ xs → w.through ≡ q ∷ ys → q ≡ r
reference_looked same r q xs ys e f = let both : q ∷ ys ≡ r ∷ xs = sym f ∙ same.through ∙ e in cc
