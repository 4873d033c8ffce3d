-- The events of batches: their pieces, their values and their loads.
use Rattle.std.proofs.Common.{◌≡◌, ℕ, ◌+◌, ◌-◌, ◌*◌, ◌/◌, ◌≤◌, List, [], ◌∷◌, ◌++◌, length, ℤ, nat_lt, refl, ap, ◌∙◌, arith}
use Rattle.std.proofs.lemmas.Bool.{cond_both}
use Rattle.h5w_model.specs.Logs.{Cutting, Happening, Log, appended, appended_in, appends, div_up, flushed, load, plans, shows, spent_in, touched_chunks}
use Rattle.h5w_model.specs.declared.piece.Write.{Write}
use Rattle.h5w_creation_laws.specs.CreatedFiles.{created_writes}
use Rattle.h5w_make.specs.Commands.{AreBatches, new_file, values_of}
use Rattle.h5w_reader_laws.specs.Showing.{showing}
use Rattle.h5w_reader_laws.proofs.ShowingLemmas.{appended_showing}

pub spent_showing : (c : Cutting) (log : Log) (ws : List Write) (es : List Happening) → spent_in c log (showing ws es) ≡ spent_in c log es
spent_showing c log [] es = refl
spent_showing c log (w ∷ ws) es = spent_showing c log ws (shows w ∷ es)

-- what was appended are the batches' values
pub appended_batches : (bs : List (List ℤ)) (es : List Happening) → AreBatches bs es → appended_in es ≡ values_of bs
appended_batches [] es is = ap appended_in is ∙ appended_showing (created_writes new_file) []
appended_batches (b ∷ bs) es h =
    ap appended_in h.2.is
    ∙ appended_showing h.2.pieces (plans (length h.2.pieces) ∷ showing h.2.early (appends b ∷ h.0))
    ∙ appended_showing h.2.early (appends b ∷ h.0)
    ∙ ap (λ (vs : List ℤ). vs ++ b) (appended_batches bs h.0 h.1)

-- how the file is cut
abbrev pub cutting : Cutting
cutting = record { chunk_rows = 64; chunk_columns = 1; columns = 1; value_size = 4 }

few_touched : (old new : ℕ) → new ≤ old + 1000 → touched_chunks cutting old new ≤ 17
few_touched old new few =
    cond_both (nat_lt old new) ((div_up new 64 - old / 64) * div_up 1 1) 0 (λ (n : ℕ). n ≤ 17) (λ t. omega arith) (λ t. omega arith)

-- the load of a batch
pub load_bound : (log : Log) → length (appended log) ≤ length (flushed log) + 1000 → load cutting log ≤ 346000
load_bound log few =
    let touched : touched_chunks cutting (length (flushed log) / 1) (length (appended log) / 1) ≤ 17 = few_touched (length (flushed log) / 1) (length (appended log) / 1) (omega arith) in
    omega (arith, touched)
