-- A first flush by what its calls give.
use Rattle.std.proofs.Common.{ℕ, List, [], ◌∷◌, ◌++◌, sym, ◌∙◌, ap, subst, inl, inr, arith}
use Rattle.std.specs.Prelude.{Some, ℤ}
use Rattle.h5w_model.specs.Arrays.{eahd_len, eaib_len}
use Rattle.h5w_model.specs.Findings.{Used}
use Rattle.h5w_model.specs.declared.piece.Write.{Write}
use Rattle.h5w_step_laws.specs.Ranges.{AllAmong, block_at}
use Rattle.h5w_space.specs.Space.{Space}
use Rattle.h5w_cache.specs.Stores.{Store}
use Rattle.h5w_cache.specs.StoreLaws.{Standing}
use Rattle.h5w_cache.specs.declared.moves.Move.{Move}
use Rattle.h5w_chunks.specs.declared.grid.ChunkPlace.{ChunkPlace}
use Rattle.h5w_step_laws.specs.Files.{commit_at}
use Rattle.h5w_step_laws.specs.Moments.{Moment}
use Rattle.h5w_step_laws.proofs.RangeLemmas.{among_left}
use Rattle.h5w_array_laws.specs.Parts.{index_block}
use Rattle.h5w_array_laws.specs.ArrayStores.{place_at_part, header_place, fixed_of}
use Rattle.h5w_array_laws.specs.ArrayImages.{StartsArray}
use Rattle.h5w_array_laws.proofs.CreatedLemmas.{created_starts}
use Rattle.h5w_flush_laws.specs.Spaces.{Taken}
use Rattle.h5w_step_laws.specs.Logs.{image_now}
use Rattle.h5w_flush_laws.specs.Chunks.{chunks_for}
use Rattle.h5w_flush_laws.proofs.SpaceLemmas.{taken_laws}
use Rattle.h5w_first_flush_laws.specs.FirstFlushes.{no_chunk}
use Rattle.h5w_first_flush_laws.specs.Starting.{IsBlank, StartKnows}
use Rattle.h5w_first_flush_laws.specs.StartFlushes.{HasStartingPart, first_blocks}
use Rattle.h5w_first_flush_laws.specs.StartCalls.{AreStartCalls, CallsStart, StartCalls, TwoTaken, StartPending}
use Rattle.h5w_first_flush_laws.proofs.StartLeadLemmas.{start_leads}
use Rattle.h5w_first_flush_laws.proofs.ArrayLeadLemmas.{array_pending}
use Rattle.h5w_first_flush_laws.proofs.StartFlushLemmas.{start_first}
use Rattle.h5w_first_flush_laws.proofs.TakenLemmas.{taken_again}
use Rattle.h5w_first_flush_laws.proofs.StartLemmas.{blank_standing, created_blank}
use Rattle.h5w_first_flush_laws.proofs.StartPieceLemmas.{start_part, start_pieces}

pub two_taken : TwoTaken
two_taken base a s at place first second =
    taken_again base s (block_at place eaib_len ∷ block_at at eahd_len ∷ []) (block_at at eahd_len ∷ block_at place eaib_len ∷ [])
    (taken_laws.joined base a s (block_at place eaib_len ∷ []) (block_at at eahd_len ∷ []) (taken_laws.one base a (block_at place eaib_len) (omega arith) first) (taken_laws.one a s (block_at at eahd_len) (omega arith) second))
    (record { among = there; counts = λ p. omega arith }) (record { among = back; counts = λ p. omega arith })
  where
    there : AllAmong (block_at place eaib_len ∷ block_at at eahd_len ∷ []) (block_at at eahd_len ∷ block_at place eaib_len ∷ [])
    there u (inl e) = inr (inl e)
    there u (inr (inl e)) = inl e
    there u (inr (inr a)) = absurd a

    back : AllAmong (block_at at eahd_len ∷ block_at place eaib_len ∷ []) (block_at place eaib_len ∷ block_at at eahd_len ∷ [])
    back u (inl e) = inr (inl e)
    back u (inr (inl e)) = inl e
    back u (inr (inr a)) = absurd a

module _ (img name : List ℕ) (m : Moment) (base b t : Space) (at place : ℕ) (blank u v w : Store) (ms : List Move) (rows : ℕ) (more : List ℤ) (writes : List Write) (places : List ChunkPlace) (cs fixed supers : List Write)
    (k : StartKnows img name m base blank) (c : AreStartCalls img m base b at place u v ms w t rows more writes places cs fixed supers) where
  abbrev chunks : List Used
  chunks = chunks_for m no_chunk places

  starts : StartsArray u
  starts = created_starts at place u c.made.created (let e = c.made.header_ends in omega (arith, e)) (let e = c.made.block_ends in omega (arith, e))

  made_blank : IsBlank u
  made_blank = created_blank at place u c.made.created (let e = c.made.header_ends in omega (arith, e)) (let e = c.made.block_ends in omega (arith, e))

  taken : Taken base (fixed_of u ++ chunks) b
  taken =
      subst (λ p. Taken base (block_at p eahd_len ∷ block_at (place_at_part u index_block) eaib_len ∷ chunks) b) (sym c.made.created.header_at)
      (subst (λ p. Taken base (block_at at eahd_len ∷ block_at p eaib_len ∷ chunks) b) (sym c.made.created.index_at) c.taken)

  standing : Standing v b
  standing =
      let off = taken.apart in
      c.names.standing b
      (blank_standing b u starts.array made_blank (off.0, λ l a. off.1 l (among_left l (block_at (place_at_part u index_block) eaib_len ∷ []) chunks a), (off.2.0, λ l a. absurd a, tt)) (λ l a. taken.live l (among_left l (fixed_of u) chunks a)))

  has : HasStartingPart m u v b ms w t chunks cs fixed
  has = start_part m u v w b t ms chunks cs fixed c.names.array standing c.names.places c.names.changed c.names.behind c.plan

  calls_start : CallsStart img name m base b u v ms w t rows more writes places cs fixed supers
  calls_start = record {
    copies = has.copies;
    blocks = has.writes;
    blank = made_blank;
    start = record {
      rising = c.rising has.copies;
      taken = taken;
      part = has.part;
    };
    pieces =
        start_pieces img m b t u v w ms rows more writes chunks has.copies fixed supers t.end has.part
        ∙ ap (λ (ws : List Write). writes ++ (ws ++ (fixed ++ (supers ++ commit_at img m.place rows (Some (header_place w)) ∷ [])))) (sym has.writes);
  }

pub start_calls : StartCalls
start_calls img name m base b t at place blank u v w ms rows more writes places cs fixed supers k c = calls_start img name m base b t at place blank u v w ms rows more writes places cs fixed supers k c

pub start_pending : StartPending
start_pending name log m base b t at place blank u v w ms rows more writes places cs fixed supers ws k runs c values are =
    let now : List ℕ = image_now log in
    let calls = start_calls now name m base b t at place blank u v w ms rows more writes places cs fixed supers k c in
    let known : StartKnows now name m base u = record { knows = k.knows; unnamed = k.unnamed; blank = calls.blank } in
    let first = start_first now name m base b t u v w ms rows more writes places calls.copies fixed supers known calls.start in
    array_pending name log m base t w rows more writes (chunks_for m no_chunk places) calls.copies (first_blocks w) supers [] (Some (header_place w)) k.knows runs first
    (start_leads now name m base b t u v w ms rows more writes places calls.copies fixed supers known calls.start) values ws (calls.pieces ∙ sym are)
