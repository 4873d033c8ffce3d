-- Such a flush by what its calls give.
use Rattle.std.proofs.Common.{◌≡◌, ℕ, List, [], ◌∷◌, ◌++◌, length, None, refl, sym, ◌∙◌, ap, subst, inl, inr, arith, length-append}
use Rattle.std.specs.Prelude.{min, ℤ}
use Rattle.h5w_model.specs.Arrays.{eahd_len, eaib_len}
use Rattle.h5w_model.specs.Findings.{Used}
use Rattle.h5w_model.specs.declared.piece.Write.{Write}
use Rattle.h5w_step_laws.specs.Ranges.{Among, AreApart, Disjoint, block_at}
use Rattle.h5w_space.specs.Space.{Space, IsLive}
use Rattle.h5w_cache.specs.Stores.{Store}
use Rattle.h5w_cache.specs.StoreLaws.{Standing}
use Rattle.h5w_cache.specs.declared.moves.Move.{Move}
use Rattle.h5w_chunks.specs.declared.grid.ChunkPlace.{ChunkPlace}
use Rattle.h5w_step_laws.specs.Files.{commit_at}
use Rattle.h5w_step_laws.specs.Moments.{Moment, all_used}
use Rattle.h5w_step_laws.specs.Logs.{image_now}
use Rattle.h5w_step_laws.proofs.MomentLemmas.{in_fixed}
use Rattle.h5w_step_laws.proofs.PartLemmas.{apart_sym, disjoint_apart}
use Rattle.h5w_array_laws.specs.ArrayStores.{header_place, fixed_of}
use Rattle.h5w_array_laws.specs.ArrayImages.{StartsArray}
use Rattle.h5w_array_laws.proofs.CreatedLemmas.{created_starts}
use Rattle.h5w_flush_laws.specs.Spaces.{AllLive, Taken, extent_of}
use Rattle.h5w_flush_laws.specs.Chunks.{chunks_for}
use Rattle.h5w_flush_laws.proofs.SpaceLemmas.{taken_disjoint}
use Rattle.h5w_first_flush_laws.specs.FirstFlushes.{no_chunk}
use Rattle.h5w_first_flush_laws.specs.Starting.{IsBlank}
use Rattle.h5w_first_flush_laws.specs.StartFlushes.{HasStartingPart}
use Rattle.h5w_first_flush_laws.proofs.StartLemmas.{blank_standing, created_blank}
use Rattle.h5w_first_flush_laws.proofs.StartPieceLemmas.{start_part}
use Rattle.h5w_first_flush_laws.specs.HeaderAlone.{AloneKnows}
use Rattle.h5w_first_flush_laws.specs.BlockFlushes.{AreBlockPieces, block_parts_for, block_piece, new_block, top_piece}
use Rattle.h5w_first_flush_laws.specs.BlockCalls.{AreBlockCalls, BlockCalls, BlockPending, CallsBlock}
use Rattle.h5w_first_flush_laws.proofs.AloneLemmas.{alone_nowhere}
use Rattle.h5w_first_flush_laws.proofs.BlockFlushLemmas as flushes
use Rattle.h5w_first_flush_laws.proofs.ArrayLeadLemmas.{array_pending}
use Rattle.h5w_first_flush_laws.proofs.BlockLeadLemmas.{block_leads}

-- of two pieces the last is one of them
one_last : (front behind : List Write) (x y : Write) → front ++ behind ≡ x ∷ y ∷ [] → length behind ≡ 1 → (front ≡ x ∷ []) × (behind ≡ y ∷ [])
one_last front [] x y h e = absurd (omega (arith, e))
one_last front (b ∷ c ∷ rest) x y h e = absurd (omega (arith, e))
one_last [] (b ∷ []) x y h e = absurd (let n = ap length h in omega (arith, n))
one_last (a ∷ []) (b ∷ []) x y h e = (cc, cc)
one_last (a ∷ c ∷ front) (b ∷ []) x y h e = absurd (let n = ap length h in omega (arith, n, length-append front (b ∷ [])))

module _ (img name : List ℕ) (m : Moment) (base b t : Space) (place : ℕ) (u v w : Store) (ms : List Move) (rows : ℕ) (more : List ℤ) (writes : List Write) (places : List ChunkPlace) (cs fixed supers : List Write)
    (k : AloneKnows img name m base) (c : AreBlockCalls img m base b place u v ms w t rows more writes places cs fixed supers) where
  abbrev at : ℕ
  at = m.dataset.layout.address

  abbrev chunks : List Used
  chunks = chunks_for m no_chunk places

  abbrev head : Used
  head = block_at at eahd_len

  abbrev body : Used
  body = block_at place eaib_len

  starts : StartsArray u
  starts = created_starts at place u c.made.created (let e = c.made.header_ends in omega (arith, e)) (let e = c.made.block_ends in omega (arith, e))

  blank : IsBlank u
  blank = created_blank at place u c.made.created (let e = c.made.header_ends in omega (arith, e)) (let e = c.made.block_ends in omega (arith, e))

  -- the header is in the file already
  head_used : Among head (all_used m)
  head_used = in_fixed m head (subst (λ (us : List Used). Among head us) (sym (alone_nowhere img name m k.knows.file k.alone).fixed) (inl refl))

  apart : AreApart head body
  apart = apart_sym body head (disjoint_apart (body ∷ chunks) (all_used m) body head (taken_disjoint base b (body ∷ chunks) (all_used m) c.taken k.knows.live k.knows.file.apart) (inl refl) head_used)

  live : AllLive b (head ∷ body ∷ [])
  live l (inl e) = subst (λ (y : Used). IsLive b (extent_of y)) e (c.taken.stays_live (extent_of head) (k.knows.live head head_used))
  live l (inr (inl e)) = subst (λ (y : Used). IsLive b (extent_of y)) e (c.taken.live body (inl refl))
  live l (inr (inr a)) = absurd a

  two : Disjoint (head ∷ body ∷ [])
  two = (omega arith, first, (omega arith, λ l a. absurd a, tt))
    where
      first : (l : Used) → Among l (body ∷ []) → AreApart head l
      first l (inl e) = subst (λ (y : Used). AreApart head y) e apart
      first l (inr a) = absurd a

  fixed_is : head ∷ body ∷ [] ≡ fixed_of u
  fixed_is = ap (λ p. block_at p eahd_len ∷ body ∷ []) (sym c.made.created.header_at) ∙ ap (λ p. block_at (header_place u) eahd_len ∷ block_at p eaib_len ∷ []) (sym c.made.created.index_at)

  standing : Standing v b
  standing = c.names.standing b (blank_standing b u starts.array blank (subst Disjoint fixed_is two) (subst (AllLive b) fixed_is live))

  has : HasStartingPart m u v b ms w t chunks cs fixed
  has = start_part m u v w b t ms chunks cs fixed c.names.array standing c.names.places c.names.changed c.names.behind c.plan

  pieces_are : AreBlockPieces img m w rows writes has.copies fixed supers (block_parts_for m w rows more writes places has.copies supers t.end)
  pieces_are = flushes.block_pieces img m b t u v w ms rows more writes chunks has.copies fixed supers t.end has.part

  calls : CallsBlock img name m base b u v ms w t rows more writes places cs fixed supers
  calls = record {
    copies = has.copies;
    blocks = has.writes;
    start = record {
      rising = c.rising has.copies;
      blank = blank;
      at = c.made.created.header_at;
      taken = subst (λ p. Taken base (block_at p eaib_len ∷ chunks) b) (sym c.made.created.index_at) c.taken;
      part = has.part;
    };
    pieces = λ ws o.
        let cut = one_last o.front o.behind (block_piece w) (top_piece w) (o.cut ∙ pieces_are.two) (o.one ∙ ap (λ (ws : List Write). min 1 (length ws)) pieces_are.two) in
        pieces_are.pieces
        ∙ ap (λ (ws : List Write). writes ++ (ws ++ (block_piece w ∷ (supers ++ (top_piece w ∷ commit_at img m.place rows None ∷ []))))) (sym has.writes)
        ∙ ap (λ (ws : List Write). writes ++ (cs ++ (ws ++ (supers ++ (top_piece w ∷ commit_at img m.place rows None ∷ []))))) (sym cut.0)
        ∙ ap (λ (ws : List Write). writes ++ (cs ++ (o.front ++ (supers ++ (ws ++ commit_at img m.place rows None ∷ []))))) (sym cut.1)
        ∙ sym o.all;
  }

pub block_calls : BlockCalls
block_calls img name m base b t place u v w ms rows more writes places cs fixed supers k c = calls img name m base b t place u v w ms rows more writes places cs fixed supers k c

pub block_pending : BlockPending
block_pending name log m base b t place u v w ms rows more writes places cs fixed supers ws k runs c values are =
    let now : List ℕ = image_now log in
    let x = block_calls now name m base b t place u v w ms rows more writes places cs fixed supers k c in
    array_pending name log m base t w rows more writes (chunks_for m no_chunk places) x.copies (new_block w) supers (top_piece w ∷ []) None k.knows runs
    (flushes.block_first now name m base b t u v w ms rows more writes places x.copies fixed supers k x.start)
    (block_leads now name m base b t u v w ms rows more writes places x.copies fixed supers k x.start) values ws (x.pieces ws are)
