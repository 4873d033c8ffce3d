-- The first flush of an index, whatever its kind.
use Rattle.std.proofs.Common.{◌≡◌, ◌⊎◌, ℕ, ◌+◌, ◌≤◌, List, [], ◌∷◌, ◌++◌, Result, Ok, refl, sym, ◌∙◌, ap, subst, inl, inr, arith, append-nil, append_assoc}
use Rattle.std.specs.Prelude.{cond}
use Rattle.std.proofs.lemmas.Bool.{eq-eqb}
use Rattle.h5w_model.specs.Images.{AllMiss, image}
use Rattle.h5w_model.specs.Numbers.{undefined}
use Rattle.h5w_model.specs.Programs.{Prog, ret, eval, visits}
use Rattle.h5w_model.specs.Datasets.{Described}
use Rattle.h5w_model.specs.Tables.{InPlace, nowhere, in_place, array_in_place, tree_in_place}
use Rattle.h5w_model.specs.Findings.{Used, Finding, chunk_bytes}
use Rattle.h5w_model.specs.declared.cell.IndexKind.TheVariants.{Array, Tree}
use Rattle.h5w_model.specs.declared.piece.Write.{Write}
use Rattle.h5w_model.specs.declared.refusal.ReadError.{ReadError}
use Rattle.h5w_step_laws.specs.Ranges.{Among, AllEndBy, blocks_of}
use Rattle.h5w_step_laws.specs.Indexes.{behind_visit}
use Rattle.h5w_step_laws.proofs.RangeLemmas.{among_left, among_right, among_split}
use Rattle.h5w_space.specs.Space.{Space}
use Rattle.h5w_step_laws.specs.Files.{commit_at}
use Rattle.h5w_step_laws.specs.Moments.{Moment}
use Rattle.h5w_step_laws.specs.Counts.{count_at}
use Rattle.h5w_step_laws.proofs.PartLemmas.{count_joined}
use Rattle.h5w_flush_laws.specs.Knowledge.{Knows}
use Rattle.h5w_flush_laws.specs.Spaces.{Taken}
use Rattle.h5w_flush_laws.specs.Parts.{Parts, IsFlush, block_ranges, block_writes, copied, ended, fresh_of, pieces_of}
use Rattle.h5w_flush_laws.specs.Rows.{RowsPart}
use Rattle.h5w_flush_laws.specs.Flushes.{Rests}
use Rattle.h5w_flush_laws.proofs.FlushLaws.{final_image, index_missed_by_header}
use Rattle.h5w_flush_laws.proofs.FlushLemmas.{supers_miss}
use Rattle.h5w_flush_laws.proofs.HeaderLemmas.{last_image}
use Rattle.h5w_flush_laws.proofs.KnownLaws.{begin_knows, one_answer}
use Rattle.h5w_flush_laws.proofs.RowsLaws.{rows_flush}
use Rattle.h5w_flush_laws.proofs.SessionLaws.{session_laws}
use Rattle.h5w_flush_laws.proofs.SpaceLemmas.{taken_laws}
use Rattle.h5w_first_flush_laws.specs.FirstFlushes.{no_chunk, FirstIsFlush, FirstPieces, FirstRuns, FirstTaken, IsFirstFlush, TakesFirst, UnnamedBegins, UnnamedNowhere}
use Rattle.h5w_first_flush_laws.proofs.TakenLemmas.{taken_again, taken_right}

-- ---- An index that is not there

of_unnamed : {A : Type 0} (d : Described) (f : Prog (Result InPlace ReadError) → A) → d.layout.address ≡ undefined → f (in_place d) ≡ f (ret (Ok nowhere))
of_unnamed d f e =
    ap (λ c. f (cond c (ret (Ok nowhere)) (elim d.layout.index as (λ _. Prog (Result InPlace ReadError)) [ Array ↦ array_in_place d.layout.address | Tree ↦ tree_in_place d.layout.address ]))) (eq-eqb d.layout.address undefined e)

pub one_list : (us vs : List Used) → ◌≡◌ {A = Result (List Used) Finding} (Ok us) (Ok vs) → us ≡ vs
one_list us vs h = cc

pub unnamed_nowhere : UnnamedNowhere
unnamed_nowhere img name m r e =
    let i = r.index in
    let none : i.blocks ≡ nowhere = one_answer i.blocks nowhere (sym i.read ∙ of_unnamed m.dataset (eval img) e) in
    record {
      map = record { blocks = nowhere; read = of_unnamed m.dataset (eval img) e; answers = λ key n. refl };
      fixed = i.fixed_are ∙ of_unnamed m.dataset (λ p. blocks_of (visits img p)) e;
      behind = one_list m.behind [] (sym i.stands ∙ ap (λ (p : InPlace). eval img (behind_visit m.super.end (chunk_bytes m.dataset) p)) none);
    }

pub unnamed_begins : UnnamedBegins
unnamed_begins index img name m s r unnamed layout begun =
    let known = begin_knows img name m no_chunk s r (unnamed_nowhere img name m r unnamed.address).map begun (λ e. layout) in
    (record { knows = known.knows; unnamed = unnamed }, known.is)

-- ---- Its places

module _ (m : Moment) (base t : Space) (f : Parts) (tops nodes : List Used) (x : TakesFirst m base t f tops nodes) where
  in_fresh : (l : Used) → Among l f.chunks ⊎ (Among l nodes ⊎ Among l tops) → Among l (fresh_of f)
  in_fresh l (inl c) = among_left l f.chunks (block_ranges f.copies) c
  in_fresh l (inr (inl c)) = among_right l f.chunks (block_ranges f.copies) (x.back.among l (among_left l nodes tops c))
  in_fresh l (inr (inr c)) = among_right l f.chunks (block_ranges f.copies) (x.back.among l (among_right l nodes tops c))

  counted : (p : ℕ) → count_at p (fresh_of f) ≡ count_at p f.chunks + (count_at p nodes + count_at p tops)
  counted p = omega (arith, x.into.counts p, x.back.counts p, count_joined p f.chunks (block_ranges f.copies), count_joined p nodes tops)

  taken_all : Taken base (fresh_of f) x.between
  taken_all =
      taken_again base x.between ((tops ++ f.chunks) ++ nodes) (fresh_of f) (taken_laws.joined base x.before x.between (tops ++ f.chunks) nodes x.taken x.planned)
      (record { among = λ l a. into l (among_split l (tops ++ f.chunks) nodes a); counts = λ p. let c = count p in omega (arith, c, counted p) })
      (record { among = λ l a. back l (among_split l f.chunks (block_ranges f.copies) a); counts = λ p. let c = count p in omega (arith, c, counted p) })
    where
      count : (p : ℕ) → count_at p ((tops ++ f.chunks) ++ nodes) ≡ count_at p f.chunks + (count_at p nodes + count_at p tops)
      count p = omega (arith, count_joined p (tops ++ f.chunks) nodes, count_joined p tops f.chunks)

      top : (l : Used) → Among l tops ⊎ Among l f.chunks → Among l (fresh_of f)
      top l (inl c) = in_fresh l (inr (inr c))
      top l (inr c) = in_fresh l (inl c)

      into : (l : Used) → Among l (tops ++ f.chunks) ⊎ Among l nodes → Among l (fresh_of f)
      into l (inl c) = top l (among_split l tops f.chunks c)
      into l (inr c) = in_fresh l (inr (inl c))

      block : (l : Used) → Among l nodes ⊎ Among l tops → Among l ((tops ++ f.chunks) ++ nodes)
      block l (inl c) = among_right l (tops ++ f.chunks) nodes c
      block l (inr c) = among_left l (tops ++ f.chunks) nodes (among_left l tops f.chunks c)

      back : (l : Used) → Among l f.chunks ⊎ Among l (block_ranges f.copies) → Among l ((tops ++ f.chunks) ++ nodes)
      back l (inl c) = among_left l (tops ++ f.chunks) nodes (among_right l tops f.chunks c)
      back l (inr c) = block l (among_split l nodes tops (x.into.among l c))

  -- each of the index's ranges behind those in place is fresh
  behind_fresh : (l : Used) → Among l f.behind → Among l (fresh_of f)
  behind_fresh l a = go (among_split l nodes f.chunks (x.behind.among l a))
    where
      go : Among l nodes ⊎ Among l f.chunks → Among l (fresh_of f)
      go (inl c) = in_fresh l (inr (inl c))
      go (inr c) = in_fresh l (inl c)

  ends_by : AllEndBy f.end f.behind
  ends_by l a = let live = taken_all.live l (behind_fresh l a) in let within = live.within in omega (arith, within, x.end)

  known : (l : Used) → Among l (f.fixed ++ f.behind) → Among l (fresh_of f ++ (m.fixed ++ m.behind))
  known l a = go (among_split l f.fixed f.behind a)
    where
      on_top : Among l m.fixed ⊎ Among l tops → Among l (fresh_of f ++ (m.fixed ++ m.behind))
      on_top (inl c) = among_right l (fresh_of f) (m.fixed ++ m.behind) (among_left l m.fixed m.behind c)
      on_top (inr c) = among_left l (fresh_of f) (m.fixed ++ m.behind) (in_fresh l (inr (inr c)))

      go : Among l f.fixed ⊎ Among l f.behind → Among l (fresh_of f ++ (m.fixed ++ m.behind))
      go (inl c) = on_top (among_split l m.fixed tops (subst (λ (us : List Used). Among l us) x.fixed c))
      go (inr c) = among_left l (fresh_of f) (m.fixed ++ m.behind) (behind_fresh l c)

  counts : (p : ℕ) → count_at p (f.fixed ++ f.behind) ≤ count_at p (fresh_of f ++ (m.fixed ++ m.behind))
  counts p =
      let whole = ap (count_at p) x.fixed ∙ count_joined p m.fixed tops in
      omega (arith, whole, x.behind.counts p, counted p, count_joined p nodes f.chunks, count_joined p f.fixed f.behind, count_joined p (fresh_of f) (m.fixed ++ m.behind), count_joined p m.fixed m.behind)

pub first_taken : FirstTaken
first_taken m base t f tops nodes x = taken_all m base t f tops nodes x

-- ---- The flush

pub first_is_flush : FirstIsFlush
first_is_flush img name m base t f tops nodes places k rising takes says = record { flush = flush; missed = part.off_held }
  where
    part : RowsPart img m k.held no_chunk f
    part =
        let some = taken_right base takes.before tops f.chunks takes.taken in
        rows_flush img name m no_chunk base some.0 f places k some.1 rising.rises rising.few rising.count rising.placed

    flush : IsFlush img m no_chunk base f t
    flush = record {
      rises = rising.rises;
      small = rising.small;
      few = rising.few;
      count = rising.count;
      named = says.named;
      written = part.flushed;
      index = record {
        blocks = says.blocks;
        behind = says.visited (ends_by m base t f tops nodes takes);
        answers = says.answers;
        each_says = says.each_says;
        said = says.said;
        added = tops;
        begins = takes.fixed;
        added_fresh = λ l a. in_fresh m base t f tops nodes takes l (inr (inr a));
        known = known m base t f tops nodes takes;
        counts = counts m base t f tops nodes takes;
        kept = part.kept;
      };
      between = takes.between;
      taken = taken_all m base t f tops nodes takes;
      end = takes.end;
      super = rising.ended;
      left = takes.left;
      let_go = takes.let_go;
      left_before = takes.left_before;
      left_after = takes.left_after;
    }

pub first_runs : FirstRuns
first_runs name log m base t f k runs x values =
    let begun : Rests name log m no_chunk base = record { runs = runs; knows = k } in
    record {
      runs = session_laws.plans_flush name log m no_chunk base t f begun x.flush x.missed values;
      rests = λ later c. session_laws.rests_again name log m no_chunk base t later f begun x.flush x.missed values c;
    }

-- ---- What stands on its blocks

-- What is said of the image stays so under writes that miss the index's ranges: so under the superblock's, and under the header's piece.
module _ (Stands : List ℕ → Type 0) (img name : List ℕ) (m : Moment) (base t : Space) (f : Parts) (k : Knows img name m no_chunk base) (x : IsFirstFlush img m k.held base t f)
    (stays : (other : List ℕ) (ws : List Write) → ((u : Used) → Among u (f.fixed ++ f.behind) → AllMiss ws u.place u.len) → Stands other → Stands (image other ws)) where
  pub stands_ended : Stands (copied img f) → Stands (ended img f)
  stands_ended here = stays (copied img f) f.supers (supers_miss img name m no_chunk base t f k x.flush x.missed) here

  pub stands_shown : Stands (last_image img f) → Stands (image img (pieces_of img m f))
  stands_shown here =
      subst Stands (sym (final_image img name m no_chunk base t f k x.flush x.missed))
      (stays (last_image img f) (commit_at (last_image img f) m.place f.rows f.named ∷ []) (λ u a. (index_missed_by_header img name m no_chunk base t f k x.flush x.missed u a, tt)) here)

-- ---- Its pieces

in_line : (a b c d e : List Write) → (a ++ ((b ++ c) ++ (d ++ []))) ++ e ≡ a ++ (b ++ (c ++ (d ++ e)))
in_line a b c d e =
    ap (λ (x : List Write). (a ++ ((b ++ c) ++ x)) ++ e) (append-nil d) ∙ append_assoc a ((b ++ c) ++ d) e
    ∙ ap (λ (x : List Write). a ++ x) (append_assoc (b ++ c) d e ∙ append_assoc b c (d ++ e))

pub first_pieces : FirstPieces
first_pieces img m f cs fixed none both =
    let last : List Write = commit_at img m.place f.rows f.named ∷ [] in
    ap (λ (ws : List Write). (f.writes ++ (block_writes f.copies ++ (f.supers ++ ws))) ++ last) none
    ∙ ap (λ (ws : List Write). (f.writes ++ (ws ++ (f.supers ++ []))) ++ last) both ∙ in_line f.writes cs fixed f.supers last
