-- The places of an array's plan.
use Rattle.std.proofs.Common.{◌≡◌, ◌≢◌, ◌⊎◌, ℕ, ◌<◌, Bool, true, false, List, [], ◌∷◌, length, Option, Some, None, refl, sym, ◌∙◌, ap, subst, inl, inr, arith, append-nil}
use Rattle.std.specs.Prelude.{◌==◌, ◌&&◌, not, cond, flat_map, IsSome, IsSomeAnd}
use Rattle.std.specs.List.{All}
use Rattle.std.proofs.lemmas.Bool.{cases_Bool, cond-true, eq-eqb}
use Rattle.std.proofs.lemmas.Bool.Decides.{eqb_tells}
use Rattle.std.proofs.lemmas.List.Elements.{All-head, All-tail}
use Rattle.h5w_model.specs.Numbers.{undefined}
use Rattle.h5w_model.specs.Findings.{Used, chunk_bytes}
use Rattle.h5w_step_laws.specs.Ranges.{Among, block_at, chunk_at}
use Rattle.h5w_step_laws.proofs.RangeLemmas.{among_left, among_right, among_split}
use Rattle.h5w_space.specs.Space.{Space, IsLive, Apart, extent}
use Rattle.h5w_space.specs.declared.Extent.{Extent}
use Rattle.h5w_cache.specs.Blocks.{BlockView}
use Rattle.h5w_cache.specs.Stores.{Store, place_of, block_of}
use Rattle.h5w_cache.specs.Plans.{Placed, IsMove, AreMoves, stays, block_in, bytes_in, bytes_of}
use Rattle.h5w_cache.specs.StoreLaws.{IsPlaced, IsLeft, IsRetired}
use Rattle.h5w_cache.specs.declared.moves.Move.{Move}
use Rattle.h5w_array_laws.specs.Parts.{Part, data_of, secondary_of, index_block, header, IsPart, number_of, length_of, stays_in_place, visit_order}
use Rattle.h5w_array_laws.specs.ArrayStores.{IsArray, IsBlock, place_at_part, bytes_at_part, block_at_part, own_range, ranges_of, behind_of, chunks_in, slots_in}
use Rattle.h5w_array_laws.specs.ArrayPlans.{fresh}
use Rattle.h5w_array_laws.proofs.BehindLemmas.{among_each, own_is}
use Rattle.h5w_array_laws.proofs.FreshLemmas.{fresh_in_place, fresh_copy}
use Rattle.h5w_array_laws.proofs.KeptLemmas.{is_some_of, of_some, some_or_none}
use Rattle.h5w_array_laws.proofs.OrderLemmas.{IsCopied, visited_copied}
use Rattle.h5w_array_laws.proofs.WriteLemmas.{of_retired}
use Rattle.h5w_flush_laws.specs.Spaces.{extent_of, Taken, IsLeftBy}
use Rattle.h5w_flush_laws.proofs.SpaceLemmas.{taken_laws, move_laws, took}
use Rattle.h5w_array_flush_laws.specs.ArrayFlushes.{ArrayPlaces}
use Rattle.h5w_array_flush_laws.proofs.ArrayFlushLemmas.{In, data_visited, second_visited, own_there, in_flat}

-- ---- Moves

stayed : (b : Bool) (old len : ℕ) (s t : Space) (new : ℕ) → b ≡ true → Placed b old len s t new → (new ≡ old) × (t ≡ s)
stayed true old len s t new e p = p
stayed false old len s t new e p = absurd cc

stays_there : (m : Move) → m.in_place ≡ true → m.old ≢ undefined → stays m.in_place m.old ≡ true
stays_there m e placed = elim (eqb_tells m.old undefined) [
  | inl t ↦ absurd (placed t.1)
  | inr t ↦ ap (λ b. b && not (m.old == undefined)) e ∙ ap not t.0
]

moves_away : (m : Move) → m.in_place ≡ false → stays m.in_place m.old ≡ false
moves_away m e = ap (λ b. b && not (m.old == undefined)) e

pub moves_taken : (blocks : List (Option BlockView)) (places : List ℕ) → ((s : Space) (m : Move) (t : Space) → IsMove blocks places s m t → m.in_place ≡ true → m.old ≢ undefined)
    → (s : Space) (ms : List Move) (t : Space) → AreMoves blocks places s ms t → Taken s (fresh ms) t
moves_taken blocks places known s [] t moves = taken_laws.none_taken s t (ap (λ (x : Space). x.end) moves) (ap (λ (x : Space). x.free) moves) (ap (λ (x : Space). x.retired) moves)
moves_taken blocks places known s (m ∷ ms) t moves = go (cases_Bool m.in_place) (moves_taken blocks places known moves.0 ms t moves.2)
  where
    go : (m.in_place ≡ true) ⊎ (m.in_place ≡ false) → Taken moves.0 (fresh ms) t → Taken s (fresh (m ∷ ms)) t
    go (inl e) later =
        let same = stayed (stays m.in_place m.old) m.old m.len s moves.0 m.new (stays_there m e (known s m moves.0 moves.1 e)) moves.1.step in
        subst (λ (us : List Used). Taken s us t) (sym (fresh_in_place m ms e)) (subst (λ (x : Space). Taken x (fresh ms) t) same.1 later)
    go (inr e) later =
        subst (λ (us : List Used). Taken s us t) (sym (fresh_copy m ms e))
        (taken_laws.joined s moves.0 t (block_at m.new m.len ∷ []) (fresh ms) (taken_laws.one s moves.0 (block_at m.new m.len) moves.1.some (took (stays m.in_place m.old) m.old m.len s moves.0 m.new (moves_away m e) moves.1.step)) later)

-- a block that left a range
pub record LeftOf (blocks : List (Option BlockView)) (places : List ℕ) (P : Move → Type 0) (u : Used) : Type 0 where
  pub before : Space
  pub after : Space
  pub move : Move
  pub is : IsMove blocks places before move after
  pub left : IsLeft move
  pub range : u ≡ block_at move.old move.len
  pub holds : P move

pub left_of : (blocks : List (Option BlockView)) (places : List ℕ) (P : Move → Type 0) (s : Space) (ms : List Move) (t : Space) (u : Used) → AreMoves blocks places s ms t → All P ms → IsLeftBy u ms → LeftOf blocks places P u
left_of blocks places P s [] t u moves all b = absurd b
left_of blocks places P s (m ∷ ms) t u moves all (inl b) = record { before = s; after = moves.0; move = m; is = moves.1; left = b.0; range = b.1; holds = All-head P m ms all }
left_of blocks places P s (m ∷ ms) t u moves all (inr b) = left_of blocks places P moves.0 ms t u moves.2 (All-tail P m ms all) b

-- ---- The part that moves

pub record PartOf (v : Store) (n : ℕ) : Type 0 where
  pub part : Part
  pub is_part : IsPart part
  pub number : number_of part ≡ n
  pub block : BlockView
  pub kept : block_at_part v part ≡ Some block
  pub is_block : IsBlock part block

pub part_of : (v : Store) (n : ℕ) → IsArray v → IsSome (block_in v.blocks n) → PartOf v n
part_of v n a some =
    let known = a.known n some in
    let b = is_some_of (block_at_part v known.0) (subst (λ j. IsSome (block_of v j)) (sym known.2) some) in
    record { part = known.0; is_part = known.1; number = known.2; block = b.0; kept = b.1; is_block = of_some (IsBlock known.0) (block_at_part v known.0) b.0 b.1 (a.each known.0 known.1) }

-- it stays in place where its block does
of_block : (o : Option BlockView) (b : BlockView) (x : Bool) → o ≡ Some b → IsSomeAnd o (λ c. x ≡ c.in_place) → x ≡ b.in_place
of_block o b x e h = subst (λ (q : Option BlockView). IsSomeAnd q (λ c. x ≡ c.in_place)) e h

pub in_place_as : (v : Store) (s : Space) (m : Move) (t : Space) → IsMove v.blocks v.places s m t → (p : PartOf v m.number) → m.in_place ≡ stays_in_place p.part
in_place_as v s m t i p = of_block (block_in v.blocks m.number) p.block m.in_place (ap (block_in v.blocks) (sym p.number) ∙ p.kept) i.in_place ∙ p.is_block.in_place

pub old_known : (v : Store) → IsArray v → (s : Space) (m : Move) (t : Space) → IsMove v.blocks v.places s m t → m.in_place ≡ true → m.old ≢ undefined
old_known v a s m t i e none =
    let p = part_of v m.number a i.kept in
    (a.in_place p.part p.is_part (sym (in_place_as v s m t i p) ∙ e)).1 (ap (place_of v) p.number ∙ sym i.old ∙ none)

-- a part that is not written where it stands is behind the blocks in place
pub behind_part : (bytes : ℕ) (v : Store) (k : Part) → IsPart k → stays_in_place k ≡ false → place_at_part v k ≢ undefined → Among (block_at (place_at_part v k) (length_of k)) (behind_of bytes v)
behind_part bytes v k is moves placed = among_right u (chunks_in bytes (slots_in (block_at_part v index_block) index_block)) (flat_map (ranges_of bytes v) visit_order) (in_flat (ranges_of bytes v) visit_order k u (visited k is moves) ranged)
  where
    u : Used
    u = block_at (place_at_part v k) (length_of k)

    ranged : Among (block_at (place_at_part v k) (length_of k)) (ranges_of bytes v k)
    ranged = among_left (block_at (place_at_part v k) (length_of k)) (own_range v k) (chunks_in bytes (slots_in (block_at_part v k) k)) (subst (λ (us : List Used). Among (block_at (place_at_part v k) (length_of k)) us) (sym (own_there v k placed)) (inl refl))

    visited : (k : Part) → IsPart k → stays_in_place k ≡ false → In k visit_order
    visited (data_of s b) is e = data_visited s b is.0 is.1
    visited (secondary_of s) is e = second_visited s is.0 is.1
    visited index_block is e = absurd cc
    visited header is e = absurd cc

-- ---- And back: a block behind is a part with a place

chunks_are : (bytes : ℕ) (places : List ℕ) (u : Used) → Among u (chunks_in bytes places) → u.chunk ≡ true
chunks_are bytes [] u a = absurd a
chunks_are bytes (p ∷ places) u a = go (p == undefined) (λ b. chunks_are bytes places u b) a
  where
    go : (t : Bool) → (Among u (chunks_in bytes places) → u.chunk ≡ true) → Among u (cond t (chunks_in bytes places) (chunk_at p bytes ∷ chunks_in bytes places)) → u.chunk ≡ true
    go true later b = later b
    go false later (inl e) = ap (λ (x : Used). x.chunk) (sym e)
    go false later (inr b) = later b

pub record IsOwn (v : Store) (u : Used) : Type 0 where
  pub number : ℕ
  pub placed : IsPlaced v number
  pub range : block_at (place_of v number) (length (bytes_in v.blocks number)) ≡ u

not_chunk : (u : Used) → u.chunk ≡ false → u.chunk ≡ true → ⊥
not_chunk u e g = never (sym e ∙ g)
  where
    never : ◌≡◌ {A = Bool} false true → ⊥
    never h = cc

own_placed : (v : Store) (k : Part) (u : Used) → Among u (own_range v k) → place_at_part v k ≢ undefined
own_placed v k u a e = subst (λ (us : List Used). Among u us → ⊥) (sym (cond-true (place_at_part v k == undefined) [] (block_at (place_at_part v k) (length_of k) ∷ []) (eq-eqb (place_at_part v k) undefined e))) (λ x. x) a

own_part : (v : Store) (k : Part) (u : Used) → IsArray v → IsPart k → Among u (own_range v k) → IsOwn v u
own_part v k u a is among = go (some_or_none (block_at_part v k))
  where
    placed : place_at_part v k ≢ undefined
    placed = own_placed v k u among

    go : (block_at_part v k ≡ None) ⊎ ((b : BlockView) × (block_at_part v k ≡ Some b)) → IsOwn v u
    go (inl e) = absurd (placed (a.unplaced k is e))
    go (inr b) =
        let long : length (bytes_at_part v k) ≡ length_of k = ap (λ o. length (bytes_of o)) b.1 ∙ (of_some (IsBlock k) (block_at_part v k) b.0 b.1 (a.each k is)).len in
        record {
          number = number_of k;
          placed = record { kept = subst (λ (o : Option BlockView). IsSome o) (sym b.1) refl; placed = placed };
          range = ap (block_at (place_at_part v k)) long ∙ own_is v k u among;
        }

pub own_behind : (bytes : ℕ) (v : Store) (u : Used) → IsArray v → Among u (behind_of bytes v) → u.chunk ≡ false → IsOwn v u
own_behind bytes v u a among block = go (among_split u (chunks_in bytes (slots_in (block_at_part v index_block) index_block)) (flat_map (ranges_of bytes v) visit_order) among)
  where
    of_part : (k : Part) → IsCopied k → (x : Used) → Among x (own_range v k) ⊎ Among x (chunks_in bytes (slots_in (block_at_part v k) k)) → x.chunk ≡ false → IsOwn v x
    of_part k c x (inl b) e = own_part v k x a c.part b
    of_part k c x (inr b) e = absurd (not_chunk x e (chunks_are bytes (slots_in (block_at_part v k) k) x b))

    go : Among u (chunks_in bytes (slots_in (block_at_part v index_block) index_block)) ⊎ Among u (flat_map (ranges_of bytes v) visit_order) → IsOwn v u
    go (inl b) = absurd (not_chunk u block (chunks_are bytes (slots_in (block_at_part v index_block) index_block) u b))
    go (inr b) =
        among_each (λ x. x.chunk ≡ false → IsOwn v x) IsCopied (ranges_of bytes v) visit_order visited_copied
        (λ k c x d. of_part k c x (among_split x (own_range v k) (chunks_in bytes (slots_in (block_at_part v k) k)) d)) u b block

-- ---- The places of a plan

meets_itself : (x : Extent) → 0 < x.size → Apart x x → ⊥
meets_itself x some h = omega (arith, some, h)

pub array_places : ArrayPlaces
array_places img m b t v w ms chunks copies fixed are x =
    let plan = x.plan.plan in
    let roomy = plan.taken.roomy in
    let taken_first = moves_taken v.blocks v.places (old_known v x.plan.before) b ms plan.taken.taken plan.taken.moves in
    let room = taken_laws.none_taken plan.taken.taken plan.roomy (ap (λ (y : Space). y.end) roomy) (ap (λ (y : Space). y.free) roomy) (ap (λ (y : Space). y.retired) roomy) in
    let taken = subst (λ (us : List Used). Taken b us plan.roomy) (append-nil (fresh ms)) (taken_laws.joined b plan.taken.taken plan.roomy (fresh ms) [] taken_first room) in
    let gone = move_laws.let_go plan.roomy ms t plan.retired in
    record {
      between = plan.roomy;
      taken = taken;
      left = gone.0;
      let_go = gone.1;
      left_before = λ u a. (before u (left_of v.blocks v.places (λ y. IsLeft y → IsRetired t (extent y.old y.len)) b ms plan.taken.taken u plan.taken.moves (x.plan.keeps.retired x.plan.standing) (gone.2 u a))).1;
      left_after = λ u a among.
          let l = left_of v.blocks v.places (λ y. IsLeft y → IsRetired t (extent y.old y.len)) b ms plan.taken.taken u plan.taken.moves (x.plan.keeps.retired x.plan.standing) (gone.2 u a) in
          after u l among (before u l).0;
    }
  where
    -- the block that left it is no block in place
    moves : (l : Move) (s u : Space) → IsMove v.blocks v.places s l u → IsLeft l → (p : PartOf v l.number) → (stays_in_place p.part ≡ true) ⊎ (stays_in_place p.part ≡ false) → stays_in_place p.part ≡ false
    moves l s u i left p (inr e) = e
    moves l s u i left p (inl e) = absurd (left.1 (sym (stayed (stays l.in_place l.old) l.old l.len s u l.new (stays_there l (in_place_as v s l u i p ∙ e) left.0) i.step).0))

    before : (u : Used) → LeftOf v.blocks v.places (λ y. IsLeft y → IsRetired t (extent y.old y.len)) u → (u.chunk ≡ false) × Among u m.behind
    before u l = (ap (λ (y : Used). y.chunk) l.range, in_file (among_split u chunks m.behind (x.behind.among u there)))
      where
        p : PartOf v l.move.number
        p = part_of v l.move.number x.plan.before l.is.kept

        placed : place_at_part v p.part ≢ undefined
        placed e = l.left.0 (l.is.old ∙ ap (place_of v) (sym p.number) ∙ e)

        long : l.move.len ≡ length_of p.part
        long = l.is.len ∙ ap (λ n. length (bytes_in v.blocks n)) (sym p.number) ∙ ap (λ o. length (bytes_of o)) p.kept ∙ p.is_block.len

        same : block_at (place_at_part v p.part) (length_of p.part) ≡ u
        same = ap (λ n. block_at (place_of v n) (length_of p.part)) p.number ∙ ap (λ a. block_at a (length_of p.part)) (sym l.is.old) ∙ ap (block_at l.move.old) (sym long) ∙ sym l.range

        there : Among u (behind_of (chunk_bytes m.dataset) v)
        there = subst (λ (y : Used). Among y (behind_of (chunk_bytes m.dataset) v)) same
            (behind_part (chunk_bytes m.dataset) v p.part p.is_part (moves l.move l.before l.after l.is l.left p (cases_Bool (stays_in_place p.part))) placed)

        in_file : Among u chunks ⊎ Among u m.behind → Among u m.behind
        in_file (inl c) = absurd (not_chunk u (ap (λ (y : Used). y.chunk) l.range) (are u c))
        in_file (inr c) = c

    -- it is retired, and what the array has afterwards is live
    after : (u : Used) → LeftOf v.blocks v.places (λ y. IsLeft y → IsRetired t (extent y.old y.len)) u → Among u (behind_of (chunk_bytes m.dataset) w) → u.chunk ≡ false → ⊥
    after u l among block =
        let own = own_behind (chunk_bytes m.dataset) w u x.plan.after among block in
        let standing = x.plan.keeps.standing x.plan.standing in
        let live : IsLive t (extent_of u) = subst (λ (y : Used). IsLive t (extent_of y)) own.range (standing.live own.number own.placed) in
        let some : 0 < u.len = subst (λ (y : Used). 0 < y.len) own.range (standing.some own.number own.placed) in
        let retired : IsRetired t (extent_of u) = subst (λ (y : Used). IsRetired t (extent_of y)) (sym l.range) (l.holds l.left) in
        meets_itself (extent_of u) some (of_retired (extent_of u) (extent_of u) t retired live.off_retired)
