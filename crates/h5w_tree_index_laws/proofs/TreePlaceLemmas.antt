-- The places of a tree's plan.
use Rattle.std.proofs.Common.{◌≡◌, ◌≢◌, ◌⊎◌, ℕ, ◌+◌, ◌<◌, ◌≤◌, Bool, true, false, List, [], ◌∷◌, ◌++◌, length, map, take, refl, sym, ◌∙◌, ap, subst, inl, inr, arith, append-nil, eqb, sum_by}
use Rattle.std.proofs.lemmas.Bool.{cond-false}
use Rattle.std.proofs.lemmas.List.{length-map}
use Rattle.h5w_model.specs.Numbers.{undefined}
use Rattle.h5w_model.specs.Findings.{Used, chunk_bytes}
use Rattle.h5w_model.specs.declared.cell.Key.{Key}
use Rattle.h5w_model.specs.declared.piece.Write.{Write}
use Rattle.h5w_step_laws.specs.Ranges.{Among, AreApart, Disjoint, block_at}
use Rattle.h5w_step_laws.proofs.RangeLemmas.{among_left, among_right, among_split}
use Rattle.h5w_space.specs.Space.{Space}
use Rattle.h5w_cache.specs.declared.moves.Move.{Move}
use Rattle.h5w_step_laws.specs.Moments.{Moment}
use Rattle.h5w_step_laws.specs.Counts.{count_at}
use Rattle.h5w_step_laws.proofs.MomentLemmas.{in_behind}
use Rattle.h5w_step_laws.proofs.PartLemmas.{apart_sym, at_most_one, counted_one, disjoint_right, disjoint_some, none_at}
use Rattle.h5w_flush_laws.specs.Spaces.{IsLeftBy, Taken, extent_of}
use Rattle.h5w_flush_laws.specs.Knowledge.{Knows}
use Rattle.h5w_flush_laws.specs.Chunks.{AreChunks}
use Rattle.h5w_flush_laws.proofs.SpaceLemmas.{disjoint_joined, meet_nowhere, move_laws, taken_laws}
use Rattle.h5w_bt_index.specs.Index.{Index, IsIndex}
use Rattle.h5w_bt_nodes.specs.Blocks.{changes, stood}
use Rattle.h5w_bt_index.specs.Plans.{AreNodeMoves, news, olds, planned}
use Rattle.h5w_tree_index_laws.specs.TreeImages.{behind_of, node_range, own_range}
use Rattle.h5w_tree_index_laws.specs.TreeFlushes.{IsTreePart, TreePlaces, fresh}
use Rattle.h5w_tree_index_laws.proofs.TreeFlushLemmas.{fresh_some, same_news, take_them}
use Rattle.h5w_tree_index_laws.proofs.TreeHeaderLemmas.{address_other}
use Rattle.h5w_tree_index_laws.proofs.TreePlanLemmas.{moves_taken}
use Rattle.h5w_tree_index_laws.proofs.TreeRangeLemmas.{begins, by_weight, count_is, left_weight, light, ranges_at}

-- ---- What nodes leave

-- a range that a node left: no chunk, not empty, at one of the old places
pub record WasNode (ps : List ℕ) (u : Used) : Type 0 where
  pub block : u.chunk ≡ false
  pub some : 0 < u.len
  pub among : Among u (ranges_at ps)

own_some : (place : ℕ) → place ≢ undefined → Among (node_range place) (own_range place)
own_some place h = subst (λ (us : List Used). Among (node_range place) us) (sym (cond-false (eqb place undefined) [] (node_range place ∷ []) (address_other place place refl h))) (inl refl)

pub was_node : (s : Space) (ms : List Move) (t : Space) (u : Used) → AreNodeMoves s ms t → IsLeftBy u ms → WasNode (olds ms) u
was_node s [] t u h b = absurd b
was_node s (m ∷ ms) t u h (inl b) =
    let is : u ≡ node_range m.old = b.1 ∙ ap (block_at m.old) (h.1).size in
    record {
      block = ap (λ (x : Used). x.chunk) is;
      some = subst (λ (x : Used). 0 < x.len) (sym is) (omega arith);
      among = among_left u (own_range m.old) (ranges_at (olds ms)) (subst (λ (x : Used). Among x (own_range m.old)) (sym is) (own_some m.old (b.0).0));
    }
was_node s (m ∷ ms) t u h (inr b) =
    let later = was_node h.0 ms t u h.2 b in
    record { block = later.block; some = later.some; among = among_right u (own_range m.old) (ranges_at (olds ms)) later.among }

-- ---- How often ranges begin at a place

left_counts : (bytes p : ℕ) (v : Index) (ms : List Move) → IsIndex v → olds ms ≡ stood v.depth v.root
    → count_at p (behind_of bytes (planned (news ms) v)) + count_at p (ranges_at (olds ms)) ≤ count_at p (fresh ms) + count_at p (behind_of bytes v)
left_counts bytes p v ms i old =
    let ps : List ℕ = news ms in
    let count : changes v.depth v.root ≡ length ps = ap length (sym old) ∙ length-map ms (λ (m : Move). m.old) ∙ sym (length-map ms (λ (m : Move). m.new)) in
    let l = light (begins p) bytes v.depth v.root ps i.sound (omega (arith, count)) in
    let e : sum_by (begins p) (map node_range (take (changes v.depth v.root) ps)) ≡ sum_by (begins p) (fresh ms) = ap (sum_by (begins p)) (ap (map node_range) (take_them ps (changes v.depth v.root) count) ∙ same_news ms) in
    let o : count_at p (ranges_at (olds ms)) ≡ sum_by (begins p) (ranges_at (stood v.depth v.root)) = ap (λ (l : List ℕ). count_at p (ranges_at l)) old ∙ count_is p (ranges_at (stood v.depth v.root)) in
    omega (arith, l, e, o, count_is p (behind_of bytes (planned ps v)), count_is p (fresh ms), count_is p (behind_of bytes v))

-- ---- The places

module _ (img name : List ℕ) (m : Moment) (old : Key → ℕ) (s b t : Space) (place : ℕ) (v w : Index) (ms : List Move) (chunks : List Used) (copies : List (ℕ × List ℕ)) (fixed : List Write)
    (k : Knows img name m old s) (first : Taken s chunks b) (are : AreChunks chunks) (x : IsTreePart img m place v b ms w t chunks copies fixed) where
  abbrev bytes : ℕ
  bytes = chunk_bytes m.dataset

  got : Taken b (fresh ms) x.plan.taken.taken
  got = moves_taken b ms x.plan.taken.taken x.plan.taken.moves

  taken : Taken b (fresh ms) x.plan.roomy
  taken =
      let roomy = x.plan.taken.roomy in
      let room = taken_laws.none_taken x.plan.taken.taken x.plan.roomy (ap (λ (y : Space). y.end) roomy) (ap (λ (y : Space). y.free) roomy) (ap (λ (y : Space). y.retired) roomy) in
      subst (λ (us : List Used). Taken b us x.plan.roomy) (append-nil (fresh ms)) (taken_laws.joined b x.plan.taken.taken x.plan.roomy (fresh ms) [] got room)

  node : (u : Used) → IsLeftBy u ms → WasNode (olds ms) u
  node u h = was_node b ms x.plan.taken.taken u x.plan.taken.moves h

  before : (u : Used) → WasNode (olds ms) u → Among u m.behind
  before u n = go (among_split u chunks m.behind (x.behind.among u there))
    where
      there : Among u (behind_of bytes v)
      there = (by_weight (ranges_at (stood v.depth v.root)) (behind_of bytes v) (λ f. left_weight f bytes v.depth v.root x.index.sound)).among u (subst (λ (l : List ℕ). Among u (ranges_at l)) x.plan.taken.old n.among)

      never : ◌≡◌ {A = Bool} false true → ⊥
      never e = cc

      go : Among u chunks ⊎ Among u m.behind → Among u m.behind
      go (inl c) = absurd (never (sym n.block ∙ are u c))
      go (inr c) = c

  used_behind : Disjoint m.behind
  used_behind = disjoint_right m.fixed m.behind (disjoint_right m.header (m.fixed ++ m.behind) (disjoint_right m.root (m.header ++ (m.fixed ++ m.behind)) (k.file.apart).2))

  once : Disjoint (chunks ++ m.behind)
  once =
      disjoint_joined chunks m.behind first.apart used_behind
      (λ c u a e. meet_nowhere c u (disjoint_some chunks first.apart c a) (disjoint_some m.behind used_behind u e) (first.off_live c (extent_of u) a (k.live u (in_behind m u e))))

  after : (u : Used) → WasNode (olds ms) u → Among u (behind_of bytes w) → ⊥
  after u n among =
      let c1 : 1 ≤ count_at u.place (ranges_at (olds ms)) = counted_one u u.place (ranges_at (olds ms)) n.among refl in
      let c2 : 1 ≤ count_at u.place (behind_of bytes (planned (news ms) v)) = counted_one u u.place (behind_of bytes (planned (news ms) v)) (subst (λ (y : Index). Among u (behind_of bytes y)) x.plan.index among) refl in
      let apart : (q : Used) → Among q (fresh ms) → AreApart u q = λ q a. apart_sym q u (meet_nowhere q u (fresh_some ms q a) n.some (got.off_live q (extent_of u) a (x.live u (among_right u m.fixed m.behind (before u n))))) in
      let c3 : count_at u.place (fresh ms) ≡ 0 = none_at u (fresh ms) n.some apart (λ q a. fresh_some ms q a) in
      let c4 : count_at u.place (behind_of bytes v) ≤ count_at u.place (chunks ++ m.behind) = x.behind.counts u.place in
      let c5 : count_at u.place (chunks ++ m.behind) ≤ 1 = at_most_one u.place (chunks ++ m.behind) once in
      absurd (omega (arith, left_counts bytes u.place v ms x.index x.plan.taken.old, c1, c2, c3, c4, c5))

pub tree_places : TreePlaces
tree_places img name m old s b t place v w ms chunks copies fixed k first are x =
    let gone = move_laws.let_go x.plan.roomy ms t x.plan.retired in
    record {
      between = x.plan.roomy;
      taken = taken img name m old s b t place v w ms chunks copies fixed k first are x;
      left = gone.0;
      let_go = gone.1;
      left_before = λ u a. before img name m old s b t place v w ms chunks copies fixed k first are x u (node img name m old s b t place v w ms chunks copies fixed k first are x u (gone.2 u a));
      left_after = λ u a among. after img name m old s b t place v w ms chunks copies fixed k first are x u (node img name m old s b t place v w ms chunks copies fixed k first are x u (gone.2 u a)) among;
    }
