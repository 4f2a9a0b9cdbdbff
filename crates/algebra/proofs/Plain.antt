-- Plain diagrams: canonicity, and as many distinct nodes as functions.
-- Assumes nothing.
use mathlib.Core.Path.{◌≡◌, refl, sym, ap, ap₂, ◌∙◌, subst, fun_ext}
use mathlib.Core.Logic.{◌≢◌}
use mathlib.Core.Bool.{Bool, true, false, cond, ◌&&◌, Bool-discrete, true≢false, false≢true}
use mathlib.Core.List.{List, map}
use Prim.Native.Nat.{ℕ}
use native.Mathlib.Omega.{arith}
use Rattle.paper.specs.Lists.{In, keep, flat, has, distinct}
use Rattle.paper.specs.Sets.{Set, none, all_sets}
use Rattle.paper.specs.Functions.{fix_f, reach, table, table_discrete, varies}
use Rattle.paper.specs.Nodes.{needed, nodes_needed}
use Rattle.paper.specs.Diagrams.{Diagram, leaf, node, eval, Ordered, Reduced, mk_d}
use Rattle.algebra.specs.Operations.{fix_d, subs, is_node, node_count}
use Rattle.algebra.proofs.Base.{widen}
use Rattle.algebra.proofs.Lists.{in_map, map_in, keep_map, in_has, has_in}
use Rattle.algebra.proofs.Fix.{ordered_fix, reduced_fix, eval_fix, mk_fix, at_end, eval_agree}
use Rattle.algebra.proofs.Trim.{trim, trim_all, trim_at}
use Rattle.algebra.proofs.Subs.{subs_trans, fix_sub, sub_fix}
use Rattle.algebra.proofs.Kind.{Kind, canonical_kind, count_kind, node_counted, counted_node}

abbrev pub Good : ℕ → ℕ → Diagram → Type 0
Good n m d = Ordered m n d × Reduced d

pub eval_trim : (n : ℕ) (d : Diagram) (v : Set) → Ordered 0 n d → eval d (trim n 0 v) ≡ eval d v
eval_trim n d v o = eval_agree 0 n d (trim n 0 v) v o (λ i a b. trim_at n 0 v i a (omega arith))

abbrev pub plain : (n : ℕ) → Kind n
plain n = record {
  OK = Good n;
  fix = fix_d;
  make = mk_d;
  fun = eval;
  fix_fun = fix_f;
  step = λ m b d l g. (ordered_fix m n b d g.0, reduced_fix m b d g.1);
  back = λ m d g. (widen m 0 n d (omega arith) g.0, g.1);
  again = λ m d g. mk_fix m n d g.0 g.1;
  end = λ d g. at_end n n d (omega arith) g.0;
  leaves = λ b c h. ap (λ F. F none) h;
  over = λ m b d l g. fun_ext (λ v. eval_fix m n b d v g.0);
  local = λ d v g. eval_trim n d v g.0;
  down = λ m d x g h. sub_fix m n d x g.0 h;
  up = λ m b d x t h. subs_trans x (fix_d m b d) d h (fix_sub m b d);
}

-- CANONICITY: two ordered reduced diagrams that agree on every set are equal
pub canonical : (n : ℕ) (a b : Diagram) → Ordered 0 n a → Ordered 0 n b → Reduced a → Reduced b → ((v : Set) → eval a v ≡ eval b v) → a ≡ b
canonical n a b oa ob ra rb h = canonical_kind n (plain n) n 0 (omega arith) a b (oa, ra) (ob, rb) (fun_ext h)

-- a diagram's value stands in its table
value_in : (n : ℕ) (d : Diagram) (v : Set) → Ordered 0 n d → In (eval d v) (table n (eval d))
value_in n d v o = subst (λ b. In b (table n (eval d))) (eval_trim n d v o) (in_map (eval d) (trim n 0 v) (all_sets n 0) (trim_all n 0 v))

and_both : (a b : Bool) → (a && b) ≡ true → (a ≡ true) × (b ≡ true)
and_both true b h = (refl, h)
and_both false b h = absurd (false≢true h)

-- a node's value varies, a leaf's does not
pub varies_node : (n : ℕ) (d : Diagram) → Good n 0 d → varies (table n (eval d)) ≡ is_node d
varies_node n (leaf b) g = go (varies (table n (eval (leaf b)))) refl
  where
    holds : (c : Bool) → has Bool-discrete c (table n (eval (leaf b))) ≡ true → c ≡ b
    holds c h = (map_in (eval (leaf b)) c (all_sets n 0) (has_in Bool-discrete c (table n (eval (leaf b))) h)).2

    go : (t : Bool) → varies (table n (eval (leaf b))) ≡ t → varies (table n (eval (leaf b))) ≡ false
    go true h =
        let (x, y) = and_both (has Bool-discrete true (table n (eval (leaf b)))) (has Bool-discrete false (table n (eval (leaf b)))) h in
        absurd (true≢false (holds true x ∙ sym (holds false y)))
    go false h = h
varies_node n (node e f s) (o, r) = ap₂ ◌&&◌ (holds true) (holds false)
  where
    d : Diagram
    d = node e f s

    not : (c t : Bool) → t ≢ c → t ≡ cond c false true
    not true true h = absurd (h refl)
    not true false h = refl
    not false true h = refl
    not false false h = absurd (h refl)

    go : (c t : Bool) → has Bool-discrete c (table n (eval d)) ≡ t → has Bool-discrete c (table n (eval d)) ≡ true
    go c true h = h
    go c false h = absurd (true≢false (ap is_node (canonical n d (leaf (cond c false true)) o tt r tt (λ v. not c (eval d v) (λ q.
        true≢false (sym (in_has Bool-discrete c (table n (eval d)) (subst (λ b. In b (table n (eval d))) q (value_in n d v o))) ∙ h))))))

    holds : (c : Bool) → has Bool-discrete c (table n (eval d)) ≡ true
    holds c = go c (has Bool-discrete c (table n (eval d))) refl

-- THE COUNT: of ordered reduced diagrams of n events there are as many distinct nodes as distinct non-constant
-- functions obtained from their functions by fixing the first events
pub count_law : (n : ℕ) (ds : List Diagram) → ((d : Diagram) → In d ds → Good n 0 d) → node_count ds ≡ nodes_needed n (map eval ds)
unfolding nodes_needed
count_law n ds good = count_kind n (plain n) (λ F. varies (table n F)) (varies_node n) ds good
    ∙ ap (distinct table_discrete) (sym (keep_map (table n) varies (flat (reach fix_f n 0) (map eval ds))))

-- each node's function is needed, and each needed function is some node's
module _ (n : ℕ) (ds : List Diagram) (good : (d : Diagram) → In d ds → Good n 0 d) where
  by_test : map (table n) (keep (λ F. varies (table n F)) (flat (reach fix_f n 0) (map eval ds))) ≡ needed n (map eval ds)
  by_test = sym (keep_map (table n) varies (flat (reach fix_f n 0) (map eval ds)))

  pub node_needed : (x : Diagram) → In x (keep is_node (flat subs ds)) → In (table n (eval x)) (needed n (map eval ds))
  node_needed x h = subst (In (table n (eval x))) by_test (node_counted n (plain n) (λ F. varies (table n F)) (varies_node n) ds good x h)

  pub needed_node : (X : List Bool) → In X (needed n (map eval ds)) → (x : Diagram) × In x (keep is_node (flat subs ds)) × (table n (eval x) ≡ X)
  needed_node X h = counted_node n (plain n) (λ F. varies (table n F)) (varies_node n) ds good X (subst (In X) (sym by_test) h)
