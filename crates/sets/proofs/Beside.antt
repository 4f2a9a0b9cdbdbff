-- The members ahead of each word: counted again from the first word that changed, and still right where nothing did.
-- Assumes nothing.
use mathlib.Core.Path.{◌≡◌, sym, ap, ◌∙◌}
use mathlib.Core.List.{List}
use Prim.Native.Nat.{ℕ, ◌+◌, ◌-◌, ◌*◌, ◌/◌, ◌^◌, ◌≤◌, ◌<◌}
use native.Mathlib.Decide.{ℕ_discrete}
use native.Mathlib.Omega.{arith}
use lib.ListN.{length, get_or, set, length-set}
use lib.Seq.{get_or-set_same, get_or-set_other}
use lib.Count.{ones}
use Rattle.paper.specs.Sets.{members}
use Rattle.sets.specs.Words.{set_of, room, size_of}
use Rattle.sets.specs.Beside.{Between, Ahead}
use Rattle.sets.proofs.Count.{keep_agree, count_le, count_word, members_all}

-- ---- still right

module _ {ws : List ℕ} {b : ℕ} {ahead : List ℕ} (a : Ahead ws b ahead) where
  pub ahead_fewer : {c : ℕ} → c ≤ b → Ahead ws c ahead
  ahead_fewer h = record { long = a.long; is = λ k l. a.is k (omega arith) }

  -- of words that agree up to event b
  pub ahead_same : {ws' : List ℕ} → length ws' ≡ length ws → ((j : ℕ) → j < b → set_of ws' j ≡ set_of ws j) → Ahead ws' b ahead
  ahead_same {ws'} l h = record {
    long = a.long ∙ sym l;
    is = λ k g. a.is k g ∙ ap length (sym (keep_agree (set_of ws') (set_of ws) (k * 64) 0 (λ j p q. h j (omega arith))));
  }

-- at the start nothing stands ahead of the first word
pub ahead_none : {ws ahead : List ℕ} → length ahead ≡ length ws → get_or ahead 0 0 ≡ 0 → Ahead ws 0 ahead
ahead_none {ws} {ahead} l z = record { long = l; is = λ k g. let first : k ≡ 0 = omega arith in ap (λ (j : ℕ). get_or ahead j 0) first ∙ z ∙ sym (ap (λ (j : ℕ). length (members (j * 64) (set_of ws))) first) }

-- ---- the words that changed

module _ {ws : List ℕ} {low high : ℕ} (b : Between ws low high) where
  pub low_word : low / 64 < length ws
  low_word = let r = b.rise in let i = b.inside in omega arith

  pub high_word : high / 64 < length ws
  high_word = let i = b.inside in omega arith

  -- no member is behind the last of them
  pub all_members : {k : ℕ} → high / 64 < k → k ≤ length ws → members (room ws) (set_of ws) ≡ members (k * 64) (set_of ws)
  all_members {k} h l = members_all (set_of ws) (k * 64) (room ws) (omega arith) (λ j g. b.within j (omega arith))

-- n members stand in the words before word k, and `ahead` is right for those words
pub record Counting (ws : List ℕ) (high : ℕ) (ahead : List ℕ) (k n : ℕ) : Type 0 where
  pub some : 0 < k
  pub upto : k ≤ high / 64 + 1
  pub is : n ≡ length (members (k * 64) (set_of ws))
  pub right : Ahead ws ((k - 1) * 64) ahead

module _ {ws : List ℕ} {low high : ℕ} (b : Between ws low high) {ahead : List ℕ} (a : Ahead ws low ahead) where
  pub recount_ahead : get_or ahead (low / 64) 0 ≤ low
  recount_ahead = let e = a.is (low / 64) (omega arith) in let c = count_le (set_of ws) (low / 64 * 64) 0 in omega arith

  pub recount_start : get_or ws (low / 64) 0 < 2 ^ 64 → Counting ws high ahead (low / 64 + 1) (get_or ahead (low / 64) 0 + ones (get_or ws (low / 64) 0))
  recount_start f =
      let r = b.rise in
      record {
        some = omega arith;
        upto = omega arith;
        is = ap (λ (n : ℕ). n + ones (get_or ws (low / 64) 0)) (a.is (low / 64) (omega arith)) ∙ count_word ws (low / 64) f;
        right = ahead_fewer a (omega arith);
      }

module _ {ws : List ℕ} {high : ℕ} {ahead : List ℕ} {k n : ℕ} (g : Counting ws high ahead k n) where
  pub recount_few : n ≤ k * 64
  recount_few = let e = g.is in let c = count_le (set_of ws) (k * 64) 0 in omega arith

  pub recount_more : k < high / 64 + 1 → k < length ws → get_or ws k 0 < 2 ^ 64 → Counting ws high (set ahead k n) (k + 1) (n + ones (get_or ws k 0))
  recount_more h l f = record {
    some = omega arith;
    upto = omega arith;
    is = ap (λ (x : ℕ). x + ones (get_or ws k 0)) g.is ∙ count_word ws k f;
    right = record { long = simp length-set g.right.long; is = λ j q. go j q (ℕ_discrete j k) };
  }
    where
      go : (j : ℕ) → j * 64 ≤ (k + 1 - 1) * 64 → Dec (j ≡ k) → get_or (set ahead k n) j 0 ≡ length (members (j * 64) (set_of ws))
      go j q (yes e) =
          let long = g.right.long in
          ap (λ (x : ℕ). get_or (set ahead k n) x 0) e ∙ get_or-set_same ahead k n 0 (omega arith) ∙ g.is ∙ ap (λ (x : ℕ). length (members (x * 64) (set_of ws))) (sym e)
      go j q (no e) = get_or-set_other ahead k j n 0 e ∙ g.right.is j (omega arith)

  pub recount_end : {low : ℕ} → Between ws low high → high / 64 + 1 ≤ k → (n ≡ size_of ws) × Ahead ws high ahead
  recount_end b h =
      let u = g.upto in
      let i = high_word b in
      (g.is ∙ sym (ap length (all_members b {k = k} (omega arith) (omega arith))), record { long = g.right.long; is = λ j l. g.right.is j (omega arith) })
