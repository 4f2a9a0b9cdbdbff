-- Worked examples: a = b1 or b2, b1 = c1 and c2, b2 = c2 or c3, in this order and with the lines turned round; and a ring.
-- Assumes nothing.
use Rattle.std.specs.Prelude.{◌≡◌, refl, List, [], ◌∷◌, ℕ}
use Rattle.std.proofs.Common.{inl}
use Rattle.paper.specs.Walks.{Ring, visit, meet, postorder, preorder, events_of, gates_of}
use Rattle.depthfirst.specs.Inputs.{inputs_of}

-- names a, b1, b2, c1, c2, c3 are 0 to 5
small : ℕ → List ℕ
unfolding inputs_of
small = inputs_of (0 ∷ 2 ∷ 4 ∷ 6 ∷ 6 ∷ 6 ∷ 6 ∷ []) (1 ∷ 2 ∷ 3 ∷ 4 ∷ 4 ∷ 5 ∷ [])

small_order : postorder small 6 0 ≡ 3 ∷ 4 ∷ 1 ∷ 5 ∷ 2 ∷ 0 ∷ []
unfolding small visit inputs_of
small_order = refl

small_met : preorder small 6 0 ≡ 0 ∷ 1 ∷ 3 ∷ 4 ∷ 2 ∷ 5 ∷ []
unfolding small meet inputs_of
small_met = refl

-- c1, c2, c3 are the events 0, 1, 2; b1, b2, a the gates 0, 1, 2
small_events : events_of small (postorder small 6 0) ≡ 3 ∷ 4 ∷ 5 ∷ []
unfolding small visit inputs_of
small_events = refl

small_gates : gates_of small (postorder small 6 0) ≡ 1 ∷ 2 ∷ 0 ∷ []
unfolding small visit inputs_of
small_gates = refl

-- the last line first: b2, c2, c3, b1, c1, a are 0 to 5, and the order is that of the same names
turned : ℕ → List ℕ
unfolding inputs_of
turned = inputs_of (0 ∷ 2 ∷ 2 ∷ 2 ∷ 4 ∷ 4 ∷ 6 ∷ []) (1 ∷ 2 ∷ 4 ∷ 1 ∷ 3 ∷ 0 ∷ [])

turned_order : postorder turned 6 5 ≡ 4 ∷ 1 ∷ 3 ∷ 2 ∷ 0 ∷ 5 ∷ []
unfolding turned visit inputs_of
turned_order = refl

-- a = b or c, b = a: the ring a, b
back : Ring (inputs_of (0 ∷ 2 ∷ 3 ∷ 3 ∷ []) (1 ∷ 2 ∷ 0 ∷ [])) (0 ∷ 1 ∷ [])
unfolding inputs_of
back = (inl refl, inl refl)

-- a = a is a ring of one
alone : Ring (inputs_of (0 ∷ 1 ∷ []) (0 ∷ [])) (0 ∷ [])
unfolding inputs_of
alone = inl refl
