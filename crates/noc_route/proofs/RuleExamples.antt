-- Small rules, computed.
use Rattle.std.proofs.Common.{◌≡◌, ℕ, ◌*◌, ◌+◌, true, false, List, [], ◌∷◌, Option, Some, None, refl, sym, subst, lit<, arith}
use Rattle.std.specs.Prelude.{filter}
use Rattle.std.proofs.lemmas.Bool.{false≢true, and_parts, eqb-true}
use Rattle.noc_topo.specs.Lists.{below}
use Rattle.noc_topo.specs.Shape.{ports}
use Rattle.noc_route.specs.Channel.{Channel, Link, Inject, Eject, arrival_of, channel_vc, input_at, output_at}
use Rattle.noc_route.specs.Relation.{RelationParts, rule_offers, rule_has, IsReached, injected, led_on, IsPermitted, is_right, is_led}
use Rattle.noc_route.specs.declared.rule.Rule.TheVariants.{Dor, Dateline, WestFirst}

-- two nodes in a row, one channel, dimension order
two : RelationParts
two = record { grid = record { wraps = false; radix = 2 ∷ [] }; vcs = 1; classes = 1; rule = Dor }

two-starts : IsReached two 0 (Inject 0 0) 1
unfolding two
two-starts = injected (lit< tt) (lit< tt) (lit< tt) (lit< tt) (λ e. omega arith)

two-goes_up : IsPermitted two 0 (Inject 0 0) 1 (Link 0 0 0)
unfolding two
two-goes_up = (two-starts, refl)

two-ejects : IsPermitted two 0 (Link 0 0 0) 1 (Eject 1 0)
unfolding two
two-ejects = (led_on two-starts refl, refl)

-- no channel leads from the destination to the other node
leads-none : (c : Channel) (from : Option (ℕ × ℕ)) → rule_offers two 0 from (channel_vc c) 1 (Link 1 1 0) ≡ true → ⊥
unfolding two
leads-none c None e = false≢true e
leads-none c (Some place) e =
    let parts = and_parts _ _ e in
    let here : 1 ≡ place.0 = eqb-true 1 place.0 (and_parts _ _ parts.0).0 in
    let P : ℕ → Type 0 = λ r. is_led two 0 r 1 1 0 ≡ true in
    false≢true (subst P (sym here) parts.1)

two-not_back : IsReached two 0 (Link 1 1 0) 1 → ⊥
two-not_back (led_on {c = c} h e) = leads-none c (arrival_of two.grid c) e

two-not_home : IsReached two 0 (Inject 1 0) 1 → ⊥
two-not_home (injected m n v t other) = other refl

-- the indices of the output channels that a rule has at an input channel of a router
abbrev rule_set : RelationParts → ℕ → ℕ → ℕ → ℕ → List ℕ
rule_set g r in_port in_vc t = set_of (input_at g.grid g.vcs r (in_port * g.vcs + in_vc))
  where
    set_of : Option Channel → List ℕ
    set_of None = []
    set_of (Some c) = filter (λ o. rule_has g 0 c t (output_at g.grid g.vcs r o)) (below (ports g.grid * g.vcs))

-- four nodes in a ring, two channels, dateline
ring : RelationParts
ring = record { grid = record { wraps = true; radix = 4 ∷ [] }; vcs = 2; classes = 1; rule = Dateline }

ring-sets : rule_set ring 3 2 0 1 ∷ rule_set ring 0 1 0 1 ∷ [] ≡ (0 ∷ []) ∷ (1 ∷ []) ∷ []
unfolding ring below
ring-sets = refl

-- nine nodes in a square, one channel, west first
nine : RelationParts
nine = record { grid = record { wraps = false; radix = 3 ∷ 3 ∷ [] }; vcs = 1; classes = 1; rule = WestFirst }

nine-sets : rule_set nine 4 4 0 8 ∷ rule_set nine 4 4 0 6 ∷ [] ≡ (0 ∷ 2 ∷ []) ∷ (1 ∷ []) ∷ []
unfolding nine below
nine-sets = refl

-- three classes do not divide four channels, and west first wants two dimensions
wrong-classes : is_right nine.grid 4 3 Dor ≡ false
unfolding nine
wrong-classes = refl

wrong-dimensions : is_right two.grid 1 1 WestFirst ≡ false
unfolding two
wrong-dimensions = refl
