-- The opening state: every flit at its source.
use Rattle.std.proofs.Common.{◌≡◌, ℕ, Bool, false, List, [], ◌∷◌, ◌++◌, map, Option, Some, None, refl, ap, ◌∙◌}
use Rattle.std.specs.Prelude.{find, option_map, option_and_then, is_some}
use Rattle.noc_view.proofs.FindLemmas.{find-none}
use Rattle.noc_theory.proofs.Common.{flat_map, enumerate_from, below, Packet, Flit, Channel, Link, idle_beat, beat_by, flit_on, Setup, Located, Source, is_on, opening_state}

-- the flits of one packet at its source
abbrev pub sent : ℕ × Packet → List Located
sent one = map (λ i. record { packet = one.0; index = i; place = Source }) (below one.1.length)

find-map : (t : Located → Bool) (p : ℕ) → ((i : ℕ) → t (record { packet = p; index = i; place = Source }) ≡ false) → (is : List ℕ) (rest : List Located)
    → find t (map (λ i. record { packet = p; index = i; place = Source }) is ++ rest) ≡ find t rest
find-map t p never [] rest = refl
find-map t p never (i ∷ is) rest = rw (never i) (find-map t p never is rest)

-- what no flit at a source passes, finds none in the opening state
pub opening-none : (t : Located → Bool) → ((p i : ℕ) → t (record { packet = p; index = i; place = Source }) ≡ false) → (xs : List (ℕ × Packet)) → find t (flat_map sent xs) ≡ None
opening-none t never [] = refl
opening-none t never (x ∷ xs) = find-map t x.0 (never x.0) (below x.1.length) (flat_map sent xs) ∙ opening-none t never xs

module _ (net : Setup) where
  no-flit : (c : Channel) → flit_on net (opening_state net) c ≡ None
  unfolding opening_state
  no-flit c = ap (option_map _) (opening-none (λ (f : Located). is_on c f.place) (λ p i. refl) (enumerate_from 0 net.packets))

  pub no-beat : (s q : ℕ) (o : Option (ℕ × ℕ)) → beat_by net (opening_state net) s q o ≡ idle_beat
  unfolding opening_state
  no-beat s q None = refl
  no-beat s q (Some from) =
      let flit : option_and_then (λ vc. option_map (λ (f : Flit). (vc, f)) (flit_on net (opening_state net) (Link from.0 from.1 vc))) (find (λ vc. is_some (flit_on net (opening_state net) (Link from.0 from.1 vc))) (below net.relation.vcs)) ≡ None
      = ap (option_and_then (λ vc. option_map (λ (f : Flit). (vc, f)) (flit_on net (opening_state net) (Link from.0 from.1 vc))))
      (find-none (λ vc. is_some (flit_on net (opening_state net) (Link from.0 from.1 vc))) net.relation.vcs (λ k l. ap is_some (no-flit (Link from.0 from.1 k)))) in
      let credit : find (λ vc. false) (below net.relation.vcs) ≡ None = find-none (λ vc. false) net.relation.vcs (λ k l. refl) in
      ap (λ (x : Option (ℕ × Flit)). record { flit = x; credit = find (λ vc. false) (below net.relation.vcs) }) flit
      ∙ ap (λ (x : Option ℕ). record { flit = None; credit = x }) credit
