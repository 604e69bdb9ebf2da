-- The picks of the ports of a router.
use Rattle.std.proofs.Common.{◌≡◌, ◌⊎◌, ℕ, zero, suc, ◌+◌, ◌-◌, ◌*◌, ◌/◌, ◌%◌, ◌^◌, ◌<◌, ◌≤◌, Bool, true, false, List, arith, ap, ap₂, sym, ◌∙◌, inl, inr, pow-suc}
use Rattle.std.specs.Prelude.{◌&&◌, if◌then◌else◌}
use Rattle.std.proofs.lemmas.Bool.{cases_lt, false≢true, le-ltb}
use Rattle.std.proofs.lemmas.Nat.{div-mul-add, mod-mul-add, mod_below, or_lt, pow_pos}
use Rattle.std.proofs.Math.Pow.{pow_mono}
use Rattle.noc_topo.specs.Lists.{is_some_of}
use Rattle.noc_packet.specs.Set.{has_bit}
use Rattle.noc_alloc.specs.Members.{MembersAreBelow}
use Rattle.noc_alloc.proofs.ArbiterLemmas.{first_in_turn-same}
use Rattle.noc_sets.specs.Turns.{ArePicked, ShowsPointer, first_bit}
use Rattle.noc_sets.proofs.TurnLemmas.{first-among, first-members}
use Rattle.noc_columns.specs.Picks.{channels_of, port_of}
use Rattle.noc_columns.specs.Words.{set_below, set_of, word}
use Rattle.noc_columns.specs.declared.ports.RouterPorts.{RouterPorts}
use Rattle.noc_columns.proofs.PickLemmas.{apart}
use Rattle.noc_columns.proofs.SetLemmas.{below-members}
use Rattle.noc_columns.proofs.SupplyLemmas.{member-is}

-- the set of the numbers below n is a word of n bits
pub below-fits : (n : ℕ) (test : ℕ → Bool) → set_below n test < 2 ^ n
below-fits zero test = omega arith
below-fits (suc n) test =
    let e : 2 ^ suc n ≡ 2 ^ n * 2 = pow-suc 2 n in
    let low = below-fits n test in
    or_lt (suc n) (set_below n test) (if test n then 2 ^ n else 0) (omega (arith, low, e)) (at (test n))
  where
    at : (b : Bool) → (if b then 2 ^ n else 0) < 2 ^ suc n
    at true = let e : 2 ^ suc n ≡ 2 ^ n * 2 = pow-suc 2 n in omega (arith, e, pow_pos n)
    at false = pow_pos (suc n)

module _ (ports : RouterPorts) (r : ℕ) where
  -- a channel of a router is one of its port
  pub part-is : (words : List ℕ) (p v : ℕ) → p < ports.links.width + 1 → v < ports.links.vcs → has_bit (set_of (channels_of ports) r words) (p * ports.links.vcs + v) ≡ has_bit (set_of (port_of ports p) r words) v
  part-is words p v l m =
      member-is (channels_of ports) r (p * ports.links.vcs + v) words (apart p (ports.links.width + 1) ports.links.vcs v l m)
      ∙ ap₂ (λ x y. has_bit (word ((port_of ports x).index y) words) r) (div-mul-add p ports.links.vcs v m) (mod-mul-add p ports.links.vcs v m)
      ∙ sym (member-is (port_of ports p) r v words m)

  pub port-members : (words : List ℕ) (p k : ℕ) → has_bit (set_of (port_of ports p) r words) k ≡ true → k < ports.links.vcs
  port-members words p k e = elim (cases_lt k ports.links.vcs) [
    | inl l ↦ l
    | inr m ↦ absurd (false≢true (ap (λ b. b && has_bit (word ((port_of ports p).index k) words) r) (sym (le-ltb k ports.links.vcs m)) ∙ sym (below-members ports.links.vcs (λ c. has_bit (word ((port_of ports p).index c) words) r) k) ∙ e))
  ]

  pub are-picked : (ready ahead picked : List ℕ) → 0 < ports.links.vcs → ports.links.vcs ≤ 64
      → ((p : ℕ) → p < ports.links.width + 1 → set_of (port_of ports p) r picked ≡ first_bit (set_of (port_of ports p) r ready) (set_of (port_of ports p) r ahead))
      → ArePicked ports.links.vcs (ports.links.width + 1) (set_of (channels_of ports) r ready) (set_of (channels_of ports) r ahead) (set_of (channels_of ports) r picked)
  are-picked ready ahead picked some few each = record {
    among = λ k e. among k e (cases_lt k ((ports.links.width + 1) * ports.links.vcs));
    first = λ p pointer c l within shows m.
        part-is picked p c l m
        ∙ ap (λ s. has_bit s c) (each p l)
        ∙ first-members ports.links.vcs pointer (set_of (port_of ports p) r ready) (set_of (port_of ports p) r ahead) (fits p) (below p) within (shown p pointer l shows) c
        ∙ ap (λ o. is_some_of o c) (first_in_turn-same ports.links.vcs pointer (has_bit (set_of (port_of ports p) r ready)) (λ d. has_bit (set_of (channels_of ports) r ready) (p * ports.links.vcs + d)) (λ d b. sym (part-is ready p d l b)));
  }
    where
      fits : (p : ℕ) → set_of (port_of ports p) r ready < 2 ^ 64
      fits p = let low = below-fits ports.links.vcs (λ c. has_bit (word ((port_of ports p).index c) ready) r) in let mono : 2 ^ ports.links.vcs ≤ 2 ^ 64 = pow_mono few in omega (arith, low, mono)

      below : (p : ℕ) → MembersAreBelow ports.links.vcs (set_of (port_of ports p) r ready)
      below p k e = elim (cases_lt k ports.links.vcs) [
        | inl l ↦ l
        | inr m ↦ absurd (false≢true (ap (λ b. b && has_bit (word ((port_of ports p).index k) ready) r) (sym (le-ltb k ports.links.vcs m)) ∙ sym (below-members ports.links.vcs (λ c. has_bit (word ((port_of ports p).index c) ready) r) k) ∙ e))
      ]

      shown : (p pointer : ℕ) → p < ports.links.width + 1 → ShowsPointer ports.links.vcs (set_of (channels_of ports) r ahead) p pointer → ShowsPointer ports.links.vcs (set_of (port_of ports p) r ahead) 0 pointer
      shown p pointer l (inl from) = inl (λ c m. ap (has_bit (set_of (port_of ports p) r ahead)) (let e : 0 * ports.links.vcs + c ≡ c = omega arith in e) ∙ sym (part-is ahead p c l m) ∙ from c m)
      shown p pointer l (inr none) = inr (none.0, λ c m. ap (has_bit (set_of (port_of ports p) r ahead)) (let e : 0 * ports.links.vcs + c ≡ c = omega arith in e) ∙ sym (part-is ahead p c l m) ∙ none.1 c m)

      among : (k : ℕ) → has_bit (set_of (channels_of ports) r picked) k ≡ true → (k < (ports.links.width + 1) * ports.links.vcs) ⊎ ((ports.links.width + 1) * ports.links.vcs ≤ k) → has_bit (set_of (channels_of ports) r ready) k ≡ true
      among k e (inr m) = absurd (false≢true (ap (λ b. b && has_bit (word ((channels_of ports).index k) picked) r) (sym (le-ltb k ((ports.links.width + 1) * ports.links.vcs) m)) ∙ sym (below-members ((ports.links.width + 1) * ports.links.vcs) (λ c. has_bit (word ((channels_of ports).index c) picked) r) k) ∙ e))
      among k e (inl l) =
          let p = k / ports.links.vcs in
          let v = k % ports.links.vcs in
          let m : v < ports.links.vcs = mod_below k ports.links.vcs some in
          let whole : p * ports.links.vcs + v ≡ k = omega arith in
          let port : p < ports.links.width + 1 = port-below k l in
          ap (has_bit (set_of (channels_of ports) r ready)) (sym whole)
          ∙ part-is ready p v port m
          ∙ first-among (set_of (port_of ports p) r ready) (set_of (port_of ports p) r ahead) v
          (ap (λ s. has_bit s v) (sym (each p port)) ∙ sym (part-is picked p v port m) ∙ ap (has_bit (set_of (channels_of ports) r picked)) whole ∙ e)
        where
          port-below : (k : ℕ) → k < (ports.links.width + 1) * ports.links.vcs → k / ports.links.vcs < ports.links.width + 1
          port-below k l = elim (cases_lt (k / ports.links.vcs) (ports.links.width + 1)) [
            | inl b ↦ b
            | inr a ↦
                let d = k / ports.links.vcs - (ports.links.width + 1) in
                let e : k / ports.links.vcs ≡ ports.links.width + 1 + d = omega (arith, a) in
                let f : k / ports.links.vcs * ports.links.vcs ≡ (ports.links.width + 1 + d) * ports.links.vcs = ap (λ x. x * ports.links.vcs) e in
                let g : (ports.links.width + 1 + d) * ports.links.vcs ≡ (ports.links.width + 1) * ports.links.vcs + d * ports.links.vcs = omega arith in
                let h : k / ports.links.vcs * ports.links.vcs + k % ports.links.vcs ≡ k = omega arith in
                absurd (omega (arith, f, g, h, l))
          ]
