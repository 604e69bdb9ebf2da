-- The channels of a router by port.
use Rattle.std.proofs.Common.{◌≡◌, ◌≢◌, ◌⊎◌, ℕ, ◌+◌, ◌-◌, ◌*◌, ◌/◌, ◌%◌, ◌<◌, ◌≤◌, false, arith, ap, ap₂, sym, ◌∙◌, inl, inr}
use Rattle.std.specs.Prelude.{◌&&◌, nat_eq}
use Rattle.std.proofs.lemmas.Bool.{cases_eq, cases_lt, eq-eqb, ne_eqb}
use Rattle.std.proofs.lemmas.Nat.{div-mul-add, mod-mul-add, mod_below}
use Rattle.noc_columns.specs.Picks.{channels_of, port_of}
use Rattle.noc_columns.specs.Words.{AreApart}
use Rattle.noc_columns.specs.declared.ports.RouterPorts.{RouterPorts}
use Rattle.noc_sets.proofs.MemberLemmas.{and-false}
use Rattle.noc_columns.proofs.PickLemmas.{apart}
use Rattle.noc_columns.proofs.PortLemmas.{link-before, link-index, local-place}

-- a port with a channel has virtual channels
pub positive : (n k x : ℕ) → x < k * n → 0 < n
positive n k x b = elim (cases_lt 0 n) [ inl some ↦ some | inr none ↦ (let z : n ≡ 0 = omega (arith, none) in let f : k * n ≡ k * 0 = ap (λ y. k * y) z in absurd (omega (arith, b, f))) ]

module _ (ports vcs : ℕ) (some : 0 < vcs) where
  pub whole : (i : ℕ) → i / vcs * vcs + i % vcs ≡ i
  whole i = omega arith

  pub part : (i : ℕ) → i % vcs < vcs
  part i = mod_below i vcs some

  pub port-below : (i : ℕ) → i < ports * vcs → i / vcs < ports
  port-below i l = elim (cases_lt (i / vcs) ports) [
    | inl b ↦ b
    | inr a ↦
        let d = i / vcs - ports in
        let e : i / vcs ≡ ports + d = omega (arith, a) in
        let f : i / vcs * vcs ≡ (ports + d) * vcs = ap (λ x. x * vcs) e in
        let g : (ports + d) * vcs ≡ ports * vcs + d * vcs = omega arith in
        absurd (omega (arith, f, g, whole i, l))
  ]

  pub channel-below : (i : ℕ) → i / vcs < ports → i < ports * vcs
  channel-below i l = let m = apart (i / vcs) ports vcs (i % vcs) l (part i) in omega (arith, m, whole i)

  -- a channel is told by its port and its virtual channel
  pub channel-eq : (i q v : ℕ) → v < vcs → nat_eq i (q * vcs + v) ≡ (nat_eq q (i / vcs) && nat_eq v (i % vcs))
  channel-eq i q v l = at (cases_eq i (q * vcs + v))
    where
      at : (i ≡ q * vcs + v) ⊎ (i ≢ q * vcs + v) → nat_eq i (q * vcs + v) ≡ (nat_eq q (i / vcs) && nat_eq v (i % vcs))
      at (inl e) =
          eq-eqb i (q * vcs + v) e
          ∙ sym (ap₂ (λ a b. a && b) (eq-eqb q (i / vcs) (sym (ap (λ x. x / vcs) e ∙ div-mul-add q vcs v l))) (eq-eqb v (i % vcs) (sym (ap (λ x. x % vcs) e ∙ mod-mul-add q vcs v l))))
      at (inr o) = ne_eqb i (q * vcs + v) o ∙ sym (by (cases_eq q (i / vcs)) (cases_eq v (i % vcs)))
        where
          by : (q ≡ i / vcs) ⊎ (q ≢ i / vcs) → (v ≡ i % vcs) ⊎ (v ≢ i % vcs) → (nat_eq q (i / vcs) && nat_eq v (i % vcs)) ≡ false
          by (inl a) (inl b) = absurd (o (sym (whole i) ∙ ap₂ (λ x y. x * vcs + y) (sym a) (sym b)))
          by (inl a) (inr b) = ap (λ x. nat_eq q (i / vcs) && x) (ne_eqb v (i % vcs) b) ∙ and-false (nat_eq q (i / vcs))
          by (inr a) b = ap (λ x. x && nat_eq v (i % vcs)) (ne_eqb q (i / vcs) a)

-- ---- no two have the same word
module _ (ports : RouterPorts) where
  same-place : (p v q w : ℕ) → p < ports.links.width + 1 → v < ports.links.vcs → q < ports.links.width + 1 → w < ports.links.vcs
      → (port_of ports p).index v ≡ (port_of ports q).index w → (p ≡ q) × (v ≡ w)
  same-place p v q w l few m less e = at (cases_lt p ports.links.width) (cases_lt q ports.links.width)
    where
      -- the words of the links stand first
      stand : ports.links.first + ports.links.vcs * ports.links.width ≤ ports.local.first
      stand = let first = ports.first in let behind = ports.behind in omega (arith, first, behind)

      divided : p < ports.links.width → q < ports.links.width → v * ports.links.width + p ≡ w * ports.links.width + q → (p ≡ q) × (v ≡ w)
      divided b d f = (
        sym (mod-mul-add v ports.links.width p b) ∙ ap (λ x. x % ports.links.width) f ∙ mod-mul-add w ports.links.width q d,
        sym (div-mul-add v ports.links.width p b) ∙ ap (λ x. x / ports.links.width) f ∙ div-mul-add w ports.links.width q d,
      )

      at : (p < ports.links.width) ⊎ (ports.links.width ≤ p) → (q < ports.links.width) ⊎ (ports.links.width ≤ q) → (p ≡ q) × (v ≡ w)
      at (inl b) (inl d) =
          let f = sym (link-index ports p v b) ∙ e ∙ link-index ports q w d in
          divided b d (omega (arith, f))
      at (inl b) (inr d) =
          let f = sym (link-index ports p v b) ∙ e ∙ local-place ports q w d ports.one in
          let g = link-before ports p v b few stand in
          absurd (omega (arith, f, g))
      at (inr b) (inl d) =
          let f = sym (local-place ports p v b ports.one) ∙ e ∙ link-index ports q w d in
          let g = link-before ports q w d less stand in
          absurd (omega (arith, f, g))
      at (inr b) (inr d) =
          let f = sym (local-place ports p v b ports.one) ∙ e ∙ local-place ports q w d ports.one in
          (omega (arith, l, m, b, d), omega (arith, f))

  pub channels-apart : AreApart (channels_of ports)
  channels-apart c d l m e =
      let vcs = ports.links.vcs in
      let some : 0 < ports.links.vcs = positive ports.links.vcs (ports.links.width + 1) c l in
      let same = same-place (c / vcs) (c % vcs) (d / vcs) (d % vcs) (port-below (ports.links.width + 1) vcs some c l) (part (ports.links.width + 1) vcs some c) (port-below (ports.links.width + 1) vcs some d m) (part (ports.links.width + 1) vcs some d) e in
      sym (whole (ports.links.width + 1) vcs some c) ∙ ap₂ (λ x y. x * vcs + y) same.0 same.1 ∙ whole (ports.links.width + 1) vcs some d
