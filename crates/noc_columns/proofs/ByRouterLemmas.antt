-- The channels of a router, port by port, the local port behind the link ports.
use Rattle.std.proofs.Common.{◌≡◌, ℕ, ◌+◌, ◌*◌, ◌^◌, ◌<◌, ◌≤◌, List, arith, ap₂, ◌∙◌}
use Rattle.std.proofs.lemmas.Nat.{div-mul-add, mod-mul-add, mul-le}
use Rattle.noc_columns.specs.Picks.{channels_of, port_at, port_of}
use Rattle.noc_columns.specs.Supply.{digits_by, number_in}
use Rattle.noc_columns.specs.Words.{set_of}
use Rattle.noc_columns.specs.declared.ports.RouterPorts.{RouterPorts}
use Rattle.noc_columns.specs.declared.supply.Digits.{Digits}
use Rattle.noc_columns.proofs.PortLemmas.{link-index, local-index}

-- there is room for eight local channels behind the link channels
pub links-few : (width vcs : ℕ) → width < 8 → vcs ≤ 8 → width * vcs ≤ 56
links-few width vcs l m = mul-le width vcs 7 8 (omega (arith, l)) m

module _ (ports : RouterPorts) where
  pub link-word : (j v : ℕ) → j < ports.links.width → v < ports.links.vcs → (channels_of ports).index (j * ports.links.vcs + v) ≡ (port_at ports.links j).index v
  link-word j v l m =
      ap₂ (λ p w. (port_of ports p).index w) (div-mul-add j ports.links.vcs v m) (mod-mul-add j ports.links.vcs v m)
      ∙ link-index ports j v l

  pub local-word : (v : ℕ) → v < ports.links.vcs → (channels_of ports).index (ports.links.width * ports.links.vcs + v) ≡ (port_at ports.local 0).index v
  local-word v m =
      ap₂ (λ p w. (port_of ports p).index w) (div-mul-add ports.links.width ports.links.vcs v m) (mod-mul-add ports.links.width ports.links.vcs v m)
      ∙ local-index ports ports.links.width v (omega arith)

  -- the local channel that input channel c of router r gives back
  abbrev pub back_of : Digits (List ℕ) → ℕ → ℕ → ℕ
  back_of vc r c = 2 ^ (ports.links.width * ports.links.vcs + number_in (digits_by (set_of (channels_of ports) r) vc) c)
