-- A network by columns, or by its routers.
use Rattle.std.proofs.Common.{◌≡◌, ℕ, ◌+◌, ◌≤◌, Option, Some, None, ap, sym, ◌∙◌, subst, arith}
use Rattle.std.specs.Prelude.{IfSome}
use Rattle.noc_theory.specs.declared.limits.TheConstants.{CYCLE_LIMIT}
use Rattle.noc_theory.specs.Network.{Run}
use Rattle.noc_net.specs.declared.network.Network.TheInside.{Inside}
use Rattle.noc_net.specs.declared.parts.Parts.{Parts}
use Rattle.noc_net.specs.Inside.{IsNetwork, run_of}
use Rattle.noc_net.specs.Parts.{AreParts, run_in, setup_in}

-- the engine of a network is that network
pub shown : (n : Inside) → IsNetwork n → (engine : Run) → n.engine ≡ Some engine → engine ≡ run_of n
shown n sound engine e = subst (λ (o : Option Run). IfSome o (λ x. x ≡ run_of n)) e sound.engine

-- without an engine its routers are those of its run
pub routers-run : (n : Inside) → IsNetwork n → n.engine ≡ None → run_in n.parts ≡ run_of n
routers-run n sound none = ap (λ (k : ℕ). (let u : Run = record { net = setup_in n.parts; count = k } in u)) (sound.routers none)

-- more cycles by columns
pub by-columns : (n : Inside) → IsNetwork n → (old : Run) → n.engine ≡ Some old → (cycles : ℕ) → n.count + cycles ≤ CYCLE_LIMIT → (new : Run) → new ≡ record old { count = old.count + cycles }
    → IsNetwork (record { parts = n.parts; engine = Some new; count = n.count + cycles })
by-columns n sound old e cycles within new is = record {
  parts = sound.parts;
  behind = let b = sound.behind in omega arith;
  within = within;
  engine = is ∙ ap (λ (u : Run). (let v : Run = record { net = u.net; count = u.count + cycles } in v)) (shown n sound old e);
  routers = λ e. absurd (cc e);
}

-- more cycles by its routers
pub by-routers : (n : Inside) → IsNetwork n → n.engine ≡ None → (cycles : ℕ) → n.count + cycles ≤ CYCLE_LIMIT → (parts : Parts) → AreParts parts
    → run_in parts ≡ record { net = setup_in n.parts; count = n.parts.count + cycles } → IsNetwork (record { parts = parts; engine = n.engine; count = n.count + cycles })
by-routers n sound none cycles within parts are is =
    let count : parts.count ≡ n.count + cycles = ap (λ (u : Run). u.count) is ∙ ap (λ (k : ℕ). k + cycles) (sound.routers none) in
    let then : Run = record { net = setup_in parts; count = n.count + cycles } in
    record {
      parts = are;
      behind = omega (arith, count);
      within = within;
      engine = subst (λ (o : Option Run). IfSome o (λ x. x ≡ then)) (sym none) tt;
      routers = λ e. count;
    }
