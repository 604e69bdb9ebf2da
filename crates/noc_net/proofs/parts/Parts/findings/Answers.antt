use Rattle.std.proofs.Common.{◌≡◌, ℕ, refl, ap, ◌∙◌, arith}
use Rattle.noc_view.specs.View.{View}
use Rattle.noc_theory.specs.Lockstep.{findings_before, view_at}
use Rattle.noc_theory.specs.Network.{Setup}
use Rattle.noc_net.specs.Parts.{run_in, setup_in}
use Rattle.noc_net.proofs.ReaderLemmas.{count_routers, router_at}
use Rattle.noc_net.proofs.parts.Parts.findings.Goals as goal

shown : (net : Setup) (n r : ℕ) → (view_at net n r).findings ≡ findings_before net n r
unfolding view_at
shown net n r = refl

pub index-requires : goal.index-requires
index-requires c = omega (arith, c.requires.router, count_routers c.args.self.now c.requires.parts)

pub returns : goal.returns
returns c =
    let parts = c.args.self.now in
    c.findings.ensures
    ∙ ap (λ (v : View). v.findings) (router_at parts c.requires.parts (run_in parts) refl c.args.router c.index.result.now c.requires.router c.index.ensures)
    ∙ shown (setup_in parts) parts.count c.args.router
