use Rattle.std.proofs.Common.{refl, ap, ◌∙◌, arith}
use Rattle.std.proofs.lemmas.List.{take_all}
use Rattle.noc_net.specs.Latest.{latest_of}
use Rattle.noc_net.specs.Parts.{run_in}
use Rattle.noc_net.proofs.ReaderLemmas.{latest-is}
use Rattle.noc_net.proofs.parts.Parts.last_event.Goals as goal

pub returns : goal.returns
returns c =
    let parts = c.args.self.now in
    latest-is parts c.requires (run_in parts) refl c.loop-router.last parts.routers.items refl
    (c.loop-router.invariant ∙ ap latest_of (take_all c.loop-router.router-index parts.routers.items (omega (arith, c.loop-router-test.false, c.deref-router-items.ensures.len))))
