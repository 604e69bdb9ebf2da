use Rattle.std.proofs.Common.{ℕ, ◌≡◌, ◌<◌, List, ap, length, arith, subst, sym}
use Rattle.noc_cycles.proofs.Common.{Links, far_by, AreLed, left_by}
use Rattle.noc_cycles.proofs.GatherLemmas.{from-left}
use Rattle.noc_cycles.proofs.BroughtLemmas.{brought-set, led-by, nothing-set, ports-are}
use Rattle.noc_cycles.proofs.incoming.gather_links.Goals as goal

pub gather_others-requires-clause-led : goal.gather_others-requires-clause-led
gather_others-requires-clause-led c =
    let wired = c.requires.1 in
    let pattern = c.args.pattern.now in
    let far : c.deref.result.now ≡ c.args.around.now.far.items = c.deref.ensures.value in
    subst (AreLed pattern.table.ports.links (length c.args.left.now)) (sym far)
    (led-by c.requires.0 pattern.table.ports.links c.args.around.now.block (length c.args.left.now) c.args.around.now.far.items wired.ports pattern.table.ports.pairs c.requires.2 wired.tables.far)

pub returns-clause-brought : goal.returns-clause-brought
returns-clause-brought c = λ g leaves r wired shows home known x.
    let pattern = c.args.pattern.now in
    let links = pattern.table.ports.links in
    let near = c.args.around.now.near in
    let far = c.args.around.now.far.items in
    let left = c.args.left.now in
    let b = c.args.around.now.block in
    let blocks : b < length left = let m = c.requires.1.block in let n = c.requires.2 in omega (arith, m, n) in
    let is : c.deref.result.now ≡ far = c.deref.ensures.value in
    record {
      flits = brought-set g wired.sound links near (far_by far) (λ b. (left_by left b).flits) b r c.gather_others.new.came.flits (λ s. (leaves s).flits) pattern.some pattern.table.ports.pairs pattern.table.ports.first wired.ports home known wired.tables.near wired.tables.far.each
          (ports-are links near _ far (λ b. (left_by left b).flits) b pattern.frame.link_groups c.gather.new.came.flits c.gather_others.new.came.flits _ is (ap (λ (w : Links (List ℕ)). w.flits) (from-left left b _ blocks)) pattern.table.ports.first pattern.links c.gather.ensures.flits c.gather_others.ensures.flits) (λ t l o m. (shows t l).flits o m) x;
      tails = brought-set g wired.sound links near (far_by far) (λ b. (left_by left b).tails) b r c.gather_others.new.came.tails (λ s. (leaves s).tails) pattern.some pattern.table.ports.pairs pattern.table.ports.first wired.ports home known wired.tables.near wired.tables.far.each
          (ports-are links near _ far (λ b. (left_by left b).tails) b pattern.frame.link_groups c.gather.new.came.tails c.gather_others.new.came.tails _ is (ap (λ (w : Links (List ℕ)). w.tails) (from-left left b _ blocks)) pattern.table.ports.first pattern.links c.gather.ensures.tails c.gather_others.ensures.tails) (λ t l o m. (shows t l).tails o m) x;
      credits = brought-set g wired.sound links near (far_by far) (λ b. (left_by left b).credits) b r c.gather_others.new.came.credits (λ s. (leaves s).credits) pattern.some pattern.table.ports.pairs pattern.table.ports.first wired.ports home known wired.tables.near wired.tables.far.each
          (ports-are links near _ far (λ b. (left_by left b).credits) b pattern.frame.link_groups c.gather.new.came.credits c.gather_others.new.came.credits _ is (ap (λ (w : Links (List ℕ)). w.credits) (from-left left b _ blocks)) pattern.table.ports.first pattern.links c.gather.ensures.credits c.gather_others.ensures.credits) (λ t l o m. (shows t l).credits o m) x;
    }

pub returns-clause-nothing : goal.returns-clause-nothing
returns-clause-nothing c = λ g r wired home beyond x.
    let pattern = c.args.pattern.now in
    let links = pattern.table.ports.links in
    let near = c.args.around.now.near in
    let far = c.args.around.now.far.items in
    let left = c.args.left.now in
    let b = c.args.around.now.block in
    let blocks : b < length left = let m = c.requires.1.block in let n = c.requires.2 in omega (arith, m, n) in
    let is : c.deref.result.now ≡ far = c.deref.ensures.value in
    record {
      flits = nothing-set g links near (far_by far) (λ b. (left_by left b).flits) b r c.gather_others.new.came.flits pattern.table.ports.first wired.ports home beyond wired.tables.near wired.tables.far.each
          (ports-are links near _ far (λ b. (left_by left b).flits) b pattern.frame.link_groups c.gather.new.came.flits c.gather_others.new.came.flits _ is (ap (λ (w : Links (List ℕ)). w.flits) (from-left left b _ blocks)) pattern.table.ports.first pattern.links c.gather.ensures.flits c.gather_others.ensures.flits) x;
      tails = nothing-set g links near (far_by far) (λ b. (left_by left b).tails) b r c.gather_others.new.came.tails pattern.table.ports.first wired.ports home beyond wired.tables.near wired.tables.far.each
          (ports-are links near _ far (λ b. (left_by left b).tails) b pattern.frame.link_groups c.gather.new.came.tails c.gather_others.new.came.tails _ is (ap (λ (w : Links (List ℕ)). w.tails) (from-left left b _ blocks)) pattern.table.ports.first pattern.links c.gather.ensures.tails c.gather_others.ensures.tails) x;
      credits = nothing-set g links near (far_by far) (λ b. (left_by left b).credits) b r c.gather_others.new.came.credits pattern.table.ports.first wired.ports home beyond wired.tables.near wired.tables.far.each
          (ports-are links near _ far (λ b. (left_by left b).credits) b pattern.frame.link_groups c.gather.new.came.credits c.gather_others.new.came.credits _ is (ap (λ (w : Links (List ℕ)). w.credits) (from-left left b _ blocks)) pattern.table.ports.first pattern.links c.gather.ensures.credits c.gather_others.ensures.credits) x;
    }
