use Rattle.std.proofs.Common.{◌≡◌, ◌+◌}
use Rattle.noc_net.specs.Parts.{AreParts, run_in, setup_in}
use Rattle.noc_net.proofs.parts.Parts.run.Given as goal

-- the cycles so far have run
abbrev pub invariant-loop : goal.invariant-loop
invariant-loop l = record {
  parts : AreParts l.self;
  network : run_in l.self ≡ record { net = setup_in l.initial.self; count = l.initial.self.count + l.counter };
}
