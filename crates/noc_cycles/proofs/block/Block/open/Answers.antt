use Rattle.std.proofs.Common.{◌+◌, ◌*◌, ◌-◌, ◌^◌, refl, replicate}
use Rattle.noc_cycles.proofs.Common.{Block}
use Rattle.noc_cycles.specs.Opened.{first_in}
use Rattle.noc_cycles.proofs.OpeningLemmas.{holds-nothing}
use Rattle.noc_cycles.proofs.block.Block.open.Goals as goal

pub returns : goal.returns
returns c =
    let self = c.args.self.now in
    let b : Block = record self {
      inputs = c.open_inputs.new.inputs;
      outputs = c.open_outputs.new.outputs;
      switch = record self.switch { ahead = replicate 72 (2 ^ 64 - 1) };
      injection = record self.injection { injecting = replicate 72 0 };
      marks = c.open_marks.new.marks;
      sources = c.open_sources.new.sources;
    } in
    record {
      routers = λ r few.
          holds-nothing c.args.pattern.now (first_in c.args.firsts.now (64 * c.args.number + r)) r few b
          c.open_inputs.ensures c.open_outputs.ensures refl refl
          (c.open_marks.ensures.waiting r few) (c.open_marks.ensures.wanted r few) (c.open_marks.ensures.idle r few)
          (λ o. c.open_marks.ensures.turns r o few) (c.open_sources.ensures.sources r few);
      due = c.open_sources.ensures.due;
    }
