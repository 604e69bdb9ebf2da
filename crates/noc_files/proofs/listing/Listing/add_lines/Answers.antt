use Rattle.std.proofs.Common.{arith}
use Rattle.noc_files.proofs.PageLemmas.{added_more, added_none}
use Rattle.noc_files.proofs.listing.Listing.add_lines.Goals as goal

pub loop-vc-init : goal.loop-vc-init
loop-vc-init g c = record { said = added_none (g.L.Lines.said c.args.self.now.lines.now c.args.router c.args.port) c.args.page.now; short = omega arith }

pub loop-vc-preserved : goal.loop-vc-preserved
loop-vc-preserved g c =
    let said = g.L.Lines.said c.args.self.now.lines.now c.args.router c.args.port in
    record {
      said = added_more said c.args.page.now c.loop-vc.vc c.loop-vc.page c.add_line.new.page c.loop-vc.invariant.said c.add_line.ensures.said;
      short = omega (arith, c.add_line.ensures.short, c.loop-vc.invariant.short);
    }
