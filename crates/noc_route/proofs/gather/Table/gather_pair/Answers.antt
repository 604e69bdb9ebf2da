use Rattle.std.proofs.Common.{◌≡◌, ◌+◌, ℕ, subst, sym, set, arith}
use Rattle.noc_route.specs.Entered.{sets_in}
use Rattle.noc_route.specs.Trimming.{routes_in}
use Rattle.noc_route.specs.Gathering.{IsPairDone}
use Rattle.noc_route.proofs.TrimLemmas.{IsPairDone-more}
use Rattle.noc_route.proofs.gather.Table.gather_pair.Goals as goal

pub loop-class-init : goal.loop-class-init
loop-class-init c = record { lists = c.requires.outs; done = λ m l place. absurd (omega (arith, l)); kept = λ m u d place had. had }

pub leaving-out-requires-clause-outs : goal.leaving-out-requires-clause-outs
leaving-out-requires-clause-outs c = c.loop-class.invariant.lists.long

pub loop-class-preserved : goal.loop-class-preserved
loop-class-preserved c =
    let table = c.args.self.now in
    let f = table.map.now.sizes in
    let routes = routes_in f (sets_in f table.entered.now) in
    let P : ℕ → Type 0 = λ page. IsPairDone routes c.args.outs.now (set c.loop-class.outs page c.leaving-out.result) c.args.router c.args.dst (c.loop-class.class + 1) in
    subst P (sym c.page.ensures.value)
    (IsPairDone-more routes c.args.outs.now c.loop-class.outs c.args.router c.args.dst c.loop-class.class c.leaving-out.result (record { grid = f.grid; some_vcs = f.some_vcs }) table.nearer c.requires.farther
    (record { class = c.loop-class-test.true; router = c.requires.router; dst = c.requires.dst }) c.leaving-out.ensures c.loop-class.invariant)

pub returns : goal.returns
returns c =
    let table = c.args.self.now in
    let last : c.loop-class.class ≡ table.map.now.sizes.classes = omega (arith, c.loop-class.auto.class-end, c.loop-class-test.false) in
    subst (IsPairDone (routes_in table.map.now.sizes (sets_in table.map.now.sizes table.entered.now)) c.args.outs.now c.loop-class.outs c.args.router c.args.dst) last c.loop-class.invariant
