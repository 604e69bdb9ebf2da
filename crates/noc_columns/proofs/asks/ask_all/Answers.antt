use Rattle.std.proofs.Common.{◌≡◌, ◌*◌, ◌%◌, ◌^◌, ◌<◌, ◌∙◌, arith, refl, bit_and, get_or-set_same, get_or-set_other, slice_index}
use Rattle.std.proofs.lemmas.Nat.{and_le_r, shl_whole}
use Rattle.noc_columns.proofs.AskLemmas.{asking-all, asking-opened, asking-stepped}
use Rattle.noc_columns.proofs.asks.ask_all.Goals as goal

pub loop-rest-init : goal.loop-rest-init
loop-rest-init c = record {
  asking = asking-opened c.args.waiting c.args.idle _ _ 0 0 refl refl
      (λ o l. get_or-set_other c.args.requests.now 64 o 0 0 (omega (arith, l)) ∙ c.requires o l) (get_or-set_same c.args.requests.now 64 0 0 (omega arith));
}

pub loop-rest-preserved : goal.loop-rest-preserved
loop-rest-preserved c =
    let inv = c.loop-rest.invariant in
    let input = c.least-input.result in
    let sets = c.args.sets.now in
    let requests = c.loop-rest.requests in
    let chosen = slice_index sets input in
    let free = bit_and chosen c.args.idle in
    let out = c.least_or_past.result in
    let within : input < 64 = c.least-input.ensures.within in
    let one : 1 * 2 ^ input % 2 ^ 64 ≡ 2 ^ input = shl_whole 1 1 input 64 (omega arith) (omega (arith, within)) ∙ omega arith in
    record {
      asking = asking-stepped c.args.waiting c.args.idle c.loop-rest.rest _ input (λ k. slice_index sets k) (λ o. slice_index requests o) (λ o. slice_index c.ask.new.requests o) c.loop-rest.outs c.loop-rest.wanted
          _ _ chosen free (1 * 2 ^ input % 2 ^ 64) out c.lowest-outs.result
          c.least-input.ensures.least refl refl (omega (arith, and_le_r chosen c.args.idle, c.ranges.idle.fits)) one c.least_or_past.ensures.least c.least_or_past.ensures.past
          c.ask.ensures.here (λ o other. c.ask.ensures.others o other)
          c.lowest-outs.ensures refl refl c.but_lowest-rest.ensures.members inv.asking;
    }

pub returns : goal.returns
returns c = asking-all c.args.waiting c.args.idle _ _ _ _ _ c.loop-rest.rest (omega arith) c.less.ensures c.loop-rest.invariant.asking
