use Rattle.std.proofs.Common.{ℕ, ◌≡◌, ◌<◌, List, ap, length, arith, subst}
use Rattle.noc_cycles.proofs.Common.{opposite, Links, left_by}
use Rattle.noc_cycles.proofs.GatherLemmas.{all-joined, at-item, from-left, kind-next, none-joined}
use Rattle.noc_cycles.proofs.incoming.gather_others.Goals as goal

pub offset_bounds-left-one : goal.offset_bounds-left-one
offset_bounds-left-one c =
    let l : c.loop-one.one-index < length c.args.far.now = c.loop-one-test.true in
    let b = c.requires.led.blocks c.loop-one.one-index l in
    let here : c.one-item.result.block < length c.args.left.now = subst (λ n. n < length c.args.left.now) (at-item (λ f. f.block) c.args.far.now c.loop-one.one-index c.one-item.result l c.one-item.is) b in
    omega arith

pub bounds-left-one : goal.bounds-left-one
bounds-left-one c =
    let l : c.loop-one.one-index < length c.args.far.now = c.loop-one-test.true in
    subst (λ n. n < length c.args.left.now) (at-item (λ f. f.block) c.args.far.now c.loop-one.one-index c.one-item.result l c.one-item.is) (c.requires.led.blocks c.loop-one.one-index l)

pub gather_far-requires-clause-port : goal.gather_far-requires-clause-port
gather_far-requires-clause-port c =
    let l : c.loop-one.one-index < length c.args.far.now = c.loop-one-test.true in
    subst (λ n. n < c.args.links.now.width) (at-item (λ f. f.port) c.args.far.now c.loop-one.one-index c.one-item.result l c.one-item.is) (c.requires.led.port c.loop-one.one-index l)

pub gather_far-requires-clause-opposite : goal.gather_far-requires-clause-opposite
gather_far-requires-clause-opposite c =
    let l : c.loop-one.one-index < length c.args.far.now = c.loop-one-test.true in
    subst (λ n. opposite n < c.args.links.now.width) (at-item (λ f. f.port) c.args.far.now c.loop-one.one-index c.one-item.result l c.one-item.is) (c.requires.led.opposite c.loop-one.one-index l)

pub loop-one-init : goal.loop-one-init
loop-one-init c =
    let links = c.args.links.now in
    let far = c.args.far.now in
    let left = c.args.left.now in
    let came = c.args.came.now in
    record {
      flits = none-joined links far (λ b. (left_by left b).flits) came.flits;
      tails = none-joined links far (λ b. (left_by left b).tails) came.tails;
      credits = none-joined links far (λ b. (left_by left b).credits) came.credits;
    }

pub loop-one-preserved : goal.loop-one-preserved
loop-one-preserved c =
    let l : c.loop-one.one-index < length c.args.far.now = c.loop-one-test.true in
    let links = c.args.links.now in
    let far = c.args.far.now in
    let left = c.args.left.now in
    let n = c.loop-one.one-index in
    let x = c.one-item.result in
    let inv = c.loop-one.invariant in
    let others = c.gather_far.ensures.others in
    let here : x.block < length left = subst (λ b. b < length left) (at-item (λ f. f.block) far n x l c.one-item.is) (c.requires.led.blocks n l) in
    record {
      flits = kind-next links far (length left) n x (λ b. (left_by left b).flits) c.args.came.now.flits c.loop-one.came.flits c.gather_far.new.came.flits _ c.requires.led l c.one-item.is (ap (λ (w : Links (List ℕ)). w.flits) (from-left left x.block _ here)) inv.flits c.gather_far.ensures.flits (λ k away. ap (λ (w : Links ℕ). w.flits) (others k away));
      tails = kind-next links far (length left) n x (λ b. (left_by left b).tails) c.args.came.now.tails c.loop-one.came.tails c.gather_far.new.came.tails _ c.requires.led l c.one-item.is (ap (λ (w : Links (List ℕ)). w.tails) (from-left left x.block _ here)) inv.tails c.gather_far.ensures.tails (λ k away. ap (λ (w : Links ℕ). w.tails) (others k away));
      credits = kind-next links far (length left) n x (λ b. (left_by left b).credits) c.args.came.now.credits c.loop-one.came.credits c.gather_far.new.came.credits _ c.requires.led l c.one-item.is (ap (λ (w : Links (List ℕ)). w.credits) (from-left left x.block _ here)) inv.credits c.gather_far.ensures.credits (λ k away. ap (λ (w : Links ℕ). w.credits) (others k away));
    }

pub returns-clause-flits : goal.returns-clause-flits
returns-clause-flits c = all-joined c.args.links.now c.args.far.now (λ b. (left_by c.args.left.now b).flits) c.loop-one.one-index _ _ (let e : c.loop-one.one-index ≡ length c.args.far.now = omega arith in e) c.loop-one.invariant.flits

pub returns-clause-tails : goal.returns-clause-tails
returns-clause-tails c = all-joined c.args.links.now c.args.far.now (λ b. (left_by c.args.left.now b).tails) c.loop-one.one-index _ _ (let e : c.loop-one.one-index ≡ length c.args.far.now = omega arith in e) c.loop-one.invariant.tails

pub returns-clause-credits : goal.returns-clause-credits
returns-clause-credits c = all-joined c.args.links.now c.args.far.now (λ b. (left_by c.args.left.now b).credits) c.loop-one.one-index _ _ (let e : c.loop-one.one-index ≡ length c.args.far.now = omega arith in e) c.loop-one.invariant.credits
