use Rattle.std.proofs.Common.{◌≡◌, ℕ, ◌<◌, ◌∙◌, sym, arith, slice_index, length}
use Rattle.std.specs.Prelude.{nat_eq, if◌then◌else◌}
use Rattle.noc_columns.proofs.SourceLemmas.{start-read}
use Rattle.noc_columns.proofs.WalkLemmas.{part-next, walk-all, walk-fresh, walk-start, walk-step}
use Rattle.noc_cycles.proofs.Common.{length-set, has_bit, start_in, packet_in, starts_by}
use Rattle.noc_cycles.proofs.BeginLemmas.{both-tests, row-here, row-other}
use Rattle.noc_cycles.proofs.begins.begin_in.Goals as goal

pub loop-rest-init : goal.loop-rest-init
loop-rest-init c = record {
  size = omega arith;
  part = λ k e. e;
  each = λ k r few. walk-start c.args.routers r (λ t. if nat_eq k c.args.channel then (start_in (starts_by c.args.starts.now) (slice_index c.args.queue.now t)).number else packet_in c.args.packets.now t k)
      (λ t. packet_in c.args.packets.now t k);
}

pub loop-rest-preserved : goal.loop-rest-preserved
loop-rest-preserved c =
    let inv = c.loop-rest.invariant in
    let routers = c.args.routers in
    let rest = c.loop-rest.rest in
    let t = c.least-router.result in
    let least = c.least-router.ensures.least in
    let few : c.least-router.result < 64 = c.least-router.ensures.within in
    let after_is = c.but_lowest-rest.ensures.members in
    let starts = starts_by c.args.starts.now in
    let old = c.args.packets.now in
    let f = λ (k r : ℕ). if nat_eq k c.args.channel then (start_in starts (slice_index c.args.queue.now r)).number else packet_in old r k in
    let long : length c.loop-rest.packets ≡ 64 = inv.size in
    let within : t < length c.loop-rest.packets = omega (arith, few, long) in
    let kept = c.index-starts-queue.result in
    let start = start-read c.args.starts.now (slice_index c.args.queue.now t) kept (c.requires.queue t few (inv.part t least.0)) c.index-starts-queue.is in
    record {
      size = length-set c.loop-rest.packets t _ ∙ inv.size;
      part = part-next routers rest c.but_lowest-rest.result t inv.part least after_is;
      each = λ k. walk-step routers rest c.but_lowest-rest.result t inv.part least after_is (f k) (λ r. packet_in old r k) (λ r. packet_in c.loop-rest.packets r k) _ (inv.each k)
          (row-here c.loop-rest.packets _ t k within ∙ c.put_number.ensures k
          ∙ (λ i. if nat_eq k c.args.channel then (sym start i).number else walk-fresh routers rest t least (f k) (λ r. packet_in old r k) (λ r. packet_in c.loop-rest.packets r k) (inv.each k t few) i))
          (λ r other. row-other c.loop-rest.packets _ t r k other);
    }

pub returns : goal.returns
returns c = λ r k few.
    let none : c.loop-rest.rest ≡ 0 = omega arith in
    let number = (start_in (starts_by c.args.starts.now) (slice_index c.args.queue.now r)).number in
    walk-all c.args.routers c.loop-rest.rest r (λ t. if nat_eq k c.args.channel then (start_in (starts_by c.args.starts.now) (slice_index c.args.queue.now t)).number else packet_in c.args.packets.now t k)
    (λ t. packet_in c.args.packets.now t k) (λ t. packet_in c.loop-rest.packets t k) none (c.loop-rest.invariant.each k r few)
    ∙ both-tests (has_bit c.args.routers r) (nat_eq k c.args.channel) number (packet_in c.args.packets.now r k)
