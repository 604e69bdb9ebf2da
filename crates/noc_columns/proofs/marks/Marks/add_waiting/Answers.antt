use Rattle.std.proofs.Common.{◌*◌, ◌^◌, ◌%◌, ◌<◌, ◌∙◌, ap, sym, arith, bit_or, set, slice_index}
use Rattle.std.specs.Prelude.{not, nat_eq, if◌then◌else◌}
use Rattle.std.proofs.lemmas.Nat.{or_lt}
use Rattle.noc_packet.specs.Set.{has_bit}
use Rattle.noc_packet.proofs.SetLemmas.{either_members}
use Rattle.noc_sets.proofs.MemberLemmas.{or-left}
use Rattle.noc_columns.specs.Wants.{asks_of}
use Rattle.noc_columns.proofs.MarkLemmas.{asked-more, asked-still, entry-put, entry-put-more, fits-put, or-none, same-entry, still-asks}
use Rattle.noc_columns.proofs.PlaceLemmas.{one-router}
use Rattle.noc_columns.proofs.marks.Marks.add_waiting.Goals as goal

pub invariant_of-self : goal.invariant_of-self
invariant_of-self c =
    let self = c.args.self.now in
    let router = c.args.router in
    let one = 1 * 2 ^ c.args.channel % 2 ^ 64 in
    let waits = slice_index self.waiting router in
    let wants = slice_index self.wanted router in
    let idle = slice_index self.idle router in
    let waiting = bit_or waits one in
    let wanted = bit_or wants c.args.wanted in
    let asks = not (nat_eq (asks_of waiting wanted idle) 0) in
    let more = asked-more self.asking router asks
    (λ e. still-asks waits wants idle waiting wanted idle (λ some none. some (or-none waits one none))
    (λ k f. either_members wants c.args.wanted k ∙ or-left (has_bit wants k) (has_bit c.args.wanted k) f) (λ k f. f) (sym (self.asks router c.requires.router) ∙ e))
    c.requires.router in
    let fits : wanted < 2 ^ 64 = or_lt 64 wants c.args.wanted (self.fit router c.requires.router) c.ranges.wanted.fits in
    record {
      unasked = self.unasked;
      asks =
          asked-still self.asking (bit_or self.asking (c.asks-asks.result * 2 ^ router % 2 ^ 64)) router waiting wanted idle (λ r. slice_index self.waiting r) (λ r. slice_index self.wanted r) (λ r. slice_index self.idle r)
          (λ r. slice_index (set self.waiting router waiting) r) (λ r. slice_index (set self.wanted router wanted) r) (λ r. slice_index self.idle r)
          self.asks
          (λ r. ap (λ n. has_bit (bit_or self.asking (n * 2 ^ router % 2 ^ 64)) r) c.asks-asks.ensures ∙ more r)
          (λ r. entry-put self.waiting router waiting r (omega arith))
          (λ r. entry-put self.wanted router wanted r (omega arith))
          (same-entry self.idle router);
      fit =
          fits-put (λ r. slice_index (set self.wanted router wanted) r) router wanted (λ r. slice_index self.wanted r) fits
          (λ r. entry-put self.wanted router wanted r (omega arith)) self.fit;
    }

pub returns-clause-waiting : goal.returns-clause-waiting
returns-clause-waiting c = λ r.
    let waiting = c.args.self.now.waiting in
    entry-put-more waiting c.args.router (1 * 2 ^ c.args.channel % 2 ^ 64) r (omega arith)
    ∙ ap (λ w. if nat_eq r c.args.router then bit_or (slice_index waiting r) w else slice_index waiting r) (one-router c.args.channel c.requires.channel)

pub returns-clause-wanted : goal.returns-clause-wanted
returns-clause-wanted c = λ r. entry-put-more c.args.self.now.wanted c.args.router c.args.wanted r (omega arith)
