use Rattle.std.proofs.Common.{◌*◌, ◌^◌, ◌%◌, ◌∙◌, ap, sym, arith, bit_or, set, slice_index}
use Rattle.std.specs.Prelude.{not, nat_eq}
use Rattle.noc_packet.specs.Set.{has_bit}
use Rattle.noc_packet.proofs.SetLemmas.{either_members}
use Rattle.noc_sets.proofs.MemberLemmas.{or-left}
use Rattle.noc_columns.specs.Wants.{asks_of}
use Rattle.noc_columns.proofs.MarkLemmas.{asked-more, asked-still, entry-put, entry-put-more, same-entry, still-asks}
use Rattle.noc_columns.proofs.marks.Marks.add_idle.Goals as goal

pub invariant_of-self : goal.invariant_of-self
invariant_of-self c =
    let self = c.args.self.now in
    let router = c.args.router in
    let waiting = slice_index self.waiting router in
    let wanted = slice_index self.wanted router in
    let was = slice_index self.idle router in
    let idle = bit_or was c.args.channels in
    let asks = not (nat_eq (asks_of waiting wanted idle) 0) in
    let more = asked-more self.asking router asks
    (λ e. still-asks waiting wanted was waiting wanted idle (λ f. f) (λ k f. f) (λ k f. either_members was c.args.channels k ∙ or-left (has_bit was k) (has_bit c.args.channels k) f) (sym (self.asks router c.requires) ∙ e))
    c.requires in
    record {
      unasked = self.unasked;
      asks =
          asked-still self.asking (bit_or self.asking (c.asks-asks.result * 2 ^ router % 2 ^ 64)) router waiting wanted idle (λ r. slice_index self.waiting r) (λ r. slice_index self.wanted r) (λ r. slice_index self.idle r)
          (λ r. slice_index self.waiting r) (λ r. slice_index self.wanted r) (λ r. slice_index (set self.idle router idle) r)
          self.asks
          (λ r. ap (λ n. has_bit (bit_or self.asking (n * 2 ^ router % 2 ^ 64)) r) c.asks-asks.ensures ∙ more r)
          (same-entry self.waiting router)
          (same-entry self.wanted router)
          (λ r. entry-put self.idle router idle r (omega arith));
      fit = self.fit;
    }

pub returns-clause-idle : goal.returns-clause-idle
returns-clause-idle c = λ r.
    let idle = c.args.self.now.idle in
    entry-put-more idle c.args.router c.args.channels r (omega arith)
