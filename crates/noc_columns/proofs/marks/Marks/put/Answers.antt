use Rattle.std.proofs.Common.{◌≡◌, Bool, true, false, refl, ◌∙◌, ap, arith, set, slice_index}
use Rattle.std.specs.Prelude.{not, nat_eq, if◌then◌else◌}
use Rattle.noc_packet.specs.Set.{has_bit}
use Rattle.noc_topo.specs.Lists.{one_if}
use Rattle.noc_columns.specs.Wants.{asks_of}
use Rattle.noc_columns.proofs.MarkLemmas.{asked-still, entry-put, fits-put}
use Rattle.noc_columns.proofs.marks.Marks.put.Goals as goal

is-one : (b : Bool) → not (nat_eq (one_if b) 0) ≡ b
is-one true = refl
is-one false = refl

pub invariant_of-self : goal.invariant_of-self
invariant_of-self c =
    let self = c.args.self.now in
    let router = c.args.router in
    record {
      unasked = self.unasked;
      asks =
          asked-still self.asking c.with_router-self.result router c.args.waiting c.args.wanted c.args.idle (λ r. slice_index self.waiting r) (λ r. slice_index self.wanted r) (λ r. slice_index self.idle r)
          (λ r. slice_index (set self.waiting router c.args.waiting) r) (λ r. slice_index (set self.wanted router c.args.wanted) r) (λ r. slice_index (set self.idle router c.args.idle) r)
          self.asks
          (λ r. c.with_router-self.ensures r ∙ ap (λ n. if nat_eq r router then not (nat_eq n 0) else has_bit self.asking r) c.asks-asks.ensures
          ∙ ap (λ b. if nat_eq r router then b else has_bit self.asking r) (is-one (not (nat_eq (asks_of c.args.waiting c.args.wanted c.args.idle) 0))))
          (λ r. entry-put self.waiting router c.args.waiting r (omega arith))
          (λ r. entry-put self.wanted router c.args.wanted r (omega arith))
          (λ r. entry-put self.idle router c.args.idle r (omega arith));
      fit =
          fits-put (λ r. slice_index (set self.wanted router c.args.wanted) r) router c.args.wanted (λ r. slice_index self.wanted r) c.ranges.wanted.fits
          (λ r. entry-put self.wanted router c.args.wanted r (omega arith)) self.fit;
    }

pub returns-clause-waiting : goal.returns-clause-waiting
returns-clause-waiting c = λ r. entry-put c.args.self.now.waiting c.args.router c.args.waiting r (omega arith)

pub returns-clause-wanted : goal.returns-clause-wanted
returns-clause-wanted c = λ r. entry-put c.args.self.now.wanted c.args.router c.args.wanted r (omega arith)

pub returns-clause-idle : goal.returns-clause-idle
returns-clause-idle c = λ r. entry-put c.args.self.now.idle c.args.router c.args.idle r (omega arith)
